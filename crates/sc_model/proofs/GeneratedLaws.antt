-- The script of one call more.
use Rattle.std.proofs.Common.{◌≡◌, ℕ, zero, suc, ◌+◌, [], ◌∷◌, ◌++◌, ap, sym, ◌∙◌, arith, append-nil}
use Rattle.std.specs.List.{flat_map, range_with_len}
use Rattle.std.proofs.lemmas.Grind.{flat_map-append}
use Rattle.std.proofs.lemmas.List.Concat.{flat_map-cons}
use Rattle.sc_tokens.specs.Bytes.{Bytes}
use Rattle.sc_model.specs.Generated.{call_text}

more_numbers : (n a : ℕ) → range_with_len a (suc n) ≡ range_with_len a n ++ (a + n) ∷ []
more_numbers zero a = let at : ◌≡◌ {A = ℕ} a (a + 0) = omega arith in ap (λ k. k ∷ []) at
more_numbers (suc n) a =
    let at : ◌≡◌ {A = ℕ} (a + 1 + n) (a + suc n) = omega arith in
    ap (λ ks. a ∷ ks) (more_numbers n (a + 1) ∙ ap (λ k. range_with_len (a + 1) n ++ k ∷ []) at)

one_call : (i : ℕ) → flat_map call_text (i ∷ []) ≡ call_text i
one_call i = flat_map-cons call_text i [] ∙ append-nil (call_text i)

calls_then : (n : ℕ) → flat_map call_text (range_with_len 1 (suc n)) ≡ flat_map call_text (range_with_len 1 n) ++ call_text (1 + n)
calls_then n =
    ap (flat_map call_text) (more_numbers n 1) ∙ (flat_map-append call_text (range_with_len 1 n) ((1 + n) ∷ [])
    ∙ ap (λ text. flat_map call_text (range_with_len 1 n) ++ text) (one_call (1 + n)))

-- after the calls 1 to n comes call n + 1
pub more_calls : (n i : ℕ) (text new : Bytes) → text ≡ flat_map call_text (range_with_len 1 n) → i ≡ n + 1 → new ≡ text ++ call_text i
    → new ≡ flat_map call_text (range_with_len 1 (n + 1))
more_calls n i text new was number made =
    let next : ◌≡◌ {A = ℕ} i (1 + n) = omega (arith, number) in
    let after : ◌≡◌ {A = ℕ} (n + 1) (suc n) = omega arith in
    made ∙ (ap (λ t. t ++ call_text i) was ∙ (ap (λ k. flat_map call_text (range_with_len 1 n) ++ call_text k) next
    ∙ (sym (calls_then n) ∙ ap (λ k. flat_map call_text (range_with_len 1 k)) (sym after))))
