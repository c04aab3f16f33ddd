-- Looking for the closing quote.
use Rattle.std.proofs.Common.{◌≡◌, ℕ, true, false, Option, Some, None, [], ◌∷◌, ◌+◌, ◌<◌, ◌≤◌, ◌==◌, length, drop, refl, sym, ap, ◌∙◌, arith, get_or}
use Rattle.std.specs.Option.{option_map}
use Rattle.std.proofs.lemmas.List.{at_drop_all, at_drop_more, drop-drop}
use Rattle.std.proofs.lemmas.Bool.Decides.{nat_tests}
use Rattle.sc_tokens.specs.Bytes.{Bytes}
use Rattle.sc_tokens.specs.Quoted.{closing}

-- where the closing quote is looked for from this place on
abbrev pub closing_from : ℕ → Bytes → Option ℕ
closing_from i text = option_map (λ n. i + n) (closing (drop i text))

drop_again : (text : Bytes) (i : ℕ) → drop 1 (drop (i + 1) text) ≡ drop (i + 2) text
drop_again text i = let two : ◌≡◌ {A = ℕ} (i + 1 + 1) (i + 2) = omega arith in drop-drop 1 (i + 1) text ∙ ap (λ k. drop k text) two

other : (n c : ℕ) → ¬ (n ≡ c) → (n == c) ≡ false
other n c h = grind (arith, nat_tests, h)

itself : (n c : ℕ) → n ≡ c → (n == c) ≡ true
itself n c h = grind (arith, nat_tests, h)

map_map : (i k : ℕ) (o : Option ℕ) → option_map (λ n. i + n) (option_map (λ n. k + n) o) ≡ option_map (λ n. i + k + n) o
map_map i k None = refl
map_map i k (Some n) = let sums : ◌≡◌ {A = ℕ} (i + (k + n)) (i + k + n) = omega arith in ap Some sums

quote_first : (b : ℕ) (bs : Bytes) → b ≡ 34 → closing (b ∷ bs) ≡ Some 1
unfolding closing
quote_first b [] h = rw (itself b 34 h) refl
quote_first b (c ∷ bs) h = rw (itself b 34 h) refl

backslash_first : (b : ℕ) (bs : Bytes) → b ≡ 92 → closing (b ∷ bs) ≡ option_map (λ n. 2 + n) (closing (drop 1 bs))
unfolding closing
backslash_first b [] h = rw h refl
backslash_first b (c ∷ bs) h = rw h refl

other_first : (b : ℕ) (bs : Bytes) → ¬ (b ≡ 34) → ¬ (b ≡ 92) → closing (b ∷ bs) ≡ option_map (λ n. 1 + n) (closing bs)
unfolding closing
other_first b [] g h = rw (other b 34 g) refl
other_first b (c ∷ bs) g h = rw (other b 34 g, other b 92 h) refl

-- ## The loop over the bytes

pub at_quote : (text : Bytes) (i : ℕ) → i < length text → get_or text i 0 ≡ 34 → closing_from i text ≡ Some (i + 1)
at_quote text i here h = ap (option_map (λ n. i + n)) (at_drop_more closing text i 0 here ∙ quote_first (get_or text i 0) (drop (i + 1) text) h)

pub at_other : (text : Bytes) (i : ℕ) → i < length text → ¬ (get_or text i 0 ≡ 34) → ¬ (get_or text i 0 ≡ 92) → closing_from (i + 1) text ≡ closing_from i text
at_other text i here g h =
    sym (ap (option_map (λ n. i + n)) (at_drop_more closing text i 0 here ∙ other_first (get_or text i 0) (drop (i + 1) text) g h) ∙ map_map i 1 (closing (drop (i + 1) text)))

pub at_backslash : (text : Bytes) (i : ℕ) → i < length text → get_or text i 0 ≡ 92 → closing_from (i + 2) text ≡ closing_from i text
at_backslash text i here h =
    sym (ap (option_map (λ n. i + n)) (at_drop_more closing text i 0 here ∙ backslash_first (get_or text i 0) (drop (i + 1) text) h ∙ ap (λ l. option_map (λ n. 2 + n) (closing l)) (drop_again text i))
    ∙ map_map i 2 (closing (drop (i + 2) text)))

pub at_end : (text : Bytes) (i : ℕ) → length text ≤ i → closing_from i text ≡ None
unfolding closing
at_end text i past = ap (option_map (λ n. i + n)) (at_drop_all closing text i past)
