-- Texts cut at the ends of lines.
use Rattle.std.proofs.Common.{◌≡◌, ℕ, suc, Bool, true, false, cond, ◌&&◌, Option, Some, None, List, [], ◌∷◌, ◌+◌, ◌-◌, ◌≤◌, ◌<◌, ◌==◌, zero, length, take, drop, get_or, refl, sym, ap, ◌∙◌, arith}
use Rattle.std.specs.Option.{option_map}
use Rattle.std.proofs.lemmas.List.{at_drop_all, drop_more, take_all, length-drop, drop-drop}
use Rattle.sc_syntax.specs.declared.ending.Ending.{Ending}
use Rattle.sc_syntax.specs.declared.ending.Ending.TheVariants.{Any, Unfolded, Empty}
use Rattle.sc_tokens.specs.Bytes.{Bytes}
use Rattle.sc_tokens.specs.Cuts.{onto_first}
use Rattle.sc_tokens.specs.Hosts.{begins}
use Rattle.sc_syntax.specs.Lines.{begins_break, is_end, end_of, pieces_at}
use Rattle.sc_message_text.specs.Pieces.{pieces_behind}

-- ## The first end

-- looked for from this place on
abbrev pub end_from : Ending → ℕ → Bytes → Option ℕ
end_from ending i text = option_map (λ n. i + n) (end_of ending (drop i text))

map_map : (i k : ℕ) (o : Option ℕ) → option_map (λ n. i + n) (option_map (λ n. k + n) o) ≡ option_map (λ n. i + k + n) o
map_map i k None = refl
map_map i k (Some n) = let sums : ◌≡◌ {A = ℕ} (i + (k + n)) (i + k + n) = omega arith in ap Some sums

first_end : (ending : Ending) (text : Bytes) (b : ℕ) (bs : Bytes) → text ≡ b ∷ bs → is_end ending text ≡ true → end_of ending text ≡ Some 0
unfolding end_of
first_end ending text b bs is h = ap (end_of ending) is ∙ ap (λ c. cond c (Some 0) (option_map (λ n. 1 + n) (end_of ending bs))) (sym (ap (is_end ending) is) ∙ h)

later_end : (ending : Ending) (text : Bytes) (b : ℕ) (bs : Bytes) → text ≡ b ∷ bs → is_end ending text ≡ false → end_of ending text ≡ option_map (λ n. 1 + n) (end_of ending bs)
unfolding end_of
later_end ending text b bs is h = ap (end_of ending) is ∙ ap (λ c. cond c (Some 0) (option_map (λ n. 1 + n) (end_of ending bs))) (sym (ap (is_end ending) is) ∙ h)

-- what is left from this place on
abbrev pub left : ℕ → Bytes → Bytes
left i text = take (length text - i) (drop i text)

pub left_is : (i : ℕ) (text : Bytes) → left i text ≡ drop i text
left_is i text = take_all (length text - i) (drop i text) (omega (arith, length-drop i text))

pub end_here : (ending : Ending) (text : Bytes) (i : ℕ) → i < length text → is_end ending (left i text) ≡ true → end_from ending i text ≡ Some i
end_here ending text i here h = let same : ◌≡◌ {A = ℕ} (i + 0) i = omega arith in
    ap (option_map (λ n. i + n)) (first_end ending (drop i text) (get_or text i 0) (drop (i + 1) text) (drop_more text i 0 here) (sym (ap (is_end ending) (left_is i text)) ∙ h)) ∙ ap Some same

pub end_later : (ending : Ending) (text : Bytes) (i : ℕ) → i < length text → is_end ending (left i text) ≡ false → end_from ending (i + 1) text ≡ end_from ending i text
end_later ending text i here h =
    sym (ap (option_map (λ n. i + n)) (later_end ending (drop i text) (get_or text i 0) (drop (i + 1) text) (drop_more text i 0 here) (sym (ap (is_end ending) (left_is i text)) ∙ h)) ∙ map_map i 1 (end_of ending (drop (i + 1) text)))

pub end_none : (ending : Ending) (text : Bytes) (i : ℕ) → length text ≤ i → end_from ending i text ≡ None
unfolding end_of
end_none ending text i past = ap (option_map (λ n. i + n)) (at_drop_all (end_of ending) text i past)

-- ## No end where no CR stands

not_end : (ending : Ending) (b : ℕ) (bs : Bytes) → (b == 13) ≡ false → is_end ending (b ∷ bs) ≡ false
unfolding is_end begins_break begins
not_end Any b bs h = rw h refl
not_end Unfolded b bs h = rw h refl
not_end Empty b bs h = rw h refl

from_not : (b : Bool) → ¬ (b ≡ true) → b ≡ false
from_not true h = absurd (h refl)
from_not false h = refl

pub map_none : (o : Option ℕ) → option_map (λ n. 0 + n) o ≡ o
map_none None = refl
map_none (Some n) = let same : ◌≡◌ {A = ℕ} (0 + n) n = omega arith in ap Some same

-- so many bytes have no CR among them
abbrev pub HasNoneIn : Bytes → ℕ → Type 0
HasNoneIn text k = (j : ℕ) → j < k → ¬ ((get_or text j 0 == 13) ≡ true)

pub end_past : (ending : Ending) (text : Bytes) (k : ℕ) → k ≤ length text → HasNoneIn text k → end_of ending text ≡ end_from ending k text
end_past ending text zero within none = sym (map_none (end_of ending text))
end_past ending [] (suc k) within none = absurd (omega (arith, within))
end_past ending (b ∷ bs) (suc k) within none =
    let rest : k ≤ length bs = omega (arith, within) in
    let first : 0 < suc k = omega arith in
    let one : ◌≡◌ {A = ℕ} (1 + k) (suc k) = omega arith in
    later_end ending (b ∷ bs) b bs refl (not_end ending b bs (from_not (b == 13) (none 0 first)))
    ∙ ap (option_map (λ n. 1 + n)) (end_past ending bs k rest (λ j lt. none (suc j) (omega (arith, lt))))
    ∙ map_map 1 k (end_of ending (drop k bs))
    ∙ ap (λ m. option_map (λ n. m + n) (end_of ending (drop k bs))) one

pub end_onto : (ending : Ending) (text : Bytes) (i k : ℕ) → k ≤ length (drop i text) → HasNoneIn (drop i text) k → end_from ending (i + k) text ≡ end_from ending i text
end_onto ending text i k within none =
    sym (ap (option_map (λ n. i + n)) (end_past ending (drop i text) k within none)
    ∙ map_map i k (end_of ending (drop k (drop i text)))
    ∙ ap (λ rest. option_map (λ n. i + k + n) (end_of ending rest)) (drop-drop k i text))

pub end_nowhere : (ending : Ending) (text : Bytes) (i : ℕ) → HasNoneIn (drop i text) (length (drop i text)) → end_from ending i text ≡ None
end_nowhere ending text i none =
    sym (end_onto ending text i (length (drop i text)) (omega arith) none)
    ∙ end_none ending text (i + length (drop i text)) (omega (arith, length-drop i text))

-- ## The pieces between ends

-- by the place of the first end
unfoldable pieces_by : Ending → Bytes → Option ℕ → List Bytes
pieces_by ending text None = text ∷ []
pieces_by ending text (Some end) = take end text ∷ pieces_at ending (drop (end + 2) text)

and_false : (x : Bool) → (x && false) ≡ false
and_false true = refl
and_false false = refl

no_break : (b : ℕ) → begins_break (b ∷ []) ≡ false
unfolding begins_break begins
no_break b = and_false (begins 13 (b ∷ []))

no_end : (ending : Ending) (b : ℕ) → is_end ending (b ∷ []) ≡ false
unfolding is_end
no_end Any b = no_break b
no_end Unfolded b = rw (no_break b) refl
no_end Empty b = rw (no_break b) refl

take_on : (b n : ℕ) (bs : Bytes) → take (1 + n) (b ∷ bs) ≡ b ∷ take n bs
take_on b n bs = let one : ◌≡◌ {A = ℕ} (1 + n) (suc n) = omega arith in rw one refl

drop_on : (b n : ℕ) (bs : Bytes) → drop (1 + n + 2) (b ∷ bs) ≡ drop (n + 2) bs
drop_on b n bs = let one : ◌≡◌ {A = ℕ} (1 + n + 2) (suc (n + 2)) = omega arith in rw one refl

onto_by : (ending : Ending) (b : ℕ) (text : Bytes) (o : Option ℕ) → onto_first b (pieces_by ending text o) ≡ pieces_by ending (b ∷ text) (option_map (λ n. 1 + n) o)
unfolding onto_first pieces_by
onto_by ending b text None = refl
onto_by ending b text (Some n) = rw (take_on b n text, drop_on b n text) refl

pieces_cut : (text : Bytes) (ending : Ending) → pieces_at ending text ≡ pieces_by ending text (end_of ending text)
unfolding pieces_at pieces_by end_of
pieces_cut [] ending = refl
pieces_cut (b ∷ []) ending = rw (no_end ending b) refl
pieces_cut (b ∷ c ∷ bs) ending = elim (is_end ending (b ∷ c ∷ bs)) as (λ (t : Bool). cond t ([] ∷ pieces_at ending bs) (onto_first b (pieces_at ending (c ∷ bs))) ≡ pieces_by ending (b ∷ c ∷ bs) (cond t (Some 0) (option_map (λ n. 1 + n) (end_of ending (c ∷ bs))))) [
  | true ↦ refl
  | false ↦ ap (onto_first b) (pieces_cut (c ∷ bs) ending) ∙ onto_by ending b (c ∷ bs) (end_of ending (c ∷ bs))
]

pub pieces_last : (ending : Ending) (text : Bytes) → end_of ending text ≡ None → pieces_at ending text ≡ text ∷ []
unfolding pieces_by
pieces_last ending text h = pieces_cut text ending ∙ ap (pieces_by ending text) h

pub pieces_more : (ending : Ending) (text rest : Bytes) (end : ℕ) → end_of ending text ≡ Some end → rest ≡ drop (end + 2) text → pieces_at ending text ≡ take end text ∷ pieces_behind ending (Some rest)
unfolding pieces_by pieces_behind
pieces_more ending text rest end h is = pieces_cut text ending ∙ ap (pieces_by ending text) h ∙ ap (λ t. take end text ∷ pieces_at ending t) (sym is)
