-- Laws of the ends of lines: where the first one stands in a text that is put together.
use Rattle.std.proofs.Common.{◌≡◌, ℕ, suc, Bool, true, false, cond, not, Option, Some, None, List, [], ◌∷◌, ◌++◌, ◌&&◌, ◌||◌, ◌==◌, ◌+◌, length, take, drop, refl, sym, ap, ◌∙◌, append_assoc, append-nil, arith}
use Rattle.std.specs.List.{list_all}
use Rattle.std.specs.Option.{option_map}
use Rattle.std.proofs.Math.Seq.{take-append_seam}
use Rattle.sc_tokens.specs.Tokens.{is_line_break, is_one_line, begins_blank}
use Rattle.sc_syntax.specs.declared.ending.Ending.{Ending}
use Rattle.sc_syntax.specs.declared.ending.Ending.TheVariants.{Any, Unfolded, Empty}
use Rattle.sc_tokens.specs.Bytes.{Bytes}
use Rattle.sc_tokens.specs.Cuts.{onto_first}
use Rattle.sc_tokens.specs.Hosts.{begins}
use Rattle.sc_syntax.specs.Lines.{begins_break, is_end, end_of, pieces_at}
use Rattle.sc_syntax.proofs.BlankLaws.{both, and_true}
use Rattle.sc_syntax.proofs.ClassLaws.{neither, not_true}
use Rattle.sc_spelling.specs.SpelledLines.{line_end_before as ended}

-- ## The first end

-- no end stands in the text, before this rest
unfoldable pub is_clear : Ending → Bytes → Bytes → Bool
is_clear ending [] rest = true
is_clear ending (b ∷ bs) rest = not (is_end ending (b ∷ (bs ++ rest))) && is_clear ending bs rest

one_more : (n : ℕ) → 1 + n ≡ suc n
one_more n = omega arith

pub end_behind : (ending : Ending) (text rest : Bytes) → is_clear ending text (ended rest) ≡ true → is_end ending (ended rest) ≡ true → end_of ending (text ++ ended rest) ≡ Some (length text)
unfolding is_clear end_of
end_behind ending [] rest c h = ap (λ t. cond t (Some 0) (option_map (λ n. 1 + n) (end_of ending (10 ∷ rest)))) h
end_behind ending (b ∷ bs) rest c h =
    let is = both (not (is_end ending (b ∷ (bs ++ ended rest)))) (is_clear ending bs (ended rest)) c in
    ap (λ t. cond t (Some 0) (option_map (λ n. 1 + n) (end_of ending (bs ++ ended rest)))) (not_true (is_end ending (b ∷ (bs ++ ended rest))) is.0)
    ∙ ap (option_map (λ n. 1 + n)) (end_behind ending bs rest is.1 h) ∙ ap Some (one_more (length bs))

pub no_end : (ending : Ending) (text : Bytes) → is_clear ending text [] ≡ true → end_of ending text ≡ None
unfolding is_clear end_of
no_end ending [] c = refl
no_end ending (b ∷ bs) c =
    let is = both (not (is_end ending (b ∷ (bs ++ [])))) (is_clear ending bs []) c in
    let free : is_end ending (b ∷ bs) ≡ false = ap (λ l. is_end ending (b ∷ l)) (sym (append-nil bs)) ∙ not_true (is_end ending (b ∷ (bs ++ []))) is.0 in
    ap (λ t. cond t (Some 0) (option_map (λ n. 1 + n) (end_of ending bs))) free ∙ ap (option_map (λ n. 1 + n)) (no_end ending bs is.1)

pub clear_joined : (ending : Ending) (a b rest : Bytes) → is_clear ending a (b ++ rest) ≡ true → is_clear ending b rest ≡ true → is_clear ending (a ++ b) rest ≡ true
unfolding is_clear
clear_joined ending [] b rest g h = h
clear_joined ending (c ∷ cs) b rest g h =
    let is = both (not (is_end ending (c ∷ (cs ++ (b ++ rest))))) (is_clear ending cs (b ++ rest)) g in
    and_true (not (is_end ending (c ∷ ((cs ++ b) ++ rest)))) (is_clear ending (cs ++ b) rest) (ap (λ l. not (is_end ending (c ∷ l))) (append_assoc cs b rest) ∙ is.0) (clear_joined ending cs b rest is.1 h)

no_break : (b : ℕ) (bs : Bytes) → (b == 13) ≡ false → begins_break (b ∷ bs) ≡ false
unfolding begins_break begins
no_break b bs h = rw h refl

pub no_end_here : (ending : Ending) (b : ℕ) (bs : Bytes) → (b == 13) ≡ false → is_end ending (b ∷ bs) ≡ false
unfolding is_end
no_end_here Any b bs h = no_break b bs h
no_end_here Unfolded b bs h = rw (no_break b bs h) refl
no_end_here Empty b bs h = rw (no_break b bs h) refl

pub no_return : (b : ℕ) → not (is_line_break b) ≡ true → (b == 13) ≡ false
unfolding is_line_break
no_return b h = (neither (b == 13) (b == 10) (neither ((b == 13) || (b == 10)) (b == 0) (not_true ((b == 13) || (b == 10) || (b == 0)) h)).0).0

-- a text of one line has no end
pub line_clear : (ending : Ending) (text rest : Bytes) → is_one_line text ≡ true → is_clear ending text rest ≡ true
unfolding is_clear is_one_line
line_clear ending [] rest h = refl
line_clear ending (b ∷ bs) rest h =
    let is = both (not (is_line_break b)) (list_all (λ c. not (is_line_break c)) bs) h in
    and_true (not (is_end ending (b ∷ (bs ++ rest)))) (is_clear ending bs rest) (ap not (no_end_here ending b (bs ++ rest) (no_return b is.0))) (line_clear ending bs rest is.1)

-- behind CR LF that is no such end
pub break_clear : (ending : Ending) (text rest : Bytes) → is_end ending (ended (text ++ rest)) ≡ false → is_clear ending text rest ≡ true → is_clear ending (ended text) rest ≡ true
unfolding is_clear
break_clear ending text rest e h =
    and_true (not (is_end ending (ended (text ++ rest)))) (not (is_end ending (10 ∷ (text ++ rest))) && is_clear ending text rest) (ap not e)
    (and_true (not (is_end ending (10 ∷ (text ++ rest)))) (is_clear ending text rest) (ap not (no_end_here ending 10 (text ++ rest) refl)) h)

-- ## The ends

pub any_end : (rest : Bytes) → is_end Any (ended rest) ≡ true
unfolding is_end begins_break begins
any_end rest = refl

pub empty_end : (rest : Bytes) → is_end Empty (ended (ended rest)) ≡ true
unfolding is_end begins_break begins
empty_end rest = refl

-- what stands behind CR LF that is no end: no CR, or a blank
pub not_empty : (b : ℕ) (bs : Bytes) → (b == 13) ≡ false → is_end Empty (ended (b ∷ bs)) ≡ false
unfolding is_end begins_break begins
not_empty b bs h = rw h refl

pub fold_goes_on : (text : Bytes) → begins_blank text ≡ true → is_end Unfolded (ended text) ≡ false
unfolding is_end begins_break begins
fold_goes_on text h = ap not h

pub line_ends : (text : Bytes) → begins_blank text ≡ false → is_end Unfolded (ended text) ≡ true
unfolding is_end begins_break begins
line_ends text h = ap not h

-- ## Pieces

-- by the place of the first end
unfoldable pub pieces_by : Ending → Bytes → Option ℕ → List Bytes
pieces_by ending text None = text ∷ []
pieces_by ending text (Some end) = take end text ∷ pieces_at ending (drop (end + 2) text)

take_on : (b n : ℕ) (bs : Bytes) → take (1 + n) (b ∷ bs) ≡ b ∷ take n bs
take_on b n bs = let one : ◌≡◌ {A = ℕ} (1 + n) (suc n) = omega arith in rw one refl

drop_on : (b n : ℕ) (bs : Bytes) → drop (1 + n + 2) (b ∷ bs) ≡ drop (n + 2) bs
drop_on b n bs = let one : ◌≡◌ {A = ℕ} (1 + n + 2) (suc (n + 2)) = omega arith in rw one refl

onto_by : (ending : Ending) (b : ℕ) (text : Bytes) (o : Option ℕ) → onto_first b (pieces_by ending text o) ≡ pieces_by ending (b ∷ text) (option_map (λ n. 1 + n) o)
unfolding onto_first pieces_by
onto_by ending b text None = refl
onto_by ending b text (Some n) = rw (take_on b n text, drop_on b n text) refl

and_false : (x : Bool) → (x && false) ≡ false
and_false true = refl
and_false false = refl

alone_no_break : (b : ℕ) → begins_break (b ∷ []) ≡ false
unfolding begins_break begins
alone_no_break b = and_false (begins 13 (b ∷ []))

pub alone_no_end : (ending : Ending) (b : ℕ) → is_end ending (b ∷ []) ≡ false
unfolding is_end
alone_no_end Any b = alone_no_break b
alone_no_end Unfolded b = rw (alone_no_break b) refl
alone_no_end Empty b = rw (alone_no_break b) refl

pub pieces_cut : (text : Bytes) (ending : Ending) → pieces_at ending text ≡ pieces_by ending text (end_of ending text)
unfolding pieces_at pieces_by end_of
pieces_cut [] ending = refl
pieces_cut (b ∷ []) ending = rw (alone_no_end ending b) refl
pieces_cut (b ∷ c ∷ bs) ending = elim (is_end ending (b ∷ c ∷ bs)) as (λ (t : Bool). cond t ([] ∷ pieces_at ending bs) (onto_first b (pieces_at ending (c ∷ bs))) ≡ pieces_by ending (b ∷ c ∷ bs) (cond t (Some 0) (option_map (λ n. 1 + n) (end_of ending (c ∷ bs))))) [
  | true ↦ refl
  | false ↦ ap (onto_first b) (pieces_cut (c ∷ bs) ending) ∙ onto_by ending b (c ∷ bs) (end_of ending (c ∷ bs))
]

pub piece_alone : (ending : Ending) (text : Bytes) → is_clear ending text [] ≡ true → pieces_at ending text ≡ text ∷ []
unfolding pieces_by
piece_alone ending text c = pieces_cut text ending ∙ ap (pieces_by ending text) (no_end ending text c)

behind_seam : (text rest : Bytes) → drop (length text + 2) (text ++ ended rest) ≡ rest
behind_seam [] rest = refl
behind_seam (b ∷ bs) rest = let one : ◌≡◌ {A = ℕ} (suc (length bs) + 2) (suc (length bs + 2)) = omega arith in rw one (behind_seam bs rest)

pub piece_first : (ending : Ending) (text rest : Bytes) → is_clear ending text (ended rest) ≡ true → is_end ending (ended rest) ≡ true → pieces_at ending (text ++ ended rest) ≡ text ∷ pieces_at ending rest
unfolding pieces_by
piece_first ending text rest c h =
    pieces_cut (text ++ ended rest) ending ∙ ap (pieces_by ending (text ++ ended rest)) (end_behind ending text rest c h)
    ∙ ap (λ f. f ∷ pieces_at ending (drop (length text + 2) (text ++ ended rest))) (take-append_seam text (ended rest)) ∙ ap (λ l. text ∷ pieces_at ending l) (behind_seam text rest)
