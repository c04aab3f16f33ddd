-- Laws of the pieces of a text: they make the text, no end stands in one, and those of a folded line begin
-- with blanks.
use Rattle.std.proofs.Common.{◌≡◌, ℕ, suc, Bool, true, false, cond, not, Some, List, [], ◌∷◌, ◌++◌, ◌&&◌, ◌==◌, ◌+◌, take, drop, refl, sym, ap, subst, ◌∙◌, arith}
use Rattle.std.specs.List.{list_all, flat_map, list_any}
use Rattle.std.specs.Option.{option_map}
use Rattle.std.proofs.lemmas.Bool.{false≢true}
use Rattle.sc_tokens.specs.Tokens.{is_blank, begins_blank}
use Rattle.sc_syntax.specs.declared.ending.Ending.{Ending}
use Rattle.sc_syntax.specs.declared.ending.Ending.TheVariants.{Any, Unfolded, Empty}
use Rattle.sc_tokens.specs.Bytes.{Bytes}
use Rattle.sc_tokens.specs.Cuts.{onto_first}
use Rattle.sc_tokens.specs.Hosts.{begins}
use Rattle.sc_syntax.specs.Lines.{begins_break, is_end, end_of, pieces_at}
use Rattle.sc_syntax.proofs.CutLaws.{some_same, none_some}
use Rattle.sc_syntax.proofs.BlankLaws.{both, and_true}
use Rattle.sc_syntax.proofs.ListedLaws.{map_some}
use Rattle.sc_syntax.proofs.ClassLaws.{same_number, differs, not_true}
use Rattle.sc_spelling.specs.SpelledLines.{line_end_before as ended}
use Rattle.sc_spelling.proofs.EndLaws.{is_clear, any_end, no_end_here, alone_no_end}

-- ## Ends

pub break_is : (text : Bytes) → begins_break text ≡ true → text ≡ ended (drop 2 text)
unfolding begins_break begins
break_is [] h = absurd (false≢true h)
break_is (b ∷ []) h = absurd (false≢true (both (b == 13) false h).1)
break_is (b ∷ c ∷ bs) h = let is = both (b == 13) (c == 10) h in ap (λ x. x ∷ (c ∷ bs)) (same_number b 13 is.0) ∙ ap (λ x. 13 ∷ (x ∷ bs)) (same_number c 10 is.1)

-- each end is a CR LF
pub end_breaks : (ending : Ending) (text : Bytes) → is_end ending text ≡ true → begins_break text ≡ true
unfolding is_end
end_breaks Any text h = h
end_breaks Unfolded text h = (both (begins_break text) (not (begins_blank (drop 2 text))) h).0
end_breaks Empty text h = (both (begins_break text) (begins_break (drop 2 text)) h).0

pub end_is : (ending : Ending) (text : Bytes) → is_end ending text ≡ true → text ≡ ended (drop 2 text)
end_is ending text h = break_is text (end_breaks ending text h)

-- the first end parts the text
pub record Parted (ending : Ending) (text : Bytes) (end : ℕ) : Type 0 where
  pub front : Bytes
  pub behind : Bytes
  pub is : text ≡ front ++ ended behind
  pub front_is : front ≡ take end text
  pub behind_is : behind ≡ drop (end + 2) text
  pub clear : is_clear ending front (ended behind) ≡ true
  pub ends : is_end ending (ended behind) ≡ true

pub parted : (text : Bytes) (ending : Ending) (end : ℕ) → end_of ending text ≡ Some end → Parted ending text end
unfolding end_of is_clear
parted [] ending end h = absurd (none_some end h)
parted (b ∷ bs) ending end h = elim (is_end ending (b ∷ bs)) as (λ (t : Bool). is_end ending (b ∷ bs) ≡ t → cond t (Some 0) (option_map (λ n. 1 + n) (end_of ending bs)) ≡ Some end → Parted ending (b ∷ bs) end) [
  | true ↦ λ e g.
      let none : 0 ≡ end = some_same 0 end g in
      let is = end_is ending (b ∷ bs) e in
      record { front = []; behind = drop 1 bs; is = is; front_is = ap (λ n. take n (b ∷ bs)) none; behind_is = ap (λ n. drop (n + 2) (b ∷ bs)) none; clear = refl; ends = ap (is_end ending) (sym is) ∙ e }
  | false ↦ λ e g.
      let some = map_some (λ n. 1 + n) (end_of ending bs) end g in
      let rest = parted bs ending some.0 some.1 in
      let more : ◌≡◌ {A = ℕ} end (suc some.0) = (let one = some.2 in omega (arith, one)) in
      let two : ◌≡◌ {A = ℕ} (end + 2) (suc (some.0 + 2)) = omega (arith, more) in
      record {
        front = b ∷ rest.front;
        behind = rest.behind;
        is = ap (λ l. b ∷ l) rest.is;
        front_is = ap (λ l. b ∷ l) rest.front_is ∙ ap (λ n. take n (b ∷ bs)) (sym more);
        behind_is = rest.behind_is ∙ ap (λ n. drop n (b ∷ bs)) (sym two);
        clear = and_true (not (is_end ending (b ∷ (rest.front ++ ended rest.behind)))) (is_clear ending rest.front (ended rest.behind)) (ap (λ l. not (is_end ending (b ∷ l))) (sym rest.is) ∙ ap not e) rest.clear;
        ends = rest.ends;
      }
] refl h

-- ## The pieces make the text

onto_glued : (b : ℕ) (bs : Bytes) (texts : List Bytes) → flat_map ended texts ≡ ended bs → flat_map ended (onto_first b texts) ≡ ended (b ∷ bs)
unfolding onto_first
onto_glued b bs [] h = absurd (false≢true (ap (list_any (λ _. true)) h))
onto_glued b bs (text ∷ more) h = ap (λ l. 13 ∷ (10 ∷ (b ∷ drop 2 l))) h

pub pieces_glued : (text : Bytes) (ending : Ending) → flat_map ended (pieces_at ending text) ≡ ended text
unfolding pieces_at
pieces_glued [] ending = refl
pieces_glued (b ∷ []) ending = refl
pieces_glued (b ∷ c ∷ bs) ending = elim (is_end ending (b ∷ c ∷ bs)) as (λ (t : Bool). is_end ending (b ∷ c ∷ bs) ≡ t → flat_map ended (cond t ([] ∷ pieces_at ending bs) (onto_first b (pieces_at ending (c ∷ bs)))) ≡ ended (b ∷ c ∷ bs)) [
  | true ↦ λ e. ap ended (pieces_glued bs ending) ∙ ap ended (sym (end_is ending (b ∷ c ∷ bs) e))
  | false ↦ λ e. onto_glued b (c ∷ bs) (pieces_at ending (c ∷ bs)) (pieces_glued (c ∷ bs) ending)
] refl

-- ## No end stands in a line

-- what stands behind the line doesn't continue it
pub record IsAlone (line : Bytes) : Type 0 where
  pub rest : Bytes
  pub clear : is_clear Unfolded line rest ≡ true
  pub solid : begins_blank rest ≡ false

unfoldable pub AreAlone : List Bytes → Type 0
AreAlone [] = Unit {0}
AreAlone (line ∷ lines) = IsAlone line × AreAlone lines

record FirstAlone (text : Bytes) (lines : List Bytes) : Type 0 where
  first : Bytes
  more : List Bytes
  rest : Bytes
  is : lines ≡ first ∷ more
  text_is : text ≡ first ++ rest
  clear : is_clear Unfolded first rest ≡ true
  solid : begins_blank rest ≡ false
  others : AreAlone more

no_blank_first : (b : ℕ) (bs : Bytes) → (b == 13) ≡ true → begins_blank (b ∷ bs) ≡ false
unfolding begins_blank is_blank
no_blank_first b bs h = ap (λ x. is_blank x) (same_number b 13 h)

nothing_begins : begins_blank [] ≡ false
unfolding begins_blank
nothing_begins = refl

all_alone : (text : Bytes) (lines : List Bytes) → FirstAlone text lines → AreAlone lines
unfolding AreAlone
all_alone text lines f = subst AreAlone (sym f.is) (record { rest = f.rest; clear = f.clear; solid = f.solid }, f.others)

onto_more : (b : ℕ) (first : Bytes) (more : List Bytes) → onto_first b (first ∷ more) ≡ (b ∷ first) ∷ more
unfolding onto_first
onto_more b first more = refl

first_alone : (text : Bytes) → FirstAlone text (pieces_at Unfolded text)
unfolding pieces_at is_clear AreAlone
first_alone [] = record { first = []; more = []; rest = []; is = refl; text_is = refl; clear = refl; solid = nothing_begins; others = tt }
first_alone (b ∷ []) = record { first = b ∷ []; more = []; rest = []; is = refl; text_is = refl; clear = ap (λ t. not t && true) (alone_no_end Unfolded b); solid = nothing_begins; others = tt }
first_alone (b ∷ c ∷ bs) = elim (is_end Unfolded (b ∷ c ∷ bs)) as (λ (t : Bool). is_end Unfolded (b ∷ c ∷ bs) ≡ t → FirstAlone (b ∷ c ∷ bs) (cond t ([] ∷ pieces_at Unfolded bs) (onto_first b (pieces_at Unfolded (c ∷ bs))))) [
  | true ↦ λ e. record {
    first = [];
    more = pieces_at Unfolded bs;
    rest = b ∷ c ∷ bs;
    is = refl;
    text_is = refl;
    clear = refl;
    solid = ap begins_blank (end_is Unfolded (b ∷ c ∷ bs) e) ∙ no_blank_first 13 (10 ∷ bs) refl;
    others = all_alone bs (pieces_at Unfolded bs) (first_alone bs);
  }
  | false ↦ λ e.
      let rest = first_alone (c ∷ bs) in
      record {
        first = b ∷ rest.first;
        more = rest.more;
        rest = rest.rest;
        is = ap (onto_first b) rest.is ∙ onto_more b rest.first rest.more;
        text_is = ap (λ l. b ∷ l) rest.text_is;
        clear = and_true (not (is_end Unfolded (b ∷ (rest.first ++ rest.rest)))) (is_clear Unfolded rest.first rest.rest) (ap (λ l. not (is_end Unfolded (b ∷ l))) (sym rest.text_is) ∙ ap not e) rest.clear;
        solid = rest.solid;
        others = rest.others;
      }
] refl

pub lines_alone : (text : Bytes) → AreAlone (pieces_at Unfolded text)
lines_alone text = all_alone text (pieces_at Unfolded text) (first_alone text)

-- ## The pieces of a line begin with blanks

blank_no_break : (b : ℕ) → is_blank b ≡ true → (b == 13) ≡ false
unfolding is_blank
blank_no_break b h = differs is_blank b 13 refl h

onto_blank : (b : ℕ) (pieces : List Bytes) → is_blank b ≡ true → list_all begins_blank (drop 1 (onto_first b pieces)) ≡ true → list_all begins_blank (onto_first b pieces) ≡ true
unfolding onto_first begins_blank
onto_blank b [] h g = and_true (is_blank b) true h refl
onto_blank b (piece ∷ pieces) h g = and_true (is_blank b) (list_all begins_blank pieces) h g

pieces_blank : (text : Bytes) → begins_blank text ≡ true → list_all begins_blank (drop 1 (pieces_at Any text)) ≡ true → list_all begins_blank (pieces_at Any text) ≡ true
unfolding pieces_at begins_blank
pieces_blank [] h g = absurd (false≢true h)
pieces_blank (b ∷ []) h g = and_true (is_blank b) true h refl
pieces_blank (b ∷ c ∷ bs) h g =
    let pieces = onto_first b (pieces_at Any (c ∷ bs)) in
    let free : is_end Any (b ∷ c ∷ bs) ≡ false = no_end_here Any b (c ∷ bs) (blank_no_break b h) in
    ap (λ t. list_all begins_blank (cond t ([] ∷ pieces_at Any bs) pieces)) free
    ∙ onto_blank b (pieces_at Any (c ∷ bs)) h (sym (ap (λ t. list_all begins_blank (drop 1 (cond t ([] ∷ pieces_at Any bs) pieces))) free) ∙ g)

onto_rest : (b : ℕ) (pieces : List Bytes) → list_all begins_blank (drop 1 pieces) ≡ true → list_all begins_blank (drop 1 (onto_first b pieces)) ≡ true
unfolding onto_first
onto_rest b [] h = refl
onto_rest b (piece ∷ pieces) h = h

break_goes_on : (text : Bytes) → begins_break text ≡ true → is_end Unfolded text ≡ false → begins_blank (drop 2 text) ≡ true
unfolding is_end
break_goes_on text h e = by_test (begins_break text) (begins_blank (drop 2 text)) h e
  where
    by_test : (s t : Bool) → s ≡ true → (s && not t) ≡ false → t ≡ true
    by_test true true g f = refl
    by_test true false g f = absurd (false≢true (sym f))
    by_test false t g f = absurd (false≢true g)

within_text : (text rest : Bytes) → begins_blank rest ≡ false → begins_blank (text ++ rest) ≡ true → begins_blank text ≡ true
unfolding begins_blank
within_text [] rest solid h = absurd (false≢true (sym solid ∙ h))
within_text (b ∷ bs) rest solid h = h

pub folds_blank : (line rest : Bytes) → is_clear Unfolded line rest ≡ true → begins_blank rest ≡ false → list_all begins_blank (drop 1 (pieces_at Any line)) ≡ true
unfolding pieces_at is_clear
folds_blank [] rest c solid = refl
folds_blank (b ∷ []) rest c solid = refl
folds_blank (b ∷ c ∷ bs) rest clear solid =
    let one = both (not (is_end Unfolded (b ∷ c ∷ (bs ++ rest)))) (is_clear Unfolded (c ∷ bs) rest) clear in
    let two = both (not (is_end Unfolded (c ∷ (bs ++ rest)))) (is_clear Unfolded bs rest) one.1 in
    elim (is_end Any (b ∷ c ∷ bs)) as (λ (t : Bool). is_end Any (b ∷ c ∷ bs) ≡ t → list_all begins_blank (drop 1 (cond t ([] ∷ pieces_at Any bs) (onto_first b (pieces_at Any (c ∷ bs))))) ≡ true) [
      | true ↦ λ e.
          let goes = break_goes_on (b ∷ c ∷ (bs ++ rest)) (same_break b c bs rest (end_breaks Any (b ∷ c ∷ bs) e)) (not_true (is_end Unfolded (b ∷ c ∷ (bs ++ rest))) one.0) in
          pieces_blank bs (within_text bs rest solid goes) (folds_blank bs rest two.1 solid)
      | false ↦ λ e. onto_rest b (pieces_at Any (c ∷ bs)) (folds_blank (c ∷ bs) rest one.1 solid)
    ] refl
  where
    same_break : (b c : ℕ) (bs rest : Bytes) → begins_break (b ∷ c ∷ bs) ≡ true → begins_break (b ∷ c ∷ (bs ++ rest)) ≡ true
    same_break b c bs rest h = ap begins_break (ap (λ l. l ++ rest) (break_is (b ∷ c ∷ bs) h)) ∙ end_breaks Any (ended (bs ++ rest)) (any_end (bs ++ rest))
