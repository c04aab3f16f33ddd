-- Stretches, as a step sends, as bytes are taken, and as a place fails.
use Rattle.std.proofs.Common.{◌≡◌, ℕ, zero, suc, Bool, true, false, Option, List, [], ◌∷◌, ◌++◌, take, refl, ap, sym, ◌∙◌, subst, if◌then◌else◌, append_assoc}
use Rattle.std.specs.Prelude.{drop}
use Rattle.std.proofs.lemmas.Bool.{false≢true}
use Rattle.std.proofs.lemmas.List.{append-nil, take-append-drop}
use Rattle.sc_tokens.specs.Bytes.{Bytes}
use Rattle.sc_value.specs.declared.ids.Place.{Place}
use Rattle.sc_edge.specs.Edges.{is_back}
use Rattle.sc_edge.specs.Taking.{Takes, Takes_then}
use Rattle.sc_outs.specs.Stretches.{AreTaken, IsLeft, IsWritten, Stretching, Writing, next_stretch as ended, has_some, is_gone, longer}

-- ## Parts of stretches

pub taken_snoc : (once : Bool) (cut : List Bytes) (before stretch part rest : Bytes) → AreTaken once cut before → stretch ≡ part ++ rest → (once ≡ true → has_some cut ≡ true → part ≡ []) → AreTaken once (cut ++ stretch ∷ []) (before ++ part)
unfolding AreTaken has_some
taken_snoc true [] before stretch part rest are e gone = (rest, rw are e)
taken_snoc true (s ∷ later) before stretch part rest (c, is) e gone = (c, rw (gone refl refl, append-nil before) is)
taken_snoc false [] before stretch part rest are e gone = (part, rest, [], e, rw (are, append-nil part) refl, refl)
taken_snoc false (s ∷ later) before stretch part rest (p, c, r, is, took, more) e gone =
    (p, c, r ++ part, is, rw took (append_assoc p r part), taken_snoc false later r stretch part rest more e (λ f. absurd (false≢true f)))

-- ## What is left of a stretch

take_none : (n : ℕ) (xs : Bytes) → xs ≡ [] → take n xs ≡ []
take_none zero xs e = refl
take_none (suc n) [] e = refl
take_none (suc n) (x ∷ xs) e = cc

drop_none : (n : ℕ) (xs : Bytes) → xs ≡ [] → drop n xs ≡ []
drop_none zero xs e = e
drop_none (suc n) [] e = refl
drop_none (suc n) (x ∷ xs) e = cc

left_wrote : (b : Bool) (last part left : Bytes) (count : ℕ) → IsLeft b last part left → IsLeft b last (part ++ take count left) (drop count left)
unfolding IsLeft
left_wrote false last part left count e = e ∙ (ap (λ (x : Bytes). part ++ x) (sym (take-append-drop count left)) ∙ sym (append_assoc part (take count left) (drop count left)))
left_wrote true last part left count (p, l) = (rw (p, take_none count left l) refl, drop_none count left l)

-- what goes to the place, where it isn't gone
left_sent : (b : Bool) (last part left text : Bytes) → IsLeft b last part left → IsLeft b (last ++ text) part (left ++ (if b then [] else text))
unfolding IsLeft
left_sent false last part left text e = rw e (append_assoc part left text)
left_sent true last part left text (p, l) = (p, rw l refl)

left_part : (b : Bool) (last part left : Bytes) → IsLeft b last part left → (rest : Bytes) × (last ≡ part ++ rest)
unfolding IsLeft
left_part false last part left e = (left, e)
left_part true last part left (p, l) = (last, rw p refl)

left_gone : (b : Bool) (last part left : Bytes) → IsLeft b last part left → b ≡ true → part ≡ []
unfolding IsLeft
left_gone false last part left e is = absurd (false≢true is)
left_gone true last part left (p, l) is = p

-- where nothing is left, all was taken
pub left_whole : (b : Bool) (last part left : Bytes) → b ≡ false → left ≡ [] → IsLeft b last part left → last ≡ part
unfolding IsLeft
left_whole false last part left is none e = e ∙ (ap (λ (x : Bytes). part ++ x) none ∙ append-nil part)
left_whole true last part left is none e = absurd (false≢true (sym is))

pub left_none : (b : Bool) → IsLeft b [] [] []
unfolding IsLeft
left_none false = refl
left_none true = (refl, refl)

gone_is : (place : Place) (cut : List Bytes) → is_back place ≡ true → has_some cut ≡ true → is_gone place cut ≡ true
unfolding is_gone
gone_is place cut back some = rw (back, some) refl

-- ## A place

pub wrote : (place : Place) (s : Stretching) (took left : Bytes) (count : ℕ) → Writing place s took left → Writing place s (took ++ take count left) (drop count left)
wrote place s took left count w = record {
  before = w.before;
  part = w.part ++ take count left;
  taken = w.taken;
  took_is = rw w.took_is (append_assoc w.before w.part (take count left));
  last_is = left_wrote (is_gone place s.cut) s.last w.part left count w.last_is;
}

pub sent : (place : Place) (s : Stretching) (took left text : Bytes) → Writing place s took left → Writing place (longer text s) took (left ++ (if is_gone place s.cut then [] else text))
sent place s took left text w = record {
  before = w.before;
  part = w.part;
  taken = w.taken;
  took_is = w.took_is;
  last_is = left_sent (is_gone place s.cut) s.last w.part left text w.last_is;
}

pub failed : (place : Place) (s : Stretching) (took left : Bytes) → Writing place s took left → Writing place (ended s) took []
failed place s took left w =
    let (rest, is) = left_part (is_gone place s.cut) s.last w.part left w.last_is in
    record {
      before = w.before ++ w.part;
      part = [];
      taken = taken_snoc (is_back place) s.cut w.before s.last w.part rest w.taken is
          (λ back some. left_gone (is_gone place s.cut) s.last w.part left w.last_is (gone_is place s.cut back some));
      took_is = w.took_is ∙ sym (append-nil (w.before ++ w.part));
      last_is = left_none (is_gone place (s.cut ++ s.last ∷ []));
    }

-- of all stretches parts were taken
pub all_taken : (place : Place) (s : Stretching) (took left : Bytes) → Writing place s took left → AreTaken (is_back place) (s.cut ++ s.last ∷ []) took
all_taken place s took left w =
    let (rest, is) = left_part (is_gone place s.cut) s.last w.part left w.last_is in
    subst (λ (x : Bytes). AreTaken (is_back place) (s.cut ++ s.last ∷ []) x) (sym w.took_is)
    (taken_snoc (is_back place) s.cut w.before s.last w.part rest w.taken is
    (λ back some. left_gone (is_gone place s.cut) s.last w.part left w.last_is (gone_is place s.cut back some)))

-- ## As an edge tells it

pub written_wrote : (place : Place) (first old new : Option Bytes) (s : Stretching) (left : Bytes) (count : ℕ) → IsWritten place first old s left → Takes old new (take count left) → IsWritten place first new s (drop count left)
written_wrote place first old new s left count w takes = record {
  took = w.took ++ take count left;
  takes = Takes_then first old new w.took (take count left) w.takes takes;
  writing = wrote place s w.took left count w.writing;
}

pub written_sent : (place : Place) (first now : Option Bytes) (s : Stretching) (left text : Bytes) → IsWritten place first now s left → IsWritten place first now (longer text s) (left ++ (if is_gone place s.cut then [] else text))
written_sent place first now s left text w = record { took = w.took; takes = w.takes; writing = sent place s w.took left text w.writing }

pub written_failed : (place : Place) (first now : Option Bytes) (s : Stretching) (left : Bytes) → IsWritten place first now s left → IsWritten place first now (ended s) []
written_failed place first now s left w = record { took = w.took; takes = w.takes; writing = failed place s w.took left w.writing }
