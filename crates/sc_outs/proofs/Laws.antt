-- What was put of what the deeds of a run send: the laws of each step, message, failure and put.
use Rattle.std.proofs.Common.{◌≡◌, ℕ, Bool, true, false, ◌&&◌, ◌||◌, Option, List, [], ◌∷◌, ◌++◌, refl, ap, sym, ◌∙◌, subst, if◌then◌else◌, append_assoc}
use Rattle.std.specs.Prelude.{drop}
use Rattle.std.specs.List.{flat_map}
use Rattle.std.proofs.lemmas.List.{append-nil}
use Rattle.std.proofs.lemmas.List.Concat.{flat_map-cons}
use Rattle.std.proofs.lemmas.List.Sums.{fold-append}
use Rattle.sc_tokens.specs.Bytes.{Bytes}
use Rattle.sc_value.specs.declared.ids.Place.{Place}
use Rattle.sc_value.specs.declared.ids.Place.TheVariants.{Back, To}
use Rattle.sc_value.specs.declared.message.Sent.{Sent}
use Rattle.sc_value.specs.Places.{same_place}
use Rattle.sc_value.proofs.PlaceLaws.{same_place-is, same_place-self}
use Rattle.sc_terms.specs.declared.steps.Step.TheVariants as steps
use Rattle.sc_edge.specs.Edges.{EdgeState, Stands, is_back}
use Rattle.sc_edge.specs.Taking.{Takes_none}
use Rattle.sc_edge.specs.declared.edge.Put.{Put}
use Rattle.sc_edge.specs.declared.edge.Put.TheVariants as put
use Rattle.sc_outs.specs.Deeds.{Deed, loss}
use Rattle.sc_outs.specs.Owing.{IsKept, IsLostAt, IsOwed, Owing, PutLeaves, Tried, bytes_in, bytes_of, is_among, is_gone_at, is_gone_from, left_at, nothing, owing}
use Rattle.sc_outs.specs.Puts.{IsCut, Puts, TookParts, TookWhole}
use Rattle.sc_outs.specs.Stretches.{AreTaken, IsWritten, Stretching, after_deed, next_stretch as ended, has_some, is_gone, is_lost, longer, stretches, stretching, text_for, texts_for}
use Rattle.sc_outs.proofs.Apart.{apart_turned}
use Rattle.sc_outs.proofs.Stretchings.{all_taken, left_none, left_whole, written_failed, written_sent, written_wrote}

-- ## The beginning

nothing_gone : (place : Place) → is_gone_at nothing place ≡ false
unfolding is_gone_at is_gone_from is_among
nothing_gone (Back number) = refl
nothing_gone (To ip port) = refl

none_cut : (back : Bool) → (back && has_some []) ≡ false
unfolding has_some
none_cut true = refl
none_cut false = refl

-- with no messages nothing more is owed
no_letters-by : (outs : Owing) (place : Place) (b : Bool) → is_gone_at outs place ≡ b → owing outs place [] ≡ []
unfolding owing texts_for
no_letters-by outs place true e = rw e refl
no_letters-by outs place false e = rw e refl

no_letters : (outs : Owing) (place : Place) → owing outs place [] ≡ []
no_letters outs place = no_letters-by outs place (is_gone_at outs place) refl

none_owing : (outs : Owing) (place : Place) (left : Bytes) → left ++ owing outs place [] ≡ left
none_owing outs place left = ap (λ (x : Bytes). left ++ x) (no_letters outs place) ∙ append-nil left

begins : (place : Place) (took : Option Bytes) → IsWritten place took took (stretching place []) []
unfolding stretching AreTaken
begins place took = record {
  took = [];
  takes = Takes_none took;
  writing = record { before = []; part = []; taken = refl; took_is = refl; last_is = left_none (is_gone place []) };
}

nothing_left : (place : Place) → left_at nothing place ++ owing nothing place [] ≡ []
unfolding left_at bytes_of bytes_in
nothing_left place = no_letters nothing place

pub puts_begin : (first : EdgeState) → Puts first first [] nothing []
unfolding is_gone stretching
puts_begin first = record {
  written = λ place. subst (λ (left : Bytes). IsWritten place (first.took place) (first.took place) (stretching place []) left) (sym (nothing_left place)) (begins place (first.took place));
  gone_is = λ place. nothing_gone place ∙ sym (none_cut (is_back place));
}

-- ## With no messages

-- what is written of a place, with no messages that aren't owed yet
plain : (first now : EdgeState) (deeds : List Deed) (outs : Owing) → Puts first now deeds outs [] → (place : Place) → IsWritten place (first.took place) (now.took place) (stretching place deeds) (left_at outs place)
plain first now deeds outs puts place = subst (λ (left : Bytes). IsWritten place (first.took place) (now.took place) (stretching place deeds) left) (none_owing outs place (left_at outs place)) (puts.written place)

unplain : (first now : EdgeState) (deeds : List Deed) (outs : Owing) (place : Place) → IsWritten place (first.took place) (now.took place) (stretching place deeds) (left_at outs place)
    → IsWritten place (first.took place) (now.took place) (stretching place deeds) (left_at outs place ++ owing outs place [])
unplain first now deeds outs place w = subst (λ (left : Bytes). IsWritten place (first.took place) (now.took place) (stretching place deeds) left) (sym (none_owing outs place (left_at outs place))) w

-- ## A step

stretching-snoc : (place : Place) (deeds : List Deed) (deed : Deed) → stretching place (deeds ++ deed ∷ []) ≡ after_deed place (stretching place deeds) deed
unfolding stretching
stretching-snoc place deeds deed = fold-append (after_deed place) (record { cut = []; last = [] }) deeds (deed ∷ [])

going : (place : Place) (s : Stretching) (deed : Deed) → (deed.failed && is_lost place deed.step) ≡ false → after_deed place s deed ≡ longer (texts_for place deed.sent) s
unfolding after_deed
going place s deed e = ap (λ (b : Bool). longer (texts_for place deed.sent) (if b then ended s else s)) e

ending : (place : Place) (s : Stretching) (deed : Deed) → (deed.failed && is_lost place deed.step) ≡ true → after_deed place s deed ≡ longer (texts_for place deed.sent) (ended s)
unfolding after_deed
ending place s deed e = ap (λ (b : Bool). longer (texts_for place deed.sent) (if b then ended s else s)) e

sent_to : (outs : Owing) (place : Place) (letters : List Sent) (b : Bool) → is_gone_at outs place ≡ b → (if b then [] else texts_for place letters) ≡ owing outs place letters
unfolding owing
sent_to outs place letters b e = ap (λ (c : Bool). if c then [] else texts_for place letters) (sym e)

-- a step that is no failure of the place
went : (first now : EdgeState) (deeds : List Deed) (outs : Owing) (place : Place) (deed : Deed) → Puts first now deeds outs [] → (deed.failed && is_lost place deed.step) ≡ false
    → IsWritten place (first.took place) (now.took place) (stretching place (deeds ++ deed ∷ [])) (left_at outs place ++ owing outs place deed.sent)
went first now deeds outs place deed puts e =
    subst (λ (s : Stretching). IsWritten place (first.took place) (now.took place) s (left_at outs place ++ owing outs place deed.sent)) (sym (stretching-snoc place deeds deed ∙ going place (stretching place deeds) deed e))
    (subst (λ (text : Bytes). IsWritten place (first.took place) (now.took place) (longer (texts_for place deed.sent) (stretching place deeds)) (left_at outs place ++ text))
    (sent_to outs place deed.sent (is_gone place (stretching place deeds).cut) (puts.gone_is place))
    (written_sent place (first.took place) (now.took place) (stretching place deeds) (left_at outs place) (texts_for place deed.sent) (plain first now deeds outs puts place)))

same_cut : (place : Place) (deeds : List Deed) (deed : Deed) → (deed.failed && is_lost place deed.step) ≡ false → (stretching place (deeds ++ deed ∷ [])).cut ≡ (stretching place deeds).cut
same_cut place deeds deed e = ap (λ (s : Stretching). s.cut) (stretching-snoc place deeds deed ∙ going place (stretching place deeds) deed e)

-- what a step sends isn't owed yet
pub puts_step : (first now : EdgeState) (deeds : List Deed) (outs : Owing) (deed : Deed) → deed.failed ≡ false → Puts first now deeds outs [] → Puts first now (deeds ++ deed ∷ []) outs deed.sent
puts_step first now deeds outs deed e puts =
    let fine : (place : Place) → (deed.failed && is_lost place deed.step) ≡ false = λ place. ap (λ (b : Bool). b && is_lost place deed.step) e in
    record {
      written = λ place. went first now deeds outs place deed puts (fine place);
      gone_is = λ place. puts.gone_is place ∙ ap (is_gone place) (sym (same_cut place deeds deed (fine place)));
    }

-- ## A failure

some_snoc : (cut : List Bytes) (last : Bytes) → has_some (cut ++ last ∷ []) ≡ true
unfolding has_some
some_snoc [] last = refl
some_snoc (s ∷ later) last = refl

gone_now : (back some same : Bool) → same ≡ true → ((back && some) || (back && same)) ≡ (back && true)
gone_now true true same e = refl
gone_now true false same e = e
gone_now false some same e = refl

gone_other : (among back same : Bool) → same ≡ false → (among || (back && same)) ≡ among
gone_other true back same e = refl
gone_other false true same e = e
gone_other false false same e = refl

gone_here : (place : Place) (s : Stretching) (among : Bool) → among ≡ is_gone place s.cut → (among || (is_back place && same_place place place)) ≡ is_gone place (ended s).cut
unfolding is_gone
gone_here place s among e = rw (e, some_snoc s.cut s.last) (gone_now (is_back place) (has_some s.cut) (same_place place place) (same_place-self place))

lost_here : (place : Place) → is_lost place (steps.Lost place) ≡ true
unfolding is_lost
lost_here place = same_place-self place

lost_there : (place at : Place) → same_place place at ≡ false → is_lost place (steps.Lost at) ≡ false
unfolding is_lost
lost_there place at e = e

kept_here : (before : Place → Bytes) (place : Place) (bytes : Bytes) (after : Place → Bytes) → IsKept before place bytes after → after place ≡ bytes
unfolding IsKept
kept_here before place bytes after kept = kept place ∙ ap (λ (b : Bool). if b then bytes else before place) (same_place-self place)

kept_there : (before : Place → Bytes) (place other : Place) (bytes : Bytes) (after : Place → Bytes) → IsKept before place bytes after → same_place other place ≡ false → after other ≡ before other
unfolding IsKept
kept_there before place other bytes after kept apart = kept other ∙ ap (λ (b : Bool). if b then bytes else before other) apart

fell : (first now : EdgeState) (deeds : List Deed) (outs outs2 : Owing) (at : Place) (sent : List Sent) → Puts first now deeds outs [] → left_at outs2 at ≡ [] → is_gone_at outs2 at ≡ is_gone at (ended (stretching at deeds)).cut
    → IsWritten at (first.took at) (now.took at) (stretching at (deeds ++ loss at sent ∷ [])) (left_at outs2 at ++ owing outs2 at sent)
fell first now deeds outs outs2 at sent puts none is =
    subst (λ (s : Stretching). IsWritten at (first.took at) (now.took at) s (left_at outs2 at ++ owing outs2 at sent)) (sym (stretching-snoc at deeds (loss at sent) ∙ ending at (stretching at deeds) (loss at sent) (lost_here at)))
    (subst (λ (left : Bytes). IsWritten at (first.took at) (now.took at) (longer (texts_for at sent) (ended (stretching at deeds))) (left ++ owing outs2 at sent)) (sym none)
    (subst (λ (text : Bytes). IsWritten at (first.took at) (now.took at) (longer (texts_for at sent) (ended (stretching at deeds))) text)
    (sent_to outs2 at sent (is_gone at (ended (stretching at deeds)).cut) is)
    (written_sent at (first.took at) (now.took at) (ended (stretching at deeds)) [] (texts_for at sent) (written_failed at (first.took at) (now.took at) (stretching at deeds) (left_at outs at) (plain first now deeds outs puts at)))))

stayed : (first now : EdgeState) (deeds : List Deed) (outs outs2 : Owing) (at place : Place) (sent : List Sent) → Puts first now deeds outs [] → left_at outs2 place ≡ left_at outs place → is_gone_at outs2 place ≡ is_gone_at outs place → same_place place at ≡ false
    → IsWritten place (first.took place) (now.took place) (stretching place (deeds ++ loss at sent ∷ [])) (left_at outs2 place ++ owing outs2 place sent)
unfolding owing
stayed first now deeds outs outs2 at place sent puts left is apart =
    rw (left, is) (went first now deeds outs place (loss at sent) puts (lost_there place at apart))

fell-by : (first now : EdgeState) (deeds : List Deed) (outs outs2 : Owing) (at place : Place) (sent : List Sent) (b : Bool) → same_place place at ≡ b → Puts first now deeds outs [] → IsLostAt at outs outs2
    → IsWritten place (first.took place) (now.took place) (stretching place (deeds ++ loss at sent ∷ [])) (left_at outs2 place ++ owing outs2 place sent)
fell-by first now deeds outs outs2 at place sent true e puts lost =
    subst (λ (q : Place). IsWritten q (first.took q) (now.took q) (stretching q (deeds ++ loss at sent ∷ [])) (left_at outs2 q ++ owing outs2 q sent)) (sym (same_place-is place at e))
    (fell first now deeds outs outs2 at sent puts (kept_here (left_at outs) at [] (left_at outs2) lost.left) (lost.gone at ∙ gone_here at (stretching at deeds) (is_gone_at outs at) (puts.gone_is at)))
fell-by first now deeds outs outs2 at place sent false e puts lost =
    stayed first now deeds outs outs2 at place sent puts (kept_there (left_at outs) at place [] (left_at outs2) lost.left e) (lost.gone place ∙ gone_other (is_gone_at outs place) (is_back at) (same_place place at) e) e

gone-by : (first now : EdgeState) (deeds : List Deed) (outs outs2 : Owing) (at place : Place) (sent : List Sent) (b : Bool) → same_place place at ≡ b → Puts first now deeds outs [] → IsLostAt at outs outs2
    → is_gone_at outs2 place ≡ is_gone place (stretching place (deeds ++ loss at sent ∷ [])).cut
gone-by first now deeds outs outs2 at place sent true e puts lost =
    subst (λ (q : Place). is_gone_at outs2 q ≡ is_gone q (stretching q (deeds ++ loss at sent ∷ [])).cut) (sym (same_place-is place at e))
    (lost.gone at ∙ (gone_here at (stretching at deeds) (is_gone_at outs at) (puts.gone_is at) ∙ ap (λ (s : Stretching). is_gone at s.cut) (sym (stretching-snoc at deeds (loss at sent) ∙ ending at (stretching at deeds) (loss at sent) (lost_here at)))))
gone-by first now deeds outs outs2 at place sent false e puts lost =
    lost.gone place ∙ (gone_other (is_gone_at outs place) (is_back at) (same_place place at) e ∙ (puts.gone_is place ∙ ap (is_gone place) (sym (same_cut place deeds (loss at sent) (lost_there place at e)))))

-- a place failed: what its loss sends isn't owed yet
pub puts_failed : (first now : EdgeState) (deeds : List Deed) (outs outs2 : Owing) (at : Place) (sent : List Sent) → Puts first now deeds outs [] → IsLostAt at outs outs2 → Puts first now (deeds ++ loss at sent ∷ []) outs2 sent
puts_failed first now deeds outs outs2 at sent puts lost = record {
  written = λ place. fell-by first now deeds outs outs2 at place sent (same_place place at) refl puts lost;
  gone_is = λ place. gone-by first now deeds outs outs2 at place sent (same_place place at) refl puts lost;
}

-- ## A message

-- what is left of the place and what isn't owed yet stay the same together
owing-by : (left more texts : Bytes) (b : Bool) → (left ++ (if b then [] else more)) ++ (if b then [] else texts) ≡ left ++ (if b then [] else (more ++ texts))
owing-by left more texts true = append-nil (left ++ [])
owing-by left more texts false = append_assoc left more texts

owing-step : (outs outs2 : Owing) (place : Place) (sent : Sent) (later : List Sent) (old now : Bytes) → now ≡ old ++ (if is_gone_at outs place then [] else text_for place sent) → is_gone_at outs2 place ≡ is_gone_at outs place
    → now ++ owing outs2 place later ≡ old ++ owing outs place (sent ∷ later)
unfolding owing texts_for
owing-step outs outs2 place sent later old now e same =
    rw (e, same, flat_map-cons (text_for place) sent later) (owing-by old (text_for place sent) (flat_map (text_for place) later) (is_gone_at outs place))

pub puts_owed : (first now : EdgeState) (deeds : List Deed) (outs outs2 : Owing) (sent : Sent) (later : List Sent) → Puts first now deeds outs (sent ∷ later) → IsOwed sent outs outs2 → Puts first now deeds outs2 later
puts_owed first now deeds outs outs2 sent later puts owed = record {
  written = λ place. subst (λ (left : Bytes). IsWritten place (first.took place) (now.took place) (stretching place deeds) left)
      (sym (owing-step outs outs2 place sent later (left_at outs place) (left_at outs2 place) (owed.left place) (owed.gone place))) (puts.written place);
  gone_is = λ place. owed.gone place ∙ puts.gone_is place;
}

-- ## A call of the edge

-- where a place took nothing, all stays
written_stands : (place : Place) (first old new : Option Bytes) (s : Stretching) (left : Bytes) → new ≡ old → IsWritten place first old s left → IsWritten place first new s left
written_stands place first old new s left same w = subst (λ (took : Option Bytes). IsWritten place first took s left) (sym same) w

pub puts_stand : (first old new : EdgeState) (deeds : List Deed) (outs : Owing) (letters : List Sent) → ((place : Place) → new.took place ≡ old.took place) → Puts first old deeds outs letters → Puts first new deeds outs letters
puts_stand first old new deeds outs letters same puts = record {
  written = λ place. written_stands place (first.took place) (old.took place) (new.took place) (stretching place deeds) (left_at outs place ++ owing outs place letters) (same place) (puts.written place);
  gone_is = puts.gone_is;
}

wrote-by : (first old new : EdgeState) (deeds : List Deed) (outs now : Owing) (to place : Place) (count : ℕ) (b : Bool) → same_place place to ≡ b
    → Puts first old deeds outs [] → Tried old new to outs now (put.Wrote count)
    → IsWritten place (first.took place) (new.took place) (stretching place deeds) (left_at now place)
unfolding PutLeaves
wrote-by first old new deeds outs now to place count true e puts tried =
    subst (λ (q : Place). IsWritten q (first.took q) (new.took q) (stretching q deeds) (left_at now q)) (sym (same_place-is place to e))
    (subst (λ (left : Bytes). IsWritten to (first.took to) (new.took to) (stretching to deeds) left)
    (sym (kept_here (left_at outs) to (drop count (left_at outs to)) (left_at now) tried.leaves.1))
    (written_wrote to (first.took to) (old.took to) (new.took to) (stretching to deeds) (left_at outs to) count (plain first old deeds outs puts to) tried.leaves.0))
wrote-by first old new deeds outs now to place count false e puts tried =
    subst (λ (left : Bytes). IsWritten place (first.took place) (new.took place) (stretching place deeds) left)
    (sym (kept_there (left_at outs) to place (drop count (left_at outs to)) (left_at now) tried.leaves.1 e))
    (written_stands place (first.took place) (old.took place) (new.took place) (stretching place deeds) (left_at outs place) (tried.others place (apart_turned place to e)).0 (plain first old deeds outs puts place))

wrote-on : (first old new : EdgeState) (deeds : List Deed) (outs now : Owing) (to : Place) (count : ℕ) → Puts first old deeds outs [] → Tried old new to outs now (put.Wrote count) → Puts first new deeds now []
wrote-on first old new deeds outs now to count puts tried = record {
  written = λ place. unplain first new deeds now place (wrote-by first old new deeds outs now to place count (same_place place to) refl puts tried);
  gone_is = λ place. tried.gone place ∙ puts.gone_is place;
}

stood-by : (old new : EdgeState) (to place : Place) (b : Bool) → same_place place to ≡ b → new.took to ≡ old.took to → ((other : Place) → same_place to other ≡ false → Stands old new other) → new.took place ≡ old.took place
stood-by old new to place true e here others = subst (λ (q : Place). new.took q ≡ old.took q) (sym (same_place-is place to e)) here
stood-by old new to place false e here others = (others place (apart_turned place to e)).0

stood : (first old new : EdgeState) (deeds : List Deed) (outs now : Owing) (to : Place) → new.took to ≡ old.took to → now ≡ outs → ((other : Place) → same_place to other ≡ false → Stands old new other) → Puts first old deeds outs [] → Puts first new deeds now []
stood first old new deeds outs now to here same others puts =
    subst (λ (o : Owing). Puts first new deeds o []) (sym same) (puts_stand first old new deeds outs [] (λ place. stood-by old new to place (same_place place to) refl here others) puts)

-- whatever the put answered
pub puts_tried : (first old new : EdgeState) (deeds : List Deed) (outs now : Owing) (to : Place) (answer : Put) → Puts first old deeds outs [] → Tried old new to outs now answer → Puts first new deeds now []
unfolding PutLeaves
puts_tried first old new deeds outs now to (put.Wrote count) puts tried = wrote-on first old new deeds outs now to count puts tried
puts_tried first old new deeds outs now to put.NotYet puts tried = stood first old new deeds outs now to tried.leaves.0 tried.leaves.1 tried.others puts
puts_tried first old new deeds outs now to put.Failed puts tried = stood first old new deeds outs now to tried.leaves.0 tried.leaves.1 tried.others puts

-- ## Where a run ends

pub cut_of : (first now : EdgeState) (deeds : List Deed) (outs : Owing) (letters : List Sent) → Puts first now deeds outs letters → IsCut first now deeds
unfolding IsCut
cut_of first now deeds outs letters puts place = (_, puts.written place)

more-by : (place : Place) (first now : Option Bytes) (s : Stretching) (left : Bytes) (deed : Deed) (b : Bool) → (deed.failed && is_lost place deed.step) ≡ b → IsWritten place first now s left → (later : Bytes) × IsWritten place first now (after_deed place s deed) later
more-by place first now s left deed true e w =
    ([] ++ (if is_gone place (ended s).cut then [] else texts_for place deed.sent), subst (λ (t : Stretching). IsWritten place first now t ([] ++ (if is_gone place (ended s).cut then [] else texts_for place deed.sent))) (sym (ending place s deed e)) (written_sent place first now (ended s) [] (texts_for place deed.sent) (written_failed place first now s left w)))
more-by place first now s left deed false e w =
    (left ++ (if is_gone place s.cut then [] else texts_for place deed.sent), subst (λ (t : Stretching). IsWritten place first now t (left ++ (if is_gone place s.cut then [] else texts_for place deed.sent))) (sym (going place s deed e)) (written_sent place first now s left (texts_for place deed.sent) w))

-- whatever a further step sends, parts were taken
pub cut_more : (first now : EdgeState) (deeds : List Deed) (deed : Deed) → IsCut first now deeds → IsCut first now (deeds ++ deed ∷ [])
unfolding IsCut
cut_more first now deeds deed cut place =
    let (left, w) = cut place in
    let (later, more) = more-by place (first.took place) (now.took place) (stretching place deeds) left deed (deed.failed && is_lost place deed.step) refl w in
    (later, subst (λ (s : Stretching). IsWritten place (first.took place) (now.took place) s later) (sym (stretching-snoc place deeds deed)) more)

pub cut_stand : (first old new : EdgeState) (deeds : List Deed) → ((place : Place) → new.took place ≡ old.took place) → IsCut first old deeds → IsCut first new deeds
unfolding IsCut
cut_stand first old new deeds same cut place =
    let (left, w) = cut place in
    (left, written_stands place (first.took place) (old.took place) (new.took place) (stretching place deeds) left (same place) w)

-- ## What was taken of all stretches

pub took_parts : (first now : EdgeState) (deeds : List Deed) → IsCut first now deeds → TookParts first now deeds
unfolding IsCut TookParts stretches
took_parts first now deeds cut place =
    let (left, w) = cut place in
    (w.took, w.takes, all_taken place (stretching place deeds) w.took left w.writing)

pub took_whole : (first now : EdgeState) (deeds : List Deed) (outs : Owing) → Puts first now deeds outs [] → ((place : Place) → left_at outs place ≡ []) → TookWhole first now deeds
unfolding TookWhole
took_whole first now deeds outs puts none place isnt =
    let w : IsWritten place (first.took place) (now.took place) (stretching place deeds) (left_at outs place) = plain first now deeds outs puts place in (
      w.writing.before,
      w.took,
      w.takes,
      w.writing.took_is ∙ ap (λ (part : Bytes). w.writing.before ++ part)
          (sym (left_whole (is_gone place (stretching place deeds).cut) (stretching place deeds).last w.writing.part (left_at outs place) isnt (none place) w.writing.last_is)),
    )
