-- What is owed, as messages are sent and places fail.
use Rattle.std.proofs.Common.{◌≡◌, ℕ, Bool, true, false, List, [], ◌++◌, refl, ap, sym, ◌∙◌, subst, if◌then◌else◌}
use Rattle.std.specs.Prelude.{Result, Ok, Err, OnOk}
use Rattle.std.proofs.lemmas.Bool.{false≢true}
use Rattle.std.proofs.lemmas.List.{append-nil}
use Rattle.sc_tokens.specs.Bytes.{Bytes}
use Rattle.sc_value.specs.declared.ids.Place.{Place}
use Rattle.sc_value.specs.declared.message.Sent.{Sent}
use Rattle.sc_value.specs.Places.{same_place}
use Rattle.sc_value.proofs.PlaceLaws.{same_place-is}
use Rattle.sc_value.specs.declared.no_memory.NoMemory.{NoMemory}
use Rattle.sc_edge.specs.Edges.{EdgeState}
use Rattle.sc_edge.specs.declared.edge.Put.{Put}
use Rattle.sc_grammar.specs.Written.{text_of_message as written}
use Rattle.sc_outs.specs.Owing.{IsGoneToo, IsKept, IsLostAt, IsOwed, Owed, Owing, Tried, bytes_of, is_gone_at, is_gone_from, left_at}
use Rattle.sc_outs.specs.Stretches.{text_for}

among_same : (gone : List ℕ) (a b : Place) → same_place a b ≡ true → is_gone_from gone a ≡ is_gone_from gone b
among_same gone a b e = ap (is_gone_from gone) (same_place-is a b e)

skipped-by : (gone : List ℕ) (sent : Sent) (place : Place) (b c : Bool) → same_place place sent.place ≡ b → is_gone_from gone place ≡ c → is_gone_from gone sent.place ≡ true → (if c then [] else (if b then written sent.message else [])) ≡ []
skipped-by gone sent place true true be ce is = refl
skipped-by gone sent place true false be ce is = absurd (false≢true (sym ce ∙ (among_same gone place sent.place be ∙ is)))
skipped-by gone sent place false true be ce is = refl
skipped-by gone sent place false false be ce is = refl

-- a message to a place that is gone
pub skipped : (sent : Sent) (outs : List Owed) (gone : List ℕ) → is_gone_from gone sent.place ≡ true → IsOwed sent (record { outs = outs; gone = gone }) (record { outs = outs; gone = gone })
unfolding text_for left_at is_gone_at
skipped sent outs gone is = record {
  left = λ place. sym (ap (λ (x : Bytes). bytes_of outs place ++ x) (skipped-by gone sent place (same_place place sent.place) (is_gone_from gone place) refl refl is) ∙ append-nil (bytes_of outs place));
  gone = λ place. refl;
}

owed-by : (gone : List ℕ) (sent : Sent) (place : Place) (left mine now : Bytes) (b c : Bool) → same_place place sent.place ≡ b → is_gone_from gone place ≡ c → is_gone_from gone sent.place ≡ false
    → (b ≡ true → mine ≡ left) → now ≡ (if b then mine ++ written sent.message else left) → now ≡ left ++ (if c then [] else (if b then written sent.message else []))
owed-by gone sent place left mine now true true be ce isnt same e = absurd (false≢true (sym isnt ∙ (sym (among_same gone place sent.place be) ∙ ce)))
owed-by gone sent place left mine now true false be ce isnt same e = rw (same refl) at e
owed-by gone sent place left mine now false true be ce isnt same e = e ∙ sym (append-nil left)
owed-by gone sent place left mine now false false be ce isnt same e = e ∙ sym (append-nil left)

pub owed : (sent : Sent) (outs now : List Owed) (gone : List ℕ) → is_gone_from gone sent.place ≡ false → IsKept (bytes_of outs) sent.place (bytes_of outs sent.place ++ written sent.message) (bytes_of now)
    → IsOwed sent (record { outs = outs; gone = gone }) (record { outs = now; gone = gone })
unfolding IsKept text_for left_at is_gone_at
owed sent outs now gone isnt kept = record {
  left = λ place. owed-by gone sent place (bytes_of outs place) (bytes_of outs sent.place) (bytes_of now place) (same_place place sent.place) (is_gone_from gone place) refl refl isnt
      (λ same. ap (bytes_of outs) (sym (same_place-is place sent.place same))) (kept place);
  gone = λ place. refl;
}

-- what was left of a place that failed is dropped
pub lost : (at : Place) (outs now : List Owed) (gone gone2 : List ℕ) → IsKept (bytes_of outs) at [] (bytes_of now) → IsGoneToo at gone gone2
    → IsLostAt at (record { outs = outs; gone = gone }) (record { outs = now; gone = gone2 })
unfolding IsKept IsGoneToo left_at is_gone_at
lost at outs now gone gone2 kept too = record { left = kept; gone = too }

-- ## As the code sees it: a struct's fields, and their view

abbrev view : List Owed → List ℕ → Owing
view outs gone = record { outs = outs; gone = gone }

pub left_seen : (outs : List Owed) (gone : List ℕ) (now : Owing) (place : Place) (left : Bytes) → view outs gone ≡ now → bytes_of outs place ≡ left → left_at now place ≡ left
unfolding left_at
left_seen outs gone now place left seen is = subst (λ (o : Owing). left_at o place ≡ left) seen is

pub skipped_seen : (sent : Sent) (outs : List Owed) (gone : List ℕ) (now : Owing) (b : Bool) → view outs gone ≡ now → b ≡ is_gone_from gone sent.place → b ≡ true → IsOwed sent now now
skipped_seen sent outs gone now b seen is failed = subst (λ (o : Owing). IsOwed sent o o) seen (skipped sent outs gone (sym is ∙ failed))

pub owed_seen : (sent : Sent) (outs now : List Owed) (gone : List ℕ) (old : Owing) (b : Bool) (text : Bytes) (r : Result Unit NoMemory) → view outs gone ≡ old → b ≡ is_gone_from gone sent.place → b ≡ false → text ≡ written sent.message
    → OnOk r (IsKept (bytes_of outs) sent.place (bytes_of outs sent.place ++ text) (bytes_of now)) → OnOk r (IsOwed sent old (view now gone))
owed_seen sent outs now gone old b text (Ok u) seen is open_yet same kept = subst (λ (o : Owing). IsOwed sent o (view now gone)) seen (owed sent outs now gone (sym is ∙ open_yet) (rw same at kept))
owed_seen sent outs now gone old b text (Err cause) seen is open_yet same kept = tt

pub lost_seen : (at : Place) (outs now : List Owed) (gone gone2 : List ℕ) (old : Owing) → view outs gone ≡ old → IsKept (bytes_of outs) at [] (bytes_of now) → IsGoneToo at gone gone2 → IsLostAt at old (view now gone2)
lost_seen at outs now gone gone2 old seen kept too = subst (λ (o : Owing). IsLostAt at o (view now gone2)) seen (lost at outs now gone gone2 kept too)

pub tried_seen : (before after : EdgeState) (place : Place) (outs now : List Owed) (gone : List ℕ) (old : Owing) (answer : Put) → view outs gone ≡ old
    → ((all : List ℕ) → Tried before after place (view outs all) (view now all) answer) → Tried before after place old (view now gone) answer
tried_seen before after place outs now gone old answer seen tried = subst (λ (o : Owing). Tried before after place o (view now gone) answer) seen (tried gone)
