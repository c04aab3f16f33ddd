-- What is kept of each place, as bytes come, messages are taken and streams are dropped.
use Rattle.std.proofs.Common.{◌≡◌, ℕ, ◌<◌, ◌≤◌, Bool, true, false, Option, None, Some, List, [], ◌∷◌, ◌++◌, get_or, length, refl, sym, ap, ◌∙◌, subst, set, cond, if◌then◌else◌}
use Rattle.std.specs.Prelude.{position, is_some, not, filter, Result, Ok, Err, OnOk}
use Rattle.std.specs.List.{find}
use Rattle.std.specs.Option.{option_or}
use Rattle.std.proofs.lemmas.Bool.{false≢true}
use Rattle.std.proofs.lemmas.List.Folds.{find-append}
use Rattle.sc_value.specs.declared.ids.Place.{Place}
use Rattle.sc_value.specs.declared.message.Message.{Message}
use Rattle.sc_value.specs.declared.no_memory.NoMemory.{NoMemory}
use Rattle.sc_value.specs.Lists.{change_first}
use Rattle.sc_value.proofs.ListFacts.{change_first_position, find_none, find_position}
use Rattle.sc_tokens.specs.Bytes.{Bytes}
use Rattle.sc_value.specs.Places.{same_place}
use Rattle.sc_value.proofs.PlaceLaws.{same_place-is, same_place-self}
use Rattle.sc_syntax.specs.Fronts.{front_of}
use Rattle.sc_stream.specs.Frames.{len_of}
use Rattle.sc_stream.specs.Hearing.{Hears}
use Rattle.sc_stream.specs.declared.streams.Heard.{Heard}
use Rattle.sc_stream.specs.declared.streams.Heard.TheVariants as heard
use Rattle.sc_runs.specs.Following.{IsKept}
use Rattle.sc_streams.specs.declared.streams.Pending.{Pending}
use Rattle.sc_streams.specs.Streaming.{bytes_in, bytes_of, is_at, is_elsewhere, with_stream}
use Rattle.sc_streams.proofs.Fronts.{none_open, taken_less}

there-with : (streams : List Pending) (place : Place) (i : ℕ) (d : Pending) → position (is_at place) streams ≡ Some i → is_some (find (is_at place) streams) ≡ true
there-with streams place i d at = rw (find_position (is_at place) streams i d at) refl

pub there_at : (streams : List Pending) (place : Place) (i : ℕ) → position (is_at place) streams ≡ Some i → is_some (find (is_at place) streams) ≡ true
there_at [] place i at = cc
there_at (p ∷ ps) place i at = there-with (p ∷ ps) place i p at

-- ## Changed

pub bytes_found : (streams : List Pending) (place : Place) (i : ℕ) (d : Pending) → position (is_at place) streams ≡ Some i → bytes_of streams place ≡ (get_or streams i d).stream
unfolding bytes_of bytes_in
bytes_found streams place i d at = rw (find_position (is_at place) streams i d at) refl

-- the first one is that of the place
here : (other : Place) (p : Pending) (bytes : Bytes) (found : Option Pending) (b : Bool) → same_place other p.place ≡ b
    → bytes_in (cond b (Some (with_stream bytes p)) found) ≡ (if b then bytes else bytes_in (cond b (Some p) found))
unfolding bytes_in with_stream
here other p bytes found true e = refl
here other p bytes found false e = refl

-- the first one is of another place
elsewhere : (place other : Place) (p : Pending) (bytes : Bytes) (found changed : Option Pending) (b c : Bool) → same_place other p.place ≡ b → same_place other place ≡ c → same_place place p.place ≡ false
    → bytes_in changed ≡ (if c then bytes else bytes_in found) → bytes_in (cond b (Some p) changed) ≡ (if c then bytes else bytes_in (cond b (Some p) found))
elsewhere place other p bytes found changed true true b c apart same =
    absurd (false≢true (sym apart ∙ (ap (λ (q : Place). same_place q p.place) (sym (same_place-is other place c)) ∙ b)))
elsewhere place other p bytes found changed true false b c apart same = refl
elsewhere place other p bytes found changed false true b c apart same = same
elsewhere place other p bytes found changed false false b c apart same = same

changed-by : (place other : Place) (bytes : Bytes) (p : Pending) (ps : List Pending) (b : Bool) → is_at place p ≡ b
    → (is_some (find (is_at place) ps) ≡ true → bytes_of (change_first (is_at place) (with_stream bytes) ps) other ≡ (if same_place other place then bytes else bytes_of ps other))
    → is_some (cond b (Some p) (find (is_at place) ps)) ≡ true
    → bytes_in (find (is_at other) (cond b (with_stream bytes p ∷ ps) (p ∷ change_first (is_at place) (with_stream bytes) ps))) ≡ (if same_place other place then bytes else bytes_in (cond (is_at other p) (Some p) (find (is_at other) ps)))
unfolding bytes_of with_stream
changed-by place other bytes p ps true e later is = rw (same_place-is place p.place e) (here other p bytes (find (is_at other) ps) (same_place other p.place) refl)
changed-by place other bytes p ps false e later is = elsewhere place other p bytes (find (is_at other) ps) (find (is_at other) (change_first (is_at place) (with_stream bytes) ps)) (same_place other p.place) (same_place other place) refl refl e (later is)

changed : (streams : List Pending) (place other : Place) (bytes : Bytes) → is_some (find (is_at place) streams) ≡ true
    → bytes_of (change_first (is_at place) (with_stream bytes) streams) other ≡ (if same_place other place then bytes else bytes_of streams other)
unfolding bytes_of change_first
changed [] place other bytes is = absurd (false≢true is)
changed (p ∷ ps) place other bytes is = changed-by place other bytes p ps (is_at place p) refl (changed ps place other bytes) is

pub changed_kept : (streams : List Pending) (place : Place) (bytes : Bytes) (i : ℕ) (d : Pending) → position (is_at place) streams ≡ Some i → IsKept (bytes_of streams) place bytes (bytes_of (set streams i (record (get_or streams i d) { stream = bytes })))
unfolding IsKept with_stream
changed_kept streams place bytes i d at other =
    subst (λ (changed : List Pending). bytes_of changed other ≡ (if same_place other place then bytes else bytes_of streams other)) (change_first_position (is_at place) (with_stream bytes) streams i d at)
    (changed streams place other bytes (there_at streams place i at))

-- ## As the code does it

abbrev with_bytes : List Pending → ℕ → Pending → Bytes → List Pending
with_bytes streams i d bytes = set streams i (record (get_or streams i d) { stream = bytes })

pub fed_ok : (r : Result Unit NoMemory) (streams : List Pending) (place : Place) (i : ℕ) (d : Pending) (text stream : Bytes) → position (is_at place) streams ≡ Some i → OnOk r (stream ≡ (get_or streams i d).stream ++ text)
    → OnOk r (IsKept (bytes_of streams) place (bytes_of streams place ++ text) (bytes_of (with_bytes streams i d stream)))
fed_ok (Ok u) streams place i d text stream at e = rw (e, bytes_found streams place i d at) (changed_kept streams place ((get_or streams i d).stream ++ text) i d at)
fed_ok (Err cause) streams place i d text stream at e = tt

none-found : (streams : List Pending) (place : Place) → position (is_at place) streams ≡ None → bytes_of streams place ≡ []
unfolding bytes_of bytes_in
none-found streams place none = rw (find_none (is_at place) streams none) refl

fresh : (pending : Pending) (other : Place) (b : Bool) → same_place other pending.place ≡ b → (found : Option Pending) → (b ≡ true → found ≡ None)
    → bytes_in (option_or found (cond b (Some pending) None)) ≡ (if b then pending.stream else bytes_in found)
unfolding bytes_in
fresh pending other true e None none = refl
fresh pending other true e (Some p) none = let x : Some p ≡ None = none refl in cc
fresh pending other false e None none = refl
fresh pending other false e (Some p) none = refl

pub new_kept : (streams : List Pending) (pending : Pending) → position (is_at pending.place) streams ≡ None → IsKept (bytes_of streams) pending.place pending.stream (bytes_of (streams ++ pending ∷ []))
unfolding IsKept bytes_of
new_kept streams pending none other =
    rw (find-append (is_at other) streams (pending ∷ []))
    (fresh pending other (same_place other pending.place) refl (find (is_at other) streams)
    (λ same. ap (λ (q : Place). find (is_at q) streams) (same_place-is other pending.place same) ∙ find_none (is_at pending.place) streams none))

pub new_ok : (r : Result Unit NoMemory) (streams now : List Pending) (place : Place) (text empty stream : Bytes) → position (is_at place) streams ≡ None → empty ≡ [] → stream ≡ empty ++ text
    → OnOk r (IsKept (bytes_of streams) place stream (bytes_of now)) → OnOk r (IsKept (bytes_of streams) place (bytes_of streams place ++ text) (bytes_of now))
new_ok (Ok u) streams now place text empty stream none e is kept = subst (λ (b : Bytes). IsKept (bytes_of streams) place b (bytes_of now)) (is ∙ ap (λ (b : Bytes). b ++ text) (e ∙ sym (none-found streams place none))) kept
new_ok (Err cause) streams now place text empty stream none e is kept = tt

dropped-by : (place other : Place) (p : Pending) (ps : List Pending) (b c d : Bool) → same_place place p.place ≡ b → same_place other place ≡ c → same_place other p.place ≡ d
    → bytes_in (find (is_at other) (filter (is_elsewhere place) ps)) ≡ (if c then [] else bytes_in (find (is_at other) ps))
    → bytes_in (find (is_at other) (cond (not b) (p ∷ filter (is_elsewhere place) ps) (filter (is_elsewhere place) ps))) ≡ (if c then [] else bytes_in (cond d (Some p) (find (is_at other) ps)))
unfolding bytes_in
dropped-by place other p ps true true d sp so sd later = later
dropped-by place other p ps true false true sp so sd later = absurd (false≢true (sym so ∙ (ap (same_place other) (same_place-is place p.place sp) ∙ sd)))
dropped-by place other p ps true false false sp so sd later = later
dropped-by place other p ps false true true sp so sd later = absurd (false≢true (sym sp ∙ (ap (λ (q : Place). same_place q p.place) (sym (same_place-is other place so)) ∙ sd)))
dropped-by place other p ps false true false sp so sd later = rw sd later
dropped-by place other p ps false false true sp so sd later = rw sd refl
dropped-by place other p ps false false false sp so sd later = rw sd later

none-either : (b : Bool) → bytes_in None ≡ (if b then [] else bytes_in None)
unfolding bytes_in
none-either true = refl
none-either false = refl

pub dropped_kept : (streams : List Pending) (place : Place) → IsKept (bytes_of streams) place [] (bytes_of (filter (is_elsewhere place) streams))
unfolding IsKept bytes_of is_elsewhere
dropped_kept [] place other = none-either (same_place other place)
dropped_kept (p ∷ ps) place other = dropped-by place other p ps (same_place place p.place) (same_place other place) (same_place other p.place) refl refl refl (dropped_kept ps place other)

none-hears : (bytes : Bytes) → bytes ≡ [] → Hears heard.NotYet bytes bytes
none-hears bytes e = rw e (none_open, refl)

pub nothing_heard : (streams : List Pending) (place : Place) → position (is_at place) streams ≡ None → Hears heard.NotYet (bytes_of streams place) (bytes_of streams place)
nothing_heard streams place none = none-hears (bytes_of streams place) (none-found streams place none)

pub same_kept : (streams : List Pending) (place : Place) → IsKept (bytes_of streams) place (bytes_of streams place) (bytes_of streams)
unfolding IsKept
same_kept streams place other = by (same_place other place) refl
  where
    by : (b : Bool) → same_place other place ≡ b → bytes_of streams other ≡ (if b then bytes_of streams place else bytes_of streams other)
    by true e = ap (bytes_of streams) (same_place-is other place e)
    by false e = refl

pub kept_at : (before : Place → Bytes) (place : Place) (bytes : Bytes) (after : Place → Bytes) → IsKept before place bytes after → after place ≡ bytes
unfolding IsKept
kept_at before place bytes after kept = kept place ∙ ap (λ (b : Bool). if b then bytes else before place) (same_place-self place)

pub kept_as : (before : Place → Bytes) (place : Place) (bytes : Bytes) (after : Place → Bytes) → IsKept before place bytes after → IsKept before place (after place) after
kept_as before place bytes after kept = subst (λ (b : Bytes). IsKept before place b after) (sym (kept_at before place bytes after kept)) kept

through : (b : Bool) (first second before mid after : Bytes) → mid ≡ (if b then first else before) → after ≡ (if b then second else mid) → after ≡ (if b then second else before)
through true first second before mid after one two = two
through false first second before mid after one two = two ∙ one

-- what is kept last of the place counts
pub kept_through : (before mid after : Place → Bytes) (place : Place) (first second : Bytes) → IsKept before place first mid → IsKept mid place second after → IsKept before place second after
unfolding IsKept
kept_through before mid after place first second one two other = through (same_place other place) first second (before other) (mid other) (after other) (one other) (two other)

-- the stream of the place is changed to this
next-here : (streams : List Pending) (place : Place) (i : ℕ) (d : Pending) (bytes : Bytes) → position (is_at place) streams ≡ Some i → bytes_of (with_bytes streams i d bytes) place ≡ bytes
next-here streams place i d bytes at = kept_at (bytes_of streams) place bytes (bytes_of (with_bytes streams i d bytes)) (changed_kept streams place bytes i d at)

pub next_hears : (h : Heard) (streams : List Pending) (place : Place) (i : ℕ) (d : Pending) (bytes : Bytes) → position (is_at place) streams ≡ Some i → Hears h (get_or streams i d).stream bytes
    → Hears h (bytes_of streams place) (bytes_of (with_bytes streams i d bytes) place)
next_hears h streams place i d bytes at hears = rw (bytes_found streams place i d at, next-here streams place i d bytes at) hears

pub next_kept : (streams : List Pending) (place : Place) (i : ℕ) (d : Pending) (bytes : Bytes) → position (is_at place) streams ≡ Some i
    → IsKept (bytes_of streams) place (bytes_of (with_bytes streams i d bytes) place) (bytes_of (with_bytes streams i d bytes))
next_kept streams place i d bytes at =
    subst (λ (x : Bytes). IsKept (bytes_of streams) place x (bytes_of (with_bytes streams i d bytes))) (sym (next-here streams place i d bytes at)) (changed_kept streams place bytes i d at)

less-by : ((text : Bytes) → len_of (front_of text) ≤ length text) → (h : Heard) (old new : Bytes) (message : Message) → h ≡ heard.Message message → Hears h old new → length new < length old
less-by whole h old new message e hears =
    let (len, front, is) = rw e at hears in
    rw is (taken_less whole old len message front)

pub next_less : ((text : Bytes) → len_of (front_of text) ≤ length text) → (h : Heard) (streams : List Pending) (place : Place) (i : ℕ) (d : Pending) (bytes : Bytes) (message : Message) → position (is_at place) streams ≡ Some i
    → Hears h (get_or streams i d).stream bytes → h ≡ heard.Message message → length (bytes_of (with_bytes streams i d bytes) place) < length (bytes_of streams place)
next_less whole h streams place i d bytes message at hears is =
    rw (bytes_found streams place i d at, next-here streams place i d bytes at) (less-by whole h (get_or streams i d).stream bytes message is hears)
