-- What is taken was spelled: a header that stands once, and those behind it.
use Rattle.std.proofs.Common.{◌≡◌, ℕ, Bool, true, false, Option, Some, None, Result, Ok, Err, List, [], ◌∷◌, ◌-◌, refl, sym, ap, subst, ◌∙◌, append-nil, arith}
use Rattle.std.specs.Prelude.{nat_le, is_some}
use Rattle.sc_spelling.proofs.Running.{same_lists, same_singles}
use Rattle.std.proofs.lemmas.Bool.{false≢true}
use Rattle.sc_syntax.specs.declared.left.Left.{Left}
use Rattle.sc_syntax.specs.declared.left.Lists.{Lists}
use Rattle.sc_syntax.specs.declared.left.Singles.{Singles}
use Rattle.sc_syntax.specs.declared.left.Header.{Header}
use Rattle.sc_syntax.specs.declared.left.Header.TheVariants as headers
use Rattle.sc_tokens.specs.Bytes.{Bytes}
use Rattle.sc_syntax.specs.Judging.{with_values as counted, taken_once, in_line, with_header as taken}
use Rattle.sc_spelling.proofs.Entries.{Entry, Of, values_at, fields_at, all_taken}
use Rattle.sc_spelling.proofs.Readings.{ReadsAll, ReadsOnce, Reads, held, either_of, are_apart, count, joined, merged, begins_so, Fits}
use Rattle.sc_spelling.proofs.OnceLaws.{Once, added, from_once, to_once, call_id_once, cseq_once, max_forwards_once, content_length_once}
use Rattle.sc_spelling.proofs.LineLaws.{taken_then}
use Rattle.sc_spelling.proofs.LeftLists.{Leaves, Leave, kept_same, taken_if, taken_some, no_more_than, leaves_on, via_left, route_left, record_route_left, contact_left, other_left}

pub taken_first : {X : Type 0} (t : Bool) (take : X → Result Left ℕ) (o : Option X) (next : Left) → taken_once t take o ≡ Ok next → (t ≡ false) × (x : X) × (o ≡ Some x) × (take x ≡ Ok next)
unfolding taken_once
taken_first true take o next h = let bad : ◌≡◌ {A = Result Left ℕ} (Err 8) (Ok next) = h in cc
taken_first false take o next h = let is = taken_some take o next h in (refl, is.0, is.1, is.2)

none_before : {X : Type 0} (o : Option X) → is_some o ≡ false → o ≡ None
none_before None h = refl
none_before (Some x) h = absurd (false≢true (sym h))

none_behind : {X : Type 0} (x : X) (o : Option X) → are_apart (Some x) o ≡ true → o ≡ None
unfolding are_apart
none_behind x None h = refl
none_behind x (Some y) h = absurd (false≢true h)

no_values : {X : Type 0} (read : Bytes → Option X) (values : List Bytes) (o : Option X) → o ≡ None → ReadsOnce read values o → values ≡ []
unfolding ReadsOnce
no_values read [] o is h = refl
no_values read (value ∷ []) o is h = let bad : ◌≡◌ {A = Option _} None (Some h.0) = sym is ∙ h.2 in cc
no_values read (value ∷ next ∷ more) o is h = absurd h

one_value : {X : Type 0} (read : Bytes → Option X) (value : Bytes) (values : List Bytes) (x : X) → in_line read value ≡ Some x → values ≡ [] → ReadsOnce read (value ∷ values) (Some x)
unfolding ReadsOnce
one_value read value values x h is = subst (λ (vs : List Bytes). ReadsOnce read (value ∷ vs) (Some x)) (sym is) (x, h, refl)

pub once_left : {X : Type 0} (kind : Header) (once : Once kind X) (name value : Bytes) (entries : List Entry) → Leave entries → Leave (Of kind name value ∷ entries)
unfolding all_taken counted added held either_of are_apart
once_left kind once name value entries leave left final begun h =
    let one = taken_then (taken left name kind value) (λ next. all_taken next entries) final h in
    let is = taken_first (is_some (once.kept left.singles)) (added once.put left) (in_line once.read value) one.0 (sym (once.taken_so left name value) ∙ one.1) in
    let free = none_before (once.kept left.singles) is.0 in
    let next : Left = record left { room = left.room - 1; singles = once.put (Some is.1) left.singles } in
    let fit = taken_if (nat_le 1 left.room) (Ok next) 11 one.0 is.3 in
    let room = no_more_than 1 left.room fit.0 in
    let rest = leave next final begun (ap (λ n. all_taken n entries) (kept_same next one.0 fit.1) ∙ one.2) in
    let none = none_behind is.1 (once.kept rest.singles) (ap (λ o. are_apart o (once.kept rest.singles)) (sym (once.kept_put (Some is.1) left.singles)) ∙ once.apart next rest.lists rest.singles rest.fits) in
    let none_held : held (once.kept rest.singles) ≡ 0 = ap held none in
    let more = once.counts rest.lists (Some is.1) rest.singles in
    let less = rest.fits.room in
    let singles : Singles = once.put (Some is.1) rest.singles in
    let empty = no_values once.read (values_at kind entries) (once.kept rest.singles) none (once.reads_once entries rest.lists rest.singles rest.reads) in
    let behind = once.reads_more name value entries rest.lists rest.singles (Some is.1) rest.reads (one_value once.read value (values_at kind entries) is.1 is.2 empty) in
    let before = once.fits_at next rest.lists rest.singles left.room (once.kept left.singles) (Some is.1) rest.fits (omega (arith, less, room, more, none_held)) (ap (λ o. are_apart o (Some is.1)) free) in
    let fits : Fits left rest.lists singles = subst (λ (s : Singles). Fits (record left { singles = s }) rest.lists singles) (once.put_back (Some is.1) left.singles) before in
    let all : merged next.singles rest.singles ≡ merged left.singles singles =
    ap (merged next.singles) (sym (once.put_back (Some is.1) rest.singles)) ∙ once.merges left.singles singles (Some is.1) (once.kept rest.singles) (sym (ap (λ o. either_of o (once.kept singles)) free ∙ once.kept_put (Some is.1) rest.singles)) in
    leaves_on left next final kind name value entries rest.lists singles rest behind fits refl all

-- ## All headers

apart_nothing : {X : Type 0} (o : Option X) → are_apart o None ≡ true
unfolding are_apart
apart_nothing None = refl
apart_nothing (Some x) = refl

either_nothing : {X : Type 0} (o : Option X) → o ≡ either_of o None
unfolding either_of
either_nothing None = refl
either_nothing (Some x) = refl

nothing_in : (left final : Left) → begins_so left.lists.via ≡ true → all_taken left [] ≡ Ok final → Leaves [] left final
unfolding values_at fields_at ReadsAll ReadsOnce all_taken count held
nothing_in left final begun h =
    let lists : Lists = record { via = []; route = []; record_route = []; contact = []; others = [] } in
    let singles : Singles = record { from = None; to = None; call_id = None; cseq = None; hops = None; length = None } in
    let behind : Reads [] lists singles = record { via = refl; route = refl; record_route = refl; contact = refl; others = (refl, refl); from = refl; to = refl; call_id = refl; cseq = refl; max_forwards = refl; content_length = refl } in
    let fits : Fits left lists singles = record {
      room = omega arith;
      begun = ap begins_so (append-nil left.lists.via) ∙ begun;
      from = apart_nothing left.singles.from;
      to = apart_nothing left.singles.to;
      call_id = apart_nothing left.singles.call_id;
      cseq = apart_nothing left.singles.cseq;
      max_forwards = apart_nothing left.singles.hops;
      content_length = apart_nothing left.singles.length;
    } in
    let same = kept_same left final h in
    record {
      lists = lists;
      singles = singles;
      reads = behind;
      fits = fits;
      lists_are = ap (λ (l : Left). l.lists) (sym same)
          ∙ same_lists left.lists (joined left.lists lists) (sym (append-nil left.lists.via)) (sym (append-nil left.lists.route)) (sym (append-nil left.lists.record_route)) (sym (append-nil left.lists.contact)) (sym (append-nil left.lists.others));
      singles_are = ap (λ (l : Left). l.singles) (sym same)
          ∙ same_singles left.singles (merged left.singles singles) (either_nothing left.singles.from) (either_nothing left.singles.to) (either_nothing left.singles.call_id) (either_nothing left.singles.cseq) (either_nothing left.singles.hops) (either_nothing left.singles.length);
    }

pub all_left : (entries : List Entry) → Leave entries
all_left [] = nothing_in
all_left (Of headers.Via name value ∷ more) = via_left name value more (all_left more)
all_left (Of headers.Route name value ∷ more) = route_left name value more (all_left more)
all_left (Of headers.RecordRoute name value ∷ more) = record_route_left name value more (all_left more)
all_left (Of headers.Contact name value ∷ more) = contact_left name value more (all_left more)
all_left (Of headers.From name value ∷ more) = once_left headers.From from_once name value more (all_left more)
all_left (Of headers.To name value ∷ more) = once_left headers.To to_once name value more (all_left more)
all_left (Of headers.CallId name value ∷ more) = once_left headers.CallId call_id_once name value more (all_left more)
all_left (Of headers.CSeq name value ∷ more) = once_left headers.CSeq cseq_once name value more (all_left more)
all_left (Of headers.MaxForwards name value ∷ more) = once_left headers.MaxForwards max_forwards_once name value more (all_left more)
all_left (Of headers.ContentLength name value ∷ more) = once_left headers.ContentLength content_length_once name value more (all_left more)
all_left (Of headers.Other name value ∷ more) = other_left name value more (all_left more)
