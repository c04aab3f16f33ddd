-- What stays of the places that nothing happens at.
use Rattle.std.proofs.Common.{◌≡◌, ℕ, ◌+◌, ◌≤◌, ◌⊎◌, inl, inr, Bool, true, false, ◌&&◌, ◌||◌, cond, Option, Some, None, List, refl, ap, sym, ◌∙◌, subst, arith}
use Rattle.std.specs.List.{find}
use Rattle.std.proofs.lemmas.Bool.{false≢true}
use Rattle.std.proofs.lemmas.Bool.Decides.{nat_tests}
use Rattle.sc_value.specs.declared.ids.Place.{Place}
use Rattle.sc_value.specs.declared.ids.Place.TheVariants.{Back, To}
use Rattle.sc_value.specs.Places.{same_place}
use Rattle.sc_value.proofs.PlaceLaws.{same_place-is}
use Rattle.sc_edge.specs.Edges.{Stands, Stays, is_back}
use Rattle.sc_edge.specs.EdgeCalls.{Shuts}
use Rattle.sc_sockets.specs.Calls.{Grows}
use Rattle.sc_sockets.specs.Lines.{Known, after_accept as accepted, edge_state, place_after_end as ended, place_after_failure as failed, fresh, is_barred_at, is_cut_at, is_given, is_kept_ended, is_kept_failed, is_kept_shut, is_of, is_silent_at, last_after, line_at, after_opening as opened, opened_lines, after_service as served, lines_with as settled, place_after_close as shut}
use Rattle.sc_sockets.specs.declared.line.Change.TheVariants.{Halted, Part, Pardoned, Reopened}
use Rattle.sc_sockets.specs.declared.line.Line.{Line}
use Rattle.sc_sockets.proofs.LineLaws.{added_other, line_after, settled_other, settled_self}

pub both : (a b : Bool) → (a && b) ≡ true → (a ≡ true) × (b ≡ true)
both true b e = (refl, e)
both false b e = cc

pub and_of : (a b : Bool) → a ≡ true → b ≡ true → (a && b) ≡ true
and_of a b e f = rw (e, f) refl

pub by_test : {A : Type 0} (b : Bool) → (b ≡ true → A) → (b ≡ false → A) → A
by_test true first second = first refl
by_test false first second = second refl

-- ## Numbers that were given

given_later : (last last2 : ℕ) (place : Place) → last ≤ last2 → is_given last place ≡ true → is_given last2 place ≡ true
given_later last last2 (To ip port) le e = refl
given_later last last2 (Back number) le e =
    let within : number ≤ last = grind (arith, nat_tests) in grind (arith, nat_tests)

-- ## A place where nothing happened

-- a place of which the same is known, and no fewer numbers were given
pub same_stays : (old new : Known) (place : Place) → old.last ≤ new.last → (is_given old.last place ≡ true → line_at new place ≡ line_at old place) → Stays (edge_state old) (edge_state new) place
same_stays old new place le same = λ silent.
    let (given, quiet) = both (is_given old.last place) (is_silent_at (line_at old place)) silent in
    let now = given_later old.last new.last place le given in (
      and_of (is_given new.last place) (is_silent_at (line_at new place)) now (rw (same given) quiet),
      λ barred. and_of (is_given new.last place) (is_barred_at place (line_at new place)) now (rw (same given) (both (is_given old.last place) (is_barred_at place (line_at old place)) barred).1),
    )

pub stays_then : (a b c : Known) (place : Place) → Stays (edge_state a) (edge_state b) place → Stays (edge_state b) (edge_state c) place → Stays (edge_state a) (edge_state c) place
stays_then a b c place first later = λ silent.
    let (quiet, shut) = first silent in let (still, kept) = later quiet in (still, λ barred. kept (shut barred))

pub stands_then : (a b c : Known) (place : Place) → Stands (edge_state a) (edge_state b) place → Stands (edge_state b) (edge_state c) place → Stands (edge_state a) (edge_state c) place
stands_then a b c place first later = (refl, λ peer. later.1 peer ∙ first.1 peer)

-- ## What happens at one place

-- something happened at one place alone, and no number was given
pub record Touches (to : Place) (old new : Known) : Type 0 where
  pub polls : new.polls ≡ old.polls
  pub faults : new.faults ≡ old.faults
  pub last : new.last ≡ old.last
  pub others : (place : Place) → same_place to place ≡ false → line_at new place ≡ line_at old place

pub touches_same : (to : Place) (known : Known) → Touches to known known
touches_same to known = record { polls = refl; faults = refl; last = refl; others = λ place other. refl }

pub touches_then : (to : Place) (a b c : Known) → Touches to a b → Touches to b c → Touches to a c
touches_then to a b c first later = record {
  polls = later.polls ∙ first.polls;
  faults = later.faults ∙ first.faults;
  last = later.last ∙ first.last;
  others = λ place other. later.others place other ∙ first.others place other;
}

pub touches_ended : (to : Place) (known : Known) → Touches to known (ended to known)
unfolding ended
touches_ended to known = record { polls = refl; faults = refl; last = refl; others = λ place other. settled_other (is_kept_ended to (line_at known to)) Halted to place known.lines other }

pub touches_failed : (to : Place) (known : Known) → Touches to known (failed to known)
unfolding failed
touches_failed to known = record { polls = refl; faults = refl; last = refl; others = λ place other. settled_other (is_kept_failed to (line_at known to)) Pardoned to place known.lines other }

served-by : (to : Place) (count len : ℕ) (known : Known) (b : Bool) → Touches to known (cond b known (record known { lines = settled true (Part count len) to known.lines }))
served-by to count len known true = touches_same to known
served-by to count len known false = record { polls = refl; faults = refl; last = refl; others = λ place other. settled_other true (Part count len) to place known.lines other }

pub touches_served : (to : Place) (count len : ℕ) (known : Known) → Touches to known (served to count len known)
unfolding served
touches_served to count len known = served-by to count len known (is_back to)

opened-by : (to place : Place) (lines : List Line) (found : Option Line) → same_place to place ≡ false → find (is_of place) (opened_lines to found lines) ≡ find (is_of place) lines
opened-by to place lines None other = added_other place (fresh to) lines other
opened-by to place lines (Some line) other = settled_other true Reopened to place lines other

pub touches_opened : (to : Place) (known : Known) → Touches to known (opened to known)
unfolding opened
touches_opened to known = record { polls = refl; faults = refl; last = refl; others = λ place other. opened-by to place known.lines (line_at known to) other }

pub others_stay : (to : Place) (old new : Known) (place : Place) → Touches to old new → same_place to place ≡ false → Stays (edge_state old) (edge_state new) place
others_stay to old new place t other = same_stays old new place (omega (arith, t.last)) (λ given. t.others place other)

pub others_stand : (to : Place) (old new : Known) (place : Place) → Touches to old new → same_place to place ≡ false → Stands (edge_state old) (edge_state new) place
others_stand to old new place t other = (refl, λ peer. ap (λ (line : Option Line). is_cut_at line) (t.others place other))

-- ## A connection that comes

given_apart : (last : ℕ) (place : Place) → is_given last place ≡ true → same_place (Back (last + 1)) place ≡ false
unfolding same_place
given_apart last (To ip port) e = refl
given_apart last (Back number) e =
    let within : number ≤ last = grind (arith, nat_tests) in grind (arith, nat_tests)

accepted_same : (known : Known) (place : Place) → is_given known.last place ≡ true → line_at (accepted known) place ≡ line_at known place
accepted_same known place given = added_other place (fresh (Back (known.last + 1))) known.lines (given_apart known.last place given)

accepted_stands : (known : Known) (place : Place) → is_back place ≡ false → is_cut_at (line_at (accepted known) place) ≡ is_cut_at (line_at known place)
accepted_stands known (Back number) peer = absurd (false≢true (sym peer))
accepted_stands known (To ip port) peer = ap (λ (line : Option Line). is_cut_at line) (accepted_same known (To ip port) refl)

grows_accepted : (known : Known) → Grows known (accepted known)
grows_accepted known = record {
  polls = refl;
  faults = refl;
  failures = refl;
  stays = λ place. same_stays known (accepted known) place (omega arith) (accepted_same known place);
  stands = λ place. (refl, accepted_stands known place);
}

-- ## A place that is closed

pub quiet_after : (is_kept : Bool) (found : Option Line) → is_silent_at (line_after is_kept Halted found) ≡ true
quiet_after true None = refl
quiet_after true (Some line) = refl
quiet_after false found = refl

given_shut : (last : ℕ) (place : Place) → is_given (last_after last place) place ≡ true
given_shut last (To ip port) = refl
given_shut last (Back number) = grind (arith, nat_tests)

last_later : (last : ℕ) (place : Place) → last ≤ last_after last place
last_later last (To ip port) = omega arith
last_later last (Back number) = omega arith

shut_line : (place : Place) (known : Known) → line_at (shut place known) place ≡ line_after (is_kept_shut place (line_at known place)) Halted (line_at known place)
unfolding shut
shut_line place known = settled_self (is_kept_shut place (line_at known place)) Halted place known.lines

shut_last : (place : Place) (known : Known) → (shut place known).last ≡ last_after known.last place
unfolding shut
shut_last place known = refl

shut_others : (at place : Place) (known : Known) → same_place at place ≡ false → line_at (shut at known) place ≡ line_at known place
unfolding shut
shut_others at place known other = settled_other (is_kept_shut at (line_at known at)) Halted at place known.lines other

pub shut_silent : (place : Place) (known : Known) → (edge_state (shut place known)).is_silent place ≡ true
shut_silent place known =
    and_of (is_given (shut place known).last place) (is_silent_at (line_at (shut place known) place))
    (rw (shut_last place known) (given_shut known.last place))
    (rw (shut_line place known) (quiet_after (is_kept_shut place (line_at known place)) (line_at known place)))

or_true : (a b : Bool) → b ≡ true → (a || b) ≡ true
or_true true b e = refl
or_true false b e = e

bars_none : (false ≡ true) ⊎ (false ≡ true) → false ≡ true
bars_none (inl e) = e
bars_none (inr e) = e

bars_by : (ip : List ℕ) (port : ℕ) (line : Line) (cut barred : Bool) → line.is_cut ≡ cut → line.is_barred ≡ barred → (cut ≡ true) ⊎ (barred ≡ true)
    → is_barred_at (To ip port) (line_after (is_kept_shut (To ip port) (Some line)) Halted (Some line)) ≡ true
bars_by ip port line true barred c b why = rw c (or_true line.is_barred true refl)
bars_by ip port line false true c b why = rw (c, b) refl
bars_by ip port line false false c b (inl e) = cc
bars_by ip port line false false c b (inr e) = cc

-- a peer's place that is closed is barred, and so is an address that was barred or cut
bars : (place : Place) (found : Option Line) → (is_back place ≡ false → (is_cut_at found ≡ true) ⊎ (is_barred_at place found ≡ true)) → is_barred_at place (line_after (is_kept_shut place found) Halted found) ≡ true
bars (Back number) found why = refl
bars (To ip port) None why = bars_none (why refl)
bars (To ip port) (Some line) why = bars_by ip port line line.is_cut line.is_barred refl refl (why refl)

pub shut_barred : (place : Place) (known : Known) → (is_back place ≡ false → (is_cut_at (line_at known place) ≡ true) ⊎ (is_barred_at place (line_at known place) ≡ true)) → (edge_state (shut place known)).is_barred place ≡ true
shut_barred place known why =
    and_of (is_given (shut place known).last place) (is_barred_at place (line_at (shut place known) place))
    (rw (shut_last place known) (given_shut known.last place))
    (rw (shut_line place known) (bars place (line_at known place) why))

pub shut_shuts : (place : Place) (known : Known) → Shuts (edge_state known) (edge_state (shut place known)) place
shut_shuts place known = (
  (shut_silent place known, λ peer cut. shut_barred place known (λ _. inl cut)),
  λ back. shut_barred place known (λ peer. absurd (false≢true (sym peer ∙ back))),
)

self_stays : (place : Place) (known : Known) → Stays (edge_state known) (edge_state (shut place known)) place
self_stays place known = λ silent. (shut_silent place known, λ barred. shut_barred place known (λ _. inr (both (is_given known.last place) (is_barred_at place (line_at known place)) barred).1))

cut_by : (ip : List ℕ) (port : ℕ) (line : Line) (cut barred : Bool) → line.is_cut ≡ cut → line.is_barred ≡ barred
    → is_cut_at (line_after (is_kept_shut (To ip port) (Some line)) Halted (Some line)) ≡ line.is_cut
cut_by ip port line true barred c b = rw c refl
cut_by ip port line false true c b = rw (c, b) refl
cut_by ip port line false false c b = rw (c, b) refl

cut_shut : (place : Place) (found : Option Line) → is_back place ≡ false → is_cut_at (line_after (is_kept_shut place found) Halted found) ≡ is_cut_at found
cut_shut (Back number) found peer = absurd (false≢true (sym peer))
cut_shut (To ip port) None peer = refl
cut_shut (To ip port) (Some line) peer = cut_by ip port line line.is_cut line.is_barred refl refl

self_stands : (place : Place) (known : Known) → Stands (edge_state known) (edge_state (shut place known)) place
self_stands place known = (refl, λ peer. ap (λ (line : Option Line). is_cut_at line) (shut_line place known) ∙ cut_shut place (line_at known place) peer)

shut_stays : (at place : Place) (known : Known) → Stays (edge_state known) (edge_state (shut at known)) place
shut_stays at place known = by_test (same_place at place)
    (λ is. subst (λ (p : Place). Stays (edge_state known) (edge_state (shut at known)) p) (same_place-is at place is) (self_stays at known))
    (λ other. same_stays known (shut at known) place (rw (shut_last at known) (last_later known.last at)) (λ given. shut_others at place known other))

shut_stands : (at place : Place) (known : Known) → Stands (edge_state known) (edge_state (shut at known)) place
shut_stands at place known = by_test (same_place at place)
    (λ is. subst (λ (p : Place). Stands (edge_state known) (edge_state (shut at known)) p) (same_place-is at place is) (self_stands at known))
    (λ other. (refl, λ peer. ap (λ (line : Option Line). is_cut_at line) (shut_others at place known other)))

shut_counts : (at : Place) (known : Known) → ((shut at known).polls ≡ known.polls) × ((shut at known).faults ≡ known.faults) × ((shut at known).failures ≡ known.failures)
unfolding shut
shut_counts at known = (refl, refl, refl)

-- ## What comes before a read

pub grows_same : (known : Known) → Grows known known
grows_same known = record { polls = refl; faults = refl; failures = refl; stays = λ place silent. (silent, λ barred. barred); stands = λ place. (refl, λ peer. refl) }

pub grows_then : (a b c : Known) → Grows a b → Grows b c → Grows a c
grows_then a b c first later = record {
  polls = later.polls ∙ first.polls;
  faults = later.faults ∙ first.faults;
  failures = later.failures ∙ first.failures;
  stays = λ place. stays_then a b c place (first.stays place) (later.stays place);
  stands = λ place. stands_then a b c place (first.stands place) (later.stands place);
}

pub grows_shut : (at : Place) (known : Known) → Grows known (shut at known)
grows_shut at known = record {
  polls = (shut_counts at known).0;
  faults = (shut_counts at known).1;
  failures = (shut_counts at known).2;
  stays = λ place. shut_stays at place known;
  stands = λ place. shut_stands at place known;
}

pub grows_left : (at : Place) (old new : Known) → new ≡ shut at old → Grows old new
grows_left at old new e = rw e (grows_shut at old)

pub grows_taken : (old new : Known) → (new ≡ old) ⊎ (new ≡ accepted old) → Grows old new
grows_taken old new (inl same) = rw same (grows_same old)
grows_taken old new (inr more) = rw more (grows_accepted old)
