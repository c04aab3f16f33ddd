-- A poll over sockets keeps what every edge promises.
use Rattle.std.proofs.Common.{◌≡◌, ℕ, ◌≤◌, Bool, true, false, ◌&&◌, ◌||◌, Option, Some, None, refl, ap, sym, ◌∙◌, subst, arith}
use Rattle.std.proofs.lemmas.Bool.{false≢true}
use Rattle.sc_value.specs.declared.ids.Place.{Place}
use Rattle.sc_value.specs.declared.ids.Place.TheVariants.{Back, To}
use Rattle.sc_value.specs.Places.{same_place}
use Rattle.sc_value.proofs.PlaceLaws.{same_place-is}
use Rattle.sc_edge.specs.Edges.{Stands, Stays, is_back}
use Rattle.sc_edge.specs.EdgeCalls.{Ends, Halts, Names, PollBlames}
use Rattle.sc_edge.specs.Faults.{Rose}
use Rattle.sc_edge.specs.declared.edge.Got.{Got}
use Rattle.sc_edge.specs.declared.edge.Got.TheVariants as got
use Rattle.sc_sockets.specs.Calls.{Gives, Grows, Polls, with_poll_counted as polled}
use Rattle.sc_sockets.specs.Lines.{Known, edge_state, place_after_end as ended, place_after_failure as failed, is_barred_at, is_cut_at, is_given, is_heard, is_kept_ended, is_read_at, is_silent_at, line_at}
use Rattle.sc_sockets.specs.declared.line.Change.TheVariants.{Halted}
use Rattle.sc_sockets.specs.declared.line.Line.{Line}
use Rattle.sc_sockets.proofs.LineLaws.{line_after, settled_self}
use Rattle.sc_sockets.proofs.GrowLaws.{Touches, and_of, both, by_test, others_stand, others_stay, stands_then, stays_then, touches_ended, touches_failed, quiet_after}
use Rattle.sc_sockets.proofs.PutLaws.{cut_failed, failed_fails}

-- ## A place that is read isn't silent

heard_line : (found : Option Line) → is_read_at found ≡ true → is_silent_at found ≡ false
heard_line None e = cc
heard_line (Some line) e = rw e refl

silent_by : (a b : Bool) → b ≡ false → (a && b) ≡ false
silent_by true b e = e
silent_by false b e = refl

heard_speaks : (known : Known) (place : Place) → is_heard known place ≡ true → (edge_state known).is_silent place ≡ false
heard_speaks known place heard =
    silent_by (is_given known.last place) (is_silent_at (line_at known place)) (heard_line (line_at known place) (both (is_given known.last place) (is_read_at (line_at known place)) heard).1)

heard_given : (known : Known) (place : Place) → is_heard known place ≡ true → is_given known.last place ≡ true
heard_given known place heard = (both (is_given known.last place) (is_read_at (line_at known place)) heard).0

not_so : (b : Bool) → (b ≡ true → false ≡ true) → b ≡ false
not_so true e = absurd (false≢true (e refl))
not_so false e = refl

-- before the poll's read it wasn't silent either
spoke : (old mid : Known) (place : Place) → Grows old mid → is_heard mid place ≡ true → (edge_state old).is_silent place ≡ false
spoke old mid place grows heard = not_so ((edge_state old).is_silent place) (λ silent. sym (heard_speaks mid place heard) ∙ (grows.stays place silent).0)

-- ## The end of a place

ended_line : (place : Place) (known : Known) → line_at (ended place known) place ≡ line_after (is_kept_ended place (line_at known place)) Halted (line_at known place)
unfolding ended
ended_line place known = settled_self (is_kept_ended place (line_at known place)) Halted place known.lines

ended_last : (place : Place) (known : Known) → (ended place known).last ≡ known.last
unfolding ended
ended_last place known = refl

or_right : (a b : Bool) → b ≡ true → (a || b) ≡ true
or_right true b e = refl
or_right false b e = e

bars : (place : Place) (found : Option Line) → is_back place ≡ false → is_cut_at found ≡ true → is_barred_at place (line_after (is_kept_ended place found) Halted found) ≡ true
bars (Back number) found peer cut = absurd (false≢true (sym peer))
bars (To ip port) None peer cut = cut
bars (To ip port) (Some line) peer cut = rw cut (or_right line.is_barred true refl)

cut_by : (line : Line) (cut : Bool) → line.is_cut ≡ cut → is_cut_at (line_after line.is_cut Halted (Some line)) ≡ line.is_cut
cut_by line true e = rw e refl
cut_by line false e = rw e refl

cut_halted : (place : Place) (found : Option Line) → is_back place ≡ false → is_cut_at (line_after (is_kept_ended place found) Halted found) ≡ is_cut_at found
cut_halted (Back number) found e = absurd (false≢true (sym e))
cut_halted (To ip port) None e = refl
cut_halted (To ip port) (Some line) e = cut_by line line.is_cut refl

cut_ended : (place : Place) (known : Known) → is_back place ≡ false → is_cut_at (line_at (ended place known) place) ≡ is_cut_at (line_at known place)
cut_ended place known e = ap (λ (line : Option Line). is_cut_at line) (ended_line place known) ∙ cut_halted place (line_at known place) e

ended_halts : (old mid : Known) (place : Place) → Grows old mid → is_given mid.last place ≡ true → Halts (edge_state old) (edge_state (ended place mid)) place
ended_halts old mid place grows given = (
  and_of (is_given (ended place mid).last place) (is_silent_at (line_at (ended place mid) place)) (rw (ended_last place mid) given)
      (rw (ended_line place mid) (quiet_after (is_kept_ended place (line_at mid place)) (line_at mid place))),
  λ peer cut. and_of (is_given (ended place mid).last place) (is_barred_at place (line_at (ended place mid) place)) (rw (ended_last place mid) given)
      (rw (ended_line place mid) (bars place (line_at mid place) peer ((grows.stands place).1 peer ∙ cut))),
)

-- ## All places

-- what happens at a place that isn't silent
place_stays : (to place : Place) (mid new : Known) → Touches to mid new → (edge_state mid).is_silent to ≡ false → Stays (edge_state mid) (edge_state new) place
place_stays to place mid new t speaks = by_test (same_place to place)
    (λ is. subst (λ (p : Place). Stays (edge_state mid) (edge_state new) p) (same_place-is to place is) (λ silent. absurd (false≢true (sym speaks ∙ silent))))
    (λ other. others_stay to mid new place t other)

place_stands : (to place : Place) (mid new : Known) → Touches to mid new → (is_back to ≡ false → is_cut_at (line_at new to) ≡ is_cut_at (line_at mid to)) → Stands (edge_state mid) (edge_state new) place
place_stands to place mid new t cut = by_test (same_place to place)
    (λ is. subst (λ (p : Place). Stands (edge_state mid) (edge_state new) p) (same_place-is to place is) (refl, cut))
    (λ other. others_stand to mid new place t other)

given_stays : (mid new : Known) (answer : Got) (place : Place) → Gives mid new answer → Stays (edge_state mid) (edge_state new) place
unfolding Gives
given_stays mid new (got.Bytes at count) place (heard, e) = rw e (λ silent. (silent, λ barred. barred))
given_stays mid new (got.End at) place (heard, e) = rw e (place_stays at place mid (ended at mid) (touches_ended at mid) (heard_speaks mid at heard))
given_stays mid new (got.Failed at) place (heard, e) = rw e (place_stays at place mid (failed at mid) (touches_failed at mid) (heard_speaks mid at heard))
given_stays mid new got.Closed place gives = absurd gives
given_stays mid new got.NotYet place e = rw e (λ silent. (silent, λ barred. barred))
given_stays mid new got.Fault place gives = absurd gives

given_stands : (mid new : Known) (answer : Got) (place : Place) → Gives mid new answer → Stands (edge_state mid) (edge_state new) place
unfolding Gives
given_stands mid new (got.Bytes at count) place (heard, e) = rw e (refl, λ peer. refl)
given_stands mid new (got.End at) place (heard, e) = rw e (place_stands at place mid (ended at mid) (touches_ended at mid) (cut_ended at mid))
given_stands mid new (got.Failed at) place (heard, e) = rw e (place_stands at place mid (failed at mid) (touches_failed at mid) (cut_failed at mid))
given_stands mid new got.Closed place gives = absurd gives
given_stands mid new got.NotYet place e = rw e (refl, λ peer. refl)
given_stands mid new got.Fault place gives = absurd gives

-- ## The clauses of the answer

given_names : (old mid new : Known) (answer : Got) → Grows old mid → Gives mid new answer → Names (edge_state old) (edge_state new) answer
unfolding Gives
given_names old mid new (got.Bytes place count) grows (heard, e) = spoke old mid place grows heard
given_names old mid new (got.End place) grows (heard, e) = (spoke old mid place grows heard, rw e (ended_halts old mid place grows (heard_given mid place heard)))
given_names old mid new (got.Failed place) grows (heard, e) = (spoke old mid place grows heard, rw e (failed_fails place old mid (heard_given mid place heard)))
given_names old mid new got.Closed grows gives = absurd gives
given_names old mid new got.NotYet grows gives = tt
given_names old mid new got.Fault grows gives = absurd gives

given_counts : (mid new : Known) (answer : Got) → Gives mid new answer → (new.polls ≡ mid.polls) × (new.faults ≡ mid.faults)
unfolding Gives
given_counts mid new (got.Bytes place count) (heard, e) = rw e (refl, refl)
given_counts mid new (got.End place) (heard, e) = rw e ((touches_ended place mid).polls, (touches_ended place mid).faults)
given_counts mid new (got.Failed place) (heard, e) = rw e ((touches_failed place mid).polls, (touches_failed place mid).faults)
given_counts mid new got.Closed gives = absurd gives
given_counts mid new got.NotYet e = rw e (refl, refl)
given_counts mid new got.Fault gives = absurd gives

given_blames : (old mid new : Known) (answer : Got) → Grows old mid → Gives mid new answer → ((place : Place) → answer ≡ got.Failed place → Rose mid.failures new.failures) → PollBlames (edge_state old) (edge_state new) answer
unfolding Gives
given_blames old mid new (got.Bytes place count) grows gives rose = tt
given_blames old mid new (got.End place) grows gives rose = tt
given_blames old mid new (got.Failed place) grows gives rose = subst (λ (n : ℕ). Rose n new.failures) grows.failures (rose place refl)
given_blames old mid new got.Closed grows gives rose = tt
given_blames old mid new got.NotYet grows gives rose = tt
given_blames old mid new got.Fault grows gives rose = absurd gives

given_ends : (old mid new : Known) (answer : Got) → Gives mid new answer → Ends (edge_state old) (edge_state new) answer
unfolding Gives
given_ends old mid new (got.Bytes place count) gives = (λ f. absurd (false≢true f), refl)
given_ends old mid new (got.End place) gives = (λ f. absurd (false≢true f), refl)
given_ends old mid new (got.Failed place) gives = (λ f. absurd (false≢true f), refl)
given_ends old mid new got.Closed gives = absurd gives
given_ends old mid new got.NotYet gives = (λ f. absurd (false≢true f), refl)
given_ends old mid new got.Fault gives = absurd gives

-- ## The whole

-- a poll of sockets: counted, what comes before the read, and the read
pub polls_all : (old mid new : Known) (answer : Got) → Grows (polled old) mid → Gives mid new answer → mid.failures ≤ new.failures
    → ((place : Place) → answer ≡ got.Failed place → Rose mid.failures new.failures) → Polls (edge_state old) (edge_state new) answer
polls_all old mid new answer grows gives later rose =
    let (counted, faults) = given_counts mid new answer gives in
    record {
      polls = counted ∙ grows.polls;
      later = (omega (arith, faults, grows.faults), λ place. omega (arith, later, grows.failures));
      blames = given_blames (polled old) mid new answer grows gives rose;
      ended = given_ends old mid new answer gives;
      named = given_names (polled old) mid new answer grows gives;
      stays = λ place. stays_then (polled old) mid new place (grows.stays place) (given_stays mid new answer place gives);
      stands = λ place. stands_then (polled old) mid new place (grows.stands place) (given_stands mid new answer place gives);
    }
