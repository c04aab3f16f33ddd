-- What a put comes to, by what it meets.
use Rattle.std.proofs.Common.{◌≡◌, ℕ, ◌≤◌, inl, inr, Bool, true, false, cond, Option, Some, None, List, refl, ap, sym, ◌∙◌, arith}
use Rattle.std.specs.List.{find}
use Rattle.std.proofs.lemmas.Bool.{false≢true}
use Rattle.sc_value.specs.declared.ids.Place.{Place}
use Rattle.sc_value.specs.declared.ids.Place.TheVariants.{Back, To}
use Rattle.sc_value.specs.Places.{same_place}
use Rattle.sc_edge.specs.Edges.{CountsOn, Stands, Stays, is_back}
use Rattle.sc_edge.specs.EdgeCalls.{Fails, IsNoPoll, Leaves, cut_after}
use Rattle.sc_edge.specs.Faults.{Rose}
use Rattle.sc_edge.specs.declared.edge.Put.{Put}
use Rattle.sc_edge.specs.declared.edge.Put.TheVariants as put
use Rattle.sc_sockets.specs.Calls.{PutBy, after_put}
use Rattle.sc_sockets.specs.Lines.{Known, after, edge_state, place_after_failure as failed, fresh, is_barred_at, is_cut_at, is_given, is_kept_failed, is_of, is_silent_at, line_at, after_opening as opened, opened_lines, after_service as served, lines_with as settled, standing, standing_in, standing_of}
use Rattle.sc_sockets.specs.declared.line.Change.TheVariants.{Part, Pardoned, Reopened}
use Rattle.sc_sockets.specs.declared.line.Line.{Line}
use Rattle.sc_sockets.specs.declared.line.Standing.{Standing}
use Rattle.sc_sockets.specs.declared.line.Standing.TheVariants.{Unborn, Gone, Closed, Open}
use Rattle.sc_sockets.proofs.LineLaws.{added_self, line_after, settled_self}
use Rattle.sc_sockets.proofs.GrowLaws.{Touches, and_of, both, others_stand, others_stay, touches_failed, touches_opened, touches_same, touches_served, touches_then}

-- ## The code's cases

pub put_unborn : (s : Standing) (old : Known) (to : Place) (len : ℕ) → s ≡ Unborn → PutBy s old old to len put.NotYet
unfolding PutBy
put_unborn s old to len is = rw is (refl, refl)

after_failed : (old new : Known) (to : Place) (len : ℕ) (result : Put) → result ≡ put.Failed → new ≡ after_put to len result old → new ≡ failed to old
after_failed old new to len result is e = rw is at e

pub put_gone : (s : Standing) (old new : Known) (to : Place) (len : ℕ) (result : Put) → s ≡ Gone → result ≡ put.Failed → new ≡ after_put to len result old → PutBy s old new to len result
unfolding PutBy
put_gone s old new to len result is f e = rw is (f, after_failed old new to len result f e)

-- a put where nothing is connected
pub put_fails : (s : Standing) (old new : Known) (to : Place) (len : ℕ) → (s ≡ Unborn → ⊥) → new ≡ failed to old → PutBy s old new to len put.Failed
unfolding PutBy
put_fails Unborn old new to len born e = absurd (born refl)
put_fails Gone old new to len born e = (refl, e)
put_fails Closed old new to len born e = inr (refl, e)
put_fails Open old new to len born e = e

pub put_open : (s : Standing) (old new : Known) (to : Place) (len : ℕ) (result : Put) → s ≡ Open → new ≡ after_put to len result old → PutBy s old new to len result
unfolding PutBy
put_open s old new to len result is e = rw is e

pub put_unopened : (old new : Known) (to : Place) (len : ℕ) (result : Put) → result ≡ put.Failed → new ≡ after_put to len result old → PutBy Closed old new to len result
unfolding PutBy
put_unopened old new to len result f e = inr (f, after_failed old new to len result f e)

pub put_opened : (old mid new : Known) (to : Place) (len : ℕ) (result : Put) → mid ≡ opened to old → new ≡ after_put to len result mid → PutBy Closed old new to len result
unfolding PutBy
put_opened old mid new to len result is e = inl (rw is at e)

-- ## What happens at the place alone

touches_put : (to : Place) (len : ℕ) (result : Put) (known : Known) → Touches to known (after_put to len result known)
touches_put to len (put.Wrote count) known = touches_served to count len known
touches_put to len put.NotYet known = touches_same to known
touches_put to len put.Failed known = touches_failed to known

touches_by : (s : Standing) (old new : Known) (to : Place) (len : ℕ) (result : Put) → PutBy s old new to len result → Touches to old new
unfolding PutBy
touches_by Unborn old new to len result (r, e) = rw e (touches_same to old)
touches_by Gone old new to len result (r, e) = rw e (touches_failed to old)
touches_by Open old new to len result e = rw e (touches_put to len result old)
touches_by Closed old new to len result (inl e) = rw e (touches_then to old (opened to old) (after_put to len result (opened to old)) (touches_opened to old) (touches_put to len result (opened to old)))
touches_by Closed old new to len result (inr (r, e)) = rw e (touches_failed to old)

pub put_touches : (old new : Known) (to : Place) (len : ℕ) (result : Put) → PutBy (standing old to) old new to len result → Touches to old new
put_touches old new to len result by = touches_by (standing old to) old new to len result by

pub put_stays : (old new : Known) (to place : Place) (len : ℕ) (result : Put) → PutBy (standing old to) old new to len result → same_place to place ≡ false → Stays (edge_state old) (edge_state new) place
put_stays old new to place len result by other = others_stay to old new place (put_touches old new to len result by) other

pub put_stands : (old new : Known) (to place : Place) (len : ℕ) (result : Put) → PutBy (standing old to) old new to len result → same_place to place ≡ false → Stands (edge_state old) (edge_state new) place
put_stands old new to place len result by other = others_stand to old new place (put_touches old new to len result by) other

pub put_later : (old new : Known) (to : Place) (len : ℕ) (result : Put) → PutBy (standing old to) old new to len result → old.failures ≤ new.failures → CountsOn (edge_state old) (edge_state new)
put_later old new to len result by later = (omega (arith, (put_touches old new to len result by).faults), λ place. later)

pub put_polled : (old new : Known) (to : Place) (len : ℕ) (result : Put) → PutBy (standing old to) old new to len result → IsNoPoll (edge_state old) (edge_state new)
put_polled old new to len result by = ((put_touches old new to len result by).polls, refl)

-- ## What a put meets

-- a barred place is gone
gone_in : (place : Place) (line : Line) → line.is_barred ≡ true → standing_in place line ≡ Gone
gone_in place line e = rw e refl

gone_at : (place : Place) (found : Option Line) → is_barred_at place found ≡ true → standing_of place found ≡ Gone
gone_at (Back number) None e = refl
gone_at (To ip port) None e = cc
gone_at place (Some line) e = gone_in place line e

pub barred_gone : (known : Known) (to : Place) → (edge_state known).is_barred to ≡ true → standing known to ≡ Gone
barred_gone known to barred =
    let (given, is) = both (is_given known.last to) (is_barred_at to (line_at known to)) barred in
    rw given (gone_at to (line_at known to) is)

fails_by : (s : Standing) (old new : Known) (to : Place) (len : ℕ) (result : Put) → s ≡ Gone → PutBy s old new to len result → result ≡ put.Failed
unfolding PutBy
fails_by Unborn old new to len result e by = cc
fails_by Gone old new to len result e by = by.0
fails_by Closed old new to len result e by = cc
fails_by Open old new to len result e by = cc

pub put_barred : (old new : Known) (to : Place) (len : ℕ) (result : Put) → PutBy (standing old to) old new to len result → (edge_state old).is_barred to ≡ true → result ≡ put.Failed
put_barred old new to len result by barred = fails_by (standing old to) old new to len result (barred_gone old to barred) by

-- what is met at a connection that is put to: it is known
open_by : (b : Bool) (place : Place) (found : Option Line) → cond b (standing_of place found) Unborn ≡ Open → (b ≡ true) × ((line : Line) × (found ≡ Some line))
open_by false place found e = cc
open_by true (Back number) None e = cc
open_by true (To ip port) None e = cc
open_by true place (Some line) e = (refl, (line, refl))

-- a peer's place is never one without a connection
closed_in : (number : ℕ) (line : Line) (barred read : Bool) → line.is_barred ≡ barred → line.is_read ≡ read → standing_in (Back number) line ≡ Closed → ⊥
closed_in number line true read b r e = cc
closed_in number line false true b r e = cc
closed_in number line false false b r e = cc

closed_by : (b : Bool) (place : Place) (found : Option Line) → cond b (standing_of place found) Unborn ≡ Closed → (b ≡ true) × (is_back place ≡ false)
closed_by false place found e = cc
closed_by true (Back number) None e = cc
closed_by true (Back number) (Some line) e = absurd (closed_in number line line.is_barred line.is_read refl refl e)
closed_by true (To ip port) found e = (refl, refl)

gone_by : (b : Bool) (place : Place) (found : Option Line) → cond b (standing_of place found) Unborn ≡ Gone → b ≡ true
gone_by false place found e = cc
gone_by true place found e = refl

-- ## A failure at the place

failed_line : (place : Place) (known : Known) → line_at (failed place known) place ≡ line_after (is_kept_failed place (line_at known place)) Pardoned (line_at known place)
unfolding failed
failed_line place known = settled_self (is_kept_failed place (line_at known place)) Pardoned place known.lines

quiet_after : (is_kept : Bool) (found : Option Line) → is_silent_at (line_after is_kept Pardoned found) ≡ true
quiet_after true None = refl
quiet_after true (Some line) = refl
quiet_after false found = refl

barred_after : (place : Place) (found : Option Line) → is_back place ≡ true → is_barred_at place (line_after (is_kept_failed place found) Pardoned found) ≡ true
barred_after (Back number) found e = refl
barred_after (To ip port) found e = absurd (false≢true e)

cut_by : (line : Line) (cut : Bool) → line.is_cut ≡ cut → is_cut_at (line_after line.is_cut Pardoned (Some line)) ≡ line.is_cut
cut_by line true e = rw e refl
cut_by line false e = rw e refl

pub cut_pardoned : (place : Place) (found : Option Line) → is_back place ≡ false → is_cut_at (line_after (is_kept_failed place found) Pardoned found) ≡ is_cut_at found
cut_pardoned (Back number) found e = absurd (false≢true (sym e))
cut_pardoned (To ip port) None e = refl
cut_pardoned (To ip port) (Some line) e = cut_by line line.is_cut refl

pub cut_failed : (place : Place) (known : Known) → is_back place ≡ false → is_cut_at (line_at (failed place known) place) ≡ is_cut_at (line_at known place)
cut_failed place known e = ap (λ (line : Option Line). is_cut_at line) (failed_line place known) ∙ cut_pardoned place (line_at known place) e

failed_last : (place : Place) (known : Known) → (failed place known).last ≡ known.last
unfolding failed
failed_last place known = refl

pub failed_fails : (place : Place) (old known : Known) → is_given known.last place ≡ true → Fails (edge_state old) (edge_state (failed place known)) place
failed_fails place old known given = (
  and_of (is_given (failed place known).last place) (is_silent_at (line_at (failed place known) place)) (rw (failed_last place known) given)
      (rw (failed_line place known) (quiet_after (is_kept_failed place (line_at known place)) (line_at known place))),
  λ back. and_of (is_given (failed place known).last place) (is_barred_at place (line_at (failed place known) place)) (rw (failed_last place known) given)
      (rw (failed_line place known) (barred_after place (line_at known place) back)),
)

-- ## Bytes that the place took

served-line : (place : Place) (count len : ℕ) (known : Known) (b : Bool) → b ≡ false
    → line_at (cond b known (record known { lines = settled true (Part count len) place known.lines })) place ≡ line_after true (Part count len) (line_at known place)
served-line place count len known true e = cc
served-line place count len known false e = settled_self true (Part count len) place known.lines

served_line : (place : Place) (count len : ℕ) (known : Known) → is_back place ≡ false → line_at (served place count len known) place ≡ line_after true (Part count len) (line_at known place)
unfolding served
served_line place count len known peer = served-line place count len known (is_back place) peer

cut_served : (place : Place) (count len : ℕ) (known : Known) (line : Line) → line_at known place ≡ Some line → is_back place ≡ false
    → is_cut_at (line_at (served place count len known) place) ≡ cut_after (is_cut_at (line_at known place)) (put.Wrote count) len
cut_served place count len known line is peer = rw (served_line place count len known peer, is) refl

cut_put : (to : Place) (len : ℕ) (result : Put) (known : Known) (line : Line) → line_at known to ≡ Some line → is_back to ≡ false
    → is_cut_at (line_at (after_put to len result known) to) ≡ cut_after (is_cut_at (line_at known to)) result len
cut_put to len (put.Wrote count) known line is peer = cut_served to count len known line is peer
cut_put to len put.NotYet known line is peer = refl
cut_put to len put.Failed known line is peer = cut_failed to known peer

opened_from : Place → Option Line → Line
opened_from place None = fresh place
opened_from place (Some line) = after Reopened line

opened-line : (place : Place) (lines : List Line) (found : Option Line) → find (is_of place) lines ≡ found → find (is_of place) (opened_lines place found lines) ≡ Some (opened_from place found)
unfolding opened_from
opened-line place lines None e = added_self (fresh place) lines e
opened-line place lines (Some line) e = settled_self true Reopened place lines ∙ ap (λ (found : Option Line). line_after true Reopened found) e

opened_line : (place : Place) (known : Known) → line_at (opened place known) place ≡ Some (opened_from place (line_at known place))
unfolding opened
opened_line place known = opened-line place known.lines (line_at known place) refl

cut_from : (place : Place) (found : Option Line) → (opened_from place found).is_cut ≡ is_cut_at found
unfolding opened_from
cut_from place None = refl
cut_from place (Some line) = refl

cut_opened : (place : Place) (known : Known) → is_cut_at (line_at (opened place known) place) ≡ is_cut_at (line_at known place)
cut_opened place known = ap (λ (line : Option Line). is_cut_at line) (opened_line place known) ∙ cut_from place (line_at known place)

-- ## Whether the address is cut

cut_of : (s : Standing) (old new : Known) (to : Place) (len : ℕ) (result : Put) → standing old to ≡ s → PutBy s old new to len result → is_back to ≡ false
    → is_cut_at (line_at new to) ≡ cut_after (is_cut_at (line_at old to)) result len
unfolding PutBy
cut_of Unborn old new to len result e (r, is) peer = rw (r, is) refl
cut_of Gone old new to len result e (r, is) peer = rw (r, is) (cut_failed to old peer)
cut_of Open old new to len result e is peer =
    let found = (open_by (is_given old.last to) to (line_at old to) e).1 in rw is (cut_put to len result old found.0 found.1 peer)
cut_of Closed old new to len result e (inl is) peer =
    rw is (cut_put to len result (opened to old) (opened_from to (line_at old to)) (opened_line to old) peer ∙ ap (λ (before : Bool). cut_after before result len) (cut_opened to old))
cut_of Closed old new to len result e (inr (r, is)) peer = rw (r, is) (cut_failed to old peer)

pub put_cut : (old new : Known) (to : Place) (len : ℕ) (result : Put) → PutBy (standing old to) old new to len result → is_back to ≡ false
    → (edge_state new).is_cut to ≡ cut_after ((edge_state old).is_cut to) result len
put_cut old new to len result by peer = cut_of (standing old to) old new to len result refl by peer

-- ## How the place is left

served-back : (place : Place) (count len : ℕ) (known : Known) (b : Bool) → b ≡ true → cond b known (record known { lines = settled true (Part count len) place known.lines }) ≡ known
served-back place count len known true e = refl
served-back place count len known false e = cc

served_back : (place : Place) (count len : ℕ) (known : Known) → is_back place ≡ true → served place count len known ≡ known
unfolding served
served_back place count len known back = served-back place count len known (is_back place) back

leaves_put : (to : Place) (len : ℕ) (result : Put) (old known : Known) → is_given known.last to ≡ true → (is_back to ≡ true → known ≡ old)
    → (result ≡ put.Failed → Rose old.failures (after_put to len result known).failures) → Leaves (edge_state old) (edge_state (after_put to len result known)) to result
leaves_put to len (put.Wrote count) old known given same rose = λ back silent. rw (served_back to count len known back, same back) silent
leaves_put to len put.NotYet old known given same rose = λ back silent. rw (same back) silent
leaves_put to len put.Failed old known given same rose = (failed_fails to old known given, rose refl)

leaves_failed : (to : Place) (result : Put) (old new : Known) → result ≡ put.Failed → new ≡ failed to old → is_given old.last to ≡ true → (result ≡ put.Failed → Rose old.failures new.failures) → Leaves (edge_state old) (edge_state new) to result
leaves_failed to result old new r is given rose = let up = rose r in rw (r, is) (failed_fails to old old given, rw is at up)

leaves_of : (s : Standing) (old new : Known) (to : Place) (len : ℕ) (result : Put) → standing old to ≡ s → PutBy s old new to len result
    → (result ≡ put.Failed → Rose old.failures new.failures) → Leaves (edge_state old) (edge_state new) to result
unfolding PutBy
leaves_of Unborn old new to len result e (r, is) rose = rw (r, is) (λ back silent. silent)
leaves_of Gone old new to len result e (r, is) rose = leaves_failed to result old new r is (gone_by (is_given old.last to) to (line_at old to) e) rose
leaves_of Open old new to len result e is rose =
    rw is (leaves_put to len result old old (open_by (is_given old.last to) to (line_at old to) e).0 (λ back. refl) (rw is at rose))
leaves_of Closed old new to len result e (inl is) rose =
    let (given, peer) = closed_by (is_given old.last to) to (line_at old to) e in
    rw is (leaves_put to len result old (opened to old) (rw (touches_opened to old).last given) (λ back. absurd (false≢true (sym peer ∙ back))) (rw is at rose))
leaves_of Closed old new to len result e (inr (r, is)) rose = leaves_failed to result old new r is (closed_by (is_given old.last to) to (line_at old to) e).0 rose

pub put_leaves : (old new : Known) (to : Place) (len : ℕ) (result : Put) → PutBy (standing old to) old new to len result
    → (result ≡ put.Failed → Rose old.failures new.failures) → Leaves (edge_state old) (edge_state new) to result
put_leaves old new to len result by rose = leaves_of (standing old to) old new to len result refl by rose
