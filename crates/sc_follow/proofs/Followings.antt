-- Line after line.
use Rattle.std.proofs.Common.{◌≡◌, ℕ, List, [], ◌∷◌, ◌++◌, refl, sym, ap, ◌∙◌, subst, append_assoc, inl, inr, ◌<◌, ◌≤◌, ◌+◌, length, drop, get_or, arith}
use Rattle.std.specs.Prelude.{Result, Ok, Err, OnOk, IfErr, IsErrAnd}
use Rattle.std.proofs.lemmas.List.{append-nil, drop_more}
use Rattle.std.proofs.Math.ListN.{drop_of_length-le}
use Rattle.sc_terms.specs.declared.steps.Line.{Line}
use Rattle.sc_terms.specs.declared.steps.Line.TheVariants as lines
use Rattle.sc_terms.specs.declared.steps.Step.{Step}
use Rattle.sc_parts.specs.declared.setup.Setup.{Setup}
use Rattle.sc_state.specs.declared.net.Net.{Net}
use Rattle.sc_state.specs.declared.session.Session.{Session}
use Rattle.sc_model.specs.Settings.{IsSetup}
use Rattle.sc_hosts.specs.Histories.{as_session}
use Rattle.sc_hosts.specs.Runs.{IsLawful, all_sent, all_sent_from, net_from as chained, chained_from, start}
use Rattle.sc_runs.specs.Following.{Does, DoesPart, Follows, FollowsFrom, IsPartRun, Streams, Upto, UptoFrom}
use Rattle.sc_runs.specs.Hearing.{HearsPart}
use Rattle.sc_switch.specs.declared.refused.StepRefused.{StepRefused}
use Rattle.sc_switch.specs.declared.refused.StepRefused.TheVariants as refused
use Rattle.sc_switch.specs.Standing.{Known, net_of, whole}
use Rattle.sc_switch.proofs.Standings.{lawful-step}
use Rattle.sc_follow.specs.Moving.{Came, DoesUpto, HasDue, IsCut, IsDone, IsDue, IsUntaken}
use Rattle.sc_follow.specs.Leading.{IsDueWithoutRoom, IsFollowed, IsLeft, IsNew, IsStoppedIn, Leads}
use Rattle.sc_streams.specs.Streaming.{bytes_in, bytes_of}
use Rattle.sc_follow.proofs.Steppings.{net-came}

-- ## The beginning

none-sent : (setup : Setup) → all_sent as_session setup 0 0 [] ≡ []
unfolding all_sent all_sent_from
none-sent setup = refl

net-new : (known : Known) → IsNew known → net_of known ≡ start known.setup 0 0
unfolding net_of chained chained_from
net-new known is = rw (is.epoch_is, is.began_is, is.handed_is, is.journal_is) refl

untaken-new : (known : Known) → IsNew known → IsUntaken known
untaken-new known is = record { handed_is = is.handed_is; left_is = rw (is.left_is, is.epoch_is, is.began_is, is.journal_is) (sym (none-sent known.setup)) }

pub lead_start : (known : Known) (all : List Line) → IsNew known → Leads known.setup all known (bytes_of []) all
unfolding bytes_of bytes_in Follows Upto
lead_start known all is = record {
  setup_is = refl;
  epoch_is = is.epoch_is;
  began_is = is.began_is;
  untaken = untaken-new known is;
  free = record { kept_is = is.kept_is; few = rw (is.leases_is, is.journal_is) (omega arith) };
  follows = λ taken f. rw is.journal_is (subst (λ (n : Net Session). FollowsFrom as_session known.setup n (bytes_of []) all taken) (net-new known is) f);
  upto = λ taken f. rw is.journal_is (subst (λ (n : Net Session). UptoFrom as_session known.setup n (bytes_of []) all taken) (net-new known is) f);
}

-- ## A line

journal-on : (old new : Known) (made taken : List Step) → Came old new made → new.journal ++ taken ≡ old.journal ++ (made ++ taken)
journal-on old new made taken came = ap (λ (js : List Step). js ++ taken) came.journal_is ∙ append_assoc old.journal made taken

lead-net : (setup : Setup) (old new : Known) (made : List Step) → old.setup ≡ setup → Came old new made → net_of new ≡ chained_from as_session setup (net_of old) made
lead-net setup old new made setup_is came = net-came old new made came ∙ ap (λ (s : Setup). chained_from as_session s (net_of old) made) setup_is

pub lead_on : (setup : Setup) (all : List Line) (old new : Known) (kept after : Streams) (line : Line) (later : List Line) → Leads setup all old kept (line ∷ later)
    → IsDone (λ made. Does as_session old.setup (net_of old) kept line made after) old new → Leads setup all new after later
unfolding IsDone FollowsFrom UptoFrom
lead_on setup all old new kept after line later is (made, to, free) =
    let does = subst (λ (s : Setup). Does as_session s (net_of old) kept line made after) is.setup_is to.good in
    let net = lead-net setup old new made is.setup_is to.came in
    record {
      setup_is = to.came.setup_is ∙ is.setup_is;
      epoch_is = to.came.epoch_is ∙ is.epoch_is;
      began_is = to.came.began_is ∙ is.began_is;
      untaken = to.came.untaken;
      free = free;
      follows = λ taken f. rw (journal-on old new made taken to.came)
          (is.follows (made ++ taken) (made, taken, after, refl, does, subst (λ (n : Net Session). FollowsFrom as_session setup n after later taken) net f));
      upto = λ taken f. rw (journal-on old new made taken to.came)
          (is.upto (made ++ taken) (inr (made, taken, after, refl, does, subst (λ (n : Net Session). UptoFrom as_session setup n after later taken) net f)));
    }

-- ## The end

pub followed : (setup : Setup) (all : List Line) (known : Known) (kept : Streams) → Leads setup all known kept [] → IsFollowed setup all known
unfolding FollowsFrom
followed setup all known kept is = record {
  setup_is = is.setup_is;
  epoch_is = is.epoch_is;
  began_is = is.began_is;
  untaken = is.untaken;
  follows = subst (λ (js : List Step). Follows as_session setup all js) (append-nil known.journal) (is.follows [] refl);
}

-- nothing is a beginning of what any line makes
pub part-none : (setup : Setup) (net : Net Session) (kept : Streams) (line : Line) → DoesPart as_session setup net kept line []
unfolding DoesPart HearsPart IsPartRun
part-none setup net kept (lines.In place text) = tt
part-none setup net kept (lines.Turn app) = refl
part-none setup net kept lines.Run = tt
part-none setup net kept (lines.Tick now) = refl
part-none setup net kept (lines.Lost place) = refl
part-none setup net kept (lines.Drop app) = refl
part-none setup net kept lines.End = refl

upto-none : (setup : Setup) (net : Net Session) (kept : Streams) (later : List Line) → UptoFrom as_session setup net kept later []
unfolding UptoFrom
upto-none setup net kept [] = refl
upto-none setup net kept (line ∷ later) = inl (part-none setup net kept line)

upto-line : (setup : Setup) (known : Known) (kept : Streams) (line : Line) (later : List Line) (made : List Step) → known.setup ≡ setup → DoesUpto known kept line made → UptoFrom as_session setup (net_of known) kept (line ∷ later) made
unfolding DoesUpto UptoFrom
upto-line setup known kept line later made setup_is (inl part) = inl (subst (λ (s : Setup). DoesPart as_session s (net_of known) kept line made) setup_is part)
upto-line setup known kept line later made setup_is (inr (after, does)) =
    inr (made, [], after, sym (append-nil made), subst (λ (s : Setup). Does as_session s (net_of known) kept line made after) setup_is does, upto-none setup _ after later)

upto-all : (setup : Setup) (all : List Line) (old new : Known) (kept : Streams) (line : Line) (later made more : List Step) (rest : List Line) → Leads setup all old kept (line ∷ rest) → Came old new made → DoesUpto old kept line (made ++ more)
    → Upto as_session setup all (new.journal ++ more)
upto-all setup all old new kept line later made more rest is came does =
    rw (journal-on old new made more came) (is.upto (made ++ more) (upto-line setup old kept line rest (made ++ more) is.setup_is does))

upto-made : (setup : Setup) (all : List Line) (old new : Known) (kept : Streams) (line : Line) (made : List Step) (rest : List Line) → Leads setup all old kept (line ∷ rest) → Came old new made → DoesUpto old kept line made
    → Upto as_session setup all new.journal
upto-made setup all old new kept line made rest is came does =
    rw came.journal_is (is.upto made (upto-line setup old kept line rest made is.setup_is does))

due : (setup : Setup) (all : List Line) (old new : Known) (kept : Streams) (line : Line) (made : List Step) (rest : List Line) (step : Step) → Leads setup all old kept (line ∷ rest) → Came old new made → IsDue new step → DoesUpto old kept line (made ++ step ∷ [])
    → IsLawful as_session setup 0 0 new.journal → IsDueWithoutRoom setup all new.journal
unfolding IsDueWithoutRoom net_of
due setup all old new kept line made rest step is came is_due does lawful =
    let setup_is = came.setup_is ∙ is.setup_is in
    let epoch_is = came.epoch_is ∙ is.epoch_is in
    let began_is = came.began_is ∙ is.began_is in (
      step,
      lawful-step setup 0 0 new.journal step lawful (rw (setup_is, epoch_is, began_is, came.untaken.handed_is) at is_due.allowed),
      upto-all setup all old new kept line [] made (step ∷ []) rest is came does,
      rw setup_is at is_due.full,
    )

stopped-in : (setup : Setup) (all : List Line) (old new : Known) (kept : Streams) (line : Line) (made : List Step) (rest : List Line) (cause : StepRefused) → Leads setup all old kept (line ∷ rest) → Came old new made → DoesUpto old kept line made
    → HasDue (DoesUpto old kept line) new made cause → IsLawful as_session setup 0 0 new.journal → IsStoppedIn setup all new.journal cause
unfolding IsStoppedIn HasDue
stopped-in setup all old new kept line made rest refused.NoMemory is came does has lawful = upto-made setup all old new kept line made rest is came does
stopped-in setup all old new kept line made rest (refused.JournalFull steps bytes) is came does (step, is_due, more) lawful =
    (upto-made setup all old new kept line made rest is came does, due setup all old new kept line made rest step is came is_due more lawful)

left-at : (setup : Setup) (all : List Line) (old new : Known) (kept : Streams) (line : Line) (rest : List Line) (cause : StepRefused) → Leads setup all old kept (line ∷ rest) → IsCut (DoesUpto old kept line) old new cause → IsLeft setup all new cause
unfolding IsCut
left-at setup all old new kept line rest cause is (made, to, has) = record {
  setup_is = to.came.setup_is ∙ is.setup_is;
  epoch_is = to.came.epoch_is ∙ is.epoch_is;
  began_is = to.came.began_is ∙ is.began_is;
  untaken = to.came.untaken;
  stopped = stopped-in setup all old new kept line made rest cause is to.came to.good has;
}

-- the cause that is handed on
pub left_on : {A : Type 0} (setup : Setup) (all : List Line) (old new : Known) (kept : Streams) (line : Line) (rest : List Line) (r : Result A StepRefused) (cause : StepRefused) → IsErrAnd r (λ e. e ≡ cause) → Leads setup all old kept (line ∷ rest)
    → IsCut (DoesUpto old kept line) old new cause → IfErr r (λ e. IsLeft setup all new e)
left_on setup all old new kept line rest (Ok a) cause is_cause is cut = tt
left_on setup all old new kept line rest (Err e) cause is_cause is cut = subst (λ (c : StepRefused). IsLeft setup all new c) (sym is_cause) (left-at setup all old new kept line rest cause is cut)

pub lead-setup : (setup : Setup) (all : List Line) (known : Known) (kept : Streams) (later : List Line) → Leads setup all known kept later → IsSetup setup → IsSetup known.setup
lead-setup setup all known kept later is right = subst IsSetup (sym is.setup_is) right

-- ## The lines of a list

drop-at : (all : List Line) (i : ℕ) (line : Line) → i < length all → line ≡ get_or all i line → drop i all ≡ line ∷ drop (i + 1) all
drop-at all i line here item = drop_more all i line here ∙ ap (λ (l : Line). l ∷ drop (i + 1) all) (sym item)

lead-at : (setup : Setup) (all : List Line) (old : Known) (kept : Streams) (i : ℕ) (line : Line) → i < length all → line ≡ get_or all i line → Leads setup all old kept (drop i all) → Leads setup all old kept (line ∷ drop (i + 1) all)
lead-at setup all old kept i line here item is = subst (λ (later : List Line). Leads setup all old kept later) (drop-at all i line here item) is

pub lead_more : (setup : Setup) (all : List Line) (old new : Known) (kept after : Streams) (i : ℕ) (line : Line) → i < length all → line ≡ get_or all i line → Leads setup all old kept (drop i all)
    → IsDone (λ made. Does as_session old.setup (net_of old) kept line made after) old new → Leads setup all new after (drop (i + 1) all)
lead_more setup all old new kept after i line here item is done = lead_on setup all old new kept after line (drop (i + 1) all) (lead-at setup all old kept i line here item is) done

pub left_more : {A : Type 0} (setup : Setup) (all : List Line) (old new : Known) (kept : Streams) (i : ℕ) (line : Line) (r : Result A StepRefused) (cause : StepRefused) → i < length all → line ≡ get_or all i line → IsErrAnd r (λ e. e ≡ cause)
    → Leads setup all old kept (drop i all) → IsCut (DoesUpto old kept line) old new cause → IfErr r (λ e. IsLeft setup all new e)
left_more setup all old new kept i line r cause here item is_cause is cut = left_on setup all old new kept line (drop (i + 1) all) r cause is_cause (lead-at setup all old kept i line here item is) cut

pub followed_all : (setup : Setup) (all : List Line) (known : Known) (kept : Streams) (i : ℕ) → length all ≤ i → Leads setup all known kept (drop i all) → IsFollowed setup all known
followed_all setup all known kept i past is = followed setup all known kept (subst (λ (later : List Line). Leads setup all known kept later) (drop_of_length-le all {i = i} past) is)

-- ## What is known at the end

pub run_setup : {A : Type 0} (setup : Setup) (all : List Line) (known : Known) (r : Result A StepRefused) → OnOk r (IsFollowed setup all known) → IfErr r (λ cause. IsLeft setup all known cause) → known.setup ≡ setup
run_setup setup all known (Ok a) ok err = ok.setup_is
run_setup setup all known (Err cause) ok err = err.setup_is

pub run_epoch : {A : Type 0} (setup : Setup) (all : List Line) (known : Known) (r : Result A StepRefused) → OnOk r (IsFollowed setup all known) → IfErr r (λ cause. IsLeft setup all known cause) → known.epoch ≡ 0
run_epoch setup all known (Ok a) ok err = ok.epoch_is
run_epoch setup all known (Err cause) ok err = err.epoch_is

pub run_began : {A : Type 0} (setup : Setup) (all : List Line) (known : Known) (r : Result A StepRefused) → OnOk r (IsFollowed setup all known) → IfErr r (λ cause. IsLeft setup all known cause) → known.began ≡ 0
run_began setup all known (Ok a) ok err = ok.began_is
run_began setup all known (Err cause) ok err = err.began_is

pub run_handed : {A : Type 0} (setup : Setup) (all : List Line) (known : Known) (r : Result A StepRefused) → OnOk r (IsFollowed setup all known) → IfErr r (λ cause. IsLeft setup all known cause) → known.handed ≡ []
run_handed setup all known (Ok a) ok err = ok.untaken.handed_is
run_handed setup all known (Err cause) ok err = err.untaken.handed_is

pub run_untaken : {A : Type 0} (setup : Setup) (all : List Line) (known : Known) (r : Result A StepRefused) → OnOk r (IsFollowed setup all known) → IfErr r (λ cause. IsLeft setup all known cause) → IsUntaken known
run_untaken setup all known (Ok a) ok err = ok.untaken
run_untaken setup all known (Err cause) ok err = err.untaken

pub run_follows : {A : Type 0} (setup : Setup) (all : List Line) (known : Known) (r : Result A StepRefused) → OnOk r (IsFollowed setup all known) → OnOk r (Follows as_session setup all known.journal)
run_follows setup all known (Ok a) ok = ok.follows
run_follows setup all known (Err cause) ok = tt

lawful-at : (setup : Setup) (known : Known) → known.setup ≡ setup → known.epoch ≡ 0 → known.began ≡ 0 → known.handed ≡ [] → IsLawful as_session known.setup known.epoch known.began (whole known) → IsLawful as_session setup 0 0 known.journal
lawful-at setup known setup_is epoch_is began_is handed_is lawful = rw (setup_is, epoch_is, began_is, handed_is) at lawful

pub run_stopped : {A : Type 0} (setup : Setup) (all : List Line) (known : Known) (r : Result A StepRefused) → IsLawful as_session known.setup known.epoch known.began (whole known) → IfErr r (λ cause. IsLeft setup all known cause)
    → IfErr r (λ cause. IsStoppedIn setup all known.journal cause)
run_stopped setup all known (Ok a) lawful left = tt
run_stopped setup all known (Err cause) lawful left = left.stopped (lawful-at setup known left.setup_is left.epoch_is left.began_is left.untaken.handed_is lawful)
