-- What is put after a run.
use Rattle.std.proofs.Common.{◌≡◌, ℕ, Option, List, [], ◌∷◌, sym, ap, subst, inr}
use Rattle.std.specs.Prelude.{Result, Ok, Err, IfErr}
use Rattle.sc_terms.specs.declared.steps.Line.{Line}
use Rattle.sc_terms.specs.declared.steps.Step.{Step}
use Rattle.sc_parts.specs.declared.setup.Setup.{Setup}
use Rattle.sc_tokens.specs.Bytes.{Bytes}
use Rattle.sc_edge.specs.Taking.{TakesPart_none}
use Rattle.sc_state.specs.declared.net.Net.{Net}
use Rattle.sc_state.specs.declared.session.Session.{Session}
use Rattle.sc_hosts.specs.Histories.{as_session}
use Rattle.sc_hosts.specs.Runs.{chained_from, start}
use Rattle.sc_runs.specs.Following.{Follows, FollowsFrom, Streams, Upto, UptoFrom, no_bytes}
use Rattle.sc_runs.specs.Outputs.{output}
use Rattle.sc_follow.specs.Leading.{IsStoppedIn}
use Rattle.sc_switch.specs.declared.refused.StepRefused.TheVariants as refused
use Rattle.sc_switch.specs.Standing.{Known}
use Rattle.sc_replay.specs.declared.running.RunRefused.{RunRefused}
use Rattle.sc_replay.specs.declared.running.RunRefused.TheVariants as runs
use Rattle.sc_replay.specs.Running.{IsCutShort, IsUnput, IsPutWithoutEnd}

-- what follows the lines to their end follows them so far
upto_from : (setup : Setup) (net : Net Session) (kept : Streams) (said : List Line) (taken : List Step) → FollowsFrom as_session setup net kept said taken → UptoFrom as_session setup net kept said taken
unfolding FollowsFrom UptoFrom
upto_from setup net kept [] taken follows = follows
upto_from setup net kept (line ∷ later) taken (made, rest, after, taken_is, does, follows) =
    inr (made, rest, after, taken_is, does, upto_from setup (chained_from as_session setup net made) after later rest follows)

pub upto_whole : (setup : Setup) (said : List Line) (journal : List Step) → Follows as_session setup said journal → Upto as_session setup said journal
unfolding Follows Upto
upto_whole setup said journal follows = upto_from setup (start setup 0 0) no_bytes said journal follows

unput : (setup : Setup) (said : List Line) (write : Type 0) (a b : Option Bytes) (journal : List Step) (cause : RunRefused) → Follows as_session setup said journal → IsUnput write a b (output as_session setup journal) cause → IsCutShort setup said write a b journal cause
unfolding IsUnput IsCutShort
unput setup said write a b journal runs.JournalFull follows put = absurd put
unput setup said write a b journal runs.NoMemory follows put = (upto_whole setup said journal follows, put)
unput setup said write a b journal runs.Write follows put = (put.0, follows, put.1)

-- the output of a whole run is cut short
pub cut_unput : (setup : Setup) (said : List Line) (write : Type 0) (a b : Option Bytes) (mid new : Known) (r : Result Unit RunRefused) → mid.setup ≡ setup → new ≡ record mid { left = new.left } → Follows as_session setup said mid.journal
    → IfErr r (λ cause. IsUnput write a b (output as_session mid.setup mid.journal) cause) → IfErr r (λ cause. IsCutShort setup said write a b new.journal cause)
cut_unput setup said write a b mid new (Ok done) setup_is same follows put = tt
cut_unput setup said write a b mid new (Err cause) setup_is same follows put =
    subst (λ (journal : List Step). IsCutShort setup said write a b journal cause) (sym (ap (λ (known : Known). known.journal) same))
    (unput setup said write a b mid.journal cause follows (subst (λ (s : Setup). IsUnput write a b (output as_session s mid.journal) cause) setup_is put))

without_end : (setup : Setup) (said : List Line) (write : Type 0) (a b : Option Bytes) (journal : List Step) (steps bytes : ℕ) (cause : RunRefused) → IsStoppedIn setup said journal (refused.JournalFull steps bytes) → IsPutWithoutEnd setup write a b journal cause
    → IsCutShort setup said write a b journal cause
unfolding IsStoppedIn IsPutWithoutEnd IsCutShort
without_end setup said write a b journal steps bytes runs.JournalFull stopped put = (stopped.0, stopped.1, put)
without_end setup said write a b journal steps bytes runs.NoMemory stopped put = (stopped.0, put)
without_end setup said write a b journal steps bytes runs.Write stopped put = absurd put

-- the journal found no room
pub cut_full : (setup : Setup) (said : List Line) (write : Type 0) (a b : Option Bytes) (mid new : Known) (steps bytes : ℕ) (cause : RunRefused) → mid.setup ≡ setup → new ≡ record mid { left = new.left }
    → IsStoppedIn setup said mid.journal (refused.JournalFull steps bytes) → IsPutWithoutEnd mid.setup write a b mid.journal cause → IsCutShort setup said write a b new.journal cause
cut_full setup said write a b mid new steps bytes cause setup_is same stopped put =
    subst (λ (journal : List Step). IsCutShort setup said write a b journal cause) (sym (ap (λ (known : Known). known.journal) same))
    (without_end setup said write a b mid.journal steps bytes cause stopped (subst (λ (s : Setup). IsPutWithoutEnd s write a b mid.journal cause) setup_is put))

-- memory was wanting before anything was put
pub cut_none : (setup : Setup) (said : List Line) (write : Type 0) (a : Option Bytes) (journal : List Step) → IsStoppedIn setup said journal refused.NoMemory → IsCutShort setup said write a a journal runs.NoMemory
unfolding IsStoppedIn IsCutShort
cut_none setup said write a journal stopped = (stopped, TakesPart_none a (output as_session setup journal))
