-- A journal that follows a beginning of a script that is read has a beginning of its ticks.
use Rattle.std.proofs.Common.{◌≡◌, ℕ, List, [], ◌∷◌, ◌++◌, Ok, refl, sym, inl, inr, append_assoc}
use Rattle.sc_terms.specs.declared.steps.Line.{Line}
use Rattle.sc_terms.specs.declared.steps.Line.TheVariants as lines
use Rattle.sc_terms.specs.declared.steps.Step.{Step}
use Rattle.sc_parts.specs.declared.setup.Setup.{Setup}
use Rattle.sc_state.specs.declared.net.Net.{Net}
use Rattle.sc_tokens.specs.Bytes.{Bytes}
use Rattle.sc_hosts.specs.Runs.{chained_from, start}
use Rattle.sc_hosts.specs.Sessions.{Form}
use Rattle.sc_moments.proofs.FollowTicks.{none-of, part-none, run-none, both-ticks, first-ticks, line-ticks, rises-on}
use Rattle.sc_moments.proofs.ScriptTicks.{Rises, script-rises}
use Rattle.sc_moments.specs.Moments.{ticks_of, ticks_in}
use Rattle.sc_runs.specs.Following.{Streams, no_bytes, DoesPart, UptoFrom, Upto}
use Rattle.sc_script.specs.ScriptTexts.{script_of}

-- the ticks of the steps are a beginning of those of the lines
Begins : List Step → List Line → Type 0
Begins taken given = (more : List ℕ) × (ticks_in given ≡ ticks_of taken ++ more)

begins-none : (taken : List Step) (given : List Line) → ticks_of taken ≡ [] → Begins taken given
unfolding Begins
begins-none taken given none = (ticks_in given, rw none refl)

begins-more : (line : Line) (later : List Line) (taken made rest : List Step) → taken ≡ made ++ rest → ticks_of made ≡ ticks_in (line ∷ []) → Begins rest later → Begins taken (line ∷ later)
unfolding Begins
begins-more line later taken made rest is begun (more, others) =
    (more, rw (both-ticks taken made rest is, first-ticks line later, begun, others) (sym (append_assoc (ticks_in (line ∷ [])) (ticks_of rest) more)))

module _ {S : Type 0} (form : Form S) (setup : Setup) where
  line-part : (line : Line) (net : Net S) (kept : Streams) (taken : List Step) → DoesPart form setup net kept line taken → ticks_of taken ≡ []
  unfolding DoesPart
  line-part (lines.In place text) net kept taken part = part-none taken place _ part
  line-part (lines.Turn app) net kept taken part = none-of taken part
  line-part lines.Run net kept taken part = run-none taken form setup net part
  line-part (lines.Tick now) net kept taken part = none-of taken part
  line-part (lines.Lost place) net kept taken part = none-of taken part
  line-part (lines.Drop app) net kept taken part = none-of taken part
  line-part lines.End net kept taken part = none-of taken part

  upto-from : (given : List Line) (net : Net S) (kept : Streams) (taken : List Step) → Rises net.moment given → UptoFrom form setup net kept given taken → Begins taken given
  unfolding UptoFrom Rises
  upto-from [] net kept taken rises upto = begins-none taken [] (none-of taken upto)
  upto-from (line ∷ later) net kept taken rises (inl part) = begins-none taken (line ∷ later) (line-part line net kept taken part)
  upto-from (line ∷ later) net kept taken rises (inr (made, rest, after, is, done, upto)) =
      begins-more line later taken made rest is (line-ticks form setup line net kept after made rises.0 done)
      (upto-from later (chained_from form setup net made) after rest (rises-on form setup line later net kept after made rises done) upto)

  pub upto-ticks : (text : Bytes) (given : List Line) (journal : List Step) → script_of text ≡ Ok given → Upto form setup given journal → (more : List ℕ) × (ticks_in given ≡ ticks_of journal ++ more)
  unfolding Upto start Begins
  upto-ticks text given journal read upto = upto-from given (start setup 0 0) no_bytes journal (script-rises text given read) upto
