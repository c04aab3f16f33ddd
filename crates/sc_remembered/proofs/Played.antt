-- The turns of a life whose application has a script are those of the script.
use Rattle.std.proofs.Common.{◌≡◌, inl, inr, Bool, true, false, Option, None, Some, List, [], ◌∷◌, subst}
use Rattle.std.proofs.Math.Logic.{∥∥₁_map, ∥∥₁_map₂}
use Rattle.sc_value.specs.declared.ids.AppId.{AppId}
use Rattle.sc_terms.specs.declared.calls.CallRecord.{CallRecord}
use Rattle.sc_terms.specs.declared.calls.End.{End}
use Rattle.sc_terms.specs.declared.charters.Charter.{Charter}
use Rattle.sc_terms.specs.declared.events.Event.{Event}
use Rattle.sc_terms.specs.declared.settings.Config.{Config}
use Rattle.sc_terms.specs.declared.views.View.{View}
use Rattle.sc_parts.specs.declared.setup.Setup.{Setup}
use Rattle.sc_state.specs.declared.session.Session.{Session}
use Rattle.sc_state.specs.declared.working.Prepared.{Prepared}
use Rattle.sc_model.specs.Settings.{charters_of}
use Rattle.sc_hosts.specs.Bringing.{Allowed, Called, IsSilent, Plays, is_listened, servlet_script}
use Rattle.sc_hosts.specs.Histories.{History, session_after, session_of}
use Rattle.sc_hosts.specs.Preparing.{prepared_session as prepared}
use Rattle.sc_hosts.specs.Runs.{AllowedBy}
use Rattle.sc_hosts.specs.Scripting.{Script, calls_of_script as played}
use Rattle.sc_hosts.specs.Sessions.{Turn}
use Rattle.sc_lived.specs.Lived.{AreTaken, MayTake}
use Rattle.sc_lived.proofs.Accepted.{read-after}
use Rattle.sc_remembered.specs.Acts.{shown_in}
use Rattle.sc_remembered.specs.Played.{ArePlayed, PlaysScript, event_in}

-- for a servlet of this charter, which has this script, without a listener
module _ (charter : Charter) (script : View → Event → Script) (scripted : (view : View) (event : Event) → servlet_script charter view event ≡ Some (script view event)) where
  script-plays : (view : View) (event : Event) (made : List CallRecord) (end : End) → Plays view (Some (script view event)) made end → made ≡ played view (script view event)
  unfolding Plays
  script-plays view event made end plays = plays.0

  listened-plays : (view : View) (event : Event) (listened : Bool) (made : List CallRecord) (end : End) → Called charter None view event listened made end → PlaysScript script view (Some event) made
  unfolding Called IsSilent PlaysScript
  listened-plays view event false made end called =
      inl (script-plays view event made end (subst (λ (s : Option Script). Plays view s made end) (scripted view event) called.1))
  listened-plays view event true made end called = inr called.0

  shown-plays : (view : View) (event : Option Event) (made : List CallRecord) (end : End) → Allowed charter None view event made end → PlaysScript script view event made
  unfolding Allowed IsSilent PlaysScript
  shown-plays view None made end allowed = allowed.0
  shown-plays view (Some event) made end allowed = listened-plays view event (is_listened event) made end allowed.1

  allowed-plays : (shown : Prepared) (made : List CallRecord) (end : End) → AllowedBy (Some (charter, None)) shown made end → PlaysScript script shown.view shown.event made
  unfolding AllowedBy
  allowed-plays shown made end allowed = shown-plays shown.view shown.event made end allowed

  turn-plays : (setup : Setup) (app : AppId) (history : History) (earlier : List Turn) (turn : Turn) → charters_of setup app.host ≡ Some (charter, None) → MayTake setup app (record history { turns = earlier }) turn
      → ∥ PlaysScript script (shown_in setup.config (session_after setup.config history earlier) turn) (event_in setup.config (session_after setup.config history earlier) turn) turn.calls ∥₁
  turn-plays setup app history earlier turn own may =
      subst (λ (x : Session). ∥ PlaysScript script (shown_in setup.config x turn) (event_in setup.config x turn) turn.calls ∥₁) (read-after setup.config history earlier)
      (∥∥₁_map may (λ allowed. allowed-plays (prepared setup.config turn.ringing (session_of setup.config (record history { turns = earlier })) turn.waiting turn.now) turn.calls turn.end
      (subst (λ charters. AllowedBy charters (prepared setup.config turn.ringing (session_of setup.config (record history { turns = earlier })) turn.waiting turn.now) turn.calls turn.end) own allowed)))

  nothing-played : (config : Config) (history : History) → ArePlayed script config history []
  unfolding ArePlayed
  nothing-played config history = tt

  more-played : (config : Config) (history : History) (turn : Turn) (earlier : List Turn)
      → PlaysScript script (shown_in config (session_after config history earlier) turn) (event_in config (session_after config history earlier) turn) turn.calls → ArePlayed script config history earlier
      → ArePlayed script config history (turn ∷ earlier)
  unfolding ArePlayed
  more-played config history turn earlier plays played = (plays, played)

  pub life-plays : (turns : List Turn) (setup : Setup) (app : AppId) (history : History) → charters_of setup app.host ≡ Some (charter, None) → AreTaken setup app history turns
      → ∥ ArePlayed script setup.config history turns ∥₁
  unfolding AreTaken
  life-plays [] setup app history own taken = ∣ nothing-played setup.config history ∣₁
  life-plays (turn ∷ earlier) setup app history own taken =
      ∥∥₁_map₂ (turn-plays setup app history earlier turn own taken.0) (life-plays earlier setup app history own taken.1) (λ plays played. more-played setup.config history turn earlier plays played)
