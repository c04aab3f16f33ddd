-- What was due as time passed has had its event (RFC 3261 sections 16.8 and 17, JSR 289 sections
-- 6.1.2 and 8).
use Rattle.std.specs.Prelude.{◌≡◌, ℕ, List, [], ◌∷◌, Bool, true, false, Option, Some, nat_le}
use Rattle.std.specs.List.{list_any}
use Rattle.sc_value.specs.declared.ids.AppId.{AppId}
use Rattle.sc_parts.specs.declared.timers.TimerName.{TimerName}
use Rattle.sc_state.specs.Entries.{SessionEntry, entries_of, is_fired}
use Rattle.sc_state.specs.declared.host.Fired.{Fired}
use Rattle.sc_state.specs.declared.host.Live.{Live}
use Rattle.sc_model.specs.Timers.{is_due}
use Rattle.sc_hosts.specs.Sessions.{Form}
use Rattle.sc_hosts.specs.Ticks.{Dated, live_dated, same_entry}

-- each of these entries whose moment has come has had its event
unfoldable pub HadEvents : ℕ → List Fired → List SessionEntry → Type 0
HadEvents now fired [] = Unit {0}
HadEvents now fired (entry ∷ entries) =
    (nat_le entry.due now ≡ true → is_fired fired entry.due entry.timer ≡ true)
    × HadEvents now fired entries

-- the session of this name lives on and is what it was, what had its event had it, whatever is due
-- has had its event, and so nothing of it is due any more
pub record IsTaken {S : Type 0} (form : Form S) (now : ℕ) (app : AppId) (live : Live S)
    (found : Option (Live S)) : Type 0 where
  pub later : Live S
  pub found_is : found ≡ Some later
  pub same : later.session ≡ live.session
  pub before : (due : ℕ) (timer : TimerName) → is_fired live.fired due timer ≡ true
      → is_fired later.fired due timer ≡ true
  pub taken : HadEvents now later.fired (entries_of (form.read later.session))
  pub left : list_any (λ d. is_due now d.entry) (live_dated form app.host later) ≡ false

-- two items of one entry
abbrev pub are_one : Dated → Dated → Bool
are_one a b = same_entry a.entry b.entry
