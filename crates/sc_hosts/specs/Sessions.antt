-- The forms in which a session is kept, and the entries that are due in it. This project's own.
use Rattle.std.specs.Prelude.{ℕ, List}
use Rattle.sc_terms.specs.declared.calls.CallRecord.{CallRecord}
use Rattle.sc_terms.specs.declared.calls.End.{End}
use Rattle.sc_terms.specs.declared.settings.Config.{Config}
use Rattle.sc_value.specs.declared.ids.AppId.{AppId}
use Rattle.sc_value.specs.declared.message.Request.{Request}
use Rattle.sc_state.specs.declared.net.Note.{Note}
use Rattle.sc_state.specs.declared.queue.Waiting.{Waiting}
use Rattle.sc_state.specs.declared.session.Session.{Session}
pub use Rattle.sc_state.specs.Entries.{SessionEntry}
unfoldable pub use
    Rattle.sc_state.specs.Entries.{expiry_entry, timer_entry, branch_entry, entries_of}

-- a turn that was taken: its event, its moment, the branches of INVITEs that were ringing, and what
-- the application did
pub record Turn : Type 0 where
  pub waiting : Waiting
  pub now : ℕ
  pub ringing : List ℕ
  pub calls : List CallRecord
  pub end : End

-- a form in which sessions are kept: how one begins, what it is, and what it is after a turn
pub record Form (S : Type 0) : Type 0 where
  pub begin : Config → AppId → ℕ → ℕ → Note → Request → S
  pub read : S → Session
  pub turned : Config → Turn → S → S
