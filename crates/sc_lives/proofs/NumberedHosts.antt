-- What a host does leaves the serials of its sessions rising.
use Rattle.std.proofs.Common.{ℕ, ◌+◌, ◌++◌, Bool, true, false, [], ◌∷◌, refl}
use Rattle.std.specs.Prelude.{cond}
use Rattle.sc_value.specs.Lists.{change_first}
use Rattle.sc_value.specs.declared.message.Request.{Request}
use Rattle.sc_terms.specs.declared.settings.Config.{Config}
use Rattle.sc_state.specs.Hosts.{Host}
use Rattle.sc_state.specs.declared.host.Taken.{Taken}
use Rattle.sc_state.specs.declared.net.Note.{Note}
use Rattle.sc_state.specs.declared.orders.Outcome.{Outcome}
use Rattle.sc_state.specs.declared.queue.Queued.{Queued}
use Rattle.sc_model.specs.Timers.{DueEntry}
use Rattle.sc_hosts.specs.Inboxes.{is_live, with_event, without_answer as quiet, queue}
use Rattle.sc_hosts.specs.Sessions.{Form, Turn}
use Rattle.sc_hosts.specs.Steps.{turned_live}
use Rattle.sc_hosts.specs.Taking.{begun_live}
use Rattle.sc_hosts.specs.Ticks.{mark_fired}
use Rattle.sc_lives.proofs.Serials.{append-rising, change-rising, remove-rising}
use Rattle.sc_lives.specs.Numbers.{IsNumbered}
use Rattle.sc_walks.specs.Walks.{HostLaws, TurnLaws}

-- either branch
if-taken : {S : Type 0} (b : Bool) (x y : Taken S) → IsNumbered x.host → IsNumbered y.host → IsNumbered (cond b x y).host
if-taken true x y p q = p
if-taken false x y p q = q

module _ {S : Type 0} where
  -- where the serials rose they rise
  abbrev pub StaysNumbered : ℕ → ℕ → ℕ → Host S → ℕ → Host S → Type 0
  StaysNumbered number now count host later changed = IsNumbered host → IsNumbered changed

  queue-numbered : (serial now : ℕ) (event : Queued) (count : ℕ) (host : Host S) → IsNumbered host → IsNumbered (queue serial now event count host).host
  unfolding queue quiet with_event
  queue-numbered serial now event count host numbered =
      if-taken _ _ _ (change-rising host.sessions 0 host.last (is_live serial) (with_event (count + 1) now event) (λ live. refl) numbered) numbered

  -- a session that begins has the serial after the last
  begun-numbered : (form : Form S) (config : Config) (epoch number now : ℕ) (noted : Note) (request : Request) (count : ℕ) (host : Host S) → IsNumbered host
      → IsNumbered (record host { sessions = host.sessions ++ begun_live form config epoch (record { host = number; serial = host.last + 1 }) now noted request (count + 1) ∷ []; last = host.last + 1 })
  unfolding begun_live
  begun-numbered form config epoch number now noted request count host numbered = append-rising host.sessions 0 host.last _ refl numbered

  fired-numbered : (entry : DueEntry) (host : Host S) → IsNumbered host → IsNumbered (mark_fired entry host)
  unfolding mark_fired
  fired-numbered entry host numbered = change-rising host.sessions 0 host.last (is_live entry.app.serial) _ (λ live. refl) numbered

  -- the session that takes a turn keeps its serial
  turned-numbered : (form : Form S) (config : Config) (serial now : ℕ) (turn : Turn) (done : Outcome) (host : Host S) → IsNumbered host
      → IsNumbered (record host { sessions = change_first (is_live serial) (turned_live form config now turn done) host.sessions })
  unfolding turned_live
  turned-numbered form config serial now turn done host numbered = change-rising host.sessions 0 host.last (is_live serial) _ (λ live. refl) numbered

  pub numbered-hosts : (number now : ℕ) → HostLaws {S = S} (λ form. Unit {0}) number now (StaysNumbered number now)
  numbered-hosts number now = record {
    same = λ count host numbered. numbered;
    after = λ c d e x y z p q numbered. q (p numbered);
    passes = λ count host clients servers numbered. numbered;
    queues = λ serial event late count host. queue-numbered serial now event count host;
    begins = λ form good config epoch noted request count host. begun-numbered form config epoch number now noted request count host;
    marks = λ entry count host. fired-numbered entry host;
  }

  pub numbered-turns : (number now : ℕ) → TurnLaws now (StaysNumbered number now)
  numbered-turns number now = record {
    turns = λ form config serial turn done count host. turned-numbered form config serial now turn done host;
    goes = λ serial count host numbered. remove-rising host.sessions 0 host.last (is_live serial) numbered;
  }
