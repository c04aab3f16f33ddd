-- A tick puts nothing on the wire, and sends nothing.
use Rattle.std.proofs.Common.{◌≡◌, ℕ, ◌+◌, Bool, true, false, Option, None, Some, List, [], ◌∷◌, refl, ap, ◌∙◌}
use Rattle.std.specs.Prelude.{cond}
use Rattle.std.specs.List.{fold}
use Rattle.sc_value.specs.declared.ids.AppId.{AppId}
use Rattle.sc_terms.specs.declared.settings.Config.{Config}
use Rattle.sc_terms.specs.declared.steps.Step.{Step}
use Rattle.sc_terms.specs.declared.steps.Step.TheVariants as steps
use Rattle.sc_parts.specs.declared.setup.Setup.{Setup}
use Rattle.sc_parts.specs.declared.transactions.ClientItem.{ClientItem}
use Rattle.sc_state.specs.Hosts.{Host}
use Rattle.sc_state.specs.declared.host.Client.{Client}
use Rattle.sc_state.specs.declared.host.Reply.{Reply}
use Rattle.sc_state.specs.declared.host.Taken.{Taken}
use Rattle.sc_state.specs.declared.net.Net.{Net}
use Rattle.sc_state.specs.declared.queue.Queued.{Queued}
use Rattle.sc_tokens.specs.Bytes.{Bytes}
use Rattle.sc_model.specs.Timers.{DueEntry}
use Rattle.sc_hosts.specs.Inboxes.{without_answer as quiet, queue}
use Rattle.sc_hosts.specs.Nets.{change_host, is_busy, with_host_after as placed, put_reply, queue_for, queued_at}
use Rattle.sc_hosts.specs.Runs.{after_step, net_from as chained, chained_from, start}
use Rattle.sc_hosts.specs.Sessions.{Form}
use Rattle.sc_hosts.specs.Steps.{before_delivery as stepped}
use Rattle.sc_hosts.specs.Ticks.{Dated, DueItem, Of_client, Of_server, Of_session, due_items, fires, passes, net_after_tick as ticked, told_at}
use Rattle.sc_hosts.proofs.Deliveries.{none-delivered, wire-ends-empty}

-- nothing is put on the wire, and nothing is sent
pub record AreSilent {S : Type 0} (net changed : Net S) : Type 0 where
  pub wire : changed.wire ≡ net.wire
  pub sent : changed.sent ≡ net.sent

idle-start : (S : Type 0) (setup : Setup) (epoch began : ℕ) → is_busy (start {S = S} setup epoch began) ≡ false
unfolding start is_busy
idle-start S setup epoch began = refl

module _ {S : Type 0} where
  silently : (net : Net S) → AreSilent net net
  silently net = record { wire = refl; sent = refl }

  silent-then : (x y z : Net S) → AreSilent x y → AreSilent y z → AreSilent x z
  silent-then x y z p q = record { wire = q.wire ∙ p.wire; sent = q.sent ∙ p.sent }

  if-silent : (b : Bool) (net x y : Net S) → AreSilent net x → AreSilent net y → AreSilent net (cond b x y)
  if-silent true net x y p q = p
  if-silent false net x y p q = q

  host-silent : (number : ℕ) (change : Host S → Host S) (net : Net S) → AreSilent net (change_host number change net)
  host-silent number change net = record { wire = refl; sent = refl }

  reply-silent : (sender : ℕ) (reply : Option Reply) (net : Net S) → reply ≡ None → AreSilent net (put_reply sender reply net)
  unfolding put_reply
  reply-silent sender None net is = silently net
  reply-silent sender (Some reply) net is = cc

  placed-silent : (number : ℕ) (taken : Taken S) (net : Net S) → taken.reply ≡ None → AreSilent net (placed number taken net)
  unfolding placed
  placed-silent number taken net is =
      let there = reply-silent number taken.reply (record (change_host number (λ host. taken.host) net) { count = taken.count }) is in
      record { wire = there.wire; sent = there.sent }

  if-quiet : (b : Bool) (x y : Taken S) → x.reply ≡ None → y.reply ≡ None → (cond b x y).reply ≡ None
  if-quiet true x y p q = p
  if-quiet false x y p q = q

  queue-quiet : (serial now : ℕ) (event : Queued) (count : ℕ) (host : Host S) → (queue serial now event count host).reply ≡ None
  unfolding queue quiet
  queue-quiet serial now event count host = if-quiet _ (quiet (record host { sessions = _ }) (count + 1)) (quiet host count) refl refl

  queued-silent : (app : AppId) (event : Queued) (found : Option (Host S)) (net : Net S) → AreSilent net (queued_at app event found net)
  unfolding queued_at
  queued-silent app event None net = silently net
  queued-silent app event (Some host) net = placed-silent app.host _ net (queue-quiet app.serial net.moment event net.count host)

  queue-silent : (app : AppId) (event : Queued) (net : Net S) → AreSilent net (queue_for app event net)
  unfolding queue_for
  queue-silent app event net = queued-silent app event _ net

  told-silent : (config : Config) (client : Client) (reason : Bytes) (code : Option ℕ) (net : Net S) → AreSilent net (told_at config client reason code net)
  unfolding told_at
  told-silent config client reason None net = silently net
  told-silent config client reason (Some code) net = if-silent _ net net _ (silently net) (queue-silent client.app _ net)

  passes-silent : (config : Config) (item : ClientItem) (reason : Bytes) (net : Net S) (client : Client) → AreSilent net (passes config item reason net client)
  unfolding passes
  passes-silent config item reason net client = silent-then _ _ _ (host-silent client.app.host _ net) (told-silent config client reason _ _)

  fires-silent : (config : Config) (now : ℕ) (net : Net S) (entry : DueEntry) (item : DueItem) → AreSilent net (fires config now net entry item)
  unfolding fires
  fires-silent config now net entry (Of_session app event) = silent-then _ _ _ (host-silent app.host _ net) (queue-silent app event _)
  fires-silent config now net entry (Of_client client) = passes-silent config _ _ net client
  fires-silent config now net entry (Of_server server) = host-silent server.app.host _ net

  all-silent : (config : Config) (now : ℕ) (ds : List Dated) (net : Net S) → AreSilent net (fold (λ net d. fires config now net d.entry d.item) net ds)
  all-silent config now [] net = silently net
  all-silent config now (d ∷ ds) net = silent-then _ _ _ (fires-silent config now net d.entry d.item) (all-silent config now ds (fires config now net d.entry d.item))

  pub ticked-silent : (form : Form S) (config : Config) (now : ℕ) (net : Net S) → AreSilent net (ticked form config now net)
  unfolding ticked
  ticked-silent form config now net =
      let all = all-silent config now (due_items form now net) (record net { moment = now }) in record { wire = all.wire; sent = all.sent }

  pub idle-of : (net changed : Net S) → changed.wire ≡ net.wire → is_busy net ≡ false → is_busy changed ≡ false
  unfolding is_busy
  idle-of net changed same idle = rw same idle

  tick-sends : (form : Form S) (setup : Setup) (now : ℕ) (net : Net S) → is_busy net ≡ false → (after_step form setup net (steps.Tick now)).sent ≡ []
  unfolding after_step stepped
  tick-sends form setup now net idle =
      let unsent : Net S = record net { sent = [] } in
      let after : Net S = ticked form setup.config now unsent in
      let silent = ticked-silent form setup.config now unsent in
      ap (λ (n : Net S). n.sent) (none-delivered form setup after (idle-of net after silent.wire idle)) ∙ silent.sent

  idle-from : (form : Form S) (setup : Setup) (journal : List Step) (net : Net S) → is_busy net ≡ false → is_busy (chained_from form setup net journal) ≡ false
  unfolding chained_from after_step
  idle-from form setup [] net idle = idle
  idle-from form setup (step ∷ later) net idle = idle-from form setup later (after_step form setup net step) (wire-ends-empty form setup (stepped form setup step (record net { sent = [] })))

  pub idle-chained : (form : Form S) (setup : Setup) (epoch began : ℕ) (journal : List Step)
      → is_busy (chained form setup epoch began journal) ≡ false
  unfolding chained
  idle-chained form setup epoch began journal = idle-from form setup journal (start setup epoch began) (idle-start S setup epoch began)

  pub ticks-send-nothing : (form : Form S) (setup : Setup) (epoch began : ℕ) (journal : List Step) (now : ℕ)
      → (after_step form setup (chained form setup epoch began journal) (steps.Tick now)).sent ≡ []
  ticks-send-nothing form setup epoch began journal now =
      tick-sends form setup now (chained form setup epoch began journal) (idle-chained form setup epoch began journal)
