-- A tick gives each entry that is due in a session its event.
use Rattle.std.proofs.Common.{◌≡◌, inl, inr, ℕ, ◌++◌, Bool, true, false, Option, None, Some, List, [], ◌∷◌, refl, sym, ap, subst, ◌∙◌, arith}
use Rattle.std.specs.Prelude.{◌==◌, ◌&&◌, ◌||◌, cond, option_map, slice_get, nat_le}
use Rattle.std.specs.List.{find, list_any, flat_map, fold}
use Rattle.std.proofs.lemmas.Bool.Decides.{nat_tests}
use Rattle.std.proofs.lemmas.List.Folds.{list_any-append}
use Rattle.sc_value.specs.Lists.{change_first, change_nth}
use Rattle.sc_value.proofs.ListFacts.{slice_get-change_nth}
use Rattle.sc_value.specs.declared.ids.AppId.{AppId}
use Rattle.sc_terms.specs.declared.settings.Config.{Config}
use Rattle.sc_terms.specs.declared.steps.Step.TheVariants as steps
use Rattle.sc_parts.specs.declared.setup.Setup.{Setup}
use Rattle.sc_parts.specs.declared.transactions.ClientItem.{ClientItem}
use Rattle.sc_parts.specs.declared.transactions.ClientItem.TheVariants as client_items
use Rattle.sc_parts.specs.declared.timers.TimerName.{TimerName}
use Rattle.sc_parts.specs.TimerNames.{same_timer}
use Rattle.sc_parts.proofs.TimerLaws.{timer_itself}
use Rattle.sc_state.specs.Entries.{SessionEntry, entries_of, is_fired}
use Rattle.sc_state.specs.Hosts.{Host}
use Rattle.sc_state.specs.declared.host.Client.{Client}
use Rattle.sc_state.specs.declared.host.Fired.{Fired}
use Rattle.sc_state.specs.declared.host.Live.{Live}
use Rattle.sc_state.specs.declared.net.Net.{Net}
use Rattle.sc_state.specs.declared.queue.Queued.{Queued}
use Rattle.sc_tokens.specs.Bytes.{Bytes}
use Rattle.sc_model.specs.Timers.{DueEntry, is_due}
use Rattle.sc_hosts.specs.Inboxes.{is_live, live_in}
use Rattle.sc_hosts.specs.Nets.{host_at, change_host, queue_for, queued_at}
use Rattle.sc_hosts.specs.Runs.{after_step}
use Rattle.sc_hosts.specs.Sessions.{Form}
use Rattle.sc_hosts.specs.Steps.{live_at, live_of, before_delivery as stepped}
use Rattle.sc_hosts.specs.Ticks.{DueItem, Of_session, Of_client, Of_server, Dated, dated_entry as dated, live_dated, told_at, passes, mark_fired, fires, net_after_tick as ticked, due_items}
use Rattle.sc_hosts.specs.Transacting.{is_cancel_client, out_of_client, pass_client}
use Rattle.sc_walks.proofs.WalkHosts.{pass_server-walks}
use Rattle.sc_walks.proofs.WalkNets.{if-walks, fold-walks, change_host-walks, placed-walks, passed-walks, delivered-walks}
use Rattle.sc_once.proofs.Finding.{find-changed}
use Rattle.sc_keyed.specs.Keyed.{IsIn}
use Rattle.sc_timely.specs.Timely.{HadEvents, IsTaken}
use Rattle.sc_timely.proofs.Keeping.{LivesOn, HostKeeps, NetKeeps, fired-more, queues-keep, keep-hosts, keep-nets}
use Rattle.sc_timely.proofs.DueItems.{is_event_of, fires_key, key_of, same-is, app-is, due-fires}

module _ {S : Type 0} (app : AppId) where
  -- any event
  queued-keeps : (at : AppId) (event : Queued) (found : Option (Host S)) (net : Net S) → host_at at.host net ≡ found
      → NetKeeps app net (queued_at at event found net)
  unfolding queued_at
  queued-keeps at event None net is = (keep-nets app).same net
  queued-keeps at event (Some host) net is =
      placed-walks (λ number now. HostKeeps app.serial) (NetKeeps app) (keep-hosts app.serial) (keep-nets app) at.host _ host net is (queues-keep app.serial net.moment at.serial event net.count host)

  queue-keeps : (at : AppId) (event : Queued) (net : Net S) → NetKeeps app net (queue_for at event net)
  unfolding queue_for
  queue-keeps at event net = queued-keeps at event _ net refl

  told-keeps : (config : Config) (client : Client) (reason : Bytes) (code : Option ℕ) (net : Net S)
      → NetKeeps app net (told_at config client reason code net)
  unfolding told_at
  told-keeps config client reason None net = (keep-nets app).same net
  told-keeps config client reason (Some code) net =
      if-walks (λ number now. HostKeeps app.serial) (NetKeeps app) (keep-hosts app.serial) (keep-nets app) _ net net _ ((keep-nets app).same net)
      (queue-keeps client.app _ net)

  passes-keep : (config : Config) (item : ClientItem) (reason : Bytes) (net : Net S) (client : Client)
      → NetKeeps app net (passes config item reason net client)
  unfolding passes
  passes-keep config item reason net client =
      let after : Net S = change_host client.app.host (pass_client client.app client.branch (is_cancel_client client) item) net in
      (keep-nets app).after net after (told_at config client reason (out_of_client client item).tell after)
      (passed-walks (λ number now. HostKeeps app.serial) (NetKeeps app) (keep-hosts app.serial) (keep-nets app) client.app client.branch (is_cancel_client client) item net)
      (told-keeps config client reason (out_of_client client item).tell after)

  fires-keep : (config : Config) (now : ℕ) (net : Net S) (entry : DueEntry) (item : DueItem)
      → NetKeeps app net (fires config now net entry item)
  unfolding fires
  fires-keep config now net entry (Of_session at event) =
      (keep-nets app).after net (change_host at.host (mark_fired entry) net) (queue_for at event (change_host at.host (mark_fired entry) net))
      (change_host-walks (λ number now. HostKeeps app.serial) (NetKeeps app) (keep-hosts app.serial) (keep-nets app) at.host (mark_fired entry) net (λ host. (keep-hosts app.serial at.host net.moment).marks entry net.count host))
      (queue-keeps at event (change_host at.host (mark_fired entry) net))
  fires-keep config now net entry (Of_client client) = passes-keep config (client_items.MomentCame now) _ net client
  fires-keep config now net entry (Of_server server) =
      change_host-walks (λ number now. HostKeeps app.serial) (NetKeeps app) (keep-hosts app.serial) (keep-nets app) server.app.host _ net
      (λ host. pass_server-walks server.app.host net.moment (HostKeeps app.serial) (keep-hosts app.serial server.app.host net.moment) server.event _ net.count host)

  all-keep : (config : Config) (now : ℕ) (ds : List Dated) (net : Net S)
      → NetKeeps app net (fold (λ net d. fires config now net d.entry d.item) net ds)
  all-keep config now ds net = fold-walks (λ number now. HostKeeps app.serial) (NetKeeps app) (keep-hosts app.serial) (keep-nets app) ds (λ net d. fires config now net d.entry d.item) (λ net d. fires-keep config now net d.entry d.item) net

-- ## One entry is fired

same-moment : (due : ℕ) → (due == due) ≡ true
same-moment due = grind (arith, nat_tests)

last-fired : (due : ℕ) (timer : TimerName) → (due == due && same_timer timer timer) ≡ true
last-fired due timer = rw (same-moment due) (timer_itself timer)

or-last : (a b : Bool) → b ≡ true → (a || (b || false)) ≡ true
or-last true b is = refl
or-last false true is = refl
or-last false false is = is

fired-last : (fired : List Fired) (due : ℕ) (timer : TimerName)
    → is_fired (fired ++ record { due = due; timer = timer } ∷ []) due timer ≡ true
unfolding is_fired
fired-last fired due timer = list_any-append (λ f. f.due == due && same_timer f.timer timer) fired (record { due = due; timer = timer } ∷ []) ∙ or-last (list_any (λ f. f.due == due && same_timer f.timer timer) fired) _ (last-fired due timer)

and-both : (a b : Bool) → (a && b) ≡ true → (a ≡ true) × (b ≡ true)
and-both true b is = (refl, is)
and-both false b is = cc

had-all : (now : ℕ) (fired : List Fired) (entries : List SessionEntry)
    → ((entry : SessionEntry) → IsIn entry entries → nat_le entry.due now ≡ true → is_fired fired entry.due entry.timer ≡ true)
    → HadEvents now fired entries
unfolding HadEvents IsIn
had-all now fired [] each = tt
had-all now fired (entry ∷ entries) each = (each entry (inl refl), had-all now fired entries (λ e within. each e (inr within)))

had-later : (now : ℕ) (fired later : List Fired) (entries : List SessionEntry)
    → ((due : ℕ) (timer : TimerName) → is_fired fired due timer ≡ true → is_fired later due timer ≡ true)
    → HadEvents now fired entries → HadEvents now later entries
unfolding HadEvents
had-later now fired later [] before had = tt
had-later now fired later (entry ∷ entries) before had = ((λ due. before entry.due entry.timer (had.0 due)), had-later now fired later entries before had.1)

-- what had its event isn't due any more
not-due : (now due : ℕ) (fired : Bool) → (nat_le due now ≡ true → fired ≡ true) → fired ≡ false → nat_le due now ≡ false
not-due now due fired had none = by (nat_le due now) refl
  where
    clash : (b : Bool) → b ≡ true → b ≡ false → ⊥
    clash b p q = cc

    by : (t : Bool) → nat_le due now ≡ t → t ≡ false
    by false is = refl
    by true is = absurd (clash fired (had is) none)

none-both : (a b : Bool) → a ≡ false → b ≡ false → (a || b) ≡ false
none-both a b p q = rw (p, q) refl

none-left : (now : ℕ) (app : AppId) (fired : List Fired) (entries : List SessionEntry) → HadEvents now fired entries
    → list_any (λ (d : Dated). is_due now d.entry) (flat_map (λ entry. cond (is_fired fired entry.due entry.timer) [] (dated app entry.timer (Of_session app entry.event) (Some entry.due))) entries) ≡ false
unfolding HadEvents dated
none-left now app fired [] had = refl
none-left now app fired (entry ∷ entries) had =
    list_any-append (λ (d : Dated). is_due now d.entry) (cond (is_fired fired entry.due entry.timer) [] (record { entry = record { due = entry.due; app = app; timer = entry.timer }; item = Of_session app entry.event } ∷ [])) _
    ∙ none-both _ _ (by (is_fired fired entry.due entry.timer) refl) (none-left now app fired entries had.1)
  where
    by : (b : Bool) → is_fired fired entry.due entry.timer ≡ b
        → list_any (λ (d : Dated). is_due now d.entry) (cond b [] (record { entry = record { due = entry.due; app = app; timer = entry.timer }; item = Of_session app entry.event } ∷ [])) ≡ false
    by true is = refl
    by false is = none-both (nat_le entry.due now) false (not-due now entry.due (is_fired fired entry.due entry.timer) had.0 is) refl

-- it lives on, and this entry had its event
record Fires {S : Type 0} (due : ℕ) (timer : TimerName) (live : Live S) (found : Option (Live S)) : Type 0 where
  pub on : LivesOn live found
  pub fired : is_fired on.later.fired due timer ≡ true

module _ {S : Type 0} where
  with_mark : DueEntry → Live S → Live S
  with_mark entry live = record live { fired = live.fired ++ record { due = entry.due; timer = entry.timer } ∷ [] }

  at-host : (app : AppId) (live : Live S) (found : Option (Host S)) → live_of app found ≡ Some live
      → (host : Host S) × (found ≡ Some host) × (find (is_live app.serial) host.sessions ≡ Some live)
  at-host app live None is = cc
  at-host app live (Some host) is = (host, refl, is)

  marked-is : (serial : ℕ) (entry : DueEntry) (host : Host S) (live : Live S) → entry.app.serial ≡ serial
      → find (is_live serial) host.sessions ≡ Some live
      → live_in serial (mark_fired entry host) ≡ Some (with_mark entry live)
  unfolding mark_fired with_mark
  marked-is serial entry host live same is =
      subst (λ (n : ℕ). find (is_live serial) (change_first (is_live n) (with_mark entry) host.sessions) ≡ Some (with_mark entry live)) (sym same)
      (find-changed host.sessions (is_live serial) (with_mark entry) (λ live. refl) ∙ ap (option_map (with_mark entry)) is)

  mark-at : (app : AppId) (entry : DueEntry) (net : Net S) (live : Live S) → entry.app ≡ app
      → live_at app net ≡ Some live
      → live_at app (change_host app.host (mark_fired entry) net) ≡ Some (with_mark entry live)
  mark-at app entry net live same is =
      let at = at-host app live (host_at app.host net) is in
      let later : slice_get (change_nth app.host (mark_fired entry) net.hosts) app.host ≡ Some (mark_fired entry at.0) = slice_get-change_nth app.host (mark_fired entry) net.hosts ∙ ap (option_map (mark_fired entry)) at.1 in
      ap (live_of app) later ∙ marked-is app.serial entry at.0 live (ap (λ (a : AppId). a.serial) same) at.2

  fires-one : (app : AppId) (config : Config) (now : ℕ) (net : Net S) (live : Live S) (key entry : DueEntry) (item : DueItem)
      → key.app ≡ app → live_at app net ≡ Some live → is_event_of app item ≡ true → entry ≡ key
      → Fires key.due key.timer live (live_at app (fires config now net entry item))
  unfolding fires is_event_of with_mark
  fires-one app config now net live key entry (Of_session at event) of is event-is same =
      subst (λ (e : DueEntry). Fires key.due key.timer live (live_at app (queue_for at event (change_host at.host (mark_fired e) net)))) (sym same)
      (subst (λ (a : AppId). Fires key.due key.timer live (live_at app (queue_for a event (change_host a.host (mark_fired key) net)))) (sym (app-is at app event-is)) here)
    where
      here : Fires key.due key.timer live (live_at app (queue_for app event (change_host app.host (mark_fired key) net)))
      here =
          let on = queue-keeps app app event (change_host app.host (mark_fired key) net) (with_mark key live) (mark-at app key net live of is) in record {
            on = record { later = on.later; found_is = on.found_is; same = on.same; before = λ due timer had. on.before due timer (fired-more live.fired (record { due = key.due; timer = key.timer }) due timer had) };
            fired = on.before key.due key.timer (fired-last live.fired key.due key.timer);
          }
  fires-one app config now net live key entry (Of_client client) of is event-is same = cc
  fires-one app config now net live key entry (Of_server server) of is event-is same = cc

  fires-all : (app : AppId) (config : Config) (now : ℕ) (ds : List Dated) (net : Net S) (live : Live S) (key : DueEntry)
      → key.app ≡ app → live_at app net ≡ Some live → list_any (fires_key app key) ds ≡ true
      → Fires key.due key.timer live (live_at app (fold (λ net d. fires config now net d.entry d.item) net ds))
  fires-all app config now [] net live key of is has = cc
  fires-all app config now (d ∷ ds) net live key of is has =
      by (fires_key app key d) refl has (λ later is has. fires-all app config now ds (fires config now net d.entry d.item) later key of is has)
    where
      by : (b : Bool) → fires_key app key d ≡ b → (b || list_any (fires_key app key) ds) ≡ true
          → ((later : Live S) → live_at app (fires config now net d.entry d.item) ≡ Some later → list_any (fires_key app key) ds ≡ true
          → Fires key.due key.timer later (live_at app (fold (λ net d. fires config now net d.entry d.item) (fires config now net d.entry d.item) ds)))
          → Fires key.due key.timer live (live_at app (fold (λ net d. fires config now net d.entry d.item) (fires config now net d.entry d.item) ds))
      by true at has later =
          let both = and-both (is_event_of app d.item) _ at in
          let one = fires-one app config now net live key d.entry d.item of is both.0 (same-is d.entry key both.1) in
          let rest = all-keep app config now ds (fires config now net d.entry d.item) one.on.later one.on.found_is in
          record {
            on = record { later = rest.later; found_is = rest.found_is; same = rest.same ∙ one.on.same; before = λ due timer had. rest.before due timer (one.on.before due timer had) };
            fired = rest.before key.due key.timer one.fired;
          }
      by false at has later =
          let one = fires-keep app config now net d.entry d.item live is in
          let rest = later one.later one.found_is has in
          record {
            on = record { later = rest.on.later; found_is = rest.on.found_is; same = rest.on.same ∙ one.same; before = λ due timer had. rest.on.before due timer (one.before due timer had) };
            fired = rest.fired;
          }

  -- ## All that is due

  some-same : (x : Option (Live S)) (a b : Live S) → x ≡ Some a → x ≡ Some b → a ≡ b
  some-same x a b p q = cc

  entry-fired : (form : Form S) (config : Config) (now : ℕ) (net : Net S) (app : AppId) (live later : Live S) (entry : SessionEntry)
      → live_at app net ≡ Some live → live_at app (ticked form config now net) ≡ Some later
      → ((due : ℕ) (timer : TimerName) → is_fired live.fired due timer ≡ true → is_fired later.fired due timer ≡ true)
      → IsIn entry (entries_of (form.read live.session)) → nat_le entry.due now ≡ true → (b : Bool)
      → is_fired live.fired entry.due entry.timer ≡ b → is_fired later.fired entry.due entry.timer ≡ true
  unfolding ticked
  entry-fired form config now net app live later entry is after before within due true had = before entry.due entry.timer had
  entry-fired form config now net app live later entry is after before within due false unfired =
      let at = at-host app live (host_at app.host net) is in
      let one = fires-all app config now (due_items form now net) (record net { moment = now }) live (key_of app entry) refl is (due-fires form net now app at.0 live entry at.1 at.2 within due unfired) in
      subst (λ (l : Live S). is_fired l.fired entry.due entry.timer ≡ true) (some-same _ one.on.later later one.on.found_is after) one.fired

  tick-on : (form : Form S) (config : Config) (now : ℕ) (net : Net S) (app : AppId) (live : Live S)
      → live_at app net ≡ Some live → LivesOn live (live_at app (ticked form config now net))
  unfolding ticked
  tick-on form config now net app live is = all-keep app config now (due_items form now net) (record net { moment = now }) live is

  nothing-left : (form : Form S) (now number : ℕ) (live : Live S)
      → HadEvents now live.fired (entries_of (form.read live.session))
      → list_any (λ (d : Dated). is_due now d.entry) (live_dated form number live) ≡ false
  unfolding live_dated
  nothing-left form now number live had = none-left now (record { host = number; serial = live.serial }) live.fired (entries_of (form.read live.session)) had

  pub tick-takes : (form : Form S) (config : Config) (now : ℕ) (net : Net S) (app : AppId) (live : Live S)
      → live_at app net ≡ Some live → IsTaken form now app live (live_at app (ticked form config now net))
  tick-takes form config now net app live is =
      let on = tick-on form config now net app live is in
      let had = subst (λ (s : S). HadEvents now on.later.fired (entries_of (form.read s))) (sym on.same)
      (had-all now on.later.fired (entries_of (form.read live.session)) (λ entry within due. entry-fired form config now net app live on.later entry is on.found_is on.before within due _ refl)) in record {
        later = on.later;
        found_is = on.found_is;
        same = on.same;
        before = on.before;
        taken = had;
        left = nothing-left form now app.host on.later had;
      }

  -- a step with all that it makes hosts deliver
  pub step-takes : (form : Form S) (setup : Setup) (now : ℕ) (net : Net S) (app : AppId) (live : Live S)
      → live_at app net ≡ Some live
      → IsTaken form now app live (live_at app (after_step form setup net (steps.Tick now)))
  unfolding after_step stepped
  step-takes form setup now net app live is =
      let taken = tick-takes form setup.config now (record net { sent = [] }) app live is in
      let rest = delivered-walks (λ number now. HostKeeps app.serial) (NetKeeps app) (keep-hosts app.serial) (keep-nets app) form tt setup (ticked form setup.config now (record net { sent = [] })) taken.later taken.found_is in
      let had = subst (λ (s : S). HadEvents now rest.later.fired (entries_of (form.read s))) (sym rest.same)
      (had-later now taken.later.fired rest.later.fired (entries_of (form.read taken.later.session)) rest.before taken.taken) in record {
        later = rest.later;
        found_is = rest.found_is;
        same = rest.same ∙ taken.same;
        before = λ due timer had. rest.before due timer (taken.before due timer had);
        taken = had;
        left = nothing-left form now app.host rest.later had;
      }
