-- How the calls of a switch move it on in a recording.
use Rattle.std.proofs.Common.{◌≡◌, ◌≤◌, ◌+◌, ℕ, List, [], ◌∷◌, ◌++◌, refl, sym, ap, subst, ◌∙◌, append_assoc, length-append, take, drop, length, true, arith}
use Rattle.std.proofs.Math.Seq.{take-add, take-length}
use Rattle.std.specs.Prelude.{Option, None, Some}
use Rattle.std.proofs.lemmas.Grind.{flat_map-append}
use Rattle.std.proofs.lemmas.List.{append-nil}
use Rattle.std.proofs.lemmas.List.Sums.{sum_by_push}
use Rattle.sc_value.specs.declared.message.Sent.{Sent}
use Rattle.sc_terms.specs.declared.steps.Step.{Step}
use Rattle.sc_parts.specs.declared.setup.Setup.{Setup}
use Rattle.sc_tokens.specs.Bytes.{Bytes}
use Rattle.sc_value.specs.declared.ids.AppId.{AppId}
use Rattle.sc_servlets.specs.declared.lease.Lease.{Lease}
use Rattle.sc_hosts.specs.Histories.{as_session}
use Rattle.sc_edge.specs.Taking.{Takes, Takes_none, Takes_then}
use Rattle.sc_model.specs.Records.{end_text, records}
use Rattle.sc_hosts.specs.Runs.{AreLawful, Epoch, IsLawful, IsLawfulAfter, after_step, all_sent, all_sent_by, all_sent_from, net_from as chained, is_idle, live_count, net_of as net_after}
use Rattle.sc_recording.specs.StepTexts.{epoch_text, step_text, steps_text}
use Rattle.sc_switch.specs.declared.refused.Epoch.{Epoch as Ended}
use Rattle.sc_switch.specs.declared.ran.Status.{Status}
use Rattle.sc_switch.specs.declared.ran.Status.TheVariants as statuses
use Rattle.sc_switch.specs.Standing.{Known, net_of, whole}
use Rattle.sc_switch.specs.Answers.{IsTurned, LeasedOf, handing, with_step}
use Rattle.sc_switch.proofs.Standings.{sent-step}
use Rattle.sc_terms.specs.declared.settings.Config.{Config}
use Rattle.sc_terms.specs.declared.settings.Dar.{Dar}
use Rattle.sc_edge.specs.Shelving.{GivesAll}
use Rattle.sc_model.specs.Settings.{Charters}
use Rattle.sc_replay.specs.Replaying.{IsUnset, TellsConfig, TellsTable, app_names}
use Rattle.sc_replay.proofs.Writings.{records-append}
use Rattle.sc_play.specs.declared.running.Counts.{Counts}
use Rattle.sc_play.specs.Played.{IsEnd, IsPlayed, IsRecorded, IsRecording, IsRow, Lent, PlaysBack, Took, TookStep, capped_count as counted, ended_text, run_output, running, steps_in, nothing_counted as uncounted, whole_text}

-- a step was taken
pub took_step : (old new : Known) (step : Step) → new ≡ with_step old step → Took old new
unfolding Took
took_step old new step is = (step, rw is (record { setup_is = refl; epoch_is = refl; began_is = refl; handed_is = refl; journal_is = refl; left_is = refl }))

-- it was, after something was lent out
pub took_lent : (old mid new : Known) → Lent old mid → Took mid new → Took old new
unfolding Took Lent net_of
took_lent old mid new lent (step, t) = (
  step,
  record {
    setup_is = t.setup_is ∙ ap (λ (k : Known). k.setup) lent;
    epoch_is = t.epoch_is ∙ ap (λ (k : Known). k.epoch) lent;
    began_is = t.began_is ∙ ap (λ (k : Known). k.began) lent;
    handed_is = t.handed_is ∙ ap (λ (k : Known). k.handed) lent;
    journal_is = t.journal_is ∙ ap (λ (k : Known). k.journal ++ step ∷ []) lent;
    left_is = t.left_is ∙ ap (λ (k : Known). k.left ++ (after_step as_session k.setup (net_of k) step).sent) lent;
  },
)

-- nothing was lent out
pub lent_none : (old : Known) → Lent old old
unfolding Lent
lent_none old = refl

-- and then more
pub lent_then : (old mid new : Known) → Lent old mid → Lent mid new → Lent old new
unfolding Lent
lent_then old mid new first second = second ∙ ap (λ (k : Known). record k { kept = new.kept; leases = new.leases }) first

-- leases alone changed
lent_by : (old new : Known) (kept : List Lease) (leases : ℕ) → new ≡ record old { kept = kept; leases = leases } → Lent old new
unfolding Lent
lent_by old new kept leases is = subst (λ (k : Known). k ≡ record old { kept = k.kept; leases = k.leases }) (sym is) refl

-- a turn of this session was lent out, or none
pub lent_of : (app : AppId) (old new : Known) (lease : Option Lease) → LeasedOf app old new lease → Lent old new
unfolding LeasedOf
lent_of app old new None leased = lent_by old new old.kept old.leases leased.0
lent_of app old new (Some lease) (app_is, first_is, free, given) = lent_by old new (old.kept ++ lease ∷ []) (old.leases + 1) given.new_is

-- ## The texts

steps-then : (first rest : List Step) → steps_text (first ++ rest) ≡ steps_text first ++ steps_text rest
unfolding steps_text
steps-then first rest = flat_map-append step_text first rest

steps-one : (step : Step) → steps_text (step ∷ []) ≡ step_text step
unfolding steps_text
steps-one step = append-nil (step_text step)

steps-none : steps_text [] ≡ []
unfolding steps_text
steps-none = refl

ended-then : (first : List Epoch) (epoch : Epoch) → ended_text (first ++ epoch ∷ []) ≡ ended_text first ++ whole_text epoch
unfolding ended_text
ended-then first epoch = flat_map-append whole_text first (epoch ∷ []) ∙ ap (λ (bytes : Bytes). ended_text first ++ bytes) (append-nil (whole_text epoch))

-- the steps of an epoch after one more, handed on
whole-next : (old mid : Known) (step : Step) → TookStep old mid step → whole (handing mid) ≡ whole old ++ step ∷ []
whole-next old mid step took =
    append-nil (whole mid) ∙ ap (λ (l : List Step). l ++ mid.journal) took.handed_is ∙ ap (λ (l : List Step). old.handed ++ l) took.journal_is
    ∙ sym (append_assoc old.handed old.journal (step ∷ []))

-- ## What they send

-- what epochs send, and then one more
sent-next : (setup : Setup) (ended : List Epoch) (epoch : Epoch) → all_sent_by as_session setup (ended ++ epoch ∷ []) ≡ all_sent_by as_session setup ended ++ all_sent as_session setup epoch.number epoch.began epoch.journal
unfolding all_sent_by
sent-next setup ended epoch =
    flat_map-append (λ (e : Epoch). all_sent as_session setup e.number e.began e.journal) ended (epoch ∷ [])
    ∙ ap (λ (l : List Sent). all_sent_by as_session setup ended ++ l) (append-nil (all_sent as_session setup epoch.number epoch.began epoch.journal))

-- an epoch without steps sends nothing
sent-none : (setup : Setup) (epoch began : ℕ) → all_sent as_session setup epoch began [] ≡ []
unfolding all_sent all_sent_from
sent-none setup epoch began = refl

-- what is left to be put of a step is all that it sends
left-row : (setup : Setup) (old mid : Known) (step : Step) → TookStep old mid step → old.setup ≡ setup → old.left ≡ [] → mid.left ≡ (after_step as_session setup (chained as_session setup old.epoch old.began (whole old)) step).sent
unfolding net_of
left-row setup old mid step took setup_is left_is =
    took.left_is ∙ ap (λ (l : List Sent). l ++ (after_step as_session old.setup (net_of old) step).sent) left_is
    ∙ ap (λ (s : Setup). (after_step as_session s (chained as_session s old.epoch old.began (whole old)) step).sent) setup_is

-- what the running epoch sends, with a step more
sent-running : (setup : Setup) (old mid : Known) (step : Step) → TookStep old mid step → old.setup ≡ setup → old.left ≡ []
    → all_sent as_session setup mid.epoch mid.began (whole (handing mid)) ≡ all_sent as_session setup old.epoch old.began (whole old) ++ mid.left
sent-running setup old mid step took setup_is left_is =
    ap (λ (n : ℕ). all_sent as_session setup n mid.began (whole (handing mid))) took.epoch_is
    ∙ ap (λ (n : ℕ). all_sent as_session setup old.epoch n (whole (handing mid))) took.began_is
    ∙ ap (λ (l : List Step). all_sent as_session setup old.epoch old.began l) (whole-next old mid step took)
    ∙ sent-step setup old.epoch old.began (whole old) step
    ∙ ap (λ (l : List Sent). all_sent as_session setup old.epoch old.began (whole old) ++ l) (sym (left-row setup old mid step took setup_is left_is))

-- what all epochs send, with a step more
sent-row : (setup : Setup) (ended : List Epoch) (old mid : Known) (step : Step) → TookStep old mid step → old.setup ≡ setup → old.left ≡ []
    → all_sent_by as_session setup (ended ++ running (handing mid) ∷ []) ≡ all_sent_by as_session setup (ended ++ running old ∷ []) ++ mid.left
unfolding running
sent-row setup ended old mid step took setup_is left_is =
    sent-next setup ended (running (handing mid))
    ∙ ap (λ (l : List Sent). all_sent_by as_session setup ended ++ l) (sent-running setup old mid step took setup_is left_is)
    ∙ sym (append_assoc (all_sent_by as_session setup ended) (all_sent as_session setup old.epoch old.began (whole old)) mid.left)
    ∙ ap (λ (l : List Sent). l ++ mid.left) (sym (sent-next setup ended (running old)))

-- ## How many they are

steps-next : (ended : List Epoch) (epoch : Epoch) → steps_in (ended ++ epoch ∷ []) ≡ steps_in ended + length epoch.journal
unfolding steps_in
steps-next ended epoch = sum_by_push (λ (e : Epoch). length e.journal) ended epoch

plus-one : (a b : ℕ) → a + (b + 1) ≡ (a + b) + 1
plus-one a b = omega arith

steps-row : (ended : List Epoch) (old mid : Known) (step : Step) → TookStep old mid step → steps_in (ended ++ running (handing mid) ∷ []) ≡ steps_in (ended ++ running old ∷ []) + 1
unfolding running
steps-row ended old mid step took =
    steps-next ended (running (handing mid))
    ∙ ap (λ (n : ℕ). steps_in ended + n) (ap (λ (l : List Step). length l) (whole-next old mid step took) ∙ length-append (whole old) (step ∷ []))
    ∙ plus-one (steps_in ended) (length (whole old)) ∙ ap (λ (n : ℕ). n + 1) (sym (steps-next ended (running old)))

-- a count and then more
counted-more : (n m count next : ℕ) → count ≡ counted n → next ≡ counted (count + m) → next ≡ counted (n + m)
counted-more n m count next is next_is = omega (arith, is, next_is)

none-by : (setup : Setup) → all_sent_by as_session setup [] ++ [] ≡ []
unfolding all_sent_by
none-by setup = refl

none-put : (out : Option Bytes) → Takes out out (records [])
unfolding records
none-put out = Takes_none out

none-in : steps_in [] + 0 ≡ 0
unfolding steps_in
none-in = refl

-- ## How far it came

-- a switch that took no step
pub played_none : (known : Known) (out : Option Bytes) → known.epoch ≡ 0 → known.began ≡ 0 → known.handed ≡ [] → known.journal ≡ [] → known.left ≡ [] → IsPlayed known.setup [] known uncounted out out
unfolding AreLawful ended_text running
played_none known out epoch began handed journal left =
    let none : whole known ≡ [] = ap (λ (l : List Step). l ++ known.journal) handed ∙ journal in
    let silent : all_sent_by as_session known.setup ([] ++ running known ∷ []) ≡ [] =
    sent-next known.setup [] (running known) ∙ ap (λ (l : List Sent). all_sent_by as_session known.setup [] ++ l)
    (ap (λ (l : List Step). all_sent as_session known.setup known.epoch known.began l) none ∙ sent-none known.setup known.epoch known.began) ∙ none-by known.setup in
    record {
      ended = [];
      text_is = sym (ap steps_text none ∙ steps-none);
      lawful = λ later after. rw (epoch, began) at after;
      setup_is = refl;
      journal_is = journal;
      left_is = left;
      takes = subst (λ (l : List Sent). Takes out out (records l)) (sym silent) (none-put out);
      steps_is = sym (ap (λ (n : ℕ). counted n) (steps-next [] (running known) ∙ ap (λ (n : ℕ). steps_in [] + n) (ap (λ (l : List Step). length l) none) ∙ none-in));
      sent_is = sym (ap (λ (l : List Sent). counted (length l)) silent);
    }

-- a row's step was taken and handed on
pub row_of : (old mid new : Known) (bytes : Bytes) → Took old mid → new ≡ handing mid → ((step : Step) → mid.journal ≡ step ∷ [] → bytes ≡ step_text step) → old.journal ≡ [] → IsRow old new bytes
unfolding Took
row_of old mid new bytes (step, took) new_is text_is journal_is = record {
  step = step;
  taken = mid;
  took = took;
  new_is = new_is;
  text_is = text_is step (took.journal_is ∙ ap (λ (l : List Step). l ++ step ∷ []) journal_is);
}

-- the end of an epoch
pub end_of : (old new : Known) (bytes : Bytes) (ended : Ended) → IsTurned old new ended → bytes ≡ epoch_text ended.number ended.began → IsEnd old new bytes
end_of old new bytes ended turned text_is = record { ended = ended; turned = turned; text_is = text_is }

-- the text behind a row
row-text : (text bytes : Bytes) (ended : List Epoch) (old mid : Known) (step : Step) → text ≡ ended_text ended ++ steps_text (whole old) → TookStep old mid step → bytes ≡ step_text step
    → text ++ bytes ≡ ended_text ended ++ steps_text (whole (handing mid))
row-text text bytes ended old mid step text_is took bytes_is =
    ap (λ (b : Bytes). b ++ bytes) text_is ∙ ap (λ (b : Bytes). (ended_text ended ++ steps_text (whole old)) ++ b) bytes_is
    ∙ append_assoc (ended_text ended) (steps_text (whole old)) (step_text step)
    ∙ ap (λ (b : Bytes). ended_text ended ++ b)
    (sym (ap steps_text (whole-next old mid step took) ∙ steps-then (whole old) (step ∷ []) ∙ ap (λ (b : Bytes). steps_text (whole old) ++ b) (steps-one step)))

-- records, and then those of more
put-more : (first a b : Option Bytes) (before more all : List Sent) → all ≡ before ++ more → Takes first a (records before) → Takes a b (records more) → Takes first b (records all)
put-more first a b before more all is old new =
    subst (λ (bytes : Bytes). Takes first b bytes) (sym (ap records is ∙ records-append before more)) (Takes_then first a b (records before) (records more) old new)

-- what was sent of a step was put, and both were counted
put-row : (setup : Setup) (text bytes : Bytes) (old mid : Known) (step : Step) (counts next : Counts) (first a b : Option Bytes) → IsPlayed setup text old counts first a → TookStep old mid step
    → bytes ≡ step_text step → Takes a b (records mid.left) → next.steps ≡ counted (counts.steps + 1) → next.sent ≡ counted (counts.sent + length mid.left) → IsPlayed setup (text ++ bytes) (record (handing mid) { left = [] }) next first b
unfolding running
put-row setup text bytes old mid step counts next first a b played took bytes_is takes steps_is sent_is =
    let sent = sent-row setup played.ended old mid step took played.setup_is played.left_is in
    record {
      ended = played.ended;
      text_is = row-text text bytes played.ended old mid step played.text_is took bytes_is;
      lawful = λ later after. played.lawful later (rw (took.epoch_is, took.began_is) at after);
      setup_is = took.setup_is ∙ played.setup_is;
      journal_is = refl;
      left_is = refl;
      takes = put-more first a b (all_sent_by as_session setup (played.ended ++ running old ∷ [])) mid.left (all_sent_by as_session setup (played.ended ++ running (handing mid) ∷ [])) sent played.takes takes;
      steps_is = counted-more (steps_in (played.ended ++ running old ∷ [])) 1 counts.steps next.steps played.steps_is steps_is ∙ ap (λ (n : ℕ). counted n) (sym (steps-row played.ended old mid step took));
      sent_is =
          counted-more (length (all_sent_by as_session setup (played.ended ++ running old ∷ []))) (length mid.left) counts.sent next.sent played.sent_is sent_is
          ∙ ap (λ (n : ℕ). counted n) (sym (ap (λ (l : List Sent). length l) sent ∙ length-append (all_sent_by as_session setup (played.ended ++ running old ∷ [])) mid.left));
    }

-- a row was played: its step was taken, and what it sent was put
pub played_row : (setup : Setup) (text bytes : Bytes) (old mid new : Known) (counts next : Counts) (first a b : Option Bytes) → IsPlayed setup text old counts first a → (old.journal ≡ [] → IsRow old mid bytes)
    → new ≡ record mid { left = new.left } → new.left ≡ [] → Takes a b (records mid.left) → next.steps ≡ counted (counts.steps + 1) → next.sent ≡ counted (counts.sent + length mid.left) → IsPlayed setup (text ++ bytes) new next first b
played_row setup text bytes old mid new counts next first a b played row new_is left_is takes steps_is sent_is =
    let made = row played.journal_is in
    let is : new ≡ record (handing made.taken) { left = [] } = new_is ∙ ap (λ (l : List Sent). record mid { left = l }) left_is ∙ ap (λ (k : Known). record k { left = [] }) made.new_is in
    let put : Takes a b (records made.taken.left) = subst (λ (k : Known). Takes a b (records k.left)) made.new_is takes in
    let count : next.sent ≡ counted (counts.sent + length made.taken.left) = sent_is ∙ ap (λ (k : Known). counted (counts.sent + length k.left)) made.new_is in
    subst (λ (k : Known). IsPlayed setup (text ++ bytes) k next first b) (sym is)
    (put-row setup text bytes old made.taken made.step counts next first a b played made.took made.text_is put steps_is count)

-- an epoch that ended idle goes before lawful ones
lawful-next : (setup : Setup) (epoch : Epoch) (later : List Epoch) → IsLawful as_session setup epoch.number epoch.began epoch.journal → is_idle (net_after as_session setup epoch) ≡ true
    → IsLawfulAfter as_session setup (epoch.number + 1) (net_after as_session setup epoch).moment later → IsLawfulAfter as_session setup epoch.number epoch.began (epoch ∷ later)
unfolding IsLawfulAfter
lawful-next setup epoch [] lawful idle after = (refl, refl, lawful)
lawful-next setup epoch (next ∷ later) lawful idle after = (refl, refl, lawful, idle, after)

-- the net of the running epoch is that of the switch
running-net : (known : Known) → net_after as_session known.setup (running known) ≡ net_of known
unfolding net_of net_after running
running-net known = refl

-- what epochs send, and how many steps they have, with one behind them that has no step
sent-fresh : (setup : Setup) (ended : List Epoch) (epoch : Epoch) → epoch.journal ≡ [] → all_sent_by as_session setup (ended ++ epoch ∷ []) ≡ all_sent_by as_session setup ended
sent-fresh setup ended epoch none =
    sent-next setup ended epoch
    ∙ ap (λ (l : List Sent). all_sent_by as_session setup ended ++ l) (ap (λ (l : List Step). all_sent as_session setup epoch.number epoch.began l) none ∙ sent-none setup epoch.number epoch.began)
    ∙ append-nil (all_sent_by as_session setup ended)

steps-fresh : (ended : List Epoch) (epoch : Epoch) → epoch.journal ≡ [] → steps_in (ended ++ epoch ∷ []) ≡ steps_in ended
steps-fresh ended epoch none =
    let next = steps-next ended epoch in
    let zero_is : length epoch.journal ≡ 0 = ap (λ (l : List Step). length l) none in
    omega (arith, next, zero_is)

-- the text behind the end of an epoch
end-text : (text bytes : Bytes) (ended : List Epoch) (old new : Known) (closed : Ended) → text ≡ ended_text ended ++ steps_text (whole old) → IsTurned old new closed → bytes ≡ epoch_text closed.number closed.began
    → text ++ bytes ≡ ended_text (ended ++ running old ∷ []) ++ steps_text []
unfolding whole_text running
end-text text bytes ended old new closed text_is turned bytes_is =
    ap (λ (b : Bytes). b ++ bytes) text_is ∙ append_assoc (ended_text ended) (steps_text (whole old)) bytes
    ∙ ap (λ (b : Bytes). ended_text ended ++ (steps_text (whole old) ++ b)) (bytes_is ∙ ap (λ (n : ℕ). epoch_text n closed.began) turned.number_is ∙ ap (λ (n : ℕ). epoch_text old.epoch n) turned.began_is)
    ∙ sym (ended-then ended (running old)) ∙ sym (ap (λ (b : Bytes). ended_text (ended ++ running old ∷ []) ++ b) steps-none ∙ append-nil (ended_text (ended ++ running old ∷ [])))

-- the epoch ended, and this is the text of its end
pub played_end : (setup : Setup) (text bytes : Bytes) (old new : Known) (counts : Counts) (first a : Option Bytes) → IsPlayed setup text old counts first a → IsEnd old new bytes → IsPlayed setup (text ++ bytes) new counts first a
unfolding running net_after net_of
played_end setup text bytes old new counts first a played closing =
    let turned = closing.turned in
    let fresh : Known = record { setup = old.setup; epoch = old.epoch + 1; began = (net_of old).moment; handed = []; journal = []; left = []; kept = []; leases = old.leases } in
    let ended = played.ended ++ running old ∷ [] in
    let sent = sent-fresh setup ended (running fresh) refl in
    subst (λ (k : Known). IsPlayed setup (text ++ bytes) k counts first a) (sym turned.new_is)
    (record {
      ended = ended;
      text_is = end-text text bytes played.ended old new closing.ended played.text_is turned closing.text_is;
      lawful = λ later after.
          subst (λ (es : List Epoch). AreLawful as_session setup es) (sym (append_assoc played.ended (running old ∷ []) later))
          (played.lawful (running old ∷ later)
          (subst (λ (s : Setup). IsLawfulAfter as_session s old.epoch old.began (running old ∷ later)) played.setup_is
          (lawful-next old.setup (running old) later turned.lawful (ap (λ (n : _). is_idle n) (running-net old) ∙ turned.idle)
          (subst (λ (s : Setup). IsLawfulAfter as_session s (old.epoch + 1) (net_of old).moment later) (sym played.setup_is) after))));
      setup_is = played.setup_is;
      journal_is = refl;
      left_is = refl;
      takes = subst (λ (l : List Sent). Takes first a (records l)) (sym sent) played.takes;
      steps_is = played.steps_is ∙ ap (λ (n : ℕ). counted n) (sym (steps-fresh ended (running fresh) refl));
      sent_is = played.sent_is ∙ ap (λ (l : List Sent). counted (length l)) (sym sent);
    })

-- the last epoch goes on
last-lawful : (setup : Setup) (epoch : Epoch) → IsLawful as_session setup epoch.number epoch.began epoch.journal → IsLawfulAfter as_session setup epoch.number epoch.began (epoch ∷ [])
unfolding IsLawfulAfter
last-lawful setup epoch lawful = (refl, refl, lawful)

-- records, and the last line behind them
output-put : (setup : Setup) (ended : List Epoch) (known : Known) (counts : Counts) (first a b : Option Bytes) → known.setup ≡ setup → Takes first a (records (all_sent_by as_session setup (ended ++ running known ∷ [])))
    → counts.steps ≡ counted (steps_in (ended ++ running known ∷ [])) → counts.sent ≡ counted (length (all_sent_by as_session setup (ended ++ running known ∷ [])))
    → Takes a b (end_text counts.steps counts.sent (live_count (net_of known))) → Takes first b (run_output setup ended (running known))
unfolding run_output
output-put setup ended known counts first a b setup_is put steps_is sent_is last =
    let sent = all_sent_by as_session setup (ended ++ running known ∷ []) in
    let net : net_of known ≡ net_after as_session setup (running known) = sym (running-net known) ∙ ap (λ (s : Setup). net_after as_session s (running known)) setup_is in
    let line : end_text counts.steps counts.sent (live_count (net_of known)) ≡ end_text (counted (steps_in (ended ++ running known ∷ []))) (counted (length sent)) (live_count (net_after as_session setup (running known))) = rw (steps_is, sent_is, net) refl in
    Takes_then first a b (records sent) (end_text (counted (steps_in (ended ++ running known ∷ []))) (counted (length sent)) (live_count (net_after as_session setup (running known)))) put
    (subst (λ (bytes : Bytes). Takes a b bytes) line last)

-- all rows were played, and the last line was put
pub played_all : (setup : Setup) (text : Bytes) (known : Known) (counts : Counts) (first a b : Option Bytes) → IsPlayed setup text known counts first a → IsLawful as_session known.setup known.epoch known.began (whole known)
    → Takes a b (end_text counts.steps counts.sent (live_count (net_of known))) → IsRecording setup text first b
unfolding running
played_all setup text known counts first a b played lawful last = record {
  ended = played.ended;
  running = running known;
  text_is = played.text_is;
  lawful = played.lawful (running known ∷ []) (last-lawful setup (running known) (subst (λ (s : Setup). IsLawful as_session s known.epoch known.began (whole known)) played.setup_is lawful));
  output_is = output-put setup played.ended known counts first a b played.setup_is played.takes played.steps_is played.sent_is last;
}

-- ## Row by row

-- the first rows were played, from a switch that took no step
abbrev pub HasPlayed : Known → Option Bytes → Bytes → Known → Counts → Option Bytes → Type 0
HasPlayed start first text known counts now = (setup : Setup) → IsPlayed setup [] start uncounted first first → IsPlayed setup text known counts first now

-- before the first row
pub rows_none : (text : Bytes) (known : Known) (out : Option Bytes) → HasPlayed known out (take 0 text) known uncounted out
rows_none text known out setup played = played

-- a row was played
pub row_next : (text rest bytes : Bytes) (at len : ℕ) (old new : Known) (counts next : Counts) (a b : Option Bytes) → rest ≡ drop at text → bytes ≡ take len rest
    → ((setup : Setup) (before : Bytes) (first : Option Bytes) → IsPlayed setup before old counts first a → IsPlayed setup (before ++ bytes) new next first b)
    → (setup : Setup) (first : Option Bytes) → IsPlayed setup (take at text) old counts first a → IsPlayed setup (take (at + len) text) new next first b
row_next text rest bytes at len old new counts next a b rest_is bytes_is row setup first played =
    subst (λ (t : Bytes). IsPlayed setup t new next first b)
    (ap (λ (t : Bytes). take at text ++ t) (bytes_is ∙ ap (λ (l : Bytes). take len l) rest_is) ∙ sym (take-add at len text)) (row setup (take at text) first played)

-- after one more
pub rows_next : (text : Bytes) (at next : ℕ) (start old new : Known) (counts more : Counts) (first a b : Option Bytes) → HasPlayed start first (take at text) old counts a
    → ((setup : Setup) (front : Option Bytes) → IsPlayed setup (take at text) old counts front a → IsPlayed setup (take next text) new more front b) → HasPlayed start first (take next text) new more b
rows_next text at next start old new counts more first a b before row setup played = row setup first (before setup played)

-- after the last
pub rows_all : (text : Bytes) (at : ℕ) (start known : Known) (counts : Counts) (first a b : Option Bytes) → at ≤ length text → length text ≤ at → HasPlayed start first (take at text) known counts a
    → IsLawful as_session known.setup known.epoch known.began (whole known) → Takes a b (end_text counts.steps counts.sent (live_count (net_of known))) → (setup : Setup) → IsPlayed setup [] start uncounted first first → IsRecording setup text first b
rows_all text at start known counts first a b within past before lawful last setup played =
    let is : at ≡ length text = omega (arith, within, past) in
    played_all setup text known counts first a b (subst (λ (t : Bytes). IsPlayed setup t known counts first a) (ap (λ (n : ℕ). take n text) is ∙ take-length text) (before setup played)) lawful last

-- ## The texts of a command

-- the text that is told is a recording
pub recorded : (setup : Setup) (text : Bytes) (told first now : Option Bytes) → GivesAll text told → IsRecording setup text first now → IsRecorded setup told first now
recorded setup text told first now gives is = record { text = text; told_is = gives; recording = is }

-- so it is under the settings that are told
pub plays_back : (names : List Bytes) (kinds : List Charters) (config : Config) (dar : Dar) (configs dars recordings first now : Option Bytes)
    → TellsConfig names configs config → TellsTable (app_names config) dars dar → IsRecorded (record { config = config; dar = dar; kinds = kinds }) recordings first now → PlaysBack names kinds (record { config = configs; dar = dars; script = recordings }) first now
plays_back names kinds config dar configs dars recordings first now config_is dar_is recording = record {
  setup = record { config = config; dar = dar; kinds = kinds };
  settings = record { config = config_is; table = dar_is; kinds_is = refl };
  recorded = recording;
}

-- settings that are refused end no run as done
pub not_done : (names : List Bytes) (configs dars : Option Bytes) (read : Type 0) (status : Status) → IsUnset names configs dars read status → status ≡ statuses.Done → ⊥
unfolding IsUnset
not_done names configs dars read status is done = subst (λ (s : Status). IsUnset names configs dars read s) done is

-- told twice the same
pub recorded_as : (setup : Setup) (told again first now : Option Bytes) → told ≡ again → IsRecorded setup told first now → IsRecorded setup again first now
recorded_as setup told again first now same is = subst (λ (t : Option Bytes). IsRecorded setup t first now) same is
