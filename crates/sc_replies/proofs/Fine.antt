-- What a session shows, keeps and proxies goes by the requests that came, over a whole life.
use Rattle.std.proofs.Common.{◌≡◌, ℕ, ◌==◌, ◌++◌, Bool, true, false, Option, Some, List, [], ◌∷◌, refl, sym, ap, inl, inr}
use Rattle.std.specs.Prelude.{cond}
use Rattle.std.specs.List.{find}
use Rattle.sc_value.specs.declared.ids.ReqId.{ReqId}
use Rattle.sc_terms.specs.declared.calls.CallRecord.{CallRecord}
use Rattle.sc_terms.specs.declared.calls.End.{End}
use Rattle.sc_terms.specs.declared.settings.Config.{Config}
use Rattle.sc_state.specs.declared.queue.Queued.{Queued}
use Rattle.sc_state.specs.declared.queue.Queued.TheVariants as queued
use Rattle.sc_state.specs.declared.session.Known.{Known}
use Rattle.sc_state.specs.declared.session.Session.{Session}
use Rattle.sc_state.specs.declared.working.Prepared.{Prepared}
use Rattle.sc_state.specs.declared.working.Working.{Working}
use Rattle.sc_hosts.specs.Acting.{all_act, drafts_ended, after_fault as faulted, is_request_event}
use Rattle.sc_hosts.specs.Finishing.{after_all_calls as finished, outcome}
use Rattle.sc_hosts.specs.Histories.{History, after_turn, session_after}
use Rattle.sc_hosts.specs.Legs.{first_known, first_view, fresh, session_for}
use Rattle.sc_hosts.specs.Preparing.{prepared_session as prepared, prepared_for}
use Rattle.sc_hosts.specs.PreparingRequests.{next_id}
use Rattle.sc_hosts.specs.Sessions.{Turn}
use Rattle.sc_hosts.specs.Working.{starts, worked_all}
use Rattle.sc_lasting.specs.Lasting.{All}
use Rattle.sc_lasting.proofs.Began.{same-number, test-found}
use Rattle.sc_lasting.proofs.LaterRequests.{request-next}
use Rattle.sc_lasting.proofs.Parts.{all-found, all-map}
use Rattle.sc_replies.specs.Came.{Came, IsAmong, came_by_event as brought, brought_by, came_of}
use Rattle.sc_replies.proofs.Brought.{FitsAt, FitsIn, FitsShown, GoesBy, acted-fit, calls-fit, drafts-fit, faulted-fit, lives-fit, shown-fits}
use Rattle.sc_replies.proofs.BroughtProxies.{acted-came}
use Rattle.sc_replies.proofs.CameProxies.{ProxiesCame, ProxyCame, calls-came, faulted-came, left-came, passes-came, prepared-came}
use Rattle.sc_replies.proofs.Owed.{own-number}
use Rattle.sc_replies.proofs.ShownCame.{AllCame, HasCome, acted-come, calls-come, drafts-come, faulted-come, has-more, last-has, left-come, passes-come as view-passes, shown-come}

abbrev pub FineAt : List Came → Session → Type 0
FineAt came x = FitsAt came x × AllCame came x.view × ProxiesCame came x.known

abbrev pub FineShown : List Came → Prepared → Type 0
FineShown came shown = FitsShown came shown × AllCame came shown.view × ProxiesCame came shown.known

abbrev pub FineIn : List Came → Working → Type 0
FineIn came working = FitsIn came working × AllCame came working.play.view × ProxiesCame came working.known

-- ## The event that brought it

pub brought-is : (came : List Came) (req : ReqId) (event : ℕ) → GoesBy came req event → HasCome came req.0 → brought_by came req ≡ Some event
unfolding brought_by
brought-is came req event by has =
    let test : Came → Bool = λ other. other.id.0 == req.0 in
    let is : has.0.event ≡ event = all-found (λ (one : Came). one.id.0 ≡ req.0 → one.event ≡ event) test came has.0 has.1 by (same-number has.0.id.0 req.0 (test-found test came has.0 has.1)) in
    rw (has.1) (ap (λ (e : ℕ). Some e) is)

-- one that is among them came
among-by : (number : ℕ) (b : Bool) (x : Came) (came : List Came) → (b ≡ false → HasCome came number)
    → (one : Came) × (cond b (Some x) (find (λ (other : Came). other.id.0 == number) came) ≡ Some one)
among-by number true x came has = (x, refl)
among-by number false x came has = has refl

same-one : (x one : Came) (b : Bool) → (x.id.0 == one.id.0) ≡ b → x ≡ one → b ≡ false → ⊥
same-one x one true is same differs = cc
same-one x one false is same differs = absurd (clash (x.id.0 == one.id.0) (own-number x.id.0 one.id.0 (ap (λ (c : Came). c.id.0) same)) is)
  where
    clash : (c : Bool) → c ≡ true → c ≡ false → ⊥
    clash c p q = cc

pub among-has : (one : Came) (came : List Came) → IsAmong one came → HasCome came one.id.0
unfolding IsAmong
among-has one [] among = absurd among
among-has one (x ∷ came) (inl same) = among-by one.id.0 (x.id.0 == one.id.0) x came (λ differs. absurd (same-one x one (x.id.0 == one.id.0) refl same differs))
among-has one (x ∷ came) (inr among) = among-by one.id.0 (x.id.0 == one.id.0) x came (λ differs. among-has one came among)

-- ## Within a turn

pub more-proxies : (came more : List Came) (known : Known) → ProxiesCame came known → ProxiesCame (came ++ more) known
more-proxies came more known has = all-map (ProxyCame came) (ProxyCame (came ++ more)) known.proxies (λ proxy. has-more came more proxy.req.0) has

pub shown-fine : (came : List Came) (config : Config) (x : Session) (turn : Turn) → FineAt came x
    → FineShown (came ++ brought x turn.waiting.number turn.waiting.event) (prepared config turn.ringing x turn.waiting turn.now)
shown-fine came config x turn fine =
    let new : List Came = brought x turn.waiting.number turn.waiting.event in (
      shown-fits came config turn.ringing x turn.waiting turn.now turn.waiting.event refl fine.0,
      shown-come came config turn.ringing x turn.waiting turn.now turn.waiting.event refl fine.1,
      prepared-came (came ++ new) config turn.ringing x turn.waiting turn.now (more-proxies came new x.known fine.2),
    )

module _ (came : List Came) where
  play-came : (config : Config) (shown : Prepared) (made : List CallRecord) → AllCame came shown.view → ProxiesCame came shown.known → ProxiesCame came (worked_all config shown made).known
  unfolding worked_all starts
  play-came config shown made come has = calls-came came made config (starts shown) (λ more. calls-come came config shown more come) has

  pub calls-fine : (config : Config) (shown : Prepared) (made : List CallRecord) → FineShown came shown → FineIn came (worked_all config shown made)
  calls-fine config shown made fine = (calls-fit came config shown made fine.0, calls-come came config shown made fine.1, play-came config shown made fine.1 fine.2)

  left-proxies : (working : Working) → ProxiesCame came working.known → ProxiesCame came (drafts_ended working).known
  unfolding drafts_ended
  left-proxies working has = has

  pub drafts-fine : (working : Working) → FineIn came working → FineIn came (drafts_ended working)
  drafts-fine working fine = (drafts-fit came working fine.0, drafts-come came working fine.1, left-proxies working fine.2)

  pub faulted-fine : (config : Config) (req : Option ReqId) (end : End) (working : Working) → FineIn came working → FineIn came (faulted config req end working)
  faulted-fine config req end working fine =
      (faulted-fit came config req end working fine.0, faulted-come came config req end working fine.1, faulted-came came config req end working fine.2)

  pub acted-fine : (config : Config) (working : Working) → FineIn came working → FineIn came (all_act config working)
  acted-fine config working fine = (acted-fit came config working fine.0, acted-come came config working fine.1, acted-came came config working fine.0 fine.2)

-- ## The number of the request that came

abbrev now_at : ℕ → Session → Session
now_at now x = record x { view = record x.view { now = now } }

req-came : (came : List Came) (config : Config) (ringing : List ℕ) (x : Session) (number now : ℕ) (event : Queued) → is_request_event event ≡ true
    → (r : ReqId) → (prepared_for config ringing (now_at now x) number event).req ≡ Some r → HasCome (came ++ brought x number event) r.0
unfolding is_request_event prepared_for brought
req-came came config ringing x number now (queued.Initial region subscriber popped request) is r req = cc
req-came came config ringing x number now (queued.Request request) is r req =
    last-has came (record { id = next_id x; event = number; request = request }) r.0 (sym (request-next (now_at now x) number request (session_for (now_at now x) request) r req))
req-came came config ringing x number now (queued.Response branch response) is r req = cc
req-came came config ringing x number now (queued.Cancelled event) is r req = cc
req-came came config ringing x number now (queued.Timer id) is r req = cc
req-came came config ringing x number now (queued.BranchTimer branch due) is r req = cc
req-came came config ringing x number now queued.Expired is r req = cc
req-came came config ringing x number now queued.Ready is r req = cc

shown-req : (came : List Came) (config : Config) (x : Session) (turn : Turn) → is_request_event turn.waiting.event ≡ true
    → (r : ReqId) → (prepared config turn.ringing x turn.waiting turn.now).req ≡ Some r → HasCome (came ++ brought x turn.waiting.number turn.waiting.event) r.0
unfolding prepared
shown-req came config x turn is r req = req-came came config turn.ringing x turn.waiting.number turn.now turn.waiting.event is r req

-- ## A life

-- what it shows and proxies came
abbrev CameAt : List Came → Session → Type 0
CameAt came x = AllCame came x.view × ProxiesCame came x.known

turn-came : (came : List Came) (config : Config) (turn : Turn) (x : Session) → FineAt came x → CameAt (came ++ brought x turn.waiting.number turn.waiting.event) (after_turn config turn x)
unfolding after_turn outcome finished
turn-came came config turn x fine =
    let all : List Came = came ++ brought x turn.waiting.number turn.waiting.event in
    let shown : Prepared = prepared config turn.ringing x turn.waiting turn.now in
    let left : Working = drafts_ended (worked_all config shown turn.calls) in
    let told : Working = faulted config shown.req turn.end left in
    let acted : FineIn all (all_act config told) = acted-fine all config told
    (faulted-fine all config shown.req turn.end left (drafts-fine all (worked_all config shown turn.calls) (calls-fine all config shown turn.calls (shown-fine came config x turn fine)))) in (
      left-come all turn.waiting.event _ (view-passes all config turn.waiting.event shown.req (all_act config told) acted.1),
      left-came all turn.waiting.event _ (passes-came all config turn.waiting.event shown.req (all_act config told) (shown-req came config x turn) acted.2),
    )

lives-came : (turns : List Turn) (config : Config) (history : History) → CameAt (came_of config history turns) (session_after config history turns)
unfolding session_after came_of fresh first_view first_known All
lives-came [] config history = (tt, tt)
lives-came (turn ∷ earlier) config history =
    let before = lives-came earlier config history in
    turn-came (came_of config history earlier) config turn (session_after config history earlier) (lives-fit earlier config history, before.0, before.1)

pub lives-fine : (turns : List Turn) (config : Config) (history : History) → FineAt (came_of config history turns) (session_after config history turns)
lives-fine turns config history =
    let all = lives-came turns config history in
    (lives-fit turns config history, all.0, all.1)
