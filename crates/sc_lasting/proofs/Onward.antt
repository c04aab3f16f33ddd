-- The state of a SipSession goes onward.
use Rattle.std.proofs.Common.{◌≡◌, ◌≤◌, ℕ, ◌++◌, Bool, true, false, Option, None, List, refl, sym, ap, subst, ◌∙◌, arith}
use Rattle.std.specs.Prelude.{◌||◌}
use Rattle.sc_value.specs.declared.ids.SessId.{SessId}
use Rattle.sc_terms.specs.declared.settings.Config.{Config}
use Rattle.sc_terms.specs.declared.views.Role.{Role}
use Rattle.sc_terms.specs.declared.views.Role.TheVariants as roles
use Rattle.sc_terms.specs.declared.views.SessionView.{SessionView}
use Rattle.sc_terms.specs.declared.views.State.{State}
use Rattle.sc_terms.specs.declared.views.State.TheVariants.{Initial, Early, Confirmed, Terminated}
use Rattle.sc_state.specs.declared.queue.Queued.TheVariants as queued
use Rattle.sc_hosts.specs.Effects.{proxying}
use Rattle.sc_hosts.specs.Histories.{History, session_after}
use Rattle.sc_hosts.specs.Looking.{is_confirmed, is_proxy, is_terminated, is_uac, linked_to}
use Rattle.sc_hosts.specs.Sessions.{Turn}
use Rattle.sc_walked.specs.SessionWalks.{IsMoved, may_follow}
use Rattle.sc_walked.proofs.WalkParts.{if-is}
use Rattle.sc_lasting.specs.Lasting.{Continues, IsOnward, stage}
use Rattle.sc_lasting.proofs.Held.{any-since, continues-law, lives-relate}

-- ## What may follow

ended-follows : (role : Role) (a b : State) → may_follow role a b ≡ true → is_terminated a ≡ true → is_terminated b ≡ true
unfolding may_follow is_terminated
ended-follows role Initial b follows is = cc
ended-follows role Early b follows is = cc
ended-follows role Confirmed b follows is = cc
ended-follows role Terminated Initial follows is = cc
ended-follows role Terminated Early follows is = cc
ended-follows role Terminated Confirmed follows is = cc
ended-follows role Terminated Terminated follows is = refl

confirmed-follows : (role : Role) (a b : State) → may_follow role a b ≡ true → is_confirmed a ≡ true
    → (is_confirmed b || is_terminated b) ≡ true
unfolding may_follow is_confirmed is_terminated
confirmed-follows role Initial b follows is = cc
confirmed-follows role Early b follows is = cc
confirmed-follows role Confirmed Initial follows is = cc
confirmed-follows role Confirmed Early follows is = cc
confirmed-follows role Confirmed Confirmed follows is = refl
confirmed-follows role Confirmed Terminated follows is = refl
confirmed-follows role Terminated b follows is = cc

clash : (b : Bool) → b ≡ true → b ≡ false → ⊥
clash b p q = cc

stage-follows : (role : Role) (a b : State) → may_follow role a b ≡ true → is_uac role ≡ false → stage a ≤ stage b
unfolding may_follow stage
stage-follows role Initial b follows served = omega arith
stage-follows role Early Initial follows served = absurd (clash (is_uac role) follows served)
stage-follows role Early Early follows served = omega arith
stage-follows role Early Confirmed follows served = omega arith
stage-follows role Early Terminated follows served = omega arith
stage-follows role Confirmed Initial follows served = cc
stage-follows role Confirmed Early follows served = cc
stage-follows role Confirmed Confirmed follows served = omega arith
stage-follows role Confirmed Terminated follows served = omega arith
stage-follows role Terminated Initial follows served = cc
stage-follows role Terminated Early follows served = cc
stage-follows role Terminated Confirmed follows served = cc
stage-follows role Terminated Terminated follows served = omega arith

-- ## It goes onward

same-stage : (n : ℕ) → n ≤ n
same-stage n = omega arith

stage-then : (a b c : ℕ) → a ≤ b → b ≤ c → a ≤ c
stage-then a b c p q = omega (arith, p, q)

stays-confirmed : (state : State) → is_confirmed state ≡ true → (is_confirmed state || is_terminated state) ≡ true
unfolding is_confirmed is_terminated
stays-confirmed Initial is = cc
stays-confirmed Early is = cc
stays-confirmed Confirmed is = refl
stays-confirmed Terminated is = cc

-- where the state is what it was
onward-same : (s t : SessionView) → t.state ≡ s.state → (is_uac s.role ≡ false → is_uac t.role ≡ false) → IsOnward s t
onward-same s t same role = record {
  ended = λ is. ap is_terminated same ∙ is;
  confirmed = λ is. subst (λ (state : State). (is_confirmed state || is_terminated state) ≡ true) (sym same) (stays-confirmed s.state is);
  onward = λ served. subst (λ (state : State). stage s.state ≤ stage state) (sym same) (same-stage (stage s.state));
  role = role;
}

onward : (s : SessionView) → IsOnward s s
onward s = onward-same s s refl (λ served. served)

either-then : (a b : State) → (is_confirmed a || is_terminated a) ≡ true → (is_confirmed a ≡ true → (is_confirmed b || is_terminated b) ≡ true)
    → (is_terminated a ≡ true → is_terminated b ≡ true) → (is_confirmed b || is_terminated b) ≡ true
unfolding is_confirmed is_terminated
either-then Initial b is confirmed ended = cc
either-then Early b is confirmed ended = cc
either-then Confirmed b is confirmed ended = confirmed refl
either-then Terminated b is confirmed ended = ended-too b (ended refl)
  where
    ended-too : (b : State) → is_terminated b ≡ true → (is_confirmed b || is_terminated b) ≡ true
    ended-too Initial is = cc
    ended-too Early is = cc
    ended-too Confirmed is = cc
    ended-too Terminated is = refl

onward-then : (r s t : SessionView) → IsOnward r s → IsOnward s t → IsOnward r t
onward-then r s t p q = record {
  ended = λ is. q.ended (p.ended is);
  confirmed = λ is. either-then s.state t.state (p.confirmed is) q.confirmed q.ended;
  onward = λ served. stage-then (stage r.state) (stage s.state) (stage t.state) (p.onward served) (q.onward (p.role served));
  role = λ served. q.role (p.role served);
}

onward-links : (other : Option SessId) (s : SessionView) → IsOnward s (linked_to other s)
unfolding linked_to
onward-links other s = onward-same s (record s { linked = other }) refl (λ served. served)

onward-goes : (s : SessionView) → IsOnward s (record s { gone = true })
onward-goes s = onward-same s (record s { gone = true }) refl (λ served. served)

onward-moves : (s t : SessionView) → IsMoved s t → IsOnward s t
onward-moves s t m = record {
  ended = λ is. ended-follows s.role s.state t.state m.state is;
  confirmed = λ is. confirmed-follows s.role s.state t.state m.state is;
  onward = λ served. stage-follows s.role s.state t.state m.state served;
  role = λ served. ap is_uac m.role ∙ served;
}

onward-turns : (s : SessionView) → IsOnward s (proxying s)
unfolding proxying is_uac
onward-turns s =
    if-is (IsOnward s) (is_proxy s.role) s (record s { role = roles.Proxy; peer_tag = None }) (onward s)
    (onward-same s (record s { role = roles.Proxy; peer_tag = None }) refl (λ served. refl))

-- after more turns, whatever they were
pub states-move-on : (config : Config) (history : History) (later earlier : List Turn)
    → Continues IsOnward (session_after config history earlier).view.sessions (session_after config history (later ++ earlier)).view.sessions
states-move-on config history later earlier =
    let law = continues-law (λ call. Unit {0}) IsOnward onward onward-then onward-links onward-goes onward-moves (λ req uris how does. onward-turns) in
    lives-relate later earlier (λ event. Unit {0}) (λ call. Unit {0}) (λ x y. Continues IsOnward x.view.sessions y.view.sessions) config history (law queued.Ready).same (law queued.Ready).after (λ event good. law event) (any-since later earlier config history)
