-- A proxied request goes on.
use Rattle.std.proofs.Common.{◌++◌, Bool, true, false, Option, None, Some, List, [], ◌∷◌, ◌∙◌}
use Rattle.std.specs.Prelude.{cond, is_some}
use Rattle.sc_value.specs.declared.ids.ReqId.{ReqId}
use Rattle.sc_value.specs.declared.parts.Uri.{Uri}
use Rattle.sc_terms.specs.declared.calls.ProxyOptions.{ProxyOptions}
use Rattle.sc_terms.specs.declared.settings.Config.{Config}
use Rattle.sc_terms.specs.declared.views.View.{View}
use Rattle.sc_state.specs.declared.proxy.Proxy.{Proxy}
use Rattle.sc_state.specs.declared.queue.Queued.{Queued}
use Rattle.sc_state.specs.declared.queue.Queued.TheVariants as queued
use Rattle.sc_state.specs.declared.session.Kept.{Kept}
use Rattle.sc_state.specs.declared.session.Known.{Known}
use Rattle.sc_state.specs.declared.session.Session.{Session}
use Rattle.sc_hosts.specs.Branches.{with_targets}
use Rattle.sc_hosts.specs.Histories.{History, session_after}
use Rattle.sc_hosts.specs.Looking.{same_request}
use Rattle.sc_hosts.specs.Preparing.{kept_of, proxy_of}
use Rattle.sc_hosts.specs.Sessions.{Turn}
use Rattle.sc_hosts.specs.Working.{proxies, proxies_first}
use Rattle.sc_walked.specs.SessionWalks.{Each, IsKeptProxy, IsSameProxy, SessionLaws, with_legs}
use Rattle.sc_walked.proofs.WalkParts.{each-first, same-proxy}
use Rattle.sc_walked.proofs.WalkShown.{gone-then, targets-same}
use Rattle.sc_lasting.specs.Lasting.{GoOn, IsCarriedOn}
use Rattle.sc_lasting.proofs.Held.{any-since, lives-relate}
use Rattle.sc_lasting.proofs.Parts.{each-weaker, received-holds}

carried : (p q : Proxy) → IsSameProxy p q → IsCarriedOn p q
carried p q same = record { req = same.req; request = same.request; options = same.options; on = same.on }

carried-then : (p q r : Proxy) → IsCarriedOn p q → IsCarriedOn q r → IsCarriedOn p r
carried-then p q r a b = record { req = b.req ∙ a.req; request = b.request ∙ a.request; options = b.options ∙ a.options; on = gone-then p q r a.on b.on }

each-on : (xs ys : List Proxy) → Each IsSameProxy xs ys → GoOn xs ys
unfolding Each GoOn
each-on [] ys each = tt
each-on (x ∷ xs) [] each = absurd each
each-on (x ∷ xs) (y ∷ ys) each = (carried x y each.0, each-on xs ys each.1)

same-on : (xs : List Proxy) → GoOn xs xs
unfolding GoOn
same-on [] = tt
same-on (x ∷ xs) = (carried x x (same-proxy x), same-on xs)

more-on : (xs : List Proxy) (new : Proxy) → GoOn xs (xs ++ new ∷ [])
unfolding GoOn
more-on [] new = tt
more-on (x ∷ xs) new = (carried x x (same-proxy x), more-on xs new)

then-on : (xs ys zs : List Proxy) → GoOn xs ys → GoOn ys zs → GoOn xs zs
unfolding GoOn
then-on [] ys zs p q = tt
then-on (x ∷ xs) [] zs p q = absurd p
then-on (x ∷ xs) (y ∷ ys) [] p q = absurd q
then-on (x ∷ xs) (y ∷ ys) (z ∷ zs) p q = (carried-then x y z p.0 q.0, then-on xs ys zs p.1 q.1)

-- ## Each change of a turn

legs-on : (view : View) (kept : Option Kept) (known : Known) → GoOn known.proxies (with_legs view kept known).proxies
unfolding with_legs
legs-on view None known = same-on known.proxies
legs-on view (Some kept) known = same-on known.proxies

first-on : (req : ReqId) (uris : List Uri) (how : ProxyOptions) (kept : Option Kept) (known : Known)
    → GoOn known.proxies (proxies_first req uris how kept known).proxies
unfolding proxies_first
first-on req uris how None known = same-on known.proxies
first-on req uris how (Some kept) known = more-on known.proxies _

if-on : (b : Bool) (known x y : Known) → GoOn known.proxies x.proxies → GoOn known.proxies y.proxies → GoOn known.proxies (cond b x y).proxies
if-on true known x y p q = p
if-on false known x y p q = q

proxies-on : (req : ReqId) (uris : List Uri) (how : ProxyOptions) (known : Known) → GoOn known.proxies (proxies req uris how known).proxies
unfolding proxies
proxies-on req uris how known =
    if-on (is_some (proxy_of known req)) known _ (proxies_first req uris how (kept_of known req) known)
    (each-on known.proxies _ (each-first IsSameProxy known.proxies (λ proxy. same_request proxy.req req) (with_targets uris) same-proxy (targets-same uris)))
    (first-on req uris how (kept_of known req) known)

abbrev Goes : Session → Session → Type 0
Goes x y = GoOn x.known.proxies y.known.proxies

goes-law : (event : Queued) → SessionLaws event (λ call. Unit {0}) Goes
goes-law event = record {
  same = λ x. same-on x.known.proxies;
  after = λ x y z p q. then-on x.known.proxies y.known.proxies z.known.proxies p q;
  dates = λ x now. same-on x.known.proxies;
  expires = λ x due. same-on x.known.proxies;
  flags = λ x flag. same-on x.known.proxies;
  times = λ x timers next. same-on x.known.proxies;
  attributes = λ x fields. same-on x.known.proxies;
  counts = λ x. same-on x.known.proxies;
  numbers = λ x. same-on x.known.proxies;
  moves = λ x sessions same. same-on x.known.proxies;
  renews = λ x requests same. same-on x.known.proxies;
  drops = λ x test. same-on x.known.proxies;
  same_legs = λ x legs same. same-on x.known.proxies;
  same_proxies = λ x all same. each-on x.known.proxies all (each-weaker IsKeptProxy IsSameProxy x.known.proxies all (λ p q kept. kept.same) same);
  forgets = λ x test. same-on x.known.proxies;
  unlinks = λ x sess does. same-on x.known.proxies;
  removes = λ x sess. same-on x.known.proxies;
  receives = λ x number sess initial passed request brings. received-holds (λ v k. GoOn x.known.proxies k.proxies) x number sess initial passed request (λ invited. same-on x.known.proxies);
  shows = λ x request again. same-on x.known.proxies;
  sends = λ x draft request. same-on x.known.proxies;
  sends_none = λ x draft. same-on x.known.proxies;
  begins = λ x. same-on x.known.proxies;
  derives = λ x req sess original came tag is. same-on x.known.proxies;
  begins_leg = λ play known req uri request kept is does found has. legs-on play.view kept known;
  links = λ play known a b is does. same-on known.proxies;
  turns = λ play known req uris how request is does found. proxies-on req uris how known;
  passes = λ x req kept is. more-on x.known.proxies _;
}

-- after more turns, whatever they were
pub proxies-go-on : (config : Config) (history : History) (later earlier : List Turn)
    → GoOn (session_after config history earlier).known.proxies (session_after config history (later ++ earlier)).known.proxies
proxies-go-on config history later earlier =
    lives-relate later earlier (λ event. Unit {0}) (λ call. Unit {0}) Goes config history (goes-law queued.Ready).same (goes-law queued.Ready).after (λ event good. goes-law event) (any-since later earlier config history)
