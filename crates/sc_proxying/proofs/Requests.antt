-- What is kept under the number of a later request is that request, as long as its turn lasts.
use Rattle.std.proofs.Common.{◌≡◌, ◌<◌, ℕ, ◌+◌, ◌++◌, Bool, false, Option, None, Some, List, [], ◌∷◌, refl, sym, subst, ◌∙◌, arith}
use Rattle.std.specs.Prelude.{length}
use Rattle.sc_value.specs.declared.ids.SessId.{SessId}
use Rattle.sc_value.specs.declared.message.Request.{Request}
use Rattle.sc_terms.specs.declared.settings.Config.{Config}
use Rattle.sc_terms.specs.declared.views.RequestView.{RequestView}
use Rattle.sc_terms.specs.declared.views.View.{View}
use Rattle.sc_state.specs.declared.queue.Queued.{Queued}
use Rattle.sc_state.specs.declared.queue.Queued.TheVariants as queued
use Rattle.sc_state.specs.declared.session.Kept.{Kept}
use Rattle.sc_state.specs.declared.session.Known.{Known}
use Rattle.sc_state.specs.declared.session.Session.{Session}
use Rattle.sc_state.specs.declared.working.Play.{Play}
use Rattle.sc_state.specs.declared.working.Prepared.{Prepared}
use Rattle.sc_hosts.specs.Effects.{created_leg, view_with_targets as proxied, with_draft}
use Rattle.sc_hosts.specs.Legs.{new_leg, session_for}
use Rattle.sc_hosts.specs.Looking.{without_sip_session as removed, without_link as unlinked}
use Rattle.sc_hosts.specs.Preparing.{prepared_for}
use Rattle.sc_hosts.specs.PreparingRequests.{prepared_request, with_received_request as received}
use Rattle.sc_hosts.specs.ViewChanges.{view_with_answer as answered, answered_in, with_link as linked, new_session, tidy, with_own_session}
use Rattle.sc_hosts.specs.Working.{proxies}
use Rattle.sc_walked.specs.SessionWalks.{SessionLaws, sent_kept, with_legs}
use Rattle.sc_lasting.specs.Lasting.{All}
use Rattle.sc_lasting.proofs.LaterRequests.{later-session}
use Rattle.sc_lasting.proofs.Numbers.{proxies-kept}
use Rattle.sc_lasting.proofs.Parts.{all-append, all-filter, all-map, received-holds, removed-only, unlinked-only}
use Rattle.sc_proxying.proofs.Rising.{IsNumbered}

-- what is kept under this number is this request
unfoldable pub IsKeptAs : ℕ → Request → Kept → Type 0
IsKeptAs number request kept = kept.id.0 ≡ number → kept.request ≡ request

-- so it is of all, and the number was drawn
abbrev pub Keeps : ℕ → Request → View → Known → Type 0
Keeps number request view known = (number < view.next_request) × All (IsKeptAs number request) known.kept

more : (n m : ℕ) → n < m → n < m + 1
more n m less = omega (arith, less)

not-next : (number next : ℕ) → number < next → next ≡ number → ⊥
not-next number next less is = grind (arith, less, is)

-- one more under the next number
next-kept : (number : ℕ) (request : Request) (kept : Kept) (next : ℕ) → number < next → kept.id.0 ≡ next → IsKeptAs number request kept
unfolding IsKeptAs
next-kept number request kept next less own = λ is. absurd (not-next number next less (sym own ∙ is))

sent-keeps : (number : ℕ) (request : Request) (view : View) (kepts : List Kept) (new : Kept) → new.id.0 ≡ view.next_request → number < view.next_request
    → All (IsKeptAs number request) kepts → All (IsKeptAs number request) (kepts ++ new ∷ [])
sent-keeps number request view kepts new own less all = all-append (IsKeptAs number request) kepts new all (next-kept number request new view.next_request less own)

-- ## Each change

same-kept : (number : ℕ) (request : Request) (kepts later : List Kept) → later ≡ kepts → All (IsKeptAs number request) kepts → All (IsKeptAs number request) later
same-kept number request kepts later same all = subst (λ (ks : List Kept). All (IsKeptAs number request) ks) (sym same) all

shown-keeps : (number : ℕ) (request : Request) (v w : View) (known : Known) → w ≡ record v { sessions = w.sessions } → Keeps number request v known → Keeps number request w known
shown-keeps number request v w known is keeps = subst (λ (u : View). Keeps number request u known) (sym is) keeps

leg-keeps : (number : ℕ) (request : Request) (play : Play) (known : Known) (came : Option RequestView) (kept : Option Kept) → Keeps number request play.view known
    → Keeps number request (created_leg came play).view (with_legs play.view kept known)
unfolding created_leg with_legs with_draft linked with_own_session
leg-keeps number request play known None None keeps = keeps
leg-keeps number request play known None (Some kept) keeps = keeps
leg-keeps number request play known (Some came) None keeps = keeps
leg-keeps number request play known (Some came) (Some kept) keeps = keeps

begins-keeps : (number : ℕ) (request : Request) (x : Session) → Keeps number request x.view x.known
    → Keeps number request (with_own_session x.view) (record x.known { legs = x.known.legs ++ new_leg (new_session x.view) None ∷ [] })
unfolding with_own_session
begins-keeps number request x keeps = keeps

links-keeps : (number : ℕ) (request : Request) (view : View) (known : Known) (a b : SessId) → Keeps number request view known → Keeps number request (linked a b view) known
unfolding linked
links-keeps number request view known a b keeps = keeps

turns-keeps : (number : ℕ) (request : Request) (view : View) (known after : Known) (came : Option RequestView) (count : ℕ) → after.kept ≡ known.kept → Keeps number request view known
    → Keeps number request (proxied came count view) after
unfolding proxied
turns-keeps number request view known after None count same keeps = (keeps.0, same-kept number request known.kept after.kept same keeps.1)
turns-keeps number request view known after (Some came) count same keeps = (keeps.0, same-kept number request known.kept after.kept same keeps.1)

abbrev pub GoesOnKeeping : ℕ → Request → Session → Session → Type 0
GoesOnKeeping number request x y = Keeps number request x.view x.known → Keeps number request y.view y.known

pub keeping-law : (number : ℕ) (request : Request) (event : Queued) → SessionLaws event (λ call. Unit {0}) (GoesOnKeeping number request)
keeping-law number request event = record {
  same = λ x keeps. keeps;
  after = λ x y z p q keeps. q (p keeps);
  dates = λ x now keeps. keeps;
  expires = λ x due keeps. keeps;
  flags = λ x flag keeps. keeps;
  times = λ x timers next keeps. keeps;
  attributes = λ x fields keeps. keeps;
  counts = λ x keeps. keeps;
  numbers = λ x keeps. (more number x.view.next_request keeps.0, keeps.1);
  moves = λ x sessions same keeps. keeps;
  renews = λ x requests same keeps. keeps;
  drops = λ x test keeps. keeps;
  same_legs = λ x legs same keeps. keeps;
  same_proxies = λ x all same keeps. keeps;
  forgets = λ x test keeps. (keeps.0, all-filter (IsKeptAs number request) test x.known.kept keeps.1);
  unlinks = λ x sess does keeps. shown-keeps number request x.view (unlinked sess x.view) x.known (unlinked-only sess x.view) keeps;
  removes = λ x sess keeps. shown-keeps number request x.view (removed sess x.view) x.known (removed-only sess x.view) keeps;
  receives = λ x of sess initial passed came brings keeps. received-holds (λ v k. Keeps number request v k) x of sess initial passed came
      (λ invited. (more number x.view.next_request keeps.0, sent-keeps number request x.view x.known.kept _ refl keeps.0 keeps.1));
  shows = λ x came again keeps. keeps;
  sends = λ x draft came keeps. (more number x.view.next_request keeps.0, sent-keeps number request x.view x.known.kept (sent_kept x.view draft came) refl keeps.0 keeps.1);
  sends_none = λ x draft keeps. (more number x.view.next_request keeps.0, keeps.1);
  begins = λ x keeps. begins-keeps number request x keeps;
  derives = λ x req sess original came tag is keeps. keeps;
  begins_leg = λ play known req uri came kept is does found has keeps. leg-keeps number request play known came kept keeps;
  links = λ play known a b is does keeps. links-keeps number request play.view known a b keeps;
  turns = λ play known req uris how came is does found keeps. turns-keeps number request play.view known (proxies req uris how known) came (length uris) (proxies-kept req uris how known) keeps;
  passes = λ x req kept is keeps. keeps;
}

-- ## The request comes

own-drawn : (n : ℕ) → n < n + 1
own-drawn n = omega arith

not-under : (a n : ℕ) → a < n → a ≡ n → ⊥
not-under a n less is = grind (arith, less, is)

-- what was kept is of other numbers
olds-other : (x : Session) (request : Request) → IsNumbered x → All (IsKeptAs x.view.next_request request) x.known.kept
unfolding IsKeptAs
olds-other x request ok =
    all-map (λ (k : Kept). k.id.0 < x.view.next_request) (IsKeptAs x.view.next_request request) x.known.kept (λ k less is. absurd (not-under k.id.0 x.view.next_request less is)) ok.requests.0

own-kept : (number : ℕ) (request : Request) (kept : Kept) → kept.request ≡ request → IsKeptAs number request kept
unfolding IsKeptAs
own-kept number request kept same = λ is. same

received-keeps : (x : Session) (number : ℕ) (sess : SessId) (initial passed : Bool) (request : Request) → IsNumbered x
    → Keeps x.view.next_request request (received x number sess initial passed request).view (received x number sess initial passed request).known
received-keeps x number sess initial passed request ok = received-holds (λ v k. Keeps x.view.next_request request v k) x number sess initial passed request
    (λ invited. (own-drawn x.view.next_request, all-append (IsKeptAs x.view.next_request request) x.known.kept _ (olds-other x request ok) (own-kept x.view.next_request request _ refl)))

answered-keeps : (number : ℕ) (request : Request) (came : Option RequestView) (code : ℕ) (view : View) (known : Known) → Keeps number request view known
    → Keeps number request (answered came code view) known
unfolding answered answered_in tidy
answered-keeps number request None code view known keeps = keeps
answered-keeps number request (Some came) code view known keeps = keeps

abbrev pub ShowsKept : Session → Request → Prepared → Type 0
ShowsKept x request shown = Keeps x.view.next_request request shown.view shown.known

request-keeps : (x : Session) (number : ℕ) (request : Request) (sess : Option SessId) → IsNumbered x → ShowsKept x request (prepared_request x number request sess)
request-keeps x number request sess ok = later-session (Keeps x.view.next_request request) x number request (own-drawn x.view.next_request, olds-other x request ok)
    (λ s passed. received-keeps x number s false passed request ok) (λ came. answered-keeps x.view.next_request request came 500) (λ view known legs keeps. keeps) sess

pub shown-keeps-it : (config : Config) (ringing : List ℕ) (x : Session) (number : ℕ) (request : Request) → IsNumbered x
    → ShowsKept x request (prepared_for config ringing x number (queued.Request request))
unfolding prepared_for
shown-keeps-it config ringing x number request ok = request-keeps x number request (session_for x request) ok
