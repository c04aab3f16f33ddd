-- A later request that a turn shows stays under its number, proxied or not as it came, until the turn ends.
use Rattle.std.proofs.Common.{◌≡◌, ◌<◌, ℕ, ◌+◌, ◌++◌, Bool, true, false, Option, None, Some, List, [], ◌∷◌, refl, ap, sym, subst, ◌∙◌, arith}
use Rattle.std.proofs.lemmas.Bool.Decides.{nat_tests}
use Rattle.std.specs.Prelude.{length, ◌==◌}
use Rattle.sc_value.specs.declared.ids.ReqId.{ReqId}
use Rattle.sc_value.specs.declared.ids.SessId.{SessId}
use Rattle.sc_value.specs.declared.message.Request.{Request}
use Rattle.sc_value.specs.declared.parts.Uri.{Uri}
use Rattle.sc_terms.specs.declared.calls.Call.TheVariants as calls
use Rattle.sc_terms.specs.declared.calls.ProxyOptions.{ProxyOptions}
use Rattle.sc_terms.specs.declared.views.RequestView.{RequestView}
use Rattle.sc_terms.specs.declared.views.View.{View}
use Rattle.sc_state.specs.declared.queue.Queued.TheVariants as queued
use Rattle.sc_state.specs.declared.session.Kept.{Kept}
use Rattle.sc_state.specs.declared.session.Known.{Known}
use Rattle.sc_state.specs.declared.session.Session.{Session}
use Rattle.sc_state.specs.declared.working.Draft.{Draft}
use Rattle.sc_state.specs.declared.working.Play.{Play}
use Rattle.sc_hosts.specs.Effects.{created_leg, view_with_targets as proxied, proxied_request, sent_view, with_draft}
use Rattle.sc_hosts.specs.Legs.{new_leg}
use Rattle.sc_hosts.specs.Looking.{is_request, without_sip_session as removed, request_in, without_link as unlinked}
use Rattle.sc_hosts.specs.PreparingRequests.{next_id, with_received_request as received, request_view}
use Rattle.sc_hosts.specs.Refusals.{refusal}
use Rattle.sc_hosts.specs.ViewChanges.{with_link as linked, new_session, with_own_session}
use Rattle.sc_hosts.specs.Working.{proxies}
use Rattle.sc_walked.specs.SessionWalks.{Brings, IsSameRequest, IsShownAgain, SessionLaws, sent_kept, with_legs}
use Rattle.sc_lasting.specs.Lasting.{All, Numbered}
use Rattle.sc_lasting.proofs.Parts.{all-append, all-each, all-filter, all-first, all-found, all-insert, all-map, received-holds, removed-only, unlinked-only}
use Rattle.sc_lasting.proofs.Began.{none-proxied, proxied-first, proxied-is, test-found}
use Rattle.sc_lasting.proofs.Numbers.{proxies-kept}

lower : (a n : ℕ) → a < n → a ≡ n → ⊥
lower a n less is = omega (arith, less, is)

equal : (a b : ℕ) → (a == b) ≡ true → a ≡ b
equal a b is = grind (arith, nat_tests, is)

clash : (b : Bool) → b ≡ true → b ≡ false → ⊥
clash b p q = cc

-- what is shown under this number came as no initial one, and is proxied only if it was so at first
unfoldable pub ShowsAs : ℕ → Bool → RequestView → Type 0
ShowsAs number passed request = request.id.0 ≡ number → (request.proxied ≡ true → passed ≡ true) × (request.received ≡ true → request.initial ≡ false)

unfoldable pub KeepsAs : ℕ → Request → Kept → Type 0
KeepsAs number request kept = kept.id.0 ≡ number → kept.request ≡ request

-- the number was given, what is kept under it is this request, and what is shown under it is as it came
abbrev pub HasCome : ℕ → Request → Bool → Session → Type 0
HasCome number request passed x = (number < x.view.next_request) × All (KeepsAs number request) x.known.kept × All (ShowsAs number passed) x.view.requests

module _ (number : ℕ) (request : Request) (passed : Bool) where
  shows-same : (r q : RequestView) → IsSameRequest r q → ShowsAs number passed r → ShowsAs number passed q
  unfolding ShowsAs
  shows-same r q same shows = λ is. let was = shows (sym (ap (λ (id : ReqId). id.0) same.id) ∙ is) in
      ((λ p. was.0 (sym same.proxied ∙ p)), (λ p. same.initial ∙ was.1 (sym same.received ∙ p)))

  shown : (v w : View) (known : Known) → w ≡ record v { sessions = w.sessions } → HasCome number request passed (record { view = v; known = known })
      → HasCome number request passed (record { view = w; known = known })
  shown v w known is ok = subst (λ (u : View). HasCome number request passed (record { view = u; known = known })) (sym is) ok

  sent-shows : (view : View) (draft : Draft) → number < view.next_request → ShowsAs number passed (sent_view view draft)
  unfolding ShowsAs sent_view
  sent-shows view draft less = λ is. absurd (lower number view.next_request less (sym is))

  sent-keeps : (view : View) (draft : Draft) (sent : Request) → number < view.next_request → KeepsAs number request (sent_kept view draft sent)
  unfolding KeepsAs
  sent-keeps view draft sent less = λ is. absurd (lower number view.next_request less (sym is))

  again-shows : (known : Known) (r : RequestView) → IsShownAgain known r → ShowsAs number passed r
  unfolding ShowsAs
  again-shows known r again = λ is. ((λ p. absurd (clash r.proxied p again.proxied)), (λ p. absurd (clash r.received p again.received)))

  leg-come : (play : Play) (known : Known) (asked : Option RequestView) (kept : Option Kept) → HasCome number request passed (record { view = play.view; known = known })
      → HasCome number request passed (record { view = (created_leg asked play).view; known = with_legs play.view kept known })
  unfolding created_leg with_legs with_draft linked with_own_session
  leg-come play known None None ok = ok
  leg-come play known None (Some kept) ok = ok
  leg-come play known (Some asked) None ok = ok
  leg-come play known (Some asked) (Some kept) ok = ok

  begins-come : (x : Session) → HasCome number request passed x
      → HasCome number request passed (record { view = with_own_session x.view; known = record x.known { legs = x.known.legs ++ new_leg (new_session x.view) None ∷ [] } })
  unfolding with_own_session
  begins-come x ok = ok

  links-come : (view : View) (known : Known) (a b : SessId) → HasCome number request passed (record { view = view; known = known })
      → HasCome number request passed (record { view = linked a b view; known = known })
  unfolding linked
  links-come view known a b ok = ok

  -- only an initial request is proxied by a call
  call-shows : (r : RequestView) (count : ℕ) (x : RequestView) → r.received ≡ true → r.initial ≡ true → ShowsAs number passed r → (x.id.0 == r.id.0) ≡ true
      → ShowsAs number passed (proxied_request count x)
  unfolding ShowsAs proxied_request
  call-shows r count x came first shows same = λ is. absurd (clash r.initial first ((shows (sym (equal x.id.0 r.id.0 same) ∙ is)).1 came))

  turned-shows : (view : View) (r : RequestView) (count : ℕ) → r.received ≡ true → r.initial ≡ true → ShowsAs number passed r → All (ShowsAs number passed) view.requests
      → All (ShowsAs number passed) (proxied (Some r) count view).requests
  unfolding proxied
  turned-shows view r count came first shows all =
      all-first (ShowsAs number passed) (is_request r.id) (proxied_request count) view.requests
      (λ x found was. call-shows r count x came first shows (test-found (is_request r.id) view.requests x found)) all

  proxied-next : (view : View) (r : RequestView) (count : ℕ) → (proxied (Some r) count view).next_request ≡ view.next_request
  unfolding proxied
  proxied-next view r count = refl

  turns-come : (play : Play) (known : Known) (req : ReqId) (uris : List Uri) (how : ProxyOptions) (found : Option RequestView)
      → refusal play (calls.ProxyTo req uris how) ≡ None → request_in play.view req ≡ found
      → HasCome number request passed (record { view = play.view; known = known })
      → HasCome number request passed (record { view = proxied found (length uris) play.view; known = proxies req uris how known })
  turns-come play known req uris how None is at ok = absurd (none-proxied play (length uris) how (proxied-is play req uris how None is at))
  turns-come play known req uris how (Some r) is at ok =
      let came = proxied-first play r (length uris) how (proxied-is play req uris how (Some r) is at) in (
        rw (proxied-next play.view r (length uris)) ok.0,
        rw (proxies-kept req uris how known) ok.1,
        turned-shows play.view r (length uris) came.0 came.1 (all-found (ShowsAs number passed) (is_request req) play.view.requests r at ok.2) ok.2,
      )

  more : (n : ℕ) → number < n → number < n + 1
  more n less = omega (arith, less)

  -- calls, and the end of a turn
  pub come-law : SessionLaws queued.Ready (λ call. Unit {0}) (λ x y. HasCome number request passed x → HasCome number request passed y)
  unfolding Brings
  come-law = record {
    same = λ x ok. ok;
    after = λ x y z p q ok. q (p ok);
    dates = λ x now ok. ok;
    expires = λ x due ok. ok;
    flags = λ x flag ok. ok;
    times = λ x timers next ok. ok;
    attributes = λ x fields ok. ok;
    counts = λ x ok. ok;
    numbers = λ x ok. (more x.view.next_request ok.0, ok.1, ok.2);
    moves = λ x sessions same ok. ok;
    renews = λ x requests same ok. (ok.0, ok.1, all-each (ShowsAs number passed) IsSameRequest x.view.requests requests shows-same same ok.2);
    drops = λ x test ok. (ok.0, ok.1, all-filter (ShowsAs number passed) test x.view.requests ok.2);
    same_legs = λ x legs same ok. ok;
    same_proxies = λ x all same ok. ok;
    forgets = λ x test ok. (ok.0, all-filter (KeepsAs number request) test x.known.kept ok.1, ok.2);
    unlinks = λ x sess does ok. shown x.view (unlinked sess x.view) x.known (unlinked-only sess x.view) ok;
    removes = λ x sess ok. shown x.view (removed sess x.view) x.known (removed-only sess x.view) ok;
    receives = λ x n sess initial passed came brings ok. absurd brings;
    shows = λ x again is ok. (ok.0, ok.1, all-insert (ShowsAs number passed) again x.view.requests (again-shows x.known again is) ok.2);
    sends = λ x draft sent ok. (
      more x.view.next_request ok.0,
      all-append (KeepsAs number request) x.known.kept _ ok.1 (sent-keeps x.view draft sent ok.0),
      all-append (ShowsAs number passed) x.view.requests _ ok.2 (sent-shows x.view draft ok.0),
    );
    sends_none = λ x draft ok. (more x.view.next_request ok.0, ok.1, all-append (ShowsAs number passed) x.view.requests _ ok.2 (sent-shows x.view draft ok.0));
    begins = λ x ok. begins-come x ok;
    derives = λ x req sess original came tag is ok. ok;
    begins_leg = λ play known req uri asked kept is does found has ok. leg-come play known asked kept ok;
    links = λ play known a b is does ok. links-come play.view known a b ok;
    turns = λ play known req uris how found is does at ok. turns-come play known req uris how found is at ok;
    passes = λ x req kept is ok. ok;
  }

-- ## As it comes

old-keeps : (next : ℕ) (request : Request) (kept : Kept) → kept.id.0 < next → KeepsAs next request kept
unfolding KeepsAs
old-keeps next request kept less = λ is. absurd (lower kept.id.0 next less is)

old-shows : (next : ℕ) (passed : Bool) (r : RequestView) → r.id.0 < next → ShowsAs next passed r
unfolding ShowsAs
old-shows next passed r less = λ is. absurd (lower r.id.0 next less is)

new-keeps : (next : ℕ) (request : Request) (kept : Kept) → kept.request ≡ request → KeepsAs next request kept
unfolding KeepsAs
new-keeps next request kept same = λ is. same

new-shows : (req : ReqId) (sess : SessId) (passed : Bool) (request : Request) → ShowsAs req.0 passed (request_view req sess false passed request)
unfolding ShowsAs request_view
new-shows req sess passed request = λ is. ((λ p. p), (λ p. refl))

under : (n : ℕ) → n < n + 1
under n = omega arith

-- a later request that comes gets the next number
pub received-come : (x : Session) (event : ℕ) (sess : SessId) (passed : Bool) (request : Request) → Numbered x
    → HasCome x.view.next_request request passed (received x event sess false passed request)
received-come x event sess passed request ok = received-holds (λ v k. HasCome x.view.next_request request passed (record { view = v; known = k })) x event sess false passed request (λ invited. (
  under x.view.next_request,
  all-append (KeepsAs x.view.next_request request) x.known.kept _ (all-map (λ (k : Kept). k.id.0 < x.view.next_request) (KeepsAs x.view.next_request request) x.known.kept (λ k less. old-keeps x.view.next_request request k less) ok.0)
      (new-keeps x.view.next_request request _ refl),
  all-append (ShowsAs x.view.next_request passed) x.view.requests _ (all-map (λ (r : RequestView). r.id.0 < x.view.next_request) (ShowsAs x.view.next_request passed) x.view.requests (λ r less. old-shows x.view.next_request passed r less) ok.1)
      (new-shows (next_id x) sess passed request),
))
