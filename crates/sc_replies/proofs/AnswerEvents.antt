-- What a session shows and keeps of a request that came is what the event by which its answer goes brought.
use Rattle.std.proofs.Common.{◌≡◌, ◌<◌, ℕ, ◌+◌, ◌++◌, Bool, true, false, Option, None, Some, List, [], ◌∷◌, refl, sym, ap, subst, ◌∙◌, arith}
use Rattle.std.specs.Prelude.{cond, filter, length}
use Rattle.std.specs.List.{find}
use Rattle.sc_tokens.specs.Names.{same_bytes}
use Rattle.sc_value.specs.declared.ids.ReqId.{ReqId}
use Rattle.sc_value.specs.declared.ids.SessId.{SessId}
use Rattle.sc_value.specs.declared.message.Request.{Request}
use Rattle.sc_value.specs.declared.parts.Uri.{Uri}
use Rattle.sc_terms.specs.declared.calls.ProxyOptions.{ProxyOptions}
use Rattle.sc_terms.specs.declared.views.RequestView.{RequestView}
use Rattle.sc_terms.specs.declared.views.View.{View}
use Rattle.sc_state.specs.declared.queue.Queued.{Queued}
use Rattle.sc_state.specs.declared.session.Invited.{Invited}
use Rattle.sc_state.specs.declared.session.Kept.{Kept}
use Rattle.sc_state.specs.declared.session.Known.{Known}
use Rattle.sc_state.specs.declared.session.Session.{Session}
use Rattle.sc_state.specs.declared.session.Way.{Way}
use Rattle.sc_state.specs.declared.session.Way.TheVariants.{Received}
use Rattle.sc_state.specs.declared.working.Draft.{Draft}
use Rattle.sc_state.specs.declared.working.Play.{Play}
use Rattle.sc_model.specs.SessionStates.{invite}
use Rattle.sc_hosts.specs.Effects.{created_leg, view_with_targets as proxied, proxied_request, sent_view, with_draft}
use Rattle.sc_hosts.specs.Looking.{is_request, without_sip_session as removed, without_link as unlinked}
use Rattle.sc_hosts.specs.Preparing.{kept_of}
use Rattle.sc_hosts.specs.PreparingRequests.{next_id, with_received_request as received, request_view, with_invited}
use Rattle.sc_hosts.specs.PreparingResponses.{change_proxy}
use Rattle.sc_hosts.specs.ViewChanges.{with_link as linked, with_own_session}
use Rattle.sc_hosts.specs.Working.{proxies, proxies_first}
use Rattle.sc_hosts.specs.Branches.{with_targets}
use Rattle.sc_walked.specs.SessionWalks.{Brings, Each, IsSameRequest, SessionLaws, after_sent, sent_kept, with_legs}
use Rattle.sc_walked.proofs.WalkParts.{each-first, each-same}
use Rattle.sc_lasting.specs.Lasting.{All}
use Rattle.sc_lasting.proofs.Numbers.{proxies-kept}
use Rattle.sc_lasting.proofs.Parts.{all-append, all-each, all-filter, all-found, all-insert, all-map, each-weaker, removed-only, unlinked-only}
use Rattle.sc_lasting.proofs.Shared.{all-two}
use Rattle.sc_lasting.proofs.Began.{IsAsCame, proxied-came}
use Rattle.sc_replies.specs.Fields.{Incoming}

-- ## What goes by which event

-- each one kept as having come under the number of a request that is shown is what its event brought
abbrev pub ShownOf : (ℕ → Incoming → Type 0) → RequestView → Kept → Type 0
ShownOf By r kept =
    r.received ≡ true → kept.id.0 ≡ r.id.0 → (event : ℕ) → kept.way ≡ Received event → By event (record { initial = r.initial; request = kept.request })

-- each one kept under the number of an INVITE that can be cancelled is what its event brought
abbrev pub InvitedOf : (ℕ → Incoming → Type 0) → Invited → Kept → Type 0
InvitedOf By invited kept = kept.id.0 ≡ invited.req.0 → (initial : Bool) × By invited.event (record { initial = initial; request = kept.request })

abbrev pub KeptBelow : ℕ → Kept → Type 0
KeptBelow next kept = kept.id.0 < next

abbrev pub ShownBelow : ℕ → RequestView → Type 0
ShownBelow next r = r.id.0 < next

abbrev pub InvitedBelow : ℕ → Invited → Type 0
InvitedBelow next invited = invited.req.0 < next

abbrev pub AllShown : (ℕ → Incoming → Type 0) → List Kept → RequestView → Type 0
AllShown By kepts r = All (ShownOf By r) kepts

abbrev pub AllInvited : (ℕ → Incoming → Type 0) → List Kept → Invited → Type 0
AllInvited By kepts invited = All (InvitedOf By invited) kepts

-- so it is of all that a session shows and keeps, and the numbers of these were drawn
abbrev pub AreOf : (ℕ → Incoming → Type 0) → View → Known → Type 0
AreOf By view known =
    All (KeptBelow view.next_request) known.kept × All (ShownBelow view.next_request) view.requests × All (InvitedBelow view.next_request) known.invited
    × All (AllShown By known.kept) view.requests × All (AllInvited By known.kept) known.invited

-- by more events
pub more-of : (By More : ℕ → Incoming → Type 0) (view : View) (known : Known) → ((number : ℕ) (came : Incoming) → By number came → More number came) → AreOf By view known → AreOf More view known
more-of By More view known more ok = (
  ok.0,
  ok.1,
  ok.2,
  all-map (AllShown By known.kept) (AllShown More known.kept) view.requests
      (λ r all. all-map (ShownOf By r) (ShownOf More r) known.kept (λ kept of received same event way. more event (record { initial = r.initial; request = kept.request }) (of received same event way)) all) ok.3,
  all-map (AllInvited By known.kept) (AllInvited More known.kept) known.invited
      (λ invited all. all-map (InvitedOf By invited) (InvitedOf More invited) known.kept (λ kept of same. ((of same).0, more invited.event (record { initial = (of same).0; request = kept.request }) (of same).1)) all) ok.4,
)

-- ## Numbers

up : (n m : ℕ) → n < m → n < m + 1
up n m less = omega (arith, less)

own-is : (a n : ℕ) → a ≡ n → a < n + 1
own-is a n is = omega (arith, is)

not-number : (a n : ℕ) → a < n → n ≡ a → ⊥
not-number a n less is = grind (arith, less, is)

clash : (b : Bool) → b ≡ true → b ≡ false → ⊥
clash b p q = cc

-- ## Requests that are shown go on

came-same : (r : RequestView) → IsAsCame r r
came-same r = record { id = refl; received = refl; initial = refl }

request-came : (r q : RequestView) → IsSameRequest r q → IsAsCame r q
request-came r q same = record { id = same.id; received = same.received; initial = same.initial }

module _ (By : ℕ → Incoming → Type 0) where
  shown-after : (r q : RequestView) (kept : Kept) → IsAsCame r q → ShownOf By r kept → ShownOf By q kept
  shown-after r q kept came of = λ received same event way.
      subst (λ (initial : Bool). By event (record { initial = initial; request = kept.request })) (sym came.initial)
      (of (sym came.received ∙ received) (same ∙ ap (λ (id : ReqId). id.0) came.id) event way)

  renewed : (v w : View) (k l : Known) → w.next_request ≡ v.next_request → l.kept ≡ k.kept → l.invited ≡ k.invited → Each IsAsCame v.requests w.requests → AreOf By v k → AreOf By w l
  renewed v w k l next kept invited each ok = rw (next, kept, invited) (
    ok.0,
    all-each (ShownBelow v.next_request) IsAsCame v.requests w.requests (λ r q came less. rw (came.id) less) each ok.1,
    ok.2,
    all-each (AllShown By k.kept) IsAsCame v.requests w.requests (λ r q came all. all-map (ShownOf By r) (ShownOf By q) k.kept (λ one. shown-after r q one came) all) each ok.3,
    ok.4,
  )

  pub dropped : (test : RequestView → Bool) (v : View) (k : Known) → AreOf By v k → AreOf By (record v { requests = filter test v.requests }) k
  dropped test v k ok = (ok.0, all-filter (ShownBelow v.next_request) test v.requests ok.1, ok.2, all-filter (AllShown By k.kept) test v.requests ok.3, ok.4)

  pub forgotten : (test : Kept → Bool) (v : View) (k : Known) → AreOf By v k → AreOf By v (record k { kept = filter test k.kept })
  forgotten test v k ok = (
    all-filter (KeptBelow v.next_request) test k.kept ok.0,
    ok.1,
    ok.2,
    all-map (AllShown By k.kept) (AllShown By (filter test k.kept)) v.requests (λ r all. all-filter (ShownOf By r) test k.kept all) ok.3,
    all-map (AllInvited By k.kept) (AllInvited By (filter test k.kept)) k.invited (λ invited all. all-filter (InvitedOf By invited) test k.kept all) ok.4,
  )

  pub shown-on : (v w : View) (known : Known) → w ≡ record v { sessions = w.sessions } → AreOf By v known → AreOf By w known
  shown-on v w known is ok = subst (λ (u : View). AreOf By u known) (sym is) ok

  -- ## One more

  old-shown : (next : ℕ) (r : RequestView) (kepts : List Kept) (new : Kept) → new.id.0 ≡ next → r.id.0 < next → All (ShownOf By r) kepts → All (ShownOf By r) (kepts ++ new ∷ [])
  old-shown next r kepts new own less all = all-append (ShownOf By r) kepts new all (λ received same event way. absurd (not-number r.id.0 next less (sym own ∙ same)))

  old-invited : (next : ℕ) (invited : Invited) (kepts : List Kept) (new : Kept) → new.id.0 ≡ next → invited.req.0 < next → All (InvitedOf By invited) kepts → All (InvitedOf By invited) (kepts ++ new ∷ [])
  old-invited next invited kepts new own less all = all-append (InvitedOf By invited) kepts new all (λ same. absurd (not-number invited.req.0 next less (sym own ∙ same)))

  new-shown : (next : ℕ) (r : RequestView) (kepts : List Kept) → r.id.0 ≡ next → All (KeptBelow next) kepts → All (ShownOf By r) kepts
  new-shown next r kepts own below =
      all-map (KeptBelow next) (ShownOf By r) kepts (λ kept less received same event way. absurd (not-number kept.id.0 next less (sym own ∙ sym same))) below

  new-invited : (next : ℕ) (invited : Invited) (kepts : List Kept) → invited.req.0 ≡ next → All (KeptBelow next) kepts → All (InvitedOf By invited) kepts
  new-invited next invited kepts own below =
      all-map (KeptBelow next) (InvitedOf By invited) kepts (λ kept less same. absurd (not-number kept.id.0 next less (sym own ∙ sym same))) below

  -- one of one's own
  unreceived : (r : RequestView) (kepts : List Kept) → r.received ≡ false → All (ShownOf By r) kepts
  unfolding All
  unreceived r [] own = tt
  unreceived r (k ∷ kepts) own = ((λ received same event way. absurd (clash r.received received own)), unreceived r kepts own)

  -- a number is drawn
  pub numbered-of : (v : View) (k : Known) → AreOf By v k → AreOf By (record v { next_request = v.next_request + 1 }) k
  numbered-of v k ok = (
    all-map (KeptBelow v.next_request) (KeptBelow (v.next_request + 1)) k.kept (λ kept. up kept.id.0 v.next_request) ok.0,
    all-map (ShownBelow v.next_request) (ShownBelow (v.next_request + 1)) v.requests (λ r. up r.id.0 v.next_request) ok.1,
    all-map (InvitedBelow v.next_request) (InvitedBelow (v.next_request + 1)) k.invited (λ invited. up invited.req.0 v.next_request) ok.2,
    ok.3,
    ok.4,
  )

  -- a request is shown under it, and kept
  grown : (v w : View) (k l : Known) (r : RequestView) (kept : Kept) → w.next_request ≡ v.next_request + 1 → w.requests ≡ v.requests ++ r ∷ [] → l.kept ≡ k.kept ++ kept ∷ []
      → l.invited ≡ k.invited → r.id.0 ≡ v.next_request → kept.id.0 ≡ v.next_request → ShownOf By r kept → AreOf By v k → AreOf By w l
  grown v w k l r kept next requests kepts invited own number of ok = rw (next, requests, kepts, invited) (
    all-append (KeptBelow (v.next_request + 1)) k.kept kept (all-map (KeptBelow v.next_request) (KeptBelow (v.next_request + 1)) k.kept (λ one. up one.id.0 v.next_request) ok.0) (own-is kept.id.0 v.next_request number),
    all-append (ShownBelow (v.next_request + 1)) v.requests r (all-map (ShownBelow v.next_request) (ShownBelow (v.next_request + 1)) v.requests (λ one. up one.id.0 v.next_request) ok.1) (own-is r.id.0 v.next_request own),
    all-map (InvitedBelow v.next_request) (InvitedBelow (v.next_request + 1)) k.invited (λ one. up one.req.0 v.next_request) ok.2,
    all-append (AllShown By (k.kept ++ kept ∷ [])) v.requests r
        (all-two (ShownBelow v.next_request) (AllShown By k.kept) (AllShown By (k.kept ++ kept ∷ [])) v.requests (λ one. old-shown v.next_request one k.kept kept number) ok.1 ok.3)
        (all-append (ShownOf By r) k.kept kept (new-shown v.next_request r k.kept own ok.0) of),
    all-two (InvitedBelow v.next_request) (AllInvited By k.kept) (AllInvited By (k.kept ++ kept ∷ [])) k.invited (λ one. old-invited v.next_request one k.kept kept number) ok.2 ok.4,
  )

  -- a request of one's own is shown under it alone
  grown-alone : (v w : View) (k : Known) (r : RequestView) → w.next_request ≡ v.next_request + 1 → w.requests ≡ v.requests ++ r ∷ [] → r.id.0 ≡ v.next_request → r.received ≡ false
      → AreOf By v k → AreOf By w k
  grown-alone v w k r next requests own sent ok =
      let more : AreOf By (record v { next_request = v.next_request + 1 }) k = numbered-of v k ok in
      rw (next, requests) (
        more.0,
        all-append (ShownBelow (v.next_request + 1)) v.requests r more.1 (own-is r.id.0 v.next_request own),
        more.2,
        all-append (AllShown By k.kept) v.requests r ok.3 (unreceived r k.kept sent),
        ok.4,
      )

  -- an INVITE that came can be cancelled
  cancelled-of : (v : View) (k : Known) (invited : Invited) → invited.req.0 < v.next_request → All (InvitedOf By invited) k.kept → AreOf By v k → AreOf By v (record k { invited = k.invited ++ invited ∷ [] })
  cancelled-of v k invited less of ok = (
    ok.0,
    ok.1,
    all-append (InvitedBelow v.next_request) k.invited invited ok.2 less,
    ok.3,
    all-append (AllInvited By k.kept) k.invited invited ok.4 of,
  )

  if-of : (b : Bool) (v : View) (k l : Known) → AreOf By v k → AreOf By v l → AreOf By v (cond b k l)
  if-of true v k l p q = p
  if-of false v k l p q = q

  same-event : (number event : ℕ) → ◌≡◌ {A = Way} (Received number) (Received event) → number ≡ event
  same-event number event is = cc

  own-shown : (x : Session) (number : ℕ) (sess : SessId) (initial passed : Bool) (request : Request) → By number (record { initial = initial; request = request })
      → ShownOf By (request_view (next_id x) sess initial passed request) (record { id = next_id x; sess = sess; way = Received number; request = request })
  unfolding request_view
  own-shown x number sess initial passed request by = λ received same event way.
      subst (λ (n : ℕ). By n (record { initial = initial; request = request })) (same-event number event way) by

  view-number : (x : Session) (sess : SessId) (initial passed : Bool) (request : Request) → (request_view (next_id x) sess initial passed request).id.0 ≡ x.view.next_request
  unfolding request_view
  view-number x sess initial passed request = refl

  -- a request comes
  pub received-of : (x : Session) (number : ℕ) (sess : SessId) (initial passed : Bool) (request : Request) → By number (record { initial = initial; request = request }) → AreOf By x.view x.known
      → AreOf By (received x number sess initial passed request).view (received x number sess initial passed request).known
  unfolding received with_invited
  received-of x number sess initial passed request by ok =
      let r : RequestView = request_view (next_id x) sess initial passed request in
      let kept : Kept = record { id = next_id x; sess = sess; way = Received number; request = request } in
      let invited : Invited = record { event = number; req = next_id x; sess = sess } in
      let v : View = record x.view { next_request = x.view.next_request + 1; requests = x.view.requests ++ r ∷ [] } in
      let k : Known = record x.known { kept = x.known.kept ++ kept ∷ [] } in
      let of : AreOf By v k = grown x.view v x.known k r kept refl refl refl refl (view-number x sess initial passed request) refl (own-shown x number sess initial passed request by) ok in
      if-of (same_bytes request.method invite) v (record k { invited = k.invited ++ invited ∷ [] }) k
      (cancelled-of v k invited (own-is x.view.next_request x.view.next_request refl)
      (all-append (InvitedOf By invited) x.known.kept kept (new-invited x.view.next_request invited x.known.kept refl ok.0) (λ same. (initial, by))) of) of

  -- ## Each change

  proxied-each : (request : Option RequestView) (count : ℕ) (view : View) → Each IsAsCame view.requests (proxied request count view).requests
  unfolding proxied
  proxied-each None count view = each-same IsAsCame view.requests came-same
  proxied-each (Some r) count view = each-first IsAsCame view.requests (is_request r.id) (proxied_request count) came-same (proxied-came count)

  proxied-next : (request : Option RequestView) (count : ℕ) (view : View) → (proxied request count view).next_request ≡ view.next_request
  unfolding proxied
  proxied-next None count view = refl
  proxied-next (Some r) count view = refl

  if-invited : (b : Bool) (k l : Known) (all : List Invited) → k.invited ≡ all → l.invited ≡ all → (cond b k l).invited ≡ all
  if-invited true k l all p q = p
  if-invited false k l all p q = q

  first-invited : (req : ReqId) (uris : List Uri) (how : ProxyOptions) (kept : Option Kept) (known : Known) → (proxies_first req uris how kept known).invited ≡ known.invited
  unfolding proxies_first
  first-invited req uris how None known = refl
  first-invited req uris how (Some kept) known = refl

  proxies-invited : (req : ReqId) (uris : List Uri) (how : ProxyOptions) (known : Known) → (proxies req uris how known).invited ≡ known.invited
  unfolding proxies
  proxies-invited req uris how known =
      if-invited _ (change_proxy req (with_targets uris) known) (proxies_first req uris how (kept_of known req) known) known.invited refl (first-invited req uris how (kept_of known req) known)

  leg-of : (play : Play) (known : Known) (request : Option RequestView) (kept : Option Kept) → AreOf By play.view known → AreOf By (created_leg request play).view (with_legs play.view kept known)
  unfolding created_leg with_legs with_draft linked with_own_session
  leg-of play known None None ok = ok
  leg-of play known None (Some kept) ok = ok
  leg-of play known (Some request) None ok = ok
  leg-of play known (Some request) (Some kept) ok = ok

  begins-of : (view : View) (known : Known) → AreOf By view known → AreOf By (with_own_session view) known
  unfolding with_own_session
  begins-of view known ok = ok

  links-of : (view : View) (known : Known) (a b : SessId) → AreOf By view known → AreOf By (linked a b view) known
  unfolding linked
  links-of view known a b ok = ok

  sent-number : (view : View) (draft : Draft) → (sent_view view draft).id.0 ≡ view.next_request
  unfolding sent_view
  sent-number view draft = refl

  sent-own : (view : View) (draft : Draft) → (sent_view view draft).received ≡ false
  unfolding sent_view
  sent-own view draft = refl

  again-below : (x : Session) (test : Kept → Bool) (kept : Kept) (r : RequestView) → find test x.known.kept ≡ Some kept → r.id ≡ kept.id → AreOf By x.view x.known → ShownBelow x.view.next_request r
  again-below x test kept r found is ok = rw (is) (all-found (KeptBelow x.view.next_request) test x.known.kept kept found ok.0)

  abbrev pub GoesOn : Session → Session → Type 0
  GoesOn x y = AreOf By x.view x.known → AreOf By y.view y.known

  -- an event that brings no request, and any calls
  pub events-law : (event : Queued) → ((x : Session) (sess : SessId) (initial passed : Bool) (request : Request) → Brings event x sess initial passed request → ⊥)
      → SessionLaws event (λ call. Unit {0}) GoesOn
  events-law event none = record {
    same = λ x ok. ok;
    after = λ x y z p q ok. q (p ok);
    dates = λ x now ok. ok;
    expires = λ x due ok. ok;
    flags = λ x flag ok. ok;
    times = λ x timers next ok. ok;
    attributes = λ x fields ok. ok;
    counts = λ x ok. ok;
    numbers = λ x ok. numbered-of x.view x.known ok;
    moves = λ x sessions same ok. ok;
    renews = λ x requests same ok. renewed x.view (record x.view { requests = requests }) x.known x.known refl refl refl (each-weaker IsSameRequest IsAsCame x.view.requests requests request-came same) ok;
    drops = λ x test ok. dropped test x.view x.known ok;
    same_legs = λ x legs same ok. ok;
    same_proxies = λ x all same ok. ok;
    forgets = λ x test ok. forgotten test x.view x.known ok;
    unlinks = λ x sess does ok. shown-on x.view (unlinked sess x.view) x.known (unlinked-only sess x.view) ok;
    removes = λ x sess ok. shown-on x.view (removed sess x.view) x.known (removed-only sess x.view) ok;
    receives = λ x number sess initial passed request brings ok. absurd (none x sess initial passed request brings);
    shows = λ x request again ok. (
      ok.0,
      all-insert (ShownBelow x.view.next_request) request x.view.requests (again-below x again.test again.kept request again.found again.id ok) ok.1,
      ok.2,
      all-insert (AllShown By x.known.kept) request x.view.requests (unreceived request x.known.kept again.received) ok.3,
      ok.4,
    );
    sends = λ x draft request ok.
        grown x.view (after_sent x.view draft) x.known (record x.known { kept = x.known.kept ++ sent_kept x.view draft request ∷ [] }) (sent_view x.view draft) (sent_kept x.view draft request) refl refl refl refl
        (sent-number x.view draft) refl (λ received same event way. absurd (clash (sent_view x.view draft).received received (sent-own x.view draft))) ok;
    sends_none = λ x draft ok. grown-alone x.view (after_sent x.view draft) x.known (sent_view x.view draft) refl refl (sent-number x.view draft) (sent-own x.view draft) ok;
    begins = λ x ok. begins-of x.view x.known ok;
    derives = λ x req sess original came tag is ok. ok;
    begins_leg = λ play known req uri request kept is does found has ok. leg-of play known request kept ok;
    links = λ play known a b is does ok. links-of play.view known a b ok;
    turns = λ play known req uris how request is does found ok.
        renewed play.view (proxied request (length uris) play.view) known (proxies req uris how known) (proxied-next request (length uris) play.view) (proxies-kept req uris how known) (proxies-invited req uris how known)
        (proxied-each request (length uris) play.view) ok;
    passes = λ x req kept is ok. ok;
  }
