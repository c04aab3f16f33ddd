-- What a goodbye sends: of all that the end of the SipSessions sends, the answers stand first.
use Rattle.std.proofs.Common.{◌≡◌, ℕ, Bool, true, false, not, List, [], ◌∷◌, ◌++◌, Option, None, Some, refl, ap, map, append-nil, ◌∙◌, sym}
use Rattle.std.proofs.lemmas.List.Elements.{filter-append}
use Rattle.std.specs.Prelude.{filter, ◌&&◌}
use Rattle.std.specs.List.{flat_map}
use Rattle.sc_terms.specs.declared.calls.Answer.{Answer}
use Rattle.sc_terms.specs.declared.settings.Config.{Config}
use Rattle.sc_terms.specs.declared.views.RequestView.{RequestView}
use Rattle.sc_terms.specs.declared.views.View.{View}
use Rattle.sc_value.specs.declared.message.Response.{Response}
use Rattle.sc_state.specs.declared.orders.Order.{Order}
use Rattle.sc_state.specs.declared.orders.Order.TheVariants as orders
use Rattle.sc_state.specs.declared.queue.Waiting.{Waiting}
use Rattle.sc_state.specs.declared.session.Kept.{Kept}
use Rattle.sc_state.specs.declared.session.Known.{Known}
use Rattle.sc_state.specs.declared.session.Session.{Session}
use Rattle.sc_state.specs.declared.session.Way.{Way}
use Rattle.sc_state.specs.declared.session.Way.TheVariants.{Received, Sent}
use Rattle.sc_hosts.specs.Legs.{FIRST_SESSION}
use Rattle.sc_hosts.specs.Preparing.{own_tag_of}
use Rattle.sc_hosts.specs.Giving.{answers, answer_order}
use Rattle.sc_hosts.specs.ViewChanges.{is_owed}
use Rattle.sc_hosts.specs.Working.{owed_answer, goodbyes, in_order, invite_branches}
use Rattle.sc_hosts.specs.Finishing.{waiting_answer, goodbye}
use Rattle.sc_work.specs.Goodbyes.{is_whose, owed_by, cancel_now}
use Rattle.sc_work.proofs.Pieced.{goodbyes_are}

-- tests that tell answers from CANCELs
record Tells (test : Order → Bool) : Type 0 where
  answers_pass : (event : ℕ) (response : Response) → test (orders.Respond event response) ≡ true
  cancels_stop : (branch : ℕ) → test (orders.CancelNow branch) ≡ false

-- ## What passes, and what is left

keeps : {A : Type 0} (p : A → Bool) (x : A) (xs : List A) → p x ≡ true → filter p (x ∷ xs) ≡ x ∷ filter p xs
keeps p x xs e = rw (filter, e) refl

drops : {A : Type 0} (p : A → Bool) (x : A) (xs : List A) → p x ≡ false → filter p (x ∷ xs) ≡ filter p xs
drops p x xs e = rw (filter, e) refl

others : (Order → Bool) → Order → Bool
others test order = not (test order)

whole : {A : Type 0} (p : Order → Bool) (f : A → List Order) (xs : List A) → ((x : A) → filter p (f x) ≡ f x) → filter p (flat_map f xs) ≡ flat_map f xs
whole p f [] each = refl
whole p f (x ∷ xs) each = filter-append p (f x) (flat_map f xs) ∙ rw (each x, whole p f xs each) refl

none : {A : Type 0} (p : Order → Bool) (f : A → List Order) (xs : List A) → ((x : A) → filter p (f x) ≡ []) → filter p (flat_map f xs) ≡ []
none p f [] each = refl
none p f (x ∷ xs) each = filter-append p (f x) (flat_map f xs) ∙ rw (each x, none p f xs each) refl

order_passes : (config : Config) (view : View) (initial : Bool) (answer : Answer) (kept : Kept) (way : Way) (test : Order → Bool) → Tells test
    → (filter test (answer_order config view initial answer kept way) ≡ answer_order config view initial answer kept way)
    × (filter (others test) (answer_order config view initial answer kept way) ≡ [])
unfolding answer_order others
order_passes config view initial answer kept (Received event) test tells =
    (keeps test _ [] (tells.answers_pass event _), drops (λ order. not (test order)) _ [] (ap not (tells.answers_pass event _)))
order_passes config view initial answer kept (Sent branch) test tells = (refl, refl)

answers_pass_by : (config : Config) (answer : Answer) (view : View) (kept : Option Kept) (initial : Bool) (test : Order → Bool) → Tells test
    → (filter test (answers config answer view kept initial) ≡ answers config answer view kept initial) × (filter (others test) (answers config answer view kept initial) ≡ [])
unfolding answers
answers_pass_by config answer view None initial test tells = (refl, refl)
answers_pass_by config answer view (Some kept) initial test tells = order_passes config view initial answer kept kept.way test tells

owed_passes : (config : Config) (view : View) (known : Known) (request : RequestView) (b : Bool) (test : Order → Bool) → Tells test → (is_whose None request.sess && is_owed request) ≡ b
    → (filter test (owed_by config view known None request) ≡ owed_by config view known None request) × (filter (others test) (owed_by config view known None request) ≡ [])
unfolding owed_by owed_answer
owed_passes config view known request true test tells e = rw e (answers_pass_by config _ view _ request.initial test tells)
owed_passes config view known request false test tells e = rw e (refl, refl)

cancels_pass : (branches : List ℕ) (test : Order → Bool) → Tells test
    → (filter test (map cancel_now branches) ≡ []) × (filter (others test) (map cancel_now branches) ≡ map cancel_now branches)
unfolding cancel_now others
cancels_pass [] test tells = (refl, refl)
cancels_pass (branch ∷ branches) test tells = let later = cancels_pass branches test tells in (
  drops test _ _ (tells.cancels_stop branch) ∙ later.0,
  keeps (λ order. not (test order)) _ _ (ap not (tells.cancels_stop branch)) ∙ ap (λ cancels. orders.CancelNow branch ∷ cancels) later.1,
)

-- ## A goodbye

owed : Config → View → Known → List Order
owed config view known = flat_map (owed_by config view known None) view.requests

cancels : Known → List Order
cancels known = map cancel_now (in_order (invite_branches (λ sess. true) known))

all_is : (config : Config) (view : View) (known : Known) → goodbyes config view known (λ sess. true) ≡ owed config view known ++ cancels known
unfolding owed cancels is_whose
all_is config view known = goodbyes_are config view known None

parted : (config : Config) (view : View) (known : Known) (between : List Order) (test : Order → Bool) → Tells test
    → filter test (goodbyes config view known (λ sess. true)) ++ between ++ filter (λ order. not (test order)) (goodbyes config view known (λ sess. true))
    ≡ owed config view known ++ between ++ cancels known
unfolding others owed cancels
parted config view known between test tells =
    let answered : filter test (owed config view known) ≡ owed config view known = whole test (owed_by config view known None) view.requests (λ request. (owed_passes config view known request _ test tells refl).0) in
    let stopped : filter (others test) (owed config view known) ≡ [] = none (others test) (owed_by config view known None) view.requests (λ request. (owed_passes config view known request _ test tells refl).1) in
    let last = cancels_pass (in_order (invite_branches (λ sess. true) known)) test tells in
    rw (all_is config view known)
    (ap (λ (first : List Order). first ++ between ++ filter (others test) (owed config view known ++ cancels known)) (filter-append test (owed config view known) (cancels known) ∙ rw (answered, last.0) (append-nil _))
    ∙ ap (λ (rest : List Order). owed config view known ++ between ++ rest) (filter-append (others test) (owed config view known) (cancels known) ∙ rw (stopped, last.1) refl))

goodbye_is : (config : Config) (session : Session) (inbox : List Waiting)
    → goodbye config session inbox ≡ owed config session.view session.known ++ flat_map (waiting_answer (own_tag_of session.view FIRST_SESSION)) inbox ++ cancels session.known
unfolding goodbye
goodbye_is config session inbox =
    parted config session.view session.known (flat_map (waiting_answer (own_tag_of session.view FIRST_SESSION)) inbox) _ (record { answers_pass = λ event response. refl; cancels_stop = λ branch. refl })

-- one after the other
pub goodbye_made : (config : Config) (session : Session) (inbox : List Waiting) (first second last : List Order)
    → first ≡ [] ++ flat_map (owed_by config session.view session.known None) session.view.requests
    → second ≡ first ++ flat_map (waiting_answer (own_tag_of session.view FIRST_SESSION)) inbox
    → last ≡ second ++ map cancel_now (in_order (invite_branches (λ sess. true) session.known))
    → last ≡ goodbye config session inbox
unfolding owed cancels
goodbye_made config session inbox first second last a b c = rw (c, b, a) (sym (goodbye_is config session inbox))
