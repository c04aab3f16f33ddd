-- A session that ends with a turn where nothing is sent: it goes as it is, and isn't changed first.
use Rattle.std.proofs.Common.{◌≡◌, ◌∙◌, ℕ, zero, suc, Bool, true, false, cond, List, [], ◌∷◌, Option, None, Some, refl, ap, sym}
use Rattle.std.specs.Prelude.{drop, slice_get}
use Rattle.std.specs.List.{find}
use Rattle.std.specs.Option.{option_and_then, option_map}
use Rattle.sc_value.proofs.ListFacts.{slice_get-change_nth}
use Rattle.sc_value.specs.declared.ids.AppId.{AppId}
use Rattle.sc_value.specs.Lists.{change_first, change_nth, remove_first}
use Rattle.sc_parts.specs.declared.setup.Setup.{Setup}
use Rattle.sc_state.specs.Hosts.{Host}
use Rattle.sc_state.specs.declared.host.Live.{Live}
use Rattle.sc_state.specs.declared.net.Net.{Net}
use Rattle.sc_state.specs.declared.orders.Order.{Order}
use Rattle.sc_state.specs.declared.orders.Outcome.{Outcome}
use Rattle.sc_state.specs.declared.session.Session.{Session}
use Rattle.sc_hosts.specs.Finishing.{goodbye}
use Rattle.sc_hosts.specs.Inboxes.{is_live, live_in}
use Rattle.sc_hosts.specs.Nets.{after_orders}
use Rattle.sc_hosts.specs.Steps.{inbox_of, live_at, without_application, without_live}
use Rattle.sc_hosts.specs.Transacting.{without_ended}
use Rattle.sc_steps.specs.TurnParts.{EndsSilently, closed_by, host_after, host_without, live_after, net_after, turned_by}

-- ## The item that is found, changed in a way that the test doesn't see

gone-at : {A : Type 0} (p : A → Bool) (f : A → A) (y : A) (ys : List A) (b : Bool) → p y ≡ b → p (f y) ≡ p y → remove_first p (change_first p f ys) ≡ remove_first p ys
    → remove_first p (cond b (f y ∷ ys) (y ∷ change_first p f ys)) ≡ cond b ys (y ∷ remove_first p ys)
unfolding remove_first
gone-at p f y ys true is same later = ap (λ (b : Bool). cond b ys (f y ∷ remove_first p ys)) (same ∙ is)
gone-at p f y ys false is same later =
    ap (λ (b : Bool). cond b (change_first p f ys) (y ∷ remove_first p (change_first p f ys))) is ∙ ap (λ zs. y ∷ zs) later

gone : {A : Type 0} (p : A → Bool) (f : A → A) (ys : List A) → ((y : A) → p (f y) ≡ p y) → remove_first p (change_first p f ys) ≡ remove_first p ys
unfolding remove_first change_first
gone p f [] same = refl
gone p f (y ∷ ys) same = gone-at p f y ys (p y) refl (same y) (gone p f ys same)

found-at : {A : Type 0} (p : A → Bool) (f : A → A) (y : A) (ys : List A) (b : Bool) → p y ≡ b → p (f y) ≡ p y → find p (change_first p f ys) ≡ option_map f (find p ys)
    → find p (cond b (f y ∷ ys) (y ∷ change_first p f ys)) ≡ option_map f (cond b (Some y) (find p ys))
found-at p f y ys true is same later = ap (λ (b : Bool). cond b (Some (f y)) (find p ys)) (same ∙ is)
found-at p f y ys false is same later = ap (λ (b : Bool). cond b (Some y) (find p (change_first p f ys))) is ∙ later

found : {A : Type 0} (p : A → Bool) (f : A → A) (ys : List A) → ((y : A) → p (f y) ≡ p y) → find p (change_first p f ys) ≡ option_map f (find p ys)
unfolding change_first
found p f [] same = refl
found p f (y ∷ ys) same = found-at p f y ys (p y) refl (same y) (found p f ys same)

gone-nth : {A : Type 0} (n : ℕ) (f g : A → A) (ys : List A) → ((y : A) → f (g y) ≡ f y) → change_nth n f (change_nth n g ys) ≡ change_nth n f ys
unfolding change_nth
gone-nth n f g [] same = refl
gone-nth zero f g (y ∷ ys) same = ap (λ z. z ∷ ys) (same y)
gone-nth (suc n) f g (y ∷ ys) same = ap (λ zs. y ∷ zs) (gone-nth n f g ys same)

-- ## The session after its turn has its number

same-serial : (serial now : ℕ) (session : Session) (live : Live Session) → is_live serial (live_after now session live) ≡ is_live serial live
unfolding live_after
same-serial serial now session live = refl

host-gone : (serial now : ℕ) (session : Session) (host : Host Session) → host_without serial (host_after serial now session host) ≡ host_without serial host
unfolding host_without host_after
host-gone serial now session host =
    ap (λ (sessions : List (Live Session)). without_ended (record host { sessions = sessions })) (gone (is_live serial) (live_after now session) host.sessions (same-serial serial now session))

net-gone : (app : AppId) (session : Session) (net : Net Session) → without_live app (net_after app session net) ≡ without_live app net
unfolding without_live net_after host_without
net-gone app session net =
    ap (λ (hosts : List (Host Session)). record net { hosts = hosts }) (gone-nth app.host (host_without app.serial) (host_after app.serial net.moment session) net.hosts (host-gone app.serial net.moment session))

-- ## What waits behind its event

behind-live : (now : ℕ) (session : Session) (live : Option (Live Session)) → inbox_of (option_map (live_after now session) live) ≡ drop 1 (inbox_of live)
unfolding inbox_of live_after
behind-live now session None = refl
behind-live now session (Some live) = refl

behind-host : (serial now : ℕ) (session : Session) (host : Option (Host Session))
    → inbox_of (option_and_then (live_in serial) (option_map (host_after serial now session) host)) ≡ drop 1 (inbox_of (option_and_then (live_in serial) host))
unfolding host_after
behind-host serial now session None = behind-live now session None
behind-host serial now session (Some host) =
    ap inbox_of (found (is_live serial) (live_after now session) host.sessions (same-serial serial now session)) ∙ behind-live now session (find (is_live serial) host.sessions)

behind : (app : AppId) (session : Session) (net : Net Session) → inbox_of (live_at app (net_after app session net)) ≡ drop 1 (inbox_of (live_at app net))
unfolding net_after
behind app session net =
    ap (λ (host : Option (Host Session)). inbox_of (option_and_then (live_in app.serial) host)) (slice_get-change_nth app.host (host_after app.serial net.moment session) net.hosts)
    ∙ behind-host app.serial net.moment session (slice_get net.hosts app.host)

-- ## The turn

pub silent_end : (setup : Setup) (app : AppId) (done : Outcome) (net : Net Session) → EndsSilently setup app done net → without_live app net ≡ turned_by setup app done net
unfolding turned_by closed_by without_application after_orders
silent_end setup app done net silent =
    let after : Net Session = net_after app done.session net in
    sym
    (ap (λ (ends : Bool). closed_by setup app done.session ends (after_orders setup app done.orders after)) silent.ends_is
    ∙ (ap (λ (sent : List Order). closed_by setup app done.session true (after_orders setup app sent after)) silent.orders_is
    ∙ (ap (λ (sent : List Order). without_live app (after_orders setup app sent after)) (ap (goodbye setup.config done.session) (behind app done.session net) ∙ silent.goodbye_is)
    ∙ net-gone app done.session net)))
