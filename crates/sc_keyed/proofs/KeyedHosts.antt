-- What a host takes keeps the keys of its transactions apart.
use Rattle.std.proofs.Common.{◌≡◌, ◌⊎◌, inl, inr, ◌≤◌, ◌<◌, ℕ, ◌+◌, ◌++◌, Bool, true, false, Option, None, Some, List, [], ◌∷◌, refl, sym, ap, subst, ◌∙◌, arith}
use Rattle.std.specs.Prelude.{◌==◌, cond, is_some, option_map, option_and_then, filter, map}
use Rattle.std.specs.List.{find}
use Rattle.std.proofs.lemmas.Bool.Decides.{nat_tests}
use Rattle.sc_tokens.specs.Names.{same_bytes}
use Rattle.sc_value.specs.Lists.{change_first}
use Rattle.sc_value.specs.declared.ids.AppId.{AppId}
use Rattle.sc_value.specs.declared.message.Message.{Message}
use Rattle.sc_value.specs.declared.message.Message.TheVariants as messages
use Rattle.sc_value.specs.declared.message.Request.{Request}
use Rattle.sc_value.specs.declared.message.Response.{Response}
use Rattle.sc_value.specs.declared.parts.Uri.{Uri}
use Rattle.sc_terms.specs.declared.settings.Config.{Config}
use Rattle.sc_parts.specs.declared.transactions.ClientItem.{ClientItem}
use Rattle.sc_parts.specs.declared.transactions.ClientItem.TheVariants as client_items
use Rattle.sc_parts.specs.declared.transactions.ServerItem.{ServerItem}
use Rattle.sc_state.specs.Hosts.{Host}
use Rattle.sc_state.specs.Standing.{is_cancel_client, is_invite_client, is_server}
use Rattle.sc_state.specs.declared.host.Client.{Client}
use Rattle.sc_state.specs.declared.host.Live.{Live}
use Rattle.sc_state.specs.declared.host.Peer.{Peer}
use Rattle.sc_state.specs.declared.host.Server.{Server}
use Rattle.sc_state.specs.declared.host.Taken.{Taken}
use Rattle.sc_state.specs.declared.net.Note.{Note}
use Rattle.sc_state.specs.declared.queue.Queued.{Queued}
use Rattle.sc_tokens.specs.Bytes.{Bytes}
use Rattle.sc_model.specs.DialogRequests.{cancel}
use Rattle.sc_model.specs.SessionStates.{invite}
use Rattle.sc_model.specs.Timers.{DueEntry}
use Rattle.sc_hosts.proofs.EachSort.{takes-by}
use Rattle.sc_hosts.specs.Inboxes.{is_live, live_in, without_answer as quiet, queue, with_event}
use Rattle.sc_hosts.specs.Sessions.{Form}
use Rattle.sc_hosts.specs.Taking.{begun_live, take_cancel as cancelled, last_again, again_if, take_repeated as repeated, refuse, with_server, with_trying, server_after_trying as tried, queue_later, is_named_live, named_live, own_uri, take_new as begun, take_initial, takes}
use Rattle.sc_hosts.specs.TakingResponses.{take_provisional as told, told_by, cancelling, with_reply, response_for, response_to, take_response}
use Rattle.sc_hosts.specs.Ticks.{mark_fired}
use Rattle.sc_hosts.specs.Transacting.{client_for, is_answered_by, method_of, out_of_client, pass_client, pass_server, server_passed, without_ended, with_client}
use Rattle.sc_hosts.proofs.Deliveries.{same_bytes-equal}
use Rattle.sc_lives.specs.Numbers.{IsNumbered, IsRising}
use Rattle.sc_lives.proofs.Serials.{append-rising, change-rising}
use Rattle.sc_once.specs.Growing.{IsBetween}
use Rattle.sc_once.proofs.Bounds.{between-append, from-lower, next-between, to-higher}
use Rattle.sc_once.proofs.Finding.{cond_first, find-more}
use Rattle.sc_keyed.specs.Keyed.{IsIn}
use Rattle.sc_keyed.proofs.Apart.{found-in, in-append, in-change, in-filter}
use Rattle.sc_keyed.proofs.ClientKeys.{AreKeyed, IsDrawnBy, equal, keyed-cancel, keyed-counted, keyed-kept, keyed-passed, may-send}

-- ## Servers

-- each is of a session of this host, whose last serial is this, and their events rise up to a count
pub record AreServers (number last count : ℕ) (servers : List Server) : Type 0 where
  pub here : (server : Server) → IsIn server servers → server.app.host ≡ number
  pub given : (server : Server) → IsIn server servers → server.app.serial ≤ last
  pub events : IsBetween (map (λ (s : Server). s.event) servers) 0 count

events-kept : (kept : Server → Bool) (servers : List Server) (low high : ℕ) → IsBetween (map (λ (s : Server). s.event) servers) low high
    → IsBetween (map (λ (s : Server). s.event) (filter kept servers)) low high
unfolding IsBetween
events-kept kept [] low high between = between
events-kept kept (s ∷ servers) low high between = by (kept s) (events-kept kept servers s.event high between.1)
  where
    weak : (a b : ℕ) → a < b → a ≤ b
    weak a b is = omega (arith, is)

    by : (b : Bool) → IsBetween (map (λ (s : Server). s.event) (filter kept servers)) s.event high
        → IsBetween (map (λ (s : Server). s.event) (cond b (s ∷ filter kept servers) (filter kept servers))) low high
    by true more = (between.0, more)
    by false more = from-lower _ low s.event high (weak low s.event between.0) more

events-changed : (test : Server → Bool) (change : Server → Server) (servers : List Server) → ((s : Server) → (change s).event ≡ s.event)
    → map (λ (s : Server). s.event) (change_first test change servers) ≡ map (λ (s : Server). s.event) servers
unfolding change_first
events-changed test change [] same = refl
events-changed test change (s ∷ servers) same = by (test s) (same s) (events-changed test change servers same)
  where
    by : (b : Bool) → (change s).event ≡ s.event
        → map (λ (s : Server). s.event) (change_first test change servers) ≡ map (λ (s : Server). s.event) servers
        → map (λ (s : Server). s.event) (cond b (change s ∷ servers) (s ∷ change_first test change servers)) ≡ (s.event ∷ map (λ (s : Server). s.event) servers)
    by true one more = rw one refl
    by false one more = rw more refl

map-append : (xs : List Server) (s : Server) → map (λ (s : Server). s.event) (xs ++ s ∷ []) ≡ map (λ (s : Server). s.event) xs ++ s.event ∷ []
map-append [] s = refl
map-append (x ∷ xs) s = ap (λ ns. x.event ∷ ns) (map-append xs s)

module _ (number last count : ℕ) where
  pub servers-changed : (test : Server → Bool) (change : Server → Server) (servers : List Server) → ((s : Server) → (change s).event ≡ s.event)
      → ((s : Server) → (change s).app ≡ s.app) → AreServers number last count servers → AreServers number last count (change_first test change servers)
  servers-changed test change servers event app are = record {
    here = λ server within. let one = of server (in-change test change servers server within) in ap (λ (a : AppId). a.host) one.2 ∙ are.here one.0 one.1;
    given = λ server within. let one = of server (in-change test change servers server within) in subst (λ (a : AppId). a.serial ≤ last) (sym one.2) (are.given one.0 one.1);
    events = subst (λ (ns : List ℕ). IsBetween ns 0 count) (sym (events-changed test change servers event)) are.events;
  }
    where
      of : (server : Server) → (y : Server) × IsIn y servers × ((server ≡ change y) ⊎ (server ≡ y)) → (y : Server) × IsIn y servers × (server.app ≡ y.app)
      of server one = (one.0, one.1, by one.2)
        where
          by : (server ≡ change one.0) ⊎ (server ≡ one.0) → server.app ≡ one.0.app
          by (inl changed) = ap (λ (s : Server). s.app) changed ∙ app one.0
          by (inr same) = ap (λ (s : Server). s.app) same

  pub servers-kept : (kept : Server → Bool) (servers : List Server) → AreServers number last count servers
      → AreServers number last count (filter kept servers)
  servers-kept kept servers are = record {
    here = λ server within. are.here server (in-filter kept servers server within);
    given = λ server within. are.given server (in-filter kept servers server within);
    events = events-kept kept servers 0 count are.events;
  }

  pub servers-more : (servers : List Server) (new : Server) → new.app.host ≡ number → new.app.serial ≤ last → new.event ≡ count + 1
      → AreServers number last count servers → AreServers number last (count + 1) (servers ++ new ∷ [])
  servers-more servers new here given next are = record {
    here = λ server within. either (λ (a : AppId). a.host ≡ number) server (in-append servers new server within) (are.here server) here;
    given = λ server within. either (λ (a : AppId). a.serial ≤ last) server (in-append servers new server within) (are.given server) given;
    events = subst (λ (ns : List ℕ). IsBetween ns 0 (count + 1)) (sym (map-append servers new ∙ ap (λ (n : ℕ). map (λ (s : Server). s.event) servers ++ n ∷ []) next))
        (between-append (map (λ (s : Server). s.event) servers) ((count + 1) ∷ []) 0 count (count + 1) are.events (next-between count));
  }
    where
      either : (P : AppId → Type 0) (server : Server) → IsIn server servers ⊎ (server ≡ new) → (IsIn server servers → P server.app) → P new.app → P server.app
      either P server (inl old) one two = one old
      either P server (inr same) one two = subst (λ (s : Server). P s.app) (sym same) two

pub servers-counted : (number last later count more : ℕ) (servers : List Server) → last ≤ later → count ≤ more → AreServers number last count servers
    → AreServers number later more servers
servers-counted number last later count more servers on up are = record {
  here = are.here;
  given = λ server within. through server.app.serial (are.given server within);
  events = to-higher _ 0 count more up are.events;
}
  where
    through : (n : ℕ) → n ≤ last → n ≤ later
    through n is = omega (arith, is, on)

-- ## Sessions

found-same : {A : Type 0} {B : Type 0} (xs : List A) (p q : A → Bool) (f : A → A) (g : A → B) → ((x : A) → q (f x) ≡ q x) → ((x : A) → g (f x) ≡ g x)
    → option_map g (find q (change_first p f xs)) ≡ option_map g (find q xs)
unfolding change_first
found-same [] p q f g same gives = refl
found-same {A = A} {B = B} (x ∷ xs) p q f g same gives = by (p x) (q x) refl (found-same xs p q f g same gives)
  where
    by : (c b : Bool) → q x ≡ b → option_map g (find q (change_first p f xs)) ≡ option_map g (find q xs)
        → option_map g (find q (cond c (f x ∷ xs) (x ∷ change_first p f xs))) ≡ option_map g (cond b (Some x) (find q xs))
    by true true is more = rw (same x, is) (ap (λ (y : B). Some y) (gives x))
    by true false is more = rw (same x, is) refl
    by false true is more = rw is refl
    by false false is more = rw is more

pub rises-to : {S : Type 0} (lives : List (Live S)) (low last : ℕ) → IsRising lives low last → low ≤ last
unfolding IsRising
rises-to [] low last rising = rising
rises-to (live ∷ lives) low last rising = through low live.serial last rising.0 (rises-to lives live.serial last rising.1)
  where
    through : (a b c : ℕ) → a < b → b ≤ c → a ≤ c
    through a b c p q = omega (arith, p, q)

-- what lives has a serial up to the last
there-last : {S : Type 0} (lives : List (Live S)) (low last serial : ℕ) → IsRising lives low last → is_some (find (is_live serial) lives) ≡ true → serial ≤ last
unfolding IsRising
there-last [] low last serial rising is = cc
there-last {S = S} (other ∷ lives) low last serial rising is = by (other.serial == serial) refl is (there-last lives other.serial last serial rising.1)
  where
    by : (b : Bool) → (other.serial == serial) ≡ b → is_some (cond b (Some other) (find (is_live serial) lives)) ≡ true
        → (is_some (find (is_live serial) lives) ≡ true → serial ≤ last) → serial ≤ last
    by true at is more = subst (λ (n : ℕ). n ≤ last) (equal other.serial serial at) (rises-to lives other.serial last rising.1)
    by false at is more = more is

abbrev pub last_number : {S : Type 0} → Form S → Live S → ℕ
last_number form live = (form.read live.session).view.counter

-- the last number that the session of this serial drew, where it lives
abbrev pub counter_at : {S : Type 0} → Form S → List (Live S) → ℕ → Option ℕ
counter_at form lives serial = option_map (last_number form) (find (is_live serial) lives)

-- a host that gave events up to a count, where a session that has this takes a turn and gave branches up to one number, and
-- may give them up to another
pub record IsKeyed {S : Type 0} (form : Form S) (Own : AppId → Type 0) (low high number count : ℕ) (host : Host S) : Type 0 where
  pub clients : AreKeyed Own low number host.last (counter_at form host.sessions) host.clients
  pub servers : AreServers number host.last count host.servers
  pub numbered : IsNumbered host
  pub began : (app : AppId) → Own app → app.host ≡ number → app.serial ≤ host.last
  pub able : (app : AppId) → Own app → app.host ≡ number → IsDrawnBy high (counter_at form host.sessions app.serial)

apart-number : (a b : ℕ) → a ≤ b → (b + 1 == a) ≡ false
apart-number a b under = grind (arith, nat_tests, under)

module _ {S : Type 0} (form : Form S) (Own : AppId → Type 0) (low high number : ℕ) where
  abbrev Keyed : ℕ → Host S → Type 0
  Keyed count host = IsKeyed form Own low high number count host

  pub counted : (count more : ℕ) (host : Host S) → count ≤ more → Keyed count host → Keyed more host
  counted count more host up keyed = record {
    clients = keyed.clients;
    servers = servers-counted number host.last host.last count more host.servers (omega arith) up keyed.servers;
    numbered = keyed.numbered;
    began = keyed.began;
    able = keyed.able;
  }

  -- ## What changes sessions, and draws nothing

  session-changed : (count other : ℕ) (change : Live S → Live S) (host : Host S) → ((live : Live S) → (change live).serial ≡ live.serial)
      → ((live : Live S) → (change live).session ≡ live.session) → Keyed count host
      → Keyed count (record host { sessions = change_first (is_live other) change host.sessions })
  session-changed count other change host serial session keyed = record {
    clients = keyed-counted Own Own low low number host.last host.last (counter_at form host.sessions) (counter_at form (change_first (is_live other) change host.sessions)) host.clients (same host.last)
        (λ at n under drawn. subst (IsDrawnBy n) (sym (there at)) drawn) keyed.clients.below keyed.clients;
    servers = keyed.servers;
    numbered = change-rising host.sessions 0 host.last (is_live other) change serial keyed.numbered;
    began = keyed.began;
    able = λ app own here. subst (IsDrawnBy high) (sym (there app.serial)) (keyed.able app own here);
  }
    where
      same : (n : ℕ) → n ≤ n
      same n = omega arith

      there : (at : ℕ) → counter_at form (change_first (is_live other) change host.sessions) at ≡ counter_at form host.sessions at
      there at = found-same host.sessions (is_live other) (is_live at) change (last_number form) (λ live. ap (λ (n : ℕ). n == at) (serial live)) (λ live. ap (λ (s : S). (form.read s).view.counter) (session live))

  queue-by : (count serial now : ℕ) (event : Queued) (host : Host S) (b : Bool) → Keyed count host
      → Keyed (cond b (quiet (record host { sessions = change_first (is_live serial) (with_event (count + 1) now event) host.sessions }) (count + 1)) (quiet host count)).count
      (cond b (quiet (record host { sessions = change_first (is_live serial) (with_event (count + 1) now event) host.sessions }) (count + 1)) (quiet host count)).host
  unfolding quiet with_event
  queue-by count serial now event host true keyed =
      counted count (count + 1) _ (omega arith) (session-changed count serial (with_event (count + 1) now event) host (λ live. refl) (λ live. refl) keyed)
  queue-by count serial now event host false keyed = keyed

  pub queue-keyed : (serial now : ℕ) (event : Queued) (count : ℕ) (host : Host S) → Keyed count host
      → Keyed (queue serial now event count host).count (queue serial now event count host).host
  unfolding queue
  queue-keyed serial now event count host keyed = queue-by count serial now event host _ keyed

  pub marks-keyed : (entry : DueEntry) (count : ℕ) (host : Host S) → Keyed count host → Keyed count (mark_fired entry host)
  unfolding mark_fired
  marks-keyed entry count host keyed = session-changed count entry.app.serial _ host (λ live. refl) (λ live. refl) keyed

  -- ## An item passes

  pub pass_client-keyed : (app : AppId) (branch : ℕ) (cancelling : Bool) (item : ClientItem) (count : ℕ) (host : Host S) → Keyed count host
      → Keyed count (pass_client app branch cancelling item host)
  unfolding pass_client without_ended
  pass_client-keyed app branch cancelling item count host keyed = record {
    clients = keyed-passed Own low number host.last (counter_at form host.sessions) app branch cancelling item _ host.clients keyed.clients;
    servers = servers-kept number host.last count _ host.servers keyed.servers;
    numbered = keyed.numbered;
    began = keyed.began;
    able = keyed.able;
  }

  pub servers-keyed : (test : Server → Bool) (change : Server → Server) (count : ℕ) (host : Host S) → ((s : Server) → (change s).event ≡ s.event)
      → ((s : Server) → (change s).app ≡ s.app) → Keyed count host
      → Keyed count (record host { servers = change_first test change host.servers })
  servers-keyed test change count host event app keyed = record {
    clients = keyed.clients;
    servers = servers-changed number host.last count test change host.servers event app keyed.servers;
    numbered = keyed.numbered;
    began = keyed.began;
    able = keyed.able;
  }

  pub tidied-keyed : (count : ℕ) (host : Host S) → Keyed count host → Keyed count (without_ended host)
  unfolding without_ended
  tidied-keyed count host keyed = record {
    clients = keyed-kept Own low number host.last (counter_at form host.sessions) _ host.clients keyed.clients;
    servers = servers-kept number host.last count _ host.servers keyed.servers;
    numbered = keyed.numbered;
    began = keyed.began;
    able = keyed.able;
  }

  pub pass_server-keyed : (event : ℕ) (item : ServerItem) (count : ℕ) (host : Host S) → Keyed count host → Keyed count (pass_server event item host)
  unfolding pass_server server_passed
  pass_server-keyed event item count host keyed =
      tidied-keyed count (record host { servers = change_first (is_server event) (server_passed item) host.servers }) (servers-keyed (is_server event) (server_passed item) count host (λ s. refl) (λ s. refl) keyed)

  -- a CANCEL goes, as the item passes its INVITE
  pub cancel-keyed : (now : ℕ) (item : ClientItem) (client : Client) (count : ℕ) (host : Host S) → IsIn client host.clients
      → is_cancel_client client ≡ false → (out_of_client client item).cancel ≡ true → Keyed count host
      → Keyed count (with_client (cancelling now client) (pass_client client.app client.branch (is_cancel_client client) item host))
  unfolding pass_client without_ended
  cancel-keyed now item client count host within kind sends keyed = record {
    clients = keyed-cancel Own low number host.last (counter_at form host.sessions) now item _ host.clients client within kind sends keyed.clients;
    servers = servers-kept number host.last count _ host.servers keyed.servers;
    numbered = keyed.numbered;
    began = keyed.began;
    able = keyed.able;
  }

  -- ## Responses

  -- the host took it
  abbrev pub Took : Taken S → Type 0
  Took taken = IsKeyed form Own low high number taken.count taken.host

  pub if-took : (b : Bool) (x y : Taken S) → Took x → Took y → Took (cond b x y)
  if-took true x y p q = p
  if-took false x y p q = q

  told_by-keyed : (now : ℕ) (tell : Option ℕ) (client : Client) (response : Response) (count : ℕ) (host : Host S) → Keyed count host
      → Took (told_by tell now client response count host)
  unfolding told_by told quiet
  told_by-keyed now None client response count host keyed = keyed
  told_by-keyed now (Some code) client response count host keyed = if-took _ _ _ keyed (queue-keyed client.app.serial now _ count host keyed)

  queue-with : (count serial now : ℕ) (event : Queued) (own : Client) (host : Host S) (b : Bool) → Keyed count (with_client own host)
      → Keyed (cond b (quiet (record host { sessions = change_first (is_live serial) (with_event (count + 1) now event) host.sessions }) (count + 1)) (quiet host count)).count
      (with_client own (cond b (quiet (record host { sessions = change_first (is_live serial) (with_event (count + 1) now event) host.sessions }) (count + 1)) (quiet host count)).host)
  unfolding quiet with_event
  queue-with count serial now event own host true keyed =
      counted count (count + 1) _ (omega arith) (session-changed count serial (with_event (count + 1) now event) (with_client own host) (λ live. refl) (λ live. refl) keyed)
  queue-with count serial now event own host false keyed = keyed

  queue-beside : (serial now : ℕ) (event : Queued) (own : Client) (count : ℕ) (host : Host S) → Keyed count (with_client own host)
      → Keyed (queue serial now event count host).count (with_client own (queue serial now event count host).host)
  unfolding queue
  queue-beside serial now event own count host keyed = queue-with count serial now event own host _ keyed

  if-beside : (own : Client) (b : Bool) (x y : Taken S) → Keyed x.count (with_client own x.host) → Keyed y.count (with_client own y.host)
      → Keyed (cond b x y).count (with_client own (cond b x y).host)
  if-beside own true x y p q = p
  if-beside own false x y p q = q

  -- what is told changes sessions alone, and leaves a CANCEL that goes with it
  told-beside : (now : ℕ) (tell : Option ℕ) (client own : Client) (response : Response) (count : ℕ) (host : Host S)
      → Keyed count (with_client own host)
      → Keyed (told_by tell now client response count host).count (with_client own (told_by tell now client response count host).host)
  unfolding told_by told quiet
  told-beside now None client own response count host keyed = keyed
  told-beside now (Some code) client own response count host keyed = if-beside own _ _ _ keyed (queue-beside client.app.serial now _ own count host keyed)

  invite-kind : (client : Client) → is_invite_client client ≡ true → is_cancel_client client ≡ false
  unfolding invite cancel
  invite-kind client is = subst (λ (m : Bytes). same_bytes m cancel ≡ false) (sym (same_bytes-equal (method_of client.request) invite is)) refl

  response-by : (now : ℕ) (client : Client) (response : Response) (count : ℕ) (host : Host S) (item : ClientItem) → IsIn client host.clients
      → Keyed count host → (acks cancels : Bool) → (out_of_client client item).ack ≡ acks → (out_of_client client item).cancel ≡ cancels
      → Took (with_reply (out_of_client client item) now client response
      (told_by (out_of_client client item).tell now client response count (pass_client client.app client.branch (is_cancel_client client) item host)))
  unfolding with_reply
  response-by now client response count host item within keyed true cancels acks-is cancels-is =
      rw acks-is (told_by-keyed now _ client response count _ (pass_client-keyed client.app client.branch (is_cancel_client client) item count host keyed))
  response-by now client response count host item within keyed false true acks-is cancels-is =
      rw (acks-is, cancels-is)
      (told-beside now _ client (cancelling now client) response count _ (cancel-keyed now item client count host within (invite-kind client (may-send client item cancels-is).invite) cancels-is keyed))
  response-by now client response count host item within keyed false false acks-is cancels-is =
      rw (acks-is, cancels-is) (told_by-keyed now _ client response count _ (pass_client-keyed client.app client.branch (is_cancel_client client) item count host keyed))

  response_to-keyed : (now : ℕ) (found : Option Client) (response : Response) (count : ℕ) (host : Host S)
      → ((client : Client) → found ≡ Some client → IsIn client host.clients) → Keyed count host
      → Took (response_to now found response count host)
  unfolding response_to response_for quiet
  response_to-keyed now None response count host within keyed = keyed
  response_to-keyed now (Some client) response count host within keyed =
      response-by now client response count host (client_items.ResponseCame response.code now) (within client refl) keyed _ _ refl refl

  take_response-keyed : (config : Config) (epoch : ℕ) (from : Peer) (now : ℕ) (response : Response) (count : ℕ) (host : Host S) → Keyed count host
      → Took (take_response config epoch from now response count host)
  unfolding take_response client_for
  take_response-keyed config epoch from now response count host keyed =
      response_to-keyed now _ response count host (λ client is. found-in (is_answered_by config.salt epoch from response) host.clients client is) keyed

  -- ## CANCEL, ACK and repeated requests

  cancelled-keyed : (from : Peer) (now : ℕ) (server : Server) (request : Request) (count : ℕ) (host : Host S) → Keyed count host
      → Took (cancelled from now server request count host)
  unfolding cancelled quiet
  cancelled-keyed from now server request count host keyed = if-took _ _ _ keyed (queue-keyed server.app.serial now _ count host keyed)

  last_again-keyed : (server : Server) (last : Option Response) (taken : Taken S) → Took taken → Took (last_again server last taken)
  unfolding last_again
  last_again-keyed server None taken took = took
  last_again-keyed server (Some response) taken took = took

  again_if-keyed : (b : Bool) (server : Server) (taken : Taken S) → Took taken → Took (again_if b server taken)
  unfolding again_if
  again_if-keyed true server taken took = last_again-keyed server server.last taken took
  again_if-keyed false server taken took = took

  repeated-keyed : (server : Server) (count : ℕ) (host : Host S) → Keyed count host → Took (repeated server count host)
  unfolding repeated quiet
  repeated-keyed server count host keyed = again_if-keyed _ server _ (pass_server-keyed server.event _ count host keyed)

  -- ## Requests

  refuse-keyed : (config : Config) (from : Peer) (code : ℕ) (reason : Bytes) (request : Request) (count : ℕ) (host : Host S) → Keyed count host
      → Took (refuse config from code reason request count host)
  unfolding refuse quiet
  refuse-keyed config from code reason request count host keyed = if-took _ _ _ keyed keyed

  -- a request that was queued gets its server, of the event that is next
  if-server : (b : Bool) (count : ℕ) (host : Host S) (server : Server) → server.app.host ≡ number → server.app.serial ≤ host.last → server.event ≡ count + 1 → Keyed count host
      → Keyed (count + 1) (cond b host (record host { servers = host.servers ++ server ∷ [] }))
  if-server true count host server here given next keyed = counted count (count + 1) host (omega arith) keyed
  if-server false count host server here given next keyed = record {
    clients = keyed.clients;
    servers = servers-more number host.last count host.servers server here given next keyed.servers;
    numbered = keyed.numbered;
    began = keyed.began;
    able = keyed.able;
  }

  with_server-keyed : (serial : ℕ) (peer : Peer) (tag : Bytes) (request : Request) (count : ℕ) (host : Host S) → serial ≤ host.last → Keyed count host
      → Keyed (count + 1) (with_server (record { host = number; serial = serial }) (count + 1) peer tag request host)
  unfolding with_server
  with_server-keyed serial peer tag request count host given keyed = if-server _ count host _ refl given refl keyed

  with_trying-keyed : (from : Peer) (now : ℕ) (request : Request) (taken : Taken S) → Took taken → Took (with_trying from now request taken)
  unfolding with_trying tried
  with_trying-keyed from now request taken took =
      if-took _ _ taken (servers-keyed (is_server taken.count) (tried request now) taken.count taken.host (λ s. refl) (λ s. refl) took) took

  -- where the session is there, its event is counted
  queue-counts : (count serial now : ℕ) (event : Queued) (host : Host S) (b : Bool) → b ≡ true → Keyed (count + 1) host
      → Keyed (cond b (quiet (record host { sessions = change_first (is_live serial) (with_event (count + 1) now event) host.sessions }) (count + 1)) (quiet host count)).count
      (cond b (quiet (record host { sessions = change_first (is_live serial) (with_event (count + 1) now event) host.sessions }) (count + 1)) (quiet host count)).host
  unfolding quiet with_event
  queue-counts count serial now event host true there keyed = session-changed (count + 1) serial (with_event (count + 1) now event) host (λ live. refl) (λ live. refl) keyed
  queue-counts count serial now event host false there keyed = cc

  if-sessions : (b : Bool) (host : Host S) (servers : List Server) → (cond b host (record host { servers = servers })).sessions ≡ host.sessions
  if-sessions true host servers = refl
  if-sessions false host servers = refl

  with_server-sessions : (app : AppId) (event : ℕ) (peer : Peer) (tag : Bytes) (request : Request) (host : Host S)
      → (with_server app event peer tag request host).sessions ≡ host.sessions
  unfolding with_server
  with_server-sessions app event peer tag request host = if-sessions _ host _

  queue_later-keyed : (config : Config) (epoch : ℕ) (from : Peer) (now : ℕ) (request : Request) (count : ℕ) (live : Live S) (host : Host S)
      → is_some (live_in live.serial host) ≡ true → Keyed count host → Took (queue_later config (record { host = number; epoch = epoch; from = from; now = now; count = count }) request live host)
  unfolding queue_later queue
  queue_later-keyed config epoch from now request count live host there keyed =
      if-took _ _ _ (refuse-keyed config from 503 _ request count host keyed)
      (with_trying-keyed from now request _
      (queue-counts count live.serial now _ _ _ (ap (λ (lives : List (Live S)). is_some (find (is_live live.serial) lives)) (with_server-sessions _ _ from _ _ host) ∙ there) (with_server-keyed live.serial from _ _ count host (there-last host.sessions 0 host.last live.serial keyed.numbered there) keyed)))

  itself : (n : ℕ) → (n == n) ≡ true
  itself n = grind (arith, nat_tests)

  some-in : (test : Live S → Bool) (lives : List (Live S)) (live : Live S) → find test lives ≡ Some live → is_some (find (is_live live.serial) lives) ≡ true
  some-in test [] live is = cc
  some-in test (other ∷ lives) live is = by (test other) is (other.serial == live.serial) refl (some-in test lives live)
    where
      same : Some other ≡ Some live → other ≡ live
      same is = cc

      clash : (b : Bool) → b ≡ true → b ≡ false → ⊥
      clash b p q = cc

      by : (b : Bool) → cond b (Some other) (find test lives) ≡ Some live → (c : Bool) → (other.serial == live.serial) ≡ c
          → (find test lives ≡ Some live → is_some (find (is_live live.serial) lives) ≡ true)
          → is_some (cond c (Some other) (find (is_live live.serial) lives)) ≡ true
      by b is true at more = refl
      by true is false at more = absurd (clash _ (ap (λ (l : Live S). l.serial == live.serial) (same is) ∙ itself live.serial) at)
      by false is false at more = more is

  named-there : (epoch : ℕ) (uri : Option Uri) (host : Host S) (l : Live S)
      → option_and_then (λ (u : Uri). named_live epoch number u host) uri ≡ Some l → is_some (live_in l.serial host) ≡ true
  unfolding named_live
  named-there epoch None host l is = cc
  named-there epoch (Some uri) host l is = some-in (is_named_live epoch number uri) host.sessions l is

  -- ## Requests that begin a session

  more-lives : (lives : List (Live S)) (new : Live S) (at last : ℕ) → new.serial ≡ last + 1 → at ≤ last
      → counter_at form (lives ++ new ∷ []) at ≡ counter_at form lives at
  more-lives lives new at last serial under =
      ap (option_map (last_number form)) (find-more lives (is_live at) new ∙ ap (λ (b : Bool). cond b (cond_first (find (is_live at) lives) (Some new)) (find (is_live at) lives)) (ap (λ (n : ℕ). n == at) serial ∙ apart-number at last under))

  begins-keyed : (count : ℕ) (host : Host S) (new : Live S) → new.serial ≡ host.last + 1 → Keyed count host
      → Keyed count (record host { sessions = host.sessions ++ new ∷ []; last = host.last + 1 })
  begins-keyed count host new serial keyed = record {
    clients = keyed-counted Own Own low low number host.last (host.last + 1) (counter_at form host.sessions) (counter_at form (host.sessions ++ new ∷ [])) host.clients (one-up host.last)
        (λ at n under drawn. subst (IsDrawnBy n) (sym (more-lives host.sessions new at host.last serial under)) drawn) keyed.clients.below keyed.clients;
    servers = servers-counted number host.last (host.last + 1) count count host.servers (one-up host.last) (omega arith) keyed.servers;
    numbered = append-rising host.sessions 0 host.last new serial keyed.numbered;
    began = λ app own here. up app.serial (keyed.began app own here);
    able = λ app own here. subst (IsDrawnBy high) (sym (more-lives host.sessions new app.serial host.last serial (keyed.began app own here))) (keyed.able app own here);
  }
    where
      one-up : (n : ℕ) → n ≤ n + 1
      one-up n = omega arith

      up : (n : ℕ) → n ≤ host.last → n ≤ host.last + 1
      up n is = omega (arith, is)

  begun-keyed : (config : Config) (epoch : ℕ) (from : Peer) (now : ℕ) (noted : Note) (request : Request) (count : ℕ) (host : Host S) → Keyed count host
      → Took (begun form config (record { host = number; epoch = epoch; from = from; now = now; count = count }) noted request host)
  unfolding begun quiet begun_live
  begun-keyed config epoch from now noted request count host keyed =
      with_trying-keyed from now request _ (with_server-keyed (host.last + 1) from _ request count _ (omega arith) (begins-keyed count host _ refl keyed))

  take_initial-keyed : (config : Config) (epoch : ℕ) (from : Peer) (now : ℕ) (noted : Option Note) (request : Request) (count : ℕ) (host : Host S) → Keyed count host
      → Took (take_initial form config (record { host = number; epoch = epoch; from = from; now = now; count = count }) noted request host)
  unfolding take_initial
  take_initial-keyed config epoch from now None request count host keyed = refuse-keyed config from 481 _ request count host keyed
  take_initial-keyed config epoch from now (Some noted) request count host keyed =
      if-took _ _ _ (refuse-keyed config from 503 _ request count host keyed) (begun-keyed config epoch from now noted request count host keyed)

  -- ## All that a host takes

  pub takes-keyed : (config : Config) (epoch : ℕ) (from : Peer) (now : ℕ) (noted : Option Note) (message : Message) (count : ℕ) (host : Host S)
      → Keyed count host → Took (takes form config (record { host = number; epoch = epoch; from = from; now = now; count = count }) noted message host)
  unfolding takes quiet
  takes-keyed config epoch from now noted (messages.Request request) count host keyed =
      takes-by Took form config (record { host = number; epoch = epoch; from = from; now = now; count = count }) noted request host (λ server found. cancelled-keyed from now server request count host keyed)
      (λ server found. pass_server-keyed server.event _ count host keyed) (λ server found. repeated-keyed server count host keyed)
      (λ live no_cancel tagged is. queue_later-keyed config epoch from now request count live host (named-there epoch (own_uri config request) host live is) keyed)
      (λ untagged. take_initial-keyed config epoch from now noted request count host keyed) (refuse-keyed config from 481 _ request count host keyed)
  takes-keyed config epoch from now noted (messages.Response response) count host keyed = take_response-keyed config epoch from now response count host keyed
