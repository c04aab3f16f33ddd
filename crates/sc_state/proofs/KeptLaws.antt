-- What is known to be kept stays so.
use Rattle.std.proofs.Common.{◌≡◌, ◌==◌, ℕ, Bool, true, false, not, cond, ◌&&◌, ◌||◌, T, List, [], ◌∷◌, ◌++◌, Some, None, is_some, refl, ap, sym, subst, ◌∙◌, arith}
use Rattle.std.proofs.lemmas.Bool.Decides.{nat_tests}
use Rattle.std.specs.List.{filter, find, list_all}
use Rattle.sc_value.specs.declared.ids.AppId.{AppId}
use Rattle.sc_value.specs.Lists.{change_first, remove_first}
use Rattle.sc_book.specs.Words.{belongs}
use Rattle.sc_state.specs.declared.host.Client.{Client}
use Rattle.sc_state.specs.declared.host.Live.{Live}
use Rattle.sc_state.specs.declared.host.Server.{Server}
use Rattle.sc_stages.specs.States.{is_over}
use Rattle.sc_state.specs.Groups.{branch_number, groups_of_client, groups_of_server}
use Rattle.sc_state.specs.Hosts.{Host}
use Rattle.sc_state.specs.Keeping.{is_live, lives_here, is_kept_client, is_kept_server, without_ended as without_ended, lives_among, kept_client, kept_server, AllKept, is_same_client}
use Rattle.sc_state.specs.Standing.{is_client, is_same_app, is_server, is_invite_client, is_invite_server, state_of_client, state_of_server}
use Rattle.sc_state.proofs.AllLaws.{found_any, filter_all, all_filter, all_pushed, all_weaker, all_changed, kept_without, kept_outside, any_pushed}

left : (a b : Bool) → (a && b) ≡ true → a ≡ true
left true b e = refl
left false b e = absurd (subst T (sym e) tt)

right : (a b : Bool) → (a && b) ≡ true → b ≡ true
right true b e = e
right false b e = absurd (subst T (sym e) tt)

same_number : (a b : ℕ) → (a == b) ≡ true → a ≡ b
same_number a b e = grind (arith, nat_tests, e)

itself : (a : ℕ) → (a == a) ≡ true
itself a = grind (arith, nat_tests)

-- ## A session that lives

pub lives_some : {S : Type 0} (serial : ℕ) (live : Live S) (sessions : List (Live S)) → Some live ≡ find (is_live serial) sessions → true ≡ lives_among serial sessions
lives_some serial live sessions is = ap is_some is ∙ found_any (is_live serial) sessions

pub lives_none : {S : Type 0} (serial : ℕ) (sessions : List (Live S)) → None ≡ find (is_live serial) sessions → false ≡ lives_among serial sessions
lives_none serial sessions is = ap is_some is ∙ found_any (is_live serial) sessions

-- where a session of a number is changed, the same live
lives_changed : {S : Type 0} (serial : ℕ) (live : Live S) (xs : List (Live S)) → lives_among serial (change_first (is_live live.serial) (λ _. live) xs) ≡ lives_among serial xs
unfolding change_first
lives_changed serial live [] = refl
lives_changed serial live (x ∷ xs) =
    elim (x.serial == live.serial) as (λ b. (x.serial == live.serial) ≡ b → lives_among serial (cond b (live ∷ xs) (x ∷ change_first (is_live live.serial) (λ _. live) xs)) ≡ ((x.serial == serial) || lives_among serial xs)) [
      | true ↦ λ e. ap (λ n. (n == serial) || lives_among serial xs) (sym (same_number x.serial live.serial e))
      | false ↦ λ _. ap (λ b. (x.serial == serial) || b) (lives_changed serial live xs)
    ] refl

-- where a session is gone, those of other numbers live on
lives_left : {S : Type 0} (serial gone : ℕ) (xs : List (Live S)) → (serial == gone) ≡ false → lives_among serial (remove_first (is_live gone) xs) ≡ lives_among serial xs
unfolding remove_first
lives_left serial gone [] other = refl
lives_left serial gone (x ∷ xs) other =
    elim (x.serial == gone) as (λ b. (x.serial == gone) ≡ b → lives_among serial (cond b xs (x ∷ remove_first (is_live gone) xs)) ≡ ((x.serial == serial) || lives_among serial xs)) [
      | true ↦ λ e. ap (λ b. b || lives_among serial xs) (sym (apart x.serial (same_number x.serial gone e)))
      | false ↦ λ _. ap (λ b. (x.serial == serial) || b) (lives_left serial gone xs other)
    ] refl
  where
    apart : (n : ℕ) → n ≡ gone → (n == serial) ≡ false
    apart n is = ap (λ m. m == serial) is ∙ turned gone serial other
      where
        turned : (a b : ℕ) → (b == a) ≡ false → (a == b) ≡ false
        turned a b e = grind (arith, nat_tests, e)

-- ## Groups

pub named_grouped : (app : AppId) (branch : ℕ) (cancelling : Bool) (x : Client) → is_client app branch cancelling x ≡ true → belongs groups_of_client (branch_number app branch) x ≡ true
unfolding is_client
named_grouped app branch cancelling x is =
    let one = left (is_same_app x.app app && (x.branch == branch)) _ is in
    let apps = left (is_same_app x.app app) (x.branch == branch) one in
    let host : x.app.host ≡ app.host = same_number x.app.host app.host (left (x.app.host == app.host) (x.app.serial == app.serial) apps) in
    let serial : x.app.serial ≡ app.serial = same_number x.app.serial app.serial (right (x.app.host == app.host) (x.app.serial == app.serial) apps) in
    let number : x.branch ≡ branch = same_number x.branch branch (right (is_same_app x.app app) (x.branch == branch) one) in
    let app_is : x.app ≡ app = ap (λ h. record { host = h; serial = x.app.serial }) host ∙ ap (λ s. record { host = app.host; serial = s }) serial in
    by (x.app.serial == branch_number app branch) (ap (λ a. branch_number a x.branch == branch_number app branch) app_is ∙ ap (λ n. branch_number app n == branch_number app branch) number ∙ itself (branch_number app branch))
  where
    by : (a : Bool) {b : Bool} → b ≡ true → (a || b) ≡ true
    by true e = refl
    by false e = e

other_serial : (a b c : Bool) → (a || b) ≡ false → (not a || c) ≡ true
other_serial true b c e = absurd (subst T e tt)
other_serial false b c e = refl

pub other_clients : {S : Type 0} (serial : ℕ) (sessions : List (Live S)) (x : Client) → belongs groups_of_client serial x ≡ false → (not (x.app.serial == serial) || kept_client sessions x) ≡ true
other_clients serial sessions x e = other_serial (x.app.serial == serial) _ (kept_client sessions x) e

pub other_servers : {S : Type 0} (serial : ℕ) (sessions : List (Live S)) (x : Server) → belongs groups_of_server serial x ≡ false → (not (x.app.serial == serial) || kept_server sessions x) ≡ true
other_servers serial sessions x e = other_serial (x.app.serial == serial) _ (kept_server sessions x) e

-- ## Changes

pub clients_same : {S : Type 0} (sessions : List (Live S)) (clients : List Client) → list_all (kept_client sessions) clients ≡ true → clients ≡ filter (kept_client sessions) clients
clients_same sessions clients all = sym (filter_all (kept_client sessions) clients all)

pub servers_same : {S : Type 0} (sessions : List (Live S)) (servers : List Server) → list_all (kept_server sessions) servers ≡ true → servers ≡ filter (kept_server sessions) servers
servers_same sessions servers all = sym (filter_all (kept_server sessions) servers all)

pub client_gone : {S : Type 0} (sessions : List (Live S)) (client : Client) (olds news : List Client) → list_all (kept_client sessions) olds ≡ true → kept_client sessions client ≡ false → news ≡ remove_first (is_same_client client) olds
    → news ≡ filter (kept_client sessions) (change_first (is_same_client client) (λ _. client) olds)
client_gone sessions client olds news all bad is = is ∙ sym (kept_without (kept_client sessions) (is_same_client client) client olds all bad)

pub client_kept : {S : Type 0} (sessions : List (Live S)) (client : Client) (olds news : List Client) → list_all (kept_client sessions) olds ≡ true → kept_client sessions client ≡ true → news ≡ change_first (is_same_client client) (λ _. client) olds
    → news ≡ filter (kept_client sessions) (change_first (is_same_client client) (λ _. client) olds)
client_kept sessions client olds news all good is =
    is ∙ sym (filter_all (kept_client sessions) (change_first (is_same_client client) (λ _. client) olds) (all_changed (kept_client sessions) (is_same_client client) client olds all good))

pub server_gone : {S : Type 0} (sessions : List (Live S)) (server : Server) (olds news : List Server) → list_all (kept_server sessions) olds ≡ true → kept_server sessions server ≡ false → news ≡ remove_first (is_server server.event) olds
    → news ≡ filter (kept_server sessions) (change_first (is_server server.event) (λ _. server) olds)
server_gone sessions server olds news all bad is = is ∙ sym (kept_without (kept_server sessions) (is_server server.event) server olds all bad)

pub server_kept : {S : Type 0} (sessions : List (Live S)) (server : Server) (olds news : List Server) → list_all (kept_server sessions) olds ≡ true → kept_server sessions server ≡ true → news ≡ change_first (is_server server.event) (λ _. server) olds
    → news ≡ filter (kept_server sessions) (change_first (is_server server.event) (λ _. server) olds)
server_kept sessions server olds news all good is =
    is ∙ sym (filter_all (kept_server sessions) (change_first (is_server server.event) (λ _. server) olds) (all_changed (kept_server sessions) (is_server server.event) server olds all good))

pub left_clients : {S : Type 0} (serial : ℕ) (sessions : List (Live S)) (olds news : List Client) → list_all (λ client. (client.app.serial == serial) || kept_client sessions client) olds ≡ true
    → news ≡ filter (λ client. not (client.app.serial == serial) || kept_client sessions client) olds → news ≡ filter (kept_client sessions) olds
left_clients serial sessions olds news all is = is ∙ sym (kept_outside (λ client. client.app.serial == serial) (kept_client sessions) olds all)

pub left_servers : {S : Type 0} (serial : ℕ) (sessions : List (Live S)) (olds news : List Server) → list_all (λ server. (server.app.serial == serial) || kept_server sessions server) olds ≡ true
    → news ≡ filter (λ server. not (server.app.serial == serial) || kept_server sessions server) olds → news ≡ filter (kept_server sessions) olds
left_servers serial sessions olds news all is = is ∙ sym (kept_outside (λ server. server.app.serial == serial) (kept_server sessions) olds all)

-- both lists hold what is kept
pub tidied_is : {S : Type 0} (host : Host S) (clients : List Client) (servers : List Server) → clients ≡ filter (kept_client host.sessions) host.clients → servers ≡ filter (kept_server host.sessions) host.servers
    → record host { clients = clients; servers = servers } ≡ without_ended host
unfolding without_ended is_kept_client is_kept_server lives_here
tidied_is host clients servers one two =
    ap (λ l. record host { clients = l; servers = servers }) one ∙ ap (λ l. record host { clients = filter (kept_client host.sessions) host.clients; servers = l }) two

-- ## All are kept

pub none_kept : {S : Type 0} (sessions : List (Live S)) (clients : List Client) (servers : List Server) → clients ≡ [] → servers ≡ [] → AllKept sessions clients servers
none_kept sessions clients servers one two = (ap (list_all (kept_client sessions)) one, ap (list_all (kept_server sessions)) two)

pub clients_filtered : {S : Type 0} (sessions : List (Live S)) (olds news : List Client) → news ≡ filter (kept_client sessions) olds → list_all (kept_client sessions) news ≡ true
clients_filtered sessions olds news is = ap (list_all (kept_client sessions)) is ∙ all_filter (kept_client sessions) olds

pub servers_filtered : {S : Type 0} (sessions : List (Live S)) (olds news : List Server) → news ≡ filter (kept_server sessions) olds → list_all (kept_server sessions) news ≡ true
servers_filtered sessions olds news is = ap (list_all (kept_server sessions)) is ∙ all_filter (kept_server sessions) olds

or_more : (a b c : Bool) → (b ≡ true → c ≡ true) → (a || b) ≡ true → (a || c) ≡ true
or_more true b c f e = refl
or_more false b c f e = f e

and_more : (a b c : Bool) → (b ≡ true → c ≡ true) → (a && b) ≡ true → (a && c) ≡ true
and_more true b c f e = f e
and_more false b c f e = e

-- where more sessions live, more is kept
clients_more : {S : Type 0} (olds news : List (Live S)) (clients : List Client) → ((serial : ℕ) → lives_among serial olds ≡ true → lives_among serial news ≡ true) → list_all (kept_client olds) clients ≡ true → list_all (kept_client news) clients ≡ true
clients_more olds news clients more all =
    all_weaker (kept_client olds) (kept_client news) (λ x. or_more (not (is_over (state_of_client x))) _ _ (and_more (is_invite_client x) _ _ (more x.app.serial))) clients all

servers_more : {S : Type 0} (olds news : List (Live S)) (servers : List Server) → ((serial : ℕ) → lives_among serial olds ≡ true → lives_among serial news ≡ true) → list_all (kept_server olds) servers ≡ true → list_all (kept_server news) servers ≡ true
servers_more olds news servers more all =
    all_weaker (kept_server olds) (kept_server news) (λ x. or_more (not (is_over (state_of_server x))) _ _ (and_more (is_invite_server x) _ _ (more x.app.serial))) servers all

lives_begun : {S : Type 0} (live : Live S) (olds news : List (Live S)) → news ≡ olds ++ live ∷ [] → (serial : ℕ) → lives_among serial olds ≡ true → lives_among serial news ≡ true
lives_begun live olds news is serial lives = ap (lives_among serial) is ∙ any_pushed (is_live serial) live olds lives

lives_set : {S : Type 0} (live : Live S) (olds news : List (Live S)) → news ≡ change_first (is_live live.serial) (λ _. live) olds → (serial : ℕ) → lives_among serial olds ≡ true → lives_among serial news ≡ true
lives_set live olds news is serial lives = ap (lives_among serial) is ∙ lives_changed serial live olds ∙ lives

pub begun_clients : {S : Type 0} (live : Live S) (olds news : List (Live S)) (clients : List Client) → list_all (kept_client olds) clients ≡ true → news ≡ olds ++ live ∷ [] → list_all (kept_client news) clients ≡ true
begun_clients live olds news clients all is = clients_more olds news clients (lives_begun live olds news is) all

pub begun_servers : {S : Type 0} (live : Live S) (olds news : List (Live S)) (servers : List Server) → list_all (kept_server olds) servers ≡ true → news ≡ olds ++ live ∷ [] → list_all (kept_server news) servers ≡ true
begun_servers live olds news servers all is = servers_more olds news servers (lives_begun live olds news is) all

pub changed_clients : {S : Type 0} (serial : ℕ) (live : Live S) (olds news : List (Live S)) (clients : List Client) → list_all (kept_client olds) clients ≡ true → news ≡ change_first (is_live serial) (λ _. live) olds → serial ≡ live.serial → list_all (kept_client news) clients ≡ true
changed_clients serial live olds news clients all is own = clients_more olds news clients (lives_set live olds news (is ∙ ap (λ n. change_first (is_live n) (λ _. live) olds) own)) all

pub changed_servers : {S : Type 0} (serial : ℕ) (live : Live S) (olds news : List (Live S)) (servers : List Server) → list_all (kept_server olds) servers ≡ true → news ≡ change_first (is_live serial) (λ _. live) olds → serial ≡ live.serial → list_all (kept_server news) servers ≡ true
changed_servers serial live olds news servers all is own = servers_more olds news servers (lives_set live olds news (is ∙ ap (λ n. change_first (is_live n) (λ _. live) olds) own)) all

-- where a session is gone, what isn't its own is kept
own_or : (a k n : Bool) → (a ≡ false → k ≡ true → n ≡ true) → k ≡ true → (a || n) ≡ true
own_or true k n f e = refl
own_or false k n f e = f refl e

pub clients_beside : {S : Type 0} (serial : ℕ) (olds news : List (Live S)) (clients : List Client) → list_all (kept_client olds) clients ≡ true → news ≡ remove_first (is_live serial) olds
    → list_all (λ client. (client.app.serial == serial) || kept_client news client) clients ≡ true
clients_beside serial olds news clients all is =
    all_weaker (kept_client olds) (λ client. (client.app.serial == serial) || kept_client news client)
    (λ x. own_or (x.app.serial == serial) (kept_client olds x) (kept_client news x)
    (λ other. or_more (not (is_over (state_of_client x))) _ _ (and_more (is_invite_client x) _ _ (λ lives. ap (lives_among x.app.serial) is ∙ lives_left x.app.serial serial olds other ∙ lives))))
    clients all

pub servers_beside : {S : Type 0} (serial : ℕ) (olds news : List (Live S)) (servers : List Server) → list_all (kept_server olds) servers ≡ true → news ≡ remove_first (is_live serial) olds
    → list_all (λ server. (server.app.serial == serial) || kept_server news server) servers ≡ true
servers_beside serial olds news servers all is =
    all_weaker (kept_server olds) (λ server. (server.app.serial == serial) || kept_server news server)
    (λ x. own_or (x.app.serial == serial) (kept_server olds x) (kept_server news x)
    (λ other. or_more (not (is_over (state_of_server x))) _ _ (and_more (is_invite_server x) _ _ (λ lives. ap (lives_among x.app.serial) is ∙ lives_left x.app.serial serial olds other ∙ lives))))
    servers all

pub client_pushed : {S : Type 0} (sessions : List (Live S)) (client : Client) (olds news : List Client) → list_all (kept_client sessions) olds ≡ true → kept_client sessions client ≡ true → news ≡ olds ++ client ∷ [] → list_all (kept_client sessions) news ≡ true
client_pushed sessions client olds news all good is = ap (list_all (kept_client sessions)) is ∙ all_pushed (kept_client sessions) client olds all good

pub server_pushed : {S : Type 0} (sessions : List (Live S)) (server : Server) (olds news : List Server) → list_all (kept_server sessions) olds ≡ true → kept_server sessions server ≡ true → news ≡ olds ++ server ∷ [] → list_all (kept_server sessions) news ≡ true
server_pushed sessions server olds news all good is = ap (list_all (kept_server sessions)) is ∙ all_pushed (kept_server sessions) server olds all good

pub server_changed : {S : Type 0} (event : ℕ) (sessions : List (Live S)) (server : Server) (olds news : List Server) → list_all (kept_server sessions) olds ≡ true → kept_server sessions server ≡ true
    → news ≡ change_first (is_server event) (λ _. server) olds → list_all (kept_server sessions) news ≡ true
server_changed event sessions server olds news all good is = ap (list_all (kept_server sessions)) is ∙ all_changed (kept_server sessions) (is_server event) server olds all good
