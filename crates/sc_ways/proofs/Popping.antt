-- A request that is to go by a session comes by that session's URI, and goes on behind it as before.
use Rattle.std.proofs.Common.{◌≡◌, ℕ, suc, Bool, true, false, Option, None, Some, List, [], ◌∷◌, refl, sym, ap, ◌∙◌, arith}
use Rattle.std.proofs.lemmas.Bool.Decides.{nat_tests}
use Rattle.std.specs.Prelude.{cond, ◌&&◌, not, ◌==◌, length, slice_get, drop}
use Rattle.std.specs.Option.{option_map_or}
use Rattle.sc_value.specs.declared.ids.AppId.{AppId}
use Rattle.sc_value.specs.declared.message.Request.{Request}
use Rattle.sc_value.specs.declared.parts.Address.{Address}
use Rattle.sc_value.specs.declared.parts.Uri.{Uri}
use Rattle.sc_terms.specs.declared.settings.Config.{Config}
use Rattle.sc_terms.specs.declared.views.View.{View}
use Rattle.sc_model.specs.OwnHosts.{is_own}
use Rattle.sc_hosts.specs.Destinations.{next_uri}
use Rattle.sc_hosts.specs.Messages.{on_branch, passed_request}
use Rattle.sc_hosts.specs.Taking.{names, own_uri, without_own_route as unrouted}
use Rattle.sc_paths.specs.LaterRequests.{leads, leads_to}

-- what it comes by, and what is left
pub record Comes (config : Config) (epoch : ℕ) (app : AppId) (apps : List AppId) (end : Option AppId) (request : Request) : Type 0 where
  pub uri : Uri
  pub by : own_uri config request ≡ Some uri
  pub named : names epoch app uri ≡ true
  pub rest : leads config epoch apps end (unrouted config request) ≡ true

pub both-first : (a b : Bool) → (a && b) ≡ true → a ≡ true
both-first true b is = refl
both-first false b is = cc

pub both-second : (a b : Bool) → (a && b) ≡ true → b ≡ true
both-second true b is = is
both-second false b is = cc

comes-by : (config : Config) (epoch : ℕ) (app : AppId) (apps : List AppId) (end : Option AppId) (request : Request) (found : Option Address) → slice_get request.head.route 0 ≡ found
    → (option_map_or (λ route. leads_to config epoch app route.uri) found false && leads config epoch apps end (unrouted config request)) ≡ true → Comes config epoch app apps end request
unfolding leads_to own_uri
comes-by config epoch app apps end request None top is = cc
comes-by config epoch app apps end request (Some route) top is =
    let to : (is_own config route.uri && names epoch app route.uri) ≡ true = both-first _ _ is in
    let own : is_own config route.uri ≡ true = both-first _ _ to in record {
      uri = route.uri;
      by = rw (top, own) refl;
      named = both-second _ _ to;
      rest = both-second _ _ is;
    }

pub comes : (config : Config) (epoch : ℕ) (app : AppId) (apps : List AppId) (end : Option AppId) (request : Request) → leads config epoch (app ∷ apps) end request ≡ true
    → Comes config epoch app apps end request
unfolding leads
comes config epoch app apps end request is = comes-by config epoch app apps end request (slice_get request.head.route 0) refl is

-- to the session at the end it comes by its Request-URI
pub record ComesAtEnd (config : Config) (epoch : ℕ) (app : AppId) (request : Request) : Type 0 where
  pub uri : Uri
  pub by : own_uri config request ≡ Some uri
  pub named : names epoch app uri ≡ true

some-length : (n : ℕ) → (suc n == 0) ≡ false
some-length n = grind (arith, nat_tests)

not-both : (a b : Bool) → a ≡ false → (a && b) ≡ true → ⊥
not-both true b p q = cc
not-both false b p q = cc

own-alone : (config : Config) (request : Request) → request.head.route ≡ [] → is_own config request.uri ≡ true → own_uri config request ≡ Some request.uri
unfolding own_uri
own-alone config request none own = rw (none, own) refl

at-end-by : (config : Config) (epoch : ℕ) (app : AppId) (request : Request) (routes : List Address) → request.head.route ≡ routes
    → (length routes == 0 && (is_own config request.uri && names epoch app request.uri)) ≡ true → ComesAtEnd config epoch app request
at-end-by config epoch app request [] none is = record { uri = request.uri; by = own-alone config request none (both-first (is_own config request.uri) (names epoch app request.uri) is); named = both-second (is_own config request.uri) (names epoch app request.uri) is }
at-end-by config epoch app request (route ∷ routes) none is = absurd (not-both _ _ (some-length (length routes)) is)

pub comes-at-end : (config : Config) (epoch : ℕ) (app : AppId) (request : Request) → leads config epoch [] (Some app) request ≡ true → ComesAtEnd config epoch app request
unfolding leads leads_to
comes-at-end config epoch app request is = at-end-by config epoch app request request.head.route refl is

-- where it is to visit nobody its next URI isn't own
pub leads-out : (config : Config) (epoch : ℕ) (request : Request) → leads config epoch [] None request ≡ true → is_own config (next_uri request) ≡ true → ⊥
unfolding leads
leads-out config epoch request is own = by (is_own config (next_uri request)) is own
  where
    by : (b : Bool) → not b ≡ true → b ≡ true → ⊥
    by true p q = cc
    by false p q = cc

-- only the Routes and the Request-URI matter
unrouted-route : (config : Config) (r s : Request) → r.head.route ≡ s.head.route → (unrouted config r).head.route ≡ (unrouted config s).head.route
unfolding unrouted
unrouted-route config r s routes = by (option_map_or (λ route. is_own config route.uri) (slice_get r.head.route 0) false) (option_map_or (λ route. is_own config route.uri) (slice_get s.head.route 0) false)
    (ap (λ (routes : List Address). option_map_or (λ route. is_own config route.uri) (slice_get routes 0) false) routes)
  where
    by : (b c : Bool) → b ≡ c → (cond b (record r { head = record r.head { route = drop 1 r.head.route } }) r).head.route ≡ (cond c (record s { head = record s.head { route = drop 1 s.head.route } }) s).head.route
    by true true is = ap (drop 1) routes
    by true false is = cc
    by false true is = cc
    by false false is = routes

unrouted-uri : (config : Config) (r : Request) → (unrouted config r).uri ≡ r.uri
unfolding unrouted
unrouted-uri config r = by (option_map_or (λ route. is_own config route.uri) (slice_get r.head.route 0) false)
  where
    by : (b : Bool) → (cond b (record r { head = record r.head { route = drop 1 r.head.route } }) r).uri ≡ r.uri
    by true = refl
    by false = refl

and-same : (a b c d : Bool) → a ≡ c → b ≡ d → (a && b) ≡ (c && d)
and-same a b c d p q = rw (p, q) refl

pub leads-same : (apps : List AppId) (config : Config) (epoch : ℕ) (end : Option AppId) (r s : Request) → r.head.route ≡ s.head.route → r.uri ≡ s.uri
    → leads config epoch apps end r ≡ leads config epoch apps end s
unfolding leads next_uri
leads-same [] config epoch None r s routes uris = rw (routes, uris) refl
leads-same [] config epoch (Some app) r s routes uris = rw (routes, uris) refl
leads-same (app ∷ apps) config epoch end r s routes uris =
    and-same _ _ _ _ (ap (λ (routes : List Address). option_map_or (λ route. leads_to config epoch app route.uri) (slice_get routes 0) false) routes)
    (leads-same apps config epoch end (unrouted config r) (unrouted config s) (unrouted-route config r s routes) (unrouted-uri config r ∙ (uris ∙ sym (unrouted-uri config s))))

-- as it is passed on, with a Via more and a hop less
pub passed-leads : (config : Config) (epoch : ℕ) (view : View) (branch : ℕ) (apps : List AppId) (end : Option AppId) (request : Request)
    → leads config epoch apps end (on_branch config view branch (passed_request request)) ≡ leads config epoch apps end request
unfolding on_branch passed_request
passed-leads config epoch view branch apps end request = leads-same apps config epoch end (on_branch config view branch (passed_request request)) request refl refl
