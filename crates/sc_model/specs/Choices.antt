-- Where an initial request goes: the choice of the Default Application Router (JSR 289 appendix C),
-- with the routes of its tuples (JSR 289 section 15.6).
use Rattle.std.specs.Prelude.{ℕ, Bool, true, false, ◌+◌, ◌==◌, Option, Some, None, List, [], ◌∷◌, length, take, slice_get, if◌then◌else◌}
use Rattle.std.specs.List.{position}
use Rattle.std.specs.Option.{option_map_or}
use Rattle.sc_value.specs.declared.ids.Region.{Region}
use Rattle.sc_value.specs.declared.ids.Region.TheVariants.{Originating, Terminating, Neutral}
use Rattle.sc_value.specs.declared.message.Request.{Request}
use Rattle.sc_value.specs.declared.parts.Address.{Address}
use Rattle.sc_value.specs.declared.parts.Uri.TheVariants.{Sip}
use Rattle.sc_terms.specs.declared.settings.Config.{Config}
use Rattle.sc_terms.specs.declared.settings.Dar.{Dar}
use Rattle.sc_terms.specs.declared.settings.Modifier.{Modifier}
use Rattle.sc_terms.specs.declared.settings.Modifier.TheVariants.{Route, RouteBack}
use Rattle.sc_terms.specs.declared.settings.Tuple.{Tuple}
use Rattle.sc_parts.specs.declared.choice.Choice.{Choice}
use Rattle.sc_parts.specs.declared.choice.Choice.TheVariants.{App, Send, Onward, NotFound}
use Rattle.sc_value.specs.declared.ids.Directive.{Directive}
use Rattle.sc_value.specs.declared.ids.Directive.TheVariants.{New, Continue, Reverse}
use Rattle.sc_tokens.specs.Bytes.{Bytes}
use Rattle.sc_model.specs.Names.{return_uri}
use Rattle.sc_model.specs.OwnHosts.{is_own, is_home, listen_host}
use Rattle.sc_model.specs.Routing.{list_of, subscriber_of}

-- ## The next tuple

-- the tuples of a method, none where it has no list; a method has at most 64, so that no more count
unfoldable pub tuples_of : Bytes → Dar → List Tuple
tuples_of method dar = option_map_or (λ list. take 64 list.tuples) (list_of method dar) []

-- the region is the opposite of this one; the neutral region is its own opposite (JSR 289 section
-- 15.8)
unfoldable pub is_opposite : Region → Region → Bool
is_opposite Originating Terminating = true
is_opposite Terminating Originating = true
is_opposite Neutral Neutral = true
is_opposite region other = false

-- the order of the tuple that is next: NEW begins at the first, CONTINUE goes on at the state, and
-- REVERSE begins at the first tuple of the opposite region
unfoldable pub next_order : List Tuple → Region → Directive → Option ℕ → Option ℕ
next_order tuples region New state = Some 0
next_order tuples region Continue state = state
next_order tuples region Reverse state = position (λ tuple. is_opposite region tuple.region) tuples

-- ## What a tuple does

-- the application of a tuple, with the route that led to it
unfoldable pub app_of : Request → ℕ → Tuple → Option Address → Choice
app_of request order tuple popped =
    App tuple.app order tuple.region (subscriber_of tuple.subscriber request) popped

-- the own route by which a request comes back to the router at this order
unfoldable pub way_back : Config → ℕ → Region → Address
way_back config order region =
    record {
      display = None;
      uri = Sip (return_uri (listen_host config) config.listen.1 order region);
      params = [];
    }

-- a route that isn't own takes the request out; an own one leads to the application
unfoldable pub by_route : Config → Request → ℕ → Tuple → Address → Choice
by_route config request order tuple route =
    if is_own config route.uri then app_of request order tuple (Some route) else Send (route ∷ [])

-- by the modifier and the route
unfoldable pub choice_by_route : Config → Request → ℕ → Tuple → Modifier → Option Address → Choice
choice_by_route config request order tuple Route (Some route) =
    by_route config request order tuple route
choice_by_route config request order tuple RouteBack (Some route) =
    Send (route ∷ way_back config (order + 1) tuple.region ∷ [])
choice_by_route config request order tuple modifier route = app_of request order tuple None

-- ## The choice

-- no tuple is left: the request goes on where it has a Route or its Request-URI isn't the
-- container's
unfoldable pub choice_without_tuple : Config → Request → Choice
choice_without_tuple config request =
    if length request.head.route == 0 then (if is_home config request.uri then NotFound else Onward)
    else Onward

-- what the tuple at this order does, where there is one
unfoldable pub choice_at : Config → Request → ℕ → Option Tuple → Choice
choice_at config request order None = choice_without_tuple config request
choice_at config request order (Some tuple) =
    choice_by_route config request order tuple tuple.modifier tuple.route

-- the choice by the tuples of the method and the order of the next one; without an order the list
-- is exhausted
unfoldable pub choice_in : Config → Request → List Tuple → Option ℕ → Choice
choice_in config request tuples None = choice_without_tuple config request
choice_in config request tuples (Some order) =
    choice_at config request order (slice_get tuples order)

-- the choice for a request: its origin was of this region, and CONTINUE goes on at this state
unfoldable pub choice_of : Config → Dar → Request → Region → Directive → Option ℕ → Choice
choice_of config dar request region directive state =
    choice_in config request (tuples_of request.method dar)
    (next_order (tuples_of request.method dar) region directive state)
