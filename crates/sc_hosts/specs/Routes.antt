-- With what an initial request from outside asks the router: an own top Route is taken off, and its
-- `ar` gives the place in the list at which the router goes on and the region (JSR 289 section 15,
-- RFC 3261 section 16.4).
use Rattle.std.specs.Prelude.{ℕ, ◌^◌, List, [], ◌∷◌, Option, None, Some, option_map, option_and_then, if◌then◌else◌, drop, slice_get}
use Rattle.std.specs.Option.{option_map_or}
use Rattle.sc_value.specs.declared.ids.Directive.{Directive}
use Rattle.sc_value.specs.declared.ids.Directive.TheVariants.{New, Continue}
use Rattle.sc_value.specs.declared.ids.Region.{Region}
use Rattle.sc_value.specs.declared.ids.Region.TheVariants.{Originating, Terminating, Neutral}
use Rattle.sc_value.specs.declared.message.Request.{Request}
use Rattle.sc_value.specs.declared.parts.Address.{Address}
use Rattle.sc_value.specs.declared.parts.Uri.{Uri}
use Rattle.sc_value.specs.declared.parts.Uri.TheVariants.{Sip, Other}
use Rattle.sc_tokens.specs.Names.{same_bytes}
use Rattle.sc_value.specs.Params.{param_value}
use Rattle.sc_terms.specs.declared.settings.Config.{Config}
use Rattle.sc_tokens.specs.Bytes.{Bytes}
use Rattle.sc_tokens.specs.Cuts.{before}
use Rattle.sc_tokens.specs.Numbers.{number_below}
use Rattle.sc_model.specs.Names.{ar_name, ar_value}
use Rattle.sc_model.specs.OwnHosts.{is_own}
use Rattle.sc_tokens.specs.Signs.{hyphen}

-- how the router goes on for a request: the region, the directive, and the place in its list
pub record Position : Type 0 where
  pub region : Region
  pub directive : Directive
  pub state : Option ℕ

-- from the list's beginning, in the neutral region
abbrev pub at_beginning : Position
at_beginning = record { region = Neutral; directive = New; state = None }

-- the own top Route
unfoldable pub popped_route : Config → Request → Option Address
popped_route config request =
    option_and_then (λ route. if is_own config route.uri then Some route else None)
    (slice_get request.head.route 0)

-- the request without its top Route, where that is taken off
unfoldable pub without_top : Option Address → Request → Request
without_top None request = request
without_top (Some route) request =
    record request { head = record request.head { route = drop 1 request.head.route } }

-- the request without its own top Route
unfoldable pub unrouted_initial : Config → Request → Request
unrouted_initial config request = without_top (popped_route config request) request

-- the value of `ar` in an own URI
unfoldable pub ar_of : Uri → Option Bytes
ar_of (Sip uri) = param_value ar_name uri.params
ar_of (Other text) = None

-- the number that the text names with this region: it is written so
unfoldable pub named_number : Bytes → Region → Option ℕ
named_number text region =
    option_and_then (λ n. if same_bytes (ar_value n region) text then Some n else None)
    (number_below (2 ^ 32) (before hyphen text))

-- from this place in the list on
unfoldable pub at_number : Region → ℕ → Position
at_number region n = record { region = region; directive = Continue; state = Some n }

-- the position that an `ar` names, in one of the regions
unfoldable pub named_position : Bytes → Option Position
named_position text =
    first_some (map_position Originating ∷ map_position Terminating ∷ map_position Neutral ∷ [])
  where
    map_position : Region → Option Position
    map_position region = option_map (at_number region) (named_number text region)

    first_some : List (Option Position) → Option Position
    first_some [] = None
    first_some (None ∷ more) = first_some more
    first_some (Some position ∷ more) = Some position

-- by the Route that was taken off; where its `ar` names no place, the list's beginning
unfoldable pub position_by : Option Address → Position
position_by None = at_beginning
position_by (Some route) =
    option_map_or (λ position. position) (option_and_then named_position (ar_of route.uri))
    at_beginning

-- how the router goes on for a request from outside
unfoldable pub position_of : Config → Request → Position
position_of config request = position_by (popped_route config request)
