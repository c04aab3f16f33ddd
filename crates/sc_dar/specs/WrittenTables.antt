-- A routing table as text: a line a method, its tuples with `, ` between them (JSR 289 appendix C).
use Rattle.std.specs.Prelude.{ℕ, List, [], ◌∷◌, ◌++◌, ◌+◌, ◌==◌, if◌then◌else◌, Option, Some, None, codes, decimal, slice_get, unwrap_or}
use Rattle.std.specs.List.{flat_map}
use Rattle.sc_value.specs.declared.ids.Region.{Region}
use Rattle.sc_value.specs.declared.ids.Region.TheVariants.{Originating, Terminating, Neutral}
use Rattle.sc_value.specs.declared.parts.Address.{Address}
use Rattle.sc_terms.specs.declared.settings.Dar.{Dar}
use Rattle.sc_terms.specs.declared.settings.MethodList.{MethodList}
use Rattle.sc_terms.specs.declared.settings.Modifier.{Modifier}
use Rattle.sc_terms.specs.declared.settings.Modifier.TheVariants.{Route, RouteBack, NoRoute}
use Rattle.sc_terms.specs.declared.settings.Tuple.{Tuple}
use Rattle.sc_grammar.specs.Written.{uri_text}
use Rattle.sc_tokens.specs.Bytes.{Bytes}
use Rattle.sc_tokens.specs.Signs.{line_feed}

-- the name of a region
unfoldable pub region_text : Region → Bytes
region_text Originating = codes "ORIGINATING"
region_text Terminating = codes "TERMINATING"
region_text Neutral = codes "NEUTRAL"

-- the name of a modifier
unfoldable pub modifier_text : Modifier → Bytes
modifier_text Route = codes "ROUTE"
modifier_text RouteBack = codes "ROUTE_BACK"
modifier_text NoRoute = codes "NO_ROUTE"

-- the URI, bare
unfoldable pub route_text : Option Address → Bytes
route_text None = []
route_text (Some address) = uri_text address.uri

-- between two texts in quotes
unfoldable pub between : Bytes
between = codes "\", \""

-- the name of the application at this place
unfoldable pub app_text : List Bytes → ℕ → Bytes
app_text apps app = unwrap_or (slice_get apps app) []

-- the first three of the six texts
unfoldable pub tuple_front : List Bytes → Tuple → Bytes
tuple_front apps tuple =
    app_text apps tuple.app ++ between ++ tuple.subscriber ++ between ++ region_text tuple.region

-- the last three of them
unfoldable pub tuple_back : ℕ → Tuple → Bytes
tuple_back order tuple =
    route_text tuple.route ++ between ++ modifier_text tuple.modifier ++ between ++ decimal order

-- `("app", "subscriber", "region", "route", "modifier", "order")`
unfoldable pub tuple_text : List Bytes → ℕ → Tuple → Bytes
tuple_text apps order tuple =
    codes "(\"" ++ tuple_front apps tuple ++ between ++ tuple_back order tuple ++ codes "\")"

-- what stands before a tuple: a comma, but for the first
unfoldable pub lead : ℕ → Bytes
lead order = if order == 0 then [] else codes ", "

-- the tuples from this order on
unfoldable pub tuples_text : List Bytes → ℕ → List Tuple → Bytes
tuples_text apps order [] = []
tuples_text apps order (tuple ∷ more) =
    lead order ++ tuple_text apps order tuple ++ tuples_text apps (1 + order) more

-- `METHOD: tuples` and LF
unfoldable pub list_text : List Bytes → MethodList → Bytes
list_text apps list =
    list.method ++ codes ": " ++ tuples_text apps 0 list.tuples ++ line_feed ∷ []

-- the whole table as text
unfoldable pub dar_text : Dar → List Bytes → Bytes
dar_text dar apps = flat_map (list_text apps) dar.lists
