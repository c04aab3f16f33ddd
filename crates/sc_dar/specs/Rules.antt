-- What a routing table keeps, for applications of these names (JSR 289 appendix C).
use Rattle.std.specs.Prelude.{ℕ, ◌^◌, ◌≡◌, ◌<◌, ◌≤◌, false, List, [], ◌∷◌, Some, ⊤, length, get_or}
use Rattle.std.specs.List.{All}
use Rattle.sc_terms.specs.declared.settings.Dar.{Dar}
use Rattle.sc_terms.specs.declared.settings.MethodList.{MethodList}
use Rattle.sc_terms.specs.declared.settings.Tuple.{Tuple}
use Rattle.sc_tokens.specs.Bytes.{Bytes}
use Rattle.sc_tokens.specs.Cuts.{has}
use Rattle.sc_dar.specs.Tuples.{route_of}
use Rattle.sc_dar.specs.WrittenTables.{route_text}
use Rattle.sc_tokens.specs.Signs.{carriage_return, line_feed, quote as quote_sign}

-- the text can stand between quotes: no quote, CR or LF stands in it
pub record IsPlain (text : Bytes) : Type 0 where
  pub quote : has quote_sign text ≡ false
  pub cr : has carriage_return text ≡ false
  pub lf : has line_feed text ≡ false

-- the names of the applications: each can stand between quotes, and no two are the same
pub record AreNames (apps : List Bytes) : Type 0 where
  pub few : length apps ≤ 2 ^ 32
  pub plain : All IsPlain apps
  pub distinct : (i j : ℕ) → i < length apps → j < length apps → get_or apps i [] ≡ get_or apps j []
      → i ≡ j

-- the tuple names an application, and its route is one that its text is read as
pub record IsTuple (apps : List Bytes) (tuple : Tuple) : Type 0 where
  pub app : tuple.app < length apps
  pub subscriber : IsPlain tuple.subscriber
  pub route : route_of (route_text tuple.route) ≡ Some tuple.route
  pub route_plain : IsPlain (route_text tuple.route)

-- each tuple is such
unfoldable pub AreTuples : List Bytes → List Tuple → Type 0
AreTuples apps [] = ⊤
AreTuples apps (tuple ∷ more) = IsTuple apps tuple × AreTuples apps more

-- the tuples of each list
unfoldable pub AreLists : List Bytes → List MethodList → Type 0
AreLists apps [] = ⊤
AreLists apps (list ∷ more) = AreTuples apps list.tuples × AreLists apps more

-- what a table keeps beside the rules of its type
abbrev pub IsTable : List Bytes → Dar → Type 0
IsTable apps dar = AreNames apps × AreLists apps dar.lists
