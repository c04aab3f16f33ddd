-- What a table of the Default Application Router keeps by its type (JSR 289 appendix C).
use Rattle.std.specs.Prelude.{◌≡◌, ◌<◌, ◌≤◌, Bool, true, false, List, [], ◌∷◌, ◌++◌, ⊤, length}
use Rattle.std.specs.List.{list_any}
use Rattle.sc_tokens.specs.Bytes.{Bytes}
use Rattle.sc_tokens.specs.Hosts.{begins}
use Rattle.sc_tokens.specs.Names.{same_bytes}
use Rattle.sc_tokens.specs.Tokens.{is_token}
use Rattle.sc_terms.specs.declared.settings.MethodList.{MethodList}
use Rattle.sc_tokens.specs.Signs.{exclamation}

-- a routing table as contracts see it: the tuples of each method, in the order of its lines
pub record DarValue : Type 0 where
  pub lists : List MethodList

-- one of the lists is of this method
unfoldable pub is_listed : List MethodList → Bytes → Bool
is_listed lists method = list_any (λ list. same_bytes list.method method) lists

-- a method is a token that begins no comment, and has 1 to 64 tuples
pub record IsMethodList (list : MethodList) : Type 0 where
  pub method : is_token list.method ≡ true
  pub said : begins exclamation list.method ≡ false
  pub some : 0 < length list.tuples
  pub few : length list.tuples ≤ 64

-- no method has a list before its own
unfoldable pub AreMethodLists : List MethodList → List MethodList → Type 0
AreMethodLists earlier [] = ⊤
AreMethodLists earlier (list ∷ more) =
    IsMethodList list × (is_listed earlier list.method ≡ false)
    × AreMethodLists (earlier ++ list ∷ []) more

-- the rule of a table's type: each method stands once, with 1 to 64 tuples
abbrev pub IsDar : DarValue → Type 0
IsDar dar = AreMethodLists [] dar.lists
