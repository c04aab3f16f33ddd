-- Which items can pass a test. This project's own.
use Rattle.std.specs.Prelude.{ℕ, Bool, true, not, ◌==◌, ◌&&◌, nat_lt}
use Rattle.sc_pages.specs.declared.outline.Outline.{Outline}
use Rattle.sc_pages.specs.declared.scope.Scope.{Scope}
use Rattle.sc_pages.specs.declared.scope.Scope.TheVariants as scopes

-- whether an item is of the scope
abbrev pub is_in : {T : Type 0} → (T → ℕ) → (T → Bool) → Scope → T → Bool
is_in number rests scopes.All item = true
is_in number rests scopes.Busy item = not (rests item)
is_in number rests (scopes.Number n) item = number item == n

-- whether a page of this outline may have an item of the scope
unfoldable pub may_have : Scope → Outline → Bool
may_have scopes.All outline = true
may_have scopes.Busy outline = not outline.rests
may_have (scopes.Number n) outline = not (nat_lt n outline.least) && not (nat_lt outline.most n)
