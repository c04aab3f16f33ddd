-- The first Via of what an answer takes has its branch.
use Rattle.std.proofs.Common.{◌≡◌, ℕ, Bool, false, cond, not, Option, Some, None, List, [], ◌∷◌, ◌==◌, ◌<◌, length, refl, sym, ap, subst, ◌∙◌, arith}
use Rattle.std.specs.Prelude.{IfSome}
use Rattle.std.specs.List.{flat_map}
use Rattle.std.proofs.lemmas.Bool.Decides.{nat_tests}
use Rattle.std.specs.Option.{option_map_or, option_and_then, option_zip}
use Rattle.sc_value.specs.AnswerableValues.{BeginsWithBranch}
use Rattle.sc_value.specs.Params.{param_value, branch_name}
use Rattle.sc_value.specs.declared.parts.Address.{Address}
use Rattle.sc_value.specs.declared.parts.CSeq.{CSeq}
use Rattle.sc_value.specs.declared.parts.Field.{Field}
use Rattle.sc_value.specs.declared.parts.Via.{Via}
use Rattle.sc_tokens.specs.Bytes.{Bytes}
use Rattle.sc_syntax.specs.Fronts.{vias_in, with_branch}
use Rattle.sc_syntax.specs.Judging.{has_branch}

some_bytes : (b : ℕ) (bs : Bytes) → (length (b ∷ bs) == 0) ≡ false
some_bytes b bs = grind (arith, nat_tests)

some_length : (b : ℕ) (bs : Bytes) → 0 < length (b ∷ bs)
some_length b bs = omega arith

branch_there : (via : Via) (more : List Via) (branch : Option Bytes) → param_value branch_name via.params ≡ branch
    → IfSome (cond (option_map_or (λ (b : Bytes). not (length b == 0)) branch false) (Some (via ∷ more)) None) BeginsWithBranch
unfolding BeginsWithBranch
branch_there via more None is = tt
branch_there via more (Some []) is = tt
branch_there via more (Some (b ∷ bs)) is =
    subst (λ (t : Bool). IfSome (cond (not t) (Some (via ∷ more)) None) BeginsWithBranch) (sym (some_bytes b bs)) (b ∷ bs, is, some_length b bs)

begun : (vias : List Via) → IfSome (with_branch vias) BeginsWithBranch
unfolding with_branch has_branch
begun [] = tt
begun (via ∷ more) = branch_there via more (param_value branch_name via.params) refl

begun_of : (lists : Option (List (List Via))) → IfSome (option_and_then (λ (vs : List (List Via)). with_branch (flat_map (λ (vias : List Via). vias) vs)) lists) BeginsWithBranch
begun_of None = tt
begun_of (Some lists) = begun (flat_map (λ (vias : List Via). vias) lists)

zipped : (vias : Option (List Via)) (peers : Option (Address × Address)) (call : Option (Bytes × CSeq)) → IfSome vias BeginsWithBranch
    → IfSome (option_zip (option_zip vias peers) call) (λ parts. BeginsWithBranch parts.0.0)
zipped None peers call h = tt
zipped (Some vias) None call h = tt
zipped (Some vias) (Some peers) None h = tt
zipped (Some vias) (Some peers) (Some call) h = h

begun_in : (fields : List Field) (peers : Option (Address × Address)) (call : Option (Bytes × CSeq)) → IfSome (option_zip (option_zip (vias_in fields) peers) call) (λ parts. BeginsWithBranch parts.0.0)
unfolding vias_in
begun_in fields peers call = zipped _ peers call (begun_of _)

-- the same, of parts that were zipped one by one
pub begun_parts : (fields : List Field) (vias : Option (List Via)) (peers : Option (Address × Address)) (call : Option (Bytes × CSeq)) (pairs : Option (List Via × (Address × Address))) (parts : Option ((List Via × (Address × Address)) × (Bytes × CSeq)))
    → pairs ≡ option_zip vias peers → parts ≡ option_zip pairs call → vias ≡ vias_in fields → IfSome parts (λ parts. BeginsWithBranch parts.0.0)
begun_parts fields vias peers call pairs parts paired zip read =
    subst (λ (p : Option ((List Via × (Address × Address)) × (Bytes × CSeq))). IfSome p (λ parts. BeginsWithBranch parts.0.0)) (sym (zip ∙ ap (λ t. option_zip t call) (paired ∙ ap (λ v. option_zip v peers) read))) (begun_in fields peers call)
