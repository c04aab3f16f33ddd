-- What an answer takes from a request as contracts see it, and what it keeps (RFC 3261 sections
-- 8.1.1.7 and 8.2.6.2).
use Rattle.std.specs.Prelude.{◌≡◌, ◌<◌, ℕ, List, [], ◌∷◌, Some, length}
use Rattle.sc_value.specs.declared.parts.Address.{Address}
use Rattle.sc_value.specs.declared.parts.CSeq.{CSeq}
use Rattle.sc_value.specs.declared.parts.Via.{Via}
use Rattle.sc_value.specs.Params.{param_value, branch_name}

-- the headers of a request from which its answer is made
pub record AnswerableValue : Type 0 where
  pub via : List Via
  pub from : Address
  pub to : Address
  pub call_id : List ℕ
  pub cseq : CSeq

-- the Via names the transaction: it has a branch, which isn't empty
abbrev pub HasBranch : Via → Type 0
HasBranch via =
    (branch : List ℕ) × (param_value branch_name via.params ≡ Some branch) × (0 < length branch)

-- there is a first Via, and it has its branch
unfoldable pub BeginsWithBranch : List Via → Type 0
BeginsWithBranch [] = ⊥
BeginsWithBranch (via ∷ more) = HasBranch via

-- the first Via has its branch, so that the answer finds its transaction
abbrev pub IsAnswerable : AnswerableValue → Type 0
IsAnswerable heads = BeginsWithBranch heads.via
