-- A CSeq as contracts see it, and what each keeps (RFC 3261 section 20.16).
use Rattle.std.specs.Prelude.{◌≡◌, ◌<◌, ◌^◌, ℕ, List, true}
use Rattle.sc_tokens.specs.Tokens.{is_token}

-- a number and a method
pub record Sequence : Type 0 where
  pub number : ℕ
  pub method : List ℕ

-- the number is below 2^31, and the method a token
pub record IsCSeq (cseq : Sequence) : Type 0 where
  pub number : cseq.number < 2 ^ 31
  pub method : is_token cseq.method ≡ true
