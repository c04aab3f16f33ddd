-- The first parameter `refresher`, from the front on.
use Rattle.std.proofs.Common.{◌≡◌, true, false, Option, None, Some, refl}
use Rattle.std.specs.List.{find}
use Rattle.sc_tokens.specs.Bytes.{Bytes}
use Rattle.sc_tokens.specs.Cuts.{before, after, pieces}
use Rattle.sc_syntax.proofs.CutLaws.{pieces_more, pieces_last}
use Rattle.sc_hosts.specs.SessionTimers.{is_refresher}

pub refresher_next : (text rest param : Bytes) → param ≡ before 59 text → after 59 text ≡ Some rest → is_refresher param ≡ false → find is_refresher (pieces 59 rest) ≡ find is_refresher (pieces 59 text)
refresher_next text rest param is e not = rw (pieces_more 59 text rest e, ← is, not) refl

pub refresher_last : (text param : Bytes) → param ≡ before 59 text → after 59 text ≡ None → is_refresher param ≡ false → find is_refresher (pieces 59 text) ≡ None
refresher_last text param is e not = rw (pieces_last 59 text e, ← is, not) refl

found_by : (text param : Bytes) (rest : Option Bytes) → after 59 text ≡ rest → param ≡ before 59 text → is_refresher param ≡ true → find is_refresher (pieces 59 text) ≡ Some param
found_by text param None e is passes = rw (pieces_last 59 text e, ← is, passes) refl
found_by text param (Some rest) e is passes = rw (pieces_more 59 text rest e, ← is, passes) refl

pub refresher_found : (text param : Bytes) → param ≡ before 59 text → is_refresher param ≡ true → find is_refresher (pieces 59 text) ≡ Some param
refresher_found text param is passes = found_by text param (after 59 text) refl is passes
