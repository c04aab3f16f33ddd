-- The reason phrases that are made are one line each.
use Rattle.std.proofs.Common.{◌≡◌, true, refl}
use Rattle.std.specs.Prelude.{codes}
use Rattle.sc_tokens.specs.Tokens.{is_one_line, is_line_break}

pub server_error_is_line : is_one_line (codes "Server Internal Error") ≡ true
unfolding is_one_line is_line_break
server_error_is_line = refl
