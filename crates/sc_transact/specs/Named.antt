-- A number of a session. This project's own.
use Rattle.std.specs.Prelude.{ℕ, ◌==◌, Bool, ◌&&◌}
use Rattle.sc_value.specs.declared.ids.AppId.{AppId}
use Rattle.sc_hosts.specs.Transacting.{is_same_app}

-- it is this number of this session
abbrev pub is_named : AppId → ℕ → AppId × ℕ → Bool
is_named app number p = is_same_app p.0 app && p.1 == number
