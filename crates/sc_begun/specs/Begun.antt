-- What begins an application session, and what it gives to send first (RFC 3261 section 12, JSR 289
-- section 6).
use Rattle.std.specs.Prelude.{◌≡◌, false, is_some}
use Rattle.sc_value.specs.declared.message.Request.{Request}
use Rattle.sc_model.specs.Dialogs.{tag_of}

-- the request is outside any dialog: it has no To tag (RFC 3261 section 12)
abbrev pub IsFirst : Request → Type 0
IsFirst request = is_some (tag_of request.head.to) ≡ false
