-- The target that a Contact gives, and whether a text was tried (RFC 3261 section 16.5).
use Rattle.std.specs.Prelude.{List, [], ◌∷◌, ◌++◌, Bool, Option, option_and_then, option_to_list, if◌then◌else◌}
use Rattle.sc_value.specs.declared.parts.Contact.{Contact}
use Rattle.sc_value.specs.declared.parts.Uri.{Uri}
use Rattle.sc_tokens.specs.Names.{same_bytes}
use Rattle.sc_tokens.specs.Bytes.{Bytes}
use Rattle.sc_grammar.specs.Written.{uri_text}
use Rattle.sc_model.specs.Dialogs.{contact_uri}
use Rattle.sc_hosts.specs.Branches.{sip_uri}

-- its `sip:` URI
unfoldable pub target_of : Contact → Option Uri
target_of contact = option_and_then sip_uri (contact_uri contact)

-- the URI has this text
unfoldable pub has_text : Bytes → Uri → Bool
has_text text uri = same_bytes (uri_text uri) text

-- as a list
unfoldable pub targets_of : Contact → List Uri
targets_of contact = option_to_list (target_of contact)

-- a URI more, unless it was there
unfoldable pub with_new : Bool → Uri → List Uri → List Uri
with_new known uri uris = if known then uris else uris ++ uri ∷ []
