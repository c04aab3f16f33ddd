-- What the Default Application Router (JSR 289 appendix C) looks up for a request: the list of its
-- method, and the subscriber that a tuple names.
use Rattle.std.specs.Prelude.{List, [], ◌∷◌, Option, option_map, unwrap_or, if◌then◌else◌, nat_eq, codes, drop}
use Rattle.std.specs.List.{find, starts_with}
use Rattle.sc_value.specs.declared.parts.Contact.{Contact}
use Rattle.sc_value.specs.declared.parts.Contact.TheVariants.{Star, At}
use Rattle.sc_value.specs.declared.parts.Field.{Field}
use Rattle.sc_value.specs.declared.message.Request.{Request}
use Rattle.sc_tokens.specs.HeaderNames.{from_name, to_name, contact_name, long_name}
use Rattle.sc_tokens.specs.Names.{same_name, same_bytes}
use Rattle.sc_terms.specs.declared.settings.Dar.{Dar}
use Rattle.sc_terms.specs.declared.settings.MethodList.{MethodList}
use Rattle.sc_tokens.specs.Bytes.{Bytes}
use Rattle.sc_grammar.specs.Written.{uri_text}

-- the front of a subscriber that is taken from a header of the request
unfoldable pub dar_prefix : Bytes
dar_prefix = codes "DAR:"

-- the name behind `DAR:` that stands for the Request-URI
unfoldable pub request_uri_name : Bytes
request_uri_name = codes "Request-URI"

-- the URI of the first Contact, an empty text where there is none
unfoldable pub first_contact_text : List Contact → Bytes
first_contact_text [] = []
first_contact_text (Star ∷ contacts) = []
first_contact_text (At address ∷ contacts) = uri_text address.uri

-- the value of the first header of this name, an empty text where there is none
unfoldable pub field_value : Bytes → List Field → Bytes
field_value name fields =
    unwrap_or (option_map (λ field. field.value) (find (λ field. same_name field.name name) fields))
    []

-- what a header says of a subscriber: the URI of From, To or Contact, the Request-URI, else the
-- value
unfoldable pub header_text : Bytes → Request → Bytes
header_text name request =
    if same_name name from_name then uri_text request.head.from.uri
    else (if same_name name to_name then uri_text request.head.to.uri
    else (if same_name name contact_name then first_contact_text request.head.contact
    else (if same_name name request_uri_name then uri_text request.uri
    else field_value name request.head.others)))

-- `DAR:Name` stands for what that header says, every other text for itself
unfoldable pub subscriber_of : Bytes → Request → Bytes
subscriber_of text request =
    if starts_with nat_eq text dar_prefix then header_text (long_name (drop 4 text)) request
    else text

-- the list of a method
unfoldable pub list_of : Bytes → Dar → Option MethodList
list_of method dar = find (λ list. same_bytes list.method method) dar.lists
