-- The Vias that an answer needs of the fields of a head (RFC 3261 sections 8.2.6.2 and 17.2.3).
use Rattle.std.specs.Prelude.{◌≡◌, List, [], ◌++◌, Option, Some, Result, Ok, Err, if◌then◌else◌}
use Rattle.std.specs.List.{flat_map}
use Rattle.std.specs.Option.{option_map}
use Rattle.sc_tokens.specs.HeaderNames.{via_name}
use Rattle.sc_tokens.specs.Names.{same_name}
use Rattle.sc_value.specs.declared.parts.Field.{Field}
use Rattle.sc_value.specs.declared.parts.Via.{Via}
use Rattle.sc_syntax.specs.Vias.{vias_of}
use Rattle.sc_syntax.specs.Scanning.{all_read}
use Rattle.sc_syntax.specs.Judging.{in_line}
use Rattle.sc_syntax.specs.Fronts.{values_of}
use Rattle.sc_head_text.specs.declared.unread.Unread.{Unread}
use Rattle.sc_head_text.specs.Answers.{Fails}

-- what stands here is what stood and the Vias that are read
abbrev pub TakesVias : {U : Type 0} → Result U Unread → List Via → List Via → Option (List Via)
    → Type 0
TakesVias (Ok done) old now read = (more : List Via) × (read ≡ Some more) × (now ≡ old ++ more)
TakesVias (Err unread) old now read = Fails unread read

-- the Vias of all fields of that name
abbrev pub all_vias : List Field → Option (List Via)
all_vias fields =
    option_map (λ lists. flat_map (λ vias. vias) lists)
    (all_read (in_line vias_of) (values_of via_name fields))

-- those of one field
unfoldable pub vias_at : Field → Option (List Via)
vias_at field = if same_name field.name via_name then in_line vias_of field.value else Some []
