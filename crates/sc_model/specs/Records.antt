-- The records of a run as text. This project's own.
use Rattle.std.specs.Prelude.{ℕ, List, [], ◌∷◌, ◌++◌, decimal, codes, length, slice_index}
use Rattle.std.specs.List.{flat_map}
use Rattle.sc_value.specs.declared.ids.Place.{Place}
use Rattle.sc_value.specs.declared.ids.Place.TheVariants.{Back, To}
use Rattle.sc_value.specs.declared.message.Sent.{Sent}
use Rattle.sc_tokens.specs.Bytes.{Bytes}
use Rattle.sc_tokens.specs.Signs.{line_feed}
use Rattle.sc_grammar.specs.Written.{text_of_message}

-- `a.b.c.d`
unfoldable pub ip_text : List ℕ → Bytes
ip_text ip =
    decimal (slice_index ip 0) ++ codes "." ++ decimal (slice_index ip 1) ++ codes "."
    ++ (decimal (slice_index ip 2) ++ codes "." ++ decimal (slice_index ip 3))

-- `cN` or `a.b.c.d:port`
unfoldable pub place_text : Place → Bytes
place_text (Back number) = codes "c" ++ decimal number
place_text (To ip port) = ip_text ip ++ codes ":" ++ decimal port

-- the front of the line of a sent message
unfoldable pub out_word : Bytes
out_word = codes "out "

-- `out PLACE N`, and a line feed
unfoldable pub record_line : Place → ℕ → Bytes
record_line place size = out_word ++ place_text place ++ codes " " ++ decimal size ++ line_feed ∷ []

-- the line, the message's bytes and a line feed
unfoldable pub record_text : Sent → Bytes
record_text sent =
    record_line sent.place (length (text_of_message sent.message)) ++ text_of_message sent.message
    ++ line_feed ∷ []

-- what a run writes of all that it sent, in the order of sending
unfoldable pub records : List Sent → Bytes
records sent = flat_map record_text sent

-- the front of a run's last line
unfoldable pub end_word : Bytes
end_word = codes "end "

-- `end STEPS SENT LIVE`, and a line feed
unfoldable pub end_text : ℕ → ℕ → ℕ → Bytes
end_text steps sent live =
    end_word ++ decimal steps ++ codes " " ++ decimal sent ++ codes " "
    ++ (decimal live ++ line_feed ∷ [])
