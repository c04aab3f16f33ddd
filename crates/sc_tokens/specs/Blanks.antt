-- Blanks round the parts of a text (RFC 3261 section 25.1: SWS, LWS).
use Rattle.std.specs.Prelude.{take, drop, length, ◌-◌}
use Rattle.std.specs.List.{prefix_len, suffix_len, position_or_len}
use Rattle.sc_tokens.specs.Tokens.{is_blank}
use Rattle.sc_tokens.specs.Bytes.{Bytes}

-- without the blanks at the front
unfoldable pub trimmed_front : Bytes → Bytes
trimmed_front text = drop (prefix_len is_blank text) text

-- without the blanks at the back
unfoldable pub trimmed_back : Bytes → Bytes
trimmed_back text = take (length text - suffix_len is_blank text) text

-- without the blanks at both ends
unfoldable pub without_blanks : Bytes → Bytes
without_blanks text = trimmed_back (trimmed_front text)

-- what stands before the first blank
unfoldable pub first_word : Bytes → Bytes
first_word text = take (position_or_len is_blank text) text

-- what stands behind the first word, without blanks
unfoldable pub behind_word : Bytes → Bytes
behind_word text = without_blanks (drop (position_or_len is_blank text) text)
