-- Values that begin with a number: CSeq (RFC 3261 section 20.16) and Max-Forwards (section 20.22).
-- That of Content-Length is `number_of`.
use Rattle.std.specs.Prelude.{ℕ, Option, None, ◌^◌, if◌then◌else◌}
use Rattle.std.specs.Option.{option_map}
use Rattle.sc_tokens.specs.Tokens.{is_token}
use Rattle.sc_value.specs.declared.parts.CSeq.{CSeq}
use Rattle.sc_tokens.specs.Bytes.{Bytes}
use Rattle.sc_tokens.specs.Numbers.{number_below}
use Rattle.sc_tokens.specs.Blanks.{behind_word, first_word, without_blanks}

-- a number below 2^31, blanks, and a method
unfoldable pub cseq_in : Bytes → Option CSeq
cseq_in text =
    if is_token (behind_word text)
    then option_map (λ number. record { number = number; method = behind_word text })
    (number_below (2 ^ 31) (first_word text))
    else None

-- the same between blanks
unfoldable pub cseq_of : Bytes → Option CSeq
cseq_of text = cseq_in (without_blanks text)

-- 0 to 255
unfoldable pub hops_of : Bytes → Option ℕ
hops_of text = number_below 256 text
