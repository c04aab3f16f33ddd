-- The steps of a journal as text: a line for each, behind which stands what a line can't hold. The
-- form is this project's own.
use Rattle.std.specs.Prelude.{ℕ, List, [], ◌∷◌, ◌++◌, Option, None, Some, codes, length}
use Rattle.std.specs.List.{flat_map}
use Rattle.sc_tokens.specs.HeaderNames.{from_name, to_name, call_id_name, cseq_name}
use Rattle.sc_value.specs.AnswerableValues.{AnswerableValue}
use Rattle.sc_value.specs.declared.ids.AppId.{AppId}
use Rattle.sc_value.specs.declared.ids.Place.{Place}
use Rattle.sc_terms.specs.declared.calls.End.{End}
use Rattle.sc_terms.specs.declared.calls.End.TheVariants as ends
use Rattle.sc_terms.specs.declared.steps.Bad.{Bad}
use Rattle.sc_terms.specs.declared.steps.Step.{Step}
use Rattle.sc_terms.specs.declared.steps.Step.TheVariants as steps
use Rattle.sc_tokens.specs.Bytes.{Bytes}
use Rattle.sc_grammar.specs.Written.{address_text, cseq_text, line, text_of_message, via_line}
use Rattle.sc_model.specs.Records.{place_text}
use Rattle.sc_recording.specs.CallTexts.{calls_text, decimal_text}
use Rattle.sc_tokens.specs.Signs.{line_feed}

-- how many bytes follow, the end of the line, these bytes, and one line feed
unfoldable pub followed_by : Bytes → Bytes
followed_by text = decimal_text (length text) ++ line_feed ∷ [] ++ text ++ line_feed ∷ []

-- From, To, Call-ID and CSeq, of which an answer is made (RFC 3261 section 8.2.6.2)
unfoldable pub peers_text : AnswerableValue → Bytes
peers_text heads =
    line from_name (address_text heads.from) ++ line to_name (address_text heads.to)
    ++ line call_id_name heads.call_id ++ line cseq_name (cseq_text heads.cseq)

-- the same behind the Vias
unfoldable pub heads_text : AnswerableValue → Bytes
heads_text heads = flat_map via_line heads.via ++ peers_text heads

-- nothing where no answer can be made
unfoldable pub heads_or : Option AnswerableValue → Bytes
heads_or None = []
heads_or (Some heads) = heads_text heads

-- the application's place in the configuration, and the session's number there
unfoldable pub app_text : AppId → Bytes
app_text app = decimal_text app.host ++ decimal_text app.serial

-- how a turn ended
unfoldable pub ending_text : End → Bytes
ending_text ends.Fine = codes " fine"
ending_text ends.Fault = codes " fault"
ending_text ends.Starved = codes " starved"

-- what of a turn stands on its line: the session, the event, the moment, the end
unfoldable pub turn_text : AppId → ℕ → ℕ → End → Bytes
turn_text app event now end =
    codes "turn" ++ app_text app ++ decimal_text event ++ decimal_text now ++ ending_text end

-- where and how a text is no message
unfoldable pub bad_text : Place → Bad → Bytes
bad_text place bad =
    codes "bad " ++ place_text place ++ decimal_text bad.at ++ decimal_text bad.kind

-- a step
unfoldable pub step_text : Step → Bytes
step_text (steps.In place message) =
    codes "in " ++ place_text place ++ followed_by (text_of_message message)
step_text (steps.Bad place bad) = bad_text place bad ++ followed_by (heads_or bad.heads)
step_text (steps.Lost place) = codes "lost " ++ place_text place ++ line_feed ∷ []
step_text (steps.Tick now) = codes "tick" ++ decimal_text now ++ line_feed ∷ []
step_text (steps.Turn end app event now calls) =
    turn_text app event now end ++ followed_by (calls_text calls)
step_text (steps.Withdraw app) = codes "drop" ++ app_text app ++ line_feed ∷ []

-- steps, one after the other
unfoldable pub steps_text : List Step → Bytes
steps_text journal = flat_map step_text journal

-- the epoch of this number, which began at this moment, ends here
unfoldable pub epoch_text : ℕ → ℕ → Bytes
epoch_text number began =
    codes "epoch" ++ decimal_text number ++ decimal_text began ++ line_feed ∷ []
