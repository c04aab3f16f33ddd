-- Values and their parts.
use Rattle.std.proofs.Common.{sym, Option, Ok, Err, ◌≡◌, Some, Result, List, ◌∷◌, ap, ◌∙◌}
use Rattle.std.specs.Option.{option_and_then}
use Rattle.std.specs.Result.{result_ok}
use Rattle.sc_value.specs.declared.parts.Param.{Param}
use Rattle.sc_uri_text.specs.declared.refused.UriRefused.{UriRefused}
use Rattle.sc_uri_text.specs.declared.refused.UriRefused.TheVariants.{Refused, NoMemory}
use Rattle.sc_uri_text.specs.Answers.{IsFault}
use Rattle.sc_tokens.specs.Bytes.{Bytes}
use Rattle.sc_syntax.specs.UriParts.{Fault}
use Rattle.sc_syntax.specs.Scanning.{address_parts, via_parts}
use Rattle.sc_syntax.specs.Parameters.{params_of}
use Rattle.sc_syntax.specs.Vias.{via_with, via_in, via_of}
use Rattle.sc_syntax.specs.Addresses.{address_with, address_in, address_of}
use Rattle.sc_syntax.proofs.CutLaws.{some_same, none_some}
use Rattle.sc_head_text.specs.declared.unread.Unread.{Unread}
use Rattle.sc_head_text.specs.declared.unread.Unread.TheVariants as answers
use Rattle.sc_head_text.specs.Answers.{Fails, Gives, GivesSpelled, unread_of}

via_cut : (text first : Bytes) (rest : List Bytes) → via_parts text ≡ first ∷ rest → via_of text ≡ option_and_then (via_with first) (params_of rest)
unfolding via_of via_in
via_cut text first rest is = ap via_in is

pub via_read : (text first : Bytes) (rest : List Bytes) (params : List Param) → via_parts text ≡ first ∷ rest → params_of rest ≡ Some params → via_of text ≡ via_with first params
via_read text first rest params is h = via_cut text first rest is ∙ ap (option_and_then (via_with first)) h

pub via_unread : (text first : Bytes) (rest : List Bytes) (unread : Unread) → via_parts text ≡ first ∷ rest → Fails unread (params_of rest) → Fails unread (via_of text)
via_unread text first rest answers.Fault is h = via_cut text first rest is ∙ ap (option_and_then (via_with first)) h
via_unread text first rest answers.NoMemory is h = tt

address_cut : (text first : Bytes) (rest : List Bytes) → address_parts text ≡ first ∷ rest → address_of text ≡ option_and_then (address_with first) (params_of rest)
unfolding address_of address_in
address_cut text first rest is = ap address_in is

pub address_read : (text first : Bytes) (rest : List Bytes) (params : List Param) → address_parts text ≡ first ∷ rest → params_of rest ≡ Some params → address_of text ≡ address_with first params
address_read text first rest params is h = address_cut text first rest is ∙ ap (option_and_then (address_with first)) h

pub address_unread : (text first : Bytes) (rest : List Bytes) (unread : Unread) → address_parts text ≡ first ∷ rest → Fails unread (params_of rest) → Fails unread (address_of text)
address_unread text first rest answers.Fault is h = address_cut text first rest is ∙ ap (option_and_then (address_with first)) h
address_unread text first rest answers.NoMemory is h = tt

-- a refused URI leaves its value unread
pub unread_uri : {Y : Type 0} (refused : UriRefused) (read : Result Y Fault) → IsFault refused read → Fails (unread_of refused) (result_ok read)
unread_uri (Refused at kind) read h = ap result_ok h
unread_uri NoMemory read h = tt

-- where a reading function and what is spelled agree, what is given is what is spelled
pub given_is_spelled : {X : Type 0} (result : Result X Unread) (read : Option X) (Spelled : X → Type 0) → Gives result read → ((x : X) → read ≡ Some x → Spelled x) → ((x : X) → Spelled x → read ≡ Some x) → GivesSpelled result Spelled
given_is_spelled (Ok x) read Spelled h to from = (to x h, λ other spelled. some_same other x (sym (from other spelled) ∙ h))
given_is_spelled (Err answers.Fault) read Spelled h to from = λ x spelled. none_some x (sym h ∙ from x spelled)
given_is_spelled (Err answers.NoMemory) read Spelled h to from = tt
