-- What is gathered, at a place that is in the list.
use Rattle.std.proofs.Common.{◌≡◌, ℕ, suc, ◌+◌, ◌-◌, ◌<◌, List, [], ◌∷◌, ◌++◌, true, false, cond, Some, length, refl, sym, ap, append_assoc, append-nil, take, drop, get_or, add-one}
use Rattle.std.specs.List.{filter, flat_map, slice_get}
use Rattle.std.proofs.lemmas.Option.{slice_get_read}
use Rattle.std.proofs.lemmas.Grind.{flat_map-append}
use Rattle.std.proofs.lemmas.List.Elements.{filter_more}
use Rattle.sc_value.specs.declared.message.Response.{Response}
use Rattle.std.proofs.lemmas.List.{take_rest}
use Rattle.sc_value.specs.declared.parts.Field.{Field}
use Rattle.sc_value.specs.declared.message.Head.{Head}
use Rattle.sc_tokens.specs.Bytes.{Bytes}
use Rattle.sc_model.specs.BestResponses.{asks_credentials, is_challenge, challenges_of, challenges_beside as gathered, response_onward as forwarded, forwarded_with, forwarded_code, forwarded_reason}

read : (responses : List Response) (chosen : ℕ) (response : Response) → chosen < length responses → response ≡ get_or responses chosen response → slice_get responses chosen ≡ Some response
read responses chosen response below is = slice_get_read responses (length responses) chosen response refl below is

pub gathered_none : (responses : List Response) (chosen : ℕ) (response : Response) → chosen < length responses → response ≡ get_or responses chosen response → asks_credentials response ≡ false → gathered responses chosen ≡ []
unfolding gathered
gathered_none responses chosen response below is asks = rw (read responses chosen response below is, asks) refl

gathered_all : (responses : List Response) (chosen : ℕ) (response : Response) → chosen < length responses → response ≡ get_or responses chosen response → asks_credentials response ≡ true → gathered responses chosen ≡ flat_map challenges_of (take chosen responses) ++ flat_map challenges_of (drop (chosen + 1) responses)
unfolding gathered
gathered_all responses chosen response below is asks = rw (read responses chosen response below is, asks, add-one) (flat_map-append challenges_of (take chosen responses) (drop (suc chosen) responses))

-- the challenges before the chosen one were added, and then those after it
pub gathered_added : (responses : List Response) (chosen : ℕ) (response : Response) (before between later : List Field) → chosen < length responses → response ≡ get_or responses chosen response → asks_credentials response ≡ true → between ≡ before ++ flat_map challenges_of (take chosen responses) → later ≡ between ++ flat_map challenges_of (take (length responses - (chosen + 1)) (drop (chosen + 1) responses)) → later ≡ before ++ gathered responses chosen
gathered_added responses chosen response before between later below is asks first second = rw (second, first, take_rest, gathered_all responses chosen response below is asks) (append_assoc before (flat_map challenges_of (take chosen responses)) (flat_map challenges_of (drop (chosen + 1) responses)))

-- a response that is made of the chosen one as it is forwarded
pub forwarded_is : (responses : List Response) (chosen : ℕ) (response made : Response) → chosen < length responses → response ≡ get_or responses chosen response → made.code ≡ forwarded_code response.code → made.reason ≡ forwarded_reason response → (slice_get responses chosen ≡ Some response → made.head ≡ record response.head { others = response.head.others ++ gathered responses chosen }) → forwarded responses chosen ≡ Some made
unfolding forwarded forwarded_with
forwarded_is responses chosen response made below is code reason head = rw (read responses chosen response below is) (ap (λ r. Some r) (same (sym code) (sym reason) (sym (head (read responses chosen response below is)))))
  where
    of : ℕ → Bytes → Head → Response
    of code reason head = record { code = code; reason = reason; head = head }

    same : {a b : ℕ} {c d : Bytes} {e f : Head} → a ≡ b → c ≡ d → e ≡ f → of a c e ≡ of b d f
    same p q r = rw (p, q, r) refl

-- ## Challenges of one response

challenge_step : (others : List Field) (at : ℕ) (field : Field) → at < length others → field ≡ get_or others at field → filter is_challenge (take (at + 1) others) ≡ filter is_challenge (take at others) ++ cond (is_challenge field) (field ∷ []) []
challenge_step others at field below is = rw (← is) at (filter_more {X = Field} is_challenge others at field below)

-- a header that is a challenge was added
pub challenge_added : (others first now later : List Field) (at : ℕ) (field : Field) → at < length others → field ≡ get_or others at field → is_challenge field ≡ true → now ≡ first ++ filter is_challenge (take at others) → (slice_get others at ≡ Some field → later ≡ now ++ field ∷ []) → later ≡ first ++ filter is_challenge (take (at + 1) others)
challenge_added others first now later at field below is test before added =
    rw (added (slice_get_read others (length others) at field refl below is), before, challenge_step others at field below is, test) (append_assoc first (filter is_challenge (take at others)) (field ∷ []))

-- a header that is none was left out
pub challenge_passed : (others first now : List Field) (at : ℕ) (field : Field) → at < length others → field ≡ get_or others at field → is_challenge field ≡ false → now ≡ first ++ filter is_challenge (take at others) → now ≡ first ++ filter is_challenge (take (at + 1) others)
challenge_passed others first now at field below is test before =
    rw (challenge_step others at field below is, test, append-nil) before
