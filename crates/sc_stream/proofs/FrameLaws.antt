-- The messages of a stream, however it is cut.
use Rattle.std.proofs.Common.{◌≡◌, ℕ, Bool, true, false, cond, List, [], ◌∷◌, ◌++◌, ◌≤◌, length, drop, refl, sym, ap, subst, ◌∙◌}
use Rattle.std.proofs.lemmas.Bool.{false≢true}
use Rattle.std.proofs.lemmas.List.{drop-append-le}
use Rattle.sc_value.specs.declared.message.Message.{Message}
use Rattle.sc_syntax.specs.declared.front.Front.TheVariants.{Whole}
use Rattle.sc_tokens.specs.Bytes.{Bytes}
use Rattle.sc_tokens.specs.Hosts.{begins}
use Rattle.sc_syntax.specs.Lines.{begins_break}
use Rattle.sc_syntax.specs.Fronts.{behind_breaks, front_of}
use Rattle.sc_stream.specs.Frames.{front_behind, is_open, len_of, Splits}
use Rattle.sc_stream.proofs.FrontLaws.{front_stays, front_within, front_none, front_one}

-- ## Line ends that are skipped

-- only two bytes count
pub break_alike : (b c : ℕ) (x y : Bytes) → begins_break (b ∷ c ∷ x) ≡ begins_break (b ∷ c ∷ y)
unfolding begins_break begins
break_alike b c x y = refl

skip_stays : (text more : Bytes) → is_open (front_behind text) ≡ false → behind_breaks (text ++ more) ≡ behind_breaks text ++ more
unfolding behind_breaks
skip_stays [] more h = absurd (false≢true (sym h ∙ front_none))
skip_stays (b ∷ []) more h = absurd (false≢true (sym h ∙ front_one b))
skip_stays (b ∷ c ∷ bs) more h =
    ap (λ t. cond t (behind_breaks (bs ++ more)) (b ∷ c ∷ (bs ++ more))) (break_alike b c (bs ++ more) bs)
    ∙ (elim (begins_break (b ∷ c ∷ bs)) as (λ (t : Bool). is_open (front_of (cond t (behind_breaks bs) (b ∷ c ∷ bs))) ≡ false → cond t (behind_breaks (bs ++ more)) (b ∷ c ∷ (bs ++ more)) ≡ cond t (behind_breaks bs) (b ∷ c ∷ bs) ++ more) [
      | true ↦ skip_stays bs more
      | false ↦ λ _. refl
    ]) h

-- once the front is more than open it stays
pub behind_stays : (text more : Bytes) → is_open (front_behind text) ≡ false → front_behind (text ++ more) ≡ front_behind text
behind_stays text more h = ap front_of (skip_stays text more h) ∙ front_stays (behind_breaks text) more h

pub skip_on : (text more : Bytes) → behind_breaks (text ++ more) ≡ behind_breaks (behind_breaks text ++ more)
unfolding behind_breaks
skip_on [] more = refl
skip_on (b ∷ []) more = refl
skip_on (b ∷ c ∷ bs) more =
    (elim (begins_break (b ∷ c ∷ bs)) as (λ (t : Bool). begins_break (b ∷ c ∷ bs) ≡ t → behind_breaks (b ∷ c ∷ (bs ++ more)) ≡ behind_breaks (cond t (behind_breaks bs) (b ∷ c ∷ bs) ++ more)) [
      | true ↦ λ e. ap (λ t. cond t (behind_breaks (bs ++ more)) (b ∷ c ∷ (bs ++ more))) (break_alike b c (bs ++ more) bs ∙ e) ∙ skip_on bs more
      | false ↦ λ _. refl
    ]) refl

-- ## Messages and the rest

is_whole : (text : Bytes) (len : ℕ) (message : Message) → front_behind text ≡ Whole len message → is_open (front_behind text) ≡ false
is_whole text len message h = ap is_open h

within : (text : Bytes) (len : ℕ) (message : Message) → front_behind text ≡ Whole len message → len ≤ length (behind_breaks text)
within text len message h = subst (λ n. n ≤ length (behind_breaks text)) (ap len_of h) (front_within (behind_breaks text))

-- more bytes go behind the rest
pub splits_fed : (given : List Message) (fed rest more : Bytes) → Splits given fed rest → Splits given (fed ++ more) (rest ++ more)
unfolding Splits
splits_fed [] fed rest more h = ap (λ t. t ++ more) h
splits_fed (message ∷ given) fed rest more (len, front, others) = (
  len,
  behind_stays fed more (is_whole fed len message front) ∙ front,
  subst (λ t. Splits given t (rest ++ more)) (sym (ap (drop len) (skip_stays fed more (is_whole fed len message front)) ∙ drop-append-le len (behind_breaks fed) more (within fed len message front)))
      (splits_fed given (drop len (behind_breaks fed)) rest more others),
)

-- a message goes behind those that were given
pub splits_given : (given : List Message) (fed rest : Bytes) (len : ℕ) (message : Message) → front_behind rest ≡ Whole len message → Splits given fed rest → Splits (given ++ message ∷ []) fed (drop len (behind_breaks rest))
unfolding Splits
splits_given [] fed rest len message h same = (len, sym (ap front_behind same) ∙ h, ap (λ t. drop len (behind_breaks t)) same)
splits_given (first ∷ given) fed rest len message h (n, front, others) = (n, front, splits_given given (drop n (behind_breaks fed)) rest len message h others)
