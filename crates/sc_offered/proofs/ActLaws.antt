-- The calls as acts of an INVITE's list, over which the laws of offers hold.
use Rattle.std.proofs.Common.{◌≡◌, ℕ, ◌+◌, Bool, true, false, if◌then◌else◌, Option, None, Some, Result, Ok, Err, refl, ap, ◌∙◌, arith}
use Rattle.std.specs.Prelude.{◌==◌, nat_le}
use Rattle.std.proofs.lemmas.Bool.Decides.{nat_tests}
use Rattle.sc_value.specs.declared.ids.ReqId.{ReqId}
use Rattle.sc_value.specs.declared.ids.TimerId.{TimerId}
use Rattle.sc_value.specs.declared.message.Request.{Request}
use Rattle.sc_terms.specs.declared.views.View.{View}
use Rattle.sc_tokens.specs.Bytes.{Bytes}
use Rattle.sc_hosts.specs.HelperParts.{lists_option}
use Rattle.sc_hosts.specs.Offers.{late_offer, rel_option}
use Rattle.sc_promised.specs.Reliable.{Remembered, Fresh, Pending, Acked, Failed, MOST_RSEQ, Late, Offers, Pracks, offer_by, offer_script, offers, remembered_at, script_of}
use Rattle.sc_offers.specs.Offering.{named_offer, next_rseq, offer_rseq, rseq_behind}
use Rattle.sc_offered.specs.Acts.{prack_act}
use Rattle.sc_offers.specs.declared.pracks.Named.{Named}
use Rattle.sc_offers.specs.declared.refused.OfferRefused.{OfferRefused}
use Rattle.sc_offers.specs.declared.refused.OfferRefused.TheVariants as refused
use Rattle.sc_offers.proofs.EarlyLaws.{answers, charter_is}

abbrev some_number : ℕ → Result ℕ OfferRefused
some_number n = Ok n

abbrev some_error : OfferRefused → Result ℕ OfferRefused
some_error refusal = Err refusal

below : (r : ℕ) → nat_le MOST_RSEQ r ≡ false → (r == MOST_RSEQ) ≡ false
below r e = grind (arith, nat_tests, e)

behind : (r n : ℕ) (most : Bool) → nat_le MOST_RSEQ r ≡ most → (if most then some_error refused.Exhausted else Ok (r + 1)) ≡ Ok n → ((r == MOST_RSEQ) ≡ false) × (r + 1 ≡ n)
behind r n true e is = cc
behind r n false e is = (below r e, same is)
  where
    same : {a b : ℕ} → some_number a ≡ some_number b → a ≡ b
    same p = cc

by_remembered : (remembered : Remembered) (req : ReqId) (c code : ℕ) (reason body : Bytes) (r : ℕ) → next_rseq remembered ≡ Ok r → offer_by remembered req c code reason body ≡ offers req r c code reason body
unfolding next_rseq offer_by rseq_behind
by_remembered Fresh req c code reason body r is = ap (λ n. offers req n c code reason body) (same is)
  where
    same : {a b : ℕ} → some_number a ≡ some_number b → a ≡ b
    same p = cc
by_remembered (Pending last d t) req c code reason body r is = cc
by_remembered (Acked last d) req c code reason body r is = let so = behind last r (nat_le MOST_RSEQ last) refl is in rw so.0 (ap (λ n. offers req n c code reason body) so.1)
by_remembered (Failed last d) req c code reason body r is = let so = behind last r (nat_le MOST_RSEQ last) refl is in rw so.0 (ap (λ n. offers req n c code reason body) so.1)

by_support : (supported : Bool) (view : View) (req : ReqId) (request : Request) (code : ℕ) (reason body : Bytes) (r : ℕ) → lists_option rel_option request ≡ supported → offer_rseq view req request ≡ Ok r
    → offer_script view req request code reason body ≡ offers req r request.head.cseq.number code reason body
unfolding offer_rseq offer_script
by_support true view req request code reason body r e is = rw e (by_remembered (remembered_at view req.0) req request.head.cseq.number code reason body r (rw e at is))
by_support false view req request code reason body r e is = absurd (never (rw e at is))
  where
    never : some_error refused.Unsupported ≡ some_number r → ⊥
    never p = cc

pub offer_acts : (view : View) (req : ReqId) (request : Request) (code : ℕ) (reason body : Bytes) (r : ℕ) → offer_rseq view req request ≡ Ok r → script_of view (Offers req request code reason body) ≡ offers req r request.head.cseq.number code reason body
unfolding script_of
offer_acts view req request code reason body r is = by_support (lists_option rel_option request) view req request code reason body r refl is

act_is : (invite req : ReqId) (named : Option Named) → answers invite req named ≡ prack_act invite req named
unfolding prack_act
act_is invite req None = refl
act_is invite req (Some named) = refl

pub prack_acts : (view : View) (invite req : ReqId) (request : Request) → script_of view (Pracks invite req request) ≡ prack_act invite req (named_offer view invite request)
unfolding script_of
prack_acts view invite req request = charter_is view invite req request ∙ act_is invite req (named_offer view invite request)

pub late_acts : (view : View) (invite : ReqId) (id : TimerId) → script_of view (Late invite id) ≡ late_offer view invite.0 id
unfolding script_of
late_acts view invite id = refl
