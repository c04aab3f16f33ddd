-- What the words of an attribute tell of the next RSeq.
use Rattle.std.proofs.Common.{◌≡◌, ℕ, Bool, true, false, Option, None, Some, List, [], ◌∷◌, Result, Ok, Err, refl, ap, sym}
use Rattle.std.specs.Prelude.{cond, codes, option_and_then, option_map}
use Rattle.std.proofs.lemmas.Bool.{false≢true}
use Rattle.sc_tokens.specs.Cuts.{pieces}
use Rattle.sc_tokens.specs.Names.{same_bytes}
use Rattle.sc_tokens.specs.Bytes.{Bytes}
use Rattle.sc_syntax.proofs.CutLaws.{none_some, some_same}
use Rattle.sc_hosts.specs.HelperParts.{strict_number}
use Rattle.sc_hosts.specs.Offers.{Offer, offer_in}
use Rattle.sc_helpers.specs.Parts.{is_three}
use Rattle.sc_promised.specs.Reliable.{remembered_four, remembered_in}
use Rattle.sc_offers.specs.Offering.{next_rseq}
use Rattle.sc_offers.specs.declared.refused.OfferRefused.{OfferRefused}
use Rattle.sc_offers.specs.declared.refused.OfferRefused.TheVariants as refused

abbrev waits : ℕ → ℕ → ℕ → Offer
waits r c t = record { letter = 80; rseq = r; cseq = c; timer = t }

abbrev refuses : Offer → Result ℕ OfferRefused
refuses offer = Err (refused.Pending offer.rseq)

abbrev read : Bool → Option ℕ → Option ℕ → Option ℕ → Option Offer
read p r c t = cond p (option_and_then (λ rseq. option_and_then (λ cseq. option_map {T = ℕ} {U = Offer} (λ timer. record { letter = 80; rseq = rseq; cseq = cseq; timer = timer }) t) c) r) None

four_waits : (letter : Bytes) (p : Bool) (r c t : Option ℕ) (offer : Offer) → same_bytes letter (codes "P") ≡ p → read p r c t ≡ Some offer
    → next_rseq (remembered_four letter r c t) ≡ Err (refused.Pending offer.rseq)
unfolding next_rseq remembered_four
four_waits letter true (Some r) (Some c) (Some t) offer is e = rw is (ap refuses (some_same (waits r c t) offer e))
four_waits letter true (Some r) (Some c) None offer is e = absurd (none_some offer e)
four_waits letter true (Some r) None t offer is e = absurd (none_some offer e)
four_waits letter true None c t offer is e = absurd (none_some offer e)
four_waits letter false r c t offer is e = absurd (none_some offer e)

words_wait : (words : List Bytes) (offer : Offer) → offer_in words ≡ Some offer → next_rseq (remembered_in words) ≡ Err (refused.Pending offer.rseq)
unfolding offer_in remembered_in
words_wait (letter ∷ r ∷ c ∷ t ∷ []) offer e = four_waits letter (same_bytes letter (codes "P")) (strict_number r) (strict_number c) (strict_number t) offer refl e
words_wait [] offer e = absurd (none_some offer e)
words_wait (a ∷ []) offer e = absurd (none_some offer e)
words_wait (a ∷ b ∷ []) offer e = absurd (none_some offer e)
words_wait (a ∷ b ∷ c ∷ []) offer e = absurd (none_some offer e)
words_wait (a ∷ b ∷ c ∷ d ∷ f ∷ more) offer e = absurd (none_some offer e)

-- an offer that waits
pub waiting_rseq : (text : Bytes) (offer : Offer) → offer_in (pieces 32 text) ≡ Some offer → Err (refused.Pending offer.rseq) ≡ next_rseq (remembered_in (pieces 32 text))
waiting_rseq text offer e = sym (words_wait (pieces 32 text) offer e)

four_other : (letter : Bytes) (p : Bool) (r c t : Option ℕ) → same_bytes letter (codes "P") ≡ p → read p r c t ≡ None → next_rseq (remembered_four letter r c t) ≡ Ok 1
unfolding next_rseq remembered_four
four_other letter true (Some r) (Some c) (Some t) is e = absurd (none_some (waits r c t) (sym e))
four_other letter true (Some r) (Some c) None is e = refl
four_other letter true (Some r) None t is e = refl
four_other letter true None c t is e = refl
four_other letter false (Some r) (Some c) (Some t) is e = rw is refl
four_other letter false (Some r) (Some c) None is e = refl
four_other letter false (Some r) None t is e = refl
four_other letter false None c t is e = refl

words_other : (words : List Bytes) → offer_in words ≡ None → is_three words ≡ false → next_rseq (remembered_in words) ≡ Ok 1
unfolding offer_in remembered_in is_three next_rseq
words_other (letter ∷ r ∷ c ∷ t ∷ []) e not = four_other letter (same_bytes letter (codes "P")) (strict_number r) (strict_number c) (strict_number t) refl e
words_other [] e not = refl
words_other (a ∷ []) e not = refl
words_other (a ∷ b ∷ []) e not = refl
words_other (a ∷ b ∷ c ∷ []) e not = absurd (false≢true (sym not))
words_other (a ∷ b ∷ c ∷ d ∷ f ∷ more) e not = refl

-- words of no offer
pub other_rseq : (text : Bytes) → offer_in (pieces 32 text) ≡ None → is_three (pieces 32 text) ≡ false → Ok 1 ≡ next_rseq (remembered_in (pieces 32 text))
other_rseq text e not = sym (words_other (pieces 32 text) e not)
