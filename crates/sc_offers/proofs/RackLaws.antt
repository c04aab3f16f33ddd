-- The three words of a RAck, and that fewer or more name no offer.
use Rattle.std.proofs.Common.{◌≡◌, ◌==◌, ◌&&◌, false, Some, List, [], ◌∷◌, refl, sym}
use Rattle.std.specs.Option.{option_map_or}
use Rattle.std.proofs.lemmas.Bool.{false≢true}
use Rattle.sc_tokens.specs.Names.{same_bytes}
use Rattle.sc_tokens.specs.Bytes.{Bytes}
use Rattle.sc_tokens.specs.Numbers.{number_of}
use Rattle.sc_model.specs.SessionStates.{invite}
use Rattle.sc_hosts.specs.HelperParts.{words_of}
use Rattle.sc_hosts.specs.Offers.{Offer, names_offer}
use Rattle.sc_helpers.specs.Parts.{is_three}

pub rack_three : (offer : Offer) (value r c method : Bytes) → words_of value ≡ r ∷ c ∷ method ∷ []
    → names_offer offer (Some value) ≡ option_map_or (λ n. n == offer.rseq) (number_of r) false && option_map_or (λ n. n == offer.cseq) (number_of c) false && same_bytes method invite
unfolding names_offer
rack_three offer value r c method e = rw e refl

other_by : (offer : Offer) (value : Bytes) (words : List Bytes) → words_of value ≡ words → is_three words ≡ false → names_offer offer (Some value) ≡ false
unfolding names_offer is_three
other_by offer value [] e not = rw e refl
other_by offer value (a ∷ []) e not = rw e refl
other_by offer value (a ∷ b ∷ []) e not = rw e refl
other_by offer value (a ∷ b ∷ c ∷ []) e not = absurd (false≢true (sym not))
other_by offer value (a ∷ b ∷ c ∷ d ∷ more) e not = rw e refl

pub rack_other : (offer : Offer) (value : Bytes) → is_three (words_of value) ≡ false → names_offer offer (Some value) ≡ false
rack_other offer value not = other_by offer value (words_of value) refl not
