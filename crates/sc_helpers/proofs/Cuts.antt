-- The first piece of a text, and what stands behind it.
use Rattle.std.proofs.Common.{◌≡◌, ℕ, false, Option, None, Some, List, [], ◌∷◌, refl, ap}
use Rattle.sc_tokens.specs.Bytes.{Bytes}
use Rattle.sc_tokens.specs.Cuts.{before, after, pieces}
use Rattle.sc_syntax.proofs.CutLaws.{pieces_more, pieces_last}
use Rattle.sc_hosts.specs.Offers.{offer_in}
use Rattle.sc_helpers.specs.Parts.{is_three, more_pieces}

cut_by : (sign : ℕ) (text : Bytes) (rest : Option Bytes) → after sign text ≡ rest → pieces sign text ≡ before sign text ∷ more_pieces sign rest
unfolding more_pieces
cut_by sign text None e = pieces_last sign text e
cut_by sign text (Some rest) e = pieces_more sign text rest e

pub cut_at : (sign : ℕ) (text front : Bytes) (rest : Option Bytes) → front ≡ before sign text → rest ≡ after sign text → pieces sign text ≡ front ∷ more_pieces sign rest
cut_at sign text front rest front_is rest_is = rw (front_is, rest_is) (cut_by sign text (after sign text) refl)

-- ## Too many pieces

pub offer_long : (a b c d rest : Bytes) → offer_in (a ∷ b ∷ c ∷ d ∷ pieces 32 rest) ≡ None
unfolding offer_in
offer_long a b c d rest = ap (λ (more : List Bytes). offer_in (a ∷ b ∷ c ∷ d ∷ more)) (cut_by 32 rest (after 32 rest) refl)

-- ## Not three

pub four_pieces : (a b c rest : Bytes) → is_three (a ∷ b ∷ c ∷ pieces 32 rest) ≡ false
unfolding is_three
four_pieces a b c rest = ap (λ (more : List Bytes). is_three (a ∷ b ∷ c ∷ more)) (cut_by 32 rest (after 32 rest) refl)

pub one_piece : (a : Bytes) (all : List Bytes) → all ≡ a ∷ [] → is_three all ≡ false
unfolding is_three
one_piece a all e = ap is_three e

pub two_pieces : (a b : Bytes) (all : List Bytes) → all ≡ a ∷ b ∷ [] → is_three all ≡ false
unfolding is_three
two_pieces a b all e = ap is_three e
