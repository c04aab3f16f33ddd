-- The first piece of a text, and what stands behind it.
use Rattle.std.proofs.Common.{◌≡◌, ℕ, Option, None, Some, List, ◌∷◌, Err, refl, ap}
use Rattle.sc_tokens.specs.Cuts.{before, after, pieces}
use Rattle.sc_syntax.proofs.CutLaws.{pieces_more, pieces_last}
use Rattle.sc_tokens.specs.Bytes.{Bytes}
use Rattle.sc_script.specs.ScriptTexts.{ip_of, address_in, line_of, WORD}
use Rattle.sc_script.specs.Reading.{more_pieces}

cut_by : (sign : ℕ) (text : Bytes) (rest : Option Bytes) → after sign text ≡ rest → pieces sign text ≡ before sign text ∷ more_pieces sign rest
unfolding more_pieces
cut_by sign text None e = pieces_last sign text e
cut_by sign text (Some rest) e = pieces_more sign text rest e

pub cut_at : (sign : ℕ) (text front : Bytes) (rest : Option Bytes) → front ≡ before sign text → rest ≡ after sign text → pieces sign text ≡ front ∷ more_pieces sign rest
cut_at sign text front rest front_is rest_is = rw (front_is, rest_is) (cut_by sign text (after sign text) refl)

-- ## Too many pieces

pub ip_long : (a b c d rest : Bytes) → ip_of (a ∷ b ∷ c ∷ d ∷ pieces 46 rest) ≡ None
unfolding ip_of
ip_long a b c d rest = ap (λ (more : List Bytes). ip_of (a ∷ b ∷ c ∷ d ∷ more)) (cut_by 46 rest (after 46 rest) refl)

pub address_long : (a b rest : Bytes) → address_in (a ∷ b ∷ pieces 58 rest) ≡ None
unfolding address_in
address_long a b rest = ap (λ (more : List Bytes). address_in (a ∷ b ∷ more)) (cut_by 58 rest (after 58 rest) refl)

pub line_long : (since : ℕ) (text a b c rest : Bytes) → line_of since text (a ∷ b ∷ c ∷ pieces 32 rest) ≡ Err WORD
unfolding line_of
line_long since text a b c rest = ap (λ (more : List Bytes). line_of since text (a ∷ b ∷ c ∷ more)) (cut_by 32 rest (after 32 rest) refl)
