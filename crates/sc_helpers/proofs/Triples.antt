-- What three pieces tell, and that others tell nothing.
use Rattle.std.proofs.Common.{◌≡◌, false, Option, None, List, [], ◌∷◌, refl, ap, sym, ◌∙◌}
use Rattle.std.proofs.lemmas.Bool.{false≢true}
use Rattle.sc_tokens.specs.Bytes.{Bytes}
use Rattle.sc_tokens.specs.Cuts.{pieces}
use Rattle.sc_hosts.specs.SessionTimers.{Timed, timed_in, timed_of}
use Rattle.sc_hosts.specs.Subscriptions.{subscription_in}
use Rattle.sc_helpers.specs.Parts.{is_three}

timed_by : (all : List Bytes) → is_three all ≡ false → timed_in all ≡ None
unfolding timed_in is_three
timed_by [] e = refl
timed_by (a ∷ []) e = refl
timed_by (a ∷ b ∷ []) e = refl
timed_by (a ∷ b ∷ c ∷ []) e = absurd (false≢true (sym e))
timed_by (a ∷ b ∷ c ∷ d ∷ more) e = refl

pub timed_other : (text : Bytes) → is_three (pieces 32 text) ≡ false → timed_of text ≡ None
unfolding timed_of
timed_other text e = timed_by (pieces 32 text) e

pub timed_three : (text a b c : Bytes) (o : Option Timed) → pieces 32 text ≡ a ∷ b ∷ c ∷ [] → o ≡ timed_in (a ∷ b ∷ c ∷ []) → o ≡ timed_of text
unfolding timed_of
timed_three text a b c o e is = is ∙ ap timed_in (sym e)

pub subscription_other : (all : List Bytes) → is_three all ≡ false → subscription_in all ≡ None
unfolding subscription_in is_three
subscription_other [] e = refl
subscription_other (a ∷ []) e = refl
subscription_other (a ∷ b ∷ []) e = refl
subscription_other (a ∷ b ∷ c ∷ []) e = absurd (false≢true (sym e))
subscription_other (a ∷ b ∷ c ∷ d ∷ more) e = refl
