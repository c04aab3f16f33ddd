-- What holds of all items of a list, and what each step keeps, holds in the end.
use Rattle.std.proofs.Common.{◌≡◌, ℕ, zero, suc, Bool, true, false, List, [], ◌∷◌, All, refl}
use Rattle.std.proofs.lemmas.List.Elements.{All-nil, All-cons, All-head, All-tail}
use Rattle.sc_value.specs.Lists.{change_nth}
use Rattle.sc_hosts.specs.Settle.{steps, settle}

-- the item at a place is changed
pub change_nth-holds : {A : Type 0} (P : A → Type 0) (place : ℕ) (change : A → A) → ((a : A) → P a → P (change a)) → (xs : List A) → All P xs → All P (change_nth place change xs)
unfolding change_nth
change_nth-holds P place change keeps [] all = All-nil P
change_nth-holds P zero change keeps (x ∷ xs) all = All-cons P (change x) xs (keeps x (All-head P x xs all)) (All-tail P x xs all)
change_nth-holds P (suc place) change keeps (x ∷ xs) all =
    All-cons P x (change_nth place change xs) (All-head P x xs all) (change_nth-holds P place change keeps xs (All-tail P x xs all))

steps-hold : {S : Type 0} (k : ℕ) (busy : S → Bool) (step : S → S) (P : S → Type 0) → ((s : S) → P s → P (step s)) → (s : S) (b : Bool) → busy s ≡ b → P s → P (steps busy step k s)
unfolding steps
steps-hold zero busy step P keeps s b is holds = holds
steps-hold (suc k) busy step P keeps s true at_work holds = rw (at_work, steps) (steps-hold k busy step P keeps (step s) (busy (step s)) refl (keeps s holds))
steps-hold (suc k) busy step P keeps s false idle holds = rw (idle, steps) holds

pub settle-holds : {S : Type 0} (busy : S → Bool) (step : S → S) (weight : S → ℕ) (P : S → Type 0) → ((s : S) → P s → P (step s)) → (s : S) → P s → P (settle busy step weight s)
unfolding settle
settle-holds busy step weight P keeps s holds = steps-hold (weight s) busy step P keeps s (busy s) refl holds
