-- The command that is found is the one whose form the words have.
use Rattle.std.proofs.Common.{◌≡◌, inl, inr, ℕ, Bool, true, false, Option, None, Some, cond, codes, List, [], ◌∷◌, refl, ap, sym, ◌∙◌, subst}
use Rattle.std.specs.Option.{is_some}
use Rattle.std.proofs.lemmas.Bool.{false≢true}
use Rattle.sc_tokens.specs.Names.{same_bytes}
use Rattle.sc_tokens.specs.Bytes.{Bytes}
use Rattle.sc_syntax.proofs.ListedLaws.{same_text}
use Rattle.sc_replay.specs.declared.commanding.Command.{Command}
use Rattle.sc_replay.specs.declared.commanding.Command.TheVariants.{Replay, Check, Make, Trial, Serve, Usage}
use Rattle.sc_replay.specs.Checking.{checked_names}
use Rattle.sc_replay.specs.Making.{made_count}
use Rattle.sc_replay.specs.Replaying.{IsReplay, replay_word}
use Rattle.sc_replay.specs.Trying.{tried_count}
use Rattle.sc_replay.specs.Commands.{HasForm, IsCounted, IsNamed, command_of, count_in, count_after_name as counted, counted_command, settled_command, scripted_command, settled_names}

-- ## The command that is found has its form

counted_named : (word count : Bytes) (n : Option ℕ) (make trial : Bool) → count_in count ≡ n → same_bytes word (codes "make") ≡ make → same_bytes word (codes "trial") ≡ trial
    → IsNamed (cond (is_some n) (cond make Make (cond trial Trial Usage)) Usage) (word ∷ count ∷ [])
unfolding HasForm
counted_named word count None make trial number is_make is_trial = inl refl
counted_named word count (Some n) true trial number is_make is_trial = inr (count, n, number, ap (λ (w : Bytes). w ∷ count ∷ []) (same_text word (codes "make") is_make))
counted_named word count (Some n) false true number is_make is_trial = inr (count, n, number, ap (λ (w : Bytes). w ∷ count ∷ []) (same_text word (codes "trial") is_trial))
counted_named word count (Some n) false false number is_make is_trial = inl refl

settled_named : (word config dar : Bytes) (check serve : Bool) → same_bytes word (codes "check") ≡ check → same_bytes word (codes "serve") ≡ serve
    → IsNamed (cond check Check (cond serve Serve Usage)) (word ∷ config ∷ dar ∷ [])
unfolding HasForm
settled_named word config dar true serve is_check is_serve = inr (config, dar, ap (λ (w : Bytes). w ∷ config ∷ dar ∷ []) (same_text word (codes "check") is_check))
settled_named word config dar false true is_check is_serve = inr (config, dar, ap (λ (w : Bytes). w ∷ config ∷ dar ∷ []) (same_text word (codes "serve") is_serve))
settled_named word config dar false false is_check is_serve = inl refl

scripted_named : (word config dar script : Bytes) (replay : Bool) → same_bytes word (codes "replay") ≡ replay → IsNamed (cond replay Replay Usage) (word ∷ config ∷ dar ∷ script ∷ [])
unfolding HasForm
scripted_named word config dar script true is_replay = inr (config, dar, script, ap (λ (w : Bytes). w ∷ config ∷ dar ∷ script ∷ []) (same_text word (codes "replay") is_replay))
scripted_named word config dar script false is_replay = inl refl

pub form_named : (words : List Bytes) → IsNamed (command_of words) words
unfolding command_of counted_command settled_command scripted_command
form_named [] = inl refl
form_named (word ∷ []) = inl refl
form_named (word ∷ count ∷ []) = counted_named word count (count_in count) (same_bytes word (codes "make")) (same_bytes word (codes "trial")) refl refl refl
form_named (word ∷ config ∷ dar ∷ []) = settled_named word config dar (same_bytes word (codes "check")) (same_bytes word (codes "serve")) refl refl
form_named (word ∷ config ∷ dar ∷ script ∷ []) = scripted_named word config dar script (same_bytes word (codes "replay")) refl
form_named (word ∷ config ∷ dar ∷ script ∷ next ∷ more) = inl refl

-- ## No other command has their form

counted_is : (word count : Bytes) (n : ℕ) (command : Command) → count_in count ≡ Some n → cond (same_bytes word (codes "make")) Make (cond (same_bytes word (codes "trial")) Trial Usage) ≡ command
    → counted_command word count ≡ command
unfolding counted_command
counted_is word count n command number is = rw number is

pub form_only : (words : List Bytes) (command : Command) → HasForm command words → command_of words ≡ command
unfolding HasForm command_of settled_command scripted_command
form_only words Replay (config, dar, script, is) = rw is refl
form_only words Check (config, dar, is) = rw is refl
form_only words Make (count, n, number, is) = rw is (counted_is (codes "make") count n Make number refl)
form_only words Trial (count, n, number, is) = rw is (counted_is (codes "trial") count n Trial number refl)
form_only words Serve (config, dar, is) = rw is refl
form_only words Usage none = absurd none

-- ## What `replay`, `check`, `make` and `trial` take

form_of_command : (words : List Bytes) (command : Command) → ¬ (command ≡ Usage) → command_of words ≡ command → HasForm command words
form_of_command words command other is = split (form_named words)
  where
    split : IsNamed (command_of words) words → HasForm command words
    split (inl usage) = absurd (other (sym is ∙ usage))
    split (inr form) = subst (λ (c : Command). HasForm c words) is form

abbrev is_usage : Command → Bool
is_usage Usage = true
is_usage Replay = false
is_usage Check = false
is_usage Make = false
is_usage Trial = false
is_usage Serve = false

pub replay_taken : (words : List Bytes) → IsReplay words → command_of words ≡ Replay
unfolding HasForm replay_word
replay_taken words is = form_only words Replay (is.config, is.dar, is.script, is.words_are)

pub replay_named : (words : List Bytes) → command_of words ≡ Replay → IsReplay words
unfolding HasForm replay_word
replay_named words named = given (form_of_command words Replay (λ e. false≢true (ap is_usage e)) named)
  where
    given : HasForm Replay words → IsReplay words
    given (config, dar, script, are) = record { config = config; dar = dar; script = script; words_are = are }

check_if : (word config dar : Bytes) (is : Bool) → same_bytes word (codes "check") ≡ is → is_some {T = Bytes × Bytes} (cond is (Some (config, dar)) None) ≡ true → HasForm Check (word ∷ config ∷ dar ∷ [])
unfolding HasForm
check_if word config dar true is some = (config, dar, ap (λ (w : Bytes). w ∷ config ∷ dar ∷ []) (same_text word (codes "check") is))
check_if word config dar false is some = absurd (false≢true some)

check_form : (words : List Bytes) → is_some (checked_names words) ≡ true → HasForm Check words
unfolding settled_names
check_form [] some = absurd (false≢true some)
check_form (word ∷ []) some = absurd (false≢true some)
check_form (word ∷ config ∷ []) some = absurd (false≢true some)
check_form (word ∷ config ∷ dar ∷ []) some = check_if word config dar (same_bytes word (codes "check")) refl some
check_form (word ∷ config ∷ dar ∷ script ∷ more) some = absurd (false≢true some)

pub check_taken : (words : List Bytes) → is_some (checked_names words) ≡ true → command_of words ≡ Check
check_taken words some = form_only words Check (check_form words some)

pub check_named : (words : List Bytes) → command_of words ≡ Check → is_some (checked_names words) ≡ true
unfolding HasForm settled_names
check_named words named = given (form_of_command words Check (λ e. false≢true (ap is_usage e)) named)
  where
    given : HasForm Check words → is_some (checked_names words) ≡ true
    given (config, dar, are) = rw are refl

counted_if : (name word count : Bytes) (is : Bool) (n : Option ℕ) → same_bytes word name ≡ is → count_in count ≡ n → is_some (cond is n None) ≡ true → IsCounted name (word ∷ count ∷ [])
counted_if name word count true (Some n) is number some = (count, n, number, ap (λ (w : Bytes). w ∷ count ∷ []) (same_text word name is))
counted_if name word count true None is number some = absurd (false≢true some)
counted_if name word count false n is number some = absurd (false≢true some)

counted_form : (name : Bytes) (words : List Bytes) → is_some (counted name words) ≡ true → IsCounted name words
unfolding counted
counted_form name [] some = absurd (false≢true some)
counted_form name (word ∷ []) some = absurd (false≢true some)
counted_form name (word ∷ count ∷ []) some = counted_if name word count (same_bytes word name) (count_in count) refl refl some
counted_form name (word ∷ count ∷ next ∷ more) some = absurd (false≢true some)

pub make_taken : (words : List Bytes) → is_some (made_count words) ≡ true → command_of words ≡ Make
unfolding HasForm
make_taken words some = form_only words Make (counted_form (codes "make") words some)

pub make_named : (words : List Bytes) → command_of words ≡ Make → is_some (made_count words) ≡ true
unfolding HasForm counted
make_named words named = given (form_of_command words Make (λ e. false≢true (ap is_usage e)) named)
  where
    given : HasForm Make words → is_some (made_count words) ≡ true
    given (count, n, number, are) = rw are (rw number refl)

pub trial_taken : (words : List Bytes) → is_some (tried_count words) ≡ true → command_of words ≡ Trial
unfolding HasForm
trial_taken words some = form_only words Trial (counted_form (codes "trial") words some)

pub trial_named : (words : List Bytes) → command_of words ≡ Trial → is_some (tried_count words) ≡ true
unfolding HasForm counted
trial_named words named = given (form_of_command words Trial (λ e. false≢true (ap is_usage e)) named)
  where
    given : HasForm Trial words → is_some (tried_count words) ≡ true
    given (count, n, number, are) = rw are (rw number refl)
