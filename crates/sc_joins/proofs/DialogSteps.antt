-- A dialog that is moved by one message more is that of the list with this message.
use Rattle.std.proofs.Common.{◌≡◌, ℕ, Option, None, Some, List, ◌∷◌, refl, sym, arith}
use Rattle.std.specs.Prelude.{max, unwrap_or, slice_get}
use Rattle.std.specs.List.{filter_map, cons_option}
use Rattle.sc_value.specs.declared.message.Message.TheVariants as messages
use Rattle.sc_value.specs.declared.parts.Uri.{Uri}
use Rattle.sc_model.specs.Dialogs.{Beginning, Passed, By_peer, By_self, DialogState, dialog_of, messages_of, given_target, begun_by, first_target, target_of, greatest, Follows}
use Rattle.sc_hosts.specs.Legs.{with_target as retargeted}

first-some : {A : Type 0} (found : Option A) (all : List A) (otherwise : A) → unwrap_or (slice_get (cons_option found all) 0) otherwise ≡ unwrap_or found (unwrap_or (slice_get all 0) otherwise)
first-some None all otherwise = refl
first-some (Some a) all otherwise = refl

max-flips : (a b : ℕ) → max a b ≡ max b a
max-flips a b = omega arith

target-next : (beginning : Beginning) (message : Passed) (passed : List Passed)
    → target_of beginning (message ∷ passed) ≡ unwrap_or (given_target (begun_by beginning) message) (target_of beginning passed)
unfolding target_of
target-next beginning message passed = first-some (given_target (begun_by beginning) message) (filter_map (given_target (begun_by beginning)) passed) (first_target beginning)

same-state : (old : DialogState) (target target2 : Uri) (sent sent2 received received2 : ℕ) → target ≡ target2 → sent ≡ sent2 → received ≡ received2
    → ◌≡◌ {A = DialogState} (record old { target = target; sent = sent; received = received }) (record old { target = target2; sent = sent2; received = received2 })
same-state old target target2 sent sent2 received received2 p q r = rw (p, q, r) refl

-- the dialog of a list, after a message more
pub retargeted-next : (beginning : Beginning) (later : List Passed) (message : Passed) → retargeted (dialog_of beginning later) message ≡ dialog_of beginning (message ∷ later)
unfolding retargeted dialog_of given_target greatest
retargeted-next beginning later (By_peer (messages.Request request)) =
    same-state (dialog_of beginning later) _ _ _ _ _ _ (sym (target-next beginning (By_peer (messages.Request request)) (messages_of beginning later))) refl (max-flips _ request.head.cseq.number)
retargeted-next beginning later (By_peer (messages.Response response)) =
    same-state (dialog_of beginning later) _ _ _ _ _ _ (sym (target-next beginning (By_peer (messages.Response response)) (messages_of beginning later))) refl refl
retargeted-next beginning later (By_self (messages.Request request)) =
    same-state (dialog_of beginning later) _ _ _ _ _ _ (sym (target-next beginning (By_self (messages.Request request)) (messages_of beginning later))) (max-flips _ request.head.cseq.number) refl
retargeted-next beginning later (By_self (messages.Response response)) =
    same-state (dialog_of beginning later) _ _ _ _ _ _ (sym (target-next beginning (By_self (messages.Response response)) (messages_of beginning later))) refl refl

-- so it follows
pub retargeted-follows : (old : DialogState) (message : Passed) → Follows old message (retargeted old message)
unfolding Follows
retargeted-follows old message beginning later is = rw is (retargeted-next beginning later message)
