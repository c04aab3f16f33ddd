-- How a run obeys orders as it comes on.
use Rattle.std.proofs.Common.{◌≡◌, ◌≢◌, ◌&&◌, ◌++◌, nat_eq, eq-eqb, ne_eqb, Bool, true, false, List, [], ◌∷◌, Option, None, Some, refl, ap, sym, ◌∙◌, subst, inl, inr, append_assoc, append-nil}
use Rattle.std.specs.List.{flat_map}
use Rattle.std.specs.Option.{is_some}
use Rattle.sc_value.specs.declared.ids.AppId.{AppId}
use Rattle.sc_terms.specs.declared.steps.Step.{Step}
use Rattle.sc_terms.specs.declared.steps.Step.TheVariants as steps
use Rattle.sc_parts.specs.declared.setup.Setup.{Setup}
use Rattle.sc_edge.specs.declared.orders.Order.{Order}
use Rattle.sc_hosts.specs.Histories.{as_session}
use Rattle.sc_hosts.specs.Runs.{Epoch, net_of}
use Rattle.sc_hosts.specs.Steps.{live_at}
use Rattle.sc_courses.specs.Ordering.{ComesOn, IsQuiet, Obeys, ObeysPart, Point, after_order, is_for, with_steps, withdrawn, withdrawn_by}

-- ## Lists

pub flat_append : {A B : Type 0} (f : A → List B) (xs ys : List A) → flat_map f (xs ++ ys) ≡ flat_map f xs ++ flat_map f ys
flat_append f [] ys = refl
flat_append f (x ∷ xs) ys = ap (λ rest. f x ++ rest) (flat_append f xs ys) ∙ sym (append_assoc (f x) (flat_map f xs) (flat_map f ys))

pub withdrawn_append : (xs ys : List Epoch) → withdrawn (xs ++ ys) ≡ withdrawn xs ++ withdrawn ys
unfolding withdrawn
withdrawn_append xs ys = flat_append (λ (epoch : Epoch). flat_map withdrawn_by epoch.journal) xs ys

-- of one epoch
one-epoch : (epoch : Epoch) → withdrawn (epoch ∷ []) ≡ flat_map withdrawn_by epoch.journal
unfolding withdrawn
one-epoch epoch = append-nil (flat_map withdrawn_by epoch.journal)

-- ## A run comes on

pub comes_same : (point : Point) → ComesOn point point
unfolding ComesOn
comes_same point = inl ([], refl, sym (ap (λ (journal : List Step). record point.running { journal = journal }) (append-nil point.running.journal)))

with-more : (epoch : Epoch) (xs ys : List Step) → with_steps (with_steps epoch xs) ys ≡ with_steps epoch (xs ++ ys)
with-more epoch xs ys = ap (λ (journal : List Step). record epoch { journal = journal }) (append_assoc epoch.journal xs ys)

pub comes_then : (a b c : Point) → ComesOn a b → ComesOn b c → ComesOn a c
unfolding ComesOn
comes_then a b c (inl (xs, ended, running)) (inl (ys, ended2, running2)) =
    inl (xs ++ ys, ended2 ∙ ended, running2 ∙ (ap (λ (epoch : Epoch). with_steps epoch ys) running ∙ with-more a.running xs ys))
comes_then a b c (inl (xs, ended, running)) (inr (ys, between, ended2)) =
    inr (
      xs ++ ys,
      between,
      ended2 ∙ (ap (λ (before : List Epoch). before ++ with_steps b.running ys ∷ between) ended ∙ ap (λ (epoch : Epoch). a.ended ++ epoch ∷ between) (ap (λ (epoch : Epoch). with_steps epoch ys) running ∙ with-more a.running xs ys)),
    )
comes_then a b c (inr (xs, between, ended)) (inl (ys, ended2, running2)) = inr (xs, between, ended2 ∙ ended)
comes_then a b c (inr (xs, between, ended)) (inr (ys, between2, ended2)) =
    inr (
      xs,
      between ++ with_steps b.running ys ∷ between2,
      ended2 ∙ (ap (λ (before : List Epoch). before ++ with_steps b.running ys ∷ between2) ended ∙ append_assoc a.ended (with_steps a.running xs ∷ between) (with_steps b.running ys ∷ between2)),
    )

pub quiet_same : (point : Point) → IsQuiet point point
quiet_same point = record { comes = comes_same point; none = refl }

pub quiet_then : (a b c : Point) → IsQuiet a b → IsQuiet b c → IsQuiet a c
quiet_then a b c first second = record { comes = comes_then a b c first.comes second.comes; none = second.none ∙ first.none }

-- by a step
pub comes_step : (ended : List Epoch) (epoch : Epoch) (step : Step) → ComesOn (record { ended = ended; running = epoch }) (record { ended = ended; running = with_steps epoch (step ∷ []) })
unfolding ComesOn
comes_step ended epoch step = inl (step ∷ [], refl, refl)

-- a step that withdraws none
pub quiet_step : (ended : List Epoch) (epoch : Epoch) (step : Step) → withdrawn_by step ≡ [] → IsQuiet (record { ended = ended; running = epoch }) (record { ended = ended; running = with_steps epoch (step ∷ []) })
unfolding ComesOn
quiet_step ended epoch step none = record {
  comes = inl (step ∷ [], refl, refl);
  none = withdrawn_append ended (with_steps epoch (step ∷ []) ∷ []) ∙ (ap (λ (rest : List AppId). withdrawn ended ++ rest)
      (one-epoch (with_steps epoch (step ∷ [])) ∙ (flat_append withdrawn_by epoch.journal (step ∷ []) ∙ (ap (λ (rest : List AppId). flat_map withdrawn_by epoch.journal ++ (rest ++ [])) none ∙ (append-nil (flat_map withdrawn_by epoch.journal) ∙ sym (one-epoch epoch)))))
      ∙ sym (withdrawn_append ended (epoch ∷ [])));
}

-- the epoch ends, and another begins without steps
pub quiet_turn : (ended : List Epoch) (epoch next : Epoch) → next.journal ≡ [] → IsQuiet (record { ended = ended; running = epoch }) (record { ended = ended ++ epoch ∷ []; running = next })
unfolding ComesOn
quiet_turn ended epoch next empty = record {
  comes = inr ([], [], ap (λ (journal : List Step). ended ++ record epoch { journal = journal } ∷ []) (sym (append-nil epoch.journal)));
  none = withdrawn_append (ended ++ epoch ∷ []) (next ∷ []) ∙ (ap (λ (rest : List AppId). withdrawn (ended ++ epoch ∷ []) ++ rest) (one-epoch next ∙ ap (flat_map withdrawn_by) empty) ∙ append-nil (withdrawn (ended ++ epoch ∷ [])));
}

-- ## Orders

pub quiet_obeys : (setup : Setup) (a b c : Point) (answers : List (Option Order)) → IsQuiet a b → Obeys setup b answers c → Obeys setup a answers c
unfolding Obeys
quiet_obeys setup a b c [] quiet later = quiet_then a b c quiet later
quiet_obeys setup a b c (None ∷ answers) quiet later = quiet_obeys setup a b c answers quiet later
quiet_obeys setup a b c (Some order ∷ answers) quiet (point, first, later) = (point, quiet_then a b point quiet first, later)

pub obeys_then : (setup : Setup) (a b c : Point) (xs ys : List (Option Order)) → Obeys setup a xs b → Obeys setup b ys c → Obeys setup a (xs ++ ys) c
unfolding Obeys
obeys_then setup a b c [] ys first second = quiet_obeys setup a b c ys first second
obeys_then setup a b c (None ∷ xs) ys first second = obeys_then setup a b c xs ys first second
obeys_then setup a b c (Some order ∷ xs) ys (point, quiet, later) second = (point, quiet, obeys_then setup (after_order setup point order) b c xs ys later second)

pub obeys_more : (setup : Setup) (a b c : Point) (answers : List (Option Order)) → Obeys setup a answers b → IsQuiet b c → Obeys setup a answers c
unfolding Obeys
obeys_more setup a b c answers first quiet = subst (λ (all : List (Option Order)). Obeys setup a all c) (append-nil answers) (obeys_then setup a b c answers [] first quiet)

pub obeys_begin : (setup : Setup) (point : Point) → Obeys setup point [] point
unfolding Obeys
obeys_begin setup point = quiet_same point

-- no order was there
pub obeys_none : (setup : Setup) (a b : Point) (answers : List (Option Order)) → Obeys setup a answers b → Obeys setup a (answers ++ None ∷ []) b
unfolding Obeys
obeys_none setup a b answers first = obeys_then setup a b b answers (None ∷ []) first (quiet_same b)

-- one was there
pub obeys_order : (setup : Setup) (a b : Point) (answers : List (Option Order)) (order : Order) → Obeys setup a answers b → Obeys setup a (answers ++ Some order ∷ []) (after_order setup b order)
unfolding Obeys
obeys_order setup a b answers order first = obeys_then setup a b (after_order setup b order) answers (Some order ∷ []) first (b, quiet_same b, quiet_same (after_order setup b order))

pub ordered_step : (setup : Setup) (point : Point) (order : Order) → is_for setup point order ≡ true → after_order setup point order ≡ record point { running = with_steps point.running (steps.Withdraw order.app ∷ []) }
unfolding after_order
ordered_step setup point order is = rw is refl

pub ordered_none : (setup : Setup) (point : Point) (order : Order) → is_for setup point order ≡ false → after_order setup point order ≡ point
unfolding after_order
ordered_none setup point order is = rw is refl

pub obeys_part : (setup : Setup) (a b : Point) (answers : List (Option Order)) → Obeys setup a answers b → ObeysPart setup a answers b
unfolding ObeysPart
obeys_part setup a b answers all = inl all

pub obeys_cut : (setup : Setup) (a b : Point) (answers : List (Option Order)) (last : Option Order) → Obeys setup a answers b → ObeysPart setup a (answers ++ last ∷ []) b
unfolding ObeysPart
obeys_cut setup a b answers last all = inr (answers, last, refl, all)

-- an order of the epoch that runs, to withdraw a session that lives
pub is_for_living : (setup : Setup) (point : Point) (app : AppId) → is_some (live_at app (net_of as_session setup point.running)) ≡ true → is_for setup point (record { epoch = point.running.number; app = app }) ≡ true
unfolding is_for
is_for_living setup point app lives = rw (eq-eqb point.running.number point.running.number refl) lives

-- one of another epoch
pub is_for_later : (setup : Setup) (point : Point) (order : Order) → order.epoch ≢ point.running.number → is_for setup point order ≡ false
unfolding is_for
is_for_later setup point order other = rw (ne_eqb order.epoch point.running.number other) refl

-- or of a session that doesn't live
pub is_for_gone : (setup : Setup) (point : Point) (order : Order) → is_some (live_at order.app (net_of as_session setup point.running)) ≡ false → is_for setup point order ≡ false
unfolding is_for
is_for_gone setup point order gone = both-false (nat_eq order.epoch point.running.number) (is_some (live_at order.app (net_of as_session setup point.running))) gone
  where
    both-false : (a b : Bool) → b ≡ false → (a && b) ≡ false
    both-false true b none = none
    both-false false b none = refl
