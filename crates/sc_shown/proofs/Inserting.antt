-- A SipSession put into a list that is in order of number, by the place of the first whose number
-- isn't lower.
use Rattle.std.proofs.Common.{◌≡◌, ◌≢◌, ℕ, suc, ◌+◌, ◌<◌, ◌≤◌, ◌==◌, Bool, true, false, not, cond, nat_lt, nat_le, Some, None, List, [], ◌∷◌, ◌++◌, length, get_or, position, refl, ap, sym, ◌∙◌, arith}
use Rattle.std.specs.List.{position_or_len, insert}
use Rattle.std.proofs.lemmas.Bool.Decides.{nat_tests}
use Rattle.sc_value.specs.declared.ids.SessId.{SessId}
use Rattle.sc_hosts.specs.PreparingResponses.{insert_session}
use Rattle.sc_shown.specs.Shown.{follows}

placed : (sess : SessId) (xs : List SessId) (i : ℕ) → position (follows sess) xs ≡ Some i → (position_or_len (follows sess) xs ≡ i) × (i < length xs)
placed sess xs i e = grind (arith, nat_tests)

missing : (sess : SessId) (xs : List SessId) → position (follows sess) xs ≡ None → length xs ≤ position_or_len (follows sess) xs
missing sess xs e = grind (arith, nat_tests)

present_at : (sess s d : SessId) (ss : List SessId) (n : ℕ) (p b c : Bool) → nat_le sess.0 s.0 ≡ p → (s.0 == sess.0) ≡ b → nat_lt sess.0 s.0 ≡ c
    → (n < length ss → (get_or ss n d).0 ≡ sess.0 → insert_session sess ss ≡ ss) → cond (not p) (1 + n) 0 < length (s ∷ ss)
    → (get_or (s ∷ ss) (cond (not p) (1 + n) 0) d).0 ≡ sess.0 → cond b (s ∷ ss) (cond c (sess ∷ s ∷ ss) (s ∷ insert_session sess ss)) ≡ s ∷ ss
present_at sess s d ss n p true c e f g later below same = refl
present_at sess s d ss n true false true e f g later below same = absurd (grind (arith, nat_tests))
present_at sess s d ss n true false false e f g later below same = absurd (grind (arith, nat_tests))
present_at sess s d ss n false false true e f g later below same = absurd (grind (arith, nat_tests))
present_at sess s d ss n false false false e f g later below same =
    let one : ◌≡◌ {A = ℕ} (1 + n) (suc n) = omega arith in ap (λ ys. s ∷ ys) (later (omega (arith, below)) (ap (λ k. (get_or (s ∷ ss) k d).0) (sym one) ∙ same))

present : (sess d : SessId) (xs : List SessId) → position_or_len (follows sess) xs < length xs → (get_or xs (position_or_len (follows sess) xs) d).0 ≡ sess.0 → insert_session sess xs ≡ xs
unfolding insert_session follows
present sess d [] below same = absurd (omega (arith, below))
present sess d (s ∷ ss) below same = present_at sess s d ss _ _ _ _ refl refl refl (present sess d ss) below same

pub insert_present : (sess : SessId) (xs : List SessId) (i : ℕ) (d : SessId) → position (follows sess) xs ≡ Some i → (get_or xs i d).0 ≡ sess.0 → insert_session sess xs ≡ xs
insert_present sess xs i d e same = let at = placed sess xs i e in present sess d xs (omega (arith, at.0, at.1)) (ap (λ k. (get_or xs k d).0) at.0 ∙ same)

before_at : (sess s d : SessId) (ss : List SessId) (n : ℕ) (p b c : Bool) → nat_le sess.0 s.0 ≡ p → (s.0 == sess.0) ≡ b → nat_lt sess.0 s.0 ≡ c
    → (n < length ss → ((get_or ss n d).0 == sess.0) ≡ false → insert_session sess ss ≡ insert ss n sess) → cond (not p) (1 + n) 0 < length (s ∷ ss)
    → ((get_or (s ∷ ss) (cond (not p) (1 + n) 0) d).0 == sess.0) ≡ false
    → cond b (s ∷ ss) (cond c (sess ∷ s ∷ ss) (s ∷ insert_session sess ss)) ≡ insert (s ∷ ss) (cond (not p) (1 + n) 0) sess
before_at sess s d ss n true true c e f g later below other = absurd (grind (arith, nat_tests))
before_at sess s d ss n false true c e f g later below other = absurd (grind (arith, nat_tests))
before_at sess s d ss n true false true e f g later below other = refl
before_at sess s d ss n true false false e f g later below other = absurd (grind (arith, nat_tests))
before_at sess s d ss n false false true e f g later below other = absurd (grind (arith, nat_tests))
before_at sess s d ss n false false false e f g later below other =
    let one : ◌≡◌ {A = ℕ} (1 + n) (suc n) = omega arith in
    rw one (ap (λ ys. s ∷ ys) (later (omega (arith, below)) (ap (λ k. (get_or (s ∷ ss) k d).0 == sess.0) (sym one) ∙ other)))

before : (sess d : SessId) (xs : List SessId) → position_or_len (follows sess) xs < length xs → ((get_or xs (position_or_len (follows sess) xs) d).0 == sess.0) ≡ false
    → insert_session sess xs ≡ insert xs (position_or_len (follows sess) xs) sess
unfolding insert_session follows
before sess d [] below other = absurd (omega (arith, below))
before sess d (s ∷ ss) below other = before_at sess s d ss _ _ _ _ refl refl refl (before sess d ss) below other

differs : (a b : ℕ) → a ≢ b → (a == b) ≡ false
differs a b e = grind (arith, nat_tests)

pub insert_before : (sess : SessId) (xs : List SessId) (i : ℕ) (d : SessId) → position (follows sess) xs ≡ Some i → (get_or xs i d).0 ≢ sess.0 → insert_session sess xs ≡ insert xs i sess
insert_before sess xs i d e other =
    let at = placed sess xs i e in
    rw (← at.0) (before sess d xs (omega (arith, at.0, at.1)) (differs _ _ (λ same. other (ap (λ k. (get_or xs k d).0) (sym at.0) ∙ same))))

last_at : (sess s : SessId) (ss : List SessId) (n : ℕ) (p b c : Bool) → nat_le sess.0 s.0 ≡ p → (s.0 == sess.0) ≡ b → nat_lt sess.0 s.0 ≡ c
    → (length ss ≤ n → insert_session sess ss ≡ ss ++ sess ∷ []) → length (s ∷ ss) ≤ cond (not p) (1 + n) 0
    → cond b (s ∷ ss) (cond c (sess ∷ s ∷ ss) (s ∷ insert_session sess ss)) ≡ (s ∷ ss) ++ sess ∷ []
last_at sess s ss n true b c e f g later past = absurd (omega (arith, past))
last_at sess s ss n false true c e f g later past = absurd (grind (arith, nat_tests))
last_at sess s ss n false false true e f g later past = absurd (grind (arith, nat_tests))
last_at sess s ss n false false false e f g later past = ap (λ ys. s ∷ ys) (later (omega (arith, past)))

last : (sess : SessId) (xs : List SessId) → length xs ≤ position_or_len (follows sess) xs → insert_session sess xs ≡ xs ++ sess ∷ []
unfolding insert_session follows
last sess [] past = refl
last sess (s ∷ ss) past = last_at sess s ss _ _ _ _ refl refl refl (last sess ss) past

pub insert_last : (sess : SessId) (xs : List SessId) → position (follows sess) xs ≡ None → insert_session sess xs ≡ xs ++ sess ∷ []
insert_last sess xs e = last sess xs (missing sess xs e)
