-- A branch that is read is the one that is written.
use Rattle.std.proofs.Common.{◌≡◌, ℕ, ◌+◌, ◌<◌, ◌++◌, [], ◌∷◌, Bool, true, false, Option, None, Some, refl, sym, ap, ◌∙◌, arith, append_assoc, length, take, drop, ◌-◌}
use Rattle.std.specs.Option.{option_map_or}
use Rattle.std.proofs.lemmas.List.{take_all, drop_all, length-drop}
use Rattle.std.proofs.lemmas.Bool.Decides.{nat_tests}
use Rattle.std.proofs.lemmas.Slice.Eq.{slice_eq-Decides}
use Rattle.std.proofs.lemmas.Bool.Decides.{Decides-eqb}
use Rattle.sc_tokens.specs.Names.{same_bytes}
use Rattle.sc_value.specs.declared.ids.AppId.{AppId}
use Rattle.sc_tokens.specs.Bytes.{Bytes}
use Rattle.sc_model.specs.Names.{branch_cookie, mark_text, tag_text, counted_text, branch_text}
use Rattle.sc_names.specs.Reading.{IsRead, IsCounted}
use Rattle.sc_transact.specs.Named.{is_named}

-- two texts are the same, or they aren't
same_text : (a b : Bytes) → a ≡ b → same_bytes a b ≡ true
same_text a b e = (slice_eq-Decides Decides-eqb a b (same_bytes a b) refl).1 e

pub equal_text : (a b : Bytes) → same_bytes a b ≡ true → a ≡ b
equal_text a b e = (slice_eq-Decides Decides-eqb a b (same_bytes a b) refl).0 e

named_same : (app : AppId) (number : ℕ) (p : AppId × ℕ) → is_named app number p ≡ true → p ≡ (app, number)
named_same app number p e = grind (arith, nat_tests)

named_here : (app : AppId) (number : ℕ) (p : AppId × ℕ) → p ≡ (app, number) → is_named app number p ≡ true
named_here app number p e = grind (arith, nat_tests)

both : (a b : Bool) → (a ≡ true → b ≡ true) → (b ≡ true → a ≡ true) → a ≡ b
both true true p q = refl
both true false p q = cc (p refl)
both false true p q = cc (q refl)
both false false p q = refl

pub branch_named : (answer : Option (AppId × ℕ)) (salt : Bytes) (epoch : ℕ) (app : AppId) (number : ℕ) (text : Bytes) → IsRead (λ p. branch_text salt epoch p.0 p.1) IsCounted text answer → IsCounted (app, number)
    → option_map_or (is_named app number) answer false ≡ same_bytes text (branch_text salt epoch app number)
branch_named None salt epoch app number text read counted =
    both false (same_bytes text (branch_text salt epoch app number)) (λ e. cc)
    (λ e. let one : ◌≡◌ {A = Option (AppId × ℕ)} None (Some (app, number)) = read.one (app, number) counted (equal_text text (branch_text salt epoch app number) e) in cc)
branch_named (Some p) salt epoch app number text read counted =
    both (is_named app number p) (same_bytes text (branch_text salt epoch app number))
    (λ e. let same : p ≡ (app, number) = named_same app number p e in same_text text (branch_text salt epoch app number) (read.some.1 ∙ rw same refl))
    (λ e. let one : Some p ≡ Some (app, number) = read.one (app, number) counted (equal_text text (branch_text salt epoch app number) e) in named_here app number p (cc))

-- ## What stands behind the mark

-- all before the part that names the session and the number
abbrev before : Bytes → ℕ → Bytes
before salt epoch = branch_cookie ++ (mark_text salt epoch ++ 45 ∷ [])

split : (salt : Bytes) (epoch : ℕ) (app : AppId) (branch : ℕ) → branch_text salt epoch app branch ≡ before salt epoch ++ counted_text app branch
unfolding branch_text tag_text
split salt epoch app branch = sym (append_assoc branch_cookie (mark_text salt epoch ++ 45 ∷ []) (counted_text app branch))

last_len : (xs : Bytes) → length (xs ++ 45 ∷ []) ≡ length xs + 1
last_len [] = refl
last_len (x ∷ xs) = let more : length (xs ++ 45 ∷ []) ≡ length xs + 1 = last_len xs in omega (arith, more)

before_len : (salt : Bytes) (epoch : ℕ) → length (before salt epoch) ≡ length (mark_text salt epoch) + 8
unfolding branch_cookie
before_len salt epoch = let more : length (mark_text salt epoch ++ 45 ∷ []) ≡ length (mark_text salt epoch) + 1 = last_len (mark_text salt epoch) in omega (arith, more)

seam : (xs ys : Bytes) → drop (length xs) (xs ++ ys) ≡ ys
seam [] ys = refl
seam (x ∷ xs) ys = seam xs ys

-- where the text is a branch, what stands behind its mark
counted_behind : (text salt : Bytes) (epoch start : ℕ) (app : AppId) (branch : ℕ) → start ≡ length (mark_text salt epoch) + 8 → text ≡ branch_text salt epoch app branch → drop start text ≡ counted_text app branch
counted_behind text salt epoch start app branch at is =
    ap (λ n. drop n text) (at ∙ sym (before_len salt epoch)) ∙ ap (drop (length (before salt epoch))) (is ∙ split salt epoch app branch) ∙ seam (before salt epoch) (counted_text app branch)

pub counted_then : (text salt : Bytes) (epoch mark : ℕ) (app : AppId) (branch : ℕ) → mark ≡ length (mark_text salt epoch) → text ≡ branch_text salt epoch app branch
    → take (length text - (mark + 8)) (drop (mark + 8) text) ≡ counted_text app branch
counted_then text salt epoch mark app branch at is =
    take_all (length text - (mark + 8)) (drop (mark + 8) text) (let all : length (drop (mark + 8) text) ≡ length text - (mark + 8) = length-drop (mark + 8) text in omega (arith, all))
    ∙ counted_behind text salt epoch (mark + 8) app branch (ap (λ n. n + 8) at) is

pub counted_else : (text salt : Bytes) (epoch mark : ℕ) (app : AppId) (branch : ℕ) → mark ≡ length (mark_text salt epoch) → length text < mark + 8 → text ≡ branch_text salt epoch app branch → [] ≡ counted_text app branch
counted_else text salt epoch mark app branch at short is =
    sym (drop_all (mark + 8) text (omega (arith, short))) ∙ counted_behind text salt epoch (mark + 8) app branch (ap (λ n. n + 8) at) is
