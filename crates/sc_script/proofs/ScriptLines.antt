-- The lines of a text, from one line to the next.
use Rattle.std.proofs.Common.{◌≡◌, ℕ, zero, suc, ◌+◌, ◌-◌, ◌<◌, ◌≤◌, Bool, true, false, cond, List, [], ◌∷◌, ◌++◌, Result, Ok, Err, length, drop, refl, sym, ap, ◌∙◌, arith, append_assoc}
use Rattle.std.proofs.lemmas.List.{length-drop}
use Rattle.sc_terms.specs.declared.steps.Line.{Line}
use Rattle.sc_tokens.specs.Bytes.{Bytes}
use Rattle.sc_script.specs.ScriptTexts.{Fault, NO_END, is_end, row_at, moment_after, with_first, with_later_lines as followed, lines_in}
use Rattle.sc_script.specs.declared.refused.ScriptRefused.{ScriptRefused}
use Rattle.sc_script.specs.declared.refused.ScriptRefused.TheVariants as refused
use Rattle.sc_script.specs.Reading.{Gives, Adds, onto}

-- bytes of the line before are passed over
passed_over : (n at since : ℕ) (text : Bytes) → n ≤ length text → lines_in n at since text ≡ lines_in 0 (at + n) since (drop n text)
unfolding lines_in
passed_over zero at since text le = let same : at + 0 ≡ at = omega arith in ap (λ (k : ℕ). lines_in 0 k since text) (sym same)
passed_over (suc n) at since [] le = absurd (omega (arith, le))
passed_over (suc n) at since (b ∷ bs) le =
    let same : (at + 1) + n ≡ at + suc n = omega arith in
    passed_over n (at + 1) since bs (omega (arith, le)) ∙ ap (λ (k : ℕ). lines_in 0 k since (drop n bs)) same

after_row : (at since : ℕ) (b : ℕ) (bs : Bytes) (line : Line) (size : ℕ) → 0 < size → size ≤ length (b ∷ bs)
    → lines_in (size - 1) (at + 1) (moment_after since line) bs ≡ lines_in 0 (at + size) (moment_after since line) (drop size (b ∷ bs))
after_row at since b bs line zero some le = absurd (omega (arith, some))
after_row at since b bs line (suc k) some le =
    let one : suc k - 1 ≡ k = omega arith in
    let same : (at + 1) + k ≡ at + suc k = omega arith in
    ap (λ (n : ℕ). lines_in n (at + 1) (moment_after since line) bs) one
    ∙ (passed_over k (at + 1) (moment_after since line) bs (omega (arith, le)) ∙ ap (λ (n : ℕ). lines_in 0 n (moment_after since line) (drop k bs)) same)

-- a line that isn't the last
lines_on : (at since : ℕ) (text : Bytes) (line : Line) (size : ℕ) → row_at at since text ≡ Ok (line, size) → is_end line ≡ false → 0 < size → size ≤ length text
    → lines_in 0 at since text ≡ with_first line (lines_in 0 (at + size) (moment_after since line) (drop size text))
unfolding lines_in followed
lines_on at since [] line size row last some le = absurd (omega (arith, some, le))
lines_on at since (b ∷ bs) line size row last some le =
    ap (λ (r : Result (Line × ℕ) Fault). followed r (λ l n. lines_in (n - 1) (at + 1) (moment_after since l) bs)) row
    ∙ (ap (λ (e : Bool). cond e (Ok (line ∷ [])) (with_first line (lines_in (size - 1) (at + 1) (moment_after since line) bs))) last
    ∙ ap (with_first line) (after_row at since b bs line size some le))

-- the last line
lines_last : (at since : ℕ) (text : Bytes) (line : Line) (size : ℕ) → row_at at since text ≡ Ok (line, size) → is_end line ≡ true → 0 < length text → lines_in 0 at since text ≡ Ok (line ∷ [])
unfolding lines_in followed
lines_last at since [] line size row last some = absurd (omega (arith, some))
lines_last at since (b ∷ bs) line size row last some =
    ap (λ (r : Result (Line × ℕ) Fault). followed r (λ l n. lines_in (n - 1) (at + 1) (moment_after since l) bs)) row
    ∙ ap (λ (e : Bool). cond e (Ok (line ∷ [])) (with_first line (lines_in (size - 1) (at + 1) (moment_after since line) bs))) last

-- a line that is refused
lines_wrong : (at since : ℕ) (text : Bytes) (fault : Fault) → row_at at since text ≡ Err fault → 0 < length text → lines_in 0 at since text ≡ Err fault
unfolding lines_in followed
lines_wrong at since [] fault row some = absurd (omega (arith, some))
lines_wrong at since (b ∷ bs) fault row some = ap (λ (r : Result (Line × ℕ) Fault). followed r (λ l n. lines_in (n - 1) (at + 1) (moment_after since l) bs)) row

onto_more : (said : List Line) (line : Line) (later : Result (List Line) Fault) → onto said (with_first line later) ≡ onto (said ++ line ∷ []) later
unfolding onto with_first
onto_more said line (Ok later) = ap Ok (sym (append_assoc said (line ∷ []) later))
onto_more said line (Err fault) = refl

onto_none : (later : Result (List Line) Fault) → onto [] later ≡ later
unfolding onto
onto_none (Ok later) = refl
onto_none (Err fault) = refl

drop_none : {A : Type 0} (n : ℕ) → drop {A = A} n [] ≡ []
drop_none zero = refl
drop_none (suc n) = refl

drop_more : {A : Type 0} (n m : ℕ) (xs : List A) → drop m (drop n xs) ≡ drop (n + m) xs
drop_more zero m xs = let same : 0 + m ≡ m = omega arith in ap (λ (k : ℕ). drop k xs) (sym same)
drop_more (suc n) m [] = drop_none m ∙ sym (drop_none (suc n + m))
drop_more (suc n) m (x ∷ xs) = let same : suc n + m ≡ suc (n + m) = omega arith in drop_more n m xs ∙ ap (λ (k : ℕ). drop k (x ∷ xs)) (sym same)

-- ## What the loop keeps

-- the whole is the lines so far, and then those of the rest
abbrev pub IsSoFar : Bytes → List Line → ℕ → ℕ → Type 0
IsSoFar text said at since = lines_in 0 0 0 text ≡ onto said (lines_in 0 at since (drop at text))

-- where a byte is left, the rest has one
pub rest_some : (text : Bytes) (at : ℕ) → at < length text → 0 < length (drop at text)
rest_some text at below = let long = length-drop at text in omega (arith, below, long)

pub at_start : (text : Bytes) (said : List Line) → said ≡ [] → IsSoFar text said 0 0
at_start text said none = rw none (sym (onto_none (lines_in 0 0 0 text)))

pub one_more : (text : Bytes) (said more : List Line) (at next since moment : ℕ) (line : Line) (size : ℕ) (last : Bool) → IsSoFar text said at since
    → row_at at since (drop at text) ≡ Ok (line, size) → last ≡ is_end line → last ≡ false → 0 < size → size ≤ length (drop at text) → moment ≡ moment_after since line → more ≡ said ++ line ∷ [] → next ≡ at + size
    → IsSoFar text more next moment
one_more text said more at next since moment line size last so row last_is other some le moment_is more_is next_is =
    rw (moment_is, more_is, next_is)
    (so
    ∙ (ap (onto said) (lines_on at since (drop at text) line size row (sym last_is ∙ other) some le)
    ∙ (onto_more said line (lines_in 0 (at + size) (moment_after since line) (drop size (drop at text)))
    ∙ ap (λ (rest : Bytes). onto (said ++ line ∷ []) (lines_in 0 (at + size) (moment_after since line) rest)) (drop_more at size text))))

onto_ok : (said later : List Line) → onto said (Ok later) ≡ Ok (said ++ later)
unfolding onto
onto_ok said later = refl

onto_err : (said : List Line) (fault : Fault) → onto said (Err fault) ≡ Err fault
unfolding onto
onto_err said fault = refl

-- the last line was put
pub all_said : (text : Bytes) (said more : List Line) (at since : ℕ) (line : Line) (size : ℕ) (last : Bool) → IsSoFar text said at since
    → row_at at since (drop at text) ≡ Ok (line, size) → last ≡ is_end line → last ≡ true → 0 < length (drop at text) → more ≡ said ++ line ∷ [] → lines_in 0 0 0 text ≡ Ok more
all_said text said more at since line size last so row last_is here some more_is =
    so ∙ (ap (onto said) (lines_last at since (drop at text) line size row (sym last_is ∙ here) some) ∙ (onto_ok said (line ∷ []) ∙ ap Ok (sym more_is)))

-- a line was refused
pub one_wrong : (text : Bytes) (said more : List Line) (at since : ℕ) (cause : ScriptRefused) → IsSoFar text said at since
    → Gives {A = Line × ℕ} (Err cause) (row_at at since (drop at text)) → 0 < length (drop at text) → Adds {A = Unit {0}} (Err cause) more (lines_in 0 0 0 text)
unfolding Gives Adds
one_wrong text said more at since (refused.Refused place kind) so gives some = so ∙ (ap (onto said) (lines_wrong at since (drop at text) (record { at = place; kind = kind }) gives some) ∙ onto_err said _)
one_wrong text said more at since refused.NoMemory so gives some = tt

nothing : (at since : ℕ) → lines_in 0 at since [] ≡ Err (record { at = at; kind = NO_END })
unfolding lines_in
nothing at since = refl

drop_whole : {A : Type 0} (n : ℕ) (xs : List A) → length xs ≤ n → drop n xs ≡ []
drop_whole zero [] le = refl
drop_whole zero (x ∷ xs) le = absurd (omega (arith, le))
drop_whole (suc n) [] le = refl
drop_whole (suc n) (x ∷ xs) le = drop_whole n xs (omega (arith, le))

-- no line is left, and none was the last
pub no_last : (text : Bytes) (said : List Line) (at since : ℕ) → IsSoFar text said at since → at ≤ length text → length text ≤ at → lines_in 0 0 0 text ≡ Err (record { at = length text; kind = NO_END })
no_last text said at since so le ge =
    let same : at ≡ length text = omega (arith, le, ge) in
    so ∙ (ap (λ (rest : Bytes). onto said (lines_in 0 at since rest)) (drop_whole at text ge) ∙ (ap (onto said) (nothing at since) ∙ (onto_err said _ ∙ ap (λ (k : ℕ). Err (record { at = k; kind = NO_END })) same)))
