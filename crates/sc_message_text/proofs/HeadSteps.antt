-- Header lines, judged from the front.
use Rattle.std.proofs.Common.{◌≡◌, ℕ, Ok, Err, Option, Some, None, Result, List, [], ◌∷◌, ◌+◌, ◌≤◌, ◌^◌, length, Bor, refl, sym, ap, ◌∙◌, arith}
use Rattle.std.specs.Prelude.{IfSome}
use Rattle.std.specs.Option.{option_copied, option_map_or}
use Rattle.sc_syntax.specs.declared.ending.Ending.TheVariants.{Unfolded}
use Rattle.sc_syntax.specs.declared.left.Left.{Left}
use Rattle.sc_tokens.specs.Bytes.{Bytes}
use Rattle.sc_syntax.specs.UriParts.{Fault, then_read}
use Rattle.sc_syntax.specs.Lines.{lines_behind}
use Rattle.sc_syntax.specs.Folds.{text_without_folds as joined}
use Rattle.sc_syntax.specs.Judging.{left_with_line as judged}
use Rattle.sc_syntax.specs.Messages.{fault_at_place as placed, all_judged}
use Rattle.sc_message_text.specs.declared.refused.MessageRefused.{MessageRefused}
use Rattle.sc_message_text.specs.declared.refused.MessageRefused.TheVariants as messages
use Rattle.sc_message_text.specs.declared.refused.LineRefused.{LineRefused}
use Rattle.sc_message_text.specs.declared.refused.LineRefused.TheVariants as refusals
use Rattle.sc_message_text.specs.Answers.{HasKind, HasPlace, placed_refusal}
use Rattle.sc_message_text.specs.Pieces.{pieces_behind}

-- a kind at its place
pub refusal_placed : {X : Type 0} (at : ℕ) (refused : LineRefused) (read : Result X ℕ) → HasKind refused read → HasPlace (placed_refusal at refused) (placed at read)
unfolding placed
refusal_placed at (refusals.Fault kind) read h = ap (placed at) h
refusal_placed at refusals.NoMemory read h = tt

-- what a line that is judged so makes of those behind it
abbrev then_all : ℕ → Bytes → List Bytes → Result Left Fault → Result Left Fault
then_all at line more read = then_read read (λ next. all_judged (at + length line + 2) next more)

one_line : (at : ℕ) (left : Left) (line : Bytes) (all more : List Bytes) → all ≡ line ∷ more → all_judged at left all ≡ then_all at line more (placed at (judged left (joined line)))
unfolding all_judged
one_line at left line all more is = ap (all_judged at left) is

pub line_taken : (at : ℕ) (left next : Left) (line : Bytes) (all more : List Bytes) → all ≡ line ∷ more → placed at (judged left (joined line)) ≡ Ok next → all_judged (at + length line + 2) next more ≡ all_judged at left all
unfolding then_read
line_taken at left next line all more is h = sym (one_line at left line all more is ∙ ap (then_all at line more) h)

line_at_fault : (at : ℕ) (fault : Fault) (left : Left) (line : Bytes) (all more : List Bytes) → all ≡ line ∷ more → placed at (judged left (joined line)) ≡ Err fault → all_judged at left all ≡ Err fault
unfolding then_read
line_at_fault at fault left line all more is h = one_line at left line all more is ∙ ap (then_all at line more) h

pub line_refused : (at : ℕ) (refused : MessageRefused) (left : Left) (line : Bytes) (all more : List Bytes) (whole : Result Left Fault) → all ≡ line ∷ more → HasPlace refused (placed at (judged left (joined line))) → all_judged at left all ≡ whole → HasPlace refused whole
line_refused at (messages.Refused place kind) left line all more whole is h same = sym same ∙ line_at_fault at (record { at = place; kind = kind }) left line all more is h
line_refused at messages.NoMemory left line all more whole is h same = tt

-- the next line's place fits too
pub room_on : (place len n : ℕ) (rest : Option (Bor Bytes)) → place + n ≤ 2 ^ 63 → IfSome rest (λ r. len + 2 + length r.now ≡ n) → option_map_or (λ t. place + len + 2 + length t) (option_copied rest) 0 ≤ 2 ^ 63
room_on place len n None fits less = omega (arith)
room_on place len n (Some r) fits less = omega (arith, fits, less)

pub room_of : (place : ℕ) (rest : Option (Bor Bytes)) (text : Bor Bytes) → rest ≡ Some text → option_map_or (λ t. place + length t) (option_copied rest) 0 ≤ 2 ^ 63 → place + length text.now ≤ 2 ^ 63
room_of place rest text is fits = let same = ap (λ o. option_map_or (λ t. place + length t) (option_copied o) 0) is in omega (arith, same, fits)

pub lines_end : (at : ℕ) (left : Left) (all : List Bytes) (whole : Result Left Fault) → all ≡ [] → all_judged at left all ≡ whole → whole ≡ Ok left
unfolding all_judged
lines_end at left all whole is same = sym same ∙ ap (all_judged at left) is

pub lines_are : (rest : Option Bytes) → lines_behind rest ≡ pieces_behind Unfolded rest
unfolding lines_behind pieces_behind
lines_are None = refl
lines_are (Some text) = refl
