-- Blanks at the back, counted from the end.
use Rattle.std.proofs.Common.{◌≡◌, ℕ, true, false, ◌-◌, ◌≤◌, ◌<◌, length, take, get_or, arith}
use Rattle.std.specs.List.{suffix_len}
use Rattle.std.proofs.lemmas.List.Sums.{suffix_len-take_yes, suffix_len-take_no}
use Rattle.sc_tokens.specs.Tokens.{is_blank}
use Rattle.sc_tokens.specs.Bytes.{Bytes}

pub back_yes : (text : Bytes) (len : ℕ) → 0 < len → len ≤ length text → is_blank (get_or text (len - 1) 0) ≡ true
    → len - 1 - suffix_len is_blank (take (len - 1) text) ≡ len - suffix_len is_blank (take len text)
back_yes text len some within h = let step = suffix_len-take_yes is_blank text len 0 some within h in omega (arith, step)

pub back_no : (text : Bytes) (len : ℕ) → 0 < len → len ≤ length text → is_blank (get_or text (len - 1) 0) ≡ false → suffix_len is_blank (take len text) ≡ 0
back_no text len some within h = suffix_len-take_no is_blank text len 0 some within h
