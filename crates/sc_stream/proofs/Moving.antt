-- Bytes that move to the front of a list.
use Rattle.std.proofs.Common.{◌≡◌, ℕ, ◌+◌, ◌-◌, ◌≤◌, length, take, drop, ap, ◌∙◌, arith, length-drop, take_all}
use Rattle.std.proofs.Math.Seq.{paste}
use Rattle.std.proofs.lemmas.List.Edits.{take-paste}
use Rattle.sc_tokens.specs.Bytes.{Bytes}

-- what stands behind so many bytes, moved over them
pub front_moved : (kept : Bytes) (len count : ℕ) → len ≡ length kept → count ≤ length kept → take (len - count) (paste kept 0 (drop count kept) (len - count)) ≡ drop count kept
front_moved kept len count all there =
    let same : len - count ≡ 0 + (len - count) = omega arith in
    let rest : length (drop count kept) ≡ len - count = omega (arith, length-drop count kept, all) in
    ap (λ k. take k (paste kept 0 (drop count kept) (len - count))) same ∙ take-paste kept 0 (drop count kept) (len - count) (omega arith) (omega (arith, rest))
    ∙ take_all (len - count) (drop count kept) (omega (arith, rest))
