-- The words of a command line.
use Rattle.std.proofs.Common.{◌≡◌, ◌<◌, ◌≤◌, ℕ, zero, suc, List, [], ◌∷◌, map, length, sym, ap, ◌∙◌, arith}
use Rattle.std.specs.Prelude.{get_or}
use Rattle.sc_tokens.specs.Bytes.{Bytes}
use Rattle.sc_replay.specs.Replaying.{IsReplay, replay_word}

-- four words of which the first is `replay`
pub words_replay : {S : Type 0} (f : S → Bytes) (words : List S) (word : S) → 4 ≤ length words → length words < 5 → word ≡ get_or words 0 word → f word ≡ replay_word → IsReplay (map f words)
words_replay f [] word least below first is = absurd (omega (arith, least))
words_replay f (a ∷ []) word least below first is = absurd (omega (arith, least))
words_replay f (a ∷ b ∷ []) word least below first is = absurd (omega (arith, least))
words_replay f (a ∷ b ∷ c ∷ []) word least below first is = absurd (omega (arith, least))
words_replay f (a ∷ b ∷ c ∷ d ∷ []) word least below first is = record {
  config = f b;
  dar = f c;
  script = f d;
  words_are = ap (λ (x : Bytes). x ∷ f b ∷ f c ∷ f d ∷ []) (sym (ap f first) ∙ is);
}
words_replay f (a ∷ b ∷ c ∷ d ∷ e ∷ more) word least below first is = absurd (omega (arith, below))

-- the first of them is
pub words_first : {S : Type 0} (f : S → Bytes) (words : List S) (word : S) → 4 ≤ length words → word ≡ get_or words 0 word → IsReplay (map f words) → f word ≡ replay_word
words_first f [] word least first is = absurd (omega (arith, least))
words_first f (a ∷ more) word least first is = ap f first ∙ ap (λ (ws : List Bytes). get_or ws 0 []) is.words_are

-- and the others name the texts
pub words_text : {S : Type 0} (f : S → Bytes) (words : List S) (word : S) (at : ℕ) → at < length words → word ≡ get_or words at word → f word ≡ get_or (map f words) at []
words_text f [] word at within is = absurd (omega (arith, within))
words_text f (a ∷ more) word zero within is = ap f is
words_text f (a ∷ more) word (suc at) within is = words_text f more word at (omega (arith, within)) is
