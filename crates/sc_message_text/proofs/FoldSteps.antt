-- Folds, joined from the front.
use Rattle.std.proofs.Common.{◌≡◌, Some, None, List, [], ◌∷◌, refl, sym, ap}
use Rattle.std.specs.List.{fold}
use Rattle.sc_syntax.specs.declared.ending.Ending.{Ending}
use Rattle.sc_syntax.specs.declared.ending.Ending.TheVariants.{Any}
use Rattle.sc_tokens.specs.Bytes.{Bytes}
use Rattle.sc_syntax.specs.Lines.{end_of, pieces_at}
use Rattle.sc_syntax.specs.Folds.{with_piece as continued, all_continued, text_without_folds as joined}
use Rattle.sc_message_text.specs.Pieces.{pieces_behind}
use Rattle.sc_message_text.proofs.EndSteps.{pieces_last}

pub joined_is : (line first : Bytes) (rest : List Bytes) → pieces_at Any line ≡ first ∷ rest → joined line ≡ fold continued first rest
unfolding joined all_continued
joined_is line first rest h = ap all_continued h

pub behind_some : (ending : Ending) (text : Bytes) → pieces_behind ending (Some text) ≡ pieces_at ending text
unfolding pieces_behind
behind_some ending text = refl

pub behind_none : (ending : Ending) → pieces_behind ending None ≡ []
unfolding pieces_behind
behind_none ending = refl

-- one piece more
pub fold_more : (text piece : Bytes) (all more : List Bytes) → all ≡ piece ∷ more → fold continued text all ≡ fold continued (continued text piece) more
fold_more text piece all more h = ap (fold continued text) h

-- none more
pub fold_end : (text : Bytes) (all : List Bytes) → all ≡ [] → text ≡ fold continued text all
fold_end text all h = sym (ap (fold continued text) h)

-- a line without a fold
pub joined_plain : (line : Bytes) → end_of Any line ≡ None → joined line ≡ line
joined_plain line h = joined_is line line [] (pieces_last Any line h)
