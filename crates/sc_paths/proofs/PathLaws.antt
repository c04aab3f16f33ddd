-- Who stays of a piece is the session that sends and those ahead of a later request.
use Rattle.std.proofs.Common.{◌≡◌, List, ◌++◌, refl, append_assoc}
use Rattle.std.specs.Prelude.{Option, None, Some, reverse}
use Rattle.std.proofs.lemmas.List.{reverse-append}
use Rattle.sc_value.specs.declared.ids.AppId.{AppId}
use Rattle.sc_paths.specs.Moments.{Moment}
use Rattle.sc_paths.specs.Pieces.{From_caller, From_callee, Piece, list_of_option as listed, recorders, along, end_of, piece_on_path as stayed, ahead}

reverse-listed : (app : Option AppId) → reverse (listed app) ≡ listed app
reverse-listed None = refl
reverse-listed (Some app) = refl

pub stayed-caller : (run : List Moment) (piece : Piece) → stayed run From_caller piece ≡ listed piece.caller ++ ahead run From_caller piece
unfolding stayed ahead along end_of
stayed-caller run piece = append_assoc (listed piece.caller) (recorders run piece) (listed piece.callee)

pub stayed-callee : (run : List Moment) (piece : Piece) → stayed run From_callee piece ≡ listed piece.callee ++ ahead run From_callee piece
unfolding stayed ahead along end_of
stayed-callee run piece =
    rw (reverse-append (listed piece.caller ++ recorders run piece) (listed piece.callee), reverse-append (listed piece.caller) (recorders run piece), reverse-listed piece.caller, reverse-listed piece.callee) refl
