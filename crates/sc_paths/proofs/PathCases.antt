-- Pieces of worked cases, who stays of them, and whom later requests visit.
use Rattle.std.specs.Prelude.{ℕ, List, [], ◌∷◌, Bool, ◌&&◌, not, None, Some, codes, map, take}
use Rattle.std.specs.Cmp.Lexicographic.{pointwise}
use Rattle.std.specs.List.{list_all}
use Rattle.sc_value.specs.declared.ids.AppId.{AppId}
use Rattle.sc_tokens.specs.Names.{same_bytes}
use Rattle.sc_parts.specs.declared.setup.Setup.{Setup}
use Rattle.sc_tokens.specs.Bytes.{Bytes}
use Rattle.sc_grammar.specs.Written.{address_text}
use Rattle.sc_hosts.specs.Transacting.{is_same_app}
use Rattle.sc_paths.specs.Moments.{Moment}
use Rattle.sc_paths.specs.Pieces.{Dialog, Direction, From_caller, From_callee, Piece, begins, goes_on, is_made, piece_on_path as stayed, ahead, record_routed, heads_at_end}
use Rattle.sc_paths.specs.LaterRequests.{Occurrence, carries, visits}
use Rattle.sc_paths.proofs.Trials as Trials

-- a later request: in which direction, which occurrence, and whom it visits
pub record Later : Type 0 where
  pub direction : Direction
  pub occurrence : Occurrence
  pub visited : List AppId

-- a piece, who of it stays in the caller's direction, and later requests
pub record Path : Type 0 where
  pub dialog : Dialog
  pub piece : Piece
  pub staying : List AppId
  pub later : List Later

unfoldable pub came : ℕ → Occurrence
came step = record { step = step; order = None }

unfoldable pub sent : ℕ → ℕ → Occurrence
sent step order = record { step = step; order = Some order }

unfoldable pub at : ℕ → ℕ → AppId
at host serial = record { host = host; serial = serial }

unfoldable pub same_apps : List AppId → List AppId → Bool
same_apps a b = pointwise is_same_app a b

unfoldable pub is_carried : Setup → List Moment → Path → Later → Bool
is_carried setup run path later =
    carries setup run path.dialog later.direction path.piece later.occurrence
    && same_apps (visits setup run later.occurrence) later.visited && same_apps (ahead run later.direction path.piece) later.visited

unfoldable pub is_piece : Setup → List Moment → Dialog → Piece → Bool
is_piece setup run dialog piece = begins run piece && goes_on setup.config 0 run piece && is_made setup run dialog piece

-- the Record-Routes at its end are those that are to be
unfoldable pub is_recorded : Setup → List Moment → Path → Bool
is_recorded setup run path =
    list_all (λ head. pointwise same_bytes (map address_text head.record_route) (map address_text (record_routed setup.config 0 run path.piece)))
    (heads_at_end setup run path.dialog path.piece)

unfoldable pub is_right : Setup → List Moment → Path → Bool
is_right setup run path =
    is_piece setup run path.dialog path.piece && is_recorded setup run path
    && same_apps (stayed run From_caller path.piece) path.staying && list_all (is_carried setup run path) path.later

-- ## A chain of three hosts, of which the first and the last stay

unfoldable pub chain_dialog : Dialog
chain_dialog = record { call_id = codes "c5"; caller = Some (codes "a"); callee = Some (codes "t9") }

unfoldable pub proxied_by : List AppId → Piece
proxied_by proxies = record { caller = None; proxies = proxies; callee = None }

unfoldable pub chain_path : List Later → Path
chain_path later = record {
  dialog = chain_dialog;
  piece = proxied_by (at 0 1 ∷ at 1 1 ∷ at 2 1 ∷ []);
  staying = at 0 1 ∷ at 2 1 ∷ [];
  later = later;
}

unfoldable pub from_caller : ℕ → Later
from_caller step = record { direction = From_caller; occurrence = came step; visited = at 0 1 ∷ at 2 1 ∷ [] }

unfoldable pub from_callee : ℕ → Later
from_callee step = record { direction = From_callee; occurrence = came step; visited = at 2 1 ∷ at 0 1 ∷ [] }

-- the ACK and the BYE of the caller; as the BYE has come, it waits in the first session
unfoldable pub chain_by_caller : List Moment → List Bool
chain_by_caller run =
    is_right Trials.chain_bye_of_caller_setup run (chain_path (from_caller 13 ∷ from_caller 16 ∷ []))
    ∷ same_apps (visits Trials.chain_bye_of_caller_setup (take 17 run) (came 16)) (at 0 1 ∷ []) ∷ []

-- the ACK of the caller, and the BYE of the callee, which does not keep to the way in the other direction. What is
-- no piece: one that begins behind the first session, one that passes over a session, and one that ends too early
unfoldable pub chain_by_callee : List Moment → List Bool
chain_by_callee run =
    is_right Trials.chain_bye_of_callee_setup run (chain_path (from_caller 13 ∷ from_callee 16 ∷ []))
    ∷ not (carries Trials.chain_bye_of_callee_setup run chain_dialog From_caller (proxied_by (at 0 1 ∷ at 1 1 ∷ at 2 1 ∷ [])) (came 16))
    ∷ not (begins run (proxied_by (at 1 1 ∷ at 2 1 ∷ [])))
    ∷ not (goes_on Trials.chain_bye_of_callee_setup.config 0 run (proxied_by (at 0 1 ∷ at 2 1 ∷ [])))
    ∷ not (is_made Trials.chain_bye_of_callee_setup run chain_dialog (proxied_by (at 0 1 ∷ at 1 1 ∷ []))) ∷ []

-- ## A call that a session answers: the ACK and the BYE come to it

unfoldable pub called_path : Path
called_path = record {
  dialog = record { call_id = codes "c5"; caller = Some (codes "a"); callee = Some (codes "s1-0-1-1") };
  piece = record { caller = None; proxies = []; callee = Some (at 0 1) };
  staying = at 0 1 ∷ [];
  later = record { direction = From_caller; occurrence = came 2; visited = at 0 1 ∷ [] } ∷ record { direction = From_caller; occurrence = came 3; visited = at 0 1 ∷ [] } ∷ [];
}

unfoldable pub called : List Moment → List Bool
called run = is_right Trials.called_side_dialog_setup run called_path ∷ []

-- ## A fork: one piece of two dialogs, and of no other

unfoldable pub fork_dialog : Bytes → Dialog
fork_dialog tag = record { call_id = codes "c5"; caller = Some (codes "a"); callee = Some tag }

unfoldable pub fork_path : Bytes → Path
fork_path tag = record { dialog = fork_dialog tag; piece = proxied_by (at 0 1 ∷ []); staying = at 0 1 ∷ []; later = [] }

unfoldable pub fork : List Moment → List Bool
fork run =
    is_right Trials.fork_setup run (fork_path (codes "t1")) ∷ is_right Trials.fork_setup run (fork_path (codes "t2"))
    ∷ not (is_made Trials.fork_setup run (fork_dialog (codes "t3")) (proxied_by (at 0 1 ∷ []))) ∷ []

-- ## A spiral: the first host twice

unfoldable pub spiral_path : Path
spiral_path = record {
  dialog = chain_dialog;
  piece = proxied_by (at 0 1 ∷ at 1 1 ∷ at 0 2 ∷ []);
  staying = at 0 1 ∷ at 0 2 ∷ [];
  later = record { direction = From_caller; occurrence = came 9; visited = at 0 1 ∷ at 0 2 ∷ [] } ∷ [];
}

unfoldable pub spiral : List Moment → List Bool
spiral run = is_right Trials.spiral_setup run spiral_path ∷ []

-- ## An INVITE that left by a proxy that does not stay, and came back: two pieces of one dialog

unfoldable pub back_path : Path
back_path = record {
  dialog = chain_dialog;
  piece = proxied_by (at 2 1 ∷ []);
  staying = at 2 1 ∷ [];
  later = record { direction = From_caller; occurrence = came 9; visited = at 2 1 ∷ [] } ∷ [];
}

-- the BYE keeps to the way of the second
unfoldable pub came_back : List Moment → List Bool
came_back run =
    is_right Trials.came_back_setup run back_path
    ∷ is_right Trials.came_back_setup run (record { dialog = chain_dialog; piece = proxied_by (at 0 1 ∷ []); staying = []; later = [] })
    ∷ not (goes_on Trials.came_back_setup.config 0 run (proxied_by (at 0 1 ∷ at 2 1 ∷ [])))
    ∷ not (carries Trials.came_back_setup run chain_dialog From_caller (proxied_by (at 0 1 ∷ [])) (came 9)) ∷ []

-- ## A foreign Route is passed over: the request is queued in a session that did not stay, and keeps to no way

unfoldable pub passed_over : List Moment → List Bool
passed_over run =
    is_right Trials.passed_over_setup run (record { dialog = chain_dialog; piece = proxied_by (at 0 1 ∷ []); staying = []; later = [] })
    ∷ not (carries Trials.passed_over_setup run chain_dialog From_caller (proxied_by (at 0 1 ∷ [])) (came 4))
    ∷ same_apps (visits Trials.passed_over_setup run (came 4)) (at 0 1 ∷ []) ∷ []

-- ## A screen, a back-to-back user agent and a recorder: two dialogs

-- the caller's: the screen leaves, the agent answers. The ACK comes to the agent, and the BYE of the agent leaves
unfoldable pub first_leg : Path
first_leg = record {
  dialog = record { call_id = codes "7f3a@127.0.0.1"; caller = Some (codes "q1"); callee = Some (codes "s1-1-1-1") };
  piece = record { caller = None; proxies = at 0 1 ∷ []; callee = Some (at 1 1) };
  staying = at 1 1 ∷ [];
  later =
      record { direction = From_caller; occurrence = came 13; visited = at 1 1 ∷ [] }
      ∷ record { direction = From_callee; occurrence = sent 18 0; visited = [] } ∷ [];
}

-- the agent's own: the recorder stays. The ACK of the agent goes by the recorder, and the callee's BYE comes by it
unfoldable pub second_leg : Path
second_leg = record {
  dialog = record { call_id = codes "s1-1-1-2@127.0.0.1"; caller = Some (codes "s1-1-1-3"); callee = Some (codes "t9") };
  piece = record { caller = Some (at 1 1); proxies = at 2 1 ∷ []; callee = None };
  staying = at 1 1 ∷ at 2 1 ∷ [];
  later =
      record { direction = From_caller; occurrence = sent 14 0; visited = at 2 1 ∷ [] }
      ∷ record { direction = From_callee; occurrence = came 16; visited = at 2 1 ∷ at 1 1 ∷ [] } ∷ [];
}

-- the two legs are no one piece
unfoldable pub ordinary_call : List Moment → List Bool
ordinary_call run =
    is_right Trials.ordinary_call_setup run first_leg ∷ is_right Trials.ordinary_call_setup run second_leg
    ∷ not (goes_on Trials.ordinary_call_setup.config 0 run (proxied_by (at 0 1 ∷ at 1 1 ∷ at 2 1 ∷ []))) ∷ []

-- ## The screen refuses: no dialog is made

unfoldable pub screened : List Moment → List Bool
screened run =
    begins run (record { caller = None; proxies = []; callee = Some (at 0 1) })
    ∷ not (is_made Trials.call_screened_setup run (record { call_id = codes "7f3a@127.0.0.1"; caller = Some (codes "q1"); callee = Some (codes "s1-0-1-1") }) (record { caller = None; proxies = []; callee = Some (at 0 1) }))
    ∷ []
