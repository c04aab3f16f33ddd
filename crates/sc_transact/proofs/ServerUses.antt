-- Server transactions that are found by the numbers of their groups.
use Rattle.std.proofs.Common.{◌≡◌, ◌==◌, ℕ, Bool, true, false, not, ◌&&◌, ◌||◌, T, Option, Some, None, List, [], ◌∷◌, length, refl, ap, sym, subst, ◌∙◌, arith}
use Rattle.std.specs.List.{find}
use Rattle.std.specs.Option.{option_map_or}
use Rattle.std.proofs.lemmas.Bool.Decides.{nat_tests}
use Rattle.sc_value.specs.declared.parts.Via.{Via}
use Rattle.sc_value.specs.declared.message.Request.{Request}
use Rattle.sc_value.specs.Lists.{change_first}
use Rattle.sc_tokens.specs.Names.{same_bytes, same_name}
use Rattle.sc_parts.specs.declared.transactions.ServerItem.{ServerItem}
use Rattle.sc_book.specs.Words.{belongs}
use Rattle.sc_state.specs.declared.host.Peer.{Peer}
use Rattle.sc_state.specs.declared.host.Server.{Server}
use Rattle.sc_state.specs.declared.session.Session.{Session}
use Rattle.sc_state.specs.Hosts.{Host}
use Rattle.sc_state.specs.Groups.{text_number, via_number, groups_of_server}
use Rattle.sc_state.specs.Keeping.{without_ended as without_ended}
use Rattle.sc_state.specs.Standing.{is_server, is_invite_server, state_of_server}
use Rattle.sc_hosts.specs.Transacting.{takes_from, is_over, is_completed, method_of, same_top, same_via, port_of, is_kin, is_cancelled_by, is_acked_by, is_repeated_by, server_passed, pass_server, top_via, branch_of}
use Rattle.sc_transact.proofs.BranchTexts.{equal_text}
use Rattle.sc_book.proofs.Uses.{change_absent, change_found, found_passes}

left : (a b : Bool) → (a && b) ≡ true → a ≡ true
left true b e = refl
left false b e = absurd (subst T (sym e) tt)

right : (a b : Bool) → (a && b) ≡ true → b ≡ true
right true b e = e
right false b e = absurd (subst T (sym e) tt)

or_right : (a b : Bool) → b ≡ true → (a || b) ≡ true
or_right true b e = refl
or_right false b e = e

same_number : (a b : ℕ) → (a == b) ≡ true → a ≡ b
same_number a b e = grind (arith, nat_tests, e)

itself : (a : ℕ) → (a == a) ≡ true
itself a = grind (arith, nat_tests)

-- the same top Via has the same number
tops_same : (x y : Option Via) → option_map_or (λ v. option_map_or (same_via v) y false) x false ≡ true → option_map_or (λ via. text_number (branch_of via)) x 0 ≡ option_map_or (λ via. text_number (branch_of via)) y 0
unfolding same_via
tops_same None y e = absurd (subst T (sym e) tt)
tops_same (Some v) None e = absurd (subst T (sym e) tt)
tops_same (Some v) (Some w) e =
    ap text_number (equal_text (branch_of v) (branch_of w) (left (same_bytes (branch_of v) (branch_of w)) (same_name v.host w.host) (left (same_bytes (branch_of v) (branch_of w) && same_name v.host w.host) (port_of v == port_of w) e)))

number_same : (a b : List Via) → same_top a b ≡ true → via_number a ≡ via_number b
unfolding same_top via_number
number_same a b is = tops_same (top_via a) (top_via b) is

kin_grouped : (from : Peer) (request : Request) (x : Server) → is_kin from request x ≡ true → belongs groups_of_server (via_number request.head.via) x ≡ true
unfolding is_kin
kin_grouped from request x is =
    let number = number_same x.request.head.via request.head.via (right (takes_from x.peer from && not (is_over (state_of_server x))) (same_top x.request.head.via request.head.via) is) in
    or_right (x.app.serial == via_number request.head.via) (via_number x.request.head.via == via_number request.head.via) (ap (λ n. n == via_number request.head.via) number ∙ itself (via_number request.head.via))

pub cancelled_grouped : (from : Peer) (request : Request) (x : Server) → is_cancelled_by from request x ≡ true → belongs groups_of_server (via_number request.head.via) x ≡ true
cancelled_grouped from request x is = kin_grouped from request x (left (is_kin from request x) (is_invite_server x) is)

pub acked_grouped : (from : Peer) (request : Request) (x : Server) → is_acked_by from request x ≡ true → belongs groups_of_server (via_number request.head.via) x ≡ true
acked_grouped from request x is = kin_grouped from request x (left (is_kin from request x) (is_invite_server x) (left (is_kin from request x && is_invite_server x) (is_completed (state_of_server x)) is))

pub repeated_grouped : (from : Peer) (request : Request) (x : Server) → is_repeated_by from request x ≡ true → belongs groups_of_server (via_number request.head.via) x ≡ true
repeated_grouped from request x is = kin_grouped from request x (left (is_kin from request x) (same_bytes (method_of x.request) (method_of request)) is)

-- ## An item passes

pub passed_none : (event : ℕ) (item : ServerItem) (host : Host Session) → None ≡ find (is_server event) host.servers → without_ended host ≡ pass_server event item host
unfolding pass_server
passed_none event item host none = ap (λ l. without_ended (record host { servers = l })) (sym (change_absent (is_server event) (server_passed item) host.servers (sym none)))

pub passed_found : (event : ℕ) (item : ServerItem) (host : Host Session) (x own : Server) → Some x ≡ find (is_server event) host.servers → own ≡ server_passed item x
    → without_ended (record host { servers = change_first (is_server own.event) (λ _. own) host.servers }) ≡ pass_server event item host
unfolding pass_server server_passed
passed_found event item host x own found made =
    ap (λ s. without_ended (record host { servers = change_first (is_server s.event) (λ _. s) host.servers })) made
    ∙ ap (λ n. without_ended (record host { servers = change_first (is_server n) (λ _. server_passed item x) host.servers })) (same_number x.event event (found_passes (is_server event) x host.servers (sym found)))
    ∙ ap (λ l. without_ended (record host { servers = l })) (change_found (is_server event) (server_passed item) x host.servers (sym found))

-- no request was taken before by a host without server transactions
pub none_repeated : (from : Peer) (request : Request) (servers : List Server) → length servers ≡ 0 → find (is_repeated_by from request) servers ≡ None
none_repeated from request [] none = refl
none_repeated from request (x ∷ xs) none = absurd (omega (arith, none))
