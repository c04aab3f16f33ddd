-- Client transactions that are found by the numbers of their groups.
use Rattle.std.proofs.Common.{◌≡◌, ◌==◌, ℕ, Bool, true, false, not, ◌&&◌, ◌||◌, T, Some, None, refl, ap, sym, subst, ◌∙◌, arith, map}
use Rattle.std.specs.List.{find, filter}
use Rattle.std.specs.Option.{option_map_or}
use Rattle.std.proofs.lemmas.Bool.Decides.{nat_tests}
use Rattle.sc_value.specs.declared.ids.AppId.{AppId}
use Rattle.sc_value.specs.declared.message.Response.{Response}
use Rattle.sc_value.specs.Lists.{change_first}
use Rattle.sc_tokens.specs.Names.{same_bytes}
use Rattle.sc_parts.specs.declared.transactions.ClientItem.{ClientItem}
use Rattle.sc_tokens.specs.Bytes.{Bytes}
use Rattle.sc_model.specs.Names.{branch_text, counted_text}
use Rattle.sc_model.specs.Transactions.{has_provisional}
use Rattle.sc_book.specs.Words.{belongs}
use Rattle.sc_state.specs.declared.host.Client.{Client}
use Rattle.sc_state.specs.declared.host.Peer.{Peer}
use Rattle.sc_state.specs.declared.session.Session.{Session}
use Rattle.sc_state.specs.Hosts.{Host}
use Rattle.sc_state.specs.Groups.{text_number, branch_number, groups_of_client}
use Rattle.sc_state.specs.Keeping.{is_same_client, without_ended as without_ended}
use Rattle.sc_state.specs.Standing.{is_client, is_same_app, is_cancel_client, is_invite_client}
use Rattle.sc_hosts.specs.Transacting.{takes_from, is_over, state_of_client, method_of, is_answered_by, client_passed, pass_client, top_via, branch_of}
use Rattle.sc_transact.specs.Ringing.{is_ringing}
use Rattle.sc_transact.proofs.BranchTexts.{equal_text}
use Rattle.sc_book.proofs.Uses.{change_absent, change_found, found_passes, filter_within}

left : (a b : Bool) → (a && b) ≡ true → a ≡ true
left true b e = refl
left false b e = absurd (subst T (sym e) tt)

right : (a b : Bool) → (a && b) ≡ true → b ≡ true
right true b e = e
right false b e = absurd (subst T (sym e) tt)

or_right : (a b : Bool) → b ≡ true → (a || b) ≡ true
or_right true b e = refl
or_right false b e = e

same_number : (a b : ℕ) → (a == b) ≡ true → a ≡ b
same_number a b e = grind (arith, nat_tests, e)

itself : (a : ℕ) → (a == a) ≡ true
itself a = grind (arith, nat_tests)

-- the number of a branch is that of the part of its text that names it
pub numbered : (text counted salt : Bytes) (epoch : ℕ) (app : AppId) (branch : ℕ) → ((app : AppId) (branch : ℕ) → text ≡ branch_text salt epoch app branch → counted ≡ counted_text app branch)
    → same_bytes text (branch_text salt epoch app branch) ≡ true → text_number counted ≡ branch_number app branch
unfolding branch_number
numbered text counted salt epoch app branch part same = ap text_number (part app branch (equal_text text (branch_text salt epoch app branch) same))

pub answered_grouped : (group : ℕ) (salt : Bytes) (epoch : ℕ) (from : Peer) (response : Response)
    → ((app : AppId) (branch : ℕ) → option_map_or (λ via. same_bytes (branch_of via) (branch_text salt epoch app branch)) (top_via response.head.via) false ≡ true → group ≡ branch_number app branch)
    → (x : Client) → is_answered_by salt epoch from response x ≡ true → belongs groups_of_client group x ≡ true
unfolding is_answered_by
answered_grouped group salt epoch from response named x is =
    let number = named x.app x.branch (right (takes_from x.peer from && not (is_over (state_of_client x)) && same_bytes (method_of x.request) response.head.cseq.method) _ is) in
    or_right (x.app.serial == group) (branch_number x.app x.branch == group) (ap (λ n. branch_number x.app x.branch == n) number ∙ itself (branch_number x.app x.branch))

-- ## An item passes

pub passed_none : (app : AppId) (branch : ℕ) (cancelling : Bool) (item : ClientItem) (host : Host Session) → None ≡ find (is_client app branch cancelling) host.clients → without_ended host ≡ pass_client app branch cancelling item host
unfolding pass_client
passed_none app branch cancelling item host none =
    ap (λ l. without_ended (record host { clients = l })) (sym (change_absent (is_client app branch cancelling) (client_passed item) host.clients (sym none)))

-- the name of the one that was found
and_false : (a : Bool) → (a && false) ≡ false
and_false true = refl
and_false false = refl

other_kind : (app : AppId) (branch : ℕ) (x : Client) (c : Bool) → is_cancel_client x ≡ c → is_client app branch (not c) x ≡ false
unfolding is_client
other_kind app branch x true e = rw e (and_false (is_same_app x.app app && (x.branch == branch)))
other_kind app branch x false e = rw e (and_false (is_same_app x.app app && (x.branch == branch)))

kind_of : (app : AppId) (branch : ℕ) (c : Bool) (x : Client) → is_client app branch c x ≡ true → is_cancel_client x ≡ c
kind_of app branch true x is = by (is_cancel_client x) refl
  where
    by : (a : Bool) → is_cancel_client x ≡ a → is_cancel_client x ≡ true
    by true e = e
    by false e = absurd (subst T (sym is ∙ other_kind app branch x false e) tt)
kind_of app branch false x is = by (is_cancel_client x) refl
  where
    by : (a : Bool) → is_cancel_client x ≡ a → is_cancel_client x ≡ false
    by true e = absurd (subst T (sym is ∙ other_kind app branch x true e) tt)
    by false e = e

name_of : (app : AppId) (branch : ℕ) (c : Bool) (x : Client) → is_client app branch c x ≡ true → (x.app ≡ app) × (x.branch ≡ branch)
unfolding is_client
name_of app branch c x is =
    let one = left (is_same_app x.app app && (x.branch == branch)) _ is in
    let apps = left (is_same_app x.app app) (x.branch == branch) one in
    let host : x.app.host ≡ app.host = same_number x.app.host app.host (left (x.app.host == app.host) (x.app.serial == app.serial) apps) in
    let serial : x.app.serial ≡ app.serial = same_number x.app.serial app.serial (right (x.app.host == app.host) (x.app.serial == app.serial) apps) in
    let number : x.branch ≡ branch = same_number x.branch branch (right (is_same_app x.app app) (x.branch == branch) one) in
    let app_is : x.app ≡ app = ap (λ h. record { host = h; serial = x.app.serial }) host ∙ ap (λ s. record { host = app.host; serial = s }) serial in
    (app_is, number)

named_is : (app : AppId) (branch : ℕ) (cancelling : Bool) (x : Client) → is_client app branch cancelling x ≡ true → is_client x.app x.branch (is_cancel_client x) ≡ is_client app branch cancelling
named_is app branch cancelling x is =
    let name = name_of app branch cancelling x is in
    ap (λ a. is_client a x.branch (is_cancel_client x)) name.0 ∙ ap (λ n. is_client app n (is_cancel_client x)) name.1 ∙ ap (is_client app branch) (kind_of app branch cancelling x is)

pub passed_found : (app : AppId) (branch : ℕ) (cancelling : Bool) (item : ClientItem) (host : Host Session) (x own : Client) → Some x ≡ find (is_client app branch cancelling) host.clients → own ≡ client_passed item x
    → without_ended (record host { clients = change_first (is_same_client own) (λ _. own) host.clients }) ≡ pass_client app branch cancelling item host
unfolding pass_client client_passed
passed_found app branch cancelling item host x own found made =
    ap (λ c. without_ended (record host { clients = change_first (is_same_client c) (λ _. c) host.clients })) made
    ∙ ap (λ p. without_ended (record host { clients = change_first p (λ _. client_passed item x) host.clients })) (named_is app branch cancelling x (found_passes (is_client app branch cancelling) x host.clients (sym found)))
    ∙ ap (λ l. without_ended (record host { clients = l })) (change_found (is_client app branch cancelling) (client_passed item) x host.clients (sym found))

-- ## What rings

pub ringing_within : (app : AppId) (host : Host Session) → map (λ client. client.branch) (filter (is_ringing app) (filter (belongs groups_of_client app.serial) host.clients)) ≡ map (λ client. client.branch) (filter (is_ringing app) host.clients)
ringing_within app host = ap (λ l. map (λ client. client.branch) l) (filter_within (is_ringing app) (belongs groups_of_client app.serial) own host.clients)
  where
    own : (x : Client) → is_ringing app x ≡ true → belongs groups_of_client app.serial x ≡ true
    own x is = by (x.app.serial == app.serial) _ (right (x.app.host == app.host) (x.app.serial == app.serial) (left (is_same_app x.app app) (is_invite_client x) (left (is_same_app x.app app && is_invite_client x) (has_provisional x.passed) is)))
      where
        by : (a b : Bool) → a ≡ true → (a || b) ≡ true
        by true b e = refl
        by false b e = absurd (subst T (sym e) tt)
