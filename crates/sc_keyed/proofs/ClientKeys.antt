-- What keeps the keys of client transactions apart.
use Rattle.std.proofs.Common.{◌≡◌, ◌⊎◌, inl, inr, ◌≤◌, ◌<◌, ℕ, ◌++◌, Bool, true, false, Option, None, Some, List, [], ◌∷◌, refl, sym, ap, subst, ◌∙◌, arith}
use Rattle.std.specs.Prelude.{◌==◌, ◌&&◌, cond, not, is_some, is_none, option_map, filter}
use Rattle.std.proofs.lemmas.Bool.Decides.{nat_tests}
use Rattle.sc_value.specs.Lists.{change_first}
use Rattle.sc_value.specs.declared.ids.AppId.{AppId}
use Rattle.sc_parts.specs.declared.transactions.ClientItem.{ClientItem}
use Rattle.sc_state.specs.Keeping.{is_same_client}
use Rattle.sc_state.specs.Standing.{is_client, is_cancel_client, is_invite_client, is_same_app}
use Rattle.sc_state.specs.declared.host.Client.{Client}
use Rattle.sc_model.specs.Transactions.{Found, NOTHING, cancel_moment, client_out, decision, first_in_time, found_with, lets_cancel_go, moment_of, out_from, timer_m, told_accepted}
use Rattle.sc_model.specs.DialogRequests.{cancel}
use Rattle.sc_hosts.specs.Messages.{cancel_of, kin}
use Rattle.sc_hosts.specs.TakingResponses.{cancelling}
use Rattle.sc_hosts.specs.Transacting.{client_passed, out_of_client}
use Rattle.sc_keyed.specs.Keyed.{AreApart, IsIn}
use Rattle.sc_keyed.proofs.Apart.{apart-append, apart-changed, apart-filter, in-append, in-changed, in-filter, one-of}

-- ## Keys

pub both-same : (p q : Bool) → (p && q) ≡ true → (p ≡ true) × (q ≡ true)
both-same true q is = (refl, is)
both-same false q is = cc

bool-is : (kind cancelling : Bool) → cond kind cancelling (not cancelling) ≡ true → kind ≡ cancelling
bool-is true cancelling is = sym is
bool-is false true is = cc
bool-is false false is = refl

pub app-is : (a b : AppId) → is_same_app a b ≡ true → a ≡ b
app-is a b is = grind (arith, nat_tests, is)

app-itself : (a : AppId) → is_same_app a a ≡ true
app-itself a = grind (arith, nat_tests)

pub equal : (a b : ℕ) → (a == b) ≡ true → a ≡ b
equal a b is = grind (arith, nat_tests, is)

number-itself : (n : ℕ) → (n == n) ≡ true
number-itself n = grind (arith, nat_tests)

pub none-else : (b : Bool) → (b ≡ true → ⊥) → b ≡ false
none-else true never = absurd (never refl)
none-else false never = refl

clash : (b : Bool) → b ≡ true → b ≡ false → ⊥
clash b p q = cc

same : (n : ℕ) → n ≤ n
same n = omega arith

-- a client of this key
pub record HasKey (app : AppId) (branch : ℕ) (cancelling : Bool) (client : Client) : Type 0 where
  pub app_is : client.app ≡ app
  pub branch_is : client.branch ≡ branch
  pub kind_is : is_cancel_client client ≡ cancelling

-- what the test asks
client-test : (app : AppId) (branch : ℕ) (cancelling : Bool) (client : Client) (kind : Bool) → is_cancel_client client ≡ kind
    → is_client app branch cancelling client ≡ (is_same_app client.app app && client.branch == branch && cond kind cancelling (not cancelling))
unfolding is_client
client-test app branch cancelling client true is = rw is refl
client-test app branch cancelling client false is = rw is refl

pub key-is : (app : AppId) (branch : ℕ) (cancelling : Bool) (client : Client) → is_client app branch cancelling client ≡ true
    → HasKey app branch cancelling client
key-is app branch cancelling client is =
    let first = both-same (is_same_app client.app app && client.branch == branch) (cond (is_cancel_client client) cancelling (not cancelling)) (sym (client-test app branch cancelling client (is_cancel_client client) refl) ∙ is) in
    let second = both-same (is_same_app client.app app) (client.branch == branch) first.0 in
    record { app_is = app-is client.app app second.0; branch_is = equal client.branch branch second.1; kind_is = bool-is (is_cancel_client client) cancelling first.1 }

pub same-test : (app : AppId) (branch : ℕ) (cancelling : Bool) (client : Client) → is_client app branch cancelling client ≡ true
    → is_same_client client ≡ is_client app branch cancelling
same-test app branch cancelling client is =
    let key = key-is app branch cancelling client is in rw (key.app_is, key.branch_is, key.kind_is) refl

pub client-itself : (client : Client) → is_same_client client client ≡ true
client-itself client =
    client-test client.app client.branch (is_cancel_client client) client (is_cancel_client client) refl ∙ rw (app-itself client.app, number-itself client.branch) (kind (is_cancel_client client))
  where
    kind : (b : Bool) → cond b b (not b) ≡ true
    kind true = refl
    kind false = refl

pub same-key : (other client : Client) → other.app ≡ client.app → other.branch ≡ client.branch
    → is_cancel_client other ≡ is_cancel_client client → is_same_client other client ≡ true
same-key other client app branch kind = rw (app, branch, kind) (client-itself client)

-- ## Whether its CANCEL went

pub IsCancelled : Client → Type 0
IsCancelled client = is_some (cancel_moment client.passed) ≡ true

some-mapped : (found : Option (Found ClientItem)) → is_some (option_map (λ (f : Found ClientItem). moment_of f.item) found) ≡ is_some found
some-mapped None = refl
some-mapped (Some f) = refl

found-more : (item : ClientItem) (passes : Bool) (found : Option (Found ClientItem)) → is_some found ≡ true → is_some (found_with item passes found) ≡ true
unfolding found_with
found-more item passes None is = cc
found-more item passes (Some f) is = refl

found-now : (item : ClientItem) (passes : Bool) (found : Option (Found ClientItem)) → passes ≡ true → is_some (found_with item passes found) ≡ true
unfolding found_with
found-now item true None is = refl
found-now item false None is = cc
found-now item passes (Some f) is = refl

cancelled-more : (item : ClientItem) (client : Client) → IsCancelled client → IsCancelled (client_passed item client)
unfolding IsCancelled client_passed cancel_moment first_in_time
cancelled-more item client is =
    some-mapped _ ∙ found-more item (lets_cancel_go client.passed item) (first_in_time lets_cancel_go client.passed) (sym (some-mapped _) ∙ is)

cancelled-now : (item : ClientItem) (client : Client) → lets_cancel_go client.passed item ≡ true → IsCancelled (client_passed item client)
unfolding IsCancelled client_passed cancel_moment first_in_time
cancelled-now item client lets = some-mapped _ ∙ found-now item (lets_cancel_go client.passed item) (first_in_time lets_cancel_go client.passed) lets

-- it is sent where it may go and didn't
pub record MaySend (client : Client) (item : ClientItem) : Type 0 where
  pub invite : is_invite_client client ≡ true
  pub unsent : is_none (cancel_moment client.passed) ≡ true
  pub lets : lets_cancel_go client.passed item ≡ true

may-by : (client : Client) (item : ClientItem) (found : Option (Found ClientItem))
    → (out_from (is_invite_client client) client.sent client.passed item found).cancel ≡ true → MaySend client item
unfolding out_from
may-by client item None is =
    let first = both-same (is_invite_client client && is_none (cancel_moment client.passed)) (lets_cancel_go client.passed item) is in
    let second = both-same (is_invite_client client) (is_none (cancel_moment client.passed)) first.0 in
    record { invite = second.0; unsent = second.1; lets = first.1 }
may-by client item (Some decided) is = absurd (quiet (is_some (timer_m (is_invite_client client) decided)) is)
  where
    quiet : (b : Bool) → (cond b (record NOTHING { tell = told_accepted item }) NOTHING).cancel ≡ true → ⊥
    quiet true is = cc
    quiet false is = cc

pub may-send : (client : Client) (item : ClientItem) → (out_of_client client item).cancel ≡ true → MaySend client item
unfolding out_of_client client_out
may-send client item is = may-by client item (decision (is_invite_client client) client.sent client.passed) is

not-both : (client : Client) → is_none (cancel_moment client.passed) ≡ true → IsCancelled client → ⊥
unfolding IsCancelled
not-both client none is = by (cancel_moment client.passed) none is
  where
    by : (found : Option ℕ) → is_none found ≡ true → is_some found ≡ true → ⊥
    by None p q = cc
    by (Some n) p q = cc

kind-of-cancel : (now : ℕ) (client : Client) → is_cancel_client (cancelling now client) ≡ true
unfolding cancelling cancel_of kin cancel
kind-of-cancel now client = refl

-- ## Clients of a host

-- the number was drawn in a session whose last one is this, or the session lives no more
unfoldable pub IsDrawnBy : ℕ → Option ℕ → Type 0
IsDrawnBy n None = Unit {0}
IsDrawnBy n (Some last) = n ≤ last

-- the clients of the host of this number whose last serial is this, and where sessions drew up to these numbers: each is
-- of a session of it, on a branch that was drawn there; those of a session whose turn gives orders are on branches up to a number;
-- and a CANCEL's stands beside an INVITE's whose CANCEL went
pub record AreKeyed (Own : AppId → Type 0) (low number last : ℕ) (counters : ℕ → Option ℕ) (clients : List Client) : Type 0 where
  pub here : (client : Client) → IsIn client clients → client.app.host ≡ number
  pub given : (client : Client) → IsIn client clients → client.app.serial ≤ last
  pub drawn : (client : Client) → IsIn client clients → IsDrawnBy client.branch (counters client.app.serial)
  pub below : (client : Client) → IsIn client clients → Own client.app → client.branch ≤ low
  pub apart : AreApart is_same_client clients
  pub cancelled : (c d : Client) → IsIn c clients → IsIn d clients → d.app ≡ c.app → d.branch ≡ c.branch → is_cancel_client c ≡ true → is_cancel_client d ≡ false → IsCancelled d

-- this one was that one
pub record CameOf (client before : Client) : Type 0 where
  pub app : client.app ≡ before.app
  pub branch : client.branch ≡ before.branch
  pub kind : is_cancel_client client ≡ is_cancel_client before
  pub more : IsCancelled before → IsCancelled client

came-same : (client : Client) → CameOf client client
came-same client = record { app = refl; branch = refl; kind = refl; more = λ is. is }

came-passed : (item : ClientItem) (client : Client) → CameOf (client_passed item client) client
unfolding client_passed
came-passed item client = record { app = refl; branch = refl; kind = refl; more = cancelled-more item client }

module _ (Own : AppId → Type 0) (low number last : ℕ) (counters : ℕ → Option ℕ) where
  -- those that are left of others
  pub keyed-of : (clients after : List Client) → AreApart is_same_client after
      → ((client : Client) → IsIn client after → (before : Client) × IsIn before clients × CameOf client before)
      → AreKeyed Own low number last counters clients → AreKeyed Own low number last counters after
  keyed-of clients after apart came keyed = record {
    here = λ client within. let c = came client within in ap (λ (a : AppId). a.host) c.2.app ∙ keyed.here c.0 c.1;
    given = λ client within. let c = came client within in subst (λ (a : AppId). a.serial ≤ last) (sym c.2.app) (keyed.given c.0 c.1);
    drawn = λ client within. let c = came client within in
        subst (λ (a : AppId). IsDrawnBy client.branch (counters a.serial)) (sym c.2.app) (subst (λ (n : ℕ). IsDrawnBy n (counters c.0.app.serial)) (sym c.2.branch) (keyed.drawn c.0 c.1));
    below = λ client within own. let c = came client within in subst (λ (n : ℕ). n ≤ low) (sym c.2.branch) (keyed.below c.0 c.1 (subst Own c.2.app own));
    apart = apart;
    cancelled = λ c d in-c in-d app branch kind other.
        let e = came c in-c in let f = came d in-d in
        f.2.more (keyed.cancelled e.0 f.0 e.1 f.1 (sym f.2.app ∙ app ∙ e.2.app) (sym f.2.branch ∙ branch ∙ e.2.branch) (sym e.2.kind ∙ kind) (sym f.2.kind ∙ other));
  }

  came-by : (test : Client → Bool) (item : ClientItem) (clients : List Client) (client : Client)
      → ((y : Client) × IsIn y clients × (client ≡ client_passed item y)) ⊎ (IsIn client clients × (test client ≡ false))
      → (before : Client) × IsIn before clients × CameOf client before
  came-by test item clients client (inl one) = (one.0, one.1, subst (λ (c : Client). CameOf c one.0) (sym one.2) (came-passed item one.0))
  came-by test item clients client (inr other) = (client, other.0, came-same client)

  -- an item passes one, and some are kept
  pub keyed-passed : (app : AppId) (branch : ℕ) (cancelling : Bool) (item : ClientItem) (kept : Client → Bool) (clients : List Client)
      → AreKeyed Own low number last counters clients
      → AreKeyed Own low number last counters (filter kept (change_first (is_client app branch cancelling) (client_passed item) clients))
  unfolding client_passed is_client
  keyed-passed app branch cancelling item kept clients keyed =
      keyed-of clients (filter kept (change_first (is_client app branch cancelling) (client_passed item) clients))
      (apart-filter is_same_client kept (change_first (is_client app branch cancelling) (client_passed item) clients) (apart-changed is_same_client (is_client app branch cancelling) (client_passed item) clients (λ x y. refl) (λ x. refl) keyed.apart))
      (λ client within. came-by (is_client app branch cancelling) item clients client
      (in-changed is_same_client (is_client app branch cancelling) (client_passed item) clients client (same-test app branch cancelling) keyed.apart (in-filter kept _ client within))) keyed

  pub keyed-kept : (kept : Client → Bool) (clients : List Client) → AreKeyed Own low number last counters clients
      → AreKeyed Own low number last counters (filter kept clients)
  keyed-kept kept clients keyed =
      keyed-of clients (filter kept clients) (apart-filter is_same_client kept clients keyed.apart) (λ client within. (client, in-filter kept clients client within, came-same client)) keyed

  -- one more
  keyed-more : (higher : ℕ) (clients : List Client) (new : Client) → low ≤ higher → new.app.host ≡ number → new.app.serial ≤ last
      → IsDrawnBy new.branch (counters new.app.serial) → (Own new.app → new.branch ≤ higher)
      → ((client : Client) → IsIn client clients → is_same_client client new ≡ false)
      → ((client : Client) → IsIn client clients → new.app ≡ client.app → new.branch ≡ client.branch → is_cancel_client client ≡ true → is_cancel_client new ≡ false → IsCancelled new)
      → ((client : Client) → IsIn client clients → client.app ≡ new.app → client.branch ≡ new.branch → is_cancel_client new ≡ true → is_cancel_client client ≡ false → IsCancelled client)
      → AreKeyed Own low number last counters clients → AreKeyed Own higher number last counters (clients ++ new ∷ [])
  keyed-more higher clients new under here given drawn below apart new-cancelled old-cancelled keyed = record {
    here = λ client within. either (λ (c : Client). c.app.host ≡ number) client (in-append clients new client within) (keyed.here client) here;
    given = λ client within. either (λ (c : Client). c.app.serial ≤ last) client (in-append clients new client within) (keyed.given client) given;
    drawn = λ client within. either (λ (c : Client). IsDrawnBy c.branch (counters c.app.serial)) client (in-append clients new client within) (keyed.drawn client) drawn;
    below = λ client within. either (λ (c : Client). Own c.app → c.branch ≤ higher) client (in-append clients new client within) (λ old own. up client.branch (keyed.below client old own)) below;
    apart = apart-append is_same_client clients new keyed.apart apart;
    cancelled = λ c d in-c in-d. pair c d (in-append clients new c in-c) (in-append clients new d in-d);
  }
    where
      either : (P : Client → Type 0) (client : Client) → IsIn client clients ⊎ (client ≡ new) → (IsIn client clients → P client) → P new → P client
      either P client (inl old) one two = one old
      either P client (inr same) one two = subst P (sym same) two

      up : (n : ℕ) → n ≤ low → n ≤ higher
      up n is = omega (arith, is, under)

      pair : (c d : Client) → IsIn c clients ⊎ (c ≡ new) → IsIn d clients ⊎ (d ≡ new) → d.app ≡ c.app → d.branch ≡ c.branch
          → is_cancel_client c ≡ true → is_cancel_client d ≡ false → IsCancelled d
      pair c d (inl old-c) (inl old-d) app branch kind other = keyed.cancelled c d old-c old-d app branch kind other
      pair c d (inl old-c) (inr same-d) app branch kind other =
          subst IsCancelled (sym same-d)
          (new-cancelled c old-c (ap (λ (x : Client). x.app) (sym same-d) ∙ app) (ap (λ (x : Client). x.branch) (sym same-d) ∙ branch) kind (ap (λ (x : Client). is_cancel_client x) (sym same-d) ∙ other))
      pair c d (inr same-c) (inl old-d) app branch kind other =
          old-cancelled d old-d (app ∙ ap (λ (x : Client). x.app) same-c) (branch ∙ ap (λ (x : Client). x.branch) same-c) (ap (λ (x : Client). is_cancel_client x) (sym same-c) ∙ kind) other
      pair c d (inr same-c) (inr same-d) app branch kind other =
          absurd (clash (is_cancel_client new) (ap (λ (x : Client). is_cancel_client x) (sym same-c) ∙ kind) (ap (λ (x : Client). is_cancel_client x) (sym same-d) ∙ other))

  -- one on a branch above all of its session
  pub keyed-new : (clients : List Client) (new : Client) → Own new.app → low < new.branch → new.app.host ≡ number → new.app.serial ≤ last
      → IsDrawnBy new.branch (counters new.app.serial) → AreKeyed Own low number last counters clients
      → AreKeyed Own new.branch number last counters (clients ++ new ∷ [])
  keyed-new clients new own above here given drawn keyed =
      keyed-more new.branch clients new (weak low new.branch above) here given drawn (λ own. same new.branch)
      (λ client within. none-else (is_same_client client new) (λ is. let key = key-is client.app client.branch (is_cancel_client client) new is in fresh client within key.app_is key.branch_is))
      (λ client within app branch kind other. absurd (fresh client within app branch))
      (λ client within app branch kind other. absurd (fresh client within (sym app) (sym branch))) keyed
    where
      weak : (a b : ℕ) → a < b → a ≤ b
      weak a b is = omega (arith, is)

      above-all : (n m : ℕ) → n ≤ low → low < m → m ≡ n → ⊥
      above-all n m p q r = omega (arith, p, q, r)

      fresh : (client : Client) → IsIn client clients → new.app ≡ client.app → new.branch ≡ client.branch → ⊥
      fresh client within app branch = above-all client.branch new.branch (keyed.below client within (subst Own app own)) above branch

  -- a CANCEL that may go, beside its INVITE
  pub keyed-cancel : (now : ℕ) (item : ClientItem) (kept : Client → Bool) (clients : List Client) (client : Client) → IsIn client clients
      → is_cancel_client client ≡ false → (out_of_client client item).cancel ≡ true → AreKeyed Own low number last counters clients
      → AreKeyed Own low number last counters (filter kept (change_first (is_same_client client) (client_passed item) clients) ++ cancelling now client ∷ [])
  unfolding cancelling client_passed
  keyed-cancel now item kept clients client within kind sends keyed =
      keyed-more low after new (same low) (keyed.here client within) (keyed.given client within) (keyed.drawn client within) (keyed.below client within)
      (λ c in-c. none-else (is_same_client c new) (λ is. let key = key-is c.app c.branch (is_cancel_client c) new is in
      never c in-c key.app_is key.branch_is (sym key.kind_is ∙ kind-of-cancel now client)))
      (λ c in-c app branch kind-c other. absurd (clash (is_cancel_client new) (kind-of-cancel now client) other))
      (λ c in-c app branch kind-new other. at c (in-changed is_same_client (is_same_client client) (client_passed item) clients c (same-test client.app client.branch (is_cancel_client client)) keyed.apart (in-filter kept _ c in-c)) app branch other)
      (keyed-passed client.app client.branch (is_cancel_client client) item kept clients keyed)
    where
      after : List Client
      after = filter kept (change_first (is_same_client client) (client_passed item) clients)

      new : Client
      new = cancelling now client

      never : (c : Client) → IsIn c after → client.app ≡ c.app → client.branch ≡ c.branch → is_cancel_client c ≡ true → ⊥
      never c in-c app branch kind-c =
          let b = came-by (is_same_client client) item clients c (in-changed is_same_client (is_same_client client) (client_passed item) clients c (same-test client.app client.branch (is_cancel_client client)) keyed.apart (in-filter kept _ c in-c)) in
          not-both client (may-send client item sends).unsent (keyed.cancelled b.0 client b.1 within (app ∙ b.2.app) (branch ∙ b.2.branch) (sym b.2.kind ∙ kind-c) kind)

      at : (c : Client)
          → ((y : Client) × IsIn y clients × (c ≡ client_passed item y)) ⊎ (IsIn c clients × (is_same_client client c ≡ false))
          → c.app ≡ client.app → c.branch ≡ client.branch → is_cancel_client c ≡ false → IsCancelled c
      at c (inl one) app branch other =
          let y-app : one.0.app ≡ client.app = ap (λ (x : Client). x.app) (sym one.2) ∙ app in
          let y-branch : one.0.branch ≡ client.branch = ap (λ (x : Client). x.branch) (sym one.2) ∙ branch in
          let y-kind : is_cancel_client one.0 ≡ is_cancel_client client = ap (λ (x : Client). is_cancel_client x) (sym one.2) ∙ other ∙ sym kind in
          let y-is : one.0 ≡ client = one-of is_same_client clients one.0 client keyed.apart one.1 within (same-key one.0 client y-app y-branch y-kind) (same-key client one.0 (sym y-app) (sym y-branch) (sym y-kind)) in
          subst IsCancelled (sym (one.2 ∙ ap (client_passed item) y-is)) (cancelled-now item client (may-send client item sends).lets)
      at c (inr another) app branch other = absurd (clash (is_same_client client c) (same-key client c (sym app) (sym branch) (kind ∙ sym other)) another.1)

-- other numbers were drawn
pub keyed-counted : (Own Later : AppId → Type 0) (low higher number last later : ℕ) (counters after : ℕ → Option ℕ) (clients : List Client)
    → last ≤ later → ((serial n : ℕ) → serial ≤ last → IsDrawnBy n (counters serial) → IsDrawnBy n (after serial))
    → ((client : Client) → IsIn client clients → Later client.app → client.branch ≤ higher)
    → AreKeyed Own low number last counters clients → AreKeyed Later higher number later after clients
keyed-counted Own Later low higher number last later counters after clients up more below keyed = record {
  here = keyed.here;
  given = λ client within. through client.app.serial (keyed.given client within);
  drawn = λ client within. more client.app.serial client.branch (keyed.given client within) (keyed.drawn client within);
  below = below;
  apart = keyed.apart;
  cancelled = keyed.cancelled;
}
  where
    through : (n : ℕ) → n ≤ last → n ≤ later
    through n is = omega (arith, is, up)
