-- What has passed a transaction, with one item more.
use Rattle.std.proofs.Common.{◌≡◌, ◌+◌, ℕ, zero, suc, Bool, true, false, ◌||◌, T, List, [], ◌∷◌, ◌++◌, reverse, take, slice_get, add-one, Some, None, is_some, unwrap_or, refl, ap, sym, subst, ◌∙◌}
use Rattle.std.specs.List.{list_any}
use Rattle.std.proofs.lemmas.List.{reverse-append}
use Rattle.sc_parts.specs.declared.transactions.ClientItem.{ClientItem}
use Rattle.sc_parts.specs.declared.transactions.ServerItem.{ServerItem}
use Rattle.sc_model.specs.Transactions.{brings_provisional, has_provisional}
use Rattle.sc_model.specs.ServerTransactions.{final_answer, is_final_answer}
use Rattle.sc_stages.proofs.ServerStanding.{final_among}
use Rattle.sc_txn.specs.Stands.{Client, ClientStands, ClientTakes, ClientTold, Server, ServerStands, ServerTakes, ServerTold}

pub reversed : {A : Type 0} (xs : List A) (x : A) → reverse (xs ++ x ∷ []) ≡ x ∷ reverse xs
reversed xs x = reverse-append xs (x ∷ [])

or_or : (a b : Bool) → ((a || false) || b) ≡ (a || b)
or_or true b = refl
or_or false b = refl

provisional_more : (item : ClientItem) (passed : List ClientItem) → (has_provisional (item ∷ []) || has_provisional passed) ≡ has_provisional (item ∷ passed)
unfolding has_provisional
provisional_more item passed = or_or (brings_provisional item) (list_any brings_provisional passed)

final_more : (item : ServerItem) (passed : List ServerItem) → (is_some (final_answer (item ∷ [])) || is_some (final_answer passed)) ≡ is_some (final_answer (item ∷ passed))
final_more item passed =
    ap (λ b. b || is_some (final_answer passed)) (sym (final_among (item ∷ [])))
    ∙ ap (λ b. (list_any (is_final_answer []) (item ∷ []) || b)) (sym (final_among passed))
    ∙ or_or (is_final_answer [] item) (list_any (is_final_answer []) passed)
    ∙ final_among (item ∷ passed)

-- ## Nothing has passed

pub client_begun : (t : Client) (invite : Bool) (sent : ℕ) → ClientStands t invite sent [] → ClientTold t sent false []
unfolding has_provisional
client_begun t invite sent stands = record { stands = subst (λ i. ClientStands t i sent []) (sym stands.invite_is) stands; provisional_is = refl }

pub server_begun : (t : Server) (invite : Bool) → ServerStands t invite [] → ServerTold t false []
server_begun t invite stands = record { stands = subst (λ i. ServerStands t i []) (sym stands.invite_is) stands; decided_is = final_among [] }

-- ## An item passes

pub client_told : (old new : Client) (sent : ℕ) (provisional more : Bool) (item : ClientItem) (items all : List ClientItem) → ClientTold old sent provisional (reverse items) → ClientTakes old new item → more ≡ (has_provisional (item ∷ []) || provisional) → all ≡ items ++ item ∷ [] → ClientTold new sent more (reverse all)
client_told old new sent provisional more item items all told takes is grown =
    let after = takes old.invite sent (reverse items) told.stands in
    let passed : item ∷ reverse items ≡ reverse all = sym (ap reverse grown ∙ reversed items item) in
    subst (ClientTold new sent more) passed (record {
      stands = subst (λ i. ClientStands new i sent (item ∷ reverse items)) (sym after.invite_is) after;
      provisional_is = is ∙ ap (λ b. has_provisional (item ∷ []) || b) told.provisional_is ∙ provisional_more item (reverse items);
    })

pub server_told : (old new : Server) (decided more : Bool) (item : ServerItem) (items all : List ServerItem) → ServerTold old decided (reverse items) → ServerTakes old new item → more ≡ (is_some (final_answer (item ∷ [])) || decided) → all ≡ items ++ item ∷ [] → ServerTold new more (reverse all)
server_told old new decided more item items all told takes is grown =
    let after = takes old.invite (reverse items) told.stands in
    let passed : item ∷ reverse items ≡ reverse all = sym (ap reverse grown ∙ reversed items item) in
    subst (ServerTold new more) passed (record {
      stands = subst (λ i. ServerStands new i (item ∷ reverse items)) (sym after.invite_is) after;
      decided_is = is ∙ ap (λ b. is_some (final_answer (item ∷ [])) || b) told.decided_is ∙ final_more item (reverse items);
    })

-- ## Items that are gone through

some_is : {A : Type 0} (x y : A) → Some x ≡ Some y → x ≡ y
some_is x y e = ap (λ o. unwrap_or o x) e

none_some : {A : Type 0} (y : A) → None ≡ Some y → ⊥
none_some y e = subst (λ o. T (is_some o)) (sym e) tt

taken_suc : {A : Type 0} (all : List A) (at : ℕ) (x : A) → slice_get all at ≡ Some x → take (suc at) all ≡ take at all ++ x ∷ []
taken_suc [] at x is = absurd (none_some x is)
taken_suc (y ∷ ys) zero x is = ap (λ z. z ∷ []) (some_is y x is)
taken_suc (y ∷ ys) (suc at) x is = ap (λ l. y ∷ l) (taken_suc ys at x is)

taken_next : {A : Type 0} (all : List A) (at : ℕ) (x : A) → slice_get all at ≡ Some x → take (at + 1) all ≡ take at all ++ x ∷ []
taken_next all at x is = ap (λ n. take n all) (add-one at) ∙ taken_suc all at x is

still_suc : {A : Type 0} (all : List A) (at : ℕ) → slice_get all at ≡ None → take (suc at) all ≡ take at all
still_suc [] zero is = refl
still_suc [] (suc at) is = refl
still_suc (y ∷ ys) zero is = absurd (none_some y (sym is))
still_suc (y ∷ ys) (suc at) is = ap (λ l. y ∷ l) (still_suc ys at is)

taken_none : {A : Type 0} (all : List A) (at : ℕ) → slice_get all at ≡ None → take (at + 1) all ≡ take at all
taken_none all at is = ap (λ n. take n all) (add-one at) ∙ still_suc all at is

-- what stands for the items up to a place, the newest first, and takes the next one
pub client_next : (old new : Client) (invite : Bool) (sent : ℕ) (items : List ClientItem) (at : ℕ) (item : ClientItem) → ClientStands old invite sent (reverse (take at items)) → slice_get items at ≡ Some item → ClientTakes old new item → ClientStands new invite sent (reverse (take (at + 1) items))
client_next old new invite sent items at item stands is takes =
    subst (ClientStands new invite sent) (sym (ap reverse (taken_next items at item is) ∙ reversed (take at items) item)) (takes invite sent (reverse (take at items)) stands)

pub client_stays : (t : Client) (invite : Bool) (sent : ℕ) (items : List ClientItem) (at : ℕ) → ClientStands t invite sent (reverse (take at items)) → slice_get items at ≡ None → ClientStands t invite sent (reverse (take (at + 1) items))
client_stays t invite sent items at stands none = subst (λ l. ClientStands t invite sent (reverse l)) (sym (taken_none items at none)) stands

pub server_next : (old new : Server) (invite : Bool) (items : List ServerItem) (at : ℕ) (item : ServerItem) → ServerStands old invite (reverse (take at items)) → slice_get items at ≡ Some item → ServerTakes old new item → ServerStands new invite (reverse (take (at + 1) items))
server_next old new invite items at item stands is takes =
    subst (ServerStands new invite) (sym (ap reverse (taken_next items at item is) ∙ reversed (take at items) item)) (takes invite (reverse (take at items)) stands)

pub server_stays : (t : Server) (invite : Bool) (items : List ServerItem) (at : ℕ) → ServerStands t invite (reverse (take at items)) → slice_get items at ≡ None → ServerStands t invite (reverse (take (at + 1) items))
server_stays t invite items at stands none = subst (λ l. ServerStands t invite (reverse l)) (sym (taken_none items at none)) stands
