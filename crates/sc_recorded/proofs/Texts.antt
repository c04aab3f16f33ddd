-- By the text of its branch a Via is one of a session, and of no other session of the epoch.
use Rattle.std.proofs.Common.{◌≡◌, ℕ, ◌++◌, true, [], ◌∷◌, refl, sym, ap, append_assoc, ◌∙◌}
use Rattle.std.specs.Prelude.{decimal, drop, length}
use Rattle.std.proofs.lemmas.Bool.Decides.{Decides-eqb}
use Rattle.std.proofs.lemmas.Fmt.{decimal_injective}
use Rattle.std.proofs.lemmas.List.{append_cancel_left}
use Rattle.std.proofs.lemmas.Slice.Eq.{starts_is}
use Rattle.sc_value.specs.declared.ids.AppId.{AppId}
use Rattle.sc_terms.specs.declared.settings.Config.{Config}
use Rattle.sc_tokens.specs.Bytes.{Bytes}
use Rattle.sc_model.specs.Names.{IsOf64, app_text, branch_cookie, branch_text, mark_text, tag_text}
use Rattle.sc_model.proofs.Names.{counted_is, lacks_decimal, parted_same}
use Rattle.sc_hosts.specs.Messages.{own_via}
use Rattle.sc_hosts.specs.Transacting.{branch_of}
use Rattle.sc_paths.specs.Pieces.{is_branch_of}
use Rattle.sc_ways.proofs.OwnBranches.{branch-is}

-- with what each branch of a session begins
abbrev front : Bytes → ℕ → AppId → Bytes
front salt epoch app = branch_cookie ++ mark_text salt epoch ++ 45 ∷ [] ++ app_text app ++ 45 ∷ []

regroup : (a b c d e r : Bytes) → a ++ b ++ c ++ d ++ e ++ r ≡ a ++ (b ++ c ++ (d ++ (e ++ r)))
regroup a b c d e r =
    append_assoc (a ++ b ++ c ++ d) e r ∙ append_assoc (a ++ b ++ c) d (e ++ r) ∙ ap (λ l. l ++ (d ++ (e ++ r))) (append_assoc a b c) ∙ append_assoc a (b ++ c) (d ++ (e ++ r))

app-is : (app : AppId) (rest : Bytes) → app_text app ++ 45 ∷ rest ≡ decimal app.host ++ 45 ∷ (decimal app.serial ++ 45 ∷ rest)
unfolding app_text
app-is app rest = append_assoc (decimal app.host ++ 45 ∷ []) (decimal app.serial) (45 ∷ rest) ∙ append_assoc (decimal app.host) (45 ∷ []) (decimal app.serial ++ 45 ∷ rest)

front-is : (salt : Bytes) (epoch : ℕ) (app : AppId) (rest : Bytes)
    → front salt epoch app ++ rest ≡ branch_cookie ++ (mark_text salt epoch ++ 45 ∷ [] ++ (decimal app.host ++ 45 ∷ (decimal app.serial ++ 45 ∷ rest)))
front-is salt epoch app rest =
    regroup branch_cookie (mark_text salt epoch) (45 ∷ []) (app_text app) (45 ∷ []) rest ∙ ap (λ l. branch_cookie ++ (mark_text salt epoch ++ 45 ∷ [] ++ l)) (app-is app rest)

text-is : (salt : Bytes) (epoch : ℕ) (app : AppId) (k : ℕ)
    → branch_text salt epoch app k ≡ branch_cookie ++ (mark_text salt epoch ++ 45 ∷ [] ++ (decimal app.host ++ 45 ∷ (decimal app.serial ++ 45 ∷ decimal k)))
unfolding branch_text tag_text
text-is salt epoch app k = ap (λ l. branch_cookie ++ (mark_text salt epoch ++ 45 ∷ [] ++ l)) (counted_is app k)

same-app : (a b : AppId) → a.host ≡ b.host → a.serial ≡ b.serial → a ≡ b
same-app a b hosts serials = ap (λ h. record { host = h; serial = a.serial }) hosts ∙ ap (λ s. record { host = b.host; serial = s }) serials

-- a branch that begins as those of a session is one of its own
front-same : (salt : Bytes) (epoch : ℕ) (a app : AppId) (k : ℕ) (rest : Bytes) → IsOf64 epoch a 0 → IsOf64 epoch app 0 → branch_text salt epoch a k ≡ front salt epoch app ++ rest → a ≡ app
front-same salt epoch a app k rest small also is =
    let ends = append_cancel_left (mark_text salt epoch ++ 45 ∷ []) _ _ (append_cancel_left branch_cookie _ _ (sym (text-is salt epoch a k) ∙ is ∙ front-is salt epoch app rest)) in
    let hosts = parted_same 45 (decimal a.host) (decimal app.host) _ _ (lacks_decimal 45 a.host refl small.1) (lacks_decimal 45 app.host refl also.1) ends in
    let serials = parted_same 45 (decimal a.serial) (decimal app.serial) _ _ (lacks_decimal 45 a.serial refl small.2) (lacks_decimal 45 app.serial refl also.2) hosts.1 in
    same-app a app (decimal_injective a.host app.host small.1 also.1 hosts.0) (decimal_injective a.serial app.serial small.2 also.2 serials.0)

pub branch-own : (config : Config) (epoch : ℕ) (a app : AppId) (k : ℕ) → IsOf64 epoch a 0 → IsOf64 epoch app 0 → is_branch_of config epoch app (own_via config epoch a k) ≡ true → a ≡ app
unfolding is_branch_of
branch-own config epoch a app k small also is =
    let starts = (starts_is Decides-eqb (branch_of (own_via config epoch a k)) (front config.salt epoch app) _ refl).0 is in
    front-same config.salt epoch a app k (drop (length (front config.salt epoch app)) (branch_of (own_via config epoch a k))) small also (sym (branch-is config epoch a k) ∙ starts)

-- its own branches do
pub own-branch : (config : Config) (epoch : ℕ) (app : AppId) (k : ℕ) → is_branch_of config epoch app (own_via config epoch app k) ≡ true
unfolding is_branch_of
own-branch config epoch app k =
    (starts_is Decides-eqb (branch_of (own_via config epoch app k)) (front config.salt epoch app) _ refl).1 (decimal k) (branch-is config epoch app k ∙ text-is config.salt epoch app k ∙ sym (front-is config.salt epoch app (decimal k)))
