-- Laws of names: two names of one kind and one salt are one where they are made of the same numbers, and otherwise differ.
use Rattle.std.proofs.Common.{◌≡◌, ◌≢◌, ℕ, ◌<◌, ◌^◌, ◌==◌, Bool, true, false, cond, ◌||◌, ◌&&◌, [], ◌∷◌, ◌++◌, refl, sym, ap, subst, ◌∙◌, arith, append_assoc, append-nil}
use Rattle.std.specs.Char.{is_ascii_digit}
use Rattle.std.specs.Prelude.{decimal, codes, slice_index, drop, if◌then◌else◌, T}
use Rattle.std.specs.List.{list_any}
use Rattle.std.specs.Str.{all_ascii_digits}
use Rattle.std.specs.Str.Parse.{digits_value}
use Rattle.std.proofs.lemmas.Bool.{false≢true}
use Rattle.std.proofs.lemmas.Bool.Decides.{nat_tests}
use Rattle.std.proofs.lemmas.List.{append_cancel_left, append_cancel_right}
use Rattle.std.proofs.lemmas.Fmt.{decimal_injective, digits_decimal}
use Rattle.std.proofs.lemmas.Str.Parse.{IsNumeralModel, numerals_by_value, tells_all_ascii_digits}
use Rattle.sc_value.specs.declared.ids.AppId.{AppId}
use Rattle.sc_tokens.specs.Bytes.{Bytes}
use Rattle.sc_model.specs.Names.{IsOf64, mark_text, counted_text, tag_text, branch_cookie, branch_text, call_id_text, edge_word, edge_tag, app_text, ap_value}

-- the sign is none of the bytes
abbrev pub Lacks : ℕ → Bytes → Type 0
Lacks sign bytes = list_any (λ b. b == sign) bytes ≡ false

or_first : (a b : Bool) → (a || b) ≡ false → a ≡ false
or_first true b h = h
or_first false b h = refl

or_second : (a b : Bool) → (a || b) ≡ false → b ≡ false
or_second true b h = absurd (false≢true (sym h))
or_second false b h = h

both_false : (a b : Bool) → a ≡ false → b ≡ false → (a || b) ≡ false
both_false true b g h = g
both_false false b g h = h

same_number : (x y : ℕ) → (x == y) ≡ true → x ≡ y
same_number x y h = grind (arith, nat_tests, h)

itself : (x : ℕ) → (x == x) ≡ true
itself x = grind (arith, nat_tests)

head_is : (x y : ℕ) (xs ys : Bytes) → x ∷ xs ≡ y ∷ ys → x ≡ y
head_is x y xs ys h = ap (λ l. slice_index l 0) h

tail_is : (x y : ℕ) (xs ys : Bytes) → x ∷ xs ≡ y ∷ ys → xs ≡ ys
tail_is x y xs ys h = ap (λ l. drop 1 l) h

not_here : (sign x : ℕ) (xs : Bytes) → Lacks sign (x ∷ xs) → ¬ (x ≡ sign)
not_here sign x xs lacks same = false≢true (sym (or_first _ _ lacks) ∙ ap (λ b. b == sign) same ∙ itself sign)

-- what stands before a sign that the beginning lacks, and what stands after it, are known by the whole
pub parted_same : (sign : ℕ) (l m r s : Bytes) → Lacks sign l → Lacks sign m → l ++ sign ∷ r ≡ m ++ sign ∷ s → (l ≡ m) × (r ≡ s)
parted_same sign [] [] r s g h is = (refl, tail_is sign sign r s is)
parted_same sign [] (y ∷ ys) r s g h is = absurd (not_here sign y ys h (sym (head_is sign y r (ys ++ sign ∷ s) is)))
parted_same sign (x ∷ xs) [] r s g h is = absurd (not_here sign x xs g (head_is x sign (xs ++ sign ∷ r) s is))
parted_same sign (x ∷ xs) (y ∷ ys) r s g h is =
    let rest = parted_same sign xs ys r s (or_second _ _ g) (or_second _ _ h) (tail_is x y (xs ++ sign ∷ r) (ys ++ sign ∷ s) is) in
    (ap (λ a. a ∷ xs) (head_is x y (xs ++ sign ∷ r) (ys ++ sign ∷ s) is) ∙ ap (λ l. y ∷ l) rest.0, rest.1)

lacks_append : (sign : ℕ) (l r : Bytes) → Lacks sign l → Lacks sign r → Lacks sign (l ++ r)
lacks_append sign [] r g h = h
lacks_append sign (x ∷ xs) r g h = both_false _ _ (or_first _ _ g) (lacks_append sign xs r (or_second _ _ g) h)

not_after : (sign : ℕ) (l r : Bytes) → ¬ (Lacks sign (l ++ sign ∷ r))
not_after sign [] r lacks = not_here sign sign r lacks refl
not_after sign (x ∷ xs) r lacks = not_after sign xs r (or_second _ _ lacks)

and_parts : (a b : Bool) → (a && b) ≡ true → (a ≡ true) × (b ≡ true)
and_parts true b h = (refl, h)
and_parts false b h = absurd (false≢true h)

other : (b : Bool) → (b ≡ true → false ≡ true) → b ≡ false
other true h = absurd (false≢true (h refl))
other false h = refl

lacks_digits : (sign : ℕ) (ds : Bytes) → is_ascii_digit sign ≡ false → all_ascii_digits ds ≡ true → Lacks sign ds
lacks_digits sign [] not_one all = refl
lacks_digits sign (d ∷ ds) not_one all =
    let parts = and_parts (is_ascii_digit d) (all_ascii_digits ds) all in
    both_false _ _ (other (d == sign) (λ same. sym (ap is_ascii_digit (same_number d sign same) ∙ not_one) ∙ parts.0)) (lacks_digits sign ds not_one parts.1)

own : IsNumeralModel (λ ds. all_ascii_digits ds ≡ true) (digits_value 10)
own = numerals_by_value _ tells_all_ascii_digits

pub lacks_decimal : (sign n : ℕ) → is_ascii_digit sign ≡ false → n < 2 ^ 64 → Lacks sign (decimal n)
lacks_decimal sign n not_one small = lacks_digits sign (decimal n) not_one (digits_decimal own n small)

-- a sign between two texts, as it is written
pub joined : (sign : ℕ) (l r : Bytes) → l ++ sign ∷ [] ++ r ≡ l ++ (sign ∷ r)
joined sign l r = append_assoc l (sign ∷ []) r

-- ## Numbers, sessions and epochs

same_app : (a b : AppId) → a.host ≡ b.host → a.serial ≡ b.serial → a ≡ b
same_app a b hosts serials = ap (λ h. record { host = h; serial = a.serial }) hosts ∙ ap (λ s. record { host = b.host; serial = s }) serials

pub app_same : (a b : AppId) → a.host < 2 ^ 64 → a.serial < 2 ^ 64 → b.host < 2 ^ 64 → b.serial < 2 ^ 64 → app_text a ≡ app_text b → a ≡ b
unfolding app_text
app_same a b ha sa hb sb is =
    let parts = parted_same 45 (decimal a.host) (decimal b.host) (decimal a.serial) (decimal b.serial) (lacks_decimal 45 a.host refl ha) (lacks_decimal 45 b.host refl hb) (sym (joined 45 (decimal a.host) (decimal a.serial)) ∙ is ∙ joined 45 (decimal b.host) (decimal b.serial)) in
    same_app a b (decimal_injective a.host b.host ha hb parts.0) (decimal_injective a.serial b.serial sa sb parts.1)

pub counted_is : (a : AppId) (k : ℕ) → counted_text a k ≡ decimal a.host ++ 45 ∷ (decimal a.serial ++ 45 ∷ decimal k)
unfolding counted_text
counted_is a k =
    joined 45 (decimal a.host ++ 45 ∷ [] ++ decimal a.serial) (decimal k)
    ∙ ap (λ l. l ++ (45 ∷ decimal k)) (joined 45 (decimal a.host) (decimal a.serial))
    ∙ append_assoc (decimal a.host) (45 ∷ decimal a.serial) (45 ∷ decimal k)

counted_same : (a b : AppId) (k m e f : ℕ) → IsOf64 e a k → IsOf64 f b m → counted_text a k ≡ counted_text b m → (a ≡ b) × (k ≡ m)
counted_same a b k m e f small also is =
    let parts = parted_same 45 (decimal a.host) (decimal b.host) (decimal a.serial ++ 45 ∷ decimal k) (decimal b.serial ++ 45 ∷ decimal m) (lacks_decimal 45 a.host refl small.1) (lacks_decimal 45 b.host refl also.1) (sym (counted_is a k) ∙ is ∙ counted_is b m) in
    let rest = parted_same 45 (decimal a.serial) (decimal b.serial) (decimal k) (decimal m) (lacks_decimal 45 a.serial refl small.2) (lacks_decimal 45 b.serial refl also.2) parts.1 in
    (same_app a b (decimal_injective a.host b.host small.1 also.1 parts.0) (decimal_injective a.serial b.serial small.2 also.2 rest.0), decimal_injective k m small.3 also.3 rest.1)

is_empty : Bytes → Bool
is_empty [] = true
is_empty (x ∷ xs) = false

-- what an epoch puts behind the salt, or behind a session
abbrev pub epoch_end : ℕ → Bytes
epoch_end epoch = if epoch == 0 then [] else (46 ∷ decimal epoch)

pub mark_is : (salt : Bytes) (epoch : ℕ) → mark_text salt epoch ≡ salt ++ epoch_end epoch
unfolding mark_text
mark_is salt epoch = elim (epoch == 0) as (λ b. cond b salt (salt ++ 46 ∷ [] ++ decimal epoch) ≡ salt ++ cond b [] (46 ∷ decimal epoch)) [ true ↦ sym (append-nil salt) | false ↦ joined 46 salt (decimal epoch) ]

pub ap_is : (epoch : ℕ) (app : AppId) → ap_value epoch app ≡ app_text app ++ epoch_end epoch
unfolding ap_value
ap_is epoch app = elim (epoch == 0) as (λ b. cond b (app_text app) (app_text app ++ 46 ∷ [] ++ decimal epoch) ≡ app_text app ++ cond b [] (46 ∷ decimal epoch)) [ true ↦ sym (append-nil (app_text app)) | false ↦ joined 46 (app_text app) (decimal epoch) ]

lacks_end : (epoch : ℕ) → epoch < 2 ^ 64 → Lacks 45 (epoch_end epoch)
lacks_end epoch small = elim (epoch == 0) as (λ b. Lacks 45 (cond b [] (46 ∷ decimal epoch))) [ true ↦ refl | false ↦ lacks_decimal 45 epoch refl small ]

no_end : (l : Bytes) → ¬ ([] ≡ 46 ∷ l)
unfolding is_empty
no_end l is = subst (λ (xs : Bytes). T (is_empty xs)) is tt

zero_is : (n : ℕ) → (n == 0) ≡ true → n ≡ 0
zero_is n h = same_number n 0 h

pub end_same : (e f : ℕ) → e < 2 ^ 64 → f < 2 ^ 64 → epoch_end e ≡ epoch_end f → e ≡ f
end_same e f small also is =
    elim (e == 0) as (λ (b : Bool). (e == 0) ≡ b → cond b [] (46 ∷ decimal e) ≡ epoch_end f → e ≡ f) [
      | true ↦ λ none is. elim (f == 0) as (λ (b : Bool). (f == 0) ≡ b → [] ≡ cond b [] (46 ∷ decimal f) → e ≡ f) [
        | true ↦ λ other _. zero_is e none ∙ sym (zero_is f other)
        | false ↦ λ _ bad. absurd (no_end (decimal f) bad)
      ] refl is
      | false ↦ λ _ is. elim (f == 0) as (λ (b : Bool). (f == 0) ≡ b → 46 ∷ decimal e ≡ cond b [] (46 ∷ decimal f) → e ≡ f) [
        | true ↦ λ _ bad. absurd (no_end (decimal e) (sym bad))
        | false ↦ λ _ is. decimal_injective e f small also (tail_is 46 46 (decimal e) (decimal f) is)
      ] refl is
    ] refl is

-- ## Names

tag_is : (salt : Bytes) (epoch : ℕ) (app : AppId) (k : ℕ) → tag_text salt epoch app k ≡ salt ++ (epoch_end epoch ++ 45 ∷ counted_text app k)
unfolding tag_text
tag_is salt epoch app k = joined 45 (mark_text salt epoch) (counted_text app k) ∙ ap (λ l. l ++ (45 ∷ counted_text app k)) (mark_is salt epoch) ∙ append_assoc salt (epoch_end epoch) (45 ∷ counted_text app k)

pub tag_same : (salt : Bytes) (e f : ℕ) (a b : AppId) (k m : ℕ) → IsOf64 e a k → IsOf64 f b m → tag_text salt e a k ≡ tag_text salt f b m → (e ≡ f) × (a ≡ b) × (k ≡ m)
tag_same salt e f a b k m small also is =
    let ends = append_cancel_left salt (epoch_end e ++ 45 ∷ counted_text a k) (epoch_end f ++ 45 ∷ counted_text b m) (sym (tag_is salt e a k) ∙ is ∙ tag_is salt f b m) in
    let parts = parted_same 45 (epoch_end e) (epoch_end f) (counted_text a k) (counted_text b m) (lacks_end e small.0) (lacks_end f also.0) ends in
    let rest = counted_same a b k m e f small also parts.1 in
    (end_same e f small.0 also.0 parts.0, rest.0, rest.1)

pub branch_same : (salt : Bytes) (e f : ℕ) (a b : AppId) (k m : ℕ) → IsOf64 e a k → IsOf64 f b m → branch_text salt e a k ≡ branch_text salt f b m → (e ≡ f) × (a ≡ b) × (k ≡ m)
unfolding branch_text
branch_same salt e f a b k m small also is = tag_same salt e f a b k m small also (append_cancel_left branch_cookie _ _ is)

pub call_id_same : (salt host : Bytes) (e f : ℕ) (a b : AppId) (k m : ℕ) → IsOf64 e a k → IsOf64 f b m → call_id_text salt e host a k ≡ call_id_text salt f host b m → (e ≡ f) × (a ≡ b) × (k ≡ m)
unfolding call_id_text
call_id_same salt host e f a b k m small also is = tag_same salt e f a b k m small also (append_cancel_right _ _ (64 ∷ []) (append_cancel_right _ _ host is))

lacks_app : (a : AppId) (sign : ℕ) → is_ascii_digit sign ≡ false → (45 == sign) ≡ false → a.host < 2 ^ 64 → a.serial < 2 ^ 64 → Lacks sign (app_text a)
unfolding app_text
lacks_app a sign not_one other ha sa =
    lacks_append sign (decimal a.host ++ 45 ∷ []) (decimal a.serial) (lacks_append sign (decimal a.host) (45 ∷ []) (lacks_decimal sign a.host not_one ha) (both_false _ _ other refl)) (lacks_decimal sign a.serial not_one sa)

no_epoch : (a b : AppId) (n k : ℕ) → IsOf64 k a 0 → ¬ (app_text a ++ [] ≡ app_text b ++ 46 ∷ decimal n)
no_epoch a b n k small is = not_after 46 (app_text b) (decimal n) (subst (λ (l : Bytes). Lacks 46 l) (sym (append-nil (app_text a)) ∙ is) (lacks_app a 46 refl refl small.1 small.2))

ap_parts : (e f : ℕ) (a b : AppId) → IsOf64 e a 0 → IsOf64 f b 0 → app_text a ++ epoch_end e ≡ app_text b ++ epoch_end f → (e ≡ f) × (a ≡ b)
ap_parts e f a b small also is =
    elim (e == 0) as (λ (c : Bool). (e == 0) ≡ c → app_text a ++ cond c [] (46 ∷ decimal e) ≡ app_text b ++ epoch_end f → (e ≡ f) × (a ≡ b)) [
      | true ↦ λ none is. elim (f == 0) as (λ (c : Bool). (f == 0) ≡ c → app_text a ++ [] ≡ app_text b ++ cond c [] (46 ∷ decimal f) → (e ≡ f) × (a ≡ b)) [
        | true ↦ λ other is. (zero_is e none ∙ sym (zero_is f other), app_same a b small.1 small.2 also.1 also.2 (append_cancel_right (app_text a) (app_text b) [] is))
        | false ↦ λ _ bad. absurd (no_epoch a b f e small bad)
      ] refl is
      | false ↦ λ _ is. elim (f == 0) as (λ (c : Bool). (f == 0) ≡ c → app_text a ++ 46 ∷ decimal e ≡ app_text b ++ cond c [] (46 ∷ decimal f) → (e ≡ f) × (a ≡ b)) [
        | true ↦ λ _ bad. absurd (no_epoch b a e f also (sym bad))
        | false ↦ λ _ is.
            let parts = parted_same 46 (app_text a) (app_text b) (decimal e) (decimal f) (lacks_app a 46 refl refl small.1 small.2) (lacks_app b 46 refl refl also.1 also.2) is in
            (decimal_injective e f small.0 also.0 parts.1, app_same a b small.1 small.2 also.1 also.2 parts.0)
      ] refl is
    ] refl is

pub ap_same : (e f : ℕ) (a b : AppId) → IsOf64 e a 0 → IsOf64 f b 0 → ap_value e a ≡ ap_value f b → (e ≡ f) × (a ≡ b)
ap_same e f a b small also is = ap_parts e f a b small also (sym (ap_is e a) ∙ is ∙ ap_is f b)

-- the tag of an answer that no session gives is the tag of no session
pub edge_apart : (salt : Bytes) (e : ℕ) (a : AppId) (k : ℕ) → IsOf64 e a k → edge_tag salt ≢ tag_text salt e a k
unfolding edge_tag edge_word
edge_apart salt e a k small is =
    let ends = append_cancel_left salt (codes "-edge") (epoch_end e ++ 45 ∷ counted_text a k) (is ∙ tag_is salt e a k) in
    let parts = parted_same 45 [] (epoch_end e) (codes "edge") (counted_text a k) refl (lacks_end e small.0) ends in
    not_after 45 (decimal a.host) (decimal a.serial ++ 45 ∷ decimal k) (subst (λ (l : Bytes). Lacks 45 l) (parts.1 ∙ counted_is a k) refl)
