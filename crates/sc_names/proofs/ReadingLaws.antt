-- Laws of readers: how the answers of the parts make the answer of the whole.
use Rattle.std.proofs.Common.{◌≡◌, ◌≢◌, ℕ, suc, ◌<◌, ◌+◌, ◌-◌, ◌==◌, Bool, true, false, cond, not, ◌||◌, [], ◌∷◌, ◌++◌, length, Ok, Err, Some, None, Option, Result, Bor, T, refl, sym, ap, subst, ◌∙◌, arith, append_assoc, append-nil}
use Rattle.std.specs.Prelude.{decimal, is_some, is_ok, unwrap_or, nat_lt, take, drop, ⊤}
use Rattle.std.specs.List.{list_any, position, position_or_len}
use Rattle.std.specs.Option.{option_copied, MatchOption}
use Rattle.std.specs.Result.{result_unwrap_or}
use Rattle.std.specs.Str.{IsUtf8}
use Rattle.std.specs.Str.Parse.{ParsesUnsigned}
use Rattle.std.proofs.lemmas.Bool.{false≢true}
use Rattle.std.proofs.lemmas.Bool.Decides.{nat_tests}
use Rattle.std.proofs.lemmas.List.{append_cancel_left, append_cancel_right, take_all, length-append, length-drop}
use Rattle.std.proofs.lemmas.List.Sums.{split_at_first, passes_at_first}
use Rattle.std.proofs.lemmas.Fmt.{parse-decimal, IsAscii-decimal}
use Rattle.std.proofs.lemmas.Str.{IsUtf8-from_ascii}
use Rattle.sc_tokens.specs.Bytes.{Bytes}
use Rattle.sc_value.specs.declared.ids.AppId.{AppId}
use Rattle.sc_value.specs.declared.ids.Region.{Region}
use Rattle.sc_model.specs.Names.{mark_text, tag_text, counted_text, app_text, ap_value, ar_value, region_letter}
use Rattle.sc_model.proofs.Names.{parted_same, lacks_decimal, joined, counted_is, epoch_end, mark_is, ap_is}
use Rattle.sc_names.specs.Reading.{IsRead, Is32, Is64, IsApp, IsCounted, Lacks, two_with_sign as parted, pair_text}

one_more : (n : ℕ) → 1 + n ≡ suc n
one_more n = omega arith

not_zero : (n : ℕ) → n ≢ 0 → (n == 0) ≡ false
not_zero n later = grind (arith, nat_tests, later)

some_same : {V : Type 0} (a b : V) → Some a ≡ Some b → a ≡ b
some_same a b e = ap (λ o. unwrap_or o a) e

none_some : {V : Type 0} (a : V) → ¬ (None ≡ Some a)
none_some a e = subst (λ o. T (is_some o)) (sym e) tt

-- ## A text with a fixed beginning or end

pub after_is : (prefix bytes : Bytes) (r : Option (Bor Bytes)) → MatchOption r ((rest : Bytes) → bytes ≢ prefix ++ rest) (λ x. bytes ≡ prefix ++ x.now) → IsRead (λ rest. prefix ++ rest) (λ _. ⊤) bytes (option_copied r)
after_is prefix bytes None h = record { some = tt; one = λ v _ is. absurd (h v is) }
after_is prefix bytes (Some x) h = record { some = (tt, h); one = λ v _ is. ap Some (append_cancel_left prefix x.now v (sym h ∙ is)) }

pub before_is : (suffix bytes : Bytes) (r : Option (Bor Bytes)) → MatchOption r ((front : Bytes) → bytes ≢ front ++ suffix) (λ x. bytes ≡ x.now ++ suffix) → IsRead (λ rest. rest ++ suffix) (λ _. ⊤) bytes (option_copied r)
before_is suffix bytes None h = record { some = tt; one = λ v _ is. absurd (h v is) }
before_is suffix bytes (Some x) h = record { some = (tt, h); one = λ v _ is. ap Some (append_cancel_right x.now v suffix (sym h ∙ is)) }

-- the text of the whole is made of the part's text
pub read_then : {V : Type 0} (outer : Bytes → Bytes) (inner text : V → Bytes) (F : V → Type 0) (bytes rest : Bytes) (answer : Option V)
    → ((v : V) → text v ≡ outer (inner v)) → IsRead outer (λ _. ⊤) bytes (Some rest) → IsRead inner F rest answer → IsRead text F bytes answer
read_then outer inner text F bytes rest None same whole part = record {
  some = tt;
  one = λ v fits is. part.one v fits (some_same rest (inner v) (whole.one (inner v) tt (is ∙ same v)));
}
read_then outer inner text F bytes rest (Some a) same whole part = record {
  some = (part.some.0, whole.some.1 ∙ ap outer part.some.1 ∙ sym (same a));
  one = λ v fits is. part.one v fits (some_same rest (inner v) (whole.one (inner v) tt (is ∙ same v)));
}

-- where the whole has no such part it is the text of nothing
pub read_none : {V : Type 0} (outer : Bytes → Bytes) (inner text : V → Bytes) (F : V → Type 0) (bytes : Bytes) (answer : Option V)
    → answer ≡ None → ((v : V) → text v ≡ outer (inner v)) → IsRead outer (λ _. ⊤) bytes None → IsRead text F bytes answer
read_none outer inner text F bytes None _ same whole = record {
  some = tt;
  one = λ v fits is. absurd (none_some (inner v) (whole.one (inner v) tt (is ∙ same v)));
}
read_none outer inner text F bytes (Some a) bad same whole = absurd (none_some a (sym bad))

-- the same for a part of a part
pub then_none : {V : Type 0} (outer middle : Bytes → Bytes) (inner text : V → Bytes) (F : V → Type 0) (bytes rest : Bytes) (answer : Option V)
    → answer ≡ None → ((v : V) → text v ≡ outer (middle (inner v))) → IsRead outer (λ _. ⊤) bytes (Some rest) → IsRead middle (λ _. ⊤) rest None → IsRead text F bytes answer
then_none outer middle inner text F bytes rest answer none same whole part =
    read_then outer (λ v. middle (inner v)) text F bytes rest answer same whole (read_none middle inner (λ v. middle (inner v)) F rest answer none (λ v. refl) part)

pub then_then : {V : Type 0} (outer middle : Bytes → Bytes) (inner text : V → Bytes) (F : V → Type 0) (bytes rest left : Bytes) (answer : Option V)
    → ((v : V) → text v ≡ outer (middle (inner v))) → IsRead outer (λ _. ⊤) bytes (Some rest) → IsRead middle (λ _. ⊤) rest (Some left) → IsRead inner F left answer → IsRead text F bytes answer
then_then outer middle inner text F bytes rest left answer same whole part last =
    read_then outer (λ v. middle (inner v)) text F bytes rest answer same whole (read_then middle inner (λ v. middle (inner v)) F rest left answer (λ v. refl) part last)

-- another word for the same text
pub read_as : {V : Type 0} (text other : V → Bytes) (F : V → Type 0) (bytes : Bytes) (answer : Option V) → ((v : V) → other v ≡ text v) → IsRead text F bytes answer → IsRead other F bytes answer
read_as text other F bytes None same h = record { some = tt; one = λ v fits is. h.one v fits (is ∙ same v) }
read_as text other F bytes (Some a) same h = record { some = (h.some.0, h.some.1 ∙ sym (same a)); one = λ v fits is. h.one v fits (is ∙ same v) }

-- ## A text of two parts with a sign between them

-- the first place of the sign, or the length
abbrev place_in : ℕ → Bytes → ℕ
place_in sign bytes = position_or_len (λ b. b == sign) bytes

both_false : (a b : Bool) → a ≡ false → b ≡ false → (a || b) ≡ false
both_false true b g h = g
both_false false b g h = h

or_first : (a b : Bool) → (a || b) ≡ false → a ≡ false
or_first true b h = h
or_first false b h = refl

or_second : (a b : Bool) → (a || b) ≡ false → b ≡ false
or_second true b h = absurd (false≢true (sym h))
or_second false b h = h

itself : (x : ℕ) → (x == x) ≡ true
itself x = grind (arith, nat_tests)

same_number : (x y : ℕ) → (x == y) ≡ true → x ≡ y
same_number x y h = grind (arith, nat_tests, h)

place_after : (sign : ℕ) (l r : Bytes) → Lacks sign l → place_in sign (l ++ sign ∷ r) ≡ length l
place_after sign [] r lacks = ap (λ b. cond (not b) (1 + place_in sign r) 0) (itself sign)
place_after sign (x ∷ xs) r lacks =
    ap (λ b. cond (not b) (1 + place_in sign (xs ++ sign ∷ r)) 0) (or_first (x == sign) (list_any (λ b. b == sign) xs) lacks)
    ∙ ap (λ n. 1 + n) (place_after sign xs r (or_second (x == sign) (list_any (λ b. b == sign) xs) lacks))
    ∙ one_more (length xs)

is_inside : (l r : Bytes) (sign : ℕ) → nat_lt (length l) (length (l ++ sign ∷ r)) ≡ true
is_inside l r sign = grind (arith, nat_tests, length-append l (sign ∷ r))

place_of_parted : (sign : ℕ) (l r : Bytes) → Lacks sign l → position (λ b. b == sign) (l ++ sign ∷ r) ≡ Some (length l)
place_of_parted sign l r lacks =
    ap (λ n. cond (nat_lt n (length (l ++ sign ∷ r))) (Some n) None) (place_after sign l r lacks)
    ∙ ap (λ b. cond b (Some (length l)) None) (is_inside l r sign)

pub cut_none : (sign : ℕ) (bytes : Bytes) → None ≡ position (λ b. b == sign) bytes → IsRead (parted sign) (λ p. Lacks sign p.0) bytes None
cut_none sign bytes none = record {
  some = tt;
  one = λ p lacks is. absurd (none_some (length p.0) (none ∙ ap (position (λ b. b == sign)) is ∙ place_of_parted sign p.0 p.1 lacks));
}

lacks_before : (sign : ℕ) (bytes : Bytes) → Lacks sign (take (place_in sign bytes) bytes)
lacks_before sign [] = refl
lacks_before sign (x ∷ xs) = elim (x == sign) as (λ (b : Bool). (x == sign) ≡ b → Lacks sign (take (cond (not b) (1 + place_in sign xs) 0) (x ∷ xs))) [
  | true ↦ λ _. refl
  | false ↦ λ differs. subst (λ (n : ℕ). Lacks sign (take n (x ∷ xs))) (sym (one_more (place_in sign xs)))
      (both_false (x == sign) (list_any (λ b. b == sign) (take (place_in sign xs) xs)) differs (lacks_before sign xs))
] refl

found_place : (sign place : ℕ) (bytes : Bytes) → Some place ≡ position (λ b. b == sign) bytes → (place ≡ place_in sign bytes) × (place < length bytes)
found_place sign place bytes found =
    elim (nat_lt (place_in sign bytes) (length bytes)) as (λ (b : Bool). nat_lt (place_in sign bytes) (length bytes) ≡ b → Some place ≡ cond b (Some (place_in sign bytes)) None → (place ≡ place_in sign bytes) × (place < length bytes)) [
      | true ↦ λ inside is. let same = some_same place (place_in sign bytes) is in (same, grind (arith, nat_tests, inside, same))
      | false ↦ λ _ bad. absurd (none_some place (sym bad))
    ] refl found

found_parts : (sign place : ℕ) (bytes : Bytes) → place ≡ place_in sign bytes → place < length bytes → bytes ≡ take place bytes ++ sign ∷ drop (place + 1) bytes
found_parts sign place bytes same inside =
    let here = subst (λ (n : ℕ). n < length bytes) same inside in
    split_at_first (λ b. b == sign) bytes 0 here
    ∙ ap (λ b. take (place_in sign bytes) bytes ++ b ∷ drop (place_in sign bytes + 1) bytes) (same_number _ sign (passes_at_first (λ b. b == sign) bytes 0 here))
    ∙ ap (λ n. take n bytes ++ sign ∷ drop (n + 1) bytes) (sym same)

pub cut_some : (sign place : ℕ) (bytes : Bytes) → Some place ≡ position (λ b. b == sign) bytes → IsRead (parted sign) (λ p. Lacks sign p.0) bytes (Some (take place bytes, take (length bytes - (place + 1)) (drop (place + 1) bytes)))
cut_some sign place bytes found =
    let at = found_place sign place bytes found in
    let lacks = subst (λ (n : ℕ). Lacks sign (take n bytes)) (sym at.0) (lacks_before sign bytes) in
    let rest = take_all (length bytes - (place + 1)) (drop (place + 1) bytes) (omega (arith, length-drop (place + 1) bytes)) in
    let parts = found_parts sign place bytes at.0 at.1 ∙ ap (λ l. take place bytes ++ sign ∷ l) (sym rest) in
    record {
      some = (lacks, parts);
      one = λ p other is.
          let same = parted_same sign (take place bytes) p.0 (take (length bytes - (place + 1)) (drop (place + 1) bytes)) p.1 lacks other (sym parts ∙ is) in
          ap (λ l. Some (l, take (length bytes - (place + 1)) (drop (place + 1) bytes))) same.0 ∙ ap (λ r. Some (p.0, r)) same.1;
    }

-- a value of two parts whose text is their texts with a sign between them
pub record IsParted {A B V : Type 0} (sign : ℕ) (left : A → Bytes) (FA : A → Type 0) (right : B → Bytes) (FB : B → Type 0) (text : V → Bytes) (F : V → Type 0) (make : A → B → V) (first : V → A) (second : V → B) : Type 0 where
  pub spelled : (v : V) → text v ≡ left (first v) ++ sign ∷ right (second v)
  pub made : (a : A) (b : B) → text (make a b) ≡ left a ++ sign ∷ right b
  pub fits : (a : A) (b : B) → FA a → FB b → F (make a b)
  pub first_fits : (v : V) → F v → FA (first v)
  pub second_fits : (v : V) → F v → FB (second v)
  pub lacks : (a : A) → FA a → Lacks sign (left a)
  pub whole : (v : V) → make (first v) (second v) ≡ v

module _ {A B V : Type 0} {sign : ℕ} {left : A → Bytes} {FA : A → Type 0} {right : B → Bytes} {FB : B → Type 0} {text : V → Bytes} {F : V → Type 0} {make : A → B → V} {first : V → A} {second : V → B} (parts : IsParted sign left FA right FB text F make first second) (bytes : Bytes) where
  abbrev pub Cut : Option (Bytes × Bytes) → Type 0
  Cut p = IsRead (parted sign) (λ q. Lacks sign q.0) bytes p

  pub nothing : (answer : Option V) → answer ≡ None → ((v : V) → F v → ¬ (bytes ≡ text v)) → IsRead text F bytes answer
  nothing None _ none = record { some = tt; one = λ v fits is. absurd (none v fits is) }
  nothing (Some v) bad none = absurd (none_some v (sym bad))

  cut_of : (p : Option (Bytes × Bytes)) → Cut p → (v : V) → F v → bytes ≡ text v → p ≡ Some (left (first v), right (second v))
  cut_of p cut v fits is = cut.one (left (first v), right (second v)) (parts.lacks (first v) (parts.first_fits v fits)) (is ∙ parts.spelled v)

  pub no_sign : (answer : Option V) → answer ≡ None → Cut None → IsRead text F bytes answer
  no_sign answer none cut = nothing answer none (λ v fits is. none_some (left (first v), right (second v)) (cut_of None cut v fits is))

  pub no_first : (l r : Bytes) (answer : Option V) → answer ≡ None → Cut (Some (l, r)) → IsRead left FA l None → IsRead text F bytes answer
  no_first l r answer none cut read = nothing answer none (λ v fits is. none_some (first v) (read.one (first v) (parts.first_fits v fits) (ap (λ p. p.0) (some_same (l, r) _ (cut_of (Some (l, r)) cut v fits is)))))

  pub no_second : (l r : Bytes) (answer : Option V) → answer ≡ None → Cut (Some (l, r)) → IsRead right FB r None → IsRead text F bytes answer
  no_second l r answer none cut read = nothing answer none (λ v fits is. none_some (second v) (read.one (second v) (parts.second_fits v fits) (ap (λ p. p.1) (some_same (l, r) _ (cut_of (Some (l, r)) cut v fits is)))))

  pub both : (l r : Bytes) (a : A) (b : B) → Cut (Some (l, r)) → IsRead left FA l (Some a) → IsRead right FB r (Some b) → IsRead text F bytes (Some (make a b))
  both l r a b cut one other = record {
    some = (parts.fits a b one.some.0 other.some.0, cut.some.1 ∙ ap (λ t. t ++ sign ∷ r) one.some.1 ∙ ap (λ t. left a ++ sign ∷ t) other.some.1 ∙ sym (parts.made a b));
    one = λ v fits is.
        let same = some_same (l, r) _ (cut_of (Some (l, r)) cut v fits is) in
        let firsts = some_same a (first v) (one.one (first v) (parts.first_fits v fits) (ap (λ p. p.0) same)) in
        let seconds = some_same b (second v) (other.one (second v) (parts.second_fits v fits) (ap (λ p. p.1) same)) in
        ap (λ x. Some (make x b)) firsts ∙ ap (λ y. Some (make (first v) y)) seconds ∙ ap (λ z. Some z) (parts.whole v);
  }

lacks_small : (n : ℕ) → Is32 n → Lacks 45 (decimal n)
lacks_small n small = lacks_decimal 45 n refl (omega (arith, small))

pub pair_parts : IsParted 45 decimal Is64 decimal Is64 pair_text (λ p. Is64 p.0 × Is64 p.1) (λ a b. (a, b)) (λ p. p.0) (λ p. p.1)
pair_parts = record {
  spelled = λ v. refl;
  made = λ a b. refl;
  fits = λ a b f g. (f, g);
  first_fits = λ v fits. fits.0;
  second_fits = λ v fits. fits.1;
  lacks = λ a small. lacks_decimal 45 a refl small;
  whole = λ v. refl;
}

pub app_parts : IsParted 45 decimal Is32 decimal Is64 app_text IsApp (λ h s. record { host = h; serial = s }) (λ a. a.host) (λ a. a.serial)
unfolding app_text
app_parts = record {
  spelled = λ v. joined 45 (decimal v.host) (decimal v.serial);
  made = λ h s. joined 45 (decimal h) (decimal s);
  fits = λ a b f g. (f, g);
  first_fits = λ v fits. fits.0;
  second_fits = λ v fits. fits.1;
  lacks = lacks_small;
  whole = λ v. refl;
}

pub counted_parts : IsParted 45 decimal Is32 pair_text (λ p. Is64 p.0 × Is64 p.1) (λ p. counted_text p.0 p.1) IsCounted (λ h p. (record { host = h; serial = p.0 }, p.1)) (λ v. v.0.host) (λ v. (v.0.serial, v.1))
counted_parts = record {
  spelled = λ v. counted_is v.0 v.1;
  made = λ h p. counted_is (record { host = h; serial = p.0 }) p.1;
  fits = λ a b f g. ((f, g.0), g.1);
  first_fits = λ v fits. fits.0.0;
  second_fits = λ v fits. (fits.0.1, fits.1);
  lacks = lacks_small;
  whole = λ v. refl;
}

pub ar_parts : IsParted 45 decimal Is32 (λ r. region_letter r ∷ []) (λ _. ⊤) (λ (p : ℕ × Region). ar_value p.0 p.1) (λ p. Is32 p.0) (λ a b. (a, b)) (λ p. p.0) (λ p. p.1)
unfolding ar_value
ar_parts = record {
  spelled = λ v. joined 45 (decimal v.0) (region_letter v.1 ∷ []);
  made = λ n r. joined 45 (decimal n) (region_letter r ∷ []);
  fits = λ a b f g. f;
  first_fits = λ v fits. fits;
  second_fits = λ v fits. tt;
  lacks = lacks_small;
  whole = λ v. refl;
}

-- ## Numbers

pub utf8_of_decimal : (n : ℕ) (bytes : Bytes) → Is64 n → bytes ≡ decimal n → IsUtf8 bytes
utf8_of_decimal n bytes small is = subst IsUtf8 (sym is) (IsUtf8-from_ascii (decimal n) (IsAscii-decimal n small))

pub parsed_is : {E : Type 0} (n number : ℕ) (bytes : Bytes) (r : Result ℕ E) → Is64 n → bytes ≡ decimal n → ParsesUnsigned 64 10 bytes r → r ≡ Ok number → Some number ≡ Some n
parsed_is n number bytes r small is parses ok = ap (λ r. Some (result_unwrap_or r 0)) (sym ok ∙ parse-decimal 64 n bytes r small small is parses)

pub not_parsed : {E : Type 0} (n : ℕ) (bytes : Bytes) (r : Result ℕ E) (e : E) → Is64 n → bytes ≡ decimal n → ParsesUnsigned 64 10 bytes r → r ≡ Err e → ⊥
not_parsed n bytes r e small is parses err = false≢true (ap is_ok (sym err ∙ parse-decimal 64 n bytes r small small is parses))

-- ## The mark of an epoch

pub mark_before : (salt : Bytes) (epoch : ℕ) (rest : Bytes) → mark_text salt epoch ++ rest ≡ salt ++ (epoch_end epoch ++ rest)
mark_before salt epoch rest = ap (λ l. l ++ rest) (mark_is salt epoch) ∙ append_assoc salt (epoch_end epoch) rest

end_of_first : (epoch : ℕ) → epoch ≡ 0 → epoch_end epoch ≡ []
end_of_first epoch first = ap epoch_end first

end_of_later : (epoch : ℕ) → epoch ≢ 0 → epoch_end epoch ≡ 46 ∷ decimal epoch
end_of_later epoch later = ap (λ b. cond b [] (46 ∷ decimal epoch)) (not_zero epoch later)

pub mark_of_first : (salt : Bytes) (epoch : ℕ) (rest : Bytes) → epoch ≡ 0 → mark_text salt epoch ++ rest ≡ salt ++ rest
mark_of_first salt epoch rest first = mark_before salt epoch rest ∙ ap (λ l. salt ++ (l ++ rest)) (end_of_first epoch first)

pub mark_of_later : (salt : Bytes) (epoch : ℕ) (rest : Bytes) → epoch ≢ 0 → mark_text salt epoch ++ rest ≡ salt ++ (46 ∷ (decimal epoch ++ rest))
mark_of_later salt epoch rest later = mark_before salt epoch rest ∙ ap (λ l. salt ++ (l ++ rest)) (end_of_later epoch later)

pub ap_of_first : (epoch : ℕ) (app : AppId) → epoch ≡ 0 → ap_value epoch app ≡ app_text app
ap_of_first epoch app first = ap_is epoch app ∙ ap (λ l. app_text app ++ l) (end_of_first epoch first) ∙ append-nil (app_text app)

pub ap_of_later : (epoch : ℕ) (app : AppId) → epoch ≢ 0 → ap_value epoch app ≡ app_text app ++ 46 ∷ decimal epoch
ap_of_later epoch app later = ap_is epoch app ∙ ap (λ l. app_text app ++ l) (end_of_later epoch later)

pub tag_before : (salt : Bytes) (epoch : ℕ) (app : AppId) (k : ℕ) → tag_text salt epoch app k ≡ mark_text salt epoch ++ (45 ∷ counted_text app k)
unfolding tag_text
tag_before salt epoch app k = joined 45 (mark_text salt epoch) (counted_text app k)
