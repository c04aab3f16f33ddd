-- Sessions that are found by what names them in a URI.
use Rattle.std.proofs.Common.{◌≡◌, ◌==◌, ◌+◌, ◌-◌, ◌<◌, ◌≤◌, ℕ, Bool, true, false, ◌||◌, None, Some, [], ◌∷◌, ◌++◌, length, take, drop, refl, sym, ap, ◌∙◌, arith, append_assoc, append-nil}
use Rattle.std.specs.Prelude.{decimal, if◌then◌else◌}
use Rattle.std.specs.Option.{option_map_or}
use Rattle.std.proofs.lemmas.Bool.{false≢true}
use Rattle.std.proofs.lemmas.Bool.Decides.{nat_tests}
use Rattle.std.proofs.lemmas.List.{length-append, length-drop}
use Rattle.std.proofs.lemmas.Slice.Eq.{slice_eq-Decides}
use Rattle.std.proofs.lemmas.Bool.Decides.{Decides-eqb}
use Rattle.sc_tokens.specs.Names.{same_bytes}
use Rattle.sc_value.specs.declared.parts.Uri.{Uri}
use Rattle.sc_tokens.specs.Bytes.{Bytes}
use Rattle.sc_model.specs.Names.{app_text, ap_value}
use Rattle.sc_book.specs.Words.{belongs}
use Rattle.sc_state.specs.declared.host.Live.{Live}
use Rattle.sc_state.specs.declared.session.Session.{Session}
use Rattle.sc_state.specs.Groups.{text_number, serial_number, groups_of_live}
use Rattle.sc_hosts.specs.Taking.{ap_of, names, is_named_live}

equal_text : (a b : Bytes) → same_bytes a b ≡ true → a ≡ b
equal_text a b e = (slice_eq-Decides Decides-eqb a b (same_bytes a b) refl).0 e

or_right : (a b : Bool) → b ≡ true → (a || b) ≡ true
or_right true b e = refl
or_right false b e = e

itself : (a : ℕ) → (a == a) ≡ true
itself a = grind (arith, nat_tests)

-- what a name ends with for its epoch
abbrev ending : ℕ → Bytes
ending epoch = if epoch == 0 then [] else 46 ∷ decimal epoch

abbrev ending_len : ℕ → ℕ
ending_len epoch = if epoch == 0 then 0 else length (decimal epoch) + 1

split : (epoch host serial : ℕ) (b : Bool) → (epoch == 0) ≡ b → ap_value epoch (record { host = host; serial = serial }) ≡ (decimal host ++ 45 ∷ []) ++ (decimal serial ++ ending epoch)
unfolding ap_value app_text
split epoch host serial true e = rw (e, append-nil (decimal serial)) refl
split epoch host serial false e =
    rw e (append_assoc ((decimal host ++ 45 ∷ []) ++ decimal serial) (46 ∷ []) (decimal epoch) ∙ append_assoc (decimal host ++ 45 ∷ []) (decimal serial) (46 ∷ decimal epoch))

ending_is : (epoch : ℕ) (b : Bool) → (epoch == 0) ≡ b → length (ending epoch) ≡ ending_len epoch
ending_is epoch true e = rw e refl
ending_is epoch false e = rw e (omega arith)

seam : (xs ys : Bytes) → drop (length xs) (xs ++ ys) ≡ ys
seam [] ys = refl
seam (x ∷ xs) ys = seam xs ys

front : (xs ys : Bytes) → take (length xs) (xs ++ ys) ≡ xs
front [] ys = refl
front (x ∷ xs) ys = ap (λ l. x ∷ l) (front xs ys)

last_len : (xs : Bytes) → length (xs ++ 45 ∷ []) ≡ length xs + 1
last_len xs = length-append xs (45 ∷ [])

-- what stands between the host and the ending
between : (before own behind value : Bytes) (start end : ℕ) → value ≡ before ++ (own ++ behind) → start ≡ length before → end + length behind ≡ length value → drop start (take end value) ≡ own
between before own behind value start end is at until =
    let whole : value ≡ (before ++ own) ++ behind = is ∙ sym (append_assoc before own behind) in
    let long = length-append (before ++ own) behind in
    let same : end ≡ length (before ++ own) = omega (arith, until, ap length whole, long) in
    ap (λ n. drop start (take n value)) same ∙ ap (λ v. drop start (take (length (before ++ own)) v)) whole ∙ ap (drop start) (front (before ++ own) behind) ∙ ap (λ n. drop n (before ++ own)) at ∙ seam before own

text_len : (value : Bytes) (epoch number serial : ℕ) → value ≡ ap_value epoch (record { host = number; serial = serial }) → length value ≡ (length (decimal number) + 1) + (length (decimal serial) + ending_len epoch)
text_len value epoch number serial is =
    let parts = split epoch number serial (epoch == 0) refl in
    let all = length-append (decimal number ++ 45 ∷ []) (decimal serial ++ ending epoch) in
    let one = last_len (decimal number) in
    let two = length-append (decimal serial) (ending epoch) in
    let end = ending_is epoch (epoch == 0) refl in
    omega (arith, ap length (is ∙ parts), all, one, two, end)

-- the text of the serial stands there, where the text names a session of this host
pub serial_fits : (value : Bytes) (epoch number serial start end : ℕ) → start ≡ length (decimal number) + 1 → end + ending_len epoch ≡ length value → value ≡ ap_value epoch (record { host = number; serial = serial }) → start ≤ end
serial_fits value epoch number serial start end at until is = let long = text_len value epoch number serial is in omega (arith, at, until, long)

pub serial_within : (value : Bytes) (epoch number serial start end : ℕ) → start ≡ length (decimal number) + 1 → end + ending_len epoch ≡ length value → value ≡ ap_value epoch (record { host = number; serial = serial })
    → drop start (take end value) ≡ decimal serial
serial_within value epoch number serial start end at until is =
    between (decimal number ++ 45 ∷ []) (decimal serial) (ending epoch) value start end (is ∙ split epoch number serial (epoch == 0) refl) (at ∙ sym (last_len (decimal number)))
    (let long = ending_is epoch (epoch == 0) refl in omega (arith, until, long))

take_len : (xs : Bytes) → take (length xs) xs ≡ xs
take_len [] = refl
take_len (x ∷ xs) = ap (λ l. x ∷ l) (take_len xs)

-- a part from a place on is all that is there
rest_all : (n : ℕ) (xs : Bytes) → take (length xs - n) (drop n xs) ≡ drop n xs
rest_all n xs = ap (λ k. take k (drop n xs)) (sym (length-drop n xs)) ∙ take_len (drop n xs)

pub part_within : (value : Bytes) (epoch number start len end : ℕ) → start ≡ length (decimal number) + 1 → len ≡ ending_len epoch → end ≡ length value - len
    → (serial : ℕ) → value ≡ ap_value epoch (record { host = number; serial = serial }) → take (length (take end value) - start) (drop start (take end value)) ≡ decimal serial
part_within value epoch number start len end at ends until serial is =
    let long = text_len value epoch number serial is in
    let sum : end + ending_len epoch ≡ length value = omega (arith, ends, until, long) in
    rest_all start (take end value) ∙ serial_within value epoch number serial start end at sum is

pub part_fits : (value : Bytes) (epoch number start len end : ℕ) → start ≡ length (decimal number) + 1 → len ≡ ending_len epoch → end ≡ length value - len → end < start
    → (serial : ℕ) → value ≡ ap_value epoch (record { host = number; serial = serial }) → [] ≡ decimal serial
part_fits value epoch number start len end at ends until below serial is =
    let long = text_len value epoch number serial is in
    let none : ⊥ = omega (arith, at, ends, until, below, long) in
    absurd none

pub serial_named : (epoch number : ℕ) (uri : Uri) (value part : Bytes) → ap_of uri ≡ Some value → ((serial : ℕ) → value ≡ ap_value epoch (record { host = number; serial = serial }) → part ≡ decimal serial)
    → (serial : ℕ) → names epoch (record { host = number; serial = serial }) uri ≡ true → text_number part ≡ serial_number serial
unfolding names serial_number
serial_named epoch number uri value part there own serial is =
    let same : same_bytes (ap_value epoch (record { host = number; serial = serial })) value ≡ true = sym (ap (λ o. option_map_or (same_bytes (ap_value epoch (record { host = number; serial = serial }))) o false) there) ∙ is in
    ap text_number (own serial (sym (equal_text (ap_value epoch (record { host = number; serial = serial })) value same)))

-- a URI without it names nothing
pub none_named : (epoch number group : ℕ) (uri : Uri) → None ≡ ap_of uri → (serial : ℕ) → names epoch (record { host = number; serial = serial }) uri ≡ true → group ≡ serial_number serial
unfolding names
none_named epoch number group uri none serial is = absurd (false≢true (ap (λ o. option_map_or (same_bytes (ap_value epoch (record { host = number; serial = serial }))) o false) none ∙ is))

pub named_grouped : (group epoch number : ℕ) (uri : Uri) → ((serial : ℕ) → names epoch (record { host = number; serial = serial }) uri ≡ true → group ≡ serial_number serial)
    → (x : Live Session) → is_named_live epoch number uri x ≡ true → belongs groups_of_live group x ≡ true
unfolding is_named_live
named_grouped group epoch number uri named x is =
    or_right (serial_number x.serial == group) (serial_number x.serial == group) (ap (λ n. serial_number x.serial == n) (named x.serial is) ∙ itself (serial_number x.serial))
