-- Parts, cut and read from the front.
use Rattle.std.proofs.Common.{◌≡◌, ℕ, suc, Bool, true, false, cond, ◌&&◌, ◌==◌, Option, Some, None, List, [], ◌∷◌, ◌++◌, ◌+◌, ◌≤◌, ◌<◌, length, take, drop, get_or, refl, sym, ap, ◌∙◌, append_assoc, append-nil, arith}
use Rattle.std.specs.Option.{option_map}
use Rattle.std.proofs.lemmas.List.{at_drop_all, at_drop_more}
use Rattle.sc_syntax.specs.declared.scan.Scan.{Scan}
use Rattle.sc_tokens.specs.Bytes.{Bytes}
use Rattle.sc_tokens.specs.Cuts.{onto_first}
use Rattle.sc_syntax.specs.Scanning.{past, is_outside, is_part_end, parts, with_first, all_read}
use Rattle.sc_head_text.specs.declared.unread.Unread.{Unread}
use Rattle.sc_head_text.specs.declared.unread.Unread.TheVariants.{Fault, NoMemory}
use Rattle.sc_head_text.specs.Answers.{Fails}
use Rattle.sc_head_text.specs.Parts.{part_len, parts_behind}

-- ## The first part's end

at_end : (sign b : ℕ) (at : Scan) (bs : Bytes) → is_part_end at sign b ≡ true → part_len sign at (b ∷ bs) ≡ 0
unfolding part_len
at_end sign b at bs h = rw h refl

at_more : (sign b : ℕ) (at : Scan) (bs : Bytes) → is_part_end at sign b ≡ false → part_len sign at (b ∷ bs) ≡ 1 + part_len sign (past at b) bs
unfolding part_len
at_more sign b at bs h = rw h refl

at_none : (sign : ℕ) (at : Scan) → part_len sign at [] ≡ 0
unfolding part_len
at_none sign at = refl

pub part_here : (text : Bytes) (sign i : ℕ) (at : Scan) → i < length text → is_part_end at sign (get_or text i 0) ≡ true → part_len sign at (drop i text) ≡ 0
part_here text sign i at here h = at_drop_more (part_len sign at) text i 0 here ∙ at_end sign (get_or text i 0) at (drop (i + 1) text) h

pub part_more : (text : Bytes) (sign i : ℕ) (at : Scan) → i < length text → is_part_end at sign (get_or text i 0) ≡ false
    → part_len sign at (drop i text) ≡ 1 + part_len sign (past at (get_or text i 0)) (drop (i + 1) text)
part_more text sign i at here h = at_drop_more (part_len sign at) text i 0 here ∙ at_more sign (get_or text i 0) at (drop (i + 1) text) h

pub part_past : (text : Bytes) (sign i : ℕ) (at : Scan) → length text ≤ i → part_len sign at (drop i text) ≡ 0
part_past text sign i at past_end = at_drop_all (part_len sign at) text i past_end ∙ at_none sign at

-- ## Where no byte is the separator

and_false : (x : Bool) → (x && false) ≡ false
and_false true = refl
and_false false = refl

no_end : (at : Scan) (sign b : ℕ) → (b == sign) ≡ false → is_part_end at sign b ≡ false
unfolding is_part_end
no_end at sign b h = rw h (and_false (is_outside at))

from_not : (b : Bool) → ¬ (b ≡ true) → b ≡ false
from_not true h = absurd (h refl)
from_not false h = refl

-- no byte of the text is this one
abbrev pub HasNo : ℕ → Bytes → Type 0
HasNo sign text = (j : ℕ) → j < length text → ¬ ((get_or text j 0 == sign) ≡ true)

pub part_whole : (text : Bytes) (sign : ℕ) (at : Scan) → HasNo sign text → part_len sign at text ≡ length text
part_whole [] sign at none = at_none sign at
part_whole (b ∷ bs) sign at none =
    let first : 0 < length (b ∷ bs) = omega arith in
    let rest : part_len sign (past at b) bs ≡ length bs = part_whole bs sign (past at b) (λ j lt. none (suc j) (omega (arith, lt))) in
    let more : part_len sign at (b ∷ bs) ≡ 1 + part_len sign (past at b) bs = at_more sign b at bs (no_end at sign b (from_not (b == sign) (none 0 first))) in
    omega (arith, rest, more)

-- ## The first part, and those behind it

onto : (b : ℕ) (f : Bytes) (fs : List Bytes) → onto_first b (f ∷ fs) ≡ (b ∷ f) ∷ fs
unfolding onto_first
onto b f fs = refl

take_on : (b n : ℕ) (bs : Bytes) → take (1 + n) (b ∷ bs) ≡ b ∷ take n bs
take_on b n bs = let one : ◌≡◌ {A = ℕ} (1 + n) (suc n) = omega arith in rw one refl

drop_on : (b n : ℕ) (bs : Bytes) → drop (1 + n + 1) (b ∷ bs) ≡ drop (n + 1) bs
drop_on b n bs = let one : ◌≡◌ {A = ℕ} (1 + n + 1) (suc (n + 1)) = omega arith in rw one refl

-- no separator parts the text
pub parts_last : (text : Bytes) (restart at : Scan) (sign : ℕ) → part_len sign at text ≡ length text → parts restart sign at text ≡ text ∷ []
unfolding parts
parts_last [] restart at sign h = refl
parts_last (b ∷ bs) restart at sign h = elim (is_part_end at sign b) as (λ (t : Bool). is_part_end at sign b ≡ t → cond t ([] ∷ parts restart sign restart bs) (onto_first b (parts restart sign (past at b) bs)) ≡ (b ∷ bs) ∷ []) [
  | true ↦ λ e. absurd (let none : 0 ≡ suc (length bs) = sym (at_end sign b at bs e) ∙ h in cc)
  | false ↦ λ e. let same : part_len sign (past at b) bs ≡ length bs = (let more = at_more sign b at bs e in omega (arith, h, more)) in ap (onto_first b) (parts_last bs restart (past at b) sign same) ∙ onto b bs []
] refl

-- the first separator parts the text
pub parts_more : (text : Bytes) (restart at : Scan) (sign : ℕ) → part_len sign at text < length text → parts restart sign at text ≡ take (part_len sign at text) text ∷ parts restart sign restart (drop (part_len sign at text + 1) text)
unfolding parts
parts_more [] restart at sign h = absurd (let none = at_none sign at in omega (arith, h, none))
parts_more (b ∷ bs) restart at sign h = elim (is_part_end at sign b) as (λ (t : Bool). is_part_end at sign b ≡ t → cond t ([] ∷ parts restart sign restart bs) (onto_first b (parts restart sign (past at b) bs)) ≡ take (part_len sign at (b ∷ bs)) (b ∷ bs) ∷ parts restart sign restart (drop (part_len sign at (b ∷ bs) + 1) (b ∷ bs))) [
  | true ↦ λ e. rw (at_end sign b at bs e) refl
  | false ↦ λ e. let fewer : part_len sign (past at b) bs < length bs = (let more = at_more sign b at bs e in omega (arith, h, more)) in
      ap (onto_first b) (parts_more bs restart (past at b) sign fewer)
      ∙ onto b (take (part_len sign (past at b) bs) bs) (parts restart sign restart (drop (part_len sign (past at b) bs + 1) bs))
      ∙ rw (at_more sign b at bs e, take_on b (part_len sign (past at b) bs) bs, drop_on b (part_len sign (past at b) bs) bs) refl
] refl

-- ## Reading part by part

-- those that are read already, before the others
abbrev pub behind : {X : Type 0} → List X → Option (List X) → Option (List X)
behind items more = option_map (λ others. items ++ others) more

pub behind_none : {X : Type 0} (o : Option (List X)) → behind [] o ≡ o
behind_none None = refl
behind_none (Some xs) = refl

module _ {X : Type 0} (read : Bytes → Option X) where
  more_is : (text : Bytes) (texts : List Bytes) → all_read read (text ∷ texts) ≡ with_first (read text) (all_read read texts)
  unfolding all_read
  more_is text texts = refl

  with_some : (items : List X) (item : X) (o : Option (List X)) → behind items (with_first (Some item) o) ≡ behind (items ++ item ∷ []) o
  unfolding with_first
  with_some items item None = refl
  with_some items item (Some others) = ap Some (sym (append_assoc items (item ∷ []) others))

  with_none : (items : List X) (o : Option (List X)) → behind items (with_first None o) ≡ None
  unfolding with_first
  with_none items o = refl

  pub part_read : (items : List X) (item : X) (all texts : List Bytes) (text : Bytes) → all ≡ text ∷ texts → read text ≡ Some item → behind (items ++ item ∷ []) (all_read read texts) ≡ behind items (all_read read all)
  part_read items item all texts text is h =
      sym (ap (λ l. behind items (all_read read l)) is ∙ ap (behind items) (more_is text texts) ∙ ap (λ o. behind items (with_first o (all_read read texts))) h ∙ with_some items item (all_read read texts))

  part_refused : (items : List X) (all texts : List Bytes) (text : Bytes) → all ≡ text ∷ texts → read text ≡ None → behind items (all_read read all) ≡ None
  part_refused items all texts text is h =
      ap (λ l. behind items (all_read read l)) is ∙ ap (behind items) (more_is text texts) ∙ ap (λ o. behind items (with_first o (all_read read texts))) h ∙ with_none items (all_read read texts)

  pub part_fails : (items : List X) (all texts : List Bytes) (text : Bytes) (whole : Option (List X)) (unread : Unread) → all ≡ text ∷ texts → Fails unread (read text) → behind items (all_read read all) ≡ whole → Fails unread whole
  part_fails items all texts text whole Fault is h same = sym same ∙ part_refused items all texts text is h
  part_fails items all texts text whole NoMemory is h same = tt

  pub parts_end : (items : List X) (all : List Bytes) (whole : Option (List X)) → all ≡ [] → behind items (all_read read all) ≡ whole → whole ≡ Some items
  unfolding all_read
  parts_end items all whole is same = sym same ∙ ap (λ l. behind items (all_read read l)) is ∙ ap Some (append-nil items)

-- ## The parts behind a separator

pub behind_some : (restart : Scan) (sign : ℕ) (text : Bytes) → parts_behind restart sign (Some text) ≡ parts restart sign restart text
unfolding parts_behind
behind_some restart sign text = refl

pub behind_end : (restart : Scan) (sign : ℕ) → parts_behind restart sign None ≡ []
unfolding parts_behind
behind_end restart sign = refl

-- the first part and those behind it, where a separator parts
pub split_more : (text rest : Bytes) (restart at : Scan) (sign len : ℕ) → len ≡ part_len sign at text → len < length text → rest ≡ drop (len + 1) text
    → parts restart sign at text ≡ take len text ∷ parts_behind restart sign (Some rest)
unfolding parts_behind
split_more text rest restart at sign len is fewer from =
    let less : part_len sign at text < length text = (let same = is in omega (arith, same, fewer)) in
    parts_more text restart at sign less ∙ ap (λ n. take n text ∷ parts restart sign restart (drop (n + 1) text)) (sym is) ∙ ap (λ t. take len text ∷ parts restart sign restart t) (sym from)
