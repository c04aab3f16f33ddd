-- Parts between commas, byte by byte.
use Rattle.std.proofs.Common.{◌≡◌, ℕ, Bool, true, false, cond, not, List, [], ◌∷◌, ◌++◌, ◌+◌, ◌-◌, ◌<◌, ◌≤◌, ◌==◌, ◌&&◌, length, take, drop, refl, sym, ap, ◌∙◌, append_assoc, append-nil, get_or, arith}
use Rattle.std.proofs.lemmas.List.{at_drop_all, at_drop_more, take_all, take_more, length-drop}
use Rattle.sc_tokens.specs.Bytes.{Bytes}
use Rattle.sc_tokens.specs.Cuts.{onto_first}
use Rattle.sc_dar.specs.Tuples.{parts}

-- the first of the pieces, with this text before it
abbrev pub behind_front : Bytes → List Bytes → List Bytes
behind_front front [] = front ∷ []
behind_front front (p ∷ ps) = (front ++ p) ∷ ps

onto : (x : ℕ) (ps : List Bytes) → (q : Bytes) × (qs : List Bytes) × (onto_first x ps ≡ q ∷ qs)
unfolding onto_first
onto x [] = (x ∷ [], [], refl)
onto x (p ∷ ps) = (x ∷ p, ps, refl)

pub some_parts : (quoted : Bool) (text : Bytes) → (q : Bytes) × (qs : List Bytes) × (parts quoted text ≡ q ∷ qs)
unfolding parts
some_parts quoted [] = ([], [], refl)
some_parts quoted (b ∷ bs) = elim (b == 44 && not quoted) as (λ (t : Bool). (q : Bytes) × (qs : List Bytes) × (cond t ([] ∷ parts false bs) (onto_first b (parts (cond (b == 34) (not quoted) quoted) bs)) ≡ q ∷ qs)) [
  | true ↦ ([], parts false bs, refl)
  | false ↦ onto b (parts (cond (b == 34) (not quoted) quoted) bs)
]

none_before : (ps : List Bytes) (q : Bytes) (qs : List Bytes) → ps ≡ q ∷ qs → behind_front [] ps ≡ ps
none_before ps q qs e = rw e refl

pub parts_begun : (text : Bytes) → behind_front [] (parts false text) ≡ parts false text
parts_begun text = let (q, qs, e) = some_parts false text in none_before (parts false text) q qs e

onto_more : (front : Bytes) (x : ℕ) (ps : List Bytes) → behind_front front (onto_first x ps) ≡ behind_front (front ++ x ∷ []) ps
unfolding onto_first
onto_more front x [] = refl
onto_more front x (p ∷ ps) = ap (λ t. t ∷ ps) (sym (append_assoc front (x ∷ []) p))

parts_more : (quoted : Bool) (b : ℕ) (bs : Bytes) → (b == 44 && not quoted) ≡ false → parts quoted (b ∷ bs) ≡ onto_first b (parts (cond (b == 34) (not quoted) quoted) bs)
unfolding parts
parts_more quoted b bs h = rw h refl

parts_end : (quoted : Bool) (b : ℕ) (bs : Bytes) → (b == 44 && not quoted) ≡ true → parts quoted (b ∷ bs) ≡ [] ∷ parts false bs
unfolding parts
parts_end quoted b bs h = rw h refl

parts_none : (quoted : Bool) → parts quoted [] ≡ [] ∷ []
unfolding parts
parts_none quoted = refl

pub part_on : (text : Bytes) (i : ℕ) (quoted after : Bool) → i < length text → (get_or text i 0 == 44 && not quoted) ≡ false → after ≡ cond (get_or text i 0 == 34) (not quoted) quoted
    → behind_front (take (i + 1) text) (parts after (drop (i + 1) text)) ≡ behind_front (take i text) (parts quoted (drop i text))
part_on text i quoted after here h is =
    ap (λ q. behind_front (take (i + 1) text) (parts q (drop (i + 1) text))) is
    ∙ ap (λ f. behind_front f (parts (cond (get_or text i 0 == 34) (not quoted) quoted) (drop (i + 1) text))) (take_more text i 0 here)
    ∙ sym (onto_more (take i text) (get_or text i 0) (parts (cond (get_or text i 0 == 34) (not quoted) quoted) (drop (i + 1) text)))
    ∙ sym (ap (behind_front (take i text)) (at_drop_more (parts quoted) text i 0 here ∙ parts_more quoted (get_or text i 0) (drop (i + 1) text) h))

pub part_ends : (text : Bytes) (i : ℕ) (quoted : Bool) → i < length text → (get_or text i 0 == 44 && not quoted) ≡ true → behind_front (take i text) (parts quoted (drop i text)) ≡ parts false text
    → parts false text ≡ take i text ∷ parts false (take (length text - (i + 1)) (drop (i + 1) text))
part_ends text i quoted here h so_far =
    sym so_far ∙ ap (behind_front (take i text)) (at_drop_more (parts quoted) text i 0 here ∙ parts_end quoted (get_or text i 0) (drop (i + 1) text) h)
    ∙ ap (λ f. f ∷ parts false (drop (i + 1) text)) (append-nil (take i text))
    ∙ ap (λ r. take i text ∷ parts false r) (sym (take_all (length text - (i + 1)) (drop (i + 1) text) (omega (arith, length-drop (i + 1) text))))

pub part_last : (text : Bytes) (i : ℕ) (quoted : Bool) → length text ≤ i → behind_front (take i text) (parts quoted (drop i text)) ≡ parts false text → parts false text ≡ text ∷ []
part_last text i quoted past so_far =
    sym so_far ∙ ap (behind_front (take i text)) (at_drop_all (parts quoted) text i past ∙ parts_none quoted)
    ∙ ap (λ f. f ∷ []) (append-nil (take i text) ∙ take_all i text past)
