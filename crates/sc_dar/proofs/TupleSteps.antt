-- Tuples, read from the front.
use Rattle.std.proofs.Common.{◌≡◌, ℕ, false, Option, Some, None, Result, Ok, Err, List, [], ◌∷◌, ◌++◌, ◌+◌, length, refl, sym, ap, ◌∙◌, append_assoc, append-nil, arith}
use Rattle.std.proofs.lemmas.List.{length-append}
use Rattle.sc_terms.specs.declared.settings.Tuple.{Tuple}
use Rattle.sc_tokens.specs.Bytes.{Bytes}
use Rattle.sc_dar.specs.Tuples.{BAD_TUPLE, TupleTexts, then_read, parts, parts_after, first_six, tuple_at, tuples_in}
use Rattle.sc_dar.specs.Answers.{IsKind}
use Rattle.sc_dar.specs.declared.unread.Unread.{Unread}
use Rattle.sc_dar.specs.declared.unread.Unread.TheVariants as causes
use Rattle.sc_dar.proofs.Parting.{some_parts}

-- those that are read already, before the others
abbrev pub behind : List Tuple → Result (List Tuple) ℕ → Result (List Tuple) ℕ
behind tuples more = then_read more (λ others. Ok (tuples ++ others))

behind_none : (r : Result (List Tuple) ℕ) → behind [] r ≡ r
unfolding then_read
behind_none (Ok tuples) = refl
behind_none (Err kind) = refl

-- how the reading stands: these tuples are read, and this text is left
abbrev pub Stands : List Bytes → Bytes → List Tuple → Bytes → Type 0
Stands apps text tuples rest = behind tuples (tuples_in apps (length tuples) (parts false rest)) ≡ tuples_in apps 0 (parts false text)

pub tuples_begun : (apps : List Bytes) (text : Bytes) → Stands apps text [] text
tuples_begun apps text = behind_none (tuples_in apps 0 (parts false text))

-- the tuple, before the others
abbrev with_first : List Bytes → ℕ → List Bytes → Result Tuple ℕ → Result (List Tuple) ℕ
with_first apps order more first = then_read first (λ tuple. then_read (tuples_in apps (1 + order) more) (λ tuples. Ok (tuple ∷ tuples)))

abbrev by_six : List Bytes → ℕ → Option (TupleTexts × List Bytes) → Result (List Tuple) ℕ
by_six apps order None = Err BAD_TUPLE
by_six apps order (Some six) = with_first apps order six.1 (tuple_at apps order six.0)

six_is : (apps : List Bytes) (order : ℕ) (p : Bytes) (ps : List Bytes) → tuples_in apps order (p ∷ ps) ≡ by_six apps order (first_six (p ∷ ps))
unfolding tuples_in first_six
six_is apps order a [] = refl
six_is apps order a (s ∷ []) = refl
six_is apps order a (s ∷ g ∷ []) = refl
six_is apps order a (s ∷ g ∷ r ∷ []) = refl
six_is apps order a (s ∷ g ∷ r ∷ m ∷ []) = refl
six_is apps order a (s ∷ g ∷ r ∷ m ∷ o ∷ more) = refl

some_six : (apps : List Bytes) (order : ℕ) (ps : List Bytes) (q : Bytes) (qs : List Bytes) → ps ≡ q ∷ qs → tuples_in apps order ps ≡ by_six apps order (first_six ps)
some_six apps order ps q qs e = rw e (six_is apps order q qs)

left : (apps : List Bytes) (order : ℕ) (rest : Bytes) → tuples_in apps order (parts false rest) ≡ by_six apps order (first_six (parts false rest))
left apps order rest = let (q, qs, e) = some_parts false rest in some_six apps order (parts false rest) q qs e

fault_stays : (tuples : List Tuple) (kind : ℕ) → behind tuples (Err kind) ≡ Err kind
unfolding then_read
fault_stays tuples kind = refl

pub tuples_short : (apps : List Bytes) (text : Bytes) (tuples : List Tuple) (rest : Bytes) → Stands apps text tuples rest → None ≡ first_six (parts false rest) → tuples_in apps 0 (parts false text) ≡ Err BAD_TUPLE
tuples_short apps text tuples rest so_far h =
    sym so_far ∙ ap (behind tuples) (left apps (length tuples) rest ∙ ap (by_six apps (length tuples)) (sym h)) ∙ fault_stays tuples BAD_TUPLE

by_first : (apps : List Bytes) (text : Bytes) (tuples : List Tuple) (rest : Bytes) (t : TupleTexts) (more : List Bytes) → Stands apps text tuples rest → Some (t, more) ≡ first_six (parts false rest)
    → tuples_in apps 0 (parts false text) ≡ behind tuples (with_first apps (length tuples) more (tuple_at apps (length tuples) t))
by_first apps text tuples rest t more so_far h = sym so_far ∙ ap (behind tuples) (left apps (length tuples) rest ∙ ap (by_six apps (length tuples)) (sym h))

first_fault : (apps : List Bytes) (tuples : List Tuple) (more : List Bytes) (kind : ℕ) → behind tuples (with_first apps (length tuples) more (Err kind)) ≡ Err kind
unfolding then_read
first_fault apps tuples more kind = refl

pub tuples_fault : (apps : List Bytes) (text : Bytes) (tuples : List Tuple) (rest : Bytes) (t : TupleTexts) (more : List Bytes) (cause : Unread) → Stands apps text tuples rest → Some (t, more) ≡ first_six (parts false rest)
    → IsKind cause (tuple_at apps (length tuples) t) → IsKind cause (tuples_in apps 0 (parts false text))
tuples_fault apps text tuples rest t more (causes.Fault kind) so_far h g =
    by_first apps text tuples rest t more so_far h ∙ ap (λ f. behind tuples (with_first apps (length tuples) more f)) g ∙ first_fault apps tuples more kind
tuples_fault apps text tuples rest t more causes.NoMemory so_far h g = tt

behind_more : (tuples : List Tuple) (tuple : Tuple) (r : Result (List Tuple) ℕ) → behind tuples (then_read r (λ others. Ok (tuple ∷ others))) ≡ behind (tuples ++ tuple ∷ []) r
unfolding then_read
behind_more tuples tuple (Ok others) = ap Ok (sym (append_assoc tuples (tuple ∷ []) others))
behind_more tuples tuple (Err kind) = refl

first_read : (apps : List Bytes) (order : ℕ) (more : List Bytes) (tuple : Tuple) → with_first apps order more (Ok tuple) ≡ then_read (tuples_in apps (1 + order) more) (λ tuples. Ok (tuple ∷ tuples))
unfolding then_read
first_read apps order more tuple = refl

one_more : (tuples : List Tuple) (tuple : Tuple) → 1 + length tuples ≡ length (tuples ++ tuple ∷ [])
one_more tuples tuple = omega (arith, length-append tuples (tuple ∷ []))

by_tuple : (apps : List Bytes) (text : Bytes) (tuples : List Tuple) (rest : Bytes) (t : TupleTexts) (more : List Bytes) (tuple : Tuple) → Stands apps text tuples rest → Some (t, more) ≡ first_six (parts false rest)
    → tuple_at apps (length tuples) t ≡ Ok tuple → tuples_in apps 0 (parts false text) ≡ behind (tuples ++ tuple ∷ []) (tuples_in apps (length (tuples ++ tuple ∷ [])) more)
by_tuple apps text tuples rest t more tuple so_far h g =
    by_first apps text tuples rest t more so_far h ∙ ap (λ f. behind tuples (with_first apps (length tuples) more f)) g
    ∙ ap (behind tuples) (first_read apps (length tuples) more tuple)
    ∙ behind_more tuples tuple (tuples_in apps (1 + length tuples) more)
    ∙ ap (λ n. behind (tuples ++ tuple ∷ []) (tuples_in apps n more)) (one_more tuples tuple)

after_some : (text : Bytes) → parts_after (Some text) ≡ parts false text
unfolding parts_after
after_some text = refl

pub tuples_on : (apps : List Bytes) (text : Bytes) (tuples : List Tuple) (rest : Bytes) (t : TupleTexts) (more : Bytes) (tuple : Tuple) → Stands apps text tuples rest → Some (t, parts_after (Some more)) ≡ first_six (parts false rest)
    → tuple_at apps (length tuples) t ≡ Ok tuple → Stands apps text (tuples ++ tuple ∷ []) more
tuples_on apps text tuples rest t more tuple so_far h g =
    sym (by_tuple apps text tuples rest t (parts_after (Some more)) tuple so_far h g ∙ ap (λ ps. behind (tuples ++ tuple ∷ []) (tuples_in apps (length (tuples ++ tuple ∷ [])) ps)) (after_some more))

none_left : (apps : List Bytes) (tuples : List Tuple) (order : ℕ) → behind tuples (tuples_in apps order (parts_after None)) ≡ Ok (tuples ++ [])
unfolding parts_after tuples_in then_read
none_left apps tuples order = refl

pub tuples_last : (apps : List Bytes) (text : Bytes) (tuples : List Tuple) (rest : Bytes) (t : TupleTexts) (tuple : Tuple) → Stands apps text tuples rest → Some (t, parts_after None) ≡ first_six (parts false rest)
    → tuple_at apps (length tuples) t ≡ Ok tuple → tuples_in apps 0 (parts false text) ≡ Ok (tuples ++ tuple ∷ [])
tuples_last apps text tuples rest t tuple so_far h g =
    by_tuple apps text tuples rest t (parts_after None) tuple so_far h g
    ∙ none_left apps (tuples ++ tuple ∷ []) (length (tuples ++ tuple ∷ [])) ∙ ap Ok (append-nil (tuples ++ tuple ∷ []))
