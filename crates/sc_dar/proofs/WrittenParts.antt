-- The parts of a written tuple are read as its texts.
use Rattle.std.proofs.Common.{◌≡◌, ℕ, Bool, true, false, cond, not, Option, Some, None, List, [], ◌∷◌, ◌++◌, ◌||◌, ◌&&◌, ◌==◌, refl, sym, ap, ◌∙◌, append_assoc}
use Rattle.std.proofs.lemmas.Bool.{false≢true}
use Rattle.std.specs.Option.{option_map_or, option_map, option_and_then}
use Rattle.sc_tokens.specs.Tokens.{is_blank}
use Rattle.sc_tokens.specs.Bytes.{Bytes}
use Rattle.sc_tokens.specs.Cuts.{has, after, onto_first}
use Rattle.sc_tokens.specs.Hosts.{begins}
use Rattle.sc_syntax.proofs.ClassLaws.{before_joined, after_joined}
use Rattle.sc_dar.specs.Lines.{drop_blanks, is_blank_text}
use Rattle.sc_dar.specs.Tuples.{TupleTexts, parts, behind, before_quote as closed, text_in_quotes as quoted, is_closing, behind_tuple, is_parted, opening, without_quotes as unquoted}
use Rattle.sc_dar.specs.Rules.{IsPlain}
use Rattle.sc_dar.proofs.Parting.{behind_front}

-- ## Signs that a text lacks

pub first_lacks : (a b : Bool) → (a || b) ≡ false → a ≡ false
first_lacks true b h = h
first_lacks false b h = refl

pub rest_lacks : (a b : Bool) → (a || b) ≡ false → b ≡ false
rest_lacks true b h = absurd (false≢true (sym h))
rest_lacks false b h = h

-- ## Parts

onto_is : (b : ℕ) (ps : List Bytes) → onto_first b ps ≡ behind_front (b ∷ []) ps
unfolding onto_first
onto_is b [] = refl
onto_is b (p ∷ ps) = refl

onto_front : (b : ℕ) (front : Bytes) (ps : List Bytes) → onto_first b (behind_front front ps) ≡ behind_front (b ∷ front) ps
unfolding onto_first
onto_front b front [] = refl
onto_front b front (p ∷ ps) = refl

never : (a : Bool) → (a && false) ≡ false
never true = refl
never false = refl

quoted_on : (b : ℕ) (rest : Bytes) → (b == 34) ≡ false → parts true (b ∷ rest) ≡ onto_first b (parts true rest)
unfolding parts
quoted_on b rest h =
    ap (λ t. cond t ([] ∷ parts false rest) (onto_first b (parts (cond (b == 34) false true) rest))) (never (b == 44))
    ∙ ap (λ t. onto_first b (parts (cond t false true) rest)) h

quoted_end : (rest : Bytes) → parts true (34 ∷ rest) ≡ onto_first 34 (parts false rest)
unfolding parts
quoted_end rest = refl

-- up to the closing quote no comma parts the text
in_quotes : (text rest : Bytes) → has 34 text ≡ false → parts true (text ++ 34 ∷ rest) ≡ behind_front (text ++ 34 ∷ []) (parts false rest)
unfolding has
in_quotes [] rest h = quoted_end rest ∙ onto_is 34 (parts false rest)
in_quotes (b ∷ bs) rest h =
    quoted_on b (bs ++ 34 ∷ rest) (first_lacks (b == 34) (has 34 bs) h)
    ∙ ap (onto_first b) (in_quotes bs rest (rest_lacks (b == 34) (has 34 bs) h))
    ∙ onto_front b (bs ++ 34 ∷ []) (parts false rest)

-- a text in quotes, a blank before it
abbrev pub in_part : Bytes → Bytes → Bytes
in_part text rest = 32 ∷ 34 ∷ (text ++ 34 ∷ rest)

-- the same behind an opening bracket
abbrev pub in_first : Bytes → Bytes → Bytes
in_first text rest = 32 ∷ 40 ∷ 34 ∷ (text ++ 34 ∷ rest)

leads : (text rest p : Bytes) (ps : List Bytes) → has 34 text ≡ false → parts false rest ≡ p ∷ ps → parts true (text ++ 34 ∷ rest) ≡ (text ++ 34 ∷ p) ∷ ps
leads text rest p ps h e = in_quotes text rest h ∙ ap (behind_front (text ++ 34 ∷ [])) e ∙ ap (λ t. t ∷ ps) (append_assoc text (34 ∷ []) p)

part_begins : (rest : Bytes) → parts false (32 ∷ 34 ∷ rest) ≡ onto_first 32 (onto_first 34 (parts true rest))
unfolding parts
part_begins rest = refl

onto_two : (q : Bytes) (qs : List Bytes) → onto_first 32 (onto_first 34 (q ∷ qs)) ≡ (32 ∷ 34 ∷ q) ∷ qs
unfolding onto_first
onto_two q qs = refl

pub part_leads : (text rest p : Bytes) (ps : List Bytes) → has 34 text ≡ false → parts false rest ≡ p ∷ ps → parts false (in_part text rest) ≡ in_part text p ∷ ps
part_leads text rest p ps h e =
    part_begins (text ++ 34 ∷ rest) ∙ ap (λ l. onto_first 32 (onto_first 34 l)) (leads text rest p ps h e) ∙ onto_two (text ++ 34 ∷ p) ps

first_begins : (rest : Bytes) → parts false (32 ∷ 40 ∷ 34 ∷ rest) ≡ onto_first 32 (onto_first 40 (onto_first 34 (parts true rest)))
unfolding parts
first_begins rest = refl

onto_three : (q : Bytes) (qs : List Bytes) → onto_first 32 (onto_first 40 (onto_first 34 (q ∷ qs))) ≡ (32 ∷ 40 ∷ 34 ∷ q) ∷ qs
unfolding onto_first
onto_three q qs = refl

pub first_leads : (text rest p : Bytes) (ps : List Bytes) → has 34 text ≡ false → parts false rest ≡ p ∷ ps → parts false (in_first text rest) ≡ in_first text p ∷ ps
first_leads text rest p ps h e =
    first_begins (text ++ 34 ∷ rest) ∙ ap (λ l. onto_first 32 (onto_first 40 (onto_first 34 l))) (leads text rest p ps h e) ∙ onto_three (text ++ 34 ∷ p) ps

pub comma : (rest : Bytes) → parts false (44 ∷ rest) ≡ [] ∷ parts false rest
unfolding parts
comma rest = refl

pub bracket_comma : (rest : Bytes) → parts false (41 ∷ 44 ∷ rest) ≡ (41 ∷ []) ∷ parts false rest
unfolding parts onto_first
bracket_comma rest = refl

pub bracket_last : parts false (41 ∷ []) ≡ (41 ∷ []) ∷ []
unfolding parts onto_first
bracket_last = refl

-- ## The six texts

-- as they are written, and what follows the closing bracket
abbrev pub six_text : TupleTexts → Bytes → Bytes
six_text t rest =
    in_first t.app (44 ∷ in_part t.subscriber (44 ∷ in_part t.region (44 ∷ in_part t.route (44 ∷ in_part t.modifier (44 ∷ in_part t.order (41 ∷ rest))))))

-- their parts
abbrev pub six_parts : TupleTexts → TupleTexts
six_parts t = record {
  app = in_first t.app [];
  subscriber = in_part t.subscriber [];
  region = in_part t.region [];
  route = in_part t.route [];
  modifier = in_part t.modifier [];
  order = in_part t.order (41 ∷ []);
}

abbrev pub listed : TupleTexts → List Bytes → List Bytes
listed t more = t.app ∷ t.subscriber ∷ t.region ∷ t.route ∷ t.modifier ∷ t.order ∷ more

pub record ArePlain (t : TupleTexts) : Type 0 where
  pub app : IsPlain t.app
  pub subscriber : IsPlain t.subscriber
  pub region : IsPlain t.region
  pub route : IsPlain t.route
  pub modifier : IsPlain t.modifier
  pub order : IsPlain t.order

then_comma : (text rest : Bytes) (ps : List Bytes) → IsPlain text → parts false rest ≡ ps → parts false (in_part text (44 ∷ rest)) ≡ in_part text [] ∷ ps
then_comma text rest ps h e = part_leads text (44 ∷ rest) [] ps h.quote (comma rest ∙ ap (λ l. [] ∷ l) e)

pub parts_are : (t : TupleTexts) (rest : Bytes) (more : List Bytes) → ArePlain t → parts false (41 ∷ rest) ≡ (41 ∷ []) ∷ more → parts false (six_text t rest) ≡ listed (six_parts t) more
parts_are t rest more h e =
    let six = part_leads t.order (41 ∷ rest) (41 ∷ []) more h.order.quote e in
    let five = then_comma t.modifier (in_part t.order (41 ∷ rest)) _ h.modifier six in
    let four = then_comma t.route _ _ h.route five in
    let three = then_comma t.region _ _ h.region four in
    let two = then_comma t.subscriber _ _ h.subscriber three in
    first_leads t.app _ [] _ h.app.quote (comma _ ∙ ap (λ l. [] ∷ l) two)

-- ## Without quotes

behind_quote : (rest : Bytes) → behind 34 (32 ∷ 34 ∷ rest) ≡ Some rest
unfolding behind drop_blanks begins is_blank
behind_quote rest = refl

behind_bracket : (rest : Bytes) → behind 40 (32 ∷ 40 ∷ rest) ≡ Some rest
unfolding behind drop_blanks begins is_blank
behind_bracket rest = refl

behind_first : (rest : Bytes) → behind 34 (34 ∷ rest) ≡ Some rest
unfolding behind drop_blanks begins is_blank
behind_first rest = refl

closed_is : (is_end : Bytes → Bool) (text p : Bytes) → IsPlain text → is_end p ≡ true → closed is_end (text ++ 34 ∷ p) ≡ Some text
unfolding closed
closed_is is_end text p h e =
    ap (λ f. cond (option_map_or is_end (after 34 (text ++ 34 ∷ p)) false && not (has 13 f)) (Some f) None) (before_joined 34 text p h.quote)
    ∙ ap (λ a. cond (option_map_or is_end a false && not (has 13 text)) (Some text) None) (after_joined 34 text p h.quote)
    ∙ ap (λ t. cond (t && not (has 13 text)) (Some text) None) e
    ∙ ap (λ t. cond (not t) (Some text) None) h.cr

quoted_is : (is_end : Bytes → Bool) (text p : Bytes) → IsPlain text → is_end p ≡ true → quoted is_end (in_part text p) ≡ Some text
unfolding quoted
quoted_is is_end text p h e = ap (option_and_then (closed is_end)) (behind_quote (text ++ 34 ∷ p)) ∙ closed_is is_end text p h e

blank : is_blank_text [] ≡ true
unfolding is_blank_text
blank = refl

opening_is : (text : Bytes) → IsPlain text → opening (in_first text []) ≡ Some text
unfolding opening quoted
opening_is text h =
    ap (option_and_then (quoted is_blank_text)) (behind_bracket (34 ∷ (text ++ 34 ∷ [])))
    ∙ ap (option_and_then (closed is_blank_text)) (behind_first (text ++ 34 ∷ []))
    ∙ closed_is is_blank_text text [] h blank

closing : is_closing (41 ∷ []) ≡ true
unfolding is_closing behind drop_blanks begins is_blank
closing = refl

none_behind : option_map_or is_blank_text (behind 41 (41 ∷ [])) false ≡ true
unfolding behind drop_blanks begins is_blank is_blank_text
none_behind = refl

pub parted_is : (text : Bytes) → IsPlain text → is_parted (in_part text (41 ∷ [])) ≡ true
unfolding is_parted behind_tuple
parted_is text h =
    ap (λ o. option_map_or is_blank_text (option_and_then (behind 41) (option_and_then (after 34) o)) false) (behind_quote (text ++ 34 ∷ 41 ∷ []))
    ∙ ap (λ o. option_map_or is_blank_text (option_and_then (behind 41) o) false) (after_joined 34 text (41 ∷ []) h.quote)
    ∙ none_behind

by_texts : Option Bytes → Option Bytes → Option Bytes → Option Bytes → Option Bytes → Option Bytes → Option TupleTexts
by_texts a s g r m o =
    option_and_then (λ app. option_and_then (λ subscriber. option_and_then (λ region. option_and_then (λ route. option_and_then (λ modifier. option_map (λ order.
    record { app = app; subscriber = subscriber; region = region; route = route; modifier = modifier; order = order })
    o) m) r) g) s) a

pub unquoted_is : (t : TupleTexts) → ArePlain t → unquoted (six_parts t) ≡ Some t
unfolding unquoted by_texts
unquoted_is t h =
    let plain = λ (text : Bytes) (p : IsPlain text). quoted_is is_blank_text text [] p blank in
    ap (λ a. by_texts a (quoted is_blank_text (in_part t.subscriber [])) (quoted is_blank_text (in_part t.region [])) (quoted is_blank_text (in_part t.route [])) (quoted is_blank_text (in_part t.modifier [])) (quoted is_closing (in_part t.order (41 ∷ [])))) (opening_is t.app h.app)
    ∙ ap (λ a. by_texts (Some t.app) a (quoted is_blank_text (in_part t.region [])) (quoted is_blank_text (in_part t.route [])) (quoted is_blank_text (in_part t.modifier [])) (quoted is_closing (in_part t.order (41 ∷ [])))) (plain t.subscriber h.subscriber)
    ∙ ap (λ a. by_texts (Some t.app) (Some t.subscriber) a (quoted is_blank_text (in_part t.route [])) (quoted is_blank_text (in_part t.modifier [])) (quoted is_closing (in_part t.order (41 ∷ [])))) (plain t.region h.region)
    ∙ ap (λ a. by_texts (Some t.app) (Some t.subscriber) (Some t.region) a (quoted is_blank_text (in_part t.modifier [])) (quoted is_closing (in_part t.order (41 ∷ [])))) (plain t.route h.route)
    ∙ ap (λ a. by_texts (Some t.app) (Some t.subscriber) (Some t.region) (Some t.route) a (quoted is_closing (in_part t.order (41 ∷ [])))) (plain t.modifier h.modifier)
    ∙ ap (λ a. by_texts (Some t.app) (Some t.subscriber) (Some t.region) (Some t.route) (Some t.modifier) a) (quoted_is is_closing t.order (41 ∷ []) h.order closing)
