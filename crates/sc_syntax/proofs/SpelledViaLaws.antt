-- What is spelled is read: Vias.
use Rattle.std.proofs.Common.{◌≡◌, ℕ, suc, true, false, cond, not, Option, Some, None, List, [], ◌∷◌, ◌++◌, ◌+◌, ◌==◌, length, take, drop, refl, sym, ap, subst, ◌∙◌, append_assoc, append-nil, arith}
use Rattle.std.specs.Prelude.{codes}
use Rattle.std.specs.List.{list_all, position_or_len}
use Rattle.std.specs.Option.{option_map, option_and_then}
use Rattle.std.specs.Result.{result_ok}
use Rattle.std.proofs.lemmas.Bool.{false≢true}
use Rattle.std.proofs.lemmas.List.Folds.{list_all-append}
use Rattle.std.proofs.Math.Seq.{take-append_seam, drop-append_seam}
use Rattle.sc_tokens.specs.Names.{same_bytes}
use Rattle.sc_tokens.specs.Tokens.{is_blank, is_token, is_token_byte}
use Rattle.sc_value.specs.declared.parts.Param.{Param}
use Rattle.sc_value.specs.declared.parts.Via.{Via}
use Rattle.sc_syntax.specs.declared.scan.Scan.TheVariants.{Params}
use Rattle.sc_tokens.specs.Bytes.{Bytes}
use Rattle.sc_tokens.specs.Cuts.{has, after}
use Rattle.sc_tokens.specs.Hosts.{is_host}
use Rattle.sc_syntax.specs.UriParts.{sent_at}
use Rattle.sc_tokens.specs.Blanks.{trimmed_front, trimmed_back, without_blanks as trimmed, first_word, behind_word}
use Rattle.sc_syntax.specs.Scanning.{via_parts}
use Rattle.sc_syntax.specs.Vias.{behind_slash, behind_version, hop_in, via_with, via_in, via_of, vias_of}
use Rattle.sc_syntax.specs.SpelledUris.{IsPortSpelled}
use Rattle.sc_syntax.specs.SpelledParts.{IsBlanks, Padded}
use Rattle.sc_syntax.specs.SpelledVias.{IsHopSpelled, IsViaSpelled, AreViasSpelled}
use Rattle.sc_syntax.proofs.BlankLaws.{both, and_true, trimmed_padded, padded_is_trimmed}
use Rattle.sc_syntax.proofs.AddressLaws.{outer_lacks}
use Rattle.sc_syntax.proofs.ClassLaws.{all_weaker, before_joined, after_joined, BeginsSolid, EndsSolid, begins_joined, ends_joined, class_begins, class_ends, solid_is_trimmed}
use Rattle.sc_syntax.proofs.RunLaws.{is_plain, comma_sign, semicolon_sign, Passes, passes_joined, passes_plain, listed_is_read}
use Rattle.sc_syntax.proofs.ParameterLaws.{plain_by, solid_by, token_plain, token_solid, token_is, blanks_plain, params_are_read, params_pass, outside_params}
use Rattle.sc_syntax.proofs.HostLaws.{is_sent_byte, sent_bytes, sent_is_read}

-- ## Words

-- the first word, where a blank stands behind it
word_place : (word rest : Bytes) (c : ℕ) → list_all is_token_byte word ≡ true → is_blank c ≡ true → position_or_len is_blank (word ++ c ∷ rest) ≡ length word
word_place [] rest c all h = ap (λ t. cond (not t) (1 + position_or_len is_blank rest) 0) h
word_place (b ∷ bs) rest c all h =
    let is = both (is_token_byte b) (list_all is_token_byte bs) all in
    let one : ◌≡◌ {A = ℕ} (1 + length bs) (suc (length bs)) = omega arith in
    ap (λ t. cond (not t) (1 + position_or_len is_blank (bs ++ c ∷ rest)) 0) (token_solid b is.0) ∙ ap (λ n. 1 + n) (word_place bs rest c is.1 h) ∙ one

-- a word of token bytes, one blank or more, and the rest
word_len : (word gap rest : Bytes) → list_all is_token_byte word ≡ true → IsBlanks gap → (length gap == 0) ≡ false → position_or_len is_blank (word ++ (gap ++ rest)) ≡ length word
word_len word [] rest all h some = absurd (false≢true (sym some))
word_len word (c ∷ cs) rest all h some = word_place word (cs ++ rest) c all (both (is_blank c) (list_all is_blank cs) h).0

pub first_is : (word gap rest : Bytes) → list_all is_token_byte word ≡ true → IsBlanks gap → (length gap == 0) ≡ false → first_word (word ++ (gap ++ rest)) ≡ word
unfolding first_word
first_is word gap rest all h some = ap (λ n. take n (word ++ (gap ++ rest))) (word_len word gap rest all h some) ∙ take-append_seam word (gap ++ rest)

pub behind_is : (word gap rest : Bytes) → list_all is_token_byte word ≡ true → IsBlanks gap → (length gap == 0) ≡ false → trimmed rest ≡ rest → behind_word (word ++ (gap ++ rest)) ≡ rest
unfolding behind_word
behind_is word gap rest all h some solid =
    ap (λ n. trimmed (drop n (word ++ (gap ++ rest)))) (word_len word gap rest all h some) ∙ ap trimmed (drop-append_seam word (gap ++ rest))
    ∙ ap (λ l. trimmed (gap ++ l)) (sym (append-nil rest)) ∙ trimmed_padded gap rest [] h refl ∙ solid

-- ## Host and port

sent_plain : (b : ℕ) → is_sent_byte b ≡ true → is_plain b ≡ true
unfolding is_sent_byte
sent_plain b h = plain_by is_sent_byte refl refl refl b h

pub sent_solid : (b : ℕ) → is_sent_byte b ≡ true → is_blank b ≡ false
unfolding is_sent_byte
sent_solid b h = solid_by is_sent_byte refl refl b h

-- ## `SIP/2.0/`

word_plain : (list_all is_plain (codes "SIP") ≡ true) × (list_all is_plain (codes "2.0") ≡ true) × (list_all is_plain (47 ∷ []) ≡ true)
unfolding is_plain
word_plain = (refl, refl, refl)

words_lack : (has 47 (codes "SIP") ≡ false) × (has 47 (codes "2.0") ≡ false)
unfolding has
words_lack = (refl, refl)

words_trimmed : (trimmed (codes "SIP") ≡ codes "SIP") × (trimmed (codes "2.0") ≡ codes "2.0")
unfolding trimmed trimmed_front trimmed_back is_blank
words_trimmed = (refl, refl)

not_blank_slash : is_blank 47 ≡ false
unfolding is_blank
not_blank_slash = refl

same_itself : (same_bytes (codes "SIP") (codes "SIP") ≡ true) × (same_bytes (codes "2.0") (codes "2.0") ≡ true)
same_itself = (refl, refl)

slash_read : (word name rest : Bytes) → Padded word name → has 47 word ≡ false → trimmed word ≡ word → same_bytes word word ≡ true → behind_slash word (name ++ 47 ∷ rest) ≡ Some rest
unfolding behind_slash
slash_read word name rest pad lacks solid same =
    let free = outer_lacks 47 word name not_blank_slash pad lacks in
    ap (λ f. cond (same_bytes (trimmed f) word) (after 47 (name ++ 47 ∷ rest)) None) (before_joined 47 name rest free)
    ∙ ap (λ f. cond (same_bytes f word) (after 47 (name ++ 47 ∷ rest)) None) (padded_is_trimmed word name pad solid)
    ∙ ap (λ t. cond t (after 47 (name ++ 47 ∷ rest)) None) same ∙ after_joined 47 name rest free

version_read : (name version rest : Bytes) → Padded (codes "SIP") name → Padded (codes "2.0") version → behind_version (name ++ 47 ∷ (version ++ 47 ∷ rest)) ≡ Some rest
unfolding behind_version
version_read name version rest n v =
    ap (option_and_then (behind_slash (codes "2.0"))) (slash_read (codes "SIP") name (version ++ 47 ∷ rest) n words_lack.0 words_trimmed.0 same_itself.0)
    ∙ slash_read (codes "2.0") version rest v words_lack.1 words_trimmed.1 same_itself.1

-- ## Vias

plain_joined : (a b : Bytes) → list_all is_plain a ≡ true → list_all is_plain b ≡ true → list_all is_plain (a ++ b) ≡ true
plain_joined a b g h = list_all-append is_plain a b ∙ and_true (list_all is_plain a) (list_all is_plain b) g h

plain_padded : (inner text : Bytes) → Padded inner text → list_all is_plain inner ≡ true → list_all is_plain text ≡ true
plain_padded inner text (f, b, fb, bb, is) h = ap (list_all is_plain) is ∙ plain_joined f (inner ++ b) (blanks_plain f fb) (plain_joined inner b h (blanks_plain b bb))

-- transport, host and port, taken together
record Hop (text : Bytes) (via : Via) : Type 0 where
  plain : list_all is_plain text ≡ true
  trim : trimmed text ≡ text
  read : (params : List Param) → params ≡ via.params → hop_in text params ≡ Some via

hop_read : (text : Bytes) (via : Via) → is_token via.transport ≡ true → (gap port : Bytes) → IsBlanks gap → (length gap == 0) ≡ false → is_host via.host ≡ true → IsPortSpelled port via.port
    → text ≡ via.transport ++ (gap ++ (via.host ++ port)) → (params : List Param) → params ≡ via.params → hop_in text params ≡ Some via
unfolding hop_in
hop_read text via t gap port g some h p is params same =
    let bytes = sent_bytes via.host port via.port h p in
    let solid = solid_is_trimmed (via.host ++ port) (class_begins is_sent_byte sent_solid (via.host ++ port) bytes.1 bytes.0) (class_ends is_sent_byte sent_solid (via.host ++ port) bytes.1 bytes.0) in
    let word = ap first_word is ∙ first_is via.transport gap (via.host ++ port) (token_is via.transport t).1 g some in
    let behind = ap behind_word is ∙ behind_is via.transport gap (via.host ++ port) (token_is via.transport t).1 g some solid in
    let build : Bytes → List Param → Bytes × Option ℕ → Via = λ w ps sent. record { transport = w; host = sent.0; port = sent.1; params = ps } in
    ap (λ w. cond (is_token w) (option_map (build w params) (result_ok (sent_at 0 (behind_word text)))) None) word
    ∙ ap (λ l. cond (is_token via.transport) (option_map (build via.transport params) (result_ok (sent_at 0 l))) None) behind
    ∙ ap (λ r. cond (is_token via.transport) (option_map (build via.transport params) (result_ok r)) None) (sent_is_read 0 via.host port via.port h p)
    ∙ ap (λ b. cond b (Some (build via.transport params (via.host, via.port))) None) t
    ∙ ap (λ ps. Some (build via.transport ps (via.host, via.port))) same

hop_facts : (text : Bytes) (via : Via) → IsHopSpelled text via → Hop text via
hop_facts text via (t, h, gap, port, g, some, p, is) =
    let bytes = sent_bytes via.host port via.port h p in
    let token = token_is via.transport t in
    let tail : EndsSolid (via.transport ++ (gap ++ (via.host ++ port))) = ends_joined via.transport (gap ++ (via.host ++ port)) (ends_joined gap (via.host ++ port) (class_ends is_sent_byte sent_solid (via.host ++ port) bytes.1 bytes.0)) in
    let front : BeginsSolid (via.transport ++ (gap ++ (via.host ++ port))) = begins_joined via.transport (gap ++ (via.host ++ port)) (class_begins is_token_byte token_solid via.transport token.0 token.1) in
    record {
      plain = ap (list_all is_plain) is ∙ plain_joined via.transport (gap ++ (via.host ++ port)) (all_weaker is_token_byte is_plain token_plain via.transport token.1) (plain_joined gap (via.host ++ port) (blanks_plain gap g) (all_weaker is_sent_byte is_plain sent_plain (via.host ++ port) bytes.0));
      trim = ap trimmed is ∙ solid_is_trimmed (via.transport ++ (gap ++ (via.host ++ port))) front tail ∙ sym is;
      read = λ params same. hop_read text via t gap port g some h p is params same;
    }

with_read : (name version inner hop : Bytes) (via : Via) → Padded (codes "SIP") name → Padded (codes "2.0") version → Hop inner via → Padded inner hop → via_with (name ++ 47 ∷ (version ++ 47 ∷ hop)) via.params ≡ Some via
unfolding via_with
with_read name version inner hop via n v facts pad =
    ap (option_and_then (λ rest. hop_in (trimmed rest) via.params)) (version_read name version hop n v) ∙ ap (λ l. hop_in l via.params) (padded_is_trimmed inner hop pad facts.trim) ∙ facts.read via.params refl

first_plain : (name version inner hop : Bytes) (via : Via) → Padded (codes "SIP") name → Padded (codes "2.0") version → Hop inner via → Padded inner hop → list_all is_plain (name ++ 47 ∷ (version ++ 47 ∷ hop)) ≡ true
first_plain name version inner hop via n v facts pad =
    plain_joined name (47 ∷ (version ++ 47 ∷ hop)) (plain_padded (codes "SIP") name n word_plain.0)
    (plain_joined (47 ∷ []) (version ++ 47 ∷ hop) word_plain.2 (plain_joined version (47 ∷ hop) (plain_padded (codes "2.0") version v word_plain.1) (plain_joined (47 ∷ []) hop word_plain.2 (plain_padded inner hop pad facts.plain))))

regroup : (name version hop rest : Bytes) → name ++ 47 ∷ (version ++ 47 ∷ (hop ++ rest)) ≡ (name ++ 47 ∷ (version ++ 47 ∷ hop)) ++ rest
regroup name version hop rest = sym (append_assoc name (47 ∷ (version ++ 47 ∷ hop)) rest ∙ ap (λ l. name ++ 47 ∷ l) (append_assoc version (47 ∷ hop) rest))

-- a text that spells a Via is read as it
pub via_is_read : (text : Bytes) (via : Via) → IsViaSpelled text via → via_of text ≡ Some via
unfolding via_of via_in
via_is_read text via (name, version, inner, hop, rest, n, v, spells, pad, params, is) =
    let facts = hop_facts inner via spells in
    let first = name ++ 47 ∷ (version ++ 47 ∷ hop) in
    let parts = params_are_read via.params rest first Params Params params (passes_plain 59 first semicolon_sign (first_plain name version inner hop via n v facts pad)) outside_params in
    ap (λ l. via_in (via_parts l)) (is ∙ regroup name version hop rest) ∙ ap via_in parts.1 ∙ ap (option_and_then (via_with first)) parts.2 ∙ with_read name version inner hop via n v facts pad

-- no comma parts it
pub via_passes : (text : Bytes) (via : Via) → IsViaSpelled text via → Passes 44 Params text Params
via_passes text via (name, version, inner, hop, rest, n, v, spells, pad, params, is) =
    let first = name ++ 47 ∷ (version ++ 47 ∷ hop) in
    subst (λ (t : Bytes). Passes 44 Params t Params) (sym (is ∙ regroup name version hop rest))
    (passes_joined 44 Params Params Params first rest (passes_plain 44 first comma_sign (first_plain name version inner hop via n v (hop_facts inner via spells) pad)) (params_pass via.params rest params))

pub vias_are_read : (text : Bytes) (vias : List Via) → AreViasSpelled text vias → vias_of text ≡ Some vias
unfolding vias_of
vias_are_read text vias h = listed_is_read via_of IsViaSpelled 44 Params (λ item via spells. ((Params, via_passes item via spells, outside_params), via_is_read item via spells)) text vias h
