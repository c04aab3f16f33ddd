-- The salt of a document without fault is a token.
use Rattle.std.proofs.Common.{◌≡◌, ℕ, true, false, ◌&&◌, ◌||◌, not, cond, Bool, Option, Some, None, List, [], ◌∷◌, codes, refl, ap, sym, ◌∙◌, nat_le, length, ◌==◌}
use Rattle.std.specs.Prelude.{is_none, option_and_then}
use Rattle.std.specs.Option.{unwrap_or}
use Rattle.std.specs.List.{list_all}
use Rattle.std.specs.Char.{is_ascii_alphanumeric}
use Rattle.std.proofs.lemmas.Bool.{false≢true}
use Rattle.toml.specs.Data.{Members, as_str, get_member}
use Rattle.sc_tokens.specs.Tokens.{is_token, is_token_byte}
use Rattle.sc_syntax.proofs.CutLaws.{none_some}
use Rattle.sc_config.specs.declared.faults.Check.TheVariants.{Range}
use Rattle.sc_tokens.specs.Bytes.{Bytes}
use Rattle.sc_config.specs.KeyValues.{is_salt, text_if}
use Rattle.sc_config.specs.Faults.{Fault, first_refusal, table_fault, top_fault, wrong_if, wrong_text}
use Rattle.sc_config.specs.ReadSettings.{top_text}
use Rattle.sc_config.proofs.RangeLaws.{no_fault}

both : (a b : Bool) → a && b ≡ true → (a ≡ true) × (b ≡ true)
both true b h = (refl, h)
both false b h = absurd (false≢true h)

letter_is : (b : ℕ) → is_ascii_alphanumeric b ≡ true → is_token_byte b ≡ true
unfolding is_token_byte
letter_is b h = ap (λ t. t || b == 45 || b == 46 || b == 33 || b == 37 || b == 42 || b == 95 || b == 43 || b == 96 || b == 39 || b == 126) h

letters_are : (text : Bytes) → list_all is_ascii_alphanumeric text ≡ true → list_all is_token_byte text ≡ true
letters_are [] h = refl
letters_are (b ∷ bs) h =
    let is = both (is_ascii_alphanumeric b) (list_all is_ascii_alphanumeric bs) h in ap (λ t. t && list_all is_token_byte bs) (letter_is b is.0) ∙ letters_are bs is.1

token_of : (some short : Bool) (text : Bytes) → some && short && list_all is_ascii_alphanumeric text ≡ true → some && list_all is_token_byte text ≡ true
token_of true true text h = letters_are text h
token_of true false text h = absurd (false≢true h)
token_of false short text h = absurd (false≢true h)

-- letters and digits are token bytes
pub salt_is_token : (text : Bytes) → is_salt text ≡ true → is_token text ≡ true
unfolding is_salt is_token
salt_is_token text h = token_of (not (length text == 0)) (nat_le (length text) 16) text h

text_passes : (test : Bytes → Bool) (text : Bytes) (b : Bool) (fault : Fault) → cond (is_none (cond b (Some text) None)) (Some fault) None ≡ None → b ≡ true
text_passes test text true fault none = refl
text_passes test text false fault none = absurd (none_some fault (sym none))

text_kept : (test : Bytes → Bool) (key : Bytes) (text : Option Bytes) → wrong_if (is_none (text_if test text)) key ≡ None → test (unwrap_or text []) ≡ true
text_kept test key None none = absurd (none_some _ (sym none))
text_kept test key (Some text) none = text_passes test text (test text) _ none

salt_of_none : (top : Members) → wrong_text is_salt (codes "salt") top ≡ None → is_salt (top_text (codes "salt") top) ≡ true
unfolding wrong_text top_text
salt_of_none top none = text_kept is_salt (codes "salt") (option_and_then as_str (get_member (codes "salt") top)) none

salt_at_top : (top : Members) → top_fault Range top ≡ None → is_salt (top_text (codes "salt") top) ≡ true
unfolding top_fault
salt_at_top top none = salt_of_none top (no_fault _ _ (no_fault _ _ (no_fault _ _ none).1).1).0

salt_in_table : (top : Members) → table_fault Range top ≡ None → is_salt (top_text (codes "salt") top) ≡ true
unfolding table_fault
salt_in_table top none = salt_at_top top (no_fault _ _ none).0

pub salt_in_range : (kinds : List Bytes) (top : Members) → first_refusal kinds top ≡ None → is_salt (top_text (codes "salt") top) ≡ true
unfolding first_refusal
salt_in_range kinds top none = salt_in_table top (no_fault _ _ (no_fault _ _ (no_fault _ _ none).1).1).0
