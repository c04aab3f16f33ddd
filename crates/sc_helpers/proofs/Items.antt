-- The items between commas, from the front on.
use Rattle.std.proofs.Common.{◌≡◌, true, false, ◌||◌, Option, None, Some, refl, sym, ◌∙◌}
use Rattle.std.specs.List.{list_any}
use Rattle.sc_tokens.specs.Names.{same_name}
use Rattle.sc_tokens.specs.Bytes.{Bytes}
use Rattle.sc_tokens.specs.Blanks.{without_blanks as trimmed}
use Rattle.sc_tokens.specs.Cuts.{before, after}
use Rattle.sc_syntax.proofs.CutLaws.{pieces_more, pieces_last}
use Rattle.sc_hosts.specs.HelperParts.{items_of}

any_more : (item text rest : Bytes) → after 44 text ≡ Some rest → list_any (same_name item) (items_of text) ≡ same_name item (trimmed (before 44 text)) || list_any (same_name item) (items_of rest)
unfolding items_of
any_more item text rest e = rw (pieces_more 44 text rest e) refl

any_last : (item text : Bytes) → after 44 text ≡ None → list_any (same_name item) (items_of text) ≡ same_name item (trimmed (before 44 text)) || false
unfolding items_of
any_last item text e = rw (pieces_last 44 text e) refl

pub item_next : (item text rest piece : Bytes) → piece ≡ before 44 text → after 44 text ≡ Some rest → same_name item (trimmed piece) ≡ false → list_any (same_name item) (items_of rest) ≡ list_any (same_name item) (items_of text)
item_next item text rest piece is e not = sym (any_more item text rest e ∙ rw (← is, not) refl)

pub item_last : (item text piece : Bytes) → piece ≡ before 44 text → after 44 text ≡ None → same_name item (trimmed piece) ≡ false → list_any (same_name item) (items_of text) ≡ false
item_last item text piece is e not = any_last item text e ∙ rw (← is, not) refl

found_by : (item text piece : Bytes) (rest : Option Bytes) → after 44 text ≡ rest → piece ≡ before 44 text → same_name item (trimmed piece) ≡ true → list_any (same_name item) (items_of text) ≡ true
found_by item text piece None e is same = any_last item text e ∙ rw (← is, same) refl
found_by item text piece (Some rest) e is same = any_more item text rest e ∙ rw (← is, same) refl

pub item_found : (item text piece : Bytes) → piece ≡ before 44 text → same_name item (trimmed piece) ≡ true → list_any (same_name item) (items_of text) ≡ true
item_found item text piece is same = found_by item text piece (after 44 text) refl is same
