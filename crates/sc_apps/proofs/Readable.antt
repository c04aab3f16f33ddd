-- What a text reads as.
use Rattle.std.proofs.Common.{◌≡◌, List, [], ◌∷◌, ◌++◌, Option, Some, None, Ok, Err, refl, ap}
use Rattle.std.specs.Prelude.{option_to_list}
use Rattle.std.specs.List.{filter_map, flat_map}
use Rattle.sc_value.specs.declared.parts.Uri.{Uri}
use Rattle.sc_tokens.specs.Bytes.{Bytes}
use Rattle.sc_syntax.specs.UriParts.{Fault}
use Rattle.sc_syntax.specs.Uris.{uri_of}
use Rattle.sc_hosts.specs.Scripting.{readable}
use Rattle.sc_apps.specs.Scripted.{uris_of}

pub readable_ok : (text : Bytes) (uri : Uri) → uri_of text ≡ Ok uri → readable text ≡ Some uri
unfolding readable
readable_ok text uri e = rw e refl

pub readable_err : (text : Bytes) (fault : Fault) → uri_of text ≡ Err fault → readable text ≡ None
unfolding readable
readable_err text fault e = rw e refl

one_more : (text : Bytes) (texts : List Bytes) (o : Option Uri) → readable text ≡ o → flat_map uris_of texts ≡ filter_map readable texts → option_to_list o ++ flat_map uris_of texts ≡ filter_map readable (text ∷ texts)
one_more text texts None e more = rw (filter_map, e) more
one_more text texts (Some uri) e more = rw (filter_map, e) (ap (λ us. uri ∷ us) more)

pub all_readable : (texts : List Bytes) → flat_map uris_of texts ≡ filter_map readable texts
unfolding uris_of
all_readable [] = refl
all_readable (text ∷ texts) = one_more text texts (readable text) refl (all_readable texts)
