-- The target that a list of Contacts gives, item by item.
use Rattle.std.proofs.Common.{◌≡◌, ℕ, ◌+◌, ◌<◌, length, get_or, take, sym, Option, None, Some, List, [], ◌∷◌, ◌++◌, refl, ap, ◌∙◌, slice_get, reverse}
use Rattle.std.specs.List.{filter_map, cons_option}
use Rattle.std.specs.Option.{option_or}
use Rattle.std.proofs.lemmas.List.{reverse-append, take_more}
use Rattle.std.proofs.lemmas.List.Elements.{filter_map-append}
use Rattle.sc_value.specs.declared.parts.Uri.{Uri}
use Rattle.sc_value.specs.declared.parts.Contact.{Contact}
use Rattle.sc_model.specs.Dialogs.{contact_uri, last_uri}

pub last_uri_none : last_uri [] ≡ None
unfolding last_uri
last_uri_none = refl

last_given : (uris : List Uri) (o : Option Uri) → slice_get (reverse (uris ++ cons_option o [])) 0 ≡ option_or o (slice_get (reverse uris) 0)
last_given uris None = ap (λ us. slice_get us 0) (reverse-append uris [])
last_given uris (Some uri) = ap (λ us. slice_get us 0) (reverse-append uris (uri ∷ []))

-- a further Contact gives its URI, where it has one
last_uri_more : (contacts : List Contact) (contact : Contact) → last_uri (contacts ++ contact ∷ []) ≡ option_or (contact_uri contact) (last_uri contacts)
unfolding last_uri
last_uri_more contacts contact =
    ap (λ us. slice_get (reverse us) 0) (filter_map-append contact_uri contacts (contact ∷ [])) ∙ last_given (filter_map contact_uri contacts) (contact_uri contact)

-- the Contact at place i, after those before it
pub last_uri_step : (contacts : List Contact) (i : ℕ) (contact : Contact) (earlier later : Option Uri) → i < length contacts → contact ≡ get_or contacts i contact
    → earlier ≡ last_uri (take i contacts) → later ≡ option_or (contact_uri contact) earlier → later ≡ last_uri (take (i + 1) contacts)
last_uri_step contacts i contact earlier later below is was made =
    made ∙ (ap (option_or (contact_uri contact)) was ∙ (sym (last_uri_more (take i contacts) contact)
    ∙ (ap (λ c. last_uri (take i contacts ++ c ∷ [])) is ∙ ap last_uri (sym (take_more contacts i contact below)))))
