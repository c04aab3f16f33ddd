-- What the console writes. The form is this project's own.
use Rattle.std.specs.Prelude.{◌++◌, ◌∷◌, [], List, codes, decimal, length}
use Rattle.std.specs.List.{flat_map}
use Rattle.sc_tokens.specs.Bytes.{Bytes}
use Rattle.sc_value.specs.declared.ids.AppId.{AppId}
use Rattle.sc_edge.specs.declared.listing.Listing.{Listing}
use Rattle.sc_tokens.specs.Signs.{line_feed}

-- `app H S` and a line feed
unfoldable pub app_text : AppId → Bytes
app_text app =
    codes "app " ++ decimal app.host ++ codes " " ++ decimal app.serial ++ line_feed ∷ []

-- a line for each session that lives
unfoldable pub apps_text : List AppId → Bytes
apps_text apps = flat_map app_text apps

-- `list EPOCH STEPS LIVE WAITING` and a line feed
unfoldable pub counts_text : Listing → Bytes
counts_text listing =
    codes "list " ++ decimal listing.epoch ++ codes " " ++ decimal listing.steps ++ codes " "
    ++ decimal (length listing.live) ++ codes " " ++ decimal listing.waiting ++ line_feed ∷ []

-- a listing as it is written: the counts, then the sessions
unfoldable pub list_text : Listing → Bytes
list_text listing = counts_text listing ++ apps_text listing.live
