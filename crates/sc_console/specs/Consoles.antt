-- How the console answers a line. Its lines are this project's own.
use Rattle.std.specs.Prelude.{◌≡◌, ◌++◌, ◌∷◌, [], codes}
use Rattle.crossbeam_queue.specs.Fifo.{Held}
use Rattle.sc_tokens.specs.Bytes.{Bytes}
use Rattle.sc_value.specs.declared.ids.AppId.{AppId}
use Rattle.sc_edge.specs.declared.listing.Listing.{Listing}
use Rattle.sc_desk.specs.Desks.{room_of}
use Rattle.sc_desk.specs.DeskRules.{IsWaiting, after_post}
use Rattle.sc_desk.specs.declared.desk.Desk.{Desk}
use Rattle.sc_desk.specs.declared.desk_queue.DeskView.{DeskView}
use Rattle.sc_watch.specs.declared.note.Note.{Note}
use Rattle.sc_watch.specs.Risings.{IsFrom, note_of}
use Rattle.sc_console.specs.Answers.{list_text}
use Rattle.sc_console.specs.declared.asked.Asked.{Asked}
use Rattle.sc_console.specs.declared.asked.Asked.TheVariants as asks
use Rattle.sc_console.specs.declared.answer.Console.{Console}
use Rattle.sc_console.specs.declared.answer.Console.TheVariants as consoles
use Rattle.sc_tokens.specs.Signs.{line_feed}

-- the answer where a withdrawal was ordered
abbrev pub posted_text : Bytes
posted_text = codes "posted" ++ line_feed ∷ []

-- the answer where the desk is full
abbrev pub full_text : Bytes
full_text = codes "full" ++ line_feed ∷ []

-- the answer to a line that asks for nothing known
abbrev pub unknown_text : Bytes
unknown_text = codes "?" ++ line_feed ∷ []

-- the reading gave this listing, which isn't before any that it gave
abbrev pub Gave : Listing → Note → Note → Type 0
Gave listing old new = IsFrom old (note_of listing) × (new ≡ note_of listing)

-- what became of the console: its reading's floor, its pass's view, and what it wrote
pub record At : Type 0 where
  pub floor : Note
  pub view : DeskView
  pub out : Bytes

-- a listing was written
abbrev pub Writes : Note → Note → Bytes → Bytes → Type 0
Writes old new out out2 =
    (listing : Listing) × Gave listing old new × (out2 ≡ out ++ list_text listing)

-- a listing was written, and no order was posted
abbrev pub Lists : At → At → Type 0
Lists old new = Writes old.floor new.floor old.out new.out × (new.view ≡ old.view)

-- the withdrawal was ordered, in the epoch of a listing
abbrev pub Posts : AppId → At → At → Type 0
Posts app old new =
    (listing : Listing) × Gave listing old.floor new.floor
    × (new.view ≡ after_post old.view (record { epoch = listing.epoch; app = app }))
    × (new.out ≡ old.out ++ posted_text)

-- it wasn't, as the desk was full
abbrev pub IsFull : Desk → At → At → Type 0
IsFull desk old new =
    (listing : Listing) × Gave listing old.floor new.floor × (new.view ≡ old.view)
    × Held (room_of desk) (IsWaiting old.view) × (new.out ≡ old.out ++ full_text)

-- the answer to what was asked, and what it left
unfoldable pub Answers : Asked → Desk → At → At → Console → Type 0
Answers asks.List desk old new consoles.Listed = Lists old new
Answers (asks.Drop app) desk old new consoles.Posted = Posts app old new
Answers (asks.Drop app) desk old new consoles.Full = IsFull desk old new
Answers asks.Nothing desk old new consoles.Unknown =
    (new.floor ≡ old.floor) × (new.view ≡ old.view) × (new.out ≡ old.out ++ unknown_text)
Answers asked desk old new answer = ⊥
