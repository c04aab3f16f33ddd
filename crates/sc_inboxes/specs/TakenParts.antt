-- A host with what it answers at once. This project's own.
use Rattle.sc_state.specs.Hosts.{Host}
use Rattle.sc_state.specs.declared.host.Taken.{Taken}
use Rattle.sc_state.specs.declared.session.Session.{Session}
use Rattle.sc_inboxes.specs.declared.told.Told.{Told}

-- the host that took a message, and what was told of it
abbrev pub taken_by : Host Session → Told → Taken Session
taken_by host told = record { host = host; reply = told.reply; count = told.count }
