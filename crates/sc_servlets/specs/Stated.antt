-- What the kinds of a catalogue state. This project's own.
use Rattle.std.specs.Prelude.{Option}
use Rattle.sc_terms.specs.declared.events.Event.{Event}
use Rattle.sc_terms.specs.declared.charters.Charter.{Charter}
use Rattle.sc_terms.specs.declared.charters.ListenerCharter.{ListenerCharter}
use Rattle.sc_servlets.specs.Brought.{called_servlet, called_listener}

-- the charters of a kind's servlet and listener
abbrev pub both_charters : Charter → Option ListenerCharter → Charter × Option ListenerCharter
both_charters servlet listener = (servlet, listener)

-- the servlet's charter where it is called at the event, of both charters of a kind
abbrev pub servlet_at : Option Event → Charter × Option ListenerCharter → Option Charter
servlet_at event charters = called_servlet event charters.0

-- the listener's charter where it is called at the event
abbrev pub listener_at : Option Event → Charter × Option ListenerCharter → Option ListenerCharter
listener_at event charters = called_listener event charters.1
