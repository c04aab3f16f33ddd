-- Those that go away are found first, and then removed.
use Rattle.std.proofs.Common.{◌≡◌, Bool, true, false, List, [], ◌∷◌, refl, map}
use Rattle.std.specs.Prelude.{filter}
use Rattle.std.specs.List.{fold}
use Rattle.sc_terms.specs.declared.views.View.{View}
use Rattle.sc_terms.specs.declared.views.SessionView.{SessionView}
use Rattle.sc_state.specs.declared.session.Known.{Known}
use Rattle.sc_hosts.specs.Finishing.{swept_one}
use Rattle.sc_finish.specs.Sweeps.{goes, id_of, without}

one : (known : Known) (before : View) (session : SessionView) (sessions : List SessionView) (view : View) (b : Bool) → goes known before session ≡ b
    → ((v : View) → fold without v (map id_of (filter (goes known before) sessions)) ≡ fold (swept_one known before) v sessions)
    → fold without view (map id_of (filter (goes known before) (session ∷ sessions))) ≡ fold (swept_one known before) (swept_one known before view session) sessions
unfolding swept_one goes
one known before session sessions view true e later = rw (filter, e) (later _)
one known before session sessions view false e later = rw (filter, e) (later _)

pub swept_all : (known : Known) (before : View) (sessions : List SessionView) (view : View) → fold without view (map id_of (filter (goes known before) sessions)) ≡ fold (swept_one known before) view sessions
swept_all known before [] view = refl
swept_all known before (session ∷ sessions) view = one known before session sessions view (goes known before session) refl (swept_all known before sessions)
