-- Which requests a view shows, by its SipSessions alone (JSR 289 section 6.2).
use Rattle.std.specs.Prelude.{List, Bool, not, ◌||◌, ◌==◌, is_none, if◌then◌else◌, length, map, filter}
use Rattle.std.specs.List.{find}
use Rattle.sc_value.specs.declared.ids.SessId.{SessId}
use Rattle.sc_terms.specs.declared.views.RequestView.{RequestView}
use Rattle.sc_terms.specs.declared.views.SessionView.{SessionView}
use Rattle.sc_hosts.specs.Looking.{is_gone, is_session}

-- the SipSession of this number is there
unfoldable pub is_there : List SessionView → SessId → Bool
is_there sessions sess = not (is_gone (find (is_session sess) sessions))

-- a request that waits for ACKs of SipSessions that are there alone
unfoldable pub with_there_in : List SessionView → RequestView → RequestView
with_there_in sessions request =
    record request { unacked = filter (is_there sessions) request.unacked }

-- the request is shown, as these SipSessions are
unfoldable pub stands_in : List SessionView → RequestView → Bool
stands_in sessions request =
    if request.initial then is_there sessions request.sess || not (length request.unacked == 0)
    else is_none request.answered || not (length request.unacked == 0)

-- the requests that are shown, as these SipSessions are
unfoldable pub visible_requests : List SessionView → List RequestView → List RequestView
visible_requests sessions requests =
    filter (stands_in sessions) (map (with_there_in sessions) requests)
