-- The sort of a request to a host, by what is found of it.
use Rattle.std.proofs.Common.{◌≡◌, false, Option, None, Some, refl}
use Rattle.std.specs.Prelude.{is_some, option_and_then}
use Rattle.sc_value.specs.declared.message.Request.{Request}
use Rattle.sc_terms.specs.declared.settings.Config.{Config}
use Rattle.sc_state.specs.Hosts.{Host}
use Rattle.sc_state.specs.declared.host.Coming.{Coming}
use Rattle.sc_state.specs.declared.host.Live.{Live}
use Rattle.sc_state.specs.declared.host.Server.{Server}
use Rattle.sc_state.specs.declared.session.Session.{Session}
use Rattle.sc_model.specs.Dialogs.{tag_of}
use Rattle.sc_hosts.specs.Taking.{named_live, own_uri, server_for, sort_of, sort_at}

pub sorted_served : (config : Config) (coming : Coming) (request : Request) (host : Host Session) (server : Server) → server_for coming.from request host ≡ Some server
    → sort_of request (Some server) None ≡ sort_at config coming request host
unfolding sort_at sort_of
sorted_served config coming request host server e = rw e refl

pub sorted_untagged : (config : Config) (coming : Coming) (request : Request) (host : Host Session) → server_for coming.from request host ≡ None → is_some (tag_of request.head.to) ≡ false
    → sort_of request None None ≡ sort_at config coming request host
unfolding sort_at sort_of
sorted_untagged config coming request host e untagged = rw (e, untagged) refl

pub sorted_named : (config : Config) (coming : Coming) (request : Request) (host : Host Session) (live : Option (Live Session)) → server_for coming.from request host ≡ None
    → live ≡ option_and_then (λ uri. named_live coming.epoch coming.host uri host) (own_uri config request)
    → sort_of request None live ≡ sort_at config coming request host
unfolding sort_at
sorted_named config coming request host live e is = rw (is, e) refl
