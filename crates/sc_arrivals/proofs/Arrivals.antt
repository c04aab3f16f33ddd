-- What comes from outside, by what is found of it.
use Rattle.std.proofs.Common.{◌≡◌, ℕ, false, Option, None, Some, refl}
use Rattle.std.specs.Prelude.{is_some, option_and_then}
use Rattle.sc_value.specs.declared.ids.Place.{Place}
use Rattle.sc_value.specs.declared.message.Message.TheVariants as messages
use Rattle.sc_value.specs.declared.message.Request.{Request}
use Rattle.sc_value.specs.declared.message.Response.{Response}
use Rattle.sc_terms.specs.declared.settings.Config.{Config}
use Rattle.sc_parts.specs.declared.setup.Setup.{Setup}
use Rattle.sc_state.specs.declared.net.Net.{Net}
use Rattle.sc_state.specs.declared.session.Session.{Session}
use Rattle.sc_model.specs.Dialogs.{tag_of}
use Rattle.sc_hosts.specs.Histories.{as_session}
use Rattle.sc_hosts.specs.Arrivals.{first_host, after_arrival as arrived, arrives_as, response_by, sort_in, taken_at}
use Rattle.sc_hosts.specs.Nets.{named_host}
use Rattle.sc_hosts.specs.Taking.{own_uri, sort_of}
use Rattle.sc_arrivals.specs.HostTests.{claims, awaits}

-- ## The sort of a request

pub sorted_claimed : (config : Config) (from : Place) (request : Request) (net : Net Session) (number : ℕ) → first_host (claims from request) 0 net.hosts ≡ Some number
    → sort_of request (Some number) None ≡ sort_in config from request net
unfolding sort_in sort_of claims
sorted_claimed config from request net number e = rw e refl

pub sorted_untagged : (config : Config) (from : Place) (request : Request) (net : Net Session) → first_host (claims from request) 0 net.hosts ≡ None → is_some (tag_of request.head.to) ≡ false
    → sort_of request None None ≡ sort_in config from request net
unfolding sort_in sort_of claims
sorted_untagged config from request net e untagged = rw (e, untagged) refl

pub sorted_named : (config : Config) (from : Place) (request : Request) (net : Net Session) (named : Option ℕ) → first_host (claims from request) 0 net.hosts ≡ None
    → named ≡ option_and_then (λ uri. named_host uri net) (own_uri config request)
    → sort_of request None named ≡ sort_in config from request net
unfolding sort_in claims
sorted_named config from request net named e is = rw (is, e) refl

-- ## What becomes of the net

pub request_sorted : (setup : Setup) (from : Place) (request : Request) (net : Net Session)
    → arrived as_session setup from (messages.Request request) net ≡ arrives_as as_session setup from request (sort_in setup.config from request net) net
unfolding arrived
request_sorted setup from request net = refl

pub response_at : (setup : Setup) (from : Place) (response : Response) (net : Net Session) (number : ℕ) → first_host (awaits setup.config.salt net.epoch from response) 0 net.hosts ≡ Some number
    → arrived as_session setup from (messages.Response response) net ≡ taken_at as_session setup from None (messages.Response response) number net
unfolding arrived response_by awaits
response_at setup from response net number e = rw e refl

pub response_nowhere : (setup : Setup) (from : Place) (response : Response) (net : Net Session) → first_host (awaits setup.config.salt net.epoch from response) 0 net.hosts ≡ None
    → arrived as_session setup from (messages.Response response) net ≡ net
unfolding arrived response_by awaits
response_nowhere setup from response net e = rw e refl
