-- Worked cases: the directives, a way back, and the end of a list.
use Rattle.std.proofs.Common.{◌≡◌, ℕ, false, Option, Some, None, List, [], ◌∷◌, refl}
use Rattle.std.specs.Prelude.{codes}
use Rattle.std.specs.Fmt.{digits}
use Rattle.sc_tokens.specs.HeaderNames.{from_name, long_name}
use Rattle.sc_tokens.specs.Names.{same_name}
use Rattle.sc_value.specs.declared.ids.Region.{Region}
use Rattle.sc_value.specs.declared.ids.Region.TheVariants.{Originating, Terminating, Neutral}
use Rattle.sc_value.specs.declared.message.Request.{Request}
use Rattle.sc_value.specs.declared.parts.Address.{Address}
use Rattle.sc_value.specs.declared.parts.Uri.{Uri}
use Rattle.sc_value.specs.declared.parts.Uri.TheVariants.{Sip}
use Rattle.sc_terms.specs.declared.settings.Config.{Config}
use Rattle.sc_terms.specs.declared.settings.Dar.{Dar}
use Rattle.sc_terms.specs.declared.settings.Modifier.{Modifier}
use Rattle.sc_terms.specs.declared.settings.Modifier.TheVariants.{Route, RouteBack, NoRoute}
use Rattle.sc_terms.specs.declared.settings.Tuple.{Tuple}
use Rattle.sc_parts.specs.declared.choice.Choice.{Choice}
use Rattle.sc_parts.specs.declared.choice.Choice.TheVariants.{App, Send, Onward, NotFound}
use Rattle.sc_value.specs.declared.ids.Directive.TheVariants.{New, Continue, Reverse}
use Rattle.sc_tokens.specs.Bytes.{Bytes}
use Rattle.sc_grammar.specs.Written.{scheme, ended_text, port_text, params_text, signed_text, sip_uri_text, uri_text}
use Rattle.sc_model.specs.Records.{ip_text}
use Rattle.sc_model.specs.Names.{ar_value, tcp_param, loose_param, own_uri, ar_name, return_uri}
use Rattle.sc_model.specs.OwnHosts.{is_at, is_of, is_own, is_home}
use Rattle.sc_model.specs.Routing.{dar_prefix, header_text, subscriber_of, list_of}
use Rattle.sc_model.specs.Choices.{tuples_of, is_opposite, next_order, app_of, way_back, by_route, choice_by_route as routed, choice_without_tuple as exhausted, choice_at, choice_in, choice_of}

-- the container listens at 127.0.0.1:5060 and is responsible for home.test
abbrev config : Config
config = record {
  listen = (127 ∷ 0 ∷ 0 ∷ 1 ∷ [], 5060);
  domain = codes "home.test";
  salt = codes "s1";
  workers = 2;
  stop_after = 0;
  journal_steps = 1000;
  journal_bytes = 1000;
  epoch_steps = 0;
  journal_parts = false;
  reuse = false;
  recording = None;
  hosts = [];
  app = [];
}

abbrev uri : Bytes → Option ℕ → Uri
uri host port = Sip (record { user = None; host = host; port = port; params = []; headers = None })

abbrev address : Uri → Address
address to = record { display = None; uri = to; params = [] }

abbrev request : Bytes → Uri → List Address → Request
request method to route = record {
  method = method;
  uri = to;
  hops = 70;
  head = record {
    via = [];
    route = route;
    record_route = [];
    from = address (Sip (record { user = Some (codes "alice"); host = codes "home.test"; port = None; params = []; headers = None }));
    to = address to;
    call_id = codes "c";
    cseq = record { number = 1; method = method };
    contact = [];
    others = [];
    body = [];
  };
}

-- the domain, its name in another case, and hosts that are not the container's
abbrev home : Uri
home = uri (codes "HOME.test") None

abbrev away : Uri
away = uri (codes "127.0.0.1") (Some 5070)

abbrev tuple : ℕ → Region → Option Address → Modifier → Tuple
tuple app region route modifier = record { app = app; subscriber = codes "DAR:From"; region = region; route = route; modifier = modifier }

-- ## The directives

abbrev directives : Dar
directives = record {
  lists =
      record { method = codes "MESSAGE"; tuples = tuple 0 Originating None NoRoute ∷ tuple 1 Originating None NoRoute ∷ tuple 2 Terminating None NoRoute ∷ [] }
      ∷ record { method = codes "OPTIONS"; tuples = tuple 3 Neutral None NoRoute ∷ [] }
      ∷ [];
}

abbrev app : ℕ → ℕ → Region → Choice
app host order region = App host order region (codes "sip:alice@home.test") None

begins_new : choice_of config directives (request (codes "MESSAGE") home []) Neutral New None ≡ app 0 0 Originating
unfolding choice_of choice_in choice_at routed app_of next_order tuples_of list_of subscriber_of header_text dar_prefix from_name long_name same_name uri_text sip_uri_text scheme ended_text port_text params_text signed_text
begins_new = refl

goes_on : choice_of config directives (request (codes "MESSAGE") home []) Originating Continue (Some 1) ≡ app 1 1 Originating
unfolding choice_of choice_in choice_at routed app_of next_order tuples_of list_of subscriber_of header_text dar_prefix from_name long_name same_name uri_text sip_uri_text scheme ended_text port_text params_text signed_text
goes_on = refl

reverses : choice_of config directives (request (codes "MESSAGE") home []) Originating Reverse (Some 1) ≡ app 2 2 Terminating
unfolding choice_of choice_in choice_at routed app_of next_order is_opposite tuples_of list_of subscriber_of header_text dar_prefix from_name long_name same_name uri_text sip_uri_text scheme ended_text port_text params_text signed_text
reverses = refl

begins_of_method : choice_of config directives (request (codes "OPTIONS") home []) Originating New None ≡ app 3 0 Neutral
unfolding choice_of choice_in choice_at routed app_of next_order tuples_of list_of subscriber_of header_text dar_prefix from_name long_name same_name uri_text sip_uri_text scheme ended_text port_text params_text signed_text
begins_of_method = refl

-- no tuple of the opposite region, and no list
reverses_to_none : choice_of config directives (request (codes "OPTIONS") home []) Terminating Reverse None ≡ NotFound
unfolding choice_of choice_in next_order is_opposite tuples_of list_of exhausted is_home is_of same_name
reverses_to_none = refl

lists_none : choice_of config directives (request (codes "INFO") home []) Neutral New None ≡ NotFound
unfolding choice_of choice_in choice_at next_order tuples_of list_of exhausted is_home is_of same_name
lists_none = refl

-- ## A way back

abbrev outside : Address
outside = address (Sip (record { user = None; host = codes "127.0.0.1"; port = Some 5080; params = record { name = codes "lr"; value = None } ∷ []; headers = None }))

-- where the container listens
abbrev inside : Address
inside = address (uri (codes "127.0.0.1") None)

abbrev back : Dar
back = record {
  lists = record {
    method = codes "INVITE";
    tuples =
        tuple 0 Neutral (Some outside) Route ∷ tuple 1 Neutral (Some outside) RouteBack ∷ tuple 2 Neutral (Some inside) Route ∷ [];
  } ∷ [];
}

goes_out : choice_of config back (request (codes "INVITE") home []) Neutral New None ≡ Send (outside ∷ [])
unfolding choice_of choice_in choice_at routed by_route is_own is_at next_order tuples_of list_of digits ip_text same_name
goes_out = refl

-- `sip:127.0.0.1:5060;transport=tcp;lr;ar=2-N`
goes_out_and_back : choice_of config back (request (codes "INVITE") home []) Neutral Continue (Some 1) ≡ Send (
    outside
    ∷ address (Sip (record { user = None; host = codes "127.0.0.1"; port = Some 5060; params = record { name = codes "transport"; value = Some (codes "tcp") } ∷ record { name = codes "lr"; value = None } ∷ record { name = codes "ar"; value = Some (codes "2-N") } ∷ []; headers = None }))
    ∷ [])
unfolding choice_of choice_in choice_at routed way_back return_uri own_uri ar_name loose_param tcp_param ar_value next_order tuples_of list_of digits ip_text
goes_out_and_back = refl

-- back at order 2: an own route leads to the application
comes_back : choice_of config back (request (codes "INVITE") away []) Neutral Continue (Some 2) ≡ App 2 2 Neutral (codes "sip:alice@home.test") (Some inside)
unfolding choice_of choice_in choice_at routed by_route is_own is_at app_of next_order tuples_of list_of subscriber_of header_text dar_prefix from_name long_name same_name uri_text sip_uri_text scheme ended_text port_text params_text signed_text digits ip_text
comes_back = refl

-- past the end: home, another host, and with a Route
ends_at_home : choice_of config back (request (codes "INVITE") home []) Neutral Continue (Some 9) ≡ NotFound
unfolding choice_of choice_in choice_at next_order tuples_of list_of exhausted is_home is_of same_name
ends_at_home = refl

goes_onward : choice_of config back (request (codes "INVITE") away []) Neutral Continue (Some 3) ≡ Onward
unfolding choice_of choice_in choice_at next_order tuples_of list_of exhausted is_home is_of is_own is_at same_name digits ip_text
goes_onward = refl

goes_by_route : choice_of config back (request (codes "INVITE") home (outside ∷ [])) Neutral Continue (Some 3) ≡ Onward
unfolding choice_of choice_in choice_at next_order tuples_of list_of exhausted
goes_by_route = refl
