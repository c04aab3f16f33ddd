-- Set-ups and scripts of worked cases.
use Rattle.std.specs.Prelude.{[], ◌∷◌, ◌++◌, None, Some, codes}
use Rattle.sc_value.specs.declared.parts.Uri.TheVariants as uris
use Rattle.sc_terms.specs.declared.settings.Modifier.TheVariants as modifiers
use Rattle.sc_parts.specs.declared.setup.Setup.{Setup}
use Rattle.sc_tokens.specs.Bytes.{Bytes}
use Rattle.sc_worked.proofs.ChainCases as ChainCases
use Rattle.sc_worked.proofs.Trying.{app, tuple, set_up}

unfoldable pub chain_bye_of_caller_setup : Setup
chain_bye_of_caller_setup = ChainCases.chain_bye_of_caller.setup

unfoldable pub chain_bye_of_caller_script : Bytes
chain_bye_of_caller_script = ChainCases.chain_bye_of_caller.script

unfoldable pub chain_bye_of_callee_setup : Setup
chain_bye_of_callee_setup = ChainCases.chain_bye_of_callee.setup

unfoldable pub chain_bye_of_callee_script : Bytes
chain_bye_of_callee_script = ChainCases.chain_bye_of_callee.script

unfoldable pub spiral_setup : Setup
spiral_setup = ChainCases.spiral.setup

unfoldable pub spiral_script : Bytes
spiral_script = ChainCases.spiral.script

unfoldable pub ordinary_call_setup : Setup
ordinary_call_setup = ChainCases.ordinary_call.setup

unfoldable pub ordinary_call_script : Bytes
ordinary_call_script = ChainCases.ordinary_call.script

unfoldable pub call_screened_setup : Setup
call_screened_setup = ChainCases.call_screened.setup

unfoldable pub call_screened_script : Bytes
call_screened_script = ChainCases.call_screened.script

unfoldable pub called_side_dialog_setup : Setup
called_side_dialog_setup = set_up (app (codes "a0") 0 ([]) ∷ []) (record { method = (codes "INVITE"); tuples = (tuple 0 ∷ []) } ∷ record { method = (codes "OPTIONS"); tuples = (tuple 0 ∷ []) } ∷ record { method = (codes "MESSAGE"); tuples = (tuple 0 ∷ []) } ∷ [])

unfoldable pub called_side_dialog_script : Bytes
called_side_dialog_script =
    codes "in c1 254\nINVITE sip:bob@127.0.0.1:5070 SIP/2.0\r\nVia: SIP/2.0/TCP 127.0.0.1:5090;branch=z9hG4bKa1\r\n"
    ++ codes "Max-Forwards: 70\r\nFrom: <sip:alice@home.test>;tag=a\r\nTo: <sip:bob@home.test>\r\nCall-ID: c5\r\nCSeq: 1 INVITE\r\n"
    ++ codes "Contact: <sip:alice@127.0.0.1:5090>\r\nContent-Length: 0\r\n\r\n\nrun\nin c1 244\n"
    ++ codes "ACK sip:127.0.0.1:5060;transport=tcp;lr;ap=0-1 SIP/2.0\r\nVia: SIP/2.0/TCP 127.0.0.1:5090;branch=z9hG4bKi1\r\n"
    ++ codes "Max-Forwards: 70\r\nFrom: <sip:alice@home.test>;tag=a\r\nTo: <sip:bob@home.test>;tag=s1-0-1-1\r\nCall-ID: c5\r\n"
    ++ codes "CSeq: 1 ACK\r\nContent-Length: 0\r\n\r\n\nin c1 244\nBYE sip:127.0.0.1:5060;transport=tcp;lr;ap=0-1 SIP/2.0\r\n"
    ++ codes "Via: SIP/2.0/TCP 127.0.0.1:5090;branch=z9hG4bKi2\r\nMax-Forwards: 70\r\nFrom: <sip:alice@home.test>;tag=a\r\n"
    ++ codes "To: <sip:bob@home.test>;tag=s1-0-1-1\r\nCall-ID: c5\r\nCSeq: 2 BYE\r\nContent-Length: 0\r\n\r\n\nrun\nend\n"

-- the INVITE leaves by a foreign route and comes back
unfoldable pub came_back_setup : Setup
came_back_setup = set_up (app (codes "a0") 2 ([]) ∷ app (codes "a1") 0 ([]) ∷ app (codes "a2") 4 ([]) ∷ []) (record { method = (codes "INVITE"); tuples = (tuple 0 ∷ record (tuple 1) { route = Some (record { display = None; uri = (uris.Sip (record { user = None; host = (codes "127.0.0.1"); port = (Some 5080); params = ((record { name = (codes "lr"); value = None }) ∷ []); headers = None })); params = [] }); modifier = modifiers.RouteBack } ∷ tuple 2 ∷ []) } ∷ [])

unfoldable pub came_back_script : Bytes
came_back_script =
    codes "in c1 254\nINVITE sip:bob@127.0.0.1:5070 SIP/2.0\r\nVia: SIP/2.0/TCP 127.0.0.1:5090;branch=z9hG4bKa1\r\n"
    ++ codes "Max-Forwards: 70\r\nFrom: <sip:alice@home.test>;tag=a\r\nTo: <sip:bob@home.test>\r\nCall-ID: c5\r\nCSeq: 1 INVITE\r\n"
    ++ codes "Contact: <sip:alice@127.0.0.1:5090>\r\nContent-Length: 0\r\n\r\n\nrun\nin c2 413\n"
    ++ codes "INVITE sip:bob@127.0.0.1:5070 SIP/2.0\r\nVia: SIP/2.0/TCP 127.0.0.1:5080;branch=z9hG4bKzz\r\n"
    ++ codes "Via: SIP/2.0/TCP 127.0.0.1:5060;branch=z9hG4bKs1-0-1-2\r\nVia: SIP/2.0/TCP 127.0.0.1:5090;branch=z9hG4bKa1\r\n"
    ++ codes "Route: <sip:127.0.0.1:5060;transport=tcp;lr;ar=2-N>\r\nMax-Forwards: 68\r\nFrom: <sip:alice@home.test>;tag=a\r\n"
    ++ codes "To: <sip:bob@home.test>\r\nCall-ID: c5\r\nCSeq: 1 INVITE\r\nContact: <sip:alice@127.0.0.1:5090>\r\nContent-Length: 0\r\n"
    ++ codes "\r\n\nrun\nin 127.0.0.1:5070 440\nSIP/2.0 200 OK\r\nVia: SIP/2.0/TCP 127.0.0.1:5060;branch=z9hG4bKs1-2-1-2\r\n"
    ++ codes "Via: SIP/2.0/TCP 127.0.0.1:5080;branch=z9hG4bKzz\r\nVia: SIP/2.0/TCP 127.0.0.1:5060;branch=z9hG4bKs1-0-1-2\r\n"
    ++ codes "Via: SIP/2.0/TCP 127.0.0.1:5090;branch=z9hG4bKa1\r\nRecord-Route: <sip:127.0.0.1:5060;transport=tcp;lr;ap=2-1>\r\n"
    ++ codes "From: <sip:alice@home.test>;tag=a\r\nTo: <sip:bob@home.test>;tag=t9\r\nCall-ID: c5\r\nCSeq: 1 INVITE\r\n"
    ++ codes "Contact: <sip:bob@127.0.0.1:5070>\r\nContent-Length: 0\r\n\r\n\nrun\nin c2 334\nSIP/2.0 200 OK\r\n"
    ++ codes "Via: SIP/2.0/TCP 127.0.0.1:5060;branch=z9hG4bKs1-0-1-2\r\nVia: SIP/2.0/TCP 127.0.0.1:5090;branch=z9hG4bKa1\r\n"
    ++ codes "Record-Route: <sip:127.0.0.1:5060;transport=tcp;lr;ap=2-1>\r\nFrom: <sip:alice@home.test>;tag=a\r\n"
    ++ codes "To: <sip:bob@home.test>;tag=t9\r\nCall-ID: c5\r\nCSeq: 1 INVITE\r\nContact: <sip:bob@127.0.0.1:5070>\r\n"
    ++ codes "Content-Length: 0\r\n\r\n\nrun\nin c1 271\nBYE sip:bob@127.0.0.1:5070 SIP/2.0\r\n"
    ++ codes "Via: SIP/2.0/TCP 127.0.0.1:5090;branch=z9hG4bKa3\r\nRoute: <sip:127.0.0.1:5060;transport=tcp;lr;ap=2-1>\r\n"
    ++ codes "Max-Forwards: 70\r\nFrom: <sip:alice@home.test>;tag=a\r\nTo: <sip:bob@home.test>;tag=t9\r\nCall-ID: c5\r\n"
    ++ codes "CSeq: 2 BYE\r\nContent-Length: 0\r\n\r\n\nrun\nend\n"

unfoldable pub fork_setup : Setup
fork_setup = set_up (app (codes "a0") 3 ((codes "sip:x@127.0.0.1:5071") ∷ (codes "sip:x@127.0.0.1:5072") ∷ []) ∷ []) (record { method = (codes "INVITE"); tuples = (tuple 0 ∷ []) } ∷ record { method = (codes "OPTIONS"); tuples = (tuple 0 ∷ []) } ∷ record { method = (codes "MESSAGE"); tuples = (tuple 0 ∷ []) } ∷ [])

unfoldable pub fork_script : Bytes
fork_script =
    codes "in c1 254\nINVITE sip:bob@127.0.0.1:5070 SIP/2.0\r\nVia: SIP/2.0/TCP 127.0.0.1:5090;branch=z9hG4bKa1\r\n"
    ++ codes "Max-Forwards: 70\r\nFrom: <sip:alice@home.test>;tag=a\r\nTo: <sip:bob@home.test>\r\nCall-ID: c5\r\nCSeq: 1 INVITE\r\n"
    ++ codes "Contact: <sip:alice@127.0.0.1:5090>\r\nContent-Length: 0\r\n\r\n\nrun\nin 127.0.0.1:5071 304\nSIP/2.0 180 Ringing\r\n"
    ++ codes "Via: SIP/2.0/TCP 127.0.0.1:5060;branch=z9hG4bKs1-0-1-2\r\nVia: SIP/2.0/TCP 127.0.0.1:5090;branch=z9hG4bKa1\r\n"
    ++ codes "Record-Route: <sip:127.0.0.1:5060;transport=tcp;lr;ap=0-1>\r\nFrom: <sip:alice@home.test>;tag=a\r\n"
    ++ codes "To: <sip:bob@home.test>;tag=t1\r\nCall-ID: c5\r\nCSeq: 1 INVITE\r\nContent-Length: 0\r\n\r\n\nin 127.0.0.1:5072 304\n"
    ++ codes "SIP/2.0 180 Ringing\r\nVia: SIP/2.0/TCP 127.0.0.1:5060;branch=z9hG4bKs1-0-1-3\r\n"
    ++ codes "Via: SIP/2.0/TCP 127.0.0.1:5090;branch=z9hG4bKa1\r\nRecord-Route: <sip:127.0.0.1:5060;transport=tcp;lr;ap=0-1>\r\n"
    ++ codes "From: <sip:alice@home.test>;tag=a\r\nTo: <sip:bob@home.test>;tag=t2\r\nCall-ID: c5\r\nCSeq: 1 INVITE\r\n"
    ++ codes "Content-Length: 0\r\n\r\n\nrun\nin 127.0.0.1:5071 299\nSIP/2.0 200 OK\r\n"
    ++ codes "Via: SIP/2.0/TCP 127.0.0.1:5060;branch=z9hG4bKs1-0-1-2\r\nVia: SIP/2.0/TCP 127.0.0.1:5090;branch=z9hG4bKa1\r\n"
    ++ codes "Record-Route: <sip:127.0.0.1:5060;transport=tcp;lr;ap=0-1>\r\nFrom: <sip:alice@home.test>;tag=a\r\n"
    ++ codes "To: <sip:bob@home.test>;tag=t1\r\nCall-ID: c5\r\nCSeq: 1 INVITE\r\nContent-Length: 0\r\n\r\n\nrun\nin 127.0.0.1:5072 299\n"
    ++ codes "SIP/2.0 200 OK\r\nVia: SIP/2.0/TCP 127.0.0.1:5060;branch=z9hG4bKs1-0-1-3\r\n"
    ++ codes "Via: SIP/2.0/TCP 127.0.0.1:5090;branch=z9hG4bKa1\r\nRecord-Route: <sip:127.0.0.1:5060;transport=tcp;lr;ap=0-1>\r\n"
    ++ codes "From: <sip:alice@home.test>;tag=a\r\nTo: <sip:bob@home.test>;tag=t2\r\nCall-ID: c5\r\nCSeq: 1 INVITE\r\n"
    ++ codes "Content-Length: 0\r\n\r\n\nrun\nend\n"

-- a request that comes with a foreign Route to a session that did not stay
unfoldable pub passed_over_setup : Setup
passed_over_setup = set_up (app (codes "a0") 2 ([]) ∷ []) (record { method = (codes "INVITE"); tuples = (tuple 0 ∷ []) } ∷ [])

unfoldable pub passed_over_script : Bytes
passed_over_script =
    codes "in c1 254\nINVITE sip:bob@127.0.0.1:5070 SIP/2.0\r\nVia: SIP/2.0/TCP 127.0.0.1:5090;branch=z9hG4bKa1\r\n"
    ++ codes "Max-Forwards: 70\r\nFrom: <sip:alice@home.test>;tag=a\r\nTo: <sip:bob@home.test>\r\nCall-ID: c5\r\nCSeq: 1 INVITE\r\n"
    ++ codes "Contact: <sip:alice@127.0.0.1:5090>\r\nContent-Length: 0\r\n\r\n\nrun\nin 127.0.0.1:5070 244\nSIP/2.0 180 Ringing\r\n"
    ++ codes "Via: SIP/2.0/TCP 127.0.0.1:5060;branch=z9hG4bKs1-0-1-2\r\nVia: SIP/2.0/TCP 127.0.0.1:5090;branch=z9hG4bKa1\r\n"
    ++ codes "From: <sip:alice@home.test>;tag=a\r\nTo: <sip:bob@home.test>;tag=t9\r\nCall-ID: c5\r\nCSeq: 1 INVITE\r\n"
    ++ codes "Content-Length: 0\r\n\r\n\nrun\nin c1 276\nUPDATE sip:127.0.0.1:5060;transport=tcp;lr;ap=0-1 SIP/2.0\r\n"
    ++ codes "Via: SIP/2.0/TCP 127.0.0.1:5090;branch=z9hG4bKa3\r\nRoute: <sip:127.0.0.1:5080;lr>\r\nMax-Forwards: 70\r\n"
    ++ codes "From: <sip:alice@home.test>;tag=a\r\nTo: <sip:bob@home.test>;tag=t9\r\nCall-ID: c5\r\nCSeq: 2 UPDATE\r\n"
    ++ codes "Content-Length: 0\r\n\r\n\nrun\nend\n"
