-- Worked cases. Chains of applications: later requests along the path, spirals, second legs, directives and routes.
use Rattle.std.specs.Prelude.{List, [], ◌∷◌, ◌++◌, codes, Some, None}
use Rattle.sc_value.specs.declared.ids.Region.TheVariants as regions
use Rattle.sc_value.specs.declared.parts.Uri.TheVariants as uris
use Rattle.sc_terms.specs.declared.settings.Modifier.TheVariants as modifiers
use Rattle.sc_worked.proofs.Trying.{Case, app, tuple, set_up}

unfoldable pub chain : Case
chain = record {
  setup = set_up (app (codes "a0") 4 ([]) ∷ app (codes "a1") 2 ([]) ∷ app (codes "a2") 4 ([]) ∷ []) (record { method = (codes "INVITE"); tuples = (tuple 0 ∷ tuple 1 ∷ tuple 2 ∷ []) } ∷ record { method = (codes "OPTIONS"); tuples = (tuple 0 ∷ tuple 1 ∷ tuple 2 ∷ []) } ∷ record { method = (codes "MESSAGE"); tuples = (tuple 0 ∷ tuple 1 ∷ tuple 2 ∷ []) } ∷ []);
  script =
      codes "in c1 254\nINVITE sip:bob@127.0.0.1:5070 SIP/2.0\r\nVia: SIP/2.0/TCP 127.0.0.1:5090;branch=z9hG4bKa1\r\n"
      ++ codes "Max-Forwards: 70\r\nFrom: <sip:alice@home.test>;tag=a\r\nTo: <sip:bob@home.test>\r\nCall-ID: c5\r\nCSeq: 1 INVITE\r\n"
      ++ codes "Contact: <sip:alice@127.0.0.1:5090>\r\nContent-Length: 0\r\n\r\n\nrun\nin 127.0.0.1:5070 511\nSIP/2.0 180 Ringing\r\n"
      ++ codes "Via: SIP/2.0/TCP 127.0.0.1:5060;branch=z9hG4bKs1-2-1-2\r\n"
      ++ codes "Via: SIP/2.0/TCP 127.0.0.1:5060;branch=z9hG4bKs1-1-1-2\r\n"
      ++ codes "Via: SIP/2.0/TCP 127.0.0.1:5060;branch=z9hG4bKs1-0-1-2\r\nVia: SIP/2.0/TCP 127.0.0.1:5090;branch=z9hG4bKa1\r\n"
      ++ codes "Record-Route: <sip:127.0.0.1:5060;transport=tcp;lr;ap=2-1>\r\n"
      ++ codes "Record-Route: <sip:127.0.0.1:5060;transport=tcp;lr;ap=0-1>\r\nFrom: <sip:alice@home.test>;tag=a\r\n"
      ++ codes "To: <sip:bob@home.test>;tag=t9\r\nCall-ID: c5\r\nCSeq: 1 INVITE\r\nContact: <sip:bob@127.0.0.1:5070>\r\n"
      ++ codes "Content-Length: 0\r\n\r\n\nrun\nin 127.0.0.1:5070 506\nSIP/2.0 200 OK\r\n"
      ++ codes "Via: SIP/2.0/TCP 127.0.0.1:5060;branch=z9hG4bKs1-2-1-2\r\n"
      ++ codes "Via: SIP/2.0/TCP 127.0.0.1:5060;branch=z9hG4bKs1-1-1-2\r\n"
      ++ codes "Via: SIP/2.0/TCP 127.0.0.1:5060;branch=z9hG4bKs1-0-1-2\r\nVia: SIP/2.0/TCP 127.0.0.1:5090;branch=z9hG4bKa1\r\n"
      ++ codes "Record-Route: <sip:127.0.0.1:5060;transport=tcp;lr;ap=2-1>\r\n"
      ++ codes "Record-Route: <sip:127.0.0.1:5060;transport=tcp;lr;ap=0-1>\r\nFrom: <sip:alice@home.test>;tag=a\r\n"
      ++ codes "To: <sip:bob@home.test>;tag=t9\r\nCall-ID: c5\r\nCSeq: 1 INVITE\r\nContact: <sip:bob@127.0.0.1:5070>\r\n"
      ++ codes "Content-Length: 0\r\n\r\n\nrun\nend\n";
  output =
      codes "out c1 180\nSIP/2.0 100 Trying\r\nVia: SIP/2.0/TCP 127.0.0.1:5090;branch=z9hG4bKa1\r\n"
      ++ codes "From: <sip:alice@home.test>;tag=a\r\nTo: <sip:bob@home.test>\r\nCall-ID: c5\r\nCSeq: 1 INVITE\r\nContent-Length: 0\r\n\r\n"
      ++ codes "\nout 127.0.0.1:5070 542\nINVITE sip:bob@127.0.0.1:5070 SIP/2.0\r\n"
      ++ codes "Via: SIP/2.0/TCP 127.0.0.1:5060;branch=z9hG4bKs1-2-1-2\r\n"
      ++ codes "Via: SIP/2.0/TCP 127.0.0.1:5060;branch=z9hG4bKs1-1-1-2\r\n"
      ++ codes "Via: SIP/2.0/TCP 127.0.0.1:5060;branch=z9hG4bKs1-0-1-2\r\nVia: SIP/2.0/TCP 127.0.0.1:5090;branch=z9hG4bKa1\r\n"
      ++ codes "Record-Route: <sip:127.0.0.1:5060;transport=tcp;lr;ap=2-1>\r\n"
      ++ codes "Record-Route: <sip:127.0.0.1:5060;transport=tcp;lr;ap=0-1>\r\nMax-Forwards: 67\r\n"
      ++ codes "From: <sip:alice@home.test>;tag=a\r\nTo: <sip:bob@home.test>\r\nCall-ID: c5\r\nCSeq: 1 INVITE\r\n"
      ++ codes "Contact: <sip:alice@127.0.0.1:5090>\r\nContent-Length: 0\r\n\r\n\nout c1 343\nSIP/2.0 180 Ringing\r\n"
      ++ codes "Via: SIP/2.0/TCP 127.0.0.1:5090;branch=z9hG4bKa1\r\nRecord-Route: <sip:127.0.0.1:5060;transport=tcp;lr;ap=2-1>\r\n"
      ++ codes "Record-Route: <sip:127.0.0.1:5060;transport=tcp;lr;ap=0-1>\r\nFrom: <sip:alice@home.test>;tag=a\r\n"
      ++ codes "To: <sip:bob@home.test>;tag=t9\r\nCall-ID: c5\r\nCSeq: 1 INVITE\r\nContact: <sip:bob@127.0.0.1:5070>\r\n"
      ++ codes "Content-Length: 0\r\n\r\n\nout c1 338\nSIP/2.0 200 OK\r\nVia: SIP/2.0/TCP 127.0.0.1:5090;branch=z9hG4bKa1\r\n"
      ++ codes "Record-Route: <sip:127.0.0.1:5060;transport=tcp;lr;ap=2-1>\r\n"
      ++ codes "Record-Route: <sip:127.0.0.1:5060;transport=tcp;lr;ap=0-1>\r\nFrom: <sip:alice@home.test>;tag=a\r\n"
      ++ codes "To: <sip:bob@home.test>;tag=t9\r\nCall-ID: c5\r\nCSeq: 1 INVITE\r\nContact: <sip:bob@127.0.0.1:5070>\r\n"
      ++ codes "Content-Length: 0\r\n\r\n\nend 13 4 2\n";
}

unfoldable pub chain_bye_of_callee : Case
chain_bye_of_callee = record {
  setup = set_up (app (codes "a0") 4 ([]) ∷ app (codes "a1") 2 ([]) ∷ app (codes "a2") 4 ([]) ∷ []) (record { method = (codes "INVITE"); tuples = (tuple 0 ∷ tuple 1 ∷ tuple 2 ∷ []) } ∷ record { method = (codes "OPTIONS"); tuples = (tuple 0 ∷ tuple 1 ∷ tuple 2 ∷ []) } ∷ record { method = (codes "MESSAGE"); tuples = (tuple 0 ∷ tuple 1 ∷ tuple 2 ∷ []) } ∷ []);
  script =
      codes "in c1 254\nINVITE sip:bob@127.0.0.1:5070 SIP/2.0\r\nVia: SIP/2.0/TCP 127.0.0.1:5090;branch=z9hG4bKa1\r\n"
      ++ codes "Max-Forwards: 70\r\nFrom: <sip:alice@home.test>;tag=a\r\nTo: <sip:bob@home.test>\r\nCall-ID: c5\r\nCSeq: 1 INVITE\r\n"
      ++ codes "Contact: <sip:alice@127.0.0.1:5090>\r\nContent-Length: 0\r\n\r\n\nrun\nin 127.0.0.1:5070 511\nSIP/2.0 180 Ringing\r\n"
      ++ codes "Via: SIP/2.0/TCP 127.0.0.1:5060;branch=z9hG4bKs1-2-1-2\r\n"
      ++ codes "Via: SIP/2.0/TCP 127.0.0.1:5060;branch=z9hG4bKs1-1-1-2\r\n"
      ++ codes "Via: SIP/2.0/TCP 127.0.0.1:5060;branch=z9hG4bKs1-0-1-2\r\nVia: SIP/2.0/TCP 127.0.0.1:5090;branch=z9hG4bKa1\r\n"
      ++ codes "Record-Route: <sip:127.0.0.1:5060;transport=tcp;lr;ap=2-1>\r\n"
      ++ codes "Record-Route: <sip:127.0.0.1:5060;transport=tcp;lr;ap=0-1>\r\nFrom: <sip:alice@home.test>;tag=a\r\n"
      ++ codes "To: <sip:bob@home.test>;tag=t9\r\nCall-ID: c5\r\nCSeq: 1 INVITE\r\nContact: <sip:bob@127.0.0.1:5070>\r\n"
      ++ codes "Content-Length: 0\r\n\r\n\nrun\nin 127.0.0.1:5070 506\nSIP/2.0 200 OK\r\n"
      ++ codes "Via: SIP/2.0/TCP 127.0.0.1:5060;branch=z9hG4bKs1-2-1-2\r\n"
      ++ codes "Via: SIP/2.0/TCP 127.0.0.1:5060;branch=z9hG4bKs1-1-1-2\r\n"
      ++ codes "Via: SIP/2.0/TCP 127.0.0.1:5060;branch=z9hG4bKs1-0-1-2\r\nVia: SIP/2.0/TCP 127.0.0.1:5090;branch=z9hG4bKa1\r\n"
      ++ codes "Record-Route: <sip:127.0.0.1:5060;transport=tcp;lr;ap=2-1>\r\n"
      ++ codes "Record-Route: <sip:127.0.0.1:5060;transport=tcp;lr;ap=0-1>\r\nFrom: <sip:alice@home.test>;tag=a\r\n"
      ++ codes "To: <sip:bob@home.test>;tag=t9\r\nCall-ID: c5\r\nCSeq: 1 INVITE\r\nContact: <sip:bob@127.0.0.1:5070>\r\n"
      ++ codes "Content-Length: 0\r\n\r\n\nrun\nin c1 324\nACK sip:bob@127.0.0.1:5070 SIP/2.0\r\n"
      ++ codes "Via: SIP/2.0/TCP 127.0.0.1:5090;branch=z9hG4bKa2\r\nRoute: <sip:127.0.0.1:5060;transport=tcp;lr;ap=0-1>\r\n"
      ++ codes "Route: <sip:127.0.0.1:5060;transport=tcp;lr;ap=2-1>\r\nMax-Forwards: 70\r\nFrom: <sip:alice@home.test>;tag=a\r\n"
      ++ codes "To: <sip:bob@home.test>;tag=t9\r\nCall-ID: c5\r\nCSeq: 1 ACK\r\nContent-Length: 0\r\n\r\n\nrun\nin 127.0.0.1:5070 325\n"
      ++ codes "BYE sip:alice@127.0.0.1:5090 SIP/2.0\r\nVia: SIP/2.0/TCP 127.0.0.1:5070;branch=z9hG4bKx\r\n"
      ++ codes "Route: <sip:127.0.0.1:5060;transport=tcp;lr;ap=2-1>\r\nRoute: <sip:127.0.0.1:5060;transport=tcp;lr;ap=0-1>\r\n"
      ++ codes "Max-Forwards: 70\r\nFrom: <sip:bob@home.test>;tag=t9\r\nTo: <sip:alice@home.test>;tag=a\r\nCall-ID: c5\r\n"
      ++ codes "CSeq: 1 BYE\r\nContent-Length: 0\r\n\r\n\nrun\nend\n";
  output =
      codes "out c1 180\nSIP/2.0 100 Trying\r\nVia: SIP/2.0/TCP 127.0.0.1:5090;branch=z9hG4bKa1\r\n"
      ++ codes "From: <sip:alice@home.test>;tag=a\r\nTo: <sip:bob@home.test>\r\nCall-ID: c5\r\nCSeq: 1 INVITE\r\nContent-Length: 0\r\n\r\n"
      ++ codes "\nout 127.0.0.1:5070 542\nINVITE sip:bob@127.0.0.1:5070 SIP/2.0\r\n"
      ++ codes "Via: SIP/2.0/TCP 127.0.0.1:5060;branch=z9hG4bKs1-2-1-2\r\n"
      ++ codes "Via: SIP/2.0/TCP 127.0.0.1:5060;branch=z9hG4bKs1-1-1-2\r\n"
      ++ codes "Via: SIP/2.0/TCP 127.0.0.1:5060;branch=z9hG4bKs1-0-1-2\r\nVia: SIP/2.0/TCP 127.0.0.1:5090;branch=z9hG4bKa1\r\n"
      ++ codes "Record-Route: <sip:127.0.0.1:5060;transport=tcp;lr;ap=2-1>\r\n"
      ++ codes "Record-Route: <sip:127.0.0.1:5060;transport=tcp;lr;ap=0-1>\r\nMax-Forwards: 67\r\n"
      ++ codes "From: <sip:alice@home.test>;tag=a\r\nTo: <sip:bob@home.test>\r\nCall-ID: c5\r\nCSeq: 1 INVITE\r\n"
      ++ codes "Contact: <sip:alice@127.0.0.1:5090>\r\nContent-Length: 0\r\n\r\n\nout c1 343\nSIP/2.0 180 Ringing\r\n"
      ++ codes "Via: SIP/2.0/TCP 127.0.0.1:5090;branch=z9hG4bKa1\r\nRecord-Route: <sip:127.0.0.1:5060;transport=tcp;lr;ap=2-1>\r\n"
      ++ codes "Record-Route: <sip:127.0.0.1:5060;transport=tcp;lr;ap=0-1>\r\nFrom: <sip:alice@home.test>;tag=a\r\n"
      ++ codes "To: <sip:bob@home.test>;tag=t9\r\nCall-ID: c5\r\nCSeq: 1 INVITE\r\nContact: <sip:bob@127.0.0.1:5070>\r\n"
      ++ codes "Content-Length: 0\r\n\r\n\nout c1 338\nSIP/2.0 200 OK\r\nVia: SIP/2.0/TCP 127.0.0.1:5090;branch=z9hG4bKa1\r\n"
      ++ codes "Record-Route: <sip:127.0.0.1:5060;transport=tcp;lr;ap=2-1>\r\n"
      ++ codes "Record-Route: <sip:127.0.0.1:5060;transport=tcp;lr;ap=0-1>\r\nFrom: <sip:alice@home.test>;tag=a\r\n"
      ++ codes "To: <sip:bob@home.test>;tag=t9\r\nCall-ID: c5\r\nCSeq: 1 INVITE\r\nContact: <sip:bob@127.0.0.1:5070>\r\n"
      ++ codes "Content-Length: 0\r\n\r\n\nout 127.0.0.1:5070 330\nACK sip:bob@127.0.0.1:5070 SIP/2.0\r\n"
      ++ codes "Via: SIP/2.0/TCP 127.0.0.1:5060;branch=z9hG4bKs1-2-1-3\r\n"
      ++ codes "Via: SIP/2.0/TCP 127.0.0.1:5060;branch=z9hG4bKs1-0-1-3\r\nVia: SIP/2.0/TCP 127.0.0.1:5090;branch=z9hG4bKa2\r\n"
      ++ codes "Max-Forwards: 68\r\nFrom: <sip:alice@home.test>;tag=a\r\nTo: <sip:bob@home.test>;tag=t9\r\nCall-ID: c5\r\n"
      ++ codes "CSeq: 1 ACK\r\nContent-Length: 0\r\n\r\n\nout 127.0.0.1:5090 331\nBYE sip:alice@127.0.0.1:5090 SIP/2.0\r\n"
      ++ codes "Via: SIP/2.0/TCP 127.0.0.1:5060;branch=z9hG4bKs1-0-1-4\r\n"
      ++ codes "Via: SIP/2.0/TCP 127.0.0.1:5060;branch=z9hG4bKs1-2-1-4\r\nVia: SIP/2.0/TCP 127.0.0.1:5070;branch=z9hG4bKx\r\n"
      ++ codes "Max-Forwards: 68\r\nFrom: <sip:bob@home.test>;tag=t9\r\nTo: <sip:alice@home.test>;tag=a\r\nCall-ID: c5\r\n"
      ++ codes "CSeq: 1 BYE\r\nContent-Length: 0\r\n\r\n\nend 19 6 2\n";
}

unfoldable pub chain_bye_of_caller : Case
chain_bye_of_caller = record {
  setup = set_up (app (codes "a0") 4 ([]) ∷ app (codes "a1") 2 ([]) ∷ app (codes "a2") 4 ([]) ∷ []) (record { method = (codes "INVITE"); tuples = (tuple 0 ∷ tuple 1 ∷ tuple 2 ∷ []) } ∷ record { method = (codes "OPTIONS"); tuples = (tuple 0 ∷ tuple 1 ∷ tuple 2 ∷ []) } ∷ record { method = (codes "MESSAGE"); tuples = (tuple 0 ∷ tuple 1 ∷ tuple 2 ∷ []) } ∷ []);
  script =
      codes "in c1 254\nINVITE sip:bob@127.0.0.1:5070 SIP/2.0\r\nVia: SIP/2.0/TCP 127.0.0.1:5090;branch=z9hG4bKa1\r\n"
      ++ codes "Max-Forwards: 70\r\nFrom: <sip:alice@home.test>;tag=a\r\nTo: <sip:bob@home.test>\r\nCall-ID: c5\r\nCSeq: 1 INVITE\r\n"
      ++ codes "Contact: <sip:alice@127.0.0.1:5090>\r\nContent-Length: 0\r\n\r\n\nrun\nin 127.0.0.1:5070 511\nSIP/2.0 180 Ringing\r\n"
      ++ codes "Via: SIP/2.0/TCP 127.0.0.1:5060;branch=z9hG4bKs1-2-1-2\r\n"
      ++ codes "Via: SIP/2.0/TCP 127.0.0.1:5060;branch=z9hG4bKs1-1-1-2\r\n"
      ++ codes "Via: SIP/2.0/TCP 127.0.0.1:5060;branch=z9hG4bKs1-0-1-2\r\nVia: SIP/2.0/TCP 127.0.0.1:5090;branch=z9hG4bKa1\r\n"
      ++ codes "Record-Route: <sip:127.0.0.1:5060;transport=tcp;lr;ap=2-1>\r\n"
      ++ codes "Record-Route: <sip:127.0.0.1:5060;transport=tcp;lr;ap=0-1>\r\nFrom: <sip:alice@home.test>;tag=a\r\n"
      ++ codes "To: <sip:bob@home.test>;tag=t9\r\nCall-ID: c5\r\nCSeq: 1 INVITE\r\nContact: <sip:bob@127.0.0.1:5070>\r\n"
      ++ codes "Content-Length: 0\r\n\r\n\nrun\nin 127.0.0.1:5070 506\nSIP/2.0 200 OK\r\n"
      ++ codes "Via: SIP/2.0/TCP 127.0.0.1:5060;branch=z9hG4bKs1-2-1-2\r\n"
      ++ codes "Via: SIP/2.0/TCP 127.0.0.1:5060;branch=z9hG4bKs1-1-1-2\r\n"
      ++ codes "Via: SIP/2.0/TCP 127.0.0.1:5060;branch=z9hG4bKs1-0-1-2\r\nVia: SIP/2.0/TCP 127.0.0.1:5090;branch=z9hG4bKa1\r\n"
      ++ codes "Record-Route: <sip:127.0.0.1:5060;transport=tcp;lr;ap=2-1>\r\n"
      ++ codes "Record-Route: <sip:127.0.0.1:5060;transport=tcp;lr;ap=0-1>\r\nFrom: <sip:alice@home.test>;tag=a\r\n"
      ++ codes "To: <sip:bob@home.test>;tag=t9\r\nCall-ID: c5\r\nCSeq: 1 INVITE\r\nContact: <sip:bob@127.0.0.1:5070>\r\n"
      ++ codes "Content-Length: 0\r\n\r\n\nrun\nin c1 324\nACK sip:bob@127.0.0.1:5070 SIP/2.0\r\n"
      ++ codes "Via: SIP/2.0/TCP 127.0.0.1:5090;branch=z9hG4bKa2\r\nRoute: <sip:127.0.0.1:5060;transport=tcp;lr;ap=0-1>\r\n"
      ++ codes "Route: <sip:127.0.0.1:5060;transport=tcp;lr;ap=2-1>\r\nMax-Forwards: 70\r\nFrom: <sip:alice@home.test>;tag=a\r\n"
      ++ codes "To: <sip:bob@home.test>;tag=t9\r\nCall-ID: c5\r\nCSeq: 1 ACK\r\nContent-Length: 0\r\n\r\n\nrun\nin c1 324\n"
      ++ codes "BYE sip:bob@127.0.0.1:5070 SIP/2.0\r\nVia: SIP/2.0/TCP 127.0.0.1:5090;branch=z9hG4bKa3\r\n"
      ++ codes "Route: <sip:127.0.0.1:5060;transport=tcp;lr;ap=0-1>\r\nRoute: <sip:127.0.0.1:5060;transport=tcp;lr;ap=2-1>\r\n"
      ++ codes "Max-Forwards: 70\r\nFrom: <sip:alice@home.test>;tag=a\r\nTo: <sip:bob@home.test>;tag=t9\r\nCall-ID: c5\r\n"
      ++ codes "CSeq: 2 BYE\r\nContent-Length: 0\r\n\r\n\nrun\nin 127.0.0.1:5070 292\nSIP/2.0 200 OK\r\n"
      ++ codes "Via: SIP/2.0/TCP 127.0.0.1:5060;branch=z9hG4bKs1-2-1-4\r\n"
      ++ codes "Via: SIP/2.0/TCP 127.0.0.1:5060;branch=z9hG4bKs1-0-1-4\r\nVia: SIP/2.0/TCP 127.0.0.1:5090;branch=z9hG4bKa3\r\n"
      ++ codes "From: <sip:alice@home.test>;tag=a\r\nTo: <sip:bob@home.test>;tag=t9\r\nCall-ID: c5\r\nCSeq: 2 BYE\r\n"
      ++ codes "Content-Length: 0\r\n\r\n\nrun\nend\n";
  output =
      codes "out c1 180\nSIP/2.0 100 Trying\r\nVia: SIP/2.0/TCP 127.0.0.1:5090;branch=z9hG4bKa1\r\n"
      ++ codes "From: <sip:alice@home.test>;tag=a\r\nTo: <sip:bob@home.test>\r\nCall-ID: c5\r\nCSeq: 1 INVITE\r\nContent-Length: 0\r\n\r\n"
      ++ codes "\nout 127.0.0.1:5070 542\nINVITE sip:bob@127.0.0.1:5070 SIP/2.0\r\n"
      ++ codes "Via: SIP/2.0/TCP 127.0.0.1:5060;branch=z9hG4bKs1-2-1-2\r\n"
      ++ codes "Via: SIP/2.0/TCP 127.0.0.1:5060;branch=z9hG4bKs1-1-1-2\r\n"
      ++ codes "Via: SIP/2.0/TCP 127.0.0.1:5060;branch=z9hG4bKs1-0-1-2\r\nVia: SIP/2.0/TCP 127.0.0.1:5090;branch=z9hG4bKa1\r\n"
      ++ codes "Record-Route: <sip:127.0.0.1:5060;transport=tcp;lr;ap=2-1>\r\n"
      ++ codes "Record-Route: <sip:127.0.0.1:5060;transport=tcp;lr;ap=0-1>\r\nMax-Forwards: 67\r\n"
      ++ codes "From: <sip:alice@home.test>;tag=a\r\nTo: <sip:bob@home.test>\r\nCall-ID: c5\r\nCSeq: 1 INVITE\r\n"
      ++ codes "Contact: <sip:alice@127.0.0.1:5090>\r\nContent-Length: 0\r\n\r\n\nout c1 343\nSIP/2.0 180 Ringing\r\n"
      ++ codes "Via: SIP/2.0/TCP 127.0.0.1:5090;branch=z9hG4bKa1\r\nRecord-Route: <sip:127.0.0.1:5060;transport=tcp;lr;ap=2-1>\r\n"
      ++ codes "Record-Route: <sip:127.0.0.1:5060;transport=tcp;lr;ap=0-1>\r\nFrom: <sip:alice@home.test>;tag=a\r\n"
      ++ codes "To: <sip:bob@home.test>;tag=t9\r\nCall-ID: c5\r\nCSeq: 1 INVITE\r\nContact: <sip:bob@127.0.0.1:5070>\r\n"
      ++ codes "Content-Length: 0\r\n\r\n\nout c1 338\nSIP/2.0 200 OK\r\nVia: SIP/2.0/TCP 127.0.0.1:5090;branch=z9hG4bKa1\r\n"
      ++ codes "Record-Route: <sip:127.0.0.1:5060;transport=tcp;lr;ap=2-1>\r\n"
      ++ codes "Record-Route: <sip:127.0.0.1:5060;transport=tcp;lr;ap=0-1>\r\nFrom: <sip:alice@home.test>;tag=a\r\n"
      ++ codes "To: <sip:bob@home.test>;tag=t9\r\nCall-ID: c5\r\nCSeq: 1 INVITE\r\nContact: <sip:bob@127.0.0.1:5070>\r\n"
      ++ codes "Content-Length: 0\r\n\r\n\nout 127.0.0.1:5070 330\nACK sip:bob@127.0.0.1:5070 SIP/2.0\r\n"
      ++ codes "Via: SIP/2.0/TCP 127.0.0.1:5060;branch=z9hG4bKs1-2-1-3\r\n"
      ++ codes "Via: SIP/2.0/TCP 127.0.0.1:5060;branch=z9hG4bKs1-0-1-3\r\nVia: SIP/2.0/TCP 127.0.0.1:5090;branch=z9hG4bKa2\r\n"
      ++ codes "Max-Forwards: 68\r\nFrom: <sip:alice@home.test>;tag=a\r\nTo: <sip:bob@home.test>;tag=t9\r\nCall-ID: c5\r\n"
      ++ codes "CSeq: 1 ACK\r\nContent-Length: 0\r\n\r\n\nout 127.0.0.1:5070 330\nBYE sip:bob@127.0.0.1:5070 SIP/2.0\r\n"
      ++ codes "Via: SIP/2.0/TCP 127.0.0.1:5060;branch=z9hG4bKs1-2-1-4\r\n"
      ++ codes "Via: SIP/2.0/TCP 127.0.0.1:5060;branch=z9hG4bKs1-0-1-4\r\nVia: SIP/2.0/TCP 127.0.0.1:5090;branch=z9hG4bKa3\r\n"
      ++ codes "Max-Forwards: 68\r\nFrom: <sip:alice@home.test>;tag=a\r\nTo: <sip:bob@home.test>;tag=t9\r\nCall-ID: c5\r\n"
      ++ codes "CSeq: 2 BYE\r\nContent-Length: 0\r\n\r\n\nout c1 180\nSIP/2.0 200 OK\r\n"
      ++ codes "Via: SIP/2.0/TCP 127.0.0.1:5090;branch=z9hG4bKa3\r\nFrom: <sip:alice@home.test>;tag=a\r\n"
      ++ codes "To: <sip:bob@home.test>;tag=t9\r\nCall-ID: c5\r\nCSeq: 2 BYE\r\nContent-Length: 0\r\n\r\n\nend 24 7 0\n";
}

unfoldable pub spiral : Case
spiral = record {
  setup = set_up (app (codes "a0") 4 ([]) ∷ app (codes "a1") 2 ([]) ∷ []) (record { method = (codes "INVITE"); tuples = (tuple 0 ∷ tuple 1 ∷ tuple 0 ∷ []) } ∷ []);
  script =
      codes "in c1 254\nINVITE sip:bob@127.0.0.1:5070 SIP/2.0\r\nVia: SIP/2.0/TCP 127.0.0.1:5090;branch=z9hG4bKa1\r\n"
      ++ codes "Max-Forwards: 70\r\nFrom: <sip:alice@home.test>;tag=a\r\nTo: <sip:bob@home.test>\r\nCall-ID: c5\r\nCSeq: 1 INVITE\r\n"
      ++ codes "Contact: <sip:alice@127.0.0.1:5090>\r\nContent-Length: 0\r\n\r\n\nrun\nin 127.0.0.1:5070 506\nSIP/2.0 200 OK\r\n"
      ++ codes "Via: SIP/2.0/TCP 127.0.0.1:5060;branch=z9hG4bKs1-0-2-2\r\n"
      ++ codes "Via: SIP/2.0/TCP 127.0.0.1:5060;branch=z9hG4bKs1-1-1-2\r\n"
      ++ codes "Via: SIP/2.0/TCP 127.0.0.1:5060;branch=z9hG4bKs1-0-1-2\r\nVia: SIP/2.0/TCP 127.0.0.1:5090;branch=z9hG4bKa1\r\n"
      ++ codes "Record-Route: <sip:127.0.0.1:5060;transport=tcp;lr;ap=0-2>\r\n"
      ++ codes "Record-Route: <sip:127.0.0.1:5060;transport=tcp;lr;ap=0-1>\r\nFrom: <sip:alice@home.test>;tag=a\r\n"
      ++ codes "To: <sip:bob@home.test>;tag=t9\r\nCall-ID: c5\r\nCSeq: 1 INVITE\r\nContact: <sip:bob@127.0.0.1:5070>\r\n"
      ++ codes "Content-Length: 0\r\n\r\n\nrun\nin c1 324\nBYE sip:bob@127.0.0.1:5070 SIP/2.0\r\n"
      ++ codes "Via: SIP/2.0/TCP 127.0.0.1:5090;branch=z9hG4bKa3\r\nRoute: <sip:127.0.0.1:5060;transport=tcp;lr;ap=0-1>\r\n"
      ++ codes "Route: <sip:127.0.0.1:5060;transport=tcp;lr;ap=0-2>\r\nMax-Forwards: 70\r\nFrom: <sip:alice@home.test>;tag=a\r\n"
      ++ codes "To: <sip:bob@home.test>;tag=t9\r\nCall-ID: c5\r\nCSeq: 2 BYE\r\nContent-Length: 0\r\n\r\n\nrun\nend\n";
  output =
      codes "out c1 180\nSIP/2.0 100 Trying\r\nVia: SIP/2.0/TCP 127.0.0.1:5090;branch=z9hG4bKa1\r\n"
      ++ codes "From: <sip:alice@home.test>;tag=a\r\nTo: <sip:bob@home.test>\r\nCall-ID: c5\r\nCSeq: 1 INVITE\r\nContent-Length: 0\r\n\r\n"
      ++ codes "\nout 127.0.0.1:5070 542\nINVITE sip:bob@127.0.0.1:5070 SIP/2.0\r\n"
      ++ codes "Via: SIP/2.0/TCP 127.0.0.1:5060;branch=z9hG4bKs1-0-2-2\r\n"
      ++ codes "Via: SIP/2.0/TCP 127.0.0.1:5060;branch=z9hG4bKs1-1-1-2\r\n"
      ++ codes "Via: SIP/2.0/TCP 127.0.0.1:5060;branch=z9hG4bKs1-0-1-2\r\nVia: SIP/2.0/TCP 127.0.0.1:5090;branch=z9hG4bKa1\r\n"
      ++ codes "Record-Route: <sip:127.0.0.1:5060;transport=tcp;lr;ap=0-2>\r\n"
      ++ codes "Record-Route: <sip:127.0.0.1:5060;transport=tcp;lr;ap=0-1>\r\nMax-Forwards: 67\r\n"
      ++ codes "From: <sip:alice@home.test>;tag=a\r\nTo: <sip:bob@home.test>\r\nCall-ID: c5\r\nCSeq: 1 INVITE\r\n"
      ++ codes "Contact: <sip:alice@127.0.0.1:5090>\r\nContent-Length: 0\r\n\r\n\nout c1 338\nSIP/2.0 200 OK\r\n"
      ++ codes "Via: SIP/2.0/TCP 127.0.0.1:5090;branch=z9hG4bKa1\r\nRecord-Route: <sip:127.0.0.1:5060;transport=tcp;lr;ap=0-2>\r\n"
      ++ codes "Record-Route: <sip:127.0.0.1:5060;transport=tcp;lr;ap=0-1>\r\nFrom: <sip:alice@home.test>;tag=a\r\n"
      ++ codes "To: <sip:bob@home.test>;tag=t9\r\nCall-ID: c5\r\nCSeq: 1 INVITE\r\nContact: <sip:bob@127.0.0.1:5070>\r\n"
      ++ codes "Content-Length: 0\r\n\r\n\nout 127.0.0.1:5070 330\nBYE sip:bob@127.0.0.1:5070 SIP/2.0\r\n"
      ++ codes "Via: SIP/2.0/TCP 127.0.0.1:5060;branch=z9hG4bKs1-0-2-3\r\n"
      ++ codes "Via: SIP/2.0/TCP 127.0.0.1:5060;branch=z9hG4bKs1-0-1-3\r\nVia: SIP/2.0/TCP 127.0.0.1:5090;branch=z9hG4bKa3\r\n"
      ++ codes "Max-Forwards: 68\r\nFrom: <sip:alice@home.test>;tag=a\r\nTo: <sip:bob@home.test>;tag=t9\r\nCall-ID: c5\r\n"
      ++ codes "CSeq: 2 BYE\r\nContent-Length: 0\r\n\r\n\nend 12 4 2\n";
}

unfoldable pub second_leg : Case
second_leg = record {
  setup = set_up (app (codes "a0") 5 ([]) ∷ []) (record { method = (codes "INVITE"); tuples = (tuple 0 ∷ []) } ∷ record { method = (codes "OPTIONS"); tuples = (tuple 0 ∷ []) } ∷ record { method = (codes "MESSAGE"); tuples = (tuple 0 ∷ []) } ∷ []);
  script =
      codes "in c1 254\nINVITE sip:bob@127.0.0.1:5070 SIP/2.0\r\nVia: SIP/2.0/TCP 127.0.0.1:5090;branch=z9hG4bKa1\r\n"
      ++ codes "Max-Forwards: 70\r\nFrom: <sip:alice@home.test>;tag=a\r\nTo: <sip:bob@home.test>\r\nCall-ID: c5\r\nCSeq: 1 INVITE\r\n"
      ++ codes "Contact: <sip:alice@127.0.0.1:5090>\r\nContent-Length: 0\r\n\r\n\nrun\nin 127.0.0.1:5070 247\nSIP/2.0 200 OK\r\n"
      ++ codes "Via: SIP/2.0/TCP 127.0.0.1:5060;branch=z9hG4bKs1-0-1-4\r\nFrom: <sip:alice@home.test>;tag=s1-0-1-3\r\n"
      ++ codes "To: <sip:bob@home.test>;tag=t9\r\nCall-ID: s1-0-1-2@127.0.0.1\r\nCSeq: 1 INVITE\r\n"
      ++ codes "Contact: <sip:bob@127.0.0.1:5070>\r\nContent-Length: 0\r\n\r\n\nrun\nin c1 244\n"
      ++ codes "ACK sip:127.0.0.1:5060;transport=tcp;lr;ap=0-1 SIP/2.0\r\nVia: SIP/2.0/TCP 127.0.0.1:5090;branch=z9hG4bKi1\r\n"
      ++ codes "Max-Forwards: 70\r\nFrom: <sip:alice@home.test>;tag=a\r\nTo: <sip:bob@home.test>;tag=s1-0-1-1\r\nCall-ID: c5\r\n"
      ++ codes "CSeq: 1 ACK\r\nContent-Length: 0\r\n\r\n\nrun\nin c1 244\nBYE sip:127.0.0.1:5060;transport=tcp;lr;ap=0-1 SIP/2.0\r\n"
      ++ codes "Via: SIP/2.0/TCP 127.0.0.1:5090;branch=z9hG4bKi2\r\nMax-Forwards: 70\r\nFrom: <sip:alice@home.test>;tag=a\r\n"
      ++ codes "To: <sip:bob@home.test>;tag=s1-0-1-1\r\nCall-ID: c5\r\nCSeq: 2 BYE\r\nContent-Length: 0\r\n\r\n\nrun\nend\n";
  output =
      codes "out c1 180\nSIP/2.0 100 Trying\r\nVia: SIP/2.0/TCP 127.0.0.1:5090;branch=z9hG4bKa1\r\n"
      ++ codes "From: <sip:alice@home.test>;tag=a\r\nTo: <sip:bob@home.test>\r\nCall-ID: c5\r\nCSeq: 1 INVITE\r\nContent-Length: 0\r\n\r\n"
      ++ codes "\nout 127.0.0.1:5070 301\nINVITE sip:bob@127.0.0.1:5070 SIP/2.0\r\n"
      ++ codes "Via: SIP/2.0/TCP 127.0.0.1:5060;branch=z9hG4bKs1-0-1-4\r\nMax-Forwards: 69\r\n"
      ++ codes "From: <sip:alice@home.test>;tag=s1-0-1-3\r\nTo: <sip:bob@home.test>\r\nCall-ID: s1-0-1-2@127.0.0.1\r\n"
      ++ codes "CSeq: 1 INVITE\r\nContact: <sip:127.0.0.1:5060;transport=tcp;lr;ap=0-1>\r\nContent-Length: 0\r\n\r\n\nout c1 244\n"
      ++ codes "SIP/2.0 200 OK\r\nVia: SIP/2.0/TCP 127.0.0.1:5090;branch=z9hG4bKa1\r\nFrom: <sip:alice@home.test>;tag=a\r\n"
      ++ codes "To: <sip:bob@home.test>;tag=s1-0-1-1\r\nCall-ID: c5\r\nCSeq: 1 INVITE\r\n"
      ++ codes "Contact: <sip:127.0.0.1:5060;transport=tcp;lr;ap=0-1>\r\nContent-Length: 0\r\n\r\n\nout 127.0.0.1:5070 247\n"
      ++ codes "ACK sip:bob@127.0.0.1:5070 SIP/2.0\r\nVia: SIP/2.0/TCP 127.0.0.1:5060;branch=z9hG4bKs1-0-1-5\r\nMax-Forwards: 70\r\n"
      ++ codes "From: <sip:alice@home.test>;tag=s1-0-1-3\r\nTo: <sip:bob@home.test>;tag=t9\r\nCall-ID: s1-0-1-2@127.0.0.1\r\n"
      ++ codes "CSeq: 1 ACK\r\nContent-Length: 0\r\n\r\n\nout 127.0.0.1:5070 247\nBYE sip:bob@127.0.0.1:5070 SIP/2.0\r\n"
      ++ codes "Via: SIP/2.0/TCP 127.0.0.1:5060;branch=z9hG4bKs1-0-1-6\r\nMax-Forwards: 70\r\n"
      ++ codes "From: <sip:alice@home.test>;tag=s1-0-1-3\r\nTo: <sip:bob@home.test>;tag=t9\r\nCall-ID: s1-0-1-2@127.0.0.1\r\n"
      ++ codes "CSeq: 2 BYE\r\nContent-Length: 0\r\n\r\n\nend 8 5 1\n";
}

unfoldable pub own_request : Case
own_request = record {
  setup = set_up (app (codes "a0") 6 ((codes "sip:d@home.test") ∷ (codes "sip:e@127.0.0.1:5075") ∷ []) ∷ []) (record { method = (codes "MESSAGE"); tuples = (tuple 0 ∷ []) } ∷ []);
  script =
      codes "in c1 214\nMESSAGE sip:bob@home.test SIP/2.0\r\nVia: SIP/2.0/TCP 127.0.0.1:5090;branch=z9hG4bKa1\r\n"
      ++ codes "Max-Forwards: 70\r\nFrom: <sip:alice@home.test>;tag=a\r\nTo: <sip:bob@home.test>\r\nCall-ID: c5\r\nCSeq: 1 MESSAGE\r\n"
      ++ codes "Content-Length: 0\r\n\r\n\nrun\nend\n";
  output =
      codes "out c1 190\nSIP/2.0 200 OK\r\nVia: SIP/2.0/TCP 127.0.0.1:5090;branch=z9hG4bKa1\r\n"
      ++ codes "From: <sip:alice@home.test>;tag=a\r\nTo: <sip:bob@home.test>;tag=s1-0-1-1\r\nCall-ID: c5\r\nCSeq: 1 MESSAGE\r\n"
      ++ codes "Content-Length: 0\r\n\r\n\nout 127.0.0.1:5075 245\nOPTIONS sip:e@127.0.0.1:5075 SIP/2.0\r\n"
      ++ codes "Via: SIP/2.0/TCP 127.0.0.1:5060;branch=z9hG4bKs1-0-1-4\r\nMax-Forwards: 70\r\n"
      ++ codes "From: <sip:d@home.test>;tag=s1-0-1-3\r\nTo: <sip:e@127.0.0.1:5075>\r\nCall-ID: s1-0-1-2@127.0.0.1\r\n"
      ++ codes "CSeq: 1 OPTIONS\r\nContent-Length: 0\r\n\r\n\nend 2 2 1\n";
}

unfoldable pub ordinary_call : Case
ordinary_call = record {
  setup = set_up (app (codes "a0") 1 ((codes "spam") ∷ []) ∷ app (codes "a1") 5 ([]) ∷ app (codes "a2") 4 ([]) ∷ []) (record { method = (codes "INVITE"); tuples = (tuple 0 ∷ tuple 1 ∷ tuple 2 ∷ []) } ∷ record { method = (codes "OPTIONS"); tuples = (tuple 0 ∷ tuple 1 ∷ tuple 2 ∷ []) } ∷ record { method = (codes "MESSAGE"); tuples = (tuple 0 ∷ tuple 1 ∷ tuple 2 ∷ []) } ∷ []);
  script =
      codes "in c1 424\nINVITE sip:bob@127.0.0.1:5070 SIP/2.0\r\nVia: SIP/2.0/TCP 127.0.0.1:5090;rport;branch=z9hG4bKq7\r\n"
      ++ codes "Max-Forwards: 70\r\nFrom: \"Alice\" <sip:alice@home.test>;tag=q1\r\nTo: <sip:bob@home.test>\r\n"
      ++ codes "Contact: <sip:alice@127.0.0.1:5090;transport=tcp>\r\nCall-ID: 7f3a@127.0.0.1\r\nCSeq: 4711 INVITE\r\n"
      ++ codes "Allow: INVITE, ACK, BYE, CANCEL, OPTIONS\r\nSupported: replaces\r\nUser-Agent: Softphone 4.2\r\n"
      ++ codes "Content-Type: application/sdp\r\nContent-Length: 5\r\n\r\nv=0\r\n\nrun\nin 127.0.0.1:5070 376\nSIP/2.0 180 Ringing\r\n"
      ++ codes "Via: SIP/2.0/TCP 127.0.0.1:5060;branch=z9hG4bKs1-2-1-2\r\n"
      ++ codes "Via: SIP/2.0/TCP 127.0.0.1:5060;branch=z9hG4bKs1-1-1-4\r\n"
      ++ codes "Record-Route: <sip:127.0.0.1:5060;transport=tcp;lr;ap=2-1>\r\nFrom: \"Alice\" <sip:alice@home.test>;tag=s1-1-1-3\r\n"
      ++ codes "To: <sip:bob@home.test>;tag=t9\r\nCall-ID: s1-1-1-2@127.0.0.1\r\nCSeq: 1 INVITE\r\n"
      ++ codes "Contact: <sip:bob@127.0.0.1:5070>\r\nContent-Length: 0\r\n\r\n\nrun\nin 127.0.0.1:5070 371\nSIP/2.0 200 OK\r\n"
      ++ codes "Via: SIP/2.0/TCP 127.0.0.1:5060;branch=z9hG4bKs1-2-1-2\r\n"
      ++ codes "Via: SIP/2.0/TCP 127.0.0.1:5060;branch=z9hG4bKs1-1-1-4\r\n"
      ++ codes "Record-Route: <sip:127.0.0.1:5060;transport=tcp;lr;ap=2-1>\r\nFrom: \"Alice\" <sip:alice@home.test>;tag=s1-1-1-3\r\n"
      ++ codes "To: <sip:bob@home.test>;tag=t9\r\nCall-ID: s1-1-1-2@127.0.0.1\r\nCSeq: 1 INVITE\r\n"
      ++ codes "Contact: <sip:bob@127.0.0.1:5070>\r\nContent-Length: 0\r\n\r\n\nrun\nin c1 268\n"
      ++ codes "ACK sip:127.0.0.1:5060;transport=tcp;lr;ap=1-1 SIP/2.0\r\nVia: SIP/2.0/TCP 127.0.0.1:5090;branch=z9hG4bKq8\r\n"
      ++ codes "Max-Forwards: 70\r\nFrom: \"Alice\" <sip:alice@home.test>;tag=q1\r\nTo: <sip:bob@home.test>;tag=s1-1-1-1\r\n"
      ++ codes "Call-ID: 7f3a@127.0.0.1\r\nCSeq: 4711 ACK\r\nContent-Length: 0\r\n\r\n\nrun\nin 127.0.0.1:5070 314\n"
      ++ codes "BYE sip:127.0.0.1:5060;transport=tcp;lr;ap=1-1 SIP/2.0\r\nVia: SIP/2.0/TCP 127.0.0.1:5070;branch=z9hG4bKx9\r\n"
      ++ codes "Route: <sip:127.0.0.1:5060;transport=tcp;lr;ap=2-1>\r\nMax-Forwards: 70\r\nFrom: <sip:bob@home.test>;tag=t9\r\n"
      ++ codes "To: <sip:alice@home.test>;tag=s1-1-1-3\r\nCall-ID: s1-1-1-2@127.0.0.1\r\nCSeq: 7 BYE\r\nContent-Length: 0\r\n\r\n\nrun\n"
      ++ codes "in 127.0.0.1:5090 205\nSIP/2.0 200 OK\r\nVia: SIP/2.0/TCP 127.0.0.1:5060;branch=z9hG4bKs1-1-1-6\r\n"
      ++ codes "From: <sip:bob@home.test>;tag=s1-1-1-1\r\nTo: <sip:alice@home.test>;tag=q1\r\nCall-ID: 7f3a@127.0.0.1\r\n"
      ++ codes "CSeq: 1 BYE\r\nContent-Length: 0\r\n\r\n\nrun\ndrop 0 1\ndrop 1 1\ndrop 2 1\nrun\nend\n";
  output =
      codes "out c1 210\nSIP/2.0 100 Trying\r\nVia: SIP/2.0/TCP 127.0.0.1:5090;rport;branch=z9hG4bKq7\r\n"
      ++ codes "From: \"Alice\" <sip:alice@home.test>;tag=q1\r\nTo: <sip:bob@home.test>\r\nCall-ID: 7f3a@127.0.0.1\r\n"
      ++ codes "CSeq: 4711 INVITE\r\nContent-Length: 0\r\n\r\n\nout 127.0.0.1:5070 551\nINVITE sip:bob@127.0.0.1:5070 SIP/2.0\r\n"
      ++ codes "Via: SIP/2.0/TCP 127.0.0.1:5060;branch=z9hG4bKs1-2-1-2\r\n"
      ++ codes "Via: SIP/2.0/TCP 127.0.0.1:5060;branch=z9hG4bKs1-1-1-4\r\n"
      ++ codes "Record-Route: <sip:127.0.0.1:5060;transport=tcp;lr;ap=2-1>\r\nMax-Forwards: 67\r\n"
      ++ codes "From: \"Alice\" <sip:alice@home.test>;tag=s1-1-1-3\r\nTo: <sip:bob@home.test>\r\nCall-ID: s1-1-1-2@127.0.0.1\r\n"
      ++ codes "CSeq: 1 INVITE\r\nContact: <sip:127.0.0.1:5060;transport=tcp;lr;ap=1-1>\r\n"
      ++ codes "Allow: INVITE, ACK, BYE, CANCEL, OPTIONS\r\nSupported: replaces\r\nUser-Agent: Softphone 4.2\r\n"
      ++ codes "Content-Type: application/sdp\r\nContent-Length: 5\r\n\r\nv=0\r\n\nout c1 279\nSIP/2.0 180 Ringing\r\n"
      ++ codes "Via: SIP/2.0/TCP 127.0.0.1:5090;rport;branch=z9hG4bKq7\r\nFrom: \"Alice\" <sip:alice@home.test>;tag=q1\r\n"
      ++ codes "To: <sip:bob@home.test>;tag=s1-1-1-1\r\nCall-ID: 7f3a@127.0.0.1\r\nCSeq: 4711 INVITE\r\n"
      ++ codes "Contact: <sip:127.0.0.1:5060;transport=tcp;lr;ap=1-1>\r\nContent-Length: 0\r\n\r\n\nout c1 274\nSIP/2.0 200 OK\r\n"
      ++ codes "Via: SIP/2.0/TCP 127.0.0.1:5090;rport;branch=z9hG4bKq7\r\nFrom: \"Alice\" <sip:alice@home.test>;tag=q1\r\n"
      ++ codes "To: <sip:bob@home.test>;tag=s1-1-1-1\r\nCall-ID: 7f3a@127.0.0.1\r\nCSeq: 4711 INVITE\r\n"
      ++ codes "Contact: <sip:127.0.0.1:5060;transport=tcp;lr;ap=1-1>\r\nContent-Length: 0\r\n\r\n\nout 127.0.0.1:5070 303\n"
      ++ codes "ACK sip:bob@127.0.0.1:5070 SIP/2.0\r\nVia: SIP/2.0/TCP 127.0.0.1:5060;branch=z9hG4bKs1-2-1-3\r\n"
      ++ codes "Via: SIP/2.0/TCP 127.0.0.1:5060;branch=z9hG4bKs1-1-1-5\r\nMax-Forwards: 69\r\n"
      ++ codes "From: <sip:alice@home.test>;tag=s1-1-1-3\r\nTo: <sip:bob@home.test>;tag=t9\r\nCall-ID: s1-1-1-2@127.0.0.1\r\n"
      ++ codes "CSeq: 1 ACK\r\nContent-Length: 0\r\n\r\n\nout 127.0.0.1:5090 259\nBYE sip:alice@127.0.0.1:5090;transport=tcp SIP/2.0\r\n"
      ++ codes "Via: SIP/2.0/TCP 127.0.0.1:5060;branch=z9hG4bKs1-1-1-6\r\nMax-Forwards: 70\r\n"
      ++ codes "From: <sip:bob@home.test>;tag=s1-1-1-1\r\nTo: <sip:alice@home.test>;tag=q1\r\nCall-ID: 7f3a@127.0.0.1\r\n"
      ++ codes "CSeq: 1 BYE\r\nContent-Length: 0\r\n\r\n\nout 127.0.0.1:5070 203\nSIP/2.0 200 OK\r\n"
      ++ codes "Via: SIP/2.0/TCP 127.0.0.1:5070;branch=z9hG4bKx9\r\nFrom: <sip:bob@home.test>;tag=t9\r\n"
      ++ codes "To: <sip:alice@home.test>;tag=s1-1-1-3\r\nCall-ID: s1-1-1-2@127.0.0.1\r\nCSeq: 7 BYE\r\nContent-Length: 0\r\n\r\n\n"
      ++ codes "end 24 7 0\n";
}

unfoldable pub call_screened : Case
call_screened = record {
  setup = set_up (app (codes "a0") 1 ((codes "spam") ∷ []) ∷ app (codes "a1") 5 ([]) ∷ app (codes "a2") 4 ([]) ∷ []) (record { method = (codes "INVITE"); tuples = (tuple 0 ∷ tuple 1 ∷ tuple 2 ∷ []) } ∷ record { method = (codes "OPTIONS"); tuples = (tuple 0 ∷ tuple 1 ∷ tuple 2 ∷ []) } ∷ record { method = (codes "MESSAGE"); tuples = (tuple 0 ∷ tuple 1 ∷ tuple 2 ∷ []) } ∷ []);
  script =
      codes "in c1 423\nINVITE sip:bob@127.0.0.1:5070 SIP/2.0\r\nVia: SIP/2.0/TCP 127.0.0.1:5090;rport;branch=z9hG4bKq7\r\n"
      ++ codes "Max-Forwards: 70\r\nFrom: \"Alice\" <sip:spam@home.test>;tag=q1\r\nTo: <sip:bob@home.test>\r\n"
      ++ codes "Contact: <sip:alice@127.0.0.1:5090;transport=tcp>\r\nCall-ID: 7f3a@127.0.0.1\r\nCSeq: 4711 INVITE\r\n"
      ++ codes "Allow: INVITE, ACK, BYE, CANCEL, OPTIONS\r\nSupported: replaces\r\nUser-Agent: Softphone 4.2\r\n"
      ++ codes "Content-Type: application/sdp\r\nContent-Length: 5\r\n\r\nv=0\r\n\nrun\nend\n";
  output =
      codes "out c1 209\nSIP/2.0 100 Trying\r\nVia: SIP/2.0/TCP 127.0.0.1:5090;rport;branch=z9hG4bKq7\r\n"
      ++ codes "From: \"Alice\" <sip:spam@home.test>;tag=q1\r\nTo: <sip:bob@home.test>\r\nCall-ID: 7f3a@127.0.0.1\r\n"
      ++ codes "CSeq: 4711 INVITE\r\nContent-Length: 0\r\n\r\n\nout c1 225\nSIP/2.0 403 Forbidden\r\n"
      ++ codes "Via: SIP/2.0/TCP 127.0.0.1:5090;rport;branch=z9hG4bKq7\r\nFrom: \"Alice\" <sip:spam@home.test>;tag=q1\r\n"
      ++ codes "To: <sip:bob@home.test>;tag=s1-0-1-1\r\nCall-ID: 7f3a@127.0.0.1\r\nCSeq: 4711 INVITE\r\nContent-Length: 0\r\n\r\n\n"
      ++ codes "end 3 2 0\n";
}

unfoldable pub directive_new : Case
directive_new = record {
  setup = set_up (app (codes "a0") 6 ((codes "sip:d@home.test") ∷ (codes "sip:e@home.test") ∷ []) ∷ app (codes "a1") 0 ([]) ∷ app (codes "a2") 0 ([]) ∷ app (codes "a3") 0 ([]) ∷ []) (record { method = (codes "MESSAGE"); tuples = (record (tuple 0) { region = regions.Originating } ∷ record (tuple 1) { region = regions.Originating } ∷ record (tuple 2) { region = regions.Terminating } ∷ []) } ∷ record { method = (codes "OPTIONS"); tuples = (tuple 3 ∷ []) } ∷ []);
  script =
      codes "in c1 214\nMESSAGE sip:bob@home.test SIP/2.0\r\nVia: SIP/2.0/TCP 127.0.0.1:5090;branch=z9hG4bKa1\r\n"
      ++ codes "Max-Forwards: 70\r\nFrom: <sip:alice@home.test>;tag=a\r\nTo: <sip:bob@home.test>\r\nCall-ID: c5\r\nCSeq: 1 MESSAGE\r\n"
      ++ codes "Content-Length: 0\r\n\r\n\nrun\nend\n";
  output =
      codes "out c1 190\nSIP/2.0 200 OK\r\nVia: SIP/2.0/TCP 127.0.0.1:5090;branch=z9hG4bKa1\r\n"
      ++ codes "From: <sip:alice@home.test>;tag=a\r\nTo: <sip:bob@home.test>;tag=s1-0-1-1\r\nCall-ID: c5\r\nCSeq: 1 MESSAGE\r\n"
      ++ codes "Content-Length: 0\r\n\r\n\nend 6 1 0\n";
}

unfoldable pub directive_continue : Case
directive_continue = record {
  setup = set_up (app (codes "a0") 5 ([]) ∷ app (codes "a1") 0 ([]) ∷ app (codes "a2") 0 ([]) ∷ app (codes "a3") 0 ([]) ∷ []) (record { method = (codes "MESSAGE"); tuples = (record (tuple 0) { region = regions.Originating } ∷ record (tuple 1) { region = regions.Originating } ∷ record (tuple 2) { region = regions.Terminating } ∷ []) } ∷ record { method = (codes "OPTIONS"); tuples = (tuple 3 ∷ []) } ∷ []);
  script =
      codes "in c1 214\nMESSAGE sip:bob@home.test SIP/2.0\r\nVia: SIP/2.0/TCP 127.0.0.1:5090;branch=z9hG4bKa1\r\n"
      ++ codes "Max-Forwards: 70\r\nFrom: <sip:alice@home.test>;tag=a\r\nTo: <sip:bob@home.test>\r\nCall-ID: c5\r\nCSeq: 1 MESSAGE\r\n"
      ++ codes "Content-Length: 0\r\n\r\n\nrun\nend\n";
  output =
      codes "out c1 190\nSIP/2.0 200 OK\r\nVia: SIP/2.0/TCP 127.0.0.1:5090;branch=z9hG4bKa1\r\n"
      ++ codes "From: <sip:alice@home.test>;tag=a\r\nTo: <sip:bob@home.test>;tag=s1-0-1-1\r\nCall-ID: c5\r\nCSeq: 1 MESSAGE\r\n"
      ++ codes "Content-Length: 0\r\n\r\n\nend 6 1 0\n";
}

unfoldable pub directive_reverse : Case
directive_reverse = record {
  setup = set_up (app (codes "a0") 7 ([]) ∷ app (codes "a1") 0 ([]) ∷ app (codes "a2") 0 ([]) ∷ app (codes "a3") 0 ([]) ∷ []) (record { method = (codes "MESSAGE"); tuples = (record (tuple 0) { region = regions.Originating } ∷ record (tuple 1) { region = regions.Originating } ∷ record (tuple 2) { region = regions.Terminating } ∷ []) } ∷ record { method = (codes "OPTIONS"); tuples = (tuple 3 ∷ []) } ∷ []);
  script =
      codes "in c1 214\nMESSAGE sip:bob@home.test SIP/2.0\r\nVia: SIP/2.0/TCP 127.0.0.1:5090;branch=z9hG4bKa1\r\n"
      ++ codes "Max-Forwards: 70\r\nFrom: <sip:alice@home.test>;tag=a\r\nTo: <sip:bob@home.test>\r\nCall-ID: c5\r\nCSeq: 1 MESSAGE\r\n"
      ++ codes "Content-Length: 0\r\n\r\n\nrun\nend\n";
  output =
      codes "out c1 190\nSIP/2.0 200 OK\r\nVia: SIP/2.0/TCP 127.0.0.1:5090;branch=z9hG4bKa1\r\n"
      ++ codes "From: <sip:alice@home.test>;tag=a\r\nTo: <sip:bob@home.test>;tag=s1-0-1-1\r\nCall-ID: c5\r\nCSeq: 1 MESSAGE\r\n"
      ++ codes "Content-Length: 0\r\n\r\n\nend 6 1 0\n";
}

unfoldable pub route_back : Case
route_back = record {
  setup = set_up (app (codes "a0") 2 ([]) ∷ app (codes "a1") 0 ([]) ∷ app (codes "a2") 4 ([]) ∷ []) (record { method = (codes "INVITE"); tuples = (tuple 0 ∷ record (tuple 1) { route = Some (record { display = None; uri = (uris.Sip (record { user = None; host = (codes "127.0.0.1"); port = (Some 5080); params = ((record { name = (codes "lr"); value = None }) ∷ []); headers = None })); params = [] }); modifier = modifiers.RouteBack } ∷ tuple 2 ∷ []) } ∷ []);
  script =
      codes "in c1 254\nINVITE sip:bob@127.0.0.1:5070 SIP/2.0\r\nVia: SIP/2.0/TCP 127.0.0.1:5090;branch=z9hG4bKa1\r\n"
      ++ codes "Max-Forwards: 70\r\nFrom: <sip:alice@home.test>;tag=a\r\nTo: <sip:bob@home.test>\r\nCall-ID: c5\r\nCSeq: 1 INVITE\r\n"
      ++ codes "Contact: <sip:alice@127.0.0.1:5090>\r\nContent-Length: 0\r\n\r\n\nrun\nin c2 413\n"
      ++ codes "INVITE sip:bob@127.0.0.1:5070 SIP/2.0\r\nVia: SIP/2.0/TCP 127.0.0.1:5080;branch=z9hG4bKzz\r\n"
      ++ codes "Via: SIP/2.0/TCP 127.0.0.1:5060;branch=z9hG4bKs1-0-1-2\r\nVia: SIP/2.0/TCP 127.0.0.1:5090;branch=z9hG4bKa1\r\n"
      ++ codes "Route: <sip:127.0.0.1:5060;transport=tcp;lr;ar=2-N>\r\nMax-Forwards: 68\r\nFrom: <sip:alice@home.test>;tag=a\r\n"
      ++ codes "To: <sip:bob@home.test>\r\nCall-ID: c5\r\nCSeq: 1 INVITE\r\nContact: <sip:alice@127.0.0.1:5090>\r\nContent-Length: 0\r\n"
      ++ codes "\r\n\nrun\nin c2 413\nINVITE sip:bob@127.0.0.1:5070 SIP/2.0\r\nVia: SIP/2.0/TCP 127.0.0.1:5080;branch=z9hG4bKzy\r\n"
      ++ codes "Via: SIP/2.0/TCP 127.0.0.1:5060;branch=z9hG4bKs1-0-1-2\r\nVia: SIP/2.0/TCP 127.0.0.1:5090;branch=z9hG4bKa1\r\n"
      ++ codes "Route: <sip:127.0.0.1:5060;transport=tcp;lr;ar=9-N>\r\nMax-Forwards: 70\r\nFrom: <sip:alice@home.test>;tag=a\r\n"
      ++ codes "To: <sip:bob@home.test>\r\nCall-ID: c5\r\nCSeq: 1 INVITE\r\nContact: <sip:alice@127.0.0.1:5090>\r\nContent-Length: 0\r\n"
      ++ codes "\r\n\nend\n";
  output =
      codes "out c1 180\nSIP/2.0 100 Trying\r\nVia: SIP/2.0/TCP 127.0.0.1:5090;branch=z9hG4bKa1\r\n"
      ++ codes "From: <sip:alice@home.test>;tag=a\r\nTo: <sip:bob@home.test>\r\nCall-ID: c5\r\nCSeq: 1 INVITE\r\nContent-Length: 0\r\n\r\n"
      ++ codes "\nout 127.0.0.1:5080 395\nINVITE sip:bob@127.0.0.1:5070 SIP/2.0\r\n"
      ++ codes "Via: SIP/2.0/TCP 127.0.0.1:5060;branch=z9hG4bKs1-0-1-2\r\nVia: SIP/2.0/TCP 127.0.0.1:5090;branch=z9hG4bKa1\r\n"
      ++ codes "Route: <sip:127.0.0.1:5080;lr>\r\nRoute: <sip:127.0.0.1:5060;transport=tcp;lr;ar=2-N>\r\nMax-Forwards: 69\r\n"
      ++ codes "From: <sip:alice@home.test>;tag=a\r\nTo: <sip:bob@home.test>\r\nCall-ID: c5\r\nCSeq: 1 INVITE\r\n"
      ++ codes "Contact: <sip:alice@127.0.0.1:5090>\r\nContent-Length: 0\r\n\r\n\nout c2 286\nSIP/2.0 100 Trying\r\n"
      ++ codes "Via: SIP/2.0/TCP 127.0.0.1:5080;branch=z9hG4bKzz\r\nVia: SIP/2.0/TCP 127.0.0.1:5060;branch=z9hG4bKs1-0-1-2\r\n"
      ++ codes "Via: SIP/2.0/TCP 127.0.0.1:5090;branch=z9hG4bKa1\r\nFrom: <sip:alice@home.test>;tag=a\r\nTo: <sip:bob@home.test>\r\n"
      ++ codes "Call-ID: c5\r\nCSeq: 1 INVITE\r\nContent-Length: 0\r\n\r\n\nout 127.0.0.1:5070 476\n"
      ++ codes "INVITE sip:bob@127.0.0.1:5070 SIP/2.0\r\nVia: SIP/2.0/TCP 127.0.0.1:5060;branch=z9hG4bKs1-2-1-2\r\n"
      ++ codes "Via: SIP/2.0/TCP 127.0.0.1:5080;branch=z9hG4bKzz\r\nVia: SIP/2.0/TCP 127.0.0.1:5060;branch=z9hG4bKs1-0-1-2\r\n"
      ++ codes "Via: SIP/2.0/TCP 127.0.0.1:5090;branch=z9hG4bKa1\r\nRecord-Route: <sip:127.0.0.1:5060;transport=tcp;lr;ap=2-1>\r\n"
      ++ codes "Max-Forwards: 67\r\nFrom: <sip:alice@home.test>;tag=a\r\nTo: <sip:bob@home.test>\r\nCall-ID: c5\r\nCSeq: 1 INVITE\r\n"
      ++ codes "Contact: <sip:alice@127.0.0.1:5090>\r\nContent-Length: 0\r\n\r\n\nout c2 301\nSIP/2.0 404 Not Found\r\n"
      ++ codes "Via: SIP/2.0/TCP 127.0.0.1:5080;branch=z9hG4bKzy\r\nVia: SIP/2.0/TCP 127.0.0.1:5060;branch=z9hG4bKs1-0-1-2\r\n"
      ++ codes "Via: SIP/2.0/TCP 127.0.0.1:5090;branch=z9hG4bKa1\r\nFrom: <sip:alice@home.test>;tag=a\r\n"
      ++ codes "To: <sip:bob@home.test>;tag=s1-edge\r\nCall-ID: c5\r\nCSeq: 1 INVITE\r\nContent-Length: 0\r\n\r\n\nend 5 5 2\n";
}

unfoldable pub chain_cases : List Case
chain_cases = chain ∷ chain_bye_of_callee ∷ chain_bye_of_caller ∷ spiral ∷ second_leg ∷ own_request ∷ ordinary_call ∷ call_screened ∷ directive_new ∷ directive_continue ∷ directive_reverse ∷ route_back ∷ []
