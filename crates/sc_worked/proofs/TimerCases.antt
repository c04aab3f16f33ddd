-- Worked cases. Session timers.
use Rattle.std.specs.Prelude.{List, [], ◌∷◌, ◌++◌, codes}
use Rattle.sc_worked.proofs.Trying.{Case, app, tuple, set_up}

unfoldable pub session_interval_too_small : Case
session_interval_too_small = record {
  setup = set_up (app (codes "a0") 10 ([]) ∷ []) (record { method = (codes "INVITE"); tuples = (tuple 0 ∷ []) } ∷ record { method = (codes "OPTIONS"); tuples = (tuple 0 ∷ []) } ∷ record { method = (codes "MESSAGE"); tuples = (tuple 0 ∷ []) } ∷ []);
  script =
      codes "in c1 293\nINVITE sip:bob@127.0.0.1:5070 SIP/2.0\r\nVia: SIP/2.0/TCP 127.0.0.1:5090;branch=z9hG4bKa1\r\n"
      ++ codes "Max-Forwards: 70\r\nFrom: <sip:alice@home.test>;tag=a\r\nTo: <sip:bob@home.test>\r\nCall-ID: c5\r\nCSeq: 1 INVITE\r\n"
      ++ codes "Contact: <sip:alice@127.0.0.1:5090>\r\nSupported: timer\r\nSession-Expires: 60\r\nContent-Length: 0\r\n\r\n\nrun\nend\n";
  output =
      codes "out c1 180\nSIP/2.0 100 Trying\r\nVia: SIP/2.0/TCP 127.0.0.1:5090;branch=z9hG4bKa1\r\n"
      ++ codes "From: <sip:alice@home.test>;tag=a\r\nTo: <sip:bob@home.test>\r\nCall-ID: c5\r\nCSeq: 1 INVITE\r\nContent-Length: 0\r\n\r\n"
      ++ codes "\nout c1 225\nSIP/2.0 422 Session Interval Too Small\r\nVia: SIP/2.0/TCP 127.0.0.1:5090;branch=z9hG4bKa1\r\n"
      ++ codes "From: <sip:alice@home.test>;tag=a\r\nTo: <sip:bob@home.test>;tag=s1-0-1-1\r\nCall-ID: c5\r\nCSeq: 1 INVITE\r\n"
      ++ codes "Min-SE: 90\r\nContent-Length: 0\r\n\r\n\nend 3 2 0\n";
}

unfoldable pub session_timer_of_the_peer : Case
session_timer_of_the_peer = record {
  setup = set_up (app (codes "a0") 10 ([]) ∷ []) (record { method = (codes "INVITE"); tuples = (tuple 0 ∷ []) } ∷ record { method = (codes "OPTIONS"); tuples = (tuple 0 ∷ []) } ∷ record { method = (codes "MESSAGE"); tuples = (tuple 0 ∷ []) } ∷ []);
  script =
      codes "in c1 308\nINVITE sip:bob@127.0.0.1:5070 SIP/2.0\r\nVia: SIP/2.0/TCP 127.0.0.1:5090;branch=z9hG4bKa1\r\n"
      ++ codes "Max-Forwards: 70\r\nFrom: <sip:alice@home.test>;tag=a\r\nTo: <sip:bob@home.test>\r\nCall-ID: c5\r\nCSeq: 1 INVITE\r\n"
      ++ codes "Contact: <sip:alice@127.0.0.1:5090>\r\nSupported: timer\r\nSession-Expires: 120;refresher=uac\r\nContent-Length: 0\r\n"
      ++ codes "\r\n\nrun\ntick 87999\nrun\ntick 88000\nrun\nend\n";
  output =
      codes "out c1 180\nSIP/2.0 100 Trying\r\nVia: SIP/2.0/TCP 127.0.0.1:5090;branch=z9hG4bKa1\r\n"
      ++ codes "From: <sip:alice@home.test>;tag=a\r\nTo: <sip:bob@home.test>\r\nCall-ID: c5\r\nCSeq: 1 INVITE\r\nContent-Length: 0\r\n\r\n"
      ++ codes "\nout c1 296\nSIP/2.0 200 OK\r\nVia: SIP/2.0/TCP 127.0.0.1:5090;branch=z9hG4bKa1\r\n"
      ++ codes "From: <sip:alice@home.test>;tag=a\r\nTo: <sip:bob@home.test>;tag=s1-0-1-1\r\nCall-ID: c5\r\nCSeq: 1 INVITE\r\n"
      ++ codes "Contact: <sip:127.0.0.1:5060;transport=tcp;lr;ap=0-1>\r\nSession-Expires: 120;refresher=uac\r\nRequire: timer\r\n"
      ++ codes "Content-Length: 0\r\n\r\n\nout 127.0.0.1:5090 232\nBYE sip:alice@127.0.0.1:5090 SIP/2.0\r\n"
      ++ codes "Via: SIP/2.0/TCP 127.0.0.1:5060;branch=z9hG4bKs1-0-1-2\r\nMax-Forwards: 70\r\n"
      ++ codes "From: <sip:bob@home.test>;tag=s1-0-1-1\r\nTo: <sip:alice@home.test>;tag=a\r\nCall-ID: c5\r\nCSeq: 1 BYE\r\n"
      ++ codes "Content-Length: 0\r\n\r\n\nend 5 3 1\n";
}

unfoldable pub session_timer_refreshes : Case
session_timer_refreshes = record {
  setup = set_up (app (codes "a0") 10 ([]) ∷ []) (record { method = (codes "INVITE"); tuples = (tuple 0 ∷ []) } ∷ record { method = (codes "OPTIONS"); tuples = (tuple 0 ∷ []) } ∷ record { method = (codes "MESSAGE"); tuples = (tuple 0 ∷ []) } ∷ []);
  script =
      codes "in c1 308\nINVITE sip:bob@127.0.0.1:5070 SIP/2.0\r\nVia: SIP/2.0/TCP 127.0.0.1:5090;branch=z9hG4bKa1\r\n"
      ++ codes "Max-Forwards: 70\r\nFrom: <sip:alice@home.test>;tag=a\r\nTo: <sip:bob@home.test>\r\nCall-ID: c5\r\nCSeq: 1 INVITE\r\n"
      ++ codes "Contact: <sip:alice@127.0.0.1:5090>\r\nSupported: timer\r\nSession-Expires: 120;refresher=uas\r\nContent-Length: 0\r\n"
      ++ codes "\r\n\nrun\ntick 60000\nrun\ntick 92000\nrun\nend\n";
  output =
      codes "out c1 180\nSIP/2.0 100 Trying\r\nVia: SIP/2.0/TCP 127.0.0.1:5090;branch=z9hG4bKa1\r\n"
      ++ codes "From: <sip:alice@home.test>;tag=a\r\nTo: <sip:bob@home.test>\r\nCall-ID: c5\r\nCSeq: 1 INVITE\r\nContent-Length: 0\r\n\r\n"
      ++ codes "\nout c1 280\nSIP/2.0 200 OK\r\nVia: SIP/2.0/TCP 127.0.0.1:5090;branch=z9hG4bKa1\r\n"
      ++ codes "From: <sip:alice@home.test>;tag=a\r\nTo: <sip:bob@home.test>;tag=s1-0-1-1\r\nCall-ID: c5\r\nCSeq: 1 INVITE\r\n"
      ++ codes "Contact: <sip:127.0.0.1:5060;transport=tcp;lr;ap=0-1>\r\nSession-Expires: 120;refresher=uas\r\nContent-Length: 0\r\n"
      ++ codes "\r\n\nout 127.0.0.1:5090 347\nUPDATE sip:alice@127.0.0.1:5090 SIP/2.0\r\n"
      ++ codes "Via: SIP/2.0/TCP 127.0.0.1:5060;branch=z9hG4bKs1-0-1-2\r\nMax-Forwards: 70\r\n"
      ++ codes "From: <sip:bob@home.test>;tag=s1-0-1-1\r\nTo: <sip:alice@home.test>;tag=a\r\nCall-ID: c5\r\nCSeq: 1 UPDATE\r\n"
      ++ codes "Contact: <sip:127.0.0.1:5060;transport=tcp;lr;ap=0-1>\r\nSession-Expires: 120;refresher=uac\r\nSupported: timer\r\n"
      ++ codes "Content-Length: 0\r\n\r\n\nout 127.0.0.1:5090 232\nBYE sip:alice@127.0.0.1:5090 SIP/2.0\r\n"
      ++ codes "Via: SIP/2.0/TCP 127.0.0.1:5060;branch=z9hG4bKs1-0-1-3\r\nMax-Forwards: 70\r\n"
      ++ codes "From: <sip:bob@home.test>;tag=s1-0-1-1\r\nTo: <sip:alice@home.test>;tag=a\r\nCall-ID: c5\r\nCSeq: 2 BYE\r\n"
      ++ codes "Content-Length: 0\r\n\r\n\nend 6 4 1\n";
}

unfoldable pub timer_cases : List Case
timer_cases = session_interval_too_small ∷ session_timer_of_the_peer ∷ session_timer_refreshes ∷ []
