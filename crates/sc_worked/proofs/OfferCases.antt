-- Worked cases. Reliable provisional responses.
use Rattle.std.specs.Prelude.{List, [], ◌∷◌, ◌++◌, codes}
use Rattle.sc_worked.proofs.Trying.{Case, app, tuple, set_up}

unfoldable pub reliable_provisional : Case
reliable_provisional = record {
  setup = set_up (app (codes "a0") 9 ([]) ∷ []) (record { method = (codes "INVITE"); tuples = (tuple 0 ∷ []) } ∷ record { method = (codes "OPTIONS"); tuples = (tuple 0 ∷ []) } ∷ record { method = (codes "MESSAGE"); tuples = (tuple 0 ∷ []) } ∷ []);
  script =
      codes "in c1 273\nINVITE sip:bob@127.0.0.1:5070 SIP/2.0\r\nVia: SIP/2.0/TCP 127.0.0.1:5090;branch=z9hG4bKa1\r\n"
      ++ codes "Max-Forwards: 70\r\nFrom: <sip:alice@home.test>;tag=a\r\nTo: <sip:bob@home.test>\r\nCall-ID: c5\r\nCSeq: 1 INVITE\r\n"
      ++ codes "Contact: <sip:alice@127.0.0.1:5090>\r\nSupported: 100rel\r\nContent-Length: 0\r\n\r\n\nrun\nin c1 266\n"
      ++ codes "PRACK sip:127.0.0.1:5060;transport=tcp;lr;ap=0-1 SIP/2.0\r\nVia: SIP/2.0/TCP 127.0.0.1:5090;branch=z9hG4bKp1\r\n"
      ++ codes "Max-Forwards: 70\r\nFrom: <sip:alice@home.test>;tag=a\r\nTo: <sip:bob@home.test>;tag=s1-0-1-1\r\nCall-ID: c5\r\n"
      ++ codes "CSeq: 2 PRACK\r\nRAck: 2 1 INVITE\r\nContent-Length: 0\r\n\r\n\nrun\nin c1 266\n"
      ++ codes "PRACK sip:127.0.0.1:5060;transport=tcp;lr;ap=0-1 SIP/2.0\r\nVia: SIP/2.0/TCP 127.0.0.1:5090;branch=z9hG4bKp2\r\n"
      ++ codes "Max-Forwards: 70\r\nFrom: <sip:alice@home.test>;tag=a\r\nTo: <sip:bob@home.test>;tag=s1-0-1-1\r\nCall-ID: c5\r\n"
      ++ codes "CSeq: 3 PRACK\r\nRAck: 1 1 INVITE\r\nContent-Length: 0\r\n\r\n\nrun\nend\n";
  output =
      codes "out c1 180\nSIP/2.0 100 Trying\r\nVia: SIP/2.0/TCP 127.0.0.1:5090;branch=z9hG4bKa1\r\n"
      ++ codes "From: <sip:alice@home.test>;tag=a\r\nTo: <sip:bob@home.test>\r\nCall-ID: c5\r\nCSeq: 1 INVITE\r\nContent-Length: 0\r\n\r\n"
      ++ codes "\nout c1 284\nSIP/2.0 183 Session Progress\r\nVia: SIP/2.0/TCP 127.0.0.1:5090;branch=z9hG4bKa1\r\n"
      ++ codes "From: <sip:alice@home.test>;tag=a\r\nTo: <sip:bob@home.test>;tag=s1-0-1-1\r\nCall-ID: c5\r\nCSeq: 1 INVITE\r\n"
      ++ codes "Contact: <sip:127.0.0.1:5060;transport=tcp;lr;ap=0-1>\r\nRequire: 100rel\r\nRSeq: 1\r\nContent-Length: 0\r\n\r\n\n"
      ++ codes "out c1 217\nSIP/2.0 481 Call/Transaction Does Not Exist\r\nVia: SIP/2.0/TCP 127.0.0.1:5090;branch=z9hG4bKp1\r\n"
      ++ codes "From: <sip:alice@home.test>;tag=a\r\nTo: <sip:bob@home.test>;tag=s1-0-1-1\r\nCall-ID: c5\r\nCSeq: 2 PRACK\r\n"
      ++ codes "Content-Length: 0\r\n\r\n\nout c1 188\nSIP/2.0 200 OK\r\nVia: SIP/2.0/TCP 127.0.0.1:5090;branch=z9hG4bKp2\r\n"
      ++ codes "From: <sip:alice@home.test>;tag=a\r\nTo: <sip:bob@home.test>;tag=s1-0-1-1\r\nCall-ID: c5\r\nCSeq: 3 PRACK\r\n"
      ++ codes "Content-Length: 0\r\n\r\n\nout c1 244\nSIP/2.0 200 OK\r\nVia: SIP/2.0/TCP 127.0.0.1:5090;branch=z9hG4bKa1\r\n"
      ++ codes "From: <sip:alice@home.test>;tag=a\r\nTo: <sip:bob@home.test>;tag=s1-0-1-1\r\nCall-ID: c5\r\nCSeq: 1 INVITE\r\n"
      ++ codes "Contact: <sip:127.0.0.1:5060;transport=tcp;lr;ap=0-1>\r\nContent-Length: 0\r\n\r\n\nend 6 5 1\n";
}

unfoldable pub reliable_provisional_without_prack : Case
reliable_provisional_without_prack = record {
  setup = set_up (app (codes "a0") 9 ([]) ∷ []) (record { method = (codes "INVITE"); tuples = (tuple 0 ∷ []) } ∷ record { method = (codes "OPTIONS"); tuples = (tuple 0 ∷ []) } ∷ record { method = (codes "MESSAGE"); tuples = (tuple 0 ∷ []) } ∷ []);
  script =
      codes "in c1 273\nINVITE sip:bob@127.0.0.1:5070 SIP/2.0\r\nVia: SIP/2.0/TCP 127.0.0.1:5090;branch=z9hG4bKa1\r\n"
      ++ codes "Max-Forwards: 70\r\nFrom: <sip:alice@home.test>;tag=a\r\nTo: <sip:bob@home.test>\r\nCall-ID: c5\r\nCSeq: 1 INVITE\r\n"
      ++ codes "Contact: <sip:alice@127.0.0.1:5090>\r\nSupported: 100rel\r\nContent-Length: 0\r\n\r\n\nrun\ntick 32000\nrun\nend\n";
  output =
      codes "out c1 180\nSIP/2.0 100 Trying\r\nVia: SIP/2.0/TCP 127.0.0.1:5090;branch=z9hG4bKa1\r\n"
      ++ codes "From: <sip:alice@home.test>;tag=a\r\nTo: <sip:bob@home.test>\r\nCall-ID: c5\r\nCSeq: 1 INVITE\r\nContent-Length: 0\r\n\r\n"
      ++ codes "\nout c1 284\nSIP/2.0 183 Session Progress\r\nVia: SIP/2.0/TCP 127.0.0.1:5090;branch=z9hG4bKa1\r\n"
      ++ codes "From: <sip:alice@home.test>;tag=a\r\nTo: <sip:bob@home.test>;tag=s1-0-1-1\r\nCall-ID: c5\r\nCSeq: 1 INVITE\r\n"
      ++ codes "Contact: <sip:127.0.0.1:5060;transport=tcp;lr;ap=0-1>\r\nRequire: 100rel\r\nRSeq: 1\r\nContent-Length: 0\r\n\r\n\n"
      ++ codes "out c1 208\nSIP/2.0 500 Server Internal Error\r\nVia: SIP/2.0/TCP 127.0.0.1:5090;branch=z9hG4bKa1\r\n"
      ++ codes "From: <sip:alice@home.test>;tag=a\r\nTo: <sip:bob@home.test>;tag=s1-0-1-1\r\nCall-ID: c5\r\nCSeq: 1 INVITE\r\n"
      ++ codes "Content-Length: 0\r\n\r\n\nend 5 3 0\n";
}

unfoldable pub offer_cases : List Case
offer_cases = reliable_provisional ∷ reliable_provisional_without_prack ∷ []
