-- Worked cases. Event notification.
use Rattle.std.specs.Prelude.{List, [], ◌∷◌, ◌++◌, codes, negsuc}
use Rattle.sc_worked.proofs.Trying.{Case, app, tuple, set_up}

unfoldable pub subscription : Case
subscription = record {
  setup = set_up (record (app (codes "a0") 11 ((codes "presence") ∷ (codes "60") ∷ (codes "3600") ∷ (codes "open") ∷ [])) { expires = negsuc 0 } ∷ []) (record { method = (codes "SUBSCRIBE"); tuples = (tuple 0 ∷ []) } ∷ []);
  script =
      codes "in c1 280\nSUBSCRIBE sip:p@home.test SIP/2.0\r\nVia: SIP/2.0/TCP 127.0.0.1:5090;branch=z9hG4bKa1\r\n"
      ++ codes "Max-Forwards: 70\r\nFrom: <sip:alice@home.test>;tag=a\r\nTo: <sip:bob@home.test>\r\nCall-ID: c5\r\nCSeq: 1 SUBSCRIBE\r\n"
      ++ codes "Contact: <sip:w@127.0.0.1:5090>\r\nEvent: presence\r\nExpires: 600\r\nContent-Length: 0\r\n\r\n\nrun\nin c1 195\n"
      ++ codes "SIP/2.0 200 OK\r\nVia: SIP/2.0/TCP 127.0.0.1:5060;branch=z9hG4bKs1-0-1-2\r\n"
      ++ codes "From: <sip:bob@home.test>;tag=s1-0-1-1\r\nTo: <sip:alice@home.test>;tag=a\r\nCall-ID: c5\r\nCSeq: 1 NOTIFY\r\n"
      ++ codes "Content-Length: 0\r\n\r\n\nrun\ntick 600000\nrun\nin c1 195\nSIP/2.0 200 OK\r\n"
      ++ codes "Via: SIP/2.0/TCP 127.0.0.1:5060;branch=z9hG4bKs1-0-1-3\r\nFrom: <sip:bob@home.test>;tag=s1-0-1-1\r\n"
      ++ codes "To: <sip:alice@home.test>;tag=a\r\nCall-ID: c5\r\nCSeq: 2 NOTIFY\r\nContent-Length: 0\r\n\r\n\nrun\nend\n";
  output =
      codes "out c1 261\nSIP/2.0 200 OK\r\nVia: SIP/2.0/TCP 127.0.0.1:5090;branch=z9hG4bKa1\r\n"
      ++ codes "From: <sip:alice@home.test>;tag=a\r\nTo: <sip:bob@home.test>;tag=s1-0-1-1\r\nCall-ID: c5\r\nCSeq: 1 SUBSCRIBE\r\n"
      ++ codes "Contact: <sip:127.0.0.1:5060;transport=tcp;lr;ap=0-1>\r\nExpires: 600\r\nContent-Length: 0\r\n\r\n\n"
      ++ codes "out 127.0.0.1:5090 350\nNOTIFY sip:w@127.0.0.1:5090 SIP/2.0\r\n"
      ++ codes "Via: SIP/2.0/TCP 127.0.0.1:5060;branch=z9hG4bKs1-0-1-2\r\nMax-Forwards: 70\r\n"
      ++ codes "From: <sip:bob@home.test>;tag=s1-0-1-1\r\nTo: <sip:alice@home.test>;tag=a\r\nCall-ID: c5\r\nCSeq: 1 NOTIFY\r\n"
      ++ codes "Contact: <sip:127.0.0.1:5060;transport=tcp;lr;ap=0-1>\r\nEvent: presence\r\n"
      ++ codes "Subscription-State: active;expires=600\r\nContent-Length: 4\r\n\r\nopen\nout 127.0.0.1:5090 353\n"
      ++ codes "NOTIFY sip:w@127.0.0.1:5090 SIP/2.0\r\nVia: SIP/2.0/TCP 127.0.0.1:5060;branch=z9hG4bKs1-0-1-3\r\n"
      ++ codes "Max-Forwards: 70\r\nFrom: <sip:bob@home.test>;tag=s1-0-1-1\r\nTo: <sip:alice@home.test>;tag=a\r\nCall-ID: c5\r\n"
      ++ codes "CSeq: 2 NOTIFY\r\nContact: <sip:127.0.0.1:5060;transport=tcp;lr;ap=0-1>\r\nEvent: presence\r\n"
      ++ codes "Subscription-State: terminated;reason=timeout\r\nContent-Length: 0\r\n\r\n\nend 9 3 0\n";
}

unfoldable pub subscription_bad_event : Case
subscription_bad_event = record {
  setup = set_up (record (app (codes "a0") 11 ((codes "presence") ∷ (codes "60") ∷ (codes "3600") ∷ (codes "open") ∷ [])) { expires = negsuc 0 } ∷ []) (record { method = (codes "SUBSCRIBE"); tuples = (tuple 0 ∷ []) } ∷ []);
  script =
      codes "in c1 264\nSUBSCRIBE sip:p@home.test SIP/2.0\r\nVia: SIP/2.0/TCP 127.0.0.1:5090;branch=z9hG4bKa1\r\n"
      ++ codes "Max-Forwards: 70\r\nFrom: <sip:alice@home.test>;tag=a\r\nTo: <sip:bob@home.test>\r\nCall-ID: c5\r\nCSeq: 1 SUBSCRIBE\r\n"
      ++ codes "Contact: <sip:w@127.0.0.1:5090>\r\nEvent: dialog\r\nContent-Length: 0\r\n\r\n\nrun\nend\n";
  output =
      codes "out c1 223\nSIP/2.0 489 Bad Event\r\nVia: SIP/2.0/TCP 127.0.0.1:5090;branch=z9hG4bKa1\r\n"
      ++ codes "From: <sip:alice@home.test>;tag=a\r\nTo: <sip:bob@home.test>;tag=s1-0-1-1\r\nCall-ID: c5\r\nCSeq: 1 SUBSCRIBE\r\n"
      ++ codes "Allow-Events: presence\r\nContent-Length: 0\r\n\r\n\nend 3 1 0\n";
}

unfoldable pub subscription_compact_event : Case
subscription_compact_event = record {
  setup = set_up (record (app (codes "a0") 11 ((codes "presence") ∷ (codes "60") ∷ (codes "3600") ∷ (codes "open") ∷ [])) { expires = negsuc 0 } ∷ []) (record { method = (codes "SUBSCRIBE"); tuples = (tuple 0 ∷ []) } ∷ []);
  script =
      codes "in c1 276\nSUBSCRIBE sip:p@home.test SIP/2.0\r\nVia: SIP/2.0/TCP 127.0.0.1:5090;branch=z9hG4bKa1\r\n"
      ++ codes "Max-Forwards: 70\r\nFrom: <sip:alice@home.test>;tag=a\r\nTo: <sip:bob@home.test>\r\nCall-ID: c5\r\nCSeq: 1 SUBSCRIBE\r\n"
      ++ codes "Contact: <sip:w@127.0.0.1:5090>\r\no: presence\r\nExpires: 600\r\nContent-Length: 0\r\n\r\n\nrun\nin c1 195\n"
      ++ codes "SIP/2.0 200 OK\r\nVia: SIP/2.0/TCP 127.0.0.1:5060;branch=z9hG4bKs1-0-1-2\r\n"
      ++ codes "From: <sip:bob@home.test>;tag=s1-0-1-1\r\nTo: <sip:alice@home.test>;tag=a\r\nCall-ID: c5\r\nCSeq: 1 NOTIFY\r\n"
      ++ codes "Content-Length: 0\r\n\r\n\nrun\ntick 600000\nrun\nin c1 195\nSIP/2.0 200 OK\r\n"
      ++ codes "Via: SIP/2.0/TCP 127.0.0.1:5060;branch=z9hG4bKs1-0-1-3\r\nFrom: <sip:bob@home.test>;tag=s1-0-1-1\r\n"
      ++ codes "To: <sip:alice@home.test>;tag=a\r\nCall-ID: c5\r\nCSeq: 2 NOTIFY\r\nContent-Length: 0\r\n\r\n\nrun\nend\n";
  output =
      codes "out c1 261\nSIP/2.0 200 OK\r\nVia: SIP/2.0/TCP 127.0.0.1:5090;branch=z9hG4bKa1\r\n"
      ++ codes "From: <sip:alice@home.test>;tag=a\r\nTo: <sip:bob@home.test>;tag=s1-0-1-1\r\nCall-ID: c5\r\nCSeq: 1 SUBSCRIBE\r\n"
      ++ codes "Contact: <sip:127.0.0.1:5060;transport=tcp;lr;ap=0-1>\r\nExpires: 600\r\nContent-Length: 0\r\n\r\n\n"
      ++ codes "out 127.0.0.1:5090 350\nNOTIFY sip:w@127.0.0.1:5090 SIP/2.0\r\n"
      ++ codes "Via: SIP/2.0/TCP 127.0.0.1:5060;branch=z9hG4bKs1-0-1-2\r\nMax-Forwards: 70\r\n"
      ++ codes "From: <sip:bob@home.test>;tag=s1-0-1-1\r\nTo: <sip:alice@home.test>;tag=a\r\nCall-ID: c5\r\nCSeq: 1 NOTIFY\r\n"
      ++ codes "Contact: <sip:127.0.0.1:5060;transport=tcp;lr;ap=0-1>\r\nEvent: presence\r\n"
      ++ codes "Subscription-State: active;expires=600\r\nContent-Length: 4\r\n\r\nopen\nout 127.0.0.1:5090 353\n"
      ++ codes "NOTIFY sip:w@127.0.0.1:5090 SIP/2.0\r\nVia: SIP/2.0/TCP 127.0.0.1:5060;branch=z9hG4bKs1-0-1-3\r\n"
      ++ codes "Max-Forwards: 70\r\nFrom: <sip:bob@home.test>;tag=s1-0-1-1\r\nTo: <sip:alice@home.test>;tag=a\r\nCall-ID: c5\r\n"
      ++ codes "CSeq: 2 NOTIFY\r\nContact: <sip:127.0.0.1:5060;transport=tcp;lr;ap=0-1>\r\nEvent: presence\r\n"
      ++ codes "Subscription-State: terminated;reason=timeout\r\nContent-Length: 0\r\n\r\n\nend 9 3 0\n";
}

unfoldable pub subscription_too_brief : Case
subscription_too_brief = record {
  setup = set_up (record (app (codes "a0") 11 ((codes "presence") ∷ (codes "60") ∷ (codes "3600") ∷ (codes "open") ∷ [])) { expires = negsuc 0 } ∷ []) (record { method = (codes "SUBSCRIBE"); tuples = (tuple 0 ∷ []) } ∷ []);
  script =
      codes "in c1 279\nSUBSCRIBE sip:p@home.test SIP/2.0\r\nVia: SIP/2.0/TCP 127.0.0.1:5090;branch=z9hG4bKa1\r\n"
      ++ codes "Max-Forwards: 70\r\nFrom: <sip:alice@home.test>;tag=a\r\nTo: <sip:bob@home.test>\r\nCall-ID: c5\r\nCSeq: 1 SUBSCRIBE\r\n"
      ++ codes "Contact: <sip:w@127.0.0.1:5090>\r\nEvent: presence\r\nExpires: 30\r\nContent-Length: 0\r\n\r\n\nrun\nend\n";
  output =
      codes "out c1 225\nSIP/2.0 423 Interval Too Brief\r\nVia: SIP/2.0/TCP 127.0.0.1:5090;branch=z9hG4bKa1\r\n"
      ++ codes "From: <sip:alice@home.test>;tag=a\r\nTo: <sip:bob@home.test>;tag=s1-0-1-1\r\nCall-ID: c5\r\nCSeq: 1 SUBSCRIBE\r\n"
      ++ codes "Min-Expires: 60\r\nContent-Length: 0\r\n\r\n\nend 3 1 0\n";
}

unfoldable pub subscription_cases : List Case
subscription_cases = subscription ∷ subscription_bad_event ∷ subscription_compact_event ∷ subscription_too_brief ∷ []
