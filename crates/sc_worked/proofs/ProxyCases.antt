-- Worked cases. Proxies: forks, redirects, the best response, what a lost place and spent hops do.
use Rattle.std.specs.Prelude.{List, [], ◌∷◌, ◌++◌, codes}
use Rattle.sc_worked.proofs.Trying.{Case, app, tuple, set_up}

unfoldable pub proxy_record_route : Case
proxy_record_route = record {
  setup = set_up (app (codes "a0") 4 ([]) ∷ []) (record { method = (codes "INVITE"); tuples = (tuple 0 ∷ []) } ∷ record { method = (codes "OPTIONS"); tuples = (tuple 0 ∷ []) } ∷ record { method = (codes "MESSAGE"); tuples = (tuple 0 ∷ []) } ∷ []);
  script =
      codes "in c1 254\nINVITE sip:bob@127.0.0.1:5070 SIP/2.0\r\nVia: SIP/2.0/TCP 127.0.0.1:5090;branch=z9hG4bKa1\r\n"
      ++ codes "Max-Forwards: 70\r\nFrom: <sip:alice@home.test>;tag=a\r\nTo: <sip:bob@home.test>\r\nCall-ID: c5\r\nCSeq: 1 INVITE\r\n"
      ++ codes "Contact: <sip:alice@127.0.0.1:5090>\r\nContent-Length: 0\r\n\r\n\nrun\nend\n";
  output =
      codes "out c1 180\nSIP/2.0 100 Trying\r\nVia: SIP/2.0/TCP 127.0.0.1:5090;branch=z9hG4bKa1\r\n"
      ++ codes "From: <sip:alice@home.test>;tag=a\r\nTo: <sip:bob@home.test>\r\nCall-ID: c5\r\nCSeq: 1 INVITE\r\nContent-Length: 0\r\n\r\n"
      ++ codes "\nout 127.0.0.1:5070 370\nINVITE sip:bob@127.0.0.1:5070 SIP/2.0\r\n"
      ++ codes "Via: SIP/2.0/TCP 127.0.0.1:5060;branch=z9hG4bKs1-0-1-2\r\nVia: SIP/2.0/TCP 127.0.0.1:5090;branch=z9hG4bKa1\r\n"
      ++ codes "Record-Route: <sip:127.0.0.1:5060;transport=tcp;lr;ap=0-1>\r\nMax-Forwards: 69\r\n"
      ++ codes "From: <sip:alice@home.test>;tag=a\r\nTo: <sip:bob@home.test>\r\nCall-ID: c5\r\nCSeq: 1 INVITE\r\n"
      ++ codes "Contact: <sip:alice@127.0.0.1:5090>\r\nContent-Length: 0\r\n\r\n\nend 2 2 1\n";
}

unfoldable pub proxy_redirect : Case
proxy_redirect = record {
  setup = set_up (app (codes "a0") 3 ((codes "sip:x@127.0.0.1:5071") ∷ []) ∷ []) (record { method = (codes "INVITE"); tuples = (tuple 0 ∷ []) } ∷ record { method = (codes "OPTIONS"); tuples = (tuple 0 ∷ []) } ∷ record { method = (codes "MESSAGE"); tuples = (tuple 0 ∷ []) } ∷ []);
  script =
      codes "in c1 254\nINVITE sip:bob@127.0.0.1:5070 SIP/2.0\r\nVia: SIP/2.0/TCP 127.0.0.1:5090;branch=z9hG4bKa1\r\n"
      ++ codes "Max-Forwards: 70\r\nFrom: <sip:alice@home.test>;tag=a\r\nTo: <sip:bob@home.test>\r\nCall-ID: c5\r\nCSeq: 1 INVITE\r\n"
      ++ codes "Contact: <sip:alice@127.0.0.1:5090>\r\nContent-Length: 0\r\n\r\n\nrun\nin 127.0.0.1:5071 334\nSIP/2.0 302 Moved\r\n"
      ++ codes "Via: SIP/2.0/TCP 127.0.0.1:5060;branch=z9hG4bKs1-0-1-2\r\nVia: SIP/2.0/TCP 127.0.0.1:5090;branch=z9hG4bKa1\r\n"
      ++ codes "Record-Route: <sip:127.0.0.1:5060;transport=tcp;lr;ap=0-1>\r\nFrom: <sip:alice@home.test>;tag=a\r\n"
      ++ codes "To: <sip:bob@home.test>;tag=t\r\nCall-ID: c5\r\nCSeq: 1 INVITE\r\nContact: <sip:y@127.0.0.1:5073>\r\n"
      ++ codes "Content-Length: 0\r\n\r\n\nrun\nend\n";
  output =
      codes "out c1 180\nSIP/2.0 100 Trying\r\nVia: SIP/2.0/TCP 127.0.0.1:5090;branch=z9hG4bKa1\r\n"
      ++ codes "From: <sip:alice@home.test>;tag=a\r\nTo: <sip:bob@home.test>\r\nCall-ID: c5\r\nCSeq: 1 INVITE\r\nContent-Length: 0\r\n\r\n"
      ++ codes "\nout 127.0.0.1:5071 368\nINVITE sip:x@127.0.0.1:5071 SIP/2.0\r\n"
      ++ codes "Via: SIP/2.0/TCP 127.0.0.1:5060;branch=z9hG4bKs1-0-1-2\r\nVia: SIP/2.0/TCP 127.0.0.1:5090;branch=z9hG4bKa1\r\n"
      ++ codes "Record-Route: <sip:127.0.0.1:5060;transport=tcp;lr;ap=0-1>\r\nMax-Forwards: 69\r\n"
      ++ codes "From: <sip:alice@home.test>;tag=a\r\nTo: <sip:bob@home.test>\r\nCall-ID: c5\r\nCSeq: 1 INVITE\r\n"
      ++ codes "Contact: <sip:alice@127.0.0.1:5090>\r\nContent-Length: 0\r\n\r\n\nout 127.0.0.1:5071 221\n"
      ++ codes "ACK sip:x@127.0.0.1:5071 SIP/2.0\r\nVia: SIP/2.0/TCP 127.0.0.1:5060;branch=z9hG4bKs1-0-1-2\r\nMax-Forwards: 70\r\n"
      ++ codes "From: <sip:alice@home.test>;tag=a\r\nTo: <sip:bob@home.test>;tag=t\r\nCall-ID: c5\r\nCSeq: 1 ACK\r\n"
      ++ codes "Content-Length: 0\r\n\r\n\nout 127.0.0.1:5073 368\nINVITE sip:y@127.0.0.1:5073 SIP/2.0\r\n"
      ++ codes "Via: SIP/2.0/TCP 127.0.0.1:5060;branch=z9hG4bKs1-0-1-3\r\nVia: SIP/2.0/TCP 127.0.0.1:5090;branch=z9hG4bKa1\r\n"
      ++ codes "Record-Route: <sip:127.0.0.1:5060;transport=tcp;lr;ap=0-1>\r\nMax-Forwards: 69\r\n"
      ++ codes "From: <sip:alice@home.test>;tag=a\r\nTo: <sip:bob@home.test>\r\nCall-ID: c5\r\nCSeq: 1 INVITE\r\n"
      ++ codes "Contact: <sip:alice@127.0.0.1:5090>\r\nContent-Length: 0\r\n\r\n\nend 4 4 1\n";
}

unfoldable pub two_2xx_of_a_fork : Case
two_2xx_of_a_fork = record {
  setup = set_up (app (codes "a0") 3 ((codes "sip:x@127.0.0.1:5071") ∷ (codes "sip:x@127.0.0.1:5072") ∷ []) ∷ []) (record { method = (codes "INVITE"); tuples = (tuple 0 ∷ []) } ∷ record { method = (codes "OPTIONS"); tuples = (tuple 0 ∷ []) } ∷ record { method = (codes "MESSAGE"); tuples = (tuple 0 ∷ []) } ∷ []);
  script =
      codes "in c1 254\nINVITE sip:bob@127.0.0.1:5070 SIP/2.0\r\nVia: SIP/2.0/TCP 127.0.0.1:5090;branch=z9hG4bKa1\r\n"
      ++ codes "Max-Forwards: 70\r\nFrom: <sip:alice@home.test>;tag=a\r\nTo: <sip:bob@home.test>\r\nCall-ID: c5\r\nCSeq: 1 INVITE\r\n"
      ++ codes "Contact: <sip:alice@127.0.0.1:5090>\r\nContent-Length: 0\r\n\r\n\nrun\nin 127.0.0.1:5071 304\nSIP/2.0 180 Ringing\r\n"
      ++ codes "Via: SIP/2.0/TCP 127.0.0.1:5060;branch=z9hG4bKs1-0-1-2\r\nVia: SIP/2.0/TCP 127.0.0.1:5090;branch=z9hG4bKa1\r\n"
      ++ codes "Record-Route: <sip:127.0.0.1:5060;transport=tcp;lr;ap=0-1>\r\nFrom: <sip:alice@home.test>;tag=a\r\n"
      ++ codes "To: <sip:bob@home.test>;tag=t1\r\nCall-ID: c5\r\nCSeq: 1 INVITE\r\nContent-Length: 0\r\n\r\n\nin 127.0.0.1:5072 304\n"
      ++ codes "SIP/2.0 180 Ringing\r\nVia: SIP/2.0/TCP 127.0.0.1:5060;branch=z9hG4bKs1-0-1-3\r\n"
      ++ codes "Via: SIP/2.0/TCP 127.0.0.1:5090;branch=z9hG4bKa1\r\nRecord-Route: <sip:127.0.0.1:5060;transport=tcp;lr;ap=0-1>\r\n"
      ++ codes "From: <sip:alice@home.test>;tag=a\r\nTo: <sip:bob@home.test>;tag=t2\r\nCall-ID: c5\r\nCSeq: 1 INVITE\r\n"
      ++ codes "Content-Length: 0\r\n\r\n\nrun\nin 127.0.0.1:5071 299\nSIP/2.0 200 OK\r\n"
      ++ codes "Via: SIP/2.0/TCP 127.0.0.1:5060;branch=z9hG4bKs1-0-1-2\r\nVia: SIP/2.0/TCP 127.0.0.1:5090;branch=z9hG4bKa1\r\n"
      ++ codes "Record-Route: <sip:127.0.0.1:5060;transport=tcp;lr;ap=0-1>\r\nFrom: <sip:alice@home.test>;tag=a\r\n"
      ++ codes "To: <sip:bob@home.test>;tag=t1\r\nCall-ID: c5\r\nCSeq: 1 INVITE\r\nContent-Length: 0\r\n\r\n\nrun\nin 127.0.0.1:5072 299\n"
      ++ codes "SIP/2.0 200 OK\r\nVia: SIP/2.0/TCP 127.0.0.1:5060;branch=z9hG4bKs1-0-1-3\r\n"
      ++ codes "Via: SIP/2.0/TCP 127.0.0.1:5090;branch=z9hG4bKa1\r\nRecord-Route: <sip:127.0.0.1:5060;transport=tcp;lr;ap=0-1>\r\n"
      ++ codes "From: <sip:alice@home.test>;tag=a\r\nTo: <sip:bob@home.test>;tag=t2\r\nCall-ID: c5\r\nCSeq: 1 INVITE\r\n"
      ++ codes "Content-Length: 0\r\n\r\n\nrun\nend\n";
  output =
      codes "out c1 180\nSIP/2.0 100 Trying\r\nVia: SIP/2.0/TCP 127.0.0.1:5090;branch=z9hG4bKa1\r\n"
      ++ codes "From: <sip:alice@home.test>;tag=a\r\nTo: <sip:bob@home.test>\r\nCall-ID: c5\r\nCSeq: 1 INVITE\r\nContent-Length: 0\r\n\r\n"
      ++ codes "\nout 127.0.0.1:5071 368\nINVITE sip:x@127.0.0.1:5071 SIP/2.0\r\n"
      ++ codes "Via: SIP/2.0/TCP 127.0.0.1:5060;branch=z9hG4bKs1-0-1-2\r\nVia: SIP/2.0/TCP 127.0.0.1:5090;branch=z9hG4bKa1\r\n"
      ++ codes "Record-Route: <sip:127.0.0.1:5060;transport=tcp;lr;ap=0-1>\r\nMax-Forwards: 69\r\n"
      ++ codes "From: <sip:alice@home.test>;tag=a\r\nTo: <sip:bob@home.test>\r\nCall-ID: c5\r\nCSeq: 1 INVITE\r\n"
      ++ codes "Contact: <sip:alice@127.0.0.1:5090>\r\nContent-Length: 0\r\n\r\n\nout 127.0.0.1:5072 368\n"
      ++ codes "INVITE sip:x@127.0.0.1:5072 SIP/2.0\r\nVia: SIP/2.0/TCP 127.0.0.1:5060;branch=z9hG4bKs1-0-1-3\r\n"
      ++ codes "Via: SIP/2.0/TCP 127.0.0.1:5090;branch=z9hG4bKa1\r\nRecord-Route: <sip:127.0.0.1:5060;transport=tcp;lr;ap=0-1>\r\n"
      ++ codes "Max-Forwards: 69\r\nFrom: <sip:alice@home.test>;tag=a\r\nTo: <sip:bob@home.test>\r\nCall-ID: c5\r\nCSeq: 1 INVITE\r\n"
      ++ codes "Contact: <sip:alice@127.0.0.1:5090>\r\nContent-Length: 0\r\n\r\n\nout c1 248\nSIP/2.0 180 Ringing\r\n"
      ++ codes "Via: SIP/2.0/TCP 127.0.0.1:5090;branch=z9hG4bKa1\r\nRecord-Route: <sip:127.0.0.1:5060;transport=tcp;lr;ap=0-1>\r\n"
      ++ codes "From: <sip:alice@home.test>;tag=a\r\nTo: <sip:bob@home.test>;tag=t1\r\nCall-ID: c5\r\nCSeq: 1 INVITE\r\n"
      ++ codes "Content-Length: 0\r\n\r\n\nout c1 248\nSIP/2.0 180 Ringing\r\nVia: SIP/2.0/TCP 127.0.0.1:5090;branch=z9hG4bKa1\r\n"
      ++ codes "Record-Route: <sip:127.0.0.1:5060;transport=tcp;lr;ap=0-1>\r\nFrom: <sip:alice@home.test>;tag=a\r\n"
      ++ codes "To: <sip:bob@home.test>;tag=t2\r\nCall-ID: c5\r\nCSeq: 1 INVITE\r\nContent-Length: 0\r\n\r\n\nout c1 243\nSIP/2.0 200 OK\r\n"
      ++ codes "Via: SIP/2.0/TCP 127.0.0.1:5090;branch=z9hG4bKa1\r\nRecord-Route: <sip:127.0.0.1:5060;transport=tcp;lr;ap=0-1>\r\n"
      ++ codes "From: <sip:alice@home.test>;tag=a\r\nTo: <sip:bob@home.test>;tag=t1\r\nCall-ID: c5\r\nCSeq: 1 INVITE\r\n"
      ++ codes "Content-Length: 0\r\n\r\n\nout 127.0.0.1:5072 221\nCANCEL sip:x@127.0.0.1:5072 SIP/2.0\r\n"
      ++ codes "Via: SIP/2.0/TCP 127.0.0.1:5060;branch=z9hG4bKs1-0-1-3\r\nMax-Forwards: 70\r\nFrom: <sip:alice@home.test>;tag=a\r\n"
      ++ codes "To: <sip:bob@home.test>\r\nCall-ID: c5\r\nCSeq: 1 CANCEL\r\nContent-Length: 0\r\n\r\n\nout c1 243\nSIP/2.0 200 OK\r\n"
      ++ codes "Via: SIP/2.0/TCP 127.0.0.1:5090;branch=z9hG4bKa1\r\nRecord-Route: <sip:127.0.0.1:5060;transport=tcp;lr;ap=0-1>\r\n"
      ++ codes "From: <sip:alice@home.test>;tag=a\r\nTo: <sip:bob@home.test>;tag=t2\r\nCall-ID: c5\r\nCSeq: 1 INVITE\r\n"
      ++ codes "Content-Length: 0\r\n\r\n\nend 10 8 1\n";
}

unfoldable pub best_response_6xx : Case
best_response_6xx = record {
  setup = set_up (app (codes "a0") 3 ((codes "sip:x@127.0.0.1:5071") ∷ (codes "sip:x@127.0.0.1:5072") ∷ (codes "sip:x@127.0.0.1:5073") ∷ []) ∷ []) (record { method = (codes "INVITE"); tuples = (tuple 0 ∷ []) } ∷ record { method = (codes "OPTIONS"); tuples = (tuple 0 ∷ []) } ∷ record { method = (codes "MESSAGE"); tuples = (tuple 0 ∷ []) } ∷ []);
  script =
      codes "in c1 254\nINVITE sip:bob@127.0.0.1:5070 SIP/2.0\r\nVia: SIP/2.0/TCP 127.0.0.1:5090;branch=z9hG4bKa1\r\n"
      ++ codes "Max-Forwards: 70\r\nFrom: <sip:alice@home.test>;tag=a\r\nTo: <sip:bob@home.test>\r\nCall-ID: c5\r\nCSeq: 1 INVITE\r\n"
      ++ codes "Contact: <sip:alice@127.0.0.1:5090>\r\nContent-Length: 0\r\n\r\n\nrun\nin 127.0.0.1:5071 308\nSIP/2.0 486 Busy Here\r\n"
      ++ codes "Via: SIP/2.0/TCP 127.0.0.1:5060;branch=z9hG4bKs1-0-1-2\r\nVia: SIP/2.0/TCP 127.0.0.1:5090;branch=z9hG4bKa1\r\n"
      ++ codes "Record-Route: <sip:127.0.0.1:5060;transport=tcp;lr;ap=0-1>\r\nFrom: <sip:alice@home.test>;tag=a\r\n"
      ++ codes "To: <sip:bob@home.test>;tag=t486\r\nCall-ID: c5\r\nCSeq: 1 INVITE\r\nContent-Length: 0\r\n\r\n\nrun\n"
      ++ codes "in 127.0.0.1:5072 311\nSIP/2.0 401 Unauthorized\r\nVia: SIP/2.0/TCP 127.0.0.1:5060;branch=z9hG4bKs1-0-1-3\r\n"
      ++ codes "Via: SIP/2.0/TCP 127.0.0.1:5090;branch=z9hG4bKa1\r\nRecord-Route: <sip:127.0.0.1:5060;transport=tcp;lr;ap=0-1>\r\n"
      ++ codes "From: <sip:alice@home.test>;tag=a\r\nTo: <sip:bob@home.test>;tag=t401\r\nCall-ID: c5\r\nCSeq: 1 INVITE\r\n"
      ++ codes "Content-Length: 0\r\n\r\n\nrun\nin 127.0.0.1:5073 306\nSIP/2.0 603 Decline\r\n"
      ++ codes "Via: SIP/2.0/TCP 127.0.0.1:5060;branch=z9hG4bKs1-0-1-4\r\nVia: SIP/2.0/TCP 127.0.0.1:5090;branch=z9hG4bKa1\r\n"
      ++ codes "Record-Route: <sip:127.0.0.1:5060;transport=tcp;lr;ap=0-1>\r\nFrom: <sip:alice@home.test>;tag=a\r\n"
      ++ codes "To: <sip:bob@home.test>;tag=t603\r\nCall-ID: c5\r\nCSeq: 1 INVITE\r\nContent-Length: 0\r\n\r\n\nrun\nend\n";
  output =
      codes "out c1 180\nSIP/2.0 100 Trying\r\nVia: SIP/2.0/TCP 127.0.0.1:5090;branch=z9hG4bKa1\r\n"
      ++ codes "From: <sip:alice@home.test>;tag=a\r\nTo: <sip:bob@home.test>\r\nCall-ID: c5\r\nCSeq: 1 INVITE\r\nContent-Length: 0\r\n\r\n"
      ++ codes "\nout 127.0.0.1:5071 368\nINVITE sip:x@127.0.0.1:5071 SIP/2.0\r\n"
      ++ codes "Via: SIP/2.0/TCP 127.0.0.1:5060;branch=z9hG4bKs1-0-1-2\r\nVia: SIP/2.0/TCP 127.0.0.1:5090;branch=z9hG4bKa1\r\n"
      ++ codes "Record-Route: <sip:127.0.0.1:5060;transport=tcp;lr;ap=0-1>\r\nMax-Forwards: 69\r\n"
      ++ codes "From: <sip:alice@home.test>;tag=a\r\nTo: <sip:bob@home.test>\r\nCall-ID: c5\r\nCSeq: 1 INVITE\r\n"
      ++ codes "Contact: <sip:alice@127.0.0.1:5090>\r\nContent-Length: 0\r\n\r\n\nout 127.0.0.1:5072 368\n"
      ++ codes "INVITE sip:x@127.0.0.1:5072 SIP/2.0\r\nVia: SIP/2.0/TCP 127.0.0.1:5060;branch=z9hG4bKs1-0-1-3\r\n"
      ++ codes "Via: SIP/2.0/TCP 127.0.0.1:5090;branch=z9hG4bKa1\r\nRecord-Route: <sip:127.0.0.1:5060;transport=tcp;lr;ap=0-1>\r\n"
      ++ codes "Max-Forwards: 69\r\nFrom: <sip:alice@home.test>;tag=a\r\nTo: <sip:bob@home.test>\r\nCall-ID: c5\r\nCSeq: 1 INVITE\r\n"
      ++ codes "Contact: <sip:alice@127.0.0.1:5090>\r\nContent-Length: 0\r\n\r\n\nout 127.0.0.1:5073 368\n"
      ++ codes "INVITE sip:x@127.0.0.1:5073 SIP/2.0\r\nVia: SIP/2.0/TCP 127.0.0.1:5060;branch=z9hG4bKs1-0-1-4\r\n"
      ++ codes "Via: SIP/2.0/TCP 127.0.0.1:5090;branch=z9hG4bKa1\r\nRecord-Route: <sip:127.0.0.1:5060;transport=tcp;lr;ap=0-1>\r\n"
      ++ codes "Max-Forwards: 69\r\nFrom: <sip:alice@home.test>;tag=a\r\nTo: <sip:bob@home.test>\r\nCall-ID: c5\r\nCSeq: 1 INVITE\r\n"
      ++ codes "Contact: <sip:alice@127.0.0.1:5090>\r\nContent-Length: 0\r\n\r\n\nout 127.0.0.1:5071 224\n"
      ++ codes "ACK sip:x@127.0.0.1:5071 SIP/2.0\r\nVia: SIP/2.0/TCP 127.0.0.1:5060;branch=z9hG4bKs1-0-1-2\r\nMax-Forwards: 70\r\n"
      ++ codes "From: <sip:alice@home.test>;tag=a\r\nTo: <sip:bob@home.test>;tag=t486\r\nCall-ID: c5\r\nCSeq: 1 ACK\r\n"
      ++ codes "Content-Length: 0\r\n\r\n\nout 127.0.0.1:5072 224\nACK sip:x@127.0.0.1:5072 SIP/2.0\r\n"
      ++ codes "Via: SIP/2.0/TCP 127.0.0.1:5060;branch=z9hG4bKs1-0-1-3\r\nMax-Forwards: 70\r\nFrom: <sip:alice@home.test>;tag=a\r\n"
      ++ codes "To: <sip:bob@home.test>;tag=t401\r\nCall-ID: c5\r\nCSeq: 1 ACK\r\nContent-Length: 0\r\n\r\n\nout 127.0.0.1:5073 224\n"
      ++ codes "ACK sip:x@127.0.0.1:5073 SIP/2.0\r\nVia: SIP/2.0/TCP 127.0.0.1:5060;branch=z9hG4bKs1-0-1-4\r\nMax-Forwards: 70\r\n"
      ++ codes "From: <sip:alice@home.test>;tag=a\r\nTo: <sip:bob@home.test>;tag=t603\r\nCall-ID: c5\r\nCSeq: 1 ACK\r\n"
      ++ codes "Content-Length: 0\r\n\r\n\nout c1 250\nSIP/2.0 603 Decline\r\nVia: SIP/2.0/TCP 127.0.0.1:5090;branch=z9hG4bKa1\r\n"
      ++ codes "Record-Route: <sip:127.0.0.1:5060;transport=tcp;lr;ap=0-1>\r\nFrom: <sip:alice@home.test>;tag=a\r\n"
      ++ codes "To: <sip:bob@home.test>;tag=t603\r\nCall-ID: c5\r\nCSeq: 1 INVITE\r\nContent-Length: 0\r\n\r\n\nend 9 8 0\n";
}

unfoldable pub best_response_challenges : Case
best_response_challenges = record {
  setup = set_up (app (codes "a0") 3 ((codes "sip:x@127.0.0.1:5071") ∷ (codes "sip:x@127.0.0.1:5072") ∷ (codes "sip:x@127.0.0.1:5073") ∷ []) ∷ []) (record { method = (codes "INVITE"); tuples = (tuple 0 ∷ []) } ∷ record { method = (codes "OPTIONS"); tuples = (tuple 0 ∷ []) } ∷ record { method = (codes "MESSAGE"); tuples = (tuple 0 ∷ []) } ∷ []);
  script =
      codes "in c1 254\nINVITE sip:bob@127.0.0.1:5070 SIP/2.0\r\nVia: SIP/2.0/TCP 127.0.0.1:5090;branch=z9hG4bKa1\r\n"
      ++ codes "Max-Forwards: 70\r\nFrom: <sip:alice@home.test>;tag=a\r\nTo: <sip:bob@home.test>\r\nCall-ID: c5\r\nCSeq: 1 INVITE\r\n"
      ++ codes "Contact: <sip:alice@127.0.0.1:5090>\r\nContent-Length: 0\r\n\r\n\nrun\nin 127.0.0.1:5071 332\n"
      ++ codes "SIP/2.0 401 Unauthorized\r\nVia: SIP/2.0/TCP 127.0.0.1:5060;branch=z9hG4bKs1-0-1-2\r\n"
      ++ codes "Via: SIP/2.0/TCP 127.0.0.1:5090;branch=z9hG4bKa1\r\nRecord-Route: <sip:127.0.0.1:5060;transport=tcp;lr;ap=0-1>\r\n"
      ++ codes "From: <sip:alice@home.test>;tag=a\r\nTo: <sip:bob@home.test>;tag=t401\r\nCall-ID: c5\r\nCSeq: 1 INVITE\r\n"
      ++ codes "WWW-Authenticate: A\r\nContent-Length: 0\r\n\r\n\nrun\nin 127.0.0.1:5072 351\n"
      ++ codes "SIP/2.0 407 Proxy Authentication Required\r\nVia: SIP/2.0/TCP 127.0.0.1:5060;branch=z9hG4bKs1-0-1-3\r\n"
      ++ codes "Via: SIP/2.0/TCP 127.0.0.1:5090;branch=z9hG4bKa1\r\nRecord-Route: <sip:127.0.0.1:5060;transport=tcp;lr;ap=0-1>\r\n"
      ++ codes "From: <sip:alice@home.test>;tag=a\r\nTo: <sip:bob@home.test>;tag=t407\r\nCall-ID: c5\r\nCSeq: 1 INVITE\r\n"
      ++ codes "Proxy-Authenticate: B\r\nContent-Length: 0\r\n\r\n\nrun\nin 127.0.0.1:5073 308\nSIP/2.0 486 Busy Here\r\n"
      ++ codes "Via: SIP/2.0/TCP 127.0.0.1:5060;branch=z9hG4bKs1-0-1-4\r\nVia: SIP/2.0/TCP 127.0.0.1:5090;branch=z9hG4bKa1\r\n"
      ++ codes "Record-Route: <sip:127.0.0.1:5060;transport=tcp;lr;ap=0-1>\r\nFrom: <sip:alice@home.test>;tag=a\r\n"
      ++ codes "To: <sip:bob@home.test>;tag=t486\r\nCall-ID: c5\r\nCSeq: 1 INVITE\r\nContent-Length: 0\r\n\r\n\nrun\nend\n";
  output =
      codes "out c1 180\nSIP/2.0 100 Trying\r\nVia: SIP/2.0/TCP 127.0.0.1:5090;branch=z9hG4bKa1\r\n"
      ++ codes "From: <sip:alice@home.test>;tag=a\r\nTo: <sip:bob@home.test>\r\nCall-ID: c5\r\nCSeq: 1 INVITE\r\nContent-Length: 0\r\n\r\n"
      ++ codes "\nout 127.0.0.1:5071 368\nINVITE sip:x@127.0.0.1:5071 SIP/2.0\r\n"
      ++ codes "Via: SIP/2.0/TCP 127.0.0.1:5060;branch=z9hG4bKs1-0-1-2\r\nVia: SIP/2.0/TCP 127.0.0.1:5090;branch=z9hG4bKa1\r\n"
      ++ codes "Record-Route: <sip:127.0.0.1:5060;transport=tcp;lr;ap=0-1>\r\nMax-Forwards: 69\r\n"
      ++ codes "From: <sip:alice@home.test>;tag=a\r\nTo: <sip:bob@home.test>\r\nCall-ID: c5\r\nCSeq: 1 INVITE\r\n"
      ++ codes "Contact: <sip:alice@127.0.0.1:5090>\r\nContent-Length: 0\r\n\r\n\nout 127.0.0.1:5072 368\n"
      ++ codes "INVITE sip:x@127.0.0.1:5072 SIP/2.0\r\nVia: SIP/2.0/TCP 127.0.0.1:5060;branch=z9hG4bKs1-0-1-3\r\n"
      ++ codes "Via: SIP/2.0/TCP 127.0.0.1:5090;branch=z9hG4bKa1\r\nRecord-Route: <sip:127.0.0.1:5060;transport=tcp;lr;ap=0-1>\r\n"
      ++ codes "Max-Forwards: 69\r\nFrom: <sip:alice@home.test>;tag=a\r\nTo: <sip:bob@home.test>\r\nCall-ID: c5\r\nCSeq: 1 INVITE\r\n"
      ++ codes "Contact: <sip:alice@127.0.0.1:5090>\r\nContent-Length: 0\r\n\r\n\nout 127.0.0.1:5073 368\n"
      ++ codes "INVITE sip:x@127.0.0.1:5073 SIP/2.0\r\nVia: SIP/2.0/TCP 127.0.0.1:5060;branch=z9hG4bKs1-0-1-4\r\n"
      ++ codes "Via: SIP/2.0/TCP 127.0.0.1:5090;branch=z9hG4bKa1\r\nRecord-Route: <sip:127.0.0.1:5060;transport=tcp;lr;ap=0-1>\r\n"
      ++ codes "Max-Forwards: 69\r\nFrom: <sip:alice@home.test>;tag=a\r\nTo: <sip:bob@home.test>\r\nCall-ID: c5\r\nCSeq: 1 INVITE\r\n"
      ++ codes "Contact: <sip:alice@127.0.0.1:5090>\r\nContent-Length: 0\r\n\r\n\nout 127.0.0.1:5071 224\n"
      ++ codes "ACK sip:x@127.0.0.1:5071 SIP/2.0\r\nVia: SIP/2.0/TCP 127.0.0.1:5060;branch=z9hG4bKs1-0-1-2\r\nMax-Forwards: 70\r\n"
      ++ codes "From: <sip:alice@home.test>;tag=a\r\nTo: <sip:bob@home.test>;tag=t401\r\nCall-ID: c5\r\nCSeq: 1 ACK\r\n"
      ++ codes "Content-Length: 0\r\n\r\n\nout 127.0.0.1:5072 224\nACK sip:x@127.0.0.1:5072 SIP/2.0\r\n"
      ++ codes "Via: SIP/2.0/TCP 127.0.0.1:5060;branch=z9hG4bKs1-0-1-3\r\nMax-Forwards: 70\r\nFrom: <sip:alice@home.test>;tag=a\r\n"
      ++ codes "To: <sip:bob@home.test>;tag=t407\r\nCall-ID: c5\r\nCSeq: 1 ACK\r\nContent-Length: 0\r\n\r\n\nout 127.0.0.1:5073 224\n"
      ++ codes "ACK sip:x@127.0.0.1:5073 SIP/2.0\r\nVia: SIP/2.0/TCP 127.0.0.1:5060;branch=z9hG4bKs1-0-1-4\r\nMax-Forwards: 70\r\n"
      ++ codes "From: <sip:alice@home.test>;tag=a\r\nTo: <sip:bob@home.test>;tag=t486\r\nCall-ID: c5\r\nCSeq: 1 ACK\r\n"
      ++ codes "Content-Length: 0\r\n\r\n\nout c1 299\nSIP/2.0 401 Unauthorized\r\nVia: SIP/2.0/TCP 127.0.0.1:5090;branch=z9hG4bKa1\r\n"
      ++ codes "Record-Route: <sip:127.0.0.1:5060;transport=tcp;lr;ap=0-1>\r\nFrom: <sip:alice@home.test>;tag=a\r\n"
      ++ codes "To: <sip:bob@home.test>;tag=t401\r\nCall-ID: c5\r\nCSeq: 1 INVITE\r\nWWW-Authenticate: A\r\nProxy-Authenticate: B\r\n"
      ++ codes "Content-Length: 0\r\n\r\n\nend 9 8 0\n";
}

unfoldable pub lost_place : Case
lost_place = record {
  setup = set_up (app (codes "a0") 2 ([]) ∷ app (codes "a1") 2 ([]) ∷ []) (record { method = (codes "INVITE"); tuples = (tuple 0 ∷ tuple 1 ∷ []) } ∷ record { method = (codes "OPTIONS"); tuples = (tuple 0 ∷ tuple 1 ∷ []) } ∷ record { method = (codes "MESSAGE"); tuples = (tuple 0 ∷ tuple 1 ∷ []) } ∷ []);
  script =
      codes "in c1 254\nINVITE sip:bob@127.0.0.1:5070 SIP/2.0\r\nVia: SIP/2.0/TCP 127.0.0.1:5090;branch=z9hG4bKa1\r\n"
      ++ codes "Max-Forwards: 70\r\nFrom: <sip:alice@home.test>;tag=a\r\nTo: <sip:bob@home.test>\r\nCall-ID: c5\r\nCSeq: 1 INVITE\r\n"
      ++ codes "Contact: <sip:alice@127.0.0.1:5090>\r\nContent-Length: 0\r\n\r\n\nin c2 254\nINVITE sip:bob@127.0.0.1:5071 SIP/2.0\r\n"
      ++ codes "Via: SIP/2.0/TCP 127.0.0.1:5090;branch=z9hG4bKc1\r\nMax-Forwards: 70\r\nFrom: <sip:alice@home.test>;tag=a\r\n"
      ++ codes "To: <sip:bob@home.test>\r\nCall-ID: c6\r\nCSeq: 1 INVITE\r\nContact: <sip:alice@127.0.0.1:5090>\r\nContent-Length: 0\r\n"
      ++ codes "\r\n\nrun\nlost 127.0.0.1:5070\nrun\nin 127.0.0.1:5071 294\nSIP/2.0 200 OK\r\n"
      ++ codes "Via: SIP/2.0/TCP 127.0.0.1:5060;branch=z9hG4bKs1-1-2-2\r\n"
      ++ codes "Via: SIP/2.0/TCP 127.0.0.1:5060;branch=z9hG4bKs1-0-2-2\r\nVia: SIP/2.0/TCP 127.0.0.1:5090;branch=z9hG4bKc1\r\n"
      ++ codes "From: <sip:alice@home.test>;tag=a\r\nTo: <sip:bob@home.test>;tag=t\r\nCall-ID: c6\r\nCSeq: 1 INVITE\r\n"
      ++ codes "Content-Length: 0\r\n\r\n\nrun\nend\n";
  output =
      codes "out c1 180\nSIP/2.0 100 Trying\r\nVia: SIP/2.0/TCP 127.0.0.1:5090;branch=z9hG4bKa1\r\n"
      ++ codes "From: <sip:alice@home.test>;tag=a\r\nTo: <sip:bob@home.test>\r\nCall-ID: c5\r\nCSeq: 1 INVITE\r\nContent-Length: 0\r\n\r\n"
      ++ codes "\nout c2 180\nSIP/2.0 100 Trying\r\nVia: SIP/2.0/TCP 127.0.0.1:5090;branch=z9hG4bKc1\r\n"
      ++ codes "From: <sip:alice@home.test>;tag=a\r\nTo: <sip:bob@home.test>\r\nCall-ID: c6\r\nCSeq: 1 INVITE\r\nContent-Length: 0\r\n\r\n"
      ++ codes "\nout 127.0.0.1:5070 366\nINVITE sip:bob@127.0.0.1:5070 SIP/2.0\r\n"
      ++ codes "Via: SIP/2.0/TCP 127.0.0.1:5060;branch=z9hG4bKs1-1-1-2\r\n"
      ++ codes "Via: SIP/2.0/TCP 127.0.0.1:5060;branch=z9hG4bKs1-0-1-2\r\nVia: SIP/2.0/TCP 127.0.0.1:5090;branch=z9hG4bKa1\r\n"
      ++ codes "Max-Forwards: 68\r\nFrom: <sip:alice@home.test>;tag=a\r\nTo: <sip:bob@home.test>\r\nCall-ID: c5\r\nCSeq: 1 INVITE\r\n"
      ++ codes "Contact: <sip:alice@127.0.0.1:5090>\r\nContent-Length: 0\r\n\r\n\nout 127.0.0.1:5071 366\n"
      ++ codes "INVITE sip:bob@127.0.0.1:5071 SIP/2.0\r\nVia: SIP/2.0/TCP 127.0.0.1:5060;branch=z9hG4bKs1-1-2-2\r\n"
      ++ codes "Via: SIP/2.0/TCP 127.0.0.1:5060;branch=z9hG4bKs1-0-2-2\r\nVia: SIP/2.0/TCP 127.0.0.1:5090;branch=z9hG4bKc1\r\n"
      ++ codes "Max-Forwards: 68\r\nFrom: <sip:alice@home.test>;tag=a\r\nTo: <sip:bob@home.test>\r\nCall-ID: c6\r\nCSeq: 1 INVITE\r\n"
      ++ codes "Contact: <sip:alice@127.0.0.1:5090>\r\nContent-Length: 0\r\n\r\n\nout c1 207\nSIP/2.0 500 Server Internal Error\r\n"
      ++ codes "Via: SIP/2.0/TCP 127.0.0.1:5090;branch=z9hG4bKa1\r\nFrom: <sip:alice@home.test>;tag=a\r\n"
      ++ codes "To: <sip:bob@home.test>;tag=s1-edge\r\nCall-ID: c5\r\nCSeq: 1 INVITE\r\nContent-Length: 0\r\n\r\n\nout c2 182\n"
      ++ codes "SIP/2.0 200 OK\r\nVia: SIP/2.0/TCP 127.0.0.1:5090;branch=z9hG4bKc1\r\nFrom: <sip:alice@home.test>;tag=a\r\n"
      ++ codes "To: <sip:bob@home.test>;tag=t\r\nCall-ID: c6\r\nCSeq: 1 INVITE\r\nContent-Length: 0\r\n\r\n\nend 16 6 0\n";
}

unfoldable pub max_forwards_spent : Case
max_forwards_spent = record {
  setup = set_up (app (codes "a0") 2 ([]) ∷ app (codes "a1") 2 ([]) ∷ []) (record { method = (codes "INVITE"); tuples = (tuple 0 ∷ tuple 1 ∷ []) } ∷ record { method = (codes "OPTIONS"); tuples = (tuple 0 ∷ tuple 1 ∷ []) } ∷ record { method = (codes "MESSAGE"); tuples = (tuple 0 ∷ tuple 1 ∷ []) } ∷ []);
  script =
      codes "in c1 253\nINVITE sip:bob@127.0.0.1:5070 SIP/2.0\r\nVia: SIP/2.0/TCP 127.0.0.1:5090;branch=z9hG4bKa1\r\n"
      ++ codes "Max-Forwards: 1\r\nFrom: <sip:alice@home.test>;tag=a\r\nTo: <sip:bob@home.test>\r\nCall-ID: c5\r\nCSeq: 1 INVITE\r\n"
      ++ codes "Contact: <sip:alice@127.0.0.1:5090>\r\nContent-Length: 0\r\n\r\n\nrun\nend\n";
  output =
      codes "out c1 180\nSIP/2.0 100 Trying\r\nVia: SIP/2.0/TCP 127.0.0.1:5090;branch=z9hG4bKa1\r\n"
      ++ codes "From: <sip:alice@home.test>;tag=a\r\nTo: <sip:bob@home.test>\r\nCall-ID: c5\r\nCSeq: 1 INVITE\r\nContent-Length: 0\r\n\r\n"
      ++ codes "\nout c1 200\nSIP/2.0 483 Too Many Hops\r\nVia: SIP/2.0/TCP 127.0.0.1:5090;branch=z9hG4bKa1\r\n"
      ++ codes "From: <sip:alice@home.test>;tag=a\r\nTo: <sip:bob@home.test>;tag=s1-1-1-1\r\nCall-ID: c5\r\nCSeq: 1 INVITE\r\n"
      ++ codes "Content-Length: 0\r\n\r\n\nend 6 2 0\n";
}

unfoldable pub stray_2xx_in_accepted : Case
stray_2xx_in_accepted = record {
  setup = set_up (app (codes "a0") 4 ([]) ∷ []) (record { method = (codes "INVITE"); tuples = (tuple 0 ∷ []) } ∷ record { method = (codes "OPTIONS"); tuples = (tuple 0 ∷ []) } ∷ record { method = (codes "MESSAGE"); tuples = (tuple 0 ∷ []) } ∷ []);
  script =
      codes "in c1 254\nINVITE sip:bob@127.0.0.1:5070 SIP/2.0\r\nVia: SIP/2.0/TCP 127.0.0.1:5090;branch=z9hG4bKa1\r\n"
      ++ codes "Max-Forwards: 70\r\nFrom: <sip:alice@home.test>;tag=a\r\nTo: <sip:bob@home.test>\r\nCall-ID: c5\r\nCSeq: 1 INVITE\r\n"
      ++ codes "Contact: <sip:alice@127.0.0.1:5090>\r\nContent-Length: 0\r\n\r\n\nrun\nin 127.0.0.1:5070 334\nSIP/2.0 200 OK\r\n"
      ++ codes "Via: SIP/2.0/TCP 127.0.0.1:5060;branch=z9hG4bKs1-0-1-2\r\nVia: SIP/2.0/TCP 127.0.0.1:5090;branch=z9hG4bKa1\r\n"
      ++ codes "Record-Route: <sip:127.0.0.1:5060;transport=tcp;lr;ap=0-1>\r\nFrom: <sip:alice@home.test>;tag=a\r\n"
      ++ codes "To: <sip:bob@home.test>;tag=t1\r\nCall-ID: c5\r\nCSeq: 1 INVITE\r\nContact: <sip:bob@127.0.0.1:5070>\r\n"
      ++ codes "Content-Length: 0\r\n\r\n\nrun\ntick 31999\nin 127.0.0.1:5070 334\nSIP/2.0 200 OK\r\n"
      ++ codes "Via: SIP/2.0/TCP 127.0.0.1:5060;branch=z9hG4bKs1-0-1-2\r\nVia: SIP/2.0/TCP 127.0.0.1:5090;branch=z9hG4bKa1\r\n"
      ++ codes "Record-Route: <sip:127.0.0.1:5060;transport=tcp;lr;ap=0-1>\r\nFrom: <sip:alice@home.test>;tag=a\r\n"
      ++ codes "To: <sip:bob@home.test>;tag=t2\r\nCall-ID: c5\r\nCSeq: 1 INVITE\r\nContact: <sip:bob@127.0.0.1:5070>\r\n"
      ++ codes "Content-Length: 0\r\n\r\n\nrun\ntick 32000\nin 127.0.0.1:5070 334\nSIP/2.0 200 OK\r\n"
      ++ codes "Via: SIP/2.0/TCP 127.0.0.1:5060;branch=z9hG4bKs1-0-1-2\r\nVia: SIP/2.0/TCP 127.0.0.1:5090;branch=z9hG4bKa1\r\n"
      ++ codes "Record-Route: <sip:127.0.0.1:5060;transport=tcp;lr;ap=0-1>\r\nFrom: <sip:alice@home.test>;tag=a\r\n"
      ++ codes "To: <sip:bob@home.test>;tag=t3\r\nCall-ID: c5\r\nCSeq: 1 INVITE\r\nContact: <sip:bob@127.0.0.1:5070>\r\n"
      ++ codes "Content-Length: 0\r\n\r\n\nrun\nend\n";
  output =
      codes "out c1 180\nSIP/2.0 100 Trying\r\nVia: SIP/2.0/TCP 127.0.0.1:5090;branch=z9hG4bKa1\r\n"
      ++ codes "From: <sip:alice@home.test>;tag=a\r\nTo: <sip:bob@home.test>\r\nCall-ID: c5\r\nCSeq: 1 INVITE\r\nContent-Length: 0\r\n\r\n"
      ++ codes "\nout 127.0.0.1:5070 370\nINVITE sip:bob@127.0.0.1:5070 SIP/2.0\r\n"
      ++ codes "Via: SIP/2.0/TCP 127.0.0.1:5060;branch=z9hG4bKs1-0-1-2\r\nVia: SIP/2.0/TCP 127.0.0.1:5090;branch=z9hG4bKa1\r\n"
      ++ codes "Record-Route: <sip:127.0.0.1:5060;transport=tcp;lr;ap=0-1>\r\nMax-Forwards: 69\r\n"
      ++ codes "From: <sip:alice@home.test>;tag=a\r\nTo: <sip:bob@home.test>\r\nCall-ID: c5\r\nCSeq: 1 INVITE\r\n"
      ++ codes "Contact: <sip:alice@127.0.0.1:5090>\r\nContent-Length: 0\r\n\r\n\nout c1 278\nSIP/2.0 200 OK\r\n"
      ++ codes "Via: SIP/2.0/TCP 127.0.0.1:5090;branch=z9hG4bKa1\r\nRecord-Route: <sip:127.0.0.1:5060;transport=tcp;lr;ap=0-1>\r\n"
      ++ codes "From: <sip:alice@home.test>;tag=a\r\nTo: <sip:bob@home.test>;tag=t1\r\nCall-ID: c5\r\nCSeq: 1 INVITE\r\n"
      ++ codes "Contact: <sip:bob@127.0.0.1:5070>\r\nContent-Length: 0\r\n\r\n\nout c1 278\nSIP/2.0 200 OK\r\n"
      ++ codes "Via: SIP/2.0/TCP 127.0.0.1:5090;branch=z9hG4bKa1\r\nRecord-Route: <sip:127.0.0.1:5060;transport=tcp;lr;ap=0-1>\r\n"
      ++ codes "From: <sip:alice@home.test>;tag=a\r\nTo: <sip:bob@home.test>;tag=t2\r\nCall-ID: c5\r\nCSeq: 1 INVITE\r\n"
      ++ codes "Contact: <sip:bob@127.0.0.1:5070>\r\nContent-Length: 0\r\n\r\n\nend 9 4 1\n";
}

unfoldable pub proxy_cases : List Case
proxy_cases = proxy_record_route ∷ proxy_redirect ∷ two_2xx_of_a_fork ∷ best_response_6xx ∷ best_response_challenges ∷ lost_place ∷ max_forwards_spent ∷ stray_2xx_in_accepted ∷ []
