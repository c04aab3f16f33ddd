-- Worked cases. Calls that one application answers: dialogs, CANCEL, repeated requests, expiry and withdrawal.
use Rattle.std.specs.Prelude.{List, [], ◌∷◌, ◌++◌, codes}
use Rattle.sc_worked.proofs.Trying.{Case, app, tuple, set_up}

unfoldable pub smallest_run : Case
smallest_run = record {
  setup = set_up (app (codes "a0") 0 ([]) ∷ []) (record { method = (codes "INVITE"); tuples = (tuple 0 ∷ []) } ∷ record { method = (codes "OPTIONS"); tuples = (tuple 0 ∷ []) } ∷ record { method = (codes "MESSAGE"); tuples = (tuple 0 ∷ []) } ∷ []);
  script =
      codes "in c1 217\nOPTIONS sip:alice@home.test SIP/2.0\r\nVia: SIP/2.0/TCP 127.0.0.1:5090;branch=z9hG4bKa1\r\n"
      ++ codes "Max-Forwards: 70\r\nFrom: <sip:bob@home.test>;tag=b1\r\nTo: <sip:alice@home.test>\r\nCall-ID: c1\r\nCSeq: 1 OPTIONS\r\n"
      ++ codes "Content-Length: 0\r\n\r\n\nrun\nend\n";
  output =
      codes "out c1 191\nSIP/2.0 200 OK\r\nVia: SIP/2.0/TCP 127.0.0.1:5090;branch=z9hG4bKa1\r\n"
      ++ codes "From: <sip:bob@home.test>;tag=b1\r\nTo: <sip:alice@home.test>;tag=s1-0-1-1\r\nCall-ID: c1\r\nCSeq: 1 OPTIONS\r\n"
      ++ codes "Content-Length: 0\r\n\r\n\nend 3 1 0\n";
}

unfoldable pub called_side_dialog : Case
called_side_dialog = record {
  setup = set_up (app (codes "a0") 0 ([]) ∷ []) (record { method = (codes "INVITE"); tuples = (tuple 0 ∷ []) } ∷ record { method = (codes "OPTIONS"); tuples = (tuple 0 ∷ []) } ∷ record { method = (codes "MESSAGE"); tuples = (tuple 0 ∷ []) } ∷ []);
  script =
      codes "in c1 254\nINVITE sip:bob@127.0.0.1:5070 SIP/2.0\r\nVia: SIP/2.0/TCP 127.0.0.1:5090;branch=z9hG4bKa1\r\n"
      ++ codes "Max-Forwards: 70\r\nFrom: <sip:alice@home.test>;tag=a\r\nTo: <sip:bob@home.test>\r\nCall-ID: c5\r\nCSeq: 1 INVITE\r\n"
      ++ codes "Contact: <sip:alice@127.0.0.1:5090>\r\nContent-Length: 0\r\n\r\n\nrun\nin c1 244\n"
      ++ codes "ACK sip:127.0.0.1:5060;transport=tcp;lr;ap=0-1 SIP/2.0\r\nVia: SIP/2.0/TCP 127.0.0.1:5090;branch=z9hG4bKi1\r\n"
      ++ codes "Max-Forwards: 70\r\nFrom: <sip:alice@home.test>;tag=a\r\nTo: <sip:bob@home.test>;tag=s1-0-1-1\r\nCall-ID: c5\r\n"
      ++ codes "CSeq: 1 ACK\r\nContent-Length: 0\r\n\r\n\nin c1 244\nBYE sip:127.0.0.1:5060;transport=tcp;lr;ap=0-1 SIP/2.0\r\n"
      ++ codes "Via: SIP/2.0/TCP 127.0.0.1:5090;branch=z9hG4bKi2\r\nMax-Forwards: 70\r\nFrom: <sip:alice@home.test>;tag=a\r\n"
      ++ codes "To: <sip:bob@home.test>;tag=s1-0-1-1\r\nCall-ID: c5\r\nCSeq: 2 BYE\r\nContent-Length: 0\r\n\r\n\nrun\nend\n";
  output =
      codes "out c1 180\nSIP/2.0 100 Trying\r\nVia: SIP/2.0/TCP 127.0.0.1:5090;branch=z9hG4bKa1\r\n"
      ++ codes "From: <sip:alice@home.test>;tag=a\r\nTo: <sip:bob@home.test>\r\nCall-ID: c5\r\nCSeq: 1 INVITE\r\nContent-Length: 0\r\n\r\n"
      ++ codes "\nout c1 244\nSIP/2.0 200 OK\r\nVia: SIP/2.0/TCP 127.0.0.1:5090;branch=z9hG4bKa1\r\n"
      ++ codes "From: <sip:alice@home.test>;tag=a\r\nTo: <sip:bob@home.test>;tag=s1-0-1-1\r\nCall-ID: c5\r\nCSeq: 1 INVITE\r\n"
      ++ codes "Contact: <sip:127.0.0.1:5060;transport=tcp;lr;ap=0-1>\r\nContent-Length: 0\r\n\r\n\nout c1 186\nSIP/2.0 200 OK\r\n"
      ++ codes "Via: SIP/2.0/TCP 127.0.0.1:5090;branch=z9hG4bKi2\r\nFrom: <sip:alice@home.test>;tag=a\r\n"
      ++ codes "To: <sip:bob@home.test>;tag=s1-0-1-1\r\nCall-ID: c5\r\nCSeq: 2 BYE\r\nContent-Length: 0\r\n\r\n\nend 7 3 0\n";
}

unfoldable pub cancel_early : Case
cancel_early = record {
  setup = set_up (app (codes "a0") 8 ((codes "60000") ∷ []) ∷ []) (record { method = (codes "INVITE"); tuples = (tuple 0 ∷ []) } ∷ record { method = (codes "OPTIONS"); tuples = (tuple 0 ∷ []) } ∷ record { method = (codes "MESSAGE"); tuples = (tuple 0 ∷ []) } ∷ []);
  script =
      codes "in c1 254\nINVITE sip:bob@127.0.0.1:5070 SIP/2.0\r\nVia: SIP/2.0/TCP 127.0.0.1:5090;branch=z9hG4bKa1\r\n"
      ++ codes "Max-Forwards: 70\r\nFrom: <sip:alice@home.test>;tag=a\r\nTo: <sip:bob@home.test>\r\nCall-ID: c5\r\nCSeq: 1 INVITE\r\n"
      ++ codes "Contact: <sip:alice@127.0.0.1:5090>\r\nContent-Length: 0\r\n\r\n\nin c1 217\nCANCEL sip:bob@127.0.0.1:5070 SIP/2.0\r\n"
      ++ codes "Via: SIP/2.0/TCP 127.0.0.1:5090;branch=z9hG4bKa1\r\nMax-Forwards: 70\r\nFrom: <sip:alice@home.test>;tag=a\r\n"
      ++ codes "To: <sip:bob@home.test>\r\nCall-ID: c5\r\nCSeq: 1 CANCEL\r\nContent-Length: 0\r\n\r\n\nturn 0 1\nturn 0 1\nend\n";
  output =
      codes "out c1 180\nSIP/2.0 100 Trying\r\nVia: SIP/2.0/TCP 127.0.0.1:5090;branch=z9hG4bKa1\r\n"
      ++ codes "From: <sip:alice@home.test>;tag=a\r\nTo: <sip:bob@home.test>\r\nCall-ID: c5\r\nCSeq: 1 INVITE\r\nContent-Length: 0\r\n\r\n"
      ++ codes "\nout c1 189\nSIP/2.0 200 OK\r\nVia: SIP/2.0/TCP 127.0.0.1:5090;branch=z9hG4bKa1\r\n"
      ++ codes "From: <sip:alice@home.test>;tag=a\r\nTo: <sip:bob@home.test>;tag=s1-0-1-1\r\nCall-ID: c5\r\nCSeq: 1 CANCEL\r\n"
      ++ codes "Content-Length: 0\r\n\r\n\nout c1 249\nSIP/2.0 180 Ringing\r\nVia: SIP/2.0/TCP 127.0.0.1:5090;branch=z9hG4bKa1\r\n"
      ++ codes "From: <sip:alice@home.test>;tag=a\r\nTo: <sip:bob@home.test>;tag=s1-0-1-1\r\nCall-ID: c5\r\nCSeq: 1 INVITE\r\n"
      ++ codes "Contact: <sip:127.0.0.1:5060;transport=tcp;lr;ap=0-1>\r\nContent-Length: 0\r\n\r\n\nout c1 205\n"
      ++ codes "SIP/2.0 487 Request Terminated\r\nVia: SIP/2.0/TCP 127.0.0.1:5090;branch=z9hG4bKa1\r\n"
      ++ codes "From: <sip:alice@home.test>;tag=a\r\nTo: <sip:bob@home.test>;tag=s1-0-1-1\r\nCall-ID: c5\r\nCSeq: 1 INVITE\r\n"
      ++ codes "Content-Length: 0\r\n\r\n\nend 4 4 1\n";
}

unfoldable pub cancel_before_the_turn : Case
cancel_before_the_turn = record {
  setup = set_up (app (codes "a0") 0 ([]) ∷ []) (record { method = (codes "INVITE"); tuples = (tuple 0 ∷ []) } ∷ record { method = (codes "OPTIONS"); tuples = (tuple 0 ∷ []) } ∷ record { method = (codes "MESSAGE"); tuples = (tuple 0 ∷ []) } ∷ []);
  script =
      codes "in c1 254\nINVITE sip:bob@127.0.0.1:5070 SIP/2.0\r\nVia: SIP/2.0/TCP 127.0.0.1:5090;branch=z9hG4bKa1\r\n"
      ++ codes "Max-Forwards: 70\r\nFrom: <sip:alice@home.test>;tag=a\r\nTo: <sip:bob@home.test>\r\nCall-ID: c5\r\nCSeq: 1 INVITE\r\n"
      ++ codes "Contact: <sip:alice@127.0.0.1:5090>\r\nContent-Length: 0\r\n\r\n\nin c1 217\nCANCEL sip:bob@127.0.0.1:5070 SIP/2.0\r\n"
      ++ codes "Via: SIP/2.0/TCP 127.0.0.1:5090;branch=z9hG4bKa1\r\nMax-Forwards: 70\r\nFrom: <sip:alice@home.test>;tag=a\r\n"
      ++ codes "To: <sip:bob@home.test>\r\nCall-ID: c5\r\nCSeq: 1 CANCEL\r\nContent-Length: 0\r\n\r\n\nrun\nend\n";
  output =
      codes "out c1 180\nSIP/2.0 100 Trying\r\nVia: SIP/2.0/TCP 127.0.0.1:5090;branch=z9hG4bKa1\r\n"
      ++ codes "From: <sip:alice@home.test>;tag=a\r\nTo: <sip:bob@home.test>\r\nCall-ID: c5\r\nCSeq: 1 INVITE\r\nContent-Length: 0\r\n\r\n"
      ++ codes "\nout c1 189\nSIP/2.0 200 OK\r\nVia: SIP/2.0/TCP 127.0.0.1:5090;branch=z9hG4bKa1\r\n"
      ++ codes "From: <sip:alice@home.test>;tag=a\r\nTo: <sip:bob@home.test>;tag=s1-0-1-1\r\nCall-ID: c5\r\nCSeq: 1 CANCEL\r\n"
      ++ codes "Content-Length: 0\r\n\r\n\nout c1 244\nSIP/2.0 200 OK\r\nVia: SIP/2.0/TCP 127.0.0.1:5090;branch=z9hG4bKa1\r\n"
      ++ codes "From: <sip:alice@home.test>;tag=a\r\nTo: <sip:bob@home.test>;tag=s1-0-1-1\r\nCall-ID: c5\r\nCSeq: 1 INVITE\r\n"
      ++ codes "Contact: <sip:127.0.0.1:5060;transport=tcp;lr;ap=0-1>\r\nContent-Length: 0\r\n\r\n\nend 4 3 1\n";
}

unfoldable pub cancel_after_accepted : Case
cancel_after_accepted = record {
  setup = set_up (app (codes "a0") 4 ([]) ∷ []) (record { method = (codes "INVITE"); tuples = (tuple 0 ∷ []) } ∷ record { method = (codes "OPTIONS"); tuples = (tuple 0 ∷ []) } ∷ record { method = (codes "MESSAGE"); tuples = (tuple 0 ∷ []) } ∷ []);
  script =
      codes "in c1 254\nINVITE sip:bob@127.0.0.1:5070 SIP/2.0\r\nVia: SIP/2.0/TCP 127.0.0.1:5090;branch=z9hG4bKa1\r\n"
      ++ codes "Max-Forwards: 70\r\nFrom: <sip:alice@home.test>;tag=a\r\nTo: <sip:bob@home.test>\r\nCall-ID: c5\r\nCSeq: 1 INVITE\r\n"
      ++ codes "Contact: <sip:alice@127.0.0.1:5090>\r\nContent-Length: 0\r\n\r\n\nrun\nin 127.0.0.1:5070 334\nSIP/2.0 200 OK\r\n"
      ++ codes "Via: SIP/2.0/TCP 127.0.0.1:5060;branch=z9hG4bKs1-0-1-2\r\nVia: SIP/2.0/TCP 127.0.0.1:5090;branch=z9hG4bKa1\r\n"
      ++ codes "Record-Route: <sip:127.0.0.1:5060;transport=tcp;lr;ap=0-1>\r\nFrom: <sip:alice@home.test>;tag=a\r\n"
      ++ codes "To: <sip:bob@home.test>;tag=t1\r\nCall-ID: c5\r\nCSeq: 1 INVITE\r\nContact: <sip:bob@127.0.0.1:5070>\r\n"
      ++ codes "Content-Length: 0\r\n\r\n\nrun\ntick 32000\nin c1 217\nCANCEL sip:bob@127.0.0.1:5070 SIP/2.0\r\n"
      ++ codes "Via: SIP/2.0/TCP 127.0.0.1:5090;branch=z9hG4bKa1\r\nMax-Forwards: 70\r\nFrom: <sip:alice@home.test>;tag=a\r\n"
      ++ codes "To: <sip:bob@home.test>\r\nCall-ID: c5\r\nCSeq: 1 CANCEL\r\nContent-Length: 0\r\n\r\n\nend\n";
  output =
      codes "out c1 180\nSIP/2.0 100 Trying\r\nVia: SIP/2.0/TCP 127.0.0.1:5090;branch=z9hG4bKa1\r\n"
      ++ codes "From: <sip:alice@home.test>;tag=a\r\nTo: <sip:bob@home.test>\r\nCall-ID: c5\r\nCSeq: 1 INVITE\r\nContent-Length: 0\r\n\r\n"
      ++ codes "\nout 127.0.0.1:5070 370\nINVITE sip:bob@127.0.0.1:5070 SIP/2.0\r\n"
      ++ codes "Via: SIP/2.0/TCP 127.0.0.1:5060;branch=z9hG4bKs1-0-1-2\r\nVia: SIP/2.0/TCP 127.0.0.1:5090;branch=z9hG4bKa1\r\n"
      ++ codes "Record-Route: <sip:127.0.0.1:5060;transport=tcp;lr;ap=0-1>\r\nMax-Forwards: 69\r\n"
      ++ codes "From: <sip:alice@home.test>;tag=a\r\nTo: <sip:bob@home.test>\r\nCall-ID: c5\r\nCSeq: 1 INVITE\r\n"
      ++ codes "Contact: <sip:alice@127.0.0.1:5090>\r\nContent-Length: 0\r\n\r\n\nout c1 278\nSIP/2.0 200 OK\r\n"
      ++ codes "Via: SIP/2.0/TCP 127.0.0.1:5090;branch=z9hG4bKa1\r\nRecord-Route: <sip:127.0.0.1:5060;transport=tcp;lr;ap=0-1>\r\n"
      ++ codes "From: <sip:alice@home.test>;tag=a\r\nTo: <sip:bob@home.test>;tag=t1\r\nCall-ID: c5\r\nCSeq: 1 INVITE\r\n"
      ++ codes "Contact: <sip:bob@127.0.0.1:5070>\r\nContent-Length: 0\r\n\r\n\nout c1 217\n"
      ++ codes "SIP/2.0 481 Call/Transaction Does Not Exist\r\nVia: SIP/2.0/TCP 127.0.0.1:5090;branch=z9hG4bKa1\r\n"
      ++ codes "From: <sip:alice@home.test>;tag=a\r\nTo: <sip:bob@home.test>;tag=s1-edge\r\nCall-ID: c5\r\nCSeq: 1 CANCEL\r\n"
      ++ codes "Content-Length: 0\r\n\r\n\nend 6 4 1\n";
}

unfoldable pub cancel_matches_nothing : Case
cancel_matches_nothing = record {
  setup = set_up (app (codes "a0") 0 ([]) ∷ []) (record { method = (codes "INVITE"); tuples = (tuple 0 ∷ []) } ∷ record { method = (codes "OPTIONS"); tuples = (tuple 0 ∷ []) } ∷ record { method = (codes "MESSAGE"); tuples = (tuple 0 ∷ []) } ∷ []);
  script =
      codes "in c1 215\nCANCEL sip:alice@home.test SIP/2.0\r\nVia: SIP/2.0/TCP 127.0.0.1:5090;branch=z9hG4bKa1\r\n"
      ++ codes "Max-Forwards: 70\r\nFrom: <sip:bob@home.test>;tag=b1\r\nTo: <sip:alice@home.test>\r\nCall-ID: c1\r\nCSeq: 1 CANCEL\r\n"
      ++ codes "Content-Length: 0\r\n\r\n\nend\n";
  output =
      codes "out c1 218\nSIP/2.0 481 Call/Transaction Does Not Exist\r\nVia: SIP/2.0/TCP 127.0.0.1:5090;branch=z9hG4bKa1\r\n"
      ++ codes "From: <sip:bob@home.test>;tag=b1\r\nTo: <sip:alice@home.test>;tag=s1-edge\r\nCall-ID: c1\r\nCSeq: 1 CANCEL\r\n"
      ++ codes "Content-Length: 0\r\n\r\n\nend 1 1 0\n";
}

unfoldable pub repeated_request : Case
repeated_request = record {
  setup = set_up (app (codes "a0") 0 ([]) ∷ []) (record { method = (codes "INVITE"); tuples = (tuple 0 ∷ []) } ∷ record { method = (codes "OPTIONS"); tuples = (tuple 0 ∷ []) } ∷ record { method = (codes "MESSAGE"); tuples = (tuple 0 ∷ []) } ∷ []);
  script =
      codes "in c1 217\nOPTIONS sip:alice@home.test SIP/2.0\r\nVia: SIP/2.0/TCP 127.0.0.1:5090;branch=z9hG4bKa1\r\n"
      ++ codes "Max-Forwards: 70\r\nFrom: <sip:bob@home.test>;tag=b1\r\nTo: <sip:alice@home.test>\r\nCall-ID: c1\r\nCSeq: 1 OPTIONS\r\n"
      ++ codes "Content-Length: 0\r\n\r\n\nin c1 217\nOPTIONS sip:alice@home.test SIP/2.0\r\n"
      ++ codes "Via: SIP/2.0/TCP 127.0.0.1:5090;branch=z9hG4bKa1\r\nMax-Forwards: 70\r\nFrom: <sip:bob@home.test>;tag=b1\r\n"
      ++ codes "To: <sip:alice@home.test>\r\nCall-ID: c1\r\nCSeq: 1 OPTIONS\r\nContent-Length: 0\r\n\r\n\nrun\nend\n";
  output =
      codes "out c1 191\nSIP/2.0 200 OK\r\nVia: SIP/2.0/TCP 127.0.0.1:5090;branch=z9hG4bKa1\r\n"
      ++ codes "From: <sip:bob@home.test>;tag=b1\r\nTo: <sip:alice@home.test>;tag=s1-0-1-1\r\nCall-ID: c1\r\nCSeq: 1 OPTIONS\r\n"
      ++ codes "Content-Length: 0\r\n\r\n\nend 4 1 0\n";
}

unfoldable pub no_list_for_the_method : Case
no_list_for_the_method = record {
  setup = set_up (app (codes "a0") 0 ([]) ∷ []) (record { method = (codes "OPTIONS"); tuples = (tuple 0 ∷ []) } ∷ []);
  script =
      codes "in c1 215\nINVITE sip:alice@home.test SIP/2.0\r\nVia: SIP/2.0/TCP 127.0.0.1:5090;branch=z9hG4bKa1\r\n"
      ++ codes "Max-Forwards: 70\r\nFrom: <sip:bob@home.test>;tag=b1\r\nTo: <sip:alice@home.test>\r\nCall-ID: c1\r\nCSeq: 1 INVITE\r\n"
      ++ codes "Content-Length: 0\r\n\r\n\nrun\nend\n";
  output =
      codes "out c1 196\nSIP/2.0 404 Not Found\r\nVia: SIP/2.0/TCP 127.0.0.1:5090;branch=z9hG4bKa1\r\n"
      ++ codes "From: <sip:bob@home.test>;tag=b1\r\nTo: <sip:alice@home.test>;tag=s1-edge\r\nCall-ID: c1\r\nCSeq: 1 INVITE\r\n"
      ++ codes "Content-Length: 0\r\n\r\n\nend 1 1 0\n";
}

unfoldable pub hostile_forged_branch : Case
hostile_forged_branch = record {
  setup = set_up (app (codes "a0") 0 ([]) ∷ []) (record { method = (codes "OPTIONS"); tuples = (tuple 0 ∷ []) } ∷ []);
  script =
      codes "in c1 197\nSIP/2.0 200 OK\r\nVia: SIP/2.0/TCP 127.0.0.1:5090;branch=z9hG4bKs1-0-1-9\r\n"
      ++ codes "From: <sip:bob@home.test>;tag=b1\r\nTo: <sip:alice@home.test>;tag=s1-0-1-1\r\nCall-ID: c1\r\nCSeq: 1 OPTIONS\r\n"
      ++ codes "Content-Length: 0\r\n\r\n\nrun\nend\n";
  output =
      codes "end 1 0 0\n";
}

unfoldable pub expiry : Case
expiry = record {
  setup = set_up (app (codes "a0") 8 ((codes "600000") ∷ []) ∷ []) (record { method = (codes "INVITE"); tuples = (tuple 0 ∷ []) } ∷ record { method = (codes "OPTIONS"); tuples = (tuple 0 ∷ []) } ∷ record { method = (codes "MESSAGE"); tuples = (tuple 0 ∷ []) } ∷ []);
  script =
      codes "in c1 254\nINVITE sip:bob@127.0.0.1:5070 SIP/2.0\r\nVia: SIP/2.0/TCP 127.0.0.1:5090;branch=z9hG4bKa1\r\n"
      ++ codes "Max-Forwards: 70\r\nFrom: <sip:alice@home.test>;tag=a\r\nTo: <sip:bob@home.test>\r\nCall-ID: c5\r\nCSeq: 1 INVITE\r\n"
      ++ codes "Contact: <sip:alice@127.0.0.1:5090>\r\nContent-Length: 0\r\n\r\n\nturn 0 1\ntick 179999\nrun\ntick 180000\nrun\n"
      ++ codes "tick 360000\nrun\nend\n";
  output =
      codes "out c1 180\nSIP/2.0 100 Trying\r\nVia: SIP/2.0/TCP 127.0.0.1:5090;branch=z9hG4bKa1\r\n"
      ++ codes "From: <sip:alice@home.test>;tag=a\r\nTo: <sip:bob@home.test>\r\nCall-ID: c5\r\nCSeq: 1 INVITE\r\nContent-Length: 0\r\n\r\n"
      ++ codes "\nout c1 249\nSIP/2.0 180 Ringing\r\nVia: SIP/2.0/TCP 127.0.0.1:5090;branch=z9hG4bKa1\r\n"
      ++ codes "From: <sip:alice@home.test>;tag=a\r\nTo: <sip:bob@home.test>;tag=s1-0-1-1\r\nCall-ID: c5\r\nCSeq: 1 INVITE\r\n"
      ++ codes "Contact: <sip:127.0.0.1:5060;transport=tcp;lr;ap=0-1>\r\nContent-Length: 0\r\n\r\n\nout c1 208\n"
      ++ codes "SIP/2.0 500 Server Internal Error\r\nVia: SIP/2.0/TCP 127.0.0.1:5090;branch=z9hG4bKa1\r\n"
      ++ codes "From: <sip:alice@home.test>;tag=a\r\nTo: <sip:bob@home.test>;tag=s1-0-1-1\r\nCall-ID: c5\r\nCSeq: 1 INVITE\r\n"
      ++ codes "Content-Length: 0\r\n\r\n\nend 7 3 0\n";
}

unfoldable pub invalidation_by_itself : Case
invalidation_by_itself = record {
  setup = set_up (app (codes "a0") 8 ((codes "1000") ∷ (codes "drop") ∷ []) ∷ []) (record { method = (codes "INVITE"); tuples = (tuple 0 ∷ []) } ∷ record { method = (codes "OPTIONS"); tuples = (tuple 0 ∷ []) } ∷ record { method = (codes "MESSAGE"); tuples = (tuple 0 ∷ []) } ∷ []);
  script =
      codes "in c1 254\nINVITE sip:bob@127.0.0.1:5070 SIP/2.0\r\nVia: SIP/2.0/TCP 127.0.0.1:5090;branch=z9hG4bKa1\r\n"
      ++ codes "Max-Forwards: 70\r\nFrom: <sip:alice@home.test>;tag=a\r\nTo: <sip:bob@home.test>\r\nCall-ID: c5\r\nCSeq: 1 INVITE\r\n"
      ++ codes "Contact: <sip:alice@127.0.0.1:5090>\r\nContent-Length: 0\r\n\r\n\nturn 0 1\ntick 1000\nin c1 244\n"
      ++ codes "BYE sip:127.0.0.1:5060;transport=tcp;lr;ap=0-1 SIP/2.0\r\nVia: SIP/2.0/TCP 127.0.0.1:5090;branch=z9hG4bKb2\r\n"
      ++ codes "Max-Forwards: 70\r\nFrom: <sip:alice@home.test>;tag=a\r\nTo: <sip:bob@home.test>;tag=s1-0-1-1\r\nCall-ID: c5\r\n"
      ++ codes "CSeq: 2 BYE\r\nContent-Length: 0\r\n\r\n\nin c1 246\nINFO sip:127.0.0.1:5060;transport=tcp;lr;ap=0-1 SIP/2.0\r\n"
      ++ codes "Via: SIP/2.0/TCP 127.0.0.1:5090;branch=z9hG4bKb3\r\nMax-Forwards: 70\r\nFrom: <sip:alice@home.test>;tag=a\r\n"
      ++ codes "To: <sip:bob@home.test>;tag=s1-0-1-1\r\nCall-ID: c5\r\nCSeq: 3 INFO\r\nContent-Length: 0\r\n\r\n\nturn 0 1\nturn 0 1\nend\n";
  output =
      codes "out c1 180\nSIP/2.0 100 Trying\r\nVia: SIP/2.0/TCP 127.0.0.1:5090;branch=z9hG4bKa1\r\n"
      ++ codes "From: <sip:alice@home.test>;tag=a\r\nTo: <sip:bob@home.test>\r\nCall-ID: c5\r\nCSeq: 1 INVITE\r\nContent-Length: 0\r\n\r\n"
      ++ codes "\nout c1 249\nSIP/2.0 180 Ringing\r\nVia: SIP/2.0/TCP 127.0.0.1:5090;branch=z9hG4bKa1\r\n"
      ++ codes "From: <sip:alice@home.test>;tag=a\r\nTo: <sip:bob@home.test>;tag=s1-0-1-1\r\nCall-ID: c5\r\nCSeq: 1 INVITE\r\n"
      ++ codes "Contact: <sip:127.0.0.1:5060;transport=tcp;lr;ap=0-1>\r\nContent-Length: 0\r\n\r\n\nout c1 208\n"
      ++ codes "SIP/2.0 500 Server Internal Error\r\nVia: SIP/2.0/TCP 127.0.0.1:5090;branch=z9hG4bKa1\r\n"
      ++ codes "From: <sip:alice@home.test>;tag=a\r\nTo: <sip:bob@home.test>;tag=s1-0-1-1\r\nCall-ID: c5\r\nCSeq: 1 INVITE\r\n"
      ++ codes "Content-Length: 0\r\n\r\n\nout c1 215\nSIP/2.0 481 Call/Transaction Does Not Exist\r\n"
      ++ codes "Via: SIP/2.0/TCP 127.0.0.1:5090;branch=z9hG4bKb2\r\nFrom: <sip:alice@home.test>;tag=a\r\n"
      ++ codes "To: <sip:bob@home.test>;tag=s1-0-1-1\r\nCall-ID: c5\r\nCSeq: 2 BYE\r\nContent-Length: 0\r\n\r\n\nout c1 216\n"
      ++ codes "SIP/2.0 481 Call/Transaction Does Not Exist\r\nVia: SIP/2.0/TCP 127.0.0.1:5090;branch=z9hG4bKb3\r\n"
      ++ codes "From: <sip:alice@home.test>;tag=a\r\nTo: <sip:bob@home.test>;tag=s1-0-1-1\r\nCall-ID: c5\r\nCSeq: 3 INFO\r\n"
      ++ codes "Content-Length: 0\r\n\r\n\nend 6 5 0\n";
}

unfoldable pub withdrawn_while_ringing : Case
withdrawn_while_ringing = record {
  setup = set_up (app (codes "a0") 8 ((codes "1000") ∷ []) ∷ []) (record { method = (codes "INVITE"); tuples = (tuple 0 ∷ []) } ∷ record { method = (codes "OPTIONS"); tuples = (tuple 0 ∷ []) } ∷ record { method = (codes "MESSAGE"); tuples = (tuple 0 ∷ []) } ∷ []);
  script =
      codes "in c1 254\nINVITE sip:bob@127.0.0.1:5070 SIP/2.0\r\nVia: SIP/2.0/TCP 127.0.0.1:5090;branch=z9hG4bKa1\r\n"
      ++ codes "Max-Forwards: 70\r\nFrom: <sip:alice@home.test>;tag=a\r\nTo: <sip:bob@home.test>\r\nCall-ID: c5\r\nCSeq: 1 INVITE\r\n"
      ++ codes "Contact: <sip:alice@127.0.0.1:5090>\r\nContent-Length: 0\r\n\r\n\nturn 0 1\ntick 1000\nin c1 244\n"
      ++ codes "BYE sip:127.0.0.1:5060;transport=tcp;lr;ap=0-1 SIP/2.0\r\nVia: SIP/2.0/TCP 127.0.0.1:5090;branch=z9hG4bKb2\r\n"
      ++ codes "Max-Forwards: 70\r\nFrom: <sip:alice@home.test>;tag=a\r\nTo: <sip:bob@home.test>;tag=s1-0-1-1\r\nCall-ID: c5\r\n"
      ++ codes "CSeq: 2 BYE\r\nContent-Length: 0\r\n\r\n\nend\n";
  output =
      codes "out c1 180\nSIP/2.0 100 Trying\r\nVia: SIP/2.0/TCP 127.0.0.1:5090;branch=z9hG4bKa1\r\n"
      ++ codes "From: <sip:alice@home.test>;tag=a\r\nTo: <sip:bob@home.test>\r\nCall-ID: c5\r\nCSeq: 1 INVITE\r\nContent-Length: 0\r\n\r\n"
      ++ codes "\nout c1 249\nSIP/2.0 180 Ringing\r\nVia: SIP/2.0/TCP 127.0.0.1:5090;branch=z9hG4bKa1\r\n"
      ++ codes "From: <sip:alice@home.test>;tag=a\r\nTo: <sip:bob@home.test>;tag=s1-0-1-1\r\nCall-ID: c5\r\nCSeq: 1 INVITE\r\n"
      ++ codes "Contact: <sip:127.0.0.1:5060;transport=tcp;lr;ap=0-1>\r\nContent-Length: 0\r\n\r\n\nend 4 2 1\n";
}

unfoldable pub call_cases : List Case
call_cases = smallest_run ∷ called_side_dialog ∷ cancel_early ∷ cancel_before_the_turn ∷ cancel_after_accepted ∷ cancel_matches_nothing ∷ repeated_request ∷ no_list_for_the_method ∷ hostile_forged_branch ∷ expiry ∷ invalidation_by_itself ∷ withdrawn_while_ringing ∷ []
