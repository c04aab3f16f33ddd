use Rattle.sc_model.proofs.Names.{branch_same, tag_same, call_id_same, ap_same, edge_apart}
use Rattle.sc_names.proofs.OwnUriLaws.{session_uri_same}
use Rattle.sc_names.proofs.laws.names_are_apart.Goals as goal

pub returns-clause-branches : goal.returns-clause-branches
returns-clause-branches c = branch_same

pub returns-clause-tags : goal.returns-clause-tags
returns-clause-tags c = tag_same

pub returns-clause-call_ids : goal.returns-clause-call_ids
returns-clause-call_ids c = call_id_same

pub returns-clause-sessions : goal.returns-clause-sessions
returns-clause-sessions c = ap_same

pub returns-clause-uris : goal.returns-clause-uris
returns-clause-uris c = session_uri_same

pub returns-clause-edge : goal.returns-clause-edge
returns-clause-edge c = edge_apart
