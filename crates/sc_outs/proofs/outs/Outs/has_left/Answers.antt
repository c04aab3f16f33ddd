use Rattle.sc_outs.proofs.EntryLaws.{is_left, none_left, not_left, read_found, read_none}
use Rattle.sc_outs.proofs.Owings.{left_seen}
use Rattle.sc_outs.proofs.outs.Outs.has_left.Goals as goal

pub returns-in-Some-clause-exact : goal.returns-in-Some-clause-exact
returns-in-Some-clause-exact c =
    is_left _ _ _ (left_seen _ _ _ _ _ c.self.view_is (read_found _ _ _ _ _ _ _ _ c.as_slice.ensures c.place_of.ensures c.in-Some.is c.as_slice-in-Some.ensures c.index-as_slice-at.is c.left.ensures)) c.is_empty.ensures

pub returns-in-Some-clause-none : goal.returns-in-Some-clause-none
returns-in-Some-clause-none c =
    none_left _ _ _ (left_seen _ _ _ _ _ c.self.view_is (read_found _ _ _ _ _ _ _ _ c.as_slice.ensures c.place_of.ensures c.in-Some.is c.as_slice-in-Some.ensures c.index-as_slice-at.is c.left.ensures)) c.is_empty.ensures

pub returns-in-None-clause-exact : goal.returns-in-None-clause-exact
returns-in-None-clause-exact c = not_left _ (left_seen _ _ _ _ _ c.self.view_is (read_none _ _ _ _ c.as_slice.ensures c.place_of.ensures c.in-None.is))

pub returns-in-None-clause-none : goal.returns-in-None-clause-none
returns-in-None-clause-none c same = left_seen _ _ _ _ _ c.self.view_is (read_none _ _ _ _ c.as_slice.ensures c.place_of.ensures c.in-None.is)
