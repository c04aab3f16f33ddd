use Rattle.std.proofs.Common.{sym, subst, ap, ◌∙◌, slice_index_or}
use Rattle.sc_value.specs.OtherFields.{IsOther}
use Rattle.sc_value.proofs.OtherLaws.{other_at}
use Rattle.sc_value.proofs.others.Others.push_copy.Goals as goal

-- the header at the place is one of others
pub put_copy-requires : goal.put_copy-requires
put_copy-requires c =
    subst (λ x. IsOther x) (sym (c.index-as_slice-at.is ∙ ap (λ fields. slice_index_or fields c.args.at c.index-as_slice-at.result) c.as_slice.ensures)) (other_at c.args.others.now c.args.at c.index-as_slice-at.result c.known.ensures c.requires)
