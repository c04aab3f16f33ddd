use Rattle.sc_model.proofs.DialogTargets.{last_uri_step}
use Rattle.sc_dialog.proofs.targets.last_uri.Goals as goal

pub loop-contact-preserved : goal.loop-contact-preserved
loop-contact-preserved c =
    last_uri_step _ _ _ _ _ c.loop-contact-test.true c.contact-item.is c.loop-contact.invariant c.later_uri-last.ensures
