use Rattle.std.proofs.Common.{rules, List, [], sym, subst}
use Rattle.std.proofs.lemmas.Fn.{filter_same}
use Rattle.sc_runs.specs.Following.{IsKept}
use Rattle.sc_streams.specs.declared.streams.Pending.{Pending}
use Rattle.sc_streams.specs.Streaming.{bytes_of}
use Rattle.sc_streams.proofs.Pendings.{dropped_kept}
use Rattle.sc_streams.proofs.streams.drop_in.Goals as goal

pub returns : goal.returns
returns c =
    subst (λ (now : List Pending). IsKept (bytes_of c.args.streams.now.items) c.args.place [] (bytes_of now))
    (sym (filter_same _ _ _ (λ x b f' k. search rules) _ _ c.retain.ensures.filtered)) (dropped_kept c.args.streams.now.items c.args.place)
