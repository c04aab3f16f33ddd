use Rattle.std.proofs.Common.{drop, fold, ap, ◌∙◌}
use Rattle.std.specs.Arc.{arc_value}
use Rattle.sc_edge.specs.declared.listing.Listing.{Listing}
use Rattle.sc_watch.proofs.Histories.{both_ok, last_shown, newest_of, of_ok, puts_newest}
use Rattle.sc_watch.proofs.watch.show.Goals as goal

-- the listing is the last of those that are to be shown
pub publish_as-requires : goal.publish_as-requires
publish_as-requires g c next is =
    let pending = of_ok _ c.append.result c.if-is_err.ensures.value c.append.ensures.pending in
    let now = c.append.new.self.desk.shown.value in
    puts_newest _ _ now next (arc_value c.args.writer.desk.shown.value.listing) (arc_value c.args.listing) (ap (λ d. arc_value d.shown.value.listing) c.append.ensures.desk)
    (is ∙ (ap (fold (λ (_ : Listing) op. arc_value op) (arc_value now.listing)) pending ∙ last_shown arc_value (arc_value now.listing) (drop c.args.writer.behind c.args.writer.log.items) c.args.listing)) c.requires

pub returns-clause-ok : goal.returns-clause-ok
returns-clause-ok g c =
    let pending = of_ok _ c.append.result c.if-is_err.ensures.value c.append.ensures.pending in
    let now = c.append.new.self.desk.shown.value in
    both_ok _ _ c.publish_as.result.1 c.publish_as.ensures.values c.publish_as.ensures.values
    (λ shown _. shown.0 ∙ (ap (fold (λ (_ : Listing) op. arc_value op) (arc_value now.listing)) pending ∙ last_shown arc_value (arc_value now.listing) (drop c.args.writer.behind c.args.writer.log.items) c.args.listing))

pub returns-clause-seen : goal.returns-clause-seen
returns-clause-seen g c =
    let pending = of_ok _ c.append.result c.if-is_err.ensures.value c.append.ensures.pending in
    let now = c.append.new.self.desk.shown.value in
    both_ok _ _ c.publish_as.result.1 c.publish_as.ensures.values c.publish_as.ensures.rule
    (λ shown rule. newest_of _ now c.publish_as.result.0.desk.shown.value _ (arc_value c.args.listing)
    (shown.0 ∙ (ap (fold (λ (_ : Listing) op. arc_value op) (arc_value now.listing)) pending ∙ last_shown arc_value (arc_value now.listing) (drop c.args.writer.behind c.args.writer.log.items) c.args.listing)) rule)
