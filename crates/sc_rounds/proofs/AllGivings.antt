-- The places that the answers of an edge give up, with one answer more.
use Rattle.std.proofs.Common.{List, [], ◌∷◌, ◌++◌, refl, sym, ◌∙◌, append_assoc}
use Rattle.std.proofs.lemmas.List.{append-nil}
use Rattle.sc_value.specs.declared.ids.Place.{Place}
use Rattle.sc_edge.specs.declared.edge.Polled.{Polled}
use Rattle.sc_runs.specs.Following.{Streams}
use Rattle.sc_runs.specs.Heard.{AllKept}
use Rattle.sc_courses.proofs.HeardLaws.{makes-same, all-same}
use Rattle.sc_rounds.specs.GivingUp.{AllGiveUp, GivesUp}

gives-same : (kept kept2 : Streams) (answer : Polled) (places : List Place) (after : Streams) → AllKept kept kept2 → GivesUp kept2 answer places after → GivesUp kept answer places after
unfolding GivesUp
gives-same kept kept2 answer places after same (made, makes, is) = (made, makes-same kept kept2 answer made after same makes, is)

pub give_up_more : (kept : Streams) (given : List Polled) (answer : Polled) (places mine : List Place) (mid after : Streams) → AllGiveUp kept given places mid → GivesUp mid answer mine after → AllGiveUp kept (given ++ answer ∷ []) (places ++ mine) after
unfolding AllGiveUp
give_up_more kept [] answer places mine mid after (e, same) more = (mine, [], after, rw e (sym (append-nil mine)), gives-same kept mid answer mine after same more, (refl, all-same after))
give_up_more kept (g ∷ given) answer places mine mid after (first, rest, next, e, gives, later) more =
    (first, rest ++ mine, next, rw e (append_assoc first rest mine), gives, give_up_more next given answer rest mine mid after later more)

-- as much is kept of each place
pub give_up_same : (kept : Streams) (given : List Polled) (places : List Place) (mid after : Streams) → AllKept mid after → AllGiveUp kept given places mid → AllGiveUp kept given places after
unfolding AllGiveUp AllKept
give_up_same kept [] places mid after later (e, same) = (e, λ place. later place ∙ same place)
give_up_same kept (g ∷ given) places mid after later (first, rest, next, e, gives, more) = (first, rest, next, e, gives, give_up_same next given rest mid after later more)

-- nothing was told
pub give_up_none : (kept after : Streams) → AllKept kept after → AllGiveUp kept [] [] after
unfolding AllGiveUp
give_up_none kept after same = (refl, same)
