use Rattle.std.proofs.Common.{rules}
use Rattle.event_places.proofs.AloneLemmas.{alone_is}
use Rattle.event_places.proofs.placed.is_alone.Goals as goal

pub returns-then-is_first : goal.returns-then-is_first
returns-then-is_first c span at alone =
    alone_is c.args.near.now c.args.index span c.requires.sorted at
    (λ p some there. c.is_first.ensures span p at some there (search rules))
    (λ n there. c.are_apart.ensures span n at there (search rules))
