use Rattle.std.proofs.Common.{rules, arith}
use Rattle.std.proofs.lemmas.Grind.{common_steps}
use Rattle.event_places.proofs.StandLemmas.{margins_within, placeable}
use Rattle.event_places.proofs.own.stand_by.Goals as goal

pub returns-clause-value : goal.returns-clause-value
returns-clause-value c = first_of (search rules, grind (arith, common_steps))

pub returns-clause-range : goal.returns-clause-range
returns-clause-range c =
    let own = c.args.own.now in
    rw (returns-clause-value c)
    (placeable c.args.script.now c.args.event.now own.view own.laid c.args.scales.now
    (margins_within c.args.script.now c.args.event.now c.requires.script c.requires.event) c.requires.scales c.requires.pointless c.requires.width c.requires.height)
