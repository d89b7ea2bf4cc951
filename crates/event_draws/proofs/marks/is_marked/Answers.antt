use Rattle.std.proofs.Common.{arith}
use Rattle.event_draws.proofs.MarkLemmas.{marked_is}
use Rattle.event_draws.proofs.marks.is_marked.Goals as goal

pub returns-then-state-2 : goal.returns-then-state-2
returns-then-state-2 c = grind (arith, marked_is c.args.state.now c.args.font.now.glyphs c.args.place c.requires)

pub returns-else-state-2 : goal.returns-else-state-2
returns-else-state-2 c = grind (arith, marked_is c.args.state.now c.args.font.now.glyphs c.args.place c.requires)
