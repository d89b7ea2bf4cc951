use Rattle.std.proofs.Common.{rules, sym, ◌∙◌}
use Rattle.evict_core.proofs.AskLemmas.{claim-absent, crowded-absent}
use Rattle.evict_core.proofs.entries.Entries.ask_absent.Goals as goal

pub returns-then-has_room : goal.returns-then-has_room
returns-then-has_room g c = (claim-absent g.K.PartialEq.eq c.args.self.now c.args.key.now c.requires (sym c.has_room.ensures ∙ c.if-has_room.true), search rules)

pub returns : goal.returns
returns g c = (crowded-absent g.K.PartialEq.eq c.args.self.now c.args.key.now c.requires (sym c.has_room.ensures ∙ c.if-has_room.false), c.refuse.ensures c.args.key.now)
