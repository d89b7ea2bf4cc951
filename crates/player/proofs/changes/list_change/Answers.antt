use Rattle.std.proofs.Common.{refl}
use Rattle.player.proofs.ChangeLemmas.{one_list}
use Rattle.player.proofs.changes.list_change.Goals as goal

pub returns-then-have_same_places : goal.returns-then-have_same_places
returns-then-have_same_places c = one_list c.args.a.now c.args.b.now (c.if-not-are_same_plains_but_moved.ensures.0 refl) (c.if-have_same_places.ensures.0 refl)
