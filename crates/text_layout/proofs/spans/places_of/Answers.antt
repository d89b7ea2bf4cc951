use Rattle.std.proofs.Common.{arith}
use Rattle.text_layout.proofs.SpanLemmas.{places-order}
use Rattle.text_layout.proofs.spans.places_of.Goals as goal

pub returns-clause-order : goal.returns-clause-order
returns-clause-order c = places-order c.args.role c.args.wrap c.args.items.now c.loop-place.place c.loop-place.places.items (omega arith) c.loop-place.invariant
