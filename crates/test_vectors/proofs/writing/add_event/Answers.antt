use Rattle.std.proofs.Common.{map}
use Rattle.std.specs.Arc.{arc_value}
use Rattle.std.proofs.lemmas.List.{map-append}
use Rattle.std.proofs.lemmas.List.Elements.{All-push}
use Rattle.ass_events.specs.Ranges.{IsEvent}
use Rattle.test_vectors.proofs.writing.add_event.Goals as goal

pub returns : goal.returns
returns c = rw (c.in_ok-push.ensures.items, map-append) (All-push IsEvent (map arc_value c.args.events.now.items) c.args.event.value c.requires.events c.requires.event)
