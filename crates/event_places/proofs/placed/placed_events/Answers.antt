use Rattle.std.proofs.Common.{map, arith}
use Rattle.std.specs.Arc.{arc_value}
use Rattle.std.proofs.lemmas.List.{length-map}
use Rattle.std.proofs.lemmas.Result.{IfOk-weaker}
use Rattle.event_places.specs.PlacedEvents.{ArePlacedEvents}
use Rattle.event_places.specs.Steps.{IsGoneThrough}
use Rattle.event_places.proofs.PlacedLemmas.{placed_are}
use Rattle.event_places.proofs.placed.placed_events.Goals as goal

pub place_all-requires-clause-near : goal.place_all-requires-clause-near
place_all-requires-clause-near c = c.requires.near.1.own

pub place_all-requires-clause-sorted : goal.place_all-requires-clause-sorted
place_all-requires-clause-sorted c = c.requires.near.1.sorted

pub place_all-requires-clause-few_near : goal.place_all-requires-clause-few_near
place_all-requires-clause-few_near c = let few = c.requires.near.1.few in omega (arith, few, length-map c.args.events.now arc_value, c.requires.few)

pub returns : goal.returns
returns c t near =
    let events = map arc_value c.args.events.now in
    IfOk-weaker c.place_all.result (λ placed. IsGoneThrough c.args.setting.now.script c.args.setting.now.fonts c.args.setting.now.frame events c.args.near.now placed.items)
    (λ placed. ArePlacedEvents c.args.setting.now.script c.args.setting.now.fonts c.args.setting.now.frame events t placed.items)
    (λ placed gone. placed_are c.args.setting.now.script c.args.setting.now.fonts c.args.setting.now.frame events t c.args.near.now c.requires.orders near placed.items gone) c.place_all.ensures
