use Rattle.std.proofs.Common.{map, take}
use Rattle.std.specs.Arc.{arc_value}
use Rattle.event_places.specs.Steps.{AreKeptBoxes, AreBoxesWithin, AreSteps}
use Rattle.event_places.proofs.placed.place_all.Given as goal

abbrev pub invariant-loop-index : goal.invariant-loop-index
invariant-loop-index l = record {
  steps : AreSteps l.setting.script l.setting.fonts l.setting.frame (map arc_value l.events) l.near (take l.index l.near) l.placed.items l.kept.boxes.items;
  within : AreBoxesWithin l.index l.kept.boxes.items;
  known : AreKeptBoxes l.kept;
}
