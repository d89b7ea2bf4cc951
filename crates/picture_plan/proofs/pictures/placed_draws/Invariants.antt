use Rattle.std.proofs.Common.{map, take}
use Rattle.std.specs.Arc.{arc_value}
use Rattle.mask_keys.specs.Keys.{IsValidPlan}
use Rattle.mask_keys.specs.Outlines.{glyph_counts}
use Rattle.picture_plan.specs.Pictures.{AreDrawsInOrder}
use Rattle.picture_plan.specs.ShownEvents.{event_shown}
use Rattle.picture_plan.proofs.pictures.placed_draws.Given as goal

abbrev pub invariant-loop-one : goal.invariant-loop-one
invariant-loop-one l = record {
  drawn : AreDrawsInOrder l.setting.script l.setting.fonts (map arc_value l.events) l.t l.setting.frame (map (event_shown (map arc_value l.events) l.placed) (take l.one-index l.one-items)) l.draws;
  valid : IsValidPlan (glyph_counts l.setting.fonts) l.draws;
}
