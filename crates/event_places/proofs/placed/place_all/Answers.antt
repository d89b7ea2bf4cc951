use Rattle.std.proofs.Common.{map, arith}
use Rattle.std.specs.Arc.{arc_value}
use Rattle.event_places.specs.Steps.{First, most_before}
use Rattle.event_places.proofs.ClearLemmas.{boxes_wider}
use Rattle.event_places.proofs.StepLemmas.{steps_more}
use Rattle.event_places.proofs.placed.place_all.Goals as goal

pub loop-index-init : goal.loop-index-init
loop-index-init c = record {
  steps = rw (c.in_ok-placed.ensures.items, c.new-kept.ensures.none) First;
  within = rw c.new-kept.ensures.none (λ k d lt. absurd (omega (arith, lt)));
  known = c.new-kept.ensures.kept;
}

pub loop-index-preserved : goal.loop-index-preserved
loop-index-preserved c =
    let inv = c.loop-index.invariant in
    record {
      steps =
          steps_more c.args.setting.now.script c.args.setting.now.fonts c.args.setting.now.frame (map arc_value c.args.events.now) c.args.near.now c.loop-index.index c.loop-index.placed.items c.push.new.self.items
          c.loop-index.kept.boxes.items c.place_next.new.kept.boxes.items c.in_ok-one.one c.loop-index-test.true inv.steps c.in_ok-one.ensures.step c.in_ok-push.ensures.items;
      within = c.in_ok-one.ensures.within c.loop-index.index inv.within;
      known = c.in_ok-one.ensures.kept;
    }

pub place_next-requires-clause-within : goal.place_next-requires-clause-within
place_next-requires-clause-within c = boxes_wider c.loop-index.index most_before c.loop-index.kept.boxes.items (omega arith) c.loop-index.invariant.within

pub place_next-requires-clause-kept : goal.place_next-requires-clause-kept
place_next-requires-clause-kept c = c.loop-index.invariant.known
