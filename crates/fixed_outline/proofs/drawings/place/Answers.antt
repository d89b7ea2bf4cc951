use Rattle.std.proofs.Common.{◌<◌, ◌∙◌, pos, length, take, ap, to_z, of_z, arith, w64}
use Rattle.std.proofs.lemmas.List.{take_more_set, take_all}
use Rattle.std.proofs.lemmas.List.Elements.{All-push}
use Rattle.ass_num.specs.Limits.{IsOutlinePoint}
use Rattle.ass_num.specs.declared.geometry.Point.{Point}
use Rattle.fixed_outline.specs.Figures.{placed_point}
use Rattle.fixed_outline.proofs.FigureLemmas.{placed_more, unplaced}
use Rattle.fixed_outline.proofs.drawings.place.Goals as goal

abbrev none : Point
none = record { x = pos 0; y = pos 0 }

pub loop-p-preserved : goal.loop-p-preserved
loop-p-preserved c =
    let f = placed_point c.args.turn.now.angle (to_z w64 (of_z w64 c.args.shift)) in
    let within : c.loop-p.p-index < length c.loop-p.points = omega arith in (
      placed_more f c.args.points.now c.loop-p.points c.loop-p.p-index c.placed.result none c.loop-p-test.true c.loop-p.invariant.0
          (c.placed.ensures.value ∙ ap f (unplaced f c.args.points.now c.loop-p.points c.loop-p.p-index none c.loop-p-test.true c.loop-p.invariant.0)),
      rw (take_more_set c.loop-p.points c.loop-p.p-index c.placed.result within) (All-push IsOutlinePoint (take c.loop-p.p-index c.loop-p.points) c.placed.result c.loop-p.invariant.1 c.placed.ensures.within),
    )

pub returns-clause-within : goal.returns-clause-within
returns-clause-within c = rw (take_all c.loop-p.p-index c.loop-p.points (omega arith)) at c.loop-p.invariant.1
