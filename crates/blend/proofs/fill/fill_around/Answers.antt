use Rattle.blend.specs.Blending.{Free}
use Rattle.blend.specs.Areas.{placed_of, tints}
use Rattle.blend.proofs.DrawLemmas.{around}
use Rattle.blend.proofs.fill.fill_around.Goals as goal

pub returns : goal.returns
returns c =
    around c.args.band.w _ c.args.area c.args.hole (tints c.args.colour (placed_of c.args.placed) Free) _ _ _ _ _ c.requires.hole
    c.fill.ensures c.fill-2.ensures c.fill-3.ensures c.fill-4.ensures
