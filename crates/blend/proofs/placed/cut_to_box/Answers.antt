use Rattle.std.proofs.Common.{arith}
use Rattle.std.proofs.lemmas.Int.{ints}
use Rattle.blend.specs.Areas.{placed_of}
use Rattle.blend.proofs.AreaLemmas.{box-both}
use Rattle.blend.proofs.placed.cut_to_box.Goals as goal

pub returns-clause-both : goal.returns-clause-both
returns-clause-both c = λ i j.
    box-both c.args.area _ (placed_of c.args.placed) i j _ _ _ _
    (omega (arith, ints)) (omega (arith, ints)) (omega (arith, ints)) (omega (arith, ints)) (c.cut.ensures.both i j)
