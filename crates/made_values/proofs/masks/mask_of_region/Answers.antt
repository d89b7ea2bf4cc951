use Rattle.made_values.specs.Reach.{max_covered_corner, max_covered_side}
use Rattle.made_values.proofs.AnswerLemmas.{mask_near, soft_near}
use Rattle.made_values.proofs.masks.mask_of_region.Goals as goal

pub blurred-requires-clause-within : goal.blurred-requires-clause-within
blurred-requires-clause-within c = soft_near c.in_ok-soft.soft c.args.key.now.edges c.requires.key.edges (c.in_ok-soft.ensures.within max_covered_corner max_covered_side c.in_ok-mask.ensures.within)

pub returns-clause-within : goal.returns-clause-within
returns-clause-within c =
    mask_near c.blurred.result c.in_ok-soft.soft c.args.key.now.edges c.args.key.now.blur c.requires.key.edges c.requires.key.blur
    (c.in_ok-soft.ensures.within max_covered_corner max_covered_side c.in_ok-mask.ensures.within) c.blurred.ensures.within
