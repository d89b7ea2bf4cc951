use Rattle.std.proofs.Common.{[], ◌∷◌, rules}
use Rattle.mask_keys.specs.Numbers.{mask_numbers, word_of}
use Rattle.cache_kinds.proofs.MixedLemmas.{mixed_behind}
use Rattle.cache_kinds.proofs.composites.add_part.Goals as goal

pub returns : goal.returns
returns c =
    let part = c.args.part.now in
    mixed_behind c.args.sum.now c.add_mask_numbers.new.sum c.add_word-2.new.sum (mask_numbers part.mask)
    (word_of part.dx ∷ word_of part.dy ∷ []) c.add_mask_numbers.ensures (search rules)
