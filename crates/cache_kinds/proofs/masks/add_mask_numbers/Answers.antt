use Rattle.std.proofs.Common.{[], ◌∷◌, rules}
use Rattle.mask_keys.specs.Numbers.{outline_numbers}
use Rattle.cache_kinds.proofs.MixedLemmas.{mixed_behind}
use Rattle.cache_kinds.proofs.masks.add_mask_numbers.Goals as goal

pub returns : goal.returns
returns c =
    let key = c.args.key.now in
    mixed_behind c.args.sum.now c.add_outline_numbers.new.sum c.add-6.new.self (outline_numbers key.outline)
    (key.rx ∷ key.ry ∷ key.px ∷ key.py ∷ key.edges ∷ key.blur ∷ []) c.add_outline_numbers.ensures (search rules)
