use Rattle.std.proofs.Common.{◌≡◌, ◌==◌, false, ◌&&◌}
use Rattle.cache_kinds.proofs.MixedLemmas.{high, mixed_border, wide}
use Rattle.cache_kinds.proofs.masks.add_region_numbers.Goals as goal
use Rattle.cache_kinds.proofs.masks.add_region_numbers.Goals.{else-key-eq0-via-then-key-eq0+else-key-eq0-2, else-key-eq0-via-else-key-eq0}

pub returns-else-key-eq0 : goal.returns-else-key-eq0
returns-else-key-eq0 c =
    let key = c.args.key.now in
    let border : ((key.rx == 0) && (key.ry == 0)) ≡ false =
    elim c.else-key-eq0.branch [
      | else-key-eq0-via-then-key-eq0+else-key-eq0-2 w ↦ high key.rx key.ry w.if-key-eq0-2.false
      | else-key-eq0-via-else-key-eq0 w ↦ wide key.rx key.ry w.if-key-eq0.false
    ] in
    mixed_border key c.args.sum.now c.add.new.self c.add_outline_numbers-else-key-eq0.new.sum c.add-else-key-eq0.new.self c.add-else-key-eq0-2.new.self border
    c.add.ensures c.add_outline_numbers-else-key-eq0.ensures c.add-else-key-eq0.ensures c.add-else-key-eq0-2.ensures
