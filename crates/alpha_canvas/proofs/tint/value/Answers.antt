use Rattle.std.proofs.Common.{◌≡◌, ◌+◌, ◌-◌, true, false, sym, arith}
use Rattle.blend.specs.Areas.{in_moved_box, placed_of}
use Rattle.blend.proofs.AreaLemmas.{moved_value-outside}
use Rattle.alpha_canvas.proofs.tint.value.Goals as goal

pub cover-requires-clause-first : goal.cover-requires-clause-first
cover-requires-clause-first c = sym c.if-is_in_box.ensures

pub cover-requires-clause-last : goal.cover-requires-clause-last
cover-requires-clause-last c =
    let last : c.args.i + 1 - 1 ≡ c.args.i = omega arith in
    let inside : in_moved_box (placed_of c.args.placed) c.args.i c.args.j ≡ true = sym c.if-is_in_box.ensures in
    rw last inside

pub returns-then-is_in_box : goal.returns-then-is_in_box
returns-then-is_in_box c =
    let first : c.args.i + 0 ≡ c.args.i = omega arith in
    rw first at (c.cover.ensures.values 0 (omega arith))

pub returns-else-is_in_box : goal.returns-else-is_in_box
returns-else-is_in_box c =
    let outside : in_moved_box (placed_of c.args.placed) c.args.i c.args.j ≡ false = sym c.if-is_in_box.ensures in
    sym (moved_value-outside (placed_of c.args.placed) c.args.i c.args.j outside)
