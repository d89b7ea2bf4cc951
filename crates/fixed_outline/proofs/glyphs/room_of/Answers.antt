use Rattle.std.proofs.Common.{◌+◌, ◌/◌, ap, length, arith}
use Rattle.std.proofs.lemmas.Nat.{mul-le}
use Rattle.bdf_font.specs.Limits.{max_bitmap_side}
use Rattle.fixed_outline.proofs.glyphs.room_of.Goals as goal

pub set_bits-set-requires : goal.set_bits-set-requires
set_bits-set-requires c =
    let rows = mul-le c.args.pixels.now.h ((c.args.pixels.now.w + 7) / 8) max_bitmap_side ((max_bitmap_side + 7) / 8) c.requires.h (omega (arith, c.requires.w)) in
    omega (arith, rows, c.requires.rows, ap length c.as_slice.ensures)
