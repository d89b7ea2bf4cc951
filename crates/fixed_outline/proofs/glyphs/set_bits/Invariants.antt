use Rattle.std.proofs.Common.{◌≤◌, ◌*◌}
use Rattle.fixed_outline.proofs.glyphs.set_bits.Given as goal

abbrev pub invariant-loop-byte : goal.invariant-loop-byte
invariant-loop-byte l = l.count ≤ 255 * l.byte-index
