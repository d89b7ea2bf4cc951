use Rattle.std.proofs.Common.{◌≡◌, ◌-◌}
use Rattle.sfnt_glyphs.specs.Glyphs.{collected, next_size, size_of_run, sizes_at}
use Rattle.sfnt_glyphs.proofs.simple.sizes_at.Given as goal

abbrev pub invariant-loop-k : goal.invariant-loop-k
invariant-loop-k l = collected (next_size l.bytes l.at) size_of_run l.k (l.n - l.k) l.run l.sizes ≡ sizes_at l.bytes l.at l.n
