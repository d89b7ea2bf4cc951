use Rattle.std.proofs.Common.{◌≡◌, ◌+◌, ◌-◌, ◌*◌}
use Rattle.cff_font.specs.Subroutines.{range_dict}
use Rattle.cff_font.proofs.subroutines.dict_by_ranges.Given as goal

abbrev pub invariant-loop-k : goal.invariant-loop-k
invariant-loop-k l = range_dict l.bytes l.g (l.select + 3 + 3 * l.k) (l.n - l.k) ≡ range_dict l.bytes l.g (l.select + 3) l.n
