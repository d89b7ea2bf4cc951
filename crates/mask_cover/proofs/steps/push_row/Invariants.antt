use Rattle.std.proofs.Common.{◌≡◌, unsigned_abs}
use Rattle.ass_num.specs.Coverage.{coverage_byte}
use Rattle.mask_cover.specs.Steps.{sum_first, IsRowPushed}
use Rattle.mask_cover.proofs.steps.push_row.Given as goal

abbrev pub invariant-loop-c : goal.invariant-loop-c
invariant-loop-c l = (l.count ≡ sum_first l.steps l.c) × IsRowPushed l.steps l.c l.initial.bytes.items l.bytes.items × (l.byte ≡ coverage_byte (unsigned_abs (sum_first l.steps l.c)))
