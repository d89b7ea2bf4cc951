use Rattle.std.proofs.Common.{◌≡◌, ◌-◌}
use Rattle.cff_font.specs.Machines.{run}
use Rattle.cff_font.specs.Glyphs.{max_steps}
use Rattle.cff_font.specs.Ranges.{IsMachine}
use Rattle.cff_font.proofs.steps.run.Given as goal

abbrev pub invariant-loop-k : goal.invariant-loop-k
invariant-loop-k l = record {
  value : run l.bytes l.program (max_steps - l._k) l.machine ≡ run l.bytes l.program max_steps l.initial.machine;
  machine : IsMachine l.machine;
}
