use Rattle.std.proofs.Common.{◌≡◌, false, take}
use Rattle.std.specs.List.{list_any}
use Rattle.ass_num.specs.Names.{same_name}
use Rattle.bdf_font.proofs.font.is_among.Given as goal

abbrev pub invariant-loop-k : goal.invariant-loop-k
invariant-loop-k l = list_any (λ own. same_name own l.name) (take l.k l.names) ≡ false
