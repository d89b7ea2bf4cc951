use Rattle.std.proofs.Common.{◌≡◌, ◌-◌}
use Rattle.cff_font.specs.Dicts.{operands_in, dict_tokens, operands_of}
use Rattle.cff_font.proofs.dicts.operands_of.Given as goal

abbrev pub invariant-loop-k : goal.invariant-loop-k
invariant-loop-k l = operands_in l.code l.operands (dict_tokens l.bytes l.dict.to (l.dict.to - l._k) l.at) ≡ operands_of l.bytes l.dict l.code
