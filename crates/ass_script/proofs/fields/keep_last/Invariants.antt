use Rattle.std.proofs.Common.{◌≡◌, ◌≤◌, ℕ, ◌++◌, false, length, get_or, take, drop, eqb}
use Rattle.std.specs.List.{list_any}
use Rattle.ass_script.specs.Fields.{last_ones}
use Rattle.ass_script.proofs.fields.keep_last.Given as goal

abbrev pub invariant-loop-k : goal.invariant-loop-k
invariant-loop-k g l = record {
  within : l.k ≤ length l.fn.fields;
  done : l.fields ≡ take l.k l.fn.fields ++ last_ones g.F.Field.number_of l.other (drop l.k l.fn.fields);
  seen : (n : ℕ) → get_or l.seen n false ≡ list_any (λ field. eqb (g.F.Field.number_of field) n) (drop l.k l.fn.fields);
  places : length l.seen ≡ 32;
}

abbrev pub decreases-loop-k : goal.decreases-loop-k
decreases-loop-k g l = l.k
