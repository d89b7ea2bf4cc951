use Rattle.std.proofs.Common.{◌≡◌, [], ◌∷◌, ◌++◌, flat_map, codes}
use Rattle.std.specs.List.{range_with_len}
use Rattle.json.specs.Token.{begin_array, key}
use Rattle.ass_events.specs.Events.{line_fault}
use Rattle.run_reports.specs.CheckObjects.{malformed_object}
use Rattle.run_reports.proofs.check.add_all_malformed.Given as goal

abbrev pub invariant-loop-i : goal.invariant-loop-i
invariant-loop-i l = record {
  before : l.line.before ≡ l.fn.line.before;
  tokens : l.line.tokens ≡ (l.fn.line.tokens ++ key (codes "malformed") ∷ begin_array ∷ []) ++ flat_map (λ k. malformed_object k (line_fault l.script k)) (range_with_len 0 l.i);
}
