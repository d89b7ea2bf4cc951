use Rattle.std.proofs.Common.{◌≡◌, ◌∷◌, ◌++◌, drop, flat_map}
use Rattle.std.specs.Prelude.{codes}
use Rattle.json.specs.Token.{begin_array, key}
use Rattle.json_lines.specs.Members.{number_array}
use Rattle.play_report.proofs.json_report.add_accepted.Given as goal

abbrev pub invariant-loop-orders : goal.invariant-loop-orders
invariant-loop-orders l = record {
  before : l.line.before ≡ l.fn.line.before;
  tokens : l.line.tokens ++ flat_map number_array (drop l.orders-index l.times) ≡ l.fn.line.tokens ++ key (codes "accepted") ∷ begin_array ∷ flat_map number_array l.times;
}
