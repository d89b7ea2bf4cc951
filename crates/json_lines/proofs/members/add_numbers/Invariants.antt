use Rattle.std.proofs.Common.{◌≡◌, ◌∷◌, ◌++◌, [], drop, flat_map}
use Rattle.json.specs.Token.{begin_array}
use Rattle.json_lines.specs.Members.{number_token}
use Rattle.json_lines.proofs.members.add_numbers.Given as goal

abbrev pub invariant-loop-number : goal.invariant-loop-number
invariant-loop-number l = record {
  before : l.line.before ≡ l.fn.line.before;
  tokens : l.line.tokens ++ flat_map (λ n. number_token n ∷ []) (drop l.number-index l.numbers)
      ≡ l.fn.line.tokens ++ begin_array ∷ flat_map (λ n. number_token n ∷ []) l.numbers;
}
