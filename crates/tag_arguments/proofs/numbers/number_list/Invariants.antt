use Rattle.std.proofs.Common.{◌≡◌, ℕ, ◌+◌, ◌≤◌, List, ◌++◌, length, Option, None, Some, Bor}
use Rattle.std.specs.Option.{option_copied}
use Rattle.tag_arguments.specs.Numbers.{counted_pieces, left_pieces, AreNumbers}
use Rattle.tag_arguments.proofs.numbers.number_list.Given as goal

-- the pieces so far are the numbers so far
abbrev pub invariant-loop-rest : goal.invariant-loop-rest
invariant-loop-rest l =
    (done : List (List ℕ)) × (counted_pieces l.drops_blank l.text ≡ done ++ left_pieces l.drops_blank (option_copied l.rest)) × AreNumbers done l.numbers.items × (length l.numbers.items ≤ 7)

abbrev left_len : Option (Bor (List ℕ)) → ℕ
left_len None = 0
left_len (Some rest) = length rest.now + 1

abbrev pub decreases-loop-rest : goal.decreases-loop-rest
decreases-loop-rest l = left_len l.rest
