use Rattle.std.proofs.Common.{◌≡◌, ◌+◌, ◌%◌, ◌^◌, take, drop}
use Rattle.std.specs.Char.{is_digit}
use Rattle.std.specs.List.{prefix_len}
use Rattle.ass_num.specs.Numerals.{number_of}
use Rattle.ass_num.proofs.digits.low_digits.Given as goal

abbrev pub invariant-loop-i : goal.invariant-loop-i
invariant-loop-i l = record {
  number : l.number ≡ number_of l.base (take l.i l.text) % 2 ^ 32;
  count : l.i + prefix_len (λ c. is_digit c l.base) (drop l.i l.text) ≡ prefix_len (λ c. is_digit c l.base) l.text;
}
