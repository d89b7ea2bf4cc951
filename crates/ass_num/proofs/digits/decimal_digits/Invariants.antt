use Rattle.std.proofs.Common.{◌≡◌, ◌+◌, min, take, drop}
use Rattle.std.specs.List.{prefix_len}
use Rattle.ass_num.specs.declared.digits.TheConstants.{MANY}
use Rattle.ass_num.specs.Numerals.{is_decimal, number_of}
use Rattle.ass_num.proofs.digits.decimal_digits.Given as goal

abbrev pub invariant-loop-i : goal.invariant-loop-i
invariant-loop-i l = record {
  number : l.number ≡ min (number_of 10 (take l.i l.text)) MANY;
  count : l.i + prefix_len is_decimal (drop l.i l.text) ≡ prefix_len is_decimal l.text;
}
