use Rattle.std.proofs.Common.{◌≡◌, ◌+◌, ◌*◌, ◌/◌, ◌^◌, ◌≤◌, take, drop}
use Rattle.std.specs.List.{prefix_len}
use Rattle.ass_num.specs.Numerals.{is_decimal, number_of}
use Rattle.ass_num.proofs.digits.fraction_digits.Given as goal

abbrev pub invariant-loop-i : goal.invariant-loop-i
invariant-loop-i l = record {
  room : l.thousandths + l.place * 10 ≤ 1000;
  thousandths : l.thousandths ≡ number_of 10 (take l.i l.text) * 1000 / 10 ^ l.i;
  place : l.place ≡ 100 / 10 ^ l.i;
  count : l.i + prefix_len is_decimal (drop l.i l.text) ≡ prefix_len is_decimal l.text;
}
