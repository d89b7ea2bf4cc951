use Rattle.std.proofs.Common.{◌≡◌, ◌+◌, drop}
use Rattle.std.specs.List.{position_or_len}
use Rattle.bdf_font.specs.Words.{is_quote}
use Rattle.bdf_font.proofs.numbers.quoted.Given as goal

abbrev pub invariant-loop-i : goal.invariant-loop-i
invariant-loop-i l = l.i + position_or_len is_quote (drop l.i l.text) ≡ position_or_len is_quote l.text
