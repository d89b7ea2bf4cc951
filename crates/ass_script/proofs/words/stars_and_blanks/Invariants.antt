use Rattle.std.proofs.Common.{◌≡◌, ◌+◌, drop}
use Rattle.std.specs.List.{prefix_len}
use Rattle.ass_script.specs.Words.{is_star_or_blank}
use Rattle.ass_script.proofs.words.stars_and_blanks.Given as goal

abbrev pub invariant-loop-i : goal.invariant-loop-i
invariant-loop-i l = l.i + prefix_len is_star_or_blank (drop l.i l.text) ≡ prefix_len is_star_or_blank l.text
