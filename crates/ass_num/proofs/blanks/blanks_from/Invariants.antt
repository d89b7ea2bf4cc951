use Rattle.std.proofs.Common.{◌≡◌, ◌+◌, ◌≤◌, ◌<◌, length, take, get_or, true}
use Rattle.std.specs.List.{suffix_len}
use Rattle.ass_num.specs.Numerals.{is_blank}
use Rattle.ass_num.proofs.blanks.blanks_from.Given as goal

abbrev pub invariant-loop-end : goal.invariant-loop-end
invariant-loop-end l = record {
  place : l.end + suffix_len is_blank l.text ≡ length l.text + suffix_len is_blank (take l.end l.text);
  within : l.end ≤ length l.text;
  blank : l.end < length l.text → is_blank (get_or l.text l.end 0) ≡ true;
}

abbrev pub decreases-loop-end : goal.decreases-loop-end
decreases-loop-end l = l.end
