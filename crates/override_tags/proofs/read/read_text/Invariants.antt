use Rattle.std.proofs.Common.{◌≡◌, ◌+◌, List, ◌++◌, length, false}
use Rattle.std.specs.Str.{IsUtf8}
use Rattle.override_tags.specs.Fronts.{has_close}
use Rattle.override_tags.specs.declared.item.Item.{Item}
use Rattle.override_tags.specs.Readings.{AreItems}
use Rattle.override_tags.proofs.read.read_text.Given as goal

-- the items so far come before those of the rest
abbrev pub invariant-loop-found : goal.invariant-loop-found
invariant-loop-found l = record {
  before : (tail : List Item) → AreItems l.from l.rest tail → AreItems 0 l.text (l.items.items ++ tail);
  place : l.from + length l.rest ≡ length l.text;
  closes : l.may_close ≡ false → has_close l.rest ≡ false;
  utf8 : IsUtf8 l.rest;
}

abbrev pub decreases-loop-found : goal.decreases-loop-found
decreases-loop-found l = length l.rest
