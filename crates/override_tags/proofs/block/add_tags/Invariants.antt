use Rattle.std.proofs.Common.{◌≡◌, ◌+◌, ◌<◌, ◌^◌, List, ◌++◌, length}
use Rattle.std.specs.Str.{IsUtf8}
use Rattle.override_tags.specs.declared.item.Item.{Item}
use Rattle.override_tags.specs.Readings.{AreTags}
use Rattle.override_tags.specs.Tags.{BeginsTag}
use Rattle.override_tags.proofs.block.add_tags.Given as goal

-- the items that were added come before those of the rest
abbrev pub invariant-loop-text : goal.invariant-loop-text
invariant-loop-text l = record {
  added : List Item;
  whole : l.items.items ≡ l.initial.items.items ++ added;
  before : (tail : List Item) → AreTags l.from l.rest tail → AreTags l.fn.from l.fn.text (added ++ tail);
  begins : BeginsTag l.rest;
  utf8 : IsUtf8 l.rest;
  fits : l.from + length l.rest < 2 ^ 64;
}

abbrev pub decreases-loop-text : goal.decreases-loop-text
decreases-loop-text l = length l.rest
