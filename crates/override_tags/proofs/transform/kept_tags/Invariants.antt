use Rattle.std.proofs.Common.{List, ◌++◌, length}
use Rattle.std.specs.Str.{IsUtf8}
use Rattle.override_tags.specs.declared.tag.GradualTag.{GradualTag}
use Rattle.override_tags.specs.Tags.{AreKept, BeginsTag}
use Rattle.override_tags.proofs.transform.kept_tags.Given as goal

-- the tags so far come before those of the rest
abbrev pub invariant-loop-text : goal.invariant-loop-text
invariant-loop-text l = record {
  before : (tail : List GradualTag) → AreKept l.rest tail → AreKept l.fn.text (l.tags ++ tail);
  begins : BeginsTag l.rest;
  utf8 : IsUtf8 l.rest;
}

abbrev pub decreases-loop-text : goal.decreases-loop-text
decreases-loop-text l = length l.rest
