use Rattle.std.proofs.Common.{◌≡◌, take}
use Rattle.text_layout.specs.Lines.{advances_of}
use Rattle.text_layout.proofs.layouts.advances_of.Given as goal

abbrev pub invariant-loop-extent : goal.invariant-loop-extent
invariant-loop-extent l = l.advances.items ≡ advances_of (take l.extent-index l.extents)
