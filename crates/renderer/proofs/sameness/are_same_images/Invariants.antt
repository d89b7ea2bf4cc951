use Rattle.std.proofs.Common.{◌≡◌, map, take}
use Rattle.renderer.specs.ShownFrames.{image_shown}
use Rattle.renderer.proofs.sameness.are_same_images.Given as goal

abbrev pub invariant-loop-i : goal.invariant-loop-i
invariant-loop-i l = map image_shown (take l.i l.a) ≡ map image_shown (take l.i l.b)
