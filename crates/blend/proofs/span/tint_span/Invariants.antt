use Rattle.std.proofs.Common.{◌≡◌, ◌*◌, slice_index}
use Rattle.blend.specs.Blending.{tint_of, tinted}
use Rattle.blend.proofs.TintedLemmas.{below}
use Rattle.blend.proofs.span.tint_span.Given as goal

abbrev pub invariant-loop-i : goal.invariant-loop-i
invariant-loop-i l = l.pixels ≡ tinted (below (16 * l.i) (λ k. tint_of l.colour (slice_index l.cover k))) 0 l.initial.pixels
