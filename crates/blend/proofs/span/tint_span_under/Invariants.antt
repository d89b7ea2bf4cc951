use Rattle.std.proofs.Common.{◌≡◌, ◌*◌, ◌-◌, slice_index, if◌then◌else◌}
use Rattle.blend.specs.Blending.{by_255, tint_of, tinted}
use Rattle.blend.proofs.TintedLemmas.{below}
use Rattle.blend.proofs.span.tint_span_under.Given as goal

abbrev pub invariant-loop-i : goal.invariant-loop-i
invariant-loop-i l = l.pixels ≡ tinted (below l.i (λ k. tint_of l.colour (by_255 (slice_index l.cover k
    * (if l.inverse then 255 - slice_index l.over k else slice_index l.over k))))) 0 l.initial.pixels
