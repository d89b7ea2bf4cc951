use Rattle.std.proofs.Common.{◌≡◌, ℕ, ◌*◌, ◌-◌, ◌<◌, Bool, true, false, refl, ◌∙◌, slice_index, if◌then◌else◌, arith}
use Rattle.std.specs.Int.{abs_diff}
use Rattle.blend.specs.Blending.{Tint, by_255, tint_of}
use Rattle.blend.proofs.TintedLemmas.{tinted-start, tinted-end, below-step, tint_of-weight}
use Rattle.blend.proofs.span.tint_span_under.Goals as goal
use Rattle.blend.proofs.span.tint_span_under.Goals.{then-inverse, else-inverse}

shown-inside : (inverse : Bool) (m hidden shown : ℕ) → inverse ≡ true → hidden ≡ 255 → shown ≡ abs_diff m hidden → m < 256 → shown ≡ if inverse then 255 - m else m
shown-inside inverse m hidden shown p q h l = rw p (omega arith)

shown-outside : (inverse : Bool) (m hidden shown : ℕ) → inverse ≡ false → hidden ≡ 0 → shown ≡ abs_diff m hidden → shown ≡ if inverse then 255 - m else m
shown-outside inverse m hidden shown p q h = rw p (omega arith)

pub loop-i-init : goal.loop-i-init
loop-i-init c = tinted-start (λ k. tint_of c.args.colour (by_255 (slice_index c.args.cover.now k * (if c.args.inverse then 255 - slice_index c.args.over.now k else slice_index c.args.over.now k)))) _

pub loop-i-preserved : goal.loop-i-preserved
loop-i-preserved c =
    let i = c.loop-i.i in
    let shown_at : ℕ → ℕ = λ k. if c.args.inverse then 255 - slice_index c.args.over.now k else slice_index c.args.over.now k in
    let tint : ℕ → Tint = λ k. tint_of c.args.colour (by_255 (slice_index c.args.cover.now k * shown_at k)) in
    let shown_is : c.abs_diff-shown.result ≡ shown_at i =
    elim c.if-inverse.branch [
      | then-inverse v ↦ shown-inside _ _ _ _ v.if-inverse.true v.hidden-is c.abs_diff-shown.ensures (omega (arith, c.type_inv.over i))
      | else-inverse v ↦ shown-outside _ _ _ _ v.if-inverse.false v.hidden-is c.abs_diff-shown.ensures
    ] in
    let cover_is : c.from.result ≡ slice_index c.args.cover.now i = c.from.ensures in
    let from_is : c.from-in-loop-i.result ≡ c.abs_diff-shown.result = c.from-in-loop-i.ensures in
    let left_is : c.by_255-left.result ≡ by_255 (slice_index c.args.cover.now i * shown_at i) =
    c.by_255-left.ensures ∙ rw (cover_is, from_is, shown_is) refl in
    below-step tint (record { colour = c.args.colour; weight = c.weight.result }) i _ _ c.args.pixels.now _ _
    (omega arith) (omega arith) c.loop-i.invariant (omega arith) c.tint_pixel.ensures
    (tint_of-weight c.args.colour _ _ (rw left_is at c.weight.ensures))

pub returns : goal.returns
returns c =
    let tint : ℕ → Tint = λ k. tint_of c.args.colour (by_255 (slice_index c.args.cover.now k * (if c.args.inverse then 255 - slice_index c.args.over.now k else slice_index c.args.over.now k))) in
    tinted-end tint c.loop-i.i _ _ (omega arith) c.loop-i.invariant
