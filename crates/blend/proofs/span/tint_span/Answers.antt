use Rattle.std.proofs.Common.{◌≡◌, ℕ, ◌*◌, ◌+◌, ◌-◌, ◌/◌, length, get_or, sym, ap, arith}
use Rattle.blend.specs.Blending.{Tint, tint_of}
use Rattle.blend.proofs.TintedLemmas.{tinted-start, tinted-end, below-part}
use Rattle.blend.proofs.BlockLemmas.{get_or-part}
use Rattle.blend.proofs.span.tint_span.Goals as goal

pub loop-i-init : goal.loop-i-init
loop-i-init c = tinted-start (λ k. tint_of c.args.colour (get_or c.args.cover.now k 0)) _

pub loop-i-preserved : goal.loop-i-preserved
loop-i-preserved c =
    let i = c.loop-i.i in
    let tint : ℕ → Tint = λ k. tint_of c.args.colour (get_or c.args.cover.now k 0) in
    let next : 16 * i + 16 ≡ 16 * (i + 1) = omega arith in
    rw (sym next) (below-part _ tint (16 * i) 16 _ _ c.args.pixels.now _ _ (omega arith) (omega arith) c.loop-i.invariant (omega arith) c.tint_block.ensures
    (λ k l. ap (tint_of c.args.colour) (get_or-part c.args.cover.now (16 * i) _ k (omega arith))))

pub returns : goal.returns
returns c =
    let i = c.loop-i.i in
    let blocks = length c.args.cover.now / 16 in
    let rest = length c.args.cover.now - 16 * blocks in
    let tint : ℕ → Tint = λ k. tint_of c.args.colour (get_or c.args.cover.now k 0) in
    let all : i ≡ blocks = omega arith in
    tinted-end tint (16 * blocks + rest) _ _ (omega arith)
    (below-part _ tint (16 * blocks) rest _ _ c.args.pixels.now _ _ (omega arith) (omega arith) (rw all at c.loop-i.invariant) (omega arith) c.tint_each.ensures
    (λ k l. ap (tint_of c.args.colour) (get_or-part c.args.cover.now (16 * blocks) _ k (omega arith))))
