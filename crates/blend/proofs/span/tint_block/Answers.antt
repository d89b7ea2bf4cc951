use Rattle.std.proofs.Common.{◌≡◌, ◌+◌, get_or, sym, ◌∙◌, arith}
use Rattle.blend.specs.Blending.{tint_of}
use Rattle.blend.proofs.TintedLemmas.{tinted-none, tint_of-none}
use Rattle.blend.proofs.BlockLemmas.{block-solid}
use Rattle.blend.proofs.span.tint_block.Goals as goal

pub returns-then-is_all : goal.returns-then-is_all
returns-then-is_all c =
    sym (tinted-none (λ k. tint_of c.args.colour (get_or c.args.cover.now k 0)) 0 16 c.args.pixels.now (omega arith)
    (λ k l. let number : 0 + k ≡ k = omega arith in
    rw number (tint_of-none c.args.colour _ (c.is_all.ensures c.if-is_all.true k (omega arith)))))

pub returns-then-is_all-2 : goal.returns-then-is_all-2
returns-then-is_all-2 c =
    block-solid c.args.colour c.args.cover.now c.args.pixels.now _ c.requires.pixels (c.copy_from_slice.ensures.len ∙ c.requires.pixels)
    (rw (sym c.copy_from_slice.ensures.after) at c.requires.solid) c.if-colour-eq0.true
    (λ k l. c.is_all-then-colour-eq0.ensures c.if-is_all-2.true k (omega arith))
