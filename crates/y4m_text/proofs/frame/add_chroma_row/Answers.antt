use Rattle.std.proofs.Common.{ℕ, ap, ◌∙◌}
use Rattle.ass_script.specs.declared.matrix.ColourRange.{ColourRange}
use Rattle.y4m_text.specs.Colours.{chroma, weights_of}
use Rattle.y4m_text.specs.Streams.{chroma_pixels, chroma_sample}
use Rattle.y4m_text.specs.declared.colour.Colour.{Colour}
use Rattle.y4m_text.specs.declared.colour.Weights.{Weights}
use Rattle.y4m_text.proofs.PlaneLemmas.{plane-more}
use Rattle.y4m_text.proofs.frame.add_chroma_row.Goals as goal

pub loop-i-preserved : goal.loop-i-preserved
loop-i-preserved c =
    let form = c.args.form in
    let scale = c.args.scale in
    let weights = weights_of form.colours.matrix in
    c.in_ok-push.ensures.items
    ∙ plane-more (chroma_sample scale.which form c.args.size.now c.args.pixels.now c.args.j) c.loop-i.i _ _ _ c.loop-i.invariant
    (c.chroma.ensures
    ∙ (ap (λ (w : Weights). chroma scale.which w scale.range scale.pixels c.chroma_sum.result) c.requires.weights
    ∙ (ap (λ (r : ColourRange). chroma scale.which weights r scale.pixels c.chroma_sum.result) c.requires.range
    ∙ (ap (λ (n : ℕ). chroma scale.which weights form.colours.range n c.chroma_sum.result) c.requires.pixels
    ∙ ap (λ (x : Colour). chroma scale.which weights form.colours.range (chroma_pixels form.sampling) x) c.chroma_sum.ensures.value))))

pub chroma-requires-clause-sum : goal.chroma-requires-clause-sum
chroma-requires-clause-sum c = rw c.requires.pixels c.chroma_sum.ensures.bytes
