use Rattle.std.proofs.Common.{ℕ, ap, ◌∙◌}
use Rattle.y4m_text.specs.Colours.{luma, weights_of}
use Rattle.y4m_text.specs.Streams.{picture_colour}
use Rattle.y4m_text.specs.declared.colour.Colour.{Colour}
use Rattle.y4m_text.specs.declared.colour.Weights.{Weights}
use Rattle.y4m_text.proofs.PlaneLemmas.{plane-more}
use Rattle.y4m_text.proofs.frame.add_luma.Goals as goal

pub loop-k-preserved : goal.loop-k-preserved
loop-k-preserved c =
    let colours = c.args.form.colours in
    c.in_ok-push.ensures.items
    ∙ plane-more (λ (k : ℕ). luma (weights_of colours.matrix) colours.range (picture_colour c.args.pixels.now k)) c.loop-k.k _ _ _ c.loop-k.invariant
    (c.luma.ensures ∙ (ap (λ (w : Weights). luma w colours.range c.picture_colour.result) c.weights_of-weights.ensures.value
    ∙ ap (λ (x : Colour). luma (weights_of colours.matrix) colours.range x) c.picture_colour.ensures.value))
