use Rattle.std.proofs.Common.{refl}
use Rattle.y4m_text.proofs.ColourLemmas.{spread, sum-four}
use Rattle.y4m_text.proofs.colour.chroma.Goals as goal

pub luma_parts-parts-requires-clause-sum : goal.luma_parts-parts-requires-clause-sum
luma_parts-parts-requires-clause-sum c = sum-four c.args.scale.pixels c.args.c c.requires.scale.few c.requires.sum

pub chroma_above-above-requires : goal.chroma_above-above-requires
chroma_above-above-requires c =
    let s = c.args.scale in
    let is = c.requires.scale in
    rw (c.channel_of-channel.ensures, c.luma_parts-parts.ensures)
    (record { spread = spread s.which s.weights s.range s.pixels s.divisor.value c.args.c is.weights is.few c.requires.sum is.divisor.some is.divisor.most is.value })

pub returns : goal.returns
returns c = rw (c.min.ensures, c.quotient-sample.ensures, c.chroma_above-above.ensures.value, c.channel_of-channel.ensures, c.luma_parts-parts.ensures, c.requires.scale.value) refl
