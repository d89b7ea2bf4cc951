use Rattle.ass_num.proofs.ListLemmas.{flat_more}
use Rattle.y4m_text.specs.Streams.{chroma_row}
use Rattle.y4m_text.proofs.frame.add_chroma.Goals as goal

pub loop-j-preserved : goal.loop-j-preserved
loop-j-preserved c =
    flat_more (chroma_row c.args.which c.args.form c.args.size.now c.args.pixels.now) _ _ _ c.loop-j.j c.loop-j.invariant
    (rw c.chroma_scale-scale.ensures.which at c.in_ok-add_chroma_row.ensures)
