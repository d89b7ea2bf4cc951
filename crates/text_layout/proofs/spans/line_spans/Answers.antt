use Rattle.std.proofs.Common.{◌≡◌, ◌+◌, ◌∙◌, length, take, get_or, to_z, of_z, to_z-of_z, w64, take_all}
use Rattle.text_layout.specs.Kinds.{roles_of}
use Rattle.text_layout.specs.Spans.{paragraphs_of}
use Rattle.text_layout.proofs.SpanLemmas.{lines-step, no_span, spans-step}
use Rattle.text_layout.proofs.spans.line_spans.Goals as goal

pub loop-paragraph-preserved : goal.loop-paragraph-preserved
loop-paragraph-preserved c =
    let e = c.in_ok-add_lines.ensures.lines in
    let k = c.loop-paragraph.paragraph-index in
    let ps = c.as_slice-paragraph-items.result.now in
    let inv = c.loop-paragraph.invariant in
    let step = spans-step (length c.args.items.now) k inv.order.0 ps c.loop-paragraph.lines.items e.0 c.loop-paragraph-test.true inv.order.1 inv.order.2 e.2 in
    record {
      lines = rw e.3 (lines-step c.args.wrap (roles_of c.args.wrap c.args.items.now) c.args.advances.now (to_z w64 (of_z w64 c.args.max)) k ps c.loop-paragraph.lines.items e.0 c.loop-paragraph-test.true inv.lines e.1);
      order = ((get_or ps k no_span).last + 1, rw e.3 step.0, step.1);
    }

pub returns-clause-lines : goal.returns-clause-lines
returns-clause-lines c =
    let ps = c.as_slice-paragraph-items.result.now in
    let all : take c.loop-paragraph.paragraph-index ps ≡ paragraphs_of (roles_of c.args.wrap c.args.items.now) =
    take_all c.loop-paragraph.paragraph-index ps c.loop-paragraph-test.false ∙ c.as_slice-paragraph-items.ensures.value ∙ c.in_ok-paragraphs.ensures.value in
    rw (to_z-of_z c.ranges.max) at (rw all at c.loop-paragraph.invariant.lines)
