use Rattle.std.proofs.Common.{sym, subst}
use Rattle.std.proofs.lemmas.List.Elements.{All-push}
use Rattle.std.specs.List.{All}
use Rattle.text_layout.specs.Lines.{IsLineExtent, line_extent}
use Rattle.text_layout.proofs.ImageLemmas.{mapped_more}
use Rattle.text_layout.proofs.SpanLemmas.{no_span}
use Rattle.text_layout.proofs.lines.line_extents.Goals as goal

pub loop-span-preserved : goal.loop-span-preserved
loop-span-preserved c =
    let pushed = c.in_ok-push.ensures.items in
    record {
      value = mapped_more (line_extent c.args.metrics.now c.args.items.now c.args.extents.now) c.args.spans.now c.loop-span.span-index no_span c.loop-span.lines.items c.push.new.self.items
          c.line_extent.result c.loop-span-test.true c.loop-span.invariant.value pushed c.line_extent.ensures.value;
      range = subst (All IsLineExtent) (sym pushed) (All-push IsLineExtent c.loop-span.lines.items c.line_extent.result c.loop-span.invariant.range c.line_extent.ensures.range);
    }
