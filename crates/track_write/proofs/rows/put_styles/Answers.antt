use Rattle.std.proofs.Common.{◌++◌, map, flat_map, refl, ap, ◌∙◌}
use Rattle.track_write.specs.Rows.{ended, style_line}
use Rattle.track_write.proofs.RowLemmas.{text_more}
use Rattle.track_write.proofs.rows.put_styles.Goals as goal

pub loop-style-preserved : goal.loop-style-preserved
loop-style-preserved c =
    let text = c.loop-style.text.items in
    text_more (λ styles. flat_map ended (map style_line styles)) (λ style. ended (style_line style)) (λ x xs. refl) text c.put_style.new.text.items c.args.styles.now c.loop-style.style-index c.style-item.result c.loop-style-test.true
    (c.in_ok-put_style.ensures ∙ ap (λ style. text ++ ended (style_line style)) c.style-item.is)
    ∙ c.loop-style.invariant
