use Rattle.std.proofs.Common.{[], ◌∷◌, map}
use Rattle.std.specs.Arc.{arc_value}
use Rattle.std.specs.Prelude.{codes}
use Rattle.track_write.specs.Rows.{header_lines, style_format_line, style_line, event_format_line, dialogue_line}
use Rattle.track_write.proofs.RowLemmas.{five_parts}
use Rattle.track_write.proofs.texts.all_lines.Goals as goal

pub returns : goal.returns
returns c =
    five_parts (header_lines c.args.script.now.header) (codes "[V4+ Styles]" ∷ style_format_line ∷ []) (map style_line c.args.script.now.styles) (codes "[Events]" ∷ event_format_line ∷ []) (map dialogue_line (map arc_value c.args.events.now))
    c.new-text.result.items c.put_header.new.text.items c.put_styles_head.new.text.items c.put_styles.new.text.items c.put_events_head.new.text.items c.put_events.new.text.items
    c.new-text.ensures.items (rw c.header.ensures at c.in_ok-put_header.ensures) c.in_ok-put_styles_head.ensures (rw c.styles.ensures at c.in_ok-put_styles.ensures) c.in_ok-put_events_head.ensures c.in_ok-put_events.ensures
