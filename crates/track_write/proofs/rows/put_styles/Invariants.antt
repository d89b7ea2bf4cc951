use Rattle.std.proofs.Common.{◌≡◌, ◌++◌, drop, map, flat_map}
use Rattle.track_write.specs.Rows.{ended, style_line}
use Rattle.track_write.proofs.rows.put_styles.Given as goal

abbrev pub invariant-loop-style : goal.invariant-loop-style
invariant-loop-style l = l.text.items ++ flat_map ended (map style_line (drop l.style-index l.styles)) ≡ l.initial.text.items ++ flat_map ended (map style_line l.styles)
