use Rattle.std.proofs.Common.{◌≡◌, drop, map}
use Rattle.std.specs.Option.{option_map}
use Rattle.tag_arguments.specs.Names.{longer_found, longest_row}
use Rattle.tag_arguments.proofs.names.longest_row.Given as goal

-- the longest so far, or a longer one of those that come
abbrev pub invariant-loop-row : goal.invariant-loop-row
invariant-loop-row l =
    longer_found (option_map (λ row. (row.0.now, row.1)) l.longest) (longest_row (map (λ row. (row.0.now, row.1)) (drop l.row-index l.rows)) l.text)
    ≡ longest_row (map (λ row. (row.0.now, row.1)) l.rows) l.text
