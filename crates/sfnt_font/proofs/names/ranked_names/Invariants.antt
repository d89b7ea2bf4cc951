use Rattle.std.proofs.Common.{◌≡◌, ◌+◌, ◌-◌, ◌*◌}
use Rattle.font_bytes.specs.Bytes.{u16_at}
use Rattle.sfnt_font.specs.Names.{ranked_names, record_name, records_from}
use Rattle.sfnt_font.proofs.Steps.{found_with}
use Rattle.sfnt_font.proofs.names.ranked_names.Given as goal

abbrev pub invariant-loop-k : goal.invariant-loop-k
invariant-loop-k l =
    found_with (record_name l.bytes l.names) l.most l.found (records_from l.bytes l.names l.kind l.rank ((l.names.place + 6) + 12 * l.k) (u16_at l.bytes (l.names.place + 2) - l.k))
    ≡ ranked_names l.bytes l.names l.kind l.rank l.most
