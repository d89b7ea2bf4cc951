use Rattle.std.proofs.Common.{◌≡◌, ◌++◌}
use Rattle.std.specs.List.{flat_map, range_with_len}
use Rattle.y4m_text.specs.Streams.{chroma_row}
use Rattle.y4m_text.proofs.frame.add_chroma.Given as goal

abbrev pub invariant-loop-j : goal.invariant-loop-j
invariant-loop-j l = l.bytes.items ≡ l.initial.bytes.items ++ flat_map (chroma_row l.fn.which l.form l.size l.pixels) (range_with_len 0 l.j)
