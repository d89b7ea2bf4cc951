use Rattle.std.proofs.Common.{◌≡◌, ◌++◌, map}
use Rattle.std.specs.List.{range_with_len}
use Rattle.y4m_text.specs.Streams.{chroma_sample}
use Rattle.y4m_text.proofs.frame.add_chroma_row.Given as goal

abbrev pub invariant-loop-i : goal.invariant-loop-i
invariant-loop-i l = l.bytes.items ≡ l.initial.bytes.items ++ map (chroma_sample l.scale.which l.form l.size l.pixels l.j) (range_with_len 0 l.i)
