use Rattle.std.proofs.Common.{◌≡◌, ◌++◌, map}
use Rattle.std.specs.List.{range_with_len}
use Rattle.y4m_text.specs.Colours.{luma, weights_of}
use Rattle.y4m_text.specs.Streams.{picture_colour}
use Rattle.y4m_text.proofs.frame.add_luma.Given as goal

abbrev pub invariant-loop-k : goal.invariant-loop-k
invariant-loop-k l = l.bytes.items ≡ l.initial.bytes.items ++ map (λ k. luma (weights_of l.form.colours.matrix) l.form.colours.range (picture_colour l.pixels k)) (range_with_len 0 l.k)
