use Rattle.std.proofs.Common.{◌≡◌, ◌<◌, length, true, arith}
use Rattle.sfnt_font.specs.Ranges.{are_in_order}
use Rattle.sfnt_font.specs.Fonts.{no_segment}
use Rattle.sfnt_font.proofs.OrderLemmas.{ascends_at, facts_at}
use Rattle.sfnt_font.proofs.font.SfntFont.place_of.Goals as goal

pub place_in-requires-clause-before : goal.place_in-requires-clause-before
place_in-requires-clause-before c =
    let order : are_in_order 0 0 c.as_slice-segments.result.now ≡ true = rw c.as_slice-segments.ensures c.requires.font.in_order in
    let within : c.in-Some.k < length c.as_slice-segments.result.now = c.in-Some.ensures.within in
    let facts = facts_at 0 0 c.as_slice-segments.result.now order c.in-Some.k no_segment within (omega arith) in
    let up = ascends_at 0 0 c.as_slice-segments.result.now order c.in-Some.k no_segment within in
    omega (arith, facts.0, facts.1, up)
