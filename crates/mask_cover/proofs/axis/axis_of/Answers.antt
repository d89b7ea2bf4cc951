use Rattle.std.proofs.Common.{arith}
use Rattle.std.proofs.lemmas.Int.{ints}
use Rattle.mask_cover.proofs.axis.axis_of.Goals as goal

pub place_of-count-requires-clause-behind : goal.place_of-count-requires-clause-behind
place_of-count-requires-clause-behind c =
    let a = c.pixel_of-first.ensures in
    let b = c.pixel_of-last.ensures in
    omega (arith, ints, a.low, a.high, b.low, b.high, c.from.ensures, c.from-2.ensures, c.requires.some, c.requires.high)

pub returns-clause-last : goal.returns-clause-last
returns-clause-last c =
    let a = c.pixel_of-first.ensures in
    let b = c.pixel_of-last.ensures in
    record {
      low = omega (arith, ints, a.low, a.high, b.low, b.high, c.from.ensures, c.from-2.ensures, c.place_of-count.ensures, c.requires.high);
      high = omega (arith, ints, a.low, a.high, b.low, b.high, c.from.ensures, c.from-2.ensures, c.place_of-count.ensures, c.requires.high);
    }

pub returns-clause-low : goal.returns-clause-low
returns-clause-low c =
    let a = c.pixel_of-first.ensures in
    omega (arith, ints, a.low, a.high, c.from.ensures, c.start_of.ensures)

pub returns-clause-count : goal.returns-clause-count
returns-clause-count c =
    let a = c.pixel_of-first.ensures in
    let b = c.pixel_of-last.ensures in
    omega (arith, ints, a.low, a.high, b.low, b.high, c.from.ensures, c.from-2.ensures, c.place_of-count.ensures, c.requires.high)
