use Rattle.std.proofs.Common.{◌≡◌, pos, ◌<ℤ◌, arith, to_z-of_z}
use Rattle.std.proofs.lemmas.Int.{ints}
use Rattle.sfnt_font.specs.Numbers.{bar_at}
use Rattle.sfnt_font.proofs.RangeLemmas.{is_bar}
use Rattle.sfnt_font.proofs.numbers.bar_of.Goals as goal

pub returns-then-size-gt0-clause-bar : goal.returns-then-size-gt0-clause-bar
returns-then-size-gt0-clause-bar c =
    let made : c.bar_at.result ≡ bar_at c.args.middle c.args.size = rw (to_z-of_z c.ranges.middle, to_z-of_z c.ranges.size) at c.bar_at.ensures in
    let test = rw (to_z-of_z c.ranges.size) at c.if-size-gt0.true in
    let above : pos 0 <ℤ c.args.size = omega (arith, ints, test) in
    rw made (is_bar c.args.middle c.args.size c.requires.middle c.requires.size above)
