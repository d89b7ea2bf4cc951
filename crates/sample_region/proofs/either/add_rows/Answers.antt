use Rattle.std.proofs.Common.{to_z, w32}
use Rattle.region_rows.specs.Grown.{IsGrown}
use Rattle.sample_region.specs.Unions.{in_either}
use Rattle.region_rows.proofs.RowLoops.{next_row, last_row}
use Rattle.sample_region.proofs.either.add_rows.Goals as goal

pub loop-j-preserved : goal.loop-j-preserved
loop-j-preserved c = next_row (λ j. IsGrown (in_either c.args.a.now c.args.b.now) j c.loop-j.growth) (λ j. IsGrown (in_either c.args.a.now c.args.b.now) j c.add_row.new.growth) c.args.first c.args.end (to_z w32 c.loop-j.j-bits) c.ranges.first c.ranges.end c.loop-j.invariant c.loop-j-test.true c.in_ok-add_row.ensures

pub returns : goal.returns
returns c = last_row (λ j. IsGrown (in_either c.args.a.now c.args.b.now) j c.loop-j.growth) _ c.args.end (to_z w32 c.loop-j.j-bits) c.ranges.end c.loop-j.invariant c.loop-j-test.false
