-- Two neighbours in the table, and what lies between them.
use Rattle.std.proofs.Common.{◌-◌, ◌*◌, ◌≤◌, arith}
use Rattle.std.proofs.lemmas.Int.{ints}
use Rattle.ass_num.specs.Sine.{sines}
use Rattle.ass_num.proofs.SineTable.{entry_rises, between_most, quarter_value}
use Rattle.ass_num.proofs.angles.first_quarter.Goals as goal

pub overflow_sub-above : goal.overflow_sub-above
unfolding sines
overflow_sub-above c =
    let rises = entry_rises c.min-degree.result (omega arith) in
    omega (arith, c.from-below.ensures, c.from-above.ensures, rises.0)

pub returns-clause-value : goal.returns-clause-value
unfolding sines
returns-clause-value c =
    let rises = entry_rises c.min-degree.result (omega arith) in
    let order : c.from-below.result ≤ c.from-above.result = omega (arith, c.from-below.ensures, c.from-above.ensures, rises.0) in
    let high : c.from-above.result ≤ 10000 = omega (arith, c.from-above.ensures, rises.1) in
    let part : c.args.m - c.min-degree.result * 1000 ≤ 1000 = omega arith in
    let most = between_most c.from-below.result c.from-above.result (c.args.m - c.min-degree.result * 1000) order high part in
    let value = quarter_value c.args.m c.min-degree.result c.from-below.result c.from-above.result c.requires c.min-degree.ensures c.from-below.ensures c.from-above.ensures in
    omega (arith, ints, most, value, c.from.ensures)

pub returns-clause-most : goal.returns-clause-most
unfolding sines
returns-clause-most c =
    let rises = entry_rises c.min-degree.result (omega arith) in
    let order : c.from-below.result ≤ c.from-above.result = omega (arith, c.from-below.ensures, c.from-above.ensures, rises.0) in
    let high : c.from-above.result ≤ 10000 = omega (arith, c.from-above.ensures, rises.1) in
    let part : c.args.m - c.min-degree.result * 1000 ≤ 1000 = omega arith in
    let most = between_most c.from-below.result c.from-above.result (c.args.m - c.min-degree.result * 1000) order high part in
    omega (arith, ints, most, c.from.ensures)
