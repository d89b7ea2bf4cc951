use Rattle.std.proofs.Common.{rules, arith, FitsSigned, w32, to_z-of_z, pos, ◌+ℤ◌, length, sym}
use Rattle.std.proofs.lemmas.Int.{ints}
use Rattle.std.proofs.lemmas.Bool.{eqb-true, eqb-false}
use Rattle.std.proofs.lemmas.List.{nil_from_length}
use Rattle.region_rows.proofs.GrowthLemmas.{skipped, grown_empty, grown_full, full_from_length}
use Rattle.region_rows.proofs.growth.Growth.add.Goals as goal

pub returns-then-len-eq0 : goal.returns-then-len-eq0
returns-then-len-eq0 c = λ wanted j w h.
    let f : FitsSigned w32 c.args.self.now.top = search rules in
    let k : FitsSigned w32 (c.args.self.now.top +ℤ pos 1) = omega (arith, ints, c.requires) in
    let e = c.if-is_empty.ensures in
    let z = c.if-len-eq0.true in
    let y = c.len.ensures in
    rw (to_z-of_z f, to_z-of_z k) (skipped wanted j c.args.self.now.top c.args.self.now.rows c.args.self.now.filled c.args.runs.now w h (omega (arith, y, z)) (nil_from_length c.args.runs.now (eqb-true (length c.args.runs.now) 0 (sym e))))

pub returns-then-is_empty : goal.returns-then-is_empty
returns-then-is_empty c = λ wanted j w h.
    let e = c.if-is_empty.ensures in
    let z = c.if-len-eq0.false in
    let y = c.len.ensures in
    rw c.in_ok-push.ensures.ok (grown_empty wanted j c.args.self.now.top c.args.self.now.rows c.args.self.now.filled c.args.runs.now w h (λ n. z (omega (arith, y, n))) (nil_from_length c.args.runs.now (eqb-true (length c.args.runs.now) 0 (sym e))))

pub returns : goal.returns
returns c = λ wanted j w h.
    let e = c.if-is_empty.ensures in
    let y = c.len-self.ensures in
    rw c.in_ok-push-2.ensures.ok (grown_full wanted j c.args.self.now.top c.args.self.now.rows c.args.self.now.filled c.len-self.result c.args.runs.now w h (full_from_length c.args.runs.now (eqb-false (length c.args.runs.now) 0 (sym e))) (rw c.in_ok-push-2.ensures.ok at y))
