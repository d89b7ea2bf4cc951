use Rattle.std.proofs.Common.{rules, FitsSigned, w32, to_z-of_z}
use Rattle.region_rows.proofs.JoinLemmas.{joined_apart, joined_meeting}
use Rattle.ass_num.proofs.OrderLemmas.{lt_is, lt_not}
use Rattle.region_rows.proofs.runs.add_run.Goals as goal

pub returns-then-last-run : goal.returns-then-last-run
returns-then-last-run c =
    let i = c.in-Some.ensures.items in
    let ft : FitsSigned w32 c.in-Some.last.to = search rules in
    let fr : FitsSigned w32 c.args.run.from = search rules in
    let h = lt_is c.in-Some.last.to c.args.run.from (rw (to_z-of_z ft, to_z-of_z fr) at c.if-last-run.true) in
    rw (c.in_ok-push-3.ensures.items, c.in_ok-push-2.ensures.items, i) (joined_apart c.pop.new.self.items c.in-Some.last c.args.run (rw i at c.requires.ascends) (rw i at c.requires.begin) h c.requires.samples)

pub returns : goal.returns
returns c =
    let i = c.in-Some.ensures.items in
    let fl : FitsSigned w32 c.in-Some.last.from = search rules in
    let ft : FitsSigned w32 c.in-Some.last.to = search rules in
    let fr : FitsSigned w32 c.args.run.from = search rules in
    let fo : FitsSigned w32 c.args.run.to = search rules in
    let fm : FitsSigned w32 c.max.result = search rules in
    let h = lt_not c.in-Some.last.to c.args.run.from (rw (to_z-of_z ft, to_z-of_z fr) at c.if-last-run.false) in
    let m = rw (to_z-of_z ft, to_z-of_z fo) at c.max.ensures.value in
    rw (c.in_ok-push-4.ensures.items, i) (joined_meeting c.pop.new.self.items c.in-Some.last c.args.run _ (rw i at c.requires.ascends) (rw i at c.requires.begin) h (to_z-of_z fl) (rw (to_z-of_z fm) m))
