use Rattle.std.proofs.Common.{arith, ◌<◌, length, ℕ, ◌≡◌, true, [], All}
use Rattle.ass_num.specs.Regions.{ascend}
use Rattle.ass_num.proofs.RegionLemmas.{row_ascends, run_at}
use Rattle.std.proofs.lemmas.List.Elements.{All-get_or}
use Rattle.ass_num.specs.Limits.{IsRunWithin}
use Rattle.border_region.specs.Strips.{no_run, runs_of_row}
use Rattle.border_region.proofs.StripLemmas.{followed_all, followed_more, followed_none, has_within, no_run_past}
use Rattle.border_region.proofs.strips.Strip.follow.Goals as goal

pub loop-row-init : goal.loop-row-init
loop-row-init c = rw (c.requires.lefts, c.requires.rights) (followed_none c.args.rows.now c.args.k c.args.n c.requires.run)

-- the place stays within its row: the run that is read, and what next_below asks
pub bounds-get-at : goal.bounds-get-at
bounds-get-at c =
    let w = c.loop-row.invariant in
    let row = w.place in
    rw c.get.ensures (rw row at (has_within c.args.rows.now c.args.k c.args.n (length c.loop-row.self.lefts.items) c.loop-row.at w.has))

pub push-requires-clause-within : goal.push-requires-clause-within
push-requires-clause-within c =
    let w = c.loop-row.invariant in
    let row = w.place in
    let l = rw row at (has_within c.args.rows.now c.args.k c.args.n (length c.loop-row.self.lefts.items) c.loop-row.at w.has) in
    let here : c.loop-row.row < length c.args.rows.now = omega (arith, c.loop-row-test.true, c.len-row-end.ensures) in
    rw c.get.ensures (All-get_or (IsRunWithin 131072) (runs_of_row c.args.rows.now c.loop-row.row) c.loop-row.at no_run l (All-get_or (All (IsRunWithin 131072)) c.args.rows.now c.loop-row.row [] here c.requires.within))

pub push-requires-clause-full : goal.push-requires-clause-full
push-requires-clause-full c =
    let w = c.loop-row.invariant in
    let row = w.place in
    let l = rw row at (has_within c.args.rows.now c.args.k c.args.n (length c.loop-row.self.lefts.items) c.loop-row.at w.has) in
    rw c.get.ensures (run_at (runs_of_row c.args.rows.now c.loop-row.row) c.loop-row.at no_run (row_ascends c.args.rows.now c.loop-row.row c.requires.ascends) l)

pub next_below-requires-clause-run : goal.next_below-requires-clause-run
next_below-requires-clause-run c = let w = c.loop-row.invariant in let row = w.place in rw row at (has_within c.args.rows.now c.args.k c.args.n (length c.loop-row.self.lefts.items) c.loop-row.at w.has)

pub loop-row-preserved : goal.loop-row-preserved
loop-row-preserved c =
    let up : (y : ℕ) → ascend (runs_of_row c.args.rows.now y) ≡ true = λ y. row_ascends c.args.rows.now y c.requires.ascends in
    rw (c.in_ok-push.ensures.lefts, c.in_ok-push.ensures.rights, c.get.ensures)
    (followed_more c.args.rows.now c.args.k c.args.n c.loop-row.row c.loop-row.at c.in-Some.next c.loop-row.self.lefts.items c.loop-row.self.rights.items up c.in-Some.ensures c.loop-row.invariant)

-- no run below goes on
pub returns-in-None : goal.returns-in-None
returns-in-None c =
    let up : (y : ℕ) → ascend (runs_of_row c.args.rows.now y) ≡ true = λ y. row_ascends c.args.rows.now y c.requires.ascends in
    rw (c.in_ok-push.ensures.lefts, c.in_ok-push.ensures.rights, c.get.ensures)
    (followed_all c.args.rows.now c.args.k c.args.n c.loop-row.row c.loop-row.at c.loop-row.self.lefts.items c.loop-row.self.rights.items up c.in-None.ensures c.loop-row.invariant)

-- the last row has none below it, so the loop isn't left at its end
pub returns : goal.returns
returns c =
    let w = c.loop-row.invariant in
    let row = w.place in
    let l = has_within c.args.rows.now c.args.k c.args.n (length c.loop-row.self.lefts.items) c.loop-row.at w.has in
    absurd (no_run_past c.args.rows.now c.loop-row.row c.loop-row.at (omega (arith, c.loop-row-test.false, c.len-row-end.ensures)) (rw row at l))
