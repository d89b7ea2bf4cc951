use Rattle.std.proofs.Common.{arith, rules, ap, sym, subst, ◌∙◌, ◌≡◌, ℤ, List, All, map, filter, length, int_lt, pos, ◌+ℤ◌, ◌-ℤ◌, to_z-of_z}
use Rattle.std.proofs.lemmas.Int.{ints}
use Rattle.std.proofs.lemmas.List.Elements.{All-get_or}
use Rattle.sample_region.specs.Carried.{AreCarriedTo, GoOnFrom, live_edges}
use Rattle.sample_region.specs.Crossings.{crossing_at, row_crossings}
use Rattle.sample_region.specs.declared.carried.LiveEdge.{LiveEdge}
use Rattle.sample_region.proofs.CarryLemmas.{all_written, go_on, live_edges-filter}
use Rattle.sample_region.proofs.SweepLemmas.{crossed, swept}
use Rattle.sample_region.proofs.sweep.Sweep.advance.Goals as goal

-- those that are left cross the row, as they crossed the one before
left : (y : ℤ) (old new : List LiveEdge) → new ≡ filter (λ (live : LiveEdge). int_lt y live.edge.lower.y) old → AreCarriedTo (y -ℤ pos 4) old → All (GoOnFrom (y -ℤ pos 4)) new
left y old new e all = rw e (go_on y old all)

pub carry-requires : goal.carry-requires
carry-requires c =
    let d = rw (to_z-of_z c.ranges.y) at c.drop_ended.ensures in
    let go = left c.args.y c.args.self.now.active.items c.drop_ended.new.active.items d c.requires.carried in
    rw c.as_mut_slice.ensures.value (λ k e l. (c.args.y -ℤ pos 4, All-get_or (GoOnFrom (c.args.y -ℤ pos 4)) c.drop_ended.new.active.items k e l go))

pub begin_edges-requires-clause-active : goal.begin_edges-requires-clause-active
begin_edges-requires-clause-active c =
    let d = rw (to_z-of_z c.ranges.y) at c.drop_ended.ensures in
    let whole : c.drop_ended.new.active.len ≡ length c.drop_ended.new.active.items = search rules in
    let w = all_written c.drop_ended.new.active.len c.carry.new.active c.drop_ended.new.active.items (c.carry.auto.active ∙ ap length c.as_mut_slice.ensures.value) whole in
    rw (to_z-of_z c.ranges.y) (ap live_edges w ∙ c.carry.ensures.edges ∙ ap live_edges c.as_mut_slice.ensures.value ∙ ap live_edges d ∙ live_edges-filter c.args.y c.args.self.now.active.items
    ∙ c.requires.swept.active_is c.args.y (omega (arith, ints)))

pub begin_edges-requires-clause-carried : goal.begin_edges-requires-clause-carried
begin_edges-requires-clause-carried c =
    let d = rw (to_z-of_z c.ranges.y) at c.drop_ended.ensures in
    let go = left c.args.y c.args.self.now.active.items c.drop_ended.new.active.items d c.requires.carried in
    let whole : c.drop_ended.new.active.len ≡ length c.drop_ended.new.active.items = search rules in
    let w = all_written c.drop_ended.new.active.len c.carry.new.active c.drop_ended.new.active.items (c.carry.auto.active ∙ ap length c.as_mut_slice.ensures.value) whole in
    let here : (c.args.y -ℤ pos 4) +ℤ pos 4 ≡ c.args.y = omega (arith, ints) in
    let moved = rw here at (c.carry.ensures.carried (c.args.y -ℤ pos 4) (rw c.as_mut_slice.ensures.value go)) in
    rw (to_z-of_z c.ranges.y) (subst (AreCarriedTo c.args.y) (sym w) moved)

pub returns-clause-crossings : goal.returns-clause-crossings
returns-clause-crossings c =
    let a = simp (to_z-of_z c.ranges.y) at c.in_ok-begin_edges.ensures.active in
    let u = simp (to_z-of_z c.ranges.y) at c.in_ok-begin_edges.ensures.above in
    let b = simp (to_z-of_z c.ranges.y) at c.in_ok-begin_edges.ensures.below in
    let r = simp (to_z-of_z c.ranges.y) at c.in_ok-begin_edges.ensures.carried in
    let x = c.in_ok-cross.ensures c.args.y (rw c.as_slice.ensures.value r) in
    let e : c.cross.new.crossings.items ≡ row_crossings c.args.y c.args.edges.now =
    x ∙ ap (map (crossing_at c.args.y)) (ap live_edges c.as_slice.ensures.value ∙ a ∙ crossed c.args.y c.args.edges.now c.begin_edges.new.self.begun u b) in
    rw e at c.sort.ensures.permutation

pub returns-clause-swept : goal.returns-clause-swept
returns-clause-swept c =
    let a = simp (to_z-of_z c.ranges.y) at c.in_ok-begin_edges.ensures.active in
    let u = simp (to_z-of_z c.ranges.y) at c.in_ok-begin_edges.ensures.above in
    swept c.args.y c.args.edges.now c.begin_edges.new.self.begun (live_edges c.begin_edges.new.self.active.items) a u c.in_ok-begin_edges.ensures.within

pub returns-clause-swept_to : goal.returns-clause-swept_to
returns-clause-swept_to c =
    let a = simp (to_z-of_z c.ranges.y) at c.in_ok-begin_edges.ensures.active in
    let u = simp (to_z-of_z c.ranges.y) at c.in_ok-begin_edges.ensures.above in
    let b = simp (to_z-of_z c.ranges.y) at c.in_ok-begin_edges.ensures.below in
    record { active_is = a; above = u; below = b; within = c.in_ok-begin_edges.ensures.within }

pub returns-clause-carried : goal.returns-clause-carried
returns-clause-carried c = simp (to_z-of_z c.ranges.y) at c.in_ok-begin_edges.ensures.carried
