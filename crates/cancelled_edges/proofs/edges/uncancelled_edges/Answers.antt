use Rattle.std.proofs.Common.{sym, subst}
use Rattle.ass_num.specs.Winding.{edges_of}
use Rattle.cancelled_edges.specs.Edges.{IsGrouped}
use Rattle.cancelled_edges.proofs.KeptLemmas.{balanced_none, grouped_none, single_none, balanced_step, grouped_step, single_step, items_moved, leads_at, balanced_end}
use Rattle.cancelled_edges.proofs.edges.uncancelled_edges.Goals as goal

pub loop-e-init : goal.loop-e-init
loop-e-init c =
    let kept = c.in_ok-kept.kept.items in
    record {
      balanced = balanced_none kept c.in_ok-kept.ensures.items;
      grouped = grouped_none kept c.deref-e-items.result.now c.in_ok-kept.ensures.items (subst IsGrouped (sym c.deref-e-items.ensures.value) c.sort_by_ends.ensures.grouped);
      single = single_none kept c.in_ok-kept.ensures.items;
    }

pub loop-e-preserved : goal.loop-e-preserved
loop-e-preserved c =
    let items = c.deref-e-items.result.now in
    let old = c.loop-e.kept.items in
    let new = c.add_or_cancel.new.kept.items in
    let i = c.loop-e.e-index in
    let all = edges_of c.args.outline.now.rings in
    let moved = items_moved all c.in_ok-list.list.items c.sort_by_ends.new.list.items items c.in_ok-list.ensures c.sort_by_ends.ensures.permutation c.deref-e-items.ensures.value in
    record {
      balanced = balanced_step items old new i _ c.loop-e-test.true c.loop-e.invariant.balanced c.in_ok-add_or_cancel.ensures;
      grouped = grouped_step items old new i _ c.loop-e-test.true c.loop-e.invariant.grouped c.in_ok-add_or_cancel.ensures;
      single = single_step items old new i _ c.loop-e-test.true (leads_at all items i _ moved c.loop-e-test.true) c.loop-e.invariant.grouped c.loop-e.invariant.single c.in_ok-add_or_cancel.ensures;
    }

pub returns-clause-balanced : goal.returns-clause-balanced
returns-clause-balanced c =
    let items = c.deref-e-items.result.now in
    let all = edges_of c.args.outline.now.rings in
    let moved = items_moved all c.in_ok-list.list.items c.sort_by_ends.new.list.items items c.in_ok-list.ensures c.sort_by_ends.ensures.permutation c.deref-e-items.ensures.value in
    balanced_end all items c.loop-e.kept.items c.loop-e.e-index moved c.loop-e-test.false c.loop-e.invariant.balanced
