use Rattle.std.proofs.Common.{ap, ◌∙◌, not, arith}
use Rattle.std.specs.declared.alloc.Global.{Global}
use Rattle.cache_kinds.specs.Kinds.{composite_meaning}
use Rattle.flight_cache.specs.Budgets.{may_be_kept}
use Rattle.mask_caches.proofs.Keeping.{made-lease}
use Rattle.mask_caches.proofs.KeysWarmed.{one-much, one-refused, one-warmed, refused-holds}
use Rattle.mask_caches.proofs.warming.warm_key.Goals as goal

pub give_back-pass-requires-clause-own : goal.give_back-pass-requires-clause-own
give_back-pass-requires-clause-own g c = rw c.in-Ok.is at c.composite-pass.ensures.home

pub may_keep-may_keep-requires : goal.may_keep-may_keep-requires
may_keep-may_keep-requires g c = omega arith

pub returns-in-Ok : goal.returns-in-Ok
returns-in-Ok g c =
    let t = rw c.in-Ok.is at c.composite-pass.ensures.composed in
    let holds = rw c.in-Ok.is at c.composite-pass.ensures.holds in
    let before = c.args.pass in
    let mid = c.composite-pass.result.0 in
    let after = c.give_back-pass.result in
    let gives = c.give_back-pass.ensures in
    let made = made-lease c.args.caches.now.composites.tag t.visit.course c.args.key.now c.in-Ok.lease t.had_by in
    let w = one-warmed c.args.caches.now before mid after c.args.key.now c.in-Ok.lease t gives.composites gives.masks gives.regions in
    record {
      pass = gives.pass;
      visit = (t.visit, t.is_visit, w.0, w.1, tt);
      unkept = ap not (c.may_keep-may_keep.ensures ∙ ap (may_be_kept (composite_meaning {Z = Global}) c.args.budgets.now c.args.key.now) (c.value.ensures ∙ made));
      holds = one-much c.args.caches.now before mid after c.args.key.now c.in-Ok.lease holds gives.composites gives.masks gives.regions;
    }

pub returns-in-Err : goal.returns-in-Err
returns-in-Err g c =
    let t = rw c.in-Err.is at c.composite-pass.ensures.composed in
    let holds = rw c.in-Err.is at c.composite-pass.ensures.holds in
    let before = c.args.pass in
    let mid = c.composite-pass.result.0 in
    let w = one-refused c.args.caches.now before mid c.args.key.now c.in-Err.refused t in
    record {
      pass = c.composite-pass.ensures.pass;
      visit = (t.visit, t.is_visit, w.0, tt, w.1);
      unkept = tt;
      holds = refused-holds c.args.caches.now before mid c.args.key.now c.in-Err.refused holds;
    }
