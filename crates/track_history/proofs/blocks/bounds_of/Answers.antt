use Rattle.std.proofs.Common.{pos, get_or, arith}
use Rattle.std.proofs.lemmas.Int.{ints}
use Rattle.std.proofs.lemmas.List.{get_or_default}
use Rattle.near_events.specs.declared.spans.EventSpan.{EventSpan}
use Rattle.track_history.proofs.Bounds.{more_within}
use Rattle.track_history.proofs.blocks.bounds_of.Goals as goal

pub all-preserved : goal.all-preserved
all-preserved c =
    let d : EventSpan = record { layer = pos 0; start = pos 0; end = pos 0; order = 0; place = 0 } in
    let items = c.args.spans.now in let k = c.all.span-index in let s = get_or items k d in
    more_within _ _ _ _ items k s c.all.invariant c.all-test.true (get_or_default items k d s c.all-test.true)
    (omega (arith, ints, c.wider-wider.ensures.first.0)) (omega (arith, ints, c.wider-wider.ensures.first.1)) (omega (arith, ints, c.wider-wider.ensures.last.0)) (omega (arith, ints, c.wider-wider.ensures.last.1))
