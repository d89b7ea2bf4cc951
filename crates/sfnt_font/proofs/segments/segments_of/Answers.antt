use Rattle.std.proofs.Common.{◌≡◌, ◌+◌, ◌-◌, ◌++◌, ◌∷◌, [], arith, ◌∙◌, ap, length-append}
use Rattle.sfnt_font.specs.Maps.{IsBehind}
use Rattle.sfnt_font.proofs.InOrder.{segments_from-next}
use Rattle.sfnt_font.proofs.OrderLemmas.{low_after, count_after, in_order-push, low_after-push, count_after-push}
use Rattle.sfnt_font.proofs.segments.segments_of.Goals as goal

pub loop-k-preserved : goal.loop-k-preserved
loop-k-preserved c =
    let segment = c.in_ok-segment.segment in
    let kept = c.loop-k.invariant in
    let facts : IsBehind c.loop-k.low c.loop-k.before segment = c.in_ok-segment.ensures.behind in
    let pushed : c.push.new.self ≡ c.loop-k.segments ++ segment ∷ [] = c.in_ok-push.ensures.ok in
    let counted : segment.before ≡ c.loop-k.before = facts.counted in
    let behind : IsBehind (low_after 0 c.loop-k.segments) (count_after 0 c.loop-k.segments) segment = rw (kept.low_is, kept.before_is) facts in
    record {
      read = rw (pushed, ← counted)
          (segments_from-next c.args.bytes.now c.args.map c.loop-k.segments c.args.map.count c.loop-k.k c.loop-k.low c.loop-k.before segment c.loop-k-test.true c.in_ok-segment.ensures.value
          ∙ kept.read);
      counted = omega (arith, facts.behind, facts.ascends, kept.counted);
      most = omega (arith, facts.most);
      in_order = rw pushed (in_order-push 0 0 c.loop-k.segments segment kept.in_order behind);
      low_is = rw pushed (low_after-push 0 c.loop-k.segments segment);
      before_is = rw pushed (count_after-push 0 c.loop-k.segments segment ∙ ap (λ n. n + (segment.last + 1 - segment.first)) counted);
      numbered = rw pushed (length-append c.loop-k.segments (segment ∷ []) ∙ ap (λ n. n + 1) kept.numbered);
    }
