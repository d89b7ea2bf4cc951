use Rattle.std.proofs.Common.{◌∙◌, ◌++◌, flat_map, length, ap}
use Rattle.std.proofs.lemmas.Iterator.Consumers.{YieldsList-end}
use Rattle.std.specs.Str.{chars}
use Rattle.unicode_segmentation.specs.Iter.{graphemes_left}
use Rattle.unicode_segmentation.proofs.SegmentsLemmas.{YieldsList-from_gives}
use Rattle.text_layout.specs.Clusters.{flags_of}
use Rattle.text_layout.proofs.ClusterLemmas.{flags-graphemes, flat_map-now}
use Rattle.text_layout.proofs.clusters.add_text.Goals as goal

pub returns : goal.returns
returns c =
    let all = YieldsList-end (YieldsList-from_gives _ _ c.into_iter-cluster-iterator.result) c.loop-cluster.yielded _ c.loop-cluster.yielded_by _ _ c.in-None.is c.next.ensures.steps in
    let left = ap graphemes_left c.into_iter-cluster-iterator.ensures.into_iter_gives ∙ c.graphemes-cluster-items.ensures.left in
    c.loop-cluster.invariant
    ∙ ap (λ l. c.args.ends.now.items ++ l)
    (flat_map-now _ (λ cluster. flags_of (length (chars cluster))) c.loop-cluster.yielded
    ∙ ap (flat_map (λ cluster. flags_of (length (chars cluster)))) (all.0 ∙ left)
    ∙ flags-graphemes c.args.text.now c.utf8.text)
