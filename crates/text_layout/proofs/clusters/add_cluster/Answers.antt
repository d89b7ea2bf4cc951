use Rattle.std.proofs.Common.{◌∙◌, ◌+◌, ◌-◌, ◌==◌, ◌∷◌, ◌++◌, [], sym, ap, arith, append_assoc, append-nil, refl}
use Rattle.std.proofs.lemmas.Iterator.{YieldsList-from_chars}
use Rattle.std.proofs.lemmas.Iterator.Consumers.{count_from_yields_List}
use Rattle.text_layout.specs.Clusters.{flags_of}
use Rattle.text_layout.proofs.ClusterLemmas.{flags_of-none, flags_of-step}
use Rattle.text_layout.proofs.clusters.add_cluster.Goals as goal

pub loop-k-preserved : goal.loop-k-preserved
loop-k-preserved c =
    let n = c.count-count.result in
    let k = c.loop-k.k in
    ap (λ l. l ++ flags_of (n - (k + 1))) c.in_ok-push.ensures.items
    ∙ append_assoc c.loop-k.ends.items ((k + 1 == n) ∷ []) (flags_of (n - (k + 1)))
    ∙ ap (λ l. c.loop-k.ends.items ++ l) (sym (flags_of-step n k (k + 1 == n) (omega arith) refl))
    ∙ c.loop-k.invariant

pub returns : goal.returns
returns c =
    let n = c.count-count.result in
    let count = count_from_yields_List _ _ c.count-count.ensures.ran (YieldsList-from_chars c.args.cluster.now c.utf8.cluster (cc)) in
    sym (append-nil c.loop-k.ends.items) ∙ ap (λ l. c.loop-k.ends.items ++ l) (sym (flags_of-none n c.loop-k.k (omega arith)))
    ∙ c.loop-k.invariant ∙ ap (λ m. c.args.ends.now.items ++ flags_of m) count
