use Rattle.std.proofs.Common.{◌≡◌, ◌≢◌, take, drop, sym, subst, ◌∙◌}
use Rattle.std.proofs.lemmas.List.{get_or_default}
use Rattle.near_events.specs.declared.spans.EventSpan.{EventSpan}
use Rattle.track_history.specs.declared.blocks.Block.{Block}
use Rattle.track_history.proofs.Indexes.{Before, Behind, block_all, block_sorted, inserted_or_not}
use Rattle.track_history.proofs.near_index.NearIndex.insert_into.Goals as goal

pub count_before-count-requires-clause-sorted : goal.count_before-count-requires-clause-sorted
count_before-count-requires-clause-sorted c = block_sorted c.args.self.now.blocks.items c.args.at c.index.result.now c.requires.within c.index.ensures c.requires.index

pub count_before-count-requires-clause-new : goal.count_before-count-requires-clause-new
count_before-count-requires-clause-new c = block_all (λ (s : EventSpan). s.order ≢ c.args.span.order) c.args.self.now.blocks.items c.args.at c.index.result.now c.requires.within c.index.ensures c.requires.new

pub returns-clause-index : goal.returns-clause-index
returns-clause-index c =
    let blocks = c.args.self.now.blocks.items in let m = c.index_mut.result.now in let count = c.count_before-count.result in
    let same : c.index.result.now ≡ m = c.index.ensures ∙ (get_or_default blocks c.args.at _ m c.requires.within ∙ sym c.index_mut.ensures.value) in
    (inserted_or_not c.insert.result blocks c.args.at m c.insert.new.self count c.args.span c.requires.within c.index_mut.ensures.value c.requires.index c.requires.new c.insert.ensures.block c.insert.ensures.ok c.insert.ensures.err
    c.requires.before c.requires.behind (subst (λ (z : Block). Before c.args.span (take count z.spans.items)) same c.count_before-count.ensures.before)
    (subst (λ (z : Block). Behind c.args.span (drop count z.spans.items)) same c.count_before-count.ensures.behind)).0

pub returns-clause-ok : goal.returns-clause-ok
returns-clause-ok c =
    let blocks = c.args.self.now.blocks.items in let m = c.index_mut.result.now in let count = c.count_before-count.result in
    let same : c.index.result.now ≡ m = c.index.ensures ∙ (get_or_default blocks c.args.at _ m c.requires.within ∙ sym c.index_mut.ensures.value) in
    (inserted_or_not c.insert.result blocks c.args.at m c.insert.new.self count c.args.span c.requires.within c.index_mut.ensures.value c.requires.index c.requires.new c.insert.ensures.block c.insert.ensures.ok c.insert.ensures.err
    c.requires.before c.requires.behind (subst (λ (z : Block). Before c.args.span (take count z.spans.items)) same c.count_before-count.ensures.before)
    (subst (λ (z : Block). Behind c.args.span (drop count z.spans.items)) same c.count_before-count.ensures.behind)).1

pub returns-clause-err : goal.returns-clause-err
returns-clause-err c =
    let blocks = c.args.self.now.blocks.items in let m = c.index_mut.result.now in let count = c.count_before-count.result in
    let same : c.index.result.now ≡ m = c.index.ensures ∙ (get_or_default blocks c.args.at _ m c.requires.within ∙ sym c.index_mut.ensures.value) in
    (inserted_or_not c.insert.result blocks c.args.at m c.insert.new.self count c.args.span c.requires.within c.index_mut.ensures.value c.requires.index c.requires.new c.insert.ensures.block c.insert.ensures.ok c.insert.ensures.err
    c.requires.before c.requires.behind (subst (λ (z : Block). Before c.args.span (take count z.spans.items)) same c.count_before-count.ensures.before)
    (subst (λ (z : Block). Behind c.args.span (drop count z.spans.items)) same c.count_before-count.ensures.behind)).2
