use Rattle.std.proofs.Common.{◌≡◌, ◌+◌, ◌-◌, ◌/◌, drop, get_or, refl, ap, subst, ◌∙◌, arith}
use Rattle.std.proofs.lemmas.Bool.{false≢true}
use Rattle.track_history.specs.declared.blocks.Block.{Block}
use Rattle.track_history.specs.Blocks.{spans_of}
use Rattle.track_history.proofs.Indexes.{Behind, blocks_before, blocks_behind}
use Rattle.track_history.proofs.near_index.NearIndex.block_of.Goals as goal

pub search-preserved-then-is_before : goal.search-preserved-then-is_before
search-preserved-then-is_before c =
    let inv = c.search.invariant in let more = c.search-test.true in
    let s = c.index-in-search.result.now in
    record {
      order = omega (arith, more, inv.order);
      within = inv.within;
      before = blocks_before c.args.self.now.blocks.items (c.search.low + (c.search.high - c.search.low) / 2) c.index.result.now s c.args.span.now c.requires.index (omega (arith, more, inv.within))
          (c.index-in-search.ensures ∙ ap (λ (z : Block). get_or z.spans.items 0 s) c.index.ensures) (c.if-is_before.ensures.0 refl);
      behind = inv.behind;
    }

pub search-preserved : goal.search-preserved
search-preserved c =
    let inv = c.search.invariant in let more = c.search-test.true in
    let s = c.index-in-search.result.now in
    record {
      order = omega (arith, more, inv.order);
      within = omega (arith, more, inv.within);
      before = inv.before;
      behind = blocks_behind c.args.self.now.blocks.items (c.search.low + (c.search.high - c.search.low) / 2) c.index.result.now s c.args.span.now c.requires.index (omega (arith, more, inv.within))
          (c.index-in-search.ensures ∙ ap (λ (z : Block). get_or z.spans.items 0 s) c.index.ensures) c.requires.new (λ b. false≢true (c.if-is_before.ensures.1 b));
    }

pub returns-clause-behind : goal.returns-clause-behind
returns-clause-behind c =
    let one : c.search.high ≡ c.search.low + 1 = omega (arith, c.search-test.false, c.search.invariant.order) in
    subst (λ n. Behind c.args.span.now (spans_of (drop n c.args.self.now.blocks.items))) one c.search.invariant.behind
