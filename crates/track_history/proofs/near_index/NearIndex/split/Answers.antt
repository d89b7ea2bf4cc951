use Rattle.std.proofs.Common.{◌≡◌, ◌+◌, take, List, get_or, set, sym, ap, subst, ◌∙◌, arith}
use Rattle.std.proofs.lemmas.List.{get_or_default}
use Rattle.std.proofs.lemmas.List.Edits.{get_or-insert_below}
use Rattle.track_history.specs.declared.blocks.Block.{Block}
use Rattle.track_history.specs.Blocks.{IsNearIndex, spans_of}
use Rattle.track_history.proofs.Indexes.{split}
use Rattle.track_history.proofs.near_index.NearIndex.split.Goals as goal

pub returns-clause-index : goal.returns-clause-index
returns-clause-index c =
    let blocks = c.args.self.now.blocks.items in let at = c.args.at in
    let b = c.index-2.result.now in let m = c.index_mut.result.now in let tail = c.in_ok-tail.tail in
    let same : m ≡ b = c.index_mut.ensures.value ∙ (ap (λ (bs : List Block). get_or bs at m) c.in_ok-insert.ensures.items
    ∙ (get_or-insert_below blocks (at + 1) tail m at (omega arith) (omega (arith, c.requires.within)) ∙ (get_or_default blocks at m b c.requires.within ∙ sym c.index-2.ensures))) in
    let cut = c.if-at-len.cut in
    subst (λ (bs : List Block). IsNearIndex (set bs at c.cut.new.self)) (sym c.in_ok-insert.ensures.items)
    (split blocks at b tail c.cut.new.self cut c.requires.within c.index-2.ensures c.requires.index c.in_ok-tail.ensures.block c.cut.ensures.block c.in_ok-tail.ensures.spans
    (c.cut.ensures.spans ∙ ap (λ (z : Block). take cut z.spans.items) same)).0

pub returns-clause-spans : goal.returns-clause-spans
returns-clause-spans c =
    let blocks = c.args.self.now.blocks.items in let at = c.args.at in
    let b = c.index-2.result.now in let m = c.index_mut.result.now in let tail = c.in_ok-tail.tail in
    let same : m ≡ b = c.index_mut.ensures.value ∙ (ap (λ (bs : List Block). get_or bs at m) c.in_ok-insert.ensures.items
    ∙ (get_or-insert_below blocks (at + 1) tail m at (omega arith) (omega (arith, c.requires.within)) ∙ (get_or_default blocks at m b c.requires.within ∙ sym c.index-2.ensures))) in
    let cut = c.if-at-len.cut in
    ap (λ (bs : List Block). spans_of (set bs at c.cut.new.self)) c.in_ok-insert.ensures.items
    ∙ (split blocks at b tail c.cut.new.self cut c.requires.within c.index-2.ensures c.requires.index c.in_ok-tail.ensures.block c.cut.ensures.block c.in_ok-tail.ensures.spans
    (c.cut.ensures.spans ∙ ap (λ (z : Block). take cut z.spans.items) same)).1
