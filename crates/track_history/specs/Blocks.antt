-- Public: blocks of spans, and what they have together.
use Rattle.std.specs.Prelude.{◌≡◌, ◌≢◌, ◌<◌, ◌≤ℤ◌, ℕ, List, ◌∷◌, ◌++◌, length, All}
use Rattle.std.specs.List.{flat_map}
use Rattle.ass_events.specs.Histories.{Pairwise}
use Rattle.near_events.specs.declared.spans.EventSpan.{EventSpan}
use Rattle.track_history.specs.declared.blocks.Block.{Block}
use Rattle.near_events.specs.Spans.{StandsBefore}

-- a block with so many spans takes no further one
abbrev pub most_spans : ℕ
most_spans = 512

-- a block has a span, and none begins before `first` or ends after `last`
pub record IsSpanBlock (block : Block) : Type 0 where
  pub some : 0 < length block.spans.items
  pub first : All (λ s. block.first ≤ℤ s.start) block.spans.items
  pub last : All (λ s. s.end ≤ℤ block.last) block.spans.items

-- all spans, in the order of the blocks
abbrev pub spans_of : List Block → List EventSpan
spans_of blocks = flat_map (λ block. block.spans.items) blocks

-- the blocks are filled, and all spans are in order and have different ReadOrders
pub record IsNearIndex (all : List Block) : Type 0 where
  pub blocks : All IsSpanBlock all
  pub sorted : Pairwise StandsBefore (spans_of all)
  pub orders : Pairwise (λ a b. a.order ≢ b.order) (spans_of all)

-- the span was put in somewhere
pub record IsInserted (old : List EventSpan) (span : EventSpan) (new : List EventSpan) : Type 0 where
  pub front : List EventSpan
  pub back : List EventSpan
  pub was : old ≡ front ++ back
  pub is : new ≡ front ++ span ∷ back
