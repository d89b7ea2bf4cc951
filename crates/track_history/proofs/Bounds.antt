-- Bounds of blocks, and walks in steps.
use Rattle.std.proofs.Common.{◌≡◌, ℕ, ◌<◌, ◌≤◌, ◌+◌, ◌-◌, ℤ, ◌<ℤ◌, ◌≤ℤ◌, List, [], ◌∷◌, ◌++◌, length, get_or, take, drop, sym, ap, subst, ◌∙◌, arith}
use Rattle.std.specs.List.{All, insert}
use Rattle.std.proofs.lemmas.Int.{ints}
use Rattle.std.proofs.lemmas.List.Edits.{length-insert}
use Rattle.std.proofs.lemmas.List.{drop_all, take_more}
use Rattle.std.proofs.lemmas.List.Elements.{All-nil, All-cons, All-append, All-take, All-drop, All-weaker, All-get_or}
use Rattle.near_events.specs.declared.spans.EventSpan.{EventSpan}
use Rattle.track_history.specs.declared.blocks.Block.{Block}
use Rattle.track_history.specs.Blocks.{IsSpanBlock, IsNearIndex, spans_of}
use Rattle.near_events.specs.Walks.{WalkValue, first_walk, walked_spans}
use Rattle.near_events.proofs.Nears.{walked-append, walked_ended, walked_late, least_low}
use Rattle.track_history.proofs.Indexes.{spans_from}

-- no span begins before `first` or ends after `last`
pub record AreWithin (low high : ℤ) (spans : List EventSpan) : Type 0 where
  pub first : All (λ s. low ≤ℤ s.start) spans
  pub last : All (λ s. s.end ≤ℤ high) spans

pub none_within : (first last : ℤ) → AreWithin first last []
none_within first last = record { first = All-nil (λ s. first ≤ℤ s.start); last = All-nil (λ s. s.end ≤ℤ last) }

-- wider bounds, and one span more
widened : (a b c d : ℤ) (xs : List EventSpan) → c ≤ℤ a → b ≤ℤ d → AreWithin a b xs → AreWithin c d xs
widened a b c d xs low high h = record {
  first = All-weaker (λ s. a ≤ℤ s.start) (λ s. c ≤ℤ s.start) (λ s g. omega (arith, ints, low, g)) xs h.first;
  last = All-weaker (λ s. s.end ≤ℤ b) (λ s. s.end ≤ℤ d) (λ s g. omega (arith, ints, high, g)) xs h.last;
}

joined : (a b : ℤ) (xs ys : List EventSpan) → AreWithin a b xs → AreWithin a b ys → AreWithin a b (xs ++ ys)
joined a b xs ys p q = record { first = All-append (λ s. a ≤ℤ s.start) xs ys p.first q.first; last = All-append (λ s. s.end ≤ℤ b) xs ys p.last q.last }

one_within : (a b : ℤ) (s : EventSpan) → a ≤ℤ s.start → s.end ≤ℤ b → AreWithin a b (s ∷ [])
one_within a b s low high = record { first = All-cons (λ s. a ≤ℤ s.start) s [] low (All-nil (λ s. a ≤ℤ s.start)); last = All-cons (λ s. s.end ≤ℤ b) s [] high (All-nil (λ s. s.end ≤ℤ b)) }

-- c is at most a and the span's start, and d at least b and its end
pub more_within : (a b c d : ℤ) (xs : List EventSpan) (i : ℕ) (s : EventSpan) → AreWithin a b (take i xs) → i < length xs → s ≡ get_or xs i s → c ≤ℤ a → c ≤ℤ s.start → b ≤ℤ d → s.end ≤ℤ d
    → AreWithin c d (take (i + 1) xs)
more_within a b c d xs i s h lt is low start high end =
    subst (AreWithin c d) (sym (take_more xs i s lt ∙ ap (λ z. take i xs ++ z ∷ []) (sym is)))
    (joined c d (take i xs) (s ∷ []) (widened a b c d (take i xs) low high h) (one_within c d s start end))

insert_within : (a b c d : ℤ) (xs : List EventSpan) (i : ℕ) (s : EventSpan) → AreWithin a b xs → c ≤ℤ a → c ≤ℤ s.start → b ≤ℤ d → s.end ≤ℤ d → AreWithin c d (insert xs i s)
insert_within a b c d xs i s h low start high end =
    let front : AreWithin a b (take i xs) = record { first = All-take (λ s. a ≤ℤ s.start) i xs h.first; last = All-take (λ s. s.end ≤ℤ b) i xs h.last } in
    let back : AreWithin a b (drop i xs) = record { first = All-drop (λ s. a ≤ℤ s.start) i xs h.first; last = All-drop (λ s. s.end ≤ℤ b) i xs h.last } in
    joined c d (take i xs) (s ∷ drop i xs) (widened a b c d (take i xs) low high front) (joined c d (s ∷ []) (drop i xs) (one_within c d s start end) (widened a b c d (drop i xs) low high back))

pub block_of_spans : (block : Block) → 0 < length block.spans.items → AreWithin block.first block.last block.spans.items → IsSpanBlock block
block_of_spans block some within = record { some = some; first = within.first; last = within.last }

pub block_inserted : (old new : Block) (i : ℕ) (s : EventSpan) → IsSpanBlock old → i ≤ length old.spans.items → new.spans.items ≡ insert old.spans.items i s
    → new.first ≤ℤ old.first → new.first ≤ℤ s.start → old.last ≤ℤ new.last → s.end ≤ℤ new.last → IsSpanBlock new
block_inserted old new i s block le items low start high end =
    let count = length-insert old.spans.items i s le in
    let long : length new.spans.items ≡ length (insert old.spans.items i s) = ap length items in
    block_of_spans new (omega (arith, count, long))
    (subst (AreWithin new.first new.last) (sym items) (insert_within old.first old.last new.first new.last old.spans.items i s (record { first = block.first; last = block.last }) low start high end))

-- the first walk, which has come down to this block
pub record AreWalked (t : ℤ) (blocks : List Block) (rest : ℕ) (now : WalkValue) : Type 0 where
  pub within : rest ≤ length blocks
  pub is : now ≡ walked_spans t (first_walk t) (spans_of (drop rest blocks))

pub walks_begun : (t : ℤ) (blocks : List Block) (n : ℕ) (now : WalkValue) → n ≡ length blocks → now ≡ first_walk t → AreWalked t blocks n now
walks_begun t blocks n now is first = record { within = omega (arith, is); is = first ∙ sym (ap (λ bs. walked_spans t (first_walk t) (spans_of bs)) (drop_all n blocks (omega (arith, is)))) }

pub block_walked : (t : ℤ) (blocks : List Block) (rest : ℕ) (now next : WalkValue) (b : Block) → AreWalked t blocks rest now → 0 < rest → b ≡ get_or blocks (rest - 1) b → next ≡ walked_spans t now b.spans.items
    → AreWalked t blocks (rest - 1) next
block_walked t blocks rest now next b h some is step =
    let within = h.within in
    let back : (rest - 1) + 1 ≡ rest = omega (arith, some) in
    let cut : spans_of (drop (rest - 1) blocks) ≡ b.spans.items ++ spans_of (drop rest blocks) =
    spans_from blocks (rest - 1) b (omega (arith, some, within)) ∙ (ap (λ (z : Block). z.spans.items ++ spans_of (drop ((rest - 1) + 1) blocks)) (sym is) ∙ ap (λ n. b.spans.items ++ spans_of (drop n blocks)) back) in
    record {
      within = omega (arith, within);
      is = step ∙ (ap (λ v. walked_spans t v b.spans.items) h.is ∙ (sym (walked-append t (first_walk t) b.spans.items (spans_of (drop rest blocks))) ∙ sym (ap (walked_spans t (first_walk t)) cut)));
    }

walk_low : (t : ℤ) (blocks : List Block) (rest : ℕ) (now : WalkValue) → AreWalked t blocks rest now → now.least ≤ℤ t
walk_low t blocks rest now h = subst (λ (v : WalkValue). v.least ≤ℤ t) (sym h.is) (least_low t (first_walk t) (spans_of (drop rest blocks)) (omega (arith, ints)))

pub late_passed : (t : ℤ) (blocks : List Block) (rest : ℕ) (now : WalkValue) (b : Block) → IsNearIndex blocks → AreWalked t blocks rest now → 0 < rest → b ≡ get_or blocks (rest - 1) b → t <ℤ b.first
    → AreWalked t blocks (rest - 1) now
late_passed t blocks rest now b index h some is late =
    let within = h.within in
    let block = subst IsSpanBlock (sym is) (All-get_or IsSpanBlock blocks (rest - 1) b (omega (arith, some, within)) index.blocks) in
    block_walked t blocks rest now now b h some is (sym (walked_late t b.first now b.spans.items late block.first))

pub ended_passed : (t : ℤ) (blocks : List Block) (rest : ℕ) (now : WalkValue) (b : Block) → IsNearIndex blocks → AreWalked t blocks rest now → 0 < rest → b ≡ get_or blocks (rest - 1) b → b.last ≤ℤ now.least
    → AreWalked t blocks (rest - 1) now
ended_passed t blocks rest now b index h some is ended =
    let within = h.within in
    let block = subst IsSpanBlock (sym is) (All-get_or IsSpanBlock blocks (rest - 1) b (omega (arith, some, within)) index.blocks) in
    block_walked t blocks rest now now b h some is (sym (walked_ended t b.last now b.spans.items (walk_low t blocks rest now h) ended block.last))
