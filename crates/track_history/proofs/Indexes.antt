-- Blocks of spans, and searches in them.
use Rattle.std.proofs.Common.{◌≡◌, ◌≢◌, ℕ, suc, ◌<◌, ◌≤◌, ◌+◌, List, [], ◌∷◌, ◌++◌, length, get_or, take, drop, set, refl, sym, ap, subst, ◌∙◌, arith, append_assoc, length-append, Result, Ok, Err}
use Rattle.std.specs.Result.{OnOk, OnErr}
use Rattle.std.specs.List.{All, insert}
use Rattle.std.proofs.lemmas.List.{take-append-drop, drop_more, take_more, drop_all, set_split, set-append_left, set_at, length-take-le}
use Rattle.std.proofs.lemmas.List.Concat.{flat_map-append}
use Rattle.std.proofs.lemmas.List.Elements.{All-nil, All-cons, All-head, All-append, All-take, All-drop, All-get_or, All-set}
use Rattle.ass_events.specs.Histories.{Pairwise}
use Rattle.near_events.specs.declared.spans.EventSpan.{EventSpan}
use Rattle.track_history.specs.declared.blocks.Block.{Block}
use Rattle.near_events.specs.Spans.{StandsBefore}
use Rattle.track_history.specs.Blocks.{IsSpanBlock, IsNearIndex, IsInserted, spans_of}
use Rattle.near_events.proofs.Pairs.{All-left, All-right, Pairwise-left, Pairwise-right, Pairwise-cross, Pairwise-insert}
use Rattle.near_events.proofs.Orders.{before_trans, before_other}

-- ---- cut lists
module _ {X : Type 0} where
  pub cut_at : (xs : List X) (i : ℕ) (d : X) → i < length xs → xs ≡ take i xs ++ get_or xs i d ∷ drop (i + 1) xs
  cut_at xs i d lt = sym (take-append-drop i xs) ∙ ap (λ z. take i xs ++ z) (drop_more xs i d lt)

  mid_was : (p a b s : List X) → p ++ ((a ++ b) ++ s) ≡ (p ++ a) ++ (b ++ s)
  mid_was p a b s = ap (λ z. p ++ z) (append_assoc a b s) ∙ sym (append_assoc p a (b ++ s))

  head_of : (xs : List X) (x : X) → 0 < length xs → x ≡ get_or xs 0 x → (rest : List X) × (xs ≡ x ∷ rest)
  head_of [] x some is = absurd (omega (arith, some))
  head_of (y ∷ ys) x some is = (ys, ap (λ z. z ∷ ys) (sym is))

-- ---- spans of blocks
pub spans_of-append : (xs ys : List Block) → spans_of (xs ++ ys) ≡ spans_of xs ++ spans_of ys
spans_of-append xs ys = flat_map-append (λ (b : Block). b.spans.items) xs ys

pub spans_at : (blocks : List Block) (i : ℕ) (d : Block) → i < length blocks
    → spans_of blocks ≡ spans_of (take i blocks) ++ ((get_or blocks i d).spans.items ++ spans_of (drop (i + 1) blocks))
spans_at blocks i d lt = ap spans_of (cut_at blocks i d lt) ∙ spans_of-append (take i blocks) (get_or blocks i d ∷ drop (i + 1) blocks)

pub spans_from : (blocks : List Block) (i : ℕ) (d : Block) → i < length blocks → spans_of (drop i blocks) ≡ (get_or blocks i d).spans.items ++ spans_of (drop (i + 1) blocks)
spans_from blocks i d lt = ap spans_of (drop_more blocks i d lt)

pub spans_set : (blocks : List Block) (i : ℕ) (b : Block) → i < length blocks
    → spans_of (set blocks i b) ≡ spans_of (take i blocks) ++ (b.spans.items ++ spans_of (drop (i + 1) blocks))
spans_set blocks i b lt =
    let after : suc i ≡ i + 1 = omega arith in
    ap spans_of (set_split blocks i b lt ∙ ap (λ (n : ℕ). take i blocks ++ b ∷ drop n blocks) after) ∙ spans_of-append (take i blocks) (b ∷ drop (i + 1) blocks)

-- ---- what stands before, and what behind
abbrev pub Before : EventSpan → List EventSpan → Type 0
Before x spans = All (λ s. StandsBefore s x) spans

abbrev pub Behind : EventSpan → List EventSpan → Type 0
Behind x spans = All (λ s. StandsBefore x s) spans

front_before : (p q : List EventSpan) (f x : EventSpan) → Pairwise StandsBefore (p ++ f ∷ q) → StandsBefore f x → Before x p
front_before p q f x sorted fx = λ k d lt.
    let a = get_or p k d in before_trans a f x (All-head (StandsBefore a) f q (Pairwise-cross StandsBefore p (f ∷ q) sorted k d lt)) fx

back_behind : (p q : List EventSpan) (f x : EventSpan) → Pairwise StandsBefore (p ++ f ∷ q) → StandsBefore x f → Behind x (f ∷ q)
back_behind p q f x sorted xf =
    All-cons (StandsBefore x) f q xf (λ k d lt. before_trans x f (get_or q k d) xf ((Pairwise-right StandsBefore p (f ∷ q) sorted).0 k d lt))

-- in a list: up to and with a span that stands before x, and from one that doesn't
pub take_before : (xs : List EventSpan) (k : ℕ) (s x : EventSpan) → Pairwise StandsBefore xs → k < length xs → s ≡ get_or xs k s → StandsBefore s x → Before x (take (k + 1) xs)
take_before xs k s x sorted lt is sx =
    let cut : xs ≡ take k xs ++ s ∷ drop (k + 1) xs = cut_at xs k s lt ∙ ap (λ z. take k xs ++ z ∷ drop (k + 1) xs) (sym is) in
    let more : take (k + 1) xs ≡ take k xs ++ s ∷ [] = take_more xs k s lt ∙ ap (λ z. take k xs ++ z ∷ []) (sym is) in
    subst (Before x) (sym more) (All-append (λ a. StandsBefore a x) (take k xs) (s ∷ [])
    (front_before (take k xs) (drop (k + 1) xs) s x (subst (Pairwise StandsBefore) cut sorted) sx)
    (All-cons (λ a. StandsBefore a x) s [] sx (All-nil (λ a. StandsBefore a x))))

pub drop_behind : (xs : List EventSpan) (k : ℕ) (s x : EventSpan) → Pairwise StandsBefore xs → All (λ a. a.order ≢ x.order) xs → k < length xs → s ≡ get_or xs k s → (StandsBefore s x → ⊥)
    → Behind x (drop k xs)
drop_behind xs k s x sorted new lt is not_before =
    let cut : xs ≡ take k xs ++ s ∷ drop (k + 1) xs = cut_at xs k s lt ∙ ap (λ z. take k xs ++ z ∷ drop (k + 1) xs) (sym is) in
    let rest : drop k xs ≡ s ∷ drop (k + 1) xs = drop_more xs k s lt ∙ ap (λ z. z ∷ drop (k + 1) xs) (sym is) in
    let other : s.order ≢ x.order = subst (λ (a : EventSpan). a.order ≢ x.order) (sym is) (new k s lt) in
    subst (Behind x) (sym rest) (back_behind (take k xs) (drop (k + 1) xs) s x (subst (Pairwise StandsBefore) cut sorted) (before_other s x other not_before))

-- among blocks: all before one whose first span stands before x, and all from one whose first span doesn't
module _ (blocks : List Block) (k : ℕ) (d : Block) (s x : EventSpan) (index : IsNearIndex blocks) (lt : k < length blocks) (first : s ≡ get_or (get_or blocks k d).spans.items 0 s) where
  private_rest : (rest : List EventSpan) × ((get_or blocks k d).spans.items ≡ s ∷ rest)
  private_rest = head_of (get_or blocks k d).spans.items s (All-get_or IsSpanBlock blocks k d lt index.blocks).some first

  cut_blocks : spans_of blocks ≡ spans_of (take k blocks) ++ s ∷ (private_rest.0 ++ spans_of (drop (k + 1) blocks))
  cut_blocks = spans_at blocks k d lt ∙ ap (λ z. spans_of (take k blocks) ++ (z ++ spans_of (drop (k + 1) blocks))) private_rest.1

  pub blocks_before : StandsBefore s x → Before x (spans_of (take k blocks))
  blocks_before sx = front_before (spans_of (take k blocks)) (private_rest.0 ++ spans_of (drop (k + 1) blocks)) s x (subst (Pairwise StandsBefore) cut_blocks index.sorted) sx

  pub blocks_behind : All (λ a. a.order ≢ x.order) (spans_of blocks) → (StandsBefore s x → ⊥) → Behind x (spans_of (drop k blocks))
  blocks_behind new not_before =
      let rest = private_rest.0 ++ spans_of (drop (k + 1) blocks) in
      let is : spans_of (drop k blocks) ≡ s ∷ rest = spans_from blocks k d lt ∙ ap (λ z. z ++ spans_of (drop (k + 1) blocks)) private_rest.1 in
      let other : s.order ≢ x.order = All-head (λ (a : EventSpan). a.order ≢ x.order) s rest (All-right (λ (a : EventSpan). a.order ≢ x.order) (spans_of (take k blocks)) (s ∷ rest) (subst (All (λ (a : EventSpan). a.order ≢ x.order)) cut_blocks new)) in
      subst (Behind x) (sym is) (back_behind (spans_of (take k blocks)) rest s x (subst (Pairwise StandsBefore) cut_blocks index.sorted) (before_other s x other not_before))

-- where a search stands
pub record IsSearched (xs : List EventSpan) (x : EventSpan) (low high : ℕ) : Type 0 where
  pub order : low ≤ high
  pub within : high ≤ length xs
  pub before : Before x (take low xs)
  pub behind : Behind x (drop high xs)

pub record AreSearched (blocks : List Block) (x : EventSpan) (low high : ℕ) : Type 0 where
  pub order : low < high
  pub within : high ≤ length blocks
  pub before : Before x (spans_of (take low blocks))
  pub behind : Behind x (spans_of (drop high blocks))

pub search_begun : (xs : List EventSpan) (x : EventSpan) (n : ℕ) → n ≡ length xs → IsSearched xs x 0 n
search_begun xs x n is = record {
  order = omega arith;
  within = omega (arith, is);
  before = All-nil (λ s. StandsBefore s x);
  behind = subst (Behind x) (sym (drop_all n xs (omega (arith, is)))) (All-nil (λ s. StandsBefore x s));
}

pub searches_begun : (blocks : List Block) (x : EventSpan) (n : ℕ) → n ≡ length blocks → 0 < length blocks → AreSearched blocks x 0 n
searches_begun blocks x n is some = record {
  order = omega (arith, is, some);
  within = omega (arith, is);
  before = All-nil (λ s. StandsBefore s x);
  behind = subst (λ bs. Behind x (spans_of bs)) (sym (drop_all n blocks (omega (arith, is)))) (All-nil (λ s. StandsBefore x s));
}

-- ---- a block in a list
order_other : (x : EventSpan) (xs : List EventSpan) → All (λ a. a.order ≢ x.order) xs → All (λ a. x.order ≢ a.order) xs
order_other x xs h = λ k d lt e. h k d lt (sym e)

-- a span was put into the block at i, where it has its place
pub inserted : (blocks : List Block) (i : ℕ) (b new : Block) (count : ℕ) (x : EventSpan) → i < length blocks → b ≡ get_or blocks i b → IsNearIndex blocks
    → All (λ a. a.order ≢ x.order) (spans_of blocks) → IsSpanBlock new → new.spans.items ≡ insert b.spans.items count x
    → Before x (spans_of (take i blocks)) → Behind x (spans_of (drop (i + 1) blocks)) → Before x (take count b.spans.items) → Behind x (drop count b.spans.items)
    → IsNearIndex (set blocks i new) × IsInserted (spans_of blocks) x (spans_of (set blocks i new))
inserted blocks i b new count x lt is index other block items before behind before_in behind_in =
    let p = spans_of (take i blocks) in let s = spans_of (drop (i + 1) blocks) in
    let t = take count b.spans.items in let r = drop count b.spans.items in
    let was : spans_of blocks ≡ (p ++ t) ++ (r ++ s) =
    spans_at blocks i b lt ∙ (ap (λ (z : Block). p ++ (z.spans.items ++ s)) (sym is) ∙ (ap (λ z. p ++ (z ++ s)) (sym (take-append-drop count b.spans.items)) ∙ mid_was p t r s)) in
    let now : spans_of (set blocks i new) ≡ (p ++ t) ++ x ∷ (r ++ s) =
    spans_set blocks i new lt ∙ (ap (λ z. p ++ (z ++ s)) items ∙ mid_was p t (x ∷ r) s) in
    let others = subst (All (λ (a : EventSpan). a.order ≢ x.order)) was other in (
      record {
        blocks = All-set IsSpanBlock blocks i new block index.blocks;
        sorted = subst (Pairwise StandsBefore) (sym now) (Pairwise-insert StandsBefore (p ++ t) x (r ++ s) (subst (Pairwise StandsBefore) was index.sorted)
            (All-append (λ a. StandsBefore a x) p t before before_in) (All-append (λ a. StandsBefore x a) r s behind_in behind));
        orders = subst (Pairwise (λ (a b : EventSpan). a.order ≢ b.order)) (sym now) (Pairwise-insert (λ (a b : EventSpan). a.order ≢ b.order) (p ++ t) x (r ++ s)
            (subst (Pairwise (λ (a b : EventSpan). a.order ≢ b.order)) was index.orders) (All-left (λ (a : EventSpan). a.order ≢ x.order) (p ++ t) (r ++ s) others)
            (order_other x (r ++ s) (All-right (λ (a : EventSpan). a.order ≢ x.order) (p ++ t) (r ++ s) others)));
      },
      record { front = p ++ t; back = r ++ s; was = was; is = now },
    )

-- the same, where memory may have been wanting
pub inserted_or_not : {T E : Type 0} (r : Result T E) (blocks : List Block) (i : ℕ) (b new : Block) (count : ℕ) (x : EventSpan) → i < length blocks → b ≡ get_or blocks i b → IsNearIndex blocks
    → All (λ a. a.order ≢ x.order) (spans_of blocks) → IsSpanBlock new → OnOk r (new.spans.items ≡ insert b.spans.items count x) → OnErr r (new.spans.items ≡ b.spans.items)
    → Before x (spans_of (take i blocks)) → Behind x (spans_of (drop (i + 1) blocks)) → Before x (take count b.spans.items) → Behind x (drop count b.spans.items)
    → IsNearIndex (set blocks i new) × OnOk r (IsInserted (spans_of blocks) x (spans_of (set blocks i new))) × OnErr r (spans_of (set blocks i new) ≡ spans_of blocks)
inserted_or_not (Ok v) blocks i b new count x lt is index other block ok err before behind before_in behind_in =
    let put = inserted blocks i b new count x lt is index other block ok before behind before_in behind_in in (put.0, put.1, tt)
inserted_or_not (Err e) blocks i b new count x lt is index other block ok err before behind before_in behind_in =
    let same : spans_of (set blocks i new) ≡ spans_of blocks =
    spans_set blocks i new lt ∙ (ap (λ z. spans_of (take i blocks) ++ (z ++ spans_of (drop (i + 1) blocks))) (err ∙ ap (λ (z : Block). z.spans.items) is) ∙ sym (spans_at blocks i b lt)) in (
      record {
        blocks = All-set IsSpanBlock blocks i new block index.blocks;
        sorted = subst (Pairwise StandsBefore) (sym same) index.sorted;
        orders = subst (Pairwise (λ (a b : EventSpan). a.order ≢ b.order)) (sym same) index.orders;
      },
      tt,
      same,
    )

-- a block's own spans
pub block_sorted : (blocks : List Block) (i : ℕ) (b : Block) → i < length blocks → b ≡ get_or blocks i b → IsNearIndex blocks → Pairwise StandsBefore b.spans.items
block_sorted blocks i b lt is index =
    let s = spans_of (drop (i + 1) blocks) in
    let cut : spans_of blocks ≡ spans_of (take i blocks) ++ (b.spans.items ++ s) = spans_at blocks i b lt ∙ ap (λ (z : Block). spans_of (take i blocks) ++ (z.spans.items ++ s)) (sym is) in
    Pairwise-left StandsBefore b.spans.items s (Pairwise-right StandsBefore (spans_of (take i blocks)) (b.spans.items ++ s) (subst (Pairwise StandsBefore) cut index.sorted))

pub block_all : (P : EventSpan → Type 0) (blocks : List Block) (i : ℕ) (b : Block) → i < length blocks → b ≡ get_or blocks i b → All P (spans_of blocks) → All P b.spans.items
block_all P blocks i b lt is all =
    let s = spans_of (drop (i + 1) blocks) in
    let cut : spans_of blocks ≡ spans_of (take i blocks) ++ (b.spans.items ++ s) = spans_at blocks i b lt ∙ ap (λ (z : Block). spans_of (take i blocks) ++ (z.spans.items ++ s)) (sym is) in
    All-left P b.spans.items s (All-right P (spans_of (take i blocks)) (b.spans.items ++ s) (subst (All P) cut all))

-- the block at i was split in two
pub split : (blocks : List Block) (i : ℕ) (b tail new : Block) (cut : ℕ) → i < length blocks → b ≡ get_or blocks i b → IsNearIndex blocks → IsSpanBlock tail → IsSpanBlock new
    → tail.spans.items ≡ drop cut b.spans.items → new.spans.items ≡ take cut b.spans.items
    → IsNearIndex (set (insert blocks (i + 1) tail) i new) × (spans_of (set (insert blocks (i + 1) tail) i new) ≡ spans_of blocks)
split blocks i b tail new cut lt is index block_tail block_new tail_is new_is =
    let p = take i blocks in let r = drop (i + 1) blocks in
    let count : length p ≡ i = length-take-le i blocks (omega (arith, lt)) in
    let more : take (i + 1) blocks ≡ p ++ b ∷ [] = take_more blocks i b lt ∙ ap (λ z. p ++ z ∷ []) (sym is) in
    let short : i < length (p ++ b ∷ []) = omega (arith, length-append p (b ∷ []), count) in
    let now : set (insert blocks (i + 1) tail) i new ≡ (p ++ new ∷ []) ++ tail ∷ r =
    ap (λ z. set (z ++ tail ∷ r) i new) more ∙ (set-append_left (p ++ b ∷ []) (tail ∷ r) i new short ∙ ap (λ z. z ++ tail ∷ r) (set_at p b [] new i count)) in
    let spans : spans_of (set (insert blocks (i + 1) tail) i new) ≡ spans_of blocks =
    ap spans_of (now ∙ append_assoc p (new ∷ []) (tail ∷ r)) ∙ (spans_of-append p (new ∷ tail ∷ r)
    ∙ (ap (λ z. spans_of p ++ z) (ap (λ z. new.spans.items ++ (z ++ spans_of r)) tail_is ∙ (ap (λ z. z ++ (drop cut b.spans.items ++ spans_of r)) new_is
    ∙ (sym (append_assoc (take cut b.spans.items) (drop cut b.spans.items) (spans_of r)) ∙ ap (λ z. z ++ spans_of r) (take-append-drop cut b.spans.items))))
    ∙ (ap (λ (z : Block). spans_of p ++ (z.spans.items ++ spans_of r)) is ∙ sym (spans_at blocks i b lt)))) in
    let all : All IsSpanBlock ((p ++ new ∷ []) ++ tail ∷ r) = All-append IsSpanBlock (p ++ new ∷ []) (tail ∷ r)
    (All-append IsSpanBlock p (new ∷ []) (All-take IsSpanBlock i blocks index.blocks) (All-cons IsSpanBlock new [] block_new (All-nil IsSpanBlock)))
    (All-cons IsSpanBlock tail r block_tail (All-drop IsSpanBlock (i + 1) blocks index.blocks)) in (
      record {
        blocks = subst (All IsSpanBlock) (sym now) all;
        sorted = subst (Pairwise StandsBefore) (sym spans) index.sorted;
        orders = subst (Pairwise (λ (a b : EventSpan). a.order ≢ b.order)) (sym spans) index.orders;
      },
      spans,
    )

pub no_index : (blocks : List Block) → blocks ≡ [] → IsNearIndex blocks
no_index blocks e = subst IsNearIndex (sym e) record { blocks = All-nil IsSpanBlock; sorted = tt; orders = tt }

pub one_block : (b : Block) (x : EventSpan) → IsSpanBlock b → b.spans.items ≡ x ∷ [] → IsNearIndex (b ∷ []) × IsInserted [] x (spans_of (b ∷ []))
one_block b x block items =
    let spans : spans_of (b ∷ []) ≡ x ∷ [] = ap (λ z. z ++ []) items in (
      record {
        blocks = All-cons IsSpanBlock b [] block (All-nil IsSpanBlock);
        sorted = subst (Pairwise StandsBefore) (sym spans) (All-nil (StandsBefore x), tt);
        orders = subst (Pairwise (λ (a b : EventSpan). a.order ≢ b.order)) (sym spans) (All-nil (λ (a : EventSpan). x.order ≢ a.order), tt);
      },
      record { front = []; back = []; was = refl; is = spans },
    )
