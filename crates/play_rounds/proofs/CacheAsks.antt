-- How many keys were asked for in a round.
use Rattle.std.proofs.Common.{◌≡◌, ℕ, zero, suc, ◌+◌, ◌<◌, Bool, true, false, cond, eqb, List, [], ◌∷◌, ◌++◌, map, refl, sym, ap, ◌∙◌, arith}
use Rattle.std.specs.List.{sum_by}
use Rattle.std.proofs.lemmas.List.Elements.{All-head, All-tail}
use Rattle.std.proofs.lemmas.List.Sums.{sum_by-append, sum_by-cons}
use Rattle.mask_caches.specs.Asks.{all_steps, asks_in, asks_of, own_asks, seen_asks}
use Rattle.flight_cache.specs.Calls.{ShardPassView, own_steps}
use Rattle.flight_cache.specs.Histories.{step_of}
use Rattle.flight_cache.specs.Laws.{IsLater}
use Rattle.flight_cache.specs.Meaning.{Meaning}
use Rattle.flight_cache.specs.Shards.{CachePassView, CacheView, EachGives, at}
use Rattle.flight_cache.specs.declared.kept.Entry.{Entry}
use Rattle.flight_cache.specs.declared.kept.Opening.{Opening}
use Rattle.mask_caches.specs.Caches.{IsNewCache}
use Rattle.turn_cell.specs.History.{History, IsBelow, entries_of}
use Rattle.turn_cell.specs.Passes.{mine}
use Rattle.play_model.specs.Interleavings.{IsInterleaving, all_entries, sum_below}
use Rattle.play_model.proofs.Labels.{sum_below_add, sum_below_same, sum_below_zero}
use Rattle.play_rounds.specs.Passes.{AreCachePassesJoined, AreCachePassesSplit, IsCacheHome}
use Rattle.play_rounds.proofs.CacheRounds.{cache_same, new_at, numbers_at}
use Rattle.play_rounds.proofs.ShardRounds.{begun_nothing, shard_news}

module _ {X : Type 0} (f : X → ℕ) where
  sum_more : (b : Bool) (x : X) (xs : List X) → sum_by f (cond b (x ∷ xs) xs) ≡ sum_by f xs + cond b (f x) 0
  sum_more true x xs = let cons = sum_by-cons f x xs in omega (arith, cons)
  sum_more false x xs = omega arith

  sum_labelled : (n : ℕ) (h : History X) → IsBelow n h → sum_by f (all_entries h) ≡ sum_below n (λ i. sum_by f (entries_of i h))
  sum_labelled n [] below = sym (sum_below_zero n)
  sum_labelled n (pair ∷ h) below =
      let rest = sum_labelled n h (All-tail (λ (pair : ℕ × X). pair.0 < n) pair h below) in
      let cons = sum_by-cons f pair.1 (all_entries h) in
      let more = sum_below_add n pair.0 (f pair.1) (λ i. sum_by f (entries_of i h)) (λ i. sum_by f (entries_of i (pair ∷ h))) (All-head (λ (pair : ℕ × X). pair.0 < n) pair h below)
      (λ i. sum_more (eqb pair.0 i) pair.1 (entries_of i h)) in
      omega (arith, rest, cons, more)

  sum_interleaving : (n : ℕ) (ps : ℕ → List X) (xs : List X) → IsInterleaving n ps xs → sum_by f xs ≡ sum_below n (λ i. sum_by f (ps i))
  sum_interleaving n ps xs a = ap (sum_by f) (sym a.all) ∙ (sum_labelled n a.labelled a.below
      ∙ sum_below_same n (λ i. sum_by f (entries_of i a.labelled)) (λ i. sum_by f (ps i)) (λ i lt. ap (sum_by f) (a.each i lt)))

sum_mapped : {X Y : Type 0} (g : Y → ℕ) (f : X → Y) (xs : List X) → sum_by g (map f xs) ≡ sum_by (λ x. g (f x)) xs
sum_mapped g f [] = refl
sum_mapped g f (x ∷ xs) = let one = sum_by-cons g (f x) (map f xs) in let two = sum_by-cons (λ x. g (f x)) x xs in let rest = sum_mapped g f xs in omega (arith, one, two, rest)

-- sums of four numbers each
sum_below_four : (n : ℕ) (a b c d : ℕ → ℕ) → sum_below n (λ i. a i + b i + c i + d i) ≡ sum_below n a + sum_below n b + sum_below n c + sum_below n d
sum_below_four zero a b c d = refl
sum_below_four (suc n) a b c d = let rest = sum_below_four n a b c d in omega (arith, rest)

module _ {K V T : Type 0} (meaning : Meaning K V T) (under : Opening T) where
  abbrev weigh : Entry K → ℕ
  weigh entry = asks_in (step_of meaning under entry)

  asks_weighed : (history : History (Entry K)) → asks_of (all_steps meaning under history) ≡ sum_by weigh (all_entries history)
  asks_weighed history =
      sum_mapped asks_in (λ (e : ℕ × Entry K). step_of meaning under e.1) history ∙ sym (sum_mapped weigh (λ (e : ℕ × Entry K). e.1) history)

  -- what is new is asked for by those that gave it
  pub asks_more : (before after : History (Entry K)) (rest : List (Entry K)) (count : ℕ) (given : ℕ → List (Entry K)) → all_entries before ++ rest ≡ all_entries after → IsInterleaving count given rest
      → asks_of (all_steps meaning under after) ≡ asks_of (all_steps meaning under before) + sum_below count (λ i. asks_of (map (step_of meaning under) (given i)))
  asks_more before after rest count given is mixed =
      let one = asks_weighed before in let two = asks_weighed after in
      let whole : sum_by weigh (all_entries after) ≡ sum_by weigh (all_entries before) + sum_by weigh rest = ap (sum_by weigh) (sym is) ∙ sum_by-append weigh (all_entries before) rest in
      let apart = sum_interleaving weigh count given rest mixed in
      let same = sum_below_same count (λ i. asks_of (map (step_of meaning under) (given i))) (λ i. sum_by weigh (given i)) (λ i lt. sum_mapped asks_in (step_of meaning under) (given i)) in
      omega (arith, one, two, whole, apart, same)

module _ {K V T : Type 0} (eq : K → K → Bool) (meaning : Meaning K V T) (cache : CacheView T) where
  abbrev asks_at : CachePassView K T → ℕ → ℕ
  asks_at pass n = asks_of (all_steps meaning (at cache.shards n).tag (at pass n).seen)

  abbrev own_at : CachePassView K T → ℕ → ℕ
  own_at pass n = asks_of (own_steps meaning (at cache.shards n).tag (at pass n))

  module _ (first split after : CachePassView K T) (count : ℕ) (begun passes : ℕ → CachePassView K T) (home : IsCacheHome eq meaning cache first) (are_split : AreCachePassesSplit first count begun split)
      (joined : AreCachePassesJoined split count passes after) (later : (i : ℕ) → i < count → IsLater (begun i) (passes i)) where
    more_at : (n : ℕ) → asks_at after n ≡ asks_at first n + sum_below count (λ i. own_at (passes i) n)
    more_at n =
        let shard = at cache.shards n in
        let news = shard_news eq meaning shard (at first n) (at split n) (at after n) count (λ i. at (begun i) n) (λ i. at (passes i) n) (home n) (are_split n) (joined n)
        (numbers_at eq meaning cache first split after count begun passes home are_split joined later n) in
        asks_more meaning shard.tag (at first n).seen (at after n).seen news.0 count (λ i. mine (at (passes i) n)) news.1 news.2

    -- in a round so many keys more were asked for as its passes asked for
    pub cache_asks : seen_asks meaning cache after ≡ seen_asks meaning cache first + sum_below count (λ i. own_asks meaning cache (passes i))
    cache_asks =
        let one = more_at 0 in let two = more_at 1 in let three = more_at 2 in let four = more_at 3 in
        let all = sum_below_four count (λ i. own_at (passes i) 0) (λ i. own_at (passes i) 1) (λ i. own_at (passes i) 2) (λ i. own_at (passes i) 3) in
        omega (arith, one, two, three, four, all)

    -- a pass that is split off has asked for nothing
    pub begun_asks : (i : ℕ) → i < count → own_asks meaning cache (begun i) ≡ 0
    begun_asks i lt =
        let none : (n : ℕ) → own_at (begun i) n ≡ 0 = λ n. let shard = at cache.shards n in ap (λ (entries : List (Entry K)). asks_of (map (step_of meaning shard.tag) entries))
        (begun_nothing eq meaning shard (at first n) (at split n) (at after n) count (λ i. at (begun i) n) (λ i. at (passes i) n) (home n) (are_split n) (joined n)
        (numbers_at eq meaning cache first split after count begun passes home are_split joined later n) i lt) in
        let one = none 0 in let two = none 1 in let three = none 2 in let four = none 3 in
        omega (arith, one, two, three, four)

  -- turns that gave nothing show what was asked for before
  pub cache_asks_same : (first after : CachePassView K T) → EachGives eq meaning cache.shards first after (λ n. []) → IsCacheHome eq meaning cache first → seen_asks meaning cache after ≡ seen_asks meaning cache first
  cache_asks_same first after gives home =
      let same : (n : ℕ) → asks_at after n ≡ asks_at first n =
      λ n. ap (λ (history : History (Entry K)). asks_of (all_steps meaning (at cache.shards n).tag history)) (cache_same eq meaning cache first after gives home n) in
      let one = same 0 in let two = same 1 in let three = same 2 in let four = same 3 in
      omega (arith, one, two, three, four)

  -- in a new cache nothing was asked for
  pub new_asks : (pass : CachePassView K T) (budget : ℕ) → IsNewCache cache pass budget → seen_asks meaning cache pass ≡ 0
  new_asks pass budget new =
      let none : (n : ℕ) → asks_at pass n ≡ 0 =
      λ n. ap (λ (p : ShardPassView K T). asks_of (all_steps meaning (at cache.shards n).tag p.seen)) (new_at eq meaning cache pass budget new n) in
      let one = none 0 in let two = none 1 in let three = none 2 in let four = none 3 in
      omega (arith, one, two, three, four)
