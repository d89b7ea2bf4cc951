-- What calls add: one call, and calls in a row.
use Rattle.std.proofs.Common.{◌≡◌, ℕ, zero, suc, ◌+◌, ◌<◌, ◌==◌, Bool, true, false, List, [], ◌∷◌, ◌++◌, map, refl, sym, ap, ◌∙◌, subst, append_assoc, arith}
use Rattle.std.proofs.lemmas.Bool.{eq-eqb, eqb-true}
use Rattle.std.proofs.lemmas.List.{append-nil}
use Rattle.std.proofs.lemmas.List.Elements.{filter-append}
use Rattle.turn_cell.specs.Passes.{Follows, mine}
use Rattle.turn_cell.proofs.Passes.{Follows_same}
use Rattle.evict_core.specs.Machine.{Step, Answer, Hit, Claim, Crowded, Ask, Fill, Fail, Spill, Unpin}
use Rattle.evict_core.specs.History.{takes, gives, pins_taken, pins_given, pins_left, is_open_after, is_open_in, has_open}
use Rattle.evict_core.proofs.HistoryLemmas.{taken-append, given-append, open-append}
use Rattle.flight_cache.specs.Meaning.{Meaning, shard_of, shard_count}
use Rattle.flight_cache.specs.Histories.{step_of}
use Rattle.flight_cache.specs.Calls.{ShardView, ShardPassView, GivesSteps, own_steps}
use Rattle.flight_cache.specs.Shards.{Shards, CacheView, CachePassView, EachGives, IsCacheOf, at, with_at}
use Rattle.flight_cache.specs.Laws.{IsLater}
use Rattle.flight_cache.proofs.Rows.{each_is_later, gives_follow, gives_own_steps, call_is_later, later_is_later, stays_of_cache}
use Rattle.flight_cache.proofs.Four.{at-each}
use Rattle.flight_cache.proofs.Refusing.{below-four}
use Rattle.mask_caches.specs.Adding.{Adds, GaveIn, shard_of_step, steps_of_shard, pins_of, is_open}

module _ {X : Type 0} where
  -- a change for one shard leaves another one's
  other-shard : (p q : Shards X) (n m : ℕ) → n < shard_count → m < shard_count → (n == m) ≡ false → q ≡ with_at p n (at q n) → at q m ≡ at p m
  other-shard p q zero zero ln lm ne is = cc
  other-shard p q zero (suc zero) ln lm ne is = ap (λ (z : Shards X). z.second) is
  other-shard p q zero (suc (suc zero)) ln lm ne is = ap (λ (z : Shards X). z.third) is
  other-shard p q zero (suc (suc (suc zero))) ln lm ne is = ap (λ (z : Shards X). z.fourth) is
  other-shard p q zero (suc (suc (suc (suc m)))) ln lm ne is = absurd (omega arith)
  other-shard p q (suc zero) zero ln lm ne is = ap (λ (z : Shards X). z.first) is
  other-shard p q (suc zero) (suc zero) ln lm ne is = cc
  other-shard p q (suc zero) (suc (suc zero)) ln lm ne is = ap (λ (z : Shards X). z.third) is
  other-shard p q (suc zero) (suc (suc (suc zero))) ln lm ne is = ap (λ (z : Shards X). z.fourth) is
  other-shard p q (suc zero) (suc (suc (suc (suc m)))) ln lm ne is = absurd (omega arith)
  other-shard p q (suc (suc zero)) zero ln lm ne is = ap (λ (z : Shards X). z.first) is
  other-shard p q (suc (suc zero)) (suc zero) ln lm ne is = ap (λ (z : Shards X). z.second) is
  other-shard p q (suc (suc zero)) (suc (suc zero)) ln lm ne is = cc
  other-shard p q (suc (suc zero)) (suc (suc (suc zero))) ln lm ne is = ap (λ (z : Shards X). z.fourth) is
  other-shard p q (suc (suc zero)) (suc (suc (suc (suc m)))) ln lm ne is = absurd (omega arith)
  other-shard p q (suc (suc (suc zero))) zero ln lm ne is = ap (λ (z : Shards X). z.first) is
  other-shard p q (suc (suc (suc zero))) (suc zero) ln lm ne is = ap (λ (z : Shards X). z.second) is
  other-shard p q (suc (suc (suc zero))) (suc (suc zero)) ln lm ne is = ap (λ (z : Shards X). z.third) is
  other-shard p q (suc (suc (suc zero))) (suc (suc (suc zero))) ln lm ne is = cc
  other-shard p q (suc (suc (suc zero))) (suc (suc (suc (suc m)))) ln lm ne is = absurd (omega arith)
  other-shard p q (suc (suc (suc (suc n)))) m ln lm ne is = absurd (omega arith)

module _ {K V T : Type 0} (eq : K → K → Bool) (same : (a b : K) → eq a b ≡ true → a ≡ b) (meaning : Meaning K V T) (cache : CacheView T) where
  -- a step that concerns one key
  record IsOfKey (key : K) (s : Step K V) : Type 0 where
    at_shard : shard_of_step meaning s ≡ shard_of (meaning.numbers key)
    takes_none : (k : K) → eq k key ≡ false → takes eq k s ≡ 0
    gives_none : (k : K) → eq k key ≡ false → gives eq k s ≡ 0
    leaves : (k : K) (was : Bool) → eq k key ≡ false → is_open_after eq s k was ≡ was

  ask-of : (key : K) (answer : Answer) → IsOfKey key (Ask key answer)
  ask-of key Hit = record { at_shard = refl; takes_none = λ k f. rw f refl; gives_none = λ k f. refl; leaves = λ k was f. refl }
  ask-of key Claim = record { at_shard = refl; takes_none = λ k f. refl; gives_none = λ k f. refl; leaves = λ k was f. rw f refl }
  ask-of key Crowded = record { at_shard = refl; takes_none = λ k f. refl; gives_none = λ k f. refl; leaves = λ k was f. refl }

  fill-of : (key : K) (cost : ℕ) (value : V) → IsOfKey key (Fill key cost value)
  fill-of key cost value = record { at_shard = refl; takes_none = λ k f. rw f refl; gives_none = λ k f. refl; leaves = λ k was f. rw f refl }

  fail-of : (key : K) → IsOfKey key (Fail key)
  fail-of key = record { at_shard = refl; takes_none = λ k f. refl; gives_none = λ k f. refl; leaves = λ k was f. rw f refl }

  spill-of : (key : K) (cost : ℕ) → IsOfKey key (Spill key cost)
  spill-of key cost = record { at_shard = refl; takes_none = λ k f. refl; gives_none = λ k f. refl; leaves = λ k was f. rw f refl }

  unpin-of : (key : K) → IsOfKey key (Unpin key)
  unpin-of key = record { at_shard = refl; takes_none = λ k f. refl; gives_none = λ k f. rw f refl; leaves = λ k was f. refl }

  -- what the pass of shard i gave, where the step is in shard n
  gave-one : (p q : CachePassView K T) (n i : ℕ) (s : Step K V) → shard_of_step meaning s ≡ n → n < shard_count → i < shard_count
      → GivesSteps eq meaning (at cache.shards n) (at p n) (at q n) (s ∷ []) → q ≡ with_at p n (at q n)
      → own_steps meaning (at cache.shards i).tag (at q i) ≡ own_steps meaning (at cache.shards i).tag (at p i) ++ steps_of_shard meaning i (s ∷ [])
  gave-one p q n i s here ln li g is =
      (elim (n == i) as (λ b. (n == i) ≡ b → own_steps meaning (at cache.shards i).tag (at q i) ≡ own_steps meaning (at cache.shards i).tag (at p i) ++ steps_of_shard meaning i (s ∷ [])) [
        | true ↦ λ t.
            let one : steps_of_shard meaning i (s ∷ []) ≡ s ∷ [] = rw (here, t) refl in
            subst (λ (j : ℕ). own_steps meaning (at cache.shards j).tag (at q j) ≡ own_steps meaning (at cache.shards j).tag (at p j) ++ steps_of_shard meaning i (s ∷ [])) (eqb-true n i t)
            (rw one (gives_own_steps eq meaning (at cache.shards n) (at p n) (at q n) (s ∷ []) g))
        | false ↦ λ f.
            let none : steps_of_shard meaning i (s ∷ []) ≡ [] = rw (here, f) refl in
            rw none (ap (λ (z : ShardPassView K T). own_steps meaning (at cache.shards i).tag z) (other-shard p q n i ln li f is) ∙ sym (append-nil (own_steps meaning (at cache.shards i).tag (at p i))))
      ]) refl

  module _ (p q : CachePassView K T) (key : K) (s : Step K V) (of : IsOfKey key s)
      (g : (let n = shard_of (meaning.numbers key) in GivesSteps eq meaning (at cache.shards n) (at p n) (at q n) (s ∷ [])))
      (is : (let n = shard_of (meaning.numbers key) in q ≡ with_at p n (at q n))) where
    other-key : (k : K) → (shard_of (meaning.numbers key) == shard_of (meaning.numbers k)) ≡ false → eq k key ≡ false
    other-key k f = (elim (eq k key) as (λ b. eq k key ≡ b → b ≡ false) [
      | true ↦ λ t. let no : true ≡ false = sym (eq-eqb _ _ (ap (λ (x : K). shard_of (meaning.numbers x)) (sym (same k key t)))) ∙ f in cc
      | false ↦ λ e. refl
    ]) refl

    -- of keys in other shards nothing changes
    pins-one : (k : K) → pins_of eq meaning cache q k + pins_given eq (s ∷ []) k ≡ pins_of eq meaning cache p k + pins_taken eq (s ∷ []) k
    pins-one k =
        let n = shard_of (meaning.numbers key) in
        let m = shard_of (meaning.numbers k) in
        (elim (n == m) as (λ b. (n == m) ≡ b → pins_left eq (own_steps meaning (at cache.shards m).tag (at q m)) k + pins_given eq (s ∷ []) k ≡ pins_left eq (own_steps meaning (at cache.shards m).tag (at p m)) k + pins_taken eq (s ∷ []) k) [
          | true ↦ λ t.
              subst (λ (j : ℕ). pins_left eq (own_steps meaning (at cache.shards j).tag (at q j)) k + pins_given eq (s ∷ []) k ≡ pins_left eq (own_steps meaning (at cache.shards j).tag (at p j)) k + pins_taken eq (s ∷ []) k) (eqb-true n m t) (g.pins k)
          | false ↦ λ f.
              let apart : eq k key ≡ false = other-key k f in
              let kept = ap (λ (z : ShardPassView K T). pins_left eq (own_steps meaning (at cache.shards m).tag z) k) (other-shard p q n m (below-four (meaning.numbers key)) (below-four (meaning.numbers k)) f is) in
              omega (arith, kept, of.takes_none k apart, of.gives_none k apart)
        ]) refl

    claims-one : (k : K) → is_open eq meaning cache q k ≡ is_open_in eq (is_open eq meaning cache p k) (s ∷ []) k
    claims-one k =
        let n = shard_of (meaning.numbers key) in
        let m = shard_of (meaning.numbers k) in
        (elim (n == m) as (λ b. (n == m) ≡ b → has_open eq (own_steps meaning (at cache.shards m).tag (at q m)) k ≡ is_open_in eq (has_open eq (own_steps meaning (at cache.shards m).tag (at p m)) k) (s ∷ []) k) [
          | true ↦ λ t.
              subst (λ (j : ℕ). has_open eq (own_steps meaning (at cache.shards j).tag (at q j)) k ≡ is_open_in eq (has_open eq (own_steps meaning (at cache.shards j).tag (at p j)) k) (s ∷ []) k) (eqb-true n m t) (g.claims k)
          | false ↦ λ f.
              let kept = ap (λ (z : ShardPassView K T). has_open eq (own_steps meaning (at cache.shards m).tag z) k) (other-shard p q n m (below-four (meaning.numbers key)) (below-four (meaning.numbers k)) f is) in
              kept ∙ sym (of.leaves k _ (other-key k f))
        ]) refl

    adds-one : Adds eq meaning cache p q (s ∷ [])
    adds-one =
        let n = shard_of (meaning.numbers key) in
        let lt = below-four (meaning.numbers key) in
        let follows = gives_follow eq meaning (at cache.shards n) (at p n) (at q n) (s ∷ []) g in
        record {
          later = call_is_later p q n follows.0 follows.1 is;
          first = gave-one p q n 0 s of.at_shard lt (omega arith) g is;
          second = gave-one p q n 1 s of.at_shard lt (omega arith) g is;
          third = gave-one p q n 2 s of.at_shard lt (omega arith) g is;
          fourth = gave-one p q n 3 s of.at_shard lt (omega arith) g is;
          pins = pins-one;
          claims = claims-one;
        }

  abbrev CallOf : K → CachePassView K T → CachePassView K T → Step K V → Type 0
  CallOf key p q s = let n = shard_of (meaning.numbers key) in GivesSteps eq meaning (at cache.shards n) (at p n) (at q n) (s ∷ []) × (q ≡ with_at p n (at q n))

  pub adds-ask : (key : K) (answer : Answer) (p q : CachePassView K T) → CallOf key p q (Ask key answer) → Adds eq meaning cache p q (Ask key answer ∷ [])
  adds-ask key answer p q c = adds-one p q key (Ask key answer) (ask-of key answer) c.0 c.1

  pub adds-fill : (key : K) (cost : ℕ) (value : V) (p q : CachePassView K T) → CallOf key p q (Fill key cost value) → Adds eq meaning cache p q (Fill key cost value ∷ [])
  adds-fill key cost value p q c = adds-one p q key (Fill key cost value) (fill-of key cost value) c.0 c.1

  pub adds-fail : (key : K) (p q : CachePassView K T) → CallOf key p q (Fail key) → Adds eq meaning cache p q (Fail key ∷ [])
  adds-fail key p q c = adds-one p q key (Fail key) (fail-of key) c.0 c.1

  pub adds-spill : (key : K) (cost : ℕ) (p q : CachePassView K T) → CallOf key p q (Spill key cost) → Adds eq meaning cache p q (Spill key cost ∷ [])
  adds-spill key cost p q c = adds-one p q key (Spill key cost) (spill-of key cost) c.0 c.1

  pub adds-unpin : (key : K) (p q : CachePassView K T) → CallOf key p q (Unpin key) → Adds eq meaning cache p q (Unpin key ∷ [])
  adds-unpin key p q c = adds-one p q key (Unpin key) (unpin-of key) c.0 c.1

module _ {K V T : Type 0} (eq : K → K → Bool) (meaning : Meaning K V T) (cache : CacheView T) where
  none-in : (n : ℕ) (shard : ShardView T) (pass : ShardPassView K T) → GaveIn meaning n shard pass pass []
  none-in n shard pass = sym (append-nil (own_steps meaning shard.tag pass))

  pub later-itself : (p : CachePassView K T) → IsLater p p
  later-itself p = record { first = ([], Follows_same p.first); second = ([], Follows_same p.second); third = ([], Follows_same p.third); fourth = ([], Follows_same p.fourth) }

  pub adds-none : (p : CachePassView K T) → Adds eq meaning cache p p []
  adds-none p = record {
    later = later-itself p;
    first = none-in 0 cache.shards.first p.first;
    second = none-in 1 cache.shards.second p.second;
    third = none-in 2 cache.shards.third p.third;
    fourth = none-in 3 cache.shards.fourth p.fourth;
    pins = λ key. refl;
    claims = λ key. refl;
  }

  -- turns of all shards that gave nothing
  pub adds-each-none : (p q : CachePassView K T) → EachGives eq meaning cache.shards p q (λ n. []) → Adds eq meaning cache p q []
  adds-each-none p q g = record {
    later = each_is_later eq meaning cache.shards p q (λ n. []) g;
    first = gives_own_steps eq meaning cache.shards.first p.first q.first [] g.first;
    second = gives_own_steps eq meaning cache.shards.second p.second q.second [] g.second;
    third = gives_own_steps eq meaning cache.shards.third p.third q.third [] g.third;
    fourth = gives_own_steps eq meaning cache.shards.fourth p.fourth q.fourth [] g.fourth;
    pins = λ key. let n = shard_of (meaning.numbers key) in
        at-each (λ (shard : ShardView T) (a b : ShardPassView K T). pins_left eq (own_steps meaning shard.tag b) key + 0 ≡ pins_left eq (own_steps meaning shard.tag a) key + 0) cache.shards p q
        (g.first.pins key) (g.second.pins key) (g.third.pins key) (g.fourth.pins key) n (below-four (meaning.numbers key));
    claims = λ key. let n = shard_of (meaning.numbers key) in
        at-each (λ (shard : ShardView T) (a b : ShardPassView K T). has_open eq (own_steps meaning shard.tag b) key ≡ has_open eq (own_steps meaning shard.tag a) key) cache.shards p q
        (g.first.claims key) (g.second.claims key) (g.third.claims key) (g.fourth.claims key) n (below-four (meaning.numbers key));
  }

  more-in : (n : ℕ) (shard : ShardView T) (p q r : ShardPassView K T) (xs ys : List (Step K V)) → GaveIn meaning n shard p q xs → GaveIn meaning n shard q r ys → GaveIn meaning n shard p r (xs ++ ys)
  more-in n shard p q r xs ys f g =
      rw (filter-append (λ (s : Step K V). shard_of_step meaning s == n) xs ys)
      (g ∙ (ap (λ (l : List (Step K V)). l ++ steps_of_shard meaning n ys) f ∙ append_assoc (own_steps meaning shard.tag p) (steps_of_shard meaning n xs) (steps_of_shard meaning n ys)))

  pub adds-then : (p q r : CachePassView K T) (xs ys : List (Step K V)) → Adds eq meaning cache p q xs → Adds eq meaning cache q r ys → Adds eq meaning cache p r (xs ++ ys)
  adds-then p q r xs ys f g = record {
    later = later_is_later p q r f.later g.later;
    first = more-in 0 cache.shards.first p.first q.first r.first xs ys f.first g.first;
    second = more-in 1 cache.shards.second p.second q.second r.second xs ys f.second g.second;
    third = more-in 2 cache.shards.third p.third q.third r.third xs ys f.third g.third;
    fourth = more-in 3 cache.shards.fourth p.fourth q.fourth r.fourth xs ys f.fourth g.fourth;
    pins = λ k. let one = f.pins k in let two = g.pins k in omega (arith, one, two, taken-append eq xs ys k, given-append eq xs ys k);
    claims = λ k. g.claims k ∙ (ap (λ (b : Bool). is_open_in eq b ys k) (f.claims k) ∙ sym (open-append eq (is_open eq meaning cache p k) xs ys k));
  }

  -- the pass stays one of its cache
  pub adds-stays : (p q : CachePassView K T) (xs : List (Step K V)) → IsCacheOf cache p → Adds eq meaning cache p q xs → IsCacheOf cache q
  adds-stays p q xs of f = stays_of_cache cache p q of f.later

  -- a turn of one shard that gave nothing
  nothing-at : (p q : CachePassView K T) (n : ℕ) → n < shard_count → Follows (at p n) (at q n) [] → q ≡ with_at p n (at q n) → (i : ℕ) → i < shard_count
      → own_steps meaning (at cache.shards i).tag (at q i) ≡ own_steps meaning (at cache.shards i).tag (at p i)
  nothing-at p q n ln follows is i li =
      (elim (n == i) as (λ b. (n == i) ≡ b → own_steps meaning (at cache.shards i).tag (at q i) ≡ own_steps meaning (at cache.shards i).tag (at p i)) [
        | true ↦ λ t.
            subst (λ (j : ℕ). own_steps meaning (at cache.shards j).tag (at q j) ≡ own_steps meaning (at cache.shards j).tag (at p j)) (eqb-true n i t)
            (ap (map (step_of meaning (at cache.shards n).tag)) (follows.mine ∙ append-nil (mine (at p n))))
        | false ↦ λ f. ap (λ (z : ShardPassView K T). own_steps meaning (at cache.shards i).tag z) (other-shard p q n i ln li f is)
      ]) refl

  pub adds-nothing : (key : K) (p q : CachePassView K T) → (let n = shard_of (meaning.numbers key) in Follows (at p n) (at q n) []) → (let n = shard_of (meaning.numbers key) in q ≡ with_at p n (at q n)) → Adds eq meaning cache p q []
  adds-nothing key p q follows is =
      let n = shard_of (meaning.numbers key) in
      let same = nothing-at p q n (below-four (meaning.numbers key)) follows is in
      record {
        later = call_is_later p q n [] follows is;
        first = same 0 (omega arith) ∙ none-in 0 cache.shards.first p.first;
        second = same 1 (omega arith) ∙ none-in 1 cache.shards.second p.second;
        third = same 2 (omega arith) ∙ none-in 2 cache.shards.third p.third;
        fourth = same 3 (omega arith) ∙ none-in 3 cache.shards.fourth p.fourth;
        pins = λ k. ap (λ (l : List (Step K V)). pins_left eq l k + 0) (same (shard_of (meaning.numbers k)) (below-four (meaning.numbers k)));
        claims = λ k. ap (λ (l : List (Step K V)). has_open eq l k) (same (shard_of (meaning.numbers k)) (below-four (meaning.numbers k)));
      }
