-- How many keys calls ask for.
use Rattle.std.proofs.Common.{◌≡◌, ℕ, zero, suc, ◌+◌, ◌<◌, ◌≤◌, ◌==◌, Bool, true, false, cond, List, [], ◌∷◌, ◌++◌, map, ap, ◌∙◌, arith}
use Rattle.std.specs.List.{All, filter}
use Rattle.std.proofs.lemmas.List.{map-append}
use Rattle.std.proofs.lemmas.List.Elements.{All-head, All-tail}
use Rattle.std.proofs.lemmas.List.Sums.{sum_by-append, sum_by-cons}
use Rattle.turn_cell.specs.Passes.{Follows, mine}
use Rattle.evict_core.specs.Machine.{Step, Ask, PinAll, Fill, Fail, Spill, Unpin, Limits, Hard}
use Rattle.flight_cache.specs.Calls.{ShardPassView, ShardView, own_steps}
use Rattle.flight_cache.specs.Histories.{step_of}
use Rattle.flight_cache.specs.Laws.{IsLater}
use Rattle.flight_cache.specs.Meaning.{Meaning, shard_count}
use Rattle.flight_cache.specs.Shards.{CachePassView, CacheView}
use Rattle.flight_cache.specs.declared.kept.Entry.{Entry}
use Rattle.flight_cache.proofs.Refusing.{below-four}
use Rattle.mask_caches.specs.Adding.{Adds, GaveIn, shard_of_step, steps_of_shard}
use Rattle.mask_caches.specs.Asks.{asks_in, asks_of, own_asks}

module _ {K V : Type 0} where
  pub asks_of-append : (xs ys : List (Step K V)) → asks_of (xs ++ ys) ≡ asks_of xs + asks_of ys
  asks_of-append xs ys = sum_by-append asks_in xs ys

  -- the step isn't one of several keys
  abbrev pub IsOfOne : Step K V → Type 0
  IsOfOne (Ask key answer) = Unit {0}
  IsOfOne (PinAll keys) = ⊥
  IsOfOne (Fill key cost value) = Unit {0}
  IsOfOne (Fail key) = Unit {0}
  IsOfOne (Spill key cost) = Unit {0}
  IsOfOne (Unpin key) = Unit {0}
  IsOfOne (Limits entries budget) = Unit {0}
  IsOfOne (Hard hard) = Unit {0}

  filter_asks : (test : Step K V → Bool) (s : Step K V) (steps : List (Step K V)) → asks_of (filter test (s ∷ steps)) ≡ cond (test s) (asks_in s) 0 + asks_of (filter test steps)
  filter_asks test s steps = elim (test s) as (λ b. asks_of (cond b (s ∷ filter test steps) (filter test steps)) ≡ cond b (asks_in s) 0 + asks_of (filter test steps)) [
    | true ↦ sum_by-cons asks_in s (filter test steps)
    | false ↦ omega arith
  ]

-- of four numbers a number is one
one_of_four : (n a : ℕ) → n < shard_count → cond (n == 0) a 0 + cond (n == 1) a 0 + cond (n == 2) a 0 + cond (n == 3) a 0 ≡ a
one_of_four zero a lt = omega arith
one_of_four (suc zero) a lt = omega arith
one_of_four (suc (suc zero)) a lt = omega arith
one_of_four (suc (suc (suc zero))) a lt = omega arith
one_of_four (suc (suc (suc (suc n)))) a lt = absurd (omega arith)

module _ {K V T : Type 0} (meaning : Meaning K V T) where
  asks_in_one : (s : Step K V) → IsOfOne s → let n = shard_of_step meaning s in
      cond (n == 0) (asks_in s) 0 + cond (n == 1) (asks_in s) 0 + cond (n == 2) (asks_in s) 0 + cond (n == 3) (asks_in s) 0 ≡ asks_in s
  asks_in_one (Ask key answer) one = one_of_four (shard_of_step {V = V} meaning (Ask key answer)) 1 (below-four (meaning.numbers key))
  asks_in_one (PinAll keys) one = absurd one
  asks_in_one (Fill key cost value) one = one_of_four (shard_of_step meaning (Fill key cost value)) 0 (below-four (meaning.numbers key))
  asks_in_one (Fail key) one = one_of_four (shard_of_step {V = V} meaning (Fail key)) 0 (below-four (meaning.numbers key))
  asks_in_one (Spill key cost) one = one_of_four (shard_of_step {V = V} meaning (Spill key cost)) 0 (below-four (meaning.numbers key))
  asks_in_one (Unpin key) one = one_of_four (shard_of_step {V = V} meaning (Unpin key)) 0 (below-four (meaning.numbers key))
  asks_in_one (Limits entries budget) one = omega arith
  asks_in_one (Hard hard) one = omega arith

  -- the asks of the four shards are all
  asks_apart : (steps : List (Step K V)) → All IsOfOne steps
      → asks_of (steps_of_shard meaning 0 steps) + asks_of (steps_of_shard meaning 1 steps) + asks_of (steps_of_shard meaning 2 steps) + asks_of (steps_of_shard meaning 3 steps) ≡ asks_of steps
  asks_apart [] all = omega arith
  asks_apart (s ∷ steps) all =
      let at_n : (n : ℕ) → asks_of (steps_of_shard meaning n (s ∷ steps)) ≡ cond (shard_of_step meaning s == n) (asks_in s) 0 + asks_of (steps_of_shard meaning n steps) = λ n. filter_asks (λ (z : Step K V). shard_of_step meaning z == n) s steps in
      let rest = asks_apart steps (All-tail IsOfOne s steps all) in
      let here = asks_in_one s (All-head IsOfOne s steps all) in
      let whole = sum_by-cons asks_in s steps in
      let first = at_n 0 in let second = at_n 1 in let third = at_n 2 in let fourth = at_n 3 in
      omega (arith, rest, here, whole, first, second, third, fourth)

  given_asks : (n : ℕ) (shard : ShardView T) (pass after : ShardPassView K T) (steps : List (Step K V)) → GaveIn meaning n shard pass after steps
      → asks_of (own_steps meaning shard.tag after) ≡ asks_of (own_steps meaning shard.tag pass) + asks_of (steps_of_shard meaning n steps)
  given_asks n shard pass after steps gave = ap asks_of gave ∙ asks_of-append (own_steps meaning shard.tag pass) (steps_of_shard meaning n steps)

  -- calls ask for what their steps ask for
  pub adds_asks : (eq : K → K → Bool) (cache : CacheView T) (pass after : CachePassView K T) (steps : List (Step K V)) → Adds eq meaning cache pass after steps → All IsOfOne steps
      → own_asks meaning cache after ≡ own_asks meaning cache pass + asks_of steps
  adds_asks eq cache pass after steps adds all =
      let s = cache.shards in
      let first = given_asks 0 s.first pass.first after.first steps adds.first in
      let second = given_asks 1 s.second pass.second after.second steps adds.second in
      let third = given_asks 2 s.third pass.third after.third steps adds.third in
      let fourth = given_asks 3 s.fourth pass.fourth after.fourth steps adds.fourth in
      omega (arith, first, second, third, fourth, asks_apart steps all)

  asks_later : (shard : ShardView T) (pass after : ShardPassView K T) (entries : List (Entry K)) → Follows pass after entries
      → asks_of (own_steps meaning shard.tag pass) ≤ asks_of (own_steps meaning shard.tag after)
  asks_later shard pass after entries follows =
      let more : List (Step K V) = map (step_of meaning shard.tag) entries in
      let is : own_steps meaning shard.tag after ≡ own_steps meaning shard.tag pass ++ more = ap (map (step_of meaning shard.tag)) follows.mine ∙ map-append (step_of meaning shard.tag) (mine pass) entries in
      let sum = ap asks_of is ∙ asks_of-append (own_steps meaning shard.tag pass) more in
      omega (arith, sum)

  -- a pass never asks for less
  pub later_asks : (cache : CacheView T) (pass after : CachePassView K T) → IsLater pass after → own_asks meaning cache pass ≤ own_asks meaning cache after
  later_asks cache pass after later =
      let s = cache.shards in
      let first = asks_later s.first pass.first after.first later.first.0 later.first.1 in
      let second = asks_later s.second pass.second after.second later.second.0 later.second.1 in
      let third = asks_later s.third pass.third after.third later.third.0 later.third.1 in
      let fourth = asks_later s.fourth pass.fourth after.fourth later.fourth.0 later.fourth.1 in
      omega (arith, first, second, third, fourth)
