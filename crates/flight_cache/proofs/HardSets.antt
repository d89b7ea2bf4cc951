-- What setting a hard limit gives in each shard.
use Rattle.std.proofs.Common.{◌≡◌, Bool, true, false, List, [], ◌∷◌, Option, refl, sym, ◌∙◌}
use Rattle.evict_core.specs.Machine.{Step, Hard}
use Rattle.evict_core.specs.History.{pins_taken, pins_given, is_open_in}
use Rattle.evict_core.specs.declared.hard_limit.HardLimit.{HardLimit}
use Rattle.flight_cache.specs.Meaning.{Meaning}
use Rattle.flight_cache.specs.Answers.{IsHardSet}
use Rattle.flight_cache.specs.Calls.{ShardView, ShardPassView, GivesSteps}
use Rattle.flight_cache.specs.Shards.{Shards, CachePassView, AreAlike, EachGives, IsHardSetInEach, at, hard_part}
use Rattle.flight_cache.proofs.Asking.{gives-follows}

module _ {K V : Type 0} where
  abbrev pub hard_steps : Option HardLimit → Bool → List (Step K V)
  hard_steps hard true = Hard hard ∷ []
  hard_steps hard false = []

module _ {K : Type 0} (V : Type 0) (eq : K → K → Bool) (key : K) where
  pub hard-takes : (hard : Option HardLimit) (set : Bool) → pins_taken eq (hard_steps {V = V} hard set) key ≡ 0
  hard-takes hard true = refl
  hard-takes hard false = refl

  pub hard-gives : (hard : Option HardLimit) (set : Bool) → pins_given eq (hard_steps {V = V} hard set) key ≡ 0
  hard-gives hard true = refl
  hard-gives hard false = refl

  pub hard-opens : (was : Bool) (hard : Option HardLimit) (set : Bool) → is_open_in eq was (hard_steps {V = V} hard set) key ≡ was
  hard-opens was hard true = refl
  hard-opens was hard false = refl

module _ {K V T : Type 0} (eq : K → K → Bool) (meaning : Meaning K V T) where
  one-set : (shard : ShardView T) (pass after : ShardPassView K T) (hard : Option HardLimit) (set : Bool) → IsHardSet eq meaning shard pass hard after set → GivesSteps eq meaning shard pass after (hard_steps hard set)
  one-set shard pass after hard true h = h
  one-set shard pass after hard false h = h.0

  pub each-set : (shards : Shards (ShardView T)) (pass after : CachePassView K T) (hard : Option HardLimit) (set : Bool) → (h : IsHardSetInEach eq meaning shards pass hard after set)
      → EachGives eq meaning shards pass after (λ n. hard_steps (hard_part hard n) (at h.sets n))
  each-set shards pass after hard set h = record {
    first = one-set shards.first pass.first after.first (hard_part hard 0) h.sets.first h.first;
    second = one-set shards.second pass.second after.second (hard_part hard 1) h.sets.second h.second;
    third = one-set shards.third pass.third after.third (hard_part hard 2) h.sets.third h.third;
    fourth = one-set shards.fourth pass.fourth after.fourth (hard_part hard 3) h.sets.fourth h.fourth;
  }

  -- the pass keeps its number, and has drawn as many
  same-numbers : (shard : ShardView T) (pass after : ShardPassView K T) (hard : Option HardLimit) (set : Bool) → IsHardSet eq meaning shard pass hard after set → (after.number ≡ pass.number) × (after.next ≡ pass.next)
  same-numbers shard pass after hard set h =
      let f = gives-follows eq meaning shard pass after (hard_steps hard set) (one-set shard pass after hard set h) in (f.number, f.next)

  pub alike-set : (shards : Shards (ShardView T)) (pass after : CachePassView K T) (hard : Option HardLimit) (set : Bool) → IsHardSetInEach eq meaning shards pass hard after set → AreAlike pass → AreAlike after
  alike-set shards pass after hard set h alike =
      let first = same-numbers shards.first pass.first after.first (hard_part hard 0) h.sets.first h.first in
      let second = same-numbers shards.second pass.second after.second (hard_part hard 1) h.sets.second h.second in
      let third = same-numbers shards.third pass.third after.third (hard_part hard 2) h.sets.third h.third in
      let fourth = same-numbers shards.fourth pass.fourth after.fourth (hard_part hard 3) h.sets.fourth h.fourth in
      record {
        second_number = second.0 ∙ (alike.second_number ∙ sym first.0);
        third_number = third.0 ∙ (alike.third_number ∙ sym first.0);
        fourth_number = fourth.0 ∙ (alike.fourth_number ∙ sym first.0);
        second_next = second.1 ∙ (alike.second_next ∙ sym first.1);
        third_next = third.1 ∙ (alike.third_next ∙ sym first.1);
        fourth_next = fourth.1 ∙ (alike.fourth_next ∙ sym first.1);
      }
