-- The composed masks that a pass asks for where it makes a frame.
use Rattle.std.proofs.Common.{◌≡◌, ℕ, zero, suc, ◌+◌, ◌<◌, ◌≤◌, ◌==◌, ◌||◌, Bool, true, false, cond, List, [], ◌∷◌, ◌++◌, length, filter, refl, sym, ap, subst, ◌∙◌, arith, append-nil, length-append}
use Rattle.std.specs.Bool.{MatchBool}
use Rattle.std.specs.List.{All}
use Rattle.std.specs.declared.sync.Arc.{Arc}
use Rattle.std.proofs.lemmas.List.Elements.{All-append, All-cons, All-head, All-nil, All-tail}
use Rattle.std.proofs.lemmas.List.Sums.{sum_by-cons}
use Rattle.ass_num.specs.Masks.{MaskValue}
use Rattle.bdf_font.specs.declared.sets.FontSet.{FontSet}
use Rattle.cache_kinds.specs.Kinds.{composite_meaning}
use Rattle.mask_caches.specs.Asks.{asks_of, own_asks}
use Rattle.mask_caches.proofs.Asks.{IsOfOne, adds_asks, asks_of-append}
use Rattle.evict_core.specs.History.{one_if}
use Rattle.evict_core.specs.Machine.{Ask, Claim, Crowded, Fail, Hit, PinAll, Step}
use Rattle.flight_cache.specs.Calls.{GivesSteps, PinView, ShardPassView, ShardView, own_steps}
use Rattle.flight_cache.specs.Histories.{is_in}
use Rattle.flight_cache.specs.Laws.{IsLater}
use Rattle.flight_cache.specs.Meaning.{Meaning, shard_of}
use Rattle.flight_cache.specs.Pinning.{IsPinnedAll, TurnsWith, is_named, keys_in, shards_of}
use Rattle.flight_cache.specs.Shards.{AreShardsOf, CachePassView, CacheView}
use Rattle.flight_cache.specs.declared.kept.Entry.{Entry}
use Rattle.flight_cache.specs.declared.kept.Opening.{Opening}
use Rattle.flight_cache.proofs.Refusing.{below-four}
use Rattle.flight_cache.proofs.Rows.{gives_follow, gives_own_steps}
use Rattle.mask_caches.specs.Courses.{Course, Failed, FailedApart, Filled, Found, MadeApart, Spilled, Unasked, course_steps, fill_step, spill_step, has_value}
use Rattle.mask_caches.specs.declared.caches.Caches.{Caches}
use Rattle.mask_caches.specs.declared.passes.CachesPass.{CachesPass}
use Rattle.mask_keys.specs.Equality.{equal_composites}
use Rattle.mask_keys.specs.declared.composite_key.CompositeKey.{CompositeKey}
use Rattle.mask_keys.specs.declared.plans.Clip.{Clip}
use Rattle.mask_keys.specs.declared.plans.Clip.TheVariants.{Drawn, Free, Rect}
use Rattle.mask_keys.specs.declared.plans.Draw.{Draw}
use Rattle.renderer.specs.Leasing.{AddsVisits, visit_steps}
use Rattle.turn_cell.specs.Passes.{Follows}
use Rattle.turn_cell.proofs.Passes.{Follows_same}
use Rattle.mask_keys.specs.PlanKeys.{clip_keys, draw_keys, plan_keys}
use Rattle.mask_caches.specs.Warming.{KeyVisit}
use Rattle.play_model.specs.Images.{clip_masks, masks_needed}

-- ---- keys

clip_needed : (clip : Clip) → length (clip_keys clip) ≡ clip_masks clip
clip_needed Free = refl
clip_needed (Rect x1 y1 x2 y2 inverse) = refl
clip_needed (Drawn key x y inverse) = refl

-- a key for each mask
pub keys_needed : (draws : List Draw) → length (plan_keys draws) ≡ masks_needed draws
keys_needed [] = refl
keys_needed (draw ∷ draws) =
    let clip = clip_needed draw.clip in
    let rest = keys_needed draws in
    let all = length-append (draw_keys draw) (plan_keys draws) in
    let sum = sum_by-cons (λ (d : Draw). 1 + clip_masks d.clip) draw draws in
    omega (arith, clip, rest, all, sum)

-- ---- keys that are asked for one after another

abbrev IsOneStep : Step CompositeKey MaskValue → Type 0
IsOneStep s = IsOfOne s

module _ {Z : Type 0} (fonts : Arc FontSet Z) where
  course_asks : (key : CompositeKey) (course : Course) → has_value course ≡ true → 1 ≤ asks_of (course_steps composite_meaning fonts key course [])
  course_asks key Found had = omega arith
  course_asks key Filled had = omega arith
  course_asks key Failed had = absurd cc
  course_asks key MadeApart had = omega arith
  course_asks key FailedApart had = absurd cc
  course_asks key Spilled had = omega arith
  course_asks key Unasked had = absurd cc

  pub visits_ask : (visits : List KeyVisit) → All (λ (v : KeyVisit). has_value v.visit.course ≡ true) visits → length visits ≤ asks_of (visit_steps fonts visits)
  visits_ask [] had = omega arith
  visits_ask (v ∷ visits) had =
      let one = course_asks v.key v.visit.course (All-head (λ (v : KeyVisit). has_value v.visit.course ≡ true) v visits had) in
      let rest = visits_ask visits (All-tail (λ (v : KeyVisit). has_value v.visit.course ≡ true) v visits had) in
      let all = asks_of-append (course_steps composite_meaning fonts v.key v.visit.course []) (visit_steps fonts visits) in
      omega (arith, one, rest, all)

  course_of_one : (key : CompositeKey) (course : Course) → All IsOneStep (course_steps composite_meaning fonts key course [])
  course_of_one key Found = All-cons IsOneStep (Ask key Hit) [] tt (All-nil IsOneStep)
  course_of_one key Filled =
      All-cons IsOneStep (Ask key Claim) (fill_step composite_meaning fonts key ∷ []) tt (All-cons IsOneStep (fill_step composite_meaning fonts key) [] tt (All-nil IsOneStep))
  course_of_one key Failed = All-cons IsOneStep (Ask key Claim) (Fail key ∷ []) tt (All-cons IsOneStep (Fail key) [] tt (All-nil IsOneStep))
  course_of_one key MadeApart = All-cons IsOneStep (Ask key Crowded) [] tt (All-nil IsOneStep)
  course_of_one key FailedApart = All-cons IsOneStep (Ask key Crowded) [] tt (All-nil IsOneStep)
  course_of_one key Spilled =
      All-cons IsOneStep (Ask key Claim) (spill_step composite_meaning fonts key ∷ []) tt (All-cons IsOneStep (spill_step composite_meaning fonts key) [] tt (All-nil IsOneStep))
  course_of_one key Unasked = All-nil IsOneStep

  pub visits_of_one : (visits : List KeyVisit) → All IsOneStep (visit_steps fonts visits)
  visits_of_one [] = All-nil IsOneStep
  visits_of_one (v ∷ visits) = All-append IsOneStep (course_steps composite_meaning fonts v.key v.visit.course []) (visit_steps fonts visits) (course_of_one v.key v.visit.course) (visits_of_one visits)

pub visits_added : (caches : Caches) (pass after : CachesPass) (visits : List KeyVisit) → AddsVisits caches pass after visits []
    → own_asks composite_meaning caches.composites after.composites ≡ own_asks composite_meaning caches.composites pass.composites + asks_of (visit_steps caches.composites.tag visits)
visits_added caches pass after visits adds =
    let fonts = caches.composites.tag in
    adds_asks composite_meaning equal_composites caches.composites pass.composites after.composites (visit_steps fonts visits ++ []) adds.composites
    (subst (λ (steps : List (Step CompositeKey MaskValue)). All IsOneStep steps) (sym (append-nil (visit_steps fonts visits))) (visits_of_one fonts visits))
    ∙ ap (λ (steps : List (Step CompositeKey MaskValue)). own_asks composite_meaning caches.composites pass.composites + asks_of steps) (append-nil (visit_steps fonts visits))

-- ---- keys that are pinned all at once

filter_first : {X : Type 0} (p : X → Bool) (x : X) (xs : List X) → length (filter p (x ∷ xs)) ≡ one_if (p x) + length (filter p xs)
filter_first p x xs = elim (p x) as (λ b. length (cond b (x ∷ filter p xs) (filter p xs)) ≡ one_if b + length (filter p xs)) [
  | true ↦ omega arith
  | false ↦ omega arith
]

one_of_four : (n : ℕ) → n < 4 → one_if (n == 0) + one_if (n == 1) + one_if (n == 2) + one_if (n == 3) ≡ 1
one_of_four zero lt = refl
one_of_four (suc zero) lt = refl
one_of_four (suc (suc zero)) lt = refl
one_of_four (suc (suc (suc zero))) lt = refl
one_of_four (suc (suc (suc (suc n)))) lt = absurd (omega (arith, lt))

-- each key is in one of four shards
module _ {K : Type 0} (f : K → ℕ) (below : (k : K) → f k < 4) where
  four_parts : (keys : List K)
      → length (filter (λ k. f k == 0) keys) + length (filter (λ k. f k == 1) keys) + length (filter (λ k. f k == 2) keys) + length (filter (λ k. f k == 3) keys) ≡ length keys
  four_parts [] = refl
  four_parts (k ∷ keys) =
      let a = filter_first (λ (k : K). f k == 0) k keys in
      let b = filter_first (λ (k : K). f k == 1) k keys in
      let c = filter_first (λ (k : K). f k == 2) k keys in
      let d = filter_first (λ (k : K). f k == 3) k keys in
      let one = one_of_four (f k) (below k) in
      let rest = four_parts keys in
      omega (arith, a, b, c, d, one, rest)

module _ {K V T : Type 0} (meaning : Meaning K V T) where
  -- a shard that isn't named has none of the keys
  none_in : (under : Opening T) (keys : List K) → is_named (shards_of meaning keys) under.shard ≡ false → filter (is_in meaning under) keys ≡ []
  none_in under [] none = refl
  none_in under (x ∷ xs) none =
      (elim (shard_of (meaning.numbers x) == under.shard) as (λ b. (b || is_named (shards_of meaning xs) under.shard) ≡ false → cond b (x ∷ filter (is_in meaning under) xs) (filter (is_in meaning under) xs) ≡ []) [
        | true ↦ λ no. cc
        | false ↦ λ rest. none_in under xs rest
      ]) none

module _ {K V T : Type 0} (eq : K → K → Bool) (meaning : Meaning K V T) (cache : CacheView T) (pass after : CachePassView K T) (keys : List K) (pins : List (PinView K V)) (pinned : IsPinnedAll eq meaning cache pass keys after pins) where
  module _ (shard : ShardView T) (p q : ShardPassView K T) (turns : TurnsWith eq meaning (shards_of meaning keys) shard p q (PinAll (keys_in meaning shard keys) ∷ [])) where
    turn_asks : asks_of (own_steps meaning shard.tag q) ≡ asks_of (own_steps meaning shard.tag p) + length (keys_in meaning shard keys)
    turn_asks =
        (elim (is_named (shards_of meaning keys) shard.tag.shard) as (λ b. is_named (shards_of meaning keys) shard.tag.shard ≡ b
        → MatchBool b (GivesSteps eq meaning shard p q (PinAll (keys_in meaning shard keys) ∷ [])) (q ≡ p)
        → asks_of (own_steps meaning shard.tag q) ≡ asks_of (own_steps meaning shard.tag p) + length (keys_in meaning shard keys)) [
          | true ↦ λ t g.
              let more = ap asks_of (gives_own_steps eq meaning shard p q (PinAll (keys_in meaning shard keys) ∷ []) g) in
              let sum = asks_of-append (own_steps meaning shard.tag p) (PinAll (keys_in meaning shard keys) ∷ []) in
              omega (arith, more, sum)
          | false ↦ λ f same.
              let none = ap length (none_in meaning shard.tag keys f) in
              let kept = ap (λ (z : ShardPassView K T). asks_of (own_steps meaning shard.tag z)) same in
              omega (arith, none, kept)
        ]) refl turns

    turn_later : (entries : List (Entry K)) × Follows p q entries
    turn_later =
        (elim (is_named (shards_of meaning keys) shard.tag.shard) as (λ b. MatchBool b (GivesSteps eq meaning shard p q (PinAll (keys_in meaning shard keys) ∷ [])) (q ≡ p) → (entries : List (Entry K)) × Follows p q entries) [
          | true ↦ λ g. let given = gives_follow eq meaning shard p q (PinAll (keys_in meaning shard keys) ∷ []) g in (given.0, given.1)
          | false ↦ λ same. ([], subst (λ (z : ShardPassView K T). Follows p z []) (sym same) (Follows_same p))
        ]) turns

  pub pinned_later : IsLater pass after
  pinned_later = record {
    first = turn_later cache.shards.first pass.first after.first pinned.first;
    second = turn_later cache.shards.second pass.second after.second pinned.second;
    third = turn_later cache.shards.third pass.third after.third pinned.third;
    fourth = turn_later cache.shards.fourth pass.fourth after.fourth pinned.fourth;
  }

  keys_of_shard : (shard : ShardView T) (n : ℕ) → shard.tag.shard ≡ n → length (keys_in meaning shard keys) ≡ length (filter (λ k. shard_of (meaning.numbers k) == n) keys)
  keys_of_shard shard n is = ap (λ (i : ℕ). length (filter (λ (k : K). shard_of (meaning.numbers k) == i) keys)) is

  pub pinned_asks : AreShardsOf cache.tag cache.shards → own_asks meaning cache after ≡ own_asks meaning cache pass + length keys
  pinned_asks of =
      let a = turn_asks cache.shards.first pass.first after.first pinned.first in
      let b = turn_asks cache.shards.second pass.second after.second pinned.second in
      let c = turn_asks cache.shards.third pass.third after.third pinned.third in
      let d = turn_asks cache.shards.fourth pass.fourth after.fourth pinned.fourth in
      let x = keys_of_shard cache.shards.first 0 of.first.number in
      let y = keys_of_shard cache.shards.second 1 of.second.number in
      let z = keys_of_shard cache.shards.third 2 of.third.number in
      let w = keys_of_shard cache.shards.fourth 3 of.fourth.number in
      let all = four_parts (λ (k : K). shard_of (meaning.numbers k)) (λ k. below-four (meaning.numbers k)) keys in
      omega (arith, a, b, c, d, x, y, z, w, all)
