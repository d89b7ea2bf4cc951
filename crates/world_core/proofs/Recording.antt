-- The histories that steps make are those that the shards stand for.
use Rattle.std.proofs.Common.{◌≡◌, ℕ, ◌+◌, ◌<◌, List, [], ◌∷◌, ◌++◌, length, Option, Some, None, refl, ◌∙◌, subst, sym, arith}
use Rattle.std.specs.List.{All, slice_get}
use Rattle.std.proofs.lemmas.List.{length-set}
use Rattle.std.proofs.lemmas.List.Elements.{All-head, All-tail}
use Rattle.bdf_font.specs.Fonts.{FontValue}
use Rattle.test_hook.specs.declared.hook.ValueKind.{ValueKind}
use Rattle.test_hook.specs.declared.hook.ValueKind.TheVariants as kind
use Rattle.evict_core.proofs.FillLaws.{claims-once, fills-once}
use Rattle.evict_core.specs.History.{IsLegal}
use Rattle.evict_core.specs.Machine as machine
use Rattle.flight_cache.specs.Meaning.{Meaning, shard_count}
use Rattle.world_core.specs.Caches.{ActorCachesView, answer_in, after_answer, filled, failed, unpinned_at}
use Rattle.world_core.specs.Holdings.{holding_place}
use Rattle.world_core.specs.CacheLaws.{StandFor}
use Rattle.world_core.specs.declared.holding.Holding.{Holding}
use Rattle.world_core.proofs.Owned.{opened-stand, asked-stand, filled-stand, failed-stand, unpinned-stand, limited-stand}
use Rattle.world_core.specs.Histories.{ShardHistories, ShardHistory, kind_limits, with_own_step, with_step_at, fill_of, with_step_of, with_steps_of, opening_limits}
use Rattle.world_core.specs.Records.{BeginsWithLooks, IsRecorded, StepsAreRecorded}
use Rattle.world_core.proofs.Fronts.{looks-kept, opening-looks}
use Rattle.world_core.specs.Keys.{equal_world_keys, first_shard, key_kind, world_shard, world_shards}
use Rattle.world_core.specs.States.{WorldState, opening_world}
use Rattle.world_core.specs.Steps.{after_step, after_steps, at_holding, at_place, held_key}
use Rattle.world_core.specs.Tellings.{IsValidStep}
use Rattle.world_core.specs.contracts.world_keys.WorldKeyEq.TheImpl.Laws as key_laws
use Rattle.world_core.specs.declared.world_keys.WorldKey.{WorldKey}
use Rattle.world_core.specs.declared.world_keys.WorldKey.TheVariants as key
use Rattle.world_core.specs.declared.world_keys.WorldValue.{WorldValue}
use Rattle.world_core.specs.declared.steps.Step.{Step}
use Rattle.world_core.specs.declared.steps.Step.TheVariants.{Feed, Flush, Look, AskOutline, AskMask, AskComposite, Fill, Fail, Unpin, Limits, Show}

-- a shard of a kind is one of the twelve
kind-within : (k : ValueKind) (n : ℕ) → n < shard_count → first_shard k + n < world_shards
kind-within kind.Outline n below = omega (arith, below)
kind-within kind.Mask n below = omega (arith, below)
kind-within kind.Composite n below = omega (arith, below)

key-within : (k : WorldKey) → world_shard k < world_shards
key-within k = kind-within (key_kind k) _ (omega arith)

module _ {T : Type 0} (meaning : Meaning WorldKey WorldValue T) where
  -- ---- how many shards there are

  shards-answered : (s : ActorCachesView WorldKey WorldValue T) (h : Holding WorldKey) (o : Option machine.Answer) → length (after_answer equal_world_keys h o s).shards ≡ length s.shards
  shards-answered s h None = refl
  shards-answered s h (Some machine.Hit) = length-set _ _ _
  shards-answered s h (Some machine.Claim) = length-set _ _ _
  shards-answered s h (Some machine.Crowded) = length-set _ _ _

  module _ (make : ℕ → Holding WorldKey → ActorCachesView WorldKey WorldValue T → ActorCachesView WorldKey WorldValue T)
      (stay : (place : ℕ) (h : Holding WorldKey) (s : ActorCachesView WorldKey WorldValue T) → length (make place h s).shards ≡ length s.shards) where
    shards-held : (place : ℕ) (o : Option (Holding WorldKey)) (s : ActorCachesView WorldKey WorldValue T) → length (at_holding make place o s).shards ≡ length s.shards
    shards-held place None s = refl
    shards-held place (Some h) s = stay place h s

    shards-placed : (hs : List (Holding WorldKey)) (o : Option ℕ) (s : ActorCachesView WorldKey WorldValue T) → length (at_place hs make o s).shards ≡ length s.shards
    shards-placed hs None s = refl
    shards-placed hs (Some place) s = shards-held place (slice_get hs place) s

  shards-after : (s : WorldState T) (step : Step) → length (after_step meaning s step).caches.shards ≡ length s.caches.shards
  shards-after s (Feed actor chunk) = refl
  shards-after s (Flush actor) = refl
  shards-after s (Look actor instant size) = refl
  shards-after s (AskOutline actor k) = shards-answered s.caches (held_key actor (key.Outline k)) (answer_in equal_world_keys (held_key actor (key.Outline k)) s.caches)
  shards-after s (AskMask actor k) = shards-answered s.caches (held_key actor (key.Mask k)) (answer_in equal_world_keys (held_key actor (key.Mask k)) s.caches)
  shards-after s (AskComposite actor k) = shards-answered s.caches (held_key actor (key.Composite k)) (answer_in equal_world_keys (held_key actor (key.Composite k)) s.caches)
  shards-after s (Fill actor i) = shards-placed (filled equal_world_keys meaning) (λ place h c. length-set _ _ _) s.caches.tickets (holding_place actor i s.caches.tickets) s.caches
  shards-after s (Fail actor i) = shards-placed (failed equal_world_keys) (λ place h c. length-set _ _ _) s.caches.tickets (holding_place actor i s.caches.tickets) s.caches
  shards-after s (Unpin actor i) = shards-placed (unpinned_at equal_world_keys) (λ place h c. length-set _ _ _) s.caches.pins (holding_place actor i s.caches.pins) s.caches
  shards-after s (Limits kind shard entries budget) = length-set _ _ _
  shards-after s (Show actor) = refl

  -- ---- a step

  module _ (s : ActorCachesView WorldKey WorldValue T) (limits : ℕ → ℕ × ℕ) (histories : ShardHistories) (stand : StandFor equal_world_keys meaning s limits histories) where
    StandsSo : ActorCachesView WorldKey WorldValue T → ShardHistories → Type 0
    StandsSo after made = StandFor equal_world_keys meaning after limits made

    module _ (hs : List (Holding WorldKey)) (make : ℕ → Holding WorldKey → ActorCachesView WorldKey WorldValue T → ActorCachesView WorldKey WorldValue T) (step : Holding WorldKey → machine.Step WorldKey WorldValue)
        (made : (place : ℕ) (h : Holding WorldKey) → slice_get hs place ≡ Some h → StandFor equal_world_keys meaning (make place h s) limits (with_own_step step (Some h) histories)) where
      stands-held : (place : ℕ) (o : Option (Holding WorldKey)) → slice_get hs place ≡ o → StandFor equal_world_keys meaning (at_holding make place o s) limits (with_own_step step o histories)
      stands-held place None is = stand
      stands-held place (Some h) is = made place h is

      stands-placed : (o : Option ℕ) → StandFor equal_world_keys meaning (at_place hs make o s) limits (with_step_at step hs o histories)
      stands-placed None = stand
      stands-placed (Some place) = stands-held place (slice_get hs place) refl

    asked-within : length s.shards ≡ world_shards → (actor : ℕ) (k : WorldKey) → (held_key actor k).shard < length s.shards
    asked-within all actor k = subst (λ (n : ℕ). world_shard k < n) (sym all) (key-within k)

  step-stands : (fonts : List FontValue) (s : WorldState T) (limits : ℕ → ℕ × ℕ) (histories : ShardHistories) → StandFor equal_world_keys meaning s.caches limits histories → length s.caches.shards ≡ world_shards
      → (step : Step) → IsValidStep fonts step → StandFor equal_world_keys meaning (after_step meaning s step).caches limits (with_step_of meaning s step histories)
  step-stands fonts s limits histories stand all (Feed actor chunk) valid = stand
  step-stands fonts s limits histories stand all (Flush actor) valid = stand
  step-stands fonts s limits histories stand all (Look actor instant size) valid = stand
  step-stands fonts s limits histories stand all (AskOutline actor k) valid =
      asked-stand equal_world_keys key_laws.laws-law meaning s.caches limits histories stand (held_key actor (key.Outline k)) (asked-within s.caches limits histories stand all actor (key.Outline k))
  step-stands fonts s limits histories stand all (AskMask actor k) valid =
      asked-stand equal_world_keys key_laws.laws-law meaning s.caches limits histories stand (held_key actor (key.Mask k)) (asked-within s.caches limits histories stand all actor (key.Mask k))
  step-stands fonts s limits histories stand all (AskComposite actor k) valid =
      asked-stand equal_world_keys key_laws.laws-law meaning s.caches limits histories stand (held_key actor (key.Composite k)) (asked-within s.caches limits histories stand all actor (key.Composite k))
  step-stands fonts s limits histories stand all (Fill actor i) valid =
      stands-placed s.caches limits histories stand s.caches.tickets (filled equal_world_keys meaning) (fill_of meaning s) (λ place h is. filled-stand equal_world_keys key_laws.laws-law meaning s.caches limits histories stand place h is) (holding_place actor i s.caches.tickets)
  step-stands fonts s limits histories stand all (Fail actor i) valid =
      stands-placed s.caches limits histories stand s.caches.tickets (failed equal_world_keys) (λ h. machine.Fail h.key) (λ place h is. failed-stand equal_world_keys key_laws.laws-law meaning s.caches limits histories stand place h is) (holding_place actor i s.caches.tickets)
  step-stands fonts s limits histories stand all (Unpin actor i) valid =
      stands-placed s.caches limits histories stand s.caches.pins (unpinned_at equal_world_keys) (λ h. machine.Unpin h.key) (λ place h is. unpinned-stand equal_world_keys key_laws.laws-law meaning s.caches limits histories stand place h is) (holding_place actor i s.caches.pins)
  step-stands fonts s limits histories stand all (Limits kind shard entries budget) valid =
      limited-stand equal_world_keys key_laws.laws-law meaning s.caches limits histories stand (first_shard kind + shard) entries budget (subst (λ (n : ℕ). first_shard kind + shard < n) (sym all) (kind-within kind shard valid.0)) valid.1 valid.2 valid.3
  step-stands fonts s limits histories stand all (Show actor) valid = stand

  steps-stand : (fonts : List FontValue) (limits : ℕ → ℕ × ℕ) (steps : List Step) (s : WorldState T) (histories : ShardHistories) → StandFor equal_world_keys meaning s.caches limits histories
      → length s.caches.shards ≡ world_shards → All (IsValidStep fonts) steps → StandFor equal_world_keys meaning (after_steps meaning s steps).caches limits (with_steps_of meaning s steps histories)
  steps-stand fonts limits [] s histories stand all valid = stand
  steps-stand fonts limits (step ∷ steps) s histories stand all valid =
      steps-stand fonts limits steps (after_step meaning s step) (with_step_of meaning s step histories)
      (step-stands fonts s limits histories stand all step (All-head (IsValidStep fonts) step steps valid)) (shards-after s step ∙ all) (All-tail (IsValidStep fonts) step steps valid)

  -- ---- what is recorded

  recorded-so : (s : WorldState T) (limits : ℕ → ℕ × ℕ) (histories : ShardHistories) → StandFor equal_world_keys meaning s.caches limits histories → BeginsWithLooks s → IsRecorded meaning s limits histories
  recorded-so s limits histories stand looks = record {
    stand = stand;
    claims = λ n before between after actor other k again is same.
        claims-once equal_world_keys key_laws.laws-law (limits n).0 (limits n).1 before between after actor other k again (subst (λ (h : ShardHistory). IsLegal equal_world_keys (limits n).0 (limits n).1 h) is (stand.legal n)) same;
    fills = λ n before between after actor other k again c d v w is same.
        fills-once equal_world_keys key_laws.laws-law (limits n).0 (limits n).1 before between after actor other k again c d v w (subst (λ (h : ShardHistory). IsLegal equal_world_keys (limits n).0 (limits n).1 h) is (stand.legal n)) same;
    looks = looks;
  }

  pub steps-recorded : (fonts : List FontValue) (steps : List Step) (s : WorldState T) (limits : ℕ → ℕ × ℕ) (histories : ShardHistories) → All (IsValidStep fonts) steps → length s.caches.shards ≡ world_shards
      → IsRecorded meaning s limits histories → IsRecorded meaning (after_steps meaning s steps) limits (with_steps_of meaning s steps histories)
  steps-recorded fonts steps s limits histories valid all before =
      recorded-so (after_steps meaning s steps) limits (with_steps_of meaning s steps histories) (steps-stand fonts limits steps s histories before.stand all valid) (looks-kept meaning steps s before.looks)

  pub opening-recorded : (tag : T) (budget : ℕ) → IsRecorded meaning (opening_world tag budget) (opening_limits budget) (λ _. [])
  opening-recorded tag budget =
      recorded-so (opening_world tag budget) (opening_limits budget) (λ _. []) (opened-stand equal_world_keys key_laws.laws-law meaning tag (kind_limits budget ++ (kind_limits budget ++ kind_limits budget))) (opening-looks tag budget)

  pub steps-are-recorded : StepsAreRecorded meaning
  steps-are-recorded tag fonts budget steps valid = steps-recorded fonts steps (opening_world tag budget) (opening_limits budget) (λ _. []) valid refl (opening-recorded tag budget)
