-- What the totals of one shard say.
use Rattle.std.proofs.Common.{◌≡◌, ℕ, ◌+◌, ◌-◌, ◌≤◌, min, Bool, true, false, cond, List, [], ◌∷◌, Some, None, refl, sym, ap, ◌∙◌, true≢false, arith}
use Rattle.std.specs.Cmp.{IsEquivalence}
use Rattle.std.specs.Map.{lookup}
use Rattle.std.proofs.lemmas.List.Sums.{sum_by-cons}
use Rattle.turn_cell.specs.History.{History}
use Rattle.evict_core.specs.Counting.{CountsSay, counts_of, tally}
use Rattle.evict_core.specs.Machine.{flying, flying_one, Status, Flying, Ready, Step, Hit, Claim, Crowded, Ask, PinAll, Fill, Fail, Spill, Unpin, Limits, Hard, last_count, maker_in}
use Rattle.evict_core.specs.Recency.{Apart}
use Rattle.evict_core.proofs.CountLemmas.{counts-say}
use Rattle.evict_core.proofs.HistoryLemmas.{sound-replay}
use Rattle.evict_core.proofs.RecencyLemmas.{lookup-congr}
use Rattle.flight_cache.specs.Histories.{IsLegalUnder, left_by, step_of, steps_in}
use Rattle.flight_cache.specs.Meaning.{Meaning}
use Rattle.flight_cache.specs.declared.kept.Entry.{Entry}
use Rattle.flight_cache.specs.declared.kept.Opening.{Opening}
use Rattle.flight_cache.proofs.Home.{flies_where_open}
use Rattle.mask_caches.specs.Asks.{all_steps, asks_in, asks_of}
use Rattle.mask_caches.specs.Balance.{AllGaveBack}
use Rattle.mask_caches.specs.Laws.{ShardsBalance, ShardsCountAsks}

-- sums that are held at a last value
pub held_sum : (a b l : ℕ) → min (a + b) l ≡ min (min a l + min b l) l
held_sum a b l = omega arith

held_less : (a b l : ℕ) → min (a - b) l ≤ min a l
held_less a b l = omega arith

held_three : (a b c l : ℕ) → min (a + b + c) l ≤ min a l + min b l + min c l
held_three a b c l = omega arith

module _ {K V : Type 0} (eq : K → K → Bool) (laws : IsEquivalence eq) where
  -- no entry is being made where no key is
  none_flying : (es : List (K × Status V)) → Apart eq es → ((k : K) (m : ℕ) → maker_in (lookup (eq k) es) ≡ Some m → ⊥) → flying es ≡ 0
  none_flying [] apart none = refl
  none_flying (e ∷ es) apart none = omega (arith, here e.1 refl, none_flying es apart.1 (λ k m made. none k m (behind k m made)))
    where
      here : (st : Status V) → e.1 ≡ st → flying_one st ≡ 0
      here (Flying m) is = absurd (none e.0 m (rw (laws.refl e.0) (ap (λ (z : Status V). maker_in (Some z)) is)))
      here (Ready pins cost value) is = refl

      behind : (k : K) (m : ℕ) → maker_in (lookup (eq k) es) ≡ Some m → maker_in (lookup (eq k) (e ∷ es)) ≡ Some m
      behind k m made = (elim (eq k e.0) as (λ b. eq k e.0 ≡ b → maker_in (cond b (Some e.1) (lookup (eq k) es)) ≡ Some m) [
        | true ↦ λ t. let no : None ≡ Some m = sym (ap maker_in (lookup-congr eq laws k e.0 t es ∙ apart.0)) ∙ made in cc
        | false ↦ λ f. made
      ]) refl

module _ {K V : Type 0} where
  -- an ask is counted once, whatever it is answered
  ask_counted : (s : Step K V) → (counts_of s).hits + (counts_of s).claims + (counts_of s).crowded ≡ asks_in s
  ask_counted (Ask key Hit) = refl
  ask_counted (Ask key Claim) = refl
  ask_counted (Ask key Crowded) = refl
  ask_counted (PinAll keys) = omega arith
  ask_counted (Fill key cost value) = refl
  ask_counted (Fail key) = refl
  ask_counted (Spill key cost) = refl
  ask_counted (Unpin key) = refl
  ask_counted (Limits entries budget) = refl
  ask_counted (Hard hard) = refl

module _ {K V T : Type 0} (meaning : Meaning K V T) (under : Opening T) where
  asks_counted : (history : History (Entry K))
      → tally (λ c. c.hits) (steps_in meaning under history) + tally (λ c. c.claims) (steps_in meaning under history) + tally (λ c. c.crowded) (steps_in meaning under history)
      ≡ asks_of (all_steps meaning under history)
  asks_counted [] = refl
  asks_counted (e ∷ history) =
      let s : Step K V = step_of meaning under e.1 in
      let rest : History (Step K V) = steps_in meaning under history in
      let hits = sum_by-cons (λ (p : ℕ × Step K V). (counts_of p.1).hits) (e.0, s) rest in
      let claims = sum_by-cons (λ (p : ℕ × Step K V). (counts_of p.1).claims) (e.0, s) rest in
      let crowded = sum_by-cons (λ (p : ℕ × Step K V). (counts_of p.1).crowded) (e.0, s) rest in
      let asks = sum_by-cons asks_in s (all_steps meaning under history) in
      omega (arith, hits, claims, crowded, asks, ask_counted s, asks_counted history)

module _ {K V T : Type 0} (eq : K → K → Bool) (laws : IsEquivalence eq) (meaning : Meaning K V T) where
  say : (under : Opening T) (history : History (Entry K)) → IsLegalUnder eq meaning under history
      → let steps = steps_in meaning under history in
      CountsSay (left_by eq meaning under history) (tally (λ c. c.hits) steps) (tally (λ c. c.claims) steps) (tally (λ c. c.fills) steps) (tally (λ c. c.fails) steps) (tally (λ c. c.crowded) steps)
  say under history legal = counts-say eq laws under.entries under.budget (steps_in meaning under history) legal.legal

  nothing_flies : (under : Opening T) (history : History (Entry K)) → IsLegalUnder eq meaning under history → AllGaveBack eq meaning under history
      → flying (left_by eq meaning under history).entries ≡ 0
  nothing_flies under history legal gave =
      none_flying eq laws (left_by eq meaning under history).entries (sound-replay eq laws under.entries under.budget (steps_in meaning under history) legal.legal).apart
      (λ k m made. true≢false (sym ((flies_where_open eq laws meaning under history legal m k).0 made) ∙ (gave m).claims k))

  pub shards_balance : ShardsBalance eq meaning
  shards_balance under history legal gave =
      let told = say under history legal in
      let none = nothing_flies under history legal gave in
      let fills = tally (λ c. c.fills) (steps_in meaning under history) in
      let fails = tally (λ c. c.fails) (steps_in meaning under history) in
      let all : tally (λ c. c.claims) (steps_in meaning under history) ≡ fills + fails = omega (arith, told.claimed, none) in
      record {
        claimed = told.claims_are ∙ (ap (λ (n : ℕ). min n last_count) all ∙ (held_sum fills fails last_count ∙ rw (told.fills_are, told.fails_are) refl));
        evicted = rw (told.evictions_are, told.fills_are) (held_less fills _ last_count);
      }

  pub shards_count_asks : ShardsCountAsks eq meaning
  shards_count_asks under history legal =
      let told = say under history legal in
      let steps = steps_in meaning under history in
      rw (told.hits_are, told.claims_are, told.crowded_are, sym (asks_counted meaning under history))
      (held_three (tally (λ c. c.hits) steps) (tally (λ c. c.claims) steps) (tally (λ c. c.crowded) steps) last_count)
