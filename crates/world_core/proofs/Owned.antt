-- The laws of caches that stand for histories.
use Rattle.std.proofs.Common.{◌≡◌, ℕ, zero, suc, ◌+◌, ◌<◌, Bool, true, false, List, [], ◌∷◌, length, get_or, map, Option, Some, None, is_some, refl, sym, ap, ◌∙◌, subst, arith}
use Rattle.std.specs.Cmp.{IsEquivalence}
use Rattle.std.proofs.lemmas.List.Elements.{All-nil}
use Rattle.turn_cell.specs.History.{History}
use Rattle.evict_core.specs.Machine.{State, Hit, Claim, Crowded, Step, Answer, maker_in, pins_in, status_of}
use Rattle.evict_core.specs.History.{opening, one_if, replay, pins_held, is_pending}
use Rattle.evict_core.proofs.LegalLemmas.{none-is-legal}
use Rattle.evict_core.proofs.StateLemmas.{IsSound}
use Rattle.evict_core.proofs.HistoryLemmas.{sound-replay}
use Rattle.evict_core.proofs.PinLaws.{flies-where-pending, pins-are-held}
use Rattle.flight_cache.specs.Meaning.{Meaning}
use Rattle.world_core.specs.declared.holding.Holding.{Holding}
use Rattle.world_core.specs.Holdings.{count_held, count_all}
use Rattle.world_core.specs.Caches.{ActorCachesView, shard_in, after_answer, answer_in}
use Rattle.world_core.specs.CacheLaws.{FillsWithMade, StandFor, HaveHistories}
use Rattle.world_core.specs.CacheHistories.{ask_in_shard, OpenedStand, AskedStand, FilledStand, FailedStand, UnpinnedStand, LimitedStand, TicketsAreOfMaking, MakersHaveTickets, PinsAreActors, EachInBudget, EachInLimit, ReadyValuesAreMade}
use Rattle.world_core.proofs.Everyone.{sum_below, below-same, below-none, below-one, above_actors, above_numbers, is-above, count-everyone, held-below}
use Rattle.world_core.proofs.CacheStanding.{stand-hit, stand-claim, stand-crowded, stand-fill, stand-fail, stand-unpin, stand-limits, ticket-within, pin-within, found-made}

module _ {K V T : Type 0} (eq : K → K → Bool) (laws : IsEquivalence eq) (meaning : Meaning K V T) where
  opened-shards : (limits : List (ℕ × ℕ)) (n : ℕ) → get_or (map (λ l. opening l.0 l.1) limits) n (opening 0 0) ≡ opening {K = K} {V = V} (get_or limits n (0, 0)).0 (get_or limits n (0, 0)).1
  opened-shards [] n = refl
  opened-shards (l ∷ limits) zero = refl
  opened-shards (l ∷ limits) (suc n) = opened-shards limits n

  pub opened-stand : OpenedStand eq meaning
  opened-stand tag limits = record {
    legal = λ n. none-is-legal V eq (get_or limits n (0, 0)).0 (get_or limits n (0, 0)).1;
    shards = opened-shards limits;
    fills = λ n. All-nil (λ (e : ℕ × Step K V). FillsWithMade meaning tag e.1);
    tickets = λ actor shard key. refl;
    pins = λ actor shard key. refl;
  }

  module _ (s : ActorCachesView K V T) (limits : ℕ → ℕ × ℕ) (histories : ℕ → History (Step K V)) (stand : StandFor eq meaning s limits histories) where
    asked-as : (h : Holding K) → h.shard < length s.shards → (o : Option Answer) → answer_in eq h s ≡ o → StandFor eq meaning (after_answer eq h o s) limits (ask_in_shard histories h o)
    asked-as h within None is = stand
    asked-as h within (Some Hit) is = stand-hit eq laws meaning s limits histories stand h within is
    asked-as h within (Some Claim) is = stand-claim eq laws meaning s limits histories stand h within is
    asked-as h within (Some Crowded) is = stand-crowded eq laws meaning s limits histories stand h within is

  pub asked-stand : AskedStand eq meaning
  asked-stand s limits histories stand h within = asked-as s limits histories stand h within (answer_in eq h s) refl

  pub filled-stand : FilledStand eq meaning
  filled-stand s limits histories stand place h is =
      stand-fill eq laws meaning s limits histories stand place h is (omega (arith, ticket-within eq laws meaning s limits histories stand place h is))

  pub failed-stand : FailedStand eq meaning
  failed-stand s limits histories stand place h is =
      stand-fail eq laws meaning s limits histories stand place h is (omega (arith, ticket-within eq laws meaning s limits histories stand place h is))

  pub unpinned-stand : UnpinnedStand eq meaning
  unpinned-stand s limits histories stand place h is =
      stand-unpin eq laws meaning s limits histories stand place h is (omega (arith, pin-within eq laws meaning s limits histories stand place h is))

  pub limited-stand : LimitedStand eq meaning
  limited-stand s limits histories stand n entries budget within some few least = stand-limits eq laws meaning s limits histories stand n entries budget within some few least

  module _ (s : ActorCachesView K V T) (have : HaveHistories eq meaning s) (shard : ℕ) (key : K) where
    abbrev left : State K V
    left = replay eq (have.limits shard).0 (have.limits shard).1 (have.histories shard)

    maker-left : maker_in (status_of eq left key) ≡ maker_in (status_of eq (shard_in s shard) key)
    maker-left = ap (λ (z : State K V). maker_in (status_of eq z key)) (sym (have.stand.shards shard))

    abbrev pending : ℕ → Bool
    pending actor = is_pending eq (have.histories shard) actor key

    flies : (actor : ℕ) → maker_in (status_of eq (shard_in s shard) key) ≡ Some actor → pending actor ≡ true
    flies actor is = (flies-where-pending eq laws (have.limits shard).0 (have.limits shard).1 (have.histories shard) (have.stand.legal shard) actor key).0 (maker-left ∙ is)

    makes : (actor : ℕ) → pending actor ≡ true → maker_in (status_of eq (shard_in s shard) key) ≡ Some actor
    makes actor is = sym maker-left ∙ (flies-where-pending eq laws (have.limits shard).0 (have.limits shard).1 (have.histories shard) (have.stand.legal shard) actor key).1 is

    pending-one : (b : Bool) → one_if b ≡ 1 → b ≡ true
    pending-one true is = refl
    pending-one false is = absurd (omega (arith, is))

    not-pending : (actor : ℕ) → (pending actor ≡ true → ⊥) → one_if (pending actor) ≡ 0
    not-pending actor never = (elim (pending actor) as (λ b. pending actor ≡ b → one_if b ≡ 0) [
      | true ↦ λ t. absurd (never t)
      | false ↦ λ t. refl
    ]) refl

    tickets-one : (o : Option ℕ) → maker_in (status_of eq (shard_in s shard) key) ≡ o → (n : ℕ) → ((a : ℕ) → o ≡ Some a → a < n) → sum_below (λ m. one_if (pending m)) n ≡ one_if (is_some o)
    tickets-one None is n below = below-none (λ m. one_if (pending m)) (λ m. not-pending m (λ t. let no : None ≡ Some m = sym is ∙ makes m t in cc)) n
    tickets-one (Some a) is n below =
        let own : one_if (pending a) ≡ 1 = ap one_if (flies a is) in
        below-one (λ m. one_if (pending m)) a (λ m other. not-pending m (λ t. let same : Some a ≡ Some m = sym is ∙ makes m t in other cc)) n (below a refl) ∙ own

    abbrev above-maker : Option ℕ → ℕ
    above-maker None = 0
    above-maker (Some a) = suc a

    is-below : (o : Option ℕ) (a : ℕ) → o ≡ Some a → a < above-maker o
    is-below None a is = absurd cc
    is-below (Some b) a is = let same : b ≡ a = cc in omega (arith, same)

    tickets-of-making : (o : Option ℕ) → maker_in (status_of eq (shard_in s shard) key) ≡ o → count_all eq shard key s.tickets ≡ one_if (is_some o)
    tickets-of-making o is =
        let n = above_actors s.tickets + above-maker o in
        count-everyone eq shard key s.tickets n (omega arith)
        ∙ (below-same (λ m. count_held eq m shard key s.tickets) (λ m. one_if (pending m)) (λ m. have.stand.tickets m shard key) n
        ∙ tickets-one o is n (λ a same. omega (arith, is-below o a same)))

    pins-of-actors : count_all eq shard key s.pins ≡ pins_in (status_of eq (shard_in s shard) key)
    pins-of-actors =
        let history = have.histories shard in
        let n = above_actors s.pins + above_numbers history in
        count-everyone eq shard key s.pins n (omega arith)
        ∙ (below-same (λ m. count_held eq m shard key s.pins) (λ m. pins_held eq history m key) (λ m. have.stand.pins m shard key) n
        ∙ (sym (held-below eq history key n)
        ∙ (sym (pins-are-held eq laws (have.limits shard).0 (have.limits shard).1 history (have.stand.legal shard) n (is-above history n (omega arith)) key)
        ∙ ap (λ (z : State K V). pins_in (status_of eq z key)) (sym (have.stand.shards shard)))))

  pub tickets-are-of-making : TicketsAreOfMaking eq meaning
  tickets-are-of-making s have shard key = tickets-of-making s have shard key (maker_in (status_of eq (shard_in s shard) key)) refl

  pub makers-have-tickets : MakersHaveTickets eq meaning
  makers-have-tickets s have actor shard key = (
    λ is. have.stand.tickets actor shard key ∙ ap one_if (flies s have shard key actor is),
    λ one. makes s have shard key actor (pending-one s have shard key (pending s have shard key actor) (sym (have.stand.tickets actor shard key) ∙ one)),
  )

  pub pins-are-actors : PinsAreActors eq meaning
  pins-are-actors s have shard key = pins-of-actors s have shard key

  sound : (s : ActorCachesView K V T) → HaveHistories eq meaning s → (n : ℕ) → IsSound eq (shard_in s n)
  sound s have n = subst (λ (z : State K V). IsSound eq z) (sym (have.stand.shards n)) (sound-replay eq laws (have.limits n).0 (have.limits n).1 (have.histories n) (have.stand.legal n))

  pub each-in-budget : EachInBudget eq meaning
  each-in-budget s have n = (sound s have n).in_budget

  pub each-in-limit : EachInLimit eq meaning
  each-in-limit s have n = (sound s have n).in_limit

  pub ready-values-are-made : ((a b : K) → eq a b ≡ true → a ≡ b) → ReadyValuesAreMade eq meaning
  ready-values-are-made same s have n key value found = found-made eq laws same meaning s have.limits have.histories have.stand n key value found
