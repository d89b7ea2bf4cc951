-- What each step does to the counts.
use Rattle.std.proofs.Common.{◌≡◌, ℕ, ◌+◌, ◌-◌, min, Bool, true, false, cond, nat_lt, List, [], ◌∷◌, ◌++◌, length, Option, Some, None, option_map, refl, sym, ap, ◌∙◌, subst, true≢false, arith}
use Rattle.std.specs.Cmp.{IsEquivalence}
use Rattle.std.specs.Map.{lookup}
use Rattle.std.proofs.lemmas.List.Sums.{sum_by_push}
use Rattle.turn_cell.specs.History.{History}
use Rattle.evict_core.specs.Recency.{without_last, change, to_front}
use Rattle.evict_core.specs.Machine.{Status, Flying, Ready, State, Hit, Claim, Crowded, Step, Ask, PinAll, Fill, Fail, Spill, Unpin, Limits, Hard, flying_one, flying, last_count, raised, is_idle, has_idle, one_pin_more, one_pin_less, maker_in, evict, trim, status_of, hit, hit_all, room_for_one, put_first, state_after, IsEnabled}
use Rattle.evict_core.specs.History.{opening, replay, pins_held, IsLegal}
use Rattle.evict_core.specs.declared.counts.Counts.{Counts}
use Rattle.evict_core.specs.declared.hard_limit.HardLimit.{HardLimit}
use Rattle.evict_core.specs.Counting.{ready_one, ready, counts_of, tally, CountsSay}
use Rattle.evict_core.proofs.SumLemmas.{weight_in, total-change, total-remove, total-to_front, total-without_last}
use Rattle.evict_core.proofs.FlyingLemmas.{more-flying, less-flying, idle-not-flying}
use Rattle.evict_core.proofs.TrimLemmas.{kept-by-trim, some-idle}
use Rattle.evict_core.proofs.StateLemmas.{claim-has-room}
use Rattle.evict_core.proofs.HistoryLemmas.{replay-append, by-steps}

-- one more of a number that stands at the last value
raised-min : (n m : ℕ) → n ≡ min m last_count → raised n ≡ min (m + 1) last_count
raised-min n m is = subst (λ (z : ℕ). raised z ≡ min (m + 1) last_count) (sym is) (grind arith)

module _ {V : Type 0} where
  more-ready : (o : Option (Status V)) → weight_in ready_one (option_map one_pin_more o) ≡ weight_in ready_one o
  more-ready None = refl
  more-ready (Some (Flying n)) = refl
  more-ready (Some (Ready pins cost value)) = refl

  less-ready : (o : Option (Status V)) → weight_in ready_one (option_map one_pin_less o) ≡ weight_in ready_one o
  less-ready None = refl
  less-ready (Some (Flying n)) = refl
  less-ready (Some (Ready pins cost value)) = refl

  idle-is-ready : (st : Status V) → is_idle st ≡ true → ready_one st ≡ 1
  idle-is-ready (Flying n) idle = absurd (true≢false (sym idle))
  idle-is-ready (Ready pins cost value) idle = refl

  -- what a key weighs that is being made, before and after its fill
  made-weighs : (o : Option (Status V)) (m cost : ℕ) (value : V) → maker_in o ≡ Some m
      → (weight_in flying_one o ≡ 1) × (weight_in ready_one o ≡ 0) × (weight_in flying_one (option_map (λ _. Ready 1 cost value) o) ≡ 0) × (weight_in ready_one (option_map (λ _. Ready 1 cost value) o) ≡ 1)
  made-weighs None m cost value made = cc
  made-weighs (Some (Flying n)) m cost value made = (refl, refl, refl, refl)
  made-weighs (Some (Ready pins c v)) m cost value made = cc

module _ {K V : Type 0} where
  fewer-ready : (es : List (K × Status V)) → has_idle es ≡ true → ready (without_last is_idle es) + 1 ≡ ready es
  fewer-ready [] idle = absurd (true≢false (sym idle))
  fewer-ready (e ∷ es) idle = (elim (has_idle es) as (λ b. has_idle es ≡ b → ready (cond b (e ∷ without_last is_idle es) (cond (is_idle e.1) es (e ∷ es))) + 1 ≡ ready_one e.1 + ready es) [
    | true ↦ λ t. omega (arith, fewer-ready es t)
    | false ↦ λ t. (elim (is_idle e.1) as (λ b. is_idle e.1 ≡ b → ready (cond b es (e ∷ es)) + 1 ≡ ready_one e.1 + ready es) [
      | true ↦ λ i. omega (arith, idle-is-ready e.1 i)
      | false ↦ λ i. absurd (true≢false (sym idle ∙ rw (t, i)))
    ]) refl
  ]) refl

  counts-evict : (s : State K V) (a b c d e : ℕ) → has_idle s.entries ≡ true → CountsSay s a b c d e → CountsSay (evict s) a b c d e
  counts-evict s a b c d e idle say =
      let fewer = fewer-ready s.entries idle in
      let same = total-without_last flying_one is_idle idle-not-flying s.entries in
      let more : (c - ready s.entries) + 1 ≡ c - ready (without_last is_idle s.entries) = omega (arith, fewer, say.kept) in
      record {
        hits_are = say.hits_are;
        claims_are = say.claims_are;
        fills_are = say.fills_are;
        fails_are = say.fails_are;
        crowded_are = say.crowded_are;
        claimed = omega (arith, say.claimed, same);
        kept = omega (arith, say.kept, fewer);
        evictions_are = raised-min s.counts.evictions (c - ready s.entries) say.evictions_are ∙ ap (λ (n : ℕ). min n last_count) more;
      }

  counts-trim : (s : State K V) (a b c d e : ℕ) → CountsSay s a b c d e → CountsSay (trim s) a b c d e
  counts-trim s a b c d e say = kept-by-trim (λ (t : State K V). CountsSay t a b c d e) (λ t outside here. counts-evict t a b c d e (some-idle t outside) here) (length s.entries) s refl say

module _ {K V : Type 0} (eq : K → K → Bool) where
  counts-hit : (s : State K V) (k : K) (a b c d e : ℕ) → CountsSay s a b c d e → CountsSay (hit eq s k) (a + 1) b c d e
  counts-hit s k a b c d e say =
      let f = total-to_front flying_one (eq k) one_pin_more s.entries in
      let r = total-to_front ready_one (eq k) one_pin_more s.entries in
      let same : flying (to_front (eq k) one_pin_more s.entries) ≡ flying s.entries = omega (arith, f, more-flying (lookup (eq k) s.entries)) in
      let still : ready (to_front (eq k) one_pin_more s.entries) ≡ ready s.entries = omega (arith, r, more-ready (lookup (eq k) s.entries)) in
      record {
        hits_are = raised-min s.counts.hits a say.hits_are;
        claims_are = say.claims_are;
        fills_are = say.fills_are;
        fails_are = say.fails_are;
        crowded_are = say.crowded_are;
        claimed = omega (arith, say.claimed, same);
        kept = omega (arith, say.kept, still);
        evictions_are = say.evictions_are ∙ ap (λ (n : ℕ). min (c - n) last_count) (sym still);
      }

  counts-hit_all : (ks : List K) (s : State K V) (a b c d e : ℕ) → CountsSay s a b c d e → CountsSay (hit_all eq s ks) (a + length ks) b c d e
  counts-hit_all [] s a b c d e say = subst (λ (n : ℕ). CountsSay s n b c d e) (omega arith) say
  counts-hit_all (k ∷ ks) s a b c d e say = subst (λ (n : ℕ). CountsSay (hit_all eq (hit eq s k) ks) n b c d e) (omega arith) (counts-hit_all ks (hit eq s k) (a + 1) b c d e (counts-hit s k a b c d e say))

  counts-put : (s : State K V) (k : K) (m a b c d e : ℕ) → CountsSay s a b c d e → CountsSay (put_first s k m) a (b + 1) c d e
  counts-put s k m a b c d e say = record {
    hits_are = say.hits_are;
    claims_are = raised-min s.counts.claims b say.claims_are;
    fills_are = say.fills_are;
    fails_are = say.fails_are;
    crowded_are = say.crowded_are;
    claimed = omega (arith, say.claimed);
    kept = omega (arith, say.kept, still);
    evictions_are = say.evictions_are ∙ ap (λ (n : ℕ). min (c - n) last_count) (sym still);
  }
    where
      still : ready (put_first s k m).entries ≡ ready s.entries
      still = omega arith

  counts-claim : (s : State K V) (k : K) (m a b c d e : ℕ) → (nat_lt (length s.entries) s.limit ≡ false → has_idle s.entries ≡ true) → CountsSay s a b c d e → CountsSay (put_first (room_for_one s) k m) a (b + 1) c d e
  counts-claim s k m a b c d e idle say = (elim (nat_lt (length s.entries) s.limit) as (λ t. nat_lt (length s.entries) s.limit ≡ t → CountsSay (put_first (cond t s (evict s)) k m) a (b + 1) c d e) [
    | true ↦ λ t. counts-put s k m a b c d e say
    | false ↦ λ t. counts-put (evict s) k m a b c d e (counts-evict s a b c d e (idle t) say)
  ]) refl

  counts-fill : (s : State K V) (k : K) (cost : ℕ) (value : V) (m a b c d e : ℕ) → maker_in (status_of eq s k) ≡ Some m → CountsSay s a b c d e → CountsSay (state_after eq s m (Fill k cost value)) a b (c + 1) d e
  counts-fill s k cost value m a b c d e made say =
      let w = made-weighs (lookup (eq k) s.entries) m cost value made in
      let f = total-to_front flying_one (eq k) (λ _. Ready 1 cost value) s.entries in
      let r = total-to_front ready_one (eq k) (λ _. Ready 1 cost value) s.entries in
      let fewer : flying (to_front (eq k) (λ _. Ready 1 cost value) s.entries) + 1 ≡ flying s.entries = omega (arith, f, w.0, w.2) in
      let one : ready (to_front (eq k) (λ _. Ready 1 cost value) s.entries) ≡ ready s.entries + 1 = omega (arith, r, w.1, w.3) in
      let same : c - ready s.entries ≡ (c + 1) - ready (to_front (eq k) (λ _. Ready 1 cost value) s.entries) = omega (arith, one) in
      record {
        hits_are = say.hits_are;
        claims_are = say.claims_are;
        fills_are = raised-min s.counts.fills c say.fills_are;
        fails_are = say.fails_are;
        crowded_are = say.crowded_are;
        claimed = omega (arith, say.claimed, fewer);
        kept = omega (arith, say.kept, one);
        evictions_are = say.evictions_are ∙ ap (λ (n : ℕ). min n last_count) same;
      }

  counts-fail : (s : State K V) (k : K) (m a b c d e : ℕ) → maker_in (status_of eq s k) ≡ Some m → CountsSay s a b c d e → CountsSay (state_after eq s m (Fail k)) a b c (d + 1) e
  counts-fail s k m a b c d e made say =
      let f = total-remove flying_one (eq k) s.entries in
      let r = total-remove ready_one (eq k) s.entries in
      let w = flying-weighs (lookup (eq k) s.entries) made in
      let same : ready (state_after eq s m (Fail k)).entries ≡ ready s.entries = omega (arith, r, w.1) in
      record {
        hits_are = say.hits_are;
        claims_are = say.claims_are;
        fills_are = say.fills_are;
        fails_are = raised-min s.counts.fails d say.fails_are;
        crowded_are = say.crowded_are;
        claimed = omega (arith, say.claimed, f, w.0);
        kept = omega (arith, say.kept, same);
        evictions_are = say.evictions_are ∙ ap (λ (n : ℕ). min (c - n) last_count) (sym same);
      }
    where
      flying-weighs : (o : Option (Status V)) → maker_in o ≡ Some m → (weight_in flying_one o ≡ 1) × (weight_in ready_one o ≡ 0)
      flying-weighs None made = cc
      flying-weighs (Some (Flying n)) made = (refl, refl)
      flying-weighs (Some (Ready pins cost value)) made = cc

  counts-unpin : (s : State K V) (k : K) (a b c d e : ℕ) → CountsSay s a b c d e → CountsSay (trim (record s { entries = change (eq k) one_pin_less s.entries })) a b c d e
  counts-unpin s k a b c d e say =
      let f = total-change flying_one (eq k) one_pin_less s.entries in
      let r = total-change ready_one (eq k) one_pin_less s.entries in
      let same : flying (change (eq k) one_pin_less s.entries) ≡ flying s.entries = omega (arith, f, less-flying (lookup (eq k) s.entries)) in
      let still : ready (change (eq k) one_pin_less s.entries) ≡ ready s.entries = omega (arith, r, less-ready (lookup (eq k) s.entries)) in
      counts-trim (record s { entries = change (eq k) one_pin_less s.entries }) a b c d e record {
        hits_are = say.hits_are;
        claims_are = say.claims_are;
        fills_are = say.fills_are;
        fails_are = say.fails_are;
        crowded_are = say.crowded_are;
        claimed = omega (arith, say.claimed, same);
        kept = omega (arith, say.kept, still);
        evictions_are = say.evictions_are ∙ ap (λ (n : ℕ). min (c - n) last_count) (sym still);
      }

  counts-limits : (s : State K V) (limit budget a b c d e : ℕ) → CountsSay s a b c d e → CountsSay (record s { limit = limit; budget = budget }) a b c d e
  counts-limits s limit budget a b c d e say = record {
    hits_are = say.hits_are;
    claims_are = say.claims_are;
    fills_are = say.fills_are;
    fails_are = say.fails_are;
    crowded_are = say.crowded_are;
    claimed = say.claimed;
    kept = say.kept;
    evictions_are = say.evictions_are;
  }

  counts-hard : (s : State K V) (hard : Option HardLimit) (a b c d e : ℕ) → CountsSay s a b c d e → CountsSay (record s { hard = hard }) a b c d e
  counts-hard s hard a b c d e say = record {
    hits_are = say.hits_are;
    claims_are = say.claims_are;
    fills_are = say.fills_are;
    fails_are = say.fails_are;
    crowded_are = say.crowded_are;
    claimed = say.claimed;
    kept = say.kept;
    evictions_are = say.evictions_are;
  }

  counts-crowded : (s : State K V) (a b c d e : ℕ) → CountsSay s a b c d e → CountsSay (record s { counts = record s.counts { crowded = raised s.counts.crowded } }) a b c d (e + 1)
  counts-crowded s a b c d e say = record {
    hits_are = say.hits_are;
    claims_are = say.claims_are;
    fills_are = say.fills_are;
    fails_are = say.fails_are;
    crowded_are = raised-min s.counts.crowded e say.crowded_are;
    claimed = say.claimed;
    kept = say.kept;
    evictions_are = say.evictions_are;
  }

  same-counts : (s : State K V) (a b c d e a' b' c' d' e' : ℕ) → a ≡ a' → b ≡ b' → c ≡ c' → d ≡ d' → e ≡ e' → CountsSay s a b c d e → CountsSay s a' b' c' d' e'
  same-counts s a b c d e a' b' c' d' e' ea eb ec ed ee say = subst (λ (n : ℕ). CountsSay s n b' c' d' e') ea (subst (λ (n : ℕ). CountsSay s a n c' d' e') eb (subst (λ (n : ℕ). CountsSay s a b n d' e') ec
      (subst (λ (n : ℕ). CountsSay s a b c n e') ed (subst (λ (n : ℕ). CountsSay s a b c d n) ee say))))

  module _ (laws : IsEquivalence eq) where
    counts-after : (s : State K V) (held : K → ℕ) (m : ℕ) (step : Step K V) (a b c d e : ℕ) → IsEnabled eq s held m step → CountsSay s a b c d e
        → CountsSay (state_after eq s m step) (a + (counts_of step).hits) (b + (counts_of step).claims) (c + (counts_of step).fills) (d + (counts_of step).fails) (e + (counts_of step).crowded)
    counts-after s held m (Ask k Hit) a b c d e enabled say = same-counts _ _ _ _ _ _ _ _ _ _ _ (omega arith) (omega arith) (omega arith) (omega arith) (omega arith) (counts-hit s k a b c d e say)
    counts-after s held m (Ask k Claim) a b c d e enabled say = same-counts _ _ _ _ _ _ _ _ _ _ _ (omega arith) (omega arith) (omega arith) (omega arith) (omega arith) (counts-claim s k m a b c d e (λ full. let room = (claim-has-room eq laws s k enabled).1 in rw full at room) say)
    counts-after s held m (Ask k Crowded) a b c d e enabled say = same-counts _ _ _ _ _ _ _ _ _ _ _ (omega arith) (omega arith) (omega arith) (omega arith) (omega arith) (counts-crowded s a b c d e say)
    counts-after s held m (PinAll ks) a b c d e enabled say = same-counts _ _ _ _ _ _ _ _ _ _ _ (omega arith) (omega arith) (omega arith) (omega arith) (omega arith) (counts-hit_all ks s a b c d e say)
    counts-after s held m (Fill k cost value) a b c d e enabled say = same-counts _ _ _ _ _ _ _ _ _ _ _ (omega arith) (omega arith) (omega arith) (omega arith) (omega arith) (counts-fill s k cost value m a b c d e enabled say)
    counts-after s held m (Fail k) a b c d e enabled say = same-counts _ _ _ _ _ _ _ _ _ _ _ (omega arith) (omega arith) (omega arith) (omega arith) (omega arith) (counts-fail s k m a b c d e enabled say)
    counts-after s held m (Spill k cost) a b c d e enabled say = same-counts _ _ _ _ _ _ _ _ _ _ _ (omega arith) (omega arith) (omega arith) (omega arith) (omega arith) (counts-fail s k m a b c d e enabled.0 say)
    counts-after s held m (Unpin k) a b c d e enabled say = same-counts _ _ _ _ _ _ _ _ _ _ _ (omega arith) (omega arith) (omega arith) (omega arith) (omega arith) (counts-unpin s k a b c d e say)
    counts-after s held m (Limits entries budget) a b c d e enabled say = same-counts _ _ _ _ _ _ _ _ _ _ _ (omega arith) (omega arith) (omega arith) (omega arith) (omega arith) (counts-trim (record s { limit = entries; budget = budget }) a b c d e (counts-limits s entries budget a b c d e say))
    counts-after s held m (Hard hard) a b c d e enabled say = same-counts _ _ _ _ _ _ _ _ _ _ _ (omega arith) (omega arith) (omega arith) (omega arith) (omega arith) (counts-hard s hard a b c d e say)

    tally-more : (pick : Counts → ℕ) (h : History (Step K V)) (x : ℕ × Step K V) → tally pick (h ++ x ∷ []) ≡ tally pick h + pick (counts_of x.1)
    tally-more pick h x = sum_by_push (λ (p : ℕ × Step K V). pick (counts_of p.1)) h x

    abbrev Says : ℕ → ℕ → History (Step K V) → Type 0
    Says limit budget h = CountsSay (replay eq limit budget h) (tally (λ c. c.hits) h) (tally (λ c. c.claims) h) (tally (λ c. c.fills) h) (tally (λ c. c.fails) h) (tally (λ c. c.crowded) h)

    pub counts-say : (limit budget : ℕ) (h : History (Step K V)) → IsLegal eq limit budget h → Says limit budget h
    counts-say limit budget = by-steps eq limit budget (Says limit budget)
        record { hits_are = refl; claims_are = refl; fills_are = refl; fails_are = refl; crowded_are = refl; claimed = refl; kept = omega arith; evictions_are = refl }
        (λ h x follows here. rw (replay-append eq h (x ∷ []) (opening limit budget), tally-more (λ c. c.hits) h x, tally-more (λ c. c.claims) h x, tally-more (λ c. c.fills) h x, tally-more (λ c. c.fails) h x, tally-more (λ c. c.crowded) h x)
        (counts-after (replay eq limit budget h) (pins_held eq h x.0) x.0 x.1 (tally (λ c. c.hits) h) (tally (λ c. c.claims) h) (tally (λ c. c.fills) h) (tally (λ c. c.fails) h) (tally (λ c. c.crowded) h) follows here))
