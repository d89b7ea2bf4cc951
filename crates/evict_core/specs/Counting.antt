-- Public: how often each kind of step was made in a history, and what the counts of its state say of that.
use Rattle.std.specs.Prelude.{◌≡◌, ℕ, ◌+◌, ◌-◌, ◌≤◌, min, List, length, sum_by}
use Rattle.turn_cell.specs.History.{History}
use Rattle.evict_core.specs.declared.counts.Counts.{Counts}
use Rattle.evict_core.specs.Recency.{total}
use Rattle.evict_core.specs.Machine.{Status, Flying, Ready, State, Hit, Claim, Crowded, Step, Ask, PinAll, Fill, Fail, Spill, Unpin, Limits, Hard, flying, last_count}
use Rattle.evict_core.specs.History.{no_counts}

module _ {V : Type 0} where
  abbrev pub ready_one : Status V → ℕ
  ready_one (Flying number) = 0
  ready_one (Ready pins cost value) = 1

module _ {K V : Type 0} where
  -- how many entries are ready
  abbrev pub ready : List (K × Status V) → ℕ
  ready es = total ready_one es

  -- what a step counts, but for evictions. A pin-all is a hit for each of its places, and a spill a fail
  abbrev pub counts_of : Step K V → Counts
  counts_of (Ask key Hit) = record no_counts { hits = 1 }
  counts_of (Ask key Claim) = record no_counts { claims = 1 }
  counts_of (Ask key Crowded) = record no_counts { crowded = 1 }
  counts_of (PinAll keys) = record no_counts { hits = length keys }
  counts_of (Fill key cost value) = record no_counts { fills = 1 }
  counts_of (Fail key) = record no_counts { fails = 1 }
  counts_of (Spill key cost) = record no_counts { fails = 1 }
  counts_of (Unpin key) = no_counts
  counts_of (Limits entries budget) = no_counts
  counts_of (Hard hard) = no_counts

  -- one of these of all steps of the history together
  abbrev pub tally : (Counts → ℕ) → History (Step K V) → ℕ
  tally pick h = sum_by (λ e. pick (counts_of e.1)) h

  -- The counts of a state after so many hits, claims, fills, fails and crowded asks: each is its number, or stands at the last value.
  -- What was claimed was filled, failed or is being made; what was filled is ready or was evicted
  pub record CountsSay (s : State K V) (hits claims fills fails crowded : ℕ) : Type 0 where
    pub hits_are : s.counts.hits ≡ min hits last_count
    pub claims_are : s.counts.claims ≡ min claims last_count
    pub fills_are : s.counts.fills ≡ min fills last_count
    pub fails_are : s.counts.fails ≡ min fails last_count
    pub crowded_are : s.counts.crowded ≡ min crowded last_count
    pub claimed : claims ≡ fills + fails + flying s.entries
    pub kept : ready s.entries ≤ fills
    pub evictions_are : s.counts.evictions ≡ min (fills - ready s.entries) last_count
