-- Public: how the states of the machine are told apart as data.
use Rattle.std.specs.Prelude.{◌≡◌, ℕ, ◌⊎◌, List, Option, refl}
use Rattle.std.proofs.Common.{inl, inr}
use Rattle.std.specs.Coded.{Coded, code_by, coded_ℕ, coded_list, coded×, coded⊎, coded_option}
use Rattle.evict_core.specs.Machine.{State, Status, Flying, Ready}
use Rattle.evict_core.specs.declared.hard_limit.HardLimit.{HardLimit}

module _ {V : Type 0} where
  abbrev pub status_parts : Status V → ℕ ⊎ (ℕ × (ℕ × V))
  status_parts (Flying number) = inl number
  status_parts (Ready pins cost value) = inr (pins, (cost, value))

  abbrev pub status_from : ℕ ⊎ (ℕ × (ℕ × V)) → Status V
  status_from (inl number) = Flying number
  status_from (inr parts) = Ready parts.0 parts.1.0 parts.1.1

  abbrev pub status_back : (s : Status V) → status_from (status_parts s) ≡ s
  status_back (Flying number) = refl
  status_back (Ready pins cost value) = refl

  -- a status is stored as its number, or as its pins, cost and value
  abbrev pub status_code : Coded V → Coded (Status V)
  status_code v = code_by (ℕ ⊎ (ℕ × (ℕ × V))) (coded⊎ coded_ℕ (coded× coded_ℕ (coded× coded_ℕ v))) status_parts status_from status_back

abbrev pub two : Coded (ℕ × ℕ)
two = coded× coded_ℕ coded_ℕ

-- a hard limit is stored as its two costs
abbrev pub hard_code : Coded HardLimit
hard_code = code_by (ℕ × ℕ) two (λ h. (h.cost, h.making)) (λ p. record { cost = p.0; making = p.1 }) (λ _. refl)

module _ {K V : Type 0} where
  abbrev pub state_parts : State K V → List (K × Status V) × (((ℕ × ℕ) × Option HardLimit) × ((ℕ × ℕ) × ((ℕ × ℕ) × (ℕ × ℕ))))
  state_parts s = (s.entries, (((s.limit, s.budget), s.hard), ((s.counts.hits, s.counts.claims), ((s.counts.fills, s.counts.fails), (s.counts.crowded, s.counts.evictions)))))

  abbrev pub state_from : List (K × Status V) × (((ℕ × ℕ) × Option HardLimit) × ((ℕ × ℕ) × ((ℕ × ℕ) × (ℕ × ℕ)))) → State K V
  state_from p = record {
    entries = p.0;
    limit = p.1.0.0.0;
    budget = p.1.0.0.1;
    hard = p.1.0.1;
    counts = record {
      hits = p.1.1.0.0;
      claims = p.1.1.0.1;
      fills = p.1.1.1.0.0;
      fails = p.1.1.1.0.1;
      crowded = p.1.1.1.1.0;
      evictions = p.1.1.1.1.1;
    };
  }

  -- a state is stored as the tuple of its fields
  abbrev pub state_code : Coded K → Coded V → Coded (State K V)
  state_code k v = code_by (List (K × Status V) × (((ℕ × ℕ) × Option HardLimit) × ((ℕ × ℕ) × ((ℕ × ℕ) × (ℕ × ℕ))))) (coded× (coded_list (coded× k (status_code v))) (coded× (coded× two (coded_option hard_code)) (coded× two (coded× two two)))) state_parts state_from (λ _. refl)
