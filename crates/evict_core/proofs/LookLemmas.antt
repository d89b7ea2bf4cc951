-- What a look for a pin says of the machine's answer, of the sums and of the length.
use Rattle.std.proofs.Common.{◌≡◌, ℕ, ◌+◌, ◌-◌, ◌<◌, ◌≤◌, Bool, List, length, Option, Some, None, refl, arith}
use Rattle.std.specs.Map.{lookup}
use Rattle.std.specs.Option.{IsSome}
use Rattle.std.proofs.lemmas.Bool.{lt-ltb, le-ltb}
use Rattle.evict_core.specs.declared.look.Look.{Look}
use Rattle.evict_core.specs.declared.look.Look.TheVariants.{Absent, Making, Full, OutOfMemory, Pinned}
use Rattle.evict_core.specs.Machine.{Status, Flying, Ready, State, Hit, Crowded, max_pins, pins_in, one_pin_more, answer_at}
use Rattle.evict_core.specs.Asked.{ready_pins, ready_value}
use Rattle.evict_core.specs.Sums.{AreSums}
use Rattle.evict_core.specs.Looks.{idle_of, IsLookAt, after_look}
use Rattle.evict_core.proofs.SumLemmas.{add-idle, add-busy, length-to_front}

module _ {K V : Type 0} where
  pub pinned-hits : (s : State K V) (o : Option (Status V)) (value : V) → ready_value o ≡ Some value → pins_in o < max_pins → answer_at s o ≡ Some Hit
  pinned-hits s None value is few = cc
  pinned-hits s (Some (Flying number)) value is few = cc
  pinned-hits s (Some (Ready pins cost v)) value is few = rw (lt-ltb pins max_pins few)

  pub short-hits : (s : State K V) (o : Option (Status V)) → IsSome (ready_pins o) → pins_in o < max_pins → answer_at s o ≡ Some Hit
  short-hits s None some few = cc
  short-hits s (Some (Flying number)) some few = cc
  short-hits s (Some (Ready pins cost v)) some few = rw (lt-ltb pins max_pins few)

  pub full-crowds : (s : State K V) (o : Option (Status V)) → max_pins ≤ pins_in o → answer_at s o ≡ Some Crowded
  full-crowds s None all = absurd (omega (arith, all))
  full-crowds s (Some (Flying number)) all = absurd (omega (arith, all))
  full-crowds s (Some (Ready pins cost v)) all = rw (le-ltb pins max_pins all)

module _ {K V : Type 0} (test : K → Bool) where
  pub length-after_look : (look : Look V) (es : List (K × Status V)) → length (after_look test look es) ≡ length es
  length-after_look (Pinned value idle) es = length-to_front test one_pin_more es
  length-after_look Absent es = refl
  length-after_look (Making maker) es = refl
  length-after_look Full es = refl
  length-after_look OutOfMemory es = refl

module _ {K V : Type 0} (eq : K → K → Bool) (es : List (K × Status V)) (u p i : ℕ) (sums : AreSums es u p i) (k : K) where
  -- the sums after a pin on a value that might have been evicted
  pub sums-idle : (look : Look V) (cost : ℕ) → IsLookAt (lookup (eq k) es) look → idle_of look ≡ Some cost → (cost ≤ u) × (1 ≤ i) × AreSums (after_look (eq k) look es) (u - cost) (p + cost) (i - 1)
  sums-idle (Pinned value None) cost at is = cc
  sums-idle (Pinned value (Some price)) cost at is = let same : price ≡ cost = cc in add-idle eq es u p i sums k cost (rw same at at.2)
  sums-idle Absent cost at is = cc
  sums-idle (Making maker) cost at is = cc
  sums-idle Full cost at is = cc
  sums-idle OutOfMemory cost at is = cc

  pub sums-busy : (look : Look V) → IsLookAt (lookup (eq k) es) look → None ≡ idle_of look → AreSums (after_look (eq k) look es) u p i
  sums-busy (Pinned value None) at is = add-busy eq es u p i sums k at.2
  sums-busy (Pinned value (Some price)) at is = cc
  sums-busy Absent at is = sums
  sums-busy (Making maker) at is = sums
  sums-busy Full at is = sums
  sums-busy OutOfMemory at is = sums
