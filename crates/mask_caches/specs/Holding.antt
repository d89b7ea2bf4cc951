-- Public: leases of masks that are held together.
use Rattle.std.specs.Prelude.{◌≡◌, true, List, [], ◌∷◌, length, map, reverse, flat_map, All}
use Rattle.std.specs.Arc.{arc_value}
use Rattle.evict_core.specs.Machine.{Step}
use Rattle.made_values.specs.Parts.{masks_of}
use Rattle.mask_keys.specs.declared.composite_key.Part.{Part}
use Rattle.mask_caches.specs.Courses.{has_value}
use Rattle.mask_caches.specs.Leases.{given_steps, lease_value}
use Rattle.mask_caches.specs.Visits.{MaskVisit, AreMaskVisits, mask_unpins}
use Rattle.mask_caches.specs.declared.caches.Caches.{Caches}
use Rattle.mask_caches.specs.declared.composites.Masks.{Masks}
use Rattle.mask_caches.specs.declared.lease.Lease.{Lease}
use Rattle.mask_caches.specs.declared.lease.Lease.TheVariants.{Pinned, Own}

module _ {M K V T : Type 0} where
  -- the key of a lease that is a pin
  abbrev pub pinned_key : Lease M K V T → List K
  pinned_key (Pinned pin) = pin.key ∷ []
  pinned_key (Own value) = []

  abbrev pub pinned_keys : List (Lease M K V T) → List K
  pinned_keys leases = flat_map pinned_key leases

  -- the steps of giving leases back, the last one first
  abbrev pub all_given_steps : List (Lease M K V T) → List (Step K V)
  all_given_steps leases = flat_map given_steps (reverse leases)

-- there is a visit for each part, and its mask was had
pub record AreAllHad (parts : List Part) (visits : List MaskVisit) : Type 0 where
  pub as_many : length visits ≡ length parts
  pub had : All (λ v. has_value v.course ≡ true) visits

-- what visits of the parts' masks left: their steps, the leases of those that were had, and, where all were, the masks of all parts
pub record AreVisited (caches : Caches) (parts : List Part) (visits : List MaskVisit) (result : Masks) : Type 0 where
  pub are : AreMaskVisits parts visits
  pub given : all_given_steps result.leases.items ≡ flat_map (mask_unpins caches.masks.tag) (reverse visits)
  pub all : result.are_all ≡ true → AreAllHad parts visits
  pub values : result.are_all ≡ true → map lease_value result.leases.items ≡ masks_of (arc_value caches.fonts).fonts parts
