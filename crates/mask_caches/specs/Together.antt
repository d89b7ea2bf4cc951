-- Inner: the passes of three caches that go together.
use Rattle.std.specs.Prelude.{◌≡◌}
use Rattle.std.specs.Arc.{arc_value}
use Rattle.std.specs.declared.sync.Arc.{Arc}
use Rattle.flight_cache.specs.Shards.{CachePassView}

-- the three passes have one number, and drew as many numbers
pub record AreTogether {J K L T : Type 0} (regions : CachePassView J T) (masks : CachePassView K T) (composites : CachePassView L T) : Type 0 where
  pub masks_number : masks.first.number ≡ regions.first.number
  pub composites_number : composites.first.number ≡ regions.first.number
  pub masks_next : masks.first.next ≡ regions.first.next
  pub composites_next : composites.first.next ≡ regions.first.next

-- the tags of the three caches are these fonts
pub record HaveFonts {F Z : Type 0} (fonts regions masks composites : Arc F Z) : Type 0 where
  pub regions_have : arc_value regions ≡ arc_value fonts
  pub masks_have : arc_value masks ≡ arc_value fonts
  pub composites_have : arc_value composites ≡ arc_value fonts
