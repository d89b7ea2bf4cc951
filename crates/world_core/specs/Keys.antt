-- Public: the keys of all three kinds together, and their values.
use Rattle.std.specs.Prelude.{ℕ, ◌+◌, ◌*◌, Bool, List}
use Rattle.std.specs.Arc.{arc_value}
use Rattle.std.specs.declared.sync.Arc.{Arc}
use Rattle.test_hook.specs.declared.hook.ValueKind.{ValueKind}
use Rattle.test_hook.specs.declared.hook.ValueKind.TheVariants as kind
use Rattle.bdf_font.specs.Fonts.{FontValue}
use Rattle.bdf_font.specs.declared.sets.FontSet.{FontSet}
use Rattle.flight_cache.specs.Meaning.{Meaning, shard_count, shard_of}
use Rattle.mask_keys.specs.Costs.{mask_cost, region_cost}
use Rattle.mask_keys.specs.Numbers.{composite_numbers, mask_numbers, region_numbers}
use Rattle.mask_keys.specs.Values.{composite_value, mask_value, region_value}
use Rattle.mask_keys.specs.Keys.{IsValidComposite, IsValidMask, IsValidRegion}
use Rattle.world_core.specs.declared.world_keys.WorldKey.{WorldKey}
use Rattle.world_core.specs.declared.world_keys.WorldKey.TheVariants as key
use Rattle.world_core.specs.contracts.world_keys.WorldKeyPartialEq.TheImpl as world_eq
use Rattle.world_core.specs.declared.world_keys.WorldValue.{WorldValue}
use Rattle.world_core.specs.declared.world_keys.WorldValue.TheVariants as value

abbrev pub equal_world_keys : WorldKey → WorldKey → Bool
equal_world_keys = world_eq.ghosts.eq

-- the value of a key under fonts
abbrev pub world_value : List FontValue → WorldKey → WorldValue
world_value fonts (key.Outline k) = value.Region (region_value fonts k)
world_value fonts (key.Mask k) = value.Mask (mask_value fonts k)
world_value fonts (key.Composite k) = value.Mask (composite_value fonts k)

abbrev pub world_cost : WorldValue → ℕ
world_cost (value.Region region) = region_cost region
world_cost (value.Mask mask) = mask_cost mask

-- the numbers that tell a key's shard among the four of its kind
abbrev pub world_numbers : WorldKey → List ℕ
world_numbers (key.Outline k) = region_numbers k
world_numbers (key.Mask k) = mask_numbers k
world_numbers (key.Composite k) = composite_numbers k

abbrev pub world_meaning : {Z : Type 0} → Meaning WorldKey WorldValue (Arc FontSet Z)
world_meaning = record { made = λ set k. world_value (arc_value set).fonts k; cost = world_cost; numbers = world_numbers; rank = λ k. 0 }

abbrev pub key_kind : WorldKey → ValueKind
key_kind (key.Outline k) = kind.Outline
key_kind (key.Mask k) = kind.Mask
key_kind (key.Composite k) = kind.Composite

-- how many shards the three kinds have together
abbrev pub world_shards : ℕ
world_shards = 3 * shard_count

-- the first shard of a kind: those of regions come first, then those of masks, then those of composed masks
abbrev pub first_shard : ValueKind → ℕ
first_shard kind.Outline = 0
first_shard kind.Mask = shard_count
first_shard kind.Composite = 2 * shard_count

-- the shard of a key among all
abbrev pub world_shard : WorldKey → ℕ
world_shard k = first_shard (key_kind k) + shard_of (world_numbers k)

abbrev pub IsValidWorldKey : List ℕ → WorldKey → Type 0
IsValidWorldKey glyphs (key.Outline k) = IsValidRegion glyphs k
IsValidWorldKey glyphs (key.Mask k) = IsValidMask glyphs k
IsValidWorldKey glyphs (key.Composite k) = IsValidComposite glyphs k
