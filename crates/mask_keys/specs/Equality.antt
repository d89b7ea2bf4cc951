-- Public: the keys' `==`, and what their `hash` feeds a hasher.
use Rattle.std.specs.Prelude.{Bool}
use Rattle.std.specs.Hash.{HashWrites}
use Rattle.mask_keys.specs.declared.outline_key.OutlineKey.{OutlineKey}
use Rattle.mask_keys.specs.declared.mask_key.MaskKey.{MaskKey}
use Rattle.mask_keys.specs.declared.region_key.RegionKey.{RegionKey}
use Rattle.mask_keys.specs.declared.composite_key.CompositeKey.{CompositeKey}
use Rattle.mask_keys.specs.contracts.outline_key.OutlineKeyPartialEq.TheImpl as outline_eq
use Rattle.mask_keys.specs.contracts.region_key.RegionKeyPartialEq.TheImpl as region_eq
use Rattle.mask_keys.specs.contracts.mask_key.MaskKeyPartialEq.TheImpl as mask_eq
use Rattle.mask_keys.specs.contracts.composite_key.CompositeKeyPartialEq.TheImpl as composite_eq
use Rattle.mask_keys.specs.contracts.outline_key.OutlineKeyHash.TheImpl as outline_hash
use Rattle.mask_keys.specs.contracts.region_key.RegionKeyHash.TheImpl as region_hash
use Rattle.mask_keys.specs.contracts.mask_key.MaskKeyHash.TheImpl as mask_hash
use Rattle.mask_keys.specs.contracts.composite_key.CompositeKeyHash.TheImpl as composite_hash

abbrev pub equal_outlines : OutlineKey → OutlineKey → Bool
equal_outlines = outline_eq.ghosts.eq

abbrev pub equal_regions : RegionKey → RegionKey → Bool
equal_regions = region_eq.ghosts.eq

abbrev pub equal_masks : MaskKey → MaskKey → Bool
equal_masks = mask_eq.ghosts.eq

abbrev pub equal_composites : CompositeKey → CompositeKey → Bool
equal_composites = composite_eq.ghosts.eq

abbrev pub outline_writes : OutlineKey → HashWrites
outline_writes = outline_hash.ghosts.hash_input

abbrev pub region_writes : RegionKey → HashWrites
region_writes = region_hash.ghosts.hash_input

abbrev pub mask_writes : MaskKey → HashWrites
mask_writes = mask_hash.ghosts.hash_input

abbrev pub composite_writes : CompositeKey → HashWrites
composite_writes = composite_hash.ghosts.hash_input
