-- A clone of a key is the key.
use Rattle.std.proofs.Common.{arith, ◌≡◌}
use Rattle.std.proofs.lemmas.List.Elements.{same_from_all_zip}
use Rattle.mask_keys.specs.declared.outline_key.OutlineKey.{OutlineKey}
use Rattle.mask_keys.specs.declared.region_key.RegionKey.{RegionKey}
use Rattle.mask_keys.specs.declared.mask_key.MaskKey.{MaskKey}
use Rattle.mask_keys.specs.declared.composite_key.Part.{Part}
use Rattle.mask_keys.specs.declared.composite_key.CompositeKey.{CompositeKey}
use Rattle.mask_keys.specs.contracts.outline_key.OutlineKeyClone.TheImpl as outline
use Rattle.mask_keys.specs.contracts.region_key.RegionKeyClone.TheImpl as region
use Rattle.mask_keys.specs.contracts.mask_key.MaskKeyClone.TheImpl as mask
use Rattle.mask_keys.specs.contracts.composite_key.PartClone.TheImpl as part
use Rattle.mask_keys.specs.contracts.composite_key.CompositeKeyClone.TheImpl as composite

pub outline_same : (a b : OutlineKey) → outline.by_variants a b → b ≡ a
outline_same a b c = grind arith

pub region_same : (a b : RegionKey) → (region.is_clone-value).it a b → b ≡ a
region_same a b c = grind (arith, outline_same a.outline b.outline c.0)

pub mask_same : (a b : MaskKey) → (mask.is_clone-value).it a b → b ≡ a
mask_same a b c = grind (arith, outline_same a.outline b.outline c.0)

pub part_same : (a b : Part) → (part.is_clone-value).it a b → b ≡ a
part_same a b c = grind (arith, mask_same a.mask b.mask c.0)

pub composite_same : (a b : CompositeKey) → (composite.is_clone-value).it a b → b ≡ a
composite_same a b c = grind (arith, c.2, c.3, same_from_all_zip _ c.0.items.items c.1.items.items c.4.0 part_same)
