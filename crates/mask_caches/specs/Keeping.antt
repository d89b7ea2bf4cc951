-- Public: which composed masks the budget can keep.
use Rattle.std.specs.Prelude.{ℕ, Bool, not, if◌then◌else◌, List, Option, Some, None}
use Rattle.std.specs.List.{position_from}
use Rattle.std.specs.declared.sync.Arc.{Arc}
use Rattle.bdf_font.specs.declared.sets.FontSet.{FontSet}
use Rattle.cache_kinds.specs.Kinds.{composite_meaning}
use Rattle.flight_cache.specs.Budgets.{may_be_kept}
use Rattle.flight_cache.specs.Shards.{Shards}
use Rattle.mask_keys.specs.declared.composite_key.CompositeKey.{CompositeKey}

module _ {Z : Type 0} (fonts : Arc FontSet Z) (budgets : Shards ℕ) where
  -- alone its composed mask and the key cost more than the budget of the key's shard
  abbrev pub is_unkept : CompositeKey → Bool
  is_unkept key = not (may_be_kept (composite_meaning {Z = Z}) budgets key (composite_meaning.made fonts key))

  -- the place of the first such key
  abbrev pub unkept_in : List CompositeKey → Option ℕ
  unkept_in keys = position_from is_unkept 0 keys

-- the first place that can't be kept, once one more is known
abbrev pub unkept_then : Option ℕ → ℕ → Bool → Option ℕ
unkept_then (Some first) place unkept = Some first
unkept_then None place unkept = if unkept then Some place else None
