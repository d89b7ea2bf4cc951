-- Public: the keys that are to be warmed.
use Rattle.std.specs.Prelude.{◌≡◌, ℕ, ◌-◌, ◌≤◌, List, length, take, drop, min}
use Rattle.mask_keys.specs.Equality.{equal_composites}
use Rattle.mask_keys.specs.declared.composite_key.CompositeKey.{CompositeKey}
use Rattle.mask_caches.specs.Firsts.{firsts}

-- the keys, and how many of them were warmed
pub record AheadView : Type 0 where
  pub keys : List CompositeKey
  pub place : ℕ

-- no key stands twice, and the place is one of theirs or their end
pub record IsAhead (ahead : AheadView) : Type 0 where
  pub distinct : firsts equal_composites ahead.keys ≡ ahead.keys
  pub within : ahead.place ≤ length ahead.keys

-- how many of the keys a call warms that is to warm at most so many
abbrev pub next_count : ℕ → AheadView → ℕ
next_count most ahead = min most (length ahead.keys - ahead.place)

-- these keys, in their order
abbrev pub next_keys : ℕ → AheadView → List CompositeKey
next_keys most ahead = take (next_count most ahead) (drop ahead.place ahead.keys)
