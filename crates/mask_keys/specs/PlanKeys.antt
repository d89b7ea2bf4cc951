-- Public: the keys of plans.
use Rattle.std.specs.Prelude.{List, [], ◌∷◌, flat_map}
use Rattle.mask_keys.specs.declared.composite_key.CompositeKey.{CompositeKey}
use Rattle.mask_keys.specs.declared.plans.Clip.{Clip}
use Rattle.mask_keys.specs.declared.plans.Clip.TheVariants.{Drawn}
use Rattle.mask_keys.specs.declared.plans.Draw.{Draw}

-- the key of a drawn clip
abbrev pub clip_keys : Clip → List CompositeKey
clip_keys (Drawn key x y inverse) = key ∷ []
clip_keys _ = []

-- the key of a draw, and then that of its drawn clip
abbrev pub draw_keys : Draw → List CompositeKey
draw_keys draw = draw.key ∷ clip_keys draw.clip

-- those of all draws, in their order
abbrev pub plan_keys : List Draw → List CompositeKey
plan_keys draws = flat_map draw_keys draws
