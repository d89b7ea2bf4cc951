-- Public: the passes of the three caches, as one value.
use Rattle.std.specs.declared.sync.Arc.{Arc}
use Rattle.std.specs.declared.alloc.Global.{Global}
use Rattle.bdf_font.specs.declared.sets.FontSet.{FontSet}
use Rattle.mask_caches.specs.Composing.{ThreePasses}
use Rattle.mask_caches.specs.declared.composites.Passes.{Passes}
use Rattle.mask_caches.specs.declared.passes.CachesPass.{CachesPass}

abbrev pub three_of : CachesPass → ThreePasses (Arc FontSet Global)
three_of pass = record { regions = pass.regions; masks = pass.masks; composites = pass.composites }

abbrev pub three : Passes → ThreePasses (Arc FontSet Global)
three passes = record { regions = passes.regions; masks = passes.masks; composites = passes.composites }
