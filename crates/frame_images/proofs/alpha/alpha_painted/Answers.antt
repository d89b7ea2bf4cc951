use Rattle.std.proofs.Common.{◌≡◌, ap}
use Rattle.std.specs.Arc.{arc_value}
use Rattle.local_caches.specs.LocalParts.{LocalCachesView}
use Rattle.frame_images.proofs.alpha.alpha_painted.Goals as goal

pub returns : goal.returns
returns c =
    let in_fonts : c.in_ok-local.local.fonts ≡ (arc_value c.args.fonts).fonts = ap (λ (a : LocalCachesView). a.fonts) c.in_ok-local.ensures in
    rw in_fonts at c.alpha_pixels.ensures.pixels
