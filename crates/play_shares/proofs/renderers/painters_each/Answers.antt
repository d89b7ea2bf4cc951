use Rattle.std.proofs.Common.{ap, ◌∙◌}
use Rattle.play_shares.specs.Renderers.{images_that_fit}
use Rattle.play_shares.proofs.RoundPlaces.{fitting_more, some_of}
use Rattle.play_shares.proofs.renderers.painters_each.Goals as goal

pub returns-else-play-gt0-clause-some : goal.returns-else-play-gt0-clause-some
returns-else-play-gt0-clause-some c =
    some_of c.images_that_fit-images.result c.images_that_fit.result c.images_that_fit.ensures.some
    (fitting_more c.args.play.now c.requires c.images_that_fit.result c.images_that_fit-images.result (c.images_that_fit.ensures.fit ∙ ap (λ n. images_that_fit n c.args.play.now.size) c.share_pixels.ensures) c.images_that_fit-images.ensures.fit)
