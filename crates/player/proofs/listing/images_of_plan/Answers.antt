use Rattle.std.proofs.Common.{◌≡◌, ◌<◌, List, [], length, get_or, refl, sym, subst, ◌∙◌}
use Rattle.bdf_font.specs.Fonts.{FontValue}
use Rattle.mask_keys.specs.declared.plans.Draw.{Draw}
use Rattle.mask_keys.specs.Pictures.{image_of_draw}
use Rattle.plain_images.specs.PlainImages.{ArePlainImages}
use Rattle.plain_images.specs.PlainImages as plain
use Rattle.plain_images.specs.declared.plain.PlainImage.{PlainImage}
use Rattle.player.specs.Listing.{AddsDraw}
use Rattle.player.proofs.ListLemmas.{draws_more}
use Rattle.player.proofs.listing.images_of_plan.Goals as goal

pub loop-draw-init : goal.loop-draw-init
loop-draw-init c = record {
  images = subst (λ (z : List PlainImage). ArePlainImages c.args.size.now [] z) (sym c.new-images.ensures.items) plain.None;
  fonts = refl;
  budget = refl;
}

pub loop-draw-preserved : goal.loop-draw-preserved
loop-draw-preserved c =
    let kept = c.loop-draw.invariant in
    let size = c.args.size.now in
    let fonts : List FontValue = c.args.local.now.fonts in
    let draws : List Draw = c.args.plan.now.draws in
    let draw : Draw = c.draw-item.result in
    let below : c.loop-draw.draw-index < length draws = subst (λ (ds : List Draw). c.loop-draw.draw-index < length ds) c.as_slice-draw-items.ensures c.loop-draw-test.true in
    let is : draw ≡ get_or draws c.loop-draw.draw-index draw = subst (λ (ds : List Draw). draw ≡ get_or ds c.loop-draw.draw-index draw) c.as_slice-draw-items.ensures c.draw-item.is in
    let added : AddsDraw size (image_of_draw fonts draw) c.loop-draw.images.items c.add_draw.new.images.items =
    subst (λ (f : List FontValue). AddsDraw size (image_of_draw f draw) c.loop-draw.images.items c.add_draw.new.images.items) kept.fonts c.in_ok-add_draw.ensures.added in
    record {
      images = draws_more size fonts draws c.loop-draw.draw-index draw c.loop-draw.images.items c.add_draw.new.images.items below is kept.images added;
      fonts = c.in_ok-add_draw.ensures.fonts ∙ kept.fonts;
      budget = c.in_ok-add_draw.ensures.budget ∙ kept.budget;
    }
