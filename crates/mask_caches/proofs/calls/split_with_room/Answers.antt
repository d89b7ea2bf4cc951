use Rattle.mask_caches.proofs.calls.split_with_room.Goals as goal

pub returns : goal.returns
returns g c = record {
  first_is = c.in-Ok.ensures.passes.0;
  new_is = c.in-Ok.ensures.passes.1;
  nothing = c.in-Ok.ensures.empty;
  new_below = c.in-Ok.ensures.below.0;
  first_below = c.in-Ok.ensures.below.1;
}
