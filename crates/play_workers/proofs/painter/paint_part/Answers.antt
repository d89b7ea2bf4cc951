use Rattle.std.proofs.Common.{[], ◌≡◌, ◌+◌, ◌-◌, ◌<◌, ◌≤◌, ℕ, ap, arith, subst, ◌∙◌}
use Rattle.std.specs.Result.{IfOk}
use Rattle.play_shares.specs.Instants.{instant_count, play_instant}
use Rattle.play_shares.specs.Renderers.{images_in, share_begins, share_ends}
use Rattle.play_shares.proofs.RoundPlaces.{inside_all}
use Rattle.track_history.specs.Calls.{history_of}
use Rattle.turn_cell.proofs.Passes.{Follows_trans}
use Rattle.play_workers.specs.Asks.{AreImagesAsked, IsImageAsked}
use Rattle.play_workers.specs.Parts.{painted_bytes}
use Rattle.play_workers.specs.Stages.{play_on}
use Rattle.play_workers.proofs.Later.{caches_then}
use Rattle.play_workers.proofs.Paintings.{GoesOn, goes_itself, goes_then, none_painted, painted_with}
use Rattle.play_workers.proofs.painter.paint_part.Goals as goal

pub loop-place-init : goal.loop-place-init
loop-place-init g c =
    let stage = c.args.stage.now in let first = c.share_begins-first.result in
    let same = goes_itself stage.renderer c.args.pass c.requires.pass in
    let none : 0 ≡ first - first = omega arith in
    record {
      of = c.requires.pass;
      track = same.track;
      later = same.later;
      holds = same.holds;
      last = omega arith;
      images = subst (λ (n : ℕ). AreImagesAsked (play_on stage) stage.renderer c.args.pass c.args.pass first n (painted_bytes c.new-images.result)) none
          (none_painted (play_on stage) stage.renderer c.args.pass first c.new-images.result c.new-images.ensures);
    }

pub image_at-next-requires-clause-place : goal.image_at-next-requires-clause-place
image_at-next-requires-clause-place g c = λ κs h.
    let job = c.args.stage.now.job in
    inside_all c.loop-place.place (share_begins job c.args.round c.args.painter + images_in job c.args.round) (instant_count job) c.share_ends-end.result c.loop-place-test.true c.share_ends-end.ensures

pub loop-place-preserved : goal.loop-place-preserved
loop-place-preserved g c =
    let stage = c.args.stage.now in let play = play_on stage in
    let kept = c.loop-place.invariant in let e = c.image_at-next.ensures in
    let first = c.share_begins-first.result in let place = c.loop-place.place in
    let before = c.loop-place.pass in let after = c.image_at-next.result.0 in
    let from : first ≤ place = c.loop-place.auto.place in
    let inside : place < c.share_ends-end.result = c.loop-place-test.true in
    let so_far : GoesOn stage.renderer c.args.pass before = record { of = kept.of; track = kept.track; later = kept.later; holds = kept.holds } in
    let one : GoesOn stage.renderer before after = record { of = e.pass; track = e.track; later = e.later; holds = e.holds } in
    let all = goes_then stage.renderer c.args.pass before after so_far one in
    let here : place ≡ first + (place - first) = omega (arith, from) in
    let asked = subst (λ (n : ℕ). IfOk c.image_at-next.result.1 (λ made. IsImageAsked play stage.renderer before after (history_of after.track.seen) (play_instant stage.job n) made.items)) here e.image in
    let more : place - first + 1 ≡ place + 1 - first = omega (arith, from) in
    let adds = c.add_image-added.ensures in
    record {
      of = e.pass;
      track = all.track;
      later = all.later;
      holds = all.holds;
      last = omega (arith, inside);
      images = subst (λ (n : ℕ). AreImagesAsked play stage.renderer c.args.pass after first n (painted_bytes c.add_image-added.new.images)) more
          (painted_with play stage.renderer c.args.pass first before after one (place - first) c.loop-place.images c.add_image-added.new.images c.image_at-next.result.1 kept.images asked
          (rw c.in_default.is at adds.made) (rw c.in_default.is at adds.added));
    }

pub returns-in-Err-clause-track : goal.returns-in-Err-clause-track
returns-in-Err-clause-track g c =
    Follows_trans c.args.pass.track c.loop-place.pass.track c.image_at-next.result.0.track [] [] c.loop-place.invariant.track c.image_at-next.ensures.track

pub returns-in-Err-clause-later : goal.returns-in-Err-clause-later
returns-in-Err-clause-later g c =
    caches_then c.args.pass.caches c.loop-place.pass.caches c.image_at-next.result.0.caches c.loop-place.invariant.later c.image_at-next.ensures.later

pub returns-in-Err-clause-holds : goal.returns-in-Err-clause-holds
returns-in-Err-clause-holds g c =
    let kept = c.loop-place.invariant in let e = c.image_at-next.ensures in
    let so_far : GoesOn c.args.stage.now.renderer c.args.pass c.loop-place.pass = record { of = kept.of; track = kept.track; later = kept.later; holds = kept.holds } in
    let one : GoesOn c.args.stage.now.renderer c.loop-place.pass c.image_at-next.result.0 = record { of = e.pass; track = e.track; later = e.later; holds = e.holds } in
    (goes_then c.args.stage.now.renderer c.args.pass c.loop-place.pass c.image_at-next.result.0 so_far one).holds

pub returns-clause-images : goal.returns-clause-images
returns-clause-images g c =
    let stage = c.args.stage.now in
    let kept = c.loop-place.invariant in
    let first = c.share_begins-first.result in let end = c.share_ends-end.result in
    let past : end ≤ c.loop-place.place = (let no = c.loop-place-test.false in omega (arith, no)) in
    let last : c.loop-place.place - first ≤ end - first = kept.last in
    let all : c.loop-place.place - first ≡ end - first = omega (arith, past, last) in
    subst (λ (m : ℕ). AreImagesAsked (play_on stage) stage.renderer c.args.pass c.loop-place.pass m (share_ends stage.job c.args.round c.args.painter - m) (painted_bytes c.loop-place.images))
    c.share_begins-first.ensures.begins
    (subst (λ (n : ℕ). AreImagesAsked (play_on stage) stage.renderer c.args.pass c.loop-place.pass first n (painted_bytes c.loop-place.images))
    (all ∙ ap (λ (n : ℕ). n - first) c.share_ends-end.ensures) kept.images)
