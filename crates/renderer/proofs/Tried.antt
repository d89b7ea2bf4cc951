-- What a call that tries for a frame gives.
use Rattle.std.proofs.Common.{◌≡◌, ℤ, ◌+◌, List, [], ◌∷◌, length, map, None, Result, Ok, Err, IsErrAnd, MatchResult, inl, inr, refl, sym, ap, ◌∙◌, subst, arith}
use Rattle.std.specs.Arc.{arc_value}
use Rattle.std.proofs.lemmas.List.{length-map}
use Rattle.ass_events.specs.Histories.{live}
use Rattle.ass_events.specs.declared.event.Event.{Event}
use Rattle.ass_num.specs.Masks.{MaskValue}
use Rattle.ass_num.specs.declared.size.Size.{Size}
use Rattle.bdf_font.specs.declared.sets.FontSet.{FontSet}
use Rattle.cache_kinds.specs.Kinds.{composite_meaning, mask_meaning, region_meaning}
use Rattle.flight_cache.specs.Calls.{PinView}
use Rattle.flight_cache.specs.Pinning.{GivesNothing, IsRefused}
use Rattle.flight_cache.specs.declared.pinning.PinRefusal.{PinRefusal}
use Rattle.flight_cache.specs.declared.pinning.PinRefusal.TheVariants as refused
use Rattle.mask_keys.specs.Equality.{equal_composites, equal_masks, equal_regions}
use Rattle.mask_keys.specs.declared.composite_key.CompositeKey.{CompositeKey}
use Rattle.mask_keys.specs.declared.plans.Draw.{Draw}
use Rattle.mask_keys.specs.Pictures.{image_of_draw}
use Rattle.mask_keys.specs.Values.{composite_value}
use Rattle.mask_caches.specs.Adding.{HoldsMore}
use Rattle.mask_caches.specs.Caches.{HoldsAsBefore, IsPassOf}
use Rattle.mask_caches.specs.Holding.{pinned_keys}
use Rattle.mask_caches.specs.Leases.{lease_value}
use Rattle.mask_caches.specs.Pinning.{ArePinned}
use Rattle.mask_caches.specs.declared.caches.Caches.{Caches}
use Rattle.mask_caches.specs.declared.lease.Lease.TheVariants.{Pinned}
use Rattle.mask_caches.specs.declared.passes.CachesPass.{CachesPass}
use Rattle.mask_caches.proofs.Holding.{much-itself}
use Rattle.mask_caches.proofs.Pinned.{nothing-much}
use Rattle.frame_view.specs.FrameViews.{plain_frame}
use Rattle.picture_plan.specs.Pictures.{AreDraws}
use Rattle.turn_cell.specs.Passes.{Follows, IsOf}
use Rattle.turn_cell.proofs.Passes.{Follows_same, Follows_tries, IsOf-Follows}
use Rattle.track_history.specs.Answers.{IsSceneOf}
use Rattle.track_history.specs.Calls.{IsTriedLook, IsTurn, TrackView, history_of}
use Rattle.track_history.specs.declared.answers.LookRefusal.{LookRefusal}
use Rattle.track_history.specs.declared.answers.LookRefusal.TheVariants as look
use Rattle.track_history.specs.declared.answers.TrackEntry.{TrackEntry}
use Rattle.track_history.specs.declared.scene.Scene.{Scene}
use Rattle.track_history.proofs.LawLemmas.{turn_follows}
use Rattle.renderer.specs.ShownFrames.{FrameImage, MaskLease, image_shown, leases_of}
use Rattle.renderer.specs.declared.frames.Frame.{Frame}
use Rattle.mask_keys.specs.PlanKeys.{plan_keys}
use Rattle.renderer.specs.Frames.{IsFrameOf, frame_with}
use Rattle.renderer.specs.Holding.{HoldsFrameMore, HoldsLeasesMore, HoldsTheSame, AreHome}
use Rattle.renderer.specs.OneHistory.{ShowsOneHistory}
use Rattle.renderer.specs.Passes.{IsPassOfRenderer, RendererView}
use Rattle.renderer.specs.declared.trying.TryRefusal.{TryRefusal}
use Rattle.renderer.specs.Trying.{AddsNothing, AreDrawsPinned, AreImagesRefused, AreImagesTried, AreImagesWanting, IsTried, IsTriedFrame, LeavesOthers, look_refusal, pin_refusal}
use Rattle.renderer.proofs.Framed.{IsFrameGiven}
use Rattle.renderer.proofs.Pictures.{frame-history}
use Rattle.renderer.proofs.Together.{pass_of}
use Rattle.mask_caches.proofs.Homes.{pinned-leases-home}

-- ---- leases that are pins

abbrev leases_by : List (PinView CompositeKey MaskValue) → List MaskLease
leases_by pins = map Pinned pins

values-of-pins : (pins : List (PinView CompositeKey MaskValue)) → map lease_value (leases_by pins) ≡ map (λ p. p.value) pins
values-of-pins [] = refl
values-of-pins (p ∷ pins) = ap (λ (l : List MaskValue). p.value ∷ l) (values-of-pins pins)

keys-of-pins : (pins : List (PinView CompositeKey MaskValue)) → pinned_keys (leases_by pins) ≡ map (λ p. p.key) pins
keys-of-pins [] = refl
keys-of-pins (p ∷ pins) = ap (λ (l : List CompositeKey). p.key ∷ l) (keys-of-pins pins)

module _ (caches : Caches) (old new : CachesPass) (keys : List CompositeKey) (leases : List MaskLease) (h : ArePinned equal_composites composite_meaning caches.composites old.composites keys new.composites leases) where
  pub pinned-many : length leases ≡ length keys
  pinned-many =
      ap length h.are
      ∙ (length-map h.pins (λ (p : PinView CompositeKey MaskValue). let l : MaskLease = Pinned p in l)
      ∙ (sym (length-map h.pins (λ (p : PinView CompositeKey MaskValue). p.key)) ∙ ap length h.pinned.keys_are))

  pub pinned-values : (fonts : FontSet) → arc_value caches.composites.tag ≡ fonts → map lease_value leases ≡ map (composite_value fonts.fonts) keys
  pinned-values fonts same =
      ap (map lease_value) h.are
      ∙ (values-of-pins h.pins ∙ (h.pinned.values_are ∙ ap (λ (s : FontSet). map (composite_value s.fonts) keys) same))

  pub pinned-holds : LeavesOthers old new → HoldsLeasesMore caches old new leases
  pinned-holds others = record {
    composites = subst (λ (l : List CompositeKey). HoldsMore equal_composites composite_meaning caches.composites old.composites new.composites l)
        (sym (ap pinned_keys h.are ∙ (keys-of-pins h.pins ∙ h.pinned.keys_are))) h.holds;
    masks = rw others.masks (much-itself equal_masks mask_meaning caches.masks old.masks);
    regions = rw others.regions (much-itself equal_regions region_meaning caches.regions old.regions);
  }

-- pins that were had all at once are of their cache
pub images-home : (renderer : RendererView) (old new : CachesPass) (images : List FrameImage) (events : List Event) (t : ℤ) (size : Size) → AreDrawsPinned renderer old new events t size images → AreHome renderer.caches (leases_of images)
images-home renderer old new images events t size had = pinned-leases-home equal_composites composite_meaning renderer.caches.composites old.composites (plan_keys had.draws) new.composites (leases_of images) had.pinned

-- ---- nothing added

pub nothing-itself : (renderer : RendererView) (p : CachesPass) → IsPassOf renderer.caches p → AddsNothing renderer p p
nothing-itself renderer p of = record {
  of = of;
  nothing = record { first = Follows_same p.composites.first; second = Follows_same p.composites.second; third = Follows_same p.composites.third; fourth = Follows_same p.composites.fourth };
  others = record { masks = refl; regions = refl };
}

pub nothing-holds : (renderer : RendererView) (old new : CachesPass) → AddsNothing renderer old new → HoldsAsBefore renderer.caches old new
nothing-holds renderer old new h = record {
  regions = rw h.others.regions (much-itself equal_regions region_meaning renderer.caches.regions old.regions);
  masks = rw h.others.masks (much-itself equal_masks mask_meaning renderer.caches.masks old.masks);
  composites = nothing-much equal_composites composite_meaning renderer.caches.composites old.composites new.composites h.nothing;
}

-- memory ran out before any turn of a shard
pub wanting-itself : (renderer : RendererView) (p : CachesPass) (events : List Event) (t : ℤ) (size : Size) → IsPassOf renderer.caches p → AreImagesWanting renderer p p events t size
wanting-itself renderer p events t size of = record { nothing = nothing-itself renderer p of; cause = inl refl }

-- ---- images

module _ (renderer : RendererView) (old new : CachesPass) (events : List Event) (t : ℤ) (size : Size) where
  module _ (draws : List Draw) (are : AreDraws renderer.script renderer.fonts events t (plain_frame size) draws) (of : IsPassOf renderer.caches new) (masks : new.masks ≡ old.masks) (regions : new.regions ≡ old.regions) where
    pub pinned-images : (images : List FrameImage) (leases : List MaskLease) → leases_of images ≡ leases
        → ArePinned equal_composites composite_meaning renderer.caches.composites old.composites (plan_keys draws) new.composites leases
        → map image_shown images ≡ map (image_of_draw renderer.fonts) draws → AreDrawsPinned renderer old new events t size images
    pinned-images images leases same pinned shown = record {
      draws = draws;
      are_draws = are;
      shown = shown;
      of = of;
      pinned = subst (λ (l : List MaskLease). ArePinned equal_composites composite_meaning renderer.caches.composites old.composites (plan_keys draws) new.composites l) (sym same) pinned;
      others = record { masks = masks; regions = regions };
    }

    pub refused-images : (refusal : PinRefusal) → IsRefused equal_composites composite_meaning renderer.caches.composites old.composites (plan_keys draws) new.composites refusal → GivesNothing old.composites new.composites
        → AreImagesRefused renderer old new events t size refusal
    refused-images refused.TurnOut is nothing = record { draws = draws; are_draws = are; refused = is; nothing = record { of = of; nothing = nothing; others = record { masks = masks; regions = regions } } }
    refused-images (refused.NotReady place) is nothing = record { draws = draws; are_draws = are; refused = is; nothing = record { of = of; nothing = nothing; others = record { masks = masks; regions = regions } } }
    refused-images (refused.Making place) is nothing = record { draws = draws; are_draws = are; refused = is; nothing = record { of = of; nothing = nothing; others = record { masks = masks; regions = regions } } }
    refused-images (refused.PinsFull place) is nothing = record { draws = draws; are_draws = are; refused = is; nothing = record { of = of; nothing = nothing; others = record { masks = masks; regions = regions } } }
    refused-images refused.OutOfMemory is nothing =
        let added : AddsNothing renderer old new = record { of = of; nothing = nothing; others = record { masks = masks; regions = regions } } in
        record { nothing = added; cause = inr (record { draws = draws; are_draws = are; refused = is; nothing = added }) }

  refused-nothing : (refusal : PinRefusal) → AreImagesRefused renderer old new events t size refusal → AddsNothing renderer old new
  refused-nothing refused.TurnOut h = h.nothing
  refused-nothing (refused.NotReady place) h = h.nothing
  refused-nothing (refused.Making place) h = h.nothing
  refused-nothing (refused.PinsFull place) h = h.nothing
  refused-nothing refused.OutOfMemory h = h.nothing

-- ---- passes

-- what a try for a look follows with, whatever it came to
look-gives : (track later : TrackView) (t : ℤ) (tried : Result Scene LookRefusal) → IsTriedLook track t later tried → (given : List TrackEntry) × Follows track later given
look-gives track later t (Ok scene) h = let gives = turn_follows track later None h.0 in (gives.0, gives.2)
look-gives track later t (Err look.TurnOut) h = ([], Follows_tries track later (track.lost + 1) (omega arith) h)
look-gives track later t (Err look.OutOfMemory) h = let gives = turn_follows track later None h in (gives.0, gives.2)

-- ---- frames

module _ (renderer : RendererView) (track later : TrackView) (old new : CachesPass) (t : ℤ) (size : Size) (of : IsPassOfRenderer renderer (pass_of track old)) where
  -- what a call that has this frame makes of a pass
  pub record IsFrameTried (frame : Frame) : Type 0 where
    pub pass : IsPassOfRenderer renderer (pass_of later new)
    pub history : ShowsOneHistory renderer (pass_of track old) (pass_of later new) t size frame
    pub tried : IsTriedFrame renderer (pass_of track old) (pass_of later new) t size frame
    pub holds : HoldsFrameMore renderer (pass_of track old) (pass_of later new) frame

  later-of : (given : List TrackEntry) → Follows track later given → IsOf renderer.track later
  later-of given f = IsOf-Follows renderer.track track later given of.track f

  pub frame-tried : (scene : Scene) (images : List FrameImage) → IsTurn track later None → IsSceneOf (history_of later.seen) t scene → AreDrawsPinned renderer old new (live (history_of later.seen)) t size images
      → IsFrameTried (record { n = scene.n; t = t; size = size; images = images })
  frame-tried scene images turn shown had =
      let frame : Frame = record { n = scene.n; t = t; size = size; images = images } in
      let is : IsFrameOf renderer.script renderer.fonts (history_of later.seen) t size frame =
      record { n = shown.n; instant = refl; size_is = refl; draws = had.draws; are_draws = had.are_draws; images = had.shown } in
      let gives = turn_follows track later None turn in
      record {
        pass = record { track = later-of gives.0 gives.2; caches = had.of };
        history = frame-history renderer (pass_of track old) (pass_of later new) t size frame turn is;
        tried = record { turn = turn; is_frame = is; pinned = had.pinned; others = had.others };
        holds = pinned-holds renderer.caches old new (plan_keys had.draws) (leases_of images) had.pinned had.others;
      }

  -- what a call that is refused makes of it
  pub record IsTryRefused (refusal : TryRefusal) : Type 0 where
    pub pass : IsPassOfRenderer renderer (pass_of later new)
    pub tried : IsTried renderer (pass_of track old) (pass_of later new) t size (Err refusal)
    pub holds : HoldsTheSame renderer (pass_of track old) (pass_of later new)

  pins-tried : (refusal : PinRefusal) → IsTurn track later None → AreImagesRefused renderer old new (live (history_of later.seen)) t size refusal → IsTried renderer (pass_of track old) (pass_of later new) t size (Err (pin_refusal refusal))
  pins-tried refused.TurnOut turn h = record { turn = turn; refused = h }
  pins-tried (refused.NotReady place) turn h = record { turn = turn; refused = h }
  pins-tried (refused.Making place) turn h = record { turn = turn; refused = h }
  pins-tried (refused.PinsFull place) turn h = record { turn = turn; refused = h }
  pins-tried refused.OutOfMemory turn h = record { turn = turn; nothing = h.nothing; cause = h.cause }

  pub pins-refused : (refusal : PinRefusal) → IsTurn track later None → AreImagesRefused renderer old new (live (history_of later.seen)) t size refusal → IsTryRefused (pin_refusal refusal)
  pins-refused refusal turn h =
      let gives = turn_follows track later None turn in
      let nothing = refused-nothing renderer old new (live (history_of later.seen)) t size refusal h in
      record {
        pass = record { track = later-of gives.0 gives.2; caches = nothing.of };
        tried = pins-tried refusal turn h;
        holds = nothing-holds renderer old new nothing;
      }

  -- by what was had of the images
  pub given-tried : (scene : Scene) (images : Result (List FrameImage) PinRefusal) (told : Result (List FrameImage) TryRefusal) → IsTurn track later None → IsSceneOf (history_of later.seen) t scene
      → AreImagesTried renderer old new (live (history_of later.seen)) t size images → MatchResult images (λ x. told ≡ Ok x) (λ refusal. IsErrAnd told (λ r. r ≡ pin_refusal refusal))
      → IsFrameGiven renderer (pass_of track old) (pass_of later new) t size (IsTried renderer (pass_of track old) (pass_of later new) t size) (frame_with scene size told)
  given-tried scene (Ok images) told turn shown had is =
      let f = subst (λ (s : ℤ). IsFrameTried (record { n = scene.n; t = s; size = size; images = images })) (sym shown.instant) (frame-tried scene images turn shown had) in
      rw is (record { of = f.pass; history = f.history; came = f.tried; holds = f.holds; home = images-home renderer old new images (live (history_of later.seen)) t size had })
  given-tried scene (Err refusal) (Ok images) turn shown had is = absurd is
  given-tried scene (Err refusal) (Err why) turn shown had is =
      let f = pins-refused refusal turn had in
      rw is (record { of = f.pass; history = tt; came = f.tried; holds = f.holds; home = tt })

module _ (renderer : RendererView) (track later : TrackView) (caches : CachesPass) (t : ℤ) (size : Size) (of : IsPassOfRenderer renderer (pass_of track caches)) where
  look-tried : (refusal : LookRefusal) → IsTriedLook track t later (Err refusal) → IsTried renderer (pass_of track caches) (pass_of later caches) t size (Err (look_refusal refusal))
  look-tried look.TurnOut h = record { track = h; caches = refl }
  look-tried look.OutOfMemory h = record { turn = h; nothing = nothing-itself renderer caches of.caches; cause = inl refl }

  pub look-refused : (refusal : LookRefusal) → IsTriedLook track t later (Err refusal) → IsTryRefused renderer track later caches caches t size of (look_refusal refusal)
  look-refused refusal h =
      let gives = look-gives track later t (Err refusal) h in
      record {
        pass = record { track = IsOf-Follows renderer.track track later gives.0 of.track gives.1; caches = of.caches };
        tried = look-tried refusal h;
        holds = nothing-holds renderer caches caches (nothing-itself renderer caches of.caches);
      }
