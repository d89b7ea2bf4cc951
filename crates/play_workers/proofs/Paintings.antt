-- The images that a painter makes one after another.
use Rattle.std.proofs.Common.{◌≡◌, ℕ, zero, suc, ◌+◌, ◌<◌, ℤ, List, [], ◌∷◌, ◌++◌, length, Ok, Err, Result, true, true≢false, refl, sym, ap, subst, ◌∙◌, arith, length-append}
use Rattle.std.specs.Global.{Vec}
use Rattle.std.specs.List.{slice_index_or}
use Rattle.std.specs.Result.{IfOk, is_ok}
use Rattle.std.proofs.lemmas.List.{map-append}
use Rattle.std.proofs.lemmas.List.Sums.{sum_by-append}
use Rattle.ass_events.specs.Histories.{Entry}
use Rattle.mask_caches.specs.Balance.{AreLater}
use Rattle.renderer.specs.Holding.{HoldsTheSame}
use Rattle.renderer.specs.Passes.{IsPassOfRenderer, RenderView, RendererView}
use Rattle.track_history.specs.Calls.{history_of}
use Rattle.turn_cell.specs.History.{IsPrefix}
use Rattle.turn_cell.specs.Passes.{Follows}
use Rattle.turn_cell.proofs.Histories.{IsPrefix_same, IsPrefix_trans}
use Rattle.turn_cell.proofs.Passes.{Follows_same, Follows_trans}
use Rattle.play_shares.specs.Instants.{play_instant}
use Rattle.play_model.specs.Images.{IsImageOf, ShownImage, needed_by}
use Rattle.play_model.specs.Plays.{PlayView}
use Rattle.play_workers.specs.Asks.{AreImagesAsked, AreImagesInTurn, IsImageAsked, IsNextImage}
use Rattle.play_workers.specs.Parts.{painted_bytes}
use Rattle.play_workers.proofs.Answered.{history-prefix}
use Rattle.play_workers.proofs.Later.{caches_same, caches_then}
use Rattle.play_workers.proofs.Painted.{holds_itself}
use Rattle.mask_caches.proofs.KeysWarmed.{before-then}

-- The pass is one of the renderer and goes on from the other; it gave the track nothing, and holds what that one held.
pub record GoesOn (renderer : RendererView) (pass after : RenderView) : Type 0 where
  pub of : IsPassOfRenderer renderer after
  pub track : Follows pass.track after.track []
  pub later : AreLater pass.caches after.caches
  pub holds : HoldsTheSame renderer pass after

module _ (renderer : RendererView) where
  pub goes_itself : (pass : RenderView) → IsPassOfRenderer renderer pass → GoesOn renderer pass pass
  goes_itself pass of = record { of = of; track = Follows_same pass.track; later = caches_same pass.caches pass.caches refl; holds = holds_itself renderer pass pass refl }

  pub goes_then : (pass mid after : RenderView) → GoesOn renderer pass mid → GoesOn renderer mid after → GoesOn renderer pass after
  goes_then pass mid after one two = record {
    of = two.of;
    track = Follows_trans pass.track mid.track after.track [] [] one.track two.track;
    later = caches_then pass.caches mid.caches after.caches one.later two.later;
    holds = before-then renderer.caches pass.caches mid.caches after.caches one.holds two.holds;
  }

-- The image shows at t a history that goes on from what one pass had seen and that another one has seen.
pub record IsImageBetween (play : PlayView) (pass after : RenderView) (t : ℤ) (image : ShownImage) : Type 0 where
  pub history : List Entry
  pub begins : IsPrefix (history_of pass.track.seen) history
  pub within : IsPrefix history (history_of after.track.seen)
  pub is : IsImageOf play history t image.bytes
  pub masks_are : image.masks ≡ needed_by is

-- ---- images in turn

module _ (play : PlayView) where
  -- an image behind others
  turn_more : (images : List ShownImage) (place : ℕ) (before mid seen : List Entry) (image : ShownImage) → AreImagesInTurn play place before mid images
      → IsNextImage play mid seen (play_instant play.job (place + length images)) image → AreImagesInTurn play place before seen (images ++ image ∷ [])
  turn_more [] place before mid seen image same next =
      let here : place + 0 ≡ place = omega arith in
      let at : IsNextImage play mid seen (play_instant play.job place) image = subst (λ (n : ℕ). IsNextImage play mid seen (play_instant play.job n) image) here next in
      (seen, subst (λ (z : List Entry). IsNextImage play z seen (play_instant play.job place) image) same at, refl)
  turn_more (x ∷ xs) place before mid seen image turn next =
      let here : place + length (x ∷ xs) ≡ (place + 1) + length xs = omega arith in
      (turn.0, turn.1, turn_more xs (place + 1) turn.0 mid seen image turn.2 (subst (λ (n : ℕ). IsNextImage play mid seen (play_instant play.job n) image) here next))

  -- what was seen behind them goes on from what was seen before
  turn_goes_on : (images : List ShownImage) (place : ℕ) (before seen : List Entry) → AreImagesInTurn play place before seen images → IsPrefix before seen
  turn_goes_on [] place before seen same = subst (IsPrefix before) (sym same) (IsPrefix_same before)
  turn_goes_on (x ∷ xs) place before seen turn = IsPrefix_trans before turn.0 seen turn.1.goes_on (turn_goes_on xs (place + 1) turn.0 seen turn.2)

  module _ (pass after : RenderView) where
    -- one of them
    image_in_turn : (images : List ShownImage) (place : ℕ) (before : List Entry) → IsPrefix (history_of pass.track.seen) before → AreImagesInTurn play place before (history_of after.track.seen) images
        → (i : ℕ) (d : ShownImage) → i < length images → IsImageBetween play pass after (play_instant play.job (place + i)) (slice_index_or images i d)
    image_in_turn [] place before begun turn i d lt = absurd (omega (arith, lt))
    image_in_turn (x ∷ xs) place before begun turn zero d lt =
        let here : place ≡ place + 0 = omega arith in
        subst (λ (n : ℕ). IsImageBetween play pass after (play_instant play.job n) x) here record {
          history = turn.0;
          begins = IsPrefix_trans (history_of pass.track.seen) before turn.0 begun turn.1.goes_on;
          within = turn_goes_on xs (place + 1) turn.0 (history_of after.track.seen) turn.2;
          is = turn.1.is;
          masks_are = turn.1.masks_are;
        }
    image_in_turn (x ∷ xs) place before begun turn (suc i) d lt =
        let here : (place + 1) + i ≡ place + suc i = omega arith in
        subst (λ (n : ℕ). IsImageBetween play pass after (play_instant play.job n) (slice_index_or xs i d)) here
        (image_in_turn xs (place + 1) turn.0 (IsPrefix_trans (history_of pass.track.seen) before turn.0 begun turn.1.goes_on) turn.2 i d (omega (arith, lt)))

-- one of a painter's images
pub image_between : (play : PlayView) (renderer : RendererView) (pass after : RenderView) (first count : ℕ) (pieces : List (List ℕ)) (are : AreImagesAsked play renderer pass after first count pieces)
    → (i : ℕ) (d : ShownImage) → i < count → IsImageBetween play pass after (play_instant play.job (first + i)) (slice_index_or are.images i d)
image_between play renderer pass after first count pieces are i d lt =
    let many : length are.images ≡ count = are.many in
    image_in_turn play pass after are.images first (history_of pass.track.seen) (IsPrefix_same (history_of pass.track.seen)) are.in_turn i d (omega (arith, lt, many))

-- ---- images asked for

module _ (play : PlayView) (renderer : RendererView) (pass : RenderView) (first : ℕ) where
  pub none_painted : (images : List (Vec ℕ)) → images ≡ [] → AreImagesAsked play renderer pass pass first 0 (painted_bytes images)
  none_painted images none = subst (λ (z : List (Vec ℕ)). AreImagesAsked play renderer pass pass first 0 (painted_bytes z)) (sym none)
      (record { images = []; pieces_are = refl; many = refl; in_turn = refl; asked = omega arith })

  module _ (mid after : RenderView) (more : GoesOn renderer mid after) where
    -- an image more
    painted_more : (count : ℕ) (images next : List (Vec ℕ)) (image : Vec ℕ) → AreImagesAsked play renderer pass mid first count (painted_bytes images)
        → IsImageAsked play renderer mid after (history_of after.track.seen) (play_instant play.job (first + count)) image.items → next ≡ images ++ image ∷ []
        → AreImagesAsked play renderer pass after first (count + 1) (painted_bytes next)
    painted_more count images next image are is pushed =
        let one : ShownImage = record { bytes = image.items; masks = needed_by is.is } in
        let here : IsNextImage play (history_of mid.track.seen) (history_of after.track.seen) (play_instant play.job (first + count)) one = record {
          goes_on = history-prefix mid.track.seen after.track.seen more.track.seen;
          is = is.is;
          masks_are = refl;
        } in
        let long : length are.images ≡ count = are.many in
        let longer = length-append are.images (one ∷ []) in
        let masks = sum_by-append (λ (z : ShownImage). z.masks) are.images (one ∷ []) in
        let before = are.asked in
        let asked = is.asked in
        let all : painted_bytes next ≡ painted_bytes images ++ image.items ∷ [] = ap painted_bytes pushed ∙ map-append (λ (z : Vec ℕ). z.items) images (image ∷ []) in
        record {
          images = are.images ++ one ∷ [];
          pieces_are = map-append (λ (z : ShownImage). z.bytes) are.images (one ∷ []) ∙ (ap (λ z. z ++ image.items ∷ []) are.pieces_are ∙ sym all);
          many = omega (arith, long, longer);
          in_turn = turn_more play are.images first (history_of pass.track.seen) (history_of mid.track.seen) (history_of after.track.seen) one are.in_turn
              (subst (λ (n : ℕ). IsNextImage play (history_of mid.track.seen) (history_of after.track.seen) (play_instant play.job (first + n)) one) (sym long) here);
          asked = omega (arith, masks, before, asked);
        }

    -- an image more, if it was made
    pub painted_with : {E : Type 0} (count : ℕ) (images next : List (Vec ℕ)) (image : Result (Vec ℕ) E) → AreImagesAsked play renderer pass mid first count (painted_bytes images)
        → IfOk image (λ made. IsImageAsked play renderer mid after (history_of after.track.seen) (play_instant play.job (first + count)) made.items) → is_ok image ≡ true
        → IfOk image (λ made. next ≡ images ++ made ∷ []) → AreImagesAsked play renderer pass after first (count + 1) (painted_bytes next)
    painted_with count images next (Ok made) are asked ok pushed = painted_more count images next made are asked pushed
    painted_with count images next (Err refused) are asked ok pushed = absurd (true≢false (sym ok))
