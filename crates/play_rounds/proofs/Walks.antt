-- The images of a round, worker by worker.
use Rattle.std.proofs.Common.{◌≡◌, ℕ, suc, ◌+◌, ◌-◌, ◌*◌, ◌<◌, ◌≤◌, List, [], ◌∷◌, ◌++◌, length, min, refl, sym, ap, subst, ◌∙◌, arith, add-mul, append-nil, append_assoc, length-append, lt_of_not-le}
use Rattle.std.specs.List.{All, flat_map, slice_index_or}
use Rattle.std.proofs.lemmas.List.{get_or-append_right, get_or_append_left}
use Rattle.std.proofs.lemmas.List.Elements.{All-head, All-tail}
use Rattle.std.proofs.lemmas.List.Sums.{sum_by-append}
use mathlib.Core.Logic.{dite}
use native.Mathlib.Decide.{dec_le}
use Rattle.ass_events.specs.Histories.{Entry}
use Rattle.play_shares.specs.Instants.{instant_count}
use Rattle.play_model.specs.Images.{IsShownImage, ShownImage, all_masks, shown_pieces}
use Rattle.play_model.specs.Interleavings.{sum_below}
use Rattle.play_model.specs.Plays.{PlayView}
use Rattle.play_model.proofs.MoreTimes.{shown_stays}
use Rattle.play_workers.specs.Parts.{images_by, painted_bytes}
use Rattle.play_workers.specs.declared.worker.Outcome.{Outcome}
use Rattle.play_workers.specs.declared.worker.Outcome.TheVariants.{Idle, Fed, Shown, OutOfMemory}
use Rattle.play_workers.specs.declared.worker.Role.{Role}
use Rattle.play_workers.specs.declared.worker.Role.TheVariants.{Feeder, Painter, Warmer}
use Rattle.play_workers.specs.declared.worker.Worker.{Worker}
use Rattle.play_rounds.specs.Rounds.{worker_roles}
use Rattle.play_rounds.proofs.WholeRounds.{nobody}
use Rattle.play_rounds.specs.Playing.{AreFirstImages}
use Rattle.play_rounds.proofs.Crews.{ArePaintersFrom, IsNext, next_painter, painter_after}
use Rattle.play_rounds.proofs.Puts.{pieces-append}
use Rattle.play_rounds.proofs.Sums.{from_below}

module _ (play : PlayView) where
  pub images_later : (history more : List Entry) (q count : ℕ) (images : List ShownImage) → AreFirstImages play history q count images → AreFirstImages play (history ++ more) q count images
  images_later history more q count images are = record { many = are.many; each = λ i d lt. shown_stays play history more q i (slice_index_or images i d) (are.each i d lt) }

  pub no_images : (history : List Entry) (q : ℕ) → AreFirstImages play history q 0 []
  no_images history q = record { many = refl; each = λ i d lt. absurd (omega (arith, lt)) }

  pub images_renamed : (history : List Entry) (q n m : ℕ) (images : List ShownImage) → n ≡ m → AreFirstImages play history q n images → AreFirstImages play history q m images
  images_renamed history q n m images same are = subst (λ (k : ℕ). AreFirstImages play history q k images) same are

  images_joined : (history : List Entry) (q n : ℕ) (images next : List ShownImage) → AreFirstImages play history q n images
      → ((i : ℕ) (d : ShownImage) → i < length next → IsShownImage play history q (n + i) (slice_index_or next i d)) → AreFirstImages play history q (n + length next) (images ++ next)
  images_joined history q n images next are more =
      let long : length images ≡ n = are.many in let both = length-append images next in record {
        many = omega (arith, long, both);
        each = λ i d lt. dite (dec_le n i)
            (λ past.
            let here : n + (i - n) ≡ i = omega (arith, past) in
            subst (λ (z : ℕ). IsShownImage play history q z (slice_index_or (images ++ next) i d)) here
            (subst (IsShownImage play history q (n + (i - n))) (sym (get_or-append_right images next n i d long past)) (more (i - n) d (omega (arith, lt, past)))))
            (λ no.
            let before : i < n = lt_of_not-le no in
            subst (IsShownImage play history q i) (sym (get_or_append_left images next d i (omega (arith, before, long)))) (are.each i d before));
      }

  -- Behind some images come more, with these bytes: so many are the first of time q then, and the new ones need no more than so many composed masks.
  abbrev pub AreMoreFirst : List Entry → ℕ → ℕ → ℕ → List (List ℕ) → List ShownImage → Type 0
  AreMoreFirst history q count asked pieces images = (next : List ShownImage) × (shown_pieces next ≡ pieces) × (all_masks next ≤ asked) × AreFirstImages play history q count (images ++ next)

  -- From a place on come so many images more with these bytes, or as many as there are instants. They need no more than so many composed masks.
  abbrev pub AreNext : List Entry → ℕ → ℕ → ℕ → ℕ → List (List ℕ) → Type 0
  AreNext history q each asked place pieces =
      (next : List ShownImage) × (shown_pieces next ≡ pieces) × (all_masks next ≤ asked) × (length next ≡ min (place + each) (instant_count play.job) - place)
      × ((i : ℕ) (d : ShownImage) → i < length next → IsShownImage play history q (place + i) (slice_index_or next i d))

  module _ (history : List Entry) (q base each : ℕ) where
    -- what a worker leaves of images that asked for so many composed masks, where each painter has so many places from `base` on
    abbrev pub HasShown : ℕ → Role → Outcome → Type 0
    HasShown asked (Feeder f) (Fed repeated) = Unit {0}
    HasShown asked (Painter p) (Shown images) = AreNext history q each asked (base + p * each) (painted_bytes images)
    HasShown asked Warmer Idle = Unit {0}
    HasShown asked _ _ = ⊥

    abbrev AreUpTo : ℕ → List ShownImage → Type 0
    AreUpTo p images = AreFirstImages play history q (min (base + p * each) (instant_count play.job)) images

    abbrev AreMore : ℕ → List (List ℕ) → ℕ → List ShownImage → Type 0
    AreMore asked pieces p images = AreMoreFirst history q (min (base + p * each) (instant_count play.job)) asked pieces images

    none_more : (asked p : ℕ) (images : List ShownImage) → AreUpTo p images → AreMore asked [] p images
    none_more asked p images are = ([], refl, omega arith, subst (AreUpTo p) (sym (append-nil images)) are)

    one_shown : (asked : ℕ) (role : Role) (outcome : Outcome) (p : ℕ) (images : List ShownImage) → IsNext p role → HasShown asked role outcome → AreUpTo p images → AreMore asked (images_by outcome) (next_painter p role) images
    one_shown asked (Feeder f) Idle p images next shown are = absurd shown
    one_shown asked (Feeder f) (Fed repeated) p images next shown are = none_more asked p images are
    one_shown asked (Feeder f) (Shown images) p before next shown are = absurd shown
    one_shown asked (Feeder f) OutOfMemory p before next shown are = absurd shown
    one_shown asked (Painter k) Idle p before next shown are = absurd shown
    one_shown asked (Painter k) (Fed repeated) p before next shown are = absurd shown
    one_shown asked (Painter k) (Shown images) p before next shown are =
        let here = subst (λ (m : ℕ). AreNext history q each asked (base + m * each) (painted_bytes images)) next shown in
        let n : ℕ = min (base + p * each) (instant_count play.job) in
        let many = here.3 in
        let row : (p + 1) * each ≡ p * each + each = add-mul p 1 each ∙ omega arith in
        let all = images_joined history q n before here.0 are (λ i d lt.
        let place : (base + p * each) + i ≡ n + i = omega (arith, many, lt) in
        subst (λ (z : ℕ). IsShownImage play history q z (slice_index_or here.0 i d)) place (here.4 i d lt)) in (
          here.0,
          here.1,
          here.2,
          images_renamed history q (n + length here.0) (min (base + (p + 1) * each) (instant_count play.job)) (before ++ here.0) (omega (arith, many, row)) all,
        )
    one_shown asked (Painter k) OutOfMemory p before next shown are = absurd shown
    one_shown asked Warmer Idle p before next shown are = none_more asked p before are
    one_shown asked Warmer (Fed repeated) p before next shown are = absurd shown
    one_shown asked Warmer (Shown images) p before next shown are = absurd shown
    one_shown asked Warmer OutOfMemory p before next shown are = absurd shown

    abbrev pub WorkerHasShown : ℕ → Worker → Type 0
    WorkerHasShown asked w = HasShown asked w.role w.outcome

    pub all_shown : (asked : ℕ → ℕ) (workers : List Worker) (p : ℕ) (images : List ShownImage) → ArePaintersFrom p (worker_roles workers)
        → ((i : ℕ) → i < length workers → WorkerHasShown (asked i) (slice_index_or workers i nobody)) → AreUpTo p images
        → AreMore (sum_below (length workers) asked) (flat_map (λ (w : Worker). images_by w.outcome) workers) (painter_after p (worker_roles workers)) images
    all_shown asked [] p images from all are = none_more 0 p images are
    all_shown asked (w ∷ workers) p images from all are =
        let one = one_shown (asked 0) w.role w.outcome p images from.0 (all 0 (omega arith)) are in
        let rest = all_shown (λ i. asked (suc i)) workers (next_painter p w.role) (images ++ one.0) from.1 (λ i lt. all (suc i) (omega (arith, lt))) one.3 in
        let few = one.2 in let fewer = rest.2 in
        let masks = sum_by-append (λ (image : ShownImage). image.masks) one.0 rest.0 in
        let asks = from_below (length workers) asked in (
          one.0 ++ rest.0,
          pieces-append one.0 rest.0 ∙ (ap (λ (z : List (List ℕ)). z ++ shown_pieces rest.0) one.1 ∙ ap (λ (z : List (List ℕ)). images_by w.outcome ++ z) rest.1),
          omega (arith, few, fewer, masks, asks),
          subst (AreUpTo (painter_after p (worker_roles (w ∷ workers)))) (append_assoc images one.0 rest.0) rest.3,
        )

-- workers that painted nothing have no images
pub none_shown : (workers : List Worker) → All (λ (w : Worker). images_by w.outcome ≡ []) workers → flat_map (λ (w : Worker). images_by w.outcome) workers ≡ []
none_shown [] all = refl
none_shown (w ∷ workers) all =
    ap (λ z. z ++ flat_map (λ (v : Worker). images_by v.outcome) workers) (All-head (λ (v : Worker). images_by v.outcome ≡ []) w workers all)
    ∙ none_shown workers (All-tail (λ (v : Worker). images_by v.outcome ≡ []) w workers all)
