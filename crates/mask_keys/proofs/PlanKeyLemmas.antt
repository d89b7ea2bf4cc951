-- The keys of plans, draw by draw.
use Rattle.std.proofs.Common.{◌≡◌, ℕ, ◌+◌, ◌<◌, List, [], ◌∷◌, ◌++◌, length, map, take, drop, get_or, All, sym, ap, ◌∙◌, append-nil}
use Rattle.std.proofs.lemmas.Grind.{flat_map-append}
use Rattle.std.proofs.lemmas.List.{take-append-drop, take_more}
use Rattle.std.proofs.lemmas.List.Elements.{All-append, All-cons, All-head, All-nil, All-tail}
use Rattle.mask_keys.specs.Keys.{IsValidClip, IsValidComposite, IsValidDraw, IsValidPlan}
use Rattle.mask_keys.specs.PlanKeys.{clip_keys, draw_keys, plan_keys}
use Rattle.mask_keys.specs.declared.composite_key.CompositeKey.{CompositeKey}
use Rattle.mask_keys.specs.declared.plans.Clip.{Clip}
use Rattle.mask_keys.specs.declared.plans.Clip.TheVariants.{Drawn, Free, Rect}
use Rattle.mask_keys.specs.declared.plans.Draw.{Draw}

-- the keys of one draw more
pub plan_keys-more : (draws : List Draw) (i : ℕ) (draw : Draw) → i < length draws → draw ≡ get_or draws i draw → plan_keys (take (i + 1) draws) ≡ plan_keys (take i draws) ++ draw_keys draw
plan_keys-more draws i draw below is =
    ap plan_keys (take_more draws i draw below)
    ∙ (flat_map-append draw_keys (take i draws) (get_or draws i draw ∷ [])
    ∙ (ap (λ (l : List CompositeKey). plan_keys (take i draws) ++ l) (append-nil (draw_keys (get_or draws i draw)))
    ∙ ap (λ (d : Draw). plan_keys (take i draws) ++ draw_keys d) (sym is)))

pub plan_keys-cut : (draws : List Draw) (i : ℕ) → plan_keys draws ≡ plan_keys (take i draws) ++ plan_keys (drop i draws)
plan_keys-cut draws i = ap plan_keys (sym (take-append-drop i draws)) ∙ flat_map-append draw_keys (take i draws) (drop i draws)

-- the keys of a valid plan are valid
module _ (glyphs : List ℕ) where
  clip-valid : (clip : Clip) → IsValidClip glyphs clip → All (IsValidComposite glyphs) (clip_keys clip)
  clip-valid Free valid = All-nil (IsValidComposite glyphs)
  clip-valid (Rect x1 y1 x2 y2 inverse) valid = All-nil (IsValidComposite glyphs)
  clip-valid (Drawn key x y inverse) valid = All-cons (IsValidComposite glyphs) key [] valid (All-nil (IsValidComposite glyphs))

  pub plan_keys-valid : (draws : List Draw) → IsValidPlan glyphs draws → All (IsValidComposite glyphs) (plan_keys draws)
  plan_keys-valid [] valid = All-nil (IsValidComposite glyphs)
  plan_keys-valid (draw ∷ draws) valid =
      let here = All-head (IsValidDraw glyphs) draw draws valid in
      All-append (IsValidComposite glyphs) (draw_keys draw) (plan_keys draws) (All-cons (IsValidComposite glyphs) draw.key (clip_keys draw.clip) here.key (clip-valid draw.clip here.clip)) (plan_keys-valid draws (All-tail (IsValidDraw glyphs) draw draws valid))

-- the keys before a draw, and then its own
module _ {K : Type 0} (now : K → CompositeKey) where
  pub keys-before : (draws : List Draw) (i : ℕ) (draw : Draw) (before after : List K) → i < length draws → draw ≡ get_or draws i draw → map now before ≡ plan_keys (take i draws)
      → map now after ≡ map now before ++ draw_keys draw → map now after ≡ plan_keys (take (i + 1) draws)
  keys-before draws i draw before after below is had more = more ∙ (ap (λ (l : List CompositeKey). l ++ draw_keys draw) had ∙ sym (plan_keys-more draws i draw below is))
