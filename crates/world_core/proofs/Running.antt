-- What holds of runs of steps, and of what they show.
use Rattle.std.proofs.Common.{◌≡◌, ℕ, ◌<◌, ◌≤◌, List, ◌∷◌, ◌++◌, length, take, Option, Some, None, refl, sym, ap, ◌∙◌, subst, arith}
use Rattle.std.specs.Arc.{arc_value}
use Rattle.std.specs.List.{All}
use Rattle.std.proofs.Math.Seq.{take-append_seam}
use Rattle.std.proofs.lemmas.List.{length-take-le, take-take}
use Rattle.std.proofs.lemmas.List.Elements.{All-take}
use Rattle.ass_events.specs.Histories.{Entry, live}
use Rattle.ass_script.specs.Scripts.{ScriptValue}
use Rattle.bdf_font.specs.Fonts.{FontValue}
use Rattle.frame_view.specs.FrameViews.{plain_frame}
use Rattle.picture_plan.specs.Pictures.{AreDraws}
use Rattle.world_core.specs.Keys.{world_meaning}
use Rattle.world_core.specs.Laws.{KeepsLaws, KeepsLawsFor}
use Rattle.world_core.specs.Records.{BeginsWithLooks}
use Rattle.world_core.specs.Replies.{AreReplies, IsPictureShown, IsShowReply}
use Rattle.world_core.specs.Runs.{IsPictureOfFirst, IsRunOf, ShowPicturesOfFirst}
use Rattle.world_core.specs.States.{LookState, WorldState}
use Rattle.world_core.specs.Steps.{after_steps}
use Rattle.world_core.specs.Tellings.{IsValidStep, TellsWorld, WorldTag}
use Rattle.world_core.specs.declared.steps.Reply.{Reply}
use Rattle.world_core.specs.declared.steps.Reply.TheVariants.{Idle, Shown}
use Rattle.world_core.specs.declared.steps.Step.{Step}
use Rattle.world_core.specs.declared.steps.Step.TheVariants.{Show}
use Rattle.world_core.specs.declared.world.World.{World}
use Rattle.world_core.proofs.Fronts.{looks-kept}
use Rattle.world_core.proofs.Recording.{steps-recorded}
use Rattle.world_core.proofs.Replying.{replies-apart}

module _ (world now : World) (s : WorldState WorldTag) (t : TellsWorld world s) where
  -- a world that made all steps
  pub run-of : (steps : List Step) → All (IsValidStep (arc_value world.fonts).fonts) steps → TellsWorld now (after_steps world_meaning s steps) → ((k : ℕ) → k ≤ length steps → KeepsLawsFor world_meaning s steps k)
      → IsRunOf s steps now
  run-of steps valid tells laws = record {
    state = tells;
    laws = laws;
    recorded = λ limits histories before k within.
        steps-recorded world_meaning (arc_value world.fonts).fonts (take k steps) s limits histories (All-take (IsValidStep (arc_value world.fonts).fonts) k steps valid) t.shards.shards before;
  }

  -- and one that made the first of them
  pub run-of-first : (steps : List Step) → All (IsValidStep (arc_value world.fonts).fonts) steps → (i : ℕ) → i < length steps → TellsWorld now (after_steps world_meaning s (take i steps))
      → ((k : ℕ) → k ≤ i → KeepsLawsFor world_meaning s steps k) → IsRunOf s (take i steps) now
  run-of-first steps valid i below tells laws =
      run-of (take i steps) (All-take (IsValidStep (arc_value world.fonts).fonts) i steps valid) tells
      (λ k within.
      let many : length (take i steps) ≡ i = length-take-le i steps (omega (arith, below)) in
      let least : k ≤ i = omega (arith, within, many) in
      subst (λ (xs : List Step). KeepsLaws world_meaning (after_steps world_meaning s xs).caches) (sym (take-take k i steps least)) (laws k least))

never-idle : (n : ℕ) (pixels : List ℕ) → Shown n pixels ≡ Idle → ⊥
never-idle n pixels e = cc

module _ (script : ScriptValue) (fonts : List FontValue) where
  module _ (s : WorldState WorldTag) (begins : BeginsWithLooks s) (actor n : ℕ) (pixels : List ℕ) where
    -- what the look saw are the first n entries
    first-seen : (look : LookState) → s.looks actor ≡ Some look → n ≡ length look.history → take n s.history ≡ look.history
    first-seen look is seen =
        let front = begins actor look is in
        ap (λ (m : ℕ). take m s.history) seen ∙ (ap (λ (h : List Entry). take (length look.history) h) (sym front.1) ∙ take-append_seam look.history front.0)

    pictured : (look : LookState) → s.looks actor ≡ Some look → IsPictureShown script fonts s.caches actor look n pixels → IsPictureOfFirst script fonts s actor n pixels
    pictured look is shown = record {
      look = look;
      last = is;
      draws = shown.draws;
      are_draws = subst (λ (h : List Entry). AreDraws script fonts (live h) look.instant (plain_frame look.size) shown.draws) (sym (first-seen look is shown.seen_is)) shown.are_draws;
      pixels_are = shown.bytes_are;
    }

    shown-of-first : (o : Option LookState) → s.looks actor ≡ o → IsShowReply script fonts s.caches actor o (Shown n pixels) → IsPictureOfFirst script fonts s actor n pixels
    shown-of-first None is shown = absurd (never-idle n pixels shown)
    shown-of-first (Some look) is shown = pictured look is shown

  pub pictures-of-first : (s : WorldState WorldTag) (steps : List Step) (replies : List Reply) → BeginsWithLooks s → AreReplies script fonts world_meaning s steps replies → ShowPicturesOfFirst script fonts s steps replies
  pictures-of-first s steps replies begins are before later told rest actor n pixels steps_are replies_are same =
      let now = after_steps world_meaning s before in
      let parted : AreReplies script fonts world_meaning s (before ++ Show actor ∷ later) (told ++ Shown n pixels ∷ rest) =
      subst (λ (rs : List Reply). AreReplies script fonts world_meaning s (before ++ Show actor ∷ later) rs) replies_are
      (subst (λ (xs : List Step). AreReplies script fonts world_meaning s xs replies) steps_are are) in
      let parts = replies-apart script fonts before (Show actor ∷ later) s told (Shown n pixels ∷ rest) same parted in
      shown-of-first now (looks-kept world_meaning before s begins) actor n pixels (now.looks actor) refl parts.1.0
