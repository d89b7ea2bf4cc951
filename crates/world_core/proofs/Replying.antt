-- Steps, one more at each turn of a loop.
use Rattle.std.proofs.Common.{◌≡◌, ℕ, ◌+◌, ◌<◌, ◌≤◌, List, [], ◌∷◌, ◌++◌, length, get_or, take, Ok, inl, inr, sym, ap, ◌∙◌, subst, arith}
use Rattle.std.specs.Arc.{arc_value}
use Rattle.std.specs.List.{All}
use Rattle.std.specs.declared.alloc.Global.{Global}
use Rattle.std.specs.declared.sync.Arc.{Arc}
use Rattle.std.proofs.lemmas.Bool.{cases_eq}
use Rattle.std.proofs.lemmas.List.{take_more}
use Rattle.std.proofs.lemmas.List.Elements.{All-get_or}
use Rattle.std.proofs.lemmas.List.Sums.{fold_more}
use Rattle.ass_script.specs.Scripts.{ScriptValue}
use Rattle.bdf_font.specs.Fonts.{FontValue}
use Rattle.world_core.specs.Keys.{world_meaning}
use Rattle.world_core.specs.Laws.{KeepsLaws, KeepsLawsFor}
use Rattle.world_core.specs.Made.{IsMade}
use Rattle.world_core.specs.Replies.{AreReplies, IsReply}
use Rattle.world_core.specs.States.{WorldState}
use Rattle.world_core.specs.Steps.{after_step, after_steps}
use Rattle.world_core.specs.Tellings.{IsValidStep, TellsWorld, WorldTag}
use Rattle.world_core.specs.declared.steps.Reply.{Reply}
use Rattle.world_core.specs.declared.steps.Step.{Step}
use Rattle.world_core.specs.declared.world.World.{World}

module _ (script : ScriptValue) (fonts : List FontValue) where
  replies-push : (s : WorldState WorldTag) (xs : List Step) (rs : List Reply) (x : Step) (r : Reply) → AreReplies script fonts world_meaning s xs rs
      → IsReply script fonts (after_steps world_meaning s xs) x r → AreReplies script fonts world_meaning s (xs ++ x ∷ []) (rs ++ r ∷ [])
  replies-push s [] [] x r are is = (is, tt)
  replies-push s [] (q ∷ qs) x r are is = absurd are
  replies-push s (y ∷ ys) [] x r are is = absurd are
  replies-push s (y ∷ ys) (q ∷ qs) x r are is = (are.0, replies-push (after_step world_meaning s y) ys qs x r are.1 is)

  -- the replies to a prefix of the steps, and those to the rest
  pub replies-apart : (xs ys : List Step) (s : WorldState WorldTag) (told rest : List Reply) → length told ≡ length xs → AreReplies script fonts world_meaning s (xs ++ ys) (told ++ rest)
      → AreReplies script fonts world_meaning s xs told × AreReplies script fonts world_meaning (after_steps world_meaning s xs) ys rest
  replies-apart [] ys s [] rest same are = (tt, are)
  replies-apart [] ys s (r ∷ rs) rest same are = absurd (omega (arith, same))
  replies-apart (x ∷ xs) ys s [] rest same are = absurd (omega (arith, same))
  replies-apart (x ∷ xs) ys s (r ∷ rs) rest same are =
      let later : length rs ≡ length xs = omega (arith, same) in
      let parts = replies-apart xs ys (after_step world_meaning s x) rs rest later are.1 in ((are.0, parts.0), parts.1)

  module _ (s : WorldState WorldTag) (steps : List Step) (i : ℕ) (step : Step) (below : i < length steps) (is : step ≡ get_or steps i step) where
    -- the state after one step more
    pub steps-more : after_steps world_meaning s (take (i + 1) steps) ≡ after_step world_meaning (after_steps world_meaning s (take i steps)) step
    steps-more = fold_more (after_step world_meaning) s steps i step below ∙ ap (λ (x : Step). after_step world_meaning (after_steps world_meaning s (take i steps)) x) (sym is)

    pub replies-more : (replies : List Reply) (reply : Reply) → AreReplies script fonts world_meaning s (take i steps) replies
        → IsReply script fonts (after_steps world_meaning s (take i steps)) step reply → AreReplies script fonts world_meaning s (take (i + 1) steps) (replies ++ reply ∷ [])
    replies-more replies reply are answers =
        let more : take (i + 1) steps ≡ take i steps ++ step ∷ [] = take_more steps i step below ∙ ap (λ (x : Step). take i steps ++ x ∷ []) (sym is) in
        subst (λ (l : List Step). AreReplies script fonts world_meaning s l (replies ++ reply ∷ [])) (sym more) (replies-push s (take i steps) replies step reply are answers)

-- each step is valid, and the fonts stay
pub step-valid : (fonts now : WorldTag) (steps : List Step) (i : ℕ) (step : Step) → now ≡ fonts → i < length steps → step ≡ get_or steps i step → All (IsValidStep (arc_value fonts).fonts) steps
    → IsValidStep (arc_value now).fonts step
step-valid fonts now steps i step same below is valid =
    subst (λ (tag : WorldTag). IsValidStep (arc_value tag).fonts step) (sym same)
    (subst (λ (x : Step). IsValidStep (arc_value fonts).fonts x) (sym is) (All-get_or (λ (x : Step). IsValidStep (arc_value fonts).fonts x) steps i step below valid))

-- the laws hold after one step more
pub laws-more : (s : WorldState WorldTag) (steps : List Step) (i : ℕ) → ((k : ℕ) → k ≤ i → KeepsLawsFor world_meaning s steps k) → KeepsLaws world_meaning (after_steps world_meaning s (take (i + 1) steps)).caches
    → (k : ℕ) → k ≤ i + 1 → KeepsLawsFor world_meaning s steps k
laws-more s steps i before now k within = elim (cases_eq k (i + 1)) [
  | inl same ↦ subst (λ (n : ℕ). KeepsLawsFor world_meaning s steps n) (sym same) now
  | inr other ↦ before k (omega (arith, within, other))
]

-- what a world tells, has replied and keeps after a step more
module _ (first old new : World) (script : old.script ≡ first.script) (fonts : old.fonts ≡ first.fonts) (steps : List Step) (i : ℕ) (step : Step) (reply : Reply) (below : i < length steps) (is : step ≡ get_or steps i step) (made : IsMade old step new (Ok reply)) (s : WorldState WorldTag) (t : TellsWorld old (after_steps world_meaning s (take i steps))) where
  pub run-tells : TellsWorld new (after_steps world_meaning s (take (i + 1) steps))
  run-tells = subst (TellsWorld new) (sym (steps-more (arc_value first.script) (arc_value first.fonts).fonts s steps i step below is)) (made.ok (after_steps world_meaning s (take i steps)) t).0

  pub run-replies : (replies : List Reply) → AreReplies (arc_value first.script) (arc_value first.fonts).fonts world_meaning s (take i steps) replies
      → AreReplies (arc_value first.script) (arc_value first.fonts).fonts world_meaning s (take (i + 1) steps) (replies ++ reply ∷ [])
  run-replies replies are =
      let answers = (made.ok (after_steps world_meaning s (take i steps)) t).1 in
      let scripted = subst (λ (z : Arc ScriptValue Global). IsReply (arc_value z) (arc_value old.fonts).fonts (after_steps world_meaning s (take i steps)) step reply) script answers in
      let own = subst (λ (z : WorldTag). IsReply (arc_value first.script) (arc_value z).fonts (after_steps world_meaning s (take i steps)) step reply) fonts scripted in
      replies-more (arc_value first.script) (arc_value first.fonts).fonts s steps i step below is replies reply are own

  pub run-laws : ((k : ℕ) → k ≤ i → KeepsLawsFor world_meaning s steps k) → KeepsLaws world_meaning new.caches → (k : ℕ) → k ≤ i + 1 → KeepsLawsFor world_meaning s steps k
  run-laws before laws = laws-more s steps i before (subst (KeepsLaws world_meaning) run-tells.caches laws)
