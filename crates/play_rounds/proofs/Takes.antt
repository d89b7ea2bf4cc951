-- Passes that are taken back, worker by worker.
use Rattle.std.proofs.Common.{◌≡◌, ℕ, ◌+◌, ◌<◌, ◌≤◌, List, length, set, Some, None, refl, sym, ap, subst, ◌∙◌, arith, le_refl, length-set, get_or-set_same, get_or-set_other}
use Rattle.std.specs.List.{All, slice_index_or}
use Rattle.std.proofs.lemmas.List.{get_or_default}
use Rattle.std.proofs.lemmas.List.Elements.{All-get_or}
use mathlib.Core.Logic.{dite}
use native.Mathlib.Decide.{ℕ_discrete}
use Rattle.renderer.specs.Holding.{HoldsTheSame}
use Rattle.renderer.specs.Passes.{HoldsNothing, IsFirstPass, IsPassOfRenderer, IsRenderJoined, RenderView, RendererView}
use Rattle.play_workers.specs.declared.worker.Worker.{Worker}
use Rattle.play_rounds.specs.Passes.{AreRendersJoined, ExtendsItself, HasIdlePass}
use Rattle.play_rounds.proofs.Hands.{some_same}
use Rattle.play_rounds.proofs.Splits.{joins_more, joins_none}

-- the passes of the workers before this place were joined
pub record AreTakenTo (renderer : RendererView) (first : RenderView) (workers workers' : List Worker) (count : ℕ) (now : RenderView) : Type 0 where
  pub is_of : IsPassOfRenderer renderer now
  pub number : IsFirstPass now
  pub joined : (passes : ℕ → RenderView) → ((i : ℕ) (d : Worker) → i < length workers → (slice_index_or workers i d).pass ≡ Some (passes i)) → AreRendersJoined renderer first count passes now
  pub idle : (i : ℕ) (d : Worker) → i < count → (slice_index_or workers' i d).pass ≡ None
  pub rest : (i : ℕ) (d : Worker) → count ≤ i → slice_index_or workers' i d ≡ slice_index_or workers i d
  pub roles : (i : ℕ) (d : Worker) → (slice_index_or workers' i d).role ≡ (slice_index_or workers i d).role
  pub outcomes : (i : ℕ) (d : Worker) → (slice_index_or workers' i d).outcome ≡ (slice_index_or workers i d).outcome
  pub have : All (HasIdlePass renderer) workers
  pub same_length : length workers' ≡ length workers

pub taken_none : (renderer : RendererView) (first : RenderView) (workers : List Worker) → IsPassOfRenderer renderer first → IsFirstPass first → ExtendsItself first
    → All (HasIdlePass renderer) workers → AreTakenTo renderer first workers workers 0 first
taken_none renderer first workers is_of number itself have = record {
  is_of = is_of;
  number = number;
  joined = λ passes named. joins_none renderer first passes itself;
  idle = λ i d lt. absurd (omega arith);
  rest = λ i d le. refl;
  roles = λ i d. refl;
  outcomes = λ i d. refl;
  have = have;
  same_length = refl;
}

pub taken_more : (renderer : RendererView) (first : RenderView) (workers workers' : List Worker) (count : ℕ) (now pass after : RenderView) (w x : Worker)
    → AreTakenTo renderer first workers workers' count now → count < length workers' → (slice_index_or workers' count w).pass ≡ Some pass → IsRenderJoined renderer now pass after → HoldsNothing renderer pass
    → x.pass ≡ None → x.role ≡ (slice_index_or workers' count w).role → x.outcome ≡ (slice_index_or workers' count w).outcome
    → AreTakenTo renderer first workers (set workers' count x) (count + 1) after
taken_more renderer first workers workers' count now pass after w x to within taken join nothing none role outcome =
    let long = to.same_length in
    let placed : (d : Worker) → slice_index_or (set workers' count x) count d ≡ x = λ d. get_or-set_same workers' count x d within in
    let other : (i : ℕ) (d : Worker) → (i ≡ count → ⊥) → slice_index_or (set workers' count x) i d ≡ slice_index_or workers' i d = λ i d ne. get_or-set_other workers' count i x d ne in
    let same_worker : slice_index_or workers' count w ≡ slice_index_or workers count w = to.rest count w (le_refl count) in
    record {
      is_of = join.is_of;
      number = ap (λ (p : _). p.number) join.track.is ∙ to.number;
      joined = λ passes named. joins_more renderer first now pass after count passes (to.joined passes named) join nothing
          (some_same (slice_index_or workers count w).pass (passes count) pass (named count w (omega (arith, within, long))) (ap (λ (z : Worker). z.pass) (sym same_worker) ∙ taken));
      idle = λ i d lt. dite (ℕ_discrete i count)
          (λ same. subst (λ (k : ℕ). (slice_index_or (set workers' count x) k d).pass ≡ None) (sym same) (ap (λ (z : Worker). z.pass) (placed d) ∙ none))
          (λ ne. ap (λ (z : Worker). z.pass) (other i d ne) ∙ to.idle i d (omega arith));
      rest = λ i d le. other i d (λ e. omega arith) ∙ to.rest i d (omega arith);
      roles = λ i d. dite (ℕ_discrete i count)
          (λ same. subst (λ (k : ℕ). (slice_index_or (set workers' count x) k d).role ≡ (slice_index_or workers k d).role) (sym same)
          (ap (λ (z : Worker). z.role) (placed d) ∙ (role ∙ (ap (λ (z : Worker). z.role) (get_or_default workers' count w d within) ∙ to.roles count d))))
          (λ ne. ap (λ (z : Worker). z.role) (other i d ne) ∙ to.roles i d);
      outcomes = λ i d. dite (ℕ_discrete i count)
          (λ same. subst (λ (k : ℕ). (slice_index_or (set workers' count x) k d).outcome ≡ (slice_index_or workers k d).outcome) (sym same)
          (ap (λ (z : Worker). z.outcome) (placed d) ∙ (outcome ∙ (ap (λ (z : Worker). z.outcome) (get_or_default workers' count w d within) ∙ to.outcomes count d))))
          (λ ne. ap (λ (z : Worker). z.outcome) (other i d ne) ∙ to.outcomes i d);
      have = to.have;
      same_length = length-set workers' count x ∙ long;
    }

-- the pass that is taken holds as much as one that holds nothing
pub idle_at : (renderer : RendererView) (first : RenderView) (workers workers' : List Worker) (count : ℕ) (now pass : RenderView) (w : Worker) → AreTakenTo renderer first workers workers' count now
    → count < length workers' → (slice_index_or workers' count w).pass ≡ Some pass → (begun : RenderView) × HoldsNothing renderer begun × HoldsTheSame renderer begun pass
idle_at renderer first workers workers' count now pass w to within taken =
    let long = to.same_length in
    let h = All-get_or (HasIdlePass renderer) workers count w (omega (arith, within, long)) to.have in
    let same : h.pass ≡ pass = some_same (slice_index_or workers count w).pass h.pass pass h.is (ap (λ (z : Worker). z.pass) (sym (to.rest count w (le_refl count))) ∙ taken) in
    (h.begun, h.nothing, subst (HoldsTheSame renderer h.begun) same h.same)
