-- Passes that are handed out, worker by worker.
use Rattle.std.proofs.Common.{◌≡◌, ℕ, ◌+◌, ◌<◌, ◌≤◌, List, length, set, Option, Some, None, refl, sym, ap, subst, ◌∙◌, arith, length-set, get_or-set_same, get_or-set_other}
use Rattle.std.specs.List.{All, slice_index_or}
use Rattle.std.proofs.lemmas.List.{get_or_default}
use Rattle.std.proofs.lemmas.List.Elements.{All-get_or}
use mathlib.Core.Logic.{dite}
use native.Mathlib.Decide.{ℕ_discrete}
use Rattle.renderer.specs.Passes.{IsFirstPass, IsPassOfRenderer, IsRenderSplit, RenderView, RendererView}
use Rattle.play_workers.specs.Parts.{HasNoPass, HasPass}
use Rattle.play_workers.specs.declared.worker.Worker.{Worker}
use Rattle.play_rounds.specs.Passes.{AreRendersSplit}
use Rattle.play_rounds.proofs.Splits.{renders_more, renders_none}

pub some_same : {X : Type 0} (o : Option X) (p q : X) → o ≡ Some p → o ≡ Some q → p ≡ q
some_same o p q e f = cc

-- the workers before this place have their passes
pub record AreHandedTo (renderer : RendererView) (first : RenderView) (workers workers' : List Worker) (count : ℕ) (now : RenderView) : Type 0 where
  pub is_of : IsPassOfRenderer renderer now
  pub number : IsFirstPass now
  pub next : now.track.next ≡ first.track.next + count
  pub have : (i : ℕ) (d : Worker) → i < count → HasPass renderer (slice_index_or workers' i d)
  pub split : (passes : ℕ → RenderView) → ((i : ℕ) (d : Worker) → i < count → (slice_index_or workers' i d).pass ≡ Some (passes i)) → AreRendersSplit renderer first count passes now
  pub waiting : (i : ℕ) (d : Worker) → count ≤ i → i < length workers' → (slice_index_or workers' i d).pass ≡ None
  pub roles : (i : ℕ) (d : Worker) → (slice_index_or workers' i d).role ≡ (slice_index_or workers i d).role
  pub same_length : length workers' ≡ length workers

pub handed_none : (renderer : RendererView) (first : RenderView) (workers : List Worker) → IsPassOfRenderer renderer first → IsFirstPass first → All HasNoPass workers → AreHandedTo renderer first workers workers 0 first
handed_none renderer first workers is_of number idle = record {
  is_of = is_of;
  number = number;
  next = omega arith;
  have = λ i d lt. absurd (omega arith);
  split = λ passes named. renders_none renderer first passes;
  waiting = λ i d le lt. All-get_or HasNoPass workers i d lt idle;
  roles = λ i d. refl;
  same_length = refl;
}

pub handed_more : (renderer : RendererView) (first : RenderView) (workers workers' : List Worker) (count : ℕ) (now kept new : RenderView) (w x : Worker)
    → AreHandedTo renderer first workers workers' count now → count < length workers' → IsRenderSplit renderer now kept new
    → x.pass ≡ Some new → x.role ≡ (slice_index_or workers' count w).role → AreHandedTo renderer first workers (set workers' count x) (count + 1) kept
handed_more renderer first workers workers' count now kept new w x to within split is role =
    let placed : (d : Worker) → slice_index_or (set workers' count x) count d ≡ x = λ d. get_or-set_same workers' count x d within in
    let other : (i : ℕ) (d : Worker) → (i ≡ count → ⊥) → slice_index_or (set workers' count x) i d ≡ slice_index_or workers' i d = λ i d ne. get_or-set_other workers' count i x d ne in
    record {
      is_of = split.first_of;
      number = ap (λ (p : _). p.number) split.track.first_is ∙ to.number;
      next = let more : kept.track.next ≡ now.track.next + 1 = ap (λ (p : _). p.next) split.track.first_is in let before = to.next in omega (arith, more, before);
      have = λ i d lt. dite (ℕ_discrete i count)
          (λ same. subst (λ (k : ℕ). HasPass renderer (slice_index_or (set workers' count x) k d)) (sym same)
          (subst (HasPass renderer) (sym (placed d)) record { pass = new; is = is; is_of = split.new_of }))
          (λ ne. subst (HasPass renderer) (sym (other i d ne)) (to.have i d (omega arith)));
      split = λ passes named. renders_more renderer first now kept new count passes
          (to.split passes (λ i d lt. ap (λ (z : Worker). z.pass) (sym (other i d (λ e. omega arith))) ∙ named i d (omega arith)))
          split (some_same x.pass (passes count) new (ap (λ (z : Worker). z.pass) (sym (placed x)) ∙ named count x (omega arith)) is);
      waiting = λ i d le lt. let long = length-set workers' count x in ap (λ (z : Worker). z.pass) (other i d (λ e. omega arith)) ∙ to.waiting i d (omega arith) (omega (arith, lt, long));
      roles = λ i d. dite (ℕ_discrete i count)
          (λ same. subst (λ (k : ℕ). (slice_index_or (set workers' count x) k d).role ≡ (slice_index_or workers k d).role) (sym same)
          (ap (λ (z : Worker). z.role) (placed d) ∙ (role ∙ (ap (λ (z : Worker). z.role) (get_or_default workers' count w d within) ∙ to.roles count d))))
          (λ ne. ap (λ (z : Worker). z.role) (other i d ne) ∙ to.roles i d);
      same_length = length-set workers' count x ∙ to.same_length;
    }
