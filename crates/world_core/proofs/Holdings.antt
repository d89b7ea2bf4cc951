-- What is made at the place of an actor's i-th ticket or pin.
use Rattle.std.proofs.Common.{◌≡◌, ℕ, ◌<◌, List, length, Option, Some, None, ⊎_elim, refl, sym, subst, arith}
use Rattle.std.specs.List.{slice_get}
use Rattle.std.proofs.lemmas.Option.{slice_get_cases}
use Rattle.world_core.specs.declared.holding.Holding.{Holding}
use Rattle.world_core.specs.Replies.{done_where}
use Rattle.world_core.specs.Steps.{ActorCachesOf, at_place}
use Rattle.world_core.specs.declared.world_keys.WorldKey.{WorldKey}
use Rattle.world_core.specs.declared.steps.Reply.TheVariants.{Done, Idle}

there : {X : Type 0} (xs : List X) (i : ℕ) → i < length xs → (x : X) × (slice_get xs i ≡ Some x)
there xs i below = ⊎_elim (λ p. (p.0, p.2)) (λ past. absurd (omega (arith, past.0, below))) (slice_get_cases xs i).1

module _ {T : Type 0} (hs : List (Holding WorldKey)) (make : ℕ → Holding WorldKey → ActorCachesOf T → ActorCachesOf T) (o : Option ℕ) (old new : ActorCachesOf T) where
  pub at-none : o ≡ None → new ≡ old → new ≡ at_place hs make o old
  at-none is same = rw is same

  module _ (place : ℕ) (below : place < length hs) (made : (h : Holding WorldKey) → slice_get hs place ≡ Some h → new ≡ make place h old) where
    pub at-made : o ≡ Some place → new ≡ at_place hs make o old
    at-made is = let t = there hs place below in rw (is, t.1) (made t.0 t.1)

    -- what holds of the step of each holding holds of it
    pub at-kept : (P : ActorCachesOf T → Type 0) → ((h : Holding WorldKey) → P (make place h old)) → P new
    at-kept P keeps = let t = there hs place below in subst P (sym (made t.0 t.1)) (keeps t.0)

pub done-found : (o : Option ℕ) (place : ℕ) → o ≡ Some place → Done ≡ done_where o
done-found o place is = rw is refl

pub done-none : (o : Option ℕ) → o ≡ None → Idle ≡ done_where o
done-none o is = rw is refl
