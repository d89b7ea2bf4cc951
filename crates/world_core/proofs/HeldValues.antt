-- Values that an actor holds, and the draws that they paint.
use Rattle.std.proofs.Common.{◌≡◌, ℕ, ◌+◌, ◌≤◌, ◌<◌, Bool, true, false, List, length, get_or, take, Option, Some, None, Result, Ok, Err, sym, ap, ◌∙◌, subst, arith}
use Rattle.std.specs.Option.{IfNone, IfSome}
use Rattle.std.specs.Prelude.{◌↔◌, IsTrue, option_map}
use Rattle.std.specs.List.{All, sum_by}
use Rattle.std.proofs.lemmas.List.Elements.{All-get_or, All-more}
use Rattle.std.proofs.lemmas.List.Sums.{sum_by_more, sum_by_more_le}
use Rattle.evict_core.specs.History.{one_if}
use Rattle.mask_keys.specs.declared.plans.Draw.{Draw}
use Rattle.world_core.specs.Caches.{ActorCachesView}
use Rattle.world_core.specs.Replies.{HoldsClip, HoldsDraw, HoldsMask}
use Rattle.world_core.specs.declared.world_keys.WorldKey.{WorldKey}
use Rattle.world_core.specs.declared.world_keys.WorldValue.{WorldValue}
use Rattle.std.specs.Result.{IfOk}

module _ {X : Type 0} (f : X → Bool) (xs : List X) (i : ℕ) (x : X) (below : i < length xs) (is : x ≡ get_or xs i x) where
  -- one that passes is counted
  pub counted-here : f x ≡ true → 1 ≤ sum_by (λ y. one_if (f y)) xs
  counted-here passes = let one : one_if (f (get_or xs i x)) ≡ 1 = ap one_if (ap f (sym is) ∙ passes) in omega (arith, sum_by_more_le (λ (y : X). one_if (f y)) xs i x below, one)

  pub counted-not : f x ≡ false → sum_by (λ y. one_if (f y)) (take i xs) ≡ 0 → sum_by (λ y. one_if (f y)) (take (i + 1) xs) ≡ 0
  counted-not fails before = let none : one_if (f (get_or xs i x)) ≡ 0 = ap one_if (ap f (sym is) ∙ fails) in omega (arith, sum_by_more (λ (y : X). one_if (f y)) xs i x below, none, before)

module _ {X : Type 0} (P : X → Type 0) (xs : List X) (i : ℕ) (x : X) (below : i < length xs) (is : x ≡ get_or xs i x) where
  -- all of one more
  pub all-more : All P (take i xs) → P x → All P (take (i + 1) xs)
  all-more all one = All-more P xs i x below all (subst P is one)

  -- not of one, so not of all
  pub not-all : (P x → ⊥) → All P xs → ⊥
  not-all lacks all = lacks (subst P (sym is) (All-get_or P xs i x below all))

module _ {X Y E : Type 0} (f : X → Y) (r : Result (Option X) E) where
  -- whatever is there is held
  pub value-held : (P : Type 0) → P → IfOk r (λ o. IfSome o (λ _. P))
  value-held P p = by r
    where
      by : (r : Result (Option X) E) → IfOk r (λ o. IfSome o (λ _. P))
      by (Ok (Some x)) = p
      by (Ok None) = tt
      by (Err e) = tt

  -- a value that is ready is there
  pub value-there : (P : Type 0) (ready : Option Y) (y : Y) → IfOk r (λ o. option_map f o ≡ ready) → ready ≡ Some y → IfOk r (λ o. IfNone o P)
  value-there P ready y here some = by r here
    where
      by : (r : Result (Option X) E) → IfOk r (λ o. option_map f o ≡ ready) → IfOk r (λ o. IfNone o P)
      by (Ok (Some x)) here = tt
      by (Ok None) here = cc
      by (Err e) here = tt

  -- nothing is there where none is held
  pub value-lacking : (n : ℕ) → IfOk r (λ o. IfNone o (n ≡ 0)) → IfOk r (λ o. IfNone o (1 ≤ n → ⊥))
  value-lacking n = by r
    where
      by : (r : Result (Option X) E) → IfOk r (λ o. IfNone o (n ≡ 0)) → IfOk r (λ o. IfNone o (1 ≤ n → ⊥))
      by (Ok (Some x)) none = tt
      by (Ok None) none = λ some. omega (arith, none, some)
      by (Err e) none = tt

-- a draw is held where its mask and its clip's are
pub draw-held : {T E : Type 0} (caches : ActorCachesView WorldKey WorldValue T) (actor : ℕ) (draw : Draw) (r : Result Bool E) → HoldsMask caches actor draw.key → IfOk r (λ b. IsTrue b ↔ HoldsClip caches actor draw.clip)
    → IfOk r (λ b. IsTrue b ↔ HoldsDraw caches actor draw)
draw-held caches actor draw (Ok b) mask clip = (λ t. record { mask = mask; clip = clip.0 t }, λ h. clip.1 h.clip)
draw-held caches actor draw (Err e) mask clip = tt
