-- Passes of softening, one after another.
use Rattle.std.proofs.Common.{◌≡◌, ℕ, zero, suc, ◌+◌, ◌*◌, ℤ, pos, ◌+ℤ◌, ◌-ℤ◌, true, List, add-one, refl, ap, subst, sym, ◌∙◌, arith}
use Rattle.std.proofs.lemmas.Int.{ints}
use Rattle.ass_num.specs.Masks.{MaskValue, is_mask, value_at}
use Rattle.mask_blur.specs.Shown.{Shows}
use Rattle.mask_blur.specs.Softening.{softer, softened, IsSoftened}
use Rattle.mask_blur.proofs.GrowthLemmas.{value_none, mask_none, box_kept, box_same}
use Rattle.mask_blur.proofs.ShownLemmas.{shows_at}

-- no pass
pub softened_none : (f : ℤ → ℤ → ℕ) (x y : ℤ) (w h : ℕ) (bytes : List ℕ) → Shows f x y w h bytes → Shows (softened 0 f) (x -ℤ pos 0) (y -ℤ pos 0) (w + 2 * 0) (h + 2 * 0) bytes
unfolding softened
softened_none f x y w h bytes shows = shows_at f x y (x -ℤ pos 0) (y -ℤ pos 0) w h (w + 2 * 0) (h + 2 * 0) bytes shows (omega (arith, ints)) (omega (arith, ints)) (omega arith) (omega arith)

softened_next : (f : ℤ → ℤ → ℕ) (k : ℕ) → softer (softened k f) ≡ softened (k + 1) f
unfolding softened
softened_next f k = rw add-one refl

-- a pass more
pub softened_more : (f : ℤ → ℤ → ℕ) (x y : ℤ) (w h k : ℕ) (bytes : List ℕ)
    → Shows (softer (softened k f)) ((x -ℤ pos k) -ℤ pos 1) ((y -ℤ pos k) -ℤ pos 1) (w + 2 * k + 2) (h + 2 * k + 2) bytes
    → Shows (softened (k + 1) f) (x -ℤ pos (k + 1)) (y -ℤ pos (k + 1)) (w + 2 * (k + 1)) (h + 2 * (k + 1)) bytes
softened_more f x y w h k bytes shows =
    let there = subst (λ (g : ℤ → ℤ → ℕ). Shows g ((x -ℤ pos k) -ℤ pos 1) ((y -ℤ pos k) -ℤ pos 1) (w + 2 * k + 2) (h + 2 * k + 2) bytes) (softened_next f k) shows in
    shows_at (softened (k + 1) f) ((x -ℤ pos k) -ℤ pos 1) ((y -ℤ pos k) -ℤ pos 1) (x -ℤ pos (k + 1)) (y -ℤ pos (k + 1)) (w + 2 * k + 2) (h + 2 * k + 2) (w + 2 * (k + 1)) (h + 2 * (k + 1)) bytes there
    (omega (arith, ints)) (omega (arith, ints)) (omega arith) (omega arith)

-- the same in a box that stays
pub softened_start : (f : ℤ → ℤ → ℕ) (x y : ℤ) (w h : ℕ) (bytes : List ℕ) → Shows f x y w h bytes → Shows (softened 0 f) x y w h bytes
unfolding softened
softened_start f x y w h bytes shows = shows

pub softened_step : (f : ℤ → ℤ → ℕ) (x y : ℤ) (w h k : ℕ) (bytes : List ℕ) → Shows (softer (softened k f)) x y w h bytes → Shows (softened (k + 1) f) x y w h bytes
softened_step f x y w h k bytes shows = subst (λ (g : ℤ → ℤ → ℕ). Shows g x y w h bytes) (softened_next f k) shows

softened_first : (f : ℤ → ℤ → ℕ) (k : ℕ) → softened k (softer f) ≡ softened (suc k) f
unfolding softened
softened_first f zero = refl
softened_first f (suc k) = ap softer (softened_first f k)

-- the first pass, and the others
pub softened_rest : (f : ℤ → ℤ → ℕ) (x y : ℤ) (w h k n : ℕ) (bytes : List ℕ) → n ≡ suc k
    → Shows (softened k (softer f)) ((x -ℤ pos 1) -ℤ pos k) ((y -ℤ pos 1) -ℤ pos k) (w + 2 + 2 * k) (h + 2 + 2 * k) bytes
    → Shows (softened n f) (x -ℤ pos n) (y -ℤ pos n) (w + 2 * n) (h + 2 * n) bytes
softened_rest f x y w h k n bytes is shows =
    let there = subst (λ (g : ℤ → ℤ → ℕ). Shows g ((x -ℤ pos 1) -ℤ pos k) ((y -ℤ pos 1) -ℤ pos k) (w + 2 + 2 * k) (h + 2 + 2 * k) bytes) (softened_first f k) shows in
    let here = subst (λ (m : ℕ). Shows (softened m f) ((x -ℤ pos 1) -ℤ pos k) ((y -ℤ pos 1) -ℤ pos k) (w + 2 + 2 * k) (h + 2 + 2 * k) bytes) (sym is) there in
    shows_at (softened n f) ((x -ℤ pos 1) -ℤ pos k) ((y -ℤ pos 1) -ℤ pos k) (x -ℤ pos n) (y -ℤ pos n) (w + 2 + 2 * k) (h + 2 + 2 * k) (w + 2 * n) (h + 2 * n) bytes here
    (omega (arith, ints)) (omega (arith, ints)) (omega arith) (omega arith)

-- of nothing
softened_zero : (f : ℤ → ℤ → ℕ) (n : ℕ) → ((x y : ℤ) → f x y ≡ 0) → (x y : ℤ) → softened n f x y ≡ 0
unfolding softened
softened_zero f zero none x y = none x y
softened_zero f (suc n) none x y =
    let at = softened_zero f n none in
    omega (
      arith,
      at (x -ℤ pos 1) (y -ℤ pos 1),
      at x (y -ℤ pos 1),
      at (x +ℤ pos 1) (y -ℤ pos 1),
      at (x -ℤ pos 1) y,
      at x y,
      at (x +ℤ pos 1) y,
      at (x -ℤ pos 1) (y +ℤ pos 1),
      at x (y +ℤ pos 1),
      at (x +ℤ pos 1) (y +ℤ pos 1),
    )

-- a mask without pixels stays
pub none_softened : (n : ℕ) (m : MaskValue) → is_mask m ≡ true → m.w ≡ 0 → IsSoftened n m m
none_softened n m canonical narrow = record {
  value = λ x y. value_none m narrow x y ∙ sym (softened_zero (value_at m) n (value_none m narrow) x y);
  box = box_kept n m (mask_none m canonical narrow);
}

-- and so does any without a pass
pub same_softened : (n : ℕ) (m : MaskValue) → n ≡ 0 → IsSoftened n m m
unfolding softened
same_softened n m none = rw none (record { value = λ x y. refl; box = box_same m })
