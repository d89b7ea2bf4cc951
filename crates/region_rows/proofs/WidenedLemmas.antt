-- Which samples a widened set has.
use Rattle.std.proofs.Common.{refl, ◌≡◌, ℕ, zero, suc, ◌+◌, ◌*◌, ◌≤◌, Bool, true, ◌||◌, ◌&&◌, ℤ, pos, negsuc, ◌+ℤ◌, unsigned_abs, leb, arith, ⊎_elim, ap, sym, ◌∙◌}
use Rattle.std.proofs.lemmas.Bool.{or_left, or_right, or_cases, and_parts, and_from, leb-true, le-leb, cases_eq}
use Rattle.region_rows.specs.Widened.{some_within, square, in_ellipse, in_widened}

pub some_within-found : (n : ℕ) (passes : ℤ → Bool) → some_within n passes ≡ true → (z : ℤ) × (unsigned_abs z ≤ n) × (passes z ≡ true)
unfolding some_within
some_within-found zero passes h = (pos 0, omega arith, h)
some_within-found (suc n) passes h =
    ⊎_elim
    (λ e. ⊎_elim (λ f. (pos (suc n), omega arith, f)) (λ f. (negsuc n, omega arith, f)) (or_cases (passes (pos (suc n))) (passes (negsuc n)) e))
    (λ e. let r = some_within-found n passes e in let l = r.1 in (r.0, omega arith, r.2))
    (or_cases (passes (pos (suc n)) || passes (negsuc n)) (some_within n passes) h)

pub some_within-from : (n : ℕ) (passes : ℤ → Bool) (z : ℤ) → unsigned_abs z ≤ n → passes z ≡ true → some_within n passes ≡ true
unfolding some_within
some_within-from zero passes (pos zero) l h = h
some_within-from zero passes (pos (suc m)) l h = absurd (omega arith)
some_within-from zero passes (negsuc m) l h = absurd (omega arith)
some_within-from (suc n) passes (pos m) l h =
    ⊎_elim
    (λ (e : m ≡ suc n). or_left (passes (pos (suc n)) || passes (negsuc n)) (some_within n passes) (or_left (passes (pos (suc n))) (passes (negsuc n)) (ap (λ k. passes (pos k)) (sym e) ∙ h)))
    (λ ne. or_right (passes (pos (suc n)) || passes (negsuc n)) (some_within n passes) (some_within-from n passes (pos m) (omega (arith, ne)) h))
    (cases_eq m (suc n))
some_within-from (suc n) passes (negsuc m) l h =
    ⊎_elim
    (λ (e : m ≡ n). or_left (passes (pos (suc n)) || passes (negsuc n)) (some_within n passes) (or_right (passes (pos (suc n))) (passes (negsuc n)) (ap (λ k. passes (negsuc k)) (sym e) ∙ h)))
    (λ ne. or_right (passes (pos (suc n)) || passes (negsuc n)) (some_within n passes) (some_within-from n passes (negsuc m) (omega (arith, ne)) h))
    (cases_eq m n)

-- a samples across and b rows down from the middle, as facts
pub record IsInEllipse (rx ry : ℕ) (a b : ℤ) : Type 0 where
  pub across : unsigned_abs a ≤ rx
  pub down : unsigned_abs b ≤ ry
  pub round : square (unsigned_abs a) * square ry + square (unsigned_abs b) * square rx ≤ square rx * square ry

in_ellipse-parts : (rx ry : ℕ) (a b : ℤ) → in_ellipse rx ry a b ≡ true → IsInEllipse rx ry a b
in_ellipse-parts rx ry a b h =
    let p = and_parts (leb (unsigned_abs a) rx && leb (unsigned_abs b) ry) (leb (square (unsigned_abs a) * square ry + square (unsigned_abs b) * square rx) (square rx * square ry)) h in
    let q = and_parts (leb (unsigned_abs a) rx) (leb (unsigned_abs b) ry) p.0 in
    record {
      across = leb-true (unsigned_abs a) rx q.0;
      down = leb-true (unsigned_abs b) ry q.1;
      round = leb-true (square (unsigned_abs a) * square ry + square (unsigned_abs b) * square rx) (square rx * square ry) p.1;
    }

in_ellipse-from : (rx ry : ℕ) (a b : ℤ) → IsInEllipse rx ry a b → in_ellipse rx ry a b ≡ true
in_ellipse-from rx ry a b w =
    and_from (leb (unsigned_abs a) rx && leb (unsigned_abs b) ry) (leb (square (unsigned_abs a) * square ry + square (unsigned_abs b) * square rx) (square rx * square ry))
    (and_from (leb (unsigned_abs a) rx) (leb (unsigned_abs b) ry) (le-leb (unsigned_abs a) rx w.across) (le-leb (unsigned_abs b) ry w.down))
    (le-leb (square (unsigned_abs a) * square ry + square (unsigned_abs b) * square rx) (square rx * square ry) w.round)

-- the sample that a sample of the widened one is near to
pub in_widened-found : (has : ℤ → ℤ → Bool) (rx ry : ℕ) (i j : ℤ) → in_widened has rx ry i j ≡ true → (a : ℤ) × (b : ℤ) × IsInEllipse rx ry a b × (has (i +ℤ a) (j +ℤ b) ≡ true)
unfolding in_widened
in_widened-found has rx ry i j h =
    let q = some_within-found ry (λ b. some_within rx (λ a. in_ellipse rx ry a b && has (i +ℤ a) (j +ℤ b))) h in
    let r = some_within-found rx (λ a. in_ellipse rx ry a q.0 && has (i +ℤ a) (j +ℤ q.0)) q.2 in
    let p = and_parts (in_ellipse rx ry r.0 q.0) (has (i +ℤ r.0) (j +ℤ q.0)) r.2 in
    (r.0, q.0, in_ellipse-parts rx ry r.0 q.0 p.0, p.1)

pub in_widened-from : (has : ℤ → ℤ → Bool) (rx ry : ℕ) (i j a b : ℤ) → IsInEllipse rx ry a b → has (i +ℤ a) (j +ℤ b) ≡ true → in_widened has rx ry i j ≡ true
unfolding in_widened
in_widened-from has rx ry i j a b w m =
    some_within-from ry (λ b. some_within rx (λ a. in_ellipse rx ry a b && has (i +ℤ a) (j +ℤ b))) b w.down
    (some_within-from rx (λ a. in_ellipse rx ry a b && has (i +ℤ a) (j +ℤ b)) a w.across
    (and_from (in_ellipse rx ry a b) (has (i +ℤ a) (j +ℤ b)) (in_ellipse-from rx ry a b w) m))

-- ---- tests that agree

some_within-along : (n : ℕ) (p q : ℤ → Bool) → ((z : ℤ) → p z ≡ q z) → some_within n p ≡ some_within n q
unfolding some_within
some_within-along zero p q same = same (pos 0)
some_within-along (suc n) p q same = rw (same (pos (suc n)), same (negsuc n), some_within-along n p q same) refl

pub in_widened-along : (p q : ℤ → ℤ → Bool) → ((i j : ℤ) → p i j ≡ q i j) → (rx ry : ℕ) (i j : ℤ) → in_widened p rx ry i j ≡ in_widened q rx ry i j
unfolding in_widened
in_widened-along p q same rx ry i j =
    some_within-along ry (λ b. some_within rx (λ a. in_ellipse rx ry a b && p (i +ℤ a) (j +ℤ b))) (λ b. some_within rx (λ a. in_ellipse rx ry a b && q (i +ℤ a) (j +ℤ b)))
    (λ b. some_within-along rx (λ a. in_ellipse rx ry a b && p (i +ℤ a) (j +ℤ b)) (λ a. in_ellipse rx ry a b && q (i +ℤ a) (j +ℤ b)) (λ a. ap (λ t. in_ellipse rx ry a b && t) (same (i +ℤ a) (j +ℤ b))))
