-- The search for the least limit.
use Rattle.std.proofs.Common.{◌≡◌, ℕ, ℤ, pos, ◌<◌, ◌≤◌, ◌+ℤ◌, ◌-ℤ◌, ◌<ℤ◌, ◌≤ℤ◌, List, length, ◌⊎◌, inl, inr, arith}
use Rattle.std.specs.Int.{int_min}
use Rattle.std.specs.Int.RustNames.{unsigned_abs}
use Rattle.std.proofs.lemmas.Int.{ints, clamps, by_lt_z}
use Rattle.line_layout.specs.Breaks.{IsParagraph, AreFilled}
use Rattle.line_layout.specs.Filling.{line_start, line_end, IsWidestWord, Suffices, IsLeastLimit}
use Rattle.line_layout.proofs.PlaceLemmas.{start-le-end}
use Rattle.line_layout.proofs.PenLemmas.{pen-le}
use Rattle.line_layout.proofs.FillLemmas.{filled-IsOutermost}

-- the least limit lies between `low` and `high`
pub record Halving (ws : List ℤ) (s : List ℕ) (max : ℤ) (count : ℕ) (low high : ℤ) : Type 0 where
  pub ordered : low ≤ℤ high
  pub within : high ≤ℤ max
  pub roomy : (word : ℤ) → IsWidestWord ws s word → (word ≤ℤ low) ⊎ (max ≤ℤ low)
  pub enough : Suffices ws s count high
  pub least : (word : ℤ) → IsWidestWord ws s word → (low ≤ℤ word) ⊎ (Suffices ws s count (low -ℤ pos 1) → ⊥)

filled-Suffices : (ws : List ℤ) (s : List ℕ) (limit : ℤ) (count : ℕ) (places : List ℕ) → IsParagraph ws s → AreFilled ws s limit 0 places → length places ≤ count → Suffices ws s count limit
filled-Suffices ws s limit count places g f l =
    let o = filled-IsOutermost ws s limit places g f in
    (places, o.chosen, o.fit, l)

filled-none : (ws : List ℤ) (s : List ℕ) (limit : ℤ) (count : ℕ) (places : List ℕ) → IsParagraph ws s → AreFilled ws s limit 0 places → count < length places → Suffices ws s count limit → ⊥
filled-none ws s limit count places g f l h =
    let o = filled-IsOutermost ws s limit places g f in
    let a = o.fewest h.0 h.1 h.2 in
    let b = h.3 in
    omega (arith, a, b, l)

word-same : (ws : List ℤ) (s : List ℕ) (word other : ℤ) → IsWidestWord ws s word → IsWidestWord ws s other → word ≡ other
word-same ws s word other a b =
    let h = a.least other b.above in
    let k = b.least word a.above in
    omega (arith, ints, h, k)

pub word-above : (ws : List ℤ) (s : List ℕ) (word : ℤ) → IsParagraph ws s → IsWidestWord ws s word → pos 0 ≤ℤ word
word-above ws s word g w =
    let a = w.above 0 (omega arith) in
    let b = pen-le ws s (line_start s 0) (line_end ws s 0) g (start-le-end ws s 0 g (omega arith)) in
    omega (arith, ints, a, b)

pub Halving-none : (ws : List ℤ) (s : List ℕ) (max word : ℤ) (places : List ℕ) → IsParagraph ws s → IsWidestWord ws s word → AreFilled ws s max 0 places → Halving ws s max (length places) (int_min word max) max
Halving-none ws s max word places g w f =
    record {
      ordered = omega (arith, ints, clamps);
      within = omega (arith, ints);
      roomy = λ other o.
          let e = word-same ws s word other w o in
          by_lt_z max other
          (λ (l : max <ℤ other). inr (omega (arith, ints, clamps, e, l)))
          (λ (l : other ≤ℤ max). inl (omega (arith, ints, clamps, e, l)));
      enough = filled-Suffices ws s max (length places) places g f (omega arith);
      least = λ other o.
          let e = word-same ws s word other w o in
          inl (omega (arith, ints, clamps, e));
    }

pub Halving-down : (ws : List ℤ) (s : List ℕ) (max low high middle : ℤ) (count : ℕ) (places : List ℕ) → IsParagraph ws s → low ≤ℤ middle → middle ≤ℤ high → AreFilled ws s middle 0 places → length places ≤ count → Halving ws s max count low high → Halving ws s max count low middle
Halving-down ws s max low high middle count places g l h f n r =
    let w = r.within in
    record {
      ordered = l;
      within = omega (arith, ints, h, w);
      roomy = r.roomy;
      enough = filled-Suffices ws s middle count places g f n;
      least = r.least;
    }

pub Halving-up : (ws : List ℤ) (s : List ℕ) (max low high middle : ℤ) (count : ℕ) (places : List ℕ) → IsParagraph ws s → low ≤ℤ middle → middle <ℤ high → AreFilled ws s middle 0 places → count < length places → Halving ws s max count low high → Halving ws s max count (middle +ℤ pos 1) high
Halving-up ws s max low high middle count places g l h f n r =
    let e : (middle +ℤ pos 1) -ℤ pos 1 ≡ middle = omega (arith, ints) in
    record {
      ordered = omega (arith, ints, h);
      within = r.within;
      roomy = λ word w. elim (r.roomy word w) [ inl a ↦ inl (omega (arith, ints, a, l)) | inr a ↦ inr (omega (arith, ints, a, l)) ];
      enough = r.enough;
      least = λ word w. inr (λ (x : Suffices ws s count ((middle +ℤ pos 1) -ℤ pos 1)). filled-none ws s middle count places g f n (rw e at x));
    }

pub Halving-all : (ws : List ℤ) (s : List ℕ) (max low high word : ℤ) (count : ℕ) → IsWidestWord ws s word → high ≤ℤ low → Halving ws s max count low high → IsLeastLimit ws s max count high
Halving-all ws s max low high word count w l r =
    let o = r.ordered in
    let e : low ≡ high = omega (arith, ints, o, l) in
    record {
      word = (word, w);
      within = r.within;
      roomy = rw e at r.roomy;
      enough = r.enough;
      least = rw e at r.least;
    }

-- a limit that is still sought isn't negative
pub Halving-above : (ws : List ℤ) (s : List ℕ) (max low high word : ℤ) (count : ℕ) → IsParagraph ws s → IsWidestWord ws s word → low <ℤ high → Halving ws s max count low high → pos 0 ≤ℤ low
Halving-above ws s max low high word count g w l r =
    let z = word-above ws s word g w in
    let i = r.within in
    elim (r.roomy word w) [
      | inl a ↦ omega (arith, ints, z, a)
      | inr a ↦ absurd (omega (arith, ints, a, l, i))
    ]

pub gap-falls : (low high nlow nhigh : ℤ) → low ≤ℤ nlow → nlow ≤ℤ nhigh → nhigh ≤ℤ high → (nhigh -ℤ nlow) <ℤ (high -ℤ low) → unsigned_abs (nhigh -ℤ nlow) < unsigned_abs (high -ℤ low)
gap-falls low high nlow nhigh a b d e = omega (arith, ints, a, b, d, e)
