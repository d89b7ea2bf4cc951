-- Shifts of one box: hopping past a box that is met leaves out no clear shift, and the least shift reaches no further than the others.
use Rattle.std.proofs.Common.{◌≡◌, ℕ, ℤ, pos, ◌+◌, ◌*◌, ◌<◌, ◌≤◌, ◌+ℤ◌, ◌-ℤ◌, neg_ℤ, ◌<ℤ◌, ◌≤ℤ◌, Bool, true, false, List, length, get_or, inl, inr, subst, arith}
use Rattle.std.specs.Int.RustNames.{unsigned_abs}
use Rattle.std.specs.List.{All}
use Rattle.std.specs.List.Sorted.{IsPermutation}
use Rattle.std.proofs.lemmas.Bool.{cases_lt}
use Rattle.std.proofs.lemmas.List.{get_or_default}
use Rattle.std.proofs.lemmas.Int.{ints, by_lt_z}
use Rattle.std.proofs.lemmas.List.Sorted.{All-permutation, IsPermutation-sym}
use Rattle.ass_num.proofs.LimitLemmas.{IsWithin-wider}
use Rattle.event_places.specs.declared.stands.Box2.{Box2}
use Rattle.event_places.specs.Placement.{Meet, moved_box, IsClear, IsLeastShift, IsBoxWithin, IsLow, IsShift, max_box, passing}

-- a box that is met is passed later
pub passing-later : (down : Bool) (b other : Box2) (s : ℤ) → Meet (moved_box down s b) other → s <ℤ passing down b other
passing-later true b other s m = let h = m.1.2 in omega (arith, ints, h)
passing-later false b other s m = let h = m.1.3 in omega (arith, ints, h)

-- no shift between is clear of it
pub passing-least : (down : Bool) (b other : Box2) (s t : ℤ) → Meet (moved_box down s b) other → s ≤ℤ t → (Meet (moved_box down t b) other → ⊥) → passing down b other ≤ℤ t
passing-least true b other s t m l n =
    by_lt_z t (other.bottom -ℤ b.top)
    (λ (h : t <ℤ (other.bottom -ℤ b.top)).
    let a = m.1.0 in
    let d = m.1.1 in
    let e = m.1.3 in
    absurd (n (m.0, (omega (arith, ints, a), d, omega (arith, ints, h), omega (arith, ints, e)))))
    (λ h. h)
passing-least false b other s t m l n =
    by_lt_z t (b.bottom -ℤ other.top)
    (λ (h : t <ℤ (b.bottom -ℤ other.top)).
    let a = m.1.0 in
    let d = m.1.1 in
    let e = m.1.2 in
    absurd (n (m.0, (omega (arith, ints, a), d, omega (arith, ints, e), omega (arith, ints, h)))))
    (λ h. h)

pub passing-IsShift : (down : Bool) (b other : Box2) (s : ℤ) → IsBoxWithin max_box b → IsBoxWithin max_box other → IsShift (2 * max_box) s → Meet (moved_box down s b) other → IsShift (2 * max_box) (passing down b other)
passing-IsShift true b other s p q f m =
    let l : s <ℤ (other.bottom -ℤ b.top) = passing-later true b other s m in
    let z = f.from_zero in
    let u = q.bottom.1 in
    let v = p.top.0 in
    record { from_zero = omega (arith, ints, z, l); bounded = omega (arith, ints, u, v) }
passing-IsShift false b other s p q f m =
    let l : s <ℤ (b.bottom -ℤ other.top) = passing-later false b other s m in
    let z = f.from_zero in
    let u = p.bottom.1 in
    let v = q.top.0 in
    record { from_zero = omega (arith, ints, z, l); bounded = omega (arith, ints, u, v) }

-- the moved box begins, or ends, within the limit
abbrev pub Reaches : Bool → ℕ → Box2 → ℤ → Type 0
Reaches true limit b s = (b.top +ℤ s) ≤ℤ pos limit
Reaches false limit b s = neg_ℤ (pos limit) ≤ℤ (b.bottom -ℤ s)

clear_beyond : (down : Bool) (b other : Box2) (limit : ℕ) (s : ℤ) → IsBoxWithin limit other → (Reaches down limit b (s +ℤ pos 1) → ⊥) → Meet (moved_box down s b) other → ⊥
clear_beyond true b other limit s w n m =
    let h = m.1.2 in
    let u = w.bottom.1 in
    n (omega (arith, ints, h, u))
clear_beyond false b other limit s w n m =
    let h = m.1.3 in
    let u = w.top.0 in
    n (omega (arith, ints, h, u))

reaches_or : (down : Bool) (b : Box2) (limit : ℕ) (s : ℤ) (P : Type 0) → (Reaches down limit b s → P) → ((Reaches down limit b s → ⊥) → P) → P
reaches_or true b limit s P reach beyond = by_lt_z (pos limit) (b.top +ℤ s) (λ (h : pos limit <ℤ (b.top +ℤ s)). beyond (λ (r : (b.top +ℤ s) ≤ℤ pos limit). omega (arith, ints, h, r))) reach
reaches_or false b limit s P reach beyond = by_lt_z (b.bottom -ℤ s) (neg_ℤ (pos limit)) (λ (h : (b.bottom -ℤ s) <ℤ neg_ℤ (pos limit)). beyond (λ (r : neg_ℤ (pos limit) ≤ℤ (b.bottom -ℤ s)). omega (arith, ints, h, r))) reach

some_shift : (down : Bool) (b : Box2) (limit : ℕ) (s : ℤ) → IsBoxWithin limit b → pos 0 ≤ℤ s → (Reaches down limit b s → ⊥) → pos 0 ≤ℤ (s -ℤ pos 1)
some_shift true b limit s w z n =
    by_lt_z (pos 0) s
    (λ (h : pos 0 <ℤ s). omega (arith, ints, h))
    (λ (h : s ≤ℤ pos 0). let u = w.top.1 in absurd (n (omega (arith, ints, h, z, u))))
some_shift false b limit s w z n =
    by_lt_z (pos 0) s
    (λ (h : pos 0 <ℤ s). omega (arith, ints, h))
    (λ (h : s ≤ℤ pos 0). let u = w.bottom.0 in absurd (n (omega (arith, ints, h, z, u))))

-- the least shift brings the box no further than just past the others
pub least-Reaches : (down : Bool) (b : Box2) (others : List Box2) (limit : ℕ) (s : ℤ) → IsBoxWithin limit b → All (IsBoxWithin limit) others → IsLeastShift b others down s → Reaches down limit b s
least-Reaches down b others limit s w ws least =
    let z = least.from_zero in
    reaches_or down b limit s (Reaches down limit b s) (λ r. r)
    (λ n.
    let e : (s -ℤ pos 1) +ℤ pos 1 ≡ s = omega (arith, ints) in
    let f = some_shift down b limit s w z n in
    let c : IsClear b others down (s -ℤ pos 1) =
    λ k d l. clear_beyond down b (get_or others k d) limit (s -ℤ pos 1) (ws k d l) (λ (r : Reaches down limit b ((s -ℤ pos 1) +ℤ pos 1)). n (rw e at r)) in
    let g : s ≤ℤ (s -ℤ pos 1) = least.least (s -ℤ pos 1) f c in
    absurd (omega (arith, ints, g)))

-- so it fits
pub least-IsShift : (b : Box2) (others : List Box2) (down : Bool) (limit : ℕ) (s : ℤ) → IsBoxWithin limit b → All (IsBoxWithin limit) others → IsLeastShift b others down s → IsShift (2 * limit) s
least-IsShift b others true limit s w ws least =
    let r = least-Reaches true b others limit s w ws least in
    let u = w.top.0 in
    record { from_zero = least.from_zero; bounded = omega (arith, ints, r, u) }
least-IsShift b others false limit s w ws least =
    let r = least-Reaches false b others limit s w ws least in
    let u = w.bottom.1 in
    record { from_zero = least.from_zero; bounded = omega (arith, ints, r, u) }

pub IsBoxWithin-wider : (n m : ℕ) (b : Box2) → n ≤ m → IsBoxWithin n b → IsBoxWithin m b
IsBoxWithin-wider n m b l w = record {
  left = IsWithin-wider n m b.left l w.left;
  top = IsWithin-wider n m b.top l w.top;
  right = IsWithin-wider n m b.right l w.right;
  bottom = IsWithin-wider n m b.bottom l w.bottom;
}

-- and the moved box lies further out than the limit by no more than its height
pub least-IsWithin : (b : Box2) (others : List Box2) (down : Bool) (n h : ℕ) (s : ℤ) → IsBoxWithin n b → All (IsBoxWithin n) others → IsLow h b → IsLeastShift b others down s → IsBoxWithin (n + h) (moved_box down s b)
least-IsWithin b others true n h s w ws low least =
    let r = least-Reaches true b others n s w ws least in
    let z = least.from_zero in
    let t = w.top in
    let u = w.bottom in
    let wide = IsBoxWithin-wider n (n + h) b (omega arith) w in
    record {
      left = wide.left;
      top = (omega (arith, ints, t.0, z), omega (arith, ints, r));
      right = wide.right;
      bottom = (omega (arith, ints, u.0, z), omega (arith, ints, r, low));
    }
least-IsWithin b others false n h s w ws low least =
    let r = least-Reaches false b others n s w ws least in
    let z = least.from_zero in
    let t = w.top in
    let u = w.bottom in
    let wide = IsBoxWithin-wider n (n + h) b (omega arith) w in
    record {
      left = wide.left;
      top = (omega (arith, ints, r, low), omega (arith, ints, t.1, z));
      right = wide.right;
      bottom = (omega (arith, ints, r), omega (arith, ints, u.1, z));
    }

-- What moves a box within n to one within m is no more than their sum.
pub moved-IsShift : (b : Box2) (down : Bool) (n m : ℕ) (s : ℤ) → pos 0 ≤ℤ s → IsBoxWithin n b → IsBoxWithin m (moved_box down s b) → IsShift (n + m) s
moved-IsShift b true n m s z w v = let t = w.top.0 in let u = v.top.1 in record { from_zero = z; bounded = omega (arith, ints, t, u) }
moved-IsShift b false n m s z w v = let t = w.bottom.1 in let u = v.bottom.0 in record { from_zero = z; bounded = omega (arith, ints, t, u) }

-- the least shift is one number
pub one_least : (b : Box2) (others : List Box2) (down : Bool) (s t : ℤ) → IsLeastShift b others down s → IsLeastShift b others down t → s ≡ t
one_least b others down s t h k =
    let p = h.least t k.from_zero k.clear in
    let q = k.least s h.from_zero h.clear in
    omega (arith, ints, p, q)

-- the order of the others doesn't matter
pub least-permutation : (b : Box2) (xs ys : List Box2) (down : Bool) (s : ℤ) → IsPermutation xs ys → IsLeastShift b ys down s → IsLeastShift b xs down s
least-permutation b xs ys down s p least =
    record {
      from_zero = least.from_zero;
      clear = All-permutation (λ other. Meet (moved_box down s b) other → ⊥) ys xs (IsPermutation-sym xs ys p) least.clear;
      least = λ t z c. least.least t z (All-permutation (λ other. Meet (moved_box down t b) other → ⊥) xs ys p c);
    }

-- what is left of the way falls
pub left-falls : (s t : ℤ) → s <ℤ t → IsShift (2 * max_box) t → unsigned_abs (pos (2 * max_box) -ℤ t) < unsigned_abs (pos (2 * max_box) -ℤ s)
left-falls s t l f = let u = f.bounded in omega (arith, ints, l, u)

-- a walk over the others that has come to the one at `index`, and from the shift `from` to `shift`
pub record Hops (b : Box2) (others : List Box2) (down : Bool) (from shift : ℤ) (index : ℕ) : Type 0 where
  pub fits : IsShift (2 * max_box) shift
  pub onward : from ≤ℤ shift
  pub least : (t : ℤ) → from ≤ℤ t → IsClear b others down t → shift ≤ℤ t
  pub stays : shift ≡ from → (k : ℕ) (d : Box2) → k < index → Meet (moved_box down from b) (get_or others k d) → ⊥

pub Hops-met : (b : Box2) (others : List Box2) (down : Bool) (from shift : ℤ) (index : ℕ) (d : Box2) → IsBoxWithin max_box b → All (IsBoxWithin max_box) others → index < length others → Meet (moved_box down shift b) (get_or others index d) → Hops b others down from shift index → Hops b others down from (passing down b (get_or others index d)) (index + 1)
Hops-met b others down from shift index d w ws l m h =
    let other = get_or others index d in
    let p = passing-later down b other shift m in
    let o = h.onward in
    record {
      fits = passing-IsShift down b other shift w (ws index d l) h.fits m;
      onward = omega (arith, ints, p, o);
      least = λ t f c. passing-least down b other shift t m (h.least t f c) (c index d l);
      stays = λ e. absurd (omega (arith, ints, p, o, e));
    }

pub Hops-clear : (b : Box2) (others : List Box2) (down : Bool) (from shift : ℤ) (index : ℕ) (d : Box2) → index < length others → (Meet (moved_box down shift b) (get_or others index d) → ⊥) → Hops b others down from shift index → Hops b others down from shift (index + 1)
Hops-clear b others down from shift index d l n h =
    record {
      fits = h.fits;
      onward = h.onward;
      least = h.least;
      stays = λ e.
          let here : Meet (moved_box down from b) (get_or others index d) → ⊥ = rw e at n in
          λ k f j. elim (cases_lt k index) [
            | inl below ↦ h.stays e k f below
            | inr above ↦
                let same : k ≡ index = omega arith in
                rw (same, get_or_default others index f d l) here
          ];
    }

pub Meet-along : (a b other : Box2) → a ≡ b → Meet a other → Meet b other
Meet-along a b other e m = let P : Box2 → Type 0 = λ x. Meet x other in subst P e m
