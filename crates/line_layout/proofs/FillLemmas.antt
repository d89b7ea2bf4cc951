-- Filling from the front: no set makes fewer lines, and none has a greater place anywhere.
use Rattle.std.proofs.Common.{◌≡◌, ℕ, ℤ, ◌+◌, ◌<◌, ◌≤◌, ◌-ℤ◌, ◌<ℤ◌, ◌≤ℤ◌, true, List, [], ◌∷◌, ◌++◌, length, get_or, ◌⊎◌, inl, inr, refl, ap, arith, append_assoc, append-nil}
use Rattle.std.proofs.lemmas.Bool.{cases_lt}
use Rattle.std.proofs.lemmas.Int.{ints, by_lt_z}
use Rattle.line_layout.specs.Breaks.{IsParagraph, pen, width, IsBreakPlace, LineFits, AreFrom, AllFit, IsAtMost, IsLastWithin, IsFirstOfNone, IsNextBreak, AreFilled}
use Rattle.line_layout.specs.Filling.{line_start, line_end, IsOutermost}
use Rattle.line_layout.proofs.PenLemmas.{pen-le}
use Rattle.line_layout.proofs.PlaceLemmas.{places-le, place-index, start-next, before-start, from-start, from-start-index, end-place, end-last, end-within}
use Rattle.line_layout.proofs.LineLemmas.{width-le, LineFits-part, LineFits-not}

-- ---- what the loop does

-- the lines are filled up to the break place before `first`
pub record Filling (ws : List ℤ) (s : List ℕ) (limit : ℤ) (places : List ℕ) (first : ℕ) : Type 0 where
  pub within : first ≤ length s
  pub so_far : (rest : List ℕ) → AreFilled ws s limit (line_start s first) rest → AreFilled ws s limit 0 (places ++ rest)

pub Filling-none : (ws : List ℤ) (s : List ℕ) (limit : ℤ) → Filling ws s limit [] 0
Filling-none ws s limit = record { within = omega arith; so_far = λ rest h. h }

-- what `line_to` finds out
pub record LineTo (ws : List ℤ) (s : List ℕ) (limit : ℤ) (first end : ℕ) : Type 0 where
  pub onward : first ≤ end
  pub within : end ≤ length s
  pub narrow : first < end → (pen ws (line_end ws s end) -ℤ pen ws (line_start s first)) ≤ℤ limit
  pub last : end < length s → limit <ℤ (pen ws (line_end ws s (end + 1)) -ℤ pen ws (line_start s first))

later_wide : (ws : List ℤ) (s : List ℕ) (limit : ℤ) (first end other : ℕ) → IsParagraph ws s → end < length s → LineTo ws s limit first end → IsBreakPlace s other → get_or s end 0 < other → limit <ℤ width ws (line_start s first) other
later_wide ws s limit first end other g m t i h =
    let n = i.0 in
    let e = i.2 in
    let k : end < n = place-index ws s end n g m i.1 (omega (arith, h, e)) in
    let f = end-place ws s (end + 1) (omega arith) in
    let o = places-le ws s (end + 1) n g (omega arith) i.1 in
    let l = t.last m in
    let w = pen-le ws s (line_end ws s (end + 1)) other g (omega (arith, f, o, e)) in
    omega (arith, ints, l, w)

next_broken : (ws : List ℤ) (s : List ℕ) (limit : ℤ) (first end : ℕ) → IsParagraph ws s → end < length s → LineTo ws s limit first end → IsLastWithin ws s limit (line_start s first) (get_or s end 0) ⊎ IsFirstOfNone ws s limit (line_start s first) (get_or s end 0)
next_broken ws s limit first end g m t =
    let from = line_start s first in
    let p = get_or s end 0 in
    let later : (other : ℕ) → IsBreakPlace s other → p < other → limit <ℤ width ws from other = λ other i h. later_wide ws s limit first end other g m t i h in
    elim (cases_lt first end) [
      | inl l ↦
          let n = t.narrow l in
          let e : pen ws (line_end ws s end) ≡ pen ws p = ap (pen ws) (end-place ws s end m) in
          inl (record { narrow = omega (arith, ints, n, e); last = later })
      | inr l ↦
          by_lt_z limit (width ws from p)
          (λ (h : limit <ℤ width ws from p). inr (λ other i o.
          let n = i.0 in
          let e = i.2 in
          let k : first ≤ n = from-start-index ws s n first g (let a = t.within in let b = t.onward in omega arith) (omega (arith, o, e)) in
          let f = places-le ws s end n g (omega arith) i.1 in
          let w = width-le ws s from p from other g (omega arith) (omega (arith, f, e)) in
          (omega (arith, f, e), omega (arith, ints, h, w))))
          (λ (h : width ws from p ≤ℤ limit). inl (record { narrow = h; last = later }))
    ]

pub next_break : (ws : List ℤ) (s : List ℕ) (limit : ℤ) (first end : ℕ) → IsParagraph ws s → end < length s → LineTo ws s limit first end → IsNextBreak ws s limit (line_start s first) (get_or s end 0)
next_break ws s limit first end g m t =
    let o : line_start s first ≤ get_or s end 0 = from-start ws s end first g t.onward m in
    let l = t.last m in
    let w = end-within ws s (end + 1) g in
    let h = pen-le ws s (line_end ws s (end + 1)) (length ws) g w in
    record {
      needed = LineFits-not ws s limit (line_start s first) (length ws) (get_or s end 0) (omega (arith, ints, l, h)) (end, m, refl) o (g.within end m);
      place = (end, m, refl);
      onward = o;
      broken = next_broken ws s limit first end g m t;
    }

pub Filling-more : (ws : List ℤ) (s : List ℕ) (limit : ℤ) (places : List ℕ) (first end : ℕ) → IsParagraph ws s → end < length s → LineTo ws s limit first end → Filling ws s limit places first → Filling ws s limit (places ++ get_or s end 0 ∷ []) (end + 1)
Filling-more ws s limit places first end g m t r =
    let p = get_or s end 0 in
    record {
      within = omega arith;
      so_far = λ rest h.
          let e : (places ++ p ∷ []) ++ rest ≡ places ++ (p ∷ rest) = append_assoc places (p ∷ []) rest in
          rw e (r.so_far (p ∷ rest) (next_break ws s limit first end g m t, rw (start-next s end) at h));
    }

pub Filling-all : (ws : List ℤ) (s : List ℕ) (limit : ℤ) (places : List ℕ) (first end : ℕ) → IsParagraph ws s → end ≡ length s → LineTo ws s limit first end → Filling ws s limit places first → AreFilled ws s limit 0 places
Filling-all ws s limit places first end g m t r =
    let f = r.within in
    let fits : LineFits ws s limit (line_start s first) (length ws) =
    elim (cases_lt first end) [
      | inl l ↦
          let n = t.narrow l in
          let e : pen ws (line_end ws s end) ≡ pen ws (length ws) = ap (pen ws) (end-last ws s end (omega arith)) in
          inl (omega (arith, ints, n, e))
      | inr l ↦ inr (λ p i a b.
          let e = i.2 in
          let k = i.1 in
          let h = before-start ws s i.0 first g (omega arith) f in
          omega (arith, e, h, a))
    ] in
    rw append-nil at (r.so_far [] fits)

-- ---- what filled lines are worth

-- no place is less than that of the other list, which has as many at least
abbrev Above : List ℕ → List ℕ → Type 0
Above [] others = Unit {0}
Above (p ∷ places) [] = ⊥
Above (p ∷ places) (q ∷ others) = (q ≤ p) × Above places others

break-fits : (ws : List ℤ) (s : List ℕ) (limit : ℤ) (from p : ℕ) → IsNextBreak ws s limit from p → LineFits ws s limit from p
break-fits ws s limit from p b =
    elim b.broken [
      | inl l ↦ inl l.narrow
      | inr f ↦ inr (λ q i a h. let k = (f q i a).0 in omega (arith, h, k))
    ]

break-last : (ws : List ℤ) (s : List ℕ) (limit : ℤ) (from p q : ℕ) → IsNextBreak ws s limit from p → IsBreakPlace s q → p < q → LineFits ws s limit from q → ⊥
break-last ws s limit from p q b i l =
    let o = b.onward in
    let wide : limit <ℤ width ws from q =
    elim b.broken [
      | inl last ↦ last.last q i l
      | inr none ↦ (none q i (omega arith)).1
    ] in
    LineFits-not ws s limit from q p wide b.place o l

pub filled-Above : (ws : List ℤ) (s : List ℕ) (limit : ℤ) (from before : ℕ) (places others : List ℕ) → IsParagraph ws s → before ≤ from → AreFilled ws s limit from places → AreFrom s before others → AllFit ws s limit before others → Above places others
filled-Above ws s limit from before [] others g l f a h = tt
filled-Above ws s limit from before (p ∷ places) [] g l f a h = f.0.needed (LineFits-part ws s limit from (length ws) before (length ws) g l (omega arith) h)
filled-Above ws s limit from before (p ∷ places) (q ∷ others) g l f a h =
    elim (cases_lt p q) [
      | inl k ↦
          absurd (break-last ws s limit from p q f.0 a.0 k (LineFits-part ws s limit from q before q g l (omega arith) h.0))
      | inr k ↦ (k, filled-Above ws s limit (p + 1) (q + 1) places others g (omega arith) f.1 a.2 h.1)
    ]

Above-fewest : (places others : List ℕ) → Above places others → length places ≤ length others
Above-fewest [] others h = omega arith
Above-fewest (p ∷ places) [] h = absurd h
Above-fewest (p ∷ places) (q ∷ others) h = let k = Above-fewest places others h.1 in omega (arith, k)

Above-taken : (places others : List ℕ) → length places ≡ length others → Above places others → IsAtMost others places
Above-taken [] [] e h = tt
Above-taken [] (q ∷ others) e h = absurd (omega arith)
Above-taken (p ∷ places) [] e h = absurd h
Above-taken (p ∷ places) (q ∷ others) e h =
    elim (cases_lt q p) [
      | inl l ↦ inl l
      | inr l ↦ let k = h.0 in inr (omega (arith, k, l), Above-taken places others (omega arith) h.1)
    ]

filled-AreFrom : (ws : List ℤ) (s : List ℕ) (limit : ℤ) (from : ℕ) (places : List ℕ) → AreFilled ws s limit from places → AreFrom s from places
filled-AreFrom ws s limit from [] f = tt
filled-AreFrom ws s limit from (p ∷ places) f = (f.0.place, f.0.onward, filled-AreFrom ws s limit (p + 1) places f.1)

filled-AllFit : (ws : List ℤ) (s : List ℕ) (limit : ℤ) (from : ℕ) (places : List ℕ) → AreFilled ws s limit from places → AllFit ws s limit from places
filled-AllFit ws s limit from [] f = f
filled-AllFit ws s limit from (p ∷ places) f = (break-fits ws s limit from p f.0, filled-AllFit ws s limit (p + 1) places f.1)

pub filled-IsOutermost : (ws : List ℤ) (s : List ℕ) (limit : ℤ) (places : List ℕ) → IsParagraph ws s → AreFilled ws s limit 0 places → IsOutermost ws s limit true places
filled-IsOutermost ws s limit places g f =
    record {
      chosen = filled-AreFrom ws s limit 0 places f;
      fit = filled-AllFit ws s limit 0 places f;
      fewest = λ other a h. Above-fewest places other (filled-Above ws s limit 0 0 places other g (omega arith) f a h);
      taken = λ other a h e. Above-taken places other e (filled-Above ws s limit 0 0 places other g (omega arith) f a h);
    }
