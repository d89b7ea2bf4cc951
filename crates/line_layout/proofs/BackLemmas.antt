-- Filling from the back: no set makes fewer lines, and none that makes as few has a lesser place anywhere.
use Rattle.std.proofs.Common.{◌≡◌, ℕ, ℤ, ◌+◌, ◌-◌, ◌<◌, ◌≤◌, ◌-ℤ◌, ◌<ℤ◌, ◌≤ℤ◌, false, List, [], ◌∷◌, ◌++◌, length, get_or, reverse, inl, inr, refl, sym, ap, ◌∙◌, arith}
use Rattle.std.proofs.lemmas.Bool.{cases_lt}
use Rattle.std.proofs.lemmas.Int.{ints}
use Rattle.std.proofs.lemmas.List.{reverse-append}
use Rattle.line_layout.specs.Breaks.{IsParagraph, pen, IsBreakPlace, LineFits, AreFrom, AllFit, IsAtMost}
use Rattle.line_layout.specs.Filling.{line_start, line_end, IsOutermost}
use Rattle.line_layout.proofs.PenLemmas.{pen-le}
use Rattle.line_layout.proofs.PlaceLemmas.{places-le, place-index, start-at, before-start, from-start, end-place, end-last, end-within, start-le-end}
use Rattle.line_layout.proofs.LineLemmas.{LineFits-part, LineFits-not}

-- where the line ends that comes before these places
abbrev pub ends : ℕ → List ℕ → ℕ
ends count [] = count
ends count (p ∷ places) = p

-- a line that ends at `to` is broken at `p`, as early as it fits
pub record IsEarliest (ws : List ℤ) (s : List ℕ) (limit : ℤ) (p to : ℕ) : Type 0 where
  pub needed : LineFits ws s limit 0 to → ⊥
  pub place : IsBreakPlace s p
  pub before : p < to
  pub fits : LineFits ws s limit (p + 1) to
  pub first : (other : ℕ) → IsBreakPlace s other → other < p → LineFits ws s limit (other + 1) to → ⊥

abbrev pub AreEarliest : List ℤ → List ℕ → ℤ → List ℕ → Type 0
AreEarliest ws s limit [] = Unit {0}
AreEarliest ws s limit (p ∷ places) = IsEarliest ws s limit p (ends (length ws) places) × AreEarliest ws s limit places

-- ---- what the loop does

pub record Backing (ws : List ℤ) (s : List ℕ) (limit : ℤ) (places : List ℕ) (end : ℕ) : Type 0 where
  pub within : end ≤ length s
  pub earliest : AreEarliest ws s limit (reverse places)
  pub to : ends (length ws) (reverse places) ≡ line_end ws s end

pub Backing-none : (ws : List ℤ) (s : List ℕ) (limit : ℤ) (end : ℕ) → end ≡ length s → Backing ws s limit [] end
Backing-none ws s limit end e = record { within = omega arith; earliest = tt; to = sym (end-last ws s end (omega arith)) }

-- what `line_from` finds out
pub record LineFrom (ws : List ℤ) (s : List ℕ) (limit : ℤ) (end first : ℕ) : Type 0 where
  pub back : first ≤ end
  pub narrow : first < end → (pen ws (line_end ws s end) -ℤ pen ws (line_start s first)) ≤ℤ limit
  pub last : 0 < first → limit <ℤ (pen ws (line_end ws s end) -ℤ pen ws (line_start s (first - 1)))

end-le : (ws : List ℤ) (s : List ℕ) (j k : ℕ) → IsParagraph ws s → j ≤ k → k ≤ length s → line_end ws s j ≤ line_end ws s k
end-le ws s j k g l m =
    elim (cases_lt k (length s)) [
      | inl i ↦
          let e = end-place ws s j (omega arith) in
          let f = end-place ws s k i in
          let h = places-le ws s j k g l i in
          omega (arith, e, f, h)
      | inr i ↦
          let e = end-within ws s j g in
          let f = end-last ws s k i in
          omega (arith, e, f)
    ]

-- the line from `first` fits
line-fits : (ws : List ℤ) (s : List ℕ) (limit : ℤ) (end first : ℕ) → IsParagraph ws s → end ≤ length s → LineFrom ws s limit end first → LineFits ws s limit (line_start s first) (line_end ws s end)
line-fits ws s limit end first g m f =
    elim (cases_lt first end) [
      | inl l ↦ inl (f.narrow l)
      | inr l ↦ inr (λ p i a b.
          let e = i.2 in
          let k = i.1 in
          let h = f.back in
          elim (cases_lt i.0 first) [
            | inl j ↦ let c = before-start ws s i.0 first g j (omega arith) in omega (arith, a, c, e)
            | inr j ↦
                let c = places-le ws s end i.0 g (omega arith) k in
                let d = end-place ws s end (omega arith) in
                omega (arith, b, c, d, e)
          ])
    ]

-- the place before it is the earliest
earliest : (ws : List ℤ) (s : List ℕ) (limit : ℤ) (end at : ℕ) → IsParagraph ws s → end ≤ length s → LineFrom ws s limit end (at + 1) → IsEarliest ws s limit (get_or s at 0) (line_end ws s end)
earliest ws s limit end at g m f =
    let p = get_or s at 0 in
    let to = line_end ws s end in
    let b = f.back in
    let i : at < length s = omega (arith, b, m) in
    let e = start-at s at (at + 1) refl in
    let q : at + 1 - 1 ≡ at = omega arith in
    let l : limit <ℤ (pen ws to -ℤ pen ws (line_start s at)) = rw q at (f.last (omega arith)) in
    let n : line_start s (at + 1) ≤ to = (let x = start-le-end ws s (at + 1) g (omega arith) in let y = end-le ws s (at + 1) end g b m in omega (arith, x, y)) in
    let o : line_start s at ≤ p = from-start ws s at at g (omega arith) i in
    let z = pen-le ws s 0 (line_start s at) g (omega arith) in
    record {
      needed = LineFits-not ws s limit 0 to p (omega (arith, ints, l, z)) (at, i, refl) (omega arith) (omega (arith, n, e));
      place = (at, i, refl);
      before = omega (arith, n, e);
      fits = rw e at (line-fits ws s limit end (at + 1) g m f);
      first = λ other j h.
          let v = j.2 in
          let u : j.0 < at = place-index ws s j.0 at g j.1 i (omega (arith, h, v)) in
          let c = before-start ws s j.0 at g u (omega arith) in
          let d = pen-le ws s (other + 1) (line_start s at) g (omega (arith, c, v)) in
          LineFits-not ws s limit (other + 1) to p (omega (arith, ints, l, d)) (at, i, refl) (omega arith) (omega (arith, n, e));
    }

reverse-push : (xs : List ℕ) (x : ℕ) → reverse (xs ++ x ∷ []) ≡ x ∷ reverse xs
reverse-push xs x = reverse-append xs (x ∷ [])

pub Backing-more : (ws : List ℤ) (s : List ℕ) (limit : ℤ) (places : List ℕ) (end first at : ℕ) → IsParagraph ws s → first ≡ at + 1 → LineFrom ws s limit end first → Backing ws s limit places end → Backing ws s limit (places ++ get_or s at 0 ∷ []) at
Backing-more ws s limit places end first at g e f r =
    let m = r.within in
    let b = f.back in
    let h : LineFrom ws s limit end (at + 1) = rw e at f in
    let i = reverse-push places (get_or s at 0) in
    record {
      within = omega arith;
      earliest = rw (i, r.to) (earliest ws s limit end at g m h, r.earliest);
      to = ap (ends (length ws)) i ∙ sym (end-place ws s at (omega arith));
    }

-- ---- what such lines are worth

-- no place is greater than that of the other list, which has as many
abbrev Below : List ℕ → List ℕ → Type 0
Below [] others = Unit {0}
Below (p ∷ places) [] = ⊥
Below (p ∷ places) (q ∷ others) = (p ≤ q) × Below places others

-- the lines after the first place fit
abbrev RestFit : List ℤ → List ℕ → ℤ → List ℕ → Type 0
RestFit ws s limit [] = Unit {0}
RestFit ws s limit (q ∷ others) = IsBreakPlace s q × LineFits ws s limit (q + 1) (ends (length ws) others) × RestFit ws s limit others

rest-fit : (ws : List ℤ) (s : List ℕ) (limit : ℤ) (from : ℕ) (others : List ℕ) → AreFrom s from others → AllFit ws s limit from others → LineFits ws s limit from (ends (length ws) others) × RestFit ws s limit others
rest-fit ws s limit from [] a h = (h, tt)
rest-fit ws s limit from (q ∷ others) a h =
    let r = rest-fit ws s limit (q + 1) others a.2 h.1 in
    (h.0, (a.0, r.0, r.1))

ends-below : (count : ℕ) (places others : List ℕ) → length places ≡ length others → Below places others → ends count places ≤ ends count others
ends-below count [] [] e h = omega arith
ends-below count [] (q ∷ others) e h = absurd (omega arith)
ends-below count (p ∷ places) [] e h = absurd h
ends-below count (p ∷ places) (q ∷ others) e h = h.0

earliest-Below : (ws : List ℤ) (s : List ℕ) (limit : ℤ) (places others : List ℕ) → IsParagraph ws s → length places ≡ length others → AreEarliest ws s limit places → RestFit ws s limit others → Below places others
earliest-Below ws s limit [] others g e b h = tt
earliest-Below ws s limit (p ∷ places) [] g e b h = absurd (omega arith)
earliest-Below ws s limit (p ∷ places) (q ∷ others) g e b h =
    let r = earliest-Below ws s limit places others g (omega arith) b.1 h.2 in
    let l = ends-below (length ws) places others (omega arith) r in
    elim (cases_lt q p) [
      | inl k ↦ absurd (b.0.first q h.0 k (LineFits-part ws s limit (q + 1) (ends (length ws) places) (q + 1) (ends (length ws) others) g (omega arith) l h.1))
      | inr k ↦ (k, r)
    ]

earliest-fewest : (ws : List ℤ) (s : List ℕ) (limit : ℤ) (places others : List ℕ) → IsParagraph ws s → AreEarliest ws s limit places → LineFits ws s limit 0 (ends (length ws) others) → RestFit ws s limit others → length places ≤ length others
earliest-fewest ws s limit [] others g b f h = omega arith
earliest-fewest ws s limit (p ∷ places) others g b f h =
    let r = earliest-fewest ws s limit places others g b.1 f h in
    elim (cases_lt (length places) (length others)) [
      | inl l ↦ omega arith
      | inr l ↦
          let e : length places ≡ length others = omega arith in
          let k = ends-below (length ws) places others e (earliest-Below ws s limit places others g e b.1 h) in
          absurd (b.0.needed (LineFits-part ws s limit 0 (ends (length ws) places) 0 (ends (length ws) others) g (omega arith) k f))
    ]

Below-taken : (places others : List ℕ) → length places ≡ length others → Below places others → IsAtMost places others
Below-taken [] others e h = tt
Below-taken (p ∷ places) [] e h = absurd h
Below-taken (p ∷ places) (q ∷ others) e h =
    elim (cases_lt p q) [
      | inl l ↦ inl l
      | inr l ↦ let k = h.0 in inr (omega (arith, k, l), Below-taken places others (omega arith) h.1)
    ]

earliest-AreFrom : (ws : List ℤ) (s : List ℕ) (limit : ℤ) (from : ℕ) (places : List ℕ) → from ≤ ends (length ws) places → AreEarliest ws s limit places → AreFrom s from places
earliest-AreFrom ws s limit from [] l b = tt
earliest-AreFrom ws s limit from (p ∷ places) l b =
    let k = b.0.before in
    (b.0.place, l, earliest-AreFrom ws s limit (p + 1) places (omega (arith, k)) b.1)

earliest-AllFit : (ws : List ℤ) (s : List ℕ) (limit : ℤ) (from : ℕ) (places : List ℕ) → LineFits ws s limit from (ends (length ws) places) → AreEarliest ws s limit places → AllFit ws s limit from places
earliest-AllFit ws s limit from [] f b = f
earliest-AllFit ws s limit from (p ∷ places) f b = (f, earliest-AllFit ws s limit (p + 1) places b.0.fits b.1)

pub Backing-all : (ws : List ℤ) (s : List ℕ) (limit : ℤ) (places : List ℕ) (end first : ℕ) → IsParagraph ws s → first ≡ 0 → LineFrom ws s limit end first → Backing ws s limit places end → IsOutermost ws s limit false (reverse places)
Backing-all ws s limit places end first g z f r =
    let list = reverse places in
    let h : LineFrom ws s limit end 0 = rw z at f in
    let fits : LineFits ws s limit 0 (ends (length ws) list) = rw r.to (line-fits ws s limit end 0 g r.within h) in
    record {
      chosen = earliest-AreFrom ws s limit 0 list (omega arith) r.earliest;
      fit = earliest-AllFit ws s limit 0 list fits r.earliest;
      fewest = λ other a k. let t = rest-fit ws s limit 0 other a k in earliest-fewest ws s limit list other g r.earliest t.0 t.1;
      taken = λ other a k e. Below-taken list other e (earliest-Below ws s limit list other g e r.earliest (rest-fit ws s limit 0 other a k).1);
    }
