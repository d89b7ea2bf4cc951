-- The table of pens, and what is read from it.
use Rattle.std.proofs.Common.{◌≡◌, ℕ, ℤ, pos, ◌+◌, ◌-◌, ◌^◌, ◌<◌, ◌≤◌, ◌+ℤ◌, ◌-ℤ◌, ◌≤ℤ◌, List, [], ◌∷◌, ◌++◌, length, get_or, inl, inr, refl, sym, ap, ◌∙◌, arith, length-append, true, false, ◌<ℤ◌, SFits, to_z, of_z, w64}
use lib.Signed.{le_z}
use Rattle.std.specs.Int.{int_max}
use Rattle.std.proofs.lemmas.Bool.{cases_lt}
use Rattle.std.proofs.lemmas.Int.{ints, clamps, to_z-of_z}
use Rattle.std.proofs.lemmas.List.{get_or_push, get_or_append_left}
use Rattle.line_layout.specs.Breaks.{IsParagraph, pen, width}
use Rattle.line_layout.specs.Filling.{ArePens, line_start, line_end, word_width, IsWidestWord}
use Rattle.line_layout.proofs.PenLemmas.{pen-more, pen-above, pen-small}
use Rattle.line_layout.proofs.PlaceLemmas.{start-at, end-place, end-last, end-within, start-le-end}

-- the table, as far as the walk over the items has come
pub record Pens (ws : List ℤ) (s : List ℕ) (pens : List ℤ) (at : ℤ) (index : ℕ) : Type 0 where
  pub here : at ≡ pen ws index
  pub some : length pens ≤ length s
  pub each : (j : ℕ) → j < length pens → get_or pens j (pos 0) ≡ pen ws (get_or s j 0)
  pub next : length pens < length s → index ≤ get_or s (length pens) 0

pub Pens-none : (ws : List ℤ) (s : List ℕ) → Pens ws s [] (pos 0) 0
Pens-none ws s = record { here = refl; some = omega arith; each = λ j l. absurd (omega arith); next = λ l. omega arith }

pub Pens-skip : (ws : List ℤ) (s : List ℕ) (pens : List ℤ) (at : ℤ) (index : ℕ) → index < length ws → (length pens < length s → get_or s (length pens) 0 ≡ index → ⊥) → Pens ws s pens at index → Pens ws s pens (at +ℤ get_or ws index (pos 0)) (index + 1)
Pens-skip ws s pens at index l n t =
    let e = pen-more ws index l in
    let h = t.here in
    record {
      here = omega (arith, ints, e, h);
      some = t.some;
      each = t.each;
      next = λ k. let a = t.next k in let b = n k in omega (arith, a, b);
    }

pub Pens-push : (ws : List ℤ) (s : List ℕ) (pens : List ℤ) (at : ℤ) (index : ℕ) → IsParagraph ws s → index < length ws → length pens < length s → get_or s (length pens) 0 ≡ index → Pens ws s pens at index → Pens ws s (pens ++ at ∷ []) (at +ℤ get_or ws index (pos 0)) (index + 1)
Pens-push ws s pens at index g l k i t =
    let e = pen-more ws index l in
    let h = t.here in
    let n = length-append pens (at ∷ []) in
    record {
      here = omega (arith, ints, e, h);
      some = omega (arith, n);
      each = λ j m. elim (cases_lt j (length pens)) [
        | inl b ↦ get_or_append_left pens (at ∷ []) (pos 0) j b ∙ t.each j b
        | inr b ↦
            let q : length pens ≡ j = omega (arith, n) in
            get_or_push pens at (pos 0) j q ∙ h ∙ ap (pen ws) (sym i ∙ ap (λ x. get_or s x 0) q)
      ];
      next = λ m.
          let a = g.ascending (length pens) (omega (arith, n)) in
          let f : get_or s (length (pens ++ at ∷ [])) 0 ≡ get_or s (length pens + 1) 0 = ap (λ x. get_or s x 0) n in
          omega (arith, a, f, i);
    }

pub Pens-all : (ws : List ℤ) (s : List ℕ) (pens : List ℤ) (at : ℤ) (index : ℕ) → index ≡ length ws → IsParagraph ws s → Pens ws s pens at index → ArePens ws s (pens ++ at ∷ [])
Pens-all ws s pens at index i g t =
    let n = length-append pens (at ∷ []) in
    let o = t.some in
    let full : length pens ≡ length s = elim (cases_lt (length pens) (length s)) [
      | inl l ↦ let a = t.next l in let b = g.within (length pens) l in absurd (omega (arith, a, b, i))
      | inr l ↦ omega (arith, o, l)
    ] in
    record {
      count = omega (arith, n, full);
      each = λ k m. elim (cases_lt k (length pens)) [
        | inl b ↦ get_or_append_left pens (at ∷ []) (pos 0) k b ∙ t.each k b ∙ ap (pen ws) (sym (end-place ws s k (omega arith)))
        | inr b ↦ get_or_push pens at (pos 0) k (omega arith) ∙ t.here ∙ ap (pen ws) (i ∙ sym (end-last ws s k (omega arith)))
      ];
    }

-- where a line begins after a place
pub begin-is : (ws : List ℤ) (s : List ℕ) (pens : List ℤ) (k : ℕ) → IsParagraph ws s → ArePens ws s pens → 0 < k → k ≤ length s → (get_or pens (k - 1) (pos 0) +ℤ get_or ws (get_or s (k - 1) 0) (pos 0)) ≡ pen ws (line_start s k)
begin-is ws s pens k g t z l =
    let a = t.each (k - 1) (omega arith) in
    let b : pen ws (line_end ws s (k - 1)) ≡ pen ws (get_or s (k - 1) 0) = ap (pen ws) (end-place ws s (k - 1) (omega arith)) in
    let d = pen-more ws (get_or s (k - 1) 0) (g.within (k - 1) (omega arith)) in
    let e : pen ws (line_start s k) ≡ pen ws (get_or s (k - 1) 0 + 1) = ap (pen ws) (start-at s (k - 1) k (omega arith)) in
    omega (arith, ints, a, b, d, e)

pub start-bounds : (ws : List ℤ) (s : List ℕ) (k : ℕ) → IsParagraph ws s → k ≤ length s → (pos 0 ≤ℤ pen ws (line_start s k)) × (pen ws (line_start s k) ≤ℤ pos (2 ^ 47))
start-bounds ws s k g l =
    let a = start-le-end ws s k g l in
    let b = end-within ws s k g in
    (pen-above ws s (line_start s k) g, pen-small ws s (line_start s k) g (omega (arith, a, b)))

pub pens-bounds : (ws : List ℤ) (s : List ℕ) (pens : List ℤ) (k : ℕ) → IsParagraph ws s → ArePens ws s pens → k ≤ length s → (pos 0 ≤ℤ get_or pens k (pos 0)) × (get_or pens k (pos 0) ≤ℤ pos (2 ^ 47))
pens-bounds ws s pens k g t l =
    let e = t.each k l in
    let a = pen-above ws s (line_end ws s k) g in
    let b = pen-small ws s (line_end ws s k) g (end-within ws s k g) in
    (omega (arith, ints, e, a), omega (arith, ints, e, b))

-- the widest word, as far as the walk over the words has come
pub record Words (ws : List ℤ) (s : List ℕ) (widest : ℤ) (index : ℕ) : Type 0 where
  pub above : (j : ℕ) → j < index → word_width ws s j ≤ℤ widest
  pub least : (other : ℤ) → ((j : ℕ) → j < index → word_width ws s j ≤ℤ other) → widest ≤ℤ other

pub Words-one : (ws : List ℤ) (s : List ℕ) (pens : List ℤ) → ArePens ws s pens → Words ws s (get_or pens 0 (pos 0)) 1
Words-one ws s pens t =
    let e = t.each 0 (omega arith) in
    let z : pen ws (line_start s 0) ≡ pos 0 = refl in
    record {
      above = λ j l. let i : word_width ws s j ≡ word_width ws s 0 = ap (word_width ws s) (omega arith) in omega (arith, ints, e, i, z);
      least = λ other h. let i = h 0 (omega arith) in omega (arith, ints, e, i, z);
    }

pub Words-more : (ws : List ℤ) (s : List ℕ) (widest word : ℤ) (index : ℕ) → word ≡ word_width ws s index → Words ws s widest index → Words ws s (int_max widest word) (index + 1)
Words-more ws s widest word index e t =
    record {
      above = λ j l. elim (cases_lt j index) [
        | inl k ↦ let a = t.above j k in omega (arith, ints, clamps, a)
        | inr k ↦ let i : word_width ws s j ≡ word_width ws s index = ap (word_width ws s) (omega arith) in omega (arith, ints, clamps, e, i)
      ];
      least = λ other h.
          let a = t.least other (λ j l. h j (omega arith)) in
          let b = h index (omega arith) in
          omega (arith, ints, clamps, a, b, e);
    }

pub Words-all : (ws : List ℤ) (s : List ℕ) (widest : ℤ) (index : ℕ) → index ≡ length s + 1 → Words ws s widest index → IsWidestWord ws s widest
Words-all ws s widest index e t = record {
  above = λ k l. t.above k (omega arith);
  least = λ other h. t.least other (λ j l. h j (omega arith));
}

-- the width of a line, by the table
pub line-is : (ws : List ℤ) (s : List ℕ) (pens : List ℤ) (begin : ℤ) (first end : ℕ) → ArePens ws s pens → end ≤ length s → begin ≡ pen ws (line_start s first) → (get_or pens end (pos 0) -ℤ begin) ≡ width ws (line_start s first) (line_end ws s end)
line-is ws s pens begin first end t l e = let a = t.each end l in omega (arith, ints, a, e)

-- and it fits its type
pub line-bounds : (ws : List ℤ) (s : List ℕ) (pens : List ℤ) (begin : ℤ) (first end : ℕ) → IsParagraph ws s → ArePens ws s pens → end ≤ length s → first ≤ length s → begin ≡ pen ws (line_start s first) → SFits w64 (get_or pens end (pos 0) -ℤ begin)
line-bounds ws s pens begin first end g t l m e =
    let a = pens-bounds ws s pens end g t l in
    let b = start-bounds ws s first g m in
    let h = a.0 in
    let i = a.1 in
    let j = b.0 in
    let k = b.1 in
    omega (arith, ints, e, h, i, j, k)

pub pen-fits : (ws : List ℤ) (s : List ℕ) (pens : List ℤ) (end : ℕ) → IsParagraph ws s → ArePens ws s pens → end ≤ length s → SFits w64 (get_or pens end (pos 0))
pen-fits ws s pens end g t l =
    let a = pens-bounds ws s pens end g t l in
    let h = a.0 in
    let i = a.1 in
    omega (arith, ints, h, i)

pub item-fits : (ws : List ℤ) (s : List ℕ) (k : ℕ) → IsParagraph ws s → k < length ws → SFits w64 (get_or ws k (pos 0))
item-fits ws s k g l =
    let a = (g.narrow k (pos 0) l).0 in
    let b = (g.narrow k (pos 0) l).1 in
    omega (arith, ints, a, b)

pub next-fits : (ws : List ℤ) (s : List ℕ) (at : ℤ) (k : ℕ) → IsParagraph ws s → k < length ws → at ≡ pen ws k → SFits w64 (at +ℤ get_or ws k (pos 0))
next-fits ws s at k g l e =
    let a = (g.narrow k (pos 0) l).0 in
    let b = (g.narrow k (pos 0) l).1 in
    let c = pen-above ws s k g in
    let d = pen-small ws s k g (omega arith) in
    omega (arith, ints, a, b, c, d, e)

narrow-test : (w limit : ℤ) → le_z w limit ≡ true → w ≤ℤ limit
narrow-test w limit h = grind (arith, ints)

wide-test : (w limit : ℤ) → le_z w limit ≡ false → limit <ℤ w
wide-test w limit h = grind (arith, ints)

-- what the test says that compares a line's width with the limit
-- What the code reads of a line off the table: the difference fits, and the test of it tells the line's width.
pub record IsRead (p b limit w : ℤ) : Type 0 where
  pub fits : SFits w64 (to_z w64 (of_z w64 p) -ℤ to_z w64 (of_z w64 b))
  pub narrow : le_z (to_z w64 (of_z w64 (to_z w64 (of_z w64 p) -ℤ to_z w64 (of_z w64 b)))) (to_z w64 (of_z w64 limit)) ≡ true → w ≤ℤ limit
  pub wide : le_z (to_z w64 (of_z w64 (to_z w64 (of_z w64 p) -ℤ to_z w64 (of_z w64 b)))) (to_z w64 (of_z w64 limit)) ≡ false → limit <ℤ w

pub line_read : (ws : List ℤ) (s : List ℕ) (pens : List ℤ) (begin limit : ℤ) (first end : ℕ) → IsParagraph ws s → ArePens ws s pens → end ≤ length s → first ≤ length s → begin ≡ pen ws (line_start s first) → SFits w64 begin → SFits w64 limit
    → IsRead (get_or pens end (pos 0)) begin limit (width ws (line_start s first) (line_end ws s end))
line_read ws s pens begin limit first end g t l m e fb fl =
    let p = get_or pens end (pos 0) in
    let fp = pen-fits ws s pens end g t l in
    let fd = line-bounds ws s pens begin first end g t l m e in
    let is = line-is ws s pens begin first end t l e in
    record {
      fits = rw (to_z-of_z w64 p fp, to_z-of_z w64 begin fb) fd;
      narrow = λ h. narrow-test _ limit (rw (to_z-of_z w64 p fp, to_z-of_z w64 begin fb, to_z-of_z w64 (p -ℤ begin) fd, to_z-of_z w64 limit fl, is) at h);
      wide = λ h. wide-test _ limit (rw (to_z-of_z w64 p fp, to_z-of_z w64 begin fb, to_z-of_z w64 (p -ℤ begin) fd, to_z-of_z w64 limit fl, is) at h);
    }
