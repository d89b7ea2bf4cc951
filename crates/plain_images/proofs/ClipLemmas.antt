-- Rows of masks under a drawn clip: left of its box, in it and right of it.
use Rattle.std.proofs.Common.{◌≡◌, ℕ, ◌+◌, ◌-◌, ◌*◌, ◌<◌, ◌≤◌, inl, inr, ⊎_elim, ℤ, pos, Bool, true, false, ◌&&◌, if◌then◌else◌, ◌≤ℤ◌, List, ◌++◌, length, length-append, get_or, slice_index, take, drop, refl, sym, ap, ◌∙◌, arith}
use Rattle.std.proofs.Math.Bool.{and-true}
use Rattle.std.proofs.lemmas.Bool.{cases_lt}
use Rattle.std.proofs.lemmas.Int.{ints}
use Rattle.std.proofs.lemmas.List.{append-nil, drop_all, get_or_append_left, get_or-append-add, take_all}
use Rattle.ass_num.specs.Masks.{MaskValue}
use Rattle.blend.specs.Areas.{in_moved_box}
use Rattle.blend.specs.Blending.{by_255}
use Rattle.plain_images.specs.Cutting.{AddsBytes, IsPartInBox, IsRowPane}
use Rattle.plain_images.specs.Panes.{IsPartOf, box_pane, both_panes, in_pane, is_empty_pane}
use Rattle.plain_images.specs.declared.panes.Pane.{Pane}
use Rattle.plain_images.proofs.ByteLemmas.{adds_same}
use Rattle.plain_images.proofs.PaneLemmas.{empty_lacks, has, in_both, lacks, other_part, sides}

-- a pixel of the row lies in the box where it lies in what both have
in_part : (moved : MaskValue × ℤ × ℤ) (row part : Pane) (x j count k : ℕ) → IsRowPane x j count row → part ≡ both_panes (box_pane moved.0 moved.1 moved.2) row
    → k < count → in_pane part (pos (x + k)) (pos j) ≡ in_moved_box moved (x + k) j
in_part moved row part x j count k is e l =
    let box = box_pane moved.0 moved.1 moved.2 in
    let here : in_pane row (pos (x + k)) (pos j) ≡ true = has row (pos (x + k)) (pos j)
    (omega (arith, ints, is.left)) (omega (arith, ints, is.right)) (omega (arith, ints, is.top)) (omega (arith, ints, is.bottom)) in
    let both : in_pane (both_panes box row) (pos (x + k)) (pos j) ≡ (in_pane box (pos (x + k)) (pos j) && in_pane row (pos (x + k)) (pos j)) =
    in_both box row (pos (x + k)) (pos j) in
    rw e (both ∙ rw here (and-true (in_pane box (pos (x + k)) (pos j))))

-- the row doesn't meet the box
pub part_none : (moved : MaskValue × ℤ × ℤ) (row part : Pane) (x j count : ℕ) → IsRowPane x j count row → part ≡ both_panes (box_pane moved.0 moved.1 moved.2) row
    → is_empty_pane part ≡ true → IsPartInBox moved x j count (record { from = count; to = count })
part_none moved row part x j count is e empty = record {
  ordered = omega arith;
  within = omega arith;
  before = λ k l. sym (in_part moved row part x j count k is e l) ∙ empty_lacks part (pos (x + k)) (pos j) empty;
  inside = λ k l h. absurd (omega arith);
  behind = λ k l h. absurd (omega arith);
}

-- it meets the box in some columns of the row
pub part_columns : (moved : MaskValue × ℤ × ℤ) (row part : Pane) (x j count : ℕ) → IsRowPane x j count row → part ≡ both_panes (box_pane moved.0 moved.1 moved.2) row
    → is_empty_pane part ≡ false → (row.x1 ≤ℤ part.x1) × (part.x1 ≤ℤ part.x2) × (part.x2 ≤ℤ pos (x + count))
part_columns moved row part x j count is e some =
    let wide = (sides part some).wide in
    let inner : IsPartOf part row = rw e (other_part (box_pane moved.0 moved.1 moved.2) row) in
    let left = inner.left in
    let right = inner.right in
    let end = is.right in
    (left, omega (arith, ints), omega (arith, ints))

-- it meets the box in these columns
pub part_some : (moved : MaskValue × ℤ × ℤ) (row part : Pane) (x j count from to : ℕ) → IsRowPane x j count row → part ≡ both_panes (box_pane moved.0 moved.1 moved.2) row
    → is_empty_pane part ≡ false → pos (x + from) ≡ part.x1 → pos (x + to) ≡ part.x2 → IsPartInBox moved x j count (record { from = from; to = to })
part_some moved row part x j count from to is e some first last =
    let box = box_pane moved.0 moved.1 moved.2 in
    let side = sides part some in
    let wide = side.wide in
    let high = side.high in
    let inner : IsPartOf part row = rw e (other_part box row) in
    let left = inner.left in
    let right = inner.right in
    let top = inner.top in
    let bottom = inner.bottom in
    let rl = is.left in
    let rr = is.right in
    let rt = is.top in
    let rb = is.bottom in
    record {
      ordered = omega (arith, ints);
      within = omega (arith, ints);
      before = λ k l. sym (in_part moved row part x j count k is e (omega (arith, ints))) ∙ lacks part (pos (x + k)) (pos j) (inl (inl (omega (arith, ints))));
      inside = λ k l h. sym (in_part moved row part x j count k is e (omega (arith, ints)))
          ∙ has part (pos (x + k)) (pos j) (omega (arith, ints)) (omega (arith, ints)) (omega (arith, ints)) (omega (arith, ints));
      behind = λ k l h. sym (in_part moved row part x j count k is e h) ∙ lacks part (pos (x + k)) (pos j) (inl (inr (omega (arith, ints))));
    }

-- ---- bytes behind bytes

-- some bytes, and more behind them
pub adds_both : (f g : ℕ → ℕ) (n m : ℕ) (old mid new : List ℕ) → AddsBytes f n old mid → AddsBytes g m mid new → ((k : ℕ) → k < m → g k ≡ f (n + k)) → AddsBytes f (n + m) old new
adds_both f g n m old mid new first second same =
    let a = first.count in
    let b = second.count in
    record {
      count = omega arith;
      kept = λ k h. second.kept k (omega arith) ∙ first.kept k h;
      added = λ k h. ⊎_elim
          (λ (less : k < n). second.kept (length old + k) (omega arith) ∙ first.added k less)
          (λ (past : n ≤ k).
          let at : length old + k ≡ length mid + (k - n) = omega arith in
          let number : n + (k - n) ≡ k = omega arith in
          rw at (second.added (k - n) (omega arith) ∙ rw number at (same (k - n) (omega arith))))
          (cases_lt k n);
    }

-- bytes of a row that were put under those of a clip
pub adds_clipped : (inverse : Bool) (row over old mid new : List ℕ) → mid ≡ old ++ row → length row ≡ length over → length new ≡ length mid
    → ((k : ℕ) → k < length old → slice_index new k ≡ slice_index mid k)
    → ((k : ℕ) → k < length over → slice_index new (length old + k) ≡ by_255 (slice_index mid (length old + k) * (if inverse then 255 - slice_index over k else slice_index over k)))
    → AddsBytes (λ k. by_255 (slice_index row k * (if inverse then 255 - slice_index over k else slice_index over k))) (length row) old new
adds_clipped inverse row over old mid new is count long same clipped =
    let n : length mid ≡ length old + length row = ap length is ∙ length-append old row in
    record {
      count = omega arith;
      kept = λ k h. same k h ∙ ap (λ (xs : List ℕ). get_or xs k 0) is ∙ get_or_append_left old row 0 k h;
      added = λ k h. clipped k (omega arith)
          ∙ ap (λ (m : ℕ). by_255 (m * (if inverse then 255 - slice_index over k else slice_index over k))) (ap (λ (xs : List ℕ). get_or xs (length old + k) 0) is ∙ get_or-append-add old row k 0);
    }

-- what is written back into a vector of the same length
pub written : (n : ℕ) (new old : List ℕ) → length new ≡ length old → n ≡ length old → take n (new ++ drop (length new) old) ≡ new
written n new old same whole =
    ap (λ xs. take n (new ++ xs)) (drop_all (length new) old (omega arith)) ∙ ap (take n) (append-nil new) ∙ take_all n new (omega arith)

-- outside the box nothing is left of a byte, or all of it
pub under_none : (inverse : Bool) (m over : ℕ) → over ≡ 0 → (if inverse then m else 0) ≡ by_255 (m * (if inverse then 255 - over else over))
under_none true m over e = rw e (omega arith)
under_none false m over e = rw e (omega arith)

-- A row under a drawn clip whose values are `value`: a head and a tail that it doesn't cover, and between them the part under its bytes.
pub under_parts : (inverse : Bool) (value : ℕ → ℕ) (row head part tail over old mid late new : List ℕ) (from to : ℕ) → from ≤ to → to ≤ length row
    → ((k : ℕ) → k < from → value k ≡ 0) → ((k : ℕ) → k < to - from → slice_index over k ≡ value (from + k)) → ((k : ℕ) → to ≤ k → k < length row → value k ≡ 0)
    → length head ≡ from → ((k : ℕ) → k < from → slice_index head k ≡ slice_index row k)
    → length part ≡ to - from → ((k : ℕ) → k < to - from → slice_index part k ≡ slice_index row (from + k))
    → length tail ≡ length row - to → ((k : ℕ) → k < length row - to → slice_index tail k ≡ slice_index row (to + k))
    → AddsBytes (λ k. if inverse then slice_index head k else 0) (length head) old mid
    → AddsBytes (λ k. by_255 (slice_index part k * (if inverse then 255 - slice_index over k else slice_index over k))) (length part) mid late
    → AddsBytes (λ k. if inverse then slice_index tail k else 0) (length tail) late new
    → AddsBytes (λ k. by_255 (slice_index row k * (if inverse then 255 - value k else value k))) (length row) old new
under_parts inverse value row head part tail over old mid late new from to ascends within before inside behind hn hs pn ps tn ts ha pa ta =
    let f = λ (k : ℕ). by_255 (slice_index row k * (if inverse then 255 - value k else value k)) in
    let a : AddsBytes f from old mid = adds_same (λ k. if inverse then slice_index head k else 0) f (length head) from old mid ha hn
    (λ k l. rw (hs k l) (under_none inverse (slice_index row k) (value k) (before k l))) in
    let b : AddsBytes (λ k. f (from + k)) (to - from) mid late =
    adds_same (λ k. by_255 (slice_index part k * (if inverse then 255 - slice_index over k else slice_index over k))) (λ k. f (from + k)) (length part) (to - from) mid late pa pn
    (λ k l. rw (ps k l, inside k l) refl) in
    let c : AddsBytes (λ k. f (to + k)) (length row - to) late new =
    adds_same (λ k. if inverse then slice_index tail k else 0) (λ k. f (to + k)) (length tail) (length row - to) late new ta tn
    (λ k l. rw (ts k l) (under_none inverse (slice_index row (to + k)) (value (to + k)) (behind (to + k) (omega arith) (omega arith)))) in
    let up : from + (to - from) ≡ to = omega arith in
    let whole : to + (length row - to) ≡ length row = omega arith in
    let ab : AddsBytes f to old late = rw up at (adds_both f (λ k. f (from + k)) from (to - from) old mid late a b (λ k l. refl)) in
    rw whole at (adds_both f (λ k. f (to + k)) to (length row - to) old late new ab c (λ k l. refl))

-- the whole row lies outside the box
pub under_outside : (inverse : Bool) (value : ℕ → ℕ) (row old new : List ℕ) → ((k : ℕ) → k < length row → value k ≡ 0)
    → AddsBytes (λ k. if inverse then slice_index row k else 0) (length row) old new
    → AddsBytes (λ k. by_255 (slice_index row k * (if inverse then 255 - value k else value k))) (length row) old new
under_outside inverse value row old new none adds =
    adds_same (λ k. if inverse then slice_index row k else 0) (λ k. by_255 (slice_index row k * (if inverse then 255 - value k else value k))) (length row) (length row) old new adds refl
    (λ k l. under_none inverse (slice_index row k) (value k) (none k l))
