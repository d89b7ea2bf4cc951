-- Sums of lists of numbers that stand one behind the other.
use Rattle.std.proofs.Common.{◌≡◌, ℕ, ◌+◌, ◌<◌, ◌==◌, Bool, true, false, ◌&&◌, ℤ, List, [], ◌∷◌, ◌++◌, length, take, get_or, refl, sym, ap, ◌∙◌}
use Rattle.std.specs.Prelude.{if◌then◌else◌}
use Rattle.std.proofs.lemmas.Bool.{ne_eqb}
use Rattle.std.proofs.lemmas.List.{take_more}
use Rattle.std.proofs.lemmas.List.Concat.{flat_map-append}
use Rattle.std.specs.List.{flat_map}
use Rattle.ass_num.specs.declared.geometry.Matrix.{Matrix}
use Rattle.ass_num.specs.declared.geometry.Path.{Path}
use Rattle.ass_num.specs.declared.geometry.Point.{Point}
use Rattle.ass_num.specs.declared.geometry.Seg.TheVariants.{Spline}
use Rattle.flight_cache.specs.Meaning.{mixed, mixed_all, SumView}
use Rattle.mask_keys.specs.declared.region_key.RegionKey.{RegionKey}
use Rattle.mask_keys.specs.declared.outline_key.OutlineKey.TheVariants.{Drawing}
use Rattle.mask_keys.specs.Numbers.{flag_of, length_word, matrix_numbers, outline_numbers, point_numbers, region_numbers, seg_numbers, word_of}

pub mixed_all-append : (sum : SumView) (ms ns : List ℕ) → mixed_all sum (ms ++ ns) ≡ mixed_all (mixed_all sum ms) ns
mixed_all-append sum [] ns = refl
mixed_all-append sum (m ∷ ms) ns = mixed_all-append (mixed sum m) ms ns

-- the numbers of one item more
pub mixed_more : {X : Type 0} (f : X → List ℕ) (xs : List X) (k : ℕ) (x d : X) (first sum more : SumView) → k < length xs → x ≡ get_or xs k d
    → sum ≡ mixed_all first (flat_map f (take k xs)) → more ≡ mixed_all sum (f x) → more ≡ mixed_all first (flat_map f (take (k + 1) xs))
mixed_more f xs k x d first sum more l at before step =
    let front = flat_map f (take k xs) in
    let item : take (k + 1) xs ≡ take k xs ++ x ∷ [] = take_more xs k d l ∙ ap (λ z. take k xs ++ z ∷ []) (sym at) in
    step ∙ ap (λ z. mixed_all z (f x)) before
    ∙ sym (mixed_all-append (mixed_all first front) (f x) [])
    ∙ sym (mixed_all-append first front (f x ++ []))
    ∙ ap (mixed_all first) (sym (flat_map-append f (take k xs) (x ∷ [])))
    ∙ ap (λ z. mixed_all first (flat_map f z)) (sym item)

-- one list of numbers behind another
pub mixed_behind : (first sum more : SumView) (ms ns : List ℕ) → sum ≡ mixed_all first ms → more ≡ mixed_all sum ns → more ≡ mixed_all first (ms ++ ns)
mixed_behind first sum more ms ns before step = step ∙ ap (λ z. mixed_all z ns) before ∙ sym (mixed_all-append first ms ns)

pub mixed_spline : (start one two three last : SumView) (controls : List Point) (closed : Bool) → one ≡ mixed start 3 → two ≡ mixed one (length_word controls)
    → three ≡ mixed_all two (flat_map point_numbers controls) → last ≡ mixed three (flag_of closed) → last ≡ mixed_all start (seg_numbers (Spline controls closed))
mixed_spline start one two three last controls closed a b c d =
    let count = length_word controls in
    let points = flat_map point_numbers controls in
    mixed_behind (mixed (mixed start 3) count) three last points (flag_of closed ∷ []) (c ∙ ap (λ z. mixed_all z points) (b ∙ ap (λ z. mixed z count) a)) d

pub mixed_drawing : (start one two three four last : SumView) (path : Path) (m : Matrix) (shift : ℤ) → one ≡ mixed start 1 → two ≡ mixed one (length_word path.segs)
    → three ≡ mixed_all two (flat_map seg_numbers path.segs) → four ≡ mixed_all three (matrix_numbers m) → last ≡ mixed four (word_of shift)
    → last ≡ mixed_all start (outline_numbers (Drawing path m shift))
mixed_drawing start one two three four last path m shift a b c d e =
    let count = length_word path.segs in
    let segs = flat_map seg_numbers path.segs in
    let front : three ≡ mixed_all start (1 ∷ count ∷ segs) = c ∙ ap (λ z. mixed_all z segs) (b ∙ ap (λ z. mixed z count) a) in
    mixed_behind start four last ((1 ∷ count ∷ segs) ++ matrix_numbers m) (word_of shift ∷ []) (mixed_behind start three four (1 ∷ count ∷ segs) (matrix_numbers m) front d) e

-- ---- the numbers of a region with a border

and_false : (b : Bool) → (b && false) ≡ false
and_false true = refl
and_false false = refl

pub wide : (a b : ℕ) → (a ≡ 0 → ⊥) → ((a == 0) && (b == 0)) ≡ false
wide a b h = ap (λ z. z && (b == 0)) (ne_eqb a 0 h)

pub high : (a b : ℕ) → (b ≡ 0 → ⊥) → ((a == 0) && (b == 0)) ≡ false
high a b h = ap (λ z. (a == 0) && z) (ne_eqb b 0 h) ∙ and_false (a == 0)

pub mixed_border : (key : RegionKey) (start one two three last : SumView) → ((key.rx == 0) && (key.ry == 0)) ≡ false
    → one ≡ mixed start 3 → two ≡ mixed_all one (outline_numbers key.outline) → three ≡ mixed two key.rx → last ≡ mixed three key.ry → last ≡ mixed_all start (region_numbers key)
mixed_border key start one two three last border a b c d =
    let plain = outline_numbers key.outline in
    let radii = key.rx ∷ key.ry ∷ [] in
    let numbers : region_numbers key ≡ (3 ∷ plain) ++ radii = ap (λ z. if z then plain else (3 ∷ plain) ++ radii) border in
    let front : two ≡ mixed_all start (3 ∷ plain) = b ∙ ap (λ z. mixed_all z plain) a in
    mixed_behind start two last (3 ∷ plain) radii front (d ∙ ap (λ z. mixed z key.ry) c) ∙ ap (mixed_all start) (sym numbers)
