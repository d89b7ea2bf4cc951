-- Numbers that are enough for a stroke more, and for a flex.
use Rattle.std.proofs.Common.{◌≡◌, ℕ, ◌-◌, ◌<◌, ◌≤◌, ◌%◌, ℤ, pos, neg_ℤ, ◌-ℤ◌, List, [], ◌∷◌, ◌++◌, length, take, drop, slice_index_or, Bool, Option, Some, None, refl, sym, ap, ap₂, ◌∙◌, append_assoc, arith}
use Rattle.std.specs.Prelude.{not, option_and_then, option_map}
use Rattle.std.proofs.lemmas.Int.{ints}
use Rattle.std.proofs.lemmas.List.{take_all}
use Rattle.ass_num.specs.declared.geometry.Point.{Point}
use Rattle.cff_font.specs.declared.flex.Flex.{Flex}
use Rattle.outline_points.specs.declared.stroke.Stroke.{Stroke}
use Rattle.outline_points.specs.declared.stroke.Stroke.TheVariants.{Curve}
use Rattle.cff_font.specs.Strokes.{step, step_along, curve_by, last_step, curves_of, even_curves, even_curves_of, turning_curves, sole, end_of_steps, point_behind}
use Rattle.cff_font.specs.Strokes.{origin, level_flex, level_flex_by, closed_flex, closed_flex_by, free_flex, free_flex_by}

abbrev pub at : List ℤ → ℕ → ℤ
at xs i = slice_index_or xs i (pos 0)

-- the numbers behind the first n
abbrev pub behind : ℕ → List ℤ → List ℤ
behind n xs = take (length xs - n) (drop n xs)

pub curves-long : (xs : List ℤ) → 6 ≤ length xs → curves_of xs ≡ Curve (step (at xs 0) (at xs 1)) (step (at xs 2) (at xs 3)) (step (at xs 4) (at xs 5)) ∷ curves_of (behind 6 xs)
curves-long (a ∷ b ∷ c ∷ d ∷ e ∷ f ∷ xs) long =
    ap (λ rest. Curve (step a b) (step c d) (step e f) ∷ curves_of rest) (sym (take_all (length (a ∷ b ∷ c ∷ d ∷ e ∷ f ∷ xs) - 6) xs (omega arith)))
curves-long [] long = absurd (omega arith)
curves-long (a ∷ []) long = absurd (omega arith)
curves-long (a ∷ b ∷ []) long = absurd (omega arith)
curves-long (a ∷ b ∷ c ∷ []) long = absurd (omega arith)
curves-long (a ∷ b ∷ c ∷ d ∷ []) long = absurd (omega arith)
curves-long (a ∷ b ∷ c ∷ d ∷ e ∷ []) long = absurd (omega arith)

pub even-long : (is_level : Bool) (aside : ℤ) (xs : List ℤ) → 4 ≤ length xs →
    even_curves is_level aside xs ≡ Curve (step_along is_level (at xs 0) aside) (step (at xs 1) (at xs 2)) (step_along is_level (at xs 3) (pos 0)) ∷ even_curves is_level (pos 0) (behind 4 xs)
even-long is_level aside (a ∷ b ∷ c ∷ d ∷ xs) long =
    ap (λ rest. Curve (step_along is_level a aside) (step b c) (step_along is_level d (pos 0)) ∷ even_curves is_level (pos 0) rest) (sym (take_all (length (a ∷ b ∷ c ∷ d ∷ xs) - 4) xs (omega arith)))
even-long is_level aside [] long = absurd (omega arith)
even-long is_level aside (a ∷ []) long = absurd (omega arith)
even-long is_level aside (a ∷ b ∷ []) long = absurd (omega arith)
even-long is_level aside (a ∷ b ∷ c ∷ []) long = absurd (omega arith)

pub turning-long : (is_level : Bool) (xs : List ℤ) → 4 ≤ length xs →
    turning_curves is_level xs ≡ Curve (step_along is_level (at xs 0) (pos 0)) (step (at xs 1) (at xs 2)) (step_along (not is_level) (at xs 3) (sole (behind 4 xs))) ∷ turning_curves (not is_level) (behind 4 xs)
turning-long is_level (a ∷ b ∷ c ∷ d ∷ xs) long =
    ap (λ rest. Curve (step_along is_level a (pos 0)) (step b c) (step_along (not is_level) d (sole rest)) ∷ turning_curves (not is_level) rest) (sym (take_all (length (a ∷ b ∷ c ∷ d ∷ xs) - 4) xs (omega arith)))
turning-long is_level [] long = absurd (omega arith)
turning-long is_level (a ∷ []) long = absurd (omega arith)
turning-long is_level (a ∷ b ∷ []) long = absurd (omega arith)
turning-long is_level (a ∷ b ∷ c ∷ []) long = absurd (omega arith)

pub steps-long : (p : Point) (xs : List ℤ) → 2 ≤ length xs → end_of_steps p xs ≡ option_and_then (λ q. end_of_steps q (behind 2 xs)) (point_behind p (step (at xs 0) (at xs 1)))
steps-long p (a ∷ b ∷ xs) long = ap (λ rest. option_and_then (λ q. end_of_steps q rest) (point_behind p (step a b))) (sym (take_all (length (a ∷ b ∷ xs) - 2) xs (omega arith)))
steps-long p [] long = absurd (omega arith)
steps-long p (a ∷ []) long = absurd (omega arith)

-- a stroke that is drawn in front of the others
pub drawn-more : (drawn : List Stroke) (s : Stroke) (rest : List Stroke) {after whole : List Stroke} → after ≡ drawn ++ s ∷ [] → whole ≡ s ∷ rest → after ++ rest ≡ drawn ++ whole
drawn-more drawn s rest added first = ap (λ xs. xs ++ rest) added ∙ (append_assoc drawn (s ∷ []) rest ∙ ap (λ xs. drawn ++ xs) (sym first))

-- the same for a curve
pub curve-more : (drawn : List Stroke) (p q r : Point) (rest : List Stroke) {after whole : List Stroke} {first end : Point} →
    after ≡ drawn ++ Curve p q r ∷ [] → p ≡ first → r ≡ end → whole ≡ Curve first q end ∷ rest → after ++ rest ≡ drawn ++ whole
curve-more drawn p q r rest added first end whole = drawn-more drawn (Curve p q r) rest added (whole ∙ ap₂ (λ a b. Curve a q b ∷ rest) (sym first) (sym end))

pub aside-first : (is_level : Bool) (xs : List ℤ) → 0 < length xs → (length xs - 1) % 4 ≡ 0 → even_curves_of is_level xs ≡ even_curves is_level (at xs 0) (behind 1 xs)
aside-first is_level [] some whole = absurd (omega arith)
aside-first is_level (aside ∷ rest) some whole =
    let here : even_curves_of is_level (aside ∷ rest) ≡ even_curves is_level aside rest = grind arith in
    here ∙ ap (even_curves is_level aside) (sym (take_all (length (aside ∷ rest) - 1) rest (omega arith)))

-- ---- flex

pub level_flex-is : (xs : List ℤ) → length xs ≡ 7 → level_flex xs ≡ option_map (level_flex_by (at xs 0) (at xs 1) (at xs 2) (at xs 3) (at xs 4) (at xs 5) (at xs 6)) (point_behind origin (step (at xs 1) (at xs 2)))
level_flex-is (a ∷ b ∷ c ∷ d ∷ e ∷ f ∷ g ∷ []) seven = refl
level_flex-is [] seven = absurd (omega arith)
level_flex-is (a ∷ []) seven = absurd (omega arith)
level_flex-is (a ∷ b ∷ []) seven = absurd (omega arith)
level_flex-is (a ∷ b ∷ c ∷ []) seven = absurd (omega arith)
level_flex-is (a ∷ b ∷ c ∷ d ∷ []) seven = absurd (omega arith)
level_flex-is (a ∷ b ∷ c ∷ d ∷ e ∷ []) seven = absurd (omega arith)
level_flex-is (a ∷ b ∷ c ∷ d ∷ e ∷ f ∷ []) seven = absurd (omega arith)
level_flex-is (a ∷ b ∷ c ∷ d ∷ e ∷ f ∷ g ∷ h ∷ xs) seven = absurd (omega arith)

pub closed_flex-is : (xs : List ℤ) → length xs ≡ 9 →
    closed_flex xs ≡ option_map (closed_flex_by (at xs 0) (at xs 1) (at xs 2) (at xs 3) (at xs 4) (at xs 5) (at xs 6) (at xs 7) (at xs 8)) (end_of_steps origin (at xs 0 ∷ at xs 1 ∷ at xs 2 ∷ at xs 3 ∷ at xs 6 ∷ at xs 7 ∷ []))
closed_flex-is (a ∷ b ∷ c ∷ d ∷ e ∷ f ∷ g ∷ h ∷ i ∷ []) nine = refl
closed_flex-is [] nine = absurd (omega arith)
closed_flex-is (a ∷ []) nine = absurd (omega arith)
closed_flex-is (a ∷ b ∷ []) nine = absurd (omega arith)
closed_flex-is (a ∷ b ∷ c ∷ []) nine = absurd (omega arith)
closed_flex-is (a ∷ b ∷ c ∷ d ∷ []) nine = absurd (omega arith)
closed_flex-is (a ∷ b ∷ c ∷ d ∷ e ∷ []) nine = absurd (omega arith)
closed_flex-is (a ∷ b ∷ c ∷ d ∷ e ∷ f ∷ []) nine = absurd (omega arith)
closed_flex-is (a ∷ b ∷ c ∷ d ∷ e ∷ f ∷ g ∷ []) nine = absurd (omega arith)
closed_flex-is (a ∷ b ∷ c ∷ d ∷ e ∷ f ∷ g ∷ h ∷ []) nine = absurd (omega arith)
closed_flex-is (a ∷ b ∷ c ∷ d ∷ e ∷ f ∷ g ∷ h ∷ i ∷ j ∷ xs) nine = absurd (omega arith)

pub free_flex-is : (xs : List ℤ) → length xs ≡ 11 →
    free_flex xs ≡ option_map (free_flex_by (at xs 0) (at xs 1) (at xs 2) (at xs 3) (at xs 4) (at xs 5) (at xs 6) (at xs 7) (at xs 8) (at xs 9) (at xs 10)) (end_of_steps origin (take 10 xs))
free_flex-is (a ∷ b ∷ c ∷ d ∷ e ∷ f ∷ g ∷ h ∷ i ∷ j ∷ last ∷ []) eleven = refl
free_flex-is [] eleven = absurd (omega arith)
free_flex-is (a ∷ []) eleven = absurd (omega arith)
free_flex-is (a ∷ b ∷ []) eleven = absurd (omega arith)
free_flex-is (a ∷ b ∷ c ∷ []) eleven = absurd (omega arith)
free_flex-is (a ∷ b ∷ c ∷ d ∷ []) eleven = absurd (omega arith)
free_flex-is (a ∷ b ∷ c ∷ d ∷ e ∷ []) eleven = absurd (omega arith)
free_flex-is (a ∷ b ∷ c ∷ d ∷ e ∷ f ∷ []) eleven = absurd (omega arith)
free_flex-is (a ∷ b ∷ c ∷ d ∷ e ∷ f ∷ g ∷ []) eleven = absurd (omega arith)
free_flex-is (a ∷ b ∷ c ∷ d ∷ e ∷ f ∷ g ∷ h ∷ []) eleven = absurd (omega arith)
free_flex-is (a ∷ b ∷ c ∷ d ∷ e ∷ f ∷ g ∷ h ∷ i ∷ []) eleven = absurd (omega arith)
free_flex-is (a ∷ b ∷ c ∷ d ∷ e ∷ f ∷ g ∷ h ∷ i ∷ j ∷ []) eleven = absurd (omega arith)
free_flex-is (a ∷ b ∷ c ∷ d ∷ e ∷ f ∷ g ∷ h ∷ i ∷ j ∷ k ∷ l ∷ xs) eleven = absurd (omega arith)

minus : (z : ℤ) → pos 0 -ℤ z ≡ neg_ℤ z
minus z = omega (arith, ints)

abbrev flex_of : Stroke → Stroke → Option Flex
flex_of p q = Some (record { first = p; second = q })

pub level_flex-drawn : (xs : List ℤ) (far : Point) (p q : Stroke) → length xs ≡ 7 → Some far ≡ point_behind origin (step (at xs 1) (at xs 2)) →
    p ≡ curve_by (at xs 0) (pos 0) (at xs 1) (at xs 2) (at xs 3) (pos 0) → q ≡ curve_by (at xs 4) (pos 0) (at xs 5) (pos 0 -ℤ far.y) (at xs 6) (pos 0) →
    flex_of p q ≡ level_flex xs
level_flex-drawn xs far p q seven here first second =
    ap₂ flex_of first (second ∙ ap (λ y. curve_by (at xs 4) (pos 0) (at xs 5) y (at xs 6) (pos 0)) (minus far.y))
    ∙ (ap (option_map (level_flex_by (at xs 0) (at xs 1) (at xs 2) (at xs 3) (at xs 4) (at xs 5) (at xs 6))) here ∙ sym (level_flex-is xs seven))

pub closed_flex-drawn : (xs : List ℤ) (far : Point) (p q : Stroke) → length xs ≡ 9 →
    Some far ≡ end_of_steps origin (at xs 0 ∷ at xs 1 ∷ at xs 2 ∷ at xs 3 ∷ at xs 6 ∷ at xs 7 ∷ []) →
    p ≡ curve_by (at xs 0) (at xs 1) (at xs 2) (at xs 3) (at xs 4) (pos 0) → q ≡ curve_by (at xs 5) (pos 0) (at xs 6) (at xs 7) (at xs 8) (pos 0 -ℤ far.y) →
    flex_of p q ≡ closed_flex xs
closed_flex-drawn xs far p q nine here first second =
    ap₂ flex_of first (second ∙ ap (curve_by (at xs 5) (pos 0) (at xs 6) (at xs 7) (at xs 8)) (minus far.y))
    ∙ (ap (option_map (closed_flex_by (at xs 0) (at xs 1) (at xs 2) (at xs 3) (at xs 4) (at xs 5) (at xs 6) (at xs 7) (at xs 8))) here ∙ sym (closed_flex-is xs nine))

pub closed_flex-far : (xs : List ℤ) → length xs ≡ 9 → None ≡ end_of_steps origin (at xs 0 ∷ at xs 1 ∷ at xs 2 ∷ at xs 3 ∷ at xs 6 ∷ at xs 7 ∷ []) → None ≡ closed_flex xs
closed_flex-far xs nine here =
    ap (option_map (closed_flex_by (at xs 0) (at xs 1) (at xs 2) (at xs 3) (at xs 4) (at xs 5) (at xs 6) (at xs 7) (at xs 8))) here ∙ sym (closed_flex-is xs nine)

pub free_flex-drawn : (xs : List ℤ) (far : Point) (p : Stroke) (back : Point) → length xs ≡ 11 → Some far ≡ end_of_steps origin (take 10 xs) →
    p ≡ curve_by (at xs 0) (at xs 1) (at xs 2) (at xs 3) (at xs 4) (at xs 5) → back ≡ last_step far (at xs 10) →
    flex_of p (Curve (step (at xs 6) (at xs 7)) (step (at xs 8) (at xs 9)) back) ≡ free_flex xs
free_flex-drawn xs far p back eleven here first last =
    ap₂ (λ a b. flex_of a (Curve (step (at xs 6) (at xs 7)) (step (at xs 8) (at xs 9)) b)) first last
    ∙ (ap (option_map (free_flex_by (at xs 0) (at xs 1) (at xs 2) (at xs 3) (at xs 4) (at xs 5) (at xs 6) (at xs 7) (at xs 8) (at xs 9) (at xs 10))) here ∙ sym (free_flex-is xs eleven))

pub free_flex-far : (xs : List ℤ) → length xs ≡ 11 → None ≡ end_of_steps origin (take 10 xs) → None ≡ free_flex xs
free_flex-far xs eleven here =
    ap (option_map (free_flex_by (at xs 0) (at xs 1) (at xs 2) (at xs 3) (at xs 4) (at xs 5) (at xs 6) (at xs 7) (at xs 8) (at xs 9) (at xs 10))) here ∙ sym (free_flex-is xs eleven)
