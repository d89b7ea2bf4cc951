-- Plain images make the picture of the images that they are of, and lie in the frame.
use Rattle.std.proofs.Common.{◌≡◌, ℕ, ◌+◌, ◌*◌, ◌/◌, ◌%◌, ◌<◌, ◌≤◌, ◌⊎◌, ℤ, pos, ◌-ℤ◌, int_lt, Bool, true, false, ◌&&◌, if◌then◌else◌, List, [], ◌∷◌, ◌++◌, length, refl, sym, ap, ◌∙◌, inl, inr, ⊎_elim, arith, append-nil}
use Rattle.std.proofs.lemmas.Int.{ints}
use Rattle.std.proofs.lemmas.Bool.{cases_lt, true≢false}
use Rattle.std.proofs.lemmas.Nat.{mod_below, div_below}
use Rattle.ass_num.specs.Coverage.{moved_value}
use Rattle.ass_num.specs.Masks.{value_at}
use Rattle.ass_num.specs.declared.colour.Rgba.{Rgba}
use Rattle.ass_num.specs.declared.size.Size.{Size}
use Rattle.ass_num.proofs.MaskLemmas.{value_beside, value_over}
use Rattle.blend.specs.Blending.{Tint, Image, stencilled, tint_of, tint_at, by_number}
use Rattle.blend.specs.Canvases.{CanvasValue, drawn}
use Rattle.blend.proofs.AreaLemmas.{moved_value-outside, outside}
use Rattle.blend.proofs.TintedLemmas.{length-tinted, tint_of-none}
use Rattle.plain_images.specs.Panes.{in_pane, is_empty_pane, frame_pane, box_pane, pane_before, pane_from}
use Rattle.plain_images.specs.PlainImages.{ArePanesOf, ArePlainOf, IsPaneOf, PlainImagesMakeThePicture, coloured_panes, image_of_plain, image_pane, in_colour, shown_at, stencil_panes, with_plain_images}
use Rattle.plain_images.specs.PlainImages as plain
use Rattle.plain_images.specs.declared.panes.Pane.{Pane}
use Rattle.plain_images.specs.declared.plain.PlainImage.{PlainImage}
use Rattle.plain_images.proofs.PaneLemmas.{Cover, Miss, empty_lacks, has, in_both, stencil_cover, stencil_miss}
use Rattle.plain_images.proofs.TintLemmas.{AreClear, AreJoined, tinted_all, tinted_all-joined}

-- ---- coloured panes at a pixel

abbrev Misses : List (Pane × Rgba) → ℕ → ℕ → Type 0
Misses [] i j = Unit {0}
Misses (c ∷ cs) i j = (in_pane c.0 (pos i) (pos j) ≡ false) × Misses cs i j

-- One of the panes has the pixel, and v is its colour at the coverage m; or none has it, and v has no weight.
abbrev Shows : List (Pane × Rgba) → ℕ → ℕ → ℕ → Tint → Type 0
Shows [] i j m v = v.weight ≡ 0
Shows (c ∷ cs) i j m v = ((in_pane c.0 (pos i) (pos j) ≡ false) × Shows cs i j m v) ⊎ ((in_pane c.0 (pos i) (pos j) ≡ true) × ((v ≡ tint_of c.1 m) × Misses cs i j))

misses_append : (cs ds : List (Pane × Rgba)) (i j : ℕ) → Misses cs i j → Misses ds i j → Misses (cs ++ ds) i j
misses_append [] ds i j h g = g
misses_append (c ∷ cs) ds i j h g = (h.0, misses_append cs ds i j h.1 g)

misses_colour : (colour : Rgba) (ps : List Pane) (i j : ℕ) → Miss ps i j → Misses (in_colour colour ps) i j
misses_colour colour [] i j h = tt
misses_colour colour (p ∷ ps) i j h = go (is_empty_pane p) refl (misses_colour colour ps i j h.1)
  where
    go : (b : Bool) → is_empty_pane p ≡ b → Misses (in_colour colour ps) i j → Misses (in_colour colour (p ∷ ps)) i j
    go true e rest = rw e rest
    go false e rest = rw e (h.0, rest)

shows_behind : (cs ds : List (Pane × Rgba)) (i j m : ℕ) (v : Tint) → Misses cs i j → Shows ds i j m v → Shows (cs ++ ds) i j m v
shows_behind [] ds i j m v h g = g
shows_behind (c ∷ cs) ds i j m v h g = inl (h.0, shows_behind cs ds i j m v h.1 g)

shows_none : (cs : List (Pane × Rgba)) (i j m : ℕ) (v : Tint) → Misses cs i j → v.weight ≡ 0 → Shows cs i j m v
shows_none [] i j m v h g = g
shows_none (c ∷ cs) i j m v h g = inl (h.0, shows_none cs i j m v h.1 g)

-- panes of one colour that cover a pixel, before others that miss it
shows_colour : (colour : Rgba) (ps : List Pane) (ds : List (Pane × Rgba)) (i j m : ℕ) → Cover ps i j m → Misses ds i j
    → Shows (in_colour colour ps ++ ds) i j m (tint_of colour m)
shows_colour colour [] ds i j m h g = shows_none ds i j m (tint_of colour m) g (tint_of-none colour m h)
shows_colour colour (p ∷ ps) ds i j m h g = go (is_empty_pane p) refl (λ k. shows_colour colour ps ds i j m k g) h
  where
    go : (b : Bool) → is_empty_pane p ≡ b → (Cover ps i j m → Shows (in_colour colour ps ++ ds) i j m (tint_of colour m))
        → Cover (p ∷ ps) i j m → Shows (in_colour colour (p ∷ ps) ++ ds) i j m (tint_of colour m)
    go true e rest (inl k) = rw e (rest k.1)
    go false e rest (inl k) = rw e (inl (k.0, rest k.1))
    go true e rest (inr k) = absurd (true≢false (sym k.0 ∙ empty_lacks p (pos i) (pos j) e))
    go false e rest (inr k) = rw e (inr (k.0, (refl, misses_append (in_colour colour ps) ds i j (misses_colour colour ps i j k.1) g)))

-- ---- an image at a pixel of the frame

in_frame : (size : Size) (i j : ℕ) → i < size.w → j < size.h → in_pane (frame_pane size) (pos i) (pos j) ≡ true
in_frame size i j a b = has (frame_pane size) (pos i) (pos j) (omega (arith, ints)) (omega (arith, ints)) (omega (arith, ints)) (omega (arith, ints))

-- outside what of the mask's box lies in the frame, the mask has nothing
outside_image : (size : Size) (image : Image) (i j : ℕ) → i < size.w → j < size.h → in_pane (image_pane size image) (pos i) (pos j) ≡ false
    → moved_value (image.mask, image.x, image.y) (pos i) (pos j) ≡ 0
outside_image size image i j a b out =
    let frame : in_pane (frame_pane size) (pos i) (pos j) ≡ true = in_frame size i j a b in
    let both : (in_pane (frame_pane size) (pos i) (pos j) && in_pane (box_pane image.mask image.x image.y) (pos i) (pos j)) ≡ false =
    sym (in_both (frame_pane size) (box_pane image.mask image.x image.y) (pos i) (pos j)) ∙ out in
    moved_value-outside (image.mask, image.x, image.y) i j (rw frame at both)

before_edge : (p : Pane) (edge i j : ℤ) → int_lt i edge ≡ true → in_pane (pane_before p edge) i j ≡ in_pane p i j
before_edge p edge i j e = grind (arith, ints)

before_lacks : (p : Pane) (edge i j : ℤ) → int_lt i edge ≡ false → in_pane (pane_before p edge) i j ≡ false
before_lacks p edge i j e = grind (arith, ints)

from_edge : (p : Pane) (edge i j : ℤ) → int_lt i edge ≡ false → in_pane (pane_from p edge) i j ≡ in_pane p i j
from_edge p edge i j e = grind (arith, ints)

from_lacks : (p : Pane) (edge i j : ℤ) → int_lt i edge ≡ true → in_pane (pane_from p edge) i j ≡ false
from_lacks p edge i j e = grind (arith, ints)

image_shows : (size : Size) (image : Image) (i j : ℕ) → i < size.w → j < size.h → Shows (coloured_panes size image) i j (shown_at image i j) (tint_at image i j)
image_shows size image i j a b = go (int_lt (pos i) image.edge) refl
  where
    value : ℕ
    value = moved_value (image.mask, image.x, image.y) (pos i) (pos j)

    outer : Pane
    outer = image_pane size image

    go : (t : Bool) → int_lt (pos i) image.edge ≡ t → Shows (coloured_panes size image) i j (shown_at image i j) (tint_at image i j)
    go true e =
        let cover : Cover (stencil_panes image.stencil (pane_before outer image.edge)) i j (stencilled image.stencil i j value) =
        stencil_cover image.stencil (pane_before outer image.edge) i j value
        (λ out. outside_image size image i j a b (sym (before_edge outer image.edge (pos i) (pos j) e) ∙ out)) in
        let miss = misses_colour image.right _ i j (stencil_miss image.stencil (pane_from outer image.edge) i j (from_lacks outer image.edge (pos i) (pos j) e)) in
        rw e (shows_colour image.left _ _ i j (stencilled image.stencil i j value) cover miss)
    go false e =
        let cover : Cover (stencil_panes image.stencil (pane_from outer image.edge)) i j (stencilled image.stencil i j value) =
        stencil_cover image.stencil (pane_from outer image.edge) i j value
        (λ out. outside_image size image i j a b (sym (from_edge outer image.edge (pos i) (pos j) e) ∙ out)) in
        let miss = misses_colour image.left _ i j (stencil_miss image.stencil (pane_before outer image.edge) i j (before_lacks outer image.edge (pos i) (pos j) e)) in
        let right : Shows (in_colour image.right (stencil_panes image.stencil (pane_from outer image.edge)) ++ []) i j _ _ =
        shows_colour image.right _ [] i j (stencilled image.stencil i j value) cover tt in
        rw e (shows_behind _ _ i j _ _ miss (rw append-nil at right))

-- ---- plain images at a pixel

abbrev plain_tint : PlainImage → ℕ → ℕ → Tint
plain_tint p i j = tint_at (image_of_plain p) i j

either : (b : Bool) (c : Rgba) → (if b then c else c) ≡ c
either true c = refl
either false c = refl

tint_is : (p : PlainImage) (i j : ℕ) → plain_tint p i j ≡ tint_of p.colour (value_at p.mask (pos i) (pos j))
tint_is p i j =
    let column : pos i -ℤ pos 0 ≡ pos i = omega (arith, ints) in
    let row : pos j -ℤ pos 0 ≡ pos j = omega (arith, ints) in
    rw (either (int_lt (pos i) (pos 0)) p.colour, column, row) refl

value_out : (image : Image) (pane : Pane) (colour : Rgba) (p : PlainImage) (i j : ℕ) → IsPaneOf image pane colour p → in_pane pane (pos i) (pos j) ≡ false
    → value_at p.mask (pos i) (pos j) ≡ 0
value_out image pane colour p i j is out = elim (outside pane.x1 pane.y1 pane.x2 pane.y2 (pos i) (pos j) out) [
  | inl (inl h) ↦ value_beside p.mask (pos i) (pos j) (inl (rw is.left h))
  | inl (inr h) ↦ value_beside p.mask (pos i) (pos j) (inr (rw is.right h))
  | inr (inl h) ↦ value_over p.mask (pos i) (pos j) (inl (rw is.top h))
  | inr (inr h) ↦ value_over p.mask (pos i) (pos j) (inr (rw is.bottom h))
]

clear_of : (image : Image) (cs : List (Pane × Rgba)) (ps : List PlainImage) (i j : ℕ) → ArePanesOf image cs ps → Misses cs i j → AreClear (λ p. plain_tint p i j) ps
clear_of image [] [] i j are h = tt
clear_of image [] (p ∷ ps) i j are h = absurd are
clear_of image (c ∷ cs) [] i j are h = absurd are
clear_of image (c ∷ cs) (p ∷ ps) i j are h =
    (ap (λ (t : Tint). t.weight) (tint_is p i j) ∙ tint_of-none p.colour (value_at p.mask (pos i) (pos j)) (value_out image c.0 c.1 p i j are.0 h.0), clear_of image cs ps i j are.1 h.1)

joined_of : (image : Image) (cs : List (Pane × Rgba)) (ps : List PlainImage) (i j : ℕ) (v : Tint) → ArePanesOf image cs ps → Shows cs i j (shown_at image i j) v
    → AreJoined (λ p. plain_tint p i j) ps v
joined_of image [] [] i j v are h = h
joined_of image [] (p ∷ ps) i j v are h = absurd are
joined_of image (c ∷ cs) [] i j v are h = absurd are
joined_of image (c ∷ cs) (p ∷ ps) i j v are (inl h) =
    inl (ap (λ (t : Tint). t.weight) (tint_is p i j) ∙ tint_of-none p.colour (value_at p.mask (pos i) (pos j)) (value_out image c.0 c.1 p i j are.0 h.0), joined_of image cs ps i j v are.1 h.1)
joined_of image (c ∷ cs) (p ∷ ps) i j v are (inr h) =
    let value : value_at p.mask (pos i) (pos j) ≡ shown_at image i j = are.0.values i j h.0 in
    inr (inl (tint_is p i j ∙ (rw (are.0.colour, value) (sym h.1.0))), clear_of image cs ps i j are.1 h.1.1)

-- ---- pictures

with_is : (c : CanvasValue) (ps : List PlainImage) → with_plain_images c ps ≡ record c { bytes = tinted_all (λ p. by_number c.w (tint_at (image_of_plain p))) ps 0 c.bytes }
with_is c [] = refl
with_is c (p ∷ ps) = with_is (drawn c (image_of_plain p)) ps

with_append : (c : CanvasValue) (ps qs : List PlainImage) → with_plain_images c (ps ++ qs) ≡ with_plain_images (with_plain_images c ps) qs
with_append c [] qs = refl
with_append c (p ∷ ps) qs = with_append (drawn c (image_of_plain p)) ps qs

-- the pixels of a canvas
joined_at : (size : Size) (image : Image) (ps : List PlainImage) → ArePlainOf size image ps → (k : ℕ) → k < size.w * size.h
    → AreJoined (λ p. by_number size.w (tint_at (image_of_plain p)) (0 + k)) ps (by_number size.w (tint_at image) (0 + k))
joined_at size image ps are k less =
    let some : 0 < size.w = ⊎_elim (λ (p : 0 < size.w). p) (λ (z : size.w ≤ 0). absurd (let e : size.w ≡ 0 = omega arith in let f : k < 0 * size.h = rw e at less in omega arith)) (cases_lt 0 size.w) in
    let e : 0 + k ≡ k = omega arith in
    rw e (joined_of image (coloured_panes size image) ps (k % size.w) (k / size.w) (tint_at image (k % size.w) (k / size.w)) are
    (image_shows size image (k % size.w) (k / size.w) (mod_below k size.w some) (div_below k size.w size.h some (omega (arith, less)))))

one_image : (size : Size) (c : CanvasValue) (image : Image) (ps : List PlainImage) → c.w ≡ size.w → c.h ≡ size.h → length c.bytes ≡ 3 * (c.w * c.h)
    → ArePlainOf size image ps → with_plain_images c ps ≡ drawn c image
one_image size c image ps w h len are =
    with_is c ps
    ∙ ap (λ (bytes : List ℕ). let d : CanvasValue = record c { bytes = bytes } in d)
    (tinted_all-joined (λ p. by_number c.w (tint_at (image_of_plain p))) ps (by_number c.w (tint_at image)) 0 (c.w * c.h) c.bytes (omega arith)
    (rw (w, h) (joined_at size image ps are)))

pub picture : PlainImagesMakeThePicture
picture size c _ _ w h len plain.None = refl
picture size c _ _ w h len (plain.Next image above ps rest of_image more) =
    with_append c ps rest
    ∙ (ap (λ (d : CanvasValue). with_plain_images d rest) (one_image size c image ps w h len of_image)
    ∙ picture size (drawn c image) above rest w h (length-tinted (by_number c.w (tint_at image)) 0 c.bytes ∙ len) more)
