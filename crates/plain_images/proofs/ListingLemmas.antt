-- Plain images that are added pane by pane.
use Rattle.std.proofs.Common.{◌≡◌, ℕ, ℤ, pos, ◌≤ℤ◌, ◌<ℤ◌, ◌⊎◌, Bool, true, false, ◌&&◌, List, [], ◌∷◌, ◌++◌, refl, sym, ap, subst, ◌∙◌, inl, inr, arith, append_assoc, append-nil}
use Rattle.std.proofs.lemmas.Bool.{true≢false}
use Rattle.std.proofs.lemmas.Int.{ints}
use Rattle.ass_num.specs.Masks.{MaskValue}
use Rattle.ass_num.specs.Limits.{IsFrameSize}
use Rattle.ass_num.specs.declared.colour.Rgba.{Rgba}
use Rattle.ass_num.specs.declared.size.Size.{Size}
use Rattle.blend.specs.Blending.{Image, StencilValue, Free, Rect, Drawn, in_rect, stencilled}
use Rattle.plain_images.specs.Cutting.{IsCutOf, IsCuttable}
use Rattle.plain_images.specs.Listing.{AddsPanes, image_in, mask_stencil, rect_stencil}
use Rattle.plain_images.specs.Panes.{IsPartOf, both_panes, box_pane, frame_pane, in_pane, is_empty_pane, pane_before, pane_from, panes_around, panes_beside}
use Rattle.plain_images.specs.PlainImages.{ArePanesOf, ArePlainOf, IsPaneOf, image_pane, in_colour, shown_at, stencil_panes}
use Rattle.plain_images.specs.declared.panes.Pane.{Pane}
use Rattle.plain_images.specs.declared.plain.PlainImage.{PlainImage}
use Rattle.plain_images.proofs.PaneLemmas.{above, above_part, below, below_part, both_part, bounds, empty_lacks, in_both, lacks, left, left_part, other_part, part_has, right, right_part, same_pane, sides}

-- ---- panes that can be cut

pub part_cuttable : (moved : MaskValue × ℤ × ℤ) (part pane : Pane) → IsPartOf part pane → IsCuttable moved pane → IsCuttable moved part
part_cuttable moved part pane is cuttable =
    let box = cuttable.box in
    record {
      box = record {
        left = omega (arith, ints, is.left, box.left);
        top = omega (arith, ints, is.top, box.top);
        right = omega (arith, ints, is.right, box.right);
        bottom = omega (arith, ints, is.bottom, box.bottom);
      };
      left = omega (arith, ints, is.left, cuttable.left);
      top = omega (arith, ints, is.top, cuttable.top);
      right = omega (arith, ints, is.right, cuttable.right);
      bottom = omega (arith, ints, is.bottom, cuttable.bottom);
    }

-- ---- what is added

pub panes_append : (image : Image) (cs ds : List (Pane × Rgba)) (ps qs : List PlainImage) → ArePanesOf image cs ps → ArePanesOf image ds qs → ArePanesOf image (cs ++ ds) (ps ++ qs)
panes_append image [] ds [] qs a b = b
panes_append image [] ds (p ∷ ps) qs a b = absurd a
panes_append image (c ∷ cs) ds [] qs a b = absurd a
panes_append image (c ∷ cs) ds (p ∷ ps) qs a b = (a.0, panes_append image cs ds ps qs a.1 b)

colour_cons : (colour : Rgba) (p : Pane) (ps : List Pane) → in_colour colour (p ∷ ps) ≡ in_colour colour (p ∷ []) ++ in_colour colour ps
colour_cons colour p ps = go (is_empty_pane p) refl
  where
    go : (b : Bool) → is_empty_pane p ≡ b → in_colour colour (p ∷ ps) ≡ in_colour colour (p ∷ []) ++ in_colour colour ps
    go true e = rw e refl
    go false e = rw e refl

-- an empty pane adds nothing
pub adds_empty : (moved : MaskValue × ℤ × ℤ) (stencil : StencilValue) (pane : Pane) (colour : Rgba) (old : List PlainImage)
    → is_empty_pane pane ≡ true → AddsPanes moved stencil (pane ∷ []) colour old old
adds_empty moved stencil pane colour old e = ([], sym (append-nil old), rw e tt)

-- and another one a plain image
pub adds_cut : (moved : MaskValue × ℤ × ℤ) (stencil : StencilValue) (pane : Pane) (colour : Rgba) (old : List PlainImage) (plain : PlainImage)
    → is_empty_pane pane ≡ false → plain.colour ≡ colour → IsCutOf moved stencil pane plain.mask → AddsPanes moved stencil (pane ∷ []) colour old (old ++ plain ∷ [])
adds_cut moved stencil pane colour old plain e is cut = (plain ∷ [], refl, rw e (pane_is, tt))
  where
    pane_is : IsPaneOf (image_in moved colour stencil) pane colour plain
    pane_is = record { colour = is; left = cut.left; top = cut.top; right = cut.right; bottom = cut.bottom; whole = cut.whole; values = cut.values }

-- one pane, and others behind it
pub adds_cons : (moved : MaskValue × ℤ × ℤ) (stencil : StencilValue) (pane : Pane) (panes : List Pane) (colour : Rgba) (old mid new : List PlainImage)
    → AddsPanes moved stencil (pane ∷ []) colour old mid → AddsPanes moved stencil panes colour mid new → AddsPanes moved stencil (pane ∷ panes) colour old new
adds_cons moved stencil pane panes colour old mid new one others = (
  one.0 ++ others.0,
  others.1 ∙ (ap (λ (z : List PlainImage). z ++ others.0) one.1 ∙ append_assoc old one.0 others.0),
  subst (λ (cs : List (Pane × Rgba)). ArePanesOf (image_in moved colour stencil) cs (one.0 ++ others.0)) (sym (colour_cons colour pane panes))
      (panes_append (image_in moved colour stencil) (in_colour colour (pane ∷ [])) (in_colour colour panes) one.0 others.0 one.2 others.2),
)

-- ---- images that show the same

-- At each pixel of these panes the images show the same.
abbrev pub AreAlike : Image → Image → List (Pane × Rgba) → Type 0
AreAlike a b [] = Unit {0}
AreAlike a b (c ∷ cs) = ((i j : ℕ) → in_pane c.0 (pos i) (pos j) ≡ true → shown_at a i j ≡ shown_at b i j) × AreAlike a b cs

pub panes_alike : (a b : Image) (cs : List (Pane × Rgba)) (ps : List PlainImage) → AreAlike a b cs → ArePanesOf a cs ps → ArePanesOf b cs ps
panes_alike a b [] [] h are = tt
panes_alike a b [] (p ∷ ps) h are = absurd are
panes_alike a b (c ∷ cs) [] h are = absurd are
panes_alike a b (c ∷ cs) (p ∷ ps) h are =
    let one = are.0 in (
      record { colour = one.colour; left = one.left; top = one.top; right = one.right; bottom = one.bottom; whole = one.whole; values = λ i j e. one.values i j e ∙ h.0 i j e },
      panes_alike a b cs ps h.1 are.1,
    )

-- images that show the same everywhere
pub alike_all : (a b : Image) (cs : List (Pane × Rgba)) → ((i j : ℕ) → shown_at a i j ≡ shown_at b i j) → AreAlike a b cs
alike_all a b [] same = tt
alike_all a b (c ∷ cs) same = (λ i j e. same i j, alike_all a b cs same)

-- a stencil that hides nothing of these panes
abbrev pub ShowsAll : StencilValue → List Pane → Type 0
ShowsAll stencil [] = Unit {0}
ShowsAll stencil (p ∷ ps) = ((i j m : ℕ) → in_pane p (pos i) (pos j) ≡ true → stencilled stencil i j m ≡ m) × ShowsAll stencil ps

alike_colour : (moved : MaskValue × ℤ × ℤ) (stencil : StencilValue) (ps : List Pane) (colour : Rgba) → ShowsAll stencil ps
    → AreAlike (image_in moved colour Free) (image_in moved colour stencil) (in_colour colour ps)
alike_colour moved stencil [] colour h = tt
alike_colour moved stencil (p ∷ ps) colour h = go (is_empty_pane p) refl (alike_colour moved stencil ps colour h.1)
  where
    go : (b : Bool) → is_empty_pane p ≡ b → AreAlike (image_in moved colour Free) (image_in moved colour stencil) (in_colour colour ps)
        → AreAlike (image_in moved colour Free) (image_in moved colour stencil) (in_colour colour (p ∷ ps))
    go true e rest = rw e rest
    go false e rest = rw e (λ i j inside. sym (h.0 i j _ inside), rest)

pub adds_shown : (moved : MaskValue × ℤ × ℤ) (stencil : StencilValue) (ps : List Pane) (colour : Rgba) (old new : List PlainImage)
    → ShowsAll stencil ps → AddsPanes moved Free ps colour old new → AddsPanes moved stencil ps colour old new
adds_shown moved stencil ps colour old new h adds =
    (adds.0, adds.1, panes_alike (image_in moved colour Free) (image_in moved colour stencil) (in_colour colour ps) adds.0 (alike_colour moved stencil ps colour h) adds.2)

-- ---- rectangles

and_rest : (a b : Bool) → a ≡ true → (a && b) ≡ false → b ≡ false
and_rest true b e f = f
and_rest false b e f = absurd (true≢false (sym e))

abbrev rect_pane : ℤ → ℤ → ℤ → ℤ → Pane
rect_pane x1 y1 x2 y2 = record { x1 = x1; y1 = y1; x2 = x2; y2 = y2 }

-- a rectangle hides nothing of what lies in it
pub inside_shows : (x1 y1 x2 y2 : ℤ) (pane : Pane) → ShowsAll (Rect x1 y1 x2 y2 false) (both_panes pane (rect_pane x1 y1 x2 y2) ∷ [])
inside_shows x1 y1 x2 y2 pane = (
  λ i j m e.
      let both : (in_pane pane (pos i) (pos j) && in_rect x1 y1 x2 y2 (pos i) (pos j)) ≡ true = sym (in_both pane (rect_pane x1 y1 x2 y2) (pos i) (pos j)) ∙ e in
      let inside : in_rect x1 y1 x2 y2 (pos i) (pos j) ≡ true = grind arith in
      rw inside refl,
  tt,
)

-- what lies in a part of a pane beside a hole lies in the pane, and not in the hole
beside_hole : (part pane hole : Pane) → IsPartOf part pane
    → ((i j : ℤ) → in_pane part i j ≡ true → ((i <ℤ hole.x1) ⊎ (hole.x2 ≤ℤ i)) ⊎ ((j <ℤ hole.y1) ⊎ (hole.y2 ≤ℤ j)))
    → (i j : ℤ) → in_pane part i j ≡ true → (in_pane pane i j ≡ true) × (in_pane hole i j ≡ false)
beside_hole part pane hole is beside i j e = (part_has part pane i j is e, lacks hole i j (beside i j e))

-- what a pane has, and the part that it shares with a rectangle hasn't, the turned rectangle leaves
turned_shows : (x1 y1 x2 y2 : ℤ) (part pane : Pane)
    → ((i j : ℤ) → in_pane part i j ≡ true → (in_pane pane i j ≡ true) × (in_pane (both_panes pane (rect_pane x1 y1 x2 y2)) i j ≡ false))
    → (i j m : ℕ) → in_pane part (pos i) (pos j) ≡ true → stencilled (Rect x1 y1 x2 y2 true) i j m ≡ m
turned_shows x1 y1 x2 y2 part pane outside i j m e =
    let out = outside (pos i) (pos j) e in
    let both : (in_pane pane (pos i) (pos j) && in_rect x1 y1 x2 y2 (pos i) (pos j)) ≡ false = sym (in_both pane (rect_pane x1 y1 x2 y2) (pos i) (pos j)) ∙ out.1 in
    let beside : in_rect x1 y1 x2 y2 (pos i) (pos j) ≡ false = and_rest (in_pane pane (pos i) (pos j)) (in_rect x1 y1 x2 y2 (pos i) (pos j)) out.0 both in
    rw beside refl

-- and turned nothing of what lies in a pane outside the part that they share
pub around_shows : (x1 y1 x2 y2 : ℤ) (pane : Pane) → ShowsAll (Rect x1 y1 x2 y2 true) (panes_around pane (both_panes pane (rect_pane x1 y1 x2 y2)))
around_shows x1 y1 x2 y2 pane = go (is_empty_pane hole) refl
  where
    hole : Pane
    hole = both_panes pane (rect_pane x1 y1 x2 y2)

    is_part : IsPartOf hole pane
    is_part = both_part pane (rect_pane x1 y1 x2 y2)

    go : (b : Bool) → is_empty_pane hole ≡ b → ShowsAll (Rect x1 y1 x2 y2 true) (panes_around pane hole)
    go true is = rw is (turned_shows x1 y1 x2 y2 pane pane (λ i j e. (e, empty_lacks hole i j is)), tt)
    go false is =
        let sided = sides hole is in
        rw is (
          turned_shows x1 y1 x2 y2 (above pane hole) pane (beside_hole (above pane hole) pane hole (above_part pane hole is_part sided) (λ i j e. inr (inl (bounds (above pane hole) i j e).bottom))),
          (
            turned_shows x1 y1 x2 y2 (below pane hole) pane (beside_hole (below pane hole) pane hole (below_part pane hole is_part sided) (λ i j e. inr (inr (bounds (below pane hole) i j e).top))),
            (
              turned_shows x1 y1 x2 y2 (left pane hole) pane (beside_hole (left pane hole) pane hole (left_part pane hole is_part sided) (λ i j e. inl (inl (bounds (left pane hole) i j e).right))),
              (turned_shows x1 y1 x2 y2 (right pane hole) pane (beside_hole (right pane hole) pane hole (right_part pane hole is_part sided) (λ i j e. inl (inr (bounds (right pane hole) i j e).left))), tt),
            ),
          ),
        )

-- ---- as the code adds them

pub beside_adds : (moved : MaskValue × ℤ × ℤ) (pane hole : Pane) (colour : Rgba) (old a b d new : List PlainImage)
    → AddsPanes moved Free (above pane hole ∷ []) colour old a → AddsPanes moved Free (below pane hole ∷ []) colour a b
    → AddsPanes moved Free (left pane hole ∷ []) colour b d → AddsPanes moved Free (right pane hole ∷ []) colour d new
    → AddsPanes moved Free (panes_beside pane hole) colour old new
beside_adds moved pane hole colour old a b d new one two three four =
    adds_cons moved Free (above pane hole) (below pane hole ∷ left pane hole ∷ right pane hole ∷ []) colour old a new one
    (adds_cons moved Free (below pane hole) (left pane hole ∷ right pane hole ∷ []) colour a b new two
    (adds_cons moved Free (left pane hole) (right pane hole ∷ []) colour b d new three four))

pub around_empty : (moved : MaskValue × ℤ × ℤ) (pane hole : Pane) (colour : Rgba) (old new : List PlainImage) → is_empty_pane hole ≡ true
    → AddsPanes moved Free (pane ∷ []) colour old new → AddsPanes moved Free (panes_around pane hole) colour old new
around_empty moved pane hole colour old new e h = rw e h

pub around_some : (moved : MaskValue × ℤ × ℤ) (pane hole : Pane) (colour : Rgba) (old new : List PlainImage) → is_empty_pane hole ≡ false
    → AddsPanes moved Free (panes_beside pane hole) colour old new → AddsPanes moved Free (panes_around pane hole) colour old new
around_some moved pane hole colour old new e h = rw e h

pub rect_turned : (moved : MaskValue × ℤ × ℤ) (pane rect part : Pane) (inverse : Bool) (colour : Rgba) (old new : List PlainImage) → inverse ≡ true → part ≡ both_panes pane rect
    → AddsPanes moved Free (panes_around pane part) colour old new → AddsPanes moved (rect_stencil rect inverse) (stencil_panes (rect_stencil rect inverse) pane) colour old new
rect_turned moved pane rect part false colour old new e is h = absurd (true≢false (sym e))
rect_turned moved pane rect part true colour old new e is h =
    adds_shown moved (rect_stencil rect true) (panes_around pane (both_panes pane rect)) colour old new (around_shows rect.x1 rect.y1 rect.x2 rect.y2 pane)
    (subst (λ (p : Pane). AddsPanes moved Free (panes_around pane p) colour old new) is h)

pub rect_kept : (moved : MaskValue × ℤ × ℤ) (pane rect part : Pane) (inverse : Bool) (colour : Rgba) (old new : List PlainImage) → inverse ≡ false → part ≡ both_panes pane rect
    → AddsPanes moved Free (part ∷ []) colour old new → AddsPanes moved (rect_stencil rect inverse) (stencil_panes (rect_stencil rect inverse) pane) colour old new
rect_kept moved pane rect part true colour old new e is h = absurd (true≢false e)
rect_kept moved pane rect part false colour old new e is h =
    adds_shown moved (rect_stencil rect false) (both_panes pane rect ∷ []) colour old new (inside_shows rect.x1 rect.y1 rect.x2 rect.y2 pane)
    (subst (λ (p : Pane). AddsPanes moved Free (p ∷ []) colour old new) is h)

-- a rectangle whose bounds are known
pub rect_same : (moved : MaskValue × ℤ × ℤ) (pane rect : Pane) (inverse : Bool) (colour : Rgba) (old new : List PlainImage) (x1 y1 x2 y2 : ℤ)
    → rect.x1 ≡ x1 → rect.y1 ≡ y1 → rect.x2 ≡ x2 → rect.y2 ≡ y2
    → AddsPanes moved (rect_stencil rect inverse) (stencil_panes (rect_stencil rect inverse) pane) colour old new
    → AddsPanes moved (Rect x1 y1 x2 y2 inverse) (stencil_panes (Rect x1 y1 x2 y2 inverse) pane) colour old new
rect_same moved pane rect inverse colour old new x1 y1 x2 y2 a b d e h =
    subst (λ (r : Pane). AddsPanes moved (rect_stencil r inverse) (stencil_panes (rect_stencil r inverse) pane) colour old new)
    (same_pane rect.x1 rect.y1 rect.x2 rect.y2 x1 y1 x2 y2 a b d e) h

-- and a drawn clip whose place is
pub clip_same : (moved : MaskValue × ℤ × ℤ) (pane : Pane) (mask : MaskValue) (x y p q : ℤ) (inverse : Bool) (colour : Rgba) (old new : List PlainImage) → x ≡ p → y ≡ q
    → AddsPanes moved (Drawn mask x y inverse) (stencil_panes (Drawn mask x y inverse) pane) colour old new
    → AddsPanes moved (Drawn mask p q inverse) (stencil_panes (Drawn mask p q inverse) pane) colour old new
clip_same moved pane mask x y p q inverse colour old new e f h =
    subst (λ (v : ℤ). AddsPanes moved (Drawn mask p v inverse) (stencil_panes (Drawn mask p v inverse) pane) colour old new) f
    (subst (λ (u : ℤ). AddsPanes moved (Drawn mask u y inverse) (stencil_panes (Drawn mask u y inverse) pane) colour old new) e h)

-- and a pane
pub pane_same : (moved : MaskValue × ℤ × ℤ) (a b : Pane) (colour : Rgba) (old new : List PlainImage) → a ≡ b
    → AddsPanes moved Free (a ∷ []) colour old new → AddsPanes moved Free (b ∷ []) colour old new
pane_same moved a b colour old new e h = subst (λ (z : Pane). AddsPanes moved Free (z ∷ []) colour old new) e h

pub clip_turned : (moved over : MaskValue × ℤ × ℤ) (pane : Pane) (inverse : Bool) (colour : Rgba) (old new : List PlainImage) → inverse ≡ true
    → AddsPanes moved (mask_stencil over inverse) (pane ∷ []) colour old new
    → AddsPanes moved (mask_stencil over inverse) (stencil_panes (mask_stencil over inverse) pane) colour old new
clip_turned moved over pane false colour old new e h = absurd (true≢false (sym e))
clip_turned moved over pane true colour old new e h = h

pub clip_kept : (moved over : MaskValue × ℤ × ℤ) (pane part : Pane) (inverse : Bool) (colour : Rgba) (old new : List PlainImage) → inverse ≡ false
    → part ≡ both_panes pane (box_pane over.0 over.1 over.2) → AddsPanes moved (mask_stencil over inverse) (part ∷ []) colour old new
    → AddsPanes moved (mask_stencil over inverse) (stencil_panes (mask_stencil over inverse) pane) colour old new
clip_kept moved over pane part true colour old new e is h = absurd (true≢false e)
clip_kept moved over pane part false colour old new e is h = subst (λ (p : Pane). AddsPanes moved (mask_stencil over false) (p ∷ []) colour old new) is h

-- ---- both sides of an edge

-- what of a mask's box lies in a frame can be cut
pub image_cuttable : (size : Size) (mask : MaskValue) (x y : ℤ) → IsFrameSize size → IsCuttable (mask, x, y) (both_panes (frame_pane size) (box_pane mask x y))
image_cuttable size mask x y fits =
    let first = both_part (frame_pane size) (box_pane mask x y) in
    record {
      box = other_part (frame_pane size) (box_pane mask x y);
      left = first.left;
      top = first.top;
      right = omega (arith, ints, first.right, fits.wide);
      bottom = omega (arith, ints, first.bottom, fits.high);
    }

-- Both sides together are the plain images of the image.
pub both_sides : (size : Size) (image : Image) (mid new : List PlainImage)
    → AddsPanes (image.mask, image.x, image.y) image.stencil (stencil_panes image.stencil (pane_before (image_pane size image) image.edge)) image.left [] mid
    → AddsPanes (image.mask, image.x, image.y) image.stencil (stencil_panes image.stencil (pane_from (image_pane size image) image.edge)) image.right mid new
    → ArePlainOf size image new
both_sides size image mid new one two =
    let moved : MaskValue × ℤ × ℤ = (image.mask, image.x, image.y) in
    let before = in_colour image.left (stencil_panes image.stencil (pane_before (image_pane size image) image.edge)) in
    let from = in_colour image.right (stencil_panes image.stencil (pane_from (image_pane size image) image.edge)) in
    let first : ArePanesOf image before one.0 =
    panes_alike (image_in moved image.left image.stencil) image before one.0 (alike_all (image_in moved image.left image.stencil) image before (λ i j. refl)) one.2 in
    let second : ArePanesOf image from two.0 =
    panes_alike (image_in moved image.right image.stencil) image from two.0 (alike_all (image_in moved image.right image.stencil) image from (λ i j. refl)) two.2 in
    let whole : new ≡ one.0 ++ two.0 = two.1 ∙ ap (λ (z : List PlainImage). z ++ two.0) one.1 in
    subst (λ (z : List PlainImage). ArePlainOf size image z) (sym whole) (panes_append image before from one.0 two.0 first second)
