-- Images painted on neighbouring pixels of a row, and pixels that images leave clear.
use Rattle.std.proofs.Common.{◌≡◌, ◌<◌, ◌≤◌, ◌+◌, ◌*◌, ◌⊎◌, ◌≢◌, ℕ, zero, suc, ℤ, pos, int_lt, int_le, Bool, true, false, ◌&&◌, ◌||◌, nat_le, nat_lt, if◌then◌else◌, List, [], ◌∷◌, length, map, take, set, fold, replicate, get_or, slice_index, refl, sym, ap, subst, ◌∙◌, add-one, inl, inr, arith, get_or-set_same, get_or-set_other, length-set}
use Rattle.std.specs.List.{All}
use Rattle.std.proofs.lemmas.Bool.{cases_lt, true≢false}
use Rattle.std.proofs.lemmas.List.{get_or-replicate, get_or_past, get_or_read, length-replicate}
use Rattle.ass_num.specs.Masks.{MaskValue}
use Rattle.ass_num.specs.Coverage.{moved_value}
use Rattle.blend.specs.Areas.{in_moved_box}
use Rattle.blend.specs.Blending.{Image, Tint, blended, tint_at}
use Rattle.blend.proofs.AreaLemmas.{and-second, le-no, le-yes, lt-no, lt-yes, moved_value-outside}
use Rattle.blend.proofs.DrawLemmas.{stencilled-none}
use Rattle.blend.proofs.TintedLemmas.{blended-none, tint_of-none}
use Rattle.alpha_canvas.specs.Alpha.{ArePixels, byte_of, clear, fine, formed_pixel, layers_at, under}
use Rattle.alpha_canvas.specs.Tiles.{AreLayers, IsPaintedOn, in_moved_columns, in_moved_rows}
use Rattle.alpha_canvas.specs.declared.layers.Layers.{Layers}
use Rattle.alpha_canvas.specs.declared.pixel.AlphaForm.{AlphaForm}
use Rattle.alpha_canvas.specs.declared.pixel.AlphaForm.TheVariants as form

-- ---- in a box and beside it

-- bounds that a call is shown by their bits
pub between-of : (r : Bool) (x1 x2 p1 p2 j : ℤ) → r ≡ (int_le p1 j && int_lt j p2) → p1 ≡ x1 → p2 ≡ x2 → r ≡ (int_le x1 j && int_lt j x2)
between-of r x1 x2 p1 p2 j is a b = is ∙ rw (a, b) refl

pub columns-of : (r inside : Bool) (x1 x2 p1 p2 i : ℤ) → r ≡ (inside && (int_le p1 i && int_lt i p2)) → p1 ≡ x1 → p2 ≡ x2 → r ≡ (inside && (int_le x1 i && int_lt i x2))
columns-of r inside x1 x2 p1 p2 i is a b = is ∙ rw (a, b) refl

and-both : (a b : Bool) → a ≡ true → b ≡ true → (a && b) ≡ true
and-both a b p q = rw (p, q) refl

and-left : (a b : Bool) → a ≡ false → (a && b) ≡ false
and-left a b p = rw p refl

and-right : (a b : Bool) → b ≡ false → (a && b) ≡ false
and-right true b p = p
and-right false b p = refl

true-and : (a b c : Bool) → a ≡ true → b ≡ true → ((a && b) && c) ≡ c
true-and a b c p q = rw (p, q) refl

pub rows-outside : (p : MaskValue × ℤ × ℤ) (i j : ℕ) → in_moved_rows p j ≡ false → in_moved_box p i j ≡ false
rows-outside p i j out = and-right (in_moved_columns p i) (in_moved_rows p j) out

module _ (p : MaskValue × ℤ × ℤ) (left right l r j : ℕ) (both : (i : ℕ) → (nat_le l i && nat_lt i r) ≡ ((nat_le left i && nat_lt i right) && in_moved_columns p i)) where
  pub columns-inside : in_moved_rows p j ≡ true → (i : ℕ) → l ≤ i → i < r → in_moved_box p i j ≡ true
  columns-inside rows i a b =
      let yes : (nat_le l i && nat_lt i r) ≡ true = and-both (nat_le l i) (nat_lt i r) (le-yes l i a) (lt-yes i r b) in
      and-both (in_moved_columns p i) (in_moved_rows p j) (and-second (nat_le left i && nat_lt i right) (in_moved_columns p i) (sym (both i) ∙ yes)) rows

  pub columns-outside : (i : ℕ) → left ≤ i → i < right → (i < l) ⊎ (r ≤ i) → in_moved_box p i j ≡ false
  columns-outside i a b apart =
      let no : (nat_le l i && nat_lt i r) ≡ false =
      elim apart [ inl less ↦ and-left (nat_le l i) (nat_lt i r) (le-no l i less) | inr past ↦ and-right (nat_le l i) (nat_lt i r) (lt-no i r past) ] in
      let whole : ((nat_le left i && nat_lt i right) && in_moved_columns p i) ≡ in_moved_columns p i = true-and (nat_le left i) (nat_lt i right) (in_moved_columns p i) (le-yes left i a) (lt-yes i right b) in
      and-left (in_moved_columns p i) (in_moved_rows p j) (sym whole ∙ (sym (both i) ∙ no))

pub beside-same : (p q : MaskValue × ℤ × ℤ) (left right l r j : ℕ) → p ≡ q → ((i : ℕ) → left ≤ i → i < right → (i < l) ⊎ (r ≤ i) → in_moved_box p i j ≡ false)
    → (i : ℕ) → left ≤ i → i < right → (i < l) ⊎ (r ≤ i) → in_moved_box q i j ≡ false
beside-same p q left right l r j same beside i a b apart = subst (λ (x : MaskValue × ℤ × ℤ). in_moved_box x i j ≡ false) same (beside i a b apart)

-- an image has no weight outside its mask's box
pub weightless-image : (image : Image) (i j : ℕ) → in_moved_box (image.mask, image.x, image.y) i j ≡ false → (tint_at image i j).weight ≡ 0
weightless-image image i j outside =
    tint_of-none (if int_lt (pos i) image.edge then image.left else image.right) _ (stencilled-none image.stencil i j _ (moved_value-outside (image.mask, image.x, image.y) i j outside))

-- ---- a tint without weight

same-layers : (a b c d e f g h : ℕ) → a ≡ e → b ≡ f → c ≡ g → d ≡ h → (let p : Layers = record { r = a; g = b; b = c; a = d } in p) ≡ record { r = e; g = f; b = g; a = h }
same-layers a b c d e f g h p q r s = rw (p, q, r, s) refl

blended-weightless : (v o w : ℕ) → w ≡ 0 → blended v o w ≡ v
blended-weightless v o w e = rw e (blended-none v o)

pub under-weightless : (p : Layers) (t : Tint) → t.weight ≡ 0 → under p t ≡ p
under-weightless p t none =
    same-layers _ _ _ _ p.r p.g p.b p.a (blended-weightless p.r (fine * t.colour.r) t.weight none) (blended-weightless p.g (fine * t.colour.g) t.weight none)
    (blended-weightless p.b (fine * t.colour.b) t.weight none) (blended-weightless p.a (fine * 255) t.weight none)

-- an image that covers nothing of a pixel leaves it
pub under-uncovered : (p : Layers) (image : Image) (i j m : ℕ) → m ≡ moved_value (image.mask, image.x, image.y) (pos i) (pos j) → m ≡ 0 → p ≡ under p (tint_at image i j)
under-uncovered p image i j m is none =
    sym (under-weightless p (tint_at image i j)
    (tint_of-none (if int_lt (pos i) image.edge then image.left else image.right) _ (stencilled-none image.stencil i j _ (sym is ∙ none))))

-- ---- one image more

pub layers-next : {A : Type 0} (f : A → Image) (xs : List A) (k i j : ℕ) (x : A) (p : Layers) → k < length xs → x ≡ get_or xs k x
    → fold (λ (q : Layers) (image : Image). under q (tint_at image i j)) p (map f (take (suc k) xs))
    ≡ under (fold (λ (q : Layers) (image : Image). under q (tint_at image i j)) p (map f (take k xs))) (tint_at (f x) i j)
layers-next f [] k i j x p below is = absurd (omega arith)
layers-next f (y ∷ ys) zero i j x p below is = ap (λ z. under p (tint_at (f z) i j)) (sym is)
layers-next f (y ∷ ys) (suc k) i j x p below is = layers-next f ys k i j x (under p (tint_at (f y) i j)) (omega arith) is

pub clear-more : {A : Type 0} (f : A → Image) (xs : List A) (k i j : ℕ) (x : A) → k < length xs → x ≡ get_or xs k x → layers_at (map f (take k xs)) i j ≡ clear
    → (tint_at (f x) i j).weight ≡ 0 → layers_at (map f (take (k + 1) xs)) i j ≡ clear
clear-more f xs k i j x below is was none =
    rw add-one (layers-next f xs k i j x clear below is ∙ under-weightless (layers_at (map f (take k xs)) i j) (tint_at (f x) i j) none ∙ was)

-- Beside the columns of the images before and of one more, all is clear.
pub columns-more : {A : Type 0} (f : A → Image) (xs : List A) (k j w left right l r nl nr : ℕ) (x : A) → k < length xs → x ≡ get_or xs k x
    → ((i : ℕ) → i < w → (i < left) ⊎ (right ≤ i) → layers_at (map f (take k xs)) i j ≡ clear)
    → ((i : ℕ) → i < w → (i < l) ⊎ (r ≤ i) → (tint_at (f x) i j).weight ≡ 0)
    → (nl ≤ left) × (right ≤ nr) → (r ≤ l) ⊎ ((nl ≤ l) × (r ≤ nr)) → (i : ℕ) → i < w → (i < nl) ⊎ (nr ≤ i) → layers_at (map f (take (k + 1) xs)) i j ≡ clear
columns-more f xs k j w left right l r nl nr x below is was none all own i wide apart =
    clear-more f xs k i j x below is
    (was i wide (elim apart [ inl less ↦ inl (omega (arith, all.0)) | inr past ↦ inr (omega (arith, all.1)) ]))
    (none i wide (elim own [
      | inl empty ↦ elim (cases_lt i l) [ inl less ↦ inl less | inr past ↦ inr (omega arith) ]
      | inr both ↦ elim apart [ inl less ↦ inl (omega (arith, both.0)) | inr past ↦ inr (omega (arith, both.1)) ]
    ]))

-- ---- an image painted on some of the pixels

pub painted-none : (image : Image) (left j from : ℕ) (s : List Layers) → IsPaintedOn image left j from from s s
painted-none image left j from s = record { count = refl; painted = λ k p low high. absurd (omega arith); others = λ k p apart. refl }

pub painted-more : (image : Image) (left j from to : ℕ) (old new : List Layers) (v read : Layers) → from ≤ to → to < length old → IsPaintedOn image left j from to old new
    → read ≡ get_or new to read → v ≡ under read (tint_at image (left + to) j) → IsPaintedOn image left j from (to + 1) old (set new to v)
painted-more image left j from to old new v read ordered below is at value = record {
  count = length-set new to v ∙ is.count;
  painted = λ k p low high. elim (cases_lt k to) [
    | inl before ↦ (let apart : k ≢ to = omega arith in get_or-set_other new to k v p apart ∙ is.painted k p low before)
    | inr from_to ↦ (let here : k ≡ to = omega arith in rw here (get_or-set_same new to v p (omega (arith, is.count)) ∙ here-is p))
  ];
  others = λ k p apart. elim apart [
    | inl less ↦ (let other : k ≢ to = omega arith in get_or-set_other new to k v p other ∙ is.others k p (inl less))
    | inr more ↦ (let other : k ≢ to = omega arith in get_or-set_other new to k v p other ∙ is.others k p (inr (omega arith)))
  ];
}
  where
    here-is : (p : Layers) → v ≡ under (get_or old to p) (tint_at image (left + to) j)
    here-is p = value ∙ ap (λ (q : Layers). under q (tint_at image (left + to) j)) (get_or_read new to read (omega (arith, is.count)) at p ∙ is.others to p (inr (omega arith)))

-- It is painted on all of them, if it has no weight on the others.
pub painted-wider : (image : Image) (left j from to : ℕ) (old new : List Layers) → IsPaintedOn image left j from to old new
    → ((k : ℕ) → k < length old → (k < from) ⊎ (to ≤ k) → (tint_at image (left + k) j).weight ≡ 0) → IsPaintedOn image left j 0 (length old) old new
painted-wider image left j from to old new is none = record {
  count = is.count;
  painted = λ k p low high. elim (cases_lt k from) [
    | inl before ↦ other k p high (inl before)
    | inr past ↦ elim (cases_lt k to) [ inl within ↦ is.painted k p past within | inr beyond ↦ other k p high (inr beyond) ]
  ];
  others = λ k p apart. elim apart [
    | inl less ↦ absurd (omega arith)
    | inr more ↦ get_or_past new k p (omega (arith, is.count)) ∙ sym (get_or_past old k p more)
  ];
}
  where
    other : (k : ℕ) (p : Layers) → k < length old → (k < from) ⊎ (to ≤ k) → get_or new k p ≡ under (get_or old k p) (tint_at image (left + k) j)
    other k p high apart = is.others k p apart ∙ sym (under-weightless (get_or old k p) (tint_at image (left + k) j) (none k high apart))

-- ---- images painted on the pixels

pub layers-more : {A : Type 0} (f : A → Image) (xs : List A) (n left j : ℕ) (x : A) (old new : List Layers) → n < length xs → x ≡ get_or xs n x
    → AreLayers (map f (take n xs)) left j old → IsPaintedOn (f x) left j 0 (length old) old new → AreLayers (map f (take (n + 1) xs)) left j new
layers-more f xs n left j x old new below at was is = λ k p less.
    let inside : k < length old = omega (arith, is.count, less) in
    is.painted k p (omega arith) inside ∙ ap (λ (q : Layers). under q (tint_at (f x) (left + k) j)) (was k p inside)
    ∙ sym (rw add-one (layers-next f xs n (left + k) j x clear below at))

-- ---- clear pixels

pub zeros : (n k : ℕ) → slice_index (replicate n 0) k ≡ 0
zeros n k = elim (cases_lt k n) [ inl within ↦ get_or-replicate {A = ℕ} n k 0 0 within | inr past ↦ get_or_past (replicate n 0) k 0 (omega (arith, length-replicate {A = ℕ} n 0)) ]

clear-byte : (f : AlphaForm) (c : ℕ) → byte_of (formed_pixel f clear) c ≡ 0
clear-byte form.Straight zero = refl
clear-byte form.Straight (suc zero) = refl
clear-byte form.Straight (suc (suc zero)) = refl
clear-byte form.Straight (suc (suc (suc c))) = refl
clear-byte form.Premultiplied zero = refl
clear-byte form.Premultiplied (suc zero) = refl
clear-byte form.Premultiplied (suc (suc zero)) = refl
clear-byte form.Premultiplied (suc (suc (suc c))) = refl

-- either of two, if neither is
pub or-none : (a b : Bool) → (a || b) ≡ false → (a ≡ false) × (b ≡ false)
or-none true b neither = absurd (true≢false neither)
or-none false b neither = (refl, neither)

-- zeros are clear pixels
pub blank-pixels : (f : AlphaForm) (pixels : List Layers) (bytes : List ℕ) (n : ℕ) → bytes ≡ replicate n 0 → length bytes ≡ 4 * length pixels → All (λ p. p ≡ clear) pixels
    → ArePixels (λ k. formed_pixel f (get_or pixels k clear)) (length pixels) bytes
blank-pixels f pixels bytes n is count all = record {
  count = count;
  each = λ k b less small.
      ap (λ (s : List ℕ). get_or s (4 * k + b) 0) is ∙ zeros n (4 * k + b) ∙ sym (ap (λ (p : Layers). byte_of (formed_pixel f p) b) (all k clear less) ∙ clear-byte f b);
}

-- a pixel on which nothing was painted has no byte but 0
pub clear-is : (f : AlphaForm) (images : List Image) (i j c b : ℕ) → layers_at images i j ≡ clear → b ≡ 0 → b ≡ byte_of (formed_pixel f (layers_at images i j)) c
clear-is f images i j c b none is = is ∙ sym (ap (λ (p : Layers). byte_of (formed_pixel f p) c) none ∙ clear-byte f c)
