-- The sorted crossings of a row tell the winding numbers.
use Rattle.std.proofs.Common.{◌≡◌, ℕ, ◌+◌, Bool, true, false, not, cond, eqb, ◌&&◌, ℤ, pos, ◌-ℤ◌, ◌*ℤ◌, ◌≤ℤ◌, ◌<ℤ◌, refl, sym, ap, ◌∙◌, arith, int_lt, int_le, List, [], ◌∷◌, ◌++◌, count_by, sum_by, flat_map, append_assoc}
use Rattle.std.proofs.lemmas.List.{append-nil}
use Rattle.std.proofs.lemmas.Int.{ints, by_lt_z}
use Rattle.std.proofs.lemmas.Bool.{and_parts}
use Rattle.std.proofs.lemmas.List.Sums.{sum_by-cons, sum_by-append}
use Rattle.std.specs.Ordering.{int_eq}
use Rattle.ass_num.proofs.OrderLemmas.{lt_true, lt_false, le_true, le_false, lt_is, le_is}
use Rattle.sample_region.proofs.SignedLemmas.{below_cut}
use Rattle.ass_num.specs.Winding.{place, spans, counts, line, edges, edges_of, inside}
use Rattle.sample_region.specs.Crossings.{cut_of, downs, ups, downs_to, ups_to, downs_after, ups_after, is_odd}
use Rattle.ass_num.specs.declared.geometry.Point.{Point}
use Rattle.sample_region.specs.declared.sweep.Crossing.{Crossing}

-- the crossing of the edge from a to b with the row at y, if there is one
abbrev pub crossing_of : ℤ → Point × Point → List Crossing
crossing_of y e = cond (spans e.0 e.1 y) (record { at = cut_of e.0 e.1 y; down = true } ∷ []) (cond (spans e.1 e.0 y) (record { at = cut_of e.1 e.0 y; down = false } ∷ []) [])

abbrev pub crossings_of : ℤ → List (Point × Point) → List Crossing
crossings_of y es = flat_map (crossing_of y) es

-- the same crossings, in some order, as far as sums tell
abbrev pub SameSums : List Crossing → List Crossing → Type 0
SameSums ds cs = (g : Crossing → ℕ) → sum_by g cs ≡ sum_by g ds

-- ---- an edge
pub spans_parts : (a b : Point) (y : ℤ) → spans a b y ≡ true → (a.y ≤ℤ y) × (y <ℤ b.y)
spans_parts a b y h = let p = and_parts (int_le a.y y) (int_lt y b.y) h in (le_is a.y y p.0, lt_is y b.y p.1)

one_way : (a b : Point) (y : ℤ) → spans a b y ≡ true → spans b a y ≡ false
one_way a b y h = let p = spans_parts a b y h in let p0 = p.0 in let p1 = p.1 in rw (le_false b.y y (omega (arith, ints))) refl

cut_counts : (a b : Point) (y i : ℤ) → spans a b y ≡ true → int_lt i (cut_of a b y) ≡ int_lt ((place i -ℤ a.x) *ℤ (b.y -ℤ a.y)) ((b.x -ℤ a.x) *ℤ (y -ℤ a.y))
cut_counts a b y i h =
    let p = spans_parts a b y h in
    let p0 = p.0 in
    let p1 = p.1 in
    below_cut i a.x ((b.x -ℤ a.x) *ℤ (y -ℤ a.y)) (b.y -ℤ a.y) (omega (arith, ints))

abbrev marks : Bool → Bool → ℤ → ℤ → List Crossing
marks f b u v = cond f (record { at = u; down = true } ∷ []) (cond b (record { at = v; down = false } ∷ []) [])

marks-downs : (f b : Bool) (u v : ℤ) → downs (marks f b u v) ≡ cond f 1 0
marks-downs true b u v = refl
marks-downs false true u v = refl
marks-downs false false u v = refl

marks-ups : (f b : Bool) (u v : ℤ) → (f ≡ true → b ≡ false) → ups (marks f b u v) ≡ cond b 1 0
marks-ups true b u v h = rw (h refl) refl
marks-ups false true u v h = refl
marks-ups false false u v h = refl

marks-downs_after : (f b : Bool) (u v i : ℤ) → downs_after i (marks f b u v) ≡ cond (f && int_lt i u) 1 0
marks-downs_after true b u v i = omega arith
marks-downs_after false true u v i = refl
marks-downs_after false false u v i = refl

marks-ups_after : (f b : Bool) (u v i : ℤ) → (f ≡ true → b ≡ false) → ups_after i (marks f b u v) ≡ cond (b && int_lt i v) 1 0
marks-ups_after true b u v i h = rw (h refl) refl
marks-ups_after false true u v i h = omega arith
marks-ups_after false false u v i h = refl

-- a test and a number that is the same wherever the test passes
under : (t p q : Bool) → (t ≡ true → p ≡ q) → ◌≡◌ {A = ℕ} (cond (t && p) 1 0) (cond (t && q) 1 0)
under true p q h = ap (λ b. cond b 1 0) (h refl)
under false p q h = refl

-- ---- all edges
pub flat_sums : {X Y : Type 0} (g : Y → ℕ) (h : X → ℕ) (f : X → List Y) → ((x : X) → sum_by g (f x) ≡ h x) → (xs : List X) → sum_by g (flat_map f xs) ≡ sum_by h xs
flat_sums g h f e [] = refl
flat_sums g h f e (x ∷ xs) = sum_by-append g (f x) (flat_map f xs) ∙ rw (e x, flat_sums g h f e xs) (sym (sum_by-cons h x xs))

abbrev pub Way : Type 0
Way = Point × Point

downs_are : (y : ℤ) (es : List Way) → downs (crossings_of y es) ≡ count_by (λ (e : Way). spans e.0 e.1 y) es
downs_are y es = flat_sums (λ (c : Crossing). cond c.down 1 0) (λ (e : Way). cond (spans e.0 e.1 y) 1 0) (crossing_of y) (λ e. marks-downs (spans e.0 e.1 y) (spans e.1 e.0 y) (cut_of e.0 e.1 y) (cut_of e.1 e.0 y)) es

ups_are : (y : ℤ) (es : List Way) → ups (crossings_of y es) ≡ count_by (λ (e : Way). spans e.1 e.0 y) es
ups_are y es = flat_sums (λ (c : Crossing). cond (not c.down) 1 0) (λ (e : Way). cond (spans e.1 e.0 y) 1 0) (crossing_of y) (λ e. marks-ups (spans e.0 e.1 y) (spans e.1 e.0 y) (cut_of e.0 e.1 y) (cut_of e.1 e.0 y) (one_way e.0 e.1 y)) es

downs_after_are : (y i : ℤ) (es : List Way) → downs_after i (crossings_of y es) ≡ count_by (λ (e : Way). counts e.0 e.1 (place i) y) es
downs_after_are y i es = flat_sums (λ (c : Crossing). cond (c.down && int_lt i c.at) 1 0) (λ (e : Way). cond (counts e.0 e.1 (place i) y) 1 0) (crossing_of y)
    (λ e. marks-downs_after (spans e.0 e.1 y) (spans e.1 e.0 y) (cut_of e.0 e.1 y) (cut_of e.1 e.0 y) i ∙ under (spans e.0 e.1 y) (int_lt i (cut_of e.0 e.1 y)) (int_lt ((place i -ℤ e.0.x) *ℤ (e.1.y -ℤ e.0.y)) ((e.1.x -ℤ e.0.x) *ℤ (y -ℤ e.0.y))) (cut_counts e.0 e.1 y i)) es

ups_after_are : (y i : ℤ) (es : List Way) → ups_after i (crossings_of y es) ≡ count_by (λ (e : Way). counts e.1 e.0 (place i) y) es
ups_after_are y i es = flat_sums (λ (c : Crossing). cond (not c.down && int_lt i c.at) 1 0) (λ (e : Way). cond (counts e.1 e.0 (place i) y) 1 0) (crossing_of y)
    (λ e. marks-ups_after (spans e.0 e.1 y) (spans e.1 e.0 y) (cut_of e.0 e.1 y) (cut_of e.1 e.0 y) i (one_way e.0 e.1 y) ∙ under (spans e.1 e.0 y) (int_lt i (cut_of e.1 e.0 y)) (int_lt ((place i -ℤ e.1.x) *ℤ (e.0.y -ℤ e.1.y)) ((e.0.x -ℤ e.1.x) *ℤ (y -ℤ e.1.y))) (cut_counts e.1 e.0 y i)) es

pub flat_map-append : {X Y : Type 0} (f : X → List Y) (xs ys : List X) → flat_map f (xs ++ ys) ≡ flat_map f xs ++ flat_map f ys
flat_map-append f [] ys = refl
flat_map-append f (x ∷ xs) ys = ap (λ zs. f x ++ zs) (flat_map-append f xs ys) ∙ sym (append_assoc (f x) (flat_map f xs) (flat_map f ys))

flat_more : {X Y : Type 0} (f : X → List Y) (xs : List X) (x : X) → flat_map f (xs ++ x ∷ []) ≡ flat_map f xs ++ f x
flat_more f xs x = flat_map-append f xs (x ∷ []) ∙ ap (λ ys. flat_map f xs ++ ys) (append-nil (f x))

-- ---- a closed ring goes down as often as up
abbrev passed : ℤ → Point → ℕ
passed y p = cond (int_le p.y y) 1 0

edge_balance : (y : ℤ) (a b : Point) → cond (spans a b y) 1 0 + passed y b ≡ cond (spans b a y) 1 0 + passed y a
edge_balance y a b =
    by_lt_z y a.y
    (λ (h : y <ℤ a.y). by_lt_z y b.y
    (λ (k : y <ℤ b.y). rw (le_false a.y y h, le_false b.y y k) refl)
    (λ (k : b.y ≤ℤ y). rw (le_false a.y y h, le_true b.y y k, lt_true y a.y h) refl))
    (λ (h : a.y ≤ℤ y). by_lt_z y b.y
    (λ (k : y <ℤ b.y). rw (le_true a.y y h, le_false b.y y k, lt_true y b.y k) refl)
    (λ (k : b.y ≤ℤ y). rw (le_true a.y y h, le_true b.y y k, lt_false y a.y h, lt_false y b.y k) refl))

abbrev forth : ℤ → List Way → ℕ
forth y es = count_by (λ (e : Way). spans e.0 e.1 y) es

abbrev back : ℤ → List Way → ℕ
back y es = count_by (λ (e : Way). spans e.1 e.0 y) es

line_balance : (y : ℤ) (p : Point) (rest : List Point) (last : Point) → forth y (line p rest last) + passed y last ≡ back y (line p rest last) + passed y p
line_balance y p [] last = let e = edge_balance y p last in omega arith
line_balance y p (q ∷ rest) last =
    let e = edge_balance y p q in
    let i = line_balance y q rest last in
    rw (sum_by-cons (λ (e : Way). cond (spans e.0 e.1 y) 1 0) (p, q) (line q rest last), sum_by-cons (λ (e : Way). cond (spans e.1 e.0 y) 1 0) (p, q) (line q rest last)) (omega arith)

ring_balance : (y : ℤ) (ring : List Point) → forth y (edges ring) ≡ back y (edges ring)
ring_balance y [] = refl
ring_balance y (p ∷ rest) = let e = line_balance y p rest p in omega arith

rings_balance : (y : ℤ) (rings : List (List Point)) → forth y (edges_of rings) ≡ back y (edges_of rings)
rings_balance y [] = refl
rings_balance y (r ∷ rings) =
    let e = ring_balance y r in
    let i = rings_balance y rings in
    sum_by-append (λ (e : Way). cond (spans e.0 e.1 y) 1 0) (edges r) (edges_of rings) ∙ rw (e, i) (sym (sum_by-append (λ (e : Way). cond (spans e.1 e.0 y) 1 0) (edges r) (edges_of rings)))

pub even : (y : ℤ) (rings : List (List Point)) (cs : List Crossing) → SameSums (crossings_of y (edges_of rings)) cs → downs cs ≡ ups cs
even y rings cs h =
    let es = edges_of rings in
    let a = h (λ (c : Crossing). cond c.down 1 0) in
    let b = h (λ (c : Crossing). cond (not c.down) 1 0) in
    a ∙ downs_are y es ∙ rings_balance y rings ∙ sym (ups_are y es) ∙ sym b

-- ---- what is before and after a sample
halves : (t : Bool) (a i : ℤ) → cond (t && int_le a i) 1 0 + cond (t && int_lt i a) 1 0 ≡ cond t 1 0
halves false a i = refl
halves true a i = by_lt_z i a (λ (h : i <ℤ a). rw (le_false a i h, lt_true i a h) refl) (λ (h : a ≤ℤ i). rw (le_true a i h, lt_false i a h) refl)

parts : (t : Crossing → Bool) (i : ℤ) (cs : List Crossing) → count_by (λ c. t c && int_le c.at i) cs + count_by (λ c. t c && int_lt i c.at) cs ≡ count_by t cs
parts t i [] = refl
parts t i (c ∷ cs) =
    let e = halves (t c) c.at i in
    let k = parts t i cs in
    rw (sum_by-cons (λ (c : Crossing). cond (t c && int_le c.at i) 1 0) c cs, sum_by-cons (λ (c : Crossing). cond (t c && int_lt i c.at) 1 0) c cs, sum_by-cons (λ (c : Crossing). cond (t c) 1 0) c cs) (omega arith)

same_eqb : (a b c d : ℕ) → a + c ≡ b + d → eqb a b ≡ eqb c d
same_eqb a b c d h = grind arith

zero_difference : (a b : ℕ) → eqb a b ≡ int_eq (pos a -ℤ pos b) (pos 0)
zero_difference a b = grind (arith, ints)

-- the crossings at or before a sample are odd just where the sample is inside
pub inside_is : (rings : List (List Point)) (i j : ℤ) (cs : List Crossing) → SameSums (crossings_of (place j) (edges_of rings)) cs
    → is_odd i cs ≡ inside rings i j
inside_is rings i j cs h =
    let y = place j in
    let es = edges_of rings in
    let n = even y rings cs h in
    let p = parts (λ c. c.down) i cs in
    let q = parts (λ c. not c.down) i cs in
    let a : downs_after i cs ≡ count_by (λ (e : Way). counts e.0 e.1 (place i) y) es = h (λ (c : Crossing). cond (c.down && int_lt i c.at) 1 0) ∙ downs_after_are y i es in
    let b : ups_after i cs ≡ count_by (λ (e : Way). counts e.1 e.0 (place i) y) es = h (λ (c : Crossing). cond (not c.down && int_lt i c.at) 1 0) ∙ ups_after_are y i es in
    let s : eqb (downs_to i cs) (ups_to i cs) ≡ eqb (downs_after i cs) (ups_after i cs) = same_eqb (downs_to i cs) (ups_to i cs) (downs_after i cs) (ups_after i cs) (omega arith) in
    ap not (s ∙ rw (a, b) (zero_difference (count_by (λ (e : Way). counts e.0 e.1 (place i) y) es) (count_by (λ (e : Way). counts e.1 e.0 (place i) y) es)))
