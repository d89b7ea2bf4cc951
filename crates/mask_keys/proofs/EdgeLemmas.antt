-- How far from 0 the samples inside an outline lie.
use Rattle.std.proofs.Math.Nat.{mul-le-mul_left}
use Rattle.std.proofs.Common.{◌≡◌, ℕ, suc, ◌+◌, ◌*◌, ◌≤◌, Bool, true, false, not, cond, ◌&&◌, ℤ, pos, negsuc, neg_ℤ, ◌-ℤ◌, ◌*ℤ◌, ◌≤ℤ◌, ◌<ℤ◌, int_le, int_lt, List, [], ◌∷◌, ◌++◌, All, count_by, refl, sym, ◌∙◌, arith}
use Rattle.std.proofs.lemmas.Int.{ints, by_lt_z}
use Rattle.std.proofs.lemmas.Bool.{and_left, and_right, false≢true}
use Rattle.std.proofs.lemmas.List.Sums.{sum_by-cons, sum_by-append}
use Rattle.std.proofs.lemmas.List.Elements.{All-head, All-tail}
use Rattle.std.specs.Ordering.{int_eq}
use Rattle.ass_num.specs.Limits.{IsWithin, IsOutline, IsOutlinePoint, max_coordinate}
use Rattle.ass_num.specs.Winding.{place, spans, counts, line, edges, edges_of, inside}
use Rattle.ass_num.specs.declared.geometry.Point.{Point}
use Rattle.sample_region.proofs.SignedLemmas.{mul_le}
use Rattle.ass_num.proofs.OrderLemmas.{lt_true, lt_false, le_true, le_false}
use Rattle.sample_region.proofs.WindingLemmas.{spans_parts}

abbrev Way : Type 0
Way = Point × Point

-- the edges that pass one way, and those that pass the other
abbrev downs : ℤ → ℤ → List Way → ℕ
downs x y es = count_by (λ (e : Way). counts e.0 e.1 x y) es

abbrev ups : ℤ → ℤ → List Way → ℕ
ups x y es = count_by (λ (e : Way). counts e.1 e.0 x y) es

-- both counts of a list are those of its parts
downs-append : (x y : ℤ) (es fs : List Way) → downs x y (es ++ fs) ≡ downs x y es + downs x y fs
downs-append x y es fs = sum_by-append (λ (e : Way). cond (counts e.0 e.1 x y) 1 0) es fs

ups-append : (x y : ℤ) (es fs : List Way) → ups x y (es ++ fs) ≡ ups x y es + ups x y fs
ups-append x y es fs = sum_by-append (λ (e : Way). cond (counts e.1 e.0 x y) 1 0) es fs

-- ---- one fact of each edge, summed along rings

-- 1 for a point above the height or on it
abbrev over : ℤ → Point → ℕ
over y p = cond (int_le p.y y) 1 0

-- What an edge counts one way differs from what it counts the other way as its ends do.
abbrev Balances : ℤ → ℤ → (Point → Type 0) → Type 0
Balances x y P = (a b : Point) → P a → P b → cond (counts a b x y) 1 0 + over y b ≡ cond (counts b a x y) 1 0 + over y a

line_balances : (x y : ℤ) (P : Point → Type 0) → Balances x y P → (p : Point) (rest : List Point) (last : Point) → P p → All P rest → P last
    → downs x y (line p rest last) + over y last ≡ ups x y (line p rest last) + over y p
line_balances x y P each p [] last a h b =
    let e = each p last a b in
    let d = sum_by-cons (λ (e : Way). cond (counts e.0 e.1 x y) 1 0) (p, last) [] in
    let u = sum_by-cons (λ (e : Way). cond (counts e.1 e.0 x y) 1 0) (p, last) [] in
    omega (arith, e, d, u)
line_balances x y P each p (q ∷ rest) last a h b =
    let at : P q = All-head P q rest h in
    let e = each p q a at in
    let r = line_balances x y P each q rest last at (All-tail P q rest h) b in
    let d = sum_by-cons (λ (e : Way). cond (counts e.0 e.1 x y) 1 0) (p, q) (line q rest last) in
    let u = sum_by-cons (λ (e : Way). cond (counts e.1 e.0 x y) 1 0) (p, q) (line q rest last) in
    omega (arith, e, r, d, u)

ring_balances : (x y : ℤ) (P : Point → Type 0) → Balances x y P → (ring : List Point) → All P ring → downs x y (edges ring) ≡ ups x y (edges ring)
ring_balances x y P each [] h = refl
ring_balances x y P each (p ∷ rest) h =
    let at : P p = All-head P p rest h in
    let e = line_balances x y P each p rest p at (All-tail P p rest h) at in
    omega (arith, e)

rings_balance : (x y : ℤ) (P : Point → Type 0) → Balances x y P → (rings : List (List Point)) → All (All P) rings → downs x y (edges_of rings) ≡ ups x y (edges_of rings)
rings_balance x y P each [] h = refl
rings_balance x y P each (r ∷ rings) h =
    let first = ring_balances x y P each r (All-head (All P) r rings h) in
    let rest = rings_balance x y P each rings (All-tail (All P) r rings h) in
    downs-append x y (edges r) (edges_of rings) ∙ omega (arith, first, rest) ∙ sym (ups-append x y (edges r) (edges_of rings))

equal_counts : (a b : ℕ) → a ≡ b → not (int_eq (pos a -ℤ pos b) (pos 0)) ≡ false
equal_counts a b e = let z : pos a -ℤ pos b ≡ pos 0 = omega (arith, ints) in rw z refl

outside : (P : Point → Type 0) (rings : List (List Point)) → All (All P) rings → (i j : ℤ) → Balances (place i) (place j) P → inside rings i j ≡ false
outside P rings h i j each = equal_counts (downs (place i) (place j) (edges_of rings)) (ups (place i) (place j) (edges_of rings)) (rings_balance (place i) (place j) P each rings h)

-- ---- edges that don't pass, or pass wholly

-- an edge spans no height that all points are above or below
none_spans : (x y : ℤ) (a b : Point) → spans a b y ≡ false → ◌≡◌ {A = ℕ} (cond (counts a b x y) 1 0) 0
none_spans x y a b e = rw (and_left (spans a b y) (int_lt ((x -ℤ a.x) *ℤ (b.y -ℤ a.y)) ((b.x -ℤ a.x) *ℤ (y -ℤ a.y))) e) refl

above_balances : (x y : ℤ) → (P : Point → Type 0) → ((p : Point) → P p → y <ℤ p.y) → Balances x y P
above_balances x y P far a b pa pb =
    let la = far a pa in
    let lb = far b pb in
    let ea = le_false a.y y la in
    let eb = le_false b.y y lb in
    let da = none_spans x y a b (and_left (int_le a.y y) (int_lt y b.y) ea) in
    let db = none_spans x y b a (and_left (int_le b.y y) (int_lt y a.y) eb) in
    rw (da, db, ea, eb) refl

below_balances : (x y : ℤ) → (P : Point → Type 0) → ((p : Point) → P p → p.y ≤ℤ y) → Balances x y P
below_balances x y P far a b pa pb =
    let la = far a pa in
    let lb = far b pb in
    let ea = le_true a.y y la in
    let eb = le_true b.y y lb in
    let da = none_spans x y a b (and_right (int_le a.y y) (int_lt y b.y) (lt_false y b.y lb)) in
    let db = none_spans x y b a (and_right (int_le b.y y) (int_lt y a.y) (lt_false y a.y la)) in
    rw (da, db, ea, eb) refl

-- ---- products of signed numbers

-- an edge whose ends lie left of a sample, or under it
right_product : (u w v h : ℤ) → w ≤ℤ u → pos 0 ≤ℤ u → pos 0 ≤ℤ v → v ≤ℤ h → (w *ℤ v) ≤ℤ (u *ℤ h)
right_product u w (negsuc n) h a b c d = absurd (omega (arith, ints))
right_product u w (pos n) (negsuc m) a b c d = absurd (omega (arith, ints))
right_product (negsuc p) w (pos n) (pos m) a b c d = absurd (omega (arith, ints))
right_product (pos p) w (pos n) (pos m) a b c d =
    let less : n ≤ m = omega (arith, ints) in
    let e = mul_le w (pos p) n a in
    let f : p * n ≤ p * m = mul-le-mul_left p less in
    omega (arith, ints)

-- one whose ends lie right of it
left_product : (u w v h : ℤ) → u ≤ℤ w → u <ℤ pos 0 → pos 0 ≤ℤ v → v <ℤ h → (u *ℤ h) <ℤ (w *ℤ v)
left_product u w (negsuc n) h a b c d = absurd (omega (arith, ints))
left_product u w (pos n) (negsuc m) a b c d = absurd (omega (arith, ints))
left_product (pos p) w (pos n) (pos m) a b c d = absurd (omega (arith, ints))
left_product (negsuc p) w (pos n) (pos m) a b c d =
    let less : n + 1 ≤ m = omega (arith, ints) in
    let e = mul_le (negsuc p) w n a in
    let f : suc p * (n + 1) ≤ suc p * m = mul-le-mul_left (suc p) less in
    omega (arith, ints)

-- ---- points left and right of a sample

both_tests : (s t : Bool) → (s ≡ true → t ≡ false) → (s && t) ≡ false
both_tests true t f = f refl
both_tests false t f = refl

first_test : (s t : Bool) → (s ≡ true → t ≡ true) → (s && t) ≡ s
first_test true t f = f refl
first_test false t f = refl

left_counts : (x y : ℤ) (a b : Point) → a.x ≤ℤ x → b.x ≤ℤ x → counts a b x y ≡ false
left_counts x y a b la lb = both_tests (spans a b y) (int_lt ((x -ℤ a.x) *ℤ (b.y -ℤ a.y)) ((b.x -ℤ a.x) *ℤ (y -ℤ a.y))) (λ s.
    let p = spans_parts a b y s in
    let u = p.0 in
    let v = p.1 in
    lt_false ((x -ℤ a.x) *ℤ (b.y -ℤ a.y)) ((b.x -ℤ a.x) *ℤ (y -ℤ a.y)) (right_product (x -ℤ a.x) (b.x -ℤ a.x) (y -ℤ a.y) (b.y -ℤ a.y) (omega (arith, ints)) (omega (arith, ints)) (omega (arith, ints)) (omega (arith, ints))))

right_counts : (x y : ℤ) (a b : Point) → x <ℤ a.x → x <ℤ b.x → counts a b x y ≡ spans a b y
right_counts x y a b la lb = first_test (spans a b y) (int_lt ((x -ℤ a.x) *ℤ (b.y -ℤ a.y)) ((b.x -ℤ a.x) *ℤ (y -ℤ a.y))) (λ s.
    let p = spans_parts a b y s in
    let u = p.0 in
    let v = p.1 in
    lt_true ((x -ℤ a.x) *ℤ (b.y -ℤ a.y)) ((b.x -ℤ a.x) *ℤ (y -ℤ a.y)) (left_product (x -ℤ a.x) (b.x -ℤ a.x) (y -ℤ a.y) (b.y -ℤ a.y) (omega (arith, ints)) (omega (arith, ints)) (omega (arith, ints)) (omega (arith, ints))))

-- what an edge spans the one way and the other, by its ends
spans_balance : (s t u v : Bool) → s ≡ not v → t ≡ not u → cond (u && s) 1 0 + cond v 1 0 ≡ cond (v && t) 1 0 + cond u 1 0
spans_balance s t true true e f = rw (e, f) refl
spans_balance s t true false e f = rw e refl
spans_balance s t false true e f = rw f refl
spans_balance s t false false e f = refl

lt_by_le : (y z : ℤ) → int_lt y z ≡ not (int_le z y)
lt_by_le y z = by_lt_z y z (λ (l : y <ℤ z). rw (lt_true y z l, le_false z y l) refl) (λ (l : z ≤ℤ y). rw (lt_false y z l, le_true z y l) refl)

edge_balance : (y : ℤ) (a b : Point) → cond (spans a b y) 1 0 + over y b ≡ cond (spans b a y) 1 0 + over y a
edge_balance y a b = spans_balance (int_lt y b.y) (int_lt y a.y) (int_le a.y y) (int_le b.y y) (lt_by_le y b.y) (lt_by_le y a.y)

right_balances : (x y : ℤ) → (P : Point → Type 0) → ((p : Point) → P p → x <ℤ p.x) → Balances x y P
right_balances x y P far a b pa pb = rw (right_counts x y a b (far a pa) (far b pb), right_counts x y b a (far b pb) (far a pa)) (edge_balance y a b)

-- ---- an outline

-- A sample with an outline's points all on one side isn't inside. Those left of it need no balance: none of their edges counts.
left_outside : (P : Point → Type 0) (rings : List (List Point)) → All (All P) rings → (i j : ℤ) → ((p : Point) → P p → p.x ≤ℤ place i) → inside rings i j ≡ false
left_outside P rings h i j far =
    let none = no_counts (place i) (place j) P far rings h in
    equal_counts (downs (place i) (place j) (edges_of rings)) (ups (place i) (place j) (edges_of rings)) (none.0 ∙ sym none.1)
  where
    edge_zero : (x y : ℤ) (P : Point → Type 0) → ((p : Point) → P p → p.x ≤ℤ x) → (a b : Point) → P a → P b → ◌≡◌ {A = ℕ} (cond (counts a b x y) 1 0) 0
    edge_zero x y P far a b pa pb = rw (left_counts x y a b (far a pa) (far b pb)) refl

    line_zero : (x y : ℤ) (P : Point → Type 0) → ((p : Point) → P p → p.x ≤ℤ x) → (p : Point) (rest : List Point) (last : Point) → P p → All P rest → P last → (downs x y (line p rest last) ≡ 0) × (ups x y (line p rest last) ≡ 0)
    line_zero x y P far p [] last a h b =
        let d = sum_by-cons (λ (e : Way). cond (counts e.0 e.1 x y) 1 0) (p, last) [] in
        let u = sum_by-cons (λ (e : Way). cond (counts e.1 e.0 x y) 1 0) (p, last) [] in
        let e = edge_zero x y P far p last a b in
        let f = edge_zero x y P far last p b a in
        (omega (arith, d, e), omega (arith, u, f))
    line_zero x y P far p (q ∷ rest) last a h b =
        let at : P q = All-head P q rest h in
        let r = line_zero x y P far q rest last at (All-tail P q rest h) b in
        let d = sum_by-cons (λ (e : Way). cond (counts e.0 e.1 x y) 1 0) (p, q) (line q rest last) in
        let u = sum_by-cons (λ (e : Way). cond (counts e.1 e.0 x y) 1 0) (p, q) (line q rest last) in
        let e = edge_zero x y P far p q a at in
        let f = edge_zero x y P far q p at a in
        (omega (arith, d, e, r.0), omega (arith, u, f, r.1))

    ring_zero : (x y : ℤ) (P : Point → Type 0) → ((p : Point) → P p → p.x ≤ℤ x) → (ring : List Point) → All P ring → (downs x y (edges ring) ≡ 0) × (ups x y (edges ring) ≡ 0)
    ring_zero x y P far [] h = (refl, refl)
    ring_zero x y P far (p ∷ rest) h = let at : P p = All-head P p rest h in line_zero x y P far p rest p at (All-tail P p rest h) at

    no_counts : (x y : ℤ) (P : Point → Type 0) → ((p : Point) → P p → p.x ≤ℤ x) → (rings : List (List Point)) → All (All P) rings → (downs x y (edges_of rings) ≡ 0) × (ups x y (edges_of rings) ≡ 0)
    no_counts x y P far [] h = (refl, refl)
    no_counts x y P far (r ∷ rings) h =
        let first = ring_zero x y P far r (All-head (All P) r rings h) in
        let rest = no_counts x y P far rings (All-tail (All P) r rings h) in
        (downs-append x y (edges r) (edges_of rings) ∙ omega (arith, first.0, rest.0), ups-append x y (edges r) (edges_of rings) ∙ omega (arith, first.1, rest.1))

pub inside_near : (rings : List (List Point)) → IsOutline rings → (i j : ℤ) → inside rings i j ≡ true → IsWithin 65536 i × IsWithin 65536 j
inside_near rings near i j h =
    let x : ℤ = place i in
    let y : ℤ = place j in
    by_lt_z x (neg_ℤ (pos max_coordinate))
    (λ (l : x <ℤ neg_ℤ (pos max_coordinate)). absurd (false≢true (sym (outside IsOutlinePoint rings near i j (right_balances x y IsOutlinePoint (λ p w. let a = w.x.0 in omega (arith, ints)))) ∙ h)))
    (λ (l : neg_ℤ (pos max_coordinate) ≤ℤ x). by_lt_z x (pos max_coordinate)
    (λ (r : x <ℤ pos max_coordinate). by_lt_z y (neg_ℤ (pos max_coordinate))
    (λ (t : y <ℤ neg_ℤ (pos max_coordinate)). absurd (false≢true (sym (outside IsOutlinePoint rings near i j (above_balances x y IsOutlinePoint (λ p w. let a = w.y.0 in omega (arith, ints)))) ∙ h)))
    (λ (t : neg_ℤ (pos max_coordinate) ≤ℤ y). by_lt_z y (pos max_coordinate)
    (λ (b : y <ℤ pos max_coordinate). ((omega (arith, ints), omega (arith, ints)), (omega (arith, ints), omega (arith, ints))))
    (λ (b : pos max_coordinate ≤ℤ y). absurd (false≢true (sym (outside IsOutlinePoint rings near i j (below_balances x y IsOutlinePoint (λ p w. let a = w.y.1 in omega (arith, ints)))) ∙ h)))))
    (λ (r : pos max_coordinate ≤ℤ x). absurd (false≢true (sym (left_outside IsOutlinePoint rings near i j (λ p w. let a = w.x.1 in omega (arith, ints))) ∙ h))))
