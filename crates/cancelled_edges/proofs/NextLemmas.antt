-- The next edges, by a sort of the edges' beginnings.
use Rattle.std.proofs.Common.{Ordering, Less, Equal, Greater, ◌≡◌, ℕ, ◌+◌, ◌<◌, ◌≤◌, inl, inr, suc, subst, Bool, true, false, not, cond, ◌&&◌, ◌||◌, ℤ, List, [], ◌∷◌, ◌++◌, length, get_or, take, map, sum_by, count_by, nat_eq, nat_lt, int_lt, refl, sym, ap, ◌∙◌, arith, All, IsPermutation, IsSortedByKey}
use Rattle.std.proofs.lemmas.Int.{ints}
use Rattle.std.proofs.lemmas.Bool.{cases_Bool, cases_order}
use Rattle.std.proofs.lemmas.Bool.Decides.{nat_tests}
use Rattle.std.proofs.lemmas.Cmp.{int_cmp_total, on_total, then_total}
use Rattle.std.proofs.lemmas.List.{get_or-map, get_or-take, get_or_default, length-map, length-take-le, length_push, take_all}
use Rattle.std.proofs.lemmas.List.Elements.{All-nil, All-push}
use Rattle.std.proofs.lemmas.List.Sums.{sum_by-cons, sum_by_push, sum_by_more, sum_by_more_le, get_or-le-sum_by}
use Rattle.std.proofs.lemmas.List.Sorted.{sorted_far, ranks_by, answers_always, sum_by-IsPermutation, All-permutation, length_permutation}
use Rattle.std.specs.Cmp.{IsTotalOrder}
use Rattle.std.specs.Ordering.{int_cmp, int_eq, is_lt, ordering_then}
use Rattle.std.specs.Fn.{ComputesKey, Called}
use denote.Param.Members.{Mut}
use denote.Ref.{Bor}
use Rattle.ass_num.specs.declared.geometry.Point.{Point}
use Rattle.cancelled_edges.specs.Edges.{is_before, IsClosed}
use Rattle.cancelled_edges.specs.Walks.{IsInPointOrder, IsNext}
use Rattle.cancelled_edges.specs.declared.edges.Edge.{Edge}
use Rattle.cancelled_edges.specs.declared.rings.Start.{Start}
use Rattle.cancelled_edges.proofs.BalanceLemmas.{same_from_parts, sum_by-map}

-- ---- points in order
abbrev pub Place : Type 0
Place = ℤ × ℤ

abbrev pub place_of : Point → Place
place_of p = (p.x, p.y)

abbrev pub place_cmp : Place → Place → Ordering
place_cmp a b = ordering_then (int_cmp a.0 b.0) (int_cmp a.1 b.1)

place_total : IsTotalOrder place_cmp
place_total = then_total (on_total (λ (t : Place). t.0) int_cmp_total) (on_total (λ (t : Place). t.1) int_cmp_total)

equal_is : (a b : ℤ) → int_eq a b ≡ not (int_lt a b || int_lt b a)
equal_is a b = grind (arith, ints)

by_tests : (a b c d : Bool) → is_lt (ordering_then (cond a Less (cond b Greater Equal)) (cond c Less (cond d Greater Equal))) ≡ (a || (not (a || b) && c))
by_tests true b c d = refl
by_tests false true c d = refl
by_tests false false true d = refl
by_tests false false false true = refl
by_tests false false false false = refl

before_is : (p q : Point) → is_lt (place_cmp (place_of p) (place_of q)) ≡ is_before p q
before_is p q = by_tests (int_lt p.x q.x) (int_lt q.x p.x) (int_lt p.y q.y) (int_lt q.y p.y) ∙ ap (λ t. int_lt p.x q.x || (t && int_lt p.y q.y)) (sym (equal_is p.x q.x))

-- Of two different points one comes first.
neither_before : (p q : Point) → is_before p q ≡ false → is_before q p ≡ false → p ≡ q
neither_before p q a b =
    let x : p.x ≡ q.x = grind (arith, ints) in
    let y : p.y ≡ q.y = grind (arith, ints) in
    same_from_parts p q x y

pub some_of : {X : Type 0} (xs : List X) → 0 < length xs → X
some_of [] h = absurd (omega arith)
some_of (x ∷ xs) h = x

pub in_order_from_sort : {X : Type 0} (point : X → Point) {F : Type 0} {g : Mut F (Bor X × Unit {0}) Place} {f : F} (xs : List X)
    → ((k : X → Place) → ComputesKey g k f → IsSortedByKey k place_cmp xs)
    → ((f : F) (a : Bor X × Unit {0}) (r : Place) (f' : F) → Called g f a r f' → r ≡ place_of (point a.0.now)) → IsInPointOrder (map point xs)
in_order_from_sort {X} point {g = g} {f = f} xs up h i j d order within =
    let key = λ (x : X). place_of (point x) in
    let sorted = up key (answers_always g (λ a r. r ≡ place_of (point a.0.now)) f h) in
    let long = length-map xs point in
    let last : j < length xs = omega arith in
    let first : i < length xs = omega arith in
    let x = some_of xs (omega arith) in
    let lt = λ (x : X) (y : X). is_lt (place_cmp (place_of (point x)) (place_of (point y))) in
    let far = sorted_far lt (ranks_by place_total key) xs sorted i j x order last in
    ap (λ p. is_before p (get_or (map point xs) i d)) (get_or-map point xs j x d last)
    ∙ ap (λ q. is_before (point (get_or xs j x)) q) (get_or-map point xs i x d first)
    ∙ sym (before_is (point (get_or xs j x)) (point (get_or xs i x))) ∙ far

none_pass : {X : Type 0} (p : X → Bool) (xs : List X) → ((k : ℕ) (d : X) → k < length xs → p (get_or xs k d) ≡ false) → count_by p xs ≡ 0
none_pass p [] h = refl
none_pass p (x ∷ xs) h =
    let first : p x ≡ false = h 0 x (omega arith) in
    let zero : ◌≡◌ {A = ℕ} (cond (p x) 1 0) 0 = ap (λ t. cond {A = ℕ} t 1 0) first in
    let rest = none_pass p xs (λ k d within. h (suc k) d (omega arith)) in
    omega (arith, zero, rest, sum_by-cons (λ x. cond (p x) 1 0) x xs)

-- The first of points in order isn't after one of the same points.
head_not_before : (p : Point) (ps : List Point) (q : Point) (qs : List Point) → IsInPointOrder (q ∷ qs) → ((f : Point → ℕ) → sum_by f (p ∷ ps) ≡ sum_by f (q ∷ qs)) → is_before p q ≡ false
head_not_before p ps q qs order sums =
    elim (cases_Bool (is_before p q)) [
      | inl before ↦
          let f : Point → ℕ = λ r. cond (is_before r q) 1 0 in
          let none = none_pass (λ r. is_before r q) (q ∷ qs) (λ k d within. order 0 k d (omega arith) within) in
          let one : f p ≡ 1 = ap (λ t. cond t 1 0) before in
          absurd (omega (arith, none, one, sums f, sum_by-cons f p ps))
      | inr not_before ↦ not_before
    ]

-- Points in order are fixed by how often each is there.
pub same_in_order : (ps qs : List Point) → IsInPointOrder ps → IsInPointOrder qs → ((f : Point → ℕ) → sum_by f ps ≡ sum_by f qs) → ps ≡ qs
same_in_order [] [] a b sums = refl
same_in_order [] (q ∷ qs) a b sums = let one = sums (λ r. 1) in absurd (omega (arith, one, sum_by-cons (λ (r : Point). 1) q qs))
same_in_order (p ∷ ps) [] a b sums = let one = sums (λ r. 1) in absurd (omega (arith, one, sum_by-cons (λ (r : Point). 1) p ps))
same_in_order (p ∷ ps) (q ∷ qs) a b sums =
    let same : p ≡ q = neither_before p q (head_not_before p ps q qs b sums) (head_not_before q qs p ps a (λ f. sym (sums f))) in
    let rest = same_in_order ps qs (λ i j d order within. a (suc i) (suc j) d (omega arith) (omega arith)) (λ i j d order within. b (suc i) (suc j) d (omega arith) (omega arith))
    (λ f. let e : f p ≡ f q = ap f same in omega (arith, sums f, e, sum_by-cons f p ps, sum_by-cons f q qs)) in
    ap (λ r. r ∷ ps) same ∙ ap (λ rs. q ∷ rs) rest

-- ---- the beginnings of the first n edges
-- Each place is below n, and each once.
abbrev pub AreCounts : ℕ → List Start → Type 0
AreCounts n starts = (j : ℕ) → count_by (λ (s : Start). nat_eq s.edge j) starts ≡ cond (nat_lt j n) 1 0

-- The edge at the place begins there.
abbrev pub IsBeginning : List Edge → Start → Type 0
IsBeginning es s = (d : Edge) → s.edge < length es → s.from ≡ (get_or es s.edge d).from

pub record AreStarts (es : List Edge) (k : ℕ) (starts : List Start) : Type 0 where
  pub same_length : length starts ≡ k
  pub counts : AreCounts k starts
  pub begins : All (IsBeginning es) starts
  pub sums : (f : Point → ℕ) → sum_by (λ (s : Start). f s.from) starts ≡ sum_by (λ (e : Edge). f e.from) (take k es)

pub starts_none : (es : List Edge) (starts : List Start) → starts ≡ [] → AreStarts es 0 starts
starts_none es starts none =
    let here : AreStarts es 0 [] = record {
      same_length = refl;
      counts = λ j. grind (arith, nat_tests);
      begins = All-nil (IsBeginning es);
      sums = λ f. refl;
    } in
    subst (AreStarts es 0) (sym none) here

counted : (j k : ℕ) → cond (nat_lt j k) 1 0 + cond (nat_eq k j) 1 0 ≡ cond (nat_lt j (k + 1)) 1 0
counted j k = grind (arith, nat_tests)

pub starts_more : (es : List Edge) (k : ℕ) (starts new : List Start) (e : Edge) → k < length es → AreStarts es k starts → new ≡ starts ++ record { from = (get_or es k e).from; edge = k } ∷ [] → AreStarts es (k + 1) new
starts_more es k starts new e within old added =
    let s : Start = record { from = (get_or es k e).from; edge = k } in
    record {
      same_length = ap length added ∙ length_push starts s ∙ ap (λ n. n + 1) old.same_length;
      counts = λ j.
          let f = λ (s : Start). cond (nat_eq s.edge j) 1 0 in
          ap (sum_by f) added ∙ sum_by_push f starts s ∙ ap (λ n. n + f s) (old.counts j) ∙ counted j k;
      begins =
          let all : All (IsBeginning es) (starts ++ s ∷ []) = All-push (IsBeginning es) starts s old.begins (λ d w. ap (λ (e : Edge). e.from) (get_or_default es k e d within)) in
          subst (λ (ss : List Start). All (IsBeginning es) ss) (sym added) all;
      sums = λ f.
          ap (sum_by (λ (s : Start). f s.from)) added ∙ sum_by_push (λ (s : Start). f s.from) starts s
          ∙ ap (λ n. n + f (get_or es k e).from) (old.sums f) ∙ sym (sum_by_more (λ (e : Edge). f e.from) es k e within);
    }

-- What passes at two places is counted twice.
twice : {X : Type 0} (p : X → Bool) (xs : List X) (i j : ℕ) (d : X) → i < j → j < length xs → p (get_or xs i d) ≡ true → p (get_or xs j d) ≡ true → 2 ≤ count_by p xs
twice {X} p xs i j d order within first second =
    let long = length-take-le j xs (omega arith) in
    let inside : i < length (take j xs) = omega arith in
    let f = λ (x : X). cond (p x) 1 0 in
    let whole = sum_by_more_le f xs j d within in
    let part = get_or-le-sum_by f (take j xs) i d inside in
    let a : f (get_or (take j xs) i d) ≡ 1 = ap f (get_or-take j xs i d order) ∙ ap (λ t. cond t 1 0) first in
    let b : f (get_or xs j d) ≡ 1 = ap (λ t. cond t 1 0) second in
    omega (arith, whole, part, a, b)

eq_same : (a : ℕ) → nat_eq a a ≡ true
eq_same a = grind (arith, nat_tests)

at_most_one : (b : Bool) (n : ℕ) → n ≡ cond b 1 0 → n ≤ 1
at_most_one true n h = omega arith
at_most_one false n h = omega arith

is_below : (j n c : ℕ) → c ≡ cond (nat_lt j n) 1 0 → 1 ≤ c → j < n
is_below j n c h k = grind (arith, nat_tests)

place_within : (n : ℕ) (starts : List Start) → AreCounts n starts → (k : ℕ) (s : Start) → k < length starts → (get_or starts k s).edge < n
place_within n starts counts k s within =
    let j = (get_or starts k s).edge in
    let f = λ (s : Start). cond (nat_eq s.edge j) 1 0 in
    let one : f (get_or starts k s) ≡ 1 = ap (λ t. cond t 1 0) (eq_same j) in
    is_below j n (sum_by f starts) (counts j) (omega (arith, one, get_or-le-sum_by f starts k s within))

place_once : (n : ℕ) (starts : List Start) → AreCounts n starts → (j k : ℕ) (s : Start) → j < length starts → k < length starts → (get_or starts j s).edge ≡ (get_or starts k s).edge → j ≡ k
place_once n starts counts j k s first_within second_within same =
    let place = (get_or starts k s).edge in
    let p = λ (s : Start). nat_eq s.edge place in
    let first : nat_eq (get_or starts j s).edge place ≡ true = ap (λ t. nat_eq t place) same ∙ eq_same place in
    let second = eq_same place in
    let most = at_most_one (nat_lt place n) (count_by p starts) (counts place) in
    elim (cases_order j k) [
      | inl equal ↦ equal
      | inr other ↦ elim other [
        | inl less ↦ absurd (omega (arith, most, twice p starts j k s less second_within first second))
        | inr more ↦ absurd (omega (arith, most, twice p starts k j s more first_within second first))
      ]
    ]

pub next_from_starts : (es : List Edge) (starts sorted : List Start) → IsClosed es → IsInPointOrder (map (λ (e : Edge). e.to) es) → AreStarts es (length es) starts → IsPermutation starts sorted
    → IsInPointOrder (map (λ (s : Start). s.from) sorted) → IsNext es (map (λ (s : Start). s.edge) sorted)
next_from_starts es starts sorted closed order are moved in_order =
    let n = length es in
    let edge = λ (s : Start). s.edge in
    let long : length sorted ≡ n = length_permutation starts sorted moved ∙ are.same_length in
    let counts : AreCounts n sorted = λ j. sum_by-IsPermutation (λ (s : Start). cond (nat_eq s.edge j) 1 0) starts sorted moved ∙ are.counts j in
    let begins : All (IsBeginning es) sorted = All-permutation (IsBeginning es) starts sorted moved are.begins in
    let sums : (f : Point → ℕ) → sum_by f (map (λ (e : Edge). e.to) es) ≡ sum_by f (map (λ (s : Start). s.from) sorted) = λ f.
    sum_by-map f (λ (e : Edge). e.to) es ∙ sym (closed f) ∙ ap (sum_by (λ (e : Edge). f e.from)) (sym (take_all n es (omega arith))) ∙ sym (are.sums f)
    ∙ sym (sum_by-IsPermutation (λ (s : Start). f s.from) starts sorted moved) ∙ sym (sum_by-map f (λ (s : Start). s.from) sorted) in
    let same : map (λ (e : Edge). e.to) es ≡ map (λ (s : Start). s.from) sorted = same_in_order (map (λ (e : Edge). e.to) es) (map (λ (s : Start). s.from) sorted) order in_order sums in
    record {
      same_length = length-map sorted edge ∙ long;
      within = λ k d w.
          let v : k < length sorted = omega arith in
          let s = some_of sorted (omega arith) in
          rw (get_or-map edge sorted k s d v) (place_within n sorted counts k s v);
      meets = λ k d w.
          let v : k < length sorted = omega arith in
          let s = some_of sorted (omega arith) in
          ap (λ (j : ℕ). (get_or es j d).from) (get_or-map edge sorted k s 0 v) ∙ sym (begins k s v d (place_within n sorted counts k s v)) ∙ sym (get_or-map (λ (s : Start). s.from) sorted k s d.to v)
          ∙ ap (λ (ps : List Point). get_or ps k d.to) (sym same) ∙ get_or-map (λ (e : Edge). e.to) es k d d.to w;
      once = λ j k v w e.
          let v' : j < length sorted = omega arith in
          let w' : k < length sorted = omega arith in
          let s = some_of sorted (omega arith) in
          place_once n sorted counts j k s v' w' (sym (get_or-map edge sorted j s 0 v') ∙ e ∙ get_or-map edge sorted k s 0 w');
    }

pub next_at_end : (es : List Edge) (starts sorted items : List Start) (k i : ℕ) (next : List ℕ) → IsClosed es → IsInPointOrder (map (λ (e : Edge). e.to) es) → AreStarts es k starts → k ≡ length es → IsPermutation starts sorted
    → IsInPointOrder (map (λ (s : Start). s.from) sorted) → items ≡ sorted → next ≡ map (λ (s : Start). s.edge) (take i items) → length items ≤ i → IsNext es next
next_at_end es starts sorted items k i next closed order are whole moved in_order same is past =
    let given : AreStarts es (length es) starts = subst (λ n. AreStarts es n starts) whole are in
    let all : take i items ≡ sorted = take_all i items past ∙ same in
    subst (IsNext es) (sym (is ∙ ap (map (λ (s : Start). s.edge)) all)) (next_from_starts es starts sorted closed order given moved in_order)
