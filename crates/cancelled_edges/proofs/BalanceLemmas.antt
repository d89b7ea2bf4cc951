-- Sums over edges and their opposites.
use Rattle.std.proofs.Common.{◌≡◌, ℕ, ◌+◌, Bool, true, false, cond, List, [], ◌∷◌, ◌++◌, flat_map, map, sum_by, length, get_or, take, ◌-◌, ◌<◌, inl, inr, ℤ, refl, sym, ap, ◌∙◌, arith}
use Rattle.std.proofs.lemmas.Int.{ints}
use Rattle.std.proofs.lemmas.Bool.{and_parts}
use Rattle.std.proofs.lemmas.List.Sums.{sum_by-cons, sum_by-append, sum_by_push}
use Rattle.std.proofs.lemmas.List.Sorted.{sum_by-IsPermutation}
use Rattle.std.proofs.lemmas.List.Elements.{All-nil, All-cons, All-append}
use Rattle.std.specs.List.{All}
use Rattle.std.specs.List.Sorted.{IsPermutation}
use Rattle.std.proofs.lemmas.List.{take_all, take_more, get_or_default}
use Rattle.std.specs.Ordering.{int_eq}
use Rattle.ass_num.specs.declared.geometry.Point.{Point}
use Rattle.cancelled_edges.specs.Cancelling.{same_point, same_edge, opposite}
use Rattle.cancelled_edges.specs.Edges.{way, edge_from, IsBalanced, IsAdded, LeadsSomewhere}
use Rattle.cancelled_edges.specs.declared.edges.Edge.{Edge}

int_eq_is : (a b : ℤ) → int_eq a b ≡ true → a ≡ b
int_eq_is a b h = grind (arith, ints)

abbrev pub point_of : ℤ → ℤ → Point
point_of x y = record { x = x; y = y }

pub same_from_parts : (p q : Point) → p.x ≡ q.x → p.y ≡ q.y → p ≡ q
same_from_parts p q x y = let whole : point_of p.x p.y ≡ point_of q.x q.y = ap (λ z. point_of z p.y) x ∙ ap (point_of q.x) y in whole

pub same_point_is : (p q : Point) → same_point p q ≡ true → p ≡ q
same_point_is p q h =
    let parts = and_parts (int_eq p.x q.x) (int_eq p.y q.y) h in
    same_from_parts p q (int_eq_is p.x q.x parts.0) (int_eq_is p.y q.y parts.1)

-- One edge, which may lead nowhere.
single : (f : Point × Point → ℕ) (p q : Point) (same : Bool) → (same ≡ true → p ≡ q)
    → f (p, q) + sum_by (λ (e : Edge). f (opposite (way e))) (cond same [] (record { from = p; to = q } ∷ [])) ≡ sum_by (λ (e : Edge). f (way e)) (cond same [] (record { from = p; to = q } ∷ [])) + f (q, p)
single f p q true h = let e : p ≡ q = h refl in let k : f (p, q) ≡ f (q, p) = ap (λ x. f (x, q)) e ∙ ap (λ x. f (q, x)) (sym e) in omega arith
single f p q false h = omega arith

pub balanced_list : (es : List (Point × Point)) → IsBalanced es (flat_map edge_from es)
balanced_list [] f = refl
balanced_list (e ∷ es) f =
    let here = edge_from e in
    let rest = flat_map edge_from es in
    let one = single f e.0 e.1 (same_point e.0 e.1) (same_point_is e.0 e.1) in
    let more = balanced_list es f in
    let a = sum_by-cons f e es in
    let b = sum_by-cons (λ (e : Point × Point). f (opposite e)) e es in
    let c = sum_by-append (λ (e : Edge). f (opposite (way e))) here rest in
    let d = sum_by-append (λ (e : Edge). f (way e)) here rest in
    omega (arith, one, more, a, b, c, d)

pub same_edge_is : (d e : Point × Point) → same_edge d e ≡ true → d ≡ e
same_edge_is d e h =
    let parts = and_parts (same_point d.0 e.0) (same_point d.1 e.1) h in
    let first = same_point_is d.0 e.0 parts.0 in
    let second = same_point_is d.1 e.1 parts.1 in
    ap (λ p. (p, d.1)) first ∙ ap (λ p. (e.0, p)) second

int_eq_same : (a : ℤ) → int_eq a a ≡ true
int_eq_same a = grind (arith, ints)

pub same_point_same : (p : Point) → same_point p p ≡ true
same_point_same p = rw (int_eq_same p.x, int_eq_same p.y) refl

pub same_edge_same : (e : Point × Point) → same_edge e e ≡ true
same_edge_same e = rw (same_point_same e.0, same_point_same e.1) refl

pub same_edge_not : (d e : Point × Point) → same_edge d e ≡ false → d ≡ e → ⊥
same_edge_not d e h is = let t : same_edge d e ≡ true = ap (λ x. same_edge x e) is ∙ same_edge_same e in let f : true ≡ false = sym t ∙ h in cc

-- ---- one more edge is looked at
front_and_last : (es : List Edge) (d : Edge) → 0 < length es → es ≡ take (length es - 1) es ++ get_or es (length es - 1) d ∷ []
front_and_last es d some =
    let e : length es - 1 + 1 ≡ length es = omega arith in
    sym (take_all (length es) es (omega arith)) ∙ ap (λ n. take n es) (sym e) ∙ take_more es (length es - 1) d (omega arith)

pub added_none : (old new : List Edge) (e : Edge) → length old ≡ 0 → new ≡ old ++ e ∷ [] → IsAdded old e new
added_none old new e none is = inr (λ d some. absurd (omega arith), is)

pub added_new : (old new : List Edge) (e last : Edge) → last ≡ get_or old (length old - 1) last → same_edge (way last) (opposite (way e)) ≡ false → new ≡ old ++ e ∷ [] → IsAdded old e new
added_new old new e last there other is =
    inr (λ d some same. same_edge_not (way last) (opposite (way e)) other (ap way (there ∙ get_or_default old (length old - 1) last d (omega arith)) ∙ same), is)

pub added_gone : (old new : List Edge) (e last : Edge) → 0 < length old → last ≡ get_or old (length old - 1) last → same_edge (way last) (opposite (way e)) ≡ true → new ≡ take (length old - 1) old → IsAdded old e new
added_gone old new e last some there same is =
    inl (last, front_and_last old last some ∙ ap (λ p. take (length old - 1) old ++ p ∷ []) (sym there) ∙ ap (λ es. es ++ last ∷ []) (sym is), same_edge_is (way last) (opposite (way e)) same)

-- The sums stay equal when an edge is added or cancels the last one.
pub balanced_more : (all : List (Point × Point)) (old new : List Edge) (e : Edge) → IsBalanced all old → IsAdded old e new → IsBalanced (all ++ way e ∷ []) new
balanced_more all old new e was added f =
    let w = was f in
    let a = sum_by_push f all (way e) in
    let b = sum_by_push (λ (x : Point × Point). f (opposite x)) all (way e) in
    elim added [
      | inl gone ↦
          let last = gone.0 in
          let there : way last ≡ opposite (way e) = gone.2 in
          let p : sum_by (λ (x : Edge). f (way x)) old ≡ sum_by (λ (x : Edge). f (way x)) new + f (way last) = ap (sum_by (λ (x : Edge). f (way x))) gone.1 ∙ sum_by_push (λ (x : Edge). f (way x)) new last in
          let q : sum_by (λ (x : Edge). f (opposite (way x))) old ≡ sum_by (λ (x : Edge). f (opposite (way x))) new + f (opposite (way last)) = ap (sum_by (λ (x : Edge). f (opposite (way x)))) gone.1 ∙ sum_by_push (λ (x : Edge). f (opposite (way x))) new last in
          let s : f (way last) ≡ f (opposite (way e)) = ap f there in
          let t : f (opposite (way last)) ≡ f (way e) = ap (λ x. f (opposite x)) there in
          omega (arith, w, a, b, p, q, s, t)
      | inr put ↦
          let p : sum_by (λ (x : Edge). f (way x)) new ≡ sum_by (λ (x : Edge). f (way x)) old + f (way e) = ap (sum_by (λ (x : Edge). f (way x))) put.1 ∙ sum_by_push (λ (x : Edge). f (way x)) old e in
          let q : sum_by (λ (x : Edge). f (opposite (way x))) new ≡ sum_by (λ (x : Edge). f (opposite (way x))) old + f (opposite (way e)) = ap (sum_by (λ (x : Edge). f (opposite (way x)))) put.1 ∙ sum_by_push (λ (x : Edge). f (opposite (way x))) old e in
          omega (arith, w, a, b, p, q)
    ]

pub sum_by-map : {X Y : Type 0} (f : Y → ℕ) (g : X → Y) (xs : List X) → sum_by f (map g xs) ≡ sum_by (λ x. f (g x)) xs
sum_by-map f g [] = refl
sum_by-map f g (x ∷ xs) = sum_by-cons f (g x) (map g xs) ∙ ap (λ n. f (g x) + n) (sum_by-map f g xs) ∙ sym (sum_by-cons (λ x. f (g x)) x xs)

-- The balance of a list in another order.
pub balanced_whole : (all : List (Point × Point)) (list kept : List Edge) → IsPermutation (flat_map edge_from all) list → IsBalanced (map way list) kept → IsBalanced all kept
balanced_whole all list kept moved balance f =
    let a = balanced_list all f in
    let b = balance f in
    let c = sum_by-IsPermutation (λ (e : Edge). f (way e)) (flat_map edge_from all) list moved in
    let d = sum_by-IsPermutation (λ (e : Edge). f (opposite (way e))) (flat_map edge_from all) list moved in
    let p : sum_by f (map way list) ≡ sum_by (λ (e : Edge). f (way e)) list = sum_by-map f way list in
    let q : sum_by (λ (e : Point × Point). f (opposite e)) (map way list) ≡ sum_by (λ (e : Edge). f (opposite (way e))) list = sum_by-map (λ e. f (opposite e)) way list in
    omega (arith, a, b, c, d, p, q)

-- No edge of the list is its own opposite.
pub all_lead : (all : List (Point × Point)) → All LeadsSomewhere (flat_map edge_from all)
all_lead [] = All-nil LeadsSomewhere
all_lead (e ∷ all) = All-append LeadsSomewhere (edge_from e) (flat_map edge_from all) (lead_one e (same_point e.0 e.1) refl) (all_lead all)
  where
    lead_one : (e : Point × Point) (same : Bool) → same ≡ same_point e.0 e.1 → All LeadsSomewhere (cond same [] (record { from = e.0; to = e.1 } ∷ []))
    lead_one e true is = All-nil LeadsSomewhere
    lead_one e false is = All-cons LeadsSomewhere (record { from = e.0; to = e.1 }) [] (λ same. let t : same_point e.0 e.1 ≡ true = ap (λ p. same_point p e.1) same ∙ same_point_same e.1 in let f : false ≡ true = is ∙ t in cc) (All-nil LeadsSomewhere)
