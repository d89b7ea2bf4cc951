-- One more edge of a grouped list is looked at.
use Rattle.std.proofs.Common.{◌≡◌, ℕ, ◌+◌, ◌<◌, ◌≤◌, inl, inr, List, [], ◌∷◌, ◌++◌, length, get_or, take, drop, map, flat_map, refl, sym, ap, subst, ◌∙◌, append_assoc, arith, length-append}
use Rattle.std.proofs.lemmas.List.{drop_more, map_more, take_all, get_or_append_left}
use Rattle.std.proofs.lemmas.List.Elements.{All-get_or}
use Rattle.std.proofs.lemmas.List.Sorted.{All-permutation}
use Rattle.std.specs.List.Sorted.{IsPermutation}
use Rattle.ass_num.specs.declared.geometry.Point.{Point}
use Rattle.cancelled_edges.specs.Edges.{way, edge_from, IsAdded, IsBalanced, IsGrouped, HasNoOpposites, LeadsSomewhere}
use Rattle.cancelled_edges.specs.declared.edges.Edge.{Edge}
use Rattle.cancelled_edges.proofs.BalanceLemmas.{balanced_more, balanced_whole, all_lead}
use Rattle.cancelled_edges.proofs.GroupLemmas.{grouped_without, no_opposites_push}

pub balanced_none : (kept : List Edge) → kept ≡ [] → IsBalanced [] kept
balanced_none kept none = subst (IsBalanced []) (sym none) (λ f. refl)

pub grouped_none : (kept items : List Edge) → kept ≡ [] → IsGrouped items → IsGrouped (kept ++ items)
grouped_none kept items none grouped = subst (λ (es : List Edge). IsGrouped (es ++ items)) (sym none) grouped

pub single_none : (kept : List Edge) → kept ≡ [] → HasNoOpposites kept
single_none kept none = subst HasNoOpposites (sym none) (λ i j d within. absurd (omega arith))

pub balanced_step : (items old new : List Edge) (i : ℕ) (d : Edge) → i < length items → IsBalanced (map way (take i items)) old → IsAdded old (get_or items i d) new
    → IsBalanced (map way (take (i + 1) items)) new
balanced_step items old new i d within was added =
    subst (λ (all : List (Point × Point)). IsBalanced all new) (sym (map_more way items i d within)) (balanced_more (map way (take i items)) old new (get_or items i d) was added)

pub grouped_step : (items old new : List Edge) (i : ℕ) (d : Edge) → i < length items → IsGrouped (old ++ drop i items) → IsAdded old (get_or items i d) new → IsGrouped (new ++ drop (i + 1) items)
grouped_step items old new i d within was added =
    let e = get_or items i d in
    let rest = drop (i + 1) items in
    let given : IsGrouped (old ++ e ∷ rest) = subst (λ (es : List Edge). IsGrouped (old ++ es)) (drop_more items i d within) was in
    elim added [
      | inl gone ↦ grouped_without new gone.0 e rest (subst IsGrouped (ap (λ (es : List Edge). es ++ e ∷ rest) gone.1 ∙ append_assoc new (gone.0 ∷ []) (e ∷ rest)) given)
      | inr put ↦ subst IsGrouped (sym (ap (λ (es : List Edge). es ++ rest) put.1 ∙ append_assoc old (e ∷ []) rest)) given
    ]

single_front : (xs ys : List Edge) → HasNoOpposites (xs ++ ys) → HasNoOpposites xs
single_front xs ys none i j d first second is =
    none i j d (omega (arith, length-append xs ys)) (omega (arith, length-append xs ys)) (rw (get_or_append_left xs ys d i first, get_or_append_left xs ys d j second) is)

pub single_step : (items old new : List Edge) (i : ℕ) (d : Edge) → i < length items → LeadsSomewhere (get_or items i d) → IsGrouped (old ++ drop i items) → HasNoOpposites old → IsAdded old (get_or items i d) new
    → HasNoOpposites new
single_step items old new i d within leads grouped none added =
    let e = get_or items i d in
    let rest = drop (i + 1) items in
    let given : IsGrouped (old ++ e ∷ rest) = subst (λ (es : List Edge). IsGrouped (old ++ es)) (drop_more items i d within) grouped in
    elim added [
      | inl gone ↦ single_front new (gone.0 ∷ []) (subst HasNoOpposites gone.1 none)
      | inr put ↦ subst HasNoOpposites (sym put.1) (no_opposites_push old e rest given none put.0 (λ is. leads (ap (λ (w : Point × Point). w.0) is)))
    ]

-- The edges that the loop reads are those of the outline in another order.
pub items_moved : (all : List (Point × Point)) (list sorted items : List Edge) → list ≡ flat_map edge_from all → IsPermutation list sorted → items ≡ sorted → IsPermutation (flat_map edge_from all) items
items_moved all list sorted items listed moved read = subst (λ (es : List Edge). IsPermutation es items) listed (subst (λ (es : List Edge). IsPermutation list es) (sym read) moved)

pub leads_at : (all : List (Point × Point)) (list : List Edge) (i : ℕ) (d : Edge) → IsPermutation (flat_map edge_from all) list → i < length list → LeadsSomewhere (get_or list i d)
leads_at all list i d moved within = All-get_or LeadsSomewhere list i d within (All-permutation LeadsSomewhere (flat_map edge_from all) list moved (all_lead all))

pub balanced_end : (all : List (Point × Point)) (list kept : List Edge) (i : ℕ) → IsPermutation (flat_map edge_from all) list → length list ≤ i → IsBalanced (map way (take i list)) kept → IsBalanced all kept
balanced_end all list kept i moved past was =
    balanced_whole all list kept moved (subst (λ (es : List Edge). IsBalanced (map way es) kept) (take_all i list past) was)
