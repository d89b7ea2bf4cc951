-- The lines of a layout are spans one after the other.
use Rattle.std.proofs.Common.{◌≡◌, sym, subst, ℕ, ◌+◌, ◌-◌, ◌≤◌, List, [], ◌∷◌, length, map, slice_range, ℤ, arith}
use Rattle.std.proofs.lemmas.List.{length-map}
use Rattle.override_tags.specs.declared.view.Shown.{Shown}
use Rattle.text_layout.specs.declared.spans.Span.{Span}
use Rattle.text_layout.specs.Kinds.{roles_of}
use Rattle.text_layout.specs.Spans.{AreLines, AreLinesOf, ArePlacesInOrder, AreSpans, paragraphs_of}
use Rattle.text_layout.proofs.SpanLemmas.{AreInOrder-placed, AreSpans-append, AreSpans-between, chosen-order, places_from-order, slice-length}

role-count : (wrap : ℕ) (items : List Shown) → length (roles_of wrap items) ≡ length items
role-count wrap items = length-map items _

-- places in order up to n are so up to an equal number
up-to : (m n : ℕ) (places : List ℕ) → m ≡ n → ArePlacesInOrder 0 m places → ArePlacesInOrder 0 n places
up-to m n places e h = subst (λ (to : ℕ). ArePlacesInOrder 0 to places) e h

pub paragraphs-spans : (wrap : ℕ) (items : List Shown) → AreSpans 0 (length items + 1) (paragraphs_of (roles_of wrap items))
paragraphs-spans wrap items =
    let n = length (roles_of wrap items) in
    let e : n ≡ length items = role-count wrap items in
    subst (λ (k : ℕ). AreSpans 0 (k + 1) (paragraphs_of (roles_of wrap items))) e
    (AreSpans-between 0 n _ (up-to (0 + n) n _ (omega arith) (places_from-order _ 0 0 (roles_of wrap items) (omega arith))))

line-spans : (wrap : ℕ) (items : List Shown) (advances : List ℤ) (max : ℤ) (p : Span) (lines : List Span) → wrap ≤ 3 → length advances ≡ length items → p.first ≤ p.last → p.last ≤ length items
    → AreLinesOf wrap (roles_of wrap items) advances max p lines → AreSpans p.first (p.last + 1) lines
line-spans wrap items advances max p lines style same ordered within h =
    let widths = slice_range advances p.first p.last in
    let roles = slice_range (roles_of wrap items) p.first p.last in
    let n : length widths ≡ p.last - p.first = slice-length advances p.first p.last ordered (omega arith) in
    let k : length roles ≡ p.last - p.first = slice-length (roles_of wrap items) p.first p.last ordered (omega (arith, within, role-count wrap items)) in
    let chosen : ArePlacesInOrder 0 (p.last - p.first) h.0 =
    up-to (length widths) (p.last - p.first) h.0 n
    (chosen-order wrap widths _ max h.0 style (up-to (0 + length roles) (length widths) _ (omega (arith, n, k)) (places_from-order _ 0 0 roles (omega arith))) h.1) in
    subst (AreSpans p.first (p.last + 1)) (sym h.2)
    (AreSpans-between p.first p.last (map (λ place. p.first + place) h.0) (AreInOrder-placed p.first p.last h.0 ordered chosen))

pub lines-spans : (wrap : ℕ) (items : List Shown) (advances : List ℤ) (max : ℤ) (from end : ℕ) (ps lines : List Span) → wrap ≤ 3 → length advances ≡ length items → end ≤ length items + 1
    → AreSpans from end ps → AreLines wrap (roles_of wrap items) advances max ps lines → AreSpans from end lines
lines-spans wrap items advances max from end [] lines style same most h k = subst (AreSpans from end) (sym k) h
lines-spans wrap items advances max from end (p ∷ ps) lines style same most h k =
    let first : AreSpans p.first (p.last + 1) k.0 = line-spans wrap items advances max p k.0 style same (omega (arith, h.0, h.1)) (omega (arith, h.2, most)) k.2 in
    subst (AreSpans from end) (sym k.4)
    (AreSpans-append from (p.last + 1) end k.0 k.1 (subst (λ (n : ℕ). AreSpans n (p.last + 1) k.0) h.0 first)
    (lines-spans wrap items advances max (p.last + 1) end ps k.1 style same most h.3 k.3))
