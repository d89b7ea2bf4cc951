-- Places in order, spans between them, and the lines of paragraphs.
use Rattle.std.proofs.Common.{◌≡◌, ◌≢◌, ℕ, zero, suc, ◌+◌, ◌-◌, ◌<◌, ◌≤◌, true, false, cond, List, [], ◌∷◌, ◌++◌, map, length, get_or, ℤ, refl, sym, ap, ap₂, subst, ◌∙◌, arith, append_assoc, append-nil, inl, inr, ◌⊎◌, drop, take}
use Rattle.std.proofs.lemmas.List.{drop-map, drop_all, drop_more, length-drop, length-map, length-take, take-map, take_more}
use Rattle.std.proofs.lemmas.List.Elements.{All-drop, All-take}
use Rattle.std.specs.List.{All}
use Rattle.ass_num.specs.Limits.{max_text_bytes}
use Rattle.line_layout.specs.Breaks.{AreFilled, AreFrom, IsItemWidth, IsParagraph}
use Rattle.text_layout.specs.Spans.{ArePlacesInOrder, AreLines, AreLinesOf, AreSpans, AreChosen, is_role, places_from, places_of, spans_between}
use Rattle.override_tags.specs.declared.view.Shown.{Shown}
use Rattle.text_layout.specs.Kinds.{role_of, roles_of}
use Rattle.text_layout.specs.declared.kinds.BreakRole.{BreakRole}
use Rattle.text_layout.specs.declared.spans.Span.{Span}

-- ---- places

AreInOrder-lower : (a b to : ℕ) (ps : List ℕ) → a ≤ b → ArePlacesInOrder b to ps → ArePlacesInOrder a to ps
AreInOrder-lower a b to [] l h = omega arith
AreInOrder-lower a b to (p ∷ ps) l h = (omega arith, h.1, h.2)

-- The places of a role are in order.
pub places_from-order : (role : BreakRole) (from n : ℕ) (roles : List BreakRole) → from ≤ n → ArePlacesInOrder from (n + length roles) (places_from role n roles)
places_from-order role from n [] l = omega arith
places_from-order role from n (r ∷ roles) l =
    let later : ArePlacesInOrder (n + 1) (n + 1 + length roles) (places_from role (n + 1) roles) = places_from-order role (n + 1) (n + 1) roles (omega arith) in
    let rest : ArePlacesInOrder (n + 1) (n + length (r ∷ roles)) (places_from role (n + 1) roles) =
    subst (λ (end : ℕ). ArePlacesInOrder (n + 1) end (places_from role (n + 1) roles)) (let e : n + 1 + length roles ≡ n + length (r ∷ roles) = omega arith in e) later in
    elim (is_role r role) as (λ b. ArePlacesInOrder from (n + length (r ∷ roles)) (cond b (n ∷ places_from role (n + 1) roles) (places_from role (n + 1) roles))) [
      | true ↦ (l, omega arith, rest)
      | false ↦ AreInOrder-lower from (n + 1) (n + length (r ∷ roles)) (places_from role (n + 1) roles) (omega arith) rest
    ]

-- They may all be counted from another place.
pub AreInOrder-moved : (from a to : ℕ) (ps : List ℕ) → ArePlacesInOrder a to ps → ArePlacesInOrder (from + a) (from + to) (map (λ p. from + p) ps)
AreInOrder-moved from a to [] h = omega arith
AreInOrder-moved from a to (p ∷ ps) h =
    let rest : ArePlacesInOrder (from + (p + 1)) (from + to) (map (λ p. from + p) ps) = AreInOrder-moved from (p + 1) to ps h.2 in
    (omega arith, omega arith, subst (λ (n : ℕ). ArePlacesInOrder n (from + to) (map (λ p. from + p) ps)) (let e : from + (p + 1) ≡ from + p + 1 = omega arith in e) rest)

pub AreInOrder-below : (a to k : ℕ) (ps : List ℕ) → ArePlacesInOrder a to ps → k < length ps → get_or ps k 0 < to
AreInOrder-below a to k [] h l = absurd (omega arith)
AreInOrder-below a to zero (p ∷ ps) h l = h.1
AreInOrder-below a to (suc k) (p ∷ ps) h l = AreInOrder-below (p + 1) to k ps h.2 (omega arith)

AreInOrder-above : (a to k : ℕ) (ps : List ℕ) → ArePlacesInOrder a to ps → k < length ps → a ≤ get_or ps k 0
AreInOrder-above a to k [] h l = absurd (omega arith)
AreInOrder-above a to zero (p ∷ ps) h l = h.0
AreInOrder-above a to (suc k) (p ∷ ps) h l = omega (arith, h.0, AreInOrder-above (p + 1) to k ps h.2 (omega arith))

pub AreInOrder-ascending : (a to k : ℕ) (ps : List ℕ) → ArePlacesInOrder a to ps → k + 1 < length ps → get_or ps k 0 < get_or ps (k + 1) 0
AreInOrder-ascending a to k [] h l = absurd (omega arith)
AreInOrder-ascending a to zero (p ∷ ps) h l = omega (arith, AreInOrder-above (p + 1) to 0 ps h.2 (omega arith))
AreInOrder-ascending a to (suc k) (p ∷ ps) h l =
    subst (λ (n : ℕ). get_or ps k 0 < get_or (p ∷ ps) n 0) (let e : suc (k + 1) ≡ suc k + 1 = omega arith in e) (AreInOrder-ascending (p + 1) to k ps h.2 (omega arith))

-- Chosen break places are in order.
pub AreInOrder-from : (spaces : List ℕ) (a to : ℕ) (ps : List ℕ) → ((k : ℕ) → k < length spaces → get_or spaces k 0 < to) → a ≤ to → AreFrom spaces a ps → ArePlacesInOrder a to ps
AreInOrder-from spaces a to [] below l h = l
AreInOrder-from spaces a to (p ∷ ps) below l h =
    let less : p < to = subst (λ (n : ℕ). n < to) h.0.2 (below h.0.0 h.0.1) in
    (h.1, less, AreInOrder-from spaces (p + 1) to ps below (omega arith) h.2)

pub AreInOrder-filled : (widths : List ℤ) (spaces : List ℕ) (max : ℤ) (a to : ℕ) (ps : List ℕ) → ((k : ℕ) → k < length spaces → get_or spaces k 0 < to) → a ≤ to → AreFilled widths spaces max a ps → ArePlacesInOrder a to ps
AreInOrder-filled widths spaces max a to [] below l h = l
AreInOrder-filled widths spaces max a to (p ∷ ps) below l h =
    let less : p < to = subst (λ (n : ℕ). n < to) h.0.place.2 (below h.0.place.0 h.0.place.1) in
    (h.0.onward, less, AreInOrder-filled widths spaces max (p + 1) to ps below (omega arith) h.1)

-- The places of a role that were found along all items.
pub places-order : (role : BreakRole) (wrap : ℕ) (items : List Shown) (k : ℕ) (places : List ℕ) → length items ≤ k
    → places ++ places_from role k (roles_of wrap (drop k items)) ≡ places_of role (roles_of wrap items) → ArePlacesInOrder 0 (length items) places
places-order role wrap items k places l h =
    let all : places ≡ places_of role (roles_of wrap items) =
    sym (append-nil places) ∙ ap (λ r. places ++ places_from role k (roles_of wrap r)) (sym (drop_all k items l)) ∙ h in
    let ordered = places_from-order role 0 0 (roles_of wrap items) (omega arith) in
    let counted : 0 + length (roles_of wrap items) ≡ length items = omega (arith, length-map items (λ (shown : Shown). role_of wrap shown.kind)) in
    subst (λ (to : ℕ). ArePlacesInOrder 0 to places) counted (subst (ArePlacesInOrder 0 (0 + length (roles_of wrap items))) (sym all) ordered)

pub map-zero : (ps : List ℕ) → map (λ p. 0 + p) ps ≡ ps
map-zero [] = refl
map-zero (p ∷ ps) = ap₂ (λ x l. x ∷ l) (let e : 0 + p ≡ p = omega arith in e) (map-zero ps)

-- ---- spans

pub AreSpans-between : (first to : ℕ) (ps : List ℕ) → ArePlacesInOrder first to ps → AreSpans first (to + 1) (spans_between first to ps)
AreSpans-between first to [] h = (refl, h, omega arith, refl)
AreSpans-between first to (p ∷ ps) h = (refl, h.0, omega (arith, h.1), AreSpans-between (p + 1) to ps h.2)

pub AreSpans-le : (from end : ℕ) (spans : List Span) → AreSpans from end spans → from ≤ end
AreSpans-le from end [] h = omega arith
AreSpans-le from end (s ∷ spans) h = omega (arith, h.1, h.2)

pub AreSpans-append : (a b c : ℕ) (xs ys : List Span) → AreSpans a b xs → AreSpans b c ys → AreSpans a c (xs ++ ys)
AreSpans-append a b c [] ys h k = subst (λ (n : ℕ). AreSpans n c ys) (sym h) k
AreSpans-append a b c (x ∷ xs) ys h k = (h.0, h.1, omega (arith, h.2, AreSpans-le b c ys k), AreSpans-append (x.last + 1) b c xs ys h.3 k)

pub AreSpans-length : (from end : ℕ) (spans : List Span) → AreSpans from end spans → from + length spans ≤ end
AreSpans-length from end [] h = omega arith
AreSpans-length from end (s ∷ spans) h = omega (arith, h.1, AreSpans-length (s.last + 1) end spans h.3)

-- ---- lines of paragraphs

pub AreLines-push : (wrap : ℕ) (roles : List BreakRole) (advances : List ℤ) (max : ℤ) (ps : List Span) (p : Span) (lines front : List Span)
    → AreLines wrap roles advances max ps lines → AreLinesOf wrap roles advances max p front → AreLines wrap roles advances max (ps ++ p ∷ []) (lines ++ front)
AreLines-push wrap roles advances max [] p lines front h k =
    (front, [], k, refl, ap (λ l. l ++ front) h ∙ sym (append-nil front))
AreLines-push wrap roles advances max (q ∷ ps) p lines front h k =
    (h.0, h.1 ++ front, h.2, AreLines-push wrap roles advances max ps p h.1 front h.3 k, ap (λ l. l ++ front) h.4 ∙ append_assoc h.0 h.1 front)

-- ---- chosen places

pub wrap_cases : (wrap : ℕ) → wrap ≤ 3 → (wrap ≡ 0) ⊎ ((wrap ≡ 1) ⊎ ((wrap ≡ 2) ⊎ (wrap ≡ 3)))
wrap_cases zero l = inl refl
wrap_cases (suc zero) l = inr (inl refl)
wrap_cases (suc (suc zero)) l = inr (inr (inl refl))
wrap_cases (suc (suc (suc n))) l = inr (inr (inr (let e : suc (suc (suc n)) ≡ 3 = omega arith in e)))

pub two_of_wraps : (wrap : ℕ) → wrap ≤ 3 → wrap ≢ 0 → wrap ≢ 1 → wrap ≢ 3 → wrap ≡ 2
two_of_wraps wrap l greatest filled least =
    elim (wrap_cases wrap l) [
      | inl e ↦ absurd (greatest e)
      | inr (inl e) ↦ absurd (filled e)
      | inr (inr (inl e)) ↦ e
      | inr (inr (inr e)) ↦ absurd (least e)
    ]

pub unbroken : (wrap : ℕ) (widths : List ℤ) (spaces : List ℕ) (max : ℤ) (places : List ℕ) → wrap ≡ 2 → AreChosen wrap widths spaces max places → places ≡ []
unbroken wrap widths spaces max places two h = h.none (λ e. omega (arith, two, e)) (λ e. omega (arith, two, e)) (λ e. omega (arith, two, e))

-- Break places in order make a paragraph of widths.
pub paragraph_of : (widths : List ℤ) (spaces : List ℕ) → length widths ≤ max_text_bytes → All IsItemWidth widths → ArePlacesInOrder 0 (length widths) spaces → IsParagraph widths spaces
paragraph_of widths spaces l h order = record {
  short = l;
  narrow = h;
  within = λ k m. AreInOrder-below 0 (length widths) k spaces order m;
  ascending = λ k m. AreInOrder-ascending 0 (length widths) k spaces order m;
}

-- The chosen places are in order.
pub chosen-order : (wrap : ℕ) (widths : List ℤ) (spaces : List ℕ) (max : ℤ) (places : List ℕ) → wrap ≤ 3 → ArePlacesInOrder 0 (length widths) spaces
    → AreChosen wrap widths spaces max places → ArePlacesInOrder 0 (length widths) places
chosen-order wrap widths spaces max places l order h =
    let below = λ (k : ℕ) (m : k < length spaces). AreInOrder-below 0 (length widths) k spaces order m in
    elim (wrap_cases wrap l) [
      | inl e ↦ AreInOrder-from spaces 0 (length widths) places below (omega arith) (h.greatest e).chosen
      | inr (inl e) ↦ AreInOrder-filled widths spaces max 0 (length widths) places below (omega arith) (h.filled e)
      | inr (inr (inl e)) ↦ subst (ArePlacesInOrder 0 (length widths)) (sym (unbroken wrap widths spaces max places e h)) (omega arith)
      | inr (inr (inr e)) ↦ AreInOrder-from spaces 0 (length widths) places below (omega arith) (h.least e).chosen
    ]

-- ---- parts of lists

pub slice-length : {X : Type 0} (xs : List X) (a b : ℕ) → a ≤ b → b ≤ length xs → length (take (b - a) (drop a xs)) ≡ b - a
slice-length xs a b l m = simp (length-take, length-drop) (omega arith)

pub roles-slice : (wrap : ℕ) (items : List Shown) (a b : ℕ) → take (b - a) (drop a (roles_of wrap items)) ≡ roles_of wrap (take (b - a) (drop a items))
roles-slice wrap items a b =
    ap (take (b - a)) (drop-map (λ (shown : Shown). role_of wrap shown.kind) a items) ∙ take-map (λ (shown : Shown). role_of wrap shown.kind) (b - a) (drop a items)

pub paragraph-slice : (advances : List ℤ) (items : List Shown) (a b : ℕ) (spaces : List ℕ) → length items ≤ max_text_bytes → length advances ≡ length items
    → All IsItemWidth advances → a ≤ b → b ≤ length items → ArePlacesInOrder 0 (length (take (b - a) (drop a items))) spaces → IsParagraph (take (b - a) (drop a advances)) spaces
paragraph-slice advances items a b spaces short same narrow l m order =
    let n : length (take (b - a) (drop a advances)) ≡ b - a = slice-length advances a b l (omega arith) in
    let k : length (take (b - a) (drop a items)) ≡ b - a = slice-length items a b l m in
    paragraph_of (take (b - a) (drop a advances)) spaces (omega arith)
    (All-take IsItemWidth (b - a) (drop a advances) (All-drop IsItemWidth a advances narrow))
    (subst (λ (to : ℕ). ArePlacesInOrder 0 to spaces) (k ∙ sym n) order)

pub chosen-slice : (wrap : ℕ) (advances : List ℤ) (items : List Shown) (a b : ℕ) (spaces : List ℕ) (max : ℤ) (places : List ℕ) → wrap ≤ 3 → length advances ≡ length items
    → a ≤ b → b ≤ length items → ArePlacesInOrder 0 (length (take (b - a) (drop a items))) spaces → AreChosen wrap (take (b - a) (drop a advances)) spaces max places
    → ArePlacesInOrder 0 (b - a) places
chosen-slice wrap advances items a b spaces max places style same l m order h =
    let n : length (take (b - a) (drop a advances)) ≡ b - a = slice-length advances a b l (omega arith) in
    let k : length (take (b - a) (drop a items)) ≡ b - a = slice-length items a b l m in
    subst (λ (to : ℕ). ArePlacesInOrder 0 to places) n
    (chosen-order wrap (take (b - a) (drop a advances)) spaces max places style (subst (λ (to : ℕ). ArePlacesInOrder 0 to spaces) (k ∙ sym n) order) h)

pub AreInOrder-placed : (a b : ℕ) (ps : List ℕ) → a ≤ b → ArePlacesInOrder 0 (b - a) ps → ArePlacesInOrder a b (map (λ p. a + p) ps)
AreInOrder-placed a b ps l h =
    subst (λ (from : ℕ). ArePlacesInOrder from b (map (λ p. a + p) ps)) (let e : a + 0 ≡ a = omega arith in e)
    (subst (λ (to : ℕ). ArePlacesInOrder (a + 0) to (map (λ p. a + p) ps)) (let e : a + (b - a) ≡ b = omega arith in e) (AreInOrder-moved a 0 (b - a) ps h))

-- ---- one more paragraph

abbrev pub no_span : Span
no_span = record { first = 0; last = 0 }

pub spans-step : (n k at : ℕ) (ps lines front : List Span) → k < length ps → AreSpans 0 at lines → AreSpans at (n + 1) (drop k ps)
    → AreSpans (get_or ps k no_span).first ((get_or ps k no_span).last + 1) front
    → AreSpans 0 ((get_or ps k no_span).last + 1) (lines ++ front) × AreSpans ((get_or ps k no_span).last + 1) (n + 1) (drop (k + 1) ps)
spans-step n k at ps lines front l h later spans =
    let p = get_or ps k no_span in
    let parts : AreSpans at (n + 1) (p ∷ drop (k + 1) ps) = subst (AreSpans at (n + 1)) (drop_more ps k no_span l) later in
    (AreSpans-append 0 at (p.last + 1) lines front h (subst (λ (from : ℕ). AreSpans from (p.last + 1) front) parts.0 spans), parts.3)

pub lines-step : (wrap : ℕ) (roles : List BreakRole) (advances : List ℤ) (max : ℤ) (k : ℕ) (ps lines front : List Span) → k < length ps
    → AreLines wrap roles advances max (take k ps) lines → AreLinesOf wrap roles advances max (get_or ps k no_span) front
    → AreLines wrap roles advances max (take (k + 1) ps) (lines ++ front)
lines-step wrap roles advances max k ps lines front l h more =
    subst (λ (l : List Span). AreLines wrap roles advances max l (lines ++ front)) (sym (take_more ps k no_span l))
    (AreLines-push wrap roles advances max (take k ps) (get_or ps k no_span) lines front h more)
