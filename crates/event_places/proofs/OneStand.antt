-- An event has one stand: what it shows at its start is the same in each view of it but for the numbers of states and names, and so is
-- its layout.
use Rattle.std.proofs.Common.{◌≡◌, ℕ, zero, suc, ◌-◌, ◌<◌, ◌≤◌, ℤ, pos, Bool, false, List, [], ◌∷◌, ◌++◌, length, map, refl, sym, ap, subst, ◌∙◌, arith, ◌⊎◌, inl, inr, Option, Some, None, cond}
use Rattle.std.specs.Prelude.{slice_get, slice_index_or, slice_range, ◌==◌, ◌||◌, is_some}
use Rattle.std.specs.List.{All, zip}
use Rattle.std.specs.Option.{option_map, option_map_or}
use Rattle.std.proofs.lemmas.Bool.{false≢true}
use Rattle.std.proofs.lemmas.List.{length-map}
use Rattle.std.proofs.lemmas.List.Elements.{All-head, All-tail, All-nil}
use Rattle.std.proofs.lemmas.Option.{slice_get-map, get_or_from_slice_get}
use Rattle.ass_num.specs.declared.geometry.Path.{Path}
use Rattle.ass_num.specs.declared.geometry.Seg.{Seg}
use Rattle.frame_view.specs.FrameScales.{scales_of}
use Rattle.frame_view.specs.declared.scales.Scales.{Scales}
use Rattle.frame_view.specs.declared.view.FrameView.{FrameView}
use Rattle.ass_events.specs.declared.event.Event.{Event}
use Rattle.ass_script.specs.Ranges.{IsScript}
use Rattle.ass_script.specs.Scripts.{ScriptValue}
use Rattle.bdf_font.specs.Fonts.{FontValue}
use Rattle.bdf_font.specs.Sets.{font_chosen, no_font}
use Rattle.drawing_path.specs.Paths.{IsPathOf}
use Rattle.drawing_path.proofs.LawLemmas.{one_path}
use Rattle.override_tags.specs.declared.item.Item.{Item}
use Rattle.override_tags.specs.declared.tag.ClipTag.{ClipTag}
use Rattle.override_tags.specs.declared.item.ItemKind.{ItemKind}
use Rattle.override_tags.specs.declared.item.ItemKind.TheVariants as item
use Rattle.override_tags.specs.declared.view.EventView.{EventView}
use Rattle.override_tags.specs.declared.view.Shown.{Shown}
use Rattle.override_tags.specs.declared.view.ShownKind.{ShownKind}
use Rattle.override_tags.specs.declared.view.ShownKind.TheVariants.{Drawing}
use Rattle.override_tags.specs.declared.view.State.{State}
use Rattle.override_tags.proofs.OneReadingLemmas.{one_items}
use Rattle.override_tags.proofs.RangeLemmas.{items_held}
use Rattle.tag_state.specs.Looks.{AreLooks, BeginsNoText, IsShownText, Look, is_text_kind, items_end, level_at, shown_as}
use Rattle.tag_state.specs.Looks as looks
use Rattle.tag_state.specs.Properties.{Measure, ScaleX, ScaleY, Spacing, Angle, measure_of}
use Rattle.tag_state.specs.Properties as property
use Rattle.tag_state.specs.Setters.{Effect, past}
use Rattle.tag_state.specs.States.{IsStateAt}
use Rattle.tag_state.specs.Views.{AreSeen, HasState, IsViewBy, IsViewOf, elapsed_at}
use Rattle.tag_state.proofs.RangeLemmas.{IsHeldEffect, past_held, wrap_held}
use Rattle.tag_state.proofs.TextLemmas.{point_shown}
use Rattle.text_layout.specs.Anchors.{edge_across, margins_of, wrapping_width}
use Rattle.text_layout.specs.Extents.{extent_of, item_extents, kind_extent}
use Rattle.text_layout.specs.Fonts.{font_of_state}
use Rattle.text_layout.specs.Kinds.{char_of, chars_of, role_of, roles_of}
use Rattle.text_layout.specs.Clusters.{cluster_ends}
use Rattle.text_layout.specs.Layouts.{IsLaidBy, laid_out}
use Rattle.text_layout.specs.LineScales.{is_typeset, line_scales}
use Rattle.text_layout.specs.Lines.{advances_of, blank_extent, block_height, block_width, joined_extent, line_extent, line_extents, lines_from, placed_from, state_at}
use Rattle.text_layout.specs.Metrics.{all_metrics, metrics_of, no_metrics, state_metrics}
use Rattle.text_layout.specs.Spans.{AreLines, paragraphs_of}
use Rattle.text_layout.specs.declared.extents.Extent.{Extent}
use Rattle.text_layout.specs.declared.laid.Laid.{Laid}
use Rattle.text_layout.specs.declared.metrics.Metrics.{Metrics}
use Rattle.text_layout.specs.declared.spans.Span.{Span}
use Rattle.text_layout.proofs.OneLemmas.{one_laid}
use Rattle.event_places.specs.declared.stands.Stand.{Stand}
use Rattle.event_places.specs.Shifts.{HaveOneStand}
use Rattle.event_places.specs.Stands.{HasPoint, IsStandOf, stand_of}
use Rattle.near_events.proofs.Lists.{none_some, same_some}

-- ---- one list of looks
-- what stands between two blocks is one list
one_slice : (a b x y : List Item) → All IsShownText a → All IsShownText b → BeginsNoText x → BeginsNoText y → a ++ x ≡ b ++ y → (a ≡ b) × (x ≡ y)
one_slice [] [] x y h k p q e = (refl, e)
one_slice [] (j ∷ b) x y h k p q e = absurd (false≢true (sym (subst BeginsNoText e p) ∙ All-head IsShownText j b k))
one_slice (i ∷ a) [] x y h k p q e = absurd (false≢true (sym (subst BeginsNoText (sym e) q) ∙ All-head IsShownText i a h))
one_slice (i ∷ a) (j ∷ b) x y h k p q e =
    let head : i ≡ j = cc in
    let tail : a ++ x ≡ b ++ y = cc in
    let rest = one_slice a b x y (All-tail IsShownText i a h) (All-tail IsShownText j b k) p q tail in
    (ap (λ (z : List Item). i ∷ z) rest.0 ∙ ap (λ (z : Item). z ∷ b) head, rest.1)

not_shown : (k : ItemKind) (kind : ShownKind) → is_text_kind k ≡ false → shown_as k ≡ Some kind → ⊥
not_shown (item.Char c) kind h e = cc
not_shown item.HardBreak kind h e = cc
not_shown item.SoftBreak kind h e = cc
not_shown item.HardSpace kind h e = cc
not_shown item.Block kind h e = none_some kind e
not_shown (item.Tag tag) kind h e = none_some kind e

module _ (text : List ℕ) (duration elapsed : ℤ) where
  -- what the looks of items are made of
  abbrev LooksOf : List Effect → List Item → List Look → Type 0
  LooksOf before [] all = all ≡ []
  LooksOf before (i ∷ items) all =
      ((is_text_kind i.kind ≡ false) × AreLooks text duration elapsed (past duration elapsed before i) items all)
      ⊎ (((kind : ShownKind) × (rest : List Look) × (level_at before ≡ 0) × (shown_as i.kind ≡ Some kind) × AreLooks text duration elapsed before items rest
      × (all ≡ record { kind = kind; before = before } ∷ rest))
      ⊎ ((slice : List Item) × (more : List Item) × (path : Path) × (rest : List Look) × (0 < level_at before) × All IsShownText (i ∷ slice) × BeginsNoText more
      × IsPathOf (slice_range text i.from (items_end i.to slice)) path.segs × AreLooks text duration elapsed before more rest × (items ≡ slice ++ more)
      × (all ≡ record { kind = Drawing path; before = before } ∷ rest)))

  looks_of : {before : List Effect} {items : List Item} {all : List Look} → AreLooks text duration elapsed before items all → LooksOf before items all
  looks_of (looks.none before) = refl
  looks_of (looks.unseen before i items all hidden rest) = inl (hidden, rest)
  looks_of (looks.seen before i kind items rest level shows are) = inr (inl (kind, rest, level, shows, are, refl))
  looks_of (looks.drawn before i slice items path rest level all behind is are) = inr (inr (slice, items, path, rest, level, all, behind, is, are, refl, refl))

  pub one_looks : {before : List Effect} {items : List Item} {a : List Look} → AreLooks text duration elapsed before items a → (b : List Look) → AreLooks text duration elapsed before items b → a ≡ b
  one_looks (looks.none before) b second = sym (looks_of second)
  one_looks (looks.unseen before i items a hidden rest) b second = elim (looks_of second) [
    | inl m ↦ one_looks rest b m.1
    | inr (inl m) ↦ absurd (not_shown i.kind m.0 hidden m.3)
    | inr (inr m) ↦ absurd (false≢true (sym hidden ∙ All-head IsShownText i m.0 m.5))
  ]
  one_looks (looks.seen before i kind items rest level shows are) b second = elim (looks_of second) [
    | inl m ↦ absurd (not_shown i.kind kind m.0 shows)
    | inr (inl m) ↦
        ap (λ (z : ShownKind). record { kind = z; before = before } ∷ rest) (same_some kind m.0 (sym shows ∙ m.3))
        ∙ (ap (λ (z : List Look). record { kind = m.0; before = before } ∷ z) (one_looks are m.1 m.4) ∙ sym m.5)
    | inr (inr m) ↦ let above = m.4 in absurd (omega (arith, above, level))
  ]
  one_looks (looks.drawn before i slice items path rest level all behind is are) b second = elim (looks_of second) [
    | inl m ↦ absurd (false≢true (sym m.0 ∙ All-head IsShownText i slice all))
    | inr (inl m) ↦ let none = m.2 in absurd (omega (arith, level, none))
    | inr (inr m) ↦
        let same = one_slice slice m.0 items m.1 (All-tail IsShownText i slice all) (All-tail IsShownText i m.0 m.5) behind m.6 m.9 in
        let other = subst (λ (z : List Item). IsPathOf (slice_range text i.from (items_end i.to z)) (m.2).segs) (sym same.0) m.7 in
        let segs : path.segs ≡ (m.2).segs = one_path (slice_range text i.from (items_end i.to slice)) path.segs (m.2).segs is other in
        let later = one_looks are m.3 (subst (λ (z : List Item). AreLooks text duration elapsed before z m.3) (sym same.1) m.8) in
        ap (λ (z : List Seg). record { kind = Drawing (record { segs = z }); before = before } ∷ rest) segs
        ∙ (ap (λ (z : List Look). record { kind = Drawing m.2; before = before } ∷ z) later ∙ sym m.10)
  ]

-- ---- states behind the same effects have the same font and the same metrics
pub same_font : (script : ScriptValue) (own : List ℕ) (fonts : List FontValue) (ns ms : List (List ℕ)) (before : List Effect) (a b : State) → IsStateAt script own ns before a
    → IsStateAt script own ms before b → font_of_state fonts ns a ≡ font_of_state fonts ms b
same_font script own fonts ns ms before a b h k =
    let name : slice_index_or ns a.font [] ≡ slice_index_or ms b.font [] = get_or_from_slice_get ns a.font _ [] h.font ∙ sym (get_or_from_slice_get ms b.font _ [] k.font) in
    let bold : a.bold ≡ b.bold = h.switches property.Bold ∙ sym (k.switches property.Bold) in
    let italic : a.italic ≡ b.italic = h.switches property.Italic ∙ sym (k.switches property.Italic) in
    ap (λ (z : List ℕ). font_chosen z a.bold a.italic fonts) name
    ∙ (ap (λ (z : Bool). font_chosen (slice_index_or ms b.font []) z a.italic fonts) bold
    ∙ ap (λ (z : Bool). font_chosen (slice_index_or ms b.font []) b.bold z fonts) italic)

module _ (script : ScriptValue) (own : List ℕ) (fonts : List FontValue) (scales : Scales) where
  same_state : (number : ℕ) (font : FontValue) (ns ms : List (List ℕ)) (before : List Effect) (a b : State) → IsStateAt script own ns before a → IsStateAt script own ms before b
      → metrics_of scales number font a ≡ metrics_of scales number font b
  same_state number font ns ms before a b h k =
      let measure : (m : Measure) → measure_of m a ≡ measure_of m b = λ m. h.numbers m ∙ sym (k.numbers m) in
      let italic : a.italic ≡ b.italic = h.switches property.Italic ∙ sym (k.switches property.Italic) in
      let draw : a.draw ≡ b.draw = h.draw ∙ sym k.draw in
      let M = λ (s : State). metrics_of scales number font s in
      ap (λ (z : ℤ). M (record b { size = z; scale_x = a.scale_x; scale_y = a.scale_y; spacing = a.spacing; angle = a.angle; italic = a.italic; draw = a.draw })) (measure property.Size)
      ∙ (ap (λ (z : ℤ). M (record b { scale_x = z; scale_y = a.scale_y; spacing = a.spacing; angle = a.angle; italic = a.italic; draw = a.draw })) (measure ScaleX)
      ∙ (ap (λ (z : ℤ). M (record b { scale_y = z; spacing = a.spacing; angle = a.angle; italic = a.italic; draw = a.draw })) (measure ScaleY)
      ∙ (ap (λ (z : ℤ). M (record b { spacing = z; angle = a.angle; italic = a.italic; draw = a.draw })) (measure Spacing)
      ∙ (ap (λ (z : ℤ). M (record b { angle = z; italic = a.italic; draw = a.draw })) (measure Angle)
      ∙ (ap (λ (z : Bool). M (record b { italic = z; draw = a.draw })) italic
      ∙ ap (λ (z : ℕ). M (record b { draw = z })) draw)))))

  module _ (v w : EventView) (before : List Effect) (p q : ℕ) (h : HasState script own v.names v.states before p) (k : HasState script own w.names w.states before q) where
    pub same_metrics : slice_index_or (all_metrics scales fonts v) p no_metrics ≡ slice_index_or (all_metrics scales fonts w) q no_metrics
    same_metrics =
        let f = state_metrics scales fonts v.names in
        let g = state_metrics scales fonts w.names in
        let m = font_of_state fonts w.names k.0 in
        let first = get_or_from_slice_get (map f v.states) p (f h.0) no_metrics (slice_get-map f v.states p ∙ ap (option_map f) h.1) in
        let other = get_or_from_slice_get (map g w.states) q (g k.0) no_metrics (slice_get-map g w.states q ∙ ap (option_map g) k.1) in
        let number : font_of_state fonts v.names h.0 ≡ m = same_font script own fonts v.names w.names before h.0 k.0 h.2 k.2 in
        first
        ∙ (ap (λ (z : ℕ). metrics_of scales z (slice_index_or fonts z no_font) h.0) number
        ∙ (same_state m (slice_index_or fonts m no_font) v.names w.names before h.0 k.0 h.2 k.2 ∙ sym other))

-- ---- so the layouts are the same
abbrev laid_by : ℕ → List Extent → List Span → List Extent → Laid
laid_by align items spans extents =
    let width = block_width extents in
    let lines = lines_from (edge_across align) width (pos 0) spans extents in
    record { lines = lines; placed = placed_from (advances_of items) 0 lines; width = width; height = block_height extents }

map_same : {X Y : Type 0} (f g : X → Y) → ((x : X) → f x ≡ g x) → (xs : List X) → map f xs ≡ map g xs
map_same f g h [] = refl
map_same f g h (x ∷ xs) = ap (λ z. z ∷ map f xs) (h x) ∙ ap (λ z. g x ∷ z) (map_same f g h xs)

module _ (script : ScriptValue) (own : List ℕ) (fonts : List FontValue) (scales : Scales) (v w : EventView) where
  abbrev SeenBy : EventView → List Shown → List Look → Type 0
  SeenBy view items seen = AreSeen script own view.names view.states items seen

  same_kinds : {X : Type 0} (f : ShownKind → X) (xs ys : List Shown) (seen : List Look) → SeenBy v xs seen → SeenBy w ys seen
      → map (λ (s : Shown). f s.kind) xs ≡ map (λ (s : Shown). f s.kind) ys
  same_kinds f [] [] [] h k = refl
  same_kinds f (x ∷ xs) (y ∷ ys) (look ∷ seen) h k =
      ap (λ z. f z ∷ map (λ (s : Shown). f s.kind) xs) (h.0.kind ∙ sym k.0.kind) ∙ ap (λ z. f y.kind ∷ z) (same_kinds f xs ys seen h.1 k.1)
  same_kinds f [] (y ∷ ys) [] h k = absurd k
  same_kinds f (x ∷ xs) [] [] h k = absurd h
  same_kinds f (x ∷ xs) (y ∷ ys) [] h k = absurd h
  same_kinds f [] ys (look ∷ seen) h k = absurd h
  same_kinds f (x ∷ xs) [] (look ∷ seen) h k = absurd k

  abbrev metrics_by : EventView → List Metrics
  metrics_by view = all_metrics scales fonts view

  same_extents : (wrap : ℕ) (xs ys : List Shown) (seen : List Look) (ends : List Bool) → SeenBy v xs seen → SeenBy w ys seen
      → map (λ (x : Shown × Bool). extent_of fonts (metrics_by v) wrap x.0 x.1) (zip xs ends) ≡ map (λ (x : Shown × Bool). extent_of fonts (metrics_by w) wrap x.0 x.1) (zip ys ends)
  same_extents wrap [] [] [] ends h k = refl
  same_extents wrap (x ∷ xs) (y ∷ ys) (look ∷ seen) [] h k = refl
  same_extents wrap (x ∷ xs) (y ∷ ys) (look ∷ seen) (end ∷ ends) h k =
      let E = λ (m : Metrics) (kind : ShownKind). kind_extent fonts m wrap end kind in
      let here : extent_of fonts (metrics_by v) wrap x end ≡ extent_of fonts (metrics_by w) wrap y end =
      ap (λ (m : Metrics). E m x.kind) (same_metrics script own fonts scales v w look.before x.state y.state h.0.state k.0.state)
      ∙ ap (E (slice_index_or (metrics_by w) y.state no_metrics)) (h.0.kind ∙ sym k.0.kind)
      in
      ap (λ (z : Extent). z ∷ map (λ (x : Shown × Bool). extent_of fonts (metrics_by v) wrap x.0 x.1) (zip xs ends)) here
      ∙ ap (λ (z : List Extent). extent_of fonts (metrics_by w) wrap y end ∷ z) (same_extents wrap xs ys seen ends h.1 k.1)
  same_extents wrap [] (y ∷ ys) [] ends h k = absurd k
  same_extents wrap (x ∷ xs) [] [] ends h k = absurd h
  same_extents wrap (x ∷ xs) (y ∷ ys) [] ends h k = absurd h
  same_extents wrap [] ys (look ∷ seen) ends h k = absurd h
  same_extents wrap (x ∷ xs) [] (look ∷ seen) ends h k = absurd k

  -- the state at each place stands behind the same effects
  same_at : (xs ys : List Shown) (seen : List Look) (place last other : ℕ) (before : List Effect) → SeenBy v xs seen → SeenBy w ys seen
      → HasState script own v.names v.states before last → HasState script own w.names w.states before other
      → slice_index_or (metrics_by v) (option_map_or (λ (s : Shown). s.state) (slice_get xs place) last) no_metrics
      ≡ slice_index_or (metrics_by w) (option_map_or (λ (s : Shown). s.state) (slice_get ys place) other) no_metrics
  same_at [] [] [] place last other before h k p q = same_metrics script own fonts scales v w before last other p q
  same_at (x ∷ xs) (y ∷ ys) (look ∷ seen) zero last other before h k p q = same_metrics script own fonts scales v w look.before x.state y.state h.0.state k.0.state
  same_at (x ∷ xs) (y ∷ ys) (look ∷ seen) (suc place) last other before h k p q = same_at xs ys seen place last other before h.1 k.1 p q
  same_at [] (y ∷ ys) [] place last other before h k p q = absurd k
  same_at (x ∷ xs) [] [] place last other before h k p q = absurd h
  same_at (x ∷ xs) (y ∷ ys) [] place last other before h k p q = absurd h
  same_at [] ys (look ∷ seen) place last other before h k p q = absurd h
  same_at (x ∷ xs) [] (look ∷ seen) place last other before h k p q = absurd k

  module _ (seen : List Look) (before : List Effect) (h : SeenBy v v.items seen) (k : SeenBy w w.items seen)
      (p : HasState script own v.names v.states before (length v.states - 1)) (q : HasState script own w.names w.states before (length w.states - 1)) where
    same_blank : (place : ℕ) → blank_extent (metrics_by v) v.items place ≡ blank_extent (metrics_by w) w.items place
    same_blank place =
        let N = λ (n : ℕ) (view : EventView). slice_index_or (metrics_by view) (option_map_or (λ (s : Shown). s.state) (slice_get view.items place) (n - 1)) no_metrics in
        let long = length-map v.states (state_metrics scales fonts v.names) in
        let wide = length-map w.states (state_metrics scales fonts w.names) in
        let m : slice_index_or (metrics_by v) (state_at (length (metrics_by v)) v.items place) no_metrics ≡ slice_index_or (metrics_by w) (state_at (length (metrics_by w)) w.items place) no_metrics =
        ap (λ (n : ℕ). N n v) long ∙ (same_at v.items w.items seen place (length v.states - 1) (length w.states - 1) before h k p q ∙ sym (ap (λ (n : ℕ). N n w) wide))
        in
        ap (λ (z : Metrics). record { advance = pos 0; ascent = z.ascent; descent = z.descent }) m

    same_lines : (extents : List Extent) (spans : List Span) → line_extents (metrics_by v) v.items extents spans ≡ line_extents (metrics_by w) w.items extents spans
    same_lines extents spans =
        map_same (line_extent (metrics_by v) v.items extents) (line_extent (metrics_by w) w.items extents)
        (λ span. ap (λ (z : Extent). cond (span.first == span.last) z (joined_extent (slice_range extents span.first span.last))) (same_blank span.last)) spans

    same_items : (wrap : ℕ) → item_extents fonts (metrics_by v) wrap v.items ≡ item_extents fonts (metrics_by w) wrap w.items
    same_items wrap =
        let ends : chars_of wrap v.items ≡ chars_of wrap w.items = same_kinds (char_of wrap) v.items w.items seen h k in
        ap (λ (z : List (Option ℕ)). map (λ (x : Shown × Bool). extent_of fonts (metrics_by v) wrap x.0 x.1) (zip v.items (cluster_ends z))) ends
        ∙ same_extents wrap v.items w.items seen (cluster_ends (chars_of wrap w.items)) h k

    pub laid_alike : (event : Event) (laid : Laid) → v.align ≡ w.align → v.wrap ≡ w.wrap → IsLaidBy script fonts event w scales laid → IsLaidBy script fonts event v scales laid
    laid_alike event laid align wrap l =
        let max = wrapping_width (margins_of script event) scales in
        let roles : roles_of v.wrap v.items ≡ roles_of w.wrap w.items = ap (λ (z : ℕ). roles_of z v.items) wrap ∙ same_kinds (role_of w.wrap) v.items w.items seen h k in
        let items : item_extents fonts (metrics_by v) v.wrap v.items ≡ item_extents fonts (metrics_by w) w.wrap w.items =
        ap (λ (z : ℕ). item_extents fonts (metrics_by v) z v.items) wrap ∙ same_items w.wrap in
        let lines : AreLines v.wrap (roles_of v.wrap v.items) (advances_of (item_extents fonts (metrics_by v) v.wrap v.items)) max (paragraphs_of (roles_of v.wrap v.items)) l.0 =
        subst (λ (z : ℕ). AreLines z (roles_of v.wrap v.items) (advances_of (item_extents fonts (metrics_by v) v.wrap v.items)) max (paragraphs_of (roles_of v.wrap v.items)) l.0) (sym wrap)
        (subst (λ z. AreLines w.wrap z (advances_of (item_extents fonts (metrics_by v) v.wrap v.items)) max (paragraphs_of z) l.0) (sym roles)
        (subst (λ (z : List Extent). AreLines w.wrap (roles_of w.wrap w.items) (advances_of z) max (paragraphs_of (roles_of w.wrap w.items)) l.0) (sym items) l.1))
        in
        let out : laid_out w (metrics_by w) (item_extents fonts (metrics_by w) w.wrap w.items) l.0 ≡ laid_out v (metrics_by v) (item_extents fonts (metrics_by v) v.wrap v.items) l.0 =
        sym
        (ap (λ (z : List Extent). laid_out v (metrics_by v) z l.0) items
        ∙ (ap (λ (z : List Extent). laid_by v.align (item_extents fonts (metrics_by w) w.wrap w.items) l.0 z) (same_lines (item_extents fonts (metrics_by w) w.wrap w.items) l.0)
        ∙ ap (λ (z : ℕ). laid_by z (item_extents fonts (metrics_by w) w.wrap w.items) l.0 (line_extents (metrics_by w) w.items (item_extents fonts (metrics_by w) w.wrap w.items) l.0)) align))
        in
        (l.0, lines, l.2 ∙ out)

-- ---- one stand
pub same_typeset : (v w : EventView) → v.pos ≡ w.pos → v.org ≡ w.org → v.clip ≡ w.clip → is_typeset v ≡ is_typeset w
same_typeset v w place origin clip =
    ap (λ (z : Option (ℤ × ℤ)). is_some z || (is_some v.org || is_some v.clip)) place
    ∙ (ap (λ (z : Option (ℤ × ℤ)). is_some w.pos || (is_some z || is_some v.clip)) origin
    ∙ ap (λ (z : Option ClipTag). is_some w.pos || (is_some w.org || is_some z)) clip)

same_stand : (script : ScriptValue) (event : Event) (v w : EventView) (laid : Laid) (scales : Scales) → v.align ≡ w.align → v.pos ≡ w.pos → stand_of script event v laid scales ≡ stand_of script event w laid scales
same_stand script event v w laid scales align place =
    ap (λ (z : ℕ). stand_of script event (record w { align = z; pos = v.pos }) laid scales) align
    ∙ ap (λ (z : Option (ℤ × ℤ)). stand_of script event (record w { pos = z }) laid scales) place

module _ (script : ScriptValue) (fonts : List FontValue) (frame : FrameView) (sound : IsScript script) where
  pub view_wrap : (event : Event) (view : EventView) → IsViewOf script event event.start view → view.wrap ≤ 3
  view_wrap event view h =
      let effects = past_held event.duration (elapsed_at event event.start) [] h.items (All-nil IsHeldEffect) (items_held h.reading) in
      subst (λ (z : ℕ). z ≤ 3) (sym h.shown.wrap) (wrap_held script.header.wrap _ sound.header.wrap effects)

  one : (e : Event) (a b : Stand) → IsStandOf script fonts frame e a → IsStandOf script fonts frame e b → a ≡ b
  one e a b h k =
      let v = h.view in
      let w = k.view in
      let items : h.shows.items ≡ k.shows.items = one_items h.shows.reading k.shows.items k.shows.reading in
      let other : IsViewBy script e (elapsed_at e e.start) h.shows.items w = subst (λ (z : List Item). IsViewBy script e (elapsed_at e e.start) z w) (sym items) k.shows.shown in
      let mine = h.shows.shown in
      let seen : mine.looks ≡ other.looks = one_looks e.text e.duration (elapsed_at e e.start) mine.shows other.looks other.shows in
      let align : v.align ≡ w.align = mine.align ∙ sym other.align in
      let wrap : v.wrap ≡ w.wrap = mine.wrap ∙ sym other.wrap in
      let also : AreSeen script e.style w.names w.states w.items mine.looks = subst (λ (z : List Look). AreSeen script e.style w.names w.states w.items z) (sym seen) other.seen in
      let typeset : is_typeset v ≡ is_typeset w =
      same_typeset v w (h.pointless ∙ sym k.pointless) (mine.origin ∙ sym other.origin) (mine.clip ∙ sym other.clip) in
      let scales = line_scales script.header frame v in
      let alike : line_scales script.header frame w ≡ scales = ap (scales_of script.header frame) (sym typeset) in
      let laid_out : IsLaidBy script fonts e w scales k.laid = subst (λ (z : Scales). IsLaidBy script fonts e w z k.laid) alike k.laid_out in
      let laid = laid_alike script e.style fonts scales v w mine.looks _ mine.seen also mine.last other.last e k.laid align wrap laid_out in
      let same : h.laid ≡ k.laid = one_laid script fonts e v frame h.laid k.laid (view_wrap e v h.shows) h.laid_out laid in
      h.value
      ∙ (ap (λ (z : Laid). stand_of script e v z scales) same
      ∙ (same_stand script e v w k.laid scales align (h.pointless ∙ sym k.pointless)
      ∙ (ap (λ (z : Scales). stand_of script e w k.laid z) (sym alike) ∙ sym k.value)))

  pointless : (e : Event) (a : Stand) → IsStandOf script fonts frame e a → HasPoint e → ⊥
  pointless e a h k = false≢true (sym (ap is_some h.pointless) ∙ (sym (point_shown k.items k.reading h.shows) ∙ k.point))

  pub one_stand : HaveOneStand script fonts frame
  one_stand = record { one = one; pointless = pointless }
