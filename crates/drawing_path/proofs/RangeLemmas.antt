-- Each command keeps a path valid.
use Rattle.std.proofs.Common.{◌≡◌, ℕ, ℤ, pos, neg_ℤ, ◌-◌, Bool, true, false, cond, Option, Some, None, inl, inr, List, [], ◌∷◌, ◌++◌, length, take, drop, map, slice_get, All, refl, sym, ap, ◌∙◌, subst, arith}
use Rattle.std.proofs.lemmas.Int.{ints}
use Rattle.std.proofs.lemmas.List.Elements.{All-nil, All-cons, All-head, All-tail, All-append, All-take}
use Rattle.std.proofs.lemmas.Option.{slice_get_cases, slice_get_within, get_or_from_slice_get}
use Rattle.std.specs.List.{list_any}
use Rattle.std.specs.Option.{option_and_then}
use Rattle.ass_num.specs.Floor.{held}
use Rattle.ass_num.specs.Numerals.{IsMilli, signed}
use Rattle.ass_num.proofs.Floor.{held_within}
use Rattle.ass_num.specs.declared.geometry.Point.{Point}
use Rattle.ass_num.specs.declared.geometry.Seg.{Seg}
use Rattle.ass_num.specs.declared.geometry.Seg.TheVariants.{Move, Line, Cubic, Spline}
use Rattle.drawing_path.specs.declared.command.Command.{Command}
use Rattle.drawing_path.specs.declared.command.Command.TheVariants.{Begin, Lines, Cubics, NewSpline, Extend, Close}
use Rattle.drawing_path.specs.Tokens.{Token, Letter, Number, Skipped, IsToken, AreTokens}
use Rattle.drawing_path.specs.Paths.{leading_numbers, points_of, cubics_of, end_of, last_vertex, spline_by, continued, is_figure_or_spline, spline_changed, last_spline_changed, after_command, path_after, IsPathOf}
use Rattle.ass_num.specs.Limits.{max_held, IsHeldNumber, IsHeldPoint}
use Rattle.ass_num.specs.Paths.{begins_figure, IsSegment, IsPath}

-- ---- numbers and points

pub milli_held : (bytes : List ℕ) (value : ℤ) → IsMilli bytes value → IsHeldNumber value
milli_held bytes value m =
    let both = held_within (neg_ℤ (pos max_held)) (pos max_held) (signed m.sign m.thousandths) (omega (arith, ints)) in
    let P : ℤ → Type 0 = λ z. IsHeldNumber z in
    subst P (sym m.value) both

numbers_held : (tokens : List Token) (text : List ℕ) → AreTokens tokens text → All IsHeldNumber (leading_numbers tokens)
numbers_held [] text read = All-nil IsHeldNumber
numbers_held (Letter _ ∷ tokens) text read = All-nil IsHeldNumber
numbers_held (Number value ∷ tokens) text read = All-cons IsHeldNumber value (leading_numbers tokens) (number_held text value read.0 read.1) (numbers_held tokens (drop read.0 text) read.2)
  where
    number_held : (z : List ℕ) (v : ℤ) (n : ℕ) → IsToken z (Number v) n → IsHeldNumber v
    number_held [] v n token = absurd token
    number_held (c ∷ z) v n token = milli_held (take n (c ∷ z)) v token.1.spelled
numbers_held (Skipped ∷ tokens) text read = numbers_held tokens (drop read.0 text) read.2

points_held : (numbers : List ℤ) → All IsHeldNumber numbers → All IsHeldPoint (points_of numbers)
points_held [] all = All-nil IsHeldPoint
points_held (x ∷ []) all = All-nil IsHeldPoint
points_held (x ∷ (y ∷ numbers)) all =
    let behind : All IsHeldNumber (y ∷ numbers) = All-tail IsHeldNumber x (y ∷ numbers) all in
    All-cons IsHeldPoint (record { x = x; y = y }) (points_of numbers) (record { x = All-head IsHeldNumber x (y ∷ numbers) all; y = All-head IsHeldNumber y numbers behind }) (points_held numbers (All-tail IsHeldNumber y numbers behind))

-- ---- segments that are added

one_point : (point : Point) → IsHeldPoint point → All IsHeldPoint (point ∷ [])
one_point point is = All-cons IsHeldPoint point [] is (All-nil IsHeldPoint)

moves_held : (points : List Point) → All IsHeldPoint points → All IsSegment (map Move points)
moves_held [] all = All-nil IsSegment
moves_held (point ∷ points) all = All-cons IsSegment (Move point) (map Move points) (one_point point (All-head IsHeldPoint point points all)) (moves_held points (All-tail IsHeldPoint point points all))

lines_held : (points : List Point) → All IsHeldPoint points → All IsSegment (map Line points)
lines_held [] all = All-nil IsSegment
lines_held (point ∷ points) all = All-cons IsSegment (Line point) (map Line points) (one_point point (All-head IsHeldPoint point points all)) (lines_held points (All-tail IsHeldPoint point points all))

cubics_held : (points : List Point) → All IsHeldPoint points → All IsSegment (cubics_of points)
cubics_held (a ∷ (b ∷ (c ∷ points))) all =
    let second : All IsHeldPoint (b ∷ (c ∷ points)) = All-tail IsHeldPoint a (b ∷ (c ∷ points)) all in
    let third : All IsHeldPoint (c ∷ points) = All-tail IsHeldPoint b (c ∷ points) second in
    let three : All IsHeldPoint (a ∷ (b ∷ (c ∷ []))) = All-cons IsHeldPoint a (b ∷ (c ∷ [])) (All-head IsHeldPoint a (b ∷ (c ∷ points)) all)
    (All-cons IsHeldPoint b (c ∷ []) (All-head IsHeldPoint b (c ∷ points) second) (one_point c (All-head IsHeldPoint c points third))) in
    All-cons IsSegment (Cubic a b c) (cubics_of points) three (cubics_held points (All-tail IsHeldPoint c points third))
cubics_held (a ∷ (b ∷ [])) all = All-nil IsSegment
cubics_held (a ∷ []) all = All-nil IsSegment
cubics_held [] all = All-nil IsSegment

-- an item of a list
item_held : {X : Type 0} (P : X → Type 0) (xs : List X) (i : ℕ) (x : X) → All P xs → slice_get xs i ≡ Some x → P x
item_held P xs i x all is = subst P (get_or_from_slice_get xs i x x is) (all i x (slice_get_within xs i x is))

end_held : (seg : Seg) (point : Point) → IsSegment seg → end_of seg ≡ Some point → IsHeldPoint point
end_held (Move p) point all is = let same : p ≡ point = cc in subst IsHeldPoint same (All-head IsHeldPoint p [] all)
end_held (Line p) point all is = let same : p ≡ point = cc in subst IsHeldPoint same (All-head IsHeldPoint p [] all)
end_held (Cubic a b p) point all is =
    let same : p ≡ point = cc in
    subst IsHeldPoint same (All-head IsHeldPoint p [] (All-tail IsHeldPoint b (p ∷ []) (All-tail IsHeldPoint a (b ∷ (p ∷ [])) all)))
end_held (Spline points _) point all is = item_held IsHeldPoint points (length points - 1) point all is

vertex_held : (path : List Seg) (point : Point) → All IsSegment path → last_vertex path ≡ Some point → IsHeldPoint point
vertex_held path point all is = elim (slice_get_cases path (length path - 1)).1 [
  | inl there ↦ end_held there.0 point (item_held IsSegment path (length path - 1) there.0 all there.2) (ap (option_and_then end_of) (sym there.2) ∙ is)
  | inr past ↦ let none : ◌≡◌ {A = Option Point} None (Some point) = ap (option_and_then end_of) (sym past.1) ∙ is in absurd (cc)
]

spline_held : (vertex : Option Point) (points : List Point) → ((point : Point) → vertex ≡ Some point → IsHeldPoint point) → All IsHeldPoint points → All IsSegment (spline_by vertex points)
spline_held None points is all = All-nil IsSegment
spline_held (Some v) [] is all = All-nil IsSegment
spline_held (Some v) (a ∷ []) is all = All-nil IsSegment
spline_held (Some v) (a ∷ (b ∷ [])) is all = All-nil IsSegment
spline_held (Some v) (a ∷ (b ∷ (c ∷ points))) is all =
    All-cons IsSegment (Spline (v ∷ (a ∷ (b ∷ (c ∷ points)))) false) [] (All-cons IsHeldPoint v (a ∷ (b ∷ (c ∷ points))) (is v refl) all) (All-nil IsSegment)

continued_held : (path more : List Seg) → All IsSegment path → All IsSegment more → All IsSegment (continued path more)
continued_held [] more all also = all
continued_held (seg ∷ path) more all also = All-append IsSegment (seg ∷ path) more all also

-- ---- the last spline, changed

-- a change of a spline that keeps its points held
Keeps : (List Point → Bool → Seg) → Type 0
Keeps change = (control : List Point) (closed : Bool) → All IsHeldPoint control → IsSegment (change control closed)

seg_held : (change : List Point → Bool → Seg) (seg : Seg) → Keeps change → IsSegment seg → IsSegment (spline_changed change seg)
unfolding Keeps
seg_held change (Move _) keeps is = is
seg_held change (Line _) keeps is = is
seg_held change (Cubic _ _ _) keeps is = is
seg_held change (Spline control closed) keeps is = keeps control closed is

changed_held : (change : List Point → Bool → Seg) (path : List Seg) → Keeps change → All IsSegment path → All IsSegment (last_spline_changed change path)
changed_held change [] keeps all = all
changed_held change (seg ∷ path) keeps all =
    let here : IsSegment seg = All-head IsSegment seg path all in
    let behind : All IsSegment path = All-tail IsSegment seg path all in
    let kept : All IsSegment (seg ∷ last_spline_changed change path) = All-cons IsSegment seg (last_spline_changed change path) here (changed_held change path keeps behind) in
    let new : All IsSegment (spline_changed change seg ∷ path) = All-cons IsSegment (spline_changed change seg) path (seg_held change seg keeps here) behind in
    elim (list_any is_figure_or_spline path) as (λ b. All IsSegment (cond b (seg ∷ last_spline_changed change path) (spline_changed change seg ∷ path))) [ true ↦ kept | false ↦ new ]

extend_keeps : (points : List Point) → All IsHeldPoint points → Keeps (λ control closed. Spline (control ++ points) closed)
unfolding Keeps
extend_keeps points all = λ control closed is. All-append IsHeldPoint control points is all

close_keeps : Keeps (λ control _. Spline (control ++ take 3 control) true)
unfolding Keeps
close_keeps = λ control closed is. All-append IsHeldPoint control (take 3 control) is (All-take IsHeldPoint 3 control is)

after_held : (path : List Seg) (command : Command) (points : List Point) → All IsSegment path → All IsHeldPoint points → All IsSegment (after_command path command points)
after_held path Begin points all held = All-append IsSegment path (map Move points) all (moves_held points held)
after_held path Lines points all held = continued_held path (map Line points) all (lines_held points held)
after_held path Cubics points all held = continued_held path (cubics_of points) all (cubics_held points held)
after_held path NewSpline points all held = continued_held path (spline_by (last_vertex path) points) all (spline_held (last_vertex path) points (λ point is. vertex_held path point all is) held)
after_held path Extend points all held = changed_held (λ control closed. Spline (control ++ points) closed) path (extend_keeps points held) all
after_held path Close points all held = changed_held (λ control _. Spline (control ++ take 3 control) true) path close_keeps all

-- ---- the first segment

first_stays : (seg : Seg) (path more : List Seg) → begins_figure (seg ∷ path) ≡ true → begins_figure (seg ∷ more) ≡ true
first_stays (Move _) path more is = refl
first_stays (Line _) path more is = is
first_stays (Cubic _ _ _) path more is = is
first_stays (Spline _ _) path more is = is

moves_begin : (path : List Seg) (points : List Point) → begins_figure path ≡ true → begins_figure (path ++ map Move points) ≡ true
moves_begin [] [] is = refl
moves_begin [] (point ∷ points) is = refl
moves_begin (seg ∷ path) points is = first_stays seg path (path ++ map Move points) is

continued_begins : (path more : List Seg) → begins_figure path ≡ true → begins_figure (continued path more) ≡ true
continued_begins [] more is = refl
continued_begins (seg ∷ path) more is = first_stays seg path (path ++ more) is

changed_begins : (change : List Point → Bool → Seg) (path : List Seg) → begins_figure path ≡ true → begins_figure (last_spline_changed change path) ≡ true
changed_begins change [] is = refl
changed_begins change (Move point ∷ path) is =
    elim (list_any is_figure_or_spline path) as (λ b. begins_figure (cond b (Move point ∷ last_spline_changed change path) (Move point ∷ path)) ≡ true) [ true ↦ refl | false ↦ refl ]
changed_begins change (Line _ ∷ path) is = absurd (cc)
changed_begins change (Cubic _ _ _ ∷ path) is = absurd (cc)
changed_begins change (Spline _ _ ∷ path) is = absurd (cc)

after_begins : (path : List Seg) (command : Command) (points : List Point) → begins_figure path ≡ true → begins_figure (after_command path command points) ≡ true
after_begins path Begin points is = moves_begin path points is
after_begins path Lines points is = continued_begins path (map Line points) is
after_begins path Cubics points is = continued_begins path (cubics_of points) is
after_begins path NewSpline points is = continued_begins path (spline_by (last_vertex path) points) is
after_begins path Extend points is = changed_begins (λ control closed. Spline (control ++ points) closed) path is
after_begins path Close points is = changed_begins (λ control _. Spline (control ++ take 3 control) true) path is

-- ---- whole paths

path_valid : (path : List Seg) (tokens : List Token) (text : List ℕ) → AreTokens tokens text → IsPath path → IsPath (path_after path tokens)
path_valid path [] text read is = is
path_valid path (Letter command ∷ tokens) text read is =
    let points = points_of (leading_numbers tokens) in
    path_valid (after_command path command points) tokens (drop read.0 text) read.2 (record {
      begins = after_begins path command points is.begins;
      held = after_held path command points is.held (points_held (leading_numbers tokens) (numbers_held tokens (drop read.0 text) read.2));
    })
path_valid path (Number _ ∷ tokens) text read is = path_valid path tokens (drop read.0 text) read.2 is
path_valid path (Skipped ∷ tokens) text read is = path_valid path tokens (drop read.0 text) read.2 is

pub drawing_valid : (text : List ℕ) (path : List Seg) → IsPathOf text path → IsPath path
drawing_valid text path is =
    let P : List Seg → Type 0 = λ z. IsPath z in
    subst P (sym is.drawn) (path_valid [] is.tokens text is.read (record { begins = refl; held = All-nil IsSegment }))
