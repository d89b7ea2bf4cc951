-- The replay of a list of stands: the stands that are kept serve as well as all that came before.
use Rattle.std.proofs.Common.{◌≡◌, ℕ, ℤ, pos, ◌+◌, ◌*◌, ◌<◌, ◌≤◌, ◌≤ℤ◌, true, false, List, [], ◌∷◌, ◌++◌, length, get_or, take, inl, inr, refl, sym, ap, subst, ◌∙◌, arith, length-append, length-take}
use Rattle.std.specs.List.{All, filter}
use Rattle.std.specs.List.Sorted.{IsPermutation}
use Rattle.std.proofs.lemmas.Bool.{cases_lt, cases_Bool, false≢true}
use Rattle.std.proofs.lemmas.List.{get_or_default, take_more, take_all, take-append-le, get_or_push, get_or_append_left}
use Rattle.std.proofs.lemmas.List.Elements.{filter-append, All-filter, All-map, All-nil, All-push, All-weaker}
use Rattle.std.proofs.lemmas.List.Sorted.{All-permutation}
use Rattle.std.proofs.lemmas.Int.{ints}
use Rattle.event_places.specs.declared.stands.Box2.{Box2}
use Rattle.event_places.specs.declared.stands.Stand.{Stand}
use Rattle.event_places.specs.Placement.{moved_box, moved_stand, placed_stands, ends_after, boxes_of, places_after, IsLeastShift, IsBoxWithin, IsStandWithin, IsShift, IsPlaceableStand, AreInOrder, max_stands, max_place, max_height, max_moved, max_box}
use Rattle.event_places.proofs.ShiftLemmas.{least-permutation, least-IsWithin, moved-IsShift, IsBoxWithin-wider}

-- what ends after a time ends after an earlier one
ends_earlier : (s : Stand) (t u : ℤ) → t ≤ℤ u → ends_after u s ≡ true → ends_after t s ≡ true
ends_earlier s t u l e = grind (arith, ints)

-- to drop what had ended earlier changes nothing
filter-filter : (t u : ℤ) (stands : List Stand) → t ≤ℤ u → filter (ends_after u) (filter (ends_after t) stands) ≡ filter (ends_after u) stands
filter-filter t u [] l = refl
filter-filter t u (s ∷ stands) l =
    elim (cases_Bool (ends_after t s)) [
      | inl kept ↦ rw (kept, filter-filter t u stands l) refl
      | inr ended ↦
          elim (cases_Bool (ends_after u s)) [
            | inl late ↦ absurd (false≢true (sym ended ∙ ends_earlier s t u l late))
            | inr gone ↦ rw (ended, gone) (filter-filter t u stands l)
          ]
    ]

placed-push : (stands : List Stand) (shifts : List ℤ) (s : Stand) (shift : ℤ) → length stands ≡ length shifts → placed_stands (stands ++ s ∷ []) (shifts ++ shift ∷ []) ≡ placed_stands stands shifts ++ moved_stand shift s ∷ []
placed-push [] [] s shift e = refl
placed-push [] (x ∷ shifts) s shift e = absurd (omega arith)
placed-push (r ∷ stands) [] s shift e = absurd (omega arith)
placed-push (r ∷ stands) (x ∷ shifts) s shift e = ap (λ (rest : List Stand). moved_stand x r ∷ rest) (placed-push stands shifts s shift (omega arith))

-- one stand more
placed-more : (stands : List Stand) (shifts : List ℤ) (shift : ℤ) (index : ℕ) (s : Stand) → index ≡ length shifts → index < length stands → s ≡ get_or stands index s
    → placed_stands (take (index + 1) stands) (shifts ++ shift ∷ []) ≡ placed_stands (take index stands) shifts ++ moved_stand shift s ∷ []
placed-more stands shifts shift index s n l e =
    let more : take (index + 1) stands ≡ take index stands ++ s ∷ [] = take_more stands index s l ∙ ap (λ (x : Stand). take index stands ++ x ∷ []) (sym e) in
    let w : length (take index stands) ≡ length shifts = omega (arith, length-take index stands) in
    ap (λ (x : List Stand). placed_stands x (shifts ++ shift ∷ [])) more ∙ placed-push (take index stands) shifts s shift w

-- how far from 0 the boxes of so many stands are moved
abbrev pub reach : ℕ → ℕ
reach index = max_place + index * max_height

-- the replay has come to the stand at `index`
pub record Replayed (stands shown : List Stand) (shifts : List ℤ) (index : ℕ) : Type 0 where
  pub count : length shifts ≡ index
  pub least : (k : ℕ) (s : Stand) → k < index → s ≡ get_or stands k s → IsLeastShift s.place (places_after s.start (placed_stands (take k stands) (take k shifts))) s.down (get_or shifts k (pos 0))
  pub serve : (time : ℤ) (d : Stand) → index < length stands → (get_or stands index d).start ≤ℤ time → filter (ends_after time) shown ≡ filter (ends_after time) (placed_stands (take index stands) shifts)
  pub moved : All (IsStandWithin (reach index)) (placed_stands (take index stands) shifts)
  pub bounded : All (IsShift (max_place + max_moved)) shifts

pub Replayed-none : (stands : List Stand) → Replayed stands [] [] 0
Replayed-none stands = record {
  count = refl;
  least = λ k s l e. absurd (omega arith);
  serve = λ time d l s. refl;
  moved = λ k d l. absurd (omega arith);
  bounded = All-nil (IsShift (max_place + max_moved));
}

-- what the next stand has to keep clear of
abbrev pub kept : List Stand → Stand → List Stand
kept shown s = filter (ends_after s.start) shown

kept_are : (stands shown : List Stand) (shifts : List ℤ) (index : ℕ) (s : Stand) → index < length stands → s ≡ get_or stands index s → Replayed stands shown shifts index → kept shown s ≡ kept (placed_stands (take index stands) shifts) s
kept_are stands shown shifts index s l e r = r.serve s.start s l (let q : (get_or stands index s).start ≡ s.start = ap (λ (x : Stand). x.start) (sym e) in omega (arith, ints, q))

pub kept_near : (stands shown : List Stand) (shifts : List ℤ) (index : ℕ) (s : Stand) → index < length stands → s ≡ get_or stands index s → Replayed stands shown shifts index → All (IsBoxWithin (reach index)) (boxes_of (kept shown s))
kept_near stands shown shifts index s l e r =
    let placed = placed_stands (take index stands) shifts in
    rw (kept_are stands shown shifts index s l e r) (All-map (IsBoxWithin (reach index)) (λ (x : Stand). x.place) (kept placed s) (All-filter (ends_after s.start) (IsStandWithin (reach index)) placed r.moved))

later_least : (stands : List Stand) (shifts : List ℤ) (shift : ℤ) (index : ℕ) (s : Stand) → index ≡ length shifts → index < length stands → s ≡ get_or stands index s → IsLeastShift s.place (places_after s.start (placed_stands (take index stands) shifts)) s.down shift
    → ((k : ℕ) (r : Stand) → k < index → r ≡ get_or stands k r → IsLeastShift r.place (places_after r.start (placed_stands (take k stands) (take k shifts))) r.down (get_or shifts k (pos 0)))
    → (k : ℕ) (r : Stand) → k < index + 1 → r ≡ get_or stands k r → IsLeastShift r.place (places_after r.start (placed_stands (take k stands) (take k (shifts ++ shift ∷ [])))) r.down (get_or (shifts ++ shift ∷ []) k (pos 0))
later_least stands shifts shift index s n l e here before k r b f =
    elim (cases_lt k index) [
      | inl below ↦
          let w : k < length shifts = omega arith in
          rw (take-append-le k shifts (shift ∷ []) (omega arith), get_or_append_left shifts (shift ∷ []) (pos 0) k w) (before k r below f)
      | inr above ↦
          let same : k ≡ index = omega arith in
          let t : r ≡ s = f ∙ ap (λ j. get_or stands j r) same ∙ get_or_default stands index r s l ∙ sym e in
          rw (t, same, take-append-le index shifts (shift ∷ []) (omega arith), take_all index shifts (omega arith), get_or_push shifts shift (pos 0) index (sym n)) here
    ]

later_shown : (stands shown : List Stand) (shifts : List ℤ) (shift : ℤ) (index : ℕ) (s : Stand) → index ≡ length shifts → index < length stands → s ≡ get_or stands index s → AreInOrder stands → Replayed stands shown shifts index
    → (time : ℤ) (d : Stand) → index + 1 < length stands → (get_or stands (index + 1) d).start ≤ℤ time
    → filter (ends_after time) (kept shown s ++ moved_stand shift s ∷ []) ≡ filter (ends_after time) (placed_stands (take (index + 1) stands) (shifts ++ shift ∷ []))
later_shown stands shown shifts shift index s n l e order r time d m t =
    let o = order index d m in
    let q : (get_or stands index d).start ≡ s.start = ap (λ (x : Stand). x.start) (get_or_default stands index d s l ∙ sym e) in
    let u : s.start ≤ℤ time = omega (arith, ints, o, t, q) in
    let p : (get_or stands index d).start ≤ℤ time = omega (arith, ints, o, t) in
    let z = λ (x : List Stand). filter (ends_after time) x in
    let added = moved_stand shift s ∷ [] in
    filter-append (ends_after time) (kept shown s) added
    ∙ ap (λ (x : List Stand). x ++ z added) (filter-filter s.start time shown u ∙ r.serve time d l p)
    ∙ sym (filter-append (ends_after time) (placed_stands (take index stands) shifts) added)
    ∙ ap z (sym (placed-more stands shifts shift index s n l e))

-- one stand more
pub Replayed-more : (stands shown : List Stand) (shifts : List ℤ) (shift : ℤ) (others : List Box2) (index : ℕ) (s : Stand) → length stands ≤ max_stands → AreInOrder stands → All IsPlaceableStand stands → index < length stands → s ≡ get_or stands index s
    → IsPermutation (boxes_of (kept shown s)) others → IsLeastShift s.place others s.down shift → Replayed stands shown shifts index
    → Replayed stands (kept shown s ++ moved_stand shift s ∷ []) (shifts ++ shift ∷ []) (index + 1)
Replayed-more stands shown shifts shift others index s few order placeable l e p least r =
    let n : index ≡ length shifts = sym r.count in
    let known : IsLeastShift s.place (boxes_of (kept shown s)) s.down shift = least-permutation s.place (boxes_of (kept shown s)) others s.down shift p least in
    let here : IsLeastShift s.place (places_after s.start (placed_stands (take index stands) shifts)) s.down shift = rw (← kept_are stands shown shifts index s l e r) known in
    let fits : IsPlaceableStand s = (let P : Stand → Type 0 = IsPlaceableStand in subst P (sym e) (placeable index s l)) in
    let wide : IsBoxWithin (reach index) s.place = IsBoxWithin-wider max_place (reach index) s.place (omega arith) fits.within in
    let near = least-IsWithin s.place (boxes_of (kept shown s)) s.down (reach index) max_height shift wide (kept_near stands shown shifts index s l e r) fits.height known in
    let farther : IsStandWithin (reach (index + 1)) (moved_stand shift s) = IsBoxWithin-wider (reach index + max_height) (reach (index + 1)) (moved_box s.down shift s.place) (omega arith) near in
    let far : IsBoxWithin max_moved (moved_box s.down shift s.place) = IsBoxWithin-wider (reach index + max_height) max_moved (moved_box s.down shift s.place) (omega arith) near in
    let placed = placed_stands (take index stands) shifts in
    record {
      count = length-append shifts (shift ∷ []) ∙ ap (λ k. k + 1) r.count;
      least = later_least stands shifts shift index s n l e here r.least;
      serve = later_shown stands shown shifts shift index s n l e order r;
      moved =
          rw (placed-more stands shifts shift index s n l e)
          (All-push (IsStandWithin (reach (index + 1))) placed (moved_stand shift s)
          (All-weaker (IsStandWithin (reach index)) (IsStandWithin (reach (index + 1))) (λ x w. IsBoxWithin-wider (reach index) (reach (index + 1)) x.place (omega arith) w) placed r.moved)
          farther);
      bounded = All-push (IsShift (max_place + max_moved)) shifts shift r.bounded (moved-IsShift s.place s.down max_place max_moved shift known.from_zero fits.within far);
    }

-- all boxes are moved that far at most
pub all_moved : (stands shown : List Stand) (shifts : List ℤ) (index : ℕ) → length stands ≤ max_stands → index ≡ length stands → Replayed stands shown shifts index → All (IsStandWithin max_moved) (placed_stands stands shifts)
all_moved stands shown shifts index few all r =
    let whole : take index stands ≡ stands = take_all index stands (omega (arith, all)) in
    All-weaker (IsStandWithin (reach index)) (IsStandWithin max_moved) (λ x w. IsBoxWithin-wider (reach index) max_moved x.place (omega (arith, all)) w) (placed_stands stands shifts)
    (rw whole at r.moved)

-- the stand that a read past the end would give
abbrev pub no_stand : Stand
no_stand = record { start = pos 0; end = pos 0; place = record { left = pos 0; top = pos 0; right = pos 0; bottom = pos 0 }; down = false }

-- what `replay` sorts
pub sorted_are : (stands shown dropped slice : List Stand) (boxes sorted : List Box2) (index : ℕ) → dropped ≡ filter (ends_after (get_or stands index no_stand).start) shown → slice ≡ dropped → boxes ≡ boxes_of slice → IsPermutation boxes sorted → IsPermutation (boxes_of (kept shown (get_or stands index no_stand))) sorted
sorted_are stands shown dropped slice boxes sorted index e f g p =
    let P : List Box2 → Type 0 = λ x. IsPermutation x sorted in
    subst P (g ∙ ap boxes_of (f ∙ e)) p

-- the boxes lie where boxes may
pub sorted_near : (stands shown : List Stand) (shifts : List ℤ) (sorted : List Box2) (index : ℕ) → length stands ≤ max_stands → index < length stands → IsPermutation (boxes_of (kept shown (get_or stands index no_stand))) sorted → Replayed stands shown shifts index → All (IsBoxWithin max_box) sorted
sorted_near stands shown shifts sorted index few l p r =
    let s = get_or stands index no_stand in
    All-weaker (IsBoxWithin (reach index)) (IsBoxWithin max_box) (λ x w. IsBoxWithin-wider (reach index) max_box x (omega arith) w) sorted
    (All-permutation (IsBoxWithin (reach index)) (boxes_of (kept shown s)) sorted p (kept_near stands shown shifts index s l (get_or_default stands index no_stand s l) r))
