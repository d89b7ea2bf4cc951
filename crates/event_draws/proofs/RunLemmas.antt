-- The first run of a line's items, and the ends of a syllable.
use Rattle.std.proofs.Common.{◌≡◌, refl, sym, ap, ap₂, ◌∙◌, ℕ, zero, suc, ◌+◌, ◌-◌, ◌<◌, ◌≤◌, Bool, true, false, cond, Option, Some, None, List, [], ◌∷◌, ◌++◌, length, get_or, take, drop, ℤ, arith, filter, slice_get, inl, inr}
use Rattle.std.proofs.lemmas.Bool.{cases_lt}
use Rattle.std.proofs.lemmas.List.{append-nil, drop_more, get_or_default, get_or_push, length_push, take-append-drop}
use Rattle.std.proofs.lemmas.List.Elements.{filter-append, filter_more}
use Rattle.std.proofs.lemmas.Option.{slice_get-get_or}
use Rattle.std.specs.Option.{option_map_or}
use Rattle.std.specs.Prelude.{pos}
use Rattle.draw_numbers.specs.Colours.{fill_paint, is_awaited, plain_paint, primary, secondary, sung_paint, swept_paint}
use Rattle.override_tags.specs.declared.view.EventView.{EventView}
use Rattle.override_tags.specs.declared.view.State.{State}
use Rattle.override_tags.specs.declared.view.Syllable.{Syllable}
use Rattle.text_layout.specs.declared.laid.Placed.{Placed}
use Rattle.event_draws.specs.EventDraws.{is_swept_now, right_end, right_of}
use Rattle.event_draws.specs.Runs.{are_joined, runs_of, with_item}
use Rattle.event_draws.specs.declared.stage.Stage.{Stage}

-- ---- runs

-- Runs begin with a run.
abbrev BeginsWith : Placed → List (List Placed) → Type 0
BeginsWith x all = (run : List Placed) × (runs : List (List Placed)) × (all ≡ (x ∷ run) ∷ runs)

head-by : (b : Bool) (x next : Placed) (run : List Placed) (runs : List (List Placed)) → BeginsWith x (cond b ((x ∷ next ∷ run) ∷ runs) ((x ∷ []) ∷ (next ∷ run) ∷ runs))
head-by true x next run runs = (next ∷ run, runs, refl)
head-by false x next run runs = ([], (next ∷ run) ∷ runs, refl)

head-with : (view : EventView) (x : Placed) (all : List (List Placed)) → BeginsWith x (with_item view x all)
head-with view x [] = ([], [], refl)
head-with view x ([] ∷ runs) = ([], runs, refl)
head-with view x ((next ∷ run) ∷ runs) = head-by (are_joined view x next) x next run runs

-- The first item isn't joined to the second one.
apart-front : (view : EventView) (x y : Placed) (run : List Placed) (runs all : List (List Placed)) → all ≡ (y ∷ run) ∷ runs → are_joined view x y ≡ false
    → with_item view x all ≡ (x ∷ []) ∷ all
apart-front view x y run runs all e h =
    ap (with_item view x) e ∙ ap (λ b. cond b ((x ∷ y ∷ run) ∷ runs) ((x ∷ []) ∷ (y ∷ run) ∷ runs)) h ∙ ap (λ r. (x ∷ []) ∷ r) (sym e)

-- It is.
joined-front : (view : EventView) (x y : Placed) (run : List Placed) (runs all : List (List Placed)) → all ≡ (y ∷ run) ∷ runs → are_joined view x y ≡ true
    → with_item view x all ≡ (x ∷ y ∷ run) ∷ runs
joined-front view x y run runs all e h = ap (with_item view x) e ∙ ap (λ b. cond b ((x ∷ y ∷ run) ∷ runs) ((x ∷ []) ∷ (y ∷ run) ∷ runs)) h

-- As many items as are joined, one to the next, and no more, are the first run.
pub runs-front : (view : EventView) (n : ℕ) (items : List Placed) (d : Placed) → suc n ≤ length items
    → ((k : ℕ) → k < n → are_joined view (get_or items k d) (get_or items (suc k) d) ≡ true)
    → (suc n < length items → are_joined view (get_or items n d) (get_or items (suc n) d) ≡ false)
    → runs_of view items ≡ take (suc n) items ∷ runs_of view (drop (suc n) items)
runs-front view n [] d within joined apart = absurd (omega arith)
runs-front view zero (x ∷ []) d within joined apart = refl
runs-front view zero (x ∷ y ∷ ys) d within joined apart =
    let h = head-with view y (runs_of view ys) in
    apart-front view x y h.0 h.1 (runs_of view (y ∷ ys)) h.2 (apart (omega arith))
runs-front view (suc n) (x ∷ []) d within joined apart = absurd (omega arith)
runs-front view (suc n) (x ∷ y ∷ ys) d within joined apart =
    joined-front view x y (take n ys) (runs_of view (drop n ys)) (runs_of view (y ∷ ys))
    (runs-front view n (y ∷ ys) d (omega arith) (λ k h. joined (suc k) (omega arith)) (λ h. apart (omega arith)))
    (joined zero (omega arith))

pub runs_front_at : (view : EventView) (count : ℕ) (items : List Placed) (d : Placed) → 0 < count → count ≤ length items
    → ((k : ℕ) (d : Placed) → k + 1 < count → are_joined view (get_or items k d) (get_or items (k + 1) d) ≡ true)
    → (count < length items → are_joined view (get_or items (count - 1) d) (get_or items count d) ≡ false)
    → runs_of view items ≡ take count items ∷ runs_of view (drop count items)
runs_front_at view zero items d some most joined apart = absurd (omega arith)
runs_front_at view (suc n) items d some most joined apart =
    runs-front view n items d (omega arith)
    (λ k h. let e : k + 1 ≡ suc k = omega arith in rw e at (joined k d (omega arith)))
    (λ h. let e : suc n - 1 ≡ n = omega arith in rw e at (apart h))

-- One more item that is joined to the one before it.
pub joined_more : (view : EventView) (items : List Placed) (count : ℕ) (d : Placed) → 0 < count → count < length items
    → ((k : ℕ) (d : Placed) → k + 1 < count → are_joined view (get_or items k d) (get_or items (k + 1) d) ≡ true)
    → are_joined view (get_or items (count - 1) d) (get_or items count d) ≡ true
    → (k : ℕ) (d : Placed) → k + 1 < count + 1 → are_joined view (get_or items k d) (get_or items (k + 1) d) ≡ true
joined_more view items count d some within joined here k e h =
    elim (cases_lt (k + 1) count) [
      | inl l ↦ joined k e l
      | inr l ↦
          let last : k ≡ count - 1 = omega arith in
          let next : k + 1 ≡ count = omega arith in
          rw (next, last, get_or_default items (count - 1) e d (omega arith), get_or_default items count e d within) here
    ]

-- what stands where there is no item
abbrev pub no_placed : Placed
no_placed = record { item = 0; line = 0; x = pos 0; advance = pos 0 }

-- ---- sweeps

-- Where a syllable isn't swept its ends don't count.
sung-same : (fade : ℕ) (elapsed : ℤ) (state : State) (left right other last : ℤ) (sung : Option Syllable) → is_swept_now elapsed sung ≡ false
    → sung_paint fade elapsed state left right sung ≡ sung_paint fade elapsed state other last sung
sung-same fade elapsed state left right other last None h = refl
sung-same fade elapsed state left right other last (Some s) h =
    ap (λ b. cond b (swept_paint fade elapsed state left right s) (plain_paint (primary fade state))) h
    ∙ sym (ap (λ b. cond b (swept_paint fade elapsed state other last s) (plain_paint (primary fade state))) h)

pub unswept_same : (fade : ℕ) (elapsed : ℤ) (state : State) (left right other last : ℤ) → is_swept_now elapsed state.sung ≡ false
    → fill_paint fade elapsed state left right ≡ fill_paint fade elapsed state other last
unswept_same fade elapsed state left right other last h =
    ap (λ p. cond (is_awaited elapsed state.sung) (plain_paint (secondary fade state)) p) (sung-same fade elapsed state left right other last state.sung h)

-- the first element that a filter keeps
pub first_kept : {X : Type 0} (p : X → Bool) (xs : List X) (k : ℕ) (d : X) → k < length xs → filter p (take k xs) ≡ [] → p (get_or xs k d) ≡ true
    → slice_get (filter p xs) 0 ≡ Some (get_or xs k d)
first_kept p xs k d within none here =
    ap (λ z. slice_get z 0)
    (ap (filter p) (sym (take-append-drop k xs)) ∙ filter-append p (take k xs) (drop k xs)
    ∙ ap₂ (λ a b. a ++ filter p b) none (drop_more xs k d within)
    ∙ ap (λ b. cond b (get_or xs k d ∷ filter p (drop (k + 1) xs)) (filter p (drop (k + 1) xs))) here)

-- One more element that is kept, or not.
pub none_more : {X : Type 0} (p : X → Bool) (xs : List X) (k : ℕ) (d : X) → k < length xs → filter p (take k xs) ≡ [] → p (get_or xs k d) ≡ false → filter p (take (k + 1) xs) ≡ []
none_more p xs k d within none here =
    filter_more p xs k d within ∙ ap₂ (λ a b. a ++ cond b (get_or xs k d ∷ []) []) none here

right-by : (stage : Stage) (kept : List Placed) (x : Placed) (b : Bool) → right_end stage (kept ++ cond b (x ∷ []) []) ≡ cond b (right_of stage x) (right_end stage kept)
right-by stage kept x true =
    ap (λ o. option_map_or (right_of stage) o (pos 0))
    (slice_get-get_or (kept ++ x ∷ []) (length (kept ++ x ∷ []) - 1) x (omega (arith, length_push kept x))
    ∙ ap Some (get_or_push kept x x (length (kept ++ x ∷ []) - 1) (omega (arith, length_push kept x))))
right-by stage kept x false = ap (right_end stage) (append-nil kept)

pub right_more : (stage : Stage) (p : Placed → Bool) (xs : List Placed) (k : ℕ) (d : Placed) → k < length xs
    → right_end stage (filter p (take (k + 1) xs)) ≡ cond (p (get_or xs k d)) (right_of stage (get_or xs k d)) (right_end stage (filter p (take k xs)))
right_more stage p xs k d within = ap (right_end stage) (filter_more p xs k d within) ∙ right-by stage (filter p (take k xs)) (get_or xs k d) (p (get_or xs k d))
