-- A walk from the last span to the first finds just what matters.
use Rattle.std.proofs.Common.{◌≡◌, ℕ, ◌+◌, ◌-◌, ◌<◌, ◌≤◌, length, drop, get_or, ℤ, ◌<ℤ◌, ◌≤ℤ◌, Bool, true, false, cond, List, [], ◌∷◌, ◌++◌, refl, sym, ap, subst, ◌∙◌, arith, ◌⊎◌, ⊎_elim, inl, inr}
use Rattle.std.specs.Ordering.{int_eq}
use Rattle.std.specs.List.{All, Contains}
use Rattle.std.proofs.lemmas.Int.{ints}
use Rattle.std.proofs.lemmas.Bool.{cases_Bool}
use Rattle.std.proofs.lemmas.List.{drop_all, drop_more}
use Rattle.std.proofs.lemmas.List.Elements.{All-head, All-tail, All-contains, Contains-append_left, Contains-push, Contains-push_cases}
use Rattle.ass_events.specs.Histories.{Pairwise}
use Rattle.ass_events.specs.NearEvents.{IsShownAt, IsEarlier, ComesBefore, IsNear, Shown, Chained}
use Rattle.near_events.specs.declared.spans.EventSpan.{EventSpan}
use Rattle.near_events.specs.Spans.{StandsBefore, span_at}
use Rattle.near_events.specs.Walks.{WalkValue, all_walked, first_walk, bound_of, walk_takes, stepped, walked_spans}
use Rattle.near_events.proofs.Pairs.{Contains-nil, Contains-head, Contains-tail, Contains-cons_cases}
use Rattle.near_events.proofs.Orders.{not_both_earlier, earlier_start, layer_le, before_in_layer}

-- ---- one step
abbrev pub noted : WalkValue → EventSpan → WalkValue
noted w x = record { found = w.found ++ x ∷ []; layer = x.layer; least = x.start }

pub step_taken : (t : ℤ) (w : WalkValue) (x : EventSpan) → walk_takes t w x ≡ true → stepped t w x ≡ noted w x
step_taken t w x e = ap (λ (b : Bool). cond b (noted w x) w) e

pub step_left : (t : ℤ) (w : WalkValue) (x : EventSpan) → walk_takes t w x ≡ false → stepped t w x ≡ w
step_left t w x e = ap (λ (b : Bool). cond b (noted w x) w) e

-- a fact of the walk after a step, by whether the span was taken
pub step_cases : (P : WalkValue → Type 0) (t : ℤ) (w : WalkValue) (x : EventSpan) → (walk_takes t w x ≡ true → P (noted w x)) → (walk_takes t w x ≡ false → P w) → P (stepped t w x)
step_cases P t w x taken left =
    ⊎_elim (λ e. subst P (sym (step_taken t w x e)) (taken e)) (λ e. subst P (sym (step_left t w x e)) (left e)) (cases_Bool (walk_takes t w x))

taken_start : (t : ℤ) (w : WalkValue) (x : EventSpan) → walk_takes t w x ≡ true → x.start ≤ℤ t
taken_start t w x e = grind (arith, ints)

taken_end : (t : ℤ) (w : WalkValue) (x : EventSpan) → walk_takes t w x ≡ true → bound_of t w x.layer <ℤ x.end
taken_end t w x e = let b : ℤ = bound_of t w x.layer in grind (arith, ints)

takes_it : (t : ℤ) (w : WalkValue) (x : EventSpan) → x.start ≤ℤ t → bound_of t w x.layer <ℤ x.end → walk_takes t w x ≡ true
takes_it t w x a b = grind (arith, ints)

-- the bound is that of the layer found last, or t
bound_same : (t : ℤ) (w : WalkValue) (layer : ℤ) → layer ≡ w.layer → bound_of t w layer ≡ w.least
bound_same t w layer e = let test : int_eq layer w.layer ≡ true = grind (arith, ints) in ap (λ (b : Bool). cond b w.least t) test

bound_cases : (t : ℤ) (w : WalkValue) (layer : ℤ) → ((layer ≡ w.layer) × (bound_of t w layer ≡ w.least)) ⊎ (bound_of t w layer ≡ t)
bound_cases t w layer =
    ⊎_elim (λ e. let same : layer ≡ w.layer = grind (arith, ints) in inl (same, bound_same t w layer same))
    (λ e. inr (ap (λ (b : Bool). cond b w.least t) e)) (cases_Bool (int_eq layer w.layer))

-- ---- the whole walk
pub walked-append : (t : ℤ) (w : WalkValue) (xs ys : List EventSpan) → walked_spans t w (xs ++ ys) ≡ walked_spans t (walked_spans t w ys) xs
walked-append t w [] ys = refl
walked-append t w (x ∷ xs) ys = ap (λ v. stepped t v x) (walked-append t w xs ys)

pub least_low : (t : ℤ) (w : WalkValue) (xs : List EventSpan) → w.least ≤ℤ t → (walked_spans t w xs).least ≤ℤ t
least_low t w [] low = low
least_low t w (x ∷ xs) low = step_cases (λ v. v.least ≤ℤ t) t (walked_spans t w xs) x (λ e. taken_start t (walked_spans t w xs) x e) (λ e. least_low t w xs low)

-- what is found is there, and doesn't begin later
abbrev pub IsThere : ℤ → List EventSpan → EventSpan → Type 0
IsThere t xs s = Contains xs s × (s.start ≤ℤ t)

pub found_there : (t : ℤ) (xs : List EventSpan) (s : EventSpan) → Contains (all_walked t xs).found s → IsThere t xs s
found_there t [] s = λ h. absurd (Contains-nil s h)
found_there t (x ∷ xs) s = let w = all_walked t xs in
    let before : Contains w.found s → IsThere t (x ∷ xs) s = λ h. let there = found_there t xs s h in (Contains-tail x xs s there.0, there.1) in
    step_cases (λ v. Contains v.found s → IsThere t (x ∷ xs) s) t w x
    (λ e h. ⊎_elim before (λ is. subst (IsThere t (x ∷ xs)) is (Contains-head x xs, taken_start t w x e)) (Contains-push_cases w.found x s h))
    (λ e h. before h)

found_grows : (t : ℤ) (w : WalkValue) (x s : EventSpan) → Contains w.found s → Contains (stepped t w x).found s
found_grows t w x s h = step_cases (λ v. Contains v.found s) t w x (λ e. Contains-append_left w.found (x ∷ []) s h) (λ e. h)

-- the bound of a walk is t, or the start of a span that was found, in its layer
abbrev IsNoted : ℤ → WalkValue → Type 0
IsNoted t w = (w.least ≡ t) ⊎ ((g : EventSpan) × Contains w.found g × (g.layer ≡ w.layer) × (g.start ≡ w.least))

noted_bound : (t : ℤ) (xs : List EventSpan) → IsNoted t (all_walked t xs)
noted_bound t [] = inl refl
noted_bound t (x ∷ xs) = step_cases (IsNoted t) t (all_walked t xs) x (λ e. inr (x, Contains-push (all_walked t xs).found x, refl, refl)) (λ e. noted_bound t xs)

-- ---- what is found matters
abbrev pub NearIn : List EventSpan → ℤ → EventSpan → Type 0
NearIn all t s = IsNear span_at all t s

near_taken : (t : ℤ) (all xs : List EventSpan) (x : EventSpan) → Contains all x → All (StandsBefore x) xs → ((g : EventSpan) → Contains (all_walked t xs).found g → NearIn all t g)
    → walk_takes t (all_walked t xs) x ≡ true → NearIn all t x
near_taken t all xs x there before near e =
    let w = all_walked t xs in
    let start = taken_start t w x e in
    let above = taken_end t w x e in
    let shown : bound_of t w x.layer ≡ t → NearIn all t x = λ is. Shown there (start, omega (arith, ints, is, above)) in
    ⊎_elim
    (λ same. ⊎_elim (λ is. shown (same.1 ∙ is))
    (λ g. let found = g.1 in let in_layer : x.layer ≡ (g.0).layer = same.0 ∙ sym g.2 in
    let earlier = before_in_layer x g.0 in_layer (All-contains (StandsBefore x) xs g.0 before (found_there t xs g.0 found).0) in
    Chained (near g.0 found) there (in_layer, earlier) (omega (arith, ints, same.1, g.3, above)))
    (noted_bound t xs))
    shown (bound_cases t w x.layer)

pub near_found : (t : ℤ) (all xs : List EventSpan) → Pairwise StandsBefore xs → ((s : EventSpan) → Contains xs s → Contains all s)
    → (s : EventSpan) → Contains (all_walked t xs).found s → NearIn all t s
near_found t all [] sorted within s = λ h. absurd (Contains-nil s h)
near_found t all (x ∷ xs) sorted within s =
    let w = all_walked t xs in
    let before : (g : EventSpan) → Contains w.found g → NearIn all t g = near_found t all xs sorted.1 (λ y c. within y (Contains-tail x xs y c)) in
    step_cases (λ v. Contains v.found s → NearIn all t s) t w x
    (λ e h. ⊎_elim (before s) (λ is. subst (NearIn all t) is (near_taken t all xs x (within x (Contains-head x xs)) sorted.0 before e)) (Contains-push_cases w.found x s h))
    (λ e h. before s h)

-- ---- what matters is found
bound_low : (t : ℤ) (xs : List EventSpan) (layer : ℤ) → bound_of t (all_walked t xs) layer ≤ℤ t
bound_low t xs layer =
    let low = least_low t (first_walk t) xs (omega (arith, ints)) in
    ⊎_elim (λ same. omega (arith, ints, same.1, low)) (λ is. omega (arith, ints, is)) (bound_cases t (all_walked t xs) layer)

taken_now : (t : ℤ) (xs : List EventSpan) (x : EventSpan) → walk_takes t (all_walked t xs) x ≡ true → Contains (all_walked t (x ∷ xs)).found x
taken_now t xs x e = subst (λ v. Contains v.found x) (sym (step_taken t (all_walked t xs) x e)) (Contains-push (all_walked t xs).found x)

found_shown : (t : ℤ) (xs : List EventSpan) (s : EventSpan) → Contains xs s → IsShownAt (span_at s) t → Contains (all_walked t xs).found s
found_shown t [] s there shown = absurd (Contains-nil s there)
found_shown t (x ∷ xs) s there shown =
    ⊎_elim
    (λ is. let low = bound_low t xs s.layer in let over = shown.1 in
    let take : walk_takes t (all_walked t xs) s ≡ true = takes_it t (all_walked t xs) s shown.0 (omega (arith, ints, low, over)) in
    subst (λ y. Contains (all_walked t (x ∷ xs)).found y) is (taken_now t xs x (subst (λ y. walk_takes t (all_walked t xs) y ≡ true) (sym is) take)))
    (λ later. found_grows t (all_walked t xs) x s (found_shown t xs s later shown))
    (Contains-cons_cases x xs s there)

-- where something was found, the span found last is it or stands before it
abbrev LastBefore : WalkValue → EventSpan → Type 0
LastBefore w e = (g : EventSpan) × Contains w.found g × (g.layer ≡ w.layer) × (g.start ≡ w.least) × ((g ≡ e) ⊎ StandsBefore g e)

last_before : (t : ℤ) (xs : List EventSpan) → Pairwise StandsBefore xs → (e : EventSpan) → Contains (all_walked t xs).found e → LastBefore (all_walked t xs) e
last_before t [] sorted e = λ h. absurd (Contains-nil e h)
last_before t (x ∷ xs) sorted e =
    let w = all_walked t xs in
    step_cases (λ v. Contains v.found e → LastBefore v e) t w x
    (λ taken h. (
      x,
      Contains-push w.found x,
      refl,
      refl,
      ⊎_elim (λ before. inr (All-contains (StandsBefore x) xs e sorted.0 (found_there t xs e before).0)) (λ is. inl is) (Contains-push_cases w.found x e h),
    ))
    (λ left h. last_before t xs sorted.1 e h)

-- in the layer of e, the bound isn't above e's start, where x stands before all
bound_chained : (t : ℤ) (xs : List EventSpan) (x e : EventSpan) → Pairwise StandsBefore xs → All (StandsBefore x) xs → x.layer ≡ e.layer → Contains (all_walked t xs).found e
    → bound_of t (all_walked t xs) x.layer ≤ℤ e.start
bound_chained t xs x e sorted before same h =
    let w = all_walked t xs in
    let last = last_before t xs sorted e h in
    let g = last.0 in
    let above = layer_le x g (All-contains (StandsBefore x) xs g before (found_there t xs g last.1).0) in
    let below : g.layer ≤ℤ e.layer = ⊎_elim (λ is. let l = ap (λ (s : EventSpan). s.layer) is in omega (arith, ints, l)) (λ b. layer_le g e b) last.4 in
    let in_layer : g.layer ≡ e.layer = omega (arith, ints, above, below, same) in
    let start : g.start ≤ℤ e.start = ⊎_elim (λ is. let l = ap (λ (s : EventSpan). s.start) is in omega (arith, ints, l)) (λ b. earlier_start (span_at g) (span_at e) (before_in_layer g e in_layer b)) last.4 in
    let bound : bound_of t w x.layer ≡ w.least = bound_same t w x.layer (same ∙ (sym in_layer ∙ last.2)) in
    omega (arith, ints, bound, last.3, start)

found_chained : (t : ℤ) (xs : List EventSpan) → Pairwise StandsBefore xs → (e f : EventSpan) → Contains (all_walked t xs).found e → Contains xs f → ComesBefore (span_at f) (span_at e)
    → e.start <ℤ f.end → Contains (all_walked t xs).found f
found_chained t [] sorted e f h there before over = absurd (Contains-nil e h)
found_chained t (x ∷ xs) sorted e f h there before over =
    let w = all_walked t xs in
    let there_e = found_there t (x ∷ xs) e h in
    let first : (x ≡ f) → Contains w.found e → Contains (all_walked t (x ∷ xs)).found f = λ is later.
    let layer : x.layer ≡ e.layer = ap (λ (s : EventSpan). s.layer) is ∙ before.0 in
    let start = earlier_start (span_at f) (span_at e) before.1 in
    let low = bound_chained t xs x e sorted.1 sorted.0 layer later in
    let begins = ap (λ (s : EventSpan). s.start) is in
    let ends = ap (λ (s : EventSpan). s.end) is in
    let last = there_e.1 in
    subst (λ y. Contains (all_walked t (x ∷ xs)).found y) is
    (taken_now t xs x (takes_it t w x (omega (arith, ints, start, last, begins)) (omega (arith, ints, low, over, ends)))) in
    let step : Contains w.found e → Contains (all_walked t (x ∷ xs)).found f = λ later.
    ⊎_elim (λ is. first is later) (λ c. found_grows t w x f (found_chained t xs sorted.1 e f later c before over)) (Contains-cons_cases x xs f there) in
    -- e isn't the first span, since f comes before it
    let not_first : x ≡ e → Contains xs f → ⊥ = λ is c.
    not_both_earlier (span_at f) (span_at e) before.1
    (before_in_layer e f (sym before.0) (subst (λ y. StandsBefore y f) is (All-contains (StandsBefore x) xs f sorted.0 c))) in
    let itself : x ≡ e → Contains (all_walked t (x ∷ xs)).found f = λ is.
    ⊎_elim (λ same. absurd (let b = before.1 in let f_is_e : f ≡ e = sym same ∙ is in not_both_earlier (span_at f) (span_at e) b (subst (λ y. IsEarlier (span_at e) (span_at y)) (sym f_is_e) (subst (λ y. IsEarlier (span_at y) (span_at e)) f_is_e b))))
    (λ c. absurd (not_first is c)) (Contains-cons_cases x xs f there) in
    step_cases (λ v. Contains v.found e → Contains (all_walked t (x ∷ xs)).found f) t w x
    (λ taken found. ⊎_elim step itself (Contains-push_cases w.found x e found))
    (λ left found. step found) h

pub found_near : (t : ℤ) (xs : List EventSpan) → Pairwise StandsBefore xs → (s : EventSpan) → NearIn xs t s → Contains (all_walked t xs).found s
found_near t xs sorted s (Shown there shown) = found_shown t xs s there shown
found_near t xs sorted s (Chained {e = e} near there before over) = found_chained t xs sorted e s (found_near t xs sorted e near) there before over

-- ---- a walk that has come down to a place
pub record IsWalked (t : ℤ) (w : WalkValue) (xs : List EventSpan) (rest : ℕ) (now : WalkValue) : Type 0 where
  pub within : rest ≤ length xs
  pub is : now ≡ walked_spans t w (drop rest xs)

pub walk_begun : (t : ℤ) (w : WalkValue) (xs : List EventSpan) (n : ℕ) → n ≡ length xs → IsWalked t w xs n w
walk_begun t w xs n is = record { within = omega (arith, is); is = sym (ap (walked_spans t w) (drop_all n xs (omega (arith, is)))) }

pub walk_more : (t : ℤ) (w : WalkValue) (xs : List EventSpan) (rest : ℕ) (now next : WalkValue) (s : EventSpan) → IsWalked t w xs rest now → 0 < rest → s ≡ get_or xs (rest - 1) s → next ≡ stepped t now s
    → IsWalked t w xs (rest - 1) next
walk_more t w xs rest now next s h some is step =
    let within = h.within in
    let back : (rest - 1) + 1 ≡ rest = omega (arith, some) in
    let cut : drop (rest - 1) xs ≡ s ∷ drop rest xs = drop_more xs (rest - 1) s (omega (arith, some, within)) ∙ (ap (λ z. z ∷ drop ((rest - 1) + 1) xs) (sym is) ∙ ap (λ n. s ∷ drop n xs) back) in
    record { within = omega (arith, within); is = step ∙ (ap (λ v. stepped t v s) h.is ∙ sym (ap (walked_spans t w) cut)) }

-- ---- what a walk can pass over
pub walked_ended : (t last : ℤ) (w : WalkValue) (xs : List EventSpan) → w.least ≤ℤ t → last ≤ℤ w.least → All (λ s. s.end ≤ℤ last) xs → walked_spans t w xs ≡ w
walked_ended t last w [] low ended all = refl
walked_ended t last w (x ∷ xs) low ended all =
    let rest = walked_ended t last w xs low ended (All-tail (λ s. s.end ≤ℤ last) x xs all) in
    let own = All-head (λ s. s.end ≤ℤ last) x xs all in
    let left : walk_takes t w x ≡ false = ⊎_elim (λ e. let over = taken_end t w x e in
    absurd (⊎_elim (λ same. omega (arith, ints, same.1, over, own, ended)) (λ is. omega (arith, ints, is, over, own, ended, low)) (bound_cases t w x.layer))) (λ e. e) (cases_Bool (walk_takes t w x)) in
    ap (λ v. stepped t v x) rest ∙ step_left t w x left

pub walked_late : (t first : ℤ) (w : WalkValue) (xs : List EventSpan) → t <ℤ first → All (λ s. first ≤ℤ s.start) xs → walked_spans t w xs ≡ w
walked_late t first w [] late all = refl
walked_late t first w (x ∷ xs) late all =
    let rest = walked_late t first w xs late (All-tail (λ s. first ≤ℤ s.start) x xs all) in
    let own = All-head (λ s. first ≤ℤ s.start) x xs all in
    let left : walk_takes t w x ≡ false = ⊎_elim (λ e. let start = taken_start t w x e in absurd (omega (arith, ints, start, own, late))) (λ e. e) (cases_Bool (walk_takes t w x)) in
    ap (λ v. stepped t v x) rest ∙ step_left t w x left
