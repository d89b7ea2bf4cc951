-- A list of stands has one list of least shifts: each shift is told by those before it.
use Rattle.std.proofs.Common.{◌≡◌, ℕ, zero, suc, ℤ, pos, ◌+◌, ◌<◌, ◌≤◌, List, [], ◌∷◌, ◌++◌, length, get_or, take, refl, sym, ap, ◌∙◌, arith}
use Rattle.std.proofs.lemmas.List.{get_or_default, take_more, take_all}
use Rattle.event_places.specs.declared.stands.Stand.{Stand}
use Rattle.event_places.specs.Placement.{placed_stands, places_after, IsLeastShift, AreLeastShifts}
use Rattle.event_places.proofs.ShiftLemmas.{one_least}
use Rattle.event_places.proofs.ReplayLemmas.{no_stand}

one_front : (stands : List Stand) (xs ys : List ℤ) → AreLeastShifts stands xs → AreLeastShifts stands ys → (k : ℕ) → k ≤ length stands → take k xs ≡ take k ys
one_front stands xs ys h g zero l = refl
one_front stands xs ys h g (suc k) l =
    let s = get_or stands k no_stand in
    let within : k < length stands = omega arith in
    let is : s ≡ get_or stands k s = get_or_default stands k no_stand s within in
    let front : take k xs ≡ take k ys = one_front stands xs ys h g k (omega arith) in
    let here : IsLeastShift s.place (places_after s.start (placed_stands (take k stands) (take k ys))) s.down (get_or xs k (pos 0)) = rw front at (h.least k s within is) in
    let same : get_or xs k (pos 0) ≡ get_or ys k (pos 0) = one_least s.place (places_after s.start (placed_stands (take k stands) (take k ys))) s.down _ _ here (g.least k s within is) in
    let n : suc k ≡ k + 1 = omega arith in
    ap (λ i. take i xs) n ∙ take_more xs k (pos 0) (omega (arith, h.each))
    ∙ ap (λ zs. zs ++ get_or xs k (pos 0) ∷ []) front ∙ ap (λ z. take k ys ++ z ∷ []) same
    ∙ sym (take_more ys k (pos 0) (omega (arith, g.each))) ∙ sym (ap (λ i. take i ys) n)

pub one_list : (stands : List Stand) (xs ys : List ℤ) → AreLeastShifts stands xs → AreLeastShifts stands ys → xs ≡ ys
one_list stands xs ys h g =
    sym (take_all (length stands) xs (omega (arith, h.each))) ∙ one_front stands xs ys h g (length stands) (omega arith) ∙ take_all (length stands) ys (omega (arith, g.each))
