-- What joined passes add to a history.
use Rattle.std.proofs.Common.{◌≡◌, ℕ, ◌+◌, ◌-◌, ◌<◌, ◌≤◌, List, [], ◌∷◌, ◌++◌, length, map, refl, sym, ap, subst, ◌∙◌, arith, length-append, ◌⊎◌, ⊎_elim, inl, inr, lt_of_not-le}
use Rattle.std.specs.List.{All, Contains}
use Rattle.std.proofs.lemmas.List.{map-append}
use Rattle.std.proofs.lemmas.List.Elements.{All-nil, All-cons, All-head, All-tail, All-weaker, All-contains, Contains-append_left, Contains-append_right, Contains-append_cases}
use mathlib.Core.Logic.{dite}
use native.Mathlib.Decide.{ℕ_discrete, dec_le}
use Rattle.turn_cell.specs.History.{History, Past, IsPrefix, IsBelow, entries_of, numbers_of}
use Rattle.turn_cell.specs.Passes.{Extends, IsWholePass, PassView, joined_pass, mine}
use Rattle.turn_cell.proofs.Histories.{IsPrefix_trans, entries_of-append, entries_of_below}
use Rattle.play_model.specs.Interleavings.{IsInterleaving, all_entries}
use Rattle.play_model.specs.Joining.{ArePassesJoined}
use Rattle.play_model.proofs.Labels.{All_labels, all_entries-moved, entries_of-moved, IsBelow-moved, moved}

module _ {X : Type 0} where
  pub nil_of : (xs : List X) → length xs ≡ 0 → xs ≡ []
  nil_of [] e = refl
  nil_of (x ∷ xs) e = absurd (omega arith)

  pub append_cancel : (xs ys : List X) → xs ++ ys ≡ xs → ys ≡ []
  append_cancel xs ys e = nil_of ys (let n : length xs + length ys ≡ length xs = sym (length-append xs ys) ∙ ap length e in omega arith)

  append_nothing : (xs ys : List X) → xs ++ ys ≡ [] → ys ≡ []
  append_nothing xs ys e = nil_of ys (let n : length xs + length ys ≡ 0 = sym (length-append xs ys) ∙ ap length e in omega arith)

  nothing_append : (xs ys zs : List X) → xs ≡ [] → xs ++ ys ≡ zs → ys ≡ zs
  nothing_append xs ys zs none e = subst (λ (z : List X). z ++ ys ≡ zs) none e

  pub Contains_here : (x : X) (xs : List X) → Contains (x ∷ xs) x
  Contains_here x xs = (0, omega arith, refl)

  pub Contains_cons_cases : (x : X) (xs : List X) (y : X) → Contains (x ∷ xs) y → (x ≡ y) ⊎ Contains xs y
  Contains_cons_cases x xs y there = ⊎_elim (λ h. inl (All-contains (λ z. x ≡ z) (x ∷ []) y (All-cons (λ z. x ≡ z) x [] refl (All-nil (λ z. x ≡ z))) h)) (λ h. inr h) (Contains-append_cases (x ∷ []) xs y there)

  pub not_in_nil : (x : X) → Contains [] x → ⊥
  not_in_nil x there = let lt = there.1 in absurd (omega arith)

module _ {X Y : Type 0} where
  all_in_map : (f : X → Y) (xs : List X) → All (λ x. Contains (map f xs) (f x)) xs
  all_in_map f [] = All-nil (λ x. Contains [] (f x))
  all_in_map f (x ∷ xs) = All-cons (λ z. Contains (f x ∷ map f xs) (f z)) x xs (Contains_here (f x) (map f xs))
      (All-weaker (λ z. Contains (map f xs) (f z)) (λ z. Contains (f x ∷ map f xs) (f z)) (λ z there. Contains-append_right (f x ∷ []) (map f xs) (f z) there) xs (all_in_map f xs))

  pub Contains_map : (f : X → Y) (xs : List X) (x : X) → Contains xs x → Contains (map f xs) (f x)
  Contains_map f xs x there = All-contains (λ z. Contains (map f xs) (f z)) xs x (all_in_map f xs) there

  pub All_unmap : (Q : Y → Type 0) (f : X → Y) (xs : List X) → All Q (map f xs) → All (λ x. Q (f x)) xs
  All_unmap Q f [] all = All-nil (λ x. Q (f x))
  All_unmap Q f (x ∷ xs) all = All-cons (λ x. Q (f x)) x xs (All-head Q (f x) (map f xs) all) (All_unmap Q f xs (All-tail Q (f x) (map f xs) all))

module _ {E : Type 0} where
  -- the pair of a number
  pair_of : (past : Past E) (m : ℕ) → Contains (numbers_of past) m → (pair : ℕ × List E) × Contains past pair × (pair.0 ≡ m)
  pair_of [] m there = absurd (not_in_nil m there)
  pair_of (pair ∷ past) m there = ⊎_elim (λ is. (pair, Contains_here pair past, is))
      (λ h. let t = pair_of past m h in (t.0, Contains-append_right (pair ∷ []) past t.0 t.1, t.2)) (Contains_cons_cases pair.0 (numbers_of past) m there)

-- Where the first pass took in all passes of a round, what is new in the history is an interleaving of what they gave, and the pass is whole again
pub joined_round : {E T : Type 0} (first after : PassView E T) (count : ℕ) (passes : ℕ → PassView E T) → first.number ≡ 0 → Extends first first.seen → IsWholePass first
    → ArePassesJoined (record first { next = first.next + count }) count passes after → ((i : ℕ) → i < count → (passes i).number ≡ first.next + i)
    → (rest : List E) × (all_entries first.seen ++ rest ≡ all_entries after.seen) × IsInterleaving count (λ i. mine (passes i)) rest × IsWholePass after
joined_round {E = E} {T = T} first after count passes zeroth ex whole joined numbers =
    let n : ℕ = first.next in
    let rest : History E = joined.begins.0 in
    let zeroth' : after.number ≡ 0 = joined.number ∙ zeroth in
    let parts : (m : ℕ) → entries_of m first.seen ++ entries_of m rest ≡ entries_of m after.seen = λ m. sym (entries_of-append m first.seen rest) ∙ ap (entries_of m) joined.begins.1 in
    let kept : All (λ pair. entries_of pair.0 after.seen ≡ pair.1) after.past = joined.itself.joined zeroth' in
    let known : All (λ pair. entries_of pair.0 first.seen ≡ pair.1) first.past = ex.joined zeroth in
    let old : (m : ℕ) → m < n → entries_of m rest ≡ [] = λ m lt. dite (ℕ_discrete m 0)
    (λ is. let own : entries_of 0 after.seen ≡ entries_of 0 first.seen = subst (λ (z : ℕ × ℕ). entries_of z.0 after.seen ≡ entries_of z.1 first.seen) (λ i. (zeroth' i, zeroth i)) joined.mine_is in
    subst (λ (z : ℕ). entries_of z rest ≡ []) (sym is) (append_cancel (entries_of 0 first.seen) (entries_of 0 rest) (parts 0 ∙ own)))
    (λ ne. let pair = pair_of first.past m (whole m (omega arith) lt) in
    let before : entries_of pair.0.0 first.seen ≡ pair.0.1 = All-contains (λ (p : ℕ × List E). entries_of p.0 first.seen ≡ p.1) first.past pair.0 known pair.1 in
    let now : entries_of pair.0.0 after.seen ≡ pair.0.1 = All-contains (λ (p : ℕ × List E). entries_of p.0 after.seen ≡ p.1) after.past pair.0 kept (joined.past pair.0 pair.1) in
    subst (λ (z : ℕ). entries_of z rest ≡ []) pair.2 (append_cancel (entries_of pair.0.0 first.seen) (entries_of pair.0.0 rest) (parts pair.0.0 ∙ (now ∙ sym before)))) in
    let new : (i : ℕ) → i < count → entries_of (n + i) rest ≡ mine (passes i) = λ i lt.
    nothing_append (entries_of (n + i) first.seen) (entries_of (n + i) rest) (mine (passes i)) (entries_of_below n (n + i) first.seen (ex.below zeroth) (omega arith))
    (parts (n + i) ∙ subst (λ (z : ℕ). entries_of z after.seen ≡ mine (passes i)) (numbers i lt)
    (All-contains (λ (p : ℕ × List E). entries_of p.0 after.seen ≡ p.1) after.past ((passes i).number, mine (passes i)) kept (joined.joined i lt))) in
    let high : IsBelow after.next after.seen = joined.itself.below zeroth' in
    let next : after.next ≡ n + count = joined.next in
    let low : All (λ pair. n ≤ pair.0) rest = All_labels (λ (m : ℕ). n ≤ m) rest (λ m some. dite (dec_le n m) (λ le. le) (λ no. absurd (some (old m (lt_of_not-le no))))) in
    let below : All (λ pair. pair.0 < n + count) rest = All_labels (λ (m : ℕ). m < n + count) rest (λ m some. dite (dec_le (n + count) m)
    (λ le. absurd (some (append_nothing (entries_of m first.seen) (entries_of m rest) (parts m ∙ entries_of_below after.next m after.seen high (omega arith)))))
    (λ no. lt_of_not-le no)) in
    let listed : (pair : ℕ × List E) → Contains after.past pair → Contains (numbers_of after.past) pair.0 = λ pair there. Contains_map (λ (p : ℕ × List E). p.0) after.past pair there in (
      all_entries rest,
      sym (map-append (λ (pair : ℕ × E). pair.1) first.seen rest) ∙ ap all_entries joined.begins.1,
      record {
        labelled = moved n rest;
        all = all_entries-moved n rest;
        below = IsBelow-moved n count rest low below;
        each = λ i lt. entries_of-moved n i rest low ∙ new i lt;
      },
      (λ m least lt. dite (dec_le n m)
          (λ le. let i : ℕ = m - n in let number : (passes i).number ≡ m = numbers i (omega arith) ∙ omega arith in
          subst (Contains (numbers_of after.past)) number (listed ((passes i).number, mine (passes i)) (joined.joined i (omega arith))))
          (λ no. let pair = pair_of first.past m (whole m least (lt_of_not-le no)) in subst (Contains (numbers_of after.past)) pair.2 (listed pair.0 (joined.past pair.0 pair.1)))),
    )

-- One pass more that was joined.
pub joined_step : {E T : Type 0} (before mid other after : PassView E T) (count : ℕ) (passes : ℕ → PassView E T)
    → ArePassesJoined before count passes mid → passes count ≡ other → after ≡ joined_pass mid other → IsPrefix mid.seen after.seen → IsPrefix other.seen after.seen
    → mine after ≡ mine mid → Extends after after.seen → ArePassesJoined before (count + 1) passes after
joined_step {E = E} {T = T} before mid other after count passes so_far named is begins begins_other own itself =
    let kept : (pair : ℕ × List E) → Contains mid.past pair → Contains after.past pair = λ pair there.
    subst (λ (p : PassView E T). Contains p.past pair) (sym is) (Contains-append_left mid.past ((other.number, mine other) ∷ []) pair there) in
    let last : Contains after.past (other.number, mine other) =
    subst (λ (p : PassView E T). Contains p.past (other.number, mine other)) (sym is) (Contains-append_right mid.past ((other.number, mine other) ∷ []) (other.number, mine other) (Contains_here (other.number, mine other) [])) in
    record {
      cell = ap (λ (p : PassView E T). p.cell) is ∙ so_far.cell;
      tag = ap (λ (p : PassView E T). p.tag) is ∙ so_far.tag;
      number = ap (λ (p : PassView E T). p.number) is ∙ so_far.number;
      next = ap (λ (p : PassView E T). p.next) is ∙ so_far.next;
      begins = IsPrefix_trans before.seen mid.seen after.seen so_far.begins begins;
      mine_is = own ∙ so_far.mine_is;
      past = λ pair there. kept pair (so_far.past pair there);
      joined = λ i lt. dite (ℕ_discrete i count)
          (λ here. subst (λ (p : PassView E T). Contains after.past (p.number, mine p)) (sym (ap passes here ∙ named)) last)
          (λ ne. kept ((passes i).number, mine (passes i)) (so_far.joined i (omega arith)));
      seen = λ i lt. dite (ℕ_discrete i count)
          (λ here. subst (λ (p : PassView E T). IsPrefix p.seen after.seen) (sym (ap passes here ∙ named)) begins_other)
          (λ ne. IsPrefix_trans (passes i).seen mid.seen after.seen (so_far.seen i (omega arith)) begins);
      itself = itself;
    }
