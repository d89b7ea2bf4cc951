-- There always is a best set: the two ways of filling lines and the search for the limit, for numbers of any size.
use Rattle.std.proofs.Common.{◌≡◌, ℕ, zero, suc, ℤ, pos, ◌+◌, ◌-◌, ◌<◌, ◌≤◌, ◌+ℤ◌, ◌-ℤ◌, ◌<ℤ◌, ◌≤ℤ◌, Bool, true, false, List, [], ◌∷◌, ◌++◌, length, get_or, reverse, inl, inr, refl, ap, arith}
use Rattle.std.specs.Int.{int_max, int_min}
use Rattle.std.specs.Int.RustNames.{unsigned_abs}
use Rattle.std.proofs.lemmas.Bool.{cases_lt}
use Rattle.std.proofs.lemmas.Int.{ints, by_lt_z}
use Rattle.line_layout.specs.Breaks.{IsParagraph, pen, AreFilled, IsBest}
use Rattle.line_layout.specs.Filling.{line_start, line_end, word_width, IsWidestWord, IsOutermost, IsLeastLimit}
use Rattle.line_layout.proofs.TableLemmas.{Words, Words-more, Words-all}
use Rattle.line_layout.proofs.FillLemmas.{Filling, Filling-none, Filling-more, Filling-all, LineTo, filled-IsOutermost}
use Rattle.line_layout.proofs.BackLemmas.{Backing, Backing-none, Backing-more, Backing-all, LineFrom}
use Rattle.line_layout.proofs.LimitLemmas.{Halving, Halving-none, Halving-down, Halving-up, Halving-all}
use Rattle.line_layout.proofs.BestLemmas.{outermost-IsBest}

line-to-from : (ws : List ℤ) (s : List ℕ) (limit : ℤ) (first end d : ℕ) → end + d ≡ length s → first ≤ end → (first < end → (pen ws (line_end ws s end) -ℤ pen ws (line_start s first)) ≤ℤ limit) → (to : ℕ) × LineTo ws s limit first to
line-to-from ws s limit first end zero e l n = (end, record { onward = l; within = omega arith; narrow = n; last = λ m. absurd (omega arith) })
line-to-from ws s limit first end (suc d) e l n =
    by_lt_z limit (pen ws (line_end ws s (end + 1)) -ℤ pen ws (line_start s first))
    (λ h. (end, record { onward = l; within = omega arith; narrow = n; last = λ m. h }))
    (λ h. line-to-from ws s limit first (end + 1) d (omega arith) (omega arith) (λ m. h))

line-to : (ws : List ℤ) (s : List ℕ) (limit : ℤ) (first : ℕ) → first ≤ length s → (to : ℕ) × LineTo ws s limit first to
line-to ws s limit first l = line-to-from ws s limit first first (length s - first) (omega arith) (omega arith) (λ m. absurd (omega arith))

fill-on : (ws : List ℤ) (s : List ℕ) (limit : ℤ) (places : List ℕ) (first d : ℕ) → IsParagraph ws s → length s + 1 ≤ first + d → Filling ws s limit places first → (all : List ℕ) × AreFilled ws s limit 0 all
fill-on ws s limit places first zero g l r = let w = r.within in absurd (omega (arith, w, l))
fill-on ws s limit places first (suc d) g l r =
    let t = line-to ws s limit first r.within in
    let o = t.1.onward in
    let w = t.1.within in
    elim (cases_lt t.0 (length s)) [
      | inl m ↦ fill-on ws s limit (places ++ get_or s t.0 0 ∷ []) (t.0 + 1) d g (omega (arith, o, l)) (Filling-more ws s limit places first t.0 g m t.1 r)
      | inr m ↦ (places, Filling-all ws s limit places first t.0 g (omega (arith, w, m)) t.1 r)
    ]

filled : (ws : List ℤ) (s : List ℕ) (limit : ℤ) → IsParagraph ws s → (all : List ℕ) × AreFilled ws s limit 0 all
filled ws s limit g = fill-on ws s limit [] 0 (length s + 1) g (omega arith) (Filling-none ws s limit)

line-from-to : (ws : List ℤ) (s : List ℕ) (limit : ℤ) (end first : ℕ) → first ≤ end → (first < end → (pen ws (line_end ws s end) -ℤ pen ws (line_start s first)) ≤ℤ limit) → (from : ℕ) × LineFrom ws s limit end from
line-from-to ws s limit end zero l n = (zero, record { back = l; narrow = n; last = λ m. absurd (omega arith) })
line-from-to ws s limit end (suc first) l n =
    let e : suc first - 1 ≡ first = omega arith in
    by_lt_z limit (pen ws (line_end ws s end) -ℤ pen ws (line_start s (suc first - 1)))
    (λ (h : limit <ℤ (pen ws (line_end ws s end) -ℤ pen ws (line_start s (suc first - 1)))). (suc first, record { back = l; narrow = n; last = λ m. h }))
    (λ (h : (pen ws (line_end ws s end) -ℤ pen ws (line_start s (suc first - 1))) ≤ℤ limit). line-from-to ws s limit end first (omega arith) (λ m. rw e at h))

back-on : (ws : List ℤ) (s : List ℕ) (limit : ℤ) (places : List ℕ) (end d : ℕ) → IsParagraph ws s → end < d → Backing ws s limit places end → (all : List ℕ) × IsOutermost ws s limit false all
back-on ws s limit places end zero g l r = absurd (omega arith)
back-on ws s limit places end (suc d) g l r =
    let t = line-from-to ws s limit end end (omega arith) (λ m. absurd (omega arith)) in
    let b = t.1.back in
    elim (cases_lt 0 t.0) [
      | inl m ↦ back-on ws s limit (places ++ get_or s (t.0 - 1) 0 ∷ []) (t.0 - 1) d g (omega (arith, b, m, l)) (Backing-more ws s limit places end t.0 (t.0 - 1) g (omega (arith, m)) t.1 r)
      | inr m ↦ (reverse places, Backing-all ws s limit places end t.0 g (omega (arith, m)) t.1 r)
    ]

outermost : (ws : List ℤ) (s : List ℕ) (limit : ℤ) (greatest : Bool) → IsParagraph ws s → (all : List ℕ) × IsOutermost ws s limit greatest all
outermost ws s limit true g = let f = filled ws s limit g in (f.0, filled-IsOutermost ws s limit f.0 g f.1)
outermost ws s limit false g = back-on ws s limit [] (length s) (length s + 1) g (omega arith) (Backing-none ws s limit (length s) refl)

words-on : (ws : List ℤ) (s : List ℕ) (widest : ℤ) (index d : ℕ) → index + d ≡ length s + 1 → Words ws s widest index → (word : ℤ) × IsWidestWord ws s word
words-on ws s widest index zero e t = (widest, Words-all ws s widest index (omega arith) t)
words-on ws s widest index (suc d) e t = words-on ws s (int_max widest (word_width ws s index)) (index + 1) d (omega arith) (Words-more ws s widest (word_width ws s index) index refl t)

widest-word : (ws : List ℤ) (s : List ℕ) → (word : ℤ) × IsWidestWord ws s word
widest-word ws s =
    words-on ws s (word_width ws s 0) 1 (length s) (omega arith)
    (record {
      above = λ j l. let i : word_width ws s j ≡ word_width ws s 0 = (let z : j ≡ 0 = omega arith in ap (word_width ws s) z) in omega (arith, ints, i);
      least = λ other h. h 0 (omega arith);
    })

limit-on : (ws : List ℤ) (s : List ℕ) (max low high word : ℤ) (count d : ℕ) → IsParagraph ws s → IsWidestWord ws s word → (high -ℤ low) ≤ℤ pos d → Halving ws s max count low high → (limit : ℤ) × IsLeastLimit ws s max count limit
limit-on ws s max low high word count zero g w l r = (high, Halving-all ws s max low high word count w (omega (arith, ints, l)) r)
limit-on ws s max low high word count (suc d) g w l r =
    by_lt_z low high
    (λ (h : low <ℤ high).
    let f = filled ws s low g in
    elim (cases_lt count (length f.0)) [
      | inl more ↦ limit-on ws s max (low +ℤ pos 1) high word count d g w (omega (arith, ints, l)) (Halving-up ws s max low high low count f.0 g (omega (arith, ints)) h f.1 more r)
      | inr few ↦ (low, Halving-all ws s max low low word count w (omega (arith, ints)) (Halving-down ws s max low high low count f.0 g (omega (arith, ints)) (omega (arith, ints, h)) f.1 few r))
    ])
    (λ (h : high ≤ℤ low). (high, Halving-all ws s max low high word count w h r))

pub best-exists : (ws : List ℤ) (s : List ℕ) (max : ℤ) (greatest : Bool) → IsParagraph ws s → (places : List ℕ) × IsBest ws s max greatest places
best-exists ws s max greatest g =
    let f = filled ws s max g in
    let w = widest-word ws s in
    let low = int_min w.0 max in
    let d : (max -ℤ low) ≤ℤ pos (unsigned_abs (max -ℤ low)) = omega (arith, ints) in
    let t = limit-on ws s max low max w.0 (length f.0) (unsigned_abs (max -ℤ low)) g w.1 d (Halving-none ws s max w.0 f.0 g w.1 f.1) in
    let o = outermost ws s t.0 greatest g in
    (o.0, outermost-IsBest ws s max t.0 greatest f.0 o.0 g f.1 t.1 o.1)
