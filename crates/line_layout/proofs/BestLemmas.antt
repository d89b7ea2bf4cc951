-- The best set of places: of those under the least limit that makes no line more, the outermost.
use Rattle.std.proofs.Common.{◌≡◌, ℕ, zero, suc, ℤ, pos, ◌+◌, ◌≤◌, ◌-ℤ◌, ◌<ℤ◌, ◌≤ℤ◌, Bool, true, false, List, [], ◌∷◌, length, get_or, inl, inr, refl, arith}
use Rattle.std.proofs.lemmas.Bool.{cases_lt}
use Rattle.std.proofs.lemmas.Int.{ints, by_lt_z}
use Rattle.line_layout.specs.Breaks.{IsParagraph, width, IsUnbreakable, AreFrom, AllFit, widest, IsNoWorse, IsBest, AreFilled}
use Rattle.line_layout.specs.Filling.{line_start, line_end, IsWidestWord, IsOutermost, IsLeastLimit}
use Rattle.line_layout.proofs.PlaceLemmas.{places-le, start-next, from-start-index, end-place, end-last, end-within}
use Rattle.line_layout.proofs.LineLemmas.{width-le, AllFit-wider, AllFit-widest, inside, widest-le}
use Rattle.line_layout.proofs.FillLemmas.{filled-IsOutermost}

-- nothing that can't be broken is wider than the widest word
within-words : (ws : List ℤ) (s : List ℕ) (word : ℤ) (a b k d : ℕ) → IsParagraph ws s → IsWidestWord ws s word → k + d ≡ length s → line_start s k ≤ a → b ≤ length ws → IsUnbreakable s a b → width ws a b ≤ℤ word
within-words ws s word a b k zero g w e l m u =
    let f = end-last ws s k (omega arith) in
    let h = width-le ws s a b (line_start s k) (line_end ws s k) g l (omega (arith, f, m)) in
    let i = w.above k (omega arith) in
    omega (arith, ints, h, i)
within-words ws s word a b k (suc d) g w e l m u =
    let f = end-place ws s k (omega arith) in
    elim (cases_lt (get_or s k 0) b) [
      | inl i ↦
          elim (cases_lt (get_or s k 0) a) [
            | inl j ↦
                let n = start-next s k in
                within-words ws s word a b (k + 1) d g w (omega arith) (omega (arith, n, j)) m u
            | inr j ↦ absurd (u (get_or s k 0) (k, omega arith, refl) j i)
          ]
      | inr i ↦
          let h = width-le ws s a b (line_start s k) (line_end ws s k) g l (omega (arith, f, i)) in
          let v = w.above k (omega arith) in
          omega (arith, ints, h, v)
    ]

word-unbreakable : (ws : List ℤ) (s : List ℕ) (k : ℕ) → IsParagraph ws s → k ≤ length s → IsUnbreakable s (line_start s k) (line_end ws s k)
word-unbreakable ws s k g m p i a b =
    let e = i.2 in
    let n = from-start-index ws s i.0 k g m (omega (arith, a, e)) in
    let l = i.1 in
    let c = places-le ws s k i.0 g n l in
    let d = end-place ws s k (omega arith) in
    omega (arith, b, c, d, e)

-- no set has a widest line narrower than the widest word
word-widest : (ws : List ℤ) (s : List ℕ) (word : ℤ) (places : List ℕ) → IsParagraph ws s → IsWidestWord ws s word → AreFrom s 0 places → word ≤ℤ widest ws 0 places
word-widest ws s word places g w a =
    w.least (widest ws 0 places) (λ k m. inside ws s 0 (line_start s k) (line_end ws s k) places g (word-unbreakable ws s k g m) (omega arith) (end-within ws s k g) a)

-- the widest line of a set under the limit
outer-widest : (ws : List ℤ) (s : List ℕ) (limit word bound : ℤ) (places : List ℕ) → IsParagraph ws s → IsWidestWord ws s word → limit ≤ℤ bound → word ≤ℤ bound → AreFrom s 0 places → AllFit ws s limit 0 places → widest ws 0 places ≤ℤ bound
outer-widest ws s limit word bound places g w l m a f =
    widest-le ws s limit bound 0 places l
    (λ x y n u. let h = within-words ws s word x y 0 (length s) g w (omega arith) (omega arith) n u in omega (arith, ints, h, m))
    g.within a f

-- no set that makes as few lines has a widest line narrower than the limit
limit-widest : (ws : List ℤ) (s : List ℕ) (max limit word : ℤ) (count : ℕ) (places : List ℕ) → IsParagraph ws s → IsWidestWord ws s word → IsLeastLimit ws s max count limit → AreFrom s 0 places → length places ≤ count → limit ≤ℤ widest ws 0 places
limit-widest ws s max limit word count places g w t a n =
    elim (t.least word w) [
      | inl l ↦ let h = word-widest ws s word places g w a in omega (arith, ints, l, h)
      | inr none ↦
          by_lt_z (widest ws 0 places) limit
          (λ (l : widest ws 0 places <ℤ limit). absurd (none (places, a, AllFit-widest ws s (limit -ℤ pos 1) 0 places (omega (arith, ints, l)), n)))
          (λ h. h)
    ]

-- so a set whose widest line is as narrow keeps the limit
keeps-limit : (ws : List ℤ) (s : List ℕ) (max limit word : ℤ) (count : ℕ) (greatest : Bool) (places other : List ℕ) → IsParagraph ws s → IsWidestWord ws s word → IsLeastLimit ws s max count limit → IsOutermost ws s limit greatest places → AllFit ws s max 0 other → widest ws 0 other ≤ℤ widest ws 0 places → AllFit ws s limit 0 other
keeps-limit ws s max limit word count greatest places other g w t o f l =
    elim (t.roomy word w) [
      | inl r ↦
          let h = outer-widest ws s limit word limit places g w (omega (arith, ints)) r o.chosen o.fit in
          AllFit-widest ws s limit 0 other (omega (arith, ints, h, l))
      | inr r ↦ AllFit-wider ws s max limit 0 other r f
    ]

-- of the sets under the least limit, the outermost is the best
pub outermost-IsBest : (ws : List ℤ) (s : List ℕ) (max limit : ℤ) (greatest : Bool) (first places : List ℕ) → IsParagraph ws s → AreFilled ws s max 0 first → IsLeastLimit ws s max (length first) limit → IsOutermost ws s limit greatest places → IsBest ws s max greatest places
outermost-IsBest ws s max limit greatest first places g filled t o =
    let word = t.word.0 in
    let w = t.word.1 in
    let fewest = filled-IsOutermost ws s max first g filled in
    let enough = t.enough in
    let few : length places ≤ length first = (let a = o.fewest enough.0 enough.1 enough.2 in let b = enough.3 in omega (arith, a, b)) in
    record {
      chosen = o.chosen;
      fit = AllFit-wider ws s limit max 0 places t.within o.fit;
      best = λ other a f.
          let least = fewest.fewest other a f in
          elim (cases_lt (length places) (length other)) [
            | inl l ↦ inl l
            | inr l ↦
                let same : length places ≡ length other = omega arith in
                let wide = limit-widest ws s max limit word (length first) other g w t a (omega arith) in
                let wider = word-widest ws s word other g w a in
                let h = outer-widest ws s limit word (widest ws 0 other) places g w wide wider o.chosen o.fit in
                inr (
                  same,
                  by_lt_z (widest ws 0 places) (widest ws 0 other)
                      (λ (n : widest ws 0 places <ℤ widest ws 0 other). inl n)
                      (λ (n : widest ws 0 other ≤ℤ widest ws 0 places).
                      let e : widest ws 0 places ≡ widest ws 0 other = omega (arith, ints, h, n) in
                      inr (e, o.taken other a (keeps-limit ws s max limit word (length first) greatest places other g w t o f n) same)),
                )
          ];
    }

one-line : (ws : List ℤ) (greatest : Bool) (other : List ℕ) → IsNoWorse ws greatest [] other
one-line ws true [] = inr (refl, inr (refl, tt))
one-line ws false [] = inr (refl, inr (refl, tt))
one-line ws greatest (p ∷ other) = inl (omega arith)

-- where everything fits in one line, that is the best
pub unbroken-IsBest : (ws : List ℤ) (s : List ℕ) (max : ℤ) (greatest : Bool) → AreFilled ws s max 0 [] → IsBest ws s max greatest []
unbroken-IsBest ws s max greatest f =
    record { chosen = tt; fit = f; best = λ other a h. one-line ws greatest other }
