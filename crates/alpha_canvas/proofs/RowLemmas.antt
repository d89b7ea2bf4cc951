-- Pixels of four bytes that are written one after another, and rows of them.
use Rattle.std.proofs.Common.{◌≡◌, ◌≢◌, ℕ, zero, suc, ◌+◌, ◌*◌, ◌-◌, ◌<◌, ◌≤◌, ◌⊎◌, List, ◌++◌, length, take, drop, set, get_or, sym, ap, ◌∙◌, inl, inr, arith, length-set, length-append, length-take, length-drop, get_or-set_same, get_or-set_other, get_or-take}
use Rattle.std.proofs.lemmas.Bool.{cases_lt}
use Rattle.std.proofs.lemmas.List.{get_or_append_left, get_or-append-add, get_or-append_right, get_or-drop}
use Rattle.std.proofs.Math.Nat.{mul-le-mul_right}
use borrow.Rule.Slice.PartMut.{put_mid, post_of}
use Rattle.blend.specs.Blending.{Image}
use Rattle.alpha_canvas.specs.Alpha.{ArePixels, byte_of, clear, layers_at, formed_pixel}
use Rattle.alpha_canvas.specs.Bounds.{IsWritten}
use Rattle.alpha_canvas.proofs.TileLemmas.{clear-is}
use Rattle.alpha_canvas.specs.declared.pixel.Pixel.{Pixel}
use Rattle.alpha_canvas.specs.declared.pixel.AlphaForm.{AlphaForm}

-- ---- one pixel

pub written : (s : List ℕ) (k : ℕ) (p : Pixel) → 4 * k + 4 ≤ length s → IsWritten k p s (set (set (set (set s (4 * k) p.r) (4 * k + 1) p.g) (4 * k + 2) p.b) (4 * k + 3) p.a)
written s k p fits =
    let one : List ℕ = set s (4 * k) p.r in
    let two : List ℕ = set one (4 * k + 1) p.g in
    let three : List ℕ = set two (4 * k + 2) p.b in
    let one_len : length one ≡ length s = length-set s (4 * k) p.r in
    let two_len : length two ≡ length s = length-set one (4 * k + 1) p.g ∙ one_len in
    let three_len : length three ≡ length s = length-set two (4 * k + 2) p.b ∙ two_len in
    record {
      count = length-set three (4 * k + 3) p.a ∙ three_len;
      here = here s k p fits;
      elsewhere = λ m c apart small.
          let a : 4 * m + c ≢ 4 * k = omega arith in
          let b : 4 * m + c ≢ 4 * k + 1 = omega arith in
          let d : 4 * m + c ≢ 4 * k + 2 = omega arith in
          let e : 4 * m + c ≢ 4 * k + 3 = omega arith in
          get_or-set_other three (4 * k + 3) (4 * m + c) p.a 0 e ∙ (get_or-set_other two (4 * k + 2) (4 * m + c) p.b 0 d
          ∙ (get_or-set_other one (4 * k + 1) (4 * m + c) p.g 0 b ∙ get_or-set_other s (4 * k) (4 * m + c) p.r 0 a));
    }
  where
    here : (s : List ℕ) (k : ℕ) (p : Pixel) → 4 * k + 4 ≤ length s → (c : ℕ) → c < 4
        → get_or (set (set (set (set s (4 * k) p.r) (4 * k + 1) p.g) (4 * k + 2) p.b) (4 * k + 3) p.a) (4 * k + c) 0 ≡ byte_of p c
    here s k p fits zero small =
        let one : List ℕ = set s (4 * k) p.r in
        let two : List ℕ = set one (4 * k + 1) p.g in
        let three : List ℕ = set two (4 * k + 2) p.b in
        let place : 4 * k + zero ≡ 4 * k = omega arith in
        let b : 4 * k ≢ 4 * k + 1 = omega arith in
        let d : 4 * k ≢ 4 * k + 2 = omega arith in
        let e : 4 * k ≢ 4 * k + 3 = omega arith in
        rw place (get_or-set_other three (4 * k + 3) (4 * k) p.a 0 e ∙ (get_or-set_other two (4 * k + 2) (4 * k) p.b 0 d ∙ (get_or-set_other one (4 * k + 1) (4 * k) p.g 0 b ∙ get_or-set_same s (4 * k) p.r 0 (omega arith))))
    here s k p fits (suc zero) small =
        let one : List ℕ = set s (4 * k) p.r in
        let two : List ℕ = set one (4 * k + 1) p.g in
        let three : List ℕ = set two (4 * k + 2) p.b in
        let one_len : length one ≡ length s = length-set s (4 * k) p.r in
        let d : 4 * k + 1 ≢ 4 * k + 2 = omega arith in
        let e : 4 * k + 1 ≢ 4 * k + 3 = omega arith in
        get_or-set_other three (4 * k + 3) (4 * k + 1) p.a 0 e ∙ (get_or-set_other two (4 * k + 2) (4 * k + 1) p.b 0 d ∙ get_or-set_same one (4 * k + 1) p.g 0 (omega arith))
    here s k p fits (suc (suc zero)) small =
        let one : List ℕ = set s (4 * k) p.r in
        let two : List ℕ = set one (4 * k + 1) p.g in
        let three : List ℕ = set two (4 * k + 2) p.b in
        let one_len : length one ≡ length s = length-set s (4 * k) p.r in
        let two_len : length two ≡ length s = length-set one (4 * k + 1) p.g ∙ one_len in
        let e : 4 * k + 2 ≢ 4 * k + 3 = omega arith in
        get_or-set_other three (4 * k + 3) (4 * k + 2) p.a 0 e ∙ get_or-set_same two (4 * k + 2) p.b 0 (omega arith)
    here s k p fits (suc (suc (suc zero))) small =
        let one : List ℕ = set s (4 * k) p.r in
        let two : List ℕ = set one (4 * k + 1) p.g in
        let three : List ℕ = set two (4 * k + 2) p.b in
        let one_len : length one ≡ length s = length-set s (4 * k) p.r in
        let two_len : length two ≡ length s = length-set one (4 * k + 1) p.g ∙ one_len in
        let three_len : length three ≡ length s = length-set two (4 * k + 2) p.b ∙ two_len in
        get_or-set_same three (4 * k + 3) p.a 0 (omega arith)
    here s k p fits (suc (suc (suc (suc c)))) small = absurd (omega arith)

-- ---- a part of a list

length-put : (a n : ℕ) (s t : List ℕ) → a + n ≤ length s → length t ≡ n → length (put_mid a n s t) ≡ length s
length-put a n s t fits len = omega (arith, length-append (take a s) (t ++ post_of a n s), length-append t (post_of a n s), length-take a s, length-drop n (drop a s), length-drop a s)

put-before : (a n m : ℕ) (s t : List ℕ) → a ≤ length s → m < a → get_or (put_mid a n s t) m 0 ≡ get_or s m 0
put-before a n m s t fits less = get_or_append_left (take a s) (t ++ post_of a n s) 0 m (omega (arith, length-take a s)) ∙ get_or-take a s m 0 less

put-inside : (a n m : ℕ) (s t : List ℕ) → a ≤ length s → m < length t → get_or (put_mid a n s t) (a + m) 0 ≡ get_or t m 0
put-inside a n m s t fits less =
    let at : a + m ≡ length (take a s) + m = omega (arith, length-take a s) in
    rw at (get_or-append-add (take a s) (t ++ post_of a n s) m 0 ∙ get_or_append_left t (post_of a n s) 0 m less)

pub put-after : (a n m : ℕ) (s t : List ℕ) → a + n ≤ length s → length t ≡ n → a + n ≤ m → get_or (put_mid a n s t) m 0 ≡ get_or s m 0
put-after a n m s t fits len past =
    let front : length (take a s) ≡ a = omega (arith, length-take a s) in
    let rest : m - a - n + n + a ≡ m = omega arith in
    let at : a + (n + (m - a - n)) ≡ m = omega arith in
    get_or-append_right (take a s) (t ++ post_of a n s) a m 0 front (omega arith) ∙ get_or-append_right t (post_of a n s) n (m - a) 0 len (omega arith)
    ∙ get_or-drop n (drop a s) (m - a - n) 0 ∙ get_or-drop a s (n + (m - a - n)) 0 ∙ ap (λ (k : ℕ). get_or s k 0) at

-- ---- a row

-- the first pixels are written
pub record AreFirst (f : ℕ → Pixel) (n total : ℕ) (bytes : List ℕ) : Type 0 where
  pub count : length bytes ≡ 4 * total
  pub each : (k c : ℕ) → k < n → c < 4 → get_or bytes (4 * k + c) 0 ≡ byte_of (f k) c

pub first-more : (f : ℕ → Pixel) (n total : ℕ) (p : Pixel) (old new : List ℕ) → AreFirst f n total old → IsWritten n p old new → p ≡ f n → AreFirst f (n + 1) total new
first-more f n total p old new first is same = record {
  count = is.count ∙ first.count;
  each = λ k c less small. elim (cases_lt k n) [
    | inl before ↦ (let apart : k ≢ n = omega arith in is.elsewhere k c apart small ∙ first.each k c before small)
    | inr from ↦ (let number : k ≡ n = omega arith in rw number (is.here c small ∙ ap (λ (q : Pixel). byte_of q c) same))
  ];
}

-- some more pixels
pub first-part : (f g : ℕ → Pixel) (n c m total at len : ℕ) (old part : List ℕ) → n + c ≤ total → m ≡ n + c → at ≡ 4 * n → len ≡ 4 * c → AreFirst f n total old → ArePixels g c part
    → ((k : ℕ) → g k ≡ f (n + k)) → AreFirst f m total (put_mid at len old part)
first-part f g n c m total at len old part fits last at_is len_is first is same = record {
  count = length-put at len old part (omega (arith, first.count)) (is.count ∙ sym len_is) ∙ first.count;
  each = λ k b less small. elim (cases_lt k n) [
    | inl before ↦ put-before at len (4 * k + b) old part (omega (arith, first.count)) (omega arith) ∙ first.each k b before small
    | inr from ↦
        let number : n + (k - n) ≡ k = omega arith in
        let place : 4 * k + b ≡ at + (4 * (k - n) + b) = omega arith in
        rw place (put-inside at len (4 * (k - n) + b) old part (omega (arith, first.count)) (omega (arith, is.count)) ∙ (is.each (k - n) b (omega arith) small
        ∙ ap (λ (p : Pixel). byte_of p b) (same (k - n) ∙ ap f number)))
  ];
}

pub first-all : (f : ℕ → Pixel) (n : ℕ) (bytes : List ℕ) → AreFirst f n n bytes → ArePixels f n bytes
first-all f n bytes first = record { count = first.count; each = first.each }

-- ---- a row that is clear outside of some columns

module _ (form : AlphaForm) (images : List Image) (w left right j : ℕ) (blank : List ℕ) (count : length blank ≡ 4 * w) (zeros : (k : ℕ) → get_or blank k 0 ≡ 0)
    (clears : (i : ℕ) → i < w → (i < left) ⊎ (right ≤ i) → layers_at images i j ≡ clear) where
  pub row-clear : right ≤ left → ArePixels (λ i. formed_pixel form (layers_at images i j)) w blank
  row-clear none = record {
    count = count;
    each = λ i c wide small.
        clear-is form images i j c (get_or blank (4 * i + c) 0) (clears i wide (elim (cases_lt i left) [ inl less ↦ inl less | inr past ↦ inr (omega arith) ])) (zeros (4 * i + c));
  }

  pub row-painted : (at len : ℕ) (part : List ℕ) → left < right → right ≤ w → at ≡ 4 * left → len ≡ 4 * (right - left)
      → ArePixels (λ k. formed_pixel form (layers_at images (left + k) j)) (right - left) part → ArePixels (λ i. formed_pixel form (layers_at images i j)) w (put_mid at len blank part)
  row-painted at len part some inside at_is len_is is =
      let long : length part ≡ len = is.count ∙ sym len_is in
      record {
        count = length-put at len blank part (omega (arith, count)) long ∙ count;
        each = λ i c wide small. elim (cases_lt i left) [
          | inl before ↦
              clear-is form images i j c _ (clears i wide (inl before))
              (put-before at len (4 * i + c) blank part (omega (arith, count)) (omega arith) ∙ zeros (4 * i + c))
          | inr from ↦ elim (cases_lt i right) [
            | inl within ↦
                let number : left + (i - left) ≡ i = omega arith in
                let place : 4 * i + c ≡ at + (4 * (i - left) + c) = omega arith in
                ap (λ (k : ℕ). get_or (put_mid at len blank part) k 0) place ∙ put-inside at len (4 * (i - left) + c) blank part (omega (arith, count)) (omega (arith, is.count))
                ∙ is.each (i - left) c (omega arith) small ∙ ap (λ (k : ℕ). byte_of (formed_pixel form (layers_at images k j)) c) number
            | inr past ↦
                clear-is form images i j c _ (clears i wide (inr past)) (put-after at len (4 * i + c) blank part (omega (arith, count)) long (omega arith) ∙ zeros (4 * i + c))
          ]
        ];
      }

-- ---- rows

-- the first rows are painted
pub record AreFirstRows (form : AlphaForm) (images : List Image) (w top n h : ℕ) (bytes : List ℕ) : Type 0 where
  pub count : length bytes ≡ 4 * (h * w)
  pub each : (i j c : ℕ) → i < w → j < n → c < 4 → get_or bytes (4 * (j * w + i) + c) 0 ≡ byte_of (formed_pixel form (layers_at images i (top + j))) c

pub rows-more : (form : AlphaForm) (images : List Image) (w top n h at len : ℕ) (old row : List ℕ) → n < h → at ≡ n * (4 * w) → len ≡ 4 * w → AreFirstRows form images w top n h old
    → ArePixels (λ i. formed_pixel form (layers_at images i (top + n))) w row → AreFirstRows form images w top (n + 1) h (put_mid at len old row)
rows-more form images w top n h at len old row less at_is len_is first is =
    let fits : (n + 1) * w ≤ h * w = mul-le-mul_right w (let next : n + 1 ≤ h = omega arith in next) in
    record {
      count = length-put at len old row (omega (arith, first.count)) (is.count ∙ sym len_is) ∙ first.count;
      each = λ i j c column row_less small. elim (cases_lt j n) [
        | inl before ↦
            let more : (j + 1) * w ≤ n * w = mul-le-mul_right w (let next : j + 1 ≤ n = omega arith in next) in
            put-before at len (4 * (j * w + i) + c) old row (omega (arith, first.count)) (omega arith) ∙ first.each i j c column before small
        | inr from ↦
            let number : j ≡ n = omega arith in
            let place : 4 * (n * w + i) + c ≡ at + (4 * i + c) = omega arith in
            rw (number, place) (put-inside at len (4 * i + c) old row (omega (arith, first.count)) (omega (arith, is.count)) ∙ is.each i c column small)
      ];
    }
