-- Numbers that lie where two files agree.
use Rattle.std.proofs.Common.{◌≡◌, ℕ, ◌+◌, ◌*◌, ◌≤◌, List, Bool, true, false, cond, ◌&&◌, Option, Some, None, refl, ap, ◌∙◌, arith}
use Rattle.std.specs.Prelude.{IfSome, option_and_then, option_map}
use Rattle.font_bytes.specs.Bytes.{u8_at, u16_at, u32_at, s8_at, s16_at, with_sign}
use Rattle.font_laws.specs.Laws.{AgreeOn}

digits_same : (unit : ℕ) {x y u v : ℕ} → x ≡ u → y ≡ v → x * unit + y ≡ u * unit + v
digits_same unit p q = cc

pub u8_same : (a b : List ℕ) (from to i : ℕ) → AgreeOn a b from to → from ≤ i → i + 1 ≤ to → u8_at a i ≡ u8_at b i
u8_same a b from to i h low high = h.same i low (omega arith)

pub u16_same : (a b : List ℕ) (from to i : ℕ) → AgreeOn a b from to → from ≤ i → i + 2 ≤ to → u16_at a i ≡ u16_at b i
unfolding u16_at
u16_same a b from to i h low high = digits_same 256 (h.same i low (omega arith)) (h.same (i + 1) (omega arith) (omega arith))

pub u32_same : (a b : List ℕ) (from to i : ℕ) → AgreeOn a b from to → from ≤ i → i + 4 ≤ to → u32_at a i ≡ u32_at b i
unfolding u32_at
u32_same a b from to i h low high = digits_same 65536 (u16_same a b from to i h low (omega arith)) (u16_same a b from to (i + 2) h (omega arith) (omega arith))

pub s8_same : (a b : List ℕ) (from to i : ℕ) → AgreeOn a b from to → from ≤ i → i + 1 ≤ to → s8_at a i ≡ s8_at b i
unfolding s8_at
s8_same a b from to i h low high = ap (with_sign 128) (u8_same a b from to i h low high)

pub s16_same : (a b : List ℕ) (from to i : ℕ) → AgreeOn a b from to → from ≤ i → i + 2 ≤ to → s16_at a i ≡ s16_at b i
unfolding s16_at
s16_same a b from to i h low high = ap (with_sign 32768) (u16_same a b from to i h low high)

-- a part of what they agree on
pub agree_within : (a b : List ℕ) (from to first last : ℕ) → AgreeOn a b from to → from ≤ first → last ≤ to → AgreeOn a b first last
agree_within a b from to first last h low high = record { same = λ i least most. h.same i (omega arith) (omega arith) }

-- ---- tests

pub if_same : {T : Type 0} (b c : Bool) {x y u v : T} → b ≡ c → (b ≡ true → x ≡ u) → (b ≡ false → y ≡ v) → cond b x y ≡ cond c u v
if_same true true e h k = h refl
if_same false false e h k = k refl
if_same true false e h k = absurd cc
if_same false true e h k = absurd cc

pub and_same : (b : Bool) (x y : Bool) → (b ≡ true → x ≡ y) → (b && x) ≡ (b && y)
and_same true x y h = h refl
and_same false x y h = refl

-- ---- readings that may find nothing

-- Two readings find one value, of which this holds, or both find none.
pub record AreOne {T : Type 0} (P : T → Type 0) (o p : Option T) : Type 0 where
  pub same : o ≡ p
  pub holds : IfSome o P

pub none_is : {T : Type 0} (P : T → Type 0) → AreOne P None None
none_is P = record { same = refl; holds = tt }

pub then_one : {T U : Type 0} (P : T → Type 0) (Q : U → Type 0) (o p : Option T) (f g : T → Option U) → AreOne P o p → ((x : T) → P x → AreOne Q (f x) (g x)) → AreOne Q (option_and_then f o) (option_and_then g p)
then_one P Q None p f g h step = record { same = ap (option_and_then g) h.same; holds = tt }
then_one P Q (Some x) p f g h step = record { same = (step x h.holds).same ∙ ap (option_and_then g) h.same; holds = (step x h.holds).holds }

pub map_one : {T U : Type 0} (P : T → Type 0) (Q : U → Type 0) (o p : Option T) (f : T → U) → AreOne P o p → ((x : T) → P x → Q (f x)) → AreOne Q (option_map f o) (option_map f p)
map_one P Q None p f h step = record { same = ap (option_map f) h.same; holds = tt }
map_one P Q (Some x) p f h step = record { same = ap (option_map f) h.same; holds = step x h.holds }

pub test_one : {T : Type 0} (P : T → Type 0) (b c : Bool) (o p q r : Option T) → b ≡ c → (b ≡ true → AreOne P o q) → (b ≡ false → AreOne P p r) → AreOne P (cond b o p) (cond c q r)
test_one P true true o p q r e h k = h refl
test_one P false false o p q r e h k = k refl
test_one P true false o p q r e h k = absurd cc
test_one P false true o p q r e h k = absurd cc

-- ---- values of which nothing is asked

abbrev pub IsAny : {T : Type 0} → T → Type 0
IsAny x = Unit {0}

pub any_of : {T : Type 0} (o : Option T) → IfSome o IsAny
any_of None = tt
any_of (Some x) = tt

pub any_one : {T : Type 0} (o p : Option T) → o ≡ p → AreOne IsAny o p
any_one o p e = record { same = e; holds = any_of o }
