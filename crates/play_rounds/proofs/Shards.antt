-- What holds of each of four shards, and what a pass gave that is joined.
use Rattle.std.proofs.Common.{◌≡◌, ℕ, ◌<◌, ◌==◌, true, false, cond, List, [], ◌++◌, length, map, refl, sym, ap, subst, ◌∙◌, arith, append-nil, length-append}
use Rattle.std.proofs.lemmas.List.{length-map}
use Rattle.std.proofs.lemmas.List.Elements.{All-nil}
use Rattle.flight_cache.specs.Calls.{ShardPassView}
use Rattle.flight_cache.specs.Laws.{IsLater}
use Rattle.flight_cache.specs.Shards.{CachePassView, EachBegins, EachExtends, Shards, at, both, each}
use Rattle.flight_cache.specs.declared.kept.Entry.{Entry}
use Rattle.turn_cell.specs.History.{IsPrefix, entries_of}
use Rattle.turn_cell.specs.Passes.{CellView, Extends, Follows, PassView, first_pass, mine}
use Rattle.turn_cell.proofs.Histories.{entries_of-append}
use Rattle.play_model.proofs.JoinedPasses.{nil_of}

-- what holds of each of the four holds at each number
pub at_all : {A B C : Type 0} (Q : A → B → C → Type 0) (s : Shards A) (p : Shards B) (h : Shards C)
    → Q s.first p.first h.first → Q s.second p.second h.second → Q s.third p.third h.third → Q s.fourth p.fourth h.fourth → (n : ℕ) → Q (at s n) (at p n) (at h n)
at_all Q s p h a b c d n =
    elim (n == 0) as (λ t. Q (cond t s.first (cond (n == 1) s.second (cond (n == 2) s.third s.fourth))) (cond t p.first (cond (n == 1) p.second (cond (n == 2) p.third p.fourth))) (cond t h.first (cond (n == 1) h.second (cond (n == 2) h.third h.fourth)))) [
      | true ↦ a
      | false ↦ elim (n == 1) as (λ t. Q (cond t s.second (cond (n == 2) s.third s.fourth)) (cond t p.second (cond (n == 2) p.third p.fourth)) (cond t h.second (cond (n == 2) h.third h.fourth))) [
        | true ↦ b
        | false ↦ elim (n == 2) as (λ t. Q (cond t s.third s.fourth) (cond t p.third p.fourth) (cond t h.third h.fourth)) [ true ↦ c | false ↦ d ]
      ]
    ]

pub at_each : {X Y : Type 0} (f : X → Y) (four : Shards X) (n : ℕ) → at (each f four) n ≡ f (at four n)
at_each {X = X} {Y = Y} f four = at_all (λ (x : X) (y z : Y). y ≡ f x) four (each f four) (each f four) refl refl refl refl

pub at_both : {X Y Z : Type 0} (f : X → Y → Z) (four : Shards X) (other : Shards Y) (n : ℕ) → at (both f four other) n ≡ f (at four n) (at other n)
at_both {X = X} {Y = Y} {Z = Z} f four other = at_all (λ (x : X) (y : Y) (z : Z). z ≡ f x y) four other (both f four other) refl refl refl refl

module _ {K T : Type 0} where
  pub begins_at : (p q : CachePassView K T) → EachBegins p q → (n : ℕ) → IsPrefix (at p n).seen (at q n).seen
  begins_at p q h = at_all (λ (x y z : ShardPassView K T). IsPrefix x.seen y.seen) p q q h.first h.second h.third h.fourth

  pub extends_at : (p : CachePassView K T) → EachExtends p → (n : ℕ) → Extends (at p n) (at p n).seen
  extends_at p h = at_all (λ (x y z : ShardPassView K T). Extends x x.seen) p p p h.first h.second h.third h.fourth

  pub later_at : (p q : CachePassView K T) → IsLater p q → (n : ℕ) → (entries : List (Entry K)) × Follows (at p n) (at q n) entries
  later_at p q h = at_all (λ (x y z : ShardPassView K T). (entries : List (Entry K)) × Follows x y entries) p q q h.first h.second h.third h.fourth

-- a list that begins with another and is as long
pub same_list : {X : Type 0} (xs ys rest : List X) → xs ++ rest ≡ ys → length ys ≡ length xs → ys ≡ xs
same_list xs ys rest is long =
    let parts = length-append xs rest in let all : length (xs ++ rest) ≡ length ys = ap length is in
    sym is ∙ (ap (λ z. xs ++ z) (nil_of rest (omega (arith, parts, all, long))) ∙ append-nil xs)

-- what a pass gave is what it gave before, where it has seen more and gave as many steps
pub gave_the_same : {E T X : Type 0} (f : E → X) (p q : PassView E T) → q.number ≡ p.number → IsPrefix p.seen q.seen → map f (mine q) ≡ map f (mine p) → mine q ≡ mine p
gave_the_same f p q same begins steps =
    let parts : mine p ++ entries_of p.number begins.0 ≡ entries_of p.number q.seen = sym (entries_of-append p.number p.seen begins.0) ∙ ap (entries_of p.number) begins.1 in
    let long : length (mine q) ≡ length (mine p) = sym (length-map (mine q) f) ∙ (ap length steps ∙ length-map (mine p) f) in
    same_list (mine p) (mine q) (entries_of p.number begins.0) (parts ∙ ap (λ n. entries_of n q.seen) (sym same)) long

-- the first pass of a new cell
pub first_itself : {E T : Type 0} (cell : CellView T) (pass : PassView E T) → pass ≡ first_pass cell → Extends pass pass.seen
first_itself {E = E} {T = T} cell pass is = subst (λ (p : PassView E T). Extends p p.seen) (sym is) record {
  begins = ([], refl);
  own = refl;
  joined = λ zeroth. All-nil (λ (pair : ℕ × List E). [] ≡ pair.1);
  distinct = λ zeroth. (All-nil (λ (m : ℕ). m ≡ 0 → ⊥), tt);
  below = λ zeroth. All-nil (λ (pair : ℕ × E). pair.0 < 1);
}
