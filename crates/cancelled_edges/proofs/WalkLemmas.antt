-- Walks along next edges, until all are taken.
use Rattle.std.proofs.Common.{◌≡◌, ℕ, ◌+◌, ◌<◌, ◌≤◌, ◌⊎◌, inl, inr, zero, suc, Bool, true, false, cond, List, [], ◌∷◌, ◌++◌, length, get_or, set, replicate, sum_by, refl, sym, ap, ◌∙◌, arith, IsPermutation}
use Rattle.std.proofs.lemmas.Bool.{cases_eq, cases_lt, false≢true, false_from_ne_true}
use Rattle.std.proofs.lemmas.List.{get_or-set_same, get_or-set_other, get_or_default, get_or_past, get_or-replicate, flat_map_more}
use Rattle.std.proofs.lemmas.List.Sums.{sum_by-cons, sum_by-append, sum_by_push}
use Rattle.std.proofs.lemmas.List.Sorted.{sum_by-IsPermutation}
use Rattle.ass_num.specs.Winding.{edges, edges_of}
use Rattle.ass_num.specs.declared.geometry.Point.{Point}
use Rattle.cancelled_edges.specs.Edges.{way, IsClosed}
use Rattle.cancelled_edges.specs.Walks.{IsNext, IsTakenWhole, untaken_sum, open_line}
use Rattle.cancelled_edges.specs.declared.edges.Edge.{Edge}
use borrow.Author.Count.{below_more}
use Rattle.cancelled_edges.proofs.LineLemmas.{open_line_more}
use Rattle.cancelled_edges.proofs.NextLemmas.{some_of}

-- ---- sums over the edges that aren't taken
pub free_within : (taken : List Bool) (k : ℕ) → get_or taken k true ≡ false → k < length taken
free_within taken k free =
    elim (cases_lt k (length taken)) [
      | inl low ↦ low
      | inr past ↦ absurd (false≢true (sym free ∙ get_or_past taken k true past))
    ]

-- Taking an edge takes it from the sum.
pub untaken_take : (f : Point × Point → ℕ) (es : List Edge) (taken : List Bool) (k : ℕ) (d : Edge) → k < length es → get_or taken k true ≡ false
    → f (way (get_or es k d)) + untaken_sum f es (set taken k true) ≡ untaken_sum f es taken
untaken_take f [] taken k d within free = absurd (omega arith)
untaken_take f (e ∷ es) [] k d within free = absurd (false≢true (sym free))
untaken_take f (e ∷ es) (t ∷ taken) zero d within free =
    let untaken : ◌≡◌ {A = ℕ} (cond t 0 (f (way e))) (f (way e)) = ap (λ t. cond t 0 (f (way e))) free in
    omega (arith, untaken)
untaken_take f (e ∷ es) (t ∷ taken) (suc k) d within free =
    let more = untaken_take f es taken k d (omega arith) free in
    omega (arith, more)

-- Nothing is left when all are taken.
pub untaken_none : (f : Point × Point → ℕ) (es : List Edge) (taken : List Bool) → ((k : ℕ) → k < length es → get_or taken k true ≡ true) → untaken_sum f es taken ≡ 0
untaken_none f [] taken all = refl
untaken_none f (e ∷ es) [] all = refl
untaken_none f (e ∷ es) (t ∷ taken) all =
    let first : ◌≡◌ {A = ℕ} (cond t 0 (f (way e))) 0 = ap (λ t. cond t 0 (f (way e))) (all 0 (omega arith)) in
    let rest = untaken_none f es taken (λ k within. all (suc k) (omega arith)) in
    omega (arith, first, rest)

pub untaken_all : (f : Point × Point → ℕ) (es : List Edge) → untaken_sum f es (replicate (length es) false) ≡ sum_by (λ (e : Edge). f (way e)) es
untaken_all f [] = refl
untaken_all f (e ∷ es) = ap (λ n. f (way e) + n) (untaken_all f es) ∙ sym (sum_by-cons (λ (e : Edge). f (way e)) e es)

-- ---- a walk that is under way
-- The place is free; the ring leads to it; the edge before a taken one is taken, but for the first.
pub record IsUnderWay (es : List Edge) (next : List ℕ) (first : ℕ) (start taken : List Bool) (place : ℕ) (ring : List Point) : Type 0 where
  pub within : place < length es
  pub free : get_or taken place true ≡ false
  pub whole : (k : ℕ) → k < length es → get_or taken (get_or next k 0) true ≡ true → (get_or next k 0 ≡ first → ⊥) → get_or taken k true ≡ true
  pub before : (place ≡ first) ⊎ ((k : ℕ) × (k < length es) × (get_or next k 0 ≡ place) × (get_or taken k true ≡ true))
  pub empty : place ≡ first → ring ≡ []
  pub begun : (place ≡ first → ⊥) → get_or taken first true ≡ true
  pub begins : (place ≡ first → ⊥) → (p : Point) (d : Edge) → get_or ring 0 p ≡ (get_or es first d).from
  pub kept : (k : ℕ) → get_or start k true ≡ true → get_or taken k true ≡ true
  pub sums : (f : Point × Point → ℕ) (d : Edge) → sum_by f (open_line ring (get_or es place d).from) + untaken_sum f es taken ≡ untaken_sum f es start

pub walk_begins : (es : List Edge) (next : List ℕ) (first : ℕ) (taken : List Bool) (ring : List Point) → IsNext es next → first < length es → get_or taken first true ≡ false → IsTakenWhole next taken → ring ≡ []
    → IsUnderWay es next first taken taken first ring
walk_begins es next first taken ring is within free whole none = record {
  within = within;
  free = free;
  whole = λ k w h other. whole k (omega (arith, is.same_length)) h;
  before = inl refl;
  empty = λ _. none;
  begun = λ other. absurd (other refl);
  begins = λ other. absurd (other refl);
  kept = λ k h. h;
  sums = λ f d. ap (λ ps. sum_by f (open_line ps (get_or es first d).from) + untaken_sum f es taken) none ∙ omega arith;
}

set_here : (taken : List Bool) (place : ℕ) → get_or taken place true ≡ false → get_or (set taken place true) place true ≡ true
set_here taken place free = get_or-set_same taken place true true (free_within taken place free)

set_keeps : (taken : List Bool) (place k : ℕ) → get_or taken place true ≡ false → get_or taken k true ≡ true → get_or (set taken place true) k true ≡ true
set_keeps taken place k free h =
    elim (cases_eq k place) [
      | inl same ↦ ap (λ j. get_or (set taken place true) j true) same ∙ set_here taken place free
      | inr other ↦ get_or-set_other taken place k true true other ∙ h
    ]

-- What leads to a taken edge was taken, also before the one at the place was.
before_taken : (es : List Edge) (next : List ℕ) (first : ℕ) (start taken : List Bool) (place : ℕ) (ring : List Point) → IsNext es next → IsUnderWay es next first start taken place ring
    → (k : ℕ) → k < length es → get_or (set taken place true) (get_or next k 0) true ≡ true → (get_or next k 0 ≡ first → ⊥) → get_or taken k true ≡ true
before_taken es next first start taken place ring is way k within h not_first =
    elim (cases_eq (get_or next k 0) place) [
      | inl here ↦ elim way.before [
        | inl at_first ↦ absurd (not_first (here ∙ at_first))
        | inr led ↦ ap (λ j. get_or taken j true) (is.once k led.0 within led.1 (here ∙ sym led.2)) ∙ led.3
      ]
      | inr other ↦ way.whole k within (sym (get_or-set_other taken place (get_or next k 0) true true other) ∙ h) not_first
    ]

head_push : (ring : List Point) (x p : Point) → get_or (ring ++ x ∷ []) 0 p ≡ get_or ring 0 x
head_push [] x p = refl
head_push (a ∷ ring) x p = refl

begins_more : (es : List Edge) (next : List ℕ) (first : ℕ) (start taken : List Bool) (place : ℕ) (ring more : List Point) (e : Edge) → IsUnderWay es next first start taken place ring
    → more ≡ ring ++ (get_or es place e).from ∷ [] → (p : Point) (d : Edge) → get_or more 0 p ≡ (get_or es first d).from
begins_more es next first start taken place ring more e way pushed p d =
    let x = (get_or es place e).from in
    ap (λ ps. get_or ps 0 p) pushed ∙ head_push ring x p
    ∙ elim (cases_eq place first) [
      | inl same ↦ ap (λ ps. get_or ps 0 x) (way.empty same) ∙ ap (λ (y : Edge). y.from) (get_or_default es place e d way.within) ∙ ap (λ k. (get_or es k d).from) same
      | inr other ↦ way.begins other x d
    ]

first_taken : (es : List Edge) (next : List ℕ) (first : ℕ) (start taken : List Bool) (place : ℕ) (ring : List Point) → IsUnderWay es next first start taken place ring → get_or (set taken place true) first true ≡ true
first_taken es next first start taken place ring way =
    elim (cases_eq first place) [
      | inl same ↦ ap (λ j. get_or (set taken place true) j true) same ∙ set_here taken place way.free
      | inr other ↦ set_keeps taken place first way.free (way.begun (λ e. other (sym e)))
    ]

sums_more : (es : List Edge) (next : List ℕ) (first : ℕ) (start taken : List Bool) (place : ℕ) (ring more : List Point) (e : Edge) → IsNext es next → IsUnderWay es next first start taken place ring
    → more ≡ ring ++ (get_or es place e).from ∷ [] → (f : Point × Point → ℕ) (d : Edge)
    → sum_by f (open_line more (get_or es (get_or next place 0) d).from) + untaken_sum f es (set taken place true) ≡ untaken_sum f es start
sums_more es next first start taken place ring more e is way pushed f d =
    let edge = get_or es place d in
    let q = (get_or es (get_or next place 0) d).from in
    let meets : q ≡ edge.to = is.meets place d way.within in
    let point : (get_or es place e).from ≡ edge.from = ap (λ (y : Edge). y.from) (get_or_default es place e d way.within) in
    let longer : open_line more q ≡ open_line ring edge.from ++ (edge.from, edge.to) ∷ [] =
    ap (λ ps. open_line ps q) (pushed ∙ ap (λ x. ring ++ x ∷ []) point) ∙ open_line_more ring edge.from q ∙ ap (λ x. open_line ring edge.from ++ (edge.from, x) ∷ []) meets in
    let a : sum_by f (open_line more q) ≡ sum_by f (open_line ring edge.from) + f (edge.from, edge.to) = ap (sum_by f) longer ∙ sum_by_push f (open_line ring edge.from) (edge.from, edge.to) in
    let b = untaken_take f es taken place d way.within way.free in
    let c = way.sums f d in
    omega (arith, a, b, c)

pub walk_goes_on : (es : List Edge) (next : List ℕ) (first : ℕ) (start taken : List Bool) (place : ℕ) (ring more : List Point) (e : Edge) → IsNext es next → IsUnderWay es next first start taken place ring
    → more ≡ ring ++ (get_or es place e).from ∷ [] → (get_or next place 0 ≡ first → ⊥) → IsUnderWay es next first start (set taken place true) (get_or next place 0) more
walk_goes_on es next first start taken place ring more e is way pushed not_first = record {
  within = is.within place 0 way.within;
  free = false_from_ne_true (get_or (set taken place true) (get_or next place 0) true)
      (λ h. false≢true (sym way.free ∙ before_taken es next first start taken place ring is way place way.within h not_first));
  whole = λ k w h other. set_keeps taken place k way.free (before_taken es next first start taken place ring is way k w h other);
  before = inr (place, way.within, refl, set_here taken place way.free);
  empty = λ at_first. absurd (not_first at_first);
  begun = λ _. first_taken es next first start taken place ring way;
  begins = λ _. begins_more es next first start taken place ring more e way pushed;
  kept = λ k h. set_keeps taken place k way.free (way.kept k h);
  sums = sums_more es next first start taken place ring more e is way pushed;
}

-- Fewer edges are free after a step.
pub fewer_free : (es : List Edge) (next : List ℕ) (first : ℕ) (start taken : List Bool) (place : ℕ) (ring : List Point) → IsUnderWay es next first start taken place ring
    → untaken_sum (λ e. 1) es (set taken place true) < untaken_sum (λ e. 1) es taken
fewer_free es next first start taken place ring way =
    let d = some_of es (omega arith) in
    let e = untaken_take (λ e. 1) es taken place d way.within way.free in omega (arith, e)

pub whole_at_end : (es : List Edge) (next : List ℕ) (first : ℕ) (start taken : List Bool) (place : ℕ) (ring : List Point) → IsNext es next → IsUnderWay es next first start taken place ring
    → get_or next place 0 ≡ first → IsTakenWhole next (set taken place true)
whole_at_end es next first start taken place ring is way round k within h =
    let w : k < length es = omega (arith, is.same_length) in
    elim (cases_eq (get_or next k 0) first) [
      | inl last ↦ ap (λ j. get_or (set taken place true) j true) (is.once k place w way.within (last ∙ sym round)) ∙ set_here taken place way.free
      | inr other ↦ set_keeps taken place k way.free (before_taken es next first start taken place ring is way k w h other)
    ]

closed_line : (ring : List Point) (p : Point) → edges ring ≡ open_line ring (get_or ring 0 p)
closed_line [] p = refl
closed_line (a ∷ ring) p = refl

pub sums_at_end : (es : List Edge) (next : List ℕ) (first : ℕ) (start taken : List Bool) (place : ℕ) (ring more : List Point) (e : Edge) → IsNext es next → IsUnderWay es next first start taken place ring
    → more ≡ ring ++ (get_or es place e).from ∷ [] → get_or next place 0 ≡ first → (f : Point × Point → ℕ)
    → sum_by f (edges more) + untaken_sum f es (set taken place true) ≡ untaken_sum f es start
sums_at_end es next first start taken place ring more e is way pushed round f =
    let head : get_or more 0 e.from ≡ (get_or es (get_or next place 0) e).from = begins_more es next first start taken place ring more e way pushed e.from e ∙ ap (λ k. (get_or es k e).from) (sym round) in
    ap (λ ps. sum_by f ps + untaken_sum f es (set taken place true)) (closed_line more e.from ∙ ap (open_line more) head) ∙ sums_more es next first start taken place ring more e is way pushed f e

-- ---- rings from the first edges
pub record AreRings (es : List Edge) (next : List ℕ) (first : ℕ) (taken : List Bool) (rings : List (List Point)) : Type 0 where
  pub whole : IsTakenWhole next taken
  pub done : (k : ℕ) → k < first → get_or taken k true ≡ true
  pub sums : (f : Point × Point → ℕ) → sum_by f (edges_of rings) + untaken_sum f es taken ≡ sum_by (λ (e : Edge). f (way e)) es

pub rings_none : (es : List Edge) (next : List ℕ) (taken : List Bool) (rings : List (List Point)) → IsNext es next → taken ≡ replicate (length es) false → rings ≡ [] → AreRings es next 0 taken rings
rings_none es next taken rings is untaken none = record {
  whole = λ k within h.
      let low = is.within k 0 (omega (arith, is.same_length)) in
      absurd (false≢true (sym (ap (λ ts. get_or ts (get_or next k 0) true) untaken ∙ get_or-replicate (length es) (get_or next k 0) false true low) ∙ h));
  done = λ k low. absurd (omega arith);
  sums = λ f.
      let all = ap (untaken_sum f es) untaken ∙ untaken_all f es in
      let zero : sum_by f (edges_of rings) ≡ 0 = ap (λ rs. sum_by f (edges_of rs)) none in
      omega (arith, all, zero);
}

pub rings_skip : (es : List Edge) (next : List ℕ) (first : ℕ) (taken : List Bool) (rings : List (List Point)) → AreRings es next first taken rings → get_or taken first true ≡ true → AreRings es next (first + 1) taken rings
rings_skip es next first taken rings are here = record { whole = are.whole; done = below_more _ _ are.done here; sums = are.sums }

-- a walk from the first edge makes one more ring
pub rings_more : (es : List Edge) (next : List ℕ) (first : ℕ) (taken after : List Bool) (rings more : List (List Point)) (ring : List Point) → AreRings es next first taken rings → IsTakenWhole next after
    → ((f : Point × Point → ℕ) → sum_by f (edges ring) + untaken_sum f es after ≡ untaken_sum f es taken)
    → ((k : ℕ) → get_or taken k true ≡ true → get_or after k true ≡ true) → get_or after first true ≡ true → more ≡ rings ++ ring ∷ [] → AreRings es next (first + 1) after more
rings_more es next first taken after rings more ring are whole sums kept here pushed = record {
  whole = whole;
  done = below_more _ _ (λ k low. kept k (are.done k low)) here;
  sums = λ f.
      let longer = ap (λ rs. sum_by f (edges_of rs)) pushed ∙ ap (sum_by f) (sym (flat_map_more edges [] rings ring)) ∙ sum_by-append f (edges_of rings) (edges ring) in
      omega (arith, longer, sums f, are.sums f);
}

pub rings_whole : (given es : List Edge) (next : List ℕ) (first : ℕ) (taken : List Bool) (rings : List (List Point)) → IsPermutation given es → AreRings es next first taken rings → length es ≤ first
    → (f : Point × Point → ℕ) → sum_by f (edges_of rings) ≡ sum_by (λ (e : Edge). f (way e)) given
rings_whole given es next first taken rings moved are past f =
    let none = untaken_none f es taken (λ k low. are.done k (omega arith)) in
    omega (arith, none, are.sums f, sum_by-IsPermutation (λ (e : Edge). f (way e)) given es moved)

-- The order of the edges doesn't count.
pub closed_moved : (given es : List Edge) → IsPermutation given es → IsClosed given → IsClosed es
closed_moved given es moved closed f =
    sum_by-IsPermutation (λ (e : Edge). f e.from) given es moved ∙ closed f ∙ sym (sum_by-IsPermutation (λ (e : Edge). f e.to) given es moved)
