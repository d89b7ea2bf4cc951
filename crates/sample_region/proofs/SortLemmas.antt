-- What a sort by a number says.
use Rattle.std.proofs.Common.{◌≡◌, ℤ, ◌≤ℤ◌, false, List, arith, get_or, IsSortedByKey}
use Rattle.std.proofs.lemmas.Int.{ints}
use Rattle.std.proofs.lemmas.List.Sorted.{sorted_far, ranks_by, answers_always}
use Rattle.std.proofs.lemmas.Cmp.{int_cmp_total}
use Rattle.std.specs.Ordering.{int_cmp, is_lt}
use Rattle.std.specs.Fn.{ComputesKey, Called}
use Rattle.sample_region.specs.Edges.{IsAscendingBy}
use denote.Param.Members.{Mut}
use denote.Ref.{Bor}

not_less : (a b : ℤ) → is_lt (int_cmp a b) ≡ false → b ≤ℤ a
not_less a b h = grind (arith, ints)

ascending : {X : Type 0} (key : X → ℤ) (xs : List X) → IsSortedByKey key int_cmp xs → IsAscendingBy key xs
ascending {X = X} key xs up i j d h k = not_less (key (get_or xs j d)) (key (get_or xs i d)) (sorted_far (λ (x : X) (y : X). is_lt (int_cmp (key x) (key y))) (ranks_by int_cmp_total key) xs up i j d h k)

pub ascending_from_sort : {X : Type 0} (key : X → ℤ) {F : Type 0} {g : Mut F (Bor X × Unit {0}) ℤ} {f : F} (xs : List X)
    → ((k : X → ℤ) → ComputesKey g k f → IsSortedByKey k int_cmp xs)
    → ((f : F) (a : Bor X × Unit {0}) (r : ℤ) (f' : F) → Called g f a r f' → r ≡ key a.0.now) → IsAscendingBy key xs
ascending_from_sort key {g = g} {f = f} xs up h = ascending key xs (up key (answers_always g (λ a r. r ≡ key a.0.now) f h))
