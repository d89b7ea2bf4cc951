-- What a sort of runs by where they begin says.
use Rattle.std.proofs.Common.{◌≡◌, ℤ, ◌≤ℤ◌, false, List, arith, get_or, IsSortedByKey}
use Rattle.std.proofs.lemmas.Int.{ints}
use Rattle.std.proofs.lemmas.List.Sorted.{sorted_far, ranks_by, answers_always}
use Rattle.std.proofs.lemmas.Cmp.{int_cmp_total}
use Rattle.std.specs.Ordering.{int_cmp, is_lt}
use Rattle.std.specs.Fn.{ComputesKey, Called}
use Rattle.ass_num.specs.declared.region.Run.{Run}
use Rattle.border_region.specs.StripRows.{IsRising}
use denote.Param.Members.{Mut}
use denote.Ref.{Bor}

abbrev begin_of : Run → ℤ
begin_of run = run.from

no_less : (a b : ℤ) → is_lt (int_cmp a b) ≡ false → b ≤ℤ a
no_less a b h = grind (arith, ints)

rising : (runs : List Run) → IsSortedByKey begin_of int_cmp runs → IsRising runs
rising runs up m n d h k = no_less (get_or runs n d).from (get_or runs m d).from (sorted_far (λ (x : Run) (y : Run). is_lt (int_cmp x.from y.from)) (ranks_by int_cmp_total begin_of) runs up m n d h k)

pub rising_from_sort : {F : Type 0} {g : Mut F (Bor Run × Unit {0}) ℤ} {f : F} (runs : List Run) → ((k : Run → ℤ) → ComputesKey g k f → IsSortedByKey k int_cmp runs)
    → ((f : F) (a : Bor Run × Unit {0}) (r : ℤ) (f' : F) → Called g f a r f' → r ≡ a.0.now.from) → IsRising runs
rising_from_sort {g = g} {f = f} runs up h = rising runs (up begin_of (answers_always g (λ a r. r ≡ begin_of a.0.now) f h))
