use Rattle.std.proofs.Common.{◌≡◌, ◌<◌, ◌≤◌, ℕ, List, Option, Some, None, [], ◌++◌, IfSome, length, take, min, arith, rules}
use Rattle.std.proofs.lemmas.Grind.{common_steps}
use Rattle.std.proofs.lemmas.List.{length-take, take_all}
use Rattle.std.specs.Option.{option_map}
use Rattle.ass_num.specs.Causes.{IfTold}
use Rattle.ass_io.proofs.file_shelf.read_file.Goals as goal

-- fewer bytes than were asked for are all that there were
whole : (n : ℕ) (left : Option (List ℕ)) (bytes : List ℕ) → IfSome (option_map (take n) left) (λ xs. bytes ≡ [] ++ xs) → length bytes < n → IfTold left (λ all. bytes ≡ all)
whole n None bytes h fewer = search rules
whole n (Some all) bytes h fewer =
    let front : bytes ≡ take n all = h in
    let short : length (take n all) < n = rw (← front) fewer in
    let size : length (take n all) ≡ min n (length all) = length-take n all in
    let within : length all ≤ n = omega arith in
    let everything : take n all ≡ all = take_all n all within in
    cc

pub returns-in-Ok : goal.returns-in-Ok
returns-in-Ok g c =
    let limit_is : c.take.result.limit ≡ 67108865 = c.take.ensures.limit in
    let front = rw (c.requires, limit_is, c.take.ensures.inner) at c.in-Ok.ensures.bytes in
    let fewer : length c.read_to_end.new.buf.items < 67108865 = grind (arith, common_steps) in
    (whole 67108865 (g.F.Read.remaining c.args.file) c.read_to_end.new.buf.items front fewer, omega arith)
