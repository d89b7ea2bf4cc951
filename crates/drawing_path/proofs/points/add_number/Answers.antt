use Rattle.std.proofs.Common.{◌≡◌, [], ◌∷◌, ◌++◌, sym, ap, ◌∙◌, rules}
use Rattle.std.specs.Option.{option_to_list}
use Rattle.ass_num.specs.declared.geometry.Point.{Point}
use Rattle.drawing_path.specs.Runs.{coordinates}
use Rattle.drawing_path.proofs.ReadingLemmas.{second_added}
use Rattle.drawing_path.proofs.points.add_number.Goals as goal

pub returns-in_ok-push-in-Some : goal.returns-in_ok-push-in-Some
returns-in_ok-push-in-Some c = λ rest.
    let point : Point = record { x = c.in-Some.x; y = c.args.number } in
    let old = c.args.points.now.items in
    let items : c.push.new.self.items ≡ old ++ point ∷ [] = search rules in
    ap (λ z. coordinates z ++ rest) items ∙ second_added old point rest
    ∙ ap (λ z. coordinates old ++ (option_to_list z ++ (c.args.number ∷ rest))) (sym c.in-Some.is)
