use Rattle.std.proofs.Common.{◌≡◌, ap, rules}
use Rattle.text_layout.specs.Settings.{SettingValue}
use Rattle.run_reports.proofs.ChangeLemmas.{found_as, line_told}
use Rattle.run_reports.proofs.changes.line_at.Goals as goal

pub find_change-requires-clause-screen : goal.find_change-requires-clause-screen
find_change-requires-clause-screen c =
    let size : c.setting.inside.frame.size ≡ c.args.setting.now.frame.size = ap (λ (s : SettingValue). s.frame.size) c.setting.view_is in
    rw (c.requires.same, size) c.requires.screen

pub returns-clause-screen : goal.returns-clause-screen
returns-clause-screen c =
    let same = rw (← c.setting.view_is) at c.requires.same in
    rw (← c.setting.view_is) (search (rules, same))

pub returns-clause-line : goal.returns-clause-line
returns-clause-line c =
    let size : c.setting.inside.frame.size ≡ c.args.setting.now.frame.size = ap (λ (s : SettingValue). s.frame.size) c.setting.view_is in
    line_told c.args.form c.args.setting.now.fonts c.args.setting.now.frame.size c.args.t c.args.screen.now.plan.draws c.find_change.new.screen.plan.draws c.in_ok-change.change c.change_in.result
    (found_as _ _ _ _ _ _ _ _ c.in_ok-change.ensures.change c.requires.same size c.in_ok-change.ensures.draws) c.change_in.ensures
