use Rattle.std.proofs.Common.{◌≡◌, ap, rules}
use Rattle.text_layout.specs.Settings.{SettingValue}
use Rattle.single_run.proofs.change_report.add_instant.Goals as goal

pub show-requires-clause-screen : goal.show-requires-clause-screen
show-requires-clause-screen c =
    let size : c.setting.inside.frame.size ≡ c.args.setting.now.frame.size = ap (λ (s : SettingValue). s.frame.size) c.setting.view_is in
    rw (c.requires.same, size) c.requires.screen

pub returns-clause-screen : goal.returns-clause-screen
returns-clause-screen c =
    let same = rw (← c.setting.view_is) at c.requires.same in
    rw (← c.setting.view_is) (search (rules, same))

pub returns-clause-line : goal.returns-clause-line
returns-clause-line c =
    let same = rw (← c.setting.view_is) at c.requires.same in
    rw (← c.setting.view_is) (search (rules, same))
