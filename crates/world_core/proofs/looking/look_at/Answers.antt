use Rattle.std.proofs.Common.{ap, to_z-of_z}
use Rattle.text_layout.specs.Settings.{SettingValue}
use Rattle.world_core.proofs.looking.look_at.Goals as goal

pub returns : goal.returns
returns c = λ history tells. record {
  n = c.entries.ensures history tells;
  size = ap (λ (s : SettingValue). s.frame.size) c.setting.view_is;
  frame = c.requires.setting.frame.size;
  draws = rw (c.requires.plain, to_z-of_z c.ranges.t) at (c.in_ok-plan.ensures history tells);
}
