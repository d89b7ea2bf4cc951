-- Public: the script that a seed and a number of events generate (docs/PROGRAM.md).
use Rattle.std.specs.Prelude.{ℕ, ◌*◌, List, ◌++◌, codes, flat_map}
use Rattle.std.specs.List.{range_with_len}
use Rattle.generated_script.specs.Draws.{state_after_draws}
use Rattle.generated_script.specs.Lines.{line_text, line_numbers}

-- the lines before the events
abbrev pub header : List ℕ
header =
    codes "[Script Info]\nScriptType: v4.00+\nPlayResX: 320\nPlayResY: 180\nWrapStyle: 0\n"
    ++ codes "[V4+ Styles]\nStyle: Default,grid,12,&H00FFFFFF,&H000000FF,&H00000000,&H80000000,"
    ++ codes "0,0,0,0,100,100,0,0,1,1,1,2,8,8,8,1\n[Events]\n"

-- the line at place i: each line before it took six draws
abbrev pub generated_line : ℕ → ℕ → List ℕ
generated_line seed i = line_text i (line_numbers (state_after_draws (6 * i) seed))

-- the script of so many events
abbrev pub generated : ℕ → ℕ → List ℕ
generated seed events = header ++ flat_map (generated_line seed) (range_with_len 0 events)
