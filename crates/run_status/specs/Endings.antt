-- Public: how a run ends that was told how to report (docs/REPORTS.md).
use Rattle.std.specs.Prelude.{ℕ, ◌==◌, if◌then◌else◌, List, [], ◌++◌, codes, length}
use Rattle.json_lines.specs.Members.{json_line, number_member, object_of, text_member}
use Rattle.run_status.specs.Statuses.{exit_status_of, status_line}
use Rattle.run_status.specs.declared.ending.Ending.{Ending}
use Rattle.run_status.specs.declared.ending.Ending.TheVariants.{As, ListFault, Closed, ClosedQuietly}
use Rattle.run_status.specs.declared.status.Status.TheVariants.{OutOfMemory}

-- the exit status of the program
abbrev pub ending_exit : Ending → ℕ
ending_exit (As status) = exit_status_of status
ending_exit ListFault = 7
ending_exit Closed = 7
ending_exit ClosedQuietly = 0

-- what the report says of it
abbrev pub ending_line : Ending → List ℕ
ending_line (As status) = status_line status
ending_line ListFault = codes "write fault: index\n"
ending_line Closed = codes "closed: frames\n"
ending_line ClosedQuietly = []

-- the exit status with this line, as a line of JSON
abbrev pub line_object : ℕ → List ℕ → List ℕ
line_object exit line = json_line (object_of (number_member (codes "exit") exit ++ text_member (codes "line") line))

-- the same, but nothing where there is no line
abbrev pub told_object : ℕ → List ℕ → List ℕ
told_object exit line = if length line == 0 then [] else line_object exit line

-- what the report says of it where it is written as JSON
abbrev pub ending_json : Ending → List ℕ
ending_json ending = told_object (ending_exit ending) (ending_line ending)

abbrev pub memory_ending : Ending
memory_ending = As OutOfMemory
