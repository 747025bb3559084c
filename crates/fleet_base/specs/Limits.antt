-- The limits of maps, plans, reports and files, by name. Each is the greatest that is allowed.

use Rattle.std.specs.Prelude.{ℕ, ◌^◌}

-- rows or columns of a map
abbrev pub span_limit : ℕ
span_limit = 4096

-- robots of a plan
abbrev pub robot_limit : ℕ
robot_limit = 256

-- the number of a listed tick of a plan; the first one is 0
abbrev pub tick_limit : ℕ
tick_limit = 4096

-- visits of all robots together
abbrev pub visit_limit : ℕ
visit_limit = 65536

-- pairs of a plan
abbrev pub pair_limit : ℕ
pair_limit = 1048576

-- ticks that a move may be late
abbrev pub delay_limit : ℕ
delay_limit = 1000000

-- the tick of a report
abbrev pub moment_limit : ℕ
moment_limit = 10 ^ 12

-- accepted reports
abbrev pub report_limit : ℕ
report_limit = 2 ^ 62

-- expanded nodes of a search
abbrev pub budget_limit : ℕ
budget_limit = 4096

-- bytes of a report line
abbrev pub line_limit : ℕ
line_limit = 256

-- bytes of a map or a plan
abbrev pub paper_limit : ℕ
paper_limit = 2 ^ 25

-- bytes of a journal's side
abbrev pub side_limit : ℕ
side_limit = 2 ^ 30

-- bytes of a session's input
abbrev pub input_limit : ℕ
input_limit = 2 ^ 32
