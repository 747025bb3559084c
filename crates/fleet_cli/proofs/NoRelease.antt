-- What a call sends that is no session begins no line with `release`.
use Rattle.std.proofs.Common.{ℕ, Bool, true, false, ◌≡◌, ◌≢◌, ◌⊎◌, ◌+◌, ◌-◌, ◌≤◌, List, [], ◌∷◌, ◌++◌, refl, sym, ap, ◌∙◌, subst, inl, inr, arith, length, take, drop, map, append-nil}
use Rattle.std.specs.Prelude.{Contains, codes, sum_by, if◌then◌else◌, ◌==◌}
use Rattle.std.specs.Int.Digits.{digits_of}
use Rattle.std.proofs.lemmas.List.Elements.{Contains-append_cases}
use Rattle.fleet_base.specs.declared.geometry.Cell.{Cell}
use Rattle.fleet_base.specs.declared.geometry.PlannedVisit.{PlannedVisit}
use Rattle.fleet_base.specs.declared.status.Status.{Status}
use Rattle.fleet_base.specs.declared.status.Status.TheVariants.{Usage}
use Rattle.fleet_base.specs.Bytes.{numeral, field, fields, text_of_lines}
use Rattle.fleet_base.specs.Grid.{OccupancyGrid, is_free}
use Rattle.fleet_base.specs.Lists.{range}
use Rattle.fleet_base.specs.Pairs.{pairs_of}
use Rattle.fleet_base.proofs.Members.{in_one, in_none}
use Rattle.fleet_base.proofs.LineLaws.{AtLeast, AtLeast_by, AtLeast-append, AtLeast-less, all_of, whole_lines_sent, field-at_least}
use Rattle.map_text.specs.declared.fault.MapKind.{MapKind}
use Rattle.map_text.specs.declared.fault.MapKind.TheVariants as map_kind
use Rattle.map_text.specs.declared.scenario.ScenKind.{ScenKind}
use Rattle.map_text.specs.declared.scenario.ScenKind.TheVariants as scen_kind
use Rattle.map_text.specs.MapText.{map_lines, row_text}
use Rattle.path_planner.specs.declared.fault.TaskWhy.{TaskWhy}
use Rattle.path_planner.specs.declared.fault.TaskWhy.TheVariants as task_why
use Rattle.plan_text.specs.declared.fault.PlanKind.{PlanKind}
use Rattle.plan_text.specs.declared.fault.PlanKind.TheVariants as plan_kind
use Rattle.plan_text.specs.PlanText.{cell_text, path_text, label_of, plan_text_from, plan_text_of}
use Rattle.plan_check.specs.declared.fault.Large.{Large}
use Rattle.plan_check.specs.declared.fault.Large.TheVariants as large
use Rattle.plan_check.specs.declared.fault.Unsound.{Unsound}
use Rattle.plan_check.specs.declared.fault.Unsound.TheVariants as unsound
use Rattle.fleet_recovery.specs.Image.{Image, Blank, NotJournal, OtherPlan, BadRecord, Found}
use Rattle.fleet_cli.specs.declared.fault.Paper.{Paper}
use Rattle.fleet_cli.specs.declared.fault.Paper.TheVariants as paper
use Rattle.fleet_cli.specs.declared.fault.Fault.{Fault}
use Rattle.fleet_cli.specs.declared.fault.Fault.TheVariants as fault
use Rattle.fleet_cli.specs.Lives.{ReleasesNone}
use Rattle.fleet_cli.specs.Lines.{paper_word, map_word, plan_word, scen_word, task_word, large_word, unsound_line, fault_line, sound_line}
use Rattle.fleet_cli.specs.Generating.{IsFleetText}
use Rattle.fleet_cli.specs.Papers.{Files}
use Rattle.fleet_cli.specs.Due.{IsMade, a_fleet, a_plan, IsDue, a_check, a_made_text, a_refusal}
use Rattle.fleet_cli.specs.Runs.{IsRefusalLine}

-- ---- lines that tell no robot to move

-- the line has no control bytes, and does not begin with `release`
pub record TellsNone (line : List ℕ) : Type 0 where
  plain : AtLeast 14 line
  other : ¬ (take 7 line ≡ codes "release")

abbrev pub AllTellNone : List (List ℕ) → Type 0
AllTellNone [] = Unit {0}
AllTellNone (line ∷ lines) = TellsNone line × AllTellNone lines

each_tells_none : (lines : List (List ℕ)) → AllTellNone lines → (l : List ℕ) → Contains lines l → TellsNone l
each_tells_none [] all l h = absurd (in_none l h)
each_tells_none (line ∷ lines) all l h = go (λ k. each_tells_none lines all.1 l k) (Contains-append_cases (line ∷ []) lines l h)
  where
    go : (Contains lines l → TellsNone l) → Contains (line ∷ []) l ⊎ Contains lines l → TellsNone l
    go later (inl k) = subst TellsNone (in_one line l k) all.0
    go later (inr k) = later k

-- nor does any front of the text of such lines
pub front_tells_none : (lines : List (List ℕ)) → AllTellNone lines → (sent rest : List ℕ) → sent ++ rest ≡ text_of_lines lines → ReleasesNone sent
front_tells_none lines all sent rest e line h begins =
    (each_tells_none lines all line (whole_lines_sent lines (all_of 14 lines (λ l k. (each_tells_none lines all l k).plain)) sent rest e line h)).other begins

-- a line that begins with another letter
other_letter : (c : ℕ) (cs : List ℕ) → c ≢ 114 → AtLeast 14 (c ∷ cs) → TellsNone (c ∷ cs)
other_letter c cs differs plain = record { plain = plain; other = λ e. let same : c ≡ 114 = cc in differs same }

-- ---- numbers and words are plain

plain_both : (xs ys : List ℕ) → AtLeast 14 xs → AtLeast 14 ys → AtLeast 14 (xs ++ ys)
plain_both xs ys a b = AtLeast-append 14 xs ys a b

plain_field : (n : ℕ) → AtLeast 14 (field n)
plain_field n = AtLeast-less 14 32 (field n) (omega arith) (field-at_least n)

plain_fields : (ns : List ℕ) → AtLeast 14 (fields ns)
plain_fields [] = tt
plain_fields (n ∷ ns) = plain_both (field n) (fields ns) (plain_field n) (plain_fields ns)

plain_digits : (ds : List ℕ) → AtLeast 14 (map (λ d. 48 + d) ds)
plain_digits [] = tt
plain_digits (d ∷ ds) = (omega arith, plain_digits ds)

plain_numeral : (n : ℕ) → AtLeast 14 (numeral n)
plain_numeral n = go (n == 0)
  where
    go : (b : Bool) → AtLeast 14 (if b then 48 ∷ [] else map (λ d. 48 + d) (digits_of 10 n))
    go true = (omega arith, tt)
    go false = plain_digits (digits_of 10 n)

plain_paper : (p : Paper) → AtLeast 14 (paper_word p)
plain_paper paper.Map = AtLeast_by 14 (codes "map") refl
plain_paper paper.Plan = AtLeast_by 14 (codes "plan") refl
plain_paper paper.Scen = AtLeast_by 14 (codes "scen") refl

plain_map : (k : MapKind) → AtLeast 14 (map_word k)
plain_map map_kind.Octile = AtLeast_by 14 (codes "type") refl
plain_map map_kind.Height = AtLeast_by 14 (codes "height") refl
plain_map map_kind.Width = AtLeast_by 14 (codes "width") refl
plain_map map_kind.Size = AtLeast_by 14 (codes "size") refl
plain_map map_kind.Map = AtLeast_by 14 (codes "map") refl
plain_map map_kind.Short = AtLeast_by 14 (codes "short") refl
plain_map map_kind.Row = AtLeast_by 14 (codes "row") refl
plain_map map_kind.Char = AtLeast_by 14 (codes "char") refl
plain_map map_kind.More = AtLeast_by 14 (codes "more") refl

plain_plan : (k : PlanKind) → AtLeast 14 (plan_word k)
plain_plan plan_kind.Label = AtLeast_by 14 (codes "label") refl
plain_plan plan_kind.Path = AtLeast_by 14 (codes "path") refl
plain_plan plan_kind.Empty = AtLeast_by 14 (codes "empty") refl

plain_scen : (k : ScenKind) → AtLeast 14 (scen_word k)
plain_scen scen_kind.Version = AtLeast_by 14 (codes "version") refl
plain_scen scen_kind.Fields = AtLeast_by 14 (codes "fields") refl
plain_scen scen_kind.Number = AtLeast_by 14 (codes "number") refl
plain_scen scen_kind.Empty = AtLeast_by 14 (codes "empty") refl

plain_task : (w : TaskWhy) → AtLeast 14 (task_word w)
plain_task task_why.Size = AtLeast_by 14 (codes "size") refl
plain_task task_why.Start = AtLeast_by 14 (codes "start") refl
plain_task task_why.Goal = AtLeast_by 14 (codes "goal") refl
plain_task task_why.SameStart = AtLeast_by 14 (codes "samestart") refl
plain_task task_why.SameGoal = AtLeast_by 14 (codes "samegoal") refl

plain_large : (l : Large) → AtLeast 14 (large_word l)
plain_large large.Robots = AtLeast_by 14 (codes "robots") refl
plain_large large.Ticks = AtLeast_by 14 (codes "ticks") refl
plain_large large.Visits = AtLeast_by 14 (codes "visits") refl

-- ---- lines of refusals

-- a line that begins with `fault`
fault_begins : (rest : List ℕ) → AtLeast 14 rest → TellsNone (codes "fault " ++ rest)
fault_begins rest plain = other_letter 102 (drop 1 (codes "fault ") ++ rest) (λ e. absurd (omega (arith, e))) (plain_both (codes "fault ") rest (AtLeast_by 14 (codes "fault ") refl) plain)

unsound_none : (u : Unsound) → TellsNone (unsound_line u)
unsound_none (unsound.TooLarge which count) = fault_begins (codes "large " ++ large_word which ++ fields (count ∷ [])) (plain_both (codes "large ") (large_word which ++ fields (count ∷ [])) (AtLeast_by 14 (codes "large ") refl) (plain_both (large_word which) (fields (count ∷ [])) (plain_large which) (plain_fields (count ∷ []))))
unsound_none (unsound.Blocked i t) = fault_begins (codes "blocked" ++ fields (i ∷ t ∷ [])) (plain_both (codes "blocked") (fields (i ∷ t ∷ [])) (AtLeast_by 14 (codes "blocked") refl) (plain_fields (i ∷ t ∷ [])))
unsound_none (unsound.Jump i t) = fault_begins (codes "jump" ++ fields (i ∷ t ∷ [])) (plain_both (codes "jump") (fields (i ∷ t ∷ [])) (AtLeast_by 14 (codes "jump") refl) (plain_fields (i ∷ t ∷ [])))
unsound_none (unsound.Share i j t) = fault_begins (codes "share" ++ fields (i ∷ j ∷ t ∷ [])) (plain_both (codes "share") (fields (i ∷ j ∷ t ∷ [])) (AtLeast_by 14 (codes "share") refl) (plain_fields (i ∷ j ∷ t ∷ [])))
unsound_none (unsound.Swap i j t) = fault_begins (codes "swap" ++ fields (i ∷ j ∷ t ∷ [])) (plain_both (codes "swap") (fields (i ∷ j ∷ t ∷ [])) (AtLeast_by 14 (codes "swap") refl) (plain_fields (i ∷ j ∷ t ∷ [])))
unsound_none (unsound.Rotation robots t) = fault_begins (codes "rotation" ++ fields (t ∷ robots)) (plain_both (codes "rotation") (fields (t ∷ robots)) (AtLeast_by 14 (codes "rotation") refl) (plain_fields (t ∷ robots)))

-- words, numbers, a space and a word
worded : (front : List ℕ) (ns word : List ℕ) → AtLeast 14 front → AtLeast 14 word → AtLeast 14 (front ++ fields ns ++ codes " " ++ word)
worded front ns word a b = plain_both (front ++ fields ns ++ codes " ") word (plain_both (front ++ fields ns) (codes " ") (plain_both front (fields ns) a (plain_fields ns)) (AtLeast_by 14 (codes " ") refl)) b

fault_none : (f : Fault) → TellsNone (fault_line f)
fault_none fault.Usage = fault_begins (codes "usage") (AtLeast_by 14 (codes "usage") refl)
fault_none (fault.Long which n) = fault_begins (codes "long " ++ paper_word which ++ fields (n ∷ [])) (plain_both (codes "long ") (paper_word which ++ fields (n ∷ [])) (AtLeast_by 14 (codes "long ") refl) (plain_both (paper_word which) (fields (n ∷ [])) (plain_paper which) (plain_fields (n ∷ []))))
fault_none (fault.Unread which) = fault_begins (codes "read " ++ paper_word which) (plain_both (codes "read ") (paper_word which) (AtLeast_by 14 (codes "read ") refl) (plain_paper which))
fault_none (fault.Map f) = fault_begins (codes "map" ++ fields (f.line ∷ []) ++ codes " " ++ map_word f.kind) (worded (codes "map") (f.line ∷ []) (map_word f.kind) (AtLeast_by 14 (codes "map") refl) (plain_map f.kind))
fault_none (fault.Plan f) = fault_begins (codes "plan" ++ fields (f.line ∷ f.column ∷ []) ++ codes " " ++ plan_word f.kind) (worded (codes "plan") (f.line ∷ f.column ∷ []) (plan_word f.kind) (AtLeast_by 14 (codes "plan") refl) (plain_plan f.kind))
fault_none (fault.Unsound u) = unsound_none u
fault_none (fault.Pairs n) = fault_begins (codes "pairs" ++ fields (n ∷ [])) (plain_both (codes "pairs") (fields (n ∷ [])) (AtLeast_by 14 (codes "pairs") refl) (plain_fields (n ∷ [])))
fault_none (fault.Scen f) = fault_begins (codes "scen" ++ fields (f.line ∷ []) ++ codes " " ++ scen_word f.kind) (worded (codes "scen") (f.line ∷ []) (scen_word f.kind) (AtLeast_by 14 (codes "scen") refl) (plain_scen f.kind))
fault_none (fault.BadTask i why) = fault_begins (codes "task" ++ fields (i ∷ []) ++ codes " " ++ task_word why) (worded (codes "task") (i ∷ []) (task_word why) (AtLeast_by 14 (codes "task") refl) (plain_task why))
fault_none (fault.NoPath i) = fault_begins (codes "nopath" ++ fields (i ∷ [])) (plain_both (codes "nopath") (fields (i ∷ [])) (AtLeast_by 14 (codes "nopath") refl) (plain_fields (i ∷ [])))

-- ---- texts as lines

-- the text is that of lines that tell no robot to move
abbrev pub IsOfLines : List ℕ → Type 0
IsOfLines text = (lines : List (List ℕ)) × AllTellNone lines × (text ≡ text_of_lines lines)

-- one line
one_line : (line : List ℕ) → TellsNone line → IsOfLines (line ++ 10 ∷ [])
one_line line none = (line ∷ [], (none, tt), sym (append-nil (line ++ 10 ∷ [])))

-- the line of a journal that is not opened
pub refusal_line : (image : Image) (text : List ℕ) → IsRefusalLine image text → IsOfLines text
refusal_line Blank text is = absurd is
refusal_line NotJournal text is = subst IsOfLines (sym is) (one_line (codes "fault journal") (fault_begins (codes "journal") (AtLeast_by 14 (codes "journal") refl)))
refusal_line (OtherPlan at) text is = subst IsOfLines (sym is) (one_line (codes "fault other" ++ field at) (fault_begins (codes "other" ++ field at) (plain_both (codes "other") (field at) (AtLeast_by 14 (codes "other") refl) (plain_field at))))
refusal_line (BadRecord n) text is = subst IsOfLines (sym is) (one_line (codes "fault record" ++ field n) (fault_begins (codes "record" ++ field n) (plain_both (codes "record") (field n) (AtLeast_by 14 (codes "record") refl) (plain_field n))))
refusal_line (Found x) text is = absurd is

-- ---- maps

-- the character of a cell
abbrev glyph : Bool → ℕ
glyph b = if b then 46 else 64

cell_glyph : (b : Bool) → (14 ≤ glyph b) × (glyph b ≢ 114)
cell_glyph true = (omega arith, λ e. absurd (omega (arith, e)))
cell_glyph false = (omega arith, λ e. absurd (omega (arith, e)))

plain_cells : (g : OccupancyGrid) (r : ℕ) (cols : List ℕ) → AtLeast 14 (map (λ c. if is_free g (record { row = r; col = c }) then 46 else 64) cols)
plain_cells g r [] = tt
plain_cells g r (c ∷ cols) = ((cell_glyph (is_free g (record { row = r; col = c }))).0, plain_cells g r cols)

row_none : (g : OccupancyGrid) (r : ℕ) (cols : List ℕ) → TellsNone (map (λ c. if is_free g (record { row = r; col = c }) then 46 else 64) cols)
row_none g r [] = record { plain = tt; other = λ e. cc }
row_none g r (c ∷ cols) =
    other_letter (glyph (is_free g (record { row = r; col = c }))) (map (λ c. if is_free g (record { row = r; col = c }) then 46 else 64) cols)
    (cell_glyph (is_free g (record { row = r; col = c }))).1 (plain_cells g r (c ∷ cols))

rows_none : (g : OccupancyGrid) (rows : List ℕ) → AllTellNone (map (row_text g) rows)
rows_none g [] = tt
rows_none g (r ∷ rows) = (row_none g r (range 0 g.width), rows_none g rows)

map_none : (g : OccupancyGrid) → AllTellNone (map_lines g)
map_none g = (
  other_letter 116 (drop 1 (codes "type octile")) (λ e. absurd (omega (arith, e))) (AtLeast_by 14 (codes "type octile") refl),
  (
    other_letter 104 (drop 1 (codes "height ") ++ numeral g.height) (λ e. absurd (omega (arith, e))) (plain_both (codes "height ") (numeral g.height) (AtLeast_by 14 (codes "height ") refl) (plain_numeral g.height)),
    (
      other_letter 119 (drop 1 (codes "width ") ++ numeral g.width) (λ e. absurd (omega (arith, e))) (plain_both (codes "width ") (numeral g.width) (AtLeast_by 14 (codes "width ") refl) (plain_numeral g.width)),
      (other_letter 109 (drop 1 (codes "map")) (λ e. absurd (omega (arith, e))) (AtLeast_by 14 (codes "map") refl), rows_none g (range 0 g.height)),
    ),
  ),
)

-- ---- plans

plain_cell : (c : Cell) → AtLeast 14 (cell_text c)
plain_cell c =
    let row = plain_both (codes "(") (numeral c.row) (AtLeast_by 14 (codes "(") refl) (plain_numeral c.row) in
    let comma = plain_both (codes "(" ++ numeral c.row) (codes ",") row (AtLeast_by 14 (codes ",") refl) in
    let column = plain_both (codes "(" ++ numeral c.row ++ codes ",") (numeral c.col) comma (plain_numeral c.col) in
    plain_both (codes "(" ++ numeral c.row ++ codes "," ++ numeral c.col) (codes ")") column (AtLeast_by 14 (codes ")") refl)

plain_path : (path : List Cell) → AtLeast 14 (path_text path)
plain_path [] = tt
plain_path (c ∷ []) = plain_cell c
plain_path (c ∷ d ∷ cs) = plain_both (cell_text c ++ codes "->") (path_text (d ∷ cs)) (plain_both (cell_text c) (codes "->") (plain_cell c) (AtLeast_by 14 (codes "->") refl)) (plain_path (d ∷ cs))

robot_none : (i : ℕ) (path : List Cell) → TellsNone (label_of i ++ path_text path)
robot_none i path =
    other_letter 65 (drop 1 (label_of i) ++ path_text path) (λ e. absurd (omega (arith, e)))
    (plain_both (label_of i) (path_text path) (plain_both (codes "Agent " ++ numeral i) (codes ": ") (plain_both (codes "Agent ") (numeral i) (AtLeast_by 14 (codes "Agent ") refl) (plain_numeral i)) (AtLeast_by 14 (codes ": ") refl)) (plain_path path))

-- the lines of a plan
abbrev plan_lines : ℕ → List (List Cell) → List (List ℕ)
plan_lines i [] = []
plan_lines i (path ∷ plan) = (label_of i ++ path_text path) ∷ plan_lines (i + 1) plan

plan_none : (i : ℕ) (plan : List (List Cell)) → AllTellNone (plan_lines i plan)
plan_none i [] = tt
plan_none i (path ∷ plan) = (robot_none i path, plan_none (i + 1) plan)

plan_is : (i : ℕ) (plan : List (List Cell)) → plan_text_from i plan ≡ text_of_lines (plan_lines i plan)
plan_is i [] = refl
plan_is i (path ∷ plan) = ap (λ (t : List ℕ). label_of i ++ path_text path ++ (10 ∷ []) ++ t) (plan_is (i + 1) plan)

plan_of_lines : (plan : List (List Cell)) (text : List ℕ) → text ≡ plan_text_of plan → IsOfLines text
plan_of_lines plan text is = (plan_lines 0 plan, plan_none 0 plan, is ∙ plan_is 0 plan)

-- ---- what is due

fleet_of_lines : (seed : ℕ) (plan : Bool) (text : List ℕ) → IsFleetText seed plan text → IsOfLines text
fleet_of_lines seed true text is = plan_of_lines is.0 text is.2
fleet_of_lines seed false text is = (map_lines (Rattle.fleet_gen.specs.Fleets.generated_grid seed), map_none (Rattle.fleet_gen.specs.Fleets.generated_grid seed), is)

made_of_lines : (files : Files) (words : List (List ℕ)) (text : List ℕ) → IsMade files words text → IsOfLines text
made_of_lines files words text (a_fleet seed plan asks is) = fleet_of_lines seed plan text is
made_of_lines files words text (a_plan map_name scen_name robots horizon asks is) = plan_of_lines is.plan text is.text_is

sound_none : (routes : List (List PlannedVisit)) → TellsNone (sound_line routes)
sound_none routes =
    let counts = length routes ∷ sum_by length routes ∷ length (pairs_of routes) ∷ [] in
    other_letter 115 (drop 1 (codes "sound") ++ fields counts) (λ e. absurd (omega (arith, e))) (plain_both (codes "sound") (fields counts) (AtLeast_by 14 (codes "sound") refl) (plain_fields counts))

pub due_of_lines : (files : Files) (failed : List ℕ → Type 0) (words : List (List ℕ)) (end : Status) (text : List ℕ) → IsDue files failed words end text → IsOfLines text
due_of_lines files failed words end text (a_check done command papers routes checks asked is) = subst IsOfLines (sym is) (one_line (sound_line routes) (sound_none routes))
due_of_lines files failed words end text (a_made_text done made) = made_of_lines files words text made
due_of_lines files failed words end text (a_refusal reason cause e is) = subst IsOfLines (sym is) (one_line (fault_line reason) (fault_none reason))
