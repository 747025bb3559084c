-- The lines of a scenario, from the first to the last.
use Rattle.std.proofs.Common.{ℕ, zero, suc, ◌≡◌, ◌≢◌, ◌+◌, ◌-◌, ◌<◌, ◌≤◌, List, [], ◌∷◌, ◌++◌, length, drop, get_or, Option, Some, None, Result, Err, refl, sym, ap, ◌∙◌, subst, ⊎_elim, arith, length-append}
use Rattle.std.proofs.Math.Seq.{get_or-append_seam}
use Rattle.std.specs.Prelude.{slice_get, IfSome, IsSomeAnd}
use Rattle.std.proofs.lemmas.Bool.{cases_lt}
use Rattle.std.proofs.lemmas.List.{drop-drop, length-drop, get_or_append_left}
use Rattle.std.proofs.lemmas.Option.{slice_get-get_or, slice_get_within, slice_get_past, get_or_from_slice_get}
use Rattle.fleet_base.specs.Bytes.{file_lines}
use Rattle.map_text.specs.declared.scenario.Task.{Task}
use Rattle.map_text.specs.declared.scenario.ScenKind.{ScenKind}
use Rattle.map_text.specs.declared.scenario.ScenKind.TheVariants.{Version, Fields, Number, Empty}
use Rattle.map_text.specs.declared.scenario.ScenFault.{ScenFault}
use Rattle.map_text.specs.declared.scenario.ScenError.{ScenError}
use Rattle.fleet_base.specs.declared.lists.Items.{Items}
use Rattle.map_text.specs.declared.scenario.ScenError.TheVariants as scen_error
use Rattle.map_text.specs.declared.fault.MapKind.{MapKind}
use Rattle.map_text.specs.RowFaults.{AreBlank, IsBlankFault}
use Rattle.map_text.specs.ScenText.{IsVersion, HasFields, IsTaskLine, IsScenLine, IsScenText}
use Rattle.map_text.specs.ScenFaults.{HasBadNumber, IsWrongScen, IsScenLineAbove, IsScenFault, ScenFaultIsFirst}
use Rattle.map_text.specs.TaskLines.{IsWrongTask, TaskFaultIs, TakesTasks, IsTasksFault, TasksFaultIs}
use Rattle.map_text.proofs.TakenRows.{slice_get-drop}
use Rattle.map_text.proofs.OneScenario.{not_empty}

-- a line tells some task
abbrev pub Tells : Option (List ℕ) → Type 0
Tells line = IsSomeAnd line (λ text. (task : Task) × IsTaskLine text task)

no_task : Task
no_task = record { width = 0; height = 0; start = record { row = 0; col = 0 }; goal = record { row = 0; col = 0 } }

-- some task, of a line that tells one
tells : (line : Option (List ℕ)) (task : Task) → IsSomeAnd line (λ text. IsTaskLine text task) → Tells line
tells None task h = absurd h
tells (Some text) task h = (task, h)

-- the line of each task
told_at : {lines rest : List (List ℕ)} {tasks : List Task} → TakesTasks lines rest tasks → (j : ℕ) → j < length tasks → Tells (slice_get lines j)
told_at {lines} {rest} {tasks} so j inside = tells (slice_get lines j) (get_or tasks j no_task) (so.told j (get_or tasks j no_task) (slice_get-get_or tasks j no_task inside))

-- what stands where the rest begins, and below
rest_at : {lines rest : List (List ℕ)} {tasks : List Task} → TakesTasks lines rest tasks → (k : ℕ) → slice_get rest k ≡ slice_get lines (length tasks + k)
rest_at {lines} {rest} {tasks} so k = ap (λ ls. slice_get ls k) so.left ∙ slice_get-drop (length tasks) lines k

pub no_tasks_yet : (lines : List (List ℕ)) → TakesTasks lines lines []
no_tasks_yet lines = record {
  told = λ j task e. absurd (omega (arith, slice_get_within {A = Task} [] j task e));
  left = refl;
}

pub one_more_task : {lines rest rest' : List (List ℕ)} {tasks : List Task} (line : List ℕ) (task : Task) → TakesTasks lines rest tasks → rest ≡ line ∷ rest' → IsTaskLine line task → TakesTasks lines rest' (tasks ++ task ∷ [])
one_more_task {lines} {rest} {rest'} {tasks} line task so e is = record {
  told = λ j other here. ⊎_elim (old j other here) (new j other here) (cases_lt j (length tasks));
  left = ap (drop 1) (sym e ∙ so.left) ∙ drop-drop 1 (length tasks) lines ∙ ap (λ n. drop n lines) (omega (arith, length-append tasks (task ∷ [])));
}
  where
    old : (j : ℕ) (other : Task) → slice_get (tasks ++ task ∷ []) j ≡ Some other → j < length tasks → IsSomeAnd (slice_get lines j) (λ text. IsTaskLine text other)
    old j other here inside =
        let is : get_or tasks j other ≡ other = sym (get_or_append_left tasks (task ∷ []) other j inside) ∙ get_or_from_slice_get (tasks ++ task ∷ []) j other other here in
        so.told j other (slice_get-get_or tasks j other inside ∙ ap (λ (t : Task). Some t) is)

    new : (j : ℕ) (other : Task) → slice_get (tasks ++ task ∷ []) j ≡ Some other → length tasks ≤ j → IsSomeAnd (slice_get lines j) (λ text. IsTaskLine text other)
    new j other here past =
        let last : j ≡ length tasks = omega (arith, slice_get_within (tasks ++ task ∷ []) j other here, length-append tasks (task ∷ [])) in
        let same : task ≡ other = sym (get_or-append_seam tasks task [] other) ∙ ap (λ k. get_or (tasks ++ task ∷ []) k other) (sym last) ∙ get_or_from_slice_get (tasks ++ task ∷ []) j other other here in
        let there : slice_get lines j ≡ Some line = ap (slice_get lines) (omega (arith, last)) ∙ sym (rest_at so 0) ∙ ap (λ ls. slice_get ls 0) e in
        subst (λ (l : Option (List ℕ)). IsSomeAnd l (λ text. IsTaskLine text other)) (sym there) (subst (IsTaskLine line) same is)

-- no fewer lines than tasks
pub tasks_count : {lines rest : List (List ℕ)} {tasks : List Task} → TakesTasks lines rest tasks → length tasks ≤ length lines
tasks_count {lines} {rest} {tasks} so = ⊎_elim short (λ long. long) (cases_lt (length lines) (length tasks))
  where
    short : length lines < length tasks → length tasks ≤ length lines
    short less = absurd (subst Tells (slice_get_past lines (length lines) (omega arith)) (told_at so (length lines) less))

-- the lines are those of the tasks and the rest
pub lines_count : {lines rest : List (List ℕ)} {tasks : List Task} → TakesTasks lines rest tasks → length tasks + length rest ≡ length lines
lines_count {lines} {rest} {tasks} so = let h = tasks_count so in omega (arith, ap length so.left, length-drop (length tasks) lines)

-- a line that is refused is the first that is wrong
pub wrong_line : {T : Type 0} {lines rest rest' : List (List ℕ)} {tasks : List Task} (line : List ℕ) (number : ℕ) (e : ScenError) (r : Result Task ScenError) (q : Result T ScenError) → r ≡ Err e → q ≡ Err e
    → TakesTasks lines rest tasks → rest ≡ line ∷ rest' → line ≢ [] → number ≡ length tasks + 2 → TaskFaultIs line number r → TasksFaultIs lines q
wrong_line {T} {lines} {rest} {rest'} {tasks} line number (scen_error.Fault f) r q refused returned so is some counted fault =
    let here : TaskFaultIs line number (Err (scen_error.Fault f)) = subst (TaskFaultIs line number) refused fault in
    let there : slice_get lines (length tasks) ≡ Some line = ap (slice_get lines) (omega arith) ∙ sym (rest_at so 0) ∙ ap (λ ls. slice_get ls 0) is in
    subst (TasksFaultIs lines) (sym returned) (record {
      place = length tasks;
      counted = here.0 ∙ counted;
      above = told_at so;
      here = subst (λ (l : Option (List ℕ)). IsSomeAnd l (λ text. (text ≢ []) × IsWrongTask text f.kind)) (sym there) (some, here.1);
    })
wrong_line {T} {lines} {rest} {rest'} {tasks} line number scen_error.Memory r q refused returned so is some counted fault =
    subst (TasksFaultIs lines) (sym returned) tt

module _ (lines body : List (List ℕ)) (line : List ℕ) (version : IsVersion line) (is : lines ≡ line ∷ body) where
  -- a line below the version
  below : (k : ℕ) → slice_get lines (suc k) ≡ slice_get body k
  below k = ap (λ ls. slice_get ls (suc k)) is

  heading : IsSomeAnd (slice_get lines 0) IsVersion
  heading = subst (λ ls. IsSomeAnd (slice_get ls 0) IsVersion) (sym is) version

  -- the version, and lines that tell tasks
  above : (n : ℕ) → ((j : ℕ) → j < n → Tells (slice_get body j)) → (j : ℕ) → j < suc n → IsScenLineAbove j (slice_get lines j)
  above n each zero inside = record { heading = λ _. heading; task = λ h. absurd (omega (arith, h)) }
  above n each (suc j) inside = record {
    heading = λ z. absurd (omega (arith, z));
    task = λ _. subst Tells (sym (below j)) (each j (omega (arith, inside)));
  }

  -- a wrong line among the tasks
  pub fault_in_tasks : (at : ℕ) (kind : ScenKind) → IsTasksFault body at kind → IsScenFault lines at kind
  fault_in_tasks at kind fault = record {
    place = suc fault.place;
    counted = omega (arith, fault.counted);
    above = above fault.place fault.above;
    here = wrong kind (slice_get lines (suc fault.place)) refl (subst (λ (l : Option (List ℕ)). IsSomeAnd l (λ text. (text ≢ []) × IsWrongTask text kind)) (sym (below fault.place)) fault.here);
  }
    where
      wrong : (kind : ScenKind) (l : Option (List ℕ)) → slice_get lines (suc fault.place) ≡ l → IsSomeAnd l (λ text. (text ≢ []) × IsWrongTask text kind) → IsWrongScen lines (suc fault.place) kind
      wrong kind None e h = absurd h
      wrong Fields (Some text) e h =
          let there : IsSomeAnd (slice_get lines (suc fault.place)) (λ l. l ≢ []) = subst (λ (l : Option (List ℕ)). IsSomeAnd l (λ text. text ≢ [])) (sym e) h.0 in
          (omega arith, (suc fault.place, omega arith, there), subst (λ (l : Option (List ℕ)). IsSomeAnd l (λ text. ¬ HasFields text)) (sym e) h.1)
      wrong Number (Some text) e h = (omega arith, subst (λ (l : Option (List ℕ)). IsSomeAnd l (λ text. HasFields text × HasBadNumber text)) (sym e) h.1)
      wrong Version (Some text) e h = absurd h.1
      wrong Empty (Some text) e h = absurd h.1

  module _ (rest : List (List ℕ)) (tasks : List Task) (so : TakesTasks body rest tasks) where
    -- a line below the tasks
    past_tasks : (k : ℕ) → length tasks < k → slice_get lines k ≡ slice_get rest (k - suc (length tasks))
    past_tasks zero past = absurd (omega (arith, past))
    past_tasks (suc k) past = below k ∙ ap (slice_get body) (omega (arith, past)) ∙ sym (rest_at so (suc k - suc (length tasks)))

    -- nothing follows the tasks, of which there is one at least
    pub whole_scen : (text : List ℕ) → file_lines text ≡ lines → AreBlank rest → 1 ≤ length tasks → IsScenText text tasks
    whole_scen text e blank some = record {
      some = some;
      lines = λ k. subst (λ ls. IsScenLine tasks k (slice_get ls k)) (sym e) (record {
        heading = λ z. subst (λ n. IsSomeAnd (slice_get lines n) IsVersion) (sym z) heading;
        task = λ j task k_is here. subst (λ n. IsSomeAnd (slice_get lines n) (λ l. IsTaskLine l task)) (sym k_is) (subst (λ (l : Option (List ℕ)). IsSomeAnd l (λ l. IsTaskLine l task)) (sym (below j)) (so.told j task here));
        after = λ past. subst (λ (l : Option (List ℕ)). IfSome l (λ l. l ≡ [])) (sym (past_tasks k past)) (blank (k - suc (length tasks)));
      });
    }

    -- nothing follows the version
    pub no_task_follows : AreBlank rest → length tasks ≡ 0 → IsScenFault lines 2 Empty
    no_task_follows blank none = record {
      place = 1;
      counted = refl;
      above = above 0 (λ j h. absurd (omega (arith, h)));
      here = (refl, λ j past. subst (λ (l : Option (List ℕ)). IfSome l (λ l. l ≡ [])) (sym (past_tasks j (omega (arith, past, none)))) (blank (j - suc (length tasks))));
    }

    -- an empty line stands before another
    pub line_after_end : (above at number : ℕ) (kind : MapKind) → IfSome (slice_get rest 0) (λ l. l ≡ []) → IsBlankFault above rest at kind → number ≡ length tasks + 2 → IsScenFault lines number Fields
    line_after_end above' at number kind stop fault counted = record {
      place = suc (length tasks);
      counted = omega (arith, counted);
      above = above (length tasks) (told_at so);
      here = (omega arith, (suc (length tasks) + fault.place, omega arith, more), first (slice_get rest 0) start stop);
    }
      where
        start : slice_get rest 0 ≡ slice_get lines (suc (length tasks))
        start = rest_at so 0 ∙ ap (slice_get body) (omega arith) ∙ sym (below (length tasks))

        more : IsSomeAnd (slice_get lines (suc (length tasks) + fault.place)) (λ l. l ≢ [])
        more = subst (λ (l : Option (List ℕ)). IsSomeAnd l (λ l. l ≢ [])) (ap (slice_get rest) (omega arith) ∙ sym (past_tasks (suc (length tasks) + fault.place) (omega arith))) fault.here

        there : (rest : List (List ℕ)) (p : ℕ) → slice_get rest 0 ≡ None → IsSomeAnd (slice_get rest p) (λ l. l ≢ []) → ⊥
        there [] p e h = h
        there (x ∷ xs) p e h = cc

        first : (l : Option (List ℕ)) → l ≡ slice_get lines (suc (length tasks)) → IfSome l (λ l. l ≡ []) → IsSomeAnd (slice_get lines (suc (length tasks))) (λ l. ¬ HasFields l)
        first None e blank = absurd (there rest fault.place (start ∙ sym e) fault.here)
        first (Some text) e blank = subst (λ (l : Option (List ℕ)). IsSomeAnd l (λ l. ¬ HasFields l)) e (λ f. not_empty text f blank)

-- a text whose first line is no version
pub no_version : (lines : List (List ℕ)) → (IsSomeAnd (slice_get lines 0) IsVersion → ⊥) → IsScenFault lines 1 Version
no_version lines none = record {
  place = 0;
  counted = refl;
  above = λ j h. absurd (omega (arith, h));
  here = (refl, none);
}

-- an answer that is this fault
pub refused_by : (lines : List (List ℕ)) (e : ScenError) (f : ScenFault) → e ≡ scen_error.Fault f → IsScenFault lines f.line f.kind → ScenFaultIsFirst lines (Err e)
refused_by lines e f is fault = subst (λ (x : ScenError). ScenFaultIsFirst lines (Err x)) (sym is) fault

-- a refusal of the lines of tasks is one of the scenario
pub tasks_refused : {T : Type 0} (lines body : List (List ℕ)) (line : List ℕ) → IsVersion line → lines ≡ line ∷ body → (e : ScenError) (r : Result T ScenError) (q : Result (Items Task) ScenError) → r ≡ Err e → q ≡ Err e
    → TasksFaultIs body r → ScenFaultIsFirst lines q
tasks_refused lines body line version is (scen_error.Fault f) r q refused returned fault =
    subst (ScenFaultIsFirst lines) (sym returned) (fault_in_tasks lines body line version is f.line f.kind (subst (TasksFaultIs body) refused fault))
tasks_refused lines body line version is scen_error.Memory r q refused returned fault = subst (ScenFaultIsFirst lines) (sym returned) tt
