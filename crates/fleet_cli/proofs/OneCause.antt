-- Over files that are told, and where the shelf did not fail, words have one refusal at most, and one text is due.
use Rattle.std.proofs.Common.{ℕ, ◌≡◌, ◌⊎◌, ◌<◌, List, [], ◌∷◌, ◌++◌, sym, ap, ◌∙◌, subst, inl, inr, arith, length, take, refl, Some}
use Rattle.std.proofs.lemmas.Bool.{cases_order}
use Rattle.fleet_base.specs.declared.geometry.Cell.{Cell}
use Rattle.fleet_base.specs.declared.geometry.PlannedVisit.{PlannedVisit}
use Rattle.fleet_base.specs.declared.status.Status.{Status}
use Rattle.fleet_base.specs.Bytes.{file_lines}
use Rattle.fleet_base.specs.Grid.{OccupancyGrid}
use Rattle.fleet_base.specs.Pairs.{pairs_of}
use Rattle.fleet_base.specs.Plan.{visits_of}
use Rattle.map_text.specs.declared.fault.MapFault.{MapFault}
use Rattle.map_text.specs.declared.scenario.ScenFault.{ScenFault}
use Rattle.map_text.specs.declared.scenario.Task.{Task}
use Rattle.map_text.specs.MapFaults.{IsMapFault}
use Rattle.map_text.specs.ScenFaults.{IsScenFault}
use Rattle.map_text.proofs.OneFault as map
use Rattle.map_text.proofs.OneScenario as scenario
use Rattle.plan_text.specs.declared.fault.PlanFault.{PlanFault}
use Rattle.plan_text.specs.PlanText.{robot_lines}
use Rattle.plan_text.specs.PlanFaults.{IsPlanFault}
use Rattle.plan_text.proofs.OneFault as plan
use Rattle.plan_text.proofs.Outcomes.{faulty}
use Rattle.plan_check.specs.declared.fault.Unsound.{Unsound as UnsoundFault}
use Rattle.plan_check.specs.Faults.{IsFirstFault}
use Rattle.plan_check.proofs.Accepted.{accepted_faultless}
use Rattle.plan_check.proofs.OneFirst.{one_first_fault}
use Rattle.path_planner.specs.declared.fault.TaskWhy.{TaskWhy}
use Rattle.path_planner.specs.declared.fault.TaskWhy.TheVariants.{Size, Start, Goal, SameStart, SameGoal}
use Rattle.path_planner.specs.Tasks.{AreGood, IsFirstBad, place_of}
use Rattle.path_planner.specs.Planning.{IsWithoutPath}
use Rattle.path_planner.proofs.Once.{one_without}
use Rattle.command_words.specs.Commands.{IsUsage}
use Rattle.command_words.proofs.OneCommand.{one_command}
use Rattle.fleet_recovery.specs.Papers.{Papers}
use Rattle.fleet_cli.specs.declared.fault.Paper.TheVariants as paper
use Rattle.fleet_cli.specs.declared.fault.Fault.{Fault}
use Rattle.fleet_cli.specs.declared.fault.Fault.TheVariants.{Usage, Long, Unread, Map, Unsound, Pairs, Scen, BadTask, NoPath}
use Rattle.fleet_cli.specs.declared.fault.Fault.TheVariants as fault
use Rattle.fleet_cli.specs.Lines.{fault_line, status_of, sound_line}
use Rattle.fleet_cli.specs.Papers.{Files, IsPaper, IsLong, HasAMap, HasPlan, HasRoutes, nowhere}
use Rattle.fleet_cli.specs.Planning.{HasTasks, IsUnplanned}
use Rattle.fleet_cli.specs.Causes.{IsRefused, IsPlanCause, IsTaskCause, IsCause}
use Rattle.fleet_cli.specs.Due.{IsDue, a_check, a_made_text, a_refusal}
use Rattle.fleet_cli.proofs.Exclusion.{same_bytes, short_or_long, same_map, same_plan, same_names, same_asked, names_or_plans, sound_or_refused}
use Rattle.fleet_cli.proofs.Made.{same_tasks, same_plans, asked_or_made, made_or_refused, one_text}

-- ---- parts of a refusal

-- the first fault of the bytes of a file that is told
abbrev MapFails : Files → List ℕ → MapFault → Type 0
MapFails files name f = (bytes : List ℕ) × IsPaper files name bytes × IsMapFault (file_lines bytes) f.line f.kind

abbrev PlanFails : Files → List ℕ → PlanFault → Type 0
PlanFails files name f = (bytes : List ℕ) × IsPaper files name bytes × IsPlanFault (robot_lines bytes) f.line f.column f.kind

abbrev ScenFails : Files → List ℕ → ScenFault → Type 0
ScenFails files name f = (bytes : List ℕ) × IsPaper files name bytes × IsScenFault (file_lines bytes) f.line f.kind

module _ (files : Files) (t : files.tells) where
  one_length : (name : List ℕ) (n k : ℕ) → IsLong files name n → IsLong files name k → n ≡ k
  one_length name n k a b =
      let x = a.is_file t in
      let y = b.is_file t in
      let e : Some x.0 ≡ Some y.0 = sym x.1 ∙ y.1 in
      let same : x.0 ≡ y.0 = cc in
      omega (arith, x.2, y.2, ap (λ (bs : List ℕ). length bs) same)

  -- a map is neither too long nor faulty
  long_or_map : (name : List ℕ) (n : ℕ) → IsLong files name n → HasAMap files name → ⊥
  long_or_map name n l m = short_or_long files name m.1.bytes n t m.1.paper l

  fails_or_map : (name : List ℕ) (f : MapFault) → MapFails files name f → HasAMap files name → ⊥
  fails_or_map name f x m = map.no_fault m.1.bytes m.0 f.line f.kind m.1.text (subst (λ (b : List ℕ). IsMapFault (file_lines b) f.line f.kind) (sym (same_bytes files name m.1.bytes x.0 t m.1.paper x.1)) x.2)

  one_map_fault : (name : List ℕ) (f g : MapFault) → MapFails files name f → MapFails files name g → f ≡ g
  one_map_fault name f g x y =
      let e = map.one_fault (file_lines x.0) f.line g.line f.kind g.kind x.2 (subst (λ (b : List ℕ). IsMapFault (file_lines b) g.line g.kind) (sym (same_bytes files name x.0 y.0 t x.1 y.1)) y.2) in
      λ i. record { line = e.0 i; kind = e.1 i }

  one_plan_fault : (name : List ℕ) (f g : PlanFault) → PlanFails files name f → PlanFails files name g → f ≡ g
  one_plan_fault name f g x y =
      let e = plan.one_fault (robot_lines x.0) f.line f.column g.line g.column f.kind g.kind x.2 (subst (λ (b : List ℕ). IsPlanFault (robot_lines b) g.line g.column g.kind) (sym (same_bytes files name x.0 y.0 t x.1 y.1)) y.2) in
      λ i. record { line = e.0 i; column = e.1 i; kind = e.2 i }

  one_scen_fault : (name : List ℕ) (f g : ScenFault) → ScenFails files name f → ScenFails files name g → f ≡ g
  one_scen_fault name f g x y =
      let e = scenario.one_scen_fault (file_lines x.0) f.line g.line f.kind g.kind x.2 (subst (λ (b : List ℕ). IsScenFault (file_lines b) g.line g.kind) (sym (same_bytes files name x.0 y.0 t x.1 y.1)) y.2) in
      λ i. record { line = e.0 i; kind = e.1 i }

  -- a plan is not faulty
  fails_or_plan : (m p : List ℕ) (f : PlanFault) (g : OccupancyGrid) (paths : List (List Cell)) → PlanFails files p f → HasPlan files m p g paths → ⊥
  fails_or_plan m p f g paths x h = faulty h.bytes f.line f.column f.kind paths (subst (λ (b : List ℕ). IsPlanFault (robot_lines b) f.line f.column f.kind) (sym (same_bytes files p h.bytes x.0 t h.paper x.1)) x.2) h.text

  -- nor are tasks
  fails_or_tasks : (m s : List ℕ) (f : ScenFault) (g : OccupancyGrid) (tasks : List Task) → ScenFails files s f → HasTasks files m s g tasks → ⊥
  fails_or_tasks m s f g tasks x h = scenario.no_fault h.bytes tasks h.text f.line f.kind (subst (λ (b : List ℕ). IsScenFault (file_lines b) f.line f.kind) (sym (same_bytes files s h.bytes x.0 t h.paper x.1)) x.2)

-- ---- one refusal of a plan

-- what is refused of a plan, step by step
data Refused (files : Files) (m p : List ℕ) (reason : Fault) : Type 0 where
  long_map : (n : ℕ) → reason ≡ Long paper.Map n → IsLong files m n → Refused files m p reason
  bad_map : (f : MapFault) → reason ≡ Map f → MapFails files m f → Refused files m p reason
  long_plan : (n : ℕ) → reason ≡ Long paper.Plan n → HasAMap files m → IsLong files p n → Refused files m p reason
  bad_plan : (f : PlanFault) → reason ≡ fault.Plan f → HasAMap files m → PlanFails files p f → Refused files m p reason
  unsound : (u : UnsoundFault) → reason ≡ Unsound u → (g : OccupancyGrid) (paths : List (List Cell)) → HasPlan files m p g paths → IsFirstFault g paths u → Refused files m p reason
  many_pairs : (n : ℕ) → reason ≡ Pairs n → (routes : List (List PlannedVisit)) → HasRoutes files m p routes → n ≡ length (pairs_of routes) → Refused files m p reason

refused_at : (files : Files) (m p : List ℕ) (reason : Fault) → IsRefused files nowhere m p reason → Refused files m p reason
refused_at files m p Usage r = absurd r
refused_at files m p (Long paper.Map n) r = long_map n refl r
refused_at files m p (Long paper.Plan n) r = long_plan n refl r.0 r.1
refused_at files m p (Long paper.Scen n) r = absurd r
refused_at files m p (Unread paper.Map) r = absurd r
refused_at files m p (Unread paper.Plan) r = absurd r.1
refused_at files m p (Unread paper.Scen) r = absurd r
refused_at files m p (Map f) r = bad_map f refl r
refused_at files m p (fault.Plan f) r = bad_plan f refl (r.0, r.1) r.2
refused_at files m p (Unsound u) r = unsound u refl r.0 r.1 r.2 r.3
refused_at files m p (Pairs n) r = many_pairs n refl r.0 r.1 r.3
refused_at files m p (Scen f) r = absurd r
refused_at files m p (BadTask i why) r = absurd r
refused_at files m p (NoPath i) r = absurd r

module _ (files : Files) (t : files.tells) (m p : List ℕ) where
  -- a plan that is accepted has no fault
  sound_or_unsound : (u : UnsoundFault) (g : OccupancyGrid) (paths : List (List Cell)) (routes : List (List PlannedVisit)) → HasPlan files m p g paths → IsFirstFault g paths u → HasRoutes files m p routes → ⊥
  sound_or_unsound u g paths routes h first s =
      let grid = same_map files m s.grid g t s.papers.on h.on in
      let same = same_plan files m p s.grid g s.plan paths t s.papers h in
      let moved = subst (λ (k : OccupancyGrid). IsFirstFault k s.plan u) (sym grid) (subst (λ (ps : List (List Cell)). IsFirstFault g ps u) (sym same) first) in
      accepted_faultless s.grid s.plan s.accepted u moved.here

  one_unsound : (u v : UnsoundFault) (g k : OccupancyGrid) (paths others : List (List Cell)) → HasPlan files m p g paths → IsFirstFault g paths u → HasPlan files m p k others → IsFirstFault k others v → u ≡ v
  one_unsound u v g k paths others h first h2 second =
      let grid = same_map files m g k t h.on h2.on in
      let same = same_plan files m p g k paths others t h h2 in
      one_first_fault g paths u v first (subst (λ (q : OccupancyGrid). IsFirstFault q paths v) (sym grid) (subst (λ (ps : List (List Cell)). IsFirstFault k ps v) (sym same) second))

  one_count : (n k : ℕ) (routes others : List (List PlannedVisit)) → HasRoutes files m p routes → n ≡ length (pairs_of routes) → HasRoutes files m p others → k ≡ length (pairs_of others) → n ≡ k
  one_count n k routes others h is h2 is2 =
      let same = same_plan files m p h.grid h2.grid h.plan h2.plan t h.papers h2.papers in
      let routes_same : routes ≡ others = h.visits ∙ ap (λ (ps : List (List Cell)). visits_of ps) same ∙ sym h2.visits in
      omega (arith, is, is2, ap (λ (rs : List (List PlannedVisit)). length (pairs_of rs)) routes_same)

  one_refused : (a b : Fault) → Refused files m p a → Refused files m p b → a ≡ b
  one_refused a b (long_map n e l) (long_map n' e' l') = e ∙ ap (λ (k : ℕ). Long paper.Map k) (one_length files t m n n' l l') ∙ sym e'
  one_refused a b (long_map n e l) (bad_map f' e' x') = absurd (short_or_long files m x'.0 n t x'.1 l)
  one_refused a b (long_map n e l) (long_plan n' e' h' l') = absurd (long_or_map files t m n l h')
  one_refused a b (long_map n e l) (bad_plan f' e' h' x') = absurd (long_or_map files t m n l h')
  one_refused a b (long_map n e l) (unsound u' e' g' paths' h' first') = absurd (long_or_map files t m n l (g', h'.on))
  one_refused a b (long_map n e l) (many_pairs n' e' routes' h' is') = absurd (long_or_map files t m n l (h'.grid, h'.papers.on))
  one_refused a b (bad_map f e x) (long_map n' e' l') = absurd (short_or_long files m x.0 n' t x.1 l')
  one_refused a b (bad_map f e x) (bad_map f' e' x') = e ∙ ap Map (one_map_fault files t m f f' x x') ∙ sym e'
  one_refused a b (bad_map f e x) (long_plan n' e' h' l') = absurd (fails_or_map files t m f x h')
  one_refused a b (bad_map f e x) (bad_plan f' e' h' x') = absurd (fails_or_map files t m f x h')
  one_refused a b (bad_map f e x) (unsound u' e' g' paths' h' first') = absurd (fails_or_map files t m f x (g', h'.on))
  one_refused a b (bad_map f e x) (many_pairs n' e' routes' h' is') = absurd (fails_or_map files t m f x (h'.grid, h'.papers.on))
  one_refused a b (long_plan n e h l) (long_map n' e' l') = absurd (long_or_map files t m n' l' h)
  one_refused a b (long_plan n e h l) (bad_map f' e' x') = absurd (fails_or_map files t m f' x' h)
  one_refused a b (long_plan n e h l) (long_plan n' e' h' l') = e ∙ ap (λ (k : ℕ). Long paper.Plan k) (one_length files t p n n' l l') ∙ sym e'
  one_refused a b (long_plan n e h l) (bad_plan f' e' h' x') = absurd (short_or_long files p x'.0 n t x'.1 l)
  one_refused a b (long_plan n e h l) (unsound u' e' g' paths' h' first') = absurd (short_or_long files p h'.bytes n t h'.paper l)
  one_refused a b (long_plan n e h l) (many_pairs n' e' routes' h' is') = absurd (short_or_long files p h'.papers.bytes n t h'.papers.paper l)
  one_refused a b (bad_plan f e h x) (long_map n' e' l') = absurd (long_or_map files t m n' l' h)
  one_refused a b (bad_plan f e h x) (bad_map f' e' x') = absurd (fails_or_map files t m f' x' h)
  one_refused a b (bad_plan f e h x) (long_plan n' e' h' l') = absurd (short_or_long files p x.0 n' t x.1 l')
  one_refused a b (bad_plan f e h x) (bad_plan f' e' h' x') = e ∙ ap (λ (k : PlanFault). fault.Plan k) (one_plan_fault files t p f f' x x') ∙ sym e'
  one_refused a b (bad_plan f e h x) (unsound u' e' g' paths' h' first') = absurd (fails_or_plan files t m p f g' paths' x h')
  one_refused a b (bad_plan f e h x) (many_pairs n' e' routes' h' is') = absurd (fails_or_plan files t m p f h'.grid h'.plan x h'.papers)
  one_refused a b (unsound u e g paths h first) (long_map n' e' l') = absurd (long_or_map files t m n' l' (g, h.on))
  one_refused a b (unsound u e g paths h first) (bad_map f' e' x') = absurd (fails_or_map files t m f' x' (g, h.on))
  one_refused a b (unsound u e g paths h first) (long_plan n' e' h' l') = absurd (short_or_long files p h.bytes n' t h.paper l')
  one_refused a b (unsound u e g paths h first) (bad_plan f' e' h' x') = absurd (fails_or_plan files t m p f' g paths x' h)
  one_refused a b (unsound u e g paths h first) (unsound u' e' g' paths' h' first') = e ∙ ap (λ (k : UnsoundFault). Unsound k) (one_unsound u u' g g' paths paths' h first h' first') ∙ sym e'
  one_refused a b (unsound u e g paths h first) (many_pairs n' e' routes' h' is') = absurd (sound_or_unsound u g paths routes' h first h')
  one_refused a b (many_pairs n e routes h is) (long_map n' e' l') = absurd (long_or_map files t m n' l' (h.grid, h.papers.on))
  one_refused a b (many_pairs n e routes h is) (bad_map f' e' x') = absurd (fails_or_map files t m f' x' (h.grid, h.papers.on))
  one_refused a b (many_pairs n e routes h is) (long_plan n' e' h' l') = absurd (short_or_long files p h.papers.bytes n' t h.papers.paper l')
  one_refused a b (many_pairs n e routes h is) (bad_plan f' e' h' x') = absurd (fails_or_plan files t m p f' h.grid h.plan x' h.papers)
  one_refused a b (many_pairs n e routes h is) (unsound u' e' g' paths' h' first') = absurd (sound_or_unsound u' g' paths' routes h' first' h)
  one_refused a b (many_pairs n e routes h is) (many_pairs n' e' routes' h' is') = e ∙ ap (λ (k : ℕ). Pairs k) (one_count n n' routes routes' h is h' is') ∙ sym e'

-- ---- one refusal of a scenario

-- what is refused of the tasks of a scenario, step by step
data Unplanned (files : Files) (m s : List ℕ) (robots horizon : ℕ) (reason : Fault) : Type 0 where
  long_map : (n : ℕ) → reason ≡ Long paper.Map n → IsLong files m n → Unplanned files m s robots horizon reason
  bad_map : (f : MapFault) → reason ≡ Map f → MapFails files m f → Unplanned files m s robots horizon reason
  long_scen : (n : ℕ) → reason ≡ Long paper.Scen n → HasAMap files m → IsLong files s n → Unplanned files m s robots horizon reason
  bad_scen : (f : ScenFault) → reason ≡ Scen f → HasAMap files m → ScenFails files s f → Unplanned files m s robots horizon reason
  bad_task : (i : ℕ) (why : TaskWhy) → reason ≡ BadTask i why → (g : OccupancyGrid) (tasks : List Task) → HasTasks files m s g tasks → IsFirstBad g (take robots tasks) i why → Unplanned files m s robots horizon reason
  no_path : (i : ℕ) → reason ≡ NoPath i → (g : OccupancyGrid) (tasks : List Task) → HasTasks files m s g tasks → AreGood g (take robots tasks) → IsWithoutPath g horizon (take robots tasks) i → Unplanned files m s robots horizon reason

unplanned_at : (files : Files) (m s : List ℕ) (robots horizon : ℕ) (reason : Fault) → IsUnplanned files nowhere m s robots horizon reason → Unplanned files m s robots horizon reason
unplanned_at files m s robots horizon Usage r = absurd r
unplanned_at files m s robots horizon (Long paper.Map n) r = long_map n refl r
unplanned_at files m s robots horizon (Long paper.Plan n) r = absurd r
unplanned_at files m s robots horizon (Long paper.Scen n) r = long_scen n refl r.0 r.1
unplanned_at files m s robots horizon (Unread paper.Map) r = absurd r
unplanned_at files m s robots horizon (Unread paper.Plan) r = absurd r
unplanned_at files m s robots horizon (Unread paper.Scen) r = absurd r.1
unplanned_at files m s robots horizon (Map f) r = bad_map f refl r
unplanned_at files m s robots horizon (fault.Plan f) r = absurd r
unplanned_at files m s robots horizon (Unsound u) r = absurd r
unplanned_at files m s robots horizon (Pairs n) r = absurd r
unplanned_at files m s robots horizon (Scen f) r = bad_scen f refl r.0 r.1
unplanned_at files m s robots horizon (BadTask i why) r = bad_task i why refl r.0 r.1 r.2 r.3
unplanned_at files m s robots horizon (NoPath i) r = no_path i refl r.0 r.1 r.2 r.3 r.4

-- words in one place are one
one_word : (a b : TaskWhy) → place_of a ≡ place_of b → a ≡ b
one_word Size Size e = refl
one_word Size Start e = absurd (omega (arith, e))
one_word Size Goal e = absurd (omega (arith, e))
one_word Size SameStart e = absurd (omega (arith, e))
one_word Size SameGoal e = absurd (omega (arith, e))
one_word Start Size e = absurd (omega (arith, e))
one_word Start Start e = refl
one_word Start Goal e = absurd (omega (arith, e))
one_word Start SameStart e = absurd (omega (arith, e))
one_word Start SameGoal e = absurd (omega (arith, e))
one_word Goal Size e = absurd (omega (arith, e))
one_word Goal Start e = absurd (omega (arith, e))
one_word Goal Goal e = refl
one_word Goal SameStart e = absurd (omega (arith, e))
one_word Goal SameGoal e = absurd (omega (arith, e))
one_word SameStart Size e = absurd (omega (arith, e))
one_word SameStart Start e = absurd (omega (arith, e))
one_word SameStart Goal e = absurd (omega (arith, e))
one_word SameStart SameStart e = refl
one_word SameStart SameGoal e = absurd (omega (arith, e))
one_word SameGoal Size e = absurd (omega (arith, e))
one_word SameGoal Start e = absurd (omega (arith, e))
one_word SameGoal Goal e = absurd (omega (arith, e))
one_word SameGoal SameStart e = absurd (omega (arith, e))
one_word SameGoal SameGoal e = refl

-- a robot and a word are first of all
one_bad : (g : OccupancyGrid) (tasks : List Task) (i j : ℕ) (why other : TaskWhy) → IsFirstBad g tasks i why → IsFirstBad g tasks j other → (i ≡ j) × (why ≡ other)
one_bad g tasks i j why other a b = go (cases_order i j)
  where
    words : i ≡ j → (place_of why ≡ place_of other) ⊎ ((place_of why < place_of other) ⊎ (place_of other < place_of why)) → why ≡ other
    words same (inl e) = one_word why other e
    words same (inr (inl lt)) = absurd (b.words why lt (subst (λ (k : ℕ). Rattle.path_planner.specs.Tasks.IsBad g tasks k why) same a.here))
    words same (inr (inr gt)) = absurd (a.words other gt (subst (λ (k : ℕ). Rattle.path_planner.specs.Tasks.IsBad g tasks k other) (sym same) b.here))

    go : (i ≡ j) ⊎ ((i < j) ⊎ (j < i)) → (i ≡ j) × (why ≡ other)
    go (inl same) = (same, words same (cases_order (place_of why) (place_of other)))
    go (inr (inl lt)) = absurd (b.robots i why lt a.here)
    go (inr (inr gt)) = absurd (a.robots j other gt b.here)

module _ (files : Files) (t : files.tells) (m s : List ℕ) (robots horizon : ℕ) where
  -- tasks of which one is bad are not good
  good_or_bad : (i : ℕ) (why : TaskWhy) (g k : OccupancyGrid) (tasks others : List Task) → HasTasks files m s g tasks → IsFirstBad g (take robots tasks) i why → HasTasks files m s k others → AreGood k (take robots others) → ⊥
  good_or_bad i why g k tasks others h bad h2 good =
      let same = same_tasks files m s k g others tasks t h2 h in
      let moved = subst (λ (q : OccupancyGrid). IsFirstBad q (take robots others) i why) (sym same.0) (subst (λ (ts : List Task). IsFirstBad g (take robots ts) i why) (sym same.1) bad) in
      good i why moved.there moved.here

  first_bad : (i j : ℕ) (why other : TaskWhy) (g k : OccupancyGrid) (tasks others : List Task) → HasTasks files m s g tasks → IsFirstBad g (take robots tasks) i why → HasTasks files m s k others → IsFirstBad k (take robots others) j other → (i ≡ j) × (why ≡ other)
  first_bad i j why other g k tasks others h bad h2 bad2 =
      let same = same_tasks files m s g k tasks others t h h2 in
      one_bad g (take robots tasks) i j why other bad (subst (λ (q : OccupancyGrid). IsFirstBad q (take robots tasks) j other) (sym same.0) (subst (λ (ts : List Task). IsFirstBad k (take robots ts) j other) (sym same.1) bad2))

  first_without : (i j : ℕ) (g k : OccupancyGrid) (tasks others : List Task) → HasTasks files m s g tasks → IsWithoutPath g horizon (take robots tasks) i → HasTasks files m s k others → IsWithoutPath k horizon (take robots others) j → i ≡ j
  first_without i j g k tasks others h none h2 none2 =
      let same = same_tasks files m s g k tasks others t h h2 in
      one_without g horizon (take robots tasks) i j none (subst (λ (q : OccupancyGrid). IsWithoutPath q horizon (take robots tasks) j) (sym same.0) (subst (λ (ts : List Task). IsWithoutPath k horizon (take robots ts) j) (sym same.1) none2))

  one_unplanned : (a b : Fault) → Unplanned files m s robots horizon a → Unplanned files m s robots horizon b → a ≡ b
  one_unplanned a b (long_map n e l) (long_map n' e' l') = e ∙ ap (λ (k : ℕ). Long paper.Map k) (one_length files t m n n' l l') ∙ sym e'
  one_unplanned a b (long_map n e l) (bad_map f' e' x') = absurd (short_or_long files m x'.0 n t x'.1 l)
  one_unplanned a b (long_map n e l) (long_scen n' e' h' l') = absurd (long_or_map files t m n l h')
  one_unplanned a b (long_map n e l) (bad_scen f' e' h' x') = absurd (long_or_map files t m n l h')
  one_unplanned a b (long_map n e l) (bad_task i' why' e' g' tasks' h' bad') = absurd (long_or_map files t m n l (g', h'.on))
  one_unplanned a b (long_map n e l) (no_path i' e' g' tasks' h' good' none') = absurd (long_or_map files t m n l (g', h'.on))
  one_unplanned a b (bad_map f e x) (long_map n' e' l') = absurd (short_or_long files m x.0 n' t x.1 l')
  one_unplanned a b (bad_map f e x) (bad_map f' e' x') = e ∙ ap Map (one_map_fault files t m f f' x x') ∙ sym e'
  one_unplanned a b (bad_map f e x) (long_scen n' e' h' l') = absurd (fails_or_map files t m f x h')
  one_unplanned a b (bad_map f e x) (bad_scen f' e' h' x') = absurd (fails_or_map files t m f x h')
  one_unplanned a b (bad_map f e x) (bad_task i' why' e' g' tasks' h' bad') = absurd (fails_or_map files t m f x (g', h'.on))
  one_unplanned a b (bad_map f e x) (no_path i' e' g' tasks' h' good' none') = absurd (fails_or_map files t m f x (g', h'.on))
  one_unplanned a b (long_scen n e h l) (long_map n' e' l') = absurd (long_or_map files t m n' l' h)
  one_unplanned a b (long_scen n e h l) (bad_map f' e' x') = absurd (fails_or_map files t m f' x' h)
  one_unplanned a b (long_scen n e h l) (long_scen n' e' h' l') = e ∙ ap (λ (k : ℕ). Long paper.Scen k) (one_length files t s n n' l l') ∙ sym e'
  one_unplanned a b (long_scen n e h l) (bad_scen f' e' h' x') = absurd (short_or_long files s x'.0 n t x'.1 l)
  one_unplanned a b (long_scen n e h l) (bad_task i' why' e' g' tasks' h' bad') = absurd (short_or_long files s h'.bytes n t h'.paper l)
  one_unplanned a b (long_scen n e h l) (no_path i' e' g' tasks' h' good' none') = absurd (short_or_long files s h'.bytes n t h'.paper l)
  one_unplanned a b (bad_scen f e h x) (long_map n' e' l') = absurd (long_or_map files t m n' l' h)
  one_unplanned a b (bad_scen f e h x) (bad_map f' e' x') = absurd (fails_or_map files t m f' x' h)
  one_unplanned a b (bad_scen f e h x) (long_scen n' e' h' l') = absurd (short_or_long files s x.0 n' t x.1 l')
  one_unplanned a b (bad_scen f e h x) (bad_scen f' e' h' x') = e ∙ ap (λ (k : ScenFault). Scen k) (one_scen_fault files t s f f' x x') ∙ sym e'
  one_unplanned a b (bad_scen f e h x) (bad_task i' why' e' g' tasks' h' bad') = absurd (fails_or_tasks files t m s f g' tasks' x h')
  one_unplanned a b (bad_scen f e h x) (no_path i' e' g' tasks' h' good' none') = absurd (fails_or_tasks files t m s f g' tasks' x h')
  one_unplanned a b (bad_task i why e g tasks h bad) (long_map n' e' l') = absurd (long_or_map files t m n' l' (g, h.on))
  one_unplanned a b (bad_task i why e g tasks h bad) (bad_map f' e' x') = absurd (fails_or_map files t m f' x' (g, h.on))
  one_unplanned a b (bad_task i why e g tasks h bad) (long_scen n' e' h' l') = absurd (short_or_long files s h.bytes n' t h.paper l')
  one_unplanned a b (bad_task i why e g tasks h bad) (bad_scen f' e' h' x') = absurd (fails_or_tasks files t m s f' g tasks x' h)
  one_unplanned a b (bad_task i why e g tasks h bad) (bad_task i' why' e' g' tasks' h' bad') = let both = first_bad i i' why why' g g' tasks tasks' h bad h' bad' in e ∙ ap (λ (k : ℕ). BadTask k why) both.0 ∙ ap (λ (w : TaskWhy). BadTask i' w) both.1 ∙ sym e'
  one_unplanned a b (bad_task i why e g tasks h bad) (no_path i' e' g' tasks' h' good' none') = absurd (good_or_bad i why g g' tasks tasks' h bad h' good')
  one_unplanned a b (no_path i e g tasks h good none) (long_map n' e' l') = absurd (long_or_map files t m n' l' (g, h.on))
  one_unplanned a b (no_path i e g tasks h good none) (bad_map f' e' x') = absurd (fails_or_map files t m f' x' (g, h.on))
  one_unplanned a b (no_path i e g tasks h good none) (long_scen n' e' h' l') = absurd (short_or_long files s h.bytes n' t h.paper l')
  one_unplanned a b (no_path i e g tasks h good none) (bad_scen f' e' h' x') = absurd (fails_or_tasks files t m s f' g tasks x' h)
  one_unplanned a b (no_path i e g tasks h good none) (bad_task i' why' e' g' tasks' h' bad') = absurd (good_or_bad i' why' g' g tasks' tasks h' bad' h good)
  one_unplanned a b (no_path i e g tasks h good none) (no_path i' e' g' tasks' h' good' none') = e ∙ ap (λ (k : ℕ). NoPath k) (first_without i i' g g' tasks tasks' h none h' none') ∙ sym e'

-- ---- one refusal of words

-- the words are none of a command, or the files of one are refused
data Caused (files : Files) (words : List (List ℕ)) (reason : Fault) : Type 0 where
  no_words : reason ≡ Usage → IsUsage words → Caused files words reason
  no_plan : IsPlanCause files nowhere words reason → Caused files words reason
  no_tasks : IsTaskCause files nowhere words reason → Caused files words reason

caused_by : (files : Files) (words : List (List ℕ)) (reason : Fault) → IsPlanCause files nowhere words reason ⊎ IsTaskCause files nowhere words reason → Caused files words reason
caused_by files words reason (inl c) = no_plan c
caused_by files words reason (inr c) = no_tasks c

caused : (files : Files) (words : List (List ℕ)) (reason : Fault) → IsCause files nowhere words reason → Caused files words reason
caused files words Usage c = no_words refl c
caused files words (Long which n) c = caused_by files words (Long which n) c
caused files words (Unread which) c = caused_by files words (Unread which) c
caused files words (Map f) c = caused_by files words (Map f) c
caused files words (fault.Plan f) c = caused_by files words (fault.Plan f) c
caused files words (Unsound u) c = caused_by files words (Unsound u) c
caused files words (Pairs n) c = caused_by files words (Pairs n) c
caused files words (Scen f) c = caused_by files words (Scen f) c
caused files words (BadTask i why) c = caused_by files words (BadTask i why) c
caused files words (NoPath i) c = caused_by files words (NoPath i) c

module _ (files : Files) (t : files.tells) (words : List (List ℕ)) where
  one_plan_cause : (a b : Fault) → IsPlanCause files nowhere words a → IsPlanCause files nowhere words b → a ≡ b
  one_plan_cause a b (c, m, p, on, r) (c2, m2, p2, on2, r2) =
      let names = same_names words c c2 m p m2 p2 on on2 in
      one_refused files t m2 p2 a b (refused_at files m2 p2 a (subst (λ (x : List ℕ). IsRefused files nowhere x p2 a) names.0 (subst (λ (x : List ℕ). IsRefused files nowhere m x a) names.1 r))) (refused_at files m2 p2 b r2)

  one_task_cause : (a b : Fault) → IsTaskCause files nowhere words a → IsTaskCause files nowhere words b → a ≡ b
  one_task_cause a b (m, s, n, h, asks, r) (m2, s2, n2, h2, asks2, r2) =
      let same = same_plans asks.command asks2.command m m2 s s2 n n2 h h2 asks.plans asks2.plans (one_command words asks.command asks2.command asks.words_are asks2.words_are) in
      let moved = subst (λ (x : List ℕ). IsUnplanned files nowhere x s2 n2 h2 a) same.0 (subst (λ (x : List ℕ). IsUnplanned files nowhere m x n2 h2 a) same.1 (subst (λ (x : ℕ). IsUnplanned files nowhere m s x h2 a) same.2 (subst (λ (x : ℕ). IsUnplanned files nowhere m s n x a) same.3 r))) in
      one_unplanned files t m2 s2 n2 h2 a b (unplanned_at files m2 s2 n2 h2 a moved) (unplanned_at files m2 s2 n2 h2 b r2)

  -- a command names a plan or plans one
  not_both : (a b : Fault) → IsPlanCause files nowhere words a → IsTaskCause files nowhere words b → ⊥
  not_both a b (c, m, p, on, r) (m2, s, n, h, asks, r2) = names_or_plans c asks.command m p m2 s n h on.papers_are asks.plans (one_command words c asks.command on.words_are asks.words_are)

  one_caused : (a b : Fault) → Caused files words a → Caused files words b → a ≡ b
  one_caused a b (no_words e none) (no_words e' none') = e ∙ sym e'
  one_caused a b (no_words e none) (no_plan c) = absurd (none c.0 c.3.words_are)
  one_caused a b (no_words e none) (no_tasks c) = absurd (none c.4.command c.4.words_are)
  one_caused a b (no_plan c) (no_words e none) = absurd (none c.0 c.3.words_are)
  one_caused a b (no_plan c) (no_plan d) = one_plan_cause a b c d
  one_caused a b (no_plan c) (no_tasks d) = absurd (not_both a b c d)
  one_caused a b (no_tasks c) (no_words e none) = absurd (none c.4.command c.4.words_are)
  one_caused a b (no_tasks c) (no_plan d) = absurd (not_both b a d c)
  one_caused a b (no_tasks c) (no_tasks d) = one_task_cause a b c d

  -- two causes exclude one another
  pub one_cause : (a b : Fault) → IsCause files nowhere words a → IsCause files nowhere words b → a ≡ b
  one_cause a b x y = one_caused a b (caused files words a x) (caused files words b y)

  -- the one text that is due
  pub one_due : (end other : Status) (text more : List ℕ) → IsDue files nowhere words end text → IsDue files nowhere words other more → (end ≡ other) × (text ≡ more)
  one_due end other text more (a_check e c papers routes checks asked is) (a_check e' c' papers' routes' checks' asked' is') =
      (e ∙ sym e', is ∙ ap (λ (rs : List (List PlannedVisit)). sound_line rs ++ 10 ∷ []) (same_asked files words c c' papers papers' routes routes' t asked asked').1 ∙ sym is')
  one_due end other text more (a_check e c papers routes checks asked is) (a_made_text e' made) = absurd (asked_or_made files words c papers routes more asked made)
  one_due end other text more (a_check e c papers routes checks asked is) (a_refusal f cause e' is') = absurd (sound_or_refused files nowhere words c papers routes f t asked cause).1
  one_due end other text more (a_made_text e made) (a_check e' c papers routes checks asked is) = absurd (asked_or_made files words c papers routes text asked made)
  one_due end other text more (a_made_text e made) (a_made_text e' made') = (e ∙ sym e', one_text files words text more t made made')
  one_due end other text more (a_made_text e made) (a_refusal f cause e' is) = absurd (made_or_refused files nowhere words text f t made cause).1
  one_due end other text more (a_refusal f cause e is) (a_check e' c papers routes checks asked is') = absurd (sound_or_refused files nowhere words c papers routes f t asked cause).1
  one_due end other text more (a_refusal f cause e is) (a_made_text e' made) = absurd (made_or_refused files nowhere words more f t made cause).1
  one_due end other text more (a_refusal f cause e is) (a_refusal g cause' e' is') =
      let same = one_cause f g cause cause' in
      (e ∙ ap status_of same ∙ sym e', is ∙ ap (λ (q : Fault). fault_line q ++ 10 ∷ []) same ∙ sym is')
