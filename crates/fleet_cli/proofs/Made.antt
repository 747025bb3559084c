-- A text that words ask for is one, and there is no refusal beside it.
use Rattle.std.proofs.Common.{ℕ, Bool, true, false, ◌≡◌, ◌⊎◌, List, ◌++◌, sym, ap, ◌∙◌, subst, inl, inr, take, refl}
use Rattle.fleet_base.specs.declared.geometry.Cell.{Cell}
use Rattle.fleet_base.specs.declared.geometry.PlannedVisit.{PlannedVisit}
use Rattle.fleet_base.specs.declared.status.Status.{Status}
use Rattle.fleet_base.specs.declared.status.Status.TheVariants.{Done, Input, Journal, ReadFault, StationFault, Memory, Limit}
use Rattle.fleet_base.specs.declared.status.Status.TheVariants as status
use Rattle.fleet_base.specs.Bytes.{file_lines}
use Rattle.fleet_base.specs.Grid.{OccupancyGrid}
use Rattle.map_text.specs.declared.scenario.Task.{Task}
use Rattle.map_text.specs.MapFaults.{IsMapFault}
use Rattle.map_text.specs.ScenText.{IsScenText}
use Rattle.map_text.specs.ScenFaults.{IsScenFault}
use Rattle.map_text.proofs.OneFault.{no_fault}
use Rattle.map_text.proofs.OneScenario.{one_scenario}
use Rattle.map_text.proofs.OneScenario as scenario
use Rattle.plan_text.specs.PlanText.{plan_text_of}
use Rattle.path_planner.specs.Tasks.{IsFirstBad}
use Rattle.path_planner.specs.Planning.{IsPlannedInTurn, IsWithoutPath}
use Rattle.path_planner.proofs.Once.{planned_or_without, one_plan}
use Rattle.fleet_gen.proofs.OnePlan.{one_plan_of_seed}
use Rattle.command_words.specs.declared.command.Command.{Command}
use Rattle.command_words.specs.declared.command.Command.TheVariants.{Check, Run, Gen, Plan}
use Rattle.command_words.specs.Commands.{AreOne, IsUsage}
use Rattle.command_words.proofs.OneCommand.{one_command}
use Rattle.fleet_serve.specs.Told.{Sends}
use Rattle.fleet_recovery.specs.Papers.{Papers}
use Rattle.fleet_cli.specs.declared.fault.Paper.TheVariants as paper
use Rattle.fleet_cli.specs.declared.fault.Fault.{Fault}
use Rattle.fleet_cli.specs.declared.fault.Fault.TheVariants.{Usage, Long, Unread, Map, Unsound, Pairs, Scen, BadTask, NoPath}
use Rattle.fleet_cli.specs.declared.fault.Fault.TheVariants as fault
use Rattle.fleet_cli.specs.Words.{GeneratesWith, PlansWith}
use Rattle.fleet_cli.specs.Papers.{Files}
use Rattle.fleet_cli.specs.Generating.{IsFleetText}
use Rattle.fleet_cli.specs.Planning.{HasTasks, IsPlanFor, IsUnplanned}
use Rattle.fleet_cli.specs.Causes.{IsPlanCause, IsTaskCause, IsCause}
use Rattle.fleet_cli.specs.Due.{IsAsked, IsMade, a_fleet, a_plan, IsDue, a_check, a_made_text, a_refusal}
use Rattle.fleet_serve.specs.Spans.{sent_over}
use Rattle.fleet_cli.specs.Ends.{Call, SaysText, TextEnds, EndsAs, SendsIfMemory}
use Rattle.fleet_cli.proofs.Exclusion.{same_bytes, short_or_long, same_map, names_or_generates, names_or_plans}

-- ---- one of each

-- two files that are told are one map and one scenario
pub same_tasks : (files : Files) (m s : List ℕ) (g g2 : OccupancyGrid) (ts us : List Task) → files.tells → HasTasks files m s g ts → HasTasks files m s g2 us → (g ≡ g2) × (ts ≡ us)
same_tasks files m s g g2 ts us t x y =
    (same_map files m g g2 t x.on y.on, one_scenario x.bytes ts us x.text (subst (λ (b : List ℕ). IsScenText b us) (sym (same_bytes files s x.bytes y.bytes t x.paper y.paper)) y.text))

same_seeds : (a b : Command) (k k2 : ℕ) (f f2 : Bool) → GeneratesWith a k f → GeneratesWith b k2 f2 → AreOne a b → (k ≡ k2) × (f ≡ f2)
same_seeds (Check m p) b k k2 f f2 x y e = absurd x
same_seeds (Run m p j n q) b k k2 f f2 x y e = absurd x
same_seeds (Plan m s n h) b k k2 f f2 x y e = absurd x
same_seeds (Gen c d) (Check m2 p2) k k2 f f2 x y e = absurd y
same_seeds (Gen c d) (Run m2 p2 j2 n2 q2) k k2 f f2 x y e = absurd y
same_seeds (Gen c d) (Plan m2 s2 n2 h2) k k2 f f2 x y e = absurd y
same_seeds (Gen c d) (Gen c2 d2) k k2 f f2 x y e = (sym x.0 ∙ e.0 ∙ y.0, sym x.1 ∙ e.1 ∙ y.1)

pub same_plans : (a b : Command) (m m2 s s2 : List ℕ) (n n2 h h2 : ℕ) → PlansWith a m s n h → PlansWith b m2 s2 n2 h2 → AreOne a b → (m ≡ m2) × (s ≡ s2) × (n ≡ n2) × (h ≡ h2)
same_plans (Check k l) b m m2 s s2 n n2 h h2 x y e = absurd x
same_plans (Run k l j i q) b m m2 s s2 n n2 h h2 x y e = absurd x
same_plans (Gen k f) b m m2 s s2 n n2 h h2 x y e = absurd x
same_plans (Plan k l i g) (Check k2 l2) m m2 s s2 n n2 h h2 x y e = absurd y
same_plans (Plan k l i g) (Run k2 l2 j2 i2 q2) m m2 s s2 n n2 h h2 x y e = absurd y
same_plans (Plan k l i g) (Gen k2 f2) m m2 s s2 n n2 h h2 x y e = absurd y
same_plans (Plan k l i g) (Plan k2 l2 i2 g2) m m2 s s2 n n2 h h2 x y e = (sym x.0 ∙ e.0 ∙ y.0, sym x.1 ∙ e.1 ∙ y.1, sym x.2 ∙ e.2 ∙ y.2, sym x.3 ∙ e.3 ∙ y.3)

-- a command that plans makes no fleet
plans_or_generates : (a b : Command) (m s : List ℕ) (n h k : ℕ) (f : Bool) → PlansWith a m s n h → GeneratesWith b k f → AreOne a b → ⊥
plans_or_generates (Check c l) b m s n h k f x y e = x
plans_or_generates (Run c l j i q) b m s n h k f x y e = x
plans_or_generates (Gen c d) b m s n h k f x y e = x
plans_or_generates (Plan c l i g) (Check c2 l2) m s n h k f x y e = y
plans_or_generates (Plan c l i g) (Run c2 l2 j2 i2 q2) m s n h k f x y e = y
plans_or_generates (Plan c l i g) (Gen c2 d2) m s n h k f x y e = e
plans_or_generates (Plan c l i g) (Plan c2 l2 i2 g2) m s n h k f x y e = y

-- ---- no refusal

-- of the same files, a plan and a refusal are both had only where the shelf failed
plan_or_none : (files : Files) (failed : List ℕ → Type 0) (m s : List ℕ) (n h : ℕ) (text : List ℕ) (fault : Fault) → files.tells → IsPlanFor files m s n h text → IsUnplanned files failed m s n h fault → (name : List ℕ) × failed name
plan_or_none files failed m s n h text Usage t p r = absurd r
plan_or_none files failed m s n h text (Long paper.Map k) t p r = absurd (short_or_long files m p.has.on.bytes k t p.has.on.paper r)
plan_or_none files failed m s n h text (Long paper.Plan k) t p r = absurd r
plan_or_none files failed m s n h text (Long paper.Scen k) t p r = absurd (short_or_long files s p.has.bytes k t p.has.paper r.1)
plan_or_none files failed m s n h text (Unread paper.Map) t p r = (m, r)
plan_or_none files failed m s n h text (Unread paper.Plan) t p r = absurd r
plan_or_none files failed m s n h text (Unread paper.Scen) t p r = (s, r.1)
plan_or_none files failed m s n h text (Map f) t p r =
    let same = same_bytes files m p.has.on.bytes r.0 t p.has.on.paper r.1 in
    absurd (no_fault p.has.on.bytes p.grid f.line f.kind p.has.on.text (subst (λ (b : List ℕ). IsMapFault (file_lines b) f.line f.kind) (sym same) r.2))
plan_or_none files failed m s n h text (fault.Plan f) t p r = absurd r
plan_or_none files failed m s n h text (Unsound u) t p r = absurd r
plan_or_none files failed m s n h text (Pairs k) t p r = absurd r
plan_or_none files failed m s n h text (Scen f) t p r =
    let same = same_bytes files s p.has.bytes r.1.0 t p.has.paper r.1.1 in
    absurd (scenario.no_fault p.has.bytes p.tasks p.has.text f.line f.kind (subst (λ (b : List ℕ). IsScenFault (file_lines b) f.line f.kind) (sym same) r.1.2))
plan_or_none files failed m s n h text (BadTask i why) t p r =
    let same = same_tasks files m s p.grid r.0 p.tasks r.1 t p.has r.2 in
    let bad = subst (λ (g : OccupancyGrid). IsFirstBad g (take n p.tasks) i why) (sym same.0) (subst (λ (ts : List Task). IsFirstBad r.0 (take n ts) i why) (sym same.1) r.3) in
    absurd (p.good i why bad.there bad.here)
plan_or_none files failed m s n h text (NoPath i) t p r =
    let same = same_tasks files m s p.grid r.0 p.tasks r.1 t p.has r.2 in
    let without = subst (λ (g : OccupancyGrid). IsWithoutPath g h (take n p.tasks) i) (sym same.0) (subst (λ (ts : List Task). IsWithoutPath r.0 h (take n ts) i) (sym same.1) r.4) in
    absurd (planned_or_without p.grid h (take n p.tasks) p.plan i p.planned without)

-- what words ask for is not refused by the files, unless the shelf failed
made_or_caused : (files : Files) (failed : List ℕ → Type 0) (words : List (List ℕ)) (text : List ℕ) (fault : Fault) → files.tells → IsMade files words text → IsPlanCause files failed words fault ⊎ IsTaskCause files failed words fault → (name : List ℕ) × failed name
made_or_caused files failed words text fault t (a_fleet k f asks is) (inl (command, m, p, on, refused)) =
    absurd (names_or_generates command asks.command m p k f on.papers_are asks.generates (one_command words command asks.command on.words_are asks.words_are))
made_or_caused files failed words text fault t (a_fleet k f asks is) (inr (m, s, n, h, plans, unplanned)) =
    absurd (plans_or_generates plans.command asks.command m s n h k f plans.plans asks.generates (one_command words plans.command asks.command plans.words_are asks.words_are))
made_or_caused files failed words text fault t (a_plan m s n h asks is) (inl (command, m2, p, on, refused)) =
    absurd (names_or_plans command asks.command m2 p m s n h on.papers_are asks.plans (one_command words command asks.command on.words_are asks.words_are))
made_or_caused files failed words text fault t (a_plan m s n h asks is) (inr (m2, s2, n2, h2, plans, unplanned)) =
    let same = same_plans asks.command plans.command m m2 s s2 n n2 h h2 asks.plans plans.plans (one_command words asks.command plans.command asks.words_are plans.words_are) in
    plan_or_none files failed m2 s2 n2 h2 text fault t (moved m m2 s s2 n n2 h h2 same.0 same.1 same.2 same.3 is) unplanned
  where
    moved : (m m2 s s2 : List ℕ) (n n2 h h2 : ℕ) → m ≡ m2 → s ≡ s2 → n ≡ n2 → h ≡ h2 → IsPlanFor files m s n h text → IsPlanFor files m2 s2 n2 h2 text
    moved m m2 s s2 n n2 h h2 em es en eh p =
        subst (λ (x : List ℕ). IsPlanFor files x s2 n2 h2 text) em (subst (λ (x : List ℕ). IsPlanFor files m x n2 h2 text) es (subst (λ (x : ℕ). IsPlanFor files m s x h2 text) en (subst (λ (x : ℕ). IsPlanFor files m s n x text) eh p)))

-- they are those of a command
made_or_usage : (files : Files) (words : List (List ℕ)) (text : List ℕ) → IsMade files words text → IsUsage words → ⊥
made_or_usage files words text (a_fleet k f asks is) none = none asks.command asks.words_are
made_or_usage files words text (a_plan m s n h asks is) none = none asks.command asks.words_are

pub made_or_refused : (files : Files) (failed : List ℕ → Type 0) (words : List (List ℕ)) (text : List ℕ) (fault : Fault) → files.tells → IsMade files words text → IsCause files failed words fault → (name : List ℕ) × failed name
made_or_refused files failed words text Usage t made c = absurd (made_or_usage files words text made c)
made_or_refused files failed words text (Long which n) t made c = made_or_caused files failed words text (Long which n) t made c
made_or_refused files failed words text (Unread which) t made c = made_or_caused files failed words text (Unread which) t made c
made_or_refused files failed words text (Map f) t made c = made_or_caused files failed words text (Map f) t made c
made_or_refused files failed words text (fault.Plan f) t made c = made_or_caused files failed words text (fault.Plan f) t made c
made_or_refused files failed words text (Unsound u) t made c = made_or_caused files failed words text (Unsound u) t made c
made_or_refused files failed words text (Pairs n) t made c = made_or_caused files failed words text (Pairs n) t made c
made_or_refused files failed words text (Scen f) t made c = made_or_caused files failed words text (Scen f) t made c
made_or_refused files failed words text (BadTask i why) t made c = made_or_caused files failed words text (BadTask i why) t made c
made_or_refused files failed words text (NoPath i) t made c = made_or_caused files failed words text (NoPath i) t made c

-- ---- one text

one_fleet_text : (k : ℕ) (f : Bool) (text other : List ℕ) → IsFleetText k f text → IsFleetText k f other → text ≡ other
one_fleet_text k true text other x y = x.2 ∙ ap (λ (ps : List (List Cell)). plan_text_of ps) (one_plan_of_seed k x.0 y.0 x.1 y.1) ∙ sym y.2
one_fleet_text k false text other x y = x ∙ sym y

one_plan_text : (files : Files) (m s : List ℕ) (n h : ℕ) (text other : List ℕ) → files.tells → IsPlanFor files m s n h text → IsPlanFor files m s n h other → text ≡ other
one_plan_text files m s n h text other t x y =
    let same = same_tasks files m s x.grid y.grid x.tasks y.tasks t x.has y.has in
    let plans = one_plan x.grid h (take n x.tasks) x.plan y.plan x.planned
    (subst (λ (g : OccupancyGrid). IsPlannedInTurn g h (take n x.tasks) y.plan) (sym same.0) (subst (λ (ts : List Task). IsPlannedInTurn y.grid h (take n ts) y.plan) (sym same.1) y.planned)) in
    x.text_is ∙ ap (λ (ps : List (List Cell)). plan_text_of ps) plans ∙ sym y.text_is

pub one_text : (files : Files) (words : List (List ℕ)) (text other : List ℕ) → files.tells → IsMade files words text → IsMade files words other → text ≡ other
one_text files words text other t (a_fleet k f asks is) (a_fleet k2 f2 asks2 is2) =
    let same = same_seeds asks.command asks2.command k k2 f f2 asks.generates asks2.generates (one_command words asks.command asks2.command asks.words_are asks2.words_are) in
    one_fleet_text k2 f2 text other (subst (λ (x : ℕ). IsFleetText x f2 text) same.0 (subst (λ (x : Bool). IsFleetText k x text) same.1 is)) is2
one_text files words text other t (a_fleet k f asks is) (a_plan m s n h plans is2) =
    absurd (plans_or_generates plans.command asks.command m s n h k f plans.plans asks.generates (one_command words plans.command asks.command plans.words_are asks.words_are))
one_text files words text other t (a_plan m s n h plans is) (a_fleet k f asks is2) =
    absurd (plans_or_generates plans.command asks.command m s n h k f plans.plans asks.generates (one_command words plans.command asks.command plans.words_are asks.words_are))
one_text files words text other t (a_plan m s n h asks is) (a_plan m2 s2 n2 h2 asks2 is2) =
    let same = same_plans asks.command asks2.command m m2 s s2 n n2 h h2 asks.plans asks2.plans (one_command words asks.command asks2.command asks.words_are asks2.words_are) in
    one_plan_text files m2 s2 n2 h2 text other t
    (subst (λ (x : List ℕ). IsPlanFor files x s2 n2 h2 text) same.0 (subst (λ (x : List ℕ). IsPlanFor files m x n2 h2 text) same.1 (subst (λ (x : ℕ). IsPlanFor files m s x h2 text) same.2 (subst (λ (x : ℕ). IsPlanFor files m s n x text) same.3 is)))) is2

-- ---- how a call ends

-- words that ask for a text ask for no plan that is checked or run
pub asked_or_made : (files : Files) (words : List (List ℕ)) (command : Command) (papers : Papers) (routes : List (List PlannedVisit)) (text : List ℕ) → IsAsked files words command papers routes → IsMade files words text → ⊥
asked_or_made files words command papers routes text a (a_fleet k f asks is) =
    names_or_generates command asks.command a.map_name a.plan_name k f a.words_are.papers_are asks.generates (one_command words command asks.command a.words_are.words_are asks.words_are)
asked_or_made files words command papers routes text a (a_plan m s n h asks is) =
    names_or_plans command asks.command a.map_name a.plan_name m s n h a.words_are.papers_are asks.plans (one_command words command asks.command a.words_are.words_are asks.words_are)

-- where the shelf did not fail, the text that is due is the one that the words ask for
made_is_due : (files : Files) (failed : List ℕ → Type 0) (words : List (List ℕ)) (text other : List ℕ) (end : Status) → files.tells → IsMade files words text → ((name : List ℕ) → failed name → ⊥) → IsDue files failed words end other → (end ≡ Done) × (other ≡ text)
made_is_due files failed words text other end t made fine (a_check done command papers routes checks asked is) = absurd (asked_or_made files words command papers routes text asked made)
made_is_due files failed words text other end t made fine (a_made_text done also) = (done, one_text files words other text t also made)
made_is_due files failed words text other end t made fine (a_refusal fault cause e is) = let f = made_or_refused files failed words text fault t made cause in absurd (fine f.0 f.1)

made_says : (call : Call) (text : List ℕ) (end : Status) → call.files.tells → IsMade call.files call.words text → ((name : List ℕ) → call.shelf_failed name → ⊥) → SaysText call end → (end ≡ Done) × Sends (sent_over call.talk.station) text
made_says call text end t made fine (other, due, sends) =
    let is = made_is_due call.files call.shelf_failed call.words text other end t made fine due in
    (is.0, λ told. sends told ∙ ap (λ (x : List ℕ). call.talk.station.old.seen.sent ++ x) is.1)

made_ends : (call : Call) (text : List ℕ) (end : Status) → call.files.tells → IsMade call.files call.words text → ((name : List ℕ) → call.shelf_failed name → ⊥) → (call.talk.station_failed → ⊥) → TextEnds call end → SendsIfMemory call.talk.station text end
made_ends call text Done t made fine sent l = inl (made_says call text Done t made fine l)
made_ends call text status.Usage t made fine sent l = inl (made_says call text status.Usage t made fine l)
made_ends call text Input t made fine sent l = inl (made_says call text Input t made fine l)
made_ends call text Journal t made fine sent l = absurd l
made_ends call text ReadFault t made fine sent l = inl (made_says call text ReadFault t made fine l)
made_ends call text StationFault t made fine sent l = absurd (sent l.0)
made_ends call text Memory t made fine sent l = inr refl
made_ends call text Limit t made fine sent l = absurd l

pub made_sent : (call : Call) (text : List ℕ) (end : Status) → call.files.tells → IsMade call.files call.words text → ((name : List ℕ) → call.shelf_failed name → ⊥) → (call.talk.station_failed → ⊥) → EndsAs call end → SendsIfMemory call.talk.station text end
made_sent call text end t made fine sent (inl l) = made_ends call text end t made fine sent l.ends
made_sent call text end t made fine sent (inr r) = absurd (asked_or_made call.files call.words r.command r.papers r.routes text r.asked made)
