-- A plan is sound, or there is a refusal.
use Rattle.std.proofs.Common.{ℕ, Bool, ◌≡◌, ◌⊎◌, drop, List, [], ◌∷◌, ◌++◌, sym, ap, ◌∙◌, subst, inl, inr, arith, length, take, refl, Some}
use Rattle.fleet_base.specs.declared.geometry.Cell.{Cell}
use Rattle.fleet_base.specs.declared.geometry.PlannedVisit.{PlannedVisit}
use Rattle.fleet_base.specs.declared.status.Status.{Status}
use Rattle.fleet_base.specs.declared.status.Status.TheVariants.{Done, Input, Journal, ReadFault, StationFault, Memory, Limit}
use Rattle.fleet_base.specs.declared.status.Status.TheVariants as status
use Rattle.fleet_base.specs.Bytes.{file_lines}
use Rattle.fleet_base.specs.Grid.{OccupancyGrid}
use Rattle.fleet_base.specs.Plan.{visits_of, AreRoutes}
use Rattle.fleet_base.specs.Pairs.{pairs_of}
use Rattle.map_text.specs.MapFaults.{IsMapFault}
use Rattle.map_text.proofs.OneFault.{no_fault, one_map}
use Rattle.plan_text.specs.PlanText.{robot_lines}
use Rattle.plan_text.specs.PlanFaults.{IsPlanFault}
use Rattle.plan_text.proofs.Outcomes.{faulty, means_one}
use Rattle.plan_check.specs.Faults.{IsFirstFault}
use Rattle.plan_check.proofs.Accepted.{accepted_faultless}
use Rattle.fleet_cli.specs.declared.fault.Paper.TheVariants as paper
use Rattle.fleet_cli.specs.declared.fault.Fault.{Fault}
use Rattle.fleet_cli.specs.declared.fault.Fault.TheVariants.{Usage, Long, Unread, Map, Unsound, Pairs, Scen, BadTask, NoPath}
use Rattle.fleet_cli.specs.declared.fault.Fault.TheVariants as fault
use Rattle.command_words.specs.declared.command.Command.{Command}
use Rattle.command_words.specs.declared.command.Command.TheVariants.{Check, Run, Gen, Plan}
use Rattle.command_words.specs.Commands.{AreOne}
use Rattle.command_words.proofs.OneCommand.{one_command}
use Rattle.fleet_cli.specs.Words.{IsCommandOn, NamesPapers, Checks, RunsWith, GeneratesWith, PlansWith}
use Rattle.fleet_cli.specs.Papers.{Files, IsPaper, IsLong, HasMap, HasPlan, IsSoundPaper}
use Rattle.fleet_cli.specs.Causes.{IsRefused, IsPlanCause, IsTaskCause, IsCause}
use Rattle.fleet_cli.specs.Due.{IsAsked, IsDue, a_check, a_made_text, a_refusal}
use Rattle.fleet_recovery.specs.Papers.{Papers}
use Rattle.fleet_recovery.specs.Image.{StandsFor}
use Rattle.fleet_cli.proofs.Opening.{not_refused}
use Rattle.fleet_cli.specs.Runs.{RunEnds, run_settings}
use Rattle.fleet_serve.specs.Spans.{sent_over}
use Rattle.fleet_cli.specs.Lines.{fault_line, status_of}
use Rattle.fleet_cli.specs.Tasks.{EndsWith}
use Rattle.fleet_serve.specs.Told.{Sends}
use Rattle.fleet_cli.specs.Ends.{Call, IsText, SaysText, TextEnds, IsRunCall, EndsAs, MayOpen, IsSmooth}

-- a file that is told has one content
pub same_bytes : (files : Files) (name bytes bytes2 : List ℕ) → files.tells → IsPaper files name bytes → IsPaper files name bytes2 → bytes ≡ bytes2
same_bytes files name bytes bytes2 t p q = let e : Some bytes ≡ Some bytes2 = sym (p.is_file t) ∙ q.is_file t in cc

-- and is not both short and long
pub short_or_long : (files : Files) (name bytes : List ℕ) (n : ℕ) → files.tells → IsPaper files name bytes → IsLong files name n → ⊥
short_or_long files name bytes n t p l =
    let f = l.is_file t in
    let e : Some bytes ≡ Some f.0 = sym (p.is_file t) ∙ f.1 in
    let same : bytes ≡ f.0 = cc in
    absurd (omega (arith, p.small, l.above, f.2, ap (λ (b : List ℕ). length b) same))

pub same_map : (files : Files) (name : List ℕ) (g g2 : OccupancyGrid) → files.tells → HasMap files name g → HasMap files name g2 → g ≡ g2
same_map files name g g2 t m m2 = one_map m.bytes g g2 m.text (subst (λ (b : List ℕ). Rattle.map_text.specs.MapText.IsMapText b g2) (sym (same_bytes files name m.bytes m2.bytes t m.paper m2.paper)) m2.text)

pub same_plan : (files : Files) (map_name plan_name : List ℕ) (g g2 : OccupancyGrid) (plan plan2 : List (List Cell)) → files.tells → HasPlan files map_name plan_name g plan → HasPlan files map_name plan_name g2 plan2 → plan ≡ plan2
same_plan files map_name plan_name g g2 plan plan2 t p p2 = means_one p.bytes plan plan2 p.text (subst (λ (b : List ℕ). Rattle.plan_text.specs.PlanText.IsPlanText b plan2) (sym (same_bytes files plan_name p.bytes p2.bytes t p.paper p2.paper)) p2.text)

-- of the same files, a sound plan and a refusal are both had only where the shelf failed
one_or_other : (files : Files) (failed : List ℕ → Type 0) (map_name plan_name : List ℕ) (papers : Papers) (routes : List (List PlannedVisit)) (fault : Fault) → files.tells → IsSoundPaper files map_name plan_name papers routes → IsRefused files failed map_name plan_name fault → (name : List ℕ) × failed name
one_or_other files failed m p papers routes Usage t s r = absurd r
one_or_other files failed m p papers routes (Long paper.Map n) t s r = absurd (short_or_long files m s.has.papers.on.bytes n t s.has.papers.on.paper r)
one_or_other files failed m p papers routes (Long paper.Plan n) t s r = absurd (short_or_long files p s.has.papers.bytes n t s.has.papers.paper r.1)
one_or_other files failed m p papers routes (Long paper.Scen n) t s r = absurd r
one_or_other files failed m p papers routes (Unread paper.Map) t s r = (m, r)
one_or_other files failed m p papers routes (Unread paper.Plan) t s r = (p, r.1)
one_or_other files failed m p papers routes (Unread paper.Scen) t s r = absurd r
one_or_other files failed m p papers routes (Scen f) t s r = absurd r
one_or_other files failed m p papers routes (BadTask i why) t s r = absurd r
one_or_other files failed m p papers routes (NoPath i) t s r = absurd r
one_or_other files failed m p papers routes (Map f) t s r =
    let same = same_bytes files m s.has.papers.on.bytes r.0 t s.has.papers.on.paper r.1 in
    absurd (no_fault s.has.papers.on.bytes s.has.grid f.line f.kind s.has.papers.on.text (subst (λ (b : List ℕ). IsMapFault (file_lines b) f.line f.kind) (sym same) r.2))
one_or_other files failed m p papers routes (fault.Plan f) t s r =
    let same = same_bytes files p s.has.papers.bytes r.2.0 t s.has.papers.paper r.2.1 in
    absurd (faulty s.has.papers.bytes f.line f.column f.kind s.has.plan (subst (λ (b : List ℕ). IsPlanFault (robot_lines b) f.line f.column f.kind) (sym same) r.2.2) s.has.papers.text)
one_or_other files failed m p papers routes (Unsound u) t s r =
    let grid = same_map files m s.has.grid r.0 t s.has.papers.on r.2.on in
    let plan = same_plan files m p s.has.grid r.0 s.has.plan r.1 t s.has.papers r.2 in
    let first = subst (λ (g : OccupancyGrid). IsFirstFault g s.has.plan u) (sym grid) (subst (λ (ps : List (List Cell)). IsFirstFault r.0 ps u) (sym plan) r.3) in
    absurd (accepted_faultless s.has.grid s.has.plan s.has.accepted u first.here)
one_or_other files failed m p papers routes (Pairs n) t s r =
    let plan = same_plan files m p s.has.grid r.1.grid s.has.plan r.1.plan t s.has.papers r.1.papers in
    let same : routes ≡ r.0 = s.has.visits ∙ ap (λ (ps : List (List Cell)). visits_of ps) plan ∙ sym r.1.visits in
    absurd (omega (arith, r.2, r.3, s.few, ap (λ (rs : List (List PlannedVisit)). length (pairs_of rs)) same))

heads_are : {X : Type 0} (x y : X) (xs ys : List X) → x ∷ xs ≡ y ∷ ys → (x ≡ y) × (xs ≡ ys)
heads_are x y xs ys e = (cc, ap (λ l. drop 1 l) e)

papers_are : (p q : Papers) → p.map ≡ q.map → p.plan ≡ q.plan → p ≡ q
papers_are p q map plan = ap (λ (m : List ℕ). let r : Papers = record { map = m; plan = p.plan } in r) map ∙ ap (λ (t : List ℕ). let r : Papers = record { map = q.map; plan = t } in r) plan

-- words name one map and one plan
pub same_names : (words : List (List ℕ)) (a b : Command) (m p m2 p2 : List ℕ) → IsCommandOn words a m p → IsCommandOn words b m2 p2 → (m ≡ m2) × (p ≡ p2)
same_names words a b m p m2 p2 x y = named a b x.papers_are y.papers_are (one_command words a b x.words_are y.words_are)
  where
    named : (a b : Command) → NamesPapers a m p → NamesPapers b m2 p2 → AreOne a b → (m ≡ m2) × (p ≡ p2)
    named (Check k l) (Check k2 l2) x y e = (x.0 ∙ e.0 ∙ sym y.0, x.1 ∙ e.1 ∙ sym y.1)
    named (Run k l j n q) (Run k2 l2 j2 n2 q2) x y e = (x.0 ∙ e.0 ∙ sym y.0, x.1 ∙ e.1 ∙ sym y.1)
    named (Gen k f) b x y e = absurd x
    named (Plan k l n h) b x y e = absurd x
    named (Check k l) (Run k2 l2 j2 n2 q2) x y e = absurd e
    named (Check k l) (Gen k2 f2) x y e = absurd e
    named (Check k l) (Plan k2 l2 n2 h2) x y e = absurd e
    named (Run k l j n q) (Check k2 l2) x y e = absurd e
    named (Run k l j n q) (Gen k2 f2) x y e = absurd e
    named (Run k l j n q) (Plan k2 l2 n2 h2) x y e = absurd e

-- a check is no run
pub check_is_no_run : (files : Files) (words : List (List ℕ)) (papers others : Papers) (rs qs : List (List PlannedVisit)) (one other : Command) (journal : List ℕ) (budget : ℕ) (quiet : Bool) → Checks one → RunsWith other journal budget quiet → IsAsked files words one papers rs → IsAsked files words other others qs → ⊥
check_is_no_run files words papers others rs qs one other journal budget quiet checks runs a b = differ one other checks runs (one_command words one other a.words_are.words_are b.words_are.words_are)
  where
    differ : (one other : Command) → Checks one → RunsWith other journal budget quiet → AreOne one other → ⊥
    differ (Check k l) (Check k2 l2) checks runs e = runs
    differ (Check k l) (Run k2 l2 j2 n2 q2) checks runs e = e
    differ (Check k l) (Gen k2 f2) checks runs e = runs
    differ (Check k l) (Plan k2 l2 n2 h2) checks runs e = runs
    differ (Run k l j n q) other checks runs e = checks
    differ (Gen k f) other checks runs e = checks
    differ (Plan k l n h) other checks runs e = checks

-- a command that names a plan makes neither a fleet nor a plan
pub names_or_generates : (a b : Command) (m p : List ℕ) (k : ℕ) (flag : Bool) → NamesPapers a m p → GeneratesWith b k flag → AreOne a b → ⊥
names_or_generates (Gen s f) b m p k flag x y e = x
names_or_generates (Plan s t n h) b m p k flag x y e = x
names_or_generates (Check s t) (Check s2 t2) m p k flag x y e = y
names_or_generates (Check s t) (Run s2 t2 j2 n2 q2) m p k flag x y e = y
names_or_generates (Check s t) (Gen s2 f2) m p k flag x y e = e
names_or_generates (Check s t) (Plan s2 t2 n2 h2) m p k flag x y e = y
names_or_generates (Run s t j n q) (Check s2 t2) m p k flag x y e = y
names_or_generates (Run s t j n q) (Run s2 t2 j2 n2 q2) m p k flag x y e = y
names_or_generates (Run s t j n q) (Gen s2 f2) m p k flag x y e = e
names_or_generates (Run s t j n q) (Plan s2 t2 n2 h2) m p k flag x y e = y

pub names_or_plans : (a b : Command) (m p m2 s2 : List ℕ) (n h : ℕ) → NamesPapers a m p → PlansWith b m2 s2 n h → AreOne a b → ⊥
names_or_plans (Gen k f) b m p m2 s2 n h x y e = x
names_or_plans (Plan k l i g) b m p m2 s2 n h x y e = x
names_or_plans (Check k l) (Check k2 l2) m p m2 s2 n h x y e = y
names_or_plans (Check k l) (Run k2 l2 j2 i2 q2) m p m2 s2 n h x y e = y
names_or_plans (Check k l) (Gen k2 f2) m p m2 s2 n h x y e = y
names_or_plans (Check k l) (Plan k2 l2 i2 g2) m p m2 s2 n h x y e = e
names_or_plans (Run k l j i q) (Check k2 l2) m p m2 s2 n h x y e = y
names_or_plans (Run k l j i q) (Run k2 l2 j2 i2 q2) m p m2 s2 n h x y e = y
names_or_plans (Run k l j i q) (Gen k2 f2) m p m2 s2 n h x y e = y
names_or_plans (Run k l j i q) (Plan k2 l2 i2 g2) m p m2 s2 n h x y e = e

-- words ask for one plan, and its files have one content
pub same_asked : (files : Files) (words : List (List ℕ)) (a b : Command) (papers others : Papers) (rs qs : List (List PlannedVisit)) → files.tells → IsAsked files words a papers rs → IsAsked files words b others qs → (papers ≡ others) × (rs ≡ qs)
same_asked files words a b papers others rs qs t x y =
    let names = same_names words a b x.map_name x.plan_name y.map_name y.plan_name x.words_are y.words_are in
    let s = x.sound in
    let r : IsSoundPaper files x.map_name x.plan_name others qs = subst (λ (m : List ℕ). IsSoundPaper files m x.plan_name others qs) (sym names.0) (subst (λ (p : List ℕ). IsSoundPaper files y.map_name p others qs) (sym names.1) y.sound) in
    let maps = same_bytes files x.map_name s.has.papers.on.bytes r.has.papers.on.bytes t s.has.papers.on.paper r.has.papers.on.paper in
    let texts = same_bytes files x.plan_name s.has.papers.bytes r.has.papers.bytes t s.has.papers.paper r.has.papers.paper in
    let plans = same_plan files x.map_name x.plan_name s.has.grid r.has.grid s.has.plan r.has.plan t s.has.papers r.has.papers in
    (papers_are papers others (s.map_is ∙ maps ∙ sym r.map_is) (s.plan_is ∙ texts ∙ sym r.plan_is), s.has.visits ∙ ap (λ (ps : List (List Cell)). visits_of ps) plans ∙ sym r.has.visits)

asked_or_named : (files : Files) (failed : List ℕ → Type 0) (words : List (List ℕ)) (command : Command) (papers : Papers) (routes : List (List PlannedVisit)) (fault : Fault) → files.tells → IsAsked files words command papers routes
    → IsPlanCause files failed words fault ⊎ IsTaskCause files failed words fault → (name : List ℕ) × failed name
asked_or_named files failed words command papers routes fault t a (inr (m, s, n, h, asks, unplanned)) =
    absurd (names_or_plans command asks.command a.map_name a.plan_name m s n h a.words_are.papers_are asks.plans (one_command words command asks.command a.words_are.words_are asks.words_are))
asked_or_named files failed words command papers routes fault t a (inl (other, map_name, plan_name, named, refused)) =
    let names = same_names words command other a.map_name a.plan_name map_name plan_name a.words_are named in
    one_or_other files failed map_name plan_name papers routes fault t
    (subst (λ (m : List ℕ). IsSoundPaper files m plan_name papers routes) names.0 (subst (λ (p : List ℕ). IsSoundPaper files a.map_name p papers routes) names.1 a.sound)) refused

pub sound_or_refused : (files : Files) (failed : List ℕ → Type 0) (words : List (List ℕ)) (command : Command) (papers : Papers) (routes : List (List PlannedVisit)) (fault : Fault) → files.tells → IsAsked files words command papers routes → IsCause files failed words fault → (name : List ℕ) × failed name
sound_or_refused files failed words command papers routes Usage t a c = absurd (c command a.words_are.words_are)
sound_or_refused files failed words command papers routes (Long which n) t a c = asked_or_named files failed words command papers routes (Long which n) t a c
sound_or_refused files failed words command papers routes (Unread which) t a c = asked_or_named files failed words command papers routes (Unread which) t a c
sound_or_refused files failed words command papers routes (Map f) t a c = asked_or_named files failed words command papers routes (Map f) t a c
sound_or_refused files failed words command papers routes (fault.Plan f) t a c = asked_or_named files failed words command papers routes (fault.Plan f) t a c
sound_or_refused files failed words command papers routes (Unsound u) t a c = asked_or_named files failed words command papers routes (Unsound u) t a c
sound_or_refused files failed words command papers routes (Pairs n) t a c = asked_or_named files failed words command papers routes (Pairs n) t a c
sound_or_refused files failed words command papers routes (Scen f) t a c = asked_or_named files failed words command papers routes (Scen f) t a c
sound_or_refused files failed words command papers routes (BadTask i why) t a c = asked_or_named files failed words command papers routes (BadTask i why) t a c
sound_or_refused files failed words command papers routes (NoPath i) t a c = asked_or_named files failed words command papers routes (NoPath i) t a c

-- ---- how a call ends

-- where the plan is sound and the shelf did not fail, the text that is due ends the call well
due_is_done : (files : Files) (failed : List ℕ → Type 0) (words : List (List ℕ)) (command : Command) (papers : Papers) (routes : List (List PlannedVisit)) (end : Status) (text : List ℕ) → files.tells → IsAsked files words command papers routes → ((name : List ℕ) → failed name → ⊥) → IsDue files failed words end text → end ≡ Done
due_is_done files failed words command papers routes end text t a fine (a_check done other others qs checks asked is) = done
due_is_done files failed words command papers routes end text t a fine (a_made_text done made) = done
due_is_done files failed words command papers routes end text t a fine (a_refusal fault cause e is) = let f = sound_or_refused files failed words command papers routes fault t a cause in absurd (fine f.0 f.1)

-- what a status that is no other is
not_done : (call : Call) (command : Command) (papers : Papers) (routes : List (List PlannedVisit)) (end : Status) → call.files.tells → IsAsked call.files call.words command papers routes → ((name : List ℕ) → call.shelf_failed name → ⊥) → SaysText call end → end ≡ Done
not_done call command papers routes end t a fine (text, due, sends) = due_is_done call.files call.shelf_failed call.words command papers routes end text t a fine due

text_smooth : (call : Call) (command : Command) (papers : Papers) (routes : List (List PlannedVisit)) (end : Status) → call.files.tells → IsAsked call.files call.words command papers routes → ((name : List ℕ) → call.shelf_failed name → ⊥) → (call.talk.station_failed → ⊥) → TextEnds call end → IsSmooth command end
text_smooth call command papers routes Done t a fine sent l = tt
text_smooth call command papers routes status.Usage t a fine sent l = let e : status.Usage ≡ Done = not_done call command papers routes status.Usage t a fine l in cc
text_smooth call command papers routes Input t a fine sent l = let e : Input ≡ Done = not_done call command papers routes Input t a fine l in cc
text_smooth call command papers routes Journal t a fine sent l = absurd l
text_smooth call command papers routes ReadFault t a fine sent l = let e : ReadFault ≡ Done = not_done call command papers routes ReadFault t a fine l in cc
text_smooth call command papers routes StationFault t a fine sent l = absurd (sent l.0)
text_smooth call command papers routes Memory t a fine sent l = tt
text_smooth call command papers routes Limit t a fine sent l = absurd l

-- the routes of a sound plan
pub routes_are : (files : Files) (map_name plan_name : List ℕ) (papers : Papers) (routes : List (List PlannedVisit)) → IsSoundPaper files map_name plan_name papers routes → AreRoutes routes
routes_are files map_name plan_name papers routes s = record { grid = s.has.grid; plan = s.has.plan; accepted = s.has.accepted; visits = s.has.visits }

run_smooth : (call : Call) (command : Command) (papers : Papers) (routes : List (List PlannedVisit)) (end : Status) → call.files.tells → IsAsked call.files call.words command papers routes → MayOpen command routes papers call.talk.station.tells call.talk.station.old.seen
    → (call.talk.source_failed → ⊥) → (call.talk.station_failed → ⊥) → (r : IsRunCall call end) → RunEnds r.routes r.papers (run_settings r.budget r.quiet) call.talk end → IsSmooth command end
run_smooth call command papers routes Done t a may taken sent r e = tt
run_smooth call command papers routes status.Usage t a may taken sent r e = absurd e
run_smooth call command papers routes Input t a may taken sent r e = absurd e
run_smooth call (Gen k f) papers routes Journal t a may taken sent r e = absurd a.words_are.papers_are
run_smooth call (Plan m s n h) papers routes Journal t a may taken sent r e = absurd a.words_are.papers_are
run_smooth call (Check m p) papers routes Journal t a may taken sent r e = absurd (check_is_no_run call.files call.words papers r.papers routes r.routes (Check m p) r.command r.journal r.budget r.quiet tt r.runs a r.asked)
run_smooth call (Run m p j n q) papers routes Journal t a may taken sent r e =
    let same = same_asked call.files call.words (Run m p j n q) r.command papers r.papers routes r.routes t a r.asked in
    absurd (not_refused r.routes (routes_are call.files r.asked.map_name r.asked.plan_name r.papers r.routes r.asked.sound) r.papers call.talk.station.old.seen e.1.1.image e.1.0 (e.1.1.means may.0) e.1.1.text_is may.1.0
    (subst (λ (ps : Papers). StandsFor r.routes ps call.talk.station.old.seen may.1.0) same.0 (subst (λ (rs : List (List PlannedVisit)). StandsFor rs papers call.talk.station.old.seen may.1.0) same.1 may.1.1)))
run_smooth call command papers routes ReadFault t a may taken sent r e = absurd (taken e.0)
run_smooth call command papers routes StationFault t a may taken sent r e = absurd (sent e.0)
run_smooth call command papers routes Memory t a may taken sent r e = tt
run_smooth call (Gen k f) papers routes Limit t a may taken sent r e = absurd a.words_are.papers_are
run_smooth call (Plan m s n h) papers routes Limit t a may taken sent r e = absurd a.words_are.papers_are
run_smooth call (Check m p) papers routes Limit t a may taken sent r e = absurd (check_is_no_run call.files call.words papers r.papers routes r.routes (Check m p) r.command r.journal r.budget r.quiet tt r.runs a r.asked)
run_smooth call (Run m p j n q) papers routes Limit t a may taken sent r e = tt

-- where a command is asked of a sound plan and nothing fails, the call ends well, at the limit of input, or for want of memory
pub ends_smooth : (call : Call) (command : Command) (papers : Papers) (routes : List (List PlannedVisit)) (end : Status) → call.files.tells → IsAsked call.files call.words command papers routes → MayOpen command routes papers call.talk.station.tells call.talk.station.old.seen
    → ((name : List ℕ) → call.shelf_failed name → ⊥) → (call.talk.source_failed → ⊥) → (call.talk.station_failed → ⊥) → EndsAs call end → IsSmooth command end
ends_smooth call command papers routes end t a may fine taken sent (inl l) = text_smooth call command papers routes end t a fine sent l.ends
ends_smooth call command papers routes end t a may fine taken sent (inr r) = run_smooth call command papers routes end t a may taken sent r r.ends

-- ---- one text that is said

-- the whole text that is due ends the call with its status
said_text : (call : Call) (end : Status) (text : List ℕ) → IsText call end text → Sends (sent_over call.talk.station) text → TextEnds call end
said_text call end text (a_check done command papers routes checks asked is) sends = subst (TextEnds call) (sym done) (text, a_check refl command papers routes checks asked is, sends)
said_text call end text (a_made_text done made) sends = subst (TextEnds call) (sym done) (text, a_made_text refl made, sends)
said_text call end text (a_refusal reason cause e is) sends = subst (TextEnds call) (sym e) (of_fault reason cause is)
  where
    of_fault : (f : Fault) → IsCause call.files call.shelf_failed call.words f → text ≡ fault_line f ++ 10 ∷ [] → TextEnds call (status_of f)
    of_fault Usage k l = (text, a_refusal Usage k refl l, sends)
    of_fault (Long which n) k l = (text, a_refusal (Long which n) k refl l, sends)
    of_fault (Unread which) k l = (text, a_refusal (Unread which) k refl l, sends)
    of_fault (Map f) k l = (text, a_refusal (Map f) k refl l, sends)
    of_fault (fault.Plan f) k l = (text, a_refusal (fault.Plan f) k refl l, sends)
    of_fault (Unsound u) k l = (text, a_refusal (Unsound u) k refl l, sends)
    of_fault (Pairs n) k l = (text, a_refusal (Pairs n) k refl l, sends)
    of_fault (Scen f) k l = (text, a_refusal (Scen f) k refl l, sends)
    of_fault (BadTask i why) k l = (text, a_refusal (BadTask i why) k refl l, sends)
    of_fault (NoPath i) k l = (text, a_refusal (NoPath i) k refl l, sends)

pub say_ends : (call : Call) (status end : Status) (text bytes : List ℕ) → IsText call status text → bytes ≡ text → EndsWith status bytes (sent_over call.talk.station) call.talk.station_failed end → TextEnds call end
say_ends call status end text bytes due e (inl (same, sends)) = subst (TextEnds call) (sym same) (said_text call status text due (λ told. sends told ∙ ap (λ (t : List ℕ). call.talk.station.old.seen.sent ++ t) e))
say_ends call status end text bytes due e (inr (same, failed, part)) = subst (TextEnds call) (sym same) (failed, (status, text, due, λ told. let p = part told in (p.0, p.1 ∙ ap (λ (t : List ℕ). call.talk.station.old.seen.sent ++ take p.0 t) e)))
