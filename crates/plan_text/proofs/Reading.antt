-- How far a text has been read as a plan.
use Rattle.std.proofs.Common.{ℕ, suc, ◌+◌, ◌≤◌, ◌≡◌, List, [], ◌∷◌, ◌++◌, length, sym, ◌∙◌, ap, subst, refl, arith}
use Rattle.std.proofs.lemmas.List.{append_assoc, append-nil}
use Rattle.fleet_base.specs.declared.geometry.Cell.{Cell}
use Rattle.plan_text.specs.declared.fault.PlanKind.{PlanKind}
use Rattle.plan_text.specs.PlanText.{robot_lines, IsPlanLine, AreRobotLines, IsPlanText}
use Rattle.plan_text.specs.PlanFaults.{IsLineFault, IsFirstBadLine}
use Rattle.plan_text.proofs.Labels.{one_line}

-- the lines above the rest are those of the plan's robots
pub record IsReading (text rest : List ℕ) (plan : List (List Cell)) : Type 0 where
  pub above : List (List ℕ)
  pub good : AreRobotLines 0 above plan
  pub split : robot_lines text ≡ above ++ robot_lines rest

-- nothing is read yet
pub reading_none : (text : List ℕ) → IsReading text text []
reading_none text = record { above = []; good = tt; split = refl }

-- a line for each robot
pub same_length : (i : ℕ) (lines : List (List ℕ)) (plan : List (List Cell)) → AreRobotLines i lines plan → length lines ≡ length plan
same_length i [] [] all = refl
same_length i (line ∷ lines) (path ∷ plan) all = ap suc (same_length (i + 1) lines plan all.1)
same_length i [] (path ∷ plan) all = absurd all
same_length i (line ∷ lines) [] all = absurd all

-- one more line
lines_push : (i : ℕ) (lines : List (List ℕ)) (plan : List (List Cell)) (line : List ℕ) (path : List Cell) → AreRobotLines i lines plan → IsPlanLine (i + length lines) line path → AreRobotLines i (lines ++ line ∷ []) (plan ++ path ∷ [])
lines_push i [] [] line path all is = (subst (λ k. IsPlanLine k line path) (add_none i) is, tt) where
  add_none : (k : ℕ) → k + 0 ≡ k
  add_none k = omega arith
lines_push i (first ∷ lines) (path' ∷ plan) line path all is = (all.0, lines_push (i + 1) lines plan line path all.1 (subst (λ k. IsPlanLine k line path) (moved i (length lines)) is)) where
  moved : (k n : ℕ) → k + suc n ≡ k + 1 + n
  moved k n = omega arith
lines_push i [] (path' ∷ plan) line path all is = absurd all
lines_push i (first ∷ lines) [] line path all is = absurd all

-- a line is read
pub reading_more : (text rest after : List ℕ) (plan : List (List Cell)) (line : List ℕ) (path : List Cell) (robot : ℕ) → robot ≡ length plan → robot_lines rest ≡ line ∷ robot_lines after → IsPlanLine robot line path → IsReading text rest plan → IsReading text after (plan ++ path ∷ [])
reading_more text rest after plan line path robot same next is r = record {
  above = r.above ++ line ∷ [];
  good = lines_push 0 r.above plan line path r.good (subst (λ k. IsPlanLine k line path) (same ∙ number r.above plan (same_length 0 r.above plan r.good)) is);
  split = r.split ∙ ap (λ ls. r.above ++ ls) next ∙ sym (append_assoc r.above (line ∷ []) (robot_lines after));
} where
  number : (lines : List (List ℕ)) (paths : List (List Cell)) → length lines ≡ length paths → length paths ≡ 0 + length lines
  number lines paths e = omega arith

-- all lines are read
pub reading_all : (text rest : List ℕ) (plan : List (List Cell)) → robot_lines rest ≡ [] → IsReading text rest plan → AreRobotLines 0 (robot_lines text) plan
reading_all text rest plan none r =
    subst (λ ls. AreRobotLines 0 ls plan) (sym (r.split ∙ ap (λ ls. r.above ++ ls) none ∙ append-nil r.above)) r.good

-- a line is bad
pub reading_stops : (text rest after : List ℕ) (plan : List (List Cell)) (line : List ℕ) (at column : ℕ) (kind : PlanKind) → robot_lines rest ≡ line ∷ robot_lines after → at ≡ length plan + 1 → IsLineFault (length plan) line column kind → IsReading text rest plan → IsFirstBadLine (robot_lines text) at column kind
reading_stops text rest after plan line at column kind next number fault r =
    let same : length plan ≡ length r.above = sym (same_length 0 r.above plan r.good) in
    record {
      above = r.above;
      plan = plan;
      good = r.good;
      line = line;
      below = robot_lines after;
      stands = r.split ∙ ap (λ ls. r.above ++ ls) next;
      number = number ∙ ap (λ k. k + 1) same;
      fault = subst (λ k. IsLineFault k line column kind) same fault;
    }

-- the lines say one plan
pub one_plan : (i : ℕ) (lines : List (List ℕ)) (plan other : List (List Cell)) → AreRobotLines i lines plan → AreRobotLines i lines other → plan ≡ other
one_plan i [] [] [] a b = refl
one_plan i (line ∷ lines) (path ∷ plan) (path' ∷ other) a b = cons (one_line i line path path' a.0 b.0) (one_plan (i + 1) lines plan other a.1 b.1) where
  cons : {p q : List Cell} {ps qs : List (List Cell)} → p ≡ q → ps ≡ qs → p ∷ ps ≡ q ∷ qs
  cons e f = cc
one_plan i [] [] (path' ∷ other) a b = absurd b
one_plan i [] (path ∷ plan) other a b = absurd a
one_plan i (line ∷ lines) [] other a b = absurd a
one_plan i (line ∷ lines) (path ∷ plan) [] a b = absurd b

-- with a bad line they say none
pub none_with_bad : (i : ℕ) (above : List (List ℕ)) (line : List ℕ) (below : List (List ℕ)) (plan : List (List Cell)) → ((path : List Cell) → IsPlanLine (i + length above) line path → ⊥) → AreRobotLines i (above ++ line ∷ below) plan → ⊥
none_with_bad i [] line below [] bad all = all
none_with_bad i [] line below (path ∷ plan) bad all = bad path (subst (λ k. IsPlanLine k line path) (more i) all.0) where
  more : (k : ℕ) → k ≡ k + 0
  more k = omega arith
none_with_bad i (first ∷ above) line below [] bad all = all
none_with_bad i (first ∷ above) line below (path ∷ plan) bad all = none_with_bad (i + 1) above line below plan (λ p is. bad p (subst (λ k. IsPlanLine k line p) (moved i (length above)) is)) all.1 where
  moved : (k n : ℕ) → k + 1 + n ≡ k + suc n
  moved k n = omega arith

-- so a text with a fault is no plan
pub fault_refuses : (text : List ℕ) (at column : ℕ) (kind : PlanKind) (plan : List (List Cell)) → IsFirstBadLine (robot_lines text) at column kind → IsPlanText text plan → ⊥
fault_refuses text at column kind plan fault is =
    none_with_bad 0 fault.above fault.line fault.below plan (λ path h. fault.fault.bad path (subst (λ k. IsPlanLine k fault.line path) (none (length fault.above)) h)) (subst (λ ls. AreRobotLines 0 ls plan) fault.stands is.lines) where
      none : (k : ℕ) → 0 + k ≡ k
      none k = omega arith

-- nor is one without lines
pub empty_refuses : (text : List ℕ) (plan : List (List Cell)) → robot_lines text ≡ [] → IsPlanText text plan → ⊥
empty_refuses text plan none is = go plan is.some (subst (λ ls. AreRobotLines 0 ls plan) none is.lines) where
  go : (p : List (List Cell)) → 1 ≤ length p → AreRobotLines 0 [] p → ⊥
  go [] some all = absurd (omega arith)
  go (path ∷ p) some all = all
