use Rattle.std.proofs.Common.{◌++◌, ◌∷◌, [], ◌∙◌, List, ℕ, ap, refl}
use Rattle.command_words.specs.declared.command.Command.TheVariants.{Check, Gen, Plan}
use Rattle.fleet_cli.specs.Papers.{bytes_of}
use Rattle.fleet_cli.specs.Due.{a_fleet, a_plan, a_check, a_made_text}
use Rattle.fleet_cli.proofs.Pieces.{sound_counted}
use Rattle.fleet_cli.proofs.Unplanned.{called_for}
use Rattle.fleet_cli.proofs.task.task_for.Goals as goal
use Rattle.fleet_recovery.proofs.Replays.{told_on}

pub returns-in_err-plan_for-in-Plan-clause-refused : goal.returns-in_err-plan_for-in-Plan-clause-refused
returns-in_err-plan_for-in-Plan-clause-refused g c =
    let command = rw c.in-Plan.is at c.in_ok-map.ensures.command in
    told_on _ c.from_residual-in_err-plan_for-in-Plan.result c.in_err-plan_for-in-Plan.field-0.0 _ c.from_residual-in_err-plan_for-in-Plan.ensures.1
    (called_for _ _ _ c.in-Plan.map.now c.in-Plan.scen.now c.in-Plan.robots c.in-Plan.horizon c.in_err-plan_for-in-Plan.field-0.0
    (record { command = Plan c.in-Plan.map c.in-Plan.scen c.in-Plan.robots c.in-Plan.horizon; words_are = command; plans = (refl, refl, refl, refl) }) c.in_err-plan_for-in-Plan.ensures.refused)

pub returns-in_ok-sound_text-in-Check-clause-task : goal.returns-in_ok-sound_text-in-Check-clause-task
returns-in_ok-sound_text-in-Check-clause-task g c =
    let command = rw c.in-Check.is at c.in_ok-map.ensures.command in
    let papers = c.in_ok-papers-in-Check.papers in
    rw c.said.ensures (a_check refl (Check c.in-Check.map c.in-Check.plan) (bytes_of papers) papers.plan tt
    (record { map_name = c.in-Check.map.now; plan_name = c.in-Check.plan.now; words_are = record { words_are = command; papers_are = (refl, refl) }; sound = c.in_ok-papers-in-Check.ensures.sound })
    (c.in_ok-sound_text-in-Check.ensures ∙ ap (λ (t : List ℕ). t ++ 10 ∷ []) (sound_counted papers.plan c.sound_of.result c.sound_of.ensures)))

pub returns-in_ok-fleet_text-in-Gen-clause-task : goal.returns-in_ok-fleet_text-in-Gen-clause-task
returns-in_ok-fleet_text-in-Gen-clause-task g c =
    let command = rw c.in-Gen.is at c.in_ok-map.ensures.command in
    rw c.said-in-Gen.ensures (a_made_text refl (a_fleet c.in-Gen.seed c.in-Gen.plan (record { command = Gen c.in-Gen.seed c.in-Gen.plan; words_are = command; generates = (refl, refl) }) c.in_ok-fleet_text-in-Gen.ensures))

pub returns-in_ok-plan_for-in-Plan-clause-task : goal.returns-in_ok-plan_for-in-Plan-clause-task
returns-in_ok-plan_for-in-Plan-clause-task g c =
    let command = rw c.in-Plan.is at c.in_ok-map.ensures.command in
    rw c.said-in-Plan.ensures (a_made_text refl (a_plan c.in-Plan.map.now c.in-Plan.scen.now c.in-Plan.robots c.in-Plan.horizon
    (record { command = Plan c.in-Plan.map c.in-Plan.scen c.in-Plan.robots c.in-Plan.horizon; words_are = command; plans = (refl, refl, refl, refl) }) c.in_ok-plan_for-in-Plan.ensures.planned))
