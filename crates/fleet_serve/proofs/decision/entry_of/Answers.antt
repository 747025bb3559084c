use Rattle.fleet_recovery.proofs.Entering.{refused_no_choice}
use Rattle.fleet_serve.proofs.decision.entry_of.Goals as goal

pub unreachable-requires : goal.unreachable-requires
unreachable-requires c =
    refused_no_choice c.args.graph.now c.args.fleet.now c.args.report.now c.args.switched.now c.in-Err-ChoiceRefused.field-0-0 c.in-Err-ChoiceRefused.field-0-1 (rw c.in-Err-ChoiceRefused.field-0-is at c.in-Err-ChoiceRefused.ensures.refused) c.requires.choice
