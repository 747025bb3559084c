use Rattle.std.proofs.Common.{◌≡◌, ◌++◌, ◌∷◌, [], sym, ap, ◌∙◌}
use Rattle.std.specs.Int.{w32, w64, to_be_bytes}
use Rattle.std.proofs.lemmas.Result.{IfOk-equal}
use Rattle.fleet_base.specs.declared.report.Report.{Report}
use Rattle.journal_frame.specs.Entries.{entry_payload}
use Rattle.journal_frame.proofs.EntryLaws.{delay_spelled}
use Rattle.journal_frame.proofs.entry.put_entry.Goals as goal

pub returns-in_ok-put-in-Delay-3-clause-payload : goal.returns-in_ok-put-in-Delay-3-clause-payload
returns-in_ok-put-in-Delay-3-clause-payload c =
    let d = c.in-Delay in
    let kind : c.put-in-Delay.new.out.items ≡ c.args.out.now.items ++ 2 ∷ [] = cc c.in_ok-put-in-Delay.ensures in
    let visit : c.put_visit-in-Delay.new.out.items ≡ c.put-in-Delay.new.out.items ++ (to_be_bytes w32 d.robot ++ to_be_bytes w32 d.index) = cc c.in_ok-put_visit-in-Delay.ensures in
    let extra : c.put-in-Delay-2.new.out.items ≡ c.put_visit-in-Delay.new.out.items ++ to_be_bytes w32 d.extra = cc c.in_ok-put-in-Delay-2.ensures in
    let tick : c.put-in-Delay-3.new.out.items ≡ c.put-in-Delay-2.new.out.items ++ to_be_bytes w64 d.tick = cc c.in_ok-put-in-Delay-3.ensures in
    let spelled = delay_spelled c.args.out.now.items _ _ _ _ d.robot d.index d.extra d.tick c.args.switched.now kind visit extra tick in
    IfOk-equal c.put_pairs.result _ _ _ c.put_pairs.ensures.payload (spelled ∙ ap (λ (r : Report). c.args.out.now.items ++ entry_payload r c.args.switched.now) (sym d.is))
