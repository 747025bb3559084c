use Rattle.std.proofs.Common.{subst}
use Rattle.fleet_journal.specs.Answers.{IsFound}
use Rattle.station_api.proofs.Moments.{quiet_on}
use Rattle.fleet_recovery.proofs.Replays.{still_read}
use Rattle.fleet_recovery.proofs.Looks.{ok_both, refused_so, looked, bad}
use Rattle.fleet_recovery.proofs.looking.look_on.Goals as goal

pub returns-in_default-clause-found : goal.returns-in_default-clause-found
returns-in_default-clause-found g c told =
    let found = subst (IsFound (g.T.Station.clock c.args.station.now).seen) c.in-Live.is (c.in_ok-find.ensures.found told) in
    let same = (c.find.ensures.quiet told).seen in
    ok_both _ _ c.read_all.result _ _ _ c.read_all.ensures.base (c.read_all.ensures.leads told c.in-Live.header (still_read _ _ _ _ _ same found.0))
    (λ made base leads. looked c.args.plan.now _ _ _ same c.in_ok-fleet.fleet c.in_ok-fleet.ensures.first _ c.requires.graph c.in-Live.header c.in_default.ensures.same c.in-Live.journal made.fleet made.base c.in-Live.other made.live found.1 base leads)

pub returns-in_default-clause-refused : goal.returns-in_default-clause-refused
returns-in_default-clause-refused g c =
    refused_so _ g.T.Station.tells c.args.plan.now (record { map = c.args.map.now; plan = c.args.text.now }) (g.T.Station.clock c.args.station.now).seen _ c.read_all.result c.read_all.ensures.refused
    (λ n stuck told.
    let found = subst (IsFound (g.T.Station.clock c.args.station.now).seen) c.in-Live.is (c.in_ok-find.ensures.found told) in
    let same = (c.find.ensures.quiet told).seen in
    bad c.args.plan.now _ _ _ same c.in_ok-fleet.fleet c.in_ok-fleet.ensures.first _ c.requires.graph c.in-Live.header c.in_default.ensures.same c.in-Live.journal n (stuck told c.in-Live.header (still_read _ _ _ _ _ same found.0)))

pub returns-in_default-clause-quiet : goal.returns-in_default-clause-quiet
returns-in_default-clause-quiet g c told = quiet_on _ _ _ (c.find.ensures.quiet told) (c.read_all.ensures.quiet told)
