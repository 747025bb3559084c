use Rattle.std.proofs.Common.{◌≡◌, sym, subst, rules}
use Rattle.station_api.specs.Scene.{Scene}
use Rattle.station_api.specs.Past.{past_clock, past_stopped}
use Rattle.station_api.specs.Replay.{LeftSince}
use Rattle.station_api.proofs.Stop.{stopped_left}
use Rattle.station_api.proofs.disk.Disk.stopped.Goals as goal

pub returns-clause-left : goal.returns-clause-left
returns-clause-left c =
    let past = c.args.self.now in
    let exact : (past_clock c.in_ok-disk.disk).seen ≡ past_stopped past c.args.last c.args.kept c.args.filler = search rules in
    subst (λ (s : Scene). LeftSince past.first past.calls 0 s) (sym exact) (stopped_left past.first past.calls c.args.last c.args.kept c.args.filler)
