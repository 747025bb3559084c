use Rattle.std.proofs.Common.{sym, ◌∙◌, refl, arith, rules}
use Rattle.std.proofs.lemmas.List.{append-nil}
use Rattle.std.proofs.lemmas.Result.{err_from_is_err_and}
use Rattle.station_api.proofs.MemoryDisk.{sending_none}
use Rattle.station_api.proofs.StationCalls.{starved_call}
use Rattle.station_api.proofs.mem_station.MemStationStation.send.Goals as goal

pub returns-in_err-begin-clause-sending : goal.returns-in_err-begin-clause-sending
returns-in_err-begin-clause-sending c = rw (← c.self.view_is) (sending_none _)

pub returns-in_err-begin-clause-part : goal.returns-in_err-begin-clause-part
returns-in_err-begin-clause-part c =
    let p = err_from_is_err_and c.from_residual.result c.from_residual.ensures.1 in
    rw (← c.self.view_is, p.1) (0, omega arith, sym (append-nil _))

pub returns-in-Err-clause-sending : goal.returns-in-Err-clause-sending
returns-in-Err-clause-sending c = rw (← c.self.view_is) c.in-Err.ensures.sending

pub returns-in-Err-clause-part : goal.returns-in-Err-clause-part
returns-in-Err-clause-part c = rw (← c.self.view_is) (0, omega arith, c.in-Err.ensures.none ∙ sym (append-nil _))

pub returns-in-Err-clause-call : goal.returns-in-Err-clause-call
returns-in-Err-clause-call c =
    let begun = c.in_ok-begin.ensures in
    rw (← c.self.view_is) (starved_call _ _ _ _ _ begun.calls begun.failing begun.starved begun.no_fault (λ set. begun.fails.1 set) c.starve.ensures.counts c.in-Err.ensures.err refl)

pub returns-clause-sending : goal.returns-clause-sending
returns-clause-sending c = rw (← c.self.view_is) c.in_default.ensures.sending

pub returns-clause-sent : goal.returns-clause-sent
returns-clause-sent c = rw (← c.self.view_is) (search rules)
