use Rattle.std.proofs.Common.{sym, subst}
use Rattle.fleet_journal.specs.Standing.{Standing}
use Rattle.fleet_journal.specs.Journal.{Stands}
use Rattle.fleet_journal.proofs.Finishing.{until_cleared, until_end, at_end, ends, cuts_side}
use Rattle.fleet_journal.proofs.journal.Journal.finish.Goals as goal

pub returns-in_err-clear_unless_clean-clause-any_moment : goal.returns-in_err-clear_unless_clean-clause-any_moment
returns-in_err-clear_unless_clean-clause-any_moment g c = rw (← c.self.view_is) (λ told header entries stands kept.
    until_cleared _ header entries _ c.other.ensures _ _ stands (c.clear_unless_clean.ensures.any_moment told kept))

pub returns-in_err-cut_behind-clause-any_moment : goal.returns-in_err-cut_behind-clause-any_moment
returns-in_err-cut_behind-clause-any_moment g c = rw (← c.self.view_is) (λ told header entries stands kept.
    let kept1 = c.in_ok-clear_unless_clean.ensures.kept told kept in
    until_end _ header entries _ c.other.ensures _ _ _ stands (c.clear_unless_clean.ensures.any_moment told kept) (c.in_ok-clear_unless_clean.ensures.clears told) (c.cut_behind.ensures.any_moment told kept1))

pub returns-clause-any_moment : goal.returns-clause-any_moment
returns-clause-any_moment g c = rw (← c.self.view_is) (λ told header entries stands kept.
    let kept1 = c.in_ok-clear_unless_clean.ensures.kept told kept in
    until_end _ header entries _ c.other.ensures _ _ _ stands (c.clear_unless_clean.ensures.any_moment told kept) (c.in_ok-clear_unless_clean.ensures.clears told) (c.cut_behind.ensures.any_moment told kept1))

pub returns-clause-keeps : goal.returns-clause-keeps
returns-clause-keeps g c = rw (← c.self.view_is) (λ told header entries stands.
    at_end _ header entries _ c.other.ensures _ _ _ stands (c.in_ok-clear_unless_clean.ensures.clears told) (c.in_ok-cut_behind.ensures.cuts told))

pub returns-clause-ends : goal.returns-clause-ends
returns-clause-ends g c = rw (← c.self.view_is) (λ told.
    let found = c.requires.stands told in
    let stands = subst (λ (j : Standing). Stands j found.0 found.1 (g.T.Station.clock c.args.station.now).seen) (sym c.self.view_is) found.2 in
    ends _ found.0 found.1 _ c.other.ensures _ _ _ stands (c.in_ok-clear_unless_clean.ensures.clears told) (c.in_ok-cut_behind.ensures.cuts told))

pub returns-clause-cuts : goal.returns-clause-cuts
returns-clause-cuts g c = rw (← c.self.view_is) (λ told. let found = c.requires.stands told in cuts_side (record { side = c.self.inside.side; place = c.self.inside.place; passed = c.self.inside.passed }) found.0 found.1 _ c.other.ensures _ _ _ (c.in_ok-clear_unless_clean.ensures.clears told) (c.in_ok-cut_behind.ensures.cuts told))
