use Rattle.std.proofs.Common.{subst}
use Rattle.fleet_journal.specs.Reading.{IsFoundOn}
use Rattle.fleet_journal.proofs.Choosing.{found_not_live, only_a, first_a}
use Rattle.fleet_journal.proofs.journal.latest.Goals as goal

pub returns-in_default : goal.returns-in_default
returns-in_default c = λ scene a b. rw c.live-in_default.ensures (only_a scene _ _ _ a (found_not_live scene.b _ b c.in_default.not-Live) (c.other_side-beside.ensures scene.b b))

pub returns-else-header-later : goal.returns-else-header-later
returns-else-header-later c = λ scene a b. rw c.live-else-header-later.ensures (first_a scene _ _ _ _ a (subst (IsFoundOn scene.b) c.in-Live.is b) _ c.if-header-later.false (c.other_side-beside.ensures scene.b b))
