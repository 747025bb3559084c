use Rattle.std.proofs.Common.{refl, subst}
use Rattle.fleet_journal.specs.Reading.{IsFoundOn}
use Rattle.journal_frame.proofs.FrameLaws.{blank_not_live}
use Rattle.fleet_journal.proofs.Choosing.{only_b, no_journal_a}
use Rattle.fleet_journal.proofs.journal.choose.Goals as goal

pub returns-in-Live-clause-found : goal.returns-in-Live-clause-found
returns-in-Live-clause-found c = λ scene a b. c.latest.ensures scene (subst (IsFoundOn scene.a) c.in-Live.is a) b

pub returns-in-Live-b-clause-found : goal.returns-in-Live-b-clause-found
returns-in-Live-b-clause-found c = λ scene a b.
    let blank = subst (IsFoundOn scene.a) c.in-Blank.is a in
    rw c.live.ensures (only_b scene _ _ _ (subst (IsFoundOn scene.b) c.in-Live-b.is b) (blank_not_live scene.a blank.0) (c.other_side-beside.ensures scene.a a))

pub returns-in-Live-b-2-clause-found : goal.returns-in-Live-b-2-clause-found
returns-in-Live-b-2-clause-found c = λ scene a b.
    let foreign = subst (IsFoundOn scene.a) c.in-Foreign.is a in
    rw c.live-in-Live-b-2.ensures (only_b scene _ _ _ (subst (IsFoundOn scene.b) c.in-Live-b-2.is b) foreign.1 (c.other_side-beside.ensures scene.a a))

pub returns-in_default : goal.returns-in_default
returns-in_default c = record {
  found = λ scene a b. tt;
  none = λ scene a b. no_journal_a scene _ (subst (IsFoundOn scene.a) c.in-Foreign.is a) b c.in_default.not-Live;
  only = refl;
}
