use Rattle.std.proofs.Common.{◌≡◌, take}
use Rattle.fleet_recovery.specs.Papers.{paper_text, papers_in}
use Rattle.fleet_recovery.proofs.papers.agreement.Given as goal

abbrev pub invariant-loop-place : goal.invariant-loop-place
invariant-loop-place l = take l.place (paper_text (papers_in l.one)) ≡ take l.place (paper_text (papers_in l.other))
