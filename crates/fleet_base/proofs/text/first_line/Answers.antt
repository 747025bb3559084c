use Rattle.std.proofs.Common.{length, take, ap, arith}
use Rattle.std.proofs.lemmas.List.{length-take}
use Rattle.std.proofs.lemmas.Bool.Decides.{nat_tests}
use Rattle.fleet_base.proofs.Pieces.{without_cr-shorter}
use Rattle.fleet_base.proofs.FirstLine.{file_lines-ended, file_lines-open, behind_ended, behind_open}
use Rattle.fleet_base.proofs.text.first_line.Goals as goal

pub returns-in-Some-clause-some : goal.returns-in-Some-clause-some
returns-in-Some-clause-some c = file_lines-ended c.args.text.now c.in-Some.end c.without_return.result.now (cc) c.without_return.ensures

pub returns-in-None-clause-some : goal.returns-in-None-clause-some
returns-in-None-clause-some c =
    file_lines-open c.args.text.now c.without_return-in-None.result.now (grind (arith, nat_tests)) (cc) c.without_return-in-None.ensures

pub returns-in-Some-clause-line : goal.returns-in-Some-clause-line
returns-in-Some-clause-line c = omega (arith, ap length c.without_return.ensures, without_cr-shorter (take c.in-Some.end c.args.text.now), length-take c.in-Some.end c.args.text.now)

pub returns-in-None-clause-line : goal.returns-in-None-clause-line
returns-in-None-clause-line c = omega (arith, ap length c.without_return-in-None.ensures, without_cr-shorter c.args.text.now)

pub returns-in-Some-clause-behind : goal.returns-in-Some-clause-behind
returns-in-Some-clause-behind c = behind_ended c.args.text.now c.in-Some.end (cc)

pub returns-in-None-clause-behind : goal.returns-in-None-clause-behind
returns-in-None-clause-behind c = behind_open c.args.text.now (cc)
