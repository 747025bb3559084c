use Rattle.fleet_gen.proofs.Stretches.{first_stretch, across_stretch, last_stretch, one_step, on_road_after, after_on_road}
use Rattle.fleet_gen.proofs.laws.roads_have_three_stretches.Goals as goal

pub returns-clause-first : goal.returns-clause-first
returns-clause-first c = λ road n lies h. first_stretch road lies n h

pub returns-clause-across : goal.returns-clause-across
returns-clause-across c = λ road n lies h. across_stretch road lies n h

pub returns-clause-last : goal.returns-clause-last
returns-clause-last c = λ road n lies h k. last_stretch road lies n h k

pub returns-clause-step : goal.returns-clause-step
returns-clause-step c = λ road n lies h. one_step road lies n h

pub returns-clause-cells : goal.returns-clause-cells
returns-clause-cells c = λ road at lies. (on_road_after road lies at, λ s. after_on_road road lies at s)
