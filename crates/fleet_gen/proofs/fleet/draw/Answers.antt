use Rattle.std.proofs.Common.{ap, ◌∙◌, arith, length}
use Rattle.fleet_gen.specs.Words.{word_of}
use Rattle.fleet_gen.proofs.Drawn.{length-marks}
use Rattle.fleet_gen.proofs.Generated.{same_roads, same_grid}
use Rattle.fleet_gen.proofs.fleet.draw.Goals as goal

pub unwrap-grid-requires : goal.unwrap-grid-requires
unwrap-grid-requires c = c.new.ensures.valid.1 (record {
  height = (omega arith, omega arith);
  width = (omega arith, omega arith);
  cells = ap length c.in_ok-free.ensures ∙ length-marks c.deref.result.now (word_of c.draw_roads.new.words) 1024;
})

pub returns-clause-grid : goal.returns-clause-grid
returns-clause-grid c =
    let roads = same_roads c.args.seed c.seed_from_u64-words.result c.draw_roads.new.words c.seed_from_u64-words.ensures c.in_ok-roads.ensures.words c.deref.result.now c.in_ok-roads.roads.items c.deref.ensures.value c.in_ok-roads.ensures.roads in
    same_grid c.args.seed c.seed_from_u64-words.result c.draw_roads.new.words c.seed_from_u64-words.ensures c.in_ok-roads.ensures.words c.deref.result.now c.in_ok-free.free.items c.new.result c.unwrap-grid.result roads c.in_ok-free.ensures
    c.new.ensures.value c.unwrap-grid.ensures

pub returns-clause-roads : goal.returns-clause-roads
returns-clause-roads c = same_roads c.args.seed c.seed_from_u64-words.result c.draw_roads.new.words c.seed_from_u64-words.ensures c.in_ok-roads.ensures.words c.in_ok-roads.roads.items c.in_ok-roads.roads.items (λ i. c.in_ok-roads.roads.items) c.in_ok-roads.ensures.roads
