use Rattle.path_planner.proofs.TableLaws.{put_sides, put_here, put_others}
use Rattle.path_planner.proofs.tables.put.Goals as goal

pub returns-clause-sides : goal.returns-clause-sides
returns-clause-sides c = put_sides c.args.table.now c.set_in.new.self c.args.at c.args.value c.set_in.ensures c.requires

pub returns-clause-here : goal.returns-clause-here
returns-clause-here c = put_here c.args.table.now c.set_in.new.self c.args.at c.args.value c.set_in.ensures c.requires

pub returns-clause-others : goal.returns-clause-others
returns-clause-others c = put_others c.args.table.now c.set_in.new.self c.args.at c.args.value c.set_in.ensures c.requires
