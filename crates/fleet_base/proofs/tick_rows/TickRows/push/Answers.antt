use Rattle.fleet_base.proofs.TickLaws.{room_left, tick_pushed}
use Rattle.fleet_base.proofs.tick_rows.TickRows.push.Goals as goal

pub push-requires : goal.push-requires
push-requires c = room_left c.self.inside.rows.items c.args.self.now c.args.robot c.index_mut-row.result.now c.self.view_is c.requires.robot c.index_mut-row.ensures.value c.requires.room

pub returns : goal.returns
returns c = tick_pushed c.self.inside.rows.items c.args.self.now c.args.robot c.args.tick c.index_mut-row.result.now c.push.new.self c.self.view_is c.requires.robot c.index_mut-row.ensures.value c.push.ensures
