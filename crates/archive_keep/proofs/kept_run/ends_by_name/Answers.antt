use Rattle.std.proofs.Common.{◌∙◌, sym, ap, map, arith}
use Rattle.archive_keep.specs.declared.ends.RobotEnd.{RobotEnd}
use Rattle.archive_keep.specs.declared.kept_run.NamedEnd.{NamedEnd}
use Rattle.archive_keep.specs.Rows.{rows_with}
use Rattle.archive_keep.specs.Memory.{table_of}
use Rattle.archive_keep.proofs.Robots.{by_name, kept_ends}
use Rattle.archive_keep.proofs.kept_run.ends_by_name.Goals as goal

pub returns : goal.returns
returns c =
    let found = c.in_ok-named.named.items in
    let named = c.sort_by_name.new.named.items in
    let robot = c.args.robot in
    let gives = c.in_ok-ends.ensures ∙ ap (map (λ (end : NamedEnd). end.ticks)) c.deref.ensures.value in
    record {
      ends = by_name robot (rows_with robot (table_of c.args.runs.now)) found named c.in_ok-ends.ends c.in_ok-named.ensures.rows c.in_ok-sort_by_name.ensures.all c.in_ok-sort_by_name.ensures.ascending gives;
      bounds = kept_ends found named c.in_ok-ends.ends (omega (arith, c.in_ok-named.ensures.few, c.requires.few)) c.in_ok-named.ensures.within c.in_ok-sort_by_name.ensures.all gives;
    }
