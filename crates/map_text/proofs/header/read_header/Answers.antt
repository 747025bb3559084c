use Rattle.map_text.proofs.FirstFaults.{fault_in_heading, fault_in_height, fault_in_width, fault_in_start}
use Rattle.map_text.proofs.header.read_header.Goals as goal

pub returns-in_default-clause-err : goal.returns-in_default-clause-err
returns-in_default-clause-err c = fault_in_heading _ c.in_default.ensures.none

pub returns-in-Err-clause-err : goal.returns-in-Err-clause-err
returns-in-Err-clause-err c = fault_in_height _ _ _ c.in-Some.ensures.some c.in-Err.ensures.err

pub returns-in-Err-read_side-clause-err : goal.returns-in-Err-read_side-clause-err
returns-in-Err-read_side-clause-err c =
    fault_in_width _ _ _ c.in-Ok.side.0 _ c.in-Some.ensures.some c.in-Ok.ensures.line c.in-Ok.ensures.size c.in-Err-read_side.ensures.err

pub returns-in_default-skip_line-clause-err : goal.returns-in_default-skip_line-clause-err
returns-in_default-skip_line-clause-err c =
    fault_in_start _ _ _ _ c.in-Ok.side.0 c.in-Ok-read_side.side.0 c.in-Some.ensures.some c.in-Ok.ensures.line c.in-Ok.ensures.size c.in-Ok-read_side.ensures.line c.in-Ok-read_side.ensures.size c.in_default-skip_line.ensures.none
