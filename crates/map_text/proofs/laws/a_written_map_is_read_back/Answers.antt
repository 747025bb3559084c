use Rattle.map_text.proofs.RoundTrip.{read_back}
use Rattle.map_text.proofs.laws.a_written_map_is_read_back.Goals as goal

pub returns : goal.returns
returns c = read_back
