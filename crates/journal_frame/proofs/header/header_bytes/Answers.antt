use Rattle.std.proofs.Common.{rules, refl, arith, append_assoc}
use Rattle.journal_frame.specs.Headers.{header_payload}
use Rattle.journal_frame.proofs.header.header_bytes.Goals as goal

pub returns : goal.returns
unfolding header_payload
returns c = record {
  allowed = (c.requires.allowed.0, refl);
  generation = omega (arith, c.requires.allowed.0);
  map = c.requires.map;
  plan = c.requires.plan;
  payload_is = search (rules, append_assoc);
}
