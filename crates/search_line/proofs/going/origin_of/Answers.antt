use Rattle.std.proofs.Common.{length, refl}
use Rattle.std.proofs.lemmas.Option.{slice_get_read}
use Rattle.search_line.proofs.Climbing.{from_there, from_earlier}
use Rattle.search_line.proofs.going.origin_of.Goals as goal

pub unreachable-requires : goal.unreachable-requires
unreachable-requires c =
    let nodes = c.args.nodes.now in
    from_there nodes c.requires.ways c.args.number c.index-nodes-number.result c.requires.there c.requires.child (slice_get_read nodes (length nodes) c.args.number c.index-nodes-number.result refl c.requires.there c.index-nodes-number.is) c.in-None.is

pub returns-clause-origin : goal.returns-clause-origin
returns-clause-origin c =
    let nodes = c.args.nodes.now in
    record { kept = c.index-nodes-number.result; there = slice_get_read nodes (length nodes) c.args.number c.index-nodes-number.result refl c.requires.there c.index-nodes-number.is; from = c.in-Some.is }

pub returns-clause-earlier : goal.returns-clause-earlier
returns-clause-earlier c =
    let nodes = c.args.nodes.now in
    from_earlier nodes c.requires.ways c.args.number c.in-Some.origin c.requires.there c.requires.child (record { kept = c.index-nodes-number.result; there = slice_get_read nodes (length nodes) c.args.number c.index-nodes-number.result refl c.requires.there c.index-nodes-number.is; from = c.in-Some.is })
