use Rattle.std.proofs.Common.{ℕ, ◌≡◌, List, subst, arith}
use Rattle.std.specs.Prelude.{Contains}
use Rattle.fleet_base.proofs.Members.{in_none}
use Rattle.longest_path.specs.Decisions.{order_on}
use Rattle.cert_tree.specs.Decisions.{Decision}
use Rattle.order_choice.specs.Searching.{IsMade}
use Rattle.search_nodes.specs.Making.{given_on}
use Rattle.search_nodes.specs.Forcing.{HasForced, IsForcedBy}
use Rattle.search_nodes.proofs.Suspects.{forced_mates, mates_suspected, there_suspected}
use Rattle.search_nodes.proofs.Nodes.{ok_map}
use Rattle.search_nodes.proofs.maker.Maker.make_branched.Goals as goal

pub suspect_mates-requires : goal.suspect_mates-requires
suspect_mates-requires c = omega (arith, c.requires.mates.count, c.requires.there)

pub make_on-requires-clause-there : goal.make_on-requires-clause-there
make_on-requires-clause-there c =
    there_suspected c.args.self.now.graph c.args.groups.now c.args.q.0 c.new-suspects.result.keys c.suspect_mates.new.suspects.keys c.requires.mates c.requires.there
    (λ q h. absurd (in_none q (subst (λ (l : List ℕ). Contains l q) c.new-suspects.ensures.empty h))) c.suspect_mates.ensures.only

pub returns-clause-made : goal.returns-clause-made
returns-clause-made c =
    let old = c.args.self.now in
    let new = c.make_on.new.self in
    let q = c.args.q.0 in
    let keys = c.suspect_mates.new.suspects.keys in
    let order = order_on old.graph old.state old.decisions in
    ok_map (λ node. (way : List Decision) → old.decisions ≡ given_on way → HasForced old.graph order keys → IsMade new.graph new.state new.cost way node) (λ node. (way : List Decision) → old.decisions ≡ given_on way → IsForcedBy old.graph order q → IsMade new.graph new.state new.cost way node)
    (λ node made way on by.
    made way on (forced_mates old.graph order q keys by (λ r m none. mates_suspected old.graph c.args.groups.now q c.new-suspects.result.keys keys c.requires.mates c.requires.there c.in_ok-suspect_mates.ensures.has r m)))
    c.make_on.result c.make_on.ensures.made
