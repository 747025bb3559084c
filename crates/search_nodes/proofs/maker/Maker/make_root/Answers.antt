use Rattle.std.proofs.Common.{◌≡◌, [], List}
use Rattle.longest_path.specs.Decisions.{order_on}
use Rattle.cert_tree.specs.Decisions.{Decision}
use Rattle.order_choice.specs.Searching.{IsMade}
use Rattle.search_nodes.specs.Making.{given_on}
use Rattle.search_nodes.specs.Forcing.{HasForced}
use Rattle.search_nodes.proofs.Nodes.{ok_map}
use Rattle.search_nodes.proofs.maker.Maker.make_root.Goals as goal

pub returns-clause-made : goal.returns-clause-made
returns-clause-made c =
    let old = c.args.self.now in
    let new = c.make_on.new.self in
    ok_map (λ node. (way : List Decision) → old.decisions ≡ given_on way → HasForced old.graph (order_on old.graph old.state old.decisions) c.in_ok-suspects.suspects.keys → IsMade new.graph new.state new.cost way node) (λ node. IsMade new.graph new.state new.cost [] node)
    (λ node made. made [] c.requires.none c.in_ok-suspects.ensures.forced) c.make_on.result c.make_on.ensures.made
