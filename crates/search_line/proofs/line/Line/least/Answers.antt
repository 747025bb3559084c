use Rattle.std.proofs.Common.{ℕ, ◌≤◌, subst}
use Rattle.std.specs.Prelude.{List, Some}
use Rattle.order_choice.specs.Searching.{AreAbove}
use Rattle.search_line.specs.Lines.{Numbered, nodes_on}
use Rattle.search_line.specs.Turns.{WaitsWith}
use Rattle.search_line.specs.KeptLine.{line_of}
use Rattle.search_line.proofs.Linking.{above_all}
use Rattle.search_line.proofs.Turning.{turn, least_cost, no_turn}
use Rattle.search_line.proofs.Holding.{opened, waiting_on}
use Rattle.search_line.proofs.line.Line.least.Goals as goal

pub returns-in-Some-clause-waits : goal.returns-in-Some-clause-waits
returns-in-Some-clause-waits c =
    let nodes = c.self.inside.nodes.items in
    let t = c.in-Some.turn.now in
    let w : WaitsWith nodes t.number.0 t.cost = (c.self.invariant.turns t).0 c.in-Some.ensures.member in
    waiting_on nodes c.self.inside.turns c.args.self.now t.number.0 t.cost (opened c.self.inside c.args.self.now c.self.invariant c.self.view_is) w

pub returns-in-Some-clause-least : goal.returns-in-Some-clause-least
returns-in-Some-clause-least c =
    let nodes = c.self.inside.nodes.items in
    let t = c.in-Some.turn.now in
    let all : (number cost : ℕ) → WaitsWith nodes number cost → t.cost ≤ cost = λ number cost w. least_cost t (turn cost number) (c.in-Some.ensures.least (turn cost number) ((c.self.invariant.turns (turn cost number)).1 w)) in
    subst (λ (z : List Numbered). AreAbove t.cost (nodes_on z)) c.self.view_is (above_all nodes t.cost (line_of c.self.inside) (Some 0) c.self.invariant.linked all)

pub returns-in-None-clause-none : goal.returns-in-None-clause-none
returns-in-None-clause-none c level =
    let nodes = c.self.inside.nodes.items in
    let all : (number cost : ℕ) → WaitsWith nodes number cost → level ≤ cost = λ number cost w. absurd (no_turn c.self.inside.turns (turn cost number) c.in-None.ensures.variant.1 ((c.self.invariant.turns (turn cost number)).1 w)) in
    subst (λ (z : List Numbered). AreAbove level (nodes_on z)) c.self.view_is (above_all nodes level (line_of c.self.inside) (Some 0) c.self.invariant.linked all)
