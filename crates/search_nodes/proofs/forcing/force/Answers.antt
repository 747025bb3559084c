use Rattle.std.proofs.Common.{List, sym, subst, ap, ◌∙◌, arith}
use Rattle.fleet_base.specs.Order.{Graph}
use Rattle.edge_groups.specs.Mates.{AreAllMates}
use Rattle.longest_path.specs.Deciding.{Deciding}
use Rattle.order_choice.specs.declared.made.Forcing.{Forcing}
use Rattle.search_nodes.specs.Forcing.{AreThere}
use Rattle.search_nodes.proofs.Forcings.{IsForcingOn}
use Rattle.search_nodes.proofs.Suspects.{mates_suspected, there_suspected}
use Rattle.search_nodes.proofs.ForcingSteps.{forcing_begins, forcing_ends, free_now, pair_old, refused_stays, fewer_missing, graph_next, after_next, forcing_goes_on}
use Rattle.search_nodes.proofs.forcing.force.Goals as goal

pub loop-forcing-init : goal.loop-forcing-init
loop-forcing-init c = forcing_begins c.args.live.now c.args.suspects.now.keys c.args.forced.now c.requires.empty c.requires.there

pub next_forcing-requires-clause-mates : goal.next_forcing-requires-clause-mates
next_forcing-requires-clause-mates c = subst (λ (g : Graph). AreAllMates g c.args.groups.now) (sym c.loop-forcing.invariant.graph) c.requires.mates

pub next_forcing-requires-clause-there : goal.next_forcing-requires-clause-there
next_forcing-requires-clause-there c = subst (λ (g : Graph). AreThere g c.loop-forcing.suspects.keys) (sym c.loop-forcing.invariant.graph) c.loop-forcing.invariant.there

pub decide-requires : goal.decide-requires
decide-requires c = free_now c.args.live.now c.loop-forcing.live c.args.suspects.now.keys c.loop-forcing.suspects.keys c.loop-forcing.forced c.loop-forcing.invariant c.requires.state c.in-Some.forcing c.in-Some.ensures.some

pub returns-then-not-decide : goal.returns-then-not-decide
returns-then-not-decide c =
    let stays = refused_stays c.args.live.now c.loop-forcing.live c.args.suspects.now.keys c.loop-forcing.suspects.keys c.loop-forcing.forced c.loop-forcing.invariant c.requires.state c.in-Some.forcing c.in-Some.ensures.some c.decide.new.self (c.decide.ensures.refused c.if-not-decide.true) (omega (arith, c.asked-within.ensures, c.asked-within.type_inv)) in
    record {
      graph = stays.0.graph;
      state = stays.0.state;
      asked = stays.0.asked;
      after = stays.0.after;
      decisions = stays.0.decisions;
      forced = stays.0.forced;
      out = tt;
      refused = stays.1;
      cyclic = stays.2 (c.decide.ensures.cyclic.0 c.if-not-decide.true);
    }

pub returns-in_err-push-clause-after : goal.returns-in_err-push-clause-after
returns-in_err-push-clause-after c = after_next c.args.live.now c.loop-forcing.live c.args.suspects.now.keys c.loop-forcing.suspects.keys c.loop-forcing.forced c.loop-forcing.invariant c.requires.state c.in-Some.forcing c.in-Some.ensures.some c.decide.new.self (c.decide.ensures.kept c.if-not-decide.false)

pub suspect_mates-requires : goal.suspect_mates-requires
suspect_mates-requires c = record { pair = (let h = pair_old c.args.live.now c.loop-forcing.live c.args.suspects.now.keys c.loop-forcing.suspects.keys c.loop-forcing.forced c.loop-forcing.invariant c.requires.state c.in-Some.forcing c.in-Some.ensures.some in omega (arith, h, c.requires.mates.count)) }

pub loop-forcing-smaller : goal.loop-forcing-smaller
loop-forcing-smaller c = fewer_missing c.args.live.now c.loop-forcing.live c.args.suspects.now.keys c.loop-forcing.suspects.keys c.loop-forcing.forced c.loop-forcing.invariant c.requires.state c.in-Some.forcing c.in-Some.ensures.some c.decide.new.self (c.decide.ensures.kept c.if-not-decide.false)

pub loop-forcing-preserved : goal.loop-forcing-preserved
loop-forcing-preserved c =
    let old = c.args.live.now in
    let g = old.graph in
    let rows = c.args.groups.now in
    let p = c.in-Some.forcing.pair.0 in
    let popped = c.next_forcing.new.suspects.keys in
    let more = c.suspect_mates.new.suspects.keys in
    let lt = pair_old c.args.live.now c.loop-forcing.live c.args.suspects.now.keys c.loop-forcing.suspects.keys c.loop-forcing.forced c.loop-forcing.invariant c.requires.state c.in-Some.forcing c.in-Some.ensures.some in
    let there : AreThere g popped = subst (λ (h : Graph). AreThere h popped) c.loop-forcing.invariant.graph c.next_forcing.ensures.there in
    subst (λ (fs : List Forcing). IsForcingOn old c.decide.new.self c.args.suspects.now.keys more fs) (sym c.in_ok-push.ensures.ok)
    (forcing_goes_on c.args.live.now c.loop-forcing.live c.args.suspects.now.keys c.loop-forcing.suspects.keys c.loop-forcing.forced c.loop-forcing.invariant c.requires.state c.in-Some.forcing c.in-Some.ensures.some c.decide.new.self (c.decide.ensures.kept c.if-not-decide.false) (omega (arith, c.asked-within.ensures, c.asked-within.type_inv)) popped more c.in-Some.ensures.left
    (there_suspected g rows p popped more c.requires.mates lt there c.suspect_mates.ensures.only) (mates_suspected g rows p popped more c.requires.mates lt c.in_ok-suspect_mates.ensures.has) c.suspect_mates.ensures.stay)

pub returns-in_err-suspect_mates-clause-graph : goal.returns-in_err-suspect_mates-clause-graph
returns-in_err-suspect_mates-clause-graph c = graph_next c.args.live.now c.loop-forcing.live c.args.suspects.now.keys c.loop-forcing.suspects.keys c.loop-forcing.forced c.loop-forcing.invariant c.requires.state c.in-Some.forcing c.in-Some.ensures.some c.decide.new.self (c.decide.ensures.kept c.if-not-decide.false) ∙ c.loop-forcing.invariant.graph

pub returns-in_err-suspect_mates-clause-state : goal.returns-in_err-suspect_mates-clause-state
returns-in_err-suspect_mates-clause-state c = ap (λ (d : Deciding). d.state) (c.decide.ensures.kept c.if-not-decide.false) ∙ c.loop-forcing.invariant.state

pub returns-in_err-suspect_mates-clause-after : goal.returns-in_err-suspect_mates-clause-after
returns-in_err-suspect_mates-clause-after c = after_next c.args.live.now c.loop-forcing.live c.args.suspects.now.keys c.loop-forcing.suspects.keys c.loop-forcing.forced c.loop-forcing.invariant c.requires.state c.in-Some.forcing c.in-Some.ensures.some c.decide.new.self (c.decide.ensures.kept c.if-not-decide.false)

pub returns-clause-out : goal.returns-clause-out
returns-clause-out c = forcing_ends c.args.live.now c.loop-forcing.live c.args.suspects.now.keys c.loop-forcing.suspects.keys c.loop-forcing.forced c.loop-forcing.invariant c.requires.state c.in_default.ensures.none
