use Rattle.std.proofs.Common.{ℕ, ◌<◌, ◌∙◌, List, length, sym, ap, subst, arith}
use Rattle.std.specs.Prelude.{Option, unwrap_or}
use Rattle.std.proofs.lemmas.Option.{slice_get_within}
use Rattle.search_line.specs.declared.kept.Kept.{Kept}
use Rattle.search_line.specs.Going.{HasNoCycle}
use Rattle.search_line.proofs.Climbing.{root_top, stands_up}
use Rattle.search_line.proofs.Holding.{IsLineOf, opened}
use Rattle.search_line.proofs.Reaching.{each_way, all_right, begins_at, begins_within, no_cycle, arrived, right_kept}
use Rattle.search_line.proofs.line.Line.go.Goals as goal

pub shared_above-above-requires-clause-ways : goal.shared_above-above-requires-clause-ways
shared_above-above-requires-clause-ways c =
    let nodes = c.as_slice-nodes.result.now in
    let turns = c.self.inside.turns in
    let line = c.args.self.now in
    let was : IsLineOf nodes turns line = subst (λ (z : List Kept). IsLineOf z turns line) (sym c.as_slice-nodes.ensures.value) (opened c.self.inside line c.self.invariant c.self.view_is) in
    each_way nodes turns line was

pub path_up-requires-clause-ways : goal.path_up-requires-clause-ways
path_up-requires-clause-ways c =
    let nodes = c.as_slice-nodes.result.now in
    let turns = c.self.inside.turns in
    let line = c.args.self.now in
    let was : IsLineOf nodes turns line = subst (λ (z : List Kept). IsLineOf z turns line) (sym c.as_slice-nodes.ensures.value) (opened c.self.inside line c.self.invariant c.self.view_is) in
    each_way nodes turns line was

pub rise-requires-clause-ways : goal.rise-requires-clause-ways
rise-requires-clause-ways c =
    let nodes = c.as_slice-nodes.result.now in
    let turns = c.self.inside.turns in
    let line = c.args.self.now in
    let was : IsLineOf nodes turns line = subst (λ (z : List Kept). IsLineOf z turns line) (sym c.as_slice-nodes.ensures.value) (opened c.self.inside line c.self.invariant c.self.view_is) in
    each_way nodes turns line was

pub go_down-requires-clause-ways : goal.go_down-requires-clause-ways
go_down-requires-clause-ways c =
    let nodes = c.as_slice-nodes.result.now in
    let turns = c.self.inside.turns in
    let line = c.args.self.now in
    let was : IsLineOf nodes turns line = subst (λ (z : List Kept). IsLineOf z turns line) (sym c.as_slice-nodes.ensures.value) (opened c.self.inside line c.self.invariant c.self.view_is) in
    each_way nodes turns line was

pub shared_above-above-requires-clause-one : goal.shared_above-above-requires-clause-one
shared_above-above-requires-clause-one c =
    let nodes = c.as_slice-nodes.result.now in
    let turns = c.self.inside.turns in
    let line = c.args.self.now in
    let was : IsLineOf nodes turns line = subst (λ (z : List Kept). IsLineOf z turns line) (sym c.as_slice-nodes.ensures.value) (opened c.self.inside line c.self.invariant c.self.view_is) in
    let stop : HasNoCycle nodes c.args.to = no_cycle nodes turns line was c.args.to c.requires.to in
    let inside : c.args.to < length nodes = slice_get_within nodes c.args.to stop.kept stop.there in
    begins_within nodes c.args.from c.args.maker.now.decisions c.unwrap_or.result (begins_at nodes turns line was c.args.from c.args.maker.now.decisions c.requires.from) (λ e. c.unwrap_or.ensures ∙ ap (λ (o : Option ℕ). unwrap_or o 0) e) (λ number e. c.unwrap_or.ensures ∙ ap (λ (o : Option ℕ). unwrap_or o 0) e) (omega (arith, inside))

pub shared_above-above-requires-clause-other : goal.shared_above-above-requires-clause-other
shared_above-above-requires-clause-other c =
    let nodes = c.as_slice-nodes.result.now in
    let turns = c.self.inside.turns in
    let line = c.args.self.now in
    let was : IsLineOf nodes turns line = subst (λ (z : List Kept). IsLineOf z turns line) (sym c.as_slice-nodes.ensures.value) (opened c.self.inside line c.self.invariant c.self.view_is) in
    let stop : HasNoCycle nodes c.args.to = no_cycle nodes turns line was c.args.to c.requires.to in
    let inside : c.args.to < length nodes = slice_get_within nodes c.args.to stop.kept stop.there in
    inside

pub path_up-requires-clause-there : goal.path_up-requires-clause-there
path_up-requires-clause-there c =
    let nodes = c.as_slice-nodes.result.now in
    let turns = c.self.inside.turns in
    let line = c.args.self.now in
    let was : IsLineOf nodes turns line = subst (λ (z : List Kept). IsLineOf z turns line) (sym c.as_slice-nodes.ensures.value) (opened c.self.inside line c.self.invariant c.self.view_is) in
    let stop : HasNoCycle nodes c.args.to = no_cycle nodes turns line was c.args.to c.requires.to in
    let inside : c.args.to < length nodes = slice_get_within nodes c.args.to stop.kept stop.there in
    inside

pub rise-requires-clause-right : goal.rise-requires-clause-right
rise-requires-clause-right c =
    let nodes = c.as_slice-nodes.result.now in
    let turns = c.self.inside.turns in
    let line = c.args.self.now in
    let was : IsLineOf nodes turns line = subst (λ (z : List Kept). IsLineOf z turns line) (sym c.as_slice-nodes.ensures.value) (opened c.self.inside line c.self.invariant c.self.view_is) in
    all_right nodes turns line was c.args.maker.now.graph c.args.maker.now.state c.requires.right

pub rise-requires-clause-begins : goal.rise-requires-clause-begins
rise-requires-clause-begins c =
    let nodes = c.as_slice-nodes.result.now in
    let turns = c.self.inside.turns in
    let line = c.args.self.now in
    let was : IsLineOf nodes turns line = subst (λ (z : List Kept). IsLineOf z turns line) (sym c.as_slice-nodes.ensures.value) (opened c.self.inside line c.self.invariant c.self.view_is) in
    begins_at nodes turns line was c.args.from c.args.maker.now.decisions c.requires.from

pub rise-requires-clause-root : goal.rise-requires-clause-root
rise-requires-clause-root c none =
    let nodes = c.as_slice-nodes.result.now in
    let turns = c.self.inside.turns in
    let line = c.args.self.now in
    let was : IsLineOf nodes turns line = subst (λ (z : List Kept). IsLineOf z turns line) (sym c.as_slice-nodes.ensures.value) (opened c.self.inside line c.self.invariant c.self.view_is) in
    root_top nodes (each_way nodes turns line was) c.unwrap_or.result c.shared_above-above.result (c.unwrap_or.ensures ∙ ap (λ (o : Option ℕ). unwrap_or o 0) none) c.shared_above-above.ensures.one

pub rise-requires-clause-stand : goal.rise-requires-clause-stand
rise-requires-clause-stand c =
    let nodes = c.as_slice-nodes.result.now in
    let turns = c.self.inside.turns in
    let line = c.args.self.now in
    let was : IsLineOf nodes turns line = subst (λ (z : List Kept). IsLineOf z turns line) (sym c.as_slice-nodes.ensures.value) (opened c.self.inside line c.self.invariant c.self.view_is) in
    let stop : HasNoCycle nodes c.args.to = no_cycle nodes turns line was c.args.to c.requires.to in
    let inside : c.args.to < length nodes = slice_get_within nodes c.args.to stop.kept stop.there in
    stands_up nodes (each_way nodes turns line was) c.args.to c.in_ok-path.path.items c.shared_above-above.result c.in_ok-path.ensures stop

pub go_down-requires-clause-right : goal.go_down-requires-clause-right
go_down-requires-clause-right c =
    let nodes = c.as_slice-nodes.result.now in
    let turns = c.self.inside.turns in
    let line = c.args.self.now in
    let was : IsLineOf nodes turns line = subst (λ (z : List Kept). IsLineOf z turns line) (sym c.as_slice-nodes.ensures.value) (opened c.self.inside line c.self.invariant c.self.view_is) in
    right_kept c.args.maker.now c.rise.new.maker nodes c.rise.ensures.best (all_right nodes turns line was c.args.maker.now.graph c.args.maker.now.state c.requires.right)

pub go_down-requires-clause-down : goal.go_down-requires-clause-down
go_down-requires-clause-down c =
    let nodes = c.as_slice-nodes.result.now in
    let turns = c.self.inside.turns in
    let line = c.args.self.now in
    let was : IsLineOf nodes turns line = subst (λ (z : List Kept). IsLineOf z turns line) (sym c.as_slice-nodes.ensures.value) (opened c.self.inside line c.self.invariant c.self.view_is) in
    record { above = c.shared_above-above.result; below = c.args.to; force = c.rise.ensures.there; path_up = c.in_ok-path.ensures; stand = no_cycle nodes turns line was c.args.to c.requires.to }

pub returns-clause-there : goal.returns-clause-there
returns-clause-there c node way at =
    let nodes = c.as_slice-nodes.result.now in
    let turns = c.self.inside.turns in
    let line = c.args.self.now in
    let was : IsLineOf nodes turns line = subst (λ (z : List Kept). IsLineOf z turns line) (sym c.as_slice-nodes.ensures.value) (opened c.self.inside line c.self.invariant c.self.view_is) in
    arrived nodes turns line was c.args.to c.go_down.new.maker.decisions (c.go_down.ensures.there c.args.to c.shared_above-above.result c.in_ok-path.ensures c.rise.ensures.there) node way at
