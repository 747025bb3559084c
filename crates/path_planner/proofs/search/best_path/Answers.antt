use Rattle.std.proofs.Common.{refl, subst}
use Rattle.std.specs.Prelude.{Option}
use Rattle.fleet_base.specs.declared.geometry.Cell.{Cell}
use Rattle.fleet_base.specs.declared.lists.Items.{Items}
use Rattle.path_planner.specs.Search.{AreLayers}
use Rattle.path_planner.proofs.Ways.{no_candidate, start_of}
use Rattle.path_planner.proofs.Found.{start_leads, chosen_path}
use Rattle.path_planner.proofs.search.best_path.Goals as goal

pub returns-in_default-clause-path : goal.returns-in_default-clause-path
returns-in_default-clause-path c = no_candidate c.args.grid.now c.args.fixed.now c.requires.sound c.args.horizon c.args.task (λ t h a. c.in_default.ensures t a.stays)

pub returns-in_default-found-clause-path : goal.returns-in_default-found-clause-path
returns-in_default-found-clause-path c =
    let none = subst (λ (o : Option (Items (Items Cell))). AreLayers c.args.grid.now c.args.fixed.now c.args.task c.args.horizon o) c.in_default-found.is c.in_ok-found.ensures.layers in
    no_candidate c.args.grid.now c.args.fixed.now c.requires.sound c.args.horizon c.args.task none

pub least_path-requires-clause-start : goal.least_path-requires-clause-start
least_path-requires-clause-start c =
    let found = subst (λ (o : Option (Items (Items Cell))). AreLayers c.args.grid.now c.args.fixed.now c.args.task c.args.horizon o) c.in-Some-found.is c.in_ok-found.ensures.layers in
    start_leads c.args.grid.now c.args.fixed.now c.args.task c.args.horizon c.in-Some-found.layers found _ c.in_ok-keep_ways.ensures.ticks

pub least_path-requires-clause-stood : goal.least_path-requires-clause-stood
least_path-requires-clause-stood c =
    let found = subst (λ (o : Option (Items (Items Cell))). AreLayers c.args.grid.now c.args.fixed.now c.args.task c.args.horizon o) c.in-Some-found.is c.in_ok-found.ensures.layers in
    let s = start_of c.args.grid.now c.args.fixed.now c.requires.sound c.args.horizon c.args.task _ c.args.task.goal found.arrival.here.reached in
    (refl, s.0, s.1)

pub returns-clause-path : goal.returns-clause-path
returns-clause-path c =
    let found = subst (λ (o : Option (Items (Items Cell))). AreLayers c.args.grid.now c.args.fixed.now c.args.task c.args.horizon o) c.in-Some-found.is c.in_ok-found.ensures.layers in
    chosen_path c.args.grid.now c.args.fixed.now c.args.task c.args.horizon c.in-Some-found.layers found _ c.in_ok-keep_ways.ensures.ticks c.requires.sound c.in_ok-path.path.items c.in_ok-path.ensures.path
