-- One forcing after another.
use Rattle.std.proofs.Common.{ℕ, ◌≡◌, ◌^◌, ◌<◌, ◌≤◌, List, [], ◌∷◌, ◌++◌, None, Option, refl, sym, ap, ◌∙◌, subst, arith, length}
use Rattle.std.specs.Prelude.{Contains}
use Rattle.fleet_base.specs.declared.order.Side.{Side}
use Rattle.fleet_base.specs.Order.{Graph, IsCyclic}
use Rattle.fleet_base.specs.Groups.{AreMates}
use Rattle.fleet_base.specs.State.{FleetState}
use Rattle.fleet_base.specs.Rules.{IsFleetState}
use Rattle.longest_path.specs.declared.decision.Decision.{Decision as Given}
use Rattle.longest_path.specs.Decisions.{order_on, IsFree}
use Rattle.longest_path.specs.Deciding.{Deciding, order_in_force, one_more}
use Rattle.order_choice.specs.declared.made.Forcing.{Forcing}
use Rattle.search_nodes.specs.Forcing.{IsForcing, HasNoForcing, AreThere, HasForced, IsAfter, given_to, given_after}
use Rattle.search_nodes.proofs.Sides.{mate_there}
use Rattle.search_nodes.proofs.Forcings.{IsForcingOn, given_more, forced_more, forcing_free, after_more}
use Rattle.search_nodes.proofs.Suspects.{missing, decided_fewer, forced_next}

-- one call more counts for no less
pub asked_more : (n : ℕ) → n < 2 ^ 64 → n ≤ one_more n
asked_more n lt = omega arith

-- at first nothing was forced
pub forcing_begins : (old : Deciding) (begun : List ℕ) (fs : List Forcing) → fs ≡ [] → AreThere old.graph begun → IsForcingOn old old begun begun fs
forcing_begins old begun fs e there = subst (λ (es : List Forcing). IsForcingOn old old begun begun es) (sym e) (record {
  graph = refl;
  state = refl;
  asked = omega arith;
  after = ([], refl);
  decisions = refl;
  forced = tt;
  there = there;
  has = λ h. h;
})

module _ (old now : Deciding) (begun pairs : List ℕ) (fs : List Forcing) (on : IsForcingOn old now begun pairs fs) (state : IsFleetState old.graph old.state) where
  pub state_now : IsFleetState now.graph now.state
  state_now = subst (λ (h : Graph). IsFleetState h now.state) (sym on.graph) (subst (λ (y : FleetState). IsFleetState old.graph y) (sym on.state) state)

  order_now : order_in_force now ≡ order_on old.graph old.state (given_after fs old.decisions)
  order_now =
      ap (λ (h : Graph). order_on h now.state now.decisions) on.graph
      ∙ ap (λ (y : FleetState). order_on old.graph y now.decisions) on.state
      ∙ ap (λ (ds : List Given). order_on old.graph old.state ds) on.decisions

  -- where no pair is left that may be forced, none is
  pub forcing_ends : (HasForced now.graph (order_in_force now) pairs → HasNoForcing now.graph (order_in_force now)) → HasForced old.graph (order_in_force old) begun → HasNoForcing old.graph (order_in_force now)
  forcing_ends calm h = subst (λ (g : Graph). HasNoForcing g (order_in_force now)) on.graph (calm (subst (λ (g : Graph). HasForced g (order_in_force now) pairs) (sym on.graph) (on.has h)))

  module _ (f : Forcing) (k : IsForcing now.graph (order_in_force now) f) where
    pub free_now : IsFree now.graph now.state now.decisions f.pair.0
    free_now = forcing_free now.graph now.state state_now now.decisions f k

    pub pair_now : f.pair.0 < length now.graph.pairs
    pair_now = mate_there now.graph f.mate.0 f.pair.0 k.mates

    pub forcing_old : IsForcing old.graph (order_in_force now) f
    forcing_old = subst (λ (g : Graph). IsForcing g (order_in_force now) f) on.graph k

    pub pair_old : f.pair.0 < length old.graph.pairs
    pair_old = mate_there old.graph f.mate.0 f.pair.0 forcing_old.mates

    -- a refused forcing closes a cycle
    pub cyclic_old : IsCyclic now.graph (order_on now.graph now.state (given_to f.pair f.side ∷ now.decisions)) → IsCyclic old.graph (order_on old.graph old.state (given_to f.pair f.side ∷ now.decisions))
    cyclic_old c = subst (λ (g : Graph). IsCyclic g (order_on g old.state (given_to f.pair f.side ∷ now.decisions))) on.graph (subst (λ (y : FleetState). IsCyclic now.graph (order_on now.graph y (given_to f.pair f.side ∷ now.decisions))) on.state c)

    -- it leaves all as it was
    pub refused_stays : (next : Deciding) → next ≡ record now { asked = one_more now.asked } → now.asked < 2 ^ 64
        → IsForcingOn old next begun pairs fs × IsForcing old.graph (order_in_force next) f × (IsCyclic now.graph (order_on now.graph now.state (given_to f.pair f.side ∷ now.decisions)) → IsCyclic old.graph (order_on old.graph old.state (given_to f.pair f.side ∷ next.decisions)))
    refused_stays next e lt = subst (λ (d : Deciding). IsForcingOn old d begun pairs fs × IsForcing old.graph (order_in_force d) f × (IsCyclic now.graph (order_on now.graph now.state (given_to f.pair f.side ∷ now.decisions)) → IsCyclic old.graph (order_on old.graph old.state (given_to f.pair f.side ∷ d.decisions)))) (sym e) (
      record { graph = on.graph; state = on.state; asked = (let b = asked_more now.asked lt in omega (arith, b, on.asked)); after = on.after; decisions = on.decisions; forced = on.forced; there = on.there; has = on.has },
      forcing_old,
      cyclic_old,
    )

    module _ (next : Deciding) (decided : next ≡ record now { decisions = given_to f.pair f.side ∷ now.decisions; asked = one_more now.asked }) where
      pub graph_next : next.graph ≡ now.graph
      graph_next = ap (λ (d : Deciding). d.graph) decided

      order_next : order_in_force next ≡ order_on now.graph now.state (given_to f.pair f.side ∷ now.decisions)
      order_next = ap order_in_force decided

      -- one pair less is without a side
      pub fewer_missing : missing (order_in_force next) (length next.graph.pairs) < missing (order_in_force now) (length now.graph.pairs)
      fewer_missing = subst (λ (d : Deciding). missing (order_in_force d) (length d.graph.pairs) < missing (order_in_force now) (length now.graph.pairs)) (sym decided) (decided_fewer now.graph now.state now.decisions f.pair f.side free_now (length now.graph.pairs) pair_now)

      pub after_next : IsAfter old.decisions next.decisions
      after_next = subst (λ (ds : List Given). IsAfter old.decisions ds) (sym (ap (λ (d : Deciding). d.decisions) decided)) (after_more old.decisions now.decisions (given_to f.pair f.side) on.after)

      pub asked_next : now.asked < 2 ^ 64 → old.asked ≤ next.asked
      asked_next lt = let a = ap (λ (d : Deciding). d.asked) decided in let b = asked_more now.asked lt in omega (arith, a, b, on.asked)

      pub forcing_goes_on : now.asked < 2 ^ 64 → (popped more : List ℕ) → (HasForced now.graph (order_in_force now) pairs → HasForced now.graph (order_in_force now) (f.pair.0 ∷ popped)) → AreThere old.graph more
          → ((r : ℕ) → AreMates old.graph f.pair.0 r → Contains more r) → ((r : ℕ) → Contains popped r → Contains more r) → IsForcingOn old next begun more (fs ++ f ∷ [])
      forcing_goes_on lt popped more left there mates stay = record {
        graph = graph_next ∙ on.graph;
        state = ap (λ (d : Deciding). d.state) decided ∙ on.state;
        asked = asked_next lt;
        after = after_next;
        decisions = ap (λ (d : Deciding). d.decisions) decided ∙ ap (λ (ds : List Given). given_to f.pair f.side ∷ ds) on.decisions ∙ sym (given_more fs f old.decisions);
        forced = forced_more old.graph old.state fs f old.decisions on.forced (subst (λ (o : ℕ → Option Side). IsForcing old.graph o f) order_now forcing_old);
        there = there;
        has = has;
      }
        where
          mates_now : (r : ℕ) → AreMates now.graph f.pair.0 r → order_on now.graph now.state (given_to f.pair f.side ∷ now.decisions) r ≡ None → Contains more r
          mates_now r m none = mates r (subst (λ (g : Graph). AreMates g f.pair.0 r) on.graph m)

          has : HasForced old.graph (order_in_force old) begun → HasForced old.graph (order_in_force next) more
          has h =
              let here = left (subst (λ (g : Graph). HasForced g (order_in_force now) pairs) (sym on.graph) (on.has h)) in
              let later = forced_next now.graph now.state now.decisions f.pair f.side free_now popped more here mates_now stay in
              subst (λ (g : Graph). HasForced g (order_in_force next) more) on.graph (subst (λ (o : ℕ → Option Side). HasForced now.graph o more) (sym order_next) later)
