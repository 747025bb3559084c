-- A node as it was made.
use Rattle.std.proofs.Common.{ℕ, ◌≡◌, List, [], ◌∷◌, ◌++◌, Some, None, Option, sym, ap, ◌∙◌, subst}
use Rattle.std.specs.Prelude.{Result, Ok, Err, IfOk, IfSome, IfNone}
use Rattle.fleet_base.specs.declared.order.PairId.{PairId}
use Rattle.fleet_base.specs.declared.order.Side.{Side}
use Rattle.fleet_base.specs.Order.{Graph, IsCycle}
use Rattle.fleet_base.specs.State.{FleetState}
use Rattle.fleet_base.specs.Rules.{IsFleetState}
use Rattle.fleet_base.specs.Schedule.{IsLeastSchedule}
use Rattle.longest_path.specs.declared.decision.Decision.{Decision as Given}
use Rattle.longest_path.specs.Decisions.{order_on as given_order}
use Rattle.cert_tree.specs.Decisions.{Decision, order_on}
use Rattle.cert_tree.specs.Trees.{branch_to}
use Rattle.order_choice.specs.declared.made.Forcing.{Forcing}
use Rattle.order_choice.specs.declared.made.Stand.{Stand}
use Rattle.order_choice.specs.declared.made.Stand.TheVariants.{Round, Waiting, Expanded}
use Rattle.order_choice.specs.Candidates.{IsNoCheaper}
use Rattle.order_choice.specs.Searching.{IsMade, IsRelaxed, forced_on}
use Rattle.order_choice.specs.Searching.IsNew.{new_round, new_waiting}
use Rattle.search_nodes.specs.Making.{Making, given_on}
use Rattle.search_nodes.specs.Forcing.{IsForcing, HasNoForcing, WereForced, given_to, given_after}
use Rattle.search_nodes.specs.Weighing.{IsLeastSum, IsRound}
use Rattle.search_nodes.proofs.Ways.{same_order}
use Rattle.search_nodes.proofs.Forcings.{given_more, forced_more, given_forced, forced_order, are_forced, forced_out}

module _ (g : Graph) (x : FleetState) (state : IsFleetState g x) (ds : List Given) (way : List Decision) (e : ds ≡ given_on way) (fs : List Forcing) (forced : WereForced g x fs ds) where
  -- with a cycle, closed by the last forcing
  pub made_round : (f : Forcing) (more : List Forcing) (stand : Stand) (cost : ℕ) → IsForcing g (given_order g x (given_after fs ds)) f → more ≡ fs ++ f ∷ [] → IsRound g (given_order g x (given_to f.pair f.side ∷ given_after fs ds)) stand
      → IsMade g x cost way (record { forced = more; stand = stand })
  made_round f more (Round cycle) cost k is round = record {
    fresh = new_round cycle;
    right = (are_forced g x state more way (subst (λ (es : List Given). WereForced g x more es) e all), subst (λ (o : ℕ → Option Side). IsCycle g o cycle) order round);
    dear = tt;
  }
    where
      all : WereForced g x more ds
      all = subst (λ (es : List Forcing). WereForced g x es ds) (sym is) (forced_more g x fs f ds forced k)

      order : given_order g x (given_to f.pair f.side ∷ given_after fs ds) ≡ order_on g x (forced_on more way)
      order = ap (λ (es : List Given). given_order g x es) (sym (ap (λ (l : List Forcing). given_after l ds) is ∙ given_more fs f ds)) ∙ forced_order g x more ds way e
  made_round f more (Waiting c) cost k is round = absurd round
  made_round f more (Expanded c q) cost k is round = absurd round

  -- without one, at the end of forcing
  pub made_waiting : (relaxed cost : ℕ) → HasNoForcing g (given_order g x (given_after fs ds)) → IsLeastSum g x (given_order g x (given_after fs ds)) relaxed → ((w : List Decision) → given_after fs ds ≡ given_on w → IsNoCheaper g x cost w)
      → IsMade g x cost way (record { forced = fs; stand = Waiting relaxed })
  made_waiting relaxed cost none sum weighed = record {
    fresh = new_waiting relaxed;
    right = (are_forced g x state fs way (subst (λ (es : List Given). WereForced g x fs es) e forced), relaxed_so);
    dear = weighed (forced_on fs way) given;
  }
    where
      given : given_after fs ds ≡ given_on (forced_on fs way)
      given = ap (λ (es : List Given). given_after fs es) e ∙ given_forced fs way

      relaxed_so : IsRelaxed g x (forced_on fs way) relaxed
      relaxed_so = record {
        ticks = sum.ticks;
        least = subst (λ (o : ℕ → Option Side). IsLeastSchedule g x o sum.ticks) (forced_order g x fs ds way e) sum.least;
        sum = sum.sum_is;
        forced = forced_out g x state (forced_on fs way) (subst (λ (es : List Given). HasNoForcing g (given_order g x es)) given none);
      }

-- the same of what a maker was before, after forcing, and at the end
module _ (old mid fin : Making) (rules : IsFleetState old.graph old.state) (graph : mid.graph ≡ old.graph) (state : mid.state ≡ old.state) (fs : List Forcing) (decisions : mid.decisions ≡ given_after fs old.decisions) (forced : WereForced old.graph old.state fs old.decisions) (way : List Decision) (on : old.decisions ≡ given_on way) where
  pub round_at : (f : Forcing) (more : List Forcing) (stand : Stand) → IsForcing old.graph (given_order old.graph old.state mid.decisions) f → more ≡ fs ++ f ∷ [] → IsRound mid.graph (given_order mid.graph mid.state (given_to f.pair f.side ∷ mid.decisions)) stand → fin ≡ mid
      → IsMade fin.graph fin.state fin.cost way (record { forced = more; stand = stand })
  round_at f more stand k is round same =
      subst (λ (m : Making). IsMade m.graph m.state m.cost way (record { forced = more; stand = stand })) (sym same)
      (subst (λ (g : Graph). IsMade g mid.state mid.cost way (record { forced = more; stand = stand })) (sym graph)
      (subst (λ (x : FleetState). IsMade old.graph x mid.cost way (record { forced = more; stand = stand })) (sym state)
      (made_round old.graph old.state rules old.decisions way on fs forced f more stand mid.cost (subst (λ (ds : List Given). IsForcing old.graph (given_order old.graph old.state ds) f) decisions k) is here)))
    where
      here : IsRound old.graph (given_order old.graph old.state (given_to f.pair f.side ∷ given_after fs old.decisions)) stand
      here =
          subst (λ (ds : List Given). IsRound old.graph (given_order old.graph old.state (given_to f.pair f.side ∷ ds)) stand) decisions
          (subst (λ (x : FleetState). IsRound old.graph (given_order old.graph x (given_to f.pair f.side ∷ mid.decisions)) stand) state
          (subst (λ (g : Graph). IsRound g (given_order g mid.state (given_to f.pair f.side ∷ mid.decisions)) stand) graph round))

  pub waiting_at : (relaxed : ℕ) → HasNoForcing old.graph (given_order old.graph old.state mid.decisions) → IsLeastSum mid.graph mid.state (given_order mid.graph mid.state mid.decisions) relaxed → ((w : List Decision) → mid.decisions ≡ given_on w → IsNoCheaper mid.graph mid.state fin.cost w)
      → fin.graph ≡ mid.graph → fin.state ≡ mid.state → IsMade fin.graph fin.state fin.cost way (record { forced = fs; stand = Waiting relaxed })
  waiting_at relaxed none sum weighed graph_back state_back =
      subst (λ (g : Graph). IsMade g fin.state fin.cost way (record { forced = fs; stand = Waiting relaxed })) (sym (graph_back ∙ graph))
      (subst (λ (x : FleetState). IsMade old.graph x fin.cost way (record { forced = fs; stand = Waiting relaxed })) (sym (state_back ∙ state))
      (made_waiting old.graph old.state rules old.decisions way on fs forced relaxed fin.cost (subst (λ (ds : List Given). HasNoForcing old.graph (given_order old.graph old.state ds)) decisions none) sum_here weighed_here))
    where
      sum_here : IsLeastSum old.graph old.state (given_order old.graph old.state (given_after fs old.decisions)) relaxed
      sum_here =
          subst (λ (ds : List Given). IsLeastSum old.graph old.state (given_order old.graph old.state ds) relaxed) decisions
          (subst (λ (x : FleetState). IsLeastSum old.graph x (given_order old.graph x mid.decisions) relaxed) state
          (subst (λ (g : Graph). IsLeastSum g mid.state (given_order g mid.state mid.decisions) relaxed) graph sum))

      weighed_here : (w : List Decision) → given_after fs old.decisions ≡ given_on w → IsNoCheaper old.graph old.state fin.cost w
      weighed_here w e = subst (λ (g : Graph). IsNoCheaper g old.state fin.cost w) graph (subst (λ (x : FleetState). IsNoCheaper mid.graph x fin.cost w) state (weighed w (decisions ∙ e)))

-- a node whose branch decision closes a cycle
pub made_refused : (g : Graph) (x : FleetState) (ds : List Given) (way : List Decision) → ds ≡ given_on way → (q : PairId) (side : Side) (fs : List Forcing) (stand : Stand) (cost : ℕ) → fs ≡ [] → IsRound g (given_order g x (given_to q side ∷ ds)) stand
    → IsMade g x cost (branch_to q side ∷ way) (record { forced = fs; stand = stand })
made_refused g x ds way e q side (f ∷ fs) stand cost none round = absurd (let z = none in cc)
made_refused g x ds way e q side [] (Round cycle) cost none round = record {
  fresh = new_round cycle;
  right = (tt, subst (λ (o : ℕ → Option Side). IsCycle g o cycle) order round);
  dear = tt;
}
  where
    order : given_order g x (given_to q side ∷ ds) ≡ order_on g x (branch_to q side ∷ way)
    order = ap (λ (es : List Given). given_order g x (given_to q side ∷ es)) e ∙ same_order g x (branch_to q side ∷ way)
made_refused g x ds way e q side [] (Waiting c) cost none round = absurd round
made_refused g x ds way e q side [] (Expanded c r) cost none round = absurd round

-- what follows of an answer follows of the answer of a call
pub ok_map : {A E : Type 0} (P Q : A → Type 0) → ((a : A) → P a → Q a) → (r : Result A E) → IfOk r P → IfOk r Q
ok_map P Q f (Ok a) h = f a h
ok_map P Q f (Err x) h = h

-- and of an answer that is there
pub some_at : {A : Type 0} (P : A → Type 0) (o : Option A) (a : A) → o ≡ Some a → IfSome o P → P a
some_at {A} P o a e h = subst (λ (z : Option A). IfSome z P) e h

pub none_at : {A : Type 0} (P : Type 0) (o : Option A) → o ≡ None → IfNone o P → P
none_at {A} P o e h = subst (λ (z : Option A). IfNone z P) e h
