-- Forcings, one after another, and the way that they lead.
use Rattle.std.proofs.Common.{ℕ, ◌≡◌, ◌≤◌, List, [], ◌∷◌, ◌++◌, refl, sym, ap, ◌∙◌}
use Rattle.fleet_base.specs.Order.{Graph}
use Rattle.fleet_base.specs.State.{FleetState}
use Rattle.fleet_base.specs.Rules.{IsFleetState}
use Rattle.longest_path.specs.declared.decision.Decision.{Decision as Given}
use Rattle.longest_path.specs.Decisions.{order_on as given_order, IsFree as IsFreeGiven}
use Rattle.longest_path.specs.Deciding.{Deciding, order_in_force}
use Rattle.cert_tree.specs.Decisions.{Decision, order_on}
use Rattle.cert_tree.specs.Trees.{force_to}
use Rattle.order_choice.specs.declared.made.Forcing.{Forcing}
use Rattle.order_choice.specs.Searching.{forced_on, AreForced, IsForcedOut}
use Rattle.search_nodes.specs.Making.{given_on}
use Rattle.search_nodes.specs.Forcing.{IsForcing, HasNoForcing, AreThere, HasForced, IsAfter, WereForced, given_to, given_after}
use Rattle.search_nodes.proofs.Ways.{same_at, same_order, free_on, free_given}
use Rattle.search_nodes.proofs.Sides.{none_of_free, free_of_none, mate_there, pair_there}

-- one forcing more
pub given_more : (fs : List Forcing) (f : Forcing) (ds : List Given) → given_after (fs ++ f ∷ []) ds ≡ given_to f.pair f.side ∷ given_after fs ds
given_more [] f ds = refl
given_more (e ∷ fs) f ds = given_more fs f (given_to e.pair e.side ∷ ds)

pub forced_more : (g : Graph) (x : FleetState) (fs : List Forcing) (f : Forcing) (ds : List Given) → WereForced g x fs ds → IsForcing g (given_order g x (given_after fs ds)) f → WereForced g x (fs ++ f ∷ []) ds
forced_more g x [] f ds h k = (k, tt)
forced_more g x (e ∷ fs) f ds h k = (h.0, forced_more g x fs f (given_to e.pair e.side ∷ ds) h.1 k)

-- what a schedule is given after forcings is the way after them
pub given_forced : (fs : List Forcing) (way : List Decision) → given_after fs (given_on way) ≡ given_on (forced_on fs way)
given_forced [] way = refl
given_forced (f ∷ fs) way = given_forced fs (force_to f.pair f.side ∷ way)

pub forced_order : (g : Graph) (x : FleetState) (fs : List Forcing) (ds : List Given) (way : List Decision) → ds ≡ given_on way → given_order g x (given_after fs ds) ≡ order_on g x (forced_on fs way)
forced_order g x fs ds way e = ap (λ (es : List Given). given_order g x (given_after fs es)) e ∙ ap (λ (es : List Given). given_order g x es) (given_forced fs way) ∙ same_order g x (forced_on fs way)

module _ (g : Graph) (x : FleetState) (state : IsFleetState g x) where
  -- a pair that is forced is free
  pub forcing_free : (ds : List Given) (f : Forcing) → IsForcing g (given_order g x ds) f → IsFreeGiven g x ds f.pair.0
  forcing_free ds f k = free_of_none g x ds state f.pair.0 (mate_there g f.mate.0 f.pair.0 k.mates) k.none

  -- forcings of a way
  pub are_forced : (fs : List Forcing) (way : List Decision) → WereForced g x fs (given_on way) → AreForced g x fs way
  are_forced [] way h = tt
  are_forced (f ∷ fs) way h = (
    free_on g x way f.pair.0 (forcing_free (given_on way) f h.0),
    h.0.mates,
    sym (same_at g x way f.mate.0) ∙ h.0.side,
    are_forced fs (force_to f.pair f.side ∷ way) h.1,
  )

  -- where no pair is forced, forcing is at its end
  pub forced_out : (way : List Decision) → HasNoForcing g (given_order g x (given_on way)) → IsForcedOut g x way
  forced_out way none q r free m = free_on g x way r (free_of_none g x (given_on way) state r (mate_there g q r m) (none q r m (none_of_free g x (given_on way) q (free_given g x way q free))))

  -- and the other way round
  pub no_forcing : (way : List Decision) → IsForcedOut g x way → HasNoForcing g (given_order g x (given_on way))
  no_forcing way out q r m none =
      let free = free_on g x way q (free_of_none g x (given_on way) state q (pair_there g q r m) none) in
      none_of_free g x (given_on way) r (free_given g x way r (out q r free m))

-- one decision more is still after the first ones
pub after_more : (old new : List Given) (d : Given) → IsAfter old new → IsAfter old (d ∷ new)
after_more old new d (more, e) = (d ∷ more, ap (λ (es : List Given). d ∷ es) e)

-- so far these were forced, and what may be forced next is among these pairs
pub record IsForcingOn (old now : Deciding) (begun pairs : List ℕ) (fs : List Forcing) : Type 0 where
  pub graph : now.graph ≡ old.graph
  pub state : now.state ≡ old.state
  pub asked : old.asked ≤ now.asked
  pub after : IsAfter old.decisions now.decisions
  pub decisions : now.decisions ≡ given_after fs old.decisions
  pub forced : WereForced old.graph old.state fs old.decisions
  pub there : AreThere old.graph pairs
  pub has : HasForced old.graph (order_in_force old) begun → HasForced old.graph (order_in_force now) pairs
