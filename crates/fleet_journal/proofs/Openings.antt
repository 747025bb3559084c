-- What a stop leaves at each moment while a side gets a header.
use Rattle.std.proofs.Common.{◌≡◌, inl, ℕ, List, [], ◌∷◌, length, refl, subst}
use Rattle.station_api.specs.Scene.{Scene, side_of}
use Rattle.station_api.specs.Clock.{Clock, LeavesOnly, IsKept}
use Rattle.station_api.specs.Disk.{Torn, Changes, IsQuiet, IsStep, IsSynced, Writes}
use Rattle.station_api.specs.declared.station.DiskSide.{DiskSide}
use Rattle.station_api.proofs.Moments.{goes_on, leaves_also, from_quiet, then_quiet, side_same, side_step, kept_again, changes_on, changes_quiet, changes_step}
use Rattle.fleet_journal.specs.Clearing.{IsCleared, GetsText}
use Rattle.fleet_journal.proofs.Clearing.{torn_text, torn_header, written_text}

-- the side is a closed gate and this text
abbrev IsStaged : List ℕ → List ℕ → List ℕ → Type 0
IsStaged text old new = new ≡ 0 ∷ text

module _ (side : DiskSide) (text : List ℕ) (old : Clock) (has : side_of side old.seen ≡ 0 ∷ []) where
  abbrev P : Scene → Type 0
  P = Changes side (GetsText text) old.seen

  until_write : IsKept old → (k1 : Clock) → IsStep side (Torn 1 (length text)) old k1 → LeavesOnly P old k1
  until_write kept k1 step = side_step side (Torn 1 (length text)) (GetsText text) old k1 step kept (λ bytes torn. inl (torn_text text _ bytes has torn))

  stands : (k1 k2 : Clock) → IsStep side (Torn 1 (length text)) old k1 → Writes side 1 text old k1 → IsQuiet k1 k2 → Changes side (IsStaged text) old.seen k2.seen
  stands k1 k2 step writes quiet = changes_quiet side (IsStaged text) old.seen k1 k2 quiet (changes_step side _ (IsStaged text) old k1 step (written_text text _ _ has writes))

  pub until_gate : IsKept old → (k1 k2 k3 : Clock) → IsStep side (Torn 1 (length text)) old k1 → Writes side 1 text old k1 → IsQuiet k1 k2 → IsSynced side k2 → IsStep side (Torn 0 1) k2 k3 → LeavesOnly P old k3
  until_gate kept k1 k2 k3 step writes quiet synced gate =
      let at2 = stands k1 k2 step writes quiet in
      let kept2 = kept_again side _ old k1 k2 kept step quiet synced in
      let second = side_step side (Torn 0 1) (GetsText text) k2 k3 gate kept2 (λ bytes torn. torn_header text _ bytes at2.on torn) in
      goes_on P old k2 k3 (then_quiet P old k1 k2 (until_write kept k1 step) quiet)
      (leaves_also (Changes side (GetsText text) k2.seen) P k2 k3 second (λ c got. changes_on side (IsStaged text) (GetsText text) (GetsText text) old.seen k2.seen c at2 got (λ first then. then)))

  pub until_end : IsKept old → (k1 k2 k3 k4 : Clock) → IsStep side (Torn 1 (length text)) old k1 → Writes side 1 text old k1 → IsQuiet k1 k2 → IsSynced side k2 → IsStep side (Torn 0 1) k2 k3 → IsQuiet k3 k4 → LeavesOnly P old k4
  until_end kept k1 k2 k3 k4 step writes quiet synced gate quiet_too = then_quiet P old k3 k4 (until_gate kept k1 k2 k3 step writes quiet synced gate) quiet_too

-- a side is cleared after it was looked at
pub after_look : (side : DiskSide) (k0 k1 k2 : Clock) → IsKept k0 → IsQuiet k0 k1 → LeavesOnly (Changes side IsCleared k1.seen) k1 k2 → LeavesOnly (Changes side IsCleared k0.seen) k0 k2
after_look side k0 k1 k2 kept quiet run =
    from_quiet (Changes side IsCleared k0.seen) k0 k1 k2 quiet (side_same side IsCleared k0 (inl refl) kept)
    (subst (λ (s : Scene). LeavesOnly (Changes side IsCleared s) k1 k2) quiet.seen run)
