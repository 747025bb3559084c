-- What stands beside the side that is taken, while it is cleared.
use Rattle.std.proofs.Common.{◌≡◌, inl, inr, ℕ, List, ◌∷◌, ◌++◌, drop, refl, sym, ◌∙◌, ap, subst}
use Rattle.station_api.specs.Scene.{Scene, side_of, other_of}
use Rattle.station_api.specs.Disk.{Changes}
use Rattle.station_api.specs.declared.station.DiskSide.{DiskSide}
use Rattle.station_api.specs.declared.station.DiskSide.TheVariants.{A, B}
use Rattle.journal_frame.specs.declared.header.HeaderParts.{HeaderParts}
use Rattle.journal_frame.specs.Frames.{framed, HasHeader, IsBlank}
use Rattle.journal_frame.proofs.FrameLaws.{blank_not_live}
use Rattle.fleet_journal.specs.Sides.{IsBeside, Keeps}
use Rattle.fleet_journal.specs.Clearing.{IsSameButGate, IsCleared}
use Rattle.fleet_journal.proofs.Frames.{closed_again}

pub twice : (side : DiskSide) → other_of (other_of side) ≡ side
twice A = refl
twice B = refl

pub weaker : (side : DiskSide) (Q R : List ℕ → List ℕ → Type 0) (s c : Scene) → ((a b : List ℕ) → Q a b → R a b) → Changes side Q s c → Changes side R s c
weaker side Q R s c more is = record { on = more (side_of side s) (side_of side c) is.on; off = is.off; sent = is.sent }

-- another open gate has the same header
header_apart : (old new payload : List ℕ) → IsSameButGate old new → HasHeader new payload → HasHeader old payload
header_apart old new payload (gate, other, rest, is_open, old_is, new_is) has =
    let tail : rest ≡ framed payload ++ has.frame.next ∷ has.frame.rest = ap (λ (l : List ℕ). drop 1 l) (sym new_is ∙ has.frame.bytes_are) in
    record {
      gate = gate;
      is_open = is_open;
      frame = record { next = has.frame.next; rest = has.frame.rest; fits = has.frame.fits; bytes_are = old_is ∙ ap (λ (l : List ℕ). gate ∷ l) tail };
      grammar = has.grammar;
    }

-- a blank side is beside any other
pub beside_blank : (side : DiskSide) (own : ℕ) (bytes : List ℕ) → IsBlank bytes → IsBeside side own bytes
beside_blank side own bytes blank payload header has is = absurd (blank_not_live bytes blank (payload, has))

-- what was beside the side taken stays so while it is cleared
pub beside_cleared : (side : DiskSide) (own : ℕ) (old new : List ℕ) → IsBeside side own old → IsCleared old new → IsBeside side own new
beside_cleared side own old new beside (inl same) = subst (IsBeside side own) (sym same) beside
beside_cleared side own old new beside (inr (inl blank)) = beside_blank side own new blank
beside_cleared side own old new beside (inr (inr gates)) = λ payload header has is. beside payload header (header_apart old new payload gates has) is

-- what a side keeps, it keeps while the other is cleared
pub keeps_cleared : (side : DiskSide) (header : HeaderParts) (entries : List (List ℕ)) (s c : Scene) → Keeps side header entries s → Changes (other_of side) IsCleared s c → Keeps side header entries c
keeps_cleared side header entries s c keeps changes =
    let same : side_of side c ≡ side_of side s = subst (λ (o : DiskSide). side_of o c ≡ side_of o s) (twice side) changes.off in
    record {
      payload = keeps.payload;
      is_header = keeps.is_header;
      has = closed_again (side_of side s) keeps.payload entries keeps.has (side_of side c) keeps.has.closed keeps.has.rest (same ∙ keeps.has.bytes_are) keeps.has.is_closed;
      beside = beside_cleared side header.generation (side_of (other_of side) s) (side_of (other_of side) c) keeps.beside changes.on;
    }
