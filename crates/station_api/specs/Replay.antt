-- The calls that a station in memory has seen, done again from its beginning.
use Rattle.std.specs.Prelude.{◌≡◌, ◌⊎◌, ℕ, ◌≤◌, min, List, [], ◌∷◌, ◌++◌, length, take, refl}
use Rattle.std.proofs.Common.{inl, ⊎_elim, sym, ◌∙◌, ap, subst}
use Rattle.std.proofs.Math.Nat.{le_refl, le_trans}
use Rattle.std.proofs.lemmas.List.{take_all}
use Rattle.station_api.specs.Scene.{Scene, side_of}
use Rattle.station_api.specs.Clock.{Clock}
use Rattle.station_api.specs.Disk.{written, Torn, Shortened, Changes}
use Rattle.station_api.specs.declared.station.DiskSide.{DiskSide}
use Rattle.station_api.specs.declared.station.DiskSide.TheVariants.{A, B}
use Rattle.station_api.specs.declared.call.Call.{Call}
use Rattle.station_api.specs.declared.call.Change.{Change}
use Rattle.station_api.specs.declared.call.Change.TheVariants.{Write, Cut, Sync, Send}

-- the scene of these bytes
abbrev pub scene : List ℕ → List ℕ → List ℕ → Scene
scene a b sent = record { a = a; b = b; sent = sent }

-- a scene with another side
abbrev pub with_side : DiskSide → List ℕ → Scene → Scene
with_side A bytes was = record was { a = bytes }
with_side B bytes was = record was { b = bytes }

-- What a station holds, and what a stop may leave of it.
pub record Held : Type 1 where
  pub seen : Scene
  pub may_leave : Scene → Type 0
  pub reads : may_leave seen
  pub sent_stays : (c : Scene) → may_leave c → c.sent ≡ seen.sent

-- a stop leaves this scene alone
abbrev pub kept : Scene → Held
kept was = record { seen = was; may_leave = λ c. c ≡ was; reads = refl; sent_stays = λ c is. ap (λ (s : Scene). s.sent) is }

-- what was sent is no part of a side
pub sent_with_side : (side : DiskSide) (bytes : List ℕ) (was : Scene) → (with_side side bytes was).sent ≡ was.sent
sent_with_side A bytes was = refl
sent_with_side B bytes was = refl

-- one side is now these bytes, and a stop leaves them, or cuts the step short
abbrev pub stepped : DiskSide → (List ℕ → List ℕ → Type 0) → List ℕ → Held → Held
stepped side step bytes held = record {
  seen = with_side side bytes held.seen;
  may_leave = λ c. (c ≡ with_side side bytes held.seen) ⊎ ((d : Scene) × held.may_leave d × Changes side step d c);
  reads = inl refl;
  sent_stays = λ c may. ⊎_elim
      (λ is. ap (λ (s : Scene). s.sent) is)
      (λ from. from.2.sent ∙ held.sent_stays from.0 from.1 ∙ sym (sent_with_side side bytes held.seen))
      may;
}

-- a stop leaves of one side what it reads
abbrev pub synced : DiskSide → Held → Held
synced side held = record {
  seen = held.seen;
  may_leave = λ c. held.may_leave c × (side_of side c ≡ side_of side held.seen);
  reads = (held.reads, refl);
  sent_stays = λ c may. held.sent_stays c may.0;
}

-- a scene in which these bytes were sent too
abbrev pub with_sent : List ℕ → Scene → Scene
with_sent bytes was = record was { sent = was.sent ++ bytes }

-- these bytes were sent too, and a stop leaves them sent
abbrev pub sending : List ℕ → Held → Held
sending bytes held = record {
  seen = with_sent bytes held.seen;
  may_leave = λ c. (d : Scene) × held.may_leave d × (c ≡ with_sent bytes d);
  reads = (held.seen, held.reads, refl);
  sent_stays = λ c may. ap (λ (s : Scene). s.sent) may.2 ∙ ap (λ (l : List ℕ). l ++ bytes) (held.sent_stays may.0 may.1);
}

-- A write past the end would stand at the end; no call makes one.
abbrev pub within : ℕ → List ℕ → ℕ
within at bytes = min at (length bytes)

-- what a change makes of what is held
abbrev pub after : Change → Held → Held
after (Write side at bytes) held =
    let stands = side_of side held.seen in
    stepped side (Torn (within at stands) (length bytes.items)) (written (within at stands) bytes.items stands) held
after (Cut side n) held = stepped side (Shortened n) (take n (side_of side held.seen)) held
after (Sync side) held = synced side held
after (Send bytes) held = sending bytes.items held

-- what some calls make of what is held, one after another
abbrev pub replay : List Call → Held → Held
replay [] held = held
replay (call ∷ calls) held = replay calls (after call.change held)

-- what was held after the first k calls
abbrev pub held_at : Scene → List Call → ℕ → Held
held_at first calls k = replay (take k calls) (kept first)

-- what is held after all of them
abbrev pub held_now : Scene → List Call → Held
held_now first calls = replay calls (kept first)

-- a stop left this scene at some moment from the t-th on, where the moments are those between two changes
abbrev pub LeftSince : Scene → List Call → ℕ → Scene → Type 0
LeftSince first calls t c = (k : ℕ) × (t ≤ k) × (k ≤ length calls) × (held_at first calls k).may_leave c

-- beyond the last change there is nothing more
all_calls : (first : Scene) (calls : List Call) (k : ℕ) → length calls ≤ k → held_at first calls k ≡ held_now first calls
all_calls first calls k le = ap (λ (l : List Call). replay l (kept first)) (take_all k calls le)

-- the laws of a clock: this moment counts
pub counts_now : (first : Scene) (calls : List Call) (t : ℕ) (c : Scene) → t ≤ length calls → (held_now first calls).may_leave c → LeftSince first calls t c
counts_now first calls t c le may = (length calls, le, le_refl (length calls), subst (λ (h : Held). h.may_leave c) (sym (all_calls first calls (length calls) (le_refl (length calls)))) may)

-- since this moment there is no other
pub only_now : (first : Scene) (calls : List Call) (c : Scene) → LeftSince first calls (length calls) c → (held_now first calls).may_leave c
only_now first calls c left = subst (λ (h : Held). h.may_leave c) (all_calls first calls left.0 left.1) left.3

-- a later beginning leaves out moments and adds none
pub earlier : (first : Scene) (calls : List Call) (t u : ℕ) (c : Scene) → t ≤ u → LeftSince first calls u c → LeftSince first calls t c
earlier first calls t u c le left = (left.0, le_trans le left.1, left.2, left.3)

-- the clock of a station that began with a scene and has seen these calls
abbrev pub clock_of : Scene → List Call → Clock
clock_of first calls = record {
  seen = (held_now first calls).seen;
  may_leave = (held_now first calls).may_leave;
  moment = length calls;
  left_since = LeftSince first calls;
  reads = (held_now first calls).reads;
  sent_stays = (held_now first calls).sent_stays;
  counts_now = counts_now first calls;
  only_now = only_now first calls;
  earlier = earlier first calls;
}
