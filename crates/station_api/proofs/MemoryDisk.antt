-- What the calls of the disk in memory do to its clock, and to its bytes.
use Rattle.std.proofs.Common.{◌≡◌, ℕ, ◌≤◌, List, [], ◌∷◌, ◌++◌, length, take, Vec, refl, sym, ◌∙◌, ap, subst, arith}
use Rattle.std.proofs.lemmas.List.{take_at}
use Rattle.std.specs.declared.alloc.Global.{Global}
use Rattle.station_api.specs.Scene.{Scene, side_of}
use Rattle.station_api.specs.Clock.{Clock}
use Rattle.station_api.specs.Disk.{written, Torn, Shortened, IsQuiet, IsStep, IsSending, IsSynced}
use Rattle.station_api.specs.Past.{IsHeld}
use Rattle.station_api.specs.Replay.{Held, scene, with_side, with_sent, within, stepped, after, held_now, clock_of}
use Rattle.station_api.specs.declared.station.DiskSide.{DiskSide}
use Rattle.station_api.specs.declared.station.DiskSide.TheVariants.{A, B}
use Rattle.station_api.specs.declared.call.Call.{Call}
use Rattle.station_api.specs.declared.call.Change.TheVariants.{Write, Cut, Sync, Send}
use Rattle.station_api.proofs.Moments.{passes_self, quiet_self}
use Rattle.station_api.proofs.Pushed.{now_is, step_more, side_more, sync_more, synced_more, send_more, sent_more, torn_same, torn_written, shortened_same, shortened_cut}

-- a call that leaves the clock as it was is any step that may do nothing, and sends nothing
pub step_none : (side : DiskSide) (step : List ℕ → List ℕ → Type 0) → ((l : List ℕ) → step l l) → (clock : Clock) → IsStep side step clock clock
step_none side step same clock = record {
  passes = passes_self clock;
  off = refl;
  sent = refl;
  stop = λ c left. (c, clock.only_now c left, record { on = same (side_of side c); off = refl; sent = refl });
}

pub sending_none : (clock : Clock) → IsSending clock clock
sending_none clock = record { passes = passes_self clock; a = refl; b = refl; stop = λ c left. (c, clock.only_now c left, refl, refl) }

abbrev whole : (first : Scene) (calls : List Call) (a b sent : List ℕ) → IsHeld first calls a b sent → scene a b sent ≡ (held_now first calls).seen
whole first calls a b sent held = λ i. record { a = held.a_is i; b = held.b_is i; sent = held.sent_is i }

parts : (first : Scene) (calls : List Call) (a b sent : List ℕ) → scene a b sent ≡ (held_now first calls).seen → IsHeld first calls a b sent
parts first calls a b sent is = record { a_is = ap (λ (s : Scene). s.a) is; b_is = ap (λ (s : Scene). s.b) is; sent_is = ap (λ (s : Scene). s.sent) is }

-- a side of what is held
pub held_side : (side : DiskSide) (first : Scene) (calls : List Call) (a b sent any : List ℕ) → IsHeld first calls a b sent → side_of side (scene a b any) ≡ side_of side (held_now first calls).seen
held_side A first calls a b sent any held = held.a_is
held_side B first calls a b sent any held = held.b_is

-- a call that joined the list and was taken off again
pub undone : (calls pushed later : List Call) (call : Call) (n : ℕ) → pushed ≡ calls ++ call ∷ [] → n ≡ length calls → later ≡ take n pushed → later ≡ calls
undone calls pushed later call n is at cut = cut ∙ ap (λ (l : List Call). take n l) is ∙ take_at calls (call ∷ []) n (sym at)

-- one call more, of which the list is told by an equation
module _ (first : Scene) (calls later : List Call) where
  -- none
  pub step_same : (side : DiskSide) (step : List ℕ → List ℕ → Type 0) → ((l : List ℕ) → step l l) → later ≡ calls → IsStep side step (clock_of first calls) (clock_of first later)
  step_same side step same is = subst (λ (l : List Call). IsStep side step (clock_of first calls) (clock_of first l)) (sym is) (step_none side step same (clock_of first calls))

  pub quiet_same : later ≡ calls → IsQuiet (clock_of first calls) (clock_of first later)
  quiet_same is = subst (λ (l : List Call). IsQuiet (clock_of first calls) (clock_of first l)) (sym is) (quiet_self (clock_of first calls))

  pub sending_same : later ≡ calls → IsSending (clock_of first calls) (clock_of first later)
  sending_same is = subst (λ (l : List Call). IsSending (clock_of first calls) (clock_of first l)) (sym is) (sending_none (clock_of first calls))

  pub held_same : later ≡ calls → (a b sent : List ℕ) → IsHeld first calls a b sent → IsHeld first later a b sent
  held_same is a b sent held = subst (λ (l : List Call). IsHeld first l a b sent) (sym is) held

  pub held_undone : later ≡ calls → (a b sent a2 b2 sent2 : List ℕ) → a2 ≡ a → b2 ≡ b → sent2 ≡ sent → IsHeld first calls a b sent → IsHeld first later a2 b2 sent2
  held_undone is a b sent a2 b2 sent2 same_a same_b same_sent held =
      let now = held_same is a b sent held in
      record { a_is = same_a ∙ now.a_is; b_is = same_b ∙ now.b_is; sent_is = same_sent ∙ now.sent_is }

  pub sent_same : later ≡ calls → (held_now first later).seen.sent ≡ (held_now first calls).seen.sent
  sent_same is = ap (λ (l : List Call). (held_now first l).seen.sent) is

  seen_later : (call : Call) → later ≡ calls ++ call ∷ [] → (held_now first later).seen ≡ (after call.change (held_now first calls)).seen
  seen_later call is = ap (λ (l : List Call). (held_now first l).seen) is ∙ ap (λ (h : Held). h.seen) (now_is first calls call)

  module _ (number : ℕ) (side : DiskSide) (at : ℕ) (copy : Vec ℕ Global) (bytes : List ℕ) (same : copy.items ≡ bytes) (is : later ≡ calls ++ record { number = number; change = Write side at copy } ∷ []) where
    module _ (le : at ≤ length (side_of side (held_now first calls).seen)) where
      abbrev stands : List ℕ
      stands = side_of side (held_now first calls).seen

      abbrev call : Call
      call = record { number = number; change = Write side at copy }

      at_is : within at stands ≡ at
      at_is = omega (arith, le)

      makes : after call.change (held_now first calls) ≡ stepped side (Torn at (length copy.items)) (written at copy.items stands) (held_now first calls)
      makes = ap (λ (k : ℕ). stepped side (Torn k (length copy.items)) (written k copy.items stands) (held_now first calls)) at_is

      pub write_step : IsStep side (Torn at (length bytes)) (clock_of first calls) (clock_of first later)
      write_step =
          subst (λ (l : List Call). IsStep side (Torn at (length bytes)) (clock_of first calls) (clock_of first l)) (sym is)
          (subst (λ (l : List ℕ). IsStep side (Torn at (length l)) (clock_of first calls) (clock_of first (calls ++ call ∷ []))) same
          (step_more first calls call side (Torn at (length copy.items)) (written at copy.items stands) makes (torn_same at (length copy.items)) (torn_written at copy.items stands le)))

      pub write_side : side_of side (clock_of first later).seen ≡ written at bytes (side_of side (clock_of first calls).seen)
      write_side =
          ap (λ (l : List Call). side_of side (held_now first l).seen) is
          ∙ side_more first calls call side (Torn at (length copy.items)) (written at copy.items stands) makes
          ∙ ap (λ (l : List ℕ). written at l stands) same

      pub write_held : (a b sent a2 b2 : List ℕ) → IsHeld first calls a b sent → scene a2 b2 sent ≡ with_side side (written at bytes (side_of side (scene a b sent))) (scene a b sent) → IsHeld first later a2 b2 sent
      write_held a b sent a2 b2 held done = parts first later a2 b2 sent (
          done
          ∙ ap (λ (l : List ℕ). with_side side (written at l (side_of side (scene a b sent))) (scene a b sent)) (sym same)
          ∙ ap (λ (s : Scene). with_side side (written at copy.items (side_of side s)) s) (whole first calls a b sent held)
          ∙ sym (seen_later call is ∙ ap (λ (h : Held). h.seen) makes))

  module _ (number : ℕ) (side : DiskSide) (n : ℕ) (is : later ≡ calls ++ record { number = number; change = Cut side n } ∷ []) where
    pub cut_step : IsStep side (Shortened n) (clock_of first calls) (clock_of first later)
    cut_step =
        subst (λ (l : List Call). IsStep side (Shortened n) (clock_of first calls) (clock_of first l)) (sym is)
        (step_more first calls (record { number = number; change = Cut side n }) side (Shortened n) (take n (side_of side (held_now first calls).seen)) refl (shortened_same n) (shortened_cut n _))

    pub cut_side : side_of side (held_now first later).seen ≡ take n (side_of side (held_now first calls).seen)
    cut_side =
        ap (λ (l : List Call). side_of side (held_now first l).seen) is
        ∙ side_more first calls (record { number = number; change = Cut side n }) side (Shortened n) (take n (side_of side (held_now first calls).seen)) refl

    pub cut_held : (a b sent a2 b2 : List ℕ) → IsHeld first calls a b sent → scene a2 b2 sent ≡ with_side side (take n (side_of side (scene a b sent))) (scene a b sent) → IsHeld first later a2 b2 sent
    cut_held a b sent a2 b2 held done = parts first later a2 b2 sent (
        done
        ∙ ap (λ (s : Scene). with_side side (take n (side_of side s)) s) (whole first calls a b sent held)
        ∙ sym (seen_later (record { number = number; change = Cut side n }) is))

  module _ (number : ℕ) (side : DiskSide) (is : later ≡ calls ++ record { number = number; change = Sync side } ∷ []) where
    pub sync_quiet : IsQuiet (clock_of first calls) (clock_of first later)
    sync_quiet = subst (λ (l : List Call). IsQuiet (clock_of first calls) (clock_of first l)) (sym is) (sync_more first calls (record { number = number; change = Sync side }) side refl)

    pub sync_synced : IsSynced side (clock_of first later)
    sync_synced = subst (λ (l : List Call). IsSynced side (clock_of first l)) (sym is) (synced_more first calls (record { number = number; change = Sync side }) side refl)

    pub sync_held : (a b sent : List ℕ) → IsHeld first calls a b sent → IsHeld first later a b sent
    sync_held a b sent held = parts first later a b sent (whole first calls a b sent held ∙ sym (seen_later (record { number = number; change = Sync side }) is))

  module _ (number : ℕ) (copy : Vec ℕ Global) (bytes : List ℕ) (same : copy.items ≡ bytes) (is : later ≡ calls ++ record { number = number; change = Send copy } ∷ []) where
    pub send_sending : IsSending (clock_of first calls) (clock_of first later)
    send_sending = subst (λ (l : List Call). IsSending (clock_of first calls) (clock_of first l)) (sym is) (send_more first calls (record { number = number; change = Send copy }) copy.items refl)

    pub send_sent : (held_now first later).seen.sent ≡ (held_now first calls).seen.sent ++ bytes
    send_sent =
        ap (λ (l : List Call). (held_now first l).seen.sent) is
        ∙ sent_more first calls (record { number = number; change = Send copy }) copy.items refl
        ∙ ap (λ (l : List ℕ). (held_now first calls).seen.sent ++ l) same

    pub send_held : (a b sent sent2 : List ℕ) → IsHeld first calls a b sent → sent2 ≡ sent ++ bytes → IsHeld first later a b sent2
    send_held a b sent sent2 held done = parts first later a b sent2 (
        ap (λ (l : List ℕ). scene a b l) (done ∙ ap (λ (l : List ℕ). sent ++ l) (sym same))
        ∙ ap (with_sent copy.items) (whole first calls a b sent held)
        ∙ sym (seen_later (record { number = number; change = Send copy }) is))
