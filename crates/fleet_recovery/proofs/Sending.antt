-- What the sides of a journal stand for while bytes are sent.
use Rattle.std.proofs.Common.{ℕ, ◌≡◌, ◌≤◌, List, length, refl, sym, ap, ◌∙◌, subst}
use Rattle.fleet_base.specs.declared.geometry.PlannedVisit.{PlannedVisit}
use Rattle.fleet_base.specs.State.{FleetState}
use Rattle.station_api.specs.Scene.{Scene, side_of, other_of}
use Rattle.station_api.specs.Clock.{Clock, IsKept}
use Rattle.station_api.specs.Disk.{IsSending}
use Rattle.station_api.proofs.Moments.{same_scene}
use Rattle.station_api.specs.declared.station.DiskSide.{DiskSide}
use Rattle.station_api.specs.declared.station.DiskSide.TheVariants.{A, B}
use Rattle.journal_frame.specs.declared.header.HeaderParts.{HeaderParts}
use Rattle.fleet_journal.specs.Sides.{Keeps}
use Rattle.fleet_journal.specs.Standing.{Standing}
use Rattle.fleet_journal.specs.Journal.{Stands}
use Rattle.fleet_recovery.specs.Papers.{Papers}
use Rattle.fleet_recovery.specs.Image.{HoldsState}
use Rattle.fleet_recovery.specs.Opening.{StandsWith, IsAtRest}

-- another text was sent
abbrev sending : Scene → List ℕ → Scene
sending s text = record s { sent = text }

keeps_sent : (side : DiskSide) (header : HeaderParts) (entries : List (List ℕ)) (s : Scene) (text : List ℕ) → Keeps side header entries s → Keeps side header entries (sending s text)
keeps_sent A header entries s text k = record { payload = k.payload; is_header = k.is_header; has = k.has; beside = k.beside }
keeps_sent B header entries s text k = record { payload = k.payload; is_header = k.is_header; has = k.has; beside = k.beside }

stands_sent : (side : DiskSide) (place passed : ℕ) (header : HeaderParts) (entries : List (List ℕ)) (s : Scene) (text : List ℕ) → Stands (record { side = side; place = place; passed = passed }) header entries s
    → Stands (record { side = side; place = place; passed = passed }) header entries (sending s text)
stands_sent A place passed header entries s text h = record { keeps = record { payload = h.keeps.payload; is_header = h.keeps.is_header; has = h.keeps.has; beside = h.keeps.beside }; place = h.place; passed = h.passed }
stands_sent B place passed header entries s text h = record { keeps = record { payload = h.keeps.payload; is_header = h.keeps.is_header; has = h.keeps.has; beside = h.keeps.beside }; place = h.place; passed = h.passed }

beside_sent : (side : DiskSide) (s : Scene) (text : List ℕ) → length (side_of (other_of side) s) ≤ 1 → length (side_of (other_of side) (sending s text)) ≤ 1
beside_sent A s text h = h
beside_sent B s text h = h

-- a scene with the sides of another one
same_sides : (s t : Scene) → t.a ≡ s.a → t.b ≡ s.b → sending s t.sent ≡ t
same_sides s t a b = same_scene A (sending s t.sent) t (sym a) (sym b) refl

module _ (routes : List (List PlannedVisit)) (papers : Papers) (x : FleetState) (s t : Scene) (a : t.a ≡ s.a) (b : t.b ≡ s.b) where
  -- what the sides hold stays while bytes are sent
  pub holds_sending : HoldsState routes papers s x → HoldsState routes papers t x
  holds_sending h = subst (λ (u : Scene). HoldsState routes papers u x) (same_sides s t a b) (record { side = h.side; header = h.header; entries = h.entries; keeps = keeps_sent h.side h.header h.entries s t.sent h.keeps; means = h.means })

  pub stands_sending : (journal : Standing) → StandsWith routes papers journal x s → StandsWith routes papers journal x t
  stands_sending journal h =
      subst (λ (u : Scene). StandsWith routes papers journal x u) (same_sides s t a b)
      (record { header = h.header; entries = h.entries; stands = stands_sent journal.side journal.place journal.passed h.header h.entries s t.sent h.stands; means = h.means })

-- where a journal stands with a state, the sides hold it
pub stands_hold : (routes : List (List PlannedVisit)) (papers : Papers) (journal : Standing) (x : FleetState) (s : Scene) → StandsWith routes papers journal x s → HoldsState routes papers s x
stands_hold routes papers journal x s h = record { side = journal.side; header = h.header; entries = h.entries; keeps = h.stands.keeps; means = h.means }

-- at rest, a journal stands with its state
pub rest_stands : (routes : List (List PlannedVisit)) (papers : Papers) (journal : Standing) (x : FleetState) (clock : Clock) → IsAtRest routes papers journal x clock → StandsWith routes papers journal x clock.seen
rest_stands routes papers journal x clock h = record { header = h.header; entries = h.entries; stands = h.stands; means = h.means }

-- a stop leaves what the station reads after bytes were sent, where it did before
pub kept_sending : (old new : Clock) → IsSending old new → IsKept old → IsKept new
kept_sending old new sending kept c may =
    let d = sending.stop c (new.counts_now old.moment c sending.passes.later may) in
    let at : d.0 ≡ old.seen = kept d.0 d.1 in
    let a : c.a ≡ new.seen.a = d.2 ∙ ap (λ (s : Scene). s.a) at ∙ sym sending.a in
    let b : c.b ≡ new.seen.b = d.3 ∙ ap (λ (s : Scene). s.b) at ∙ sym sending.b in
    same_scene A c new.seen a b (new.sent_stays c may)

-- station and journal stay at rest while bytes are sent
pub rests_sending : (routes : List (List PlannedVisit)) (papers : Papers) (journal : Standing) (x : FleetState) (old new : Clock) → IsSending old new → IsAtRest routes papers journal x old → IsAtRest routes papers journal x new
rests_sending routes papers journal x old new sending rest =
    let h = stands_sending routes papers x old.seen new.seen sending.a sending.b journal (rest_stands routes papers journal x old rest) in
    record {
      kept = kept_sending old new sending rest.kept;
      header = h.header;
      entries = h.entries;
      stands = h.stands;
      means = h.means;
      beside = subst (λ (u : Scene). length (side_of (other_of journal.side) u) ≤ 1) (same_sides old.seen new.seen sending.a sending.b) (beside_sent journal.side old.seen new.seen.sent rest.beside);
    }
