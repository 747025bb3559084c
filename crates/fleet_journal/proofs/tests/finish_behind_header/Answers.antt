use Rattle.std.proofs.Common.{◌≡◌, ℕ, List, [], Option, None, sym, ◌∙◌, subst}
use Rattle.station_api.specs.Scene.{Scene, side_of, other_of}
use Rattle.station_api.specs.declared.station.DiskSide.{DiskSide}
use Rattle.fleet_base.specs.declared.order.PairId.{PairId}
use Rattle.fleet_base.specs.declared.report.Report.{Report}
use Rattle.journal_frame.specs.declared.header.HeaderParts.{HeaderParts}
use Rattle.fleet_journal.specs.Sides.{IsClean}
use Rattle.fleet_journal.specs.Standing.{Standing}
use Rattle.fleet_journal.specs.Journal.{HasRead, Stands}
use Rattle.fleet_journal.specs.Answers.{ReadsOn}
use Rattle.fleet_journal.proofs.tests.finish_behind_header.Goals as goal

closed : (old new : Standing) (header : HeaderParts) (entries : List (List ℕ)) (s after : Scene) (read : Option (Report × List PairId)) → read ≡ None → after ≡ s → ReadsOn old new header entries s read → Stands new header entries after
closed old new header entries s after read is same reads =
    let none = subst (ReadsOn old new header entries s) is reads in
    subst (λ (scene : Scene). Stands new header entries scene) (sym same) (subst (λ (j : Standing). Stands j header entries s) (sym none.1) none.0)

moved : (journal : Standing) (header : HeaderParts) (entries : List (List ℕ)) (s after : Scene) → after ≡ s → HasRead journal header entries s → HasRead journal header entries after
moved journal header entries s after same has = subst (λ (scene : Scene). HasRead journal header entries scene) (sym same) has

still_clean : (a b : DiskSide) (s after : Scene) → b ≡ a → after ≡ s → IsClean (side_of (other_of a) s) → IsClean (side_of (other_of b) after)
still_clean a b s after side same clean =
    subst (λ (scene : Scene). IsClean (side_of (other_of b) scene)) (sym same) (subst (λ (d : DiskSide). IsClean (side_of (other_of d) s)) (sym side) clean)

pub finish-requires-clause-stands : goal.finish-requires-clause-stands
finish-requires-clause-stands g c told =
    let has = c.requires.reads told in
    (has.0, [], closed _ _ has.0 [] _ _ c.in_ok-_first.field-0 c.in_default.is (c.next_entry.ensures.quiet told).seen (c.in_ok-_first.ensures.reads told has.0 [] has.1))

pub finish-requires-clause-other : goal.finish-requires-clause-other
finish-requires-clause-other g c told is = still_clean _ _ _ _ c.next_entry.ensures.side (c.next_entry.ensures.quiet told).seen (c.requires.other told is)

pub finish-requires-in_default-2-clause-stands : goal.finish-requires-in_default-2-clause-stands
finish-requires-in_default-2-clause-stands g c told =
    let has = c.requires.reads told in
    let one = subst (ReadsOn c.args.journal c.next_entry.new.self has.0 [] (g.T.Station.clock c.args.station.now).seen) c.in-Some.is (c.in_ok-_first.ensures.reads told has.0 [] has.1) in
    let here = moved _ has.0 _ _ _ (c.next_entry.ensures.quiet told).seen one.2 in
    (has.0, _, closed _ _ has.0 _ _ _ c.in_ok-_second.field-0 c.in_default-2.is (c.next_entry-2.ensures.quiet told).seen (c.in_ok-_second.ensures.reads told has.0 _ here))

pub finish-requires-in_default-2-clause-other : goal.finish-requires-in_default-2-clause-other
finish-requires-in_default-2-clause-other g c told is =
    still_clean _ _ _ _ (c.next_entry-2.ensures.side ∙ c.next_entry.ensures.side) ((c.next_entry-2.ensures.quiet told).seen ∙ (c.next_entry.ensures.quiet told).seen) (c.requires.other told is)
