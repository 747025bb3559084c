use Rattle.std.proofs.Common.{refl, arith}
use Rattle.fleet_journal.proofs.Pieces.{no_frame}
use Rattle.fleet_journal.proofs.Measures.{no_entry, short_measured, count_measured}
use Rattle.fleet_journal.proofs.measure.is_measured.Goals as goal

pub returns-then-saturating_sub-size-clause-no_entry : goal.returns-then-saturating_sub-size-clause-no_entry
returns-then-saturating_sub-size-clause-no_entry g c told short gate payload entry = no_frame _ payload _ gate _ (c.requires told) (omega (arith, c.saturating_sub.ensures, c.from-size.ensures, c.if-saturating_sub-size.true))

pub returns-then-front-le-SHORT-clause-measured : goal.returns-then-front-le-SHORT-clause-measured
returns-then-front-le-SHORT-clause-measured g c told is =
    short_measured _ _ _ (c.requires told) (omega (arith, c.saturating_sub.ensures, c.from-size.ensures, c.if-saturating_sub-size.false)) (omega (arith, c.if-front-le-SHORT.true))

pub returns-then-from-size-clause-no_entry : goal.returns-then-from-size-clause-no_entry
returns-then-from-size-clause-no_entry g c told other gate payload entry =
    no_entry _ _ _ _ _ _ (c.requires told) (omega (arith, c.if-front-le-SHORT.false)) (c.in_ok-read.ensures.bytes told) refl _ c.number_of.ensures.bytes c.number_of.ensures.short
    (λ same. c.if-from-size.true (omega (arith, same, c.from.ensures, c.from-size.ensures))) gate payload entry

pub returns-clause-measured : goal.returns-clause-measured
returns-clause-measured g c told is =
    count_measured _ _ _ _ _ _ (c.requires told) (omega (arith, c.saturating_sub.ensures, c.from-size.ensures, c.if-saturating_sub-size.false)) (omega (arith, c.if-front-le-SHORT.false)) (c.in_ok-read.ensures.bytes told) refl _ c.number_of.ensures.bytes c.number_of.ensures.short
    (omega (arith, c.if-from-size.false, c.from.ensures, c.from-size.ensures))
