use Rattle.std.proofs.Common.{ℕ, List, [], ◌∷◌, ◌+◌, ◌∙◌, refl, sym, ap, subst, arith}
use Rattle.station_api.specs.Scene.{Scene, side_of}
use Rattle.station_api.specs.Disk.{Reads}
use Rattle.station_api.proofs.Moments.{quiet_on}
use Rattle.fleet_journal.specs.Measures.{header_start}
use Rattle.fleet_journal.proofs.Pieces.{no_frame}
use Rattle.fleet_journal.proofs.Measures.{names, names_head, names_size, names_tag, begins}
use Rattle.fleet_journal.proofs.measure.begins_with_header.Goals as goal

pub returns-then-front-size-clause-header : goal.returns-then-front-size-clause-header
returns-then-front-size-clause-header g c told =
    (λ no. absurd (cc no), λ has. absurd (no_frame _ has.1 0 has.0 _ (c.requires told) (omega (arith, c.from-size.ensures, c.if-front-size.true)) has.2))

pub returns-in_default-clause-header : goal.returns-in_default-clause-header
returns-in_default-clause-header g c told =
    (λ no. absurd (cc no), λ has. let named = names _ _ (c.requires told) has in absurd (c.in_default.ensures.none named.map_size (names_head _ _ _ _ _ named (c.in_ok-read.ensures.bytes told) refl)))

pub returns-in_err-read-2-clause-quiet : goal.returns-in_err-read-2-clause-quiet
returns-in_err-read-2-clause-quiet g c told = quiet_on _ _ _ (c.read.ensures.quiet told) (c.read-2.ensures.quiet told)

pub returns-in_err-read-3-clause-quiet : goal.returns-in_err-read-3-clause-quiet
returns-in_err-read-3-clause-quiet g c told = quiet_on _ _ _ (quiet_on _ _ _ (c.read.ensures.quiet told) (c.read-2.ensures.quiet told)) (c.read-3.ensures.quiet told)

pub returns-then-behind_map-from-clause-quiet : goal.returns-then-behind_map-from-clause-quiet
returns-then-behind_map-from-clause-quiet g c told = quiet_on _ _ _ (quiet_on _ _ _ (c.read.ensures.quiet told) (c.read-2.ensures.quiet told)) (c.read-3.ensures.quiet told)

pub returns-then-behind_map-from-clause-header : goal.returns-then-behind_map-from-clause-header
returns-then-behind_map-from-clause-header g c told = (
  λ no. absurd (cc no),
  λ has.
      let named = names _ _ (c.requires told) has in
      let start = c.in-Some.ensures.size in
      let m = c.from-behind_map.result in
      let sized = subst (λ (s : Scene). Reads (side_of c.args.side s) (22 + m) c.in_ok-read-2.field-0 (0 ∷ 0 ∷ 0 ∷ 0 ∷ []) c.read-2.new.room) (c.read.ensures.quiet told).seen (c.in_ok-read-2.ensures.bytes told) in
      let is = names_size _ _ _ c.read-2.new.room _ m _ named (omega (arith, c.from-behind_map.ensures, start.1)) (start.0 ∙ ap header_start (sym c.from-behind_map.ensures)) _ _ (c.in_ok-read.ensures.bytes told) refl sized refl _ c.number_of.ensures.bytes c.number_of.ensures.short in
      absurd (c.if-behind_map-from.true (omega (arith, is, c.from-size.ensures, c.from.ensures))),
)

pub returns-then-tag-ne0-clause-header : goal.returns-then-tag-ne0-clause-header
returns-then-tag-ne0-clause-header g c told = (
  λ no. absurd (cc no),
  λ has.
      let named = names _ _ (c.requires told) has in
      let seen = (c.read-2.ensures.quiet told).seen ∙ (c.read.ensures.quiet told).seen in
      let at = subst (λ (s : Scene). Reads (side_of c.args.side s) (4 + c.from-size.result) c.in_ok-read-3.field-0 (0 ∷ []) c.read-3.new.room) seen (c.in_ok-read-3.ensures.bytes told) in
      let tag = names_tag _ _ _ _ _ named (subst (λ (k : ℕ). Reads (side_of c.args.side (g.T.Station.clock c.args.station.now).seen) (4 + k) c.in_ok-read-3.field-0 (0 ∷ []) c.read-3.new.room) c.from-size.ensures at) refl in
      absurd (c.if-tag-ne0.true tag),
)

pub returns-then-tag-ne0-clause-quiet : goal.returns-then-tag-ne0-clause-quiet
returns-then-tag-ne0-clause-quiet g c told = quiet_on _ _ _ (quiet_on _ _ _ (c.read.ensures.quiet told) (c.read-2.ensures.quiet told)) (c.read-3.ensures.quiet told)

pub returns-clause-header : goal.returns-clause-header
returns-clause-header g c told =
    let start = c.in-Some.ensures.size in
    let m = c.from-behind_map.result in
    let p = c.number_of.result in
    let sized = subst (λ (s : Scene). Reads (side_of c.args.side s) (22 + m) c.in_ok-read-2.field-0 (0 ∷ 0 ∷ 0 ∷ 0 ∷ []) c.read-2.new.room) (c.read.ensures.quiet told).seen (c.in_ok-read-2.ensures.bytes told) in
    let seen = (c.read-2.ensures.quiet told).seen ∙ (c.read.ensures.quiet told).seen in
    let at = subst (λ (s : Scene). Reads (side_of c.args.side s) (4 + c.from-size.result) c.in_ok-read-3.field-0 (0 ∷ []) c.read-3.new.room) seen (c.in_ok-read-3.ensures.bytes told) in
    let tag_at = subst (λ (k : ℕ). Reads (side_of c.args.side (g.T.Station.clock c.args.station.now).seen) (4 + k) c.in_ok-read-3.field-0 (0 ∷ []) c.read-3.new.room) c.from-size.ensures at in (
      λ yes. begins _ _ _ _ _ m p (c.requires told) (omega (arith, c.from-size.ensures, c.if-front-size.false)) (omega (arith, c.if-behind_map-from.false, c.from-size.ensures, c.from.ensures))
          _ _ (c.in_ok-read.ensures.bytes told) refl (start.0 ∙ ap header_start (sym c.from-behind_map.ensures)) (omega (arith, c.from-behind_map.ensures, start.1))
          _ _ sized refl c.number_of.ensures.bytes c.number_of.ensures.short _ _ tag_at refl c.read-3.auto.room c.if-tag-ne0.false,
      λ has. refl,
    )

pub returns-clause-quiet : goal.returns-clause-quiet
returns-clause-quiet g c told = quiet_on _ _ _ (quiet_on _ _ _ (c.read.ensures.quiet told) (c.read-2.ensures.quiet told)) (c.read-3.ensures.quiet told)
