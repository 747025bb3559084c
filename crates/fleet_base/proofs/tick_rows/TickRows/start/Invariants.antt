use Rattle.std.proofs.Common.{◌≡◌, ◌+◌, ◌∷◌, [], take, map}
use Rattle.fleet_base.proofs.tick_rows.TickRows.start.Given as goal

abbrev pub invariant-loop-last : goal.invariant-loop-last
invariant-loop-last l = record {
  ticks : map (λ row. row.ticks) l.rows.items ≡ map (λ _. 0 ∷ []) (take l.last-index l.lasts);
  rooms : map (λ row. row.room) l.rows.items ≡ map (λ last. last + 1) (take l.last-index l.lasts);
}
