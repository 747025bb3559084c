-- One tick more in a row.
use Rattle.std.proofs.Common.{ℕ, ◌≡◌, ◌<◌, List, [], ◌∷◌, ◌++◌, sym, ap, ◌∙◌, subst, arith, length, get_or, set, map}
use Rattle.std.proofs.lemmas.List.{map-set}
use Rattle.std.proofs.Math.Seq.{map-set_same}
use Rattle.fleet_base.specs.Lists.{row_of}
use Rattle.fleet_base.specs.TickRows.{Row, Rows}
use Rattle.fleet_base.proofs.GraphLaws.{length-map, get_or-map}

-- what rows of robots stand for
abbrev pub rows_of : List Row → Rows
rows_of rows = record { ticks = map (λ row. row.ticks) rows; rooms = map (λ row. row.room) rows }

-- the row that is read at a robot
row_there : (rows : List Row) (i : ℕ) (row : Row) → i < length (rows_of rows).ticks → row ≡ get_or rows i row → row_of (rows_of rows).ticks i ≡ row.ticks
row_there rows i row h e =
    let there : i < length rows = omega (arith, h, length-map (λ (r : Row). r.ticks) rows) in
    get_or-map (λ (r : Row). r.ticks) rows i row [] there ∙ ap (λ (r : Row). r.ticks) (sym e)

pub room_left : (rows : List Row) (x : Rows) (i : ℕ) (row : Row) → rows_of rows ≡ x → i < length x.ticks → row ≡ get_or rows i row → length (row_of x.ticks i) < get_or x.rooms i 0 → length row.ticks < row.room
room_left rows x i row is h e left =
    let there : i < length (rows_of rows).ticks = subst (λ (y : Rows). i < length y.ticks) (sym is) h in
    let in_rows : i < length rows = omega (arith, there, length-map (λ (r : Row). r.ticks) rows) in
    let room : get_or (rows_of rows).rooms i 0 ≡ row.room = get_or-map (λ (r : Row). r.room) rows i row (0) in_rows ∙ ap (λ (r : Row). r.room) (sym e) in
    let said : length (row_of (rows_of rows).ticks i) < get_or (rows_of rows).rooms i 0 = subst (λ (y : Rows). length (row_of y.ticks i) < get_or y.rooms i 0) (sym is) left in
    omega (arith, said, room, ap (λ (ts : List ℕ). length ts) (row_there rows i row there e))

pub tick_pushed : (rows : List Row) (x : Rows) (i t : ℕ) (row new : Row) → rows_of rows ≡ x → i < length x.ticks → row ≡ get_or rows i row → new ≡ record row { ticks = row.ticks ++ t ∷ [] }
    → rows_of (set rows i new) ≡ record x { ticks = set x.ticks i (row_of x.ticks i ++ t ∷ []) }
tick_pushed rows x i t row new is h e n =
    subst (λ (y : Rows). rows_of (set rows i new) ≡ record y { ticks = set y.ticks i (row_of y.ticks i ++ t ∷ []) }) is
    (λ j. record { ticks = ticks j; rooms = rooms j })
  where
    there : i < length (rows_of rows).ticks
    there = subst (λ (y : Rows). i < length y.ticks) (sym is) h

    ticks : map (λ (r : Row). r.ticks) (set rows i new) ≡ set (rows_of rows).ticks i (row_of (rows_of rows).ticks i ++ t ∷ [])
    ticks = map-set (λ (r : Row). r.ticks) rows i new
        ∙ ap (λ (ts : List ℕ). set (rows_of rows).ticks i ts) (ap (λ (r : Row). r.ticks) n ∙ ap (λ (ts : List ℕ). ts ++ t ∷ []) (sym (row_there rows i row there e)))

    rooms : map (λ (r : Row). r.room) (set rows i new) ≡ (rows_of rows).rooms
    rooms = map-set_same (λ (r : Row). r.room) rows i new row (ap (λ (r : Row). r.room) n ∙ ap (λ (r : Row). r.room) e)
