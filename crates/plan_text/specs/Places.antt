-- The text of a path from the left, as a finite automaton: how far it has come, byte by byte. The grammar is that of
-- PlanText, and this table is proved to be right for it where a line is read.
use Rattle.std.specs.Prelude.{ℕ, ◌+◌, ◌-◌, ◌*◌, Option, Some, None, Bool, true, false, ◌&&◌, ◌==◌, nat_lt, nat_le, if◌then◌else◌, option_map}
use Rattle.plan_text.specs.declared.place.Place.{Place}
use Rattle.plan_text.specs.declared.place.Place.TheVariants.{Start, Open, Row, Comma, Col, Closed, Dash, Arrow}

-- the value of a digit
abbrev pub digit_of : ℕ → Option ℕ
digit_of b = if nat_le 48 b && nat_le b 57 then Some (b - 48) else None

-- a number with one more digit: not behind a leading zero, and not a fifth one
abbrev pub extended_by : ℕ → ℕ → Option ℕ
extended_by n b = if nat_lt 0 n && nat_lt n 1000 then option_map (λ d. 10 * n + d) (digit_of b) else None

-- the place to which a byte leads, if any path's text goes on so
abbrev pub next_place : Place → ℕ → Option Place
next_place Start b = if b == 40 then Some Open else None
next_place Open b = option_map Row (digit_of b)
next_place (Row r) b = if b == 44 then Some (Comma r) else option_map Row (extended_by r b)
next_place (Comma r) b = option_map (λ n. Col (record { row = r; col = n })) (digit_of b)
next_place (Col c) b = if b == 41 then Some (Closed c) else option_map (λ n. Col (record { row = c.row; col = n })) (extended_by c.col b)
next_place (Closed c) b = if b == 45 then Some Dash else None
next_place Dash b = if b == 62 then Some Arrow else None
next_place Arrow b = if b == 40 then Some Open else None

-- a text may end at the place
abbrev pub is_end : Place → Bool
is_end (Closed c) = true
is_end Arrow = true
is_end _ = false
