-- Worked examples of desks.
use Rattle.std.specs.Prelude.{◌≡◌, [], ◌∷◌, refl}
use Rattle.hub_history.specs.Desk.{DeskValue, counted_by}

-- A desk of two seats over a book of three entries.
abbrev desk : DeskValue
desk = record { seats = 2; start = 3 }

unused_seats_count_what_was_there : counted_by desk (0 ∷ 0 ∷ []) ≡ 3
unused_seats_count_what_was_there = refl

each_seat_counts_its_steps : counted_by desk (4 ∷ 1 ∷ []) ≡ 8
each_seat_counts_its_steps = refl
