-- What one more record makes of a sheet record, test by test. Assumes nothing.
use Rattle.std.specs.Prelude.{ℕ, ◌+◌, ◌*◌, ◌^◌, Bool, true, false, cond, not, ◌&&◌, ◌||◌, List, replicate, is_some, Some, None, Ok, Err, Option, Result, ◌==◌, nat_le, nat_lt, slice_index, slice_index_or, slice_set}
use Rattle.shapes.specs.declared.Shape.{Shape}
use Rattle.shapes.specs.Teams.{balls_of, has_team}
use Rattle.orders.specs.Below.{all_below, any_below}
use Rattle.orders.specs.Orders.{all_in_place}
use Rattle.records.specs.declared.refusal.SheetFault.{SheetFault}
use Rattle.records.specs.declared.refusal.SheetRefusal.{SheetRefusal}
use Rattle.records.specs.declared.refusal.SheetRefusal.TheVariants.{ShapeMisplaced, OutOfRange, Repeated, TooManyPairs, NotAnOrder}
use Rattle.records.specs.declared.item.Record.{Record}
use Rattle.records.specs.declared.item.Record.TheVariants.{Shape as ShapeRecord, Team, Pair, Cap, Bars, Seed, Script, End}
use Rattle.records.specs.Refusals.{fault}
use Rattle.sheets.specs.declared.sheet.Sheet.{Sheet}
use Rattle.sheets.specs.declared.sheet.Entrant.{Entrant}
use Rattle.sheets.specs.Entrants.{entrant}

-- the record of a shape, of which nothing else is said
abbrev pub blank : Shape → Sheet
blank sh = record {
  shape = sh;
  teams = replicate 96 None;
  pairs = replicate 64 (0, 0);
  listed = 0;
  caps = replicate 65 None;
  bars = replicate 96 None;
  seed = None;
  scripts = replicate 6 None;
}

-- a capital letter
abbrev pub capital : ℕ → Bool
capital x = nat_le 65 x && nat_le x 90

-- three of them
abbrev pub capitals : List ℕ → Bool
capitals c = capital (slice_index c 0) && (capital (slice_index c 1) && capital (slice_index c 2))

-- no bit at or above the number of groups; 16 is the most that two bytes can bar
abbrev pub bars_fit : ℕ → ℕ → Bool
bars_fit bits groups = nat_le groups 16 && nat_lt bits (2 ^ groups)

-- a record that only the front of a sheet has
abbrev pub is_shape : Record → Bool
is_shape (ShapeRecord g p) = true
is_shape (Team pot ball a c) = false
is_shape (Pair a b) = false
is_shape (Cap a m) = false
is_shape (Bars n g) = false
is_shape (Seed x) = false
is_shape (Script pot o) = false
is_shape End = false

-- each field is in range. The fixed limits of pot and ball hold of every shape of a draw; they keep a number
-- below 96 whatever shape the record has
abbrev pub fits : Shape → Record → Bool
fits sh (ShapeRecord g p) = true
fits sh (Team pot ball a c) = (nat_le pot 5 && (nat_le ball 15 && nat_le a 64)) && (nat_lt ball (balls_of sh pot) && capitals c)
fits sh (Pair a b) = not (a == b) && (has_team sh a && has_team sh b)
fits sh (Cap a m) = (nat_le 1 a && nat_le a 64) && (nat_le 1 m && nat_le m 6)
fits sh (Bars n g) = has_team sh n && bars_fit g sh.groups
fits sh (Seed x) = true
fits sh (Script pot o) = nat_le pot 5 && nat_lt pot sh.pots
fits sh End = true

-- such a record was there before
abbrev pub repeated : Sheet → Record → Bool
repeated s (ShapeRecord g p) = false
repeated s (Team pot ball a c) = is_some (slice_index_or s.teams (16 * pot + ball) None)
repeated s (Pair a b) = false
repeated s (Cap a m) = is_some (slice_index_or s.caps a None)
repeated s (Bars n g) = is_some (slice_index_or s.bars n None)
repeated s (Seed x) = is_some s.seed
repeated s (Script pot o) = is_some (slice_index_or s.scripts pot None)
repeated s End = false

-- a pair where 64 are listed
abbrev pub crowded : Sheet → Record → Bool
crowded s (ShapeRecord g p) = false
crowded s (Team pot ball a c) = false
crowded s (Pair a b) = nat_le 64 s.listed
crowded s (Cap a m) = false
crowded s (Bars n g) = false
crowded s (Seed x) = false
crowded s (Script pot o) = false
crowded s End = false

-- a script is an order of its pot, where the pot has at most sixteen balls
abbrev pub ordered : Shape → Record → Bool
ordered sh (ShapeRecord g p) = true
ordered sh (Team pot ball a c) = true
ordered sh (Pair a b) = true
ordered sh (Cap a m) = true
ordered sh (Bars n g) = true
ordered sh (Seed x) = true
ordered sh (Script pot o) = all_in_place (balls_of sh pot) o
ordered sh End = true

-- the answer to a record after the first, at a place: its tests in their order
abbrev pub verdict : Sheet → Record → ℕ → Result (Unit {0}) SheetFault
verdict s r at =
    cond (is_shape r) (Err (fault ShapeMisplaced at))
    (cond (fits s.shape r)
    (cond (repeated s r) (Err (fault Repeated at))
    (cond (crowded s r) (Err (fault TooManyPairs at))
    (cond (ordered s.shape r) (Ok tt) (Err (fault NotAnOrder at)))))
    (Err (fault OutOfRange at)))

-- an answer, with the place of its record in a refusal
abbrev pub placed : Result (Unit {0}) SheetRefusal → ℕ → Result (Unit {0}) SheetFault
placed (Ok u) at = Ok u
placed (Err refusal) at = Err (fault refusal at)

-- the answer where a record may come once
abbrev pub once : {X : Type 0} → Option X → Result (Unit {0}) SheetRefusal
once o = cond (is_some o) (Err Repeated) (Ok tt)

abbrev pub once_ordered : Sheet → ℕ → List ℕ → Result (Unit {0}) SheetRefusal
once_ordered s pot o =
    cond (is_some (slice_index_or s.scripts pot None)) (Err Repeated)
    (cond (all_in_place (balls_of s.shape pot) o) (Ok tt) (Err NotAnOrder))

-- the sheet record with one thing more
abbrev pub with_team : Sheet → ℕ → Entrant → Sheet
with_team s n e = record s { teams = slice_set s.teams n (Some e) }

abbrev pub with_pair : Sheet → ℕ → ℕ → Sheet
with_pair s a b = record s { pairs = slice_set s.pairs s.listed (a, b); listed = s.listed + 1 }

abbrev pub with_cap : Sheet → ℕ → ℕ → Sheet
with_cap s a m = record s { caps = slice_set s.caps a (Some m) }

abbrev pub with_bars : Sheet → ℕ → ℕ → Sheet
with_bars s n g = record s { bars = slice_set s.bars n (Some g) }

abbrev pub with_seed : Sheet → ℕ → Sheet
with_seed s x = record s { seed = Some x }

abbrev pub with_script : Sheet → ℕ → List ℕ → Sheet
with_script s pot o = record s { scripts = slice_set s.scripts pot (Some o) }

-- the sheet record after a record that is taken
abbrev pub taken : Sheet → Record → Sheet
taken s (ShapeRecord g p) = s
taken s (Team pot ball a c) = with_team s (16 * pot + ball) (entrant a c)
taken s (Pair a b) = with_pair s a b
taken s (Cap a m) = with_cap s a m
taken s (Bars n g) = with_bars s n g
taken s (Seed x) = with_seed s x
taken s (Script pot o) = with_script s pot o
taken s End = s

-- at the end: a number that is a team of the shape has its T
abbrev pub named : Sheet → ℕ → Bool
named s n = not (has_team s.shape n) || is_some (slice_index_or s.teams n None)

abbrev pub all_named : Sheet → Bool
all_named s = all_below (named s) 96

abbrev pub scripted : Sheet → ℕ → Bool
scripted s pot = is_some (slice_index_or s.scripts pot None)

abbrev pub any_script : Sheet → Bool
any_script s = any_below (scripted s) 6

abbrev pub scripted_in : Sheet → ℕ → Bool
scripted_in s pot = not (nat_lt pot s.shape.pots) || scripted s pot

abbrev pub all_scripts : Sheet → Bool
all_scripts s = all_below (scripted_in s) 6

-- one source: a seed and no script, or a script for each pot and no seed
abbrev pub has_source : Sheet → Bool
has_source s = cond (is_some s.seed) (not (any_script s)) (all_scripts s)

abbrev pub is_whole : Sheet → Bool
is_whole s = all_named s && has_source s
