-- A list in lent memory: of the memory m the first n places hold its entries, and the places behind them are unused. Assumes nothing.
use Rattle.std.specs.Prelude.{ℕ, ◌+◌, cond, List, length, take, Ok, Err, Result, nat_lt, slice_set}
use Rattle.lists.specs.declared.ListRefusal.{ListRefusal}
use Rattle.lists.specs.declared.ListRefusal.TheVariants.{Full}

-- the number of a refusal
abbrev pub number_of : ListRefusal → ℕ
number_of Full = 28

module _ {X : Type 0} where
  -- the entries, in the order in which they were added
  abbrev pub entries : List X → ℕ → List X
  entries m n = take n m

  -- what is answered to one entry more: a refusal exactly where no place is unused
  abbrev pub added : List X → ℕ → Result (Unit {0}) ListRefusal
  added m n = cond (nat_lt n (length m)) (Ok tt) (Err Full)

  -- the memory after that: the next place is written, and no other; none in a refusal
  abbrev pub written : List X → ℕ → X → List X
  written m n x = cond (nat_lt n (length m)) (slice_set m n x) m

  -- the count after that
  abbrev pub counted : List X → ℕ → ℕ
  counted m n = cond (nat_lt n (length m)) (n + 1) n
