use Rattle.std.proofs.Common.{refl}
use Rattle.tables.proofs.Seated.{none_some, seat_empty}
use Rattle.tables.proofs.table.Table.new.Goals as goal

pub invariant_of-result : goal.invariant_of-result
invariant_of-result c =
    record {
      whole = refl;
      single = λ m n h. absurd (none_some _ h.1.0 (seat_empty m) h.1.1);
      lettered = λ n g e. absurd (none_some _ g (seat_empty n) e);
    }

pub returns : goal.returns
returns c = seat_empty
