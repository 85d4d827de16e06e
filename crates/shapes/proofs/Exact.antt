-- From one exact answer to another.
use Rattle.std.proofs.Common.{◌≡◌, Bool, true, false, sym}
use Rattle.std.proofs.lemmas.Bool.{false≢true}
use Rattle.shapes.specs.Answers.{Exactly}

-- of a question that says the same
pub exactly_like : {P Q : Type 0} (r : Bool) → (P → Q) → (Q → P) → Exactly r P → Exactly r Q
exactly_like true to from p = to p
exactly_like false to from never = λ q. never (from q)

-- a no to a question is one to any that says more
pub exactly_no : {P Q : Type 0} (r : Bool) → r ≡ false → (Q → P) → Exactly r P → Exactly r Q
exactly_no true e from p = absurd (false≢true (sym e))
exactly_no false e from never = λ q. never (from q)
