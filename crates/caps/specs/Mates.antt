-- Who counts where: lemmas, for the proof of a law. No contract rests on them.
use Rattle.std.specs.Prelude.{◌≡◌, ℕ, ◌≤◌, true, false, Some, None, Option, ◌≢◌, refl}
use Rattle.std.proofs.Common.{inl, inr, ap, ◌∙◌}
use Rattle.std.proofs.lemmas.Bool.{and_from, and_parts, cases_Bool, eq-eqb, eqb-true, false≢true}
use Rattle.shapes.proofs.Counts.{count_fewer}
use Rattle.tables.proofs.Removal.{stood_before}
use Rattle.tables.specs.Tables.{Without, group_of}
use Rattle.tables.specs.declared.table.Table.{Table}
use Rattle.caps.specs.Caps.{association_of, belongs, is_mate, is_this, mates_in, stands_in}
use Rattle.caps.specs.declared.caps.Caps.{Caps}

this_is : (o : Option ℕ) (n : ℕ) → is_this o n ≡ true → o ≡ Some n
this_is None n e = absurd (false≢true e)
this_is (Some m) n e = ap Some (eqb-true m n e)

is_this_lem : (o : Option ℕ) (n : ℕ) → o ≡ Some n → is_this o n ≡ true
is_this_lem o n e = ap (λ (x : Option ℕ). is_this x n) e ∙ eq-eqb n n refl

module _ (c : Caps) (t : Table) (a g n : ℕ) where
  pub mate_is : association_of c n ≡ Some a → group_of t n ≡ Some g → is_mate c t a g n ≡ true
  mate_is of in_group = and_from (belongs c n a) (stands_in t n g) (is_this_lem _ a of) (is_this_lem _ g in_group)

  pub is_mate_lem : is_mate c t a g n ≡ true → (association_of c n ≡ Some a) × (group_of t n ≡ Some g)
  is_mate_lem e = let p = and_parts (belongs c n a) (stands_in t n g) e in (this_is _ a p.0, this_is _ g p.1)

  pub no_mate : (association_of c n ≡ Some a → group_of t n ≢ Some g) → is_mate c t a g n ≡ false
  no_mate never = elim (cases_Bool (is_mate c t a g n)) [ inl e ↦ absurd (never (is_mate_lem e).0 (is_mate_lem e).1) | inr e ↦ e ]

-- one placement less: no count is higher
pub fewer_mates : (c : Caps) (before : Table) (team : ℕ) (after : Table) → Without before team after → (a g : ℕ) → mates_in c after a g ≤ mates_in c before a g
fewer_mates c before team after out a g =
    count_fewer (is_mate c after a g) (is_mate c before a g)
    (λ n e. let p = is_mate_lem c after a g n e in mate_is c before a g n p.0 (stood_before before team after out n g p.1)) 96
