use Rattle.std.proofs.Common.{◌≡◌, ℕ, ◌/◌, ◌%◌, ◌^◌, Some, None, Option, nat_eq, get_or, sym, subst, inl, inr, arith, rules}
use Rattle.std.proofs.lemmas.Bool.{cases_eq}
use Rattle.shapes.specs.Answers.{Exactly}
use Rattle.shapes.proofs.Exact.{exactly_like}
use Rattle.tables.proofs.Seated.{some_same}
use Rattle.tables.specs.Tables.{group_of}
use Rattle.tables.specs.declared.table.Table.{Table}
use Rattle.bars.specs.Barred.{BarredBy, HasBit, Respected}
use Rattle.bars.specs.declared.Bars.{Bars}
use Rattle.bars.proofs.Bars.is_respected.Goals as goal

-- of a team that stands in a group and has an entry, one bit is the answer
module _ (b : Bars) (t : Table) (n g w : ℕ) (stands : group_of t n ≡ Some g) (entry : get_or b.barred n None ≡ Some w) where
  kept : (w / 2 ^ g) % 2 ≡ 0 → Respected b t n
  kept clear k e barred =
      let same : k ≡ g = some_same (group_of t n) k g e stands in
      let set : HasBit w k = subst (λ (o : Option ℕ). BarredBy o k) entry barred in
      let here : HasBit w g = subst (HasBit w) same set in
      omega (arith, here, clear)

  clear_where_kept : Respected b t n → (w / 2 ^ g) % 2 ≡ 0
  clear_where_kept all =
      elim (cases_eq ((w / 2 ^ g) % 2) 1) [
        | inl set ↦ absurd (all g stands (subst (λ (o : Option ℕ). BarredBy o g) (sym entry) set))
        | inr clear ↦ omega arith
      ]

  by_bit : Exactly (nat_eq ((w / 2 ^ g) % 2) 0) (Respected b t n)
  by_bit = exactly_like _ kept clear_where_kept (search rules)

pub returns-in-Some-Some-Some : goal.returns-in-Some-Some-Some
returns-in-Some-Some-Some c =
    by_bit c.args.self.now c.args.table.now c.args.team c.in-Some-Some-Some.group c.in-Some-Some-Some.groups (search rules) (search rules)
