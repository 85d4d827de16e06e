-- The parts of a sheet's rule, in terms of the record.
use Rattle.std.proofs.Common.{◌≡◌, ℕ, ◌<◌, ◌&&◌, ◌↔◌, List, get_or, None, Option, arith, sym, ap, subst}
use Rattle.shapes.proofs.Counts.{count_same}
use Rattle.tables.specs.declared.table.Table.{Table}
use Rattle.caps.specs.Caps.{CapsAdmit, is_mate, is_this, mates_in, stands_in}
use Rattle.caps.specs.declared.caps.Caps.{Caps}
use Rattle.sheets.specs.Entrants.{association_of}
use Rattle.sheets.specs.declared.sheet.Sheet.{Sheet}
use Rattle.sheet_rules.specs.SheetRules.{CapsKept, sheet_mates}

module _ (s : Sheet) (associations : List (Option ℕ)) (agree : (n : ℕ) → n < 96 → get_or associations n None ≡ association_of s n) (t : Table) where
  abbrev caps_made : Caps
  caps_made = record { associations = associations; caps = s.caps }

  mates_same : (a g : ℕ) → mates_in caps_made t a g ≡ sheet_mates s t a g
  mates_same a g =
      count_same (is_mate caps_made t a g) (λ n. is_this (association_of s n) a && stands_in t n g) 96
      (λ n low. ap (λ (o : Option ℕ). is_this o a && stands_in t n g) (agree n low))

  made_kept : CapsAdmit caps_made t ↔ CapsKept s t
  made_kept = (λ all a g most e. omega (arith, mates_same a g, all a g most e), λ all a g most e. omega (arith, mates_same a g, all a g most e))

  pub caps_kept : (c : Caps) → c ≡ caps_made → CapsAdmit c t ↔ CapsKept s t
  caps_kept c e = subst (λ (x : Caps). CapsAdmit x t ↔ CapsKept s t) (sym e) made_kept
