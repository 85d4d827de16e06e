use Rattle.std.proofs.Common.{◌≡◌, ℕ, List, None, Option, Some, get_or, sym, subst}
use Rattle.bars.specs.Barred.{BarredBy}
use Rattle.pairs.specs.Apart.{Apart}
use Rattle.tables.specs.Tables.{group_of}
use Rattle.sheet_rules.proofs.rule_of.Goals as goal

pub returns : goal.returns
returns c t =
    let Barless : List (Option ℕ) → Type 0 = λ bars. (n g : ℕ) → group_of t n ≡ Some g → BarredBy (get_or bars n None) g → ⊥ in
    let capped = c.caps_of.ensures t in (
      λ all. record {
        pairs = subst (λ (ps : List (ℕ × ℕ)). Apart ps t) c.pairs_of.ensures all.0;
        caps = capped.0 all.1.0;
        bars = subst Barless c.new.ensures all.1.1;
      },
      λ all. (subst (λ (ps : List (ℕ × ℕ)). Apart ps t) (sym c.pairs_of.ensures) all.pairs, (capped.1 all.caps, subst Barless (sym c.new.ensures) all.bars)),
    )
