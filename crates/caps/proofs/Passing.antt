-- What the counts say as the teams are gone through.
use Rattle.std.proofs.Common.{◌≡◌, ℕ, ◌+◌, ◌<◌, ◌≤◌, ltb, List, [], length, get_or, set, replicate, Some, None, sym, ap, ◌∙◌, inl, inr, arith}
use Rattle.std.proofs.lemmas.List.{get_or_past, get_or-replicate}
use Rattle.std.proofs.lemmas.Grind.{common_steps}
use Rattle.std.proofs.lemmas.Bool.{cases_lt, cond-false, le-ltb}
use Rattle.shapes.proofs.Counts.{count_no, count_none, count_up, count_yes}
use Rattle.shapes.specs.Counting.{count_below}
use Rattle.tables.proofs.Seated.{none_some, some_same}
use Rattle.tables.specs.Tables.{group_of}
use Rattle.tables.specs.declared.table.Table.{Table}
use Rattle.caps.specs.Caps.{CapsAdmit, association_of, cap_of, is_mate}
use Rattle.caps.specs.Pass.{Counted, entry_at, with_mate}
use Rattle.caps.specs.declared.caps.Caps.{Caps}
use Rattle.caps.specs.Mates.{mate_is, no_mate}

-- the counts at the start
abbrev zeros : List (List ℕ)
zeros = replicate 65 (replicate 16 0)

all_zero : (size g : ℕ) → ◌≡◌ {A = ℕ} (get_or (replicate size 0) g 0) 0
all_zero size g = grind (arith, common_steps)

no_entry : (a g : ℕ) → entry_at zeros a g ≡ 0
no_entry a g = elim (cases_lt a 65) [
  | inl h ↦ ap (λ (row : List ℕ). get_or row g 0) (get_or-replicate 65 a (replicate 16 0) [] h) ∙ all_zero 16 g
  | inr h ↦ ap (λ (row : List ℕ). get_or row g 0) (get_or_past zeros a [] h)
]

-- the counts with one entry written
abbrev written : List (List ℕ) → ℕ → ℕ → ℕ → List (List ℕ)
written counts a g v = set counts a (set (get_or counts a []) g v)

module _ (counts : List (List ℕ)) (a g v : ℕ) (low : a < length counts) where
  row_length : (b : ℕ) → length (get_or (written counts a g v) b []) ≡ length (get_or counts b [])
  row_length b = grind (arith, common_steps)

  entry_here : g < length (get_or counts a []) → entry_at (written counts a g v) a g ≡ v
  entry_here inside = grind (arith, common_steps)

  entry_other : (b h : ℕ) → (a ≡ b → g ≡ h → ⊥) → entry_at (written counts a g v) b h ≡ entry_at counts b h
  entry_other b h ne = grind (arith, common_steps)

pub cap_low : (c : Caps) (a most : ℕ) → cap_of c a ≡ Some most → a < 65
cap_low c a most capped = elim (cases_lt a 65) [
  | inl low ↦ low
  | inr past ↦ absurd (none_some (cap_of c a) most (cond-false (ltb a 65) _ None (le-ltb a 65 past)) capped)
]

module _ (c : Caps) (t : Table) where
  -- no team is counted yet
  pub begun : Counted c t zeros 0
  begun = record {
    rows = λ a low. ap length (get_or-replicate 65 a (replicate 16 0) [] low);
    exact = λ a g most capped. no_entry a g ∙ sym (count_none (is_mate c t a g));
    within = λ a g most capped. omega (arith, count_none (is_mate c t a g));
  }

  -- a team that stands nowhere, or has no association, or one without a cap, does not count
  pub passed : (counts : List (List ℕ)) (n : ℕ) → ((a g most : ℕ) → cap_of c a ≡ Some most → association_of c n ≡ Some a → group_of t n ≡ Some g → ⊥) → Counted c t counts n → Counted c t counts (n + 1)
  passed counts n never s =
      let same : (a g most : ℕ) → cap_of c a ≡ Some most → count_below (is_mate c t a g) (n + 1) ≡ count_below (is_mate c t a g) n = λ a g most capped.
      count_no (is_mate c t a g) n (no_mate c t a g n (never a g most capped)) in
      record {
        rows = s.rows;
        exact = λ a g most capped. s.exact a g most capped ∙ sym (same a g most capped);
        within = λ a g most capped. omega (arith, same a g most capped, s.within a g most capped);
      }

  -- a team of an association with a cap, in its group
  module _ (counts : List (List ℕ)) (n a g most : ℕ) (of : association_of c n ≡ Some a) (in_group : group_of t n ≡ Some g) (capped : cap_of c a ≡ Some most) (s : Counted c t counts n) where
    one_more : count_below (is_mate c t a g) (n + 1) ≡ count_below (is_mate c t a g) n + 1
    one_more = count_yes (is_mate c t a g) n (mate_is c t a g n of in_group)

    -- no other count changes
    others : (b h : ℕ) → (a ≡ b → g ≡ h → ⊥) → count_below (is_mate c t b h) (n + 1) ≡ count_below (is_mate c t b h) n
    others b h ne = count_no (is_mate c t b h) n (no_mate c t b h n (λ p q. ne (some_same _ a b of p) (some_same _ g h in_group q)))

    -- there is a row for it
    row : a < length counts
    row = grind (arith, s.rows a (cap_low c a most capped), get_or_past counts a [])

    -- there is room for it
    pub counted : g < 16 → entry_at counts a g < most → Counted c t (with_mate counts a g) (n + 1)
    counted letter room =
        let v = entry_at counts a g + 1 in
        let inside : g < length (get_or counts a []) = omega (arith, s.rows a (cap_low c a most capped)) in
        record {
          rows = λ b under. row_length counts a g v row b ∙ s.rows b under;
          exact = λ b h k cap-of. grind (arith, entry_here counts a g v row inside, entry_other counts a g v row b h, s.exact b h k cap-of, one_more, others b h);
          within = λ b h k cap-of. grind (arith, s.exact b h k cap-of, s.within b h k cap-of, one_more, others b h);
        }

    -- the group is full of the association
    pub refused : n < 96 → most ≤ entry_at counts a g → CapsAdmit c t → ⊥
    refused low full admitted =
        omega (arith, s.exact a g most capped, one_more, count_up (is_mate c t a g) (n + 1) 96 (omega arith), admitted a g most capped)
