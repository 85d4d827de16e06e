-- A record of a sheet: its bytes, and what is read of bytes. Assumes nothing.
use Rattle.std.specs.Prelude.{◌≡◌, ℕ, ◌+◌, ◌*◌, cond, List, [], ◌∷◌, length, take, drop, Some, None, Ok, Err, Option, Result, ◌==◌, nat_le, slice_index}
use Rattle.records.specs.declared.refusal.SheetFault.{SheetFault}
use Rattle.records.specs.declared.refusal.SheetRefusal.TheVariants.{UnknownKind, CutShort}
use Rattle.records.specs.Refusals.{fault}
use Rattle.records.specs.declared.item.Record.{Record}
use Rattle.records.specs.declared.item.Record.TheVariants.{Shape, Team, Pair, Cap, Bars, Seed, Script, End}

-- the number that eight bytes spell, the highest first
abbrev pub eight : List ℕ → ℕ
eight bs =
    slice_index bs 0 * 72057594037927936 + slice_index bs 1 * 281474976710656 + slice_index bs 2 * 1099511627776
    + slice_index bs 3 * 4294967296
    + slice_index bs 4 * 16777216
    + slice_index bs 5 * 65536
    + slice_index bs 6 * 256
    + slice_index bs 7

-- the kinds are letters: G is 71, T 84, X 88, C 67, B 66, U 85, S 83 and Z 90

-- the bytes are those of the record: a byte of kind, then the body
abbrev pub Form : Record → List ℕ → Type 0
Form (Shape g p) bs = bs ≡ 71 ∷ g ∷ p ∷ []
Form (Team pot ball a c) bs = (length c ≡ 3) × (bs ≡ 84 ∷ pot ∷ ball ∷ a ∷ c)
Form (Pair a b) bs = bs ≡ 88 ∷ a ∷ b ∷ []
Form (Cap a m) bs = bs ≡ 67 ∷ a ∷ m ∷ []
Form (Bars n g) bs = (high : ℕ) × (low : ℕ) × (g ≡ high * 256 + low) × (bs ≡ 66 ∷ n ∷ high ∷ low ∷ [])
Form (Seed s) bs = (body : List ℕ) × (length body ≡ 8) × (s ≡ eight body) × (bs ≡ 85 ∷ body)
Form (Script pot o) bs = (length o ≡ 16) × (bs ≡ 83 ∷ pot ∷ o)
Form End bs = bs ≡ 90 ∷ []

-- the bytes of a body, by its kind
abbrev pub body_of : ℕ → Option ℕ
body_of k =
    cond (k == 71) (Some 2)
    (cond (k == 84) (Some 6)
    (cond (k == 88) (Some 2)
    (cond (k == 67) (Some 2)
    (cond (k == 66) (Some 3)
    (cond (k == 85) (Some 8)
    (cond (k == 83) (Some 17)
    (cond (k == 90) (Some 0)
    None)))))))

-- the bytes of a record, its kind among them
abbrev pub size_of : Record → ℕ
size_of (Shape g p) = 3
size_of (Team pot ball a c) = 7
size_of (Pair a b) = 3
size_of (Cap a m) = 3
size_of (Bars n g) = 4
size_of (Seed s) = 9
size_of (Script pot o) = 18
size_of End = 1

-- a record of n bytes, where so many are there
abbrev pub if_long : List ℕ → ℕ → ℕ → Record → Result Record SheetFault
if_long bs at n r = cond (nat_le n (length bs)) (Ok r) (Err (fault CutShort at))

-- the record at the front of bytes that stand at a place
abbrev pub decoded : List ℕ → ℕ → Result Record SheetFault
decoded bs at =
    cond (length bs == 0) (Err (fault CutShort at))
    (cond (slice_index bs 0 == 71) (if_long bs at 3 (Shape (slice_index bs 1) (slice_index bs 2)))
    (cond (slice_index bs 0 == 84) (if_long bs at 7 (Team (slice_index bs 1) (slice_index bs 2) (slice_index bs 3) (slice_index bs 4 ∷ slice_index bs 5 ∷ slice_index bs 6 ∷ [])))
    (cond (slice_index bs 0 == 88) (if_long bs at 3 (Pair (slice_index bs 1) (slice_index bs 2)))
    (cond (slice_index bs 0 == 67) (if_long bs at 3 (Cap (slice_index bs 1) (slice_index bs 2)))
    (cond (slice_index bs 0 == 66) (if_long bs at 4 (Bars (slice_index bs 1) (slice_index bs 2 * 256 + slice_index bs 3)))
    (cond (slice_index bs 0 == 85) (if_long bs at 9 (Seed (eight (drop 1 bs))))
    (cond (slice_index bs 0 == 83) (if_long bs at 18 (Script (slice_index bs 1) (take 16 (drop 2 bs))))
    (cond (slice_index bs 0 == 90) (Ok End)
    (Err (fault UnknownKind at))))))))))
