-- The line of a refusal, and what writing a text leaves of the caller's bytes. Assumes nothing.
use Rattle.std.specs.Prelude.{ℕ, ◌+◌, Bool, cond, List, [], ◌∷◌, ◌++◌, length, take, drop, Ok, Err, codes, decimal, Result, nat_le}
use Rattle.faults.specs.declared.Fault.{Fault}
use Rattle.faults.specs.declared.Layer.TheVariants.{Text}
use Rattle.faults.specs.declared.TextRefusal.TheVariants.{NoRoom}
use Rattle.faults.specs.Numbers.{layer_number, text_number}

-- "refused LAYER NUMBER PLACE" and byte 10
unfoldable pub refused_text : ℕ → ℕ → ℕ → List ℕ
refused_text layer number place =
    codes "refused " ++ decimal layer ++ codes " " ++ decimal number ++ codes " " ++ decimal place ++ (10 ∷ [])

-- the line that tells of a fault
abbrev pub line_of : Fault → List ℕ
line_of f = refused_text (layer_number f.layer) f.number f.place

-- the bytes once a text is laid over their front
abbrev pub over : List ℕ → List ℕ → List ℕ
over text bytes = text ++ drop (length text) bytes

-- the bytes once a text is laid over them from a place: those before it and those behind it stay
abbrev pub laid : List ℕ → ℕ → List ℕ → List ℕ
laid bytes at text = take at bytes ++ over text (drop at bytes)

-- the text ends within the bytes where it begins at the place
abbrev pub fits : List ℕ → ℕ → List ℕ → Bool
fits bytes at text = nat_le (at + length text) (length bytes)

-- the answer to a text that does not fit: how many bytes it has
abbrev pub no_room : List ℕ → Fault
no_room text = record { layer = Text; number = text_number NoRoom; place = length text }

-- the answer of a writer of the text from the place: how many bytes it wrote, or a refusal
abbrev pub answered : List ℕ → ℕ → List ℕ → Result ℕ Fault
answered bytes at text = cond (fits bytes at text) (Ok (length text)) (Err (no_room text))

-- the bytes after a writer of the text from the place: a refusal changes none
abbrev pub written : List ℕ → ℕ → List ℕ → List ℕ
written bytes at text = cond (fits bytes at text) (laid bytes at text) bytes
