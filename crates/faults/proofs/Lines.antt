-- How long the line of a refusal is.
use Rattle.std.proofs.Common.{◌≡◌, ℕ, ◌+◌, ◌^◌, ◌<◌, ◌≤◌, length, decimal, arith, length-append}
use Rattle.std.proofs.lemmas.Fmt.{length-decimal-le}
use Rattle.faults.specs.declared.Fault.{Fault}
use Rattle.faults.specs.declared.Layer.{Layer}
use Rattle.faults.specs.declared.Layer.TheVariants.{Reading, Draw, Text}
use Rattle.faults.specs.Numbers.{layer_number}
use Rattle.faults.specs.Text.{refused_text, line_of}

-- eleven bytes besides the three numbers
pub length_text : (l n p : ℕ) → length (refused_text l n p) ≡ 11 + length (decimal l) + length (decimal n) + length (decimal p)
unfolding refused_text
length_text l n p = simp length-append (omega arith)

pub text_short : (l n p : ℕ) → l < 10 → n < 256 → p < 2 ^ 64 → length (refused_text l n p) ≤ 35
text_short l n p hl hn hp =
    omega (arith, length_text l n p, length-decimal-le 1 l (omega arith) (omega arith) (omega arith), length-decimal-le 3 n (omega arith) (omega arith) (omega arith), length-decimal-le 20 p (omega arith) (omega arith) hp)

-- every layer has a number of one digit
pub layer_digit : (layer : Layer) → layer_number layer < 10
layer_digit Reading = omega arith
layer_digit Draw = omega arith
layer_digit Text = omega arith

-- the line of any fault
pub line_short : (f : Fault) → f.number < 256 → f.place < 2 ^ 64 → length (line_of f) ≤ 35
line_short f hn hp = text_short (layer_number f.layer) f.number f.place (layer_digit f.layer) hn hp
