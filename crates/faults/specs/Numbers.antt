-- The numbers by which layers and refusals are written. Assumes nothing.
use Rattle.std.specs.Prelude.{ℕ}
use Rattle.faults.specs.declared.Layer.{Layer}
use Rattle.faults.specs.declared.Layer.TheVariants.{Reading, Draw, Text}
use Rattle.faults.specs.declared.TextRefusal.{TextRefusal}
use Rattle.faults.specs.declared.TextRefusal.TheVariants.{NoRoom}

-- the number of a layer
abbrev pub layer_number : Layer → ℕ
layer_number Reading = 1
layer_number Draw = 2
layer_number Text = 3

-- the number of a refusal to write text
abbrev pub text_number : TextRefusal → ℕ
text_number NoRoom = 11
