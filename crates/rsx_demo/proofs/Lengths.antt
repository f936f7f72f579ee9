-- The length of a list of items.
use Rattle.std.proofs.Common.{◌≡◌, List, [], ◌∷◌, length, arith}
use Rattle.rsx_demo.specs.declared.val.Val.{Val}
use Rattle.rsx_demo.specs.declared.val.Val.TheVariants as is
use Rattle.rsx_demo.specs.Data.{data_len}
use Rattle.rsx_demo.specs.Items.{data_of}

pub data_len-data_of : (vs : List Val) → data_len (data_of vs) ≡ length vs
data_len-data_of [] = omega arith
data_len-data_of (is.Int z ∷ vs) = omega (arith, data_len-data_of vs)
data_len-data_of (is.List d ∷ vs) = omega (arith, data_len-data_of vs)
