-- A list of items as `Data`.
use Rattle.std.specs.Prelude.{List, [], ◌∷◌}
use Rattle.rsx_demo.specs.declared.val.Val.{Val}
use Rattle.rsx_demo.specs.declared.val.Val.TheVariants as is
use Rattle.rsx_demo.specs.Data.{Data, none, int, nested}

abbrev pub data_of : List Val → Data
data_of [] = none
data_of (is.Int z ∷ vs) = int z (data_of vs)
data_of (is.List d ∷ vs) = nested d (data_of vs)
