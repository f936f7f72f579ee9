-- A list is larger than each list in it.
use Rattle.std.specs.Prelude.{◌≤◌, List, [], ◌∷◌}
use Rattle.std.proofs.Common.{arith}
use denote.Param.Weighed.{most}
use Rattle.rsx_demo.specs.declared.val.Val.{Val}
use Rattle.rsx_demo.specs.declared.val.Val.TheVariants as is
use Rattle.rsx_demo.specs.declared.val.Vals.TheInside.{Inside}
use Rattle.rsx_demo.specs.declared.val.Vals.TheDeep.{deep-Vals, deep-Val}
use Rattle.rsx_demo.specs.Data.{data_size}
use Rattle.rsx_demo.specs.Items.{data_of}

falls : (vs : List Val) → most deep-Val vs ≤ data_size (data_of vs)
falls [] = omega arith
falls (is.Int z ∷ vs) = omega (arith, falls vs)
falls (is.List d ∷ vs) = omega (arith, falls vs)

pub most_le : (v : Inside) → deep-Vals v ≤ data_size (data_of v.items.value.items)
most_le v = omega (arith, falls v.items.value.items)
