-- The text of items.
use Rattle.std.specs.Prelude.{ℕ, List, [], ◌++◌, drop, codes}
use Rattle.std.specs.Fmt.{signed_decimal}
use Rattle.rsx_demo.specs.declared.val.Val.{Val}
use Rattle.rsx_demo.specs.declared.val.Val.TheVariants as is
use Rattle.rsx_demo.specs.Data.{Data, none, int, nested}

-- the items of a list, each behind a space; an item that is a list stands in brackets, without the first space
abbrev pub spaced_text : Data → List ℕ
spaced_text none = []
spaced_text (int z r) = codes " " ++ (signed_decimal z ++ spaced_text r)
spaced_text (nested d r) = codes " " ++ ((codes "[" ++ (drop 1 (spaced_text d) ++ codes "]")) ++ spaced_text r)

-- the items of a list, with a space between them
abbrev pub data_text : Data → List ℕ
data_text d = drop 1 (spaced_text d)

-- a decimal number, or the items of a list in brackets
abbrev pub item_text : Val → List ℕ
item_text (is.Int z) = signed_decimal z
item_text (is.List d) = codes "[" ++ (data_text d ++ codes "]")
