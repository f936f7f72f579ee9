-- The names of the demonstration's functions. A name is a list of bytes.
use Rattle.std.specs.Prelude.{ℕ, List, Option, Some, None, if◌then◌else◌, codes}
use Rattle.std.specs.Str.{bytes_eq}
use Rattle.rsx_demo.specs.declared.names.Role.{Role}
use Rattle.rsx_demo.specs.declared.names.Role.TheVariants as for

abbrev pub map_number_of : List ℕ → Option ℕ
map_number_of name =
    if bytes_eq name (codes "inc") then Some 1
    else (if bytes_eq name (codes "double") then Some 2
    else (if bytes_eq name (codes "neg") then Some 3
    else (if bytes_eq name (codes "size") then Some 4
    else None)))

abbrev pub test_number_of : List ℕ → Option ℕ
test_number_of name =
    if bytes_eq name (codes "even") then Some 1
    else (if bytes_eq name (codes "positive") then Some 2
    else None)

abbrev pub fold_number_of : List ℕ → Option ℕ
fold_number_of name =
    if bytes_eq name (codes "add") then Some 1
    else (if bytes_eq name (codes "max") then Some 2
    else None)

abbrev pub key_number_of : List ℕ → Option ℕ
key_number_of name =
    if bytes_eq name (codes "mod3") then Some 1
    else (if bytes_eq name (codes "same") then Some 2
    else None)

abbrev pub expand_number_of : List ℕ → Option ℕ
expand_number_of name =
    if bytes_eq name (codes "upto") then Some 1
    else (if bytes_eq name (codes "twice") then Some 2
    else None)

-- the number of the function with this name
abbrev pub number_named : Role → List ℕ → Option ℕ
number_named for.Map name = map_number_of name
number_named for.Test name = test_number_of name
number_named for.Fold name = fold_number_of name
number_named for.Key name = key_number_of name
number_named for.Expand name = expand_number_of name
