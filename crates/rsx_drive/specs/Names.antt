-- The name that scripts have for a function.
use Rattle.std.specs.Prelude.{ℕ, ◌==◌, List, Option, Some, None, if◌then◌else◌, codes}
use Rattle.std.specs.Fmt.{decimal}
use Rattle.rsx_demo.specs.declared.names.Role.{Role}
use Rattle.rsx_demo.specs.declared.names.Role.TheVariants as for

abbrev pub map_name : ℕ → Option (List ℕ)
map_name f =
    if f == 1 then Some (codes "inc")
    else (if f == 2 then Some (codes "double")
    else (if f == 3 then Some (codes "neg")
    else (if f == 4 then Some (codes "size")
    else None)))

-- one of two names, by the number 1 or 2
abbrev pub name_of_two : List ℕ → List ℕ → ℕ → Option (List ℕ)
name_of_two one two f =
    if f == 1 then Some one
    else (if f == 2 then Some two
    else None)

-- the name of the function with this number, if there is one
abbrev pub name_of : Role → ℕ → Option (List ℕ)
name_of for.Map f = map_name f
name_of for.Test f = name_of_two (codes "even") (codes "positive") f
name_of for.Fold f = name_of_two (codes "add") (codes "max") f
name_of for.Key f = name_of_two (codes "mod3") (codes "same") f
name_of for.Expand f = name_of_two (codes "upto") (codes "twice") f

-- the name, or the number of a function that has none
abbrev pub name_or : Option (List ℕ) → ℕ → List ℕ
name_or (Some name) f = name
name_or None f = decimal f

abbrev pub function_text : Role → ℕ → List ℕ
function_text role f = name_or (name_of role f) f
