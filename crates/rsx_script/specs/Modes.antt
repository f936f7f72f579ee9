-- The names of the modes and of the subcommands.
use Rattle.std.specs.Prelude.{ℕ, List, Option, Some, None, codes, if◌then◌else◌, option_map}
use Rattle.std.specs.Str.{bytes_eq}
use Rattle.rsx_script.specs.declared.mode.Mode.{Mode}
use Rattle.rsx_script.specs.declared.mode.Mode.TheVariants.{Run, Scratch, Draw, Tck}
use Rattle.rsx_script.specs.declared.mode.Subcommand.{Subcommand}
use Rattle.rsx_script.specs.declared.mode.Subcommand.TheVariants as subcommand

-- the mode with this name
abbrev pub mode_of_name : List ℕ → Option Mode
mode_of_name name = if bytes_eq name (codes "run") then Some Run else (if bytes_eq name (codes "scratch") then Some Scratch else (if bytes_eq name (codes "draw") then Some Draw else (if bytes_eq name (codes "tck") then Some Tck else None)))

-- the subcommand with this name
abbrev pub subcommand_of_name : List ℕ → Option Subcommand
subcommand_of_name name = if bytes_eq name (codes "live") then Some subcommand.Live else option_map (λ mode. subcommand.Mode mode) (mode_of_name name)
