-- A row of a zip that is made and handed out at once.
use Rattle.std.specs.Prelude.{Some}
use Rattle.rsx_combining.specs.Zip.{IsZipCounted, IsZipRow, ZipState, zip_comes_out, zip_done, zip_ended, zip_picks, zip_popped, zip_recorded, zip_recording, zip_rows, zip_waiting}
use Rattle.rsx_sources.specs.Prelude.{IsSteppedOut, Meaning}

-- a step of a zip of which one item is asked, and which sent none, and the item of it out
abbrev pub IsRowOut : {T : Type 0} → Meaning T → ZipState T → T → ZipState T → Type 0
IsRowOut m n x n' = IsSteppedOut (zip_comes_out m) (zip_waiting m) zip_picks zip_rows IsZipRow zip_popped zip_recording zip_recorded IsZipCounted zip_ended zip_done n 1 0 (Some x) n'
