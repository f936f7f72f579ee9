-- What an input is answered with in each mode.
use Rattle.std.specs.Prelude.{ℕ, List}
use Rattle.rsx_script.specs.declared.mode.Mode.{Mode}
use Rattle.rsx_script.specs.declared.mode.Mode.TheVariants.{Run, Scratch, Draw, Tck}
use Rattle.rsx_session.specs.declared.session.View.TheVariants.{Received, FromScratch}
use Rattle.rsx_drive.specs.Answered.{Refuses}
use Rattle.rsx_modes.specs.Judged.{AreJudged, IsRefusedAfter}
use Rattle.rsx_drive.specs.declared.judge.Style.TheVariants.{Plain}
use Rattle.rsx_drive.specs.Drawings.{AreDrawn, IsDrawingStopped}
use Rattle.rsx_modes.specs.Scripts.{IsScript, IsScriptStopped}

-- the lines of a whole input were answered by this text
abbrev pub IsAnsweredIn : Mode → List (List ℕ) → List ℕ → Type 0
IsAnsweredIn Run lines text = IsScript Received lines text
IsAnsweredIn Scratch lines text = IsScript FromScratch lines text
IsAnsweredIn Draw lines text = AreDrawn lines text
IsAnsweredIn Tck lines text = AreJudged Plain lines text

-- after these lines, which were answered by this text, the others can't be, for this reason
abbrev pub IsStoppedIn : Mode → Refuses
IsStoppedIn Run = IsScriptStopped Received
IsStoppedIn Scratch = IsScriptStopped FromScratch
IsStoppedIn Draw = IsDrawingStopped
IsStoppedIn Tck = IsRefusedAfter Plain
