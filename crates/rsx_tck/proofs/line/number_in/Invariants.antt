use Rattle.std.proofs.Common.{◌≡◌, ◌≤◌, true, take}
use Rattle.std.specs.Str.{all_ascii_digits}
use Rattle.std.specs.Str.Parse.{digits_value}
use Rattle.rsx_tck.proofs.line.number_in.Given as goal

abbrev pub invariant-loop-b : goal.invariant-loop-b
invariant-loop-b l = record {
  digits : all_ascii_digits (take l.b-index l.text) ≡ true;
  value-is : l.value ≡ digits_value 10 (take l.b-index l.text);
  small : l.value ≤ l.most;
}
