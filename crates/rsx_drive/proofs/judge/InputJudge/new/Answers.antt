use Rattle.std.proofs.Common.{◌≡◌, min, [], refl, arith}
use Rattle.rsx_demand.specs.declared.TheConstants.{UNBOUNDED}
use Rattle.rsx_drive.proofs.judge.InputJudge.new.Goals as goal

pub returns : goal.returns
returns g c =
    let none : 0 ≡ min UNBOUNDED 0 = omega arith in
    record {
      styled = refl;
      counted = none;
      done = [];
      opening = [];
      split = refl;
      judged = record { parts = []; answered = tt; whole = refl; answers = refl };
      taken = refl;
      begun = tt;
    }
