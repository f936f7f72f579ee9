use Rattle.std.proofs.Common.{ℕ, ℤ, List, Result}
use Rattle.std.specs.Int.{w64}
use Rattle.std.specs.Str.Parse.{ParsesSigned, ExplainsSignedError, HasSignedDigitsIfOk}
use Rattle.std.specs.declared.num.ParseIntError.{ParseIntError}
use Rattle.rsx_script.proofs.Digits.{signed_is}
use Rattle.rsx_script.proofs.numbers.number_i64.Goals as goal

pub returns : goal.returns
returns c =
    signed_is {E = ParseIntError} (λ (bs : List ℕ) (r : Result ℤ ParseIntError). ParsesSigned w64 10 bs r × ExplainsSignedError 10 bs r × HasSignedDigitsIfOk bs r) (λ bs r h. h.0) c.args.word.now c.number_of.result c.number_of.ensures
