use Rattle.std.proofs.Common.{ℕ, List, Result}
use Rattle.std.specs.Str.Parse.{ParsesUnsigned, ExplainsUnsignedError, HasUnsignedDigitsIfOk}
use Rattle.std.specs.declared.num.ParseIntError.{ParseIntError}
use Rattle.rsx_script.proofs.Digits.{unsigned_is}
use Rattle.rsx_script.proofs.numbers.number_u32.Goals as goal

pub returns : goal.returns
returns c =
    unsigned_is {E = ParseIntError} 32 (λ (bs : List ℕ) (r : Result ℕ ParseIntError). ParsesUnsigned 32 10 bs r × ExplainsUnsignedError 10 bs r × HasUnsignedDigitsIfOk bs r) (λ bs r h. h.0) c.args.word.now c.number_of.result c.number_of.ensures
