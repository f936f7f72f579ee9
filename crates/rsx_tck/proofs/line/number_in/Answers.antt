use Rattle.std.proofs.Common.{◌≡◌, ◌<◌, ◌+◌, ◌*◌, length, get_or, take, true, arith, sym, refl, ap, ◌∙◌}
use Rattle.std.specs.Str.Parse.{digits_value}
use Rattle.std.specs.Char.{is_ascii_digit}
use Rattle.std.proofs.lemmas.List.{take_all}
use Rattle.std.specs.Str.{all_ascii_digits}
use Rattle.std.proofs.lemmas.Bool.Decides.{nat_tests}
use Rattle.rsx_tck.proofs.Numbers.{ascii_value, digits_more, value_more, number_none_empty, number_none_digit, number_none_big, number_some}
use Rattle.rsx_tck.proofs.line.number_in.Goals as goal

pub returns-then-is_empty-clause-value : goal.returns-then-is_empty-clause-value
returns-then-is_empty-clause-value c = sym (number_none_empty c.args.most c.args.text.now (grind (arith, nat_tests)))

pub returns-then-not-is_ascii_digit-clause-value : goal.returns-then-not-is_ascii_digit-clause-value
returns-then-not-is_ascii_digit-clause-value c =
    sym (number_none_digit c.args.most c.args.text.now c.loop-b.b-index (get_or c.args.text.now c.loop-b.b-index 0) c.loop-b-test.true refl (sym c.is_ascii_digit.ensures.value ∙ c.if-not-is_ascii_digit.true))

pub returns-then-value-most-clause-value : goal.returns-then-value-most-clause-value
returns-then-value-most-clause-value c =
    let is_digit : is_ascii_digit (get_or c.args.text.now c.loop-b.b-index 0) ≡ true = sym c.is_ascii_digit.ensures.value ∙ c.if-not-is_ascii_digit.false in
    let small = (ascii_value (get_or c.args.text.now c.loop-b.b-index 0) is_digit).1 in
    let is : c.loop-b.value * 10 + c.from-digit.result ≡ digits_value 10 (take (c.loop-b.b-index + 1) c.args.text.now) =
    value_more c.args.text.now c.loop-b.b-index c.from-digit.result c.loop-b.value c.loop-b-test.true is_digit c.from-digit.ensures c.loop-b.invariant.value-is in
    sym (number_none_big c.args.most c.args.text.now (c.loop-b.b-index + 1) (omega (arith, small, is, c.requires, c.if-value-most.true, c.from-digit.ensures)))

pub loop-b-preserved : goal.loop-b-preserved
loop-b-preserved c =
    let is_digit : is_ascii_digit (get_or c.args.text.now c.loop-b.b-index 0) ≡ true = sym c.is_ascii_digit.ensures.value ∙ c.if-not-is_ascii_digit.false in
    let small = (ascii_value (get_or c.args.text.now c.loop-b.b-index 0) is_digit).1 in
    record {
      digits = digits_more c.args.text.now c.loop-b.b-index (get_or c.args.text.now c.loop-b.b-index 0) c.loop-b-test.true refl c.loop-b.invariant.digits is_digit;
      value-is = value_more c.args.text.now c.loop-b.b-index c.from-digit.result c.loop-b.value c.loop-b-test.true is_digit c.from-digit.ensures c.loop-b.invariant.value-is;
      small = omega (arith, small, c.requires, c.if-value-most.false, c.from-digit.ensures);
    }

pub returns-clause-value : goal.returns-clause-value
returns-clause-value c =
    let all : take c.loop-b.b-index c.args.text.now ≡ c.args.text.now = take_all c.loop-b.b-index c.args.text.now (omega (arith, c.loop-b-test.false)) in
    let is : c.loop-b.value ≡ digits_value 10 c.args.text.now = c.loop-b.invariant.value-is ∙ ap (digits_value 10) all in
    let some : 0 < length c.args.text.now = grind (arith, nat_tests) in
    rw (number_some c.args.most c.args.text.now some (sym (ap all_ascii_digits all) ∙ c.loop-b.invariant.digits) (omega (arith, is, c.loop-b.invariant.small)), is) refl
