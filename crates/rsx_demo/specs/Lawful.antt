-- The functions of the demonstration keep the limits of `Ops`: small numbers of faults, and at most 1,024 items of an
-- expansion.
use Rattle.std.specs.Prelude.{◌≡◌, ℕ, ℤ, pos, negsuc, ◌+ℤ◌, ◌+◌, ◌≤◌, ◌==◌, Bool, true, false, List, map, Result, Ok, Err, if◌then◌else◌, nat_lt, neg_ℤ, refl}
use Rattle.std.proofs.Common.{arith}
use Rattle.std.proofs.lemmas.List.FromFn.{length-map-range_with_len}
use Rattle.std.proofs.lemmas.Bool.Decides.{nat_tests}
use Rattle.std.specs.List.{range_with_len}
use Rattle.rsx_types.specs.Meaning.{IsLawful, IsSmallFault, IsSmallList}
use Rattle.rsx_types.specs.declared.limits.TheConstants.{MOST_ITEMS}
use Rattle.rsx_demo.specs.declared.val.Val.{Val}
use Rattle.rsx_demo.specs.declared.val.Val.TheVariants as is
use Rattle.rsx_demo.specs.Data.{data_len}
use Rattle.rsx_demo.specs.Demo.{of_number, both_numbers, number_item, fits_i64, size_of, mapped_by, tested_by, folded_by, keyed_by, expanded_by, up_to, demo_meaning}

-- of two answers, whichever is taken
either_small : {A : Type 0} (b : Bool) (r s : Result A ℕ) → IsSmallFault r → IsSmallFault s → IsSmallFault (if b then r else s)
either_small true r s h k = h
either_small false r s h k = k

either_small_list : {A : Type 0} (b : Bool) (r s : Result (List A) ℕ) → IsSmallList r → IsSmallList s → IsSmallList (if b then r else s)
either_small_list true r s h k = h
either_small_list false r s h k = k

of_number_small : {A : Type 0} (f : ℤ → Result A ℕ) → ((z : ℤ) → IsSmallFault (f z)) → (x : Val) → IsSmallFault (of_number f x)
of_number_small f h (is.Int z) = h z
of_number_small f h (is.List d) = omega arith

of_number_small_list : {A : Type 0} (f : ℤ → Result (List A) ℕ) → ((z : ℤ) → IsSmallList (f z)) → (x : Val) → IsSmallList (of_number f x)
of_number_small_list f h (is.Int z) = h z
of_number_small_list f h (is.List d) = omega arith

both_numbers_small : {A : Type 0} (f : ℤ → ℤ → Result A ℕ) → ((n z : ℤ) → IsSmallFault (f n z)) → (a x : Val) → IsSmallFault (both_numbers f a x)
both_numbers_small f h (is.Int n) x = of_number_small (f n) (h n) x
both_numbers_small f h (is.List d) x = omega arith

number_item_small : (z : ℤ) → IsSmallFault (number_item z)
number_item_small z = either_small (fits_i64 z) (Ok (is.Int z)) (Err 1) tt (omega arith)

size_of_small : (x : Val) → IsSmallFault (size_of x)
size_of_small (is.Int z) = omega arith
size_of_small (is.List d) = number_item_small (pos (data_len d))

mapped_small : (f : ℕ) (x : Val) → IsSmallFault (mapped_by f x)
mapped_small f x =
    either_small (f == 1) _ _ (of_number_small _ (λ z. number_item_small (z +ℤ pos 1)) x)
    (either_small (f == 2) _ _ (of_number_small _ (λ z. number_item_small (z +ℤ z)) x)
    (either_small (f == 3) _ _ (of_number_small _ (λ z. number_item_small (neg_ℤ z)) x)
    (either_small (f == 4) _ _ (size_of_small x) (omega arith))))

tested_small : (f : ℕ) (x : Val) → IsSmallFault (tested_by f x)
tested_small f x =
    either_small (f == 1) _ _ (of_number_small _ (λ z. tt) x)
    (either_small (f == 2) _ _ (of_number_small _ (λ z. tt) x) (omega arith))

folded_small : (f : ℕ) (a x : Val) → IsSmallFault (folded_by f a x)
folded_small f a x =
    either_small (f == 1) _ _ (both_numbers_small (λ n z. number_item (n +ℤ z)) (λ n z. number_item_small (n +ℤ z)) a x)
    (either_small (f == 2) _ _ (both_numbers_small _ (λ n z. tt) a x) (omega arith))

keyed_small : (f : ℕ) (x : Val) → IsSmallFault (keyed_by f x)
keyed_small f x =
    either_small (f == 1) _ _ (of_number_small _ (λ z. tt) x)
    (either_small (f == 2) _ _ (of_number_small _ (λ z. tt) x) (omega arith))

counted_small : (n : ℕ) (b : Bool) → (b ≡ false → n ≤ MOST_ITEMS) → IsSmallList (if b then Err 3 else Ok (map (λ k. is.Int (pos (k + 1))) (range_with_len 0 n)))
counted_small n true h = omega arith
counted_small n false h = omega (arith, h refl, length-map-range_with_len (λ k. is.Int (pos (k + 1))) 0 n)

up_to_small : (z : ℤ) → IsSmallList (up_to z)
up_to_small (pos n) = counted_small n (nat_lt MOST_ITEMS n) (λ h. grind (arith, nat_tests))
up_to_small (negsuc n) = omega arith

expanded_small : (f : ℕ) (x : Val) → IsSmallList (expanded_by f x)
expanded_small f x =
    either_small_list (f == 1) _ _ (of_number_small_list _ up_to_small x)
    (either_small_list (f == 2) _ _ (of_number_small_list _ (λ z. omega arith) x) (omega arith))

pub demo_lawful : IsLawful Val demo_meaning
demo_lawful = record {
  map_fault = mapped_small;
  test_fault = tested_small;
  fold_fault = folded_small;
  key_fault = keyed_small;
  expansion = expanded_small;
}
