-- The first place of a byte, and texts without strange bytes.
use Rattle.std.proofs.Common.{◌≡◌, ℕ, ◌<◌, Bool, true, false, List, length, get_or, None, refl, arith}
use Rattle.std.specs.Prelude.{not}
use Rattle.std.specs.Char.{is_ascii_graphic}
use Rattle.std.specs.List.{position, position_or_len}
use Rattle.std.specs.Str.{IsUtf8}
use Rattle.std.proofs.lemmas.Bool.Decides.{nat_tests}
use Rattle.std.proofs.lemmas.List.Sums.{prefix_len_passes}
use Rattle.std.proofs.lemmas.Str.{IsUtf8-from_ascii}
use Rattle.std.proofs.lemmas.Str.Ascii.{IsAscii-from_reads}
use Rattle.rsx_types.proofs.Places.{position_none}
use Rattle.rsx_script.specs.Words.{is_strange}

twice_not : (b : Bool) → not (not b) ≡ true → b ≡ true
twice_not true e = refl
twice_not false e = e

graphic_below : (b : ℕ) → is_ascii_graphic b ≡ true → b < 128
graphic_below b e = grind (arith, nat_tests)

pub written_is_utf8 : (bs : List ℕ) → position is_strange bs ≡ None → IsUtf8 bs
written_is_utf8 bs e =
    let whole : length bs ≡ position_or_len is_strange bs = position_none is_strange bs e in
    IsUtf8-from_ascii bs (IsAscii-from_reads bs (length bs) (omega arith) (λ k h.
    let near : k < position_or_len is_strange bs = omega arith in
    graphic_below (get_or bs k 0) (twice_not (is_ascii_graphic (get_or bs k 0)) (prefix_len_passes (λ x. not (is_strange x)) bs k 0 near))))
