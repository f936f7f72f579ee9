-- The numbers that words write, of each type: decimal digits, with `-` in front where the type has negative numbers.
use Rattle.std.specs.Prelude.{◌≡◌, ◌≢◌, ℕ, ◌^◌, ℤ, pos, neg_ℤ, Bool, ◌&&◌, ◌==◌, nat_lt, nat_le, List, [], ◌∷◌, length, slice_index, Option, Some, None, Result, Ok, Err, ◌⊎◌, if◌then◌else◌}
use Rattle.std.specs.Str.{all_ascii_digits}
use Rattle.std.specs.Str.Parse.{digits_value}

-- one decimal digit or more
abbrev pub is_numeral : List ℕ → Bool
is_numeral word = nat_lt 0 (length word) && all_ascii_digits word

-- the number that the digits write, below 2 to this power
unfoldable pub unsigned_of : ℕ → List ℕ → Option ℕ
unsigned_of bits word = if is_numeral word && nat_lt (digits_value 10 word) (2 ^ bits) then Some (digits_value 10 word) else None

-- the number of type i64 that digits behind a `-` write
abbrev pub negative_of : List ℕ → Option ℤ
negative_of digits = if is_numeral digits && nat_le (digits_value 10 digits) (2 ^ 63) then Some (neg_ℤ (pos (digits_value 10 digits))) else None

-- and that digits write which stand alone
abbrev pub positive_of : List ℕ → Option ℤ
positive_of digits = if is_numeral digits && nat_lt (digits_value 10 digits) (2 ^ 63) then Some (pos (digits_value 10 digits)) else None

-- the number of type i64 that a word writes
unfoldable pub signed_of : List ℕ → Option ℤ
signed_of [] = None
signed_of (b ∷ bs) = if b == 45 then negative_of bs else positive_of (b ∷ bs)

-- the numbers of type u8, u32 and u64
abbrev pub u8_of : List ℕ → Option ℕ
u8_of word = unsigned_of 8 word

abbrev pub u32_of : List ℕ → Option ℕ
u32_of word = unsigned_of 32 word

abbrev pub u64_of : List ℕ → Option ℕ
u64_of word = unsigned_of 64 word

-- what `parse` gives, where a word doesn't begin with a `+`; none for a word that does
abbrev pub ParsedWithoutPlus : {A E : Type 0} → (List ℕ → Result A E → Type 0) → List ℕ → Option A → Type 0
ParsedWithoutPlus {A} {E} gives word None = (slice_index word 0 ≡ 43) ⊎ ((slice_index word 0 ≢ 43) × ((e : E) × gives word (Err e)))
ParsedWithoutPlus gives word (Some number) = (slice_index word 0 ≢ 43) × gives word (Ok number)
