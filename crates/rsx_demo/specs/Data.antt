-- What a list item holds: numbers and lists, one after another.
use Rattle.std.specs.Prelude.{◌≡◌, ℕ, ℤ, ◌+◌, List, [], ◌∷◌, ◌++◌, Option, Some, None, refl}
use Rattle.std.specs.Coded.{Coded, code_by, coded_list, coded_option, coded_ℤ}
use Rattle.std.proofs.Common.{ap, sym, ◌∙◌, append_assoc}
use Rattle.std.proofs.lemmas.List.{append-nil}

pub data Data : Type 0 where
  none : Data
  int : ℤ → Data → Data
  nested : Data → Data → Data

abbrev pub data_size : Data → ℕ
data_size none = 0
data_size (int z r) = 1 + data_size r
data_size (nested d r) = 1 + data_size d + data_size r

-- how many items a list has
abbrev pub data_len : Data → ℕ
data_len none = 0
data_len (int z r) = 1 + data_len r
data_len (nested d r) = 1 + data_len r

-- ---- the code: a list of tokens, read from its end with a stack

abbrev pub Token : Type 0
Token = Option (Option ℤ)

abbrev pub written : Data → List Token
written none = None ∷ []
written (int z r) = Some (Some z) ∷ written r
written (nested d r) = Some None ∷ (written d ++ written r)

abbrev pub pushed : Token → List Data → List Data
pushed None st = none ∷ st
pushed (Some (Some z)) [] = []
pushed (Some (Some z)) (d ∷ st) = int z d ∷ st
pushed (Some None) [] = []
pushed (Some None) (d ∷ []) = []
pushed (Some None) (d ∷ r ∷ st) = nested d r ∷ st

abbrev pub stack_of : List Token → List Data
stack_of [] = []
stack_of (t ∷ ts) = pushed t (stack_of ts)

abbrev pub top : List Data → Data
top [] = none
top (d ∷ st) = d

pub stack_of-written : (d : Data) (ts : List Token) → stack_of (written d ++ ts) ≡ d ∷ stack_of ts
stack_of-written none ts = refl
stack_of-written (int z r) ts = ap (pushed (Some (Some z))) (stack_of-written r ts)
stack_of-written (nested d r) ts =
    ap (pushed (Some None)) (ap stack_of (append_assoc (written d) (written r) ts) ∙ stack_of-written d (written r ++ ts) ∙ ap (λ st. d ∷ st) (stack_of-written r ts))

pub read_back : (d : Data) → top (stack_of (written d)) ≡ d
read_back d = ap (λ ts. top (stack_of ts)) (sym (append-nil (written d))) ∙ ap top (stack_of-written d [])

abbrev pub data_code : Coded Data
data_code = code_by (List Token) (coded_list (coded_option (coded_option coded_ℤ))) written (λ ts. top (stack_of ts)) read_back
