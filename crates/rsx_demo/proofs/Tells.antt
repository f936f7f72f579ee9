-- An answer that is right both ways is the test's.
use Rattle.std.proofs.Common.{◌≡◌, Bool, true, false, refl, sym}
use Rattle.std.specs.Prelude.{◌≢◌, Decides}

pub tells : {A : Type 0} (x y : A) (answer test : Bool) → Decides test (x ≡ y) → (answer ≡ true → x ≡ y) → (answer ≡ false → x ≢ y) → answer ≡ test
tells x y true test decides same other = sym (decides.1 (same refl))
tells x y false true decides same other = absurd (other refl (decides.0 refl))
tells x y false false decides same other = refl
