-- An operator over what was built and a chain.
use Rattle.std.proofs.Common.{◌≡◌, Option, Some, None, Result, Ok, Err, Box, Global, refl, sym, subst, ◌∙◌}
use Rattle.rsx_types.specs.declared.fault.NoMemory.{NoMemory}
use Rattle.rsx_model.specs.declared.expr.Expr.{Expr}
use Rattle.rsx.specs.Flow.{Root, IsBoxed, Makes, boxed_of, both}

-- a refusal now is allowed whatever was there
refused_now : {A T : Type 0} (make : A → Root T (Expr T)) (o : Option A) → Makes make o None
refused_now make (Some x) = tt
refused_now make None = refl

pub over_both : {T B : Type 0} (make : Expr T × B → Root T (Expr T)) (o : Option (Expr T)) (boxed : Result (Box (Expr T) Global) NoMemory) (chain chain' : Option B) (made made' : Option (Expr T))
    → IsBoxed o boxed → chain' ≡ chain → Makes make (both (boxed_of boxed) chain') made → made' ≡ made → Makes make (both o chain) made'
over_both {T} {B} make o (Ok b) chain chain' made made' there same makes whole =
    subst (λ (m : Option (Expr T)). Makes make (both o chain) m) (sym whole) (subst (λ (p : Option (Expr T)). Makes make (both p chain) made) (sym there) (subst (λ (c : Option B). Makes make (both (Some b.value) c) made) same makes))
over_both {T} {B} make o (Err e) chain chain' made made' there same makes whole =
    subst (λ (m : Option (Expr T)). Makes make (both o chain) m) (sym (whole ∙ makes)) (refused_now make (both o chain))
