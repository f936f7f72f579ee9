-- Whether two items are the same: a test, and that it is true of equal items alone.
use Rattle.std.specs.Prelude.{◌≡◌, Bool, true, false, ◌&&◌, Decides, refl}
use Rattle.std.specs.Ordering.{int_eq}
use Rattle.std.specs.Cmp.{IsEquivalence, decided, signed_Decides, first_so, second_so}
use Rattle.std.proofs.Common.{sym, ap, ◌∙◌}
use Rattle.rsx_demo.specs.declared.val.Val.{Val}
use Rattle.rsx_demo.specs.declared.val.Val.TheVariants as is
use Rattle.rsx_demo.specs.Data.{Data, none, int, nested}

-- the same items, one after another
abbrev pub same_data : Data → Data → Bool
same_data none none = true
same_data none (int w s) = false
same_data none (nested e s) = false
same_data (int z r) none = false
same_data (int z r) (int w s) = int_eq z w && same_data r s
same_data (int z r) (nested e s) = false
same_data (nested d r) none = false
same_data (nested d r) (int w s) = false
same_data (nested d r) (nested e s) = same_data d e && same_data r s

-- the same number, or lists of the same items
abbrev pub same_item : Val → Val → Bool
same_item (is.Int z) (is.Int w) = int_eq z w
same_item (is.Int z) (is.List e) = false
same_item (is.List d) (is.Int w) = false
same_item (is.List d) (is.List e) = same_data d e

both : (a b : Bool) → a ≡ true → b ≡ true → (a && b) ≡ true
both a b h k = ap (λ x. x && b) h ∙ k

data_is : (d e : Data) → same_data d e ≡ true → d ≡ e
data_is none none h = refl
data_is none (int w s) h = cc
data_is none (nested e s) h = cc
data_is (int z r) none h = cc
data_is (int z r) (int w s) h =
    ap (λ n. int n r) ((signed_Decides z w).0 (first_so (int_eq z w) (same_data r s) h))
    ∙ ap (int w) (data_is r s (second_so (int_eq z w) (same_data r s) h))
data_is (int z r) (nested e s) h = cc
data_is (nested d r) none h = cc
data_is (nested d r) (int w s) h = cc
data_is (nested d r) (nested e s) h =
    ap (λ n. nested n r) (data_is d e (first_so (same_data d e) (same_data r s) h))
    ∙ ap (nested e) (data_is r s (second_so (same_data d e) (same_data r s) h))

data_self : (d : Data) → same_data d d ≡ true
data_self none = refl
data_self (int z r) = both (int_eq z z) (same_data r r) ((signed_Decides z z).1 refl) (data_self r)
data_self (nested d r) = both (same_data d d) (same_data r r) (data_self d) (data_self r)

-- the test is true of equal lists, and of no others
pub data_Decides : (d e : Data) → Decides (same_data d e) (d ≡ e)
data_Decides d e = (data_is d e, λ h. ap (same_data d) (sym h) ∙ data_self d)

item_is : (x y : Val) → same_item x y ≡ true → x ≡ y
item_is (is.Int z) (is.Int w) h = ap is.Int ((signed_Decides z w).0 h)
item_is (is.Int z) (is.List e) h = cc
item_is (is.List d) (is.Int w) h = cc
item_is (is.List d) (is.List e) h = ap is.List (data_is d e h)

item_self : (x : Val) → same_item x x ≡ true
item_self (is.Int z) = (signed_Decides z z).1 refl
item_self (is.List d) = data_self d

-- the test is true of equal items, and of no others
pub item_Decides : (x y : Val) → Decides (same_item x y) (x ≡ y)
item_Decides x y = (item_is x y, λ h. ap (same_item x) (sym h) ∙ item_self x)

pub data_equivalence : IsEquivalence same_data
data_equivalence = decided same_data data_Decides

pub item_equivalence : IsEquivalence same_item
item_equivalence = decided same_item item_Decides
