-- The text of a list, item by item.
use Rattle.std.proofs.Common.{◌≡◌, List, [], ◌∷◌, ◌++◌, length, drop, refl, sym, ap, ◌∙◌, arith}
use Rattle.std.specs.Prelude.{codes}
use Rattle.std.specs.List.{flat_map}
use Rattle.std.specs.Fmt.{signed_decimal}
use Rattle.rsx_demo.specs.declared.val.Val.{Val}
use Rattle.rsx_demo.specs.declared.val.Val.TheVariants as is
use Rattle.rsx_demo.specs.Items.{data_of}
use Rattle.rsx_demo.specs.Texts.{spaced_text, data_text, item_text}
use Rattle.rsx_demo.specs.Data.{Data}

pub each_spaced : (xs : List Val) → spaced_text (data_of xs) ≡ flat_map (λ v. codes " " ++ item_text v) xs
each_spaced [] = refl
each_spaced (is.Int z ∷ xs) = ap (λ r. codes " " ++ (signed_decimal z ++ r)) (each_spaced xs)
each_spaced (is.List d ∷ xs) = ap (λ r. codes " " ++ (item_text (is.List d) ++ r)) (each_spaced xs)

-- the text of a list of one item or more
pub list_text : (d : Data) (items others : List Val) (first : Val) → data_of items ≡ d → items ≡ first ∷ others → item_text first ++ flat_map (λ v. codes " " ++ item_text v) others ≡ data_text d
list_text d items others first h e =
    sym (ap data_text (sym h ∙ ap data_of e) ∙ ap (drop 1) (each_spaced (first ∷ others)))
