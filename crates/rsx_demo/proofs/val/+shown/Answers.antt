use Rattle.std.proofs.Common.{◌≡◌, ℕ, length, arith, ◌++◌, ◌∷◌, take, refl, sym, ap, ◌∙◌}
use Rattle.std.proofs.lemmas.Grind.{put_two}
use Rattle.std.proofs.Math.Seq.{take-length}
use Rattle.std.specs.Global.{Vec}
use Rattle.rsx_demo.specs.declared.val.Val.{Val}
use Rattle.std.specs.Prelude.{codes}
use Rattle.std.specs.List.{flat_map}
use Rattle.rsx_demo.specs.Texts.{item_text}
use Rattle.rsx_demo.specs.Items.{data_of}
use Rattle.rsx_demo.proofs.Texts.{list_text}
use Rattle.rsx_demo.proofs.val.+shown.Goals as goal

pub ValsDisplay::fmt-returns-clause-writes : goal.ValsDisplay::fmt-returns-clause-writes
ValsDisplay::fmt-returns-clause-writes g t c = λ plain _.
    let items = c.deref.result.now.items in
    let others = c.in-Some.others.now in
    let one = c.in_ok-write.ensures.writes plain refl in
    let more = c.loop-other.invariant one.plain in
    let there : items ≡ c.in-Some.first.now ∷ others = sym c.as_slice.ensures.value ∙ c.in-Some.ensures.cases.0 in
    let seen : c.loop-other.other-index ≡ length others = omega arith in
    let whole : take c.loop-other.other-index others ≡ others = ap (λ (k : ℕ). take k others) seen ∙ take-length others in
    let same : data_of items ≡ c.args.self.now = ap (λ (v : Vec Val). data_of v.items) c.deref.ensures ∙ c.self.view_is in
    put_two g.W.Write.write_str_gives _ _ _ _ _ _ one more (ap (λ l. item_text c.in-Some.first.now ++ flat_map (λ v. codes " " ++ item_text v) l) whole ∙ list_text c.args.self.now items others c.in-Some.first.now same there)
