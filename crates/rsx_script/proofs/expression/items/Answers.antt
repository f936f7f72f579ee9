use Rattle.std.proofs.Common.{◌≡◌, ◌++◌, ◌∷◌, [], Ok, ap, ◌∙◌, arith, rules}
use Rattle.std.proofs.lemmas.Result.{err_from_is_err_and}
use Rattle.rsx_demo.specs.declared.val.Val.TheVariants as is
use Rattle.rsx_script.specs.Reading.{left}
use Rattle.rsx_script.specs.Expressions.{items_at}
use Rattle.rsx_script.proofs.Lists.{items_refused, items_done, items_more}
use Rattle.rsx_script.proofs.expression.items.Goals as goal

pub returns-in_err-item-clause-word : goal.returns-in_err-item-clause-word
returns-in_err-item-clause-word c =
    let p = err_from_is_err_and c.from_residual.result c.from_residual.ensures.1 in
    rw (p.1, p.2) (λ _. items_refused c.loop-items.items.items (left c.loop-items.words) (items_at (left c.args.words.now)) c.in_err-item.field-0.0 c.loop-items.invariant.read c.in_err-item.ensures.word)

pub returns-in-None-clause-word : goal.returns-in-None-clause-word
returns-in-None-clause-word c =
    items_done c.loop-items.items.items (left c.loop-items.words) (left c.item.new.words) (items_at (left c.args.words.now)) c.loop-items.invariant.read (c.in_ok-item.ensures.word ∙ ap (λ o. Ok (o, left c.item.new.words)) c.in-None.is)

pub loop-items-preserved : goal.loop-items-preserved
loop-items-preserved c =
    let n = c.in-Some.number in
    let items = c.loop-items.items.items in
    let more : c.push.new.self.items ≡ items ++ is.Int n ∷ [] = search rules in
    record {
      read = rw more (items_more items n (left c.loop-items.words) (left c.item.new.words) (items_at (left c.args.words.now)) c.loop-items.invariant.read (c.in_ok-item.ensures.word ∙ ap (λ o. Ok (o, left c.item.new.words)) c.in-Some.is));
      most = omega (arith, c.in_ok-item.ensures.most, c.loop-items.invariant.most);
    }
