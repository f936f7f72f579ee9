use Rattle.std.proofs.Common.{◌≡◌, ◌<◌, ◌+◌, ◌-◌, ◌++◌, ◌∷◌, [], length, Ok, ap, ◌∙◌, arith, rules}
use Rattle.std.proofs.lemmas.Result.{err_from_is_err_and}
use Rattle.std.proofs.lemmas.List.{length-append}
use Rattle.rsx_script.specs.Reading.{left, bytes_left}
use Rattle.rsx_script.specs.Expressions.{stages_at}
use Rattle.rsx_script.proofs.Stages.{stages_refused, stages_done, stages_more}
use Rattle.rsx_script.proofs.expression.stages.Goals as goal

pub returns-in_err-chain_stage-clause-word : goal.returns-in_err-chain_stage-clause-word
returns-in_err-chain_stage-clause-word c = λ n h.
    let p = err_from_is_err_and c.from_residual.result c.from_residual.ensures.1 in
    let most = c.loop-stages.invariant.most in
    rw (p.1, p.2) (λ _. stages_refused c.loop-stages.stages.items (n - length c.loop-stages.stages.items) (left c.loop-stages.words) (stages_at n (left c.args.words.now)) c.in_err-chain_stage.field-0.0 (omega arith) (c.loop-stages.invariant.read n h) c.in_err-chain_stage.ensures.word)

pub returns-in-None-clause-word : goal.returns-in-None-clause-word
returns-in-None-clause-word c = λ n h.
    let most = c.loop-stages.invariant.most in
    stages_done c.loop-stages.stages.items (n - length c.loop-stages.stages.items) (left c.loop-stages.words) (left c.chain_stage.new.words) (stages_at n (left c.args.words.now)) (omega arith) (c.loop-stages.invariant.read n h) (c.in_ok-chain_stage.ensures.word ∙ ap (λ o. Ok (o, left c.chain_stage.new.words)) c.in-None.is)

pub loop-stages-preserved : goal.loop-stages-preserved
loop-stages-preserved c =
    let g = c.in-Some.stage in
    let stages = c.loop-stages.stages.items in
    let most = c.loop-stages.invariant.most in
    let more : c.push.new.self.items ≡ stages ++ g ∷ [] = search rules in
    let one_more : length c.push.new.self.items ≡ length stages + 1 = rw more (omega (arith, length-append stages (g ∷ []))) in
    let less : bytes_left c.chain_stage.new.words < bytes_left c.loop-stages.words = search rules in
    record {
      read = λ n h. rw more (stages_more stages g (n - length stages) (n - length (stages ++ g ∷ [])) (left c.loop-stages.words) (left c.chain_stage.new.words) (stages_at n (left c.args.words.now)) (omega arith) (omega (arith, length-append stages (g ∷ []))) (c.loop-stages.invariant.read n h) (c.in_ok-chain_stage.ensures.word ∙ ap (λ o. Ok (o, left c.chain_stage.new.words)) c.in-Some.is));
      most = omega arith;
    }
