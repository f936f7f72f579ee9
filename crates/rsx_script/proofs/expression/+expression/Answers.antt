use Rattle.std.proofs.Common.{◌≡◌, ◌<◌, ◌+◌, ◌-◌, ◌++◌, ◌∷◌, [], ℕ, length, map, true, false, rules, sym, ap, ◌∙◌, arith}
use Rattle.std.proofs.lemmas.Result.{err_from_is_err_and}
use Rattle.std.proofs.lemmas.List.{map_push, length-append}
use Rattle.rsx_script.specs.Reading.{left, bytes_left, closing_at}
use Rattle.rsx_script.specs.Orders.{tree_of}
use Rattle.rsx_script.specs.Expressions.{expression_at, inputs_at}
use Rattle.rsx_script.proofs.Lists.{inputs_behind, inputs_refused, inputs_more, inputs_open, inputs_done}
use Rattle.rsx_script.proofs.expression.+expression.Goals as goal

pub inputs-returns-in_err-input-clause-word : goal.inputs-returns-in_err-input-clause-word
inputs-returns-in_err-input-clause-word t c = λ n h.
    let p = err_from_is_err_and c.from_residual.result c.from_residual.ensures.1 in
    let so_far = map tree_of c.loop-inputs.inputs.items in
    let left_over = n - length c.loop-inputs.inputs.items in
    let most = c.loop-inputs.invariant.most in
    rw (p.1, p.2) (λ some. inputs_refused (expression_at n) so_far left_over (left c.loop-inputs.words) (inputs_at (expression_at n) n (left c.args.words.now)) c.in_err-input.field-0.0 (omega arith) (c.loop-inputs.invariant.read n h) (c.in_err-input.ensures.word n (omega arith) some))

pub inputs-returns-in_err-close-clause-word : goal.inputs-returns-in_err-close-clause-word
inputs-returns-in_err-close-clause-word t c = λ n h.
    let p = err_from_is_err_and c.from_residual-in_err-close.result c.from_residual-in_err-close.ensures.1 in
    let so_far = map tree_of c.loop-inputs.inputs.items in
    let left_over = n - length c.loop-inputs.inputs.items in
    let most = c.loop-inputs.invariant.most in
    let word = c.in_ok-input.ensures.word n (omega arith) in
    let closed : c.is_open.result ≡ false = search rules in
    rw (p.1, p.2) (λ _. inputs_open (expression_at n) so_far left_over (left c.loop-inputs.words) (left c.expression.new.words) (tree_of c.in_ok-input.input) (inputs_at (expression_at n) n (left c.args.words.now)) c.in_err-close.field-0.0 (omega arith) (c.loop-inputs.invariant.read n h) word (sym c.is_open.ensures.is ∙ closed) (ap closing_at (sym c.is_open.ensures.same) ∙ c.in_err-close.ensures.word))

pub inputs-returns-then-not-is_open-clause-word : goal.inputs-returns-then-not-is_open-clause-word
inputs-returns-then-not-is_open-clause-word t c = λ n h.
    let items = c.loop-inputs.inputs.items in
    let input = c.in_ok-input.input in
    let most = c.loop-inputs.invariant.most in
    let word = c.in_ok-input.ensures.word n (omega arith) in
    let closed : c.is_open.result ≡ false = search rules in
    let more : map tree_of c.push.new.self.items ≡ map tree_of items ++ tree_of input ∷ [] = rw c.in_ok-push.ensures.items (map_push tree_of items input) in
    rw more (inputs_done (expression_at n) (map tree_of items) (n - length items) (left c.loop-inputs.words) (left c.expression.new.words) (left c.close.new.self) (tree_of input) (inputs_at (expression_at n) n (left c.args.words.now)) (omega arith) (c.loop-inputs.invariant.read n h) word (sym c.is_open.ensures.is ∙ closed) (ap closing_at (sym c.is_open.ensures.same) ∙ c.in_ok-close.ensures.word))

pub inputs-loop-inputs-preserved : goal.inputs-loop-inputs-preserved
inputs-loop-inputs-preserved t c =
    let items = c.loop-inputs.inputs.items in
    let input = c.in_ok-input.input in
    let most = c.loop-inputs.invariant.most in
    let open_next : c.is_open.result ≡ true = search rules in
    let more : map tree_of c.push.new.self.items ≡ map tree_of items ++ tree_of input ∷ [] = rw c.in_ok-push.ensures.items (map_push tree_of items input) in
    let one_more : length c.push.new.self.items ≡ length items + 1 = rw c.in_ok-push.ensures.items (omega (arith, length-append items (input ∷ []))) in
    let read : (n : ℕ) → bytes_left c.args.words.now < n → inputs_behind (map tree_of c.push.new.self.items) (inputs_at (expression_at n) (n - length c.push.new.self.items) (left c.is_open.new.self)) ≡ inputs_at (expression_at n) n (left c.args.words.now) = λ n h.
    rw more (ap (λ l. inputs_behind (map tree_of items ++ tree_of input ∷ []) (inputs_at (expression_at n) (n - length c.push.new.self.items) l)) c.is_open.ensures.same
    ∙ inputs_more (expression_at n) (map tree_of items) (n - length items) (n - length c.push.new.self.items) (left c.loop-inputs.words) (left c.expression.new.words) (tree_of input) (inputs_at (expression_at n) n (left c.args.words.now)) (omega arith) (omega (arith, c.in_ok-input.ensures.less)) (c.loop-inputs.invariant.read n h) (c.in_ok-input.ensures.word n (omega arith)) (sym c.is_open.ensures.is ∙ open_next)) in
    record { read = read; most = omega (arith, c.in_ok-input.ensures.less, c.is_open.ensures.most) }
