use Rattle.std.proofs.Common.{◌≡◌, ◌-◌, ℕ, List, refl, ap, ◌∙◌, arith}
use Rattle.rsx_tree.specs.Handed.{times}
use Rattle.rsx_graph_state.proofs.Handing.{times_given}
use Rattle.rsx_graph_state.proofs.sending.put_last.Goals as goal

pub returns-then-readers-gt0 : goal.returns-then-readers-gt0
returns-then-readers-gt0 g c = c.push_reserved.ensures.items ∙ times_given c.args.readers c.args.signals.now.items c.args.signal c.args.signal c.if-readers-gt0.true c.requires.copies refl

pub returns-else-readers-gt0 : goal.returns-else-readers-gt0
returns-else-readers-gt0 g c = none c.args.readers c.args.signals.now.items c.args.signal (let few = c.if-readers-gt0.false in omega (arith, few)) c.requires.copies
  where
    none : {A : Type 0} (n : ℕ) (xs : List A) (s : A) → n ≡ 0 → xs ≡ times (n - 1) s → xs ≡ times n s
    none n xs s few e =
        let zero : n - 1 ≡ n = omega (arith, few) in
        e ∙ ap (λ j. times j s) zero
