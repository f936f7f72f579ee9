use Rattle.std.proofs.Common.{◌∙◌, ap, sym}
use Rattle.rsx_pipe.proofs.Signals.{some_same}
use Rattle.rsx_pipe.specs.Part.{evaluated}
use Rattle.rsx_pipe.specs.Tree.{notes_of}
use Rattle.rsx_types.specs.Stream.{signals_then}
use Rattle.rsx_subscriber.proofs.replay.equal_records_give_equal_values.Goals as goal

pub returns : goal.returns
returns g c = λ m hubs a b p q v w expressions joins notes x y.
    let same =
    ap (λ e. evaluated m hubs p.joins e (notes_of g.N.Machine a.part.tree)) expressions
    ∙ (ap (λ j. evaluated m hubs j q.expression (notes_of g.N.Machine a.part.tree)) joins ∙ ap (evaluated m hubs q.joins q.expression) notes) in
    some_same (signals_then p.received v) (signals_then q.received w) (sym x ∙ (same ∙ y))
