use Rattle.std.proofs.Common.{◌≡◌, refl, rules}
use Rattle.std.proofs.Math.ListN.{replicate}
use Rattle.rsx_types.specs.declared.signal.Ending.TheVariants.{Open}
use Rattle.rsx_merging.proofs.Concats.{fresh_concat}
use Rattle.rsx_merging.proofs.Turns.{fresh_turn}
use Rattle.rsx_merging.proofs.concat_node.ConcatNode.new.Goals as goal

pub returns-clause-fresh : goal.returns-clause-fresh
returns-clause-fresh g c m =
    let all : c.loop.endings.items ≡ replicate c.args.inputs Open = search rules in
    fresh_concat c.ending_out-output.result c.loop.endings.items c.args.inputs (search rules) all

pub returns-clause-counted : goal.returns-clause-counted
returns-clause-counted g c some =
    let all : c.loop.endings.items ≡ replicate c.args.inputs Open = search rules in
    fresh_turn _ c.args.inputs all (search rules) refl refl some
