use Rattle.std.proofs.Common.{◌≡◌, true, refl, sym, ◌∙◌, rules}
use Rattle.rsx_types.specs.declared.signal.Signal.TheVariants.{Next}
use Rattle.rsx_sources.specs.declared.machine.Front.TheVariants.{Item}
use Rattle.rsx_queued.specs.declared.output.Output.TheVariants.{Waiting}
use Rattle.rsx_merging.specs.Concat.{concat_takes}
use Rattle.rsx_merging.specs.declared.concat_node.ConcatNode.{ConcatNode}
use Rattle.rsx_merging.proofs.Concats.{item_taken}
use Rattle.rsx_merging.proofs.Turns.{takeable, its_turn, item_counts}
use Rattle.rsx_merging.proofs.concat_node.ConcatNodeMachine.pass.Goals as goal

pub returns-clause-passed : goal.returns-clause-passed
returns-clause-passed g c =
    let n = c.args.self.now in
    let i = c.args.input in
    let takes : concat_takes n i Item ≡ true = sym c.can_take.ensures ∙ c.if-not-can_take.false in
    let t = takeable n i Item takes in
    let mid : ConcatNode g.row.T.Denot = record { endings = n.endings; output = Waiting (Next c.args.item); earlier = n.earlier; current = c.saturating_total-counted.result } in (
      mid,
      record {
        enabled = takes;
        value = item_taken n.output mid.output n.endings.items i c.args.item t.empty refl (its_turn n i takes) t.open_there;
        notes = refl;
        counts = item_counts n mid i c.args.item t.empty refl refl refl c.saturating_total-counted.ensures (its_turn n i takes);
        goes_on = refl;
      },
      search rules,
    )
