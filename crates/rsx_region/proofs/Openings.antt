-- A piece at its opening.
use Rattle.std.proofs.Common.{◌≡◌, ℕ, [], refl, sym, subst, arith}
use Rattle.std.proofs.lemmas.List.{append-nil}
use Rattle.rsx_sources.specs.declared.machine.Machine.{Ghosts as Machine}
use Rattle.rsx_tree.specs.Reads.{readings}
use Rattle.rsx_pipe.specs.Tree.{IsBalanced}
use Rattle.rsx_link.specs.Ends.{sent_signals}
use Rattle.rsx_rooted.proofs.Moves.{flows_still}
use Rattle.rsx_rooted.specs.Local.{Begins}
use Rattle.rsx_region.specs.Piece.{Opens}
use Rattle.rsx_region.proofs.Inlets.{go_same}
use Rattle.rsx_region.proofs.ClearBefore.{clear_still}

pub opens : {M T : Type 0} (b : Machine M T) → Opens b
opens b m taken part up live step reads = record {
  out = [];
  sent = sym (append-nil (sent_signals up));
  flow = flows_still b m (Begins taken) part.tree;
  step = step;
  reading = go_same (readings b part.tree);
  crosses = refl;
  live = λ _. record {
    unended = tt;
    balance = λ before is h. let same : before ≡ part.root.demand.sent = omega (arith, is) in let B : ℕ → Type 0 = λ k. IsBalanced b part.tree k in subst B same h;
    reads = reads;
    clear = clear_still b part.tree;
  };
  ended = λ e. let l = live in cc;
  closed = λ e. let l = live in cc;
}
