use Rattle.std.proofs.Common.{◌<◌, inl, inr, length, rules}
use Rattle.rsx_graph_moves.specs.IdleSet.{IsApart, IsIn}
use Rattle.rsx_graph_moves.proofs.IdleSets.{found_set, found_there}
use Rattle.rsx_graph_moves.proofs.idle_set.IdleSet.set_apart.Goals as goal

pub returns-then-at-lt-MOST_HUBS-clause-idle : goal.returns-then-at-lt-MOST_HUBS-clause-idle
unfolding IsIn
returns-then-at-lt-MOST_HUBS-clause-idle c = λ i. (λ has. has, λ had. had)

pub returns-then-at-lt-MOST_HUBS-clause-apart : goal.returns-then-at-lt-MOST_HUBS-clause-apart
unfolding IsApart
returns-then-at-lt-MOST_HUBS-clause-apart c = λ h i known.
    let apart = c.args.self.now.apart in
    let within : c.args.hub.0 < length apart = search rules in
    elim (found_set apart c.args.hub.0 h i c.insert.new.self known.2) [
      | inl here ↦ elim ((c.insert.ensures i).0 here.1) [
        | inl old ↦ inl (known.0, known.1, found_there apart c.args.hub.0 h i _ within here.0 old)
        | inr new ↦ inr (here.0, new.0)
      ]
      | inr other ↦ inl (known.0, known.1, other.1)
    ]
