use Rattle.std.proofs.Common.{◌≡◌, ◌<◌, ◌∙◌, ap, length, refl, arith}
use Rattle.std.proofs.lemmas.Option.{slice_get_read}
use Rattle.rsx_graph_moves.specs.Pictures.{tree_looks}
use Rattle.rsx_graph_moves.proofs.picturing.picture.Goals as goal

pub returns-in-Ok-clause-looks : goal.returns-in-Ok-clause-looks
returns-in-Ok-clause-looks g c =
    let subs = c.args.subscriptions.now in
    let off = c.if-at-subscriptions.false in
    let within : c.args.sub.0 < length subs = omega (arith, off) in
    let s = c.index-subscriptions-at.result in
    let long : c.len-queued.result ≡ length s.queue = c.len-queued.ensures ∙ ap length c.queue.ensures in
    let r = c.rooted-rooted.result.now in (
      s,
      slice_get_read subs (length subs) c.args.sub.0 s refl within c.index-subscriptions-at.is,
      c.in-Ok.ensures
          ∙ (ap (λ k. tree_looks g.N.Machine g.N.Nodes k r.root r.tree) long
          ∙ ap (λ t. tree_looks g.N.Machine g.N.Nodes (length s.queue) t.root t.tree) (c.rooted-rooted.ensures ∙ c.part.ensures)),
    )
