use Rattle.std.proofs.Common.{arith, ◌∙◌, ap}
use Rattle.rsx_link.proofs.Keeps.{joins}
use Rattle.rsx_link.proofs.Closing.{Tells, tells}
use Rattle.rsx_link.proofs.link.Link.close.Goals as goal

pub join_seat-requires : goal.join_seat-requires
join_seat-requires g c = let sized = c.args.self.sized in (c.requires.1.0, c.requires.0.0, c.args.up.alone.1, omega arith, joins _ _ _ _)

pub join_seat-requires-2 : goal.join_seat-requires-2
join_seat-requires-2 g c = let sized = c.args.self.sized in (c.join_seat.ensures.0 ∙ c.requires.1.0, c.requires.2, c.args.cancel.role.1, omega arith, joins _ _ _ _)

pub returns-clause-closes : goal.returns-clause-closes
returns-clause-closes g c =
    let t : Tells c.args.down.seat.me.0 c.args.up.seat.me.0 c.args.cancel.seat.me.0 c.word-asked.result c.word-flags.result =
    tells _ _ _ _ _ _ _ _ _ _ c.args.down.alone.0 c.args.down.never_cancels c.args.up.never_cancels (ap (λ m. m.0) c.join_seat.ensures.2) (ap (λ m. m.0) c.join_seat-2.ensures.2)
    c.close_with-closed.ensures.values.2 c.word-asked.ensures c.word-flags.ensures in
    record {
      signals = cc;
      asked = t.asked;
      seen = t.seen;
      refused = t.refused;
      refusal_seen = t.refusal_seen;
      cancelled = t.cancelled;
      whole = t.whole;
      cancel_seen = t.cancel_seen;
    }
