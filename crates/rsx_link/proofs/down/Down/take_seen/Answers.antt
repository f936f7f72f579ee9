use Rattle.std.proofs.Common.{◌≡◌, refl, sym, ap, ◌∙◌, arith}
use Rattle.rsx_link.specs.Ends.{asked_total, items_taken, queued}
use Rattle.rsx_link.specs.Signals.{is_item}
use Rattle.rsx_link.proofs.Items.{ending_seen, none_asked, none_seen, pushed_item}
use Rattle.rsx_link.proofs.down.Down.take_seen.Goals as goal
use Rattle.rsx_link.proofs.down.Down.take_seen.Goals.{then-room-eq0-via-then-room-eq0, then-room-eq0-via-else-room-eq0+then-not-is_item}

pub returns-then-cached_slots-eq0-clause-none : goal.returns-then-cached_slots-eq0-clause-none
returns-then-cached_slots-eq0-clause-none g c = (refl, none_seen c.args.self.now (queued c.args.self.now) (sym c.cached_slots.ensures ∙ c.if-cached_slots-eq0.true))

pub returns-then-room-eq0-clause-none : goal.returns-then-room-eq0-clause-none
returns-then-room-eq0-clause-none g c =
    let d = c.args.self.now in (
      refl,
      elim c.then-room-eq0.branch [
        | then-room-eq0-via-then-room-eq0 w ↦
            let counts = d.counts in
            let asks = d.asks in
            let covered = d.demand.covered in
            let room = c.room.ensures in
            let none = w.if-room-eq0.true in
            let same : items_taken d ≡ asked_total d = omega (arith, counts, asks, covered, room, none) in
            none_asked d (queued d) same
        | then-room-eq0-via-else-room-eq0+then-not-is_item w ↦ ending_seen d w.peek_known.result.now (queued d) w.peek_known.ensures (sym w.is_item.ensures ∙ w.if-not-is_item.true)
      ],
    )

pub invariant_of-self-clause-counts : goal.invariant_of-self-clause-counts
invariant_of-self-clause-counts g c =
    let taken = c.in-Next.ensures.received in
    let old = c.args.self.now.counts in
    let spent = c.spend.ensures.sent in
    let more = pushed_item _ _ _ taken.0 refl in
    omega arith
