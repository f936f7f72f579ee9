use Rattle.std.proofs.Common.{◌≡◌, ◌∙◌, ℕ, Bool, false, length, min, refl, ap, subst, sym, true}
use Rattle.std.specs.Prelude.{IfNone, IfSome}
use Rattle.std.proofs.lemmas.Option.{slice_get_read}
use Rattle.rsx_pipe.specs.Feeding.{next_out}
use Rattle.rsx_pipe.proofs.Signals.{some_same}
use Rattle.rsx_tree.specs.Handed.{is_room_for}
use Rattle.rsx_graph_state.specs.Publishing.{all_have_room, all_readers}
use Rattle.rsx_graph_state.specs.Sending.{can_feed}
use Rattle.rsx_graph_state.proofs.Accepted.{none_read}
use Rattle.rsx_graph_state.proofs.Sends.{feed_there, next_ready, next_refused, nothing_next}
use Rattle.rsx_graph_state.proofs.sending.sent_readers.Goals as goal

pub returns-in-None-clause-none : goal.returns-in-None-clause-none
returns-in-None-clause-none g c = λ m.
    let fs = c.args.feeds.now in
    let xs = c.args.subscriptions.now in
    let f = c.index-feeds-at.result in
    sym (feed_there g.N.Machine m c.args.at f c.args.hub.now fs xs false (slice_get_read fs (length fs) c.args.at f refl c.requires.within c.index-feeds-at.is)
    (nothing_next (next_out g.N.Machine m f.part) c.args.hub.now (all_have_room g.N.Machine f.hub fs xs) (sym c.in-None.is ∙ c.next_out.ensures m)))

pub returns-then-not-takes-clause-none : goal.returns-then-not-takes-clause-none
returns-then-not-takes-clause-none g c = λ m.
    let fs = c.args.feeds.now in
    let xs = c.args.subscriptions.now in
    let f = c.index-feeds-at.result in
    sym (feed_there g.N.Machine m c.args.at f c.args.hub.now fs xs false (slice_get_read fs (length fs) c.args.at f refl c.requires.within c.index-feeds-at.is)
    (next_refused (next_out g.N.Machine m f.part) c.in-Some.front c.args.hub.now (all_have_room g.N.Machine f.hub fs xs) c.takes.result (sym c.in-Some.is ∙ c.next_out.ensures m) c.takes.ensures c.if-not-takes.true))

pub readers_for-requires : goal.readers_for-requires
readers_for-requires g c =
    let fs = c.args.feeds.now in
    let f = c.index-feeds-at.result in
    record { unread = none_read g.N.Machine c.from.result f.hub c.args.skipped.now c.args.subscriptions.now c.from.ensures (c.requires.unread f (slice_get_read fs (length fs) c.args.at f refl c.requires.within c.index-feeds-at.is)) }

pub returns-clause-enabled : goal.returns-clause-enabled
returns-clause-enabled g c = λ m.
    let fs = c.args.feeds.now in
    let xs = c.args.subscriptions.now in
    let f = c.index-feeds-at.result in
    let P : Bool → Type 0 = λ b. IfSome c.readers_for.result (λ n. b ≡ true) in
    let there = slice_get_read fs (length fs) c.args.at f refl c.requires.within c.index-feeds-at.is in
    subst P (feed_there g.N.Machine m c.args.at f c.args.hub.now fs xs (can_feed g.N.Machine m f c.args.hub.now fs xs) there refl)
    (next_ready P (next_out g.N.Machine m f.part) c.in-Some.front c.args.hub.now (all_have_room g.N.Machine f.hub fs xs) c.takes.result (sym c.in-Some.is ∙ c.next_out.ensures m) c.takes.ensures c.if-not-takes.false
    (λ s e. let Q : ℕ → Type 0 = λ h. P (is_room_for s (all_have_room g.N.Machine h fs xs)) in subst Q c.from.ensures (c.readers_for.ensures.enabled s e)))

pub returns-clause-none : goal.returns-clause-none
returns-clause-none g c = λ m.
    let fs = c.args.feeds.now in
    let xs = c.args.subscriptions.now in
    let f = c.index-feeds-at.result in
    let P : Bool → Type 0 = λ b. IfNone c.readers_for.result (b ≡ false) in
    let there = slice_get_read fs (length fs) c.args.at f refl c.requires.within c.index-feeds-at.is in
    subst P (feed_there g.N.Machine m c.args.at f c.args.hub.now fs xs (can_feed g.N.Machine m f c.args.hub.now fs xs) there refl)
    (next_ready P (next_out g.N.Machine m f.part) c.in-Some.front c.args.hub.now (all_have_room g.N.Machine f.hub fs xs) c.takes.result (sym c.in-Some.is ∙ c.next_out.ensures m) c.takes.ensures c.if-not-takes.false
    (λ s e. let Q : ℕ → Type 0 = λ h. P (is_room_for s (all_have_room g.N.Machine h fs xs)) in subst Q c.from.ensures (c.readers_for.ensures.none s e)))

pub returns-clause-some : goal.returns-clause-some
returns-clause-some g c = λ f there.
    let fs = c.args.feeds.now in
    let x = c.index-feeds-at.result in
    let same = some_same x f (sym (slice_get_read fs (length fs) c.args.at x refl c.requires.within c.index-feeds-at.is) ∙ there) in
    let Q : ℕ → Type 0 = λ h. IfSome c.readers_for.result (λ n. n ≡ min (all_readers g.N.Machine h fs c.args.subscriptions.now) 4294967295) in
    subst Q (c.from.ensures ∙ ap (λ y. y.hub) same) c.readers_for.ensures.some
