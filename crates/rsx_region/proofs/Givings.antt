-- What a piece gave, where its ending, if it sent one, is put back.
use Rattle.std.proofs.Common.{◌≡◌, ℕ, ◌+◌, true, List, [], ◌∷◌, ◌++◌, append_assoc, refl, ap, sym, ◌∙◌, subst, arith, Option}
use Rattle.rsx_sources.specs.Prelude.{Meaning, Stream, Signal, Next, Complete, Error, Reading, ends_input, front_of}
use Rattle.rsx_sources.specs.declared.machine.Machine.{Ghosts as Machine}
use Rattle.rsx_tree.specs.Edges.{EdgeView, edge_view, passed}
use Rattle.rsx_tree.specs.Reads.{AllGoOn, readings}
use Rattle.rsx_tree.specs.declared.node.Node.{Node}
use Rattle.rsx_pipe.specs.Part.{Part}
use Rattle.rsx_link.specs.Ends.{carried_up, items_sent, sent_signals}
use Rattle.rsx_link.specs.Signals.{items_in}
use Rattle.rsx_link.specs.declared.up.Up.{Up}
use Rattle.rsx_region.specs.Piece.{GaveAll, GaveBefore, GivesBack, HasEnded, PieceStands}
use Rattle.rsx_region.proofs.Pieces.{items_more, let_go}

-- the root edge counts what was sent
pub counted : {T : Type 0} (up : Up T) (sent : ℕ) (queued out : List (Signal T)) → sent ≡ items_sent up → sent_signals up ≡ queued ++ out → carried_up up + items_in queued + items_in out ≡ sent
counted up sent queued out step is =
    let all : items_in (sent_signals up) ≡ items_in queued + items_in out = ap items_in is ∙ items_more queued out in
    sums (carried_up up) (items_in queued) (items_in out) (items_in (sent_signals up)) sent step all
  where
    sums : (c q o a s : ℕ) → s ≡ c + a → a ≡ q + o → c + q + o ≡ s
    sums c q o a s h k = omega (arith, h, k)

gave_all : {M T : Type 0} (b : Machine M T) (m : Meaning T) (taken : List (Stream T)) (old : Node M) (queued : List (Signal T)) (part : Part M) (up : Up T) → PieceStands b m taken old queued part up → GaveAll b m taken old queued part up
gave_all b m taken old queued part up h = record {
  out = h.out;
  sent = h.sent;
  given = record { flow = h.flow; reading = h.reading; crosses = h.crosses; on = h.live };
  counted = counted up part.root.demand.sent queued h.out h.step.sent h.sent;
}

-- an ending counts as no item
ending_sent : {T : Type 0} (e : EdgeView) (s : Signal T) → ends_input s ≡ true → (passed e (front_of s)).sent ≡ e.sent
ending_sent e (Next x) k = cc
ending_sent e Complete k = refl
ending_sent e (Error c) k = refl

no_items : {T : Type 0} (s : Signal T) → ends_input s ≡ true → items_in (s ∷ []) ≡ 0
no_items (Next x) k = cc
no_items Complete k = refl
no_items (Error c) k = refl

-- before an ending went over it, it counted what was sent before that
pub count_before : {M T : Type 0} (b : Machine M T) (m : Meaning T) (taken : List (Stream T)) (old : Node M) (queued : List (Signal T)) (part : Part M) (up : Up T) (out : List (Signal T)) → sent_signals up ≡ queued ++ out → part.root.demand.sent ≡ items_sent up → (k : HasEnded b m taken old part out) →
    carried_up up + items_in queued + items_in k.rest ≡ k.before.root.demand.sent
count_before b m taken old queued part up out is step k =
    let all : sent_signals up ≡ (queued ++ k.rest) ++ k.last ∷ [] = is ∙ (ap (λ l. queued ++ l) k.all ∙ sym (append_assoc queued k.rest (k.last ∷ []))) in
    let same : part.root.demand.sent ≡ k.before.root.demand.sent = ap (λ e. e.sent) k.sent.root ∙ ending_sent (edge_view k.before.root) k.last k.ends in
    let count = counted up part.root.demand.sent (queued ++ k.rest) (k.last ∷ []) step all in
    let none = no_items k.last k.ends in
    let rest = items_more queued k.rest in
    sums (carried_up up) (items_in queued) (items_in k.rest) (items_in (queued ++ k.rest)) (items_in (k.last ∷ [])) part.root.demand.sent k.before.root.demand.sent count none rest same
  where
    sums : (c q o a l s t : ℕ) → c + a + l ≡ s → l ≡ 0 → a ≡ q + o → s ≡ t → c + q + o ≡ t
    sums c q o a l s t h1 h2 h3 h4 = omega (arith, h1, h2, h3, h4)

gave_before : {M T : Type 0} (b : Machine M T) (m : Meaning T) (taken : List (Stream T)) (old : Node M) (queued : List (Signal T)) (part : Part M) (up : Up T) (out : List (Signal T)) → sent_signals up ≡ queued ++ out → part.root.demand.sent ≡ items_sent up → AllGoOn (readings b old) (readings b part.tree) → b.crosses part.tree.machine ≡ b.crosses old.machine →
    HasEnded b m taken old part out → GaveBefore b m taken old queued part up
gave_before {M} b m taken old queued part up out is step reading crosses k =
    let all : sent_signals up ≡ (queued ++ k.rest) ++ k.last ∷ [] = is ∙ (ap (λ l. queued ++ l) k.all ∙ sym (append_assoc queued k.rest (k.last ∷ []))) in
    let R : List (Option Reading) → Type 0 = λ l. AllGoOn (readings b old) l in
    let gone = let_go b m k.before k.last part k.sent in
    record {
      before = k.before;
      out = k.rest;
      last = k.last;
      sent = all;
      ends = k.ends;
      put_back = k.sent;
      live = k.live;
      given = record { flow = k.flow; reading = subst R gone.alike.2 reading; crosses = sym gone.alike.3 ∙ crosses; on = λ _. k.on };
      counted = count_before b m taken old queued part up out is step k;
    }

pub gives_back : {M T : Type 0} (b : Machine M T) → GivesBack b
gives_back b m taken old queued part up h = ((λ _. gave_all b m taken old queued part up h), (λ e. gave_before b m taken old queued part up h.out h.sent h.step.sent h.reading h.crosses (h.ended e)))
