use Rattle.std.proofs.Common.{◌≡◌, ℕ, List, [], ◌∷◌, ◌++◌, map, ap, subst, sym, ◌∙◌, refl, arith, inr}
use Rattle.std.specs.Prelude.{option_map}
use Rattle.rsx_sources.specs.Prelude.{Next}
use Rattle.rsx_tree.specs.Edges.{edge_view}
use Rattle.rsx_link.specs.Ends.{cancel_beside, received_signals}
use Rattle.rsx_link.specs.Link.{total}
use Rattle.rsx_link.specs.Steps.{asked_of, cancel_count, seen_of}
use Rattle.rsx_region.specs.Joined.{IsReader}
use Rattle.rsx_region.specs.Cuts.{AsksAsMuch, CannotFit, NoneHasNumber, NoneReadsIn, ReadsNone}
use Rattle.rsx_region.specs.Pieces.{Each, IsBlankAt}
use Rattle.rsx_region.specs.declared.piece.Incoming.{Incoming}
use Rattle.rsx_region.proofs.Between.{between}
use Rattle.rsx_region.proofs.Cuts.{positive, pushed_onto, sent_over}
use Rattle.rsx_region.proofs.Opened.{both_stand, each_more}
use Rattle.rsx_region.proofs.piece.Piece.cut.Goals as goal

pub returns-clause-fit : goal.returns-clause-fit
returns-clause-fit g c =
    let made = c.in-Ok.ensures in
    let opened = made.opened in
    record {
      others = c.args.self.now.inlets.items;
      last = (let i : Incoming _ = record { link = c.args.link; inlet = c.in-Ok.made.inlet } in i);
      ins = pushed_onto c.push_reserved.new.self.items c.reserve.new.self.items c.args.self.now.inlets.items _ c.push_reserved.ensures.items c.reserve.ensures.items;
      ends = (c.send_all.ensures.same.0, opened.down.0, opened.cancel.0);
      small = let h = opened.holds in omega (arith, h);
      empty = c.send_all.ensures.empty;
    }

pub returns-clause-cut : goal.returns-clause-cut
returns-clause-cut g c =
    let b = g.N.Machine in
    let made = c.in-Ok.ensures in
    let opened = made.opened in
    let off = c.in-Some-cut_part.ensures.some in
    let unread = c.is_unread.ensures.free c.if-not-is_unread.false in
    let lower = c.in-Some-cut_part.below.part in
    let R : ℕ → Type 0 = λ h. IsReader b g.N.CrossingNodes h c.in-Some.edge.demand.sent c.in-Ok.made.reader in
    let F : ℕ → Type 0 = λ h. NoneReadsIn b h c.args.self.now.part in
    let A : ℕ → Type 0 = λ h. NoneHasNumber h c.args.self.now.inlets.items in
    let L : List (Incoming _) → Type 0 = λ l. ReadsNone b l lower in
    record {
      reader = c.in-Ok.made.reader;
      queue = c.in-Some-cut_part.below.queue;
      before = c.in-Some.edge.demand.sent;
      inlet = (let i : Incoming _ = record { link = c.args.link; inlet = c.in-Ok.made.inlet } in i);
      below = positive c.args.at c.if-at-eq0.false;
      cut = record {
        cut = off.cut;
        reads = subst R (sym made.hub) made.reads;
        sent = sent_over c.args.self.now.part c.args.at c.edge.result c.in-Some.edge c.edge.ensures c.in-Some.is;
        counted = off.fits.sent;
        free = subst F (sym made.hub) unread.0;
      };
      ins = pushed_onto c.push_reserved.new.self.items c.reserve.new.self.items c.args.self.now.inlets.items _ c.push_reserved.ensures.items c.reserve.ensures.items;
      none = c.new.ensures.items;
      link = refl;
      up = refl;
      sent = c.send_all.ensures.sent ∙ ap (λ l. l ++ map Next c.in-Some-cut_part.below.queue) opened.up.3;
      carried = c.send_all.ensures.same.2 ∙ opened.up.2;
      taken = opened.down.2;
      apart = subst A (sym made.hub) unread.1;
      free = subst L (c.deref.ensures.value ∙ c.reserve.ensures.items) off.fits.free;
    }

pub returns-clause-stands : goal.returns-clause-stands
unfolding returns-clause-cut
returns-clause-stands g c = λ m hubs within nothing ws.
    let b = g.N.Machine in
    let made = c.in-Ok.ensures in
    let opened = made.opened in
    let off = c.in-Some-cut_part.ensures.some in
    let cut = returns-clause-cut g c in
    let N : ℕ → Type 0 = λ h. IsBlankAt hubs h in
    let A : ℕ → Type 0 = λ h. AsksAsMuch b h c.in-Some.edge c.cut_part.new.part in
    both_stand b g.N.CrossingNodes g.met.N.CrossingNodes.holds m hubs c.args.self.now _ c.in-Some.edge cut (record {
      live = off.fits.live;
      asked = off.fits.asked;
      seen = ap seen_of (c.send_all.ensures.same.1 ∙ opened.up.1);
      none = opened.down.3;
      asks = ap asked_of opened.down.1;
      uncancelled = ap (λ s. total cancel_count (s ∷ cancel_beside c.in-Ok.made.inlet.closer)) opened.cancel.1 ∙ ap (λ l. total cancel_count ([] ∷ l)) opened.cancel.2;
      as_much = subst A (c.from-hub.ensures ∙ sym made.hub) off.asks;
    }) (subst N (sym made.hub) within) nothing ws

pub returns-clause-ends : goal.returns-clause-ends
unfolding returns-clause-cut
returns-clause-ends g c = λ links last w.
    let b = g.N.Machine in
    let made = c.in-Ok.ensures in
    let opened = made.opened in
    let off = c.in-Some-cut_part.ensures.some in
    let cut = returns-clause-cut g c in
    let A : ℕ → Type 0 = λ h. AsksAsMuch b h c.in-Some.edge c.cut_part.new.part in
    between b g.N.CrossingNodes c.args.self.now _ c.in-Some.edge c.args.link _ links cut (record {
      live = off.fits.live;
      asked = off.fits.asked;
      seen = ap seen_of (c.send_all.ensures.same.1 ∙ opened.up.1);
      none = opened.down.3;
      asks = ap asked_of opened.down.1;
      uncancelled = ap (λ s. total cancel_count (s ∷ cancel_beside c.in-Ok.made.inlet.closer)) opened.cancel.1 ∙ ap (λ l. total cancel_count ([] ∷ l)) opened.cancel.2;
      as_much = subst A (c.from-hub.ensures ∙ sym made.hub) off.asks;
    }) (c.send_all.ensures.same.0, opened.down.0, opened.cancel.0) refl refl last w

pub returns-clause-fresh : goal.returns-clause-fresh
returns-clause-fresh g c = λ nothing.
    let N : Incoming _ → Type 0 = λ i. received_signals i.inlet.down ≡ [] in
    let E : List (Incoming _) → Type 0 = λ is. Each N is in
    let ins = pushed_onto c.push_reserved.new.self.items c.reserve.new.self.items c.args.self.now.inlets.items _ c.push_reserved.ensures.items c.reserve.ensures.items in
    (subst E (sym ins) (each_more N c.args.self.now.inlets.items _ nothing c.in-Ok.ensures.opened.down.3), subst E (sym c.new.ensures.items) (λ k i at. cc))

pub returns-in_default-cut_part-clause-whole : goal.returns-in_default-cut_part-clause-whole
returns-in_default-cut_part-clause-whole g c = λ _.
    let b = g.N.Machine in
    let made = c.in-Ok.ensures in
    let R : ℕ → Type 0 = λ h. IsReader b g.N.CrossingNodes h c.in-Some.edge.demand.sent c.in-Ok.made.reader in
    let C : ℕ → Type 0 = λ h. CannotFit b g.N.CrossingNodes c.args.self.now.part c.args.at h c.in-Ok.made.reader c.in-Some.edge c.args.self.now.inlets.items in
    let L : List (Incoming _) → Type 0 = λ l. CannotFit b g.N.CrossingNodes c.args.self.now.part c.args.at c.from-hub.result c.in-Ok.made.reader c.in-Some.edge l in
    inr (inr (inr (record {
      edge = c.in-Some.edge;
      is = sym c.edge.ensures ∙ ap (option_map edge_view) c.in-Some.is;
      reader = c.in-Ok.made.reader;
      reads = made.reads;
      cannot = subst C c.from-hub.ensures (subst L (c.deref.ensures.value ∙ c.reserve.ensures.items) c.in_default-cut_part.ensures.whole);
    })))
