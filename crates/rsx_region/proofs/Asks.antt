-- What is asked of the link where the reader asked for more.
use Rattle.std.proofs.Common.{◌≡◌, inl, ℕ, zero, suc, ◌-◌, ◌<◌, ◌≤◌, Bool, true, List, refl, ap, sym, ◌∙◌, subst, arith, Option, Some, ℤ, pos, ◌^◌}
use Rattle.std.proofs.lemmas.Int.{to_z_pos}
use mir.Syntax.{w64}
use mir.Val.{to_z}
use Rattle.rsx_demand.specs.Demand.{saturating_total}
use Rattle.rsx_demand.specs.declared.TheConstants.{UNBOUNDED}
use Rattle.rsx_sources.specs.Prelude.{Stream, Signal}
use Rattle.rsx_sources.specs.declared.machine.Machine.{Ghosts as Machine}
use Rattle.rsx_tree.specs.Edges.{is_live}
use Rattle.rsx_tree.specs.Reads.{readings}
use Rattle.rsx_tree.specs.declared.edge.Edge.{Edge}
use Rattle.rsx_pipe.specs.Part.{Part}
use Rattle.rsx_pipe.specs.Published.{reader_edge}
use Rattle.rsx_link.specs.Ends.{Requests, asked_total, carried_down, received_signals}
use Rattle.rsx_link.specs.Signals.{items_in, request_of}
use Rattle.rsx_link.specs.Steps.{asked_of}
use Rattle.rsx_link.specs.declared.cancel.CancelSeat.{CancelSeat}
use Rattle.rsx_link.specs.declared.down.Down.{Down}
use Rattle.rsx_link.specs.declared.view.Step.{Step}
use Rattle.rsx_rooted.specs.Local.{stream_of}
use Rattle.rsx_region.specs.Inlet.{HaveBegun, HaveReached, LinkStands}
use Rattle.rsx_region.specs.Moves.{IsAskedFor, IsAskedOver}

asks_more : {T : Type 0} (k total : ℕ) (old new : List Step) (answer : Option (Signal T)) → k ≡ total - asked_of old → asked_of old < total → total ≤ UNBOUNDED → Requests (request_of (pos k)) old new answer → asked_of new ≡ total
asks_more zero total old new answer k more most a = absurd (omega (arith, k, more))
asks_more (suc n) total old new answer k more most a = ap asked_of a.steps ∙ all (asked_of old) (suc n) total k more most
  where
    all : (x m total : ℕ) → m ≡ total - x → x < total → total ≤ UNBOUNDED → saturating_total x m ≡ total
    all x m total k more most = omega (arith, k, more, most)

-- after a request of what is missing so much was asked in all
pub asks_all : {T : Type 0} (k total asked : ℕ) (old new : List Step) (answer : Option (Signal T)) → asked ≡ asked_of old → k ≡ total - asked → asked < total → total ≤ UNBOUNDED → Requests (request_of (to_z w64 k)) old new answer → asked_of new ≡ total
asks_all {T} k total asked old new answer was is more most a =
    let R : ℤ → Type 0 = λ z. Requests (request_of z) old new answer in
    let small : k < 2 ^ 63 = omega (arith, is, more, most) in
    let left : k ≡ total - asked_of old = is ∙ ap (λ x. total - x) was in
    let some : asked_of old < total = omega (arith, was, more) in
    asks_more k total old new answer left some most (subst R (to_z_pos w64 k small) a)

pub asked_live : {T : Type 0} (o : Option Edge) (e : Edge) (down down' : Down T) (seat : CancelSeat) → Some e ≡ o → is_live e.state ≡ true → asked_total down' ≡ e.demand.asked → IsAskedFor o down seat down' seat
asked_live {T} o e down down' seat is live all =
    let O : Option Edge → Type 0 = λ x. IsAskedFor x down seat down' seat in
    let L : Bool → Type 0 = λ x. IsAskedOver x e down seat down' seat in
    subst O is (subst L (sym live) (inl all, refl))

pub link_asked : {M T : Type 0} (b : Machine M T) (taken : List (Stream T)) (p : Part M) (h : ℕ) (d d' : Down T) (c : CancelSeat) (e : Edge) → received_signals d' ≡ received_signals d → carried_down d' ≡ carried_down d → Some e ≡ reader_edge b h p → asked_total d' ≡ e.demand.asked → LinkStands b taken p h d c → LinkStands b taken p h d' c
link_asked b taken p h d d' c e received carried is all st = record {
  came = st.came ∙ ap (λ l. Some (stream_of l)) (sym received);
  one = st.one;
  reached = let R : ℕ → Type 0 = λ n. HaveReached h n (readings b p.tree) in subst R (ap items_in (sym received)) st.reached;
  began = let R : ℕ → Type 0 = λ n. HaveBegun h n (readings b p.tree) in subst R (sym carried) st.began;
  asked = λ x k. same_edge e x d' (is ∙ k) all;
  cancelled = st.cancelled;
}
  where
    same_edge : {T : Type 0} (e x : Edge) (d' : Down T) → Some e ≡ Some x → asked_total d' ≡ e.demand.asked → asked_total d' ≤ x.demand.asked
    same_edge e x d' k all = let same : e ≡ x = cc in let a : asked_total d' ≡ x.demand.asked = all ∙ ap (λ z. z.demand.asked) same in omega (arith, a)
