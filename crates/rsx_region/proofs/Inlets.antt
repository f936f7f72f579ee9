-- What a piece has of a link that comes in stands on through each step of the piece.
use Rattle.std.proofs.Common.{◌≡◌, inl, ℕ, ◌+◌, ◌≤◌, min, List, [], ◌∷◌, ◌++◌, map, refl, ap, sym, ◌∙◌, subst, arith, Option, Some, slice_get}
use Rattle.rsx_demand.specs.declared.TheConstants.{UNBOUNDED}
use Rattle.rsx_sources.specs.Prelude.{Meaning, Stream, Signal, Reading, front_of}
use Rattle.rsx_sources.specs.declared.machine.Front.{Front}
use Rattle.rsx_sources.specs.declared.machine.Front.TheVariants.{Item, Completion, Failure}
use Rattle.rsx_sources.specs.declared.machine.Machine.{Ghosts as Machine}
use Rattle.rsx_tree.specs.Allocates.{IsAlike}
use Rattle.rsx_tree.specs.Edges.{EdgeView, closed_view, edge_view, is_live, passed}
use Rattle.rsx_tree.specs.Inputs.{edges}
use Rattle.rsx_tree.specs.Reads.{AllGoOn, readings}
use Rattle.rsx_pipe.specs.Feeding.{IsSentOut}
use Rattle.rsx_pipe.specs.Part.{Part, all_edges}
use Rattle.rsx_pipe.specs.Published.{IsHanded, readers}
use Rattle.rsx_link.specs.Ends.{carried_down, down_steps, received_signals, seen_total}
use Rattle.rsx_link.specs.Signals.{items_in}
use Rattle.rsx_link.specs.Steps.{asked_of}
use Rattle.rsx_link.specs.declared.cancel.CancelSeat.{CancelSeat}
use Rattle.rsx_link.specs.declared.down.Down.{Down}
use Rattle.rsx_link.specs.declared.up.Found.{Found}
use Rattle.rsx_link.specs.declared.up.Up.{Up}
use Rattle.rsx_rooted.specs.Local.{stream_of}
use Rattle.rsx_region.specs.Inlet.{HaveReached, LinkStands, replaced_at}
use Rattle.rsx_region.specs.Piece.{IsInStep}
use Rattle.rsx_region.proofs.Comes.{replaced_other, replaced_same, replaced_there}
use Rattle.rsx_region.proofs.Edges.{AllGrow, Grows, all_grow_closed, all_grow_from, all_grow_same, link_kept}
use Rattle.rsx_region.proofs.Handing.{read_live}
use Rattle.rsx_region.proofs.Looks.{Rose}
use Rattle.rsx_region.proofs.Pieces.{items_more, let_go}
use Rattle.rsx_region.proofs.Reached.{tree_beside, tree_further}

pub go_same : (rs : List (Option Reading)) → AllGoOn rs rs
go_same [] = tt
go_same (r ∷ rs) = (inl refl, go_same rs)

pub go_from : (rs ns : List (Option Reading)) → ns ≡ rs → AllGoOn rs ns
go_from rs ns same = let P : List (Option Reading) → Type 0 = λ l. AllGoOn rs l in subst P (sym same) (go_same rs)

-- the ends themselves are as they were
pub kept_on : {M T : Type 0} (b : Machine M T) (taken : List (Stream T)) (p p' : Part M) (h : ℕ) (d : Down T) (c : CancelSeat) → readings b p'.tree ≡ readings b p.tree → AllGrow (all_edges p) (all_edges p') → LinkStands b taken p h d c → LinkStands b taken p' h d c
kept_on b taken p p' h d c same grow st =
    let R : List (Option Reading) → Type 0 = λ l. HaveReached h (items_in (received_signals d)) l in
    link_kept b taken taken p p' h d d c refl refl st.came (subst R (sym same) st.reached) (go_from (readings b p.tree) (readings b p'.tree) same) grow st

-- ---- a look

rose_grows : {M T : Type 0} (p mid : Part M) (u : Up T) (f : Found) → IsInStep p u → seen_total u ≤ f.asked → Rose p mid f → AllGrow (all_edges p) (all_edges mid)
rose_grows p mid u f i rises r =
    (record { asked = below p.root.demand.asked (seen_total u) f.asked mid.root.demand.asked i.asked rises r.asked; dead = λ d. ap is_live r.state ∙ d }, all_grow_from (edges p.tree.inputs) (edges mid.tree.inputs) (ap (λ t. edges t.inputs) r.tree))
  where
    below : (x y z w : ℕ) → x ≡ min UNBOUNDED y → y ≤ z → w ≡ min UNBOUNDED z → x ≤ w
    below x y z w a c d = omega (arith, a, c, d)

pub link_looked : {M T : Type 0} (b : Machine M T) (taken : List (Stream T)) (p mid : Part M) (u : Up T) (f : Found) (h : ℕ) (d : Down T) (c : CancelSeat) → IsInStep p u → seen_total u ≤ f.asked → Rose p mid f → LinkStands b taken p h d c → LinkStands b taken mid h d c
link_looked b taken p mid u f h d c step rises r st = kept_on b taken p mid h d c (ap (readings b) r.tree) (rose_grows p mid u f step rises r) st

pub link_closed : {M T : Type 0} (b : Machine M T) (taken : List (Stream T)) (mid p' : Part M) (h : ℕ) (d : Down T) (c : CancelSeat) → all_edges p' ≡ map closed_view (all_edges mid) → IsAlike b mid.tree p'.tree → LinkStands b taken mid h d c → LinkStands b taken p' h d c
link_closed b taken mid p' h d c all alike st =
    let G : List EdgeView → Type 0 = λ l. AllGrow (all_edges mid) l in
    kept_on b taken mid p' h d c alike.2 (subst G (sym all) (all_grow_closed (all_edges mid))) st

-- ---- a signal sent

at_most : (k : ℕ) → k ≤ k
at_most k = omega arith

pub grows_passed : (e : EdgeView) (f : Front) → Grows e (passed e f)
grows_passed e Item = record { asked = at_most e.asked; dead = λ d. d }
grows_passed e Completion = record { asked = at_most e.asked; dead = λ d. refl }
grows_passed e (Failure c) = record { asked = at_most e.asked; dead = λ d. refl }

pub link_sent : {M T : Type 0} (b : Machine M T) (m : Meaning T) (taken : List (Stream T)) (p p' : Part M) (s : Signal T) (h : ℕ) (d : Down T) (c : CancelSeat) → IsSentOut b m p s p' → LinkStands b taken p h d c → LinkStands b taken p' h d c
link_sent b m taken p p' s h d c k st =
    let gone = let_go b m p s p' k in
    let G : EdgeView → Type 0 = λ e. Grows (edge_view p.root) e in
    kept_on b taken p p' h d c gone.alike.2
    (subst G (sym k.root) (grows_passed (edge_view p.root) (front_of s)), all_grow_from (edges p.tree.inputs) (edges p'.tree.inputs) (ap edges (sym k.popped.1))) st

-- ---- a signal that came

-- of this link
pub link_popped : {M T : Type 0} (b : Machine M T) (taken : List (Stream T)) (p p' : Part M) (s : Signal T) (h : ℕ) (d d' : Down T) (c : CancelSeat) → received_signals d' ≡ received_signals d ++ s ∷ [] → down_steps d' ≡ down_steps d → carried_down d' ≡ carried_down d → readers b h p ≡ 1 → IsHanded b h s p p' → LinkStands b taken p h d c → LinkStands b (replaced_at h (stream_of (received_signals d')) taken) p' h d' c
link_popped b taken p p' s h d d' c more steps carried one k st =
    let live = read_live b h p one in
    let handed = k.tree live.0 in
    let R : ℕ → Type 0 = λ n. HaveReached h n (readings b p'.tree) in
    let count : items_in (received_signals d') ≡ items_in (received_signals d) + items_in (s ∷ []) = ap items_in more ∙ items_more (received_signals d) (s ∷ []) in
    link_kept b taken (replaced_at h (stream_of (received_signals d')) taken) p p' h d d' c (ap asked_of steps) carried (replaced_there h (stream_of (received_signals d')) (stream_of (received_signals d)) taken st.came)
    (subst R (sym count) (tree_further b h (items_in (received_signals d)) s p.tree p'.tree live.1 st.one handed st.reached)) handed.reading (all_grow_from (all_edges p) (all_edges p') k.edges) st

-- of another one
pub link_beside : {M T : Type 0} (b : Machine M T) (taken : List (Stream T)) (p p' : Part M) (s : Signal T) (h j : ℕ) (came : List (Signal T)) (d : Down T) (c : CancelSeat) → (j ≡ h → ⊥) → readers b h p ≡ 1 → IsHanded b h s p p' → LinkStands b taken p j d c → LinkStands b (replaced_at h (stream_of came) taken) p' j d c
link_beside b taken p p' s h j came d c apart one k st =
    let handed = k.tree (read_live b h p one).0 in
    link_kept b taken (replaced_at h (stream_of came) taken) p p' j d d c refl refl (replaced_other h j (stream_of came) taken apart ∙ st.came) (tree_beside b h j (items_in (received_signals d)) s p.tree p'.tree apart handed st.reached) handed.reading (all_grow_from (all_edges p) (all_edges p') k.edges) st

-- where nothing came
pub link_left : {M T : Type 0} (b : Machine M T) (taken : List (Stream T)) (p : Part M) (h j : ℕ) (came came' : List (Signal T)) (d : Down T) (c : CancelSeat) → came' ≡ came → slice_get taken h ≡ Some (stream_of came) → LinkStands b taken p j d c → LinkStands b (replaced_at h (stream_of came') taken) p j d c
link_left {M} {T} b taken p h j came came' d c same come st =
    let is : replaced_at h (stream_of came') taken ≡ taken = ap (λ l. replaced_at h (stream_of l) taken) same ∙ replaced_same h (stream_of came) taken come in
    let P : List (Stream T) → Type 0 = λ l. LinkStands b l p j d c in
    subst P (sym is) st

-- where an end looked at its queue
pub link_seen : {M T : Type 0} (b : Machine M T) (taken : List (Stream T)) (p : Part M) (h : ℕ) (d d' : Down T) (c : CancelSeat) → received_signals d' ≡ received_signals d → down_steps d' ≡ down_steps d → carried_down d' ≡ carried_down d → LinkStands b taken p h d c → LinkStands b taken p h d' c
link_seen b taken p h d d' c same steps carried st =
    let R : ℕ → Type 0 = λ n. HaveReached h n (readings b p.tree) in
    link_kept b taken taken p p h d d' c (ap asked_of steps) carried (st.came ∙ ap (λ l. Some (stream_of l)) (sym same)) (subst R (ap items_in (sym same)) st.reached) (go_same (readings b p.tree)) (all_grow_same (all_edges p)) st

pub link_still : {M T : Type 0} (b : Machine M T) (taken : List (Stream T)) (p : Part M) (h : ℕ) (d d' : Down T) (c : CancelSeat) → received_signals d' ≡ received_signals d → down_steps d' ≡ down_steps d → carried_down d' ≡ carried_down d → LinkStands b taken p h d c → LinkStands b (replaced_at h (stream_of (received_signals d')) taken) p h d' c
link_still b taken p h d d' c same steps carried st = link_left b taken p h h (received_signals d) (received_signals d') d' c same st.came (link_seen b taken p h d d' c same steps carried st)
