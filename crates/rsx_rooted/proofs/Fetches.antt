-- How an item is pulled through a part.
use Rattle.std.proofs.Common.{◌≡◌, ℕ, ◌+◌, ◌-◌, ◌<◌, ◌⊎◌, true, Option, Some, None, inl, inr, refl, sym, ◌∙◌, subst, arith}
use Rattle.rsx_sources.specs.Prelude.{Meaning, Next}
use Rattle.rsx_sources.specs.declared.machine.Front.TheVariants.{Item}
use Rattle.rsx_tree.proofs.Shut.{pick_alive, row_alive}
use Rattle.rsx_tree.specs.Fetched.{IsRootPick, IsRootRow, IsRootStep, IsRootStepOut}
use Rattle.rsx_tree.specs.Prelude.{edge_view, can_pass, passed, IsLed}
use Rattle.rsx_tree.specs.declared.look.NodeMove.TheVariants.{Pick, Row}
use Rattle.rsx_tree.specs.declared.node.Node.{Node}
use Rattle.rsx_sources.specs.declared.machine.Machine.{Ghosts as Machine}
use Rattle.rsx_rooted.specs.Fetched.{IsFetched, IsMovedInside, IsWorked}
use Rattle.rsx_rooted.specs.Rooted.{no_room}
use Rattle.rsx_rooted.specs.Tree.{IsLetGo}
use Rattle.rsx_rooted.specs.declared.rooted.Rooted.{Rooted}
use Rattle.rsx_rooted.proofs.Parts.{made_inside, made_into, pumped_driven, pumped_made, pumped_none, pumped_on}
use Rattle.rsx_rooted.proofs.Sends.{sent_out}

-- moves of the tree alone
pub fetched_none : {M T : Type 0} (b : Machine M T) (m : Meaning T) (budget left : ℕ) (old : Rooted M) (tree : Node M) → IsLed b m budget old.tree old.root.demand.asked old.root.demand.sent left tree → IsFetched b m budget old None left (record { tree = tree; root = old.root })
fetched_none b m budget left old tree led = (led.count, led.spent, pumped_driven b no_room m led.count old tree tt led.run led.balance)

-- moves of the tree, and then the item over the root edge
pub fetched_item : {M T : Type 0} (b : Machine M T) (m : Meaning T) (budget left left' : ℕ) (old new : Rooted M) (mid : Node M) (x : T) → IsLed b m budget old.tree old.root.demand.asked old.root.demand.sent left mid → left' + 1 ≡ left → IsLetGo b m mid (Next x) new.tree →
    can_pass (edge_view old.root) Item ≡ true → edge_view new.root ≡ passed (edge_view old.root) Item → IsFetched b m budget old (Some x) left' new
fetched_item {M = M} b m budget left left' old new mid x led one gone can carried =
    let half : Rooted M = record { tree = mid; root = old.root } in
    let q = led.spent in
    (led.count, half, omega (arith, q, one), pumped_driven b no_room m led.count old mid tt led.run led.balance, sent_out b m half new (Next x) gone can carried)

-- nothing was done
pub fetched_nothing : {M T : Type 0} (b : Machine M T) (m : Meaning T) (budget : ℕ) (part : Rooted M) → IsFetched b m budget part None budget part
fetched_nothing b m budget part = (0, omega arith, pumped_none b no_room m part tt)

-- moves that led to no item, and then others
pub fetched_on : {M T : Type 0} (b : Machine M T) (m : Meaning T) (budget left left' : ℕ) (x y z : Rooted M) (o : Option T) → IsFetched b m budget x None left y → IsFetched b m left y o left' z → IsFetched b m budget x o left' z
fetched_on b m budget left left' x y z (Some item) h k =
    let e = h.1 in
    let f = k.2 in
    (h.0 + k.0, k.1, omega (arith, e, f), pumped_on b no_room m h.0 k.0 x y k.1 tt tt tt h.2 k.3, k.4)
fetched_on b m budget left left' x y z None h k =
    let e = h.1 in
    let f = k.1 in
    (h.0 + k.0, omega (arith, e, f), pumped_on b no_room m h.0 k.0 x y z tt tt tt h.2 k.2)

-- one move
pub fetched_step : {M T : Type 0} (b : Machine M T) (m : Meaning T) (budget left : ℕ) (x y z : Rooted M) → IsFetched b m budget x None left y → 0 < left → IsWorked b m 1 y z → IsFetched b m budget x None (left - 1) z
fetched_step b m budget left x y z h some k = fetched_on b m budget left (left - 1) x y z None h (1, omega (arith, some), k)

-- no move
pub fetched_same : {M T : Type 0} (b : Machine M T) (m : Meaning T) (budget left : ℕ) (x y z : Rooted M) → IsFetched b m budget x None left y → z ≡ y → IsFetched b m budget x None left z
fetched_same {M} b m budget left x y z h same = let Q : Rooted M → Type 0 = λ k. IsFetched b m budget x None left k in subst Q (sym same) h

-- no move, where nothing had changed
pub fetched_still : {M T : Type 0} (b : Machine M T) (m : Meaning T) (budget left : ℕ) (x y z : Rooted M) → left ≡ budget → y ≡ x → z ≡ y → IsFetched b m budget x None left z
fetched_still b m budget left x y z same is still =
    let here : IsFetched b m budget x None budget z = fetched_same b m budget budget x x z (fetched_nothing b m budget x) (still ∙ is) in
    subst (λ (n : ℕ). IsFetched b m budget x None n z) (sym same) here

-- one move at first, where nothing had changed
pub fetched_first : {M T : Type 0} (b : Machine M T) (m : Meaning T) (budget left : ℕ) (x y z : Rooted M) → 0 < budget → left ≡ budget → y ≡ x → IsWorked b m 1 y z → IsFetched b m budget x None (left - 1) z
fetched_first b m budget left x y z some same is k =
    let here : IsFetched b m budget x None budget y = fetched_same b m budget budget x x y (fetched_nothing b m budget x) is in
    fetched_step b m budget left x y z (subst (λ (n : ℕ). IsFetched b m budget x None n y) (sym same) here) (omega (arith, some, same)) k

-- moves, where nothing had changed
pub fetched_after : {M T : Type 0} (b : Machine M T) (m : Meaning T) (budget left left' : ℕ) (x y z : Rooted M) (o : Option T) → left ≡ budget → y ≡ x → IsFetched b m left y o left' z → IsFetched b m budget x o left' z
fetched_after b m budget left left' x y z o same is h = fetched_on b m budget left left' x y z o (fetched_still b m budget left x y y same is refl) h

-- the same answer
pub same_answer : {M T : Type 0} (b : Machine M T) (m : Meaning T) (budget left : ℕ) (old new : Rooted M) (o p : Option T) → o ≡ p → IsFetched b m budget old o left new → IsFetched b m budget old p left new
same_answer {M} {T} b m budget left old new o p is h = let Q : Option T → Type 0 = λ q. IsFetched b m budget old q left new in subst Q is h

-- ---- a step of the root, and its item over the root edge at once

pub root_moved : {M T : Type 0} (b : Machine M T) (m : Meaning T) (old : Rooted M) (tree : Node M) → IsRootStep b m old.tree (edge_view old.root) tree → ((input : ℕ) × IsRootPick b m old.tree (edge_view old.root) input tree) ⊎ IsRootRow b m old.tree (edge_view old.root) tree → IsMovedInside b m old (record { tree = tree; root = old.root })
root_moved {M} b m old tree h (inl p) =
    let new : Rooted M = record { tree = tree; root = old.root } in
    record {
      move = Pick 0 p.0;
      enabled = p.1.enabled;
      made = made_inside b m (Pick 0 p.0) old new (refl, record { tree = p.1.effect; root = refl }) h.chosen h.balance (λ closed dead. pick_alive b old.tree (edge_view old.root) 0 p.0 p.1.enabled closed dead) refl h.alike;
    }
root_moved {M} b m old tree h (inr r) =
    let new : Rooted M = record { tree = tree; root = old.root } in
    record {
      move = Row 0;
      enabled = r.enabled;
      made = made_inside b m (Row 0) old new (refl, record { tree = r.effect; root = refl }) h.chosen h.balance (λ closed dead. row_alive b old.tree (edge_view old.root) 0 r.enabled closed dead) refl h.alike;
    }

-- one move inside the tree is a run of one
pub worked_once : {M T : Type 0} (b : Machine M T) (m : Meaning T) (old new : Rooted M) → IsMovedInside b m old new → IsWorked b m 1 old new
worked_once b m old new w = pumped_made b no_room m w.move old new tt tt w.enabled (made_into b no_room m w.move w.move old new tt refl w.made)

pub fetched_by_root : {M T : Type 0} (b : Machine M T) (m : Meaning T) (budget left : ℕ) (old new : Rooted M) (x : T) → IsRootStepOut b m old.tree (edge_view old.root) (Some x) new.tree → left + 2 ≡ budget → can_pass (edge_view old.root) Item ≡ true → edge_view new.root ≡ passed (edge_view old.root) Item → IsFetched b m budget old (Some x) left new
fetched_by_root {M} b m budget left old new x h two can carried =
    let half : Rooted M = record { tree = h.0; root = old.root } in
    (1, half, omega (arith, two), worked_once b m old half (root_moved b m old h.0 h.1 h.1.step), sent_out b m half new (Next x) h.2 can carried)
