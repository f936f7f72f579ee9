-- The first enabled move of a part, from that of its tree.
use Rattle.std.proofs.Common.{◌≡◌, ℕ, zero, suc, ◌+◌, ◌-◌, ◌<◌, ◌^◌, Bool, true, false, ◌&&◌, option_map, refl, ap, sym, ◌∙◌, subst, arith, Option, Some, None, IfSome, IfNone}
use Rattle.rsx_sources.specs.Prelude.{Meaning, front_of}
use Rattle.rsx_sources.specs.declared.machine.Machine.{Ghosts as Machine}
use Rattle.rsx_tree.specs.Prelude.{edge_view, IsEnabledAt, IsStepEnabled, IsStill as NoStep, over, station, station_of}
use Rattle.rsx_tree.specs.declared.look.NodeMove.{NodeMove}
use Rattle.rsx_tree.specs.declared.look.NodeMove.TheVariants.{Ask, Send, Pick, Row}
use Rattle.rsx_rooted.specs.Rooted.{ask_enabled, send_enabled, pick_enabled, row_enabled, move_enabled, IsNumbered}
use Rattle.rsx_rooted.specs.Tree.{can_ask, can_send, can_go, offers, IsStill}
use Rattle.rsx_rooted.specs.declared.rooted.Rooted.{Rooted}
use Rattle.rsx_rooted.proofs.Numbers.{above_zero, suc_minus, at_zero}

-- a move that can be named is enabled
abbrev pub IsEnabled : {M T : Type 0} (b : Machine M T) → Meaning T → Rooted M → Bool → NodeMove → Type 0
IsEnabled b m part room e = IsNumbered e × (move_enabled b m part room e ≡ true)

-- what a look below the root answers
enabled_below : {M T : Type 0} (b : Machine M T) (m : Meaning T) (part : Rooted M) (room : Bool) (e : NodeMove) → IsEnabledAt b m part.tree part.root.demand.asked part.root.demand.sent 1 e → IsEnabled b m part room e
enabled_below {T = T} b m part room (Ask n) h =
    let num = h.2 in
    let same : h.0 + 1 ≡ n = omega (arith, num) in
    let P : ℕ → Type 0 = λ i. ask_enabled b part i ≡ true in
    (h.3, subst P same (above_zero h.0 _ _ ∙ ap (λ k. can_ask b part.tree k part.root.demand.asked part.root.demand.sent) (suc_minus h.0) ∙ h.4))
enabled_below {T = T} b m part room (Send n) h =
    let num = h.2 in
    let same : h.0 + 1 ≡ n = omega (arith, num) in
    let P : ℕ → Type 0 = λ i. send_enabled b m part room i ≡ true in
    (h.3, subst P same (above_zero h.0 _ _ ∙ ap (λ k. can_send b m part.tree k) (suc_minus h.0) ∙ h.4))
enabled_below b m part room (Pick n input) h =
    let num = h.2 in
    let same : suc h.0 ≡ n = omega (arith, num) in
    let P : ℕ → Type 0 = λ i. pick_enabled b part i input ≡ true in
    ((h.3, h.4), subst P same h.5)
enabled_below b m part room (Row n) h =
    let num = h.2 in
    let same : suc h.0 ≡ n = omega (arith, num) in
    let P : ℕ → Type 0 = λ i. row_enabled b part i ≡ true in
    (h.3, subst P same h.4)

-- what a look at the root's own steps answers
pub enabled_root : {M T : Type 0} (b : Machine M T) (m : Meaning T) (part : Rooted M) (room : Bool) (e : NodeMove) → IsStepEnabled b (over part.root part.tree.machine) 0 e → IsEnabled b m part room e
enabled_root b m part room (Ask n) h = absurd h
enabled_root b m part room (Send n) h = absurd h
enabled_root b m part room (Pick n input) h =
    let P : ℕ → Type 0 = λ i. pick_enabled b part i input ≡ true in
    let num = h.0 in
    ((omega (arith, num), h.1), subst P (sym num) h.2)
enabled_root b m part room (Row n) h =
    let P : ℕ → Type 0 = λ i. row_enabled b part i ≡ true in
    let num = h.0 in
    (omega (arith, num), subst P (sym num) h.1)

none_enabled : {M T : Type 0} (b : Machine M T) (m : Meaning T) (part : Rooted M) (room : Bool) → send_enabled b m part room 0 ≡ false → IsStill b (station_of part.tree (edge_view part.root) 0) →
    ((k : ℕ) → 1 + k < 2 ^ 32 → (can_ask b part.tree k part.root.demand.asked part.root.demand.sent ≡ false) × (can_send b m part.tree k ≡ false) × NoStep b (station part.tree.inputs k)) → (step : NodeMove) → IsNumbered step → move_enabled b m part room step ≡ false
none_enabled b m part room r still h (Ask n) l =
    let less : 1 + (n - 1) < 2 ^ 32 = omega (arith, l) in
    at_zero n false (can_ask b part.tree (n - 1) part.root.demand.asked part.root.demand.sent) false refl (h (n - 1) less).0
none_enabled b m part room r still h (Send n) l =
    let less : 1 + (n - 1) < 2 ^ 32 = omega (arith, l) in
    at_zero n (room && can_go (edge_view part.root) (option_map front_of (offers b m part.tree))) (can_send b m part.tree (n - 1)) false r (h (n - 1) less).1
none_enabled b m part room r still h (Pick zero input) l = still.0 input l.1
none_enabled b m part room r still h (Pick (suc at) input) l = (h at (let small = l.0 in omega (arith, small))).2.0 input l.1
none_enabled b m part room r still h (Row zero) l = still.1
none_enabled b m part room r still h (Row (suc at)) l = (h at (omega (arith, l))).2.1

pub some_below : {M T : Type 0} (b : Machine M T) (m : Meaning T) (part : Rooted M) (room : Bool) (o : Option NodeMove) → IfSome o (λ e. IsEnabledAt b m part.tree part.root.demand.asked part.root.demand.sent 1 e) → IfSome o (λ e. IsEnabled b m part room e)
some_below b m part room None h = h
some_below b m part room (Some e) h = enabled_below b m part room e h

pub none_below : {M T : Type 0} (b : Machine M T) (m : Meaning T) (part : Rooted M) (room : Bool) (o : Option NodeMove) → send_enabled b m part room 0 ≡ false → IsStill b (station_of part.tree (edge_view part.root) 0) →
    IfNone o ((k : ℕ) → 1 + k < 2 ^ 32 → (can_ask b part.tree k part.root.demand.asked part.root.demand.sent ≡ false) × (can_send b m part.tree k ≡ false) × NoStep b (station part.tree.inputs k)) → IfNone o ((step : NodeMove) → IsNumbered step → move_enabled b m part room step ≡ false)
none_below b m part room None r still h = none_enabled b m part room r still h
none_below b m part room (Some e) r still h = h
