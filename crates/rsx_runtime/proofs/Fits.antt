-- A region that fits its key, over the links and with the functions of the graph.
use Rattle.std.proofs.Common.{◌≡◌, ℕ, List, [], ◌∷◌, refl, ap, sym, subst, ◌∙◌}
use Rattle.rsx_sources.specs.Prelude.{Meaning, Stream}
use Rattle.rsx_sources.specs.declared.machine.Machine.{Ghosts as Machine}
use Rattle.rsx_link.specs.declared.link.Link.{Link}
use Rattle.rsx_gate.specs.declared.gate.Gate.{Gate}
use Rattle.rsx_gate.specs.Seats.{Holds, key_of, seat_with_value}
use Rattle.rsx_region.specs.Pieces.{none_taken}
use Rattle.rsx_region.specs.Regions.{ArePiecesOf, RegionFits, RegionStands}
use Rattle.rsx_region.specs.declared.opening.Opening.{Opening}
use Rattle.rsx_region.specs.declared.piece.Piece.{Piece}
use Rattle.rsx_region.specs.declared.region.Region.{Region}
use Rattle.rsx_region.specs.declared.region.Served.{Served}
use Rattle.rsx_runtime.specs.Passing.{HasServed, IsServed, SeatOf}
use Rattle.rsx_runtime.specs.Poking.{Fits, HasFitting, IsGateOf}

fits_here : {M T O : Type 0} (b : Machine M T) (meaning : O → Meaning T) (key : Opening M T O) (links : List (Link T)) (ops : O) (r : Region M T) → key.links.value.items ≡ links → key.ops.value ≡ ops →
    Fits b meaning key r → RegionFits b (meaning ops) key.number (none_taken key.values) key.pieces.value.items links r
fits_here {M} {T} {O} b meaning key links ops r same functions h =
    let L : List (Link T) → Type 0 = λ l. RegionFits b (meaning key.ops.value) key.number (none_taken key.values) key.pieces.value.items l r in
    let F : O → Type 0 = λ o. RegionFits b (meaning o) key.number (none_taken key.values) key.pieces.value.items links r in
    subst F functions (subst L same h)

fits_there : {M T O : Type 0} (b : Machine M T) (meaning : O → Meaning T) (key : Opening M T O) (links : List (Link T)) (ops : O) (r : Region M T) → key.links.value.items ≡ links → key.ops.value ≡ ops →
    RegionFits b (meaning ops) key.number (none_taken key.values) key.pieces.value.items links r → Fits b meaning key r
fits_there {M} {T} {O} b meaning key links ops r same functions h =
    let L : List (Link T) → Type 0 = λ l. RegionFits b (meaning key.ops.value) key.number (none_taken key.values) key.pieces.value.items l r in
    let F : O → Type 0 = λ o. RegionFits b (meaning o) key.number (none_taken key.values) key.pieces.value.items links r in
    subst L (sym same) (subst F (sym functions) h)

fits_served : {M T : Type 0} (b : Machine M T) (m : Meaning T) (k : ℕ) (hubs : List (Stream T)) (opening : List (Piece M T)) (links : List (Link T)) (r s : Region M T) → s.number ≡ r.number → ArePiecesOf links s.pieces.items →
    (RegionStands b m hubs opening r.pieces.items → RegionStands b m hubs opening s.pieces.items) → RegionFits b m k hubs opening links r → RegionFits b m k hubs opening links s
fits_served b m k hubs opening links r s number ends stands h = record { number = number ∙ h.number; ends = ends; stands = stands h.stands }

-- the region that the seat lends is between these links
pub held_ends : {M T O : Type 0} (b : Machine M T) (meaning : O → Meaning T) (g : Gate (Region M T) (Opening M T O)) (links : List (Link T)) (ops : O) (P : Region M T → Type 0) (r : Region M T) → IsGateOf links ops g →
    HasFitting b meaning g P → ((x : Region M T) → P x → x ≡ r) → ArePiecesOf links r.pieces.items
held_ends {M} {T} {O} b meaning g links ops P r opened h value =
    let F : Region M T → Type 0 = λ x. Fits b meaning (key_of g) x in
    (fits_here b meaning (key_of g) links ops r opened.0 opened.1 (subst F (value h.0 h.1) h.2)).ends

-- what it came to fits, where each piece stands on
pub held_served : {M T O : Type 0} (b : Machine M T) (meaning : O → Meaning T) (g : Gate (Region M T) (Opening M T O)) (links : List (Link T)) (ops : O) (budget : ℕ) (answer : Served) (old new : SeatOf M T O) (r s : Region M T) → IsGateOf links ops g →
    HasFitting b meaning g (Holds g old) → ((x : Region M T) → Holds g old x → x ≡ r) → new ≡ seat_with_value old s → ArePiecesOf links s.pieces.items →
    ((hubs : List (Stream T)) (opening : List (Piece M T)) → RegionStands b (meaning ops) hubs opening r.pieces.items → RegionStands b (meaning ops) hubs opening s.pieces.items) → IsServed b (meaning ops) links budget answer r s →
    HasServed b meaning ops links budget answer g old new × HasFitting b meaning g (Holds g new)
held_served {M} {T} {O} b meaning g links ops budget answer old new r s opened h value put ends stands served =
    let F : Region M T → Type 0 = λ x. Fits b meaning (key_of g) x in
    let key = key_of g in
    let there = value h.0 h.1 in
    let here = fits_here b meaning key links ops r opened.0 opened.1 (subst F there h.2) in
    let next = fits_served b (meaning ops) key.number (none_taken key.values) key.pieces.value.items links r s served.number ends (stands (none_taken key.values) key.pieces.value.items) here in
    let fits = fits_there b meaning key links ops s opened.0 opened.1 next in
    let H : SeatOf M T O → Type 0 = λ x. Holds g x s in
    let holds : Holds g new s = subst H (sym put) (h.1.0, refl, h.1.2, h.1.3, h.1.4) in
    let held : Holds g old r = (h.1.0, h.1.1 ∙ ap (λ x. (0, x) ∷ []) there, h.1.2, h.1.3, h.1.4) in
    (record { was = r; is = s; held = held; holds = holds; fits = fits; steps = ap (λ (x : SeatOf M T O). x.me.0) put; served = served }, (s, holds, fits))

-- so it is of a new gate's region
pub first_fits : {M T O : Type 0} (b : Machine M T) (meaning : O → Meaning T) (key : Opening M T O) (links : List (Link T)) (ops : O) (n : ℕ) (r : Region M T) → key.number ≡ r.number → key.values ≡ n → key.ops.value ≡ ops →
    key.pieces.value.items ≡ r.pieces.items → key.links.value.items ≡ links → ArePiecesOf links r.pieces.items → RegionStands b (meaning ops) (none_taken n) r.pieces.items r.pieces.items → Fits b meaning key r
first_fits {M} {T} {O} b meaning key links ops n r number values functions pieces same ends stands =
    let ps = r.pieces.items in
    let N : ℕ → Type 0 = λ k. RegionStands b (meaning ops) (none_taken k) ps ps in
    let P : List (Piece M T) → Type 0 = λ opening. RegionStands b (meaning ops) (none_taken key.values) opening ps in
    fits_there b meaning key links ops r same functions (record { number = sym number; ends = ends; stands = subst P (sym pieces) (subst N (sym values) stands) })
