-- The region in which the signals of a run are delivered.
use Rattle.std.proofs.Common.{◌≡◌, ℕ, List, [], ◌∷◌, sym, ap, ◌∙◌, subst}
use Rattle.std.proofs.lemmas.Option.{same_Some}
use Rattle.rsx_verify.specs.Prelude.{GraphStands, GraphState, IsBegun, IsProcessing, Meaning, Multicast, joins_in, no_history, reader, with_fed_hub, with_subscriber}
use Rattle.rsx_graph_calls.specs.Regions.{HasRegion, region_in}
use Rattle.rsx_graph_state.specs.History.{History}
use Rattle.rsx_subscriber.specs.Prelude.{Expr, region_of, Past, subscribed}

-- that of the first subscription is that of its expression
first_region : {T : Type 0} (e : Expr T) (joins : List ℕ) (pasts : List (Past T)) (r : ℕ) → HasRegion (subscribed e joins ∷ pasts) 0 r → r ≡ region_of e
first_region e joins pasts r (p, there, is) = is ∙ ap region_in (sym (same_Some (subscribed e joins) p there))

pub begun_region : {T : Type 0} (m m' : Meaning T) (e : Expr T) (g : GraphState T) (r : ℕ) → m' ≡ m → IsBegun m e g → ((h : History T) → GraphStands m' g h → HasRegion h.pasts 0 r) → r ≡ region_of e
begun_region {T} m m' e g r same b has =
    let h : History T = with_subscriber e no_history in
    let P : Meaning T → Type 0 = λ n. GraphStands n g h in
    first_region e (joins_in (no_history {T = T}) e) [] r (has h (subst P (sym same) b.stands))

pub processing_region : {T : Type 0} (m m' : Meaning T) (e : Expr T) (g : GraphState T) (r : ℕ) → m' ≡ m → IsProcessing m e g → ((h : History T) → GraphStands m' g h → HasRegion h.pasts 0 r) → r ≡ region_of {T = T} reader
processing_region {T} m m' e g r same b has =
    let fed : History T = with_fed_hub Multicast e no_history in
    let one : History T = with_subscriber reader fed in
    let h : History T = with_subscriber reader one in
    let P : Meaning T → Type 0 = λ n. GraphStands n g h in
    first_region reader (joins_in fed reader) (subscribed reader (joins_in one reader) ∷ []) r (has h (subst P (sym same) b.stands))
