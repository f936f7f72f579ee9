-- What comes out of a started window by a signal of the input.
use Rattle.std.proofs.Common.{◌≡◌, ℕ, zero, suc, ◌-◌, true, false, List, [], ◌∷◌, Option, Some, None, refl, ap, sym, ◌∙◌, arith}
use Rattle.rsx_types.proofs.Booleans.{false_from_absurd}
use Rattle.rsx_sources.specs.Prelude.{Cause, Ending, Open, Done, Failed, Signal, Next, Stage, Meaning, Stream, ended_by, item_then, items_then, signals_then}
use Rattle.rsx_plain.specs.Emission.{item_or, emission_then}
use Rattle.rsx_plain.specs.Moves.{Moves, has_ended, ended_or}
use Rattle.rsx_collections.specs.Signals.{has_ending, put_out}
use Rattle.rsx_plain.specs.declared.prepared.Emission.{Emission}
use Rattle.rsx_values.specs.Prelude.{value_then, window}
use Rattle.rsx_plain.specs.Chain.{chain_from, chain_over, MovesEmission}
use Rattle.rsx_plain.specs.declared.chain.ChainState.{ChainState}
use Rattle.rsx_window.specs.Cut.{window_rest, behind, window_left, is_over, GoesOn, TakesItem, Begins, unless_done, window_after, last_ending, ClosesWith}
use Rattle.rsx_window.specs.declared.current.CurrentWindow.{CurrentWindow}
use Rattle.rsx_window.specs.declared.current.CurrentWindow.TheVariants.{Running, Passing}
use Rattle.rsx_window.specs.declared.current.Begun.{Begun}
use Rattle.rsx_window.proofs.Cuts.{window_first, nothing_behind}

-- ---- what came out, in front of what follows

open_front : {T : Type 0} (xs : List T) (y : Option T) (x w : Stream T) → value_then (items_then xs (item_or y x)) w ≡ signals_then (put_out xs y Open) (value_then x w)
open_front [] None x w = refl
open_front [] (Some z) x w = refl
open_front (a ∷ xs) y x w = ap (item_then a) (open_front xs y x w)

done_front : {T : Type 0} (xs : List T) (y : Option T) (w : Stream T) → value_then (items_then xs (item_or y (ended_by Done))) w ≡ signals_then (put_out xs y Open) w
done_front [] None w = refl
done_front [] (Some z) w = refl
done_front (a ∷ xs) y w = ap (item_then a) (done_front xs y w)

failed_front : {T : Type 0} (xs : List T) (y : Option T) (c : Cause) (w r : Stream T) → value_then (items_then xs (item_or y (ended_by (Failed c)))) w ≡ signals_then (put_out xs y (Failed c)) r
failed_front [] None c w r = refl
failed_front [] (Some z) c w r = refl
failed_front (a ∷ xs) y c w r = ap (item_then a) (failed_front xs y c w r)

-- what a window's chain put out by an item, and what follows it
runs_on : {T : Type 0} (m : Meaning T) (n : ℕ) (gs : List (Stage T)) (c : ChainState T) (more : ℕ) (e : Ending) (xs : List T) (y : Option T) (v : Stream T) → (more ≡ 0 → has_ended e ≡ true) →
    value_then (items_then xs (emission_then (record { item = y; ending = e }) (chain_from m c (window_rest more v)))) (window m n gs (behind more v)) ≡ signals_then (put_out xs y (unless_done e)) (window_left m n gs (window_after c more e) v)
runs_on m n gs c zero Open xs y v last = let h : false ≡ true = last refl in cc
runs_on m n gs c (suc j) Open xs y v last =
    let same : suc j - 1 ≡ j = omega arith in
    rw same (open_front xs y (chain_from m c (window_rest (suc j) v)) (window m n gs (behind (suc j) v)))
runs_on m n gs c more Done xs y v last = done_front xs y (window m n gs (behind more v))
runs_on m n gs c more (Failed f) xs y v last = failed_front xs y f (window m n gs (behind more v)) (ended_by Open)

-- ---- an item

item_running : {T : Type 0} (m : Meaning T) (n : ℕ) (gs : List (Stage T)) (old new : ChainState T) (more : ℕ) (x : T) (out : Emission T) → TakesItem m old more x out new → (more ≡ 0 → has_ended out.ending ≡ true) →
    Moves (window_left m n gs) (Running old more) (Next x) (put_out [] out.item (unless_done out.ending)) (window_after new more out.ending)
item_running m n gs old new more x out takes last v =
    ap (λ z. value_then z (window m n gs (behind more v))) (takes v) ∙ runs_on m n gs new more out.ending [] out.item v last

item_begins : {T : Type 0} (m : Meaning T) (n : ℕ) (gs : List (Stage T)) (x : T) (b : Begun T) → Begins m gs (n - 1) x b → (n - 1 ≡ 0 → has_ended b.out.ending ≡ true) →
    Moves (window_left m n gs) (Passing 0) (Next x) (put_out b.items.items b.out.item (unless_done b.out.ending)) (window_after b.chain (n - 1) b.out.ending)
item_begins m n gs x b begins last v =
    window_first m n gs x v ∙ (ap (λ z. value_then z (window m n gs (behind (n - 1) v))) (begins v) ∙ runs_on m n gs b.chain (n - 1) b.out.ending b.items.items b.out.item v last)

-- the window that was started took it
pub item_taken : {T : Type 0} (m : Meaning T) (n : ℕ) (gs : List (Stage T)) (current next : CurrentWindow T) (old new : ChainState T) (more : ℕ) (x : T) (out : Emission T) (items : List T) (e : Ending) (put : List (Signal T)) →
    current ≡ Running old more → TakesItem m old more x out new → (more ≡ 0 → has_ended out.ending ≡ true) → items ≡ [] → e ≡ unless_done out.ending → put ≡ put_out items out.item e → next ≡ window_after new more out.ending →
    Moves (window_left m n gs) current (Next x) put next
item_taken m n gs current next old new more x out items e put is takes last none less p after =
    rw (is, p, none, less, after) (item_running m n gs old new more x out takes last)

-- it started a window
pub item_started : {T : Type 0} (m : Meaning T) (n : ℕ) (gs : List (Stage T)) (current next : CurrentWindow T) (more : ℕ) (x : T) (b : Begun T) (e : Ending) (put : List (Signal T)) →
    current ≡ Passing 0 → more ≡ n - 1 → Begins m gs more x b → (more ≡ 0 → has_ended b.out.ending ≡ true) → e ≡ unless_done b.out.ending → put ≡ put_out b.items.items b.out.item e → next ≡ window_after b.chain more b.out.ending →
    Moves (window_left m n gs) current (Next x) put next
item_started m n gs current next more x b e put is size begins last less p after =
    let starts : Begins m gs (n - 1) x b = rw size at begins in
    let lasts : n - 1 ≡ 0 → has_ended b.out.ending ≡ true = rw size at last in
    rw (is, p, less, after, size) (item_begins m n gs x b starts lasts)

passes : {T : Type 0} (m : Meaning T) (n : ℕ) (gs : List (Stage T)) (k : ℕ) (x : T) → (k ≡ 0 → ⊥) → Moves (window_left m n gs) (Passing k) (Next x) [] (Passing (k - 1))
passes m n gs zero x some = absurd (some refl)
passes m n gs (suc k) x some = let same : suc k - 1 ≡ k = omega arith in rw same (λ v. refl)

-- it was let go
pub item_passed : {T : Type 0} (m : Meaning T) (n : ℕ) (gs : List (Stage T)) (current next : CurrentWindow T) (k : ℕ) (x : T) (put : List (Signal T)) → current ≡ Passing k → (k ≡ 0 → ⊥) → put ≡ [] → next ≡ Passing (k - 1) →
    Moves (window_left m n gs) current (Next x) put next
item_passed m n gs current next k x put is some none after = rw (is, none, after) (passes m n gs k x some)

-- ---- whether the ending is put out

over_items : {T : Type 0} (xs : List T) (y : Option T) (c : ChainState T) (more : ℕ) (e : Ending) → has_ending (put_out xs y (unless_done e)) ≡ is_over (window_after c more e)
over_items [] None c more Open = refl
over_items [] None c more Done = refl
over_items [] None c more (Failed f) = refl
over_items [] (Some z) c more Open = refl
over_items [] (Some z) c more Done = refl
over_items [] (Some z) c more (Failed f) = refl
over_items (x ∷ xs) y c more e = over_items xs y c more e

pub over_after : {T : Type 0} (xs : List T) (y : Option T) (c : ChainState T) (more : ℕ) (f e : Ending) (put : List (Signal T)) (next : CurrentWindow T) → e ≡ unless_done f → put ≡ put_out xs y e → next ≡ window_after c more f → has_ending put ≡ is_over next
over_after xs y c more f e put next less p after = rw (p, less, after) (over_items xs y c more f)

-- ---- whether the chain goes on

chain_goes_on : {T : Type 0} (c : ChainState T) (more : ℕ) (e : Ending) → (chain_over c ≡ true → has_ended e ≡ true) → GoesOn (window_after c more e)
chain_goes_on c more Open h = false_from_absurd (chain_over c) h
chain_goes_on c more Done h = tt
chain_goes_on c more (Failed f) h = tt

pub goes_on_after : {T : Type 0} (c : ChainState T) (more : ℕ) (e : Ending) (next : CurrentWindow T) → (chain_over c ≡ true → has_ended e ≡ true) → next ≡ window_after c more e → GoesOn next
goes_on_after c more e next h after = rw after (chain_goes_on c more e h)

-- ---- an ending of the input

ended_alone : {T : Type 0} (e : Ending) (v : Stream T) → has_ended e ≡ true → ended_or e v ≡ ended_by e
ended_alone Open v h = cc
ended_alone Done v h = refl
ended_alone (Failed c) v h = refl

ended_front : {T : Type 0} (y : Option T) (e : Ending) (v : Stream T) → has_ended e ≡ true → signals_then (put_out [] y Open) (ended_by e) ≡ signals_then (put_out [] y e) v
ended_front y Open v h = cc
ended_front None Done v h = refl
ended_front (Some z) Done v h = refl
ended_front None (Failed c) v h = refl
ended_front (Some z) (Failed c) v h = refl

last_front : {T : Type 0} (y : Option T) (f e : Ending) (x v : Stream T) → has_ended f ≡ true → has_ended e ≡ true → value_then (item_or y (ended_or f x)) (ended_by e) ≡ signals_then (put_out [] y (last_ending f e)) v
last_front y Open e x v hf he = cc
last_front y Done e x v hf he = done_front [] y (ended_by e) ∙ ended_front y e v he
last_front y (Failed c) e x v hf he = failed_front [] y c (ended_by e) v

running_closes : {T : Type 0} (m : Meaning T) (n : ℕ) (gs : List (Stage T)) (old new : ChainState T) (more : ℕ) (e : Ending) (out : Emission T) (v : Stream T) → MovesEmission m old (record { item = None; ending = e }) out new → has_ended e ≡ true → has_ended out.ending ≡ true →
    window_left m n gs (Running old more) (ended_by e) ≡ signals_then (put_out [] out.item (last_ending out.ending e)) v
running_closes m n gs old new more e out v moves he hf =
    let here : chain_from m old (ended_by e) ≡ emission_then out (chain_from m new (ended_by Open)) = ap (chain_from m old) (sym (ended_alone e (ended_by Open) he)) ∙ moves (ended_by Open) in
    ap (λ z. value_then z (window m n gs (behind (suc more) (ended_by e)))) here ∙ (ap (value_then (emission_then out (chain_from m new (ended_by Open)))) (nothing_behind m n (suc more) gs e) ∙ last_front out.item out.ending e (chain_from m new (ended_by Open)) v hf he)

-- the chain of the window that is started took it
pub chain_closes : {T : Type 0} (m : Meaning T) (current : CurrentWindow T) (old new : ChainState T) (more : ℕ) (e : Ending) (out : Emission T) → current ≡ Running old more → MovesEmission m old (record { item = None; ending = e }) out new → has_ended e ≡ true → has_ended out.ending ≡ true →
    ClosesWith m current e out
chain_closes {T} m current old new more e out is moves he hf n gs v o = rw is (running_closes m n gs old new more e out v moves he hf)
