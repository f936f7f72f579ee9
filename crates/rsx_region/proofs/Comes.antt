-- One signal more of a link: what it makes of what was taken in.
use Rattle.std.proofs.Common.{◌≡◌, inl, inr, ℕ, zero, suc, List, [], ◌∷◌, ◌++◌, length, map, refl, ap, sym, ◌∙◌, subst, Some, slice_get}
use Rattle.std.proofs.lemmas.List.{append-nil}
use Rattle.std.proofs.lemmas.Bool.{cases_eq}
use Rattle.rsx_types.proofs.Lists.{slice_get_behind}
use Rattle.rsx_sources.specs.Prelude.{Stream, Ending, Open, Done, Failed, Signal, Next, Complete, Error, ended_by, ending_signals, item_then, items_then, published_at, signal_then, signals, signals_then, IsNextAt}
use Rattle.rsx_tree.specs.Handed.{IsNextOf}
use Rattle.rsx_tree.specs.Reads.{count_before}
use Rattle.rsx_pipe.specs.Output.{counts_in, with_signal, with_signal_at}
use Rattle.rsx_rooted.proofs.Linked.{then_append}
use Rattle.rsx_rooted.proofs.CutNodes.{items_signals}
use Rattle.rsx_rooted.specs.Local.{Begins, stream_of}
use Rattle.rsx_region.specs.Inlet.{replaced_at}

-- ---- what came

item_more : {T : Type 0} (y : T) (s : Signal T) (v : Stream T) → item_then y (with_signal s v) ≡ with_signal s (item_then y v)
item_more y (Next x) v = refl
item_more y Complete v = refl
item_more y (Error c) v = refl

pub stream_more : {T : Type 0} (rs : List (Signal T)) (s : Signal T) → (stream_of rs).ending ≡ Open → stream_of (rs ++ s ∷ []) ≡ with_signal s (stream_of rs)
stream_more [] (Next x) o = refl
stream_more [] Complete o = refl
stream_more [] (Error c) o = refl
stream_more (Next y ∷ rs) s o = ap (item_then y) (stream_more rs s o) ∙ item_more y s (stream_of rs)
stream_more (Complete ∷ rs) s o = cc
stream_more (Error c ∷ rs) s o = cc

pub replaced_signal : {T : Type 0} (h : ℕ) (s : Signal T) (taken : List (Stream T)) (v w : Stream T) → slice_get taken h ≡ Some v → w ≡ with_signal s v → replaced_at h w taken ≡ with_signal_at h s taken
replaced_signal h s [] v w at is = refl
replaced_signal zero s (t ∷ ts) v w at is = let here : t ≡ v = cc in ap (λ x. x ∷ ts) (is ∙ ap (with_signal s) (sym here))
replaced_signal (suc h) s (t ∷ ts) v w at is = ap (λ l. t ∷ l) (replaced_signal h s ts v w at is)

pub replaced_there : {A : Type 0} (h : ℕ) (a x : A) (xs : List A) → slice_get xs h ≡ Some x → slice_get (replaced_at h a xs) h ≡ Some a
replaced_there h a x [] e = cc
replaced_there zero a x (y ∷ ys) e = refl
replaced_there (suc h) a x (y ∷ ys) e = replaced_there h a x ys e

pub replaced_other : {A : Type 0} (h i : ℕ) (a : A) (xs : List A) → (i ≡ h → ⊥) → slice_get (replaced_at h a xs) i ≡ slice_get xs i
replaced_other h i a [] n = refl
replaced_other zero zero a (y ∷ ys) n = absurd (n refl)
replaced_other zero (suc i) a (y ∷ ys) n = refl
replaced_other (suc h) zero a (y ∷ ys) n = refl
replaced_other (suc h) (suc i) a (y ∷ ys) n = replaced_other h i a ys (λ e. n (ap suc e))

-- where nothing came, the list is as it was
pub replaced_same : {A : Type 0} (h : ℕ) (x : A) (xs : List A) → slice_get xs h ≡ Some x → replaced_at h x xs ≡ xs
replaced_same h x [] e = refl
replaced_same zero x (y ∷ ys) e = let here : y ≡ x = cc in ap (λ z. z ∷ ys) (sym here)
replaced_same (suc h) x (y ∷ ys) e = ap (λ l. y ∷ l) (replaced_same h x ys e)

-- ---- it goes on as long as somebody counts on

open_before : (e : Ending) (n c : ℕ) → count_before e n ≡ Some c → (e ≡ Open) × (n ≡ c)
open_before Open n c h = (refl, cc)
open_before Done n c h = cc
open_before (Failed k) n c h = cc

pub counted_open : {T : Type 0} (h c : ℕ) (taken : List (Stream T)) (v : Stream T) → slice_get (counts_in taken) h ≡ Some (Some c) → slice_get taken h ≡ Some v → (v.ending ≡ Open) × (length v.items ≡ c)
counted_open h c [] v k e = cc
counted_open {T} zero c (t ∷ ts) v k e =
    let here : t ≡ v = cc in
    let P : Stream T → Type 0 = λ x. (x.ending ≡ Open) × (length x.items ≡ c) in
    let some : count_before t.ending (length t.items) ≡ Some c = cc in
    subst P here (open_before t.ending (length t.items) c some)
counted_open (suc h) c (t ∷ ts) v k e = counted_open h c ts v k e

-- ---- the values that begin so

signal_there : {T : Type 0} (h : ℕ) (s : Signal T) (taken : List (Stream T)) (v : Stream T) → slice_get taken h ≡ Some v → slice_get (with_signal_at h s taken) h ≡ Some (with_signal s v)
signal_there h s [] v e = cc
signal_there zero s (t ∷ ts) v e = let here : t ≡ v = cc in ap (λ x. Some (with_signal s x)) here
signal_there (suc h) s (t ∷ ts) v e = signal_there h s ts v e

signal_other : {T : Type 0} (h i : ℕ) (s : Signal T) (taken : List (Stream T)) → (i ≡ h → ⊥) → slice_get (with_signal_at h s taken) i ≡ slice_get taken i
signal_other h i s [] n = refl
signal_other zero zero s (t ∷ ts) n = absurd (n refl)
signal_other zero (suc i) s (t ∷ ts) n = refl
signal_other (suc h) zero s (t ∷ ts) n = refl
signal_other (suc h) (suc i) s (t ∷ ts) n = signal_other h i s ts (λ e. n (ap suc e))

-- the items of a value, with one signal more behind them
items_last : {T : Type 0} (q : List T) (s : Signal T) (e : Ending) (more : Stream T) → e ≡ Open → signals_then (signals (with_signal s (record { items = q; ending = e }))) more ≡ items_then q (signal_then s more)
items_last {T} q (Next x) e more o =
    let P : Ending → Type 0 = λ k. signals_then (map Next (q ++ x ∷ []) ++ ending_signals k) more ≡ items_then q (item_then x more) in
    subst P (sym o) (ap (λ l. signals_then l more) (append-nil (map Next (q ++ x ∷ []))) ∙ (sym (items_signals (q ++ x ∷ []) more) ∙ items_one q x more))
  where
    items_one : {T : Type 0} (q : List T) (x : T) (more : Stream T) → items_then (q ++ x ∷ []) more ≡ items_then q (item_then x more)
    items_one [] x more = refl
    items_one (y ∷ q) x more = ap (item_then y) (items_one q x more)
items_last q Complete e more o = then_append (map Next q) (Complete ∷ []) more ∙ sym (items_signals q (ended_by Done))
items_last q (Error c) e more o = then_append (map Next q) (Error c ∷ []) more ∙ sym (items_signals q (ended_by (Failed c)))

items_open : {T : Type 0} (v w : Stream T) → v.ending ≡ Open → signals_then (signals v) w ≡ items_then v.items w
items_open v w o = ap (λ e. signals_then (map Next v.items ++ ending_signals e) w) o ∙ (ap (λ l. signals_then l w) (append-nil (map Next v.items)) ∙ sym (items_signals v.items w))

next_behind : {T : Type 0} (q : List T) (s : Signal T) (more : Stream T) → IsNextAt (length q) (items_then q (signal_then s more)) s
next_behind q (Next x) more = slice_get_behind q x more.items
next_behind q Complete more = (ap length (append-nil q), refl)
next_behind q (Error c) more = (ap length (append-nil q), refl)

-- Where this signal of the hub h comes next, the values of the hubs that begin with it begin with what was taken in before, and in each
-- of them it comes next.
pub begins_next : {T : Type 0} (h : ℕ) (s : Signal T) (taken : List (Stream T)) (v : Stream T) → slice_get taken h ≡ Some v → v.ending ≡ Open → (hubs : List (Stream T)) → Begins (with_signal_at h s taken) hubs → Begins taken hubs × IsNextOf (counts_in taken) hubs h s
begins_next {T} h s taken v at o hubs fits =
    let w = fits h (with_signal s v) (signal_there h s taken v at) in
    let whole : published_at hubs h ≡ items_then v.items (signal_then s w.0) = w.1 ∙ items_last v.items s v.ending w.0 o in (
      λ i t there. elim (cases_eq i h) [
        | inl e ↦
            let same : t ≡ v = let k : slice_get taken h ≡ Some t = ap (λ j. slice_get taken j) (sym e) ∙ there in cc in
            let P : Stream T → Type 0 = λ x. published_at hubs i ≡ signals_then (signals x) (signal_then s w.0) in
            (signal_then s w.0, subst P (sym same) (ap (published_at hubs) e ∙ (whole ∙ sym (items_open v (signal_then s w.0) o))))
        | inr n ↦ fits i t (signal_other h i s taken n ∙ there)
      ],
      λ c counted.
          let k = counted_open h c taken v counted at in
          let P : Stream T → ℕ → Type 0 = λ x n. IsNextAt n x s in
          let Q : ℕ → Type 0 = λ n. P (published_at hubs h) n in
          let R : Stream T → Type 0 = λ x. P x (length v.items) in
          subst Q k.1 (subst R (sym whole) (next_behind v.items s w.0)),
    )
