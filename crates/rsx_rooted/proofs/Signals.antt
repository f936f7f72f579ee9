-- Lists of signals: endings, items, and what stands in front of a stream value.
use Rattle.std.proofs.Common.{◌≡◌, List, [], ◌∷◌, ◌++◌, refl, ap, sym, ◌∙◌, Option, Some, None, option_map}
use Rattle.std.proofs.lemmas.List.{append-nil}
use Rattle.rsx_sources.specs.Prelude.{Stream, signal_then, signals_then, Signal, Next, Complete, Error}
use Rattle.rsx_rooted.specs.Output.{items_in, IsUnended, IsOrderly, IsPrefixOf}

-- what something follows has no ending
pub unended_before : {T : Type 0} (a : List (Signal T)) (s : Signal T) (b : List (Signal T)) → IsOrderly (a ++ s ∷ b) → IsUnended a
unended_before [] s b h = tt
unended_before (Next x ∷ a) s b h = unended_before a s b h
unended_before (Complete ∷ []) s b h = cc
unended_before (Complete ∷ (t ∷ a)) s b h = cc
unended_before (Error c ∷ []) s b h = cc
unended_before (Error c ∷ (t ∷ a)) s b h = cc

-- one more signal behind those that have no ending
pub IsOrderly-more : {T : Type 0} (a : List (Signal T)) (s : Signal T) → IsUnended a → IsOrderly (a ++ s ∷ [])
IsOrderly-more [] (Next x) h = tt
IsOrderly-more [] Complete h = refl
IsOrderly-more [] (Error c) h = refl
IsOrderly-more (Next x ∷ a) s h = IsOrderly-more a s h
IsOrderly-more (Complete ∷ a) s h = absurd h
IsOrderly-more (Error c ∷ a) s h = absurd h

pub IsUnended-more : {T : Type 0} (a : List (Signal T)) (x : T) → IsUnended a → IsUnended (a ++ Next x ∷ [])
IsUnended-more [] x h = tt
IsUnended-more (Next y ∷ a) x h = IsUnended-more a x h
IsUnended-more (Complete ∷ a) x h = h
IsUnended-more (Error c ∷ a) x h = h

-- the last signal of those without an ending is an item
pub IsUnended-last : {T : Type 0} (a : List (Signal T)) (s : Signal T) → IsUnended (a ++ s ∷ []) → (x : T) × (s ≡ Next x)
IsUnended-last [] (Next x) h = (x, refl)
IsUnended-last [] Complete h = absurd h
IsUnended-last [] (Error c) h = absurd h
IsUnended-last (Next y ∷ a) s h = IsUnended-last a s h
IsUnended-last (Complete ∷ a) s h = absurd h
IsUnended-last (Error c ∷ a) s h = absurd h

pub IsUnended-front : {T : Type 0} (a b : List (Signal T)) → IsUnended (a ++ b) → IsUnended a
IsUnended-front [] b h = tt
IsUnended-front (Next y ∷ a) b h = IsUnended-front a b h
IsUnended-front (Complete ∷ a) b h = absurd h
IsUnended-front (Error c ∷ a) b h = absurd h

pub signals_then-append : {T : Type 0} (a b : List (Signal T)) (v : Stream T) → signals_then (a ++ b) v ≡ signals_then a (signals_then b v)
signals_then-append [] b v = refl
signals_then-append (s ∷ a) b v = ap (λ w. signal_then s w) (signals_then-append a b v)

pub items_in-append : {T : Type 0} (a b : List (Signal T)) → items_in (a ++ b) ≡ items_in a ++ items_in b
items_in-append [] b = refl
items_in-append (Next x ∷ a) b = ap (λ l. x ∷ l) (items_in-append a b)
items_in-append (Complete ∷ a) b = items_in-append a b
items_in-append (Error c ∷ a) b = items_in-append a b

pub some_same : {A : Type 0} (a b : A) → Some a ≡ Some b → a ≡ b
some_same a b e = cc

-- two lists of signals in front, one behind the other
pub map_then-append : {T : Type 0} (a b : List (Signal T)) (o : Option (Stream T)) → option_map (signals_then (a ++ b)) o ≡ option_map (signals_then a) (option_map (signals_then b) o)
map_then-append a b None = refl
map_then-append a b (Some v) = ap Some (signals_then-append a b v)

pub map_then-last : {T : Type 0} (a : List (Signal T)) (s : Signal T) (o : Option (Stream T)) → option_map (signals_then (a ++ s ∷ [])) o ≡ option_map (signals_then a) (option_map (signal_then s) o)
map_then-last a s None = refl
map_then-last a s (Some v) = ap Some (signals_then-append a (s ∷ []) v)

-- the items of an orderly list begin every value that has the list in front
pub prefix_orderly : {T : Type 0} (a : List (Signal T)) (v : Stream T) → IsOrderly a → IsPrefixOf (items_in a) (signals_then a v).items
prefix_orderly [] v h = (v.items, refl)
prefix_orderly (Next x ∷ a) v h = let r = prefix_orderly a v h in (r.0, ap (λ l. x ∷ l) r.1)
prefix_orderly (Complete ∷ a) v h = ([], append-nil (items_in a) ∙ ap items_in h)
prefix_orderly (Error c ∷ a) v h = ([], append-nil (items_in a) ∙ ap items_in h)

-- an ending in front cuts what follows
pub cut_items : {T : Type 0} (a : List (Signal T)) (w : Stream T) → IsOrderly a → (IsUnended a → ⊥) → (signals_then a w).items ≡ items_in a
cut_items [] w o n = absurd (n tt)
cut_items (Next x ∷ a) w o n = ap (λ l. x ∷ l) (cut_items a w o n)
cut_items (Complete ∷ a) w o n = ap items_in (sym o)
cut_items (Error c ∷ a) w o n = ap items_in (sym o)

pub cut_value : {T : Type 0} (a : List (Signal T)) (o : Option (Stream T)) (v : Stream T) → IsOrderly a → (IsUnended a → ⊥) → option_map (signals_then a) o ≡ Some v → items_in a ≡ v.items
cut_value a None v ord n e = cc
cut_value a (Some w) v ord n e = sym (cut_items a w ord n) ∙ ap (λ s. s.items) (some_same (signals_then a w) v e)

pub prefix_of_orderly : {T : Type 0} (a : List (Signal T)) (o : Option (Stream T)) (v : Stream T) → IsOrderly a → option_map (signals_then a) o ≡ Some v → IsPrefixOf (items_in a) v.items
prefix_of_orderly a None v h e = cc
prefix_of_orderly a (Some w) v h e = rw (sym (some_same (signals_then a w) v e)) (prefix_orderly a w h)
