-- A tree gives the same over values of the hubs that agree on those that it reads; and what a run of it says of what it stands for.
use Rattle.std.proofs.Common.{◌≡◌, inl, inr, ℕ, zero, suc, ◌+◌, List, [], ◌∷◌, ◌++◌, refl, ap, sym, ◌∙◌, subst, Option, Some, None, option_map, slice_get}
use Rattle.rsx_sources.specs.Prelude.{Meaning, notes_then, Stream, item_then, signals, signals_then, Next, Complete, Error, Note, Signal, Reading, published_at}
use Rattle.rsx_sources.specs.Reading.{origin_of}
use Rattle.rsx_sources.specs.declared.machine.Machine.{Ghosts as Machine}
use Rattle.rsx_tree.specs.declared.inputs.Inputs.{Inputs, End, More'}
use Rattle.rsx_tree.specs.declared.node.Node.{Node}
use Rattle.rsx_tree.specs.Inputs.{size, comes_in, out_of, beside_of, through}
use Rattle.rsx_tree.specs.Reads.{AllGoOn, GoesOn, readings, row_readings}
use Rattle.rsx_tree.specs.Tree.{comes_out, notes}
use Rattle.rsx_rooted.specs.Flow.{AreFor, Flows, IsSameOver}
use Rattle.rsx_rooted.specs.Local.{AgreeAt, AgreeOn, AllOf, IsLocal, IsOf, ReadsNot, filled, stream_of}
use Rattle.rsx_rooted.proofs.Linked.{then_append}

agree : {T : Type 0} (P : ℕ → Type 0) (hubs others : List (Stream T)) (o : Option Reading) → AgreeOn P hubs others → IsOf P o → AgreeAt hubs others o
agree P hubs others None a k = tt
agree P hubs others (Some r) a k = a r.hub k

through_same : {M T : Type 0} (b : Machine M T) (m : Meaning T) (n : M) (hubs others : List (Stream T)) → IsLocal b m → AgreeAt hubs others (b.reads n) → (o : Option (List (Stream T))) (k : Note) → through b m hubs n o k ≡ through b m others n o k
through_same b m n hubs others local a None k = refl
through_same b m n hubs others local a (Some vs) k = local n hubs others vs k a

out_same : {M T : Type 0} (b : Machine M T) (m : Meaning T) (n : M) (hubs others : List (Stream T)) → IsLocal b m → AgreeAt hubs others (b.reads n) → (o : Option (List (Stream T))) (k : Option Note) → out_of b m hubs n o k ≡ out_of b m others n o k
out_same b m n hubs others local a o None = refl
out_same b m n hubs others local a o (Some k) = through_same b m n hubs others local a o k

all_parts : (P : ℕ → Type 0) (xs ys : List (Option Reading)) → AllOf P (xs ++ ys) → AllOf P xs × AllOf P ys
all_parts P [] ys h = (tt, h)
all_parts P (x ∷ xs) ys h = let k = all_parts P xs ys h.1 in ((h.0, k.0), k.1)

row_same : {M T : Type 0} (b : Machine M T) (m : Meaning T) (P : ℕ → Type 0) (hubs others : List (Stream T)) → IsLocal b m → AgreeOn P hubs others → (f : List Note) (t : Inputs M) (at : ℕ) → AllOf P (row_readings b t) → comes_in b m hubs f t at ≡ comes_in b m others f t at
row_same b m P hubs others local a f End at k = refl
row_same {M} {T} b m P hubs others local a f (More' e n p below q beside) at k =
    let parts = all_parts P (row_readings b below) (row_readings b beside) k.1 in
    let down = row_same b m P hubs others local a f below (at + 1) parts.0 in
    let side = row_same b m P hubs others local a f beside (at + 1 + size below) parts.1 in
    ap (λ o. beside_of (out_of b m hubs n o (slice_get f at)) (comes_in b m hubs f beside (at + 1 + size below))) down
    ∙ (ap (λ o. beside_of o (comes_in b m hubs f beside (at + 1 + size below))) (out_same b m n hubs others local (agree P hubs others (b.reads n) a k.0) (comes_in b m others f below (at + 1)) (slice_get f at))
    ∙ ap (λ o. beside_of (out_of b m others n (comes_in b m others f below (at + 1)) (slice_get f at)) o) side)

pub tree_same : {M T : Type 0} (b : Machine M T) (m : Meaning T) (P : ℕ → Type 0) (hubs others : List (Stream T)) (t : Node M) → IsLocal b m → AgreeOn P hubs others → AllOf P (readings b t) → IsSameOver b m hubs others t
tree_same b m P hubs others t local a k f =
    ap (λ o. out_of b m hubs t.machine o (slice_get f 0)) (row_same b m P hubs others local a f t.inputs (0 + 1) k.1)
    ∙ out_same b m t.machine hubs others local (agree P hubs others (b.reads t.machine) a k.0) (comes_in b m others f t.inputs (0 + 1)) (slice_get f 0)

-- where each node reads what it read, or nothing any more, none reads a hub that none read
pub reads_not_on : (P : ℕ → Type 0) (os ns : List (Option Reading)) → AllGoOn os ns → AllOf P os → AllOf P ns
reads_not_on P [] [] h k = tt
reads_not_on P [] (n ∷ ns) h k = absurd h
reads_not_on P (o ∷ os) [] h k = absurd h
reads_not_on P (o ∷ os) (n ∷ ns) h k = (one o n h.0 k.0, reads_not_on P os ns h.1 k.1)
  where
    same_hub : (r w : Reading) → Some (origin_of w) ≡ Some (origin_of r) → r.hub ≡ w.hub
    same_hub r w e = let same : origin_of w ≡ origin_of r = cc in ap (λ o. o.hub) (sym same)

    one : (o n : Option Reading) → GoesOn o n → IsOf P o → IsOf P n
    one o None g k = tt
    one None (Some w) g k = elim g [ inl e ↦ cc | inr e ↦ cc ]
    one (Some r) (Some w) g k = elim g [ inl e ↦ subst P (same_hub r w e) k | inr e ↦ cc ]

-- ---- what a tree stands for

map_two : {T : Type 0} (xs ys : List (Signal T)) (o : Option (Stream T)) → option_map (signals_then (xs ++ ys)) o ≡ option_map (signals_then xs) (option_map (signals_then ys) o)
map_two xs ys None = refl
map_two xs ys (Some v) = ap Some (then_append xs ys v)

-- where a tree stood for a value, the second tree stands for it with what went out besides. For the tree of an expression the value is that
-- of the expression, from scratch.
pub flows_stands : {M T : Type 0} (b : Machine M T) (m : Meaning T) (Fits : List (Stream T) → Type 0) (value : List (Stream T) → List Note → Option (Stream T)) (old new : Node M) (output went : List (Signal T)) →
    ((hubs : List (Stream T)) (further : List Note) → Fits hubs → AreFor b old further → option_map (signals_then output) (comes_out b m hubs further old 0) ≡ value hubs (notes_then (notes b old) further)) →
    Flows b m Fits old new went →
    (hubs : List (Stream T)) (further : List Note) → Fits hubs → AreFor b new further → option_map (signals_then (output ++ went)) (comes_out b m hubs further new 0) ≡ value hubs (notes_then (notes b new) further)
flows_stands b m Fits value old new output went stood h hubs further fits len =
    map_two output went (comes_out b m hubs further new 0)
    ∙ (ap (option_map (signals_then output)) (sym (h.value hubs further fits len))
    ∙ (stood hubs (h.choose further) fits (h.count further len ∙ (len ∙ h.nodes)) ∙ ap (λ ns. value hubs ns) (sym (h.notes further len))))

-- ---- a link's value among those of the hubs

pub filled_there : {T : Type 0} (k : ℕ) (v : Stream T) (hubs : List (Stream T)) → published_at (filled k v hubs) k ≡ v
filled_there zero v [] = refl
filled_there zero v (w ∷ ws) = refl
filled_there (suc k) v [] = filled_there k v []
filled_there (suc k) v (w ∷ ws) = filled_there k v ws

pub filled_other : {T : Type 0} (k : ℕ) (v : Stream T) (hubs : List (Stream T)) (i : ℕ) → (i ≡ k → ⊥) → published_at (filled k v hubs) i ≡ published_at hubs i
filled_other zero v [] zero n = absurd (n refl)
filled_other zero v [] (suc i) n = refl
filled_other zero v (w ∷ ws) zero n = absurd (n refl)
filled_other zero v (w ∷ ws) (suc i) n = refl
filled_other (suc k) v [] zero n = refl
filled_other (suc k) v [] (suc i) n = filled_other k v [] i (λ e. n (ap suc e))
filled_other (suc k) v (w ∷ ws) zero n = refl
filled_other (suc k) v (w ∷ ws) (suc i) n = filled_other k v ws i (λ e. n (ap suc e))

-- a tree in which no node reads the link gives the same, whatever the link's value
pub filled_same : {M T : Type 0} (b : Machine M T) (m : Meaning T) (k : ℕ) (v : Stream T) (hubs : List (Stream T)) (t : Node M) → IsLocal b m → ReadsNot b k t → IsSameOver b m hubs (filled k v hubs) t
filled_same b m k v hubs t local free = tree_same b m (λ i. i ≡ k → ⊥) hubs (filled k v hubs) t local (λ i n. sym (filled_other k v hubs i n)) free

-- what came over a link, and then what comes
pub stream_then : {T : Type 0} (ss : List (Signal T)) (more : Stream T) → signals_then ss more ≡ signals_then (signals (stream_of ss)) more
stream_then [] more = refl
stream_then (Next x ∷ ss) more = ap (item_then x) (stream_then ss more)
stream_then (Complete ∷ ss) more = refl
stream_then (Error c ∷ ss) more = refl
