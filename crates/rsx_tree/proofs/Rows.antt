-- What a change of one edge leaves as it is: what still comes in, what was recorded, and how many nodes there are.
use Rattle.std.proofs.Common.{◌≡◌, inl, inr, ℕ, ◌+◌, ◌-◌, Bool, true, false, ◌&&◌, List, [], ◌∷◌, ◌++◌, length, map, refl, ap, sym, ◌∙◌, append_assoc, length-append, Option, Some, None, option_map, option_and_then, slice_get}
use Rattle.std.proofs.lemmas.List.{map-append}
use Rattle.rsx_types.proofs.Options.{nothing_in_front}
use Rattle.rsx_sources.specs.Prelude.{Meaning, Stream, signal_then, Note, Signal, LetsGo, TakesIn, incoming_of, in_front, in_front_at}
use Rattle.rsx_sources.specs.declared.machine.Machine.{Ghosts as Machine}
use Rattle.rsx_tree.specs.declared.edge.Edge.{Edge}
use Rattle.rsx_tree.specs.declared.inputs.Inputs.{Inputs, End, More'}
use Rattle.rsx_tree.specs.Edges.{closed_view}
use Rattle.rsx_tree.specs.Inputs.{size, edges, notes_of, comes_in, through, out_of, beside_of, is_own, closed_row, closed_row_if}
use Rattle.rsx_tree.proofs.Closes.{size_closed, size_closed_if}
use Rattle.rsx_tree.specs.Changed.{Change, IsChanged, IsSentOver, IsPassedOn}

pub then_same : {A B : Type 0} (f g : A → Option B) → ((a : A) → f a ≡ g a) → (o : Option A) → option_and_then f o ≡ option_and_then g o
then_same f g e None = refl
then_same f g e (Some a) = e a

-- ---- a closed row

pub notes_closed : {M T : Type 0} (b : Machine M T) (t : Inputs M) → notes_of b (closed_row t) ≡ notes_of b t
notes_closed b End = refl
notes_closed b (More' e n p below q beside) = rw (notes_closed b below, notes_closed b beside) refl

pub notes_closed_if : {M T : Type 0} (b : Machine M T) (c : Bool) (t : Inputs M) → notes_of b (closed_row_if c t) ≡ notes_of b t
notes_closed_if b true t = notes_closed b t
notes_closed_if b false t = refl

pub comes_in_closed : {M T : Type 0} (b : Machine M T) (m : Meaning T) (hubs : List (Stream T)) (further : List Note) (t : Inputs M) (at : ℕ) → comes_in b m hubs further (closed_row t) at ≡ comes_in b m hubs further t at
comes_in_closed b m hubs further End at = refl
comes_in_closed b m hubs further (More' e n p below q beside) at = rw (comes_in_closed b m hubs further below (at + 1), size_closed below, comes_in_closed b m hubs further beside (at + 1 + size below)) refl

pub comes_in_closed_if : {M T : Type 0} (b : Machine M T) (m : Meaning T) (hubs : List (Stream T)) (further : List Note) (c : Bool) (t : Inputs M) (at : ℕ) → comes_in b m hubs further (closed_row_if c t) at ≡ comes_in b m hubs further t at
comes_in_closed_if b m hubs further true t at = comes_in_closed b m hubs further t at
comes_in_closed_if b m hubs further false t at = refl

pub edges_closed : {M : Type 0} (t : Inputs M) → edges (closed_row t) ≡ map closed_view (edges t)
edges_closed End = refl
edges_closed (More' e n p below q beside) = rw (edges_closed below, edges_closed beside, map-append closed_view (edges below) (edges beside)) refl

-- ---- a signal that leaves one node and comes into another

-- the same signal in front of the value of input `i`
in_front_others : {T : Type 0} (before : List (Stream T)) (s : Signal T) (v : Stream T) (vs : List (Stream T)) → in_front_at (length before) s (before ++ v ∷ vs) ≡ before ++ signal_then s v ∷ vs
in_front_others [] s v vs = refl
in_front_others (w ∷ ws) s v vs = ap (λ l. w ∷ l) (in_front_others ws s v vs)

in_front_incoming : {T : Type 0} (hubs : List (Stream T)) (before : List (Stream T)) (s : Signal T) (v : Stream T) (vs : List (Stream T)) → in_front (length before) s (incoming_of hubs (before ++ v ∷ vs)) ≡ incoming_of hubs (before ++ signal_then s v ∷ vs)
in_front_incoming hubs [] s v vs = refl
in_front_incoming hubs (w ∷ ws) s v vs = ap (λ l. record { hubs = hubs; first = w; others = l }) (in_front_others ws s v vs)

pub out_lets_go : {M T : Type 0} (b : Machine M T) (m : Meaning T) (hubs : List (Stream T)) (n n' : M) (s : Signal T) → LetsGo (b.comes_out m) n s n' → (o : Option (List (Stream T))) (k : Option Note) → out_of b m hubs n o k ≡ option_map (signal_then s) (out_of b m hubs n' o k)
out_lets_go b m hubs n n' s h o None = refl
out_lets_go b m hubs n n' s h None (Some k) = refl
out_lets_go b m hubs n n' s h (Some vs) (Some k) = h (incoming_of hubs vs) k

comes_over : {M T : Type 0} (b : Machine M T) (m : Meaning T) (hubs : List (Stream T)) (r r' : M) (i : ℕ) (s : Signal T) → TakesIn (b.comes_out m) r i s r' → (before : List (Stream T)) → length before ≡ i → (o : Option (Stream T)) (os : Option (List (Stream T))) (k : Note) →
    through b m hubs r' (option_map (λ vs. before ++ vs) (beside_of o os)) k ≡ through b m hubs r (option_map (λ vs. before ++ vs) (beside_of (option_map (signal_then s) o) os)) k
comes_over b m hubs r r' i s h before len None os k = refl
comes_over b m hubs r r' i s h before len (Some v) None k = refl
comes_over {M} {T} b m hubs r r' i s h before len (Some v) (Some vs) k =
    h (incoming_of hubs (before ++ v ∷ vs)) k
    ∙ ap (λ inc. b.comes_out m r inc k) (ap (λ j. in_front j s (incoming_of hubs (before ++ v ∷ vs))) (sym len) ∙ in_front_incoming hubs before s v vs)

-- ---- a Send in a row

map_more : {A : Type 0} (before : List A) (v : A) (o : Option (List A)) → option_map (λ vs. before ++ vs) (beside_of (Some v) o) ≡ option_map (λ vs. (before ++ v ∷ []) ++ vs) o
map_more before v None = refl
map_more before v (Some vs) = ap Some (sym (append_assoc before (v ∷ []) vs))

-- what is left of a Send once its sender recorded what goes with the signal: that came out of the sender, and into the receiver
pub record IsGoneOver {M T : Type 0} (b : Machine M T) (m : Meaning T) (r : M) (i asked sent : ℕ) (e : Edge) (n r' : M) (e' : Edge) (n' : M) : Type 0 where
  pub signal : Signal T
  pub gone : LetsGo (b.comes_out m) n signal n'
  pub taken : TakesIn (b.comes_out m) r i signal r'
  pub receiver : b.recorded r' ≡ b.recorded r
  pub sender : b.recorded n' ≡ b.recorded n

pub size_changed : {M : Type 0} (P : Change M) (ends : M → Bool) (r : M) (i asked sent : ℕ) (t : Inputs M) (at : ℕ) (r' : M) (t' : Inputs M) → IsChanged P ends r i asked sent t at r' t' → size t' ≡ size t
size_changed P ends r i asked sent End at r' t' h = absurd h
size_changed P ends r i asked sent (More' e n p below q beside) at r' t' h = elim h [
  | inl x ↦ ap size x.new_is
  | inr y ↦ elim y [
    | inl x ↦ ap size x.new_is ∙ ap (λ k. k + size beside + 1) (size_closed_if _ x.mid ∙ size_changed P ends n 0 e.demand.asked e.demand.sent below (at - 1) x.n' x.mid x.made)
    | inr x ↦ ap size x.new_is ∙ ap (λ k. size below + k + 1) (size_changed P ends r (i + 1) asked sent beside (at - 1 - size below) r' x.beside' x.made)
  ]
]

pub size_sent : {M T : Type 0} (b : Machine M T) (m : Meaning T) (ends : M → Bool) (r : M) (i asked sent : ℕ) (t : Inputs M) (at : ℕ) (r' : M) (t' : Inputs M) → IsChanged (IsSentOver b m) ends r i asked sent t at r' t' → size t' ≡ size t
size_sent b m ends r i asked sent t at r' t' h = size_changed (IsSentOver b m) ends r i asked sent t at r' t' h

pub recorded_sent : {M T : Type 0} (b : Machine M T) (m : Meaning T) (ends : M → Bool) (r : M) (i asked sent : ℕ) (t : Inputs M) (at : ℕ) (r' : M) (t' : Inputs M) → IsChanged (IsGoneOver b m) ends r i asked sent t at r' t' → b.recorded r' ≡ b.recorded r
recorded_sent b m ends r i asked sent End at r' t' h = absurd h
recorded_sent b m ends r i asked sent (More' e n p below q beside) at r' t' h = elim h [
  | inl x ↦ x.made.receiver
  | inr y ↦ elim y [ inl x ↦ ap (λ s. b.recorded s) x.receiver | inr x ↦ recorded_sent b m ends r (i + 1) asked sent beside (at - 1 - size below) r' x.beside' x.made ]
]

pub notes_sent : {M T : Type 0} (b : Machine M T) (m : Meaning T) (ends : M → Bool) (r : M) (i asked sent : ℕ) (t : Inputs M) (at : ℕ) (r' : M) (t' : Inputs M) → IsChanged (IsGoneOver b m) ends r i asked sent t at r' t' → notes_of b t' ≡ notes_of b t
notes_sent b m ends r i asked sent End at r' t' h = absurd h
notes_sent b m ends r i asked sent (More' e n p below q beside) at r' t' h = elim h [
  | inl x ↦ ap (notes_of b) x.new_is ∙ ap (λ k. k ∷ (notes_of b below ++ notes_of b beside)) x.made.sender
  | inr y ↦ elim y [
    | inl x ↦ ap (notes_of b) x.new_is
        ∙ (ap (λ k. k ∷ (notes_of b (closed_row_if (ends x.n' && is_own below (at - 1)) x.mid) ++ notes_of b beside)) (recorded_sent b m ends n 0 e.demand.asked e.demand.sent below (at - 1) x.n' x.mid x.made)
        ∙ ap (λ l. b.recorded n ∷ (l ++ notes_of b beside)) (notes_closed_if b _ x.mid ∙ notes_sent b m ends n 0 e.demand.asked e.demand.sent below (at - 1) x.n' x.mid x.made))
    | inr x ↦ ap (notes_of b) x.new_is ∙ ap (λ l. b.recorded n ∷ (notes_of b below ++ l)) (notes_sent b m ends r (i + 1) asked sent beside (at - 1 - size below) r' x.beside' x.made)
  ]
]

pub passed_on : {M T : Type 0} (b : Machine M T) (m : Meaning T) (ends : M → Bool) (r : M) (i asked sent : ℕ) (t : Inputs M) (at : ℕ) (r' : M) (t' : Inputs M) → IsChanged (IsGoneOver b m) ends r i asked sent t at r' t' → IsPassedOn b m i r t r' t'
passed_on b m ends r i asked sent End at r' t' h before len hubs further pos k = absurd h
passed_on {M} {T} b m ends r i asked sent (More' e n p below q beside) at r' t' h before len hubs further pos k = elim h [
  | inl x ↦
      let X = comes_in b m hubs further below (pos + 1) in
      let Y = comes_in b m hubs further beside (pos + 1 + size below) in
      let kk = slice_get further pos in
      ap (λ u. through b m hubs r' (option_map (λ vs. before ++ vs) (comes_in b m hubs further u pos)) k) x.new_is
      ∙ (comes_over b m hubs r r' i x.made.signal x.made.taken before len (out_of b m hubs x.n' X kk) Y k
      ∙ ap (λ o. through b m hubs r (option_map (λ vs. before ++ vs) (beside_of o Y)) k) (sym (out_lets_go b m hubs n x.n' x.made.signal x.made.gone X kk)))
  | inr y ↦ elim y [
    | inl x ↦
        let shut = closed_row_if (ends x.n' && is_own below (at - 1)) x.mid in
        let kk = slice_get further pos in
        let made = x.made in
        let rec = passed_on b m ends n 0 e.demand.asked e.demand.sent below (at - 1) x.n' x.mid made in
        let same_size : size shut ≡ size below = size_closed_if _ x.mid ∙ size_changed (IsGoneOver b m) ends n 0 e.demand.asked e.demand.sent below (at - 1) x.n' x.mid made in
        let same_in : comes_in b m hubs further shut (pos + 1) ≡ comes_in b m hubs further x.mid (pos + 1) = comes_in_closed_if b m hubs further _ x.mid (pos + 1) in
        let same_out : out_of b m hubs x.n' (comes_in b m hubs further x.mid (pos + 1)) kk ≡ out_of b m hubs n (comes_in b m hubs further below (pos + 1)) kk =
        then_same _ _ (λ c. ap (λ o. through b m hubs x.n' o c) (sym (nothing_in_front (comes_in b m hubs further x.mid (pos + 1)))) ∙ (rec [] refl hubs further (pos + 1) c ∙ ap (λ o. through b m hubs n o c) (nothing_in_front (comes_in b m hubs further below (pos + 1))))) kk in
        ap (λ u. through b m hubs r' (option_map (λ vs. before ++ vs) (comes_in b m hubs further u pos)) k) x.new_is
        ∙ (ap (λ z. through b m hubs z (option_map (λ vs. before ++ vs) (beside_of (out_of b m hubs x.n' (comes_in b m hubs further shut (pos + 1)) kk) (comes_in b m hubs further beside (pos + 1 + size shut)))) k) x.receiver
        ∙ (ap (λ z. through b m hubs r (option_map (λ vs. before ++ vs) (beside_of (out_of b m hubs x.n' (comes_in b m hubs further shut (pos + 1)) kk) (comes_in b m hubs further beside (pos + 1 + z)))) k) same_size
        ∙ ap (λ z. through b m hubs r (option_map (λ vs. before ++ vs) (beside_of z (comes_in b m hubs further beside (pos + 1 + size below)))) k) (ap (λ o. out_of b m hubs x.n' o kk) same_in ∙ same_out)))
    | inr x ↦
        let o = out_of b m hubs n (comes_in b m hubs further below (pos + 1)) (slice_get further pos) in
        ap (λ u. through b m hubs r' (option_map (λ vs. before ++ vs) (comes_in b m hubs further u pos)) k) x.new_is
        ∙ further_on b m i r r' beside x.beside' (passed_on b m ends r (i + 1) asked sent beside (at - 1 - size below) r' x.beside' x.made) before len hubs further (pos + 1 + size below) k o
  ]
]
  where
    further_on : {M T : Type 0} (b : Machine M T) (m : Meaning T) (i : ℕ) (r r' : M) (u u' : Inputs M) → IsPassedOn b m (i + 1) r u r' u' → (before : List (Stream T)) → length before ≡ i → (hubs : List (Stream T)) (further : List Note) (pos : ℕ) (k : Note) (o : Option (Stream T)) →
        through b m hubs r' (option_map (λ vs. before ++ vs) (beside_of o (comes_in b m hubs further u' pos))) k ≡ through b m hubs r (option_map (λ vs. before ++ vs) (beside_of o (comes_in b m hubs further u pos))) k
    further_on b m i r r' u u' h before len hubs further pos k None = refl
    further_on b m i r r' u u' h before len hubs further pos k (Some v) =
        ap (λ z. through b m hubs r' z k) (map_more before v (comes_in b m hubs further u' pos))
        ∙ (h (before ++ v ∷ []) (length-append before (v ∷ []) ∙ ap (λ j. j + 1) len) hubs further pos k
        ∙ ap (λ z. through b m hubs r z k) (sym (map_more before v (comes_in b m hubs further u pos))))
