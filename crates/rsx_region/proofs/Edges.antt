-- The edge over which the reader of a link sends: no step of a piece takes back what was asked over it, or makes it live again.
use Rattle.std.proofs.Common.{◌≡◌, inl, inr, ℕ, suc, ◌+◌, ◌≤◌, Bool, true, false, nat_eq, if◌then◌else◌, List, [], ◌∷◌, ◌++◌, length, map, length-append, refl, ap, sym, ◌∙◌, subst, arith, Option, Some, None, option_map, slice_get}
use Rattle.std.specs.List.{AllZip}
use Rattle.std.specs.Option.{option_or}
use Rattle.rsx_sources.specs.Prelude.{Stream, Reading, reads_hub}
use Rattle.rsx_sources.specs.Reading.{origin_of}
use Rattle.rsx_sources.specs.declared.machine.Machine.{Ghosts as Machine}
use Rattle.rsx_tree.specs.Edges.{EdgeView, closed_state, closed_view, edge_view, is_live}
use Rattle.rsx_tree.specs.Handed.{reader_edge_in}
use Rattle.rsx_tree.specs.Inputs.{edges}
use Rattle.rsx_tree.specs.Reads.{AllGoOn, GoesOn, readings, row_readings}
use Rattle.rsx_tree.specs.declared.edge.Edge.{Edge}
use Rattle.rsx_tree.specs.declared.edge.EdgeState.{EdgeState}
use Rattle.rsx_tree.specs.declared.edge.EdgeState.TheVariants.{Live, Closed, Ended}
use Rattle.rsx_tree.specs.declared.inputs.Inputs.{Inputs, End, More'}
use Rattle.rsx_pipe.specs.Part.{Part, all_edges}
use Rattle.rsx_pipe.specs.Published.{reader_edge}
use Rattle.rsx_link.specs.Ends.{asked_total, carried_down, received_signals}
use Rattle.rsx_link.specs.Signals.{items_in}
use Rattle.rsx_link.specs.declared.cancel.CancelSeat.{CancelSeat}
use Rattle.rsx_link.specs.declared.down.Down.{Down}
use Rattle.rsx_rooted.specs.Local.{stream_of}
use Rattle.rsx_region.specs.Inlet.{HaveBegun, IsBegunAt, HaveReached, LinkStands, NoneReads, OneReads}

-- ---- the first edge whose node reads the hub, by the two lists in pre-order

abbrev first_view : ℕ → List (Option Reading) → List EdgeView → Option EdgeView
first_view h [] es = None
first_view h (r ∷ rs) [] = None
first_view h (r ∷ rs) (e ∷ es) = if reads_hub h r then Some e else first_view h rs es

-- the second value, where the first isn't there
or_else : {A : Type 0} → (c : Bool) (a : A) (x y : Option A) → option_or (if c then Some a else x) y ≡ (if c then Some a else option_or x y)
or_else true a x y = refl
or_else false a x y = refl

suc_same : (j k : ℕ) → suc j ≡ suc k → j ≡ k
suc_same j k e = omega (arith, e)

first_append : (h : ℕ) (rs qs : List (Option Reading)) (es fs : List EdgeView) → length rs ≡ length es → first_view h (rs ++ qs) (es ++ fs) ≡ option_or (first_view h rs es) (first_view h qs fs)
first_append h [] qs [] fs len = refl
first_append h [] qs (e ∷ es) fs len = cc
first_append h (r ∷ rs) qs [] fs len = cc
first_append h (r ∷ rs) qs (e ∷ es) fs len =
    ap (λ o. if reads_hub h r then Some e else o) (first_append h rs qs es fs (suc_same (length rs) (length es) len)) ∙ sym (or_else (reads_hub h r) e (first_view h rs es) (first_view h qs fs))

same_length : {M T : Type 0} (b : Machine M T) (t : Inputs M) → length (row_readings b t) ≡ length (edges t)
same_length b End = refl
same_length b (More' e n p below q beside) =
    ap suc (length-append (row_readings b below) (row_readings b beside) ∙ (ap (λ k. k + length (row_readings b beside)) (same_length b below) ∙ (ap (λ k. length (edges below) + k) (same_length b beside) ∙ sym (length-append (edges below) (edges beside)))))

map_or : {A B : Type 0} (f : A → B) (x y : Option A) → option_map f (option_or x y) ≡ option_or (option_map f x) (option_map f y)
map_or f None y = refl
map_or f (Some a) y = refl

map_if : {A B : Type 0} (f : A → B) (c : Bool) (a : A) (x : Option A) → option_map f (if c then Some a else x) ≡ (if c then Some (f a) else option_map f x)
map_if f true a x = refl
map_if f false a x = refl

row_first : {M T : Type 0} (b : Machine M T) (h : ℕ) (t : Inputs M) → option_map edge_view (reader_edge_in b h t) ≡ first_view h (row_readings b t) (edges t)
row_first b h End = refl
row_first b h (More' e n p below q beside) =
    map_if edge_view (reads_hub h (b.reads n)) e (option_or (reader_edge_in b h below) (reader_edge_in b h beside))
    ∙ ap (λ o. if reads_hub h (b.reads n) then Some (edge_view e) else o) (map_or edge_view (reader_edge_in b h below) (reader_edge_in b h beside)
    ∙ (ap (λ o. option_or o (option_map edge_view (reader_edge_in b h beside))) (row_first b h below)
    ∙ (ap (λ o. option_or (first_view h (row_readings b below) (edges below)) o) (row_first b h beside)
    ∙ sym (first_append h (row_readings b below) (row_readings b beside) (edges below) (edges beside) (same_length b below)))))

part_first : {M T : Type 0} (b : Machine M T) (h : ℕ) (p : Part M) → option_map edge_view (reader_edge b h p) ≡ first_view h (readings b p.tree) (all_edges p)
part_first b h p =
    map_if edge_view (reads_hub h (b.reads p.tree.machine)) p.root (reader_edge_in b h p.tree.inputs)
    ∙ ap (λ o. if reads_hub h (b.reads p.tree.machine) then Some (edge_view p.root) else o) (row_first b h p.tree.inputs)

-- ---- edges over which no less is asked, and of which none is live again

pub record Grows (old new : EdgeView) : Type 0 where
  pub asked : old.asked ≤ new.asked
  pub dead : is_live old.state ≡ false → is_live new.state ≡ false

abbrev pub AllGrow : List EdgeView → List EdgeView → Type 0
AllGrow es fs = AllZip Grows es fs

at_most : (k : ℕ) → k ≤ k
at_most k = omega arith

pub grows_same : (e : EdgeView) → Grows e e
grows_same e = record { asked = at_most e.asked; dead = λ d. d }

pub all_grow_same : (es : List EdgeView) → AllGrow es es
all_grow_same [] = tt
all_grow_same (e ∷ es) = (grows_same e, all_grow_same es)

pub all_grow_from : (es fs : List EdgeView) → fs ≡ es → AllGrow es fs
all_grow_from es fs same = let P : List EdgeView → Type 0 = λ l. AllGrow es l in subst P (sym same) (all_grow_same es)

closed_dead : (s : EdgeState) → is_live (closed_state s) ≡ false
closed_dead Live = refl
closed_dead Ended = refl
closed_dead Closed = refl

pub all_grow_closed : (es : List EdgeView) → AllGrow es (map closed_view es)
all_grow_closed [] = tt
all_grow_closed (e ∷ es) = (record { asked = at_most e.asked; dead = λ d. closed_dead e.state }, all_grow_closed es)

pub all_grow_then : (es fs gs : List EdgeView) → AllGrow es fs → AllGrow fs gs → AllGrow es gs
all_grow_then [] [] [] h k = tt
all_grow_then [] [] (g ∷ gs) h k = absurd k
all_grow_then [] (f ∷ fs) gs h k = absurd h
all_grow_then (e ∷ es) [] gs h k = absurd h
all_grow_then (e ∷ es) (f ∷ fs) [] h k = absurd k
all_grow_then (e ∷ es) (f ∷ fs) (g ∷ gs) h k = (record { asked = more e.asked f.asked g.asked h.0.asked k.0.asked; dead = λ d. k.0.dead (h.0.dead d) }, all_grow_then es fs gs h.1 k.1)
  where
    more : (x y z : ℕ) → x ≤ y → y ≤ z → x ≤ z
    more x y z a b = omega (arith, a, b)

-- ---- who reads the hub

-- who reads the hub now read it before
reads_before : (h : ℕ) (r n : Option Reading) → GoesOn r n → reads_hub h n ≡ true → reads_hub h r ≡ true
reads_before h r None g k = cc
reads_before h None (Some w) g k = elim g [ inl e ↦ cc | inr e ↦ cc ]
reads_before h (Some q) (Some w) g k = elim g [ inl e ↦ let same : origin_of w ≡ origin_of q = cc in ap (λ o. nat_eq o.hub h) (sym same) ∙ k | inr e ↦ cc ]

no_reader : (h : ℕ) (r n : Option Reading) → GoesOn r n → reads_hub h r ≡ false → reads_hub h n ≡ false
no_reader h r n g k = by_test (reads_hub h n) refl
  where
    by_test : (c : Bool) → reads_hub h n ≡ c → reads_hub h n ≡ false
    by_test false e = e
    by_test true e = let t = reads_before h r n g e in cc

none_goes : (h : ℕ) (rs ns : List (Option Reading)) → AllGoOn rs ns → NoneReads h rs → NoneReads h ns
none_goes h [] [] g k = tt
none_goes h [] (n ∷ ns) g k = absurd g
none_goes h (r ∷ rs) [] g k = tt
none_goes h (r ∷ rs) (n ∷ ns) g k = (no_reader h r n g.0 k.0, none_goes h rs ns g.1 k.1)

pub one_goes : (h : ℕ) (rs ns : List (Option Reading)) → AllGoOn rs ns → OneReads h rs → OneReads h ns
one_goes h [] [] g k = tt
one_goes h [] (n ∷ ns) g k = absurd g
one_goes h (r ∷ rs) [] g k = tt
one_goes h (r ∷ rs) (n ∷ ns) g k = elim k [
  | inl here ↦ by_test (reads_hub h n) refl (none_goes h rs ns g.1 here.1)
  | inr there ↦ inr (no_reader h r n g.0 there.0, one_goes h rs ns g.1 there.1)
]
  where
    none_one : (h : ℕ) (ns : List (Option Reading)) → NoneReads h ns → OneReads h ns
    none_one h [] k = tt
    none_one h (n ∷ ns) k = inr (k.0, none_one h ns k.1)

    by_test : (c : Bool) → reads_hub h n ≡ c → NoneReads h ns → OneReads h (n ∷ ns)
    by_test true e k = inl (e, k)
    by_test false e k = inr (e, none_one h ns k)

begun_goes : (h z : ℕ) (rs ns : List (Option Reading)) → AllGoOn rs ns → HaveBegun h z rs → HaveBegun h z ns
begun_goes h z [] [] g k = tt
begun_goes h z [] (n ∷ ns) g k = absurd g
begun_goes h z (r ∷ rs) [] g k = tt
begun_goes h z (r ∷ rs) (n ∷ ns) g k = (one r n g.0 k.0, begun_goes h z rs ns g.1 k.1)
  where
    one : (r n : Option Reading) → GoesOn r n → IsBegunAt h z r → IsBegunAt h z n
    one r None g k = tt
    one None (Some w) g k = elim g [ inl e ↦ cc | inr e ↦ cc ]
    one (Some q) (Some w) g k = elim g [
      | inl e ↦
          let same : origin_of w ≡ origin_of q = cc in
          λ here. let was = k (ap (λ o. o.hub) (sym same) ∙ here) in (ap (λ o. o.missed) same ∙ was.0, ap (λ o. o.before) same ∙ was.1)
      | inr e ↦ cc
    ]

pick_first : {A : Type 0} (c : Bool) (a : A) (o : Option A) → c ≡ true → (if c then Some a else o) ≡ Some a
pick_first true a o e = refl
pick_first false a o e = cc

pick_rest : {A : Type 0} (c : Bool) (a : A) (o : Option A) → c ≡ false → (if c then Some a else o) ≡ o
pick_rest true a o e = cc
pick_rest false a o e = refl

none_first : (h : ℕ) (ns : List (Option Reading)) (fs : List EdgeView) → NoneReads h ns → first_view h ns fs ≡ None
none_first h [] fs k = refl
none_first h (n ∷ ns) [] k = refl
none_first h (n ∷ ns) (f ∷ fs) k = pick_rest (reads_hub h n) f (first_view h ns fs) k.0 ∙ none_first h ns fs k.1

-- an edge that grew to this one
abbrev GrewTo : EdgeView → Option EdgeView → Type 0
GrewTo new o = (v : EdgeView) × (o ≡ Some v) × Grows v new

first_grown : (h : ℕ) (rs ns : List (Option Reading)) (es fs : List EdgeView) (new : EdgeView) → AllGoOn rs ns → OneReads h rs → AllGrow es fs → first_view h ns fs ≡ Some new → GrewTo new (first_view h rs es)
first_grown h [] [] es fs new g one grow is = cc
first_grown h [] (n ∷ ns) es fs new g one grow is = absurd g
first_grown h (r ∷ rs) [] es fs new g one grow is = absurd g
first_grown h (r ∷ rs) (n ∷ ns) [] [] new g one grow is = cc
first_grown h (r ∷ rs) (n ∷ ns) [] (f ∷ fs) new g one grow is = absurd grow
first_grown h (r ∷ rs) (n ∷ ns) (e ∷ es) [] new g one grow is = absurd grow
first_grown h (r ∷ rs) (n ∷ ns) (e ∷ es) (f ∷ fs) new g one grow is = by_test (reads_hub h n) refl (λ o. first_grown h rs ns es fs new g.1 o grow.1)
  where
    by_test : (c : Bool) → reads_hub h n ≡ c → (OneReads h rs → first_view h ns fs ≡ Some new → GrewTo new (first_view h rs es)) → GrewTo new (first_view h (r ∷ rs) (e ∷ es))
    by_test true t rec =
        let here : f ≡ new = let k : Some f ≡ Some new = sym (pick_first (reads_hub h n) f (first_view h ns fs) t) ∙ is in cc in
        let P : EdgeView → Type 0 = λ v. Grows e v in
        (e, pick_first (reads_hub h r) e (first_view h rs es) (reads_before h r n g.0 t), subst P here grow.0)
    by_test false t rec =
        let later : first_view h ns fs ≡ Some new = sym (pick_rest (reads_hub h n) f (first_view h ns fs) t) ∙ is in
        elim one [
          | inl here ↦ let none = none_first h ns fs (none_goes h rs ns g.1 here.1) in cc
          | inr there ↦ let k = rec there.1 later in (k.0, pick_rest (reads_hub h r) e (first_view h rs es) there.0 ∙ k.1, k.2)
        ]

-- the edge itself, of which this is the view
edge_there : (o : Option Edge) (v : EdgeView) → option_map edge_view o ≡ Some v → (e : Edge) × (o ≡ Some e) × (edge_view e ≡ v)
edge_there None v h = cc
edge_there (Some e) v h = (e, refl, let k : Some (edge_view e) ≡ Some v = h in cc)

-- what a piece has of a link stands on where its part changed so
pub link_kept : {M T : Type 0} (b : Machine M T) (taken taken' : List (Stream T)) (p p' : Part M) (h : ℕ) (d d' : Down T) (c : CancelSeat) → asked_total d' ≡ asked_total d → carried_down d' ≡ carried_down d → slice_get taken' h ≡ Some (stream_of (received_signals d')) → HaveReached h (items_in (received_signals d')) (readings b p'.tree) → AllGoOn (readings b p.tree) (readings b p'.tree) → AllGrow (all_edges p) (all_edges p') →
    LinkStands b taken p h d c → LinkStands b taken' p' h d' c
link_kept {M} {T} b taken taken' p p' h d d' c asked carried came reached goes grow st =
    let was : (e : Edge) → reader_edge b h p' ≡ Some e → (w : Edge) × (reader_edge b h p ≡ Some w) × Grows (edge_view w) (edge_view e) = λ e is.
    let new : first_view h (readings b p'.tree) (all_edges p') ≡ Some (edge_view e) = sym (part_first b h p') ∙ ap (option_map edge_view) is in
    let g = first_grown h (readings b p.tree) (readings b p'.tree) (all_edges p) (all_edges p') (edge_view e) goes st.one grow new in
    let w = edge_there (reader_edge b h p) g.0 (part_first b h p ∙ g.1) in
    let G : EdgeView → Type 0 = λ v. Grows v (edge_view e) in
    (w.0, w.1, subst G (sym w.2) g.2)
    in
    record {
      came = came;
      one = one_goes h (readings b p.tree) (readings b p'.tree) goes st.one;
      reached = reached;
      began = subst (λ z. HaveBegun h z (readings b p'.tree)) (sym carried) (begun_goes h (carried_down d) (readings b p.tree) (readings b p'.tree) goes st.began);
      asked = λ e is. let w = was e is in less (asked_total d) w.0.demand.asked e.demand.asked (asked_total d') (st.asked w.0 w.1) w.2.asked asked;
      cancelled = λ e is many. let w = was e is in w.2.dead (st.cancelled w.0 w.1 many);
    }
  where
    less : (x y z w : ℕ) → x ≤ y → y ≤ z → w ≡ x → w ≤ z
    less x y z w a b e = omega (arith, a, b, e)
