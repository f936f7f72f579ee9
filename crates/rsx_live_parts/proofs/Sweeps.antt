-- Trees that are cut at one edge after the other.
use Rattle.std.proofs.Common.{◌≡◌, inl, inr, ℕ, suc, ◌+◌, ◌<◌, ◌^◌, ◌≤◌, Bool, true, false, List, [], ◌∷◌, ◌++◌, ◌-◌, map, take, Option, Some, length, slice_index_or, refl, ap, sym, ◌∙◌, subst, arith, Vec, Global}
use Rattle.std.proofs.lemmas.List.{map_more, take_all, take_more}
use Rattle.std.proofs.lemmas.Option.{slice_get_read}
use Rattle.rsx_sources.specs.declared.machine.Machine.{Ghosts as Machine}
use Rattle.rsx_rooted.specs.declared.nodes.CrossingNodes.{Ghosts as CrossingNodes}
use Rattle.rsx_pipe.specs.Part.{Part}
use Rattle.rsx_region.specs.declared.piece.Piece.{Piece}
use Rattle.rsx_region.specs.declared.trees.CutTrees.{CutTrees}
use Rattle.rsx_live_parts.specs.Cursors.{passed_by, region_in, sender_at}
use Rattle.rsx_live_parts.specs.Cutting.{AreSwept, AreTried, Crosses, IsCutOrWhole, IsSwept, IsTried, Sweep, crosses_at, crossing_to, one_of, sweep_of}
use Rattle.rsx_live_parts.specs.declared.cutting.Cursor.{Cursor}

-- ---- lists

pub at_least : (k n : ℕ) → (k < 2 ^ 32 → ⊥) → k ≡ n → 2 ^ 32 ≤ n
at_least k n less same = grind (arith, less, same)

pub split_last : {X : Type 0} (xs : List X) (k : ℕ) (x : X) → 0 < length xs → k ≡ length xs - 1 → x ≡ slice_index_or xs k x → xs ≡ take k xs ++ x ∷ []
split_last xs k x some last read =
    let less : k < length xs = omega (arith, some, last) in
    let long : length xs ≤ k + 1 = omega (arith, some, last) in
    sym (take_all (k + 1) xs long) ∙ (take_more xs k x less ∙ ap (λ y. take k xs ++ y ∷ []) (sym read))

-- one element more of a list that was made of the first of another
pub mapped_more : {X Y : Type 0} (f : X → Y) (xs : List X) (k : ℕ) (x : X) (old new : List Y) (y : Y) → k < length xs → x ≡ slice_index_or xs k x → old ≡ map f (take k xs) → new ≡ old ++ y ∷ [] → y ≡ f x → new ≡ map f (take (k + 1) xs)
mapped_more f xs k x old new y less read was more is =
    more ∙ (ap (λ l. l ++ y ∷ []) was ∙ (ap (λ z. map f (take k xs) ++ z ∷ []) (is ∙ ap f read) ∙ sym (map_more f xs k x less)))

pub mapped_all : {X Y : Type 0} (f : X → Y) (xs : List X) (k : ℕ) (ys : List Y) → k ≡ length xs → ys ≡ map f (take k xs) → ys ≡ map f xs
mapped_all f xs k ys all is = is ∙ ap (map f) (take_all k xs (let e = all in omega (arith, e)))

next : (n : ℕ) → suc n ≡ n + 1
next n = omega arith

-- ---- edges that cross

-- one edge more
pub counted_more : {M T : Type 0} (b : Machine M T) (part : Part M) (at old new : ℕ) (crosses : Bool) → crosses_at b part at ≡ Some crosses → old ≡ crossing_to b part at → new ≡ old + one_of (Some crosses) → old ≤ at → (new ≤ at + 1) × (new ≡ crossing_to b part (at + 1))
counted_more b part at old new crosses is was more few = (
  few_of crosses new more,
  more ∙ (ap (λ k. k + one_of (Some crosses)) was ∙ (ap (λ o. crossing_to b part at + one_of o) (sym is) ∙ ap (crossing_to b part) (next at))),
)
  where
    few_of : (c : Bool) (k : ℕ) → k ≡ old + one_of (Some c) → k ≤ at + 1
    few_of true k e = let f = few in omega (arith, e, f)
    few_of false k e = let f = few in omega (arith, e, f)

-- of the piece that was read at a place
pub crosses_here : {M T : Type 0} (b : Machine M T) (t : CutTrees M T) (above at : ℕ) (p : Piece M T) (r : Option Bool) → above < length t.pieces.items → p ≡ slice_index_or t.pieces.items above p → r ≡ crosses_at b p.part at → Crosses b t above at r
crosses_here b t above at p r less read is = (p, slice_get_read t.pieces.items (length t.pieces.items) above p refl less read, sym is)

pub crosses_is : {M T : Type 0} (b : Machine M T) (t : CutTrees M T) (above at : ℕ) (r s : Option Bool) → r ≡ s → Crosses b t above at r → Crosses b t above at s
crosses_is b t above at r s same h = (h.0, h.1, h.2 ∙ same)

-- ---- cuts

pub sweep_is : {M T : Type 0} (t : CutTrees M T) (ps qs : List ℕ) (cs ds : List Cursor) → ps ≡ qs → cs ≡ ds → ◌≡◌ {A = Sweep M T} (record { trees = t; places = ps; cursors = cs }) (record { trees = t; places = qs; cursors = ds })
sweep_is {M} {T} t ps qs cs ds p c =
    ap (λ l. let s : Sweep M T = record { trees = t; places = l; cursors = cs } in s) p ∙ ap (λ l. let s : Sweep M T = record { trees = t; places = qs; cursors = l } in s) c

module _ {M T : Type 0} (b : Machine M T) (crossing : CrossingNodes M T) (count : ℕ) (senders : List (Vec ℕ Global)) where
  -- one edge more
  pub tried_more : (above n : ℕ) (old mid new : Sweep M T) (c d e : Cursor) → AreTried b crossing count senders above n old c mid d → IsTried b crossing count senders above n mid d new e → AreTried b crossing count senders above (n + 1) old c new e
  tried_more above n old mid new c d e before one =
      let both : AreTried b crossing count senders above (suc n) old c new e = (mid, d, before, one) in
      subst (λ (k : ℕ). AreTried b crossing count senders above k old c new e) (next n) both

  -- the same of what is so
  pub tried_as : (above n : ℕ) (old : Sweep M T) (c d d' : Cursor) (t t' : CutTrees M T) (ps ps' : Vec ℕ Global) (cs cs' : Vec Cursor Global) → t' ≡ t → ps' ≡ ps → cs' ≡ cs → d' ≡ d → AreTried b crossing count senders above n old c (sweep_of t ps cs) d → AreTried b crossing count senders above n old c (sweep_of t' ps' cs') d'
  tried_as above n old c d d' t t' ps ps' cs cs' e f g h all =
      let A : CutTrees M T → Type 0 = λ x. AreTried b crossing count senders above n old c (sweep_of x ps cs) d in
      let B : Vec ℕ Global → Type 0 = λ x. AreTried b crossing count senders above n old c (sweep_of t' x cs) d in
      let C : Vec Cursor Global → Type 0 = λ x. AreTried b crossing count senders above n old c (sweep_of t' ps' x) d in
      let D : Cursor → Type 0 = λ x. AreTried b crossing count senders above n old c (sweep_of t' ps' cs') x in
      subst D (sym h) (subst C (sym g) (subst B (sym f) (subst A (sym e) all)))

  -- one piece more
  pub swept_more : (n : ℕ) (old mid new : Sweep M T) → AreSwept b crossing count senders n old mid → IsSwept b crossing count senders n mid new → AreSwept b crossing count senders (n + 1) old new
  swept_more n old mid new before one =
      let both : AreSwept b crossing count senders (suc n) old new = (mid, before, one) in
      subst (λ (k : ℕ). AreSwept b crossing count senders k old new) (next n) both

  -- an edge that crosses was tried, and one that doesn't
  pub tried_crossing : (above at : ℕ) (old new : Sweep M T) (c begin d : Cursor) (k region below : ℕ) → Crosses b old.trees above at (Some true) → k ≡ count → region ≡ sender_at senders c → begin ≡ passed_by 1 c → d ≡ passed_by below begin →
      IsCutOrWhole b crossing above at (region_in k region) begin below old new → IsTried b crossing count senders above at old c new d
  tried_crossing above at old new c begin d k region below crosses many is begins ends done =
      let R : ℕ → Type 0 = λ r. IsCutOrWhole b crossing above at r begin below old new in
      let C : Cursor → Type 0 = λ s. IsCutOrWhole b crossing above at (region_in count (sender_at senders c)) s below old new in
      let same : region_in k region ≡ region_in count (sender_at senders c) = ap (λ n. region_in n region) many ∙ ap (region_in count) is in
      inl (crosses, (below, subst C begins (subst R same done), ends ∙ ap (passed_by below) begins))

  pub tried_straight : (above at : ℕ) (old : Sweep M T) (c : Cursor) → Crosses b old.trees above at (Some false) → IsTried b crossing count senders above at old c old c
  tried_straight above at old c crosses = inr (crosses, refl, refl)
