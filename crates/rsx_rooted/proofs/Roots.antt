-- As for two trees with a link between them, where the link stands for the root of the tree and all below it.
use Rattle.std.proofs.Common.{◌≡◌, ℕ, List, [], ◌∷◌, ◌++◌, length, refl, ap, sym, ◌∙◌, arith, Option, Some, None, option_map, slice_get}
use Rattle.rsx_sources.specs.Prelude.{Meaning, notes_then, Stream, ended_by, signals_then, Note, Nothing, Open, Signal, incoming_of}
use Rattle.rsx_sources.specs.declared.machine.Machine.{Ghosts as Machine}
use Rattle.rsx_tree.specs.declared.node.Node.{Node}
use Rattle.rsx_tree.specs.Inputs.{out_of, notes_of}
use Rattle.rsx_tree.specs.Tree.{comes_out, notes}
use Rattle.rsx_rooted.specs.Flow.{AreFor, Flows, HoldsOver, ReadsLink, Fill, as_root, alone}
use Rattle.rsx_rooted.proofs.Linked.{then_append}
use Rattle.rsx_rooted.proofs.Splices.{still_nothing}

alone_out : {M T : Type 0} (b : Machine M T) (m : Meaning T) (hubs : List (Stream T)) (y : M) (g : List Note) → slice_get g 0 ≡ Some Nothing → comes_out b m hubs g (alone y) 0 ≡ b.comes_out m y (incoming_of hubs []) Nothing
alone_out b m hubs y g e = ap (λ n. out_of b m hubs y (Some []) n) e

pub joined_root : {M T : Type 0} (b : Machine M T) (m : Meaning T) (Fits FitsUpper FitsLower : List (Stream T) → Type 0) (k : ℕ) (lower lower' : Node M) (leaf leaf' x x' : M) (queued held out went : List (Signal T)) →
    ReadsLink b m k leaf queued queued → ReadsLink b m k leaf' (queued ++ out) held →
    Flows b m FitsUpper (alone leaf) (alone leaf') went → Flows b m FitsLower lower lower' out → HoldsOver b m x queued lower → HoldsOver b m x' held lower' →
    ((hubs : List (Stream T)) → Fits hubs → (v : Stream T) → Fill b m FitsUpper FitsLower k hubs (signals_then (queued ++ out) v) (as_root x lower) (as_root x' lower') lower') →
    Flows b m Fits (as_root x lower) (as_root x' lower') went
joined_root {M} {T} b m Fits FitsUpper FitsLower k lower lower' leaf leaf' x x' queued held out went reads reads' above below h h' fill =
    let one : List Note = Nothing ∷ [] in
    let chosen : slice_get (above.choose one) 0 ≡ Some Nothing =
    still_nothing 0 (notes b (alone leaf')) (notes b (alone leaf)) one (above.choose one) (ap Some reads'.recorded) (ap Some reads.recorded) refl (let r = above.count one refl in omega (arith, r)) (above.notes one refl) in
    let old_is : notes b (as_root x lower) ≡ notes b lower = ap (λ r. r ∷ notes_of b lower.inputs) h.recorded in
    let new_is : notes b (as_root x' lower') ≡ notes b lower' = ap (λ r. r ∷ notes_of b lower'.inputs) h'.recorded in
    let for_lower : (f : List Note) → AreFor b (as_root x' lower') f → AreFor b lower' f = λ f len. len ∙ ap length new_is in
    record {
      choose = below.choose;
      count = λ f len. below.count f (for_lower f len);
      nodes = ap length new_is ∙ (below.nodes ∙ sym (ap length old_is));
      notes = λ f len. ap (λ ns. notes_then ns f) new_is ∙ (below.notes f (for_lower f len) ∙ ap (λ ns. notes_then ns (below.choose f)) (sym old_is));
      value = λ hubs f fits len. by_value hubs f (λ v. fill hubs fits v) (for_lower f len) (above.choose one) chosen (λ others fits_above. above.value others one fits_above refl) (comes_out b m hubs f lower' 0) refl;
    }
  where
    by_value : (hubs : List (Stream T)) (f : List Note) → ((v : Stream T) → Fill b m FitsUpper FitsLower k hubs (signals_then (queued ++ out) v) (as_root x lower) (as_root x' lower') lower') → AreFor b lower' f →
        (g : List Note) → slice_get g 0 ≡ Some Nothing → ((others : List (Stream T)) → FitsUpper others → comes_out b m others g (alone leaf) 0 ≡ option_map (signals_then went) (comes_out b m others (Nothing ∷ []) (alone leaf') 0)) →
        (o : Option (Stream T)) → comes_out b m hubs f lower' 0 ≡ o → comes_out b m hubs (below.choose f) (as_root x lower) 0 ≡ option_map (signals_then went) (comes_out b m hubs f (as_root x' lower') 0)
    by_value hubs f fills len g nothing over None e =
        let n = fills (ended_by Open) in
        let now : comes_out b m n.others f lower' 0 ≡ None = sym (n.same_below f) ∙ e in
        n.same (below.choose f)
        ∙ (h.out n.others (below.choose f)
        ∙ (ap (option_map (signals_then queued)) (below.value n.others f n.fits_below len ∙ ap (option_map (signals_then out)) now)
        ∙ ap (option_map (signals_then went)) (sym (n.same' f ∙ (h'.out n.others f ∙ ap (option_map (signals_then held)) now)))))
    by_value hubs f fills len g nothing over (Some v) e =
        let n = fills v in
        let others = n.others in
        let now : comes_out b m others f lower' 0 ≡ Some v = sym (n.same_below f) ∙ e in
        let first : b.comes_out m leaf (incoming_of others []) Nothing ≡ Some (signals_then queued (signals_then out v)) = reads.out others (signals_then out v) (n.link ∙ then_append queued out v) in
        let last : b.comes_out m leaf' (incoming_of others []) Nothing ≡ Some (signals_then held v) = reads'.out others v n.link in
        n.same (below.choose f)
        ∙ (h.out others (below.choose f)
        ∙ (ap (option_map (signals_then queued)) (below.value others f n.fits_below len ∙ ap (option_map (signals_then out)) now)
        ∙ (sym (alone_out b m others leaf g nothing ∙ first)
        ∙ (over others n.fits_above
        ∙ ap (option_map (signals_then went)) (alone_out b m others leaf' (Nothing ∷ []) refl ∙ (last ∙ sym (n.same' f ∙ (h'.out others f ∙ ap (option_map (signals_then held)) now))))))))
