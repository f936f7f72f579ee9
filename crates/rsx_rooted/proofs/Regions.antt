-- Two regions with a link between them, over what each of them took in.
use Rattle.std.proofs.Common.{◌≡◌, inl, inr, ℕ, List, [], ◌++◌, refl, ap, sym, ◌∙◌, subst, Some, slice_get}
use Rattle.std.proofs.lemmas.Bool.{cases_eq}
use Rattle.rsx_sources.specs.Prelude.{Meaning, Stream, signals, signals_then, Signal, published_at}
use Rattle.rsx_sources.specs.declared.machine.Machine.{Ghosts as Machine}
use Rattle.rsx_tree.specs.declared.node.Node.{Node}
use Rattle.rsx_tree.specs.Swapped.{with_sender}
use Rattle.rsx_rooted.specs.Flow.{Fill, as_root}
use Rattle.rsx_rooted.specs.Local.{Begins, IsLocal, filled, stream_of}
use Rattle.rsx_rooted.specs.Regions.{Adds, IsCutBetween, JoinsRegions, JoinsRoot, PutsAgain, StandsOn}
use Rattle.rsx_rooted.proofs.Linked.{then_append}
use Rattle.rsx_rooted.proofs.Locals.{filled_there, filled_other, filled_same, flows_stands, stream_then}
use Rattle.rsx_rooted.proofs.Puts.{put_again}
use Rattle.rsx_rooted.proofs.Roots.{joined_root}
use Rattle.rsx_rooted.proofs.Whole.{joined}

-- the values of the hubs with the link's, where that begins with what came over the link
pub begins_filled : {T : Type 0} (taken whole : List (Stream T)) (k : ℕ) (came : List (Signal T)) (v : Stream T) (hubs : List (Stream T)) → Adds taken whole k came → Begins whole hubs → Begins taken (filled k (signals_then came v) hubs)
begins_filled {T} taken whole k came v hubs a h i s there = elim (cases_eq i k) [
  | inl e ↦
      let at : slice_get taken k ≡ Some s = ap (λ j. slice_get taken j) (sym e) ∙ there in
      let is : s ≡ stream_of came = a.link s at in
      let P : Stream T → Type 0 = λ x. published_at (filled k (signals_then came v) hubs) i ≡ signals_then (signals x) v in
      (v, subst P (sym is) (ap (λ j. published_at (filled k (signals_then came v) hubs) j) e ∙ (filled_there k (signals_then came v) hubs ∙ stream_then came v)))
  | inr n ↦ elim (a.others i s n there) [
    | inl nothing ↦
        let P : Stream T → Type 0 = λ x. published_at (filled k (signals_then came v) hubs) i ≡ signals_then (signals x) (published_at (filled k (signals_then came v) hubs) i) in
        (published_at (filled k (signals_then came v) hubs) i, subst P (sym nothing) refl)
    | inr w ↦ let m = h i s w in (m.0, filled_other k (signals_then came v) hubs i n ∙ m.1)
  ]
]

-- the values of the hubs with this one of the link k, over which the trees are compared
filled_both : {M T : Type 0} (b : Machine M T) (m : Meaning T) (k : ℕ) (old new lower lower' : Node M) (leaf leaf' x x' : M) (queued came left held out : List (Signal T)) (taken_above taken_below whole : List (Stream T)) → IsLocal b m → IsCutBetween b m k old new lower lower' leaf leaf' x x' queued came left held out → Adds taken_above whole k came → Adds taken_below whole k [] →
    (hubs : List (Stream T)) → Begins whole hubs → (v : Stream T) → Fill b m (Begins taken_above) (Begins taken_below) k hubs (signals_then (queued ++ out) v) old new lower'
filled_both {M} {T} b m k old new lower lower' leaf leaf' x x' queued came left held out taken_above taken_below whole local c adds none hubs fits v =
    let w = signals_then (queued ++ out) v in
    let split : w ≡ signals_then came (signals_then left v) = ap (λ l. signals_then l v) (sym c.sent) ∙ then_append came left v in
    let U : Stream T → Type 0 = λ u. Begins taken_above (filled k u hubs) in
    record {
      others = filled k w hubs;
      link = filled_there k w hubs;
      fits_above = subst U (sym split) (begins_filled taken_above whole k came (signals_then left v) hubs adds fits);
      fits_below = begins_filled taken_below whole k [] w hubs none fits;
      same = filled_same b m k w hubs old local c.free;
      same' = filled_same b m k w hubs new local c.free';
      same_below = filled_same b m k w hubs lower' local c.free_below;
    }

pub two_regions : {M T : Type 0} (b : Machine M T) → JoinsRegions b
two_regions b m upper upper' lower lower' leaf leaf' x x' k at queued came left held out went taken_above taken_below whole local there there' c adds none above below =
    joined b m (Begins whole) (Begins taken_above) (Begins taken_below) k at upper upper' lower lower' leaf leaf' x x' queued held out went
    (record { there = there; there' = there'; leaf_is = c.leaf_is; leaf_is' = c.leaf_is'; above = above; below = below }) c.holds c.holds'
    (filled_both b m k (with_sender at x lower.inputs upper) (with_sender at x' lower'.inputs upper') lower lower' leaf leaf' x x' queued came left held out taken_above taken_below whole local c adds none)

pub root_regions : {M T : Type 0} (b : Machine M T) → JoinsRoot b
root_regions b m lower lower' leaf leaf' x x' k queued came left held out went taken_above taken_below whole local c adds none above below =
    joined_root b m (Begins whole) (Begins taken_above) (Begins taken_below) k lower lower' leaf leaf' x x' queued held out went c.leaf_is c.leaf_is' above below c.holds c.holds'
    (filled_both b m k (as_root x lower) (as_root x' lower') lower lower' leaf leaf' x x' queued came left held out taken_above taken_below whole local c adds none)

pub put_again_tree : {M : Type 0} → PutsAgain M
put_again_tree t at x y xs ys h = ap (λ r. record { machine = t.machine; inputs = r }) (put_again t.inputs at x y xs ys h)

pub stands_on : {M T : Type 0} (b : Machine M T) → StandsOn b
stands_on b m taken value old new output went stood h = flows_stands b m (Begins taken) value old new output went stood h
