-- What every move of a tree, and every signal that it is handed, makes of what went out of it.
use Rattle.std.proofs.Common.{◌≡◌, ℕ, List, [], ◌∷◌, ◌++◌, length, refl, ap, sym, ◌∙◌, Option, Some, None, option_map}
use Rattle.rsx_sources.specs.Prelude.{Meaning, notes_then, Stream, signal_then, signals_then, Note, Signal}
use Rattle.rsx_sources.specs.declared.machine.Machine.{Ghosts as Machine}
use Rattle.rsx_tree.specs.declared.node.Node.{Node}
use Rattle.rsx_tree.specs.Chosen.{IsChosen}
use Rattle.rsx_tree.specs.Handed.{IsHanded, IsNextOf}
use Rattle.rsx_tree.specs.Reads.{IsTreeReadAt}
use Rattle.rsx_tree.specs.Tree.{comes_out, IsLetGo}
use Rattle.rsx_rooted.specs.Flow.{AreFor, Flows}
use Rattle.rsx_rooted.proofs.Linked.{then_append}

map_same : {A : Type 0} (o : Option (Stream A)) → o ≡ option_map (signals_then []) o
map_same None = refl
map_same (Some v) = refl

map_more : {A : Type 0} (xs : List (Signal A)) (s : Signal A) (o : Option (Stream A)) → option_map (signals_then xs) (option_map (signal_then s) o) ≡ option_map (signals_then (xs ++ s ∷ [])) o
map_more xs s None = refl
map_more xs s (Some v) = ap Some (sym (then_append xs (s ∷ []) v))

-- nothing happened
pub flows_still : {M T : Type 0} (b : Machine M T) (m : Meaning T) (Fits : List (Stream T) → Type 0) (t : Node M) → Flows b m Fits t t []
flows_still b m Fits t = record { choose = λ f. f; count = λ f len. refl; nodes = refl; notes = λ f len. refl; value = λ hubs f fits len. map_same (comes_out b m hubs f t 0) }

-- a move inside the tree
pub flows_chosen : {M T : Type 0} (b : Machine M T) (m : Meaning T) (Fits : List (Stream T) → Type 0) (old mid new : Node M) (out : List (Signal T)) → Flows b m Fits old mid out → IsChosen b m mid new → Flows b m Fits old new out
flows_chosen b m Fits old mid new out h k =
    let fits_mid : (f : List Note) → AreFor b new f → AreFor b mid (k.choose f) = λ f len. k.count f ∙ (len ∙ k.nodes) in
    record {
      choose = λ f. h.choose (k.choose f);
      count = λ f len. h.count (k.choose f) (fits_mid f len) ∙ k.count f;
      nodes = k.nodes ∙ h.nodes;
      notes = λ f len. k.notes f ∙ h.notes (k.choose f) (fits_mid f len);
      value = λ hubs f fits len. h.value hubs (k.choose f) fits (fits_mid f len) ∙ ap (option_map (signals_then out)) (sym (k.value hubs f));
    }

-- the root lets a signal go
pub flows_sent : {M T : Type 0} (b : Machine M T) (m : Meaning T) (Fits : List (Stream T) → Type 0) (old mid new : Node M) (out : List (Signal T)) (s : Signal T) → Flows b m Fits old mid out → IsLetGo b m mid s new → Flows b m Fits old new (out ++ s ∷ [])
flows_sent b m Fits old mid new out s h k =
    let fits_mid : (f : List Note) → AreFor b new f → AreFor b mid (k.choose f) = λ f len. k.count f ∙ (len ∙ k.nodes) in
    record {
      choose = λ f. h.choose (k.choose f);
      count = λ f len. h.count (k.choose f) (fits_mid f len) ∙ k.count f;
      nodes = k.nodes ∙ h.nodes;
      notes = λ f len. k.notes f ∙ h.notes (k.choose f) (fits_mid f len);
      value = λ hubs f fits len. h.value hubs (k.choose f) fits (fits_mid f len) ∙ (ap (option_map (signals_then out)) (k.value hubs f) ∙ map_more out s (comes_out b m hubs f new 0));
    }

-- its nodes are handed the signal that comes next of a hub, or of a link
pub flows_handed : {M T : Type 0} (b : Machine M T) (m : Meaning T) (Fits Fits' : List (Stream T) → Type 0) (old mid new : Node M) (out : List (Signal T)) (h : ℕ) (s : Signal T) (counts : List (Option ℕ)) →
    Flows b m Fits old mid out → IsTreeReadAt b counts mid → ((hubs : List (Stream T)) → Fits' hubs → Fits hubs × IsNextOf counts hubs h s) → IsHanded b h s mid new → Flows b m Fits' old new out
flows_handed b m Fits Fits' old mid new out h s counts f reads next k =
    let fits_mid : (g : List Note) → AreFor b new g → AreFor b mid g = λ g len. len ∙ ap length k.notes in
    record {
      choose = f.choose;
      count = λ g len. f.count g (fits_mid g len);
      nodes = ap length k.notes ∙ f.nodes;
      notes = λ g len. ap (λ ns. notes_then ns g) k.notes ∙ f.notes g (fits_mid g len);
      value = λ hubs g fits len. let n = next hubs fits in f.value hubs g n.0 (fits_mid g len) ∙ ap (option_map (signals_then out)) (sym (k.value m counts hubs g 0 reads n.1));
    }
