-- A part that is joined to what was cut off, where the lower part has sent its ending.
use Rattle.std.proofs.Common.{◌≡◌, ℕ, ◌+◌, slice_get, true, false, List, [], ◌∷◌, ◌++◌, length, map, Option, Some, None, option_map, refl, ap, sym, ◌∙◌, subst, append_assoc}
use Rattle.std.specs.Prelude.{not}
use Rattle.std.proofs.lemmas.Bool.{and_parts}
use Rattle.std.proofs.lemmas.List.{append-nil}
use Rattle.rsx_rooted.proofs.Linked.{holds_over, then_append}
use Rattle.rsx_rooted.specs.Flow.{Holds, HoldsOver, HoldsQueue, ReadsLink, as_root}
use Rattle.rsx_rooted.specs.Local.{IsLocal, ReadsNot}
use Rattle.rsx_rooted.specs.Regions.{Carries, IsCutBetween}
use Rattle.rsx_rooted.specs.Cutting.{HoldsEnding, ending_of, endings, is_some}
use Rattle.rsx_rooted.specs.declared.nodes.CrossingNodes.{Ghosts as CrossingNodes}
use Rattle.rsx_pipe.proofs.Cuts.{cut_there, ended_row, holds_some, is_false, joined_regions, next_append, place_is, reads_at}
use Rattle.rsx_pipe.specs.Cutting.{can_join_in, can_take_back, held_in, is_end, place_at, with_node}
use Rattle.rsx_pipe.specs.Rejoined.{JoinsAfterEnding, JoinsAtEnd, can_end_here, can_put_in, ending_in, put_node}
use Rattle.rsx_sources.specs.Prelude.{Complete, Done, Ending, Error, Failed, LetsGo, Meaning, Next, Note, Open, Reading, Signal, Stream, ends_input, reads_hub, signal_then, signals_then}
use Rattle.rsx_sources.specs.declared.machine.Machine.{Ghosts as Machine}
use Rattle.rsx_tree.proofs.Popped.{ending_gone}
use Rattle.rsx_tree.proofs.Rows.{out_lets_go}
use Rattle.rsx_tree.specs.Inputs.{comes_in, notes_of, out_of}
use Rattle.rsx_tree.specs.Tree.{IsLetGo, comes_out, notes}
use Rattle.rsx_tree.specs.declared.inputs.Inputs.{Inputs, End}
use Rattle.rsx_tree.specs.declared.node.Node.{Node}

first_same : {A : Type 0} (x y : A) (xs ys : List A) → x ∷ xs ≡ y ∷ ys → x ≡ y
first_same x y xs ys h = cc

-- an ending went out of the root of a tree, which recorded nothing by it
pub ending_value : {M T : Type 0} (b : Machine M T) (m : Meaning T) (old : Node M) (s : Signal T) (new : Node M) → IsLetGo b m old s new → ends_input s ≡ true → (hubs : List (Stream T)) (further : List Note) (at : ℕ) → comes_out b m hubs further old at ≡ option_map (signal_then s) (comes_out b m hubs further new at)
ending_value b m old s new l e hubs further at =
    out_lets_go b m hubs old.machine new.machine s (ending_gone b m old s new l e).0 (comes_in b m hubs further old.inputs (at + 1)) (slice_get further at)
    ∙ ap (λ i. option_map (signal_then s) (out_of b m hubs new.machine (comes_in b m hubs further i (at + 1)) (slice_get further at))) l.popped.1

pub ending_notes : {M T : Type 0} (b : Machine M T) (m : Meaning T) (old : Node M) (s : Signal T) (new : Node M) → IsLetGo b m old s new → ends_input s ≡ true → notes b new ≡ notes b old
ending_notes b m old s new l e = ap (λ k. k ∷ notes_of b new.inputs) (ending_gone b m old s new l e).1 ∙ ap (λ i. b.recorded old.machine ∷ notes_of b i) (sym l.popped.1)

pub endings_end : {T : Type 0} (e : Ending) (s : Signal T) → endings e ≡ s ∷ [] → ends_input s ≡ true
endings_end Open s h = cc
endings_end Done s h = ap ends_input (sym (first_same Complete s [] [] h))
endings_end (Failed c) s h = ap ends_input (sym (first_same (Error c) s [] [] h))

-- where an ending was let go, the node with the queue behind it gives the items, then that ending, and then what comes out now
let_go_over : {M T : Type 0} (b : Machine M T) (m : Meaning T) (x : M) (q : List (Signal T)) (s : Signal T) (old new : Node M) → Holds b m x q old.machine → ends_input s ≡ true → IsLetGo b m old s new → HoldsOver b m x (q ++ s ∷ []) new
let_go_over {M} {T} b m x q s old new h ends l =
    let over = holds_over b m x q old h in
    let same : as_root x new ≡ as_root x old = ap (λ r. let n : Node M = record { machine = x; inputs = r } in n) (sym l.popped.1) in
    record {
      out = λ hubs g.
          ap (λ t. comes_out b m hubs g t 0) same
          ∙ (over.out hubs g ∙ (ap (option_map (signals_then q)) (ending_value b m old s new l ends hubs g 0) ∙ behind q (comes_out b m hubs g new 0)));
      recorded = over.recorded ∙ sym (ending_gone b m old s new l ends).1;
    }
  where
    behind : (q : List (Signal T)) (o : Option (Stream T)) → option_map (signals_then q) (option_map (signal_then s) o) ≡ option_map (signals_then (q ++ s ∷ [])) o
    behind q None = refl
    behind q (Some v) = ap Some (sym (then_append q (s ∷ []) v))

pub after_ending : {M T : Type 0} (b : Machine M T) (crossing : CrossingNodes M T) → ((m : Meaning T) → IsLocal b m) →
    ((m : Meaning T) (q : List T) (n : M) → b.crosses n ≡ false → HoldsQueue b m (crossing.queued q n) q n) →
    ((m : Meaning T) (n : M) (items taken : List T) (others : List (Signal T)) (r : Reading) → crossing.held n ≡ Some items → b.reads n ≡ Some r → r.reached ≡ length taken → ReadsLink b m r.hub n (map Next taken ++ others) (map Next items ++ others)) →
    JoinsAfterEnding b crossing
after_ending {M} {T} b crossing local holds_law reads_on m old new upper below lower ended at k reader queue items taken ending out went taken_above taken_below whole c none reads can reached sent ends gone free free' free_below adds nothing above under =
    let there = cut_there b crossing old new below at reader queue c in
    let parts = and_parts (not (b.crosses lower.tree.machine)) _ can in
    let straight = is_false (b.crosses lower.tree.machine) parts.0 in
    let place = reached.place in
    let can_here : can_take_back b crossing k (length items) place.node place.below ≡ true = sym (ap (can_join_in b crossing k items) reached.there) ∙ parts.1 in
    let last = and_parts (is_end place.below) _ can_here in
    let rest = and_parts (reads_hub k (b.reads place.node)) _ last.1 in
    let leaf = place.node in
    let held = held_in crossing (place_at at upper.tree) in
    let held_is : crossing.held leaf ≡ Some held = holds_some (crossing.held leaf) (length items) rest.1 ∙ ap Some (sym (ap (held_in crossing) reached.there)) in
    let stands = place_is at place upper.tree reached.there in
    let tree : upper.tree ≡ with_node at leaf End upper.tree = stands.1 ∙ ap (λ r. with_node at leaf r upper.tree) (ended_row place.below last.0) in
    let cut_tree : new.tree ≡ with_node at reader End old.tree = ap (λ p. p.tree) c.upper in
    let x = crossing.queued queue below.tree.machine in
    let x' = crossing.queued (held ++ items) lower.tree.machine in
    let all : map Next held ++ (map Next items ++ ending ∷ []) ≡ map Next (held ++ items) ++ ending ∷ [] = sym (append_assoc (map Next held) (map Next items) (ending ∷ [])) ∙ ap (λ l. l ++ ending ∷ []) (sym (next_append held items)) in
    let S : List (Signal T) → Type 0 = λ l. ReadsLink b m k leaf l (map Next held ++ (map Next items ++ ending ∷ [])) in
    let H : List (Signal T) → Type 0 = λ l. ReadsLink b m k leaf (map Next queue ++ out) l in
    let R : Node M → Type 0 = λ t. ReadsNot b k t in
    let J : Inputs M → Type 0 = λ r. ReadsNot b k (with_node at x' r upper.tree) in
    let between : IsCutBetween b m k (with_node at x below.tree.inputs old.tree) (with_node at x' ended.tree.inputs upper.tree) below.tree ended.tree reader leaf x x' (map Next queue) (map Next taken) (map Next items ++ ending ∷ []) (map Next (held ++ items) ++ ending ∷ []) out = record {
      sent = sent;
      leaf_is = reads_at b m crossing (reads_on m) k reader [] [] (map Next queue) none reads;
      leaf_is' = subst H all (subst S sent (reads_at b m crossing (reads_on m) k leaf held taken (map Next items ++ ending ∷ []) held_is reached.reads));
      holds = holds_over b m x (map Next queue) below.tree (holds_law m queue below.tree.machine c.straight).holds;
      holds' = let_go_over b m x' (map Next (held ++ items)) ending lower.tree ended.tree (holds_law m (held ++ items) lower.tree.machine straight).holds ends gone;
      free = subst R c.whole free;
      free' = subst J gone.popped.1 free';
      free_below = free_below;
    } in
    let U : Node M → Type 0 = λ t. Carries b m taken_above t upper.tree went in
    let V : Node M → Type 0 = λ t. Carries b m taken_above (with_node at reader End old.tree) t went in
    let W : Node M → Type 0 = λ t. Carries b m whole t (with_node at x' lower.tree.inputs upper.tree) went in
    let I : Inputs M → Type 0 = λ r. Carries b m whole (with_node at x below.tree.inputs old.tree) (with_node at x' r upper.tree) went in
    subst W (sym c.whole) (subst I (sym gone.popped.1)
    (joined_regions b m old.tree upper.tree below.tree ended.tree reader leaf x x' k at (map Next queue) (map Next taken) (map Next items ++ ending ∷ []) (map Next (held ++ items) ++ ending ∷ []) out went taken_above taken_below whole (local m) there stands.0 between adds nothing
    (subst V tree (subst U cut_tree above)) under))

-- ---- where the ending came to the reader

pub at_end : {M T : Type 0} (b : Machine M T) (crossing : CrossingNodes M T) → ((m : Meaning T) → IsLocal b m) →
    ((m : Meaning T) (q : List T) (n : M) → b.crosses n ≡ false → HoldsQueue b m (crossing.queued q n) q n) →
    ((m : Meaning T) (e : Ending) (q : List T) (s : Signal T) (before n : M) → b.crosses n ≡ false → endings e ≡ s ∷ [] → b.waiting m before ≡ Some s → LetsGo (b.comes_out m) before s n → HoldsEnding b m (crossing.ended_queue e q n) (map Next q ++ s ∷ []) n) →
    ((m : Meaning T) (n : M) (items taken : List T) (others : List (Signal T)) (r : Reading) → crossing.held n ≡ Some items → b.reads n ≡ Some r → r.reached ≡ length taken → ReadsLink b m r.hub n (map Next taken ++ others) (map Next items ++ others)) →
    ((m : Meaning T) (n : M) (items : List T) (e : Ending) (k : ℕ) (sent : List (Signal T)) → crossing.held n ≡ Some items → crossing.read_to n ≡ Some e → ReadsLink b m k n sent (map Next items ++ endings e)) →
    JoinsAtEnd b crossing
at_end {M} {T} b crossing local holds_law ends_law reads_on reads_ended m old new upper below lower ended at k reader place queue e ending came out went taken_above taken_below whole c none reads can there_is read_to last all gone free free' free_below adds nothing above under =
    let there = cut_there b crossing old new below at reader queue c in
    let parts = and_parts (not (b.crosses ended.tree.machine)) _ can in
    let straight = is_false (b.crosses ended.tree.machine) parts.0 in
    let can_here : can_end_here crossing 0 place.node place.below ≡ true = sym (ap (can_put_in b crossing None 0) there_is) ∙ parts.1 in
    let first = and_parts (is_end place.below) _ can_here in
    let rest = and_parts (is_some (crossing.read_to place.node)) _ first.1 in
    let leaf = place.node in
    let held = held_in crossing (place_at at upper.tree) in
    let held_is : crossing.held leaf ≡ Some held = holds_some (crossing.held leaf) 0 rest.1 ∙ ap Some (sym (ap (held_in crossing) there_is)) in
    let stands = place_is at place upper.tree there_is in
    let tree : upper.tree ≡ with_node at leaf End upper.tree = stands.1 ∙ ap (λ r. with_node at leaf r upper.tree) (ended_row place.below first.0) in
    let cut_tree : new.tree ≡ with_node at reader End old.tree = ap (λ p. p.tree) c.upper in
    let x = crossing.queued queue below.tree.machine in
    let x' = put_node crossing None (place_at at upper.tree) [] ended.tree.machine in
    let end_is : ending_in crossing (place_at at upper.tree) ≡ e = ap (ending_in crossing) there_is ∙ ap ending_of read_to in
    let signals = map Next (held ++ []) ++ ending ∷ [] in
    let E : Ending → Type 0 = λ z. HoldsEnding b m (crossing.ended_queue z (held ++ []) ended.tree.machine) signals ended.tree.machine in
    let over : HoldsEnding b m x' signals ended.tree.machine = subst E (sym end_is) (ends_law m e (held ++ []) ending lower.tree.machine ended.tree.machine straight last gone.offered (ending_gone b m lower.tree ending ended.tree gone (endings_end e ending last)).0) in
    let H : List (Signal T) → Type 0 = λ l. ReadsLink b m k leaf (map Next queue ++ out) l in
    let R : Node M → Type 0 = λ t. ReadsNot b k t in
    let between : IsCutBetween b m k (with_node at x below.tree.inputs old.tree) (with_node at x' ended.tree.inputs upper.tree) below.tree ended.tree reader leaf x x' (map Next queue) came [] signals out = record {
      sent = append-nil came ∙ all;
      leaf_is = reads_at b m crossing (reads_on m) k reader [] [] (map Next queue) none reads;
      leaf_is' = subst H (ap (λ l. map Next held ++ l) last ∙ ap (λ l. map Next l ++ ending ∷ []) (sym (append-nil held))) (reads_ended m leaf held e k (map Next queue ++ out) held_is read_to);
      holds = holds_over b m x (map Next queue) below.tree (holds_law m queue below.tree.machine c.straight).holds;
      holds' = holds_over b m x' signals ended.tree over.holds;
      free = subst R c.whole free;
      free' = free';
      free_below = free_below;
    } in
    let U : Node M → Type 0 = λ t. Carries b m taken_above t upper.tree went in
    let V : Node M → Type 0 = λ t. Carries b m taken_above (with_node at reader End old.tree) t went in
    let W : Node M → Type 0 = λ t. Carries b m whole t (with_node at x' ended.tree.inputs upper.tree) went in
    subst W (sym c.whole)
    (joined_regions b m old.tree upper.tree below.tree ended.tree reader leaf x x' k at (map Next queue) came [] signals out went taken_above taken_below whole (local m) there stands.0 between adds nothing
    (subst V tree (subst U cut_tree above)) under)
