-- What comes out of a node depends on no hub but the one that it reads; and what a cut of a tree asks of its nodes.
use Rattle.std.specs.Prelude.{◌≡◌, ℕ, ◌+◌, Bool, true, false, List, [], ◌∷◌, ◌++◌, length, map, Option, Some, None, option_map, refl}
use Rattle.std.proofs.Common.{ap, sym, ◌∙◌}
use Rattle.rsx_sources.specs.Prelude.{Meaning, Stream, Note, Nothing, Ending, Open, Done, Failed, Signal, Next, Complete, Error, LetsGo, Reading, ended_by, ends_input, incoming_of, published_at, signal_then, signals_then}
use Rattle.rsx_hub.specs.Leaf.{LeafState, reading_of}
use Rattle.rsx_queued.specs.declared.sender.Sender.TheVariants.{Direct, Crossing}
use Rattle.rsx_rooted.specs.Flow.{HoldsQueue, ReadsLink}
use Rattle.rsx_rooted.specs.Local.{AgreeAt, IsLocal}
use Rattle.rsx_rooted.proofs.Linked.{then_append}
use Rattle.rsx_rooted.proofs.CutNodes.{crossing_holds, items_signals, leaf_local, leaf_open, leaf_reads_link, sender_local}
use Rattle.rsx_rooted.specs.Cutting.{HoldsEnding, endings}
use Rattle.rsx_kinds.specs.Any.{TreeNode, any_machine, kind_machine}
use Rattle.rsx_kinds.specs.Crossings.{is_crossing}
use Rattle.rsx_kinds.specs.Cutting.{node_held, node_read_to, tail_of, taken_in, with_ended_queue, with_queue}
use Rattle.rsx_kinds.specs.Laws.{any_ends}
use Rattle.rsx_queued.specs.Held.{comes_in_at, held_then}
use Rattle.rsx_queued.specs.Queued.{ended_in, reads_in}
use Rattle.rsx_queued.specs.Sender.{sender_ends}
use Rattle.rsx_kinds.specs.Several.{several_comes_out}
use Rattle.rsx_kinds.specs.Source.{source_comes_out, source_reads}
use Rattle.rsx_kinds.specs.declared.any_node.AnyNode.TheVariants.{Source, Plain, Several, PublishOn, PublishOnEager, Window, FlatMap, FlatMapDelay, GroupBy}
use Rattle.rsx_kinds.specs.declared.several_node.SeveralNode.{SeveralNode}
use Rattle.rsx_kinds.specs.declared.several_node.SeveralNode.TheVariants.{Concat, Merge, MergeDelay, Zip, Latest}
use Rattle.rsx_kinds.specs.declared.source_node.SourceNode.{SourceNode}
use Rattle.rsx_kinds.specs.declared.source_node.SourceNode.TheVariants.{Items, Range, Hub}

-- ---- a node depends on no other hub

source_local : {T : Type 0} (m : Meaning T) (n : SourceNode T) (hubs others vs : List (Stream T)) (k : Note) → AgreeAt hubs others (source_reads n) → source_comes_out m n (incoming_of hubs vs) k ≡ source_comes_out m n (incoming_of others vs) k
source_local m (Items n) hubs others vs k a = refl
source_local m (Range n) hubs others vs k a = refl
source_local m (Hub n) hubs others vs k a = leaf_local m n hubs others vs k a

several_local : {T : Type 0} (m : Meaning T) (n : SeveralNode T) (hubs others vs : List (Stream T)) (k : Note) → several_comes_out m n (incoming_of hubs vs) k ≡ several_comes_out m n (incoming_of others vs) k
several_local m (Concat n) hubs others [] k = refl
several_local m (Concat n) hubs others (v ∷ vs) k = refl
several_local m (Merge n) hubs others [] k = refl
several_local m (MergeDelay n) hubs others [] k = refl
several_local m (Merge n) hubs others (v ∷ vs) k = refl
several_local m (MergeDelay n) hubs others (v ∷ vs) k = refl
several_local m (Zip n) hubs others [] k = refl
several_local m (Zip n) hubs others (v ∷ vs) k = refl
several_local m (Latest n) hubs others [] k = refl
several_local m (Latest n) hubs others (v ∷ vs) k = refl

kind_local : {T : Type 0} (m : Meaning T) → IsLocal kind_machine m
kind_local m (Source n) hubs others vs k a = source_local m n hubs others vs k a
kind_local m (Several n) hubs others vs k a = several_local m n hubs others vs k
kind_local m (Plain n) hubs others [] k a = refl
kind_local m (Plain n) hubs others (v ∷ vs) k a = refl
kind_local m (PublishOn n) hubs others [] k a = refl
kind_local m (PublishOn n) hubs others (v ∷ vs) k a = refl
kind_local m (PublishOnEager n) hubs others [] k a = refl
kind_local m (PublishOnEager n) hubs others (v ∷ vs) k a = refl
kind_local m (Window n) hubs others [] k a = refl
kind_local m (Window n) hubs others (v ∷ vs) k a = refl
kind_local m (FlatMap n) hubs others [] k a = refl
kind_local m (FlatMapDelay n) hubs others [] k a = refl
kind_local m (FlatMap n) hubs others (v ∷ vs) k a = refl
kind_local m (FlatMapDelay n) hubs others (v ∷ vs) k a = refl
kind_local m (GroupBy n) hubs others [] k a = refl
kind_local m (GroupBy n) hubs others (v ∷ vs) k a = refl

pub any_local : {T : Type 0} (m : Meaning T) → IsLocal any_machine m
any_local m = sender_local kind_machine m (kind_local m)

-- ---- a queue is put at its edge

pub any_holds : {T : Type 0} (m : Meaning T) (q : List T) (n : TreeNode T) → is_crossing n ≡ false → HoldsQueue any_machine m (with_queue q n) q n
any_holds m q (Direct n) straight = record {
  holds = record { out = λ inc k. crossing_holds kind_machine m (record { node = n; queue = q; tail = _ }) refl inc k; recorded = refl };
  reads = refl;
  ended = refl;
  done = λ i. refl;
  counted = λ taken sent c. c.1;
  counts = λ taken sent c. (refl, c);
}
any_holds m q (Crossing x) straight = cc

-- ---- a queue with an ending is put at its edge

ends_last : {T : Type 0} (e : Ending) (s : Signal T) → endings e ≡ s ∷ [] → ends_input s ≡ true
ends_last Open s is = cc
ends_last {T} Done s is = let last : Complete ≡ s = cc in ap ends_input (sym last)
ends_last {T} (Failed c) s is = let last : Error c ≡ s = cc in ap ends_input (sym last)

ended_reads : {T : Type 0} (e : Ending) (s : Signal T) (o : Option Reading) → endings e ≡ s ∷ [] → reads_in (tail_of e) o ≡ None
ended_reads Open s o is = cc
ended_reads Done s o is = refl
ended_reads (Failed c) s o is = refl

ended_over : {T : Type 0} (e : Ending) (s : Signal T) (c : Bool) → endings e ≡ s ∷ [] → ended_in (tail_of e) c ≡ true
ended_over Open s c is = cc
ended_over Done s c is = refl
ended_over (Failed x) s c is = refl

-- of what a node gives that let its ending go, it matters only whether there is something
only_ending : {T : Type 0} (q : List T) (s : Signal T) (e : Ending) (a c : Option (Stream T)) → endings e ≡ s ∷ [] → option_map (signal_then s) a ≡ option_map (signal_then s) c → option_map (held_then q (tail_of e)) c ≡ option_map (signals_then (map Next q ++ s ∷ [])) a
only_ending q s Open a c is same = cc
only_ending q s Done None None is same = refl
only_ending q s Done None (Some w) is same = cc
only_ending q s Done (Some v) None is same = cc
only_ending {T} q s Done (Some v) (Some w) is same =
    let last : Complete ≡ s = cc in
    ap Some (items_signals q (ended_by Done) ∙ sym (then_append (map Next q) (Complete ∷ []) v)) ∙ ap (λ x. Some (signals_then (map Next q ++ x ∷ []) v)) last
only_ending q s (Failed k) None None is same = refl
only_ending q s (Failed k) None (Some w) is same = cc
only_ending q s (Failed k) (Some v) None is same = cc
only_ending {T} q s (Failed k) (Some v) (Some w) is same =
    let last : Error k ≡ s = cc in
    ap Some (items_signals q (ended_by (Failed k)) ∙ sym (then_append (map Next q) (Error k ∷ []) v)) ∙ ap (λ x. Some (signals_then (map Next q ++ x ∷ []) v)) last

pub any_holds_ending : {T : Type 0} (m : Meaning T) (e : Ending) (q : List T) (s : Signal T) (before n : TreeNode T) → is_crossing n ≡ false → endings e ≡ s ∷ [] → any_machine.waiting m before ≡ Some s → LetsGo (any_machine.comes_out m) before s n →
    HoldsEnding any_machine m (with_ended_queue e q n) (map Next q ++ s ∷ []) n
any_holds_ending m e q s before (Direct k) straight is waits gone = record {
  holds = record {
    out = λ inc f.
        let none = comes_in_at (tail_of e) inc in
        only_ending q s e (kind_machine.comes_out m k inc f) (kind_machine.comes_out m k none f) is (sym (gone inc f) ∙ (sender_ends kind_machine m (any_ends m) before s inc none f waits (ends_last e s is) ∙ gone none f));
    recorded = refl;
  };
  reads = ended_reads e s (kind_machine.reads k) is;
  ended = ended_over e s (kind_machine.ended k) is;
}
any_holds_ending m e q s before (Crossing x) straight is waits gone = cc

-- ---- it reads a link

leaf_reads_on : {T : Type 0} (m : Meaning T) (n : LeafState T) (e : Ending) (items taken : List T) (others : List (Signal T)) (r : Reading) → n.ending ≡ e → Some n.queue ≡ Some items → reading_of e (record { hub = n.hub; reached = n.reached; missed = n.missed; before = n.before }) ≡ Some r → r.reached ≡ length taken →
    (hubs : List (Stream T)) (v : Stream T) → published_at hubs r.hub ≡ signals_then (map Next taken ++ others) v → source_comes_out m (Hub n) (incoming_of hubs []) Nothing ≡ Some (signals_then (map Next items ++ others) v)
leaf_reads_on {T} m n Open items taken others r none holds reads reached hubs v published =
    let is : n.queue ≡ items = cc in
    let hub_is : n.hub ≡ r.hub = cc in
    let reached_is : n.reached ≡ r.reached = cc in
    leaf_reads_link m n taken others none (reached_is ∙ reached) hubs v (ap (published_at hubs) hub_is ∙ published) ∙ ap (λ q. Some (signals_then (map Next q ++ others) v)) is
leaf_reads_on m n Done items taken others r none holds reads reached hubs v published = cc
leaf_reads_on m n (Failed c) items taken others r none holds reads reached hubs v published = cc

pub any_reads_on : {T : Type 0} (m : Meaning T) (n : TreeNode T) (items taken : List T) (others : List (Signal T)) (r : Reading) → node_held n ≡ Some items → any_machine.reads n ≡ Some r → r.reached ≡ length taken →
    ReadsLink any_machine m r.hub n (map Next taken ++ others) (map Next items ++ others)
any_reads_on m (Direct (Source (Hub n))) items taken others r holds reads reached = record { out = λ hubs v p. leaf_reads_on m n n.ending items taken others r refl holds reads reached hubs v p; recorded = refl }
any_reads_on m (Direct (Source (Items n))) items taken others r holds reads reached = cc
any_reads_on m (Direct (Source (Range n))) items taken others r holds reads reached = cc
any_reads_on m (Direct (Plain n)) items taken others r holds reads reached = cc
any_reads_on m (Direct (Several n)) items taken others r holds reads reached = cc
any_reads_on m (Direct (PublishOn n)) items taken others r holds reads reached = cc
any_reads_on m (Direct (PublishOnEager n)) items taken others r holds reads reached = cc
any_reads_on m (Direct (Window n)) items taken others r holds reads reached = cc
any_reads_on m (Direct (FlatMap n)) items taken others r holds reads reached = cc
any_reads_on m (Direct (FlatMapDelay n)) items taken others r holds reads reached = cc
any_reads_on m (Direct (GroupBy n)) items taken others r holds reads reached = cc
any_reads_on m (Crossing x) items taken others r holds reads reached = cc

-- ---- it read one to its end

leaf_reads_ended : {T : Type 0} (m : Meaning T) (n : LeafState T) (x : Ending) (items : List T) (e : Ending) → n.ending ≡ x → Some n.queue ≡ Some items → taken_in x ≡ Some e → (hubs : List (Stream T)) (v : Stream T) →
    source_comes_out m (Hub n) (incoming_of hubs []) Nothing ≡ Some (signals_then (map Next items ++ endings e) v)
leaf_reads_ended m n Open items e is holds taken hubs v = cc
leaf_reads_ended {T} m n Done items e is holds taken hubs v =
    let queue : n.queue ≡ items = cc in
    let ending : Done ≡ e = cc in
    leaf_open m hubs n Done is
    ∙ (ap Some (items_signals n.queue (ended_by Done) ∙ sym (then_append (map Next n.queue) (Complete ∷ []) v))
    ∙ (ap (λ q. Some (signals_then (map Next q ++ Complete ∷ []) v)) queue ∙ ap (λ x. Some (signals_then (map Next items ++ endings x) v)) ending))
leaf_reads_ended {T} m n (Failed c) items e is holds taken hubs v =
    let queue : n.queue ≡ items = cc in
    let ending : Failed c ≡ e = cc in
    leaf_open m hubs n (Failed c) is
    ∙ (ap Some (items_signals n.queue (ended_by (Failed c)) ∙ sym (then_append (map Next n.queue) (Error c ∷ []) v))
    ∙ (ap (λ q. Some (signals_then (map Next q ++ Error c ∷ []) v)) queue ∙ ap (λ x. Some (signals_then (map Next items ++ endings x) v)) ending))

pub any_reads_ended : {T : Type 0} (m : Meaning T) (n : TreeNode T) (items : List T) (e : Ending) (k : ℕ) (sent : List (Signal T)) → node_held n ≡ Some items → node_read_to n ≡ Some e → ReadsLink any_machine m k n sent (map Next items ++ endings e)
any_reads_ended m (Direct (Source (Hub n))) items e k sent holds taken = record { out = λ hubs v p. leaf_reads_ended m n n.ending items e refl holds taken hubs v; recorded = refl }
any_reads_ended m (Direct (Source (Items n))) items e k sent holds taken = cc
any_reads_ended m (Direct (Source (Range n))) items e k sent holds taken = cc
any_reads_ended m (Direct (Plain n)) items e k sent holds taken = cc
any_reads_ended m (Direct (Several n)) items e k sent holds taken = cc
any_reads_ended m (Direct (PublishOn n)) items e k sent holds taken = cc
any_reads_ended m (Direct (PublishOnEager n)) items e k sent holds taken = cc
any_reads_ended m (Direct (Window n)) items e k sent holds taken = cc
any_reads_ended m (Direct (FlatMap n)) items e k sent holds taken = cc
any_reads_ended m (Direct (FlatMapDelay n)) items e k sent holds taken = cc
any_reads_ended m (Direct (GroupBy n)) items e k sent holds taken = cc
any_reads_ended m (Crossing x) items e k sent holds taken = cc

-- ---- its counts begin with what its reading says

leaf_reads_counted : {T : Type 0} (n : LeafState T) (e : Ending) (items : List T) (r : Reading) → Some n.queue ≡ Some items → reading_of e (record { hub = n.hub; reached = n.reached; missed = n.missed; before = n.before }) ≡ Some r →
    (sent : ℕ) → n.missed + sent + length n.queue ≡ n.reached + n.before → r.missed + sent + length items ≡ r.reached + r.before
leaf_reads_counted {T} n Open items r holds reads sent counted =
    let is : n.queue ≡ items = cc in
    let reached : n.reached ≡ r.reached = cc in
    let missed : n.missed ≡ r.missed = cc in
    let before : n.before ≡ r.before = cc in
    ap (λ q. r.missed + sent + length q) (sym is)
    ∙ (ap (λ k. k + sent + length n.queue) (sym missed) ∙ (counted ∙ (ap (λ k. k + n.before) reached ∙ ap (λ k. r.reached + k) before)))
leaf_reads_counted n Done items r holds reads sent counted = cc
leaf_reads_counted n (Failed c) items r holds reads sent counted = cc

pub any_reads_counted : {T : Type 0} (n : TreeNode T) (items : List T) (r : Reading) → node_held n ≡ Some items → any_machine.reads n ≡ Some r → (any_machine.ended n ≡ false) × ((taken : List ℕ) (sent : ℕ) → any_machine.counted n taken sent → r.missed + sent + length items ≡ r.reached + r.before)
any_reads_counted (Direct (Source (Hub n))) items r holds reads = (refl, λ taken sent counted. leaf_reads_counted n n.ending items r holds reads sent counted)
any_reads_counted (Direct (Source (Items n))) items r holds reads = cc
any_reads_counted (Direct (Source (Range n))) items r holds reads = cc
any_reads_counted (Direct (Plain n)) items r holds reads = cc
any_reads_counted (Direct (Several n)) items r holds reads = cc
any_reads_counted (Direct (PublishOn n)) items r holds reads = cc
any_reads_counted (Direct (PublishOnEager n)) items r holds reads = cc
any_reads_counted (Direct (Window n)) items r holds reads = cc
any_reads_counted (Direct (FlatMap n)) items r holds reads = cc
any_reads_counted (Direct (FlatMapDelay n)) items r holds reads = cc
any_reads_counted (Direct (GroupBy n)) items r holds reads = cc
any_reads_counted (Crossing x) items r holds reads = cc

leaf_reads_still : (x : Ending) (q r : Reading) → reading_of x q ≡ Some r → taken_in x ≡ None
leaf_reads_still Open q r reads = refl
leaf_reads_still Done q r reads = cc
leaf_reads_still (Failed c) q r reads = cc

pub any_reads_still : {T : Type 0} (n : TreeNode T) (r : Reading) → any_machine.reads n ≡ Some r → node_read_to n ≡ None
any_reads_still (Direct (Source (Hub n))) r reads = leaf_reads_still n.ending _ r reads
any_reads_still (Direct (Source (Items n))) r reads = refl
any_reads_still (Direct (Source (Range n))) r reads = refl
any_reads_still (Direct (Plain n)) r reads = refl
any_reads_still (Direct (Several n)) r reads = refl
any_reads_still (Direct (PublishOn n)) r reads = refl
any_reads_still (Direct (PublishOnEager n)) r reads = refl
any_reads_still (Direct (Window n)) r reads = refl
any_reads_still (Direct (FlatMap n)) r reads = refl
any_reads_still (Direct (FlatMapDelay n)) r reads = refl
any_reads_still (Direct (GroupBy n)) r reads = refl
any_reads_still (Crossing x) r reads = refl
