-- The nodes at a cut edge: one with the queue of its edge holds that in front, and one that reads a link gives what it holds and
-- what is still to come. Neither depends on a hub but the one that it reads.
use Rattle.std.proofs.Common.{◌≡◌, false, List, [], ◌∷◌, ◌++◌, length, map, refl, ap, sym, ◌∙◌, Option, Some, None, option_map}
use Rattle.std.proofs.Math.Seq.{drop-append_seam}
use Rattle.rsx_sources.specs.Prelude.{Meaning, Stream, Note, Nothing, Ending, Open, Done, Failed, Signal, Next, Complete, Incoming, ended_by, incoming_of, item_then, items_then, published_at, quiet, signals_then}
use Rattle.rsx_sources.specs.declared.machine.Machine.{Ghosts as Machine}
use Rattle.rsx_sources.proofs.Incomings.{hubs_in}
use Rattle.rsx_hub.specs.Leaf.{LeafState, leaf_comes_out, leaf_reads, member_of, reading_of}
use Rattle.rsx_hub.specs.Member.{behind, rest, without}
use Rattle.rsx_queued.specs.Held.{comes_in_at, held_then}
use Rattle.rsx_queued.specs.Queued.{out, reads_in}
use Rattle.rsx_queued.specs.Sender.{sender_comes_out, sender_reads, sender_recorded}
use Rattle.rsx_queued.specs.declared.queued.Queued.{Queued}
use Rattle.rsx_queued.specs.declared.sender.Sender.{Sender}
use Rattle.rsx_queued.specs.declared.sender.Sender.TheVariants.{Direct, Crossing}
use Rattle.rsx_queued.specs.declared.tail.Tail.{Tail}
use Rattle.rsx_queued.specs.declared.tail.Tail.TheVariants.{Open as TailOpen, Completion, Failure, Taken}
use Rattle.rsx_rooted.specs.Local.{AgreeAt, IsLocal}
use Rattle.rsx_rooted.proofs.Linked.{then_append}

pub items_signals : {T : Type 0} (q : List T) (v : Stream T) → items_then q v ≡ signals_then (map Next q) v
items_signals [] v = refl
items_signals (x ∷ q) v = ap (item_then x) (items_signals q v)

-- ---- a node with the queue of its edge, over the node of the other region

pub crossing_holds : {M T : Type 0} (b : Machine M T) (m : Meaning T) (n : Queued M T) → n.tail ≡ TailOpen → (inc : Incoming T) (k : Note) →
    sender_comes_out b m (Crossing n) inc k ≡ option_map (signals_then (map Next n.queue)) (sender_comes_out b m (Direct n.node) inc k)
crossing_holds b m n o inc k = ap (λ t. option_map (held_then n.queue t) (b.comes_out m n.node (comes_in_at t inc) k)) o ∙ map_held n.queue (b.comes_out m n.node inc k)
  where
    map_held : {T : Type 0} (q : List T) (o : Option (Stream T)) → option_map (held_then q TailOpen) o ≡ option_map (signals_then (map Next q)) o
    map_held q None = refl
    map_held q (Some v) = ap Some (items_signals q v)

pub crossing_recorded : {M T : Type 0} (b : Machine M T) (n : Queued M T) → sender_recorded b (Crossing n) ≡ sender_recorded b (Direct n.node)
crossing_recorded b n = refl

queued_local : {M T : Type 0} (b : Machine M T) (m : Meaning T) → IsLocal b m → (n : M) (q : List T) (t : Tail) (hubs others vs : List (Stream T)) (k : Note) → AgreeAt hubs others (reads_in t (b.reads n)) → out b m n q t (incoming_of hubs vs) k ≡ out b m n q t (incoming_of others vs) k
queued_local b m local n q TailOpen hubs others vs k a = ap (option_map (held_then q TailOpen)) (local n hubs others vs k a)
queued_local b m local n q Completion hubs others vs k a = refl
queued_local b m local n q (Failure c) hubs others vs k a = refl
queued_local b m local n q Taken hubs others vs k a = refl

-- where no node inside depends on a hub but the one that it reads, none with a queue behind it does
pub sender_local : {M T : Type 0} (b : Machine M T) (m : Meaning T) → IsLocal b m → (n : Sender M T) (hubs others vs : List (Stream T)) (k : Note) → AgreeAt hubs others (sender_reads b n) → sender_comes_out b m n (incoming_of hubs vs) k ≡ sender_comes_out b m n (incoming_of others vs) k
sender_local b m local (Direct n) hubs others vs k a = local n hubs others vs k a
sender_local b m local (Crossing n) hubs others vs k a = queued_local b m local n.node n.queue n.tail hubs others vs k a

-- ---- a node that reads a link

pub leaf_open : {T : Type 0} (m : Meaning T) (hubs : List (Stream T)) (n : LeafState T) (e : Ending) → n.ending ≡ e → leaf_comes_out m n (incoming_of hubs []) Nothing ≡ Some (items_then n.queue (behind false e (without n.reached (published_at hubs n.hub))))
leaf_open m hubs n e o = ap (λ x. Some (items_then n.queue (behind false x (without n.reached (published_at hubs n.hub))))) o

-- Of what the link's sender sent, `taken` came to the leaf, which holds the last of them; what the link holds comes next, and
-- then what is still sent. At the opening nothing was taken, and the link is to hold what the edge's queue held.
pub leaf_reads_link : {T : Type 0} (m : Meaning T) (n : LeafState T) (taken : List T) (held : List (Signal T)) → n.ending ≡ Open → n.reached ≡ length taken →
    (hubs : List (Stream T)) (v : Stream T) → published_at hubs n.hub ≡ signals_then (map Next taken ++ held) v → leaf_comes_out m n (incoming_of hubs []) Nothing ≡ Some (signals_then (map Next n.queue ++ held) v)
leaf_reads_link {T} m n taken held o reached hubs v published =
    let whole : published_at hubs n.hub ≡ items_then taken (signals_then held v) = published ∙ (then_append (map Next taken) held v ∙ sym (items_signals taken (signals_then held v))) in
    let left : without n.reached (published_at hubs n.hub) ≡ signals_then held v = ap (λ k. without k (published_at hubs n.hub)) reached ∙ (ap (without (length taken)) whole ∙ items_past taken (signals_then held v)) in
    leaf_open m hubs n Open o ∙ ap Some (ap (items_then n.queue) left ∙ (items_signals n.queue (signals_then held v) ∙ sym (then_append (map Next n.queue) held v)))
  where
    items_past : {T : Type 0} (q : List T) (v : Stream T) → without (length q) (items_then q v) ≡ v
    items_past q v = ap (λ is. record { items = is; ending = v.ending }) (drop-append_seam q v.items)

-- once it took the completion in, it gives that behind what it holds, and no more
pub leaf_ended : {T : Type 0} (m : Meaning T) (n : LeafState T) → n.ending ≡ Done → (hubs : List (Stream T)) (v : Stream T) → leaf_comes_out m n (incoming_of hubs []) Nothing ≡ Some (signals_then (map Next n.queue ++ Complete ∷ []) v)
leaf_ended m n o hubs v = leaf_open m hubs n Done o ∙ ap Some (items_signals n.queue (ended_by Done) ∙ sym (then_append (map Next n.queue) (Complete ∷ []) v))

pub leaf_local : {T : Type 0} (m : Meaning T) (n : LeafState T) (hubs others vs : List (Stream T)) (k : Note) → AgreeAt hubs others (leaf_reads n) → leaf_comes_out m n (incoming_of hubs vs) k ≡ leaf_comes_out m n (incoming_of others vs) k
leaf_local {T} m n hubs others vs k a =
    let R : List (Stream T) → Option (Stream T) = λ l. quiet k (rest (member_of n) (published_at l n.hub)) in
    ap R (hubs_in hubs vs) ∙ (ap (quiet k) (by_ending n.ending a) ∙ sym (ap R (hubs_in others vs)))
  where
    by_ending : (e : Ending) → AgreeAt hubs others (reading_of e (record { hub = n.hub; reached = n.reached; missed = n.missed; before = n.before })) → items_then n.queue (behind false e (without n.reached (published_at hubs n.hub))) ≡ items_then n.queue (behind false e (without n.reached (published_at others n.hub)))
    by_ending Open a = ap (λ w. items_then n.queue (without n.reached w)) a
    by_ending Done a = refl
    by_ending (Failed c) a = refl
