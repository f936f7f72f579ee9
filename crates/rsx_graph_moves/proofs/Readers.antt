-- A hub wakes only those subscriptions of which some node reads it.
use Rattle.rsx_sources.specs.declared.machine.Machine.{Ghosts as Machine}
use Rattle.rsx_rooted.specs.declared.nodes.Nodes.{Ghosts as Nodes}
use Rattle.std.proofs.Common.{◌≡◌, ℕ, zero, suc, ◌+◌, ◌<◌, ◌⊎◌, inl, inr, ◌&&◌, nat_eq, Bool, true, false, if◌then◌else◌, List, [], ◌∷◌, length, slice_get, Some, Result, Ok, ◌≤◌, refl, ap, sym, ◌∙◌, subst, arith}
use Rattle.rsx_types.specs.Meaning.{Meaning}
use Rattle.rsx_sources.specs.Prelude.{Signal, reads_hub}
use Rattle.rsx_tree.specs.declared.edge.EdgeState.{EdgeState}
use Rattle.rsx_tree.specs.declared.edge.EdgeState.TheVariants.{Live, Ended, Closed}
use Rattle.rsx_tree.specs.declared.inputs.Inputs.{Inputs, End, More'}
use Rattle.rsx_tree.specs.declared.node.Node.{Node}
use Rattle.rsx_tree.specs.Edges.{is_live}
use Rattle.rsx_tree.specs.Handed as Tree
use Rattle.rsx_tree.specs.Handed.{IsNodeHanded, IsRowHanded, IsTakenWhere, OneOf, reader_at, readers_in}
use Rattle.rsx_pipe.specs.Part as Part
use Rattle.rsx_pipe.specs.Part.{Part as PartOf}
use Rattle.rsx_pipe.specs.Published as Published
use Rattle.rsx_pipe.specs.Published.{readers}
use Rattle.rsx_subscriber.specs.Published.{IsHanded}
use Rattle.rsx_subscriber.specs.Prelude.{IsQuiet, delivers}
use Rattle.rsx_subscriber.specs.declared.subscription.Subscription.{Subscription}
use Rattle.rsx_graph_state.specs.Lists.{AllChanged}
use Rattle.rsx_graph_state.specs.Prelude.{AllHanded, Rows}
use Rattle.rsx_graph_state.specs.SubscriptionSet.{IsIn as IsInSet, IsSkipped, NoneReads}
use Rattle.rsx_graph_state.specs.declared.skipped.Skipped.{Skipped}
use Rattle.rsx_graph_state.specs.declared.subscription_set.SubscriptionSet.{SubscriptionSet}
use Rattle.rsx_graph_moves.specs.IdleSet.{IsApart, IsIn}
use Rattle.rsx_graph_state.specs.declared.refusal.Refusal.{Refusal}
use Rattle.rsx_rooted.specs.declared.rooted.Pumped.{Pumped as Rest}
use Rattle.rsx_rooted.specs.declared.rooted.Pumped.TheVariants.{Idle as Rests'}
use Rattle.rsx_graph_moves.specs.Pumped.{HasServed, IsHubQuiet}
use Rattle.rsx_graph_moves.specs.Resting.{AreIdle}
use Rattle.rsx_graph_moves.proofs.Driving.{none_made}
use Rattle.rsx_graph_moves.specs.declared.idle_set.IdleSet.{IdleSet}

-- ---- where no node reads the hub, nothing changes

-- a test counted as 1 that counts nothing
abbrev counted : Bool → ℕ
counted v = if v then 1 else 0

not_counted : (v : Bool) → counted v ≡ 0 → v ≡ false
not_counted true e = absurd (omega (arith, e))
not_counted false e = refl

node_same : {M T : Type 0} (b : Machine M T) (h : ℕ) (s : Signal T) (n n' : M) → reader_at b h n ≡ 0 → IsNodeHanded b h s n n' → n' ≡ n
node_same {M} {T} b h s n n' none k = by_read (reads_hub h (b.reads n)) (not_counted (reads_hub h (b.reads n)) none) k
  where
    by_read : (v : Bool) → v ≡ false → IsTakenWhere b s v n n' → n' ≡ n
    by_read true e k = cc
    by_read false e k = k

row_same : {M T : Type 0} (b : Machine M T) (h : ℕ) (s : Signal T) (t t' : Inputs M) → readers_in b h t ≡ 0 → IsRowHanded b h s t t' → t' ≡ t
row_same b h s End t' none k = k
row_same {M} {T} b h s (More' e n p below q beside) t' none k =
    by_live (λ z x. row_same b h s below k.1 z x) (λ z x. row_same b h s beside k.2 z x) (is_live e.state) none k.4
  where
    joined : k.0 ≡ n → k.1 ≡ below → k.2 ≡ beside → t' ≡ More' e n p below q beside
    joined x y z = k.3 ∙ (λ i. More' e (x i) p (y i) q (z i))

    by_live : (readers_in b h below ≡ 0 → IsRowHanded b h s below k.1 → k.1 ≡ below) → (readers_in b h beside ≡ 0 → IsRowHanded b h s beside k.2 → k.2 ≡ beside) → (v : Bool) → (if v then reader_at b h n + readers_in b h below else 0) + readers_in b h beside ≡ 0 → OneOf v (IsNodeHanded b h s n k.0 × IsRowHanded b h s below k.1) ((k.0 ≡ n) × (k.1 ≡ below)) → t' ≡ More' e n p below q beside
    by_live under side true z one = joined (node_same b h s n k.0 (omega (arith, z)) one.0) (under (omega (arith, z)) one.1) (side (omega (arith, z)) k.5)
    by_live under side false z one = joined one.0 one.1 (side (omega (arith, z)) k.5)

tree_same : {M T : Type 0} (b : Machine M T) (h : ℕ) (s : Signal T) (old new : Node M) → Tree.readers b h old ≡ 0 → Tree.IsHanded b h s old new → new ≡ old
tree_same b h s old new none k =
    let root = node_same b h s old.machine new.machine (omega (arith, none)) k.root in
    let below = row_same b h s old.inputs new.inputs (omega (arith, none)) k.below in
    λ i. record { machine = root i; inputs = below i }

part_same : {M T : Type 0} (b : Machine M T) (h : ℕ) (s : Signal T) (old new : PartOf M) → readers b h old ≡ 0 → Published.IsHanded b h s old new → new ≡ old
part_same {M} {T} b h s old new none k = by_state old.root.state refl none
  where
    by_state : (st : EdgeState) → old.root.state ≡ st → (if is_live st then Tree.readers b h old.tree else 0) ≡ 0 → new ≡ old
    by_state Live e z = let tree = tree_same b h s old.tree new.tree z (k.tree e) in let root = k.root in λ i. record { tree = tree i; root = root i }
    by_state Ended e z = k.still (λ live. let no : Live ≡ Ended = sym live ∙ e in cc)
    by_state Closed e z = k.still (λ live. let no : Live ≡ Closed = sym live ∙ e in cc)

-- ---- a subscription

quiet_same : {M T : Type 0} (mc : Machine M T) (m : Meaning T) (h : ℕ) (s : Signal T) (old new : Subscription M T) → readers mc h old.part ≡ 0 → IsHanded mc h s old new → IsQuiet mc m old → IsQuiet mc m new
quiet_same mc m h s old new none k quiet =
    let part = part_same mc h s old.part new.part none k.part in
    let queue = k.queue in
    let kept = k.kept in (
      λ move small. (λ i. Part.move_enabled mc m (part i) (Part.has_room (queue i)) move) ∙ quiet.0 move small,
      (λ i. nat_eq 0 0 && delivers (kept.state i) (kept.demand i) (queue i)) ∙ quiet.1,
    )

none_same_at : {M T : Type 0} (mc : Machine M T) (h n : ℕ) (s : Signal T) (old new : Subscription M T) → readers mc h old.part ≡ 0 → IsHanded mc h s old new → readers mc n new.part ≡ readers mc n old.part
none_same_at mc h n s old new none k = ap (readers mc n) (part_same mc h s old.part new.part none k.part)

none_same : {M T : Type 0} (mc : Machine M T) (h : ℕ) (s : Signal T) (old new : Subscription M T) → readers mc h old.part ≡ 0 → IsHanded mc h s old new → readers mc h new.part ≡ 0
none_same mc h s old new none k = ap (readers mc h) (part_same mc h s old.part new.part none k.part) ∙ none

-- ---- the idle ones

-- they are among some of which no node reads the hub, and no move of theirs is enabled
abbrev pub Rests : {M T : Type 0} → Machine M T → Meaning T → ℕ → (ℕ → Type 0) → IdleSet → List (Subscription M T) → Type 0
Rests {M} {T} mc m h Q idle subs = ((i : ℕ) → IsIn idle i → Q i) × AreIdle mc m idle subs × ((i : ℕ) → Q i → (s : Subscription M T) → slice_get subs i ≡ Some s → readers mc h s.part ≡ 0)

some_same : {A : Type 0} (a b : A) → Some a ≡ Some b → a ≡ b
some_same a b e = cc

pub got_within : {A : Type 0} (xs : List A) (i : ℕ) (x : A) → slice_get xs i ≡ Some x → i < length xs
got_within [] i x e = cc
got_within (y ∷ ys) zero x e = omega arith
got_within (y ∷ ys) (suc i) x e = let k = got_within ys i x e in omega (arith, k)

-- what stood where something stands now
changed_from : {X : Type 0} (P : X → X → Type 0) (olds news : List X) (i : ℕ) (new : X) → AllChanged P olds news → slice_get news i ≡ Some new → (old : X) × (slice_get olds i ≡ Some old) × P old new
changed_from P [] [] i new all e = cc
changed_from P [] (y ∷ ys) i new all e = absurd all
changed_from P (x ∷ xs) [] i new all e = absurd all
changed_from {X} P (x ∷ xs) (y ∷ ys) zero new all e = let Q : X → Type 0 = λ z. P x z in (x, refl, subst Q (some_same y new e) all.0)
changed_from P (x ∷ xs) (y ∷ ys) (suc i) new all e = changed_from P xs ys i new all.1 e

handed_rests : {M T : Type 0} (mc : Machine M T) (m : Meaning T) (h : ℕ) (s : Signal T) (Q : ℕ → Type 0) (idle : IdleSet) (olds news : List (Subscription M T)) → AllHanded mc h s olds news → Rests mc m h Q idle olds → Rests mc m h Q idle news
unfolding AreIdle
handed_rests mc m h s Q idle olds news all rests = (
  rests.0,
  λ i within new e.
      let k = changed_from (IsHanded mc h s) olds news i new all e in
      let none = rests.2 i (rests.0 i within) k.0 k.1 in
      let was = rests.1 i within k.0 k.1 in
      (quiet_same mc m h s k.0 new none k.2 was.0, λ n known. none_same_at mc h n s k.0 new none k.2 ∙ was.1 n known),
  λ i within new e. let k = changed_from (IsHanded mc h s) olds news i new all e in none_same mc h s k.0 new (rests.2 i within k.0 k.1) k.2,
)

-- ---- where some are skipped

-- those that are skipped read nothing afterwards
handed_unread : {M T : Type 0} (mc : Machine M T) (h : ℕ) (s : Signal T) (skipped : Skipped) (olds news : List (Subscription M T)) → AllHanded mc h s olds news → NoneReads mc h skipped olds → NoneReads mc h skipped news
unfolding NoneReads
handed_unread mc h s skipped olds news all none = λ i within new e. let k = changed_from (IsHanded mc h s) olds news i new all e in none_same mc h s k.0 new (none i within k.0 k.1) k.2

-- idle ones that are skipped stay so
handed_idle : {M T : Type 0} (mc : Machine M T) (m : Meaning T) (h : ℕ) (s : Signal T) (skipped : Skipped) (idle : IdleSet) (olds news : List (Subscription M T)) → AllHanded mc h s olds news → NoneReads mc h skipped olds → ((i : ℕ) → IsIn idle i → IsSkipped skipped i) → AreIdle mc m idle olds → AreIdle mc m idle news
unfolding NoneReads
handed_idle mc m h s skipped idle olds news all none among quiet = (handed_rests mc m h s (IsSkipped skipped) idle olds news all (among, quiet, none)).1

pub same_idle : {M T : Type 0} (mc : Machine M T) (m : Meaning T) (idle : IdleSet) (olds news : List (Subscription M T)) → news ≡ olds → AreIdle mc m idle olds → AreIdle mc m idle news
same_idle {M} {T} mc m idle olds news same quiet = let P : List (Subscription M T) → Type 0 = λ l. AreIdle mc m idle l in subst P (sym same) quiet

-- the same where each is as it was, or all got a signal
pub moved_unread : {M T : Type 0} (mc : Machine M T) (h : ℕ) (skipped : Skipped) (olds news : List (Subscription M T)) → (news ≡ olds) ⊎ ((s : Signal T) × AllHanded mc h s olds news) → NoneReads mc h skipped olds → NoneReads mc h skipped news
moved_unread {M} {T} mc h skipped olds news k none = elim k [
  | inl same ↦ let P : List (Subscription M T) → Type 0 = λ l. NoneReads mc h skipped l in subst P (sym same) none
  | inr got ↦ handed_unread mc h got.0 skipped olds news got.1 none
]

pub moved_idle : {M T : Type 0} (mc : Machine M T) (m : Meaning T) (h : ℕ) (skipped : Skipped) (idle : IdleSet) (olds news : List (Subscription M T)) → (news ≡ olds) ⊎ ((s : Signal T) × AllHanded mc h s olds news) → NoneReads mc h skipped olds → ((i : ℕ) → IsIn idle i → IsSkipped skipped i) → AreIdle mc m idle olds → AreIdle mc m idle news
moved_idle mc m h skipped idle olds news k none among quiet = elim k [
  | inl same ↦ same_idle mc m idle olds news same quiet
  | inr got ↦ handed_idle mc m h got.0 skipped idle olds news got.1 none among quiet
]

pub quiet_still : {M T : Type 0} (mc : Machine M T) (m : Meaning T) (h : ℕ) (old new : Rows M T) → new ≡ old → IsHubQuiet mc m old h → IsHubQuiet mc m new h
quiet_still {M} {T} mc m h old new same quiet = let P : Rows M T → Type 0 = λ g. IsHubQuiet mc m g h in subst P (sym same) quiet

-- where the budget was left, nothing changed
pub left_as_was : {M T : Type 0} (mc : Machine M T) (kd : Nodes M T) (m : Meaning T) (h budget : ℕ) (old new : Rows M T) (served : Result Rest Refusal) → (left : ℕ) × (served ≡ Ok (Rests' left)) × (budget ≤ left) → HasServed mc kd m h budget old served new → new ≡ old
left_as_was {M} {T} mc kd m h budget old new served left p =
    let P : Result Rest Refusal → Type 0 = λ r. HasServed mc kd m h budget old r new in
    let q = subst P left.1 p in
    let n = q.1.0 in
    let all = left.2 in
    none_made mc kd m old new q.0 (omega (arith, n, all)) q.2

-- those are skipped that are known not to read the hub
pub apart_unread : {M T : Type 0} (mc : Machine M T) (m : Meaning T) (h count : ℕ) (idle : IdleSet) (apart : SubscriptionSet) (skipped : Skipped) (subs : List (Subscription M T)) → count ≡ length subs → ((i : ℕ) → IsInSet apart i → IsIn idle i × IsApart idle h i) → ((i : ℕ) → i < count → IsSkipped skipped i → IsInSet apart i) → AreIdle mc m idle subs → NoneReads mc h skipped subs
unfolding AreIdle NoneReads
apart_unread mc m h count idle apart skipped subs many of only quiet = λ i is s e.
    let within = got_within subs i s e in
    let k = of i (only i (omega (arith, within, many)) is) in
    (quiet i k.0 s e).1 h k.1

-- one more was found not to read the hub
pub found_idle : {M T : Type 0} (mc : Machine M T) (m : Meaning T) (h k : ℕ) (idle found : IdleSet) (subs : List (Subscription M T)) → ((i : ℕ) → IsIn found i → IsIn idle i) → ((n i : ℕ) → IsApart found n i → IsApart idle n i ⊎ ((n ≡ h) × (i ≡ k))) → ((s : Subscription M T) → slice_get subs k ≡ Some s → readers mc h s.part ≡ 0) → AreIdle mc m idle subs → AreIdle mc m found subs
unfolding AreIdle
found_idle {M} {T} mc m h k idle found subs same more none quiet i within s e =
    let was = quiet i (same i within) s e in (
      was.0,
      λ n known. elim (more n i known) [
        | inl old ↦ was.1 n old
        | inr new ↦
            let P : ℕ → Type 0 = λ j. slice_get subs j ≡ Some s in
            let R : ℕ → Type 0 = λ j. readers mc j s.part ≡ 0 in
            subst R (sym new.0) (none s (subst P new.1 e))
      ],
    )
