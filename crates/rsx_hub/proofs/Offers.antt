-- What comes out of a node that reads a hub, of the items that it holds.
use Rattle.std.proofs.Common.{◌≡◌, ℕ, suc, ◌+◌, ◌≤◌, false, List, ◌∷◌, length, refl, arith}
use Rattle.rsx_types.specs.declared.note.Note.TheVariants.{Ended, Nothing, Picks}
use Rattle.rsx_sources.specs.Prelude.{IsItemOut, LetsGo, Meaning, Next, StaysAlike}
use Rattle.rsx_hub.specs.Member.{IsMember}
use Rattle.rsx_hub.specs.Leaf.{LeafState, leaf_comes_out, leaf_counted, leaf_popped, leaf_reads, leaf_waiting, member_of, with_queue}
use Rattle.rsx_hub.specs.Laws.{leaf_popped_alike}

-- the item that it has held longest is given out
first_given : {T : Type 0} (n : LeafState T) (x : T) (q : List T) → IsMember (member_of (with_queue n (x ∷ q))) → leaf_popped (with_queue n (x ∷ q)) (Next x) (with_queue n q)
first_given n x q held = (refl, record { offers = refl; gives = refl; member = held }, refl, refl)

value_of : {T : Type 0} (m : Meaning T) (n : LeafState T) (x : T) (q : List T) → LetsGo (leaf_comes_out m) (with_queue n (x ∷ q)) (Next x) (with_queue n q)
value_of m n x q inc Nothing = refl
value_of m n x q inc (Picks cs) = refl
value_of m n x q inc (Ended o) = refl

one_less : (missed sent held reached before : ℕ) → missed + sent + suc held ≡ reached + before → missed + (sent + 1) + held ≡ reached + before
one_less missed sent held reached before e = omega (arith, e)

pub first_out : {T : Type 0} (m : Meaning T) (n : LeafState T) (x : T) (q : List T) → IsMember (member_of (with_queue n (x ∷ q))) →
    IsItemOut (leaf_comes_out m) (leaf_waiting m) leaf_popped (λ k. Nothing) leaf_counted (λ k. false) (λ k i. false) (with_queue n (x ∷ q)) x (with_queue n q)
    × StaysAlike leaf_reads (λ k. false) (λ a k. false) (λ a k. false) (λ a k. false) (with_queue n (x ∷ q)) (with_queue n q)
first_out m n x q held = (
  record {
    waited = refl;
    popped_out = first_given n x q held;
    value = value_of m n x q;
    notes = refl;
    counts = (refl, λ taken sent c. one_less n.missed sent (length q) n.reached n.before c, λ j e. e);
  },
  leaf_popped_alike (with_queue n (x ∷ q)) (Next x) (with_queue n q) (first_given n x q held),
)

-- what it holds then is held by a member, too
pub still_member : {T : Type 0} (n : LeafState T) (x : T) (q : List T) → IsMember (member_of (with_queue n (x ∷ q))) → IsMember (member_of (with_queue n q))
still_member n x q held =
    let fits : length q ≤ n.places = fewer (length q) n.places held.fits in
    record { positive = held.positive; fits = fits; stored = held.stored; few = held.few; nothing_waits = λ e. cc }
  where
    fewer : (k p : ℕ) → suc k ≤ p → k ≤ p
    fewer k p h = omega (arith, h)
