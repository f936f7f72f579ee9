-- What stays of a tree of nodes of one kind, as one of nodes of either kind: all that is said of it.
use Rattle.std.proofs.Common.{◌≡◌, inl, inr, refl, ◌∙◌, ℕ, ◌+◌, Bool, List, [], Option}
use Rattle.rsx_hub.specs.Hub.{HubState}
use Rattle.rsx_model.specs.declared.expr.Expr.{Expr}
use Rattle.rsx_rooted.specs.Built.{IsBuilt, counts_of, first_wants}
use Rattle.rsx_rooted.specs.Crossings.{IsPlaced, crossings}
use Rattle.rsx_sources.specs.Prelude.{Meaning, Stream, Note}
use Rattle.rsx_sources.specs.declared.machine.Machine.{Ghosts as Machine}
use Rattle.rsx_tree.specs.Balance.{IsOwnerBalanced, IsRowBalanced, sent_over}
use Rattle.rsx_tree.specs.Inputs.{comes_in, edges, notes_of, size}
use Rattle.rsx_tree.specs.Reads.{IsRowReadAt}
use Rattle.rsx_tree.specs.declared.inputs.Inputs.{Inputs, End, More'}
use Rattle.rsx_tree.specs.declared.node.Node.{Node}
use Rattle.rsx_processor.specs.Either.{by_kind, either}
use Rattle.rsx_processor.specs.Trees.{IsLeft, IsLeftRow}
use Rattle.rsx_processor.specs.declared.either.EitherNode.{EitherNode}
use Rattle.rsx_processor.specs.declared.either.EitherNode.TheVariants.{Left}

same_size : {A B : Type 0} (r : Inputs A) (s : Inputs (EitherNode A B)) → IsLeftRow r s → size s ≡ size r
same_size End End h = refl
same_size (More' e n p below q beside) (More' f k x inside y others) h = rw (same_size below inside h.2) (rw (same_size beside others h.3) refl)
same_size End (More' f k x inside y others) h = absurd h
same_size (More' e n p below q beside) End h = absurd h

same_edges : {A B : Type 0} (r : Inputs A) (s : Inputs (EitherNode A B)) → IsLeftRow r s → edges s ≡ edges r
same_edges End End h = refl
same_edges (More' e n p below q beside) (More' f k x inside y others) h = rw h.0 (rw (same_edges below inside h.2) (rw (same_edges beside others h.3) refl))
same_edges End (More' f k x inside y others) h = absurd h
same_edges (More' e n p below q beside) End h = absurd h

same_sent : {A B : Type 0} (r : Inputs A) (s : Inputs (EitherNode A B)) → IsLeftRow r s → sent_over s ≡ sent_over r
same_sent End End h = refl
same_sent (More' e n p below q beside) (More' f k x inside y others) h = rw h.0 (rw (same_sent beside others h.3) refl)
same_sent End (More' f k x inside y others) h = absurd h
same_sent (More' e n p below q beside) End h = absurd h

same_notes : {A B T : Type 0} (a : Machine A T) (b : Machine B T) (r : Inputs A) (s : Inputs (EitherNode A B)) → IsLeftRow r s → notes_of (either a b) s ≡ notes_of a r
same_notes a b End End h = refl
same_notes a b (More' e n p below q beside) (More' f k x inside y others) h = rw h.1 (rw (same_notes a b below inside h.2) (rw (same_notes a b beside others h.3) refl))
same_notes a b End (More' f k x inside y others) h = absurd h
same_notes a b (More' e n p below q beside) End h = absurd h

same_wants : {A B T : Type 0} (a : Machine A T) (b : Machine B T) (n : A) (i : ℕ) (r : Inputs A) (s : Inputs (EitherNode A B)) → IsLeftRow r s → first_wants (either a b) (Left n) i s ≡ first_wants a n i r
same_wants a b n i End End h = refl
same_wants a b n i (More' e k p below q beside) (More' f l x inside y others) h = rw h.1 (rw (same_wants a b k 0 below inside h.2) (rw (same_wants a b n (i + 1) beside others h.3) refl))
same_wants a b n i End (More' f k x inside y others) h = absurd h
same_wants a b n i (More' e k p below q beside) End h = absurd h

same_in : {A B T : Type 0} (a : Machine A T) (b : Machine B T) (m : Meaning T) (hubs : List (Stream T)) (further : List Note) (r : Inputs A) (s : Inputs (EitherNode A B)) (at : ℕ) → IsLeftRow r s → comes_in (either a b) m hubs further s at ≡ comes_in a m hubs further r at
same_in a b m hubs further End End at h = refl
same_in a b m hubs further (More' e n p below q beside) (More' f k x inside y others) at h =
    rw h.1 (rw (same_size below inside h.2) (rw (same_in a b m hubs further below inside (at + 1) h.2) (rw (same_in a b m hubs further beside others (at + 1 + size below) h.3) refl)))
same_in a b m hubs further End (More' f k x inside y others) at h = absurd h
same_in a b m hubs further (More' e n p below q beside) End at h = absurd h

same_crossings : {A B : Type 0} (f : A → Bool) (g : B → Bool) (r : Inputs A) (s : Inputs (EitherNode A B)) → IsLeftRow r s → crossings (by_kind f g) s ≡ crossings f r
same_crossings f g End End h = refl
same_crossings f g (More' e n p below q beside) (More' l k x inside y others) h = rw h.1 (rw (same_crossings f g below inside h.2) (rw (same_crossings f g beside others h.3) refl))
same_crossings f g End (More' l k x inside y others) h = absurd h
same_crossings f g (More' e n p below q beside) End h = absurd h

same_reads : {A B T : Type 0} (a : Machine A T) (b : Machine B T) (counts : List (Option ℕ)) (r : Inputs A) (s : Inputs (EitherNode A B)) → IsLeftRow r s → IsRowReadAt a counts r → IsRowReadAt (either a b) counts s
same_reads a b counts End End h at = at
same_reads a b counts (More' e n p below q beside) (More' f k x inside y others) h at =
    (elim at.0 [ inl c ↦ inl (rw h.0 c) | inr c ↦ inr (rw h.1 c.0, same_reads a b counts below inside h.2 c.1) ], same_reads a b counts beside others h.3 at.1)
same_reads a b counts End (More' f k x inside y others) h at = absurd h
same_reads a b counts (More' e n p below q beside) End h at = absurd h

same_owner : {A B T : Type 0} (a : Machine A T) (b : Machine B T) (n : A) (taken : List ℕ) (sent : ℕ) {X Y : Type 0} → (X → Y) → IsOwnerBalanced a n taken sent X → IsOwnerBalanced (either a b) (Left n) taken sent Y
same_owner a b n taken sent f w = elim w [ inl e ↦ inl e | inr c ↦ inr (c.0, c.1, f c.2) ]

same_balance : {A B T : Type 0} (a : Machine A T) (b : Machine B T) (n : A) (i : ℕ) (r : Inputs A) (s : Inputs (EitherNode A B)) → IsLeftRow r s → IsRowBalanced a n i r → IsRowBalanced (either a b) (Left n) i s
same_balance a b n i End End h w = w
same_balance a b n i (More' e k p below q beside) (More' f l x inside y others) h w =
    (elim w.0 [ inl c ↦ inl c | inr c ↦ inr (rw h.0 c.0, rw h.0 (rw h.1 (rw (same_sent below inside h.2) (same_owner a b k (sent_over below) e.demand.sent (same_balance a b k 0 below inside h.2) c.1)))) ], same_balance a b n (i + 1) beside others h.3 w.1)
same_balance a b n i End (More' f k x inside y others) h w = absurd h
same_balance a b n i (More' e k p below q beside) End h w = absurd h

-- a tree that was made for an expression was made for it as one of nodes of either kind, too
pub built_of_either : {A B T : Type 0} (a : Machine A T) (b : Machine B T) (t : Node A) (u : Node (EitherNode A B)) → IsLeft t u → (m : Meaning T) (hubs : List (HubState T)) (e : Expr T) → IsBuilt a m hubs e t → IsBuilt (either a b) m hubs e u
built_of_either a b t u h m hubs e built = record {
  value = λ whole joins further at leaf begun stand. rw h.0 (rw (same_in a b m whole further t.inputs u.inputs (at + 1) h.1) (built.value whole joins further at leaf begun stand));
  reads = (rw h.0 built.reads.0, same_reads a b (counts_of hubs) t.inputs u.inputs h.1 built.reads.1);
  alone = λ none. (rw h.0 (built.alone none).0, same_reads a b [] t.inputs u.inputs h.1 (built.alone none).1);
  notes = rw h.0 (rw (same_notes a b t.inputs u.inputs h.1) built.notes);
  edges = same_edges t.inputs u.inputs h.1 ∙ built.edges;
  wants = rw h.0 (same_wants a b t.machine 0 t.inputs u.inputs h.1 ∙ built.wants);
  balance = rw h.0 (rw (same_sent t.inputs u.inputs h.1) (same_owner a b t.machine (sent_over t.inputs) 0 (same_balance a b t.machine 0 t.inputs u.inputs h.1) built.balance));
}

pub placed_of_either : {A B T : Type 0} (f : A → Bool) (g : B → Bool) (t : Node A) (u : Node (EitherNode A B)) → IsLeft t u → (e : Expr T) (crosses : Bool) → IsPlaced f e crosses t → IsPlaced (by_kind f g) e crosses u
placed_of_either f g t u h e crosses placed = record { root = rw h.0 placed.root; below = same_crossings f g t.inputs u.inputs h.1 ∙ placed.below }
