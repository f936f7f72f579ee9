-- How the counts along the edges stay balanced.
use Rattle.std.proofs.Common.{◌≡◌, ◌⊎◌, inl, inr, ℕ, ◌+◌, ◌-◌, Bool, true, false, ◌&&◌, List, [], ◌∷◌, ◌++◌, length, refl, ap, sym, ◌∙◌, subst, append_assoc, length-append, Some}
use Rattle.rsx_sources.specs.Prelude.{Meaning, Signal, Next, Complete, Error, CountsOut, CountsStep, taken_after, one_more, ends_input, front_of}
use Rattle.rsx_sources.specs.declared.machine.Machine.{Ghosts as Machine}
use Rattle.rsx_tree.specs.declared.edge.Edge.{Edge}
use Rattle.rsx_tree.specs.declared.edge.EdgeState.TheVariants.{Live}
use Rattle.rsx_tree.specs.declared.inputs.Inputs.{Inputs, End, More'}
use Rattle.rsx_tree.specs.Edges.{edge_view, EdgeView, passed}
use Rattle.rsx_tree.specs.Inputs.{size, is_own, closed_row_if}
use Rattle.rsx_tree.specs.Changed.{IsChanged, IsAskedOver, IsSentOver}
use Rattle.rsx_tree.specs.Stepped.{Step, IsStepped}
use Rattle.rsx_tree.specs.Balance.{sent_over, IsOwnerBalanced, IsRowBalanced, IsBalanced, IsBalancedAfter}

-- ---- an Ask

pub record IsAskBalanced {M T : Type 0} (b : Machine M T) (r : M) (i : ℕ) (t : Inputs M) (r' : M) (t' : Inputs M) : Type 0 where
  pub receiver : r' ≡ r
  pub counts : sent_over t' ≡ sent_over t
  pub row : IsRowBalanced b r i t → IsRowBalanced b r i t'

pub ask_balanced : {M T : Type 0} (b : Machine M T) (r : M) (i asked sent : ℕ) (t : Inputs M) (at : ℕ) (r' : M) (t' : Inputs M) → IsChanged (IsAskedOver b) (λ n. false) r i asked sent t at r' t' → IsAskBalanced b r i t r' t'
ask_balanced b r i asked sent End at r' t' h = absurd h
ask_balanced {M} b r i asked sent (More' e n p below q beside) at r' t' h = elim h [
  | inl x ↦
      let Q : Inputs M → Type 0 = λ u. IsRowBalanced b r i u in
      let made = x.made in
      let count : x.e'.demand.sent ≡ e.demand.sent = ap (λ v. v.sent) made.edge in
      let state : x.e'.state ≡ e.state = ap (λ v. v.state) made.edge in
      let S : ℕ → Type 0 = λ k. IsOwnerBalanced b n (sent_over below) k (IsRowBalanced b n 0 below) in
      let N : M → Type 0 = λ k. IsOwnerBalanced b k (sent_over below) x.e'.demand.sent (IsRowBalanced b k 0 below) in
      record {
        receiver = made.receiver;
        counts = ap sent_over x.new_is ∙ ap (λ k. k ∷ sent_over beside) count;
        row = λ k. subst Q (sym x.new_is) (elim k.0 [ inl d ↦ inl d | inr o ↦ inr (state ∙ o.0, subst N (sym made.sender) (subst S (sym count) o.1)) ], k.1);
      }
  | inr y ↦ elim y [
    | inl x ↦
        let rec = ask_balanced b n 0 e.demand.asked e.demand.sent below (at - 1) x.n' x.mid x.made in
        let whole : t' ≡ More' e n p x.mid q beside = x.new_is ∙ ap (λ k. More' e k p x.mid q beside) rec.receiver in
        let Q : Inputs M → Type 0 = λ u. IsRowBalanced b r i u in
        let C : List ℕ → Type 0 = λ l. b.counted n l e.demand.sent in
        record {
          receiver = x.receiver;
          counts = ap sent_over whole;
          row = λ k. subst Q (sym whole) (elim k.0 [ inl d ↦ inl d | inr o ↦ inr (o.0, elim o.1 [ inl f ↦ inl f | inr w ↦ inr (w.0, subst C (sym rec.counts) w.1, rec.row w.2) ]) ], k.1);
        }
    | inr x ↦
        let rec = ask_balanced b r (i + 1) asked sent beside (at - 1 - size below) r' x.beside' x.made in
        let Q : Inputs M → Type 0 = λ u. IsRowBalanced b r i u in
        record {
          receiver = rec.receiver;
          counts = ap sent_over x.new_is ∙ ap (λ l. e.demand.sent ∷ l) rec.counts;
          row = λ k. subst Q (sym x.new_is) (k.0, rec.row k.1);
        }
  ]
]

-- ---- a Send

-- what was done stays done, so the inputs that didn't change stay balanced
others_balanced : {M T : Type 0} (b : Machine M T) (r r' : M) (i : ℕ) (t : Inputs M) → ((j : ℕ) → b.done r j ≡ true → b.done r' j ≡ true) → IsRowBalanced b r i t → IsRowBalanced b r' i t
others_balanced b r r' i End stays h = tt
others_balanced b r r' i (More' e n p below q beside) stays h = (elim h.0 [ inl d ↦ inl (stays i d) | inr o ↦ inr o ], others_balanced b r r' (i + 1) beside stays h.1)

one_more_at : (before : List ℕ) (c : ℕ) (cs : List ℕ) → one_more (length before) (before ++ c ∷ cs) ≡ before ++ (c + 1) ∷ cs
one_more_at [] c cs = refl
one_more_at (k ∷ ks) c cs = ap (λ l. k ∷ l) (one_more_at ks c cs)

-- a signal went over an edge that carried `c` items
abbrev sent_after : {T : Type 0} → Signal T → ℕ → ℕ
sent_after (Next x) c = c + 1
sent_after Complete c = c
sent_after (Error f) c = c

taken_is : {T : Type 0} (s : Signal T) (before : List ℕ) (c : ℕ) (cs : List ℕ) → taken_after (length before) s (before ++ c ∷ cs) ≡ before ++ sent_after s c ∷ cs
taken_is (Next x) before c cs = one_more_at before c cs
taken_is Complete before c cs = refl
taken_is (Error f) before c cs = refl

passed_count : {T : Type 0} (e : EdgeView) (s : Signal T) → (passed e (front_of s)).sent ≡ sent_after s e.sent
passed_count e (Next x) = refl
passed_count e Complete = refl
passed_count e (Error c) = refl

-- an input after its signal went over its edge
first_balanced : {M T : Type 0} (b : Machine M T) (r' : M) (i : ℕ) (e e' : Edge) (n n' : M) (below : Inputs M) (s : Signal T) → edge_view e' ≡ passed (edge_view e) (front_of s) → CountsOut b.counted b.ended b.done n (Some s) n' → (ends_input s ≡ true → b.done r' i ≡ true) →
    (b.done r' i ≡ true) ⊎ ((e.state ≡ Live) × IsOwnerBalanced b n (sent_over below) e.demand.sent (IsRowBalanced b n 0 below)) →
    (b.done r' i ≡ true) ⊎ ((e'.state ≡ Live) × IsOwnerBalanced b n' (sent_over below) e'.demand.sent (IsRowBalanced b n' 0 below))
first_balanced {M} b r' i e e' n n' below (Next x) edge counts is_done h =
    let C : ℕ → Type 0 = λ k. b.counted n' (sent_over below) k in
    let count : e'.demand.sent ≡ e.demand.sent + 1 = ap (λ v. v.sent) edge in
    elim h [
      | inl d ↦ inl d
      | inr o ↦ inr (
        ap (λ v. v.state) edge ∙ o.0,
        elim o.1 [
          | inl f ↦ inl (counts.0 ∙ f)
          | inr w ↦ inr (counts.0 ∙ w.0, subst C (sym count) (counts.1 (sent_over below) e.demand.sent w.1), others_balanced b n n' 0 below counts.2 w.2)
        ],
      )
    ]
first_balanced b r' i e e' n n' below Complete edge counts is_done h = inl (is_done refl)
first_balanced b r' i e e' n n' below (Error c) edge counts is_done h = inl (is_done refl)

pub record IsSendBalanced {M T : Type 0} (b : Machine M T) (r : M) (i : ℕ) (t : Inputs M) (r' : M) (t' : Inputs M) : Type 0 where
  pub stays : b.ended r ≡ true → b.ended r' ≡ true
  pub done : (j : ℕ) → b.done r j ≡ true → b.done r' j ≡ true
  pub row : b.ended r' ≡ false → IsRowBalanced b r i t → IsRowBalanced b r' i t'
  pub counted : b.ended r' ≡ false → (before : List ℕ) → length before ≡ i → (s : ℕ) → b.counted r (before ++ sent_over t) s → b.counted r' (before ++ sent_over t') s

-- a node below ended by it, or is balanced still
below_balanced : {M T : Type 0} (b : Machine M T) (n n' : M) (below mid : Inputs M) (own : Bool) (s : ℕ) → IsSendBalanced b n 0 below n' mid → IsOwnerBalanced b n (sent_over below) s (IsRowBalanced b n 0 below) →
    IsOwnerBalanced b n' (sent_over (closed_row_if (b.ended n' && own) mid)) s (IsRowBalanced b n' 0 (closed_row_if (b.ended n' && own) mid))
below_balanced {M} b n n' below mid own s rec h = elim h [ inl f ↦ inl (rec.stays f) | inr w ↦ by_end (b.ended n') refl w.1 w.2 ]
  where
    by_end : (c : Bool) → b.ended n' ≡ c → b.counted n (sent_over below) s → IsRowBalanced b n 0 below → IsOwnerBalanced b n' (sent_over (closed_row_if (b.ended n' && own) mid)) s (IsRowBalanced b n' 0 (closed_row_if (b.ended n' && own) mid))
    by_end true c count row = inl c
    by_end false c count row =
        let Q : Inputs M → Type 0 = λ u. IsOwnerBalanced b n' (sent_over u) s (IsRowBalanced b n' 0 u) in
        let open_still : closed_row_if (b.ended n' && own) mid ≡ mid = ap (λ d. closed_row_if (d && own) mid) c in
        subst Q (sym open_still) (inr (c, rec.counted c [] refl s count, rec.row c row))

pub send_balanced : {M T : Type 0} (b : Machine M T) (m : Meaning T) (r : M) (i asked sent : ℕ) (t : Inputs M) (at : ℕ) (r' : M) (t' : Inputs M) → IsChanged (IsSentOver b m) b.ended r i asked sent t at r' t' → IsSendBalanced b r i t r' t'
send_balanced b m r i asked sent End at r' t' h = absurd h
send_balanced {M} b m r i asked sent (More' e n p below q beside) at r' t' h = elim h [
  | inl x ↦
      let made = x.made in
      let counts = made.counts_in in
      let Q : Inputs M → Type 0 = λ u. IsRowBalanced b r' i u in
      let count : x.e'.demand.sent ≡ sent_after made.signal e.demand.sent = ap (λ v. v.sent) made.edge ∙ passed_count (edge_view e) made.signal in
      record {
        stays = counts.stays_ended;
        done = counts.stays_done;
        row = λ still k. subst Q (sym x.new_is) (
          first_balanced b r' i e x.e' n x.n' below made.signal made.edge made.counts_out (counts.is_done still) (elim k.0 [ inl d ↦ inl (counts.stays_done i d) | inr o ↦ inr o ]),
          others_balanced b r r' (i + 1) beside counts.stays_done k.1,
        );
        counted = λ still before len s c.
            let L : List ℕ → Type 0 = λ l. b.counted r' l s in
            let moved : taken_after i made.signal (before ++ e.demand.sent ∷ sent_over beside) ≡ before ++ sent_over t' =
            ap (λ j. taken_after j made.signal (before ++ e.demand.sent ∷ sent_over beside)) (sym len)
            ∙ (taken_is made.signal before e.demand.sent (sent_over beside)
            ∙ (ap (λ k. before ++ k ∷ sent_over beside) (sym count) ∙ ap (λ u. before ++ sent_over u) (sym x.new_is))) in
            subst L moved (counts.counts still (before ++ e.demand.sent ∷ sent_over beside) s c);
      }
  | inr y ↦ elim y [
    | inl x ↦
        let own = is_own below (at - 1) in
        let rec = send_balanced b m n 0 e.demand.asked e.demand.sent below (at - 1) x.n' x.mid x.made in
        let Q : Inputs M → Type 0 = λ u. IsRowBalanced b r' i u in
        let R : M → Type 0 = λ k. IsRowBalanced b k i (More' e x.n' p (closed_row_if (b.ended x.n' && own) x.mid) q beside) in
        record {
          stays = λ f. ap b.ended x.receiver ∙ f;
          done = λ j d. ap (λ k. b.done k j) x.receiver ∙ d;
          row = λ still k. subst Q (sym x.new_is) (subst R (sym x.receiver) (elim k.0 [ inl d ↦ inl d | inr o ↦ inr (o.0, below_balanced b n x.n' below x.mid own e.demand.sent rec o.1) ], k.1));
          counted = λ still before len s c.
              let L : M → Type 0 = λ k. b.counted k (before ++ sent_over t') s in
              let S : List ℕ → Type 0 = λ l. b.counted r (before ++ l) s in
              subst L (sym x.receiver) (subst S (sym (ap sent_over x.new_is)) c);
        }
    | inr x ↦
        let rec = send_balanced b m r (i + 1) asked sent beside (at - 1 - size below) r' x.beside' x.made in
        let Q : Inputs M → Type 0 = λ u. IsRowBalanced b r' i u in
        record {
          stays = rec.stays;
          done = rec.done;
          row = λ still k. subst Q (sym x.new_is) (elim k.0 [ inl d ↦ inl (rec.done i d) | inr o ↦ inr o ], rec.row still k.1);
          counted = λ still before len s c.
              let S : List ℕ → Type 0 = λ l. b.counted r' (before ++ l) s in
              let A : List ℕ → Type 0 = λ l. b.counted r l s in
              let B : List ℕ → Type 0 = λ l. b.counted r' l s in
              subst S (sym (ap sent_over x.new_is)) (subst B (append_assoc before (e.demand.sent ∷ []) (sent_over x.beside'))
              (rec.counted still (before ++ e.demand.sent ∷ []) (length-append before (e.demand.sent ∷ []) ∙ ap (λ j. j + 1) len) s (subst A (sym (append_assoc before (e.demand.sent ∷ []) (sent_over beside))) c)));
        }
  ]
]

-- ---- a step

-- a step of a node itself takes nothing and sends nothing
counted_step : {M T : Type 0} (b : Machine M T) (n n' : M) (below : Inputs M) → CountsStep b.counted b.ended b.done n n' → IsSendBalanced b n 0 below n' below
counted_step b n n' below h = record {
  stays = h.stays_ended;
  done = h.stays_done;
  row = λ still k. others_balanced b n n' 0 below h.stays_done k;
  counted = λ still before len s c. h.counts still (before ++ sent_over below) s c;
}

pub record IsStepBalanced {M T : Type 0} (b : Machine M T) (r : M) (i : ℕ) (t t' : Inputs M) : Type 0 where
  pub counts : sent_over t' ≡ sent_over t
  pub row : IsRowBalanced b r i t → IsRowBalanced b r i t'

row_step_balanced : {M T : Type 0} (b : Machine M T) (P : Step M) → ((n : M) (asked sent : ℕ) (n' : M) → P n asked sent n' → CountsStep b.counted b.ended b.done n n') → (r : M) (i : ℕ) (t : Inputs M) (at : ℕ) (t' : Inputs M) → IsStepped P b.ended t at t' → IsStepBalanced b r i t t'
row_step_balanced b P law r i End at t' h = absurd h
row_step_balanced {M} b P law r i (More' e n p below q beside) at t' h = elim h [
  | inl x ↦
      let Q : Inputs M → Type 0 = λ u. IsRowBalanced b r i u in
      let counts = counted_step b n x.n' below (law n e.demand.asked e.demand.sent x.n' x.made) in
      record {
        counts = ap sent_over x.new_is;
        row = λ k. subst Q (sym x.new_is) (elim k.0 [ inl d ↦ inl d | inr o ↦ inr (o.0, below_balanced b n x.n' below below true e.demand.sent counts o.1) ], k.1);
      }
  | inr y ↦ elim y [
    | inl x ↦
        let rec = row_step_balanced b P law n 0 below (at - 1) x.below' x.made in
        let Q : Inputs M → Type 0 = λ u. IsRowBalanced b r i u in
        let C : List ℕ → Type 0 = λ l. b.counted n l e.demand.sent in
        record {
          counts = ap sent_over x.new_is;
          row = λ k. subst Q (sym x.new_is) (elim k.0 [ inl d ↦ inl d | inr o ↦ inr (o.0, elim o.1 [ inl f ↦ inl f | inr w ↦ inr (w.0, subst C (sym rec.counts) w.1, rec.row w.2) ]) ], k.1);
        }
    | inr x ↦
        let rec = row_step_balanced b P law r (i + 1) beside (at - 1 - size below) x.beside' x.made in
        let Q : Inputs M → Type 0 = λ u. IsRowBalanced b r i u in
        record {
          counts = ap sent_over x.new_is ∙ ap (λ l. e.demand.sent ∷ l) rec.counts;
          row = λ k. subst Q (sym x.new_is) (k.0, rec.row k.1);
        }
  ]
]

-- a step of the root, and of a node below it
pub root_balanced : {M T : Type 0} (b : Machine M T) (r r' : M) (t : Inputs M) (s : ℕ) → CountsStep b.counted b.ended b.done r r' → IsBalanced b (record { machine = r; inputs = t }) s → IsBalanced b (record { machine = r'; inputs = closed_row_if (b.ended r' && true) t }) s
root_balanced b r r' t s h k = below_balanced b r r' t t true s (counted_step b r r' t h) k

pub step_balanced : {M T : Type 0} (b : Machine M T) (P : Step M) → ((n : M) (asked sent : ℕ) (n' : M) → P n asked sent n' → CountsStep b.counted b.ended b.done n n') → (r : M) (t : Inputs M) (at : ℕ) (t' : Inputs M) → IsStepped P b.ended t at t' → (s : ℕ) →
    IsBalanced b (record { machine = r; inputs = t }) s → IsBalanced b (record { machine = r; inputs = t' }) s
step_balanced b P law r t at t' h s k =
    let rec = row_step_balanced b P law r 0 t at t' h in
    let C : List ℕ → Type 0 = λ l. b.counted r l s in
    elim k [ inl f ↦ inl f | inr w ↦ inr (w.0, subst C (sym rec.counts) w.1, rec.row w.2) ]

-- ---- a tree

pub tree_ask_balanced : {M T : Type 0} (b : Machine M T) (r : M) (asked sent : ℕ) (t : Inputs M) (at : ℕ) (t' : Inputs M) (s : ℕ) → IsChanged (IsAskedOver b) (λ n. false) r 0 asked sent t at r t' → IsBalanced b (record { machine = r; inputs = t }) s → IsBalanced b (record { machine = r; inputs = t' }) s
tree_ask_balanced b r asked sent t at t' s h k =
    let rec = ask_balanced b r 0 asked sent t at r t' h in
    let C : List ℕ → Type 0 = λ l. b.counted r l s in
    elim k [ inl f ↦ inl f | inr w ↦ inr (w.0, subst C (sym rec.counts) w.1, rec.row w.2) ]

pub tree_send_balanced : {M T : Type 0} (b : Machine M T) (m : Meaning T) (r r' : M) (asked sent : ℕ) (t : Inputs M) (at : ℕ) (mid new : Inputs M) (s : ℕ) → IsChanged (IsSentOver b m) b.ended r 0 asked sent t at r' mid → new ≡ closed_row_if (b.ended r' && is_own t at) mid →
    IsBalanced b (record { machine = r; inputs = t }) s → IsBalanced b (record { machine = r'; inputs = new }) s
tree_send_balanced {M} b m r r' asked sent t at mid new s h is k =
    let Q : Inputs M → Type 0 = λ u. IsOwnerBalanced b r' (sent_over u) s (IsRowBalanced b r' 0 u) in
    subst Q (sym is) (below_balanced b r r' t mid (is_own t at) s (send_balanced b m r 0 asked sent t at r' mid h) k)

-- the root let a signal go
pub tree_pop_balanced : {M T : Type 0} (b : Machine M T) (n n' : M) (t : Inputs M) (s : Signal T) (sent : ℕ) → CountsOut b.counted b.ended b.done n (Some s) n' → IsBalanced b (record { machine = n; inputs = t }) sent → IsBalancedAfter b s (record { machine = n'; inputs = t }) sent
tree_pop_balanced b n n' t (Next x) sent counts h = elim h [
  | inl f ↦ inl (counts.0 ∙ f)
  | inr w ↦ inr (counts.0 ∙ w.0, counts.1 (sent_over t) sent w.1, others_balanced b n n' 0 t counts.2 w.2)
]
tree_pop_balanced b n n' t Complete sent counts h = tt
tree_pop_balanced b n n' t (Error c) sent counts h = tt
