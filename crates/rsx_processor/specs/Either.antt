-- A node of one of two kinds: its meaning is that of its kind.
use Rattle.std.specs.Prelude.{ℕ, List}
use Rattle.std.proofs.Common.{inl, inr}
use Rattle.rsx_sources.specs.Counts.{IsHungry}
use Rattle.rsx_sources.specs.declared.machine.Machine.{Ghosts as Machine}
use Rattle.rsx_processor.specs.declared.either.EitherNode.{EitherNode}
use Rattle.rsx_processor.specs.declared.either.EitherNode.TheVariants.{Left, Right}

-- what is said of a node by what is said of each kind
abbrev pub by_kind {ℓ} : {A B : Type 0} {R : Type ℓ} → (A → R) → (B → R) → EitherNode A B → R
by_kind f g (Left x) = f x
by_kind f g (Right y) = g y

-- two nodes are of one kind, and this is said of the two
abbrev pub OfOneKind : {A B : Type 0} → (A → A → Type 0) → (B → B → Type 0) → EitherNode A B → EitherNode A B → Type 0
OfOneKind p q (Left x) (Left y) = p x y
OfOneKind p q (Right x) (Right y) = q x y
OfOneKind p q x y = ⊥

abbrev pub either : {A B T : Type 0} → Machine A T → Machine B T → Machine (EitherNode A B) T
either a b = record {
  comes_out = λ m. by_kind (a.comes_out m) (b.comes_out m);
  waiting = λ m. by_kind (a.waiting m) (b.waiting m);
  shown = by_kind a.shown b.shown;
  takes = by_kind a.takes b.takes;
  picks = by_kind a.picks b.picks;
  rows = by_kind a.rows b.rows;
  rowed = λ old asked sent new. OfOneKind (λ x y. a.rowed x asked sent y) (λ x y. b.rowed x asked sent y) old new;
  took = λ old i s new. OfOneKind (λ x y. a.took x i s y) (λ x y. b.took x i s y) old new;
  heard = λ old s new. OfOneKind (λ x y. a.heard x s y) (λ x y. b.heard x s y) old new;
  picked = λ old i new. OfOneKind (λ x y. a.picked x i y) (λ x y. b.picked x i y) old new;
  recording = by_kind a.recording b.recording;
  recorded = by_kind a.recorded b.recorded;
  popping = by_kind a.popping b.popping;
  ended = by_kind a.ended b.ended;
  done = by_kind a.done b.done;
  counted = by_kind a.counted b.counted;
  wanted = by_kind a.wanted b.wanted;
  accepts = by_kind a.accepts b.accepts;
  popped = λ old s new. OfOneKind (λ x y. a.popped x s y) (λ x y. b.popped x s y) old new;
  reads = by_kind a.reads b.reads;
  rooms = by_kind a.rooms b.rooms;
  crosses = by_kind a.crosses b.crosses;
  pop_allocates = λ m. by_kind (a.pop_allocates m) (b.pop_allocates m);
  signal_allocates = λ m. by_kind (a.signal_allocates m) (b.signal_allocates m);
  step_allocates = λ m. by_kind (a.step_allocates m) (b.step_allocates m);
}

pub left_hungry : {A B T : Type 0} (a : Machine A T) (b : Machine B T) (x : A) (taken : List ℕ) (asked sent : ℕ) →
    IsHungry a.takes a.picks a.rows a.done a.wanted a.reads x taken asked sent →
    IsHungry (either a b).takes (either a b).picks (either a b).rows (either a b).done (either a b).wanted (either a b).reads (Left x) taken asked sent
left_hungry a b x taken asked sent h = elim h [
  | inl k ↦ inl k
  | inr p ↦ elim p [
    | inl k ↦ inr (inl k)
    | inr q ↦ elim q [
      | inl k ↦ inr (inr (inl (record { i = k.i; c = k.c; at = k.at; open_still = k.open_still; takes_any = k.takes_any; wants = k.wants })))
      | inr r ↦ inr (inr (inr r))
    ]
  ]
]

pub right_hungry : {A B T : Type 0} (a : Machine A T) (b : Machine B T) (y : B) (taken : List ℕ) (asked sent : ℕ) →
    IsHungry b.takes b.picks b.rows b.done b.wanted b.reads y taken asked sent →
    IsHungry (either a b).takes (either a b).picks (either a b).rows (either a b).done (either a b).wanted (either a b).reads (Right y) taken asked sent
right_hungry a b y taken asked sent h = elim h [
  | inl k ↦ inl k
  | inr p ↦ elim p [
    | inl k ↦ inr (inl k)
    | inr q ↦ elim q [
      | inl k ↦ inr (inr (inl (record { i = k.i; c = k.c; at = k.at; open_still = k.open_still; takes_any = k.takes_any; wants = k.wants })))
      | inr r ↦ inr (inr (inr r))
    ]
  ]
]
