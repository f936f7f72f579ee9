-- What the nodes of a row do, put behind a list.
use Rattle.std.proofs.Common.{◌≡◌, ℕ, ◌+◌, List, [], ◌∷◌, ◌++◌, length, length-append, Option, Some, Result, Ok, Err, refl, ap, sym, ◌∙◌, subst, append_assoc, arith}
use Rattle.std.specs.Prelude.{OnOk}
use Rattle.rsx_sources.specs.declared.machine.Machine.{Ghosts as Machine}
use Rattle.rsx_rooted.specs.declared.nodes.Nodes.{Ghosts as Nodes}
use Rattle.rsx_tree.specs.declared.edge.Edge.{Edge}
use Rattle.rsx_tree.specs.declared.inputs.Inputs.{Inputs, End, More'}
use Rattle.rsx_tree.specs.declared.inputs.Inputs.TheViews.{More}
use Rattle.rsx_tree.specs.Inputs.{size}
use Rattle.rsx_tree.proofs.Changes.{Rest}
use Rattle.rsx_graph_moves.specs.Pictures.{look, row_looks}
use Rattle.rsx_waits.specs.declared.look.NodeLook.{NodeLook}

-- there are as many as nodes
looks_count : {M T : Type 0} (b : Machine M T) (d : Nodes M T) (k : M) (receiver input first : ℕ) (t : Inputs M) → length (row_looks b d k receiver input first t) ≡ size t
looks_count b d k receiver input first End = refl
looks_count b d k receiver input first (More' e n p below q beside) =
    let l = row_looks b d n first 0 (first + 1) below in
    let r = row_looks b d k receiver (input + 1) (first + 1 + size below) beside in
    let both = length-append l r in
    let under = looks_count b d n first 0 (first + 1) below in
    let others = looks_count b d k receiver (input + 1) (first + 1 + size below) beside in
    omega (arith, both, under, others)

all_put : {A : Type 0} (old : List A) (x : A) (l r : List A) → ((old ++ x ∷ []) ++ l) ++ r ≡ old ++ (x ∷ (l ++ r))
all_put old x l r = append_assoc (old ++ x ∷ []) l r ∙ append_assoc old (x ∷ []) (l ++ r)

-- the first node was put behind the list, then what is below it, and then what is beside it
row_put : {M T : Type 0} (b : Machine M T) (d : Nodes M T) (k : M) (e : Edge) (n : M) (below beside : Rest M) (old pushed mid new : List NodeLook) (receiver input node : ℕ) → pushed ≡ old ++ look b d (Some receiver) (d.queued_of k input) e n ∷ [] → node ≡ length old → mid ≡ pushed ++ row_looks b d n node 0 (length pushed) below.value → new ≡ mid ++ row_looks b d k receiver (input + 1) (length mid) beside.value →
    new ≡ old ++ row_looks b d k receiver input (length old) (More e n below beside)
row_put b d k e n below beside old pushed mid new receiver input node first number under others =
    let x = look b d (Some receiver) (d.queued_of k input) e n in
    let one = length-append old (x ∷ []) in
    let put = ap length first in
    let count : length pushed ≡ length old + 1 = omega (arith, one, put) in
    let l = row_looks b d n (length old) 0 (length old + 1) below.value in
    let inside : mid ≡ pushed ++ l = under ∙ (ap (λ j. pushed ++ row_looks b d n j 0 (length pushed) below.value) number ∙ ap (λ j. pushed ++ row_looks b d n (length old) 0 j below.value) count) in
    let len = ap length inside in
    let both = length-append pushed l in
    let many = looks_count b d n (length old) 0 (length old + 1) below.value in
    let so_far : length mid ≡ length old + 1 + size below.value = omega (arith, len, both, many, count) in
    let r = row_looks b d k receiver (input + 1) (length old + 1 + size below.value) beside.value in
    others
    ∙ (ap (λ j. mid ++ row_looks b d k receiver (input + 1) j beside.value) so_far
    ∙ (ap (λ z. z ++ r) (inside ∙ ap (λ z. z ++ l) first) ∙ all_put old x l r))

pub row_looked : {M T E : Type 0} (b : Machine M T) (d : Nodes M T) (k : M) (t : Inputs M) (e : Edge) (n : M) (below beside : Rest M) (under others : Inputs M) (old pushed mid new : List NodeLook) (receiver input node : ℕ) (queued : Option ℕ) (o : Result (Unit {0}) E) → t ≡ More e n below beside → under ≡ below.value → others ≡ beside.value → queued ≡ d.queued_of k input → pushed ≡ old ++ look b d (Some receiver) queued e n ∷ [] → node ≡ length old → mid ≡ pushed ++ row_looks b d n node 0 (length pushed) under → OnOk o (new ≡ mid ++ row_looks b d k receiver (input + 1) (length mid) others) →
    OnOk o (new ≡ old ++ row_looks b d k receiver input (length old) t)
row_looked b d k t e n below beside under others old pushed mid new receiver input node queued (Err x) is u w waits first number inside h = h
row_looked {M} b d k t e n below beside under others old pushed mid new receiver input node queued (Ok x) is u w waits first number inside h =
    let Q : Inputs M → Type 0 = λ j. new ≡ old ++ row_looks b d k receiver input (length old) j in
    subst Q (sym is) (row_put b d k e n below beside old pushed mid new receiver input node (first ∙ ap (λ q. old ++ look b d (Some receiver) q e n ∷ []) waits) number (inside ∙ ap (λ j. pushed ++ row_looks b d n node 0 (length pushed) j) u) (h ∙ ap (λ j. mid ++ row_looks b d k receiver (input + 1) (length mid) j) w))
