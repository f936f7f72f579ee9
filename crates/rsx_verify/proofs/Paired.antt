-- Each signal of a run returns on the worker on which it began.
use Rattle.std.proofs.Common.{◌≡◌, ◌≢◌, ℕ, zero, suc, ◌==◌, ◌&&◌, true, false, inl, inr, List, [], ◌∷◌, ◌++◌, take, Option, Some, None, refl, sym, ap, subst, append_assoc}
use Rattle.std.specs.Prelude.{if◌then◌else◌}
use Rattle.std.proofs.lemmas.Bool.{eq-eqb}
use Rattle.std.proofs.lemmas.List.{append-nil}
use Rattle.rsx_verify.specs.Prelude.{Act, Acted, GraphState, IsActed, IsActedAs, IsFollowed, Meaning, Signal, Stamped, SubId, answered, beginning, deliveries, delivery, is_exit, is_signal, of, of-other, stamped, subscriber_of}
use Rattle.rsx_types.specs.declared.signal.Signal.TheVariants.{Next, Complete, Error}
use Rattle.rsx_tck.specs.declared.event.Event.TheVariants as event
use Rattle.rsx_verify.specs.declared.act.Act.TheVariants.{Request, Cancel, Pump}
use Rattle.std.specs.List.{flat_map}
use Rattle.rsx_tree.proofs.Runs.{leads_add}
use Rattle.rsx_verify.proofs.Progress.{Progress, at, fresh, after, Goes, GoesOn}

-- the worker on which this subscriber's last signal began, from the one before and an event
abbrev pub worker_after : ℕ → ℕ → Stamped → ℕ
worker_after me v e = if of me is_signal e then e.worker else v

-- each Exit of this subscriber is on the worker on which its last signal began, which was this one before
abbrev pub IsPaired : ℕ → ℕ → List Stamped → Type 0
IsPaired me v [] = Unit {0}
IsPaired me v (e ∷ es) = (subscriber_of e.event ≡ me → is_exit e.event ≡ true → e.worker ≡ v) × IsPaired me (worker_after me v e) es

-- whatever it was before: no Exit stands in front of all signals
abbrev pub ArePairs : ℕ → List Stamped → Type 0
ArePairs me t = (v : ℕ) → IsPaired me v t

pairs_behind : (me v : ℕ) (t u : List Stamped) → IsPaired me v t → ArePairs me u → IsPaired me v (t ++ u)
pairs_behind me v [] u first rest = rest v
pairs_behind me v (e ∷ t) u (here, first) rest = (here, pairs_behind me (worker_after me v e) t u first rest)

pub pairs_more : (me : ℕ) (t u : List Stamped) → ArePairs me t → ArePairs me u → ArePairs me (t ++ u)
pairs_more me t u first rest v = pairs_behind me v t u (first v) rest

pairs_front : (me : ℕ) (e : Stamped) (t : List Stamped) → is_exit e.event ≡ false → ArePairs me t → ArePairs me (e ∷ t)
pairs_front me e t isnt rest v = ((λ own is. absurd (cc)), rest (worker_after me v e))

-- ---- what is recorded

own_worker : (me i w v : ℕ) → i ≡ me → w ≡ (if (i == me) && true then w else v)
own_worker me i w v own = sym (ap (λ b. if b && true then w else v) (eq-eqb i me own))

pub beginning_pairs : (me i : ℕ) → ArePairs me (beginning i)
beginning_pairs me i v = ((λ own is. absurd (cc)), ((λ own is. absurd (cc)), ((λ own is. own_worker me i 0 (worker_after me v (stamped (event.Subscribe i))) own), tt)))

delivery_pairs : {T : Type 0} (me w : ℕ) (d : SubId × Signal T) → ArePairs me (delivery w d)
delivery_pairs me w (i, Next x) v = ((λ own is. absurd (cc)), ((λ own is. own_worker me i.0 w v own), tt))
delivery_pairs me w (i, Complete) v = ((λ own is. absurd (cc)), ((λ own is. own_worker me i.0 w v own), tt))
delivery_pairs me w (i, Error c) v = ((λ own is. absurd (cc)), ((λ own is. own_worker me i.0 w v own), tt))

deliveries_pairs : {T : Type 0} (me w : ℕ) (ds : List (SubId × Signal T)) → ArePairs me (deliveries w ds)
deliveries_pairs me w [] v = tt
deliveries_pairs me w (d ∷ ds) v = pairs_more me (delivery w d) (deliveries w ds) (delivery_pairs me w d) (deliveries_pairs me w ds) v

answered_pairs : {T : Type 0} (me : ℕ) (i : SubId) (o : Option (Signal T)) → ArePairs me (answered i o)
answered_pairs me i None v = tt
answered_pairs me i (Some s) v = delivery_pairs me 0 (i, s) v

none_pairs : (me : ℕ) (t : List Stamped) → t ≡ [] → ArePairs me t
none_pairs me t none = subst (λ (l : List Stamped). ArePairs me l) (sym none) (λ v. tt)

acted_pairs : {T : Type 0} (m : Meaning T) (me w : ℕ) (act : Act) (old new : GraphState T) (t : List Stamped) → IsActed m w act old t new → ArePairs me t
acted_pairs m me w (Request i n) old new t (inl x) =
    subst (λ (l : List Stamped). ArePairs me l) (sym x.recorded) (pairs_front me (stamped (event.Request i.0 n)) (answered i x.answer) refl (answered_pairs me i x.answer))
acted_pairs m me w (Request i n) old new t (inr (past, none, same)) = none_pairs me t none
acted_pairs m me w (Cancel i) old new t (inl x) =
    subst (λ (l : List Stamped). ArePairs me l) (sym x.recorded) (pairs_front me (stamped (event.Cancel i.0)) [] refl (λ v. tt))
acted_pairs m me w (Cancel i) old new t (inr (past, none, same)) = none_pairs me t none
acted_pairs m me w Pump old new t x = subst (λ (l : List Stamped). ArePairs me l) (sym x.recorded) (deliveries_pairs me w _)

pub followed_pairs : {T : Type 0} (m : Meaning T) (me w : ℕ) (acts : List Act) (old : GraphState T) (first t : List Stamped) → ArePairs me first → IsFollowed m w old acts first t → ArePairs me t
followed_pairs {T} m me w acts old first t begin (g, run) =
    let rest = flat_map (λ (d : Acted). d.events) run.done in
    let pairs : ArePairs me rest = leads_add (IsActedAs m w) (λ d. d.events) (λ (a : GraphState T) u b. ArePairs me u) (λ a b d acted. acted_pairs m me w d.act a b d.events acted) (λ a v. tt) (λ a b c u v x y. pairs_more me u v x y) old g run.done run.lead in
    subst (λ (l : List Stamped). ArePairs me l) (sym run.recorded) (pairs_more me first rest begin pairs)

-- ---- what one event more keeps

pub record IsKeptOn (me : ℕ) (K : Progress → ℕ → List Stamped → Type 0) : Type 0 where
  pub own : (p : Progress) (v : ℕ) (t : List Stamped) (e : Stamped) → Goes me p e → (is_exit e.event ≡ true → e.worker ≡ v) → K p v t → K (after p e.event) (worker_after me v e) (t ++ e ∷ [])
  pub other : (p : Progress) (v : ℕ) (t : List Stamped) (e : Stamped) → subscriber_of e.event ≢ me → K p v t → K p v (t ++ e ∷ [])

-- another's event leaves the worker
worker_beside : (me v : ℕ) (e : Stamped) → subscriber_of e.event ≢ me → worker_after me v e ≡ v
worker_beside me v e other = ap (λ b. if b then e.worker else v) (of-other me is_signal e other)

paired_behind : (me : ℕ) (K : Progress → ℕ → List Stamped → Type 0) → IsKeptOn me K → (p q : Progress) (v : ℕ) (t u : List Stamped) → GoesOn me p u q → IsPaired me v u → K p v t → (j : ℕ) → (r : Progress) × ((x : ℕ) × K r x (t ++ take j u))
paired_behind me K step p q v t [] on pairs k zero = (p, (v, subst (K p v) (sym (append-nil t)) k))
paired_behind me K step p q v t [] on pairs k (suc j) = (p, (v, subst (K p v) (sym (append-nil t)) k))
paired_behind me K step p q v t (e ∷ u) on pairs k zero = (p, (v, subst (K p v) (sym (append-nil t)) k))
paired_behind me K step p q v t (e ∷ u) (inl (goes, on)) (here, pairs) k (suc j) =
    let rest = paired_behind me K step (after p e.event) q (worker_after me v e) (t ++ e ∷ []) u on pairs (step.own p v t e goes (here goes.own) k) j in
    (rest.0, (rest.1.0, subst (K rest.0 rest.1.0) (append_assoc t (e ∷ []) (take j u)) rest.1.1))
paired_behind me K step p q v t (e ∷ u) (inr (other, on)) (here, pairs) k (suc j) =
    let P : ℕ → Type 0 = λ x. IsPaired me x u in
    let rest = paired_behind me K step p q v (t ++ e ∷ []) u on (subst P (worker_beside me v e other) pairs) (step.other p v t e other k) j in
    (rest.0, (rest.1.0, subst (K rest.0 rest.1.0) (append_assoc t (e ∷ []) (take j u)) rest.1.1))

-- it holds of each list of the first events
pub each_paired : (me : ℕ) (K : Progress → ℕ → List Stamped → Type 0) → IsKeptOn me K → K (at fresh 0 0) 0 [] → (q : Progress) (t : List Stamped) → GoesOn me (at fresh 0 0) t q → ArePairs me t → (j : ℕ) → (r : Progress) × ((x : ℕ) × K r x (take j t))
each_paired me K step first q t on pairs j = paired_behind me K step (at fresh 0 0) q 0 [] t on (pairs 0) first j
