-- A join moves the lists of one seat behind those of another, and keeps the rule.
use Rattle.std.proofs.Common.{◌≡◌, ◌≢◌, ℕ, zero, suc, ◌+◌, ◌-◌, ◌<◌, ◌≤◌, false, cond, eqb, eq-eqb, ne_eqb, List, [], ◌∷◌, ◌++◌, map, get_or, set, length, refl, sym, ap, ◌∙◌, subst, inl, inr, ◌⊎◌, ⊎_elim, arith, lt_of_not-le}
use Rattle.std.proofs.lemmas.List.{get_or_append_left, get_or_past}
use mathlib.Core.Logic.{dite}
use mathlib.Core.Option.{some, none, some-injective, some-ne-none}
use mathlib.Core.Option as maybe
use native.Mathlib.Decide.{ℕ_discrete, dec_le}
use lib.ListN.{get_elem?}
use Rattle.atomic_table.specs.Table.{Joins}
use Rattle.atomic_table.proofs.Lists.{at_set, set_else}
use Rattle.rsx_gate.specs.declared.view.View.{View}
use Rattle.rsx_gate.specs.declared.view.Step.{Step}
use Rattle.rsx_gate.specs.declared.view.Step.TheVariants.{Enter, Mark, Leave, GiveUp}
use Rattle.rsx_gate.specs.Machine.{Entry, entry, word_after, word_of, holder_after, holder_of, May, IsRun, own, holds_pass, spent, lists_of, list_at, KnowsKey, IsIdle, AtHome, Serial}
use Rattle.rsx_gate.specs.Plays.{joined}
use Rattle.rsx_gate.proofs.Runs.{Same, own_cases}
use Rattle.rsx_gate.proofs.Keeps.{set_at, listed, parts_set}

right_part : {A : Type 0} (xs ys : List A) (k j : ℕ) (d : A) → k ≡ length xs + j → get_or (xs ++ ys) k d ≡ get_or ys j d
right_part [] ys k j d h = ap (λ (z : ℕ). get_or ys z d) (omega arith)
right_part (x ∷ xs) ys zero j d h = absurd (omega arith)
right_part (x ∷ xs) ys (suc k) j d h = right_part xs ys k j d (omega arith)

abbrev Each : (Entry → Type 0) → List Entry → Type 0
Each D [] = Unit {0}
Each D (e ∷ log) = D e × Each D log

none_there : (o k : ℕ) (log : List Entry) → own o k log ≡ [] → Each (λ e. Same o k e → ⊥) log
none_there o k [] h = tt
none_there o k (e ∷ log) h = ⊎_elim (λ t. absurd (search (arith, sym t.1 ∙ h))) (λ t. (t.0, none_there o k log (sym t.1 ∙ h))) (own_cases o k e log)

module _ (id other len : ℕ) where
  abbrev to : ℕ → ℕ → ℕ × ℕ
  to o k = cond (eqb o other) (id, len + k) (o, k)

  abbrev mv : Entry → Entry
  mv e = entry (to e.seat e.place).0 (to e.seat e.place).1 e.step

  moved : (e : Entry) → ((e.seat ≡ other) × ((mv e).seat ≡ id) × ((mv e).place ≡ len + e.place)) ⊎ ((e.seat ≢ other) × ((mv e).seat ≡ e.seat) × ((mv e).place ≡ e.place))
  moved e = dite (ℕ_discrete e.seat other)
      (λ y. inl (y, rw (eq-eqb e.seat other y) refl, rw (eq-eqb e.seat other y) refl))
      (λ n. inr (n, rw (ne_eqb e.seat other n) refl, rw (ne_eqb e.seat other n) refl))

  abbrev who_moved : maybe.Option (ℕ × ℕ) → maybe.Option (ℕ × ℕ)
  who_moved none = none
  who_moved (some w) = some (to w.0 w.1)

  word_moved : (log : List Entry) → word_of (map mv log) ≡ word_of log
  word_moved [] = refl
  word_moved (e ∷ log) = ap (word_after e.step) (word_moved log)

  after_moved : (o k : ℕ) (x : Step) (h : maybe.Option (ℕ × ℕ)) → holder_after (to o k) x (who_moved h) ≡ who_moved (holder_after (o, k) x h)
  after_moved o k (Enter zero) h = refl
  after_moved o k (Enter (suc n)) h = refl
  after_moved o k (Mark n) h = refl
  after_moved o k (Leave zero) h = refl
  after_moved o k (Leave (suc zero)) h = refl
  after_moved o k (Leave (suc (suc n))) h = refl
  after_moved o k (GiveUp n) h = refl

  holder_moved : (log : List Entry) → holder_of (map mv log) ≡ who_moved (holder_of log)
  holder_moved [] = refl
  holder_moved (e ∷ log) = ap (holder_after (to e.seat e.place) e.step) (holder_moved log) ∙ after_moved e.seat e.place e.step (holder_of log)

  may_moved : (o k : ℕ) (x : Step) (h : maybe.Option (ℕ × ℕ)) → May (o, k) h x → May (to o k) (who_moved h) x
  may_moved o k (Enter n) h m = tt
  may_moved o k (Mark n) h m = ap who_moved m
  may_moved o k (Leave n) h m = ap who_moved m
  may_moved o k (GiveUp n) h m = ap who_moved m

  run_moved : (log : List Entry) → IsRun log → IsRun (map mv log)
  run_moved [] r = tt
  run_moved (e ∷ log) r = (r.0 ∙ sym (word_moved log), subst (λ h. May (to e.seat e.place) h e.step) (sym (holder_moved log)) (may_moved e.seat e.place e.step (holder_of log) r.1), run_moved log r.2)

  own_moved : (o k o' k' : ℕ) (D : Entry → Type 0) → ((e : Entry) → D e → (Same o k (mv e) → Same o' k' e) × (Same o' k' e → Same o k (mv e)))
      → (log : List Entry) → Each D log → own o k (map mv log) ≡ own o' k' log
  own_moved o k o' k' D fit [] all = refl
  own_moved o k o' k' D fit (e ∷ log) all = let ih = own_moved o k o' k' D fit log all.1 in let f = fit e all.0 in
      ⊎_elim
      (λ t. ⊎_elim (λ u. t.1 ∙ ap (λ l. e.step ∷ l) ih ∙ sym u.1) (λ u. absurd (u.0 (f.0 t.0))) (own_cases o' k' e log))
      (λ t. ⊎_elim (λ u. absurd (t.0 (f.1 u.0))) (λ u. t.1 ∙ ih ∙ sym u.1) (own_cases o' k' e log))
      (own_cases o k (mv e) (map mv log))

  own_gone : id ≢ other → (k : ℕ) (log : List Entry) → own other k (map mv log) ≡ []
  own_gone apart k [] = refl
  own_gone apart k (e ∷ log) = ⊎_elim (λ t. absurd (⊎_elim (λ m. apart (sym m.1 ∙ sym t.0.0)) (λ m. m.0 (sym m.1 ∙ sym t.0.0)) (moved e))) (λ t. t.1 ∙ own_gone apart k log) (own_cases other k (mv e) (map mv log))

  all_of : (log : List Entry) → Each (λ _. Unit {0}) log
  all_of [] = tt
  all_of (e ∷ log) = (tt, all_of log)

  own_stays : (o k : ℕ) → o ≢ other → (o ≡ id → k < len) → (log : List Entry) → own o k (map mv log) ≡ own o k log
  own_stays o k ne low log = own_moved o k o k (λ _. Unit {0})
      (λ e _. ⊎_elim
      (λ m. ((λ t. absurd (let l = low (t.0 ∙ m.1) in let p = t.1 in let q = m.2 in omega arith)), (λ t. absurd (ne (t.0 ∙ m.0)))))
      (λ m. ((λ t. (t.0 ∙ m.1, t.1 ∙ m.2)), (λ t. (t.0 ∙ sym m.1, t.1 ∙ sym m.2))))
      (moved e))
      log (all_of log)

  own_comes : (k j : ℕ) → id ≢ other → k ≡ len + j → (log : List Entry) → own id k log ≡ [] → own id k (map mv log) ≡ own other j log
  own_comes k j apart is log empty = own_moved id k other j (λ e. Same id k e → ⊥)
      (λ e not. ⊎_elim
      (λ m. ((λ t. (sym m.0, let p = t.1 in let q = m.2 in omega arith)), (λ t. (sym m.1, let p = t.1 in let q = m.2 in omega arith))))
      (λ m. ((λ t. absurd (not (t.0 ∙ m.1, t.1 ∙ m.2))), (λ t. absurd (m.0 (sym t.0)))))
      (moved e))
      log (none_there id k log empty)

  -- no list beside a seat's own has the pass, where the other's own list has none
  free_moved : (log : List Entry) → id ≢ other → ((k : ℕ) → len ≤ k → own id k log ≡ []) → 0 < len → ((o k : ℕ) → holds_pass (own o (suc k) log) ≡ false) → holds_pass (own other 0 log) ≡ false
      → (o k : ℕ) → holds_pass (own o (suc k) (map mv log)) ≡ false
  free_moved log apart empty long free mine o k = dite (ℕ_discrete o other)
      (λ here. subst (λ (z : ℕ). holds_pass (own z (suc k) (map mv log)) ≡ false) (sym here) (ap holds_pass (own_gone apart (suc k) log)))
      (λ ne. dite (ℕ_discrete o id)
      (λ here. subst (λ (z : ℕ). holds_pass (own z (suc k) (map mv log)) ≡ false) (sym here) (dite (dec_le len (suc k))
      (λ l. let j : ℕ = suc k - len in let is : suc k ≡ len + j = omega arith in ap holds_pass (own_comes (suc k) j apart is log (empty (suc k) l)) ∙ either_list j)
      (λ l. ap holds_pass (own_stays id (suc k) apart (λ _. lt_of_not-le l) log) ∙ free id k)))
      (λ nid. ap holds_pass (own_stays o (suc k) ne (λ e. absurd (nid e)) log) ∙ free o k))
    where
      either_list : (j : ℕ) → holds_pass (own other j log) ≡ false
      either_list zero = mine
      either_list (suc j) = free other j

module _ {T K : Type 0} (fits : T → Type 0) (key : K) where
  pub merges : (id other : ℕ) (v w : View K) → 0 < v.parts → holds_pass w.steps ≡ false → Joins (Serial fits key) id v other w (joined v w) spent
  merges id other v w some_part free s h at far there = let apart : id ≢ other = λ e. far (sym e) in let both = joined v w in let len : ℕ = length (v.steps ∷ v.beside) in let log = h.log in
      let mid = set s.views id both in let views = set mid other spent in
      let at_other : get_elem? s.views other ≡ some w = sym (set_else s.views id other both far) ∙ there in
      let now_other : get_elem? views other ≡ some spent = set_at mid other spent w there in
      let now_id : get_elem? views id ≡ some both = set_else mid other id spent apart ∙ set_at s.views id both v at in
      let empty : (k : ℕ) → len ≤ k → own id k log ≡ [] = λ k l. sym (h.lists id k) ∙ listed s.views id v k at ∙ get_or_past (v.steps ∷ v.beside) k [] l in
      let lists : (o k : ℕ) → list_at views o k ≡ own o k (map (mv id other len) log) = λ o k. dite (ℕ_discrete o other)
      (λ here. subst (λ (z : ℕ). list_at views z k ≡ own z k (map (mv id other len) log)) (sym here)
      (listed views other spent k now_other ∙ nothing k ∙ sym (own_gone id other len apart k log)))
      (λ ne. dite (ℕ_discrete o id)
      (λ here. subst (λ (z : ℕ). list_at views z k ≡ own z k (map (mv id other len) log)) (sym here)
      (listed views id both k now_id ∙ dite (dec_le len k)
      (λ l. let j : ℕ = k - len in let is : k ≡ len + j = omega arith in
      right_part (v.steps ∷ v.beside) (w.steps ∷ w.beside) k j [] is ∙ sym (listed s.views other w j at_other) ∙ h.lists other j ∙ sym (own_comes id other len k j apart is log (empty k l)))
      (λ l. get_or_append_left (v.steps ∷ v.beside) (w.steps ∷ w.beside) [] k (lt_of_not-le l) ∙ sym (listed s.views id v k at) ∙ h.lists id k
      ∙ sym (own_stays id other len id k apart (λ _. lt_of_not-le l) log))))
      (λ nid. ap (λ g. get_or (lists_of g) k []) (set_else mid other o spent ne ∙ set_else s.views id o both nid) ∙ h.lists o k ∙ sym (own_stays id other len o k ne (λ e. absurd (nid e)) log)))
      in record {
        log = map (mv id other len) log;
        run = run_moved id other len log h.run;
        word = h.word ∙ ap (λ (z : ℕ). z ∷ []) (sym (word_moved id other len log));
        lists = lists;
        home = subst (λ (z : ℕ). AtHome fits z s.homes) (sym (word_moved id other len log)) h.home;
        beside = free_moved id other len log apart empty (omega arith) h.beside (ap holds_pass (sym (h.lists other 0) ∙ listed s.views other w 0 at_other) ∙ free);
        keys = λ o u e. ⊎_elim (λ t. subst (KnowsKey key) t.1 tt) (λ t. ⊎_elim (λ r. subst (KnowsKey key) r.1 (h.keys id v at)) (λ r. h.keys o u r.1) (at_set s.views id o both u t.1)) (at_set mid other o spent u e);
        idle = λ o u e. ⊎_elim (λ t. subst IsIdle t.1 (λ _. (refl, refl))) (λ t. ⊎_elim (λ r. subst IsIdle r.1 (λ none. absurd (omega arith))) (λ r. h.idle o u r.1) (at_set s.views id o both u t.1)) (at_set mid other o spent u e);
        parts = (let first = parts_set s.views id v both at in let second = parts_set mid other w spent there in let all = h.parts in omega arith);
      }
    where
      nothing : (k : ℕ) → get_or {A = List Step} ([] ∷ []) k [] ≡ []
      nothing zero = refl
      nothing (suc k) = refl
