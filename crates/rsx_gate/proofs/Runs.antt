-- Facts of runs of the gate machine.
use Rattle.std.proofs.Common.{◌≡◌, ◌≢◌, ℕ, zero, suc, Bool, true, false, eq-eqb, ne_eqb, List, [], ◌∷◌, refl, sym, ap, ◌∙◌, subst, inl, inr, ◌⊎◌, ⊎_elim, arith}
use mathlib.Core.Logic.{dite}
use mathlib.Core.Option.{some, none, some-injective, some-ne-none}
use mathlib.Core.Option as maybe
use native.Mathlib.Decide.{ℕ_discrete}
use Rattle.rsx_gate.specs.declared.view.Step.{Step}
use Rattle.rsx_gate.specs.declared.view.Step.TheVariants.{Enter, Mark, Leave, GiveUp}
use Rattle.rsx_gate.specs.Machine.{Entry, entry, found, word_after, word_of, holder_after, holder_of, May, IsRun, own, newest, newest_after, IsEnter, holds_after, holds_pass}

abbrev Who : Type 0
Who = maybe.Option (ℕ × ℕ)

-- the word and the holder agree
abbrev pub Agree : ℕ → maybe.Option (ℕ × ℕ) → Type 0
Agree w none = w ≡ 0
Agree w (some who) = (w ≡ 1) ⊎ (w ≡ 2)

agree_after : (who : ℕ × ℕ) (x : Step) (w : ℕ) (h : Who) → found x ≡ w → May who h x → Agree w h → Agree (word_after x w) (holder_after who x h)
agree_after who (Enter zero) w h f m a = inr refl
agree_after who (Enter (suc n)) w none f m a = absurd (omega arith)
agree_after who (Enter (suc n)) w (some h) f m a = inr refl
agree_after who (Mark n) w h f m a = rw m (inl refl)
agree_after who (Leave zero) w h f m a = a
agree_after who (Leave (suc zero)) w h f m a = refl
agree_after who (Leave (suc (suc n))) w h f m a = a
agree_after who (GiveUp n) w h f m a = refl

pub agree : (log : List Entry) → IsRun log → Agree (word_of log) (holder_of log)
agree [] r = refl
agree (e ∷ log) r = agree_after (e.seat, e.place) e.step (word_of log) (holder_of log) r.0 r.1 (agree log r.2)

pub held_word : (log : List Entry) (who : ℕ × ℕ) → IsRun log → holder_of log ≡ some who → (word_of log ≡ 1) ⊎ (word_of log ≡ 2)
held_word log who r h = subst (Agree (word_of log)) h (agree log r)

-- the newest enter or mark, by the word: where it is 1 the holder's mark, where it is 2 an enter
abbrev pub Newest : ℕ → Who → maybe.Option Entry → Type 0
Newest w h r = (w ≡ 1 → (who : ℕ × ℕ) → h ≡ some who → (n : ℕ) × (r ≡ some (entry who.0 who.1 (Mark n)))) × (w ≡ 2 → (e : Entry) × (r ≡ some e) × IsEnter e.step)

newest_step : (o k : ℕ) (x : Step) (w : ℕ) (h : Who) (r : maybe.Option Entry) → found x ≡ w → May (o, k) h x → Agree w h → Newest w h r
    → Newest (word_after x w) (holder_after (o, k) x h) (newest_after (entry o k x) x r)
newest_step o k (Enter n) w h r f m a ih = ((λ e. absurd (omega arith)), (λ _. (entry o k (Enter n), refl, tt)))
newest_step o k (Mark n) w h r f m a ih = ((λ _ who is. let p : (o, k) ≡ who = some-injective _ _ (sym m ∙ is) in (n, ap (λ (z : ℕ × ℕ). some (entry z.0 z.1 (Mark n))) p)), (λ e. absurd (omega arith)))
newest_step o k (Leave zero) w h r f m a ih = ih
newest_step o k (Leave (suc zero)) w h r f m a ih = ((λ e. absurd (omega arith)), (λ e. absurd (omega arith)))
newest_step o k (Leave (suc (suc n))) w h r f m a ih = ih
newest_step o k (GiveUp n) w h r f m a ih = ((λ e. absurd (omega arith)), (λ e. absurd (omega arith)))

pub newest_word : (log : List Entry) → IsRun log → Newest (word_of log) (holder_of log) (newest log)
newest_word [] r = ((λ e. absurd (omega arith)), (λ e. absurd (omega arith)))
newest_word (e ∷ log) r = newest_step e.seat e.place e.step (word_of log) (holder_of log) (newest log) r.0 r.1 (agree log r.2) (newest_word log r.2)

abbrev pub Same : ℕ → ℕ → Entry → Type 0
Same o k e = (o ≡ e.seat) × (k ≡ e.place)

pub own_cases : (o k : ℕ) (e : Entry) (log : List Entry)
    → (Same o k e × (own o k (e ∷ log) ≡ e.step ∷ own o k log)) ⊎ ((Same o k e → ⊥) × (own o k (e ∷ log) ≡ own o k log))
own_cases o k e log = dite (ℕ_discrete o e.seat)
    (λ s. dite (ℕ_discrete k e.place)
    (λ p. inl ((s, p), rw (eq-eqb o e.seat s) (rw (eq-eqb k e.place p) refl)))
    (λ p. inr ((λ h. p h.1), rw (eq-eqb o e.seat s) (rw (ne_eqb k e.place p) refl))))
    (λ s. inr ((λ h. s h.0), rw (ne_eqb o e.seat s) refl))

-- a seat that has the pass by its own steps is the holder
module _ (o k : ℕ) where
  mine : (x : Step) (h : Who) (b : Bool) → (b ≡ true → h ≡ some (o, k)) → holds_after x b ≡ true → holder_after (o, k) x h ≡ some (o, k)
  mine (Enter zero) h b ih t = refl
  mine (Enter (suc n)) h b ih t = ih t
  mine (Mark n) h b ih t = ih t
  mine (Leave zero) h b ih t = ih t
  mine (Leave (suc zero)) h b ih t = absurd (search arith)
  mine (Leave (suc (suc n))) h b ih t = ih t
  mine (GiveUp n) h b ih t = absurd (search arith)

  others : (who : ℕ × ℕ) (x : Step) (w : ℕ) (h : Who) → (some who ≢ some (o, k)) → found x ≡ w → May who h x → Agree w h → h ≡ some (o, k) → holder_after who x h ≡ some (o, k)
  others who (Enter zero) w h ne f m a is = let a' : Agree w (some (o, k)) = subst (Agree w) is a in ⊎_elim (λ e. absurd (omega arith)) (λ e. absurd (omega arith)) a'
  others who (Enter (suc n)) w h ne f m a is = is
  others who (Mark n) w h ne f m a is = is
  others who (Leave zero) w h ne f m a is = is
  others who (Leave (suc zero)) w h ne f m a is = absurd (ne (sym m ∙ is))
  others who (Leave (suc (suc n))) w h ne f m a is = is
  others who (GiveUp n) w h ne f m a is = absurd (ne (sym m ∙ is))

  pub holder : (log : List Entry) → IsRun log → holds_pass (own o k log) ≡ true → holder_of log ≡ some (o, k)
  holder [] r t = absurd (search arith)
  holder (e ∷ log) r t = ⊎_elim
      (λ same. let who : (e.seat, e.place) ≡ (o, k) = λ i. (sym same.0.0 i, sym same.0.1 i) in
      subst (λ (who : ℕ × ℕ). holder_after who e.step (holder_of log) ≡ some (o, k)) (sym who)
      (mine e.step (holder_of log) (holds_pass (own o k log)) (λ b. holder log r.2 b) (sym (ap holds_pass same.1) ∙ t)))
      (λ other. others (e.seat, e.place) e.step (word_of log) (holder_of log)
      (λ eq. let p = some-injective _ _ eq in other.0 (sym (ap (λ (w : ℕ × ℕ). w.0) p), sym (ap (λ (w : ℕ × ℕ). w.1) p))) r.0 r.1 (agree log r.2) (holder log r.2 (sym (ap holds_pass other.1) ∙ t)))
      (own_cases o k e log)

-- the holder has the pass by its own steps
module _ (o k : ℕ) where
  of_mine : (x : Step) (h : Who) (b : Bool) → (h ≡ some (o, k) → b ≡ true) → holder_after (o, k) x h ≡ some (o, k) → holds_after x b ≡ true
  of_mine (Enter zero) h b ih e = refl
  of_mine (Enter (suc n)) h b ih e = ih e
  of_mine (Mark n) h b ih e = ih e
  of_mine (Leave zero) h b ih e = ih e
  of_mine (Leave (suc zero)) h b ih e = absurd (some-ne-none (o, k) (sym e))
  of_mine (Leave (suc (suc n))) h b ih e = ih e
  of_mine (GiveUp n) h b ih e = absurd (some-ne-none (o, k) (sym e))

  of_others : (who : ℕ × ℕ) (x : Step) (h : Who) → (some who ≢ some (o, k)) → holder_after who x h ≡ some (o, k) → h ≡ some (o, k)
  of_others who (Enter zero) h ne e = absurd (ne e)
  of_others who (Enter (suc n)) h ne e = e
  of_others who (Mark n) h ne e = e
  of_others who (Leave zero) h ne e = e
  of_others who (Leave (suc zero)) h ne e = absurd (some-ne-none (o, k) (sym e))
  of_others who (Leave (suc (suc n))) h ne e = e
  of_others who (GiveUp n) h ne e = absurd (some-ne-none (o, k) (sym e))

  pub has_pass : (log : List Entry) → holder_of log ≡ some (o, k) → holds_pass (own o k log) ≡ true
  has_pass [] e = absurd (some-ne-none (o, k) (sym e))
  has_pass (e ∷ log) is = ⊎_elim
      (λ same. let who : (e.seat, e.place) ≡ (o, k) = λ i. (sym same.0.0 i, sym same.0.1 i) in
      ap holds_pass same.1 ∙ of_mine e.step (holder_of log) (holds_pass (own o k log)) (has_pass log)
      (subst (λ (who : ℕ × ℕ). holder_after who e.step (holder_of log) ≡ some (o, k)) who is))
      (λ other. ap holds_pass other.1 ∙ has_pass log (of_others (e.seat, e.place) e.step (holder_of log)
      (λ eq. let p = some-injective _ _ eq in other.0 (sym (ap (λ (w : ℕ × ℕ). w.0) p), sym (ap (λ (w : ℕ × ℕ). w.1) p))) is))
      (own_cases o k e log)

-- where no list has the pass, the word is 0
pub none_held : (log : List Entry) → IsRun log → ((o k : ℕ) → holds_pass (own o k log) ≡ false) → word_of log ≡ 0
none_held log r free = at (holder_of log) refl (agree log r)
  where
    at : (h : Who) → holder_of log ≡ h → Agree (word_of log) h → word_of log ≡ 0
    at none is a = a
    at (some who) is a = absurd (search (arith, sym (has_pass who.0 who.1 log is) ∙ free who.0 who.1))

pub one_pass : (log : List Entry) (o k o' k' : ℕ) → IsRun log → holds_pass (own o k log) ≡ true → holds_pass (own o' k' log) ≡ true → (o ≡ o') × (k ≡ k')
one_pass log o k o' k' r a b = let p : (o, k) ≡ (o', k') = some-injective _ _ (sym (holder o k log r a) ∙ holder o' k' log r b) in (ap (λ (w : ℕ × ℕ). w.0) p, ap (λ (w : ℕ × ℕ). w.1) p)

pub gone : (log : List Entry) (o k : ℕ) → IsRun (entry o k (Leave 1) ∷ log) → (n : ℕ) × (newest log ≡ some (entry o k (Mark n)))
gone log o k r = (newest_word log r.2).0 (sym r.0) (o, k) r.1

pub missed : (log : List Entry) (o k n : ℕ) → n ≢ 1 → IsRun (entry o k (Leave n) ∷ log) → (n ≡ 2) × ((e : Entry) × (newest log ≡ some e) × IsEnter e.step)
missed log o k n ne r = ⊎_elim
    (λ e. absurd (ne (r.0 ∙ e)))
    (λ e. (r.0 ∙ e, (newest_word log r.2).1 e))
    (held_word log (o, k) r.2 r.1)
