-- What is known of a table that was closed.
use Rattle.std.proofs.Common.{◌≡◌, ◌≢◌, ◌+◌, ◌≤◌, ℕ, zero, suc, Bool, false, List, [], ◌∷◌, get_or, refl, sym, ap, ◌∙◌, subst, arith}
use mathlib.Core.Logic.{dite}
use mathlib.Core.Option.{some, none, some-injective, some-ne-none}
use mathlib.Core.Option as maybe
use native.Mathlib.Decide.{ℕ_discrete}
use lib.ListN.{get_elem?}
use Rattle.atomic_table.specs.Table.{State, Final}
use Rattle.atomic_table.specs.Table as table
use Rattle.rsx_gate.specs.declared.view.View.{View}
use Rattle.rsx_gate.specs.declared.view.Step.{Step}
use Rattle.rsx_gate.specs.Machine.{word_of, own, holds_pass, all_parts, lists_of, parts_of, IsIdle, AtHome, Serial}
use Rattle.rsx_gate.specs.Seats.{Stands}
use Rattle.rsx_gate.proofs.Runs.{none_held}
use Rattle.rsx_gate.proofs.Keeps.{listed}

-- one seat has no more parts than there are, nor two seats together
part : {K : Type 0} (views : List (View K)) (i : ℕ) (a : View K) → get_elem? views i ≡ some a → a.parts ≤ parts_of views
part [] i a at = absurd (some-ne-none a (sym at))
part (x ∷ xs) zero a at = let same : x.parts ≡ a.parts = ap (λ (u : View _). u.parts) (some-injective _ _ at) in omega arith
part (x ∷ xs) (suc i) a at = let ih = part xs i a at in omega arith

two_parts : {K : Type 0} (views : List (View K)) (i j : ℕ) (a b : View K) → get_elem? views i ≡ some a → get_elem? views j ≡ some b → i ≢ j → a.parts + b.parts ≤ parts_of views
two_parts [] i j a b at_i at_j ne = absurd (some-ne-none a (sym at_i))
two_parts (x ∷ xs) zero zero a b at_i at_j ne = absurd (ne refl)
two_parts (x ∷ xs) zero (suc j) a b at_i at_j ne = let same : x.parts ≡ a.parts = ap (λ (u : View _). u.parts) (some-injective _ _ at_i) in let more = part xs j b at_j in omega arith
two_parts (x ∷ xs) (suc i) zero a b at_i at_j ne = let same : x.parts ≡ b.parts = ap (λ (u : View _). u.parts) (some-injective _ _ at_j) in let more = part xs i a at_i in omega arith
two_parts (x ∷ xs) (suc i) (suc j) a b at_i at_j ne = let ih = two_parts xs i j a b at_i at_j (λ e. ne (ap (λ (z : ℕ). suc z) e)) in omega arith

no_lists : {K : Type 0} (g : maybe.Option (View K)) (k : ℕ) → ((v : View K) → g ≡ some v → v.parts ≡ 0) → ((v : View K) → g ≡ some v → IsIdle v) → holds_pass (get_or (lists_of g) k []) ≡ false
no_lists none k p i = refl
no_lists (some v) k p i = let empty = i v refl (p v refl) in ap (λ (ls : List (List Step)). holds_pass (get_or ls k [])) (ap (λ (l : List Step). l ∷ v.beside) empty.0 ∙ ap (λ (b : List (List Step)). [] ∷ b) empty.1) ∙ nothing k
  where
    nothing : (k : ℕ) → holds_pass (get_or {A = List Step} ([] ∷ []) k []) ≡ false
    nothing zero = refl
    nothing (suc k) = refl

at_each : (f : ℕ → Bool) → f 0 ≡ false → ((k : ℕ) → f (suc k) ≡ false) → (k : ℕ) → f k ≡ false
at_each f z s zero = z
at_each f z s (suc k) = s k

module _ {T K : Type 0} (fits : T → Type 0) (key : K) where
  pub closes : (id : ℕ) (v : View K) (ws : List ℕ) (xs : List T) (w : ℕ) (x : T) → Final (table.Seen (Serial fits key) id v) ws xs
      → get_elem? ws 0 ≡ some w → w ≡ 0 → get_elem? xs 0 ≡ some x → fits x × Stands id v
  closes id v ws xs w x f at is_zero at_x = let s = f.0 in let h = f.1.0 in let log = h.log in
      let free : word_of log ≡ 0 = some-injective _ _ (ap (λ l. get_elem? l 0) (sym h.word ∙ f.2) ∙ at) ∙ is_zero in
      let home : AtHome fits 0 s.homes = subst (λ (n : ℕ). AtHome fits n s.homes) free h.home in
      let same : home.0 ≡ x = some-injective _ _ (sym (f.4 0 home.0 (ap (λ l. get_elem? l 0) home.1)) ∙ at_x) in
      (subst fits same home.2, (log, h.run, free, (λ k. sym (listed s.views id v k f.1.1) ∙ h.lists id k)))

  -- where one seat has all parts and no pass, the word is 0
  pub all_closed : (id : ℕ) (v : View K) (ws : List ℕ) (xs : List T) (w : ℕ) → Final (table.Seen (Serial fits key) id v) ws xs → all_parts ≤ v.parts → holds_pass v.steps ≡ false
      → get_elem? ws 0 ≡ some w → w ≡ 0
  all_closed id v ws xs w f all free at = let s = f.0 in let h = f.1.0 in
      let others : (o k : ℕ) → o ≢ id → holds_pass (own o k h.log) ≡ false = λ o k ne.
      ap holds_pass (sym (h.lists o k)) ∙ no_lists (get_elem? s.views o) k (λ u is. let two = two_parts s.views o id u v is f.1.1 ne in let whole = h.parts in omega arith) (λ u is. h.idle o u is) in
      let own_free : (k : ℕ) → holds_pass (own id k h.log) ≡ false = at_each (λ k. holds_pass (own id k h.log)) (ap holds_pass (sym (h.lists id 0) ∙ listed s.views id v 0 f.1.1) ∙ free) (h.beside id) in
      some-injective _ _ (sym at ∙ ap (λ l. get_elem? l 0) (sym f.2) ∙ ap (λ l. get_elem? l 0) h.word)
      ∙ none_held h.log h.run (λ o k. dite (ℕ_discrete o id) (λ here. subst (λ (z : ℕ). holds_pass (own z k h.log) ≡ false) (sym here) (own_free k)) (λ ne. others o k ne))
