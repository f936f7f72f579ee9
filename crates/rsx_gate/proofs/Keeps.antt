-- Each step keeps the rule.
use Rattle.std.proofs.Common.{◌≡◌, ◌≢◌, ℕ, zero, suc, ◌+◌, ◌<◌, true, eqb, List, [], ◌∷◌, ◌++◌, get_or, set, refl, sym, ap, ◌∙◌, subst, ◌⊎◌, ⊎_elim, Option, Some, None, IfSome, arith}
use mathlib.Core.Logic.{dite}
use mathlib.Core.Option.{some, none, some-injective, some-ne-none}
use mathlib.Core.Option as maybe
use native.Mathlib.Decide.{ℕ_discrete}
use lib.ListN.{get_elem?}
use prog.Atomic.{either}
use Rattle.atomic_table.specs.Table.{State, Me, Act, step, keeps, takes, gives, Allows, Splits, opening, Valid, stepped, carried_after, put_back}
use Rattle.atomic_table.proofs.Lists.{at_set, at_snoc, set_else, exchanged}
use Rattle.rsx_gate.specs.declared.view.View.{View}
use Rattle.rsx_gate.specs.declared.view.Step.{Step}
use Rattle.rsx_gate.specs.declared.view.Step.TheVariants.{Enter, Mark, Leave, GiveUp}
use Rattle.rsx_gate.specs.Machine.{Entry, entry, found, word_after, word_of, holder_of, May, own, holds_pass, founder, newcomer, lists_of, list_at, KnowsKey, parts_of, IsIdle, AtHome, Serial}
use Rattle.rsx_gate.specs.Plays.{more, fewer, IsHeld, entered, marked, left, gave_up}
use Rattle.rsx_gate.proofs.Runs.{Agree, agree, own_cases, newest_word, held_word, holder}

pub set_at : {A : Type 0} (l : List A) (i : ℕ) (a b : A) → get_elem? l i ≡ some b → get_elem? (set l i a) i ≡ some a
set_at [] i a b e = absurd (some-ne-none b (sym e))
set_at (x ∷ xs) zero a b e = refl
set_at (x ∷ xs) (suc i) a b e = set_at xs i a b e

-- the parts after a change of one seat
pub parts_set : {K : Type 0} (views : List (View K)) (id : ℕ) (v w : View K) → get_elem? views id ≡ some v → parts_of (set views id w) + v.parts ≡ parts_of views + w.parts
parts_set [] id v w at = absurd (some-ne-none v (sym at))
parts_set (x ∷ xs) zero v w at = let same : x.parts ≡ v.parts = ap (λ (u : View _). u.parts) (some-injective _ _ at) in omega arith
parts_set (x ∷ xs) (suc id) v w at = let ih = parts_set xs id v w at in omega arith

parts_snoc : {K : Type 0} (views : List (View K)) (w : View K) → parts_of (views ++ w ∷ []) ≡ parts_of views + w.parts
parts_snoc [] w = omega arith
parts_snoc (x ∷ xs) w = let ih = parts_snoc xs w in omega arith

at_key : {T K : Type 0} (fits : K → T → Type 0) (key : K) (x : T) (o : Option K) → IfSome o (λ k. k ≡ key) → fits key x → IfSome o (λ k. fits k x)
at_key fits key x None h f = tt
at_key fits key x (Some k) h f = subst (λ (z : _). fits z x) (sym h) f

pub listed : {K : Type 0} (views : List (View K)) (o : ℕ) (v : View K) (k : ℕ) → get_elem? views o ≡ some v → list_at views o k ≡ get_or (v.steps ∷ v.beside) k []
listed views o v k at = ap (λ g. get_or (lists_of g) k []) at

other_place : {A : Type 0} (k : ℕ) (a b : A) (xs : List A) (d : A) → k ≢ 0 → get_or (a ∷ xs) k d ≡ get_or (b ∷ xs) k d
other_place zero a b xs d ne = absurd (ne refl)
other_place (suc k) a b xs d ne = refl

back : {T : Type 0} (homes : List (maybe.Option T)) (c : List (ℕ × T)) (x : T) → c ≡ (0, x) ∷ [] → homes ≡ none ∷ [] → put_back homes c ≡ some x ∷ []
back homes c x e h = ap (put_back homes) e ∙ ap (λ hs. set hs 0 (some x)) h

module _ {T K : Type 0} (fits : T → Type 0) (key : K) where
  away : (w : ℕ) (homes : List (maybe.Option T)) → (w ≡ 1) ⊎ (w ≡ 2) → AtHome fits w homes → homes ≡ none ∷ []
  away zero homes h a = absurd (⊎_elim (λ e. omega arith) (λ e. omega arith) h)
  away (suc w) homes h a = a

  -- the lists after one step of the seat id
  lists_after : (views : List (View K)) (log : List Entry) → ((o k : ℕ) → list_at views o k ≡ own o k log)
      → (id : ℕ) (v : View K) (x : Step) → get_elem? views id ≡ some v → (o k : ℕ) → list_at (set views id (more v x)) o k ≡ own o k (entry id 0 x ∷ log)
  lists_after views log lists id v x at o k = let w = more v x in ⊎_elim
      (λ t. let now : get_elem? (set views id w) o ≡ some w = subst (λ (z : ℕ). get_elem? (set views id w) z ≡ some w) (sym t.0.0) (set_at views id w v at) in
      let was : get_elem? views o ≡ some v = subst (λ (z : ℕ). get_elem? views z ≡ some v) (sym t.0.0) at in
      listed (set views id w) o w k now ∙ ap (λ (z : ℕ). get_or (w.steps ∷ w.beside) z []) t.0.1
      ∙ ap (λ l. x ∷ l) (ap (λ (z : ℕ). get_or (v.steps ∷ v.beside) z []) (sym t.0.1) ∙ sym (listed views o v k was) ∙ lists o k) ∙ sym t.1)
      (λ t. dite (ℕ_discrete o id)
      (λ here. let now : get_elem? (set views id w) o ≡ some w = subst (λ (z : ℕ). get_elem? (set views id w) z ≡ some w) (sym here) (set_at views id w v at) in
      let was : get_elem? views o ≡ some v = subst (λ (z : ℕ). get_elem? views z ≡ some v) (sym here) at in
      listed (set views id w) o w k now ∙ other_place k w.steps v.steps v.beside [] (λ e. t.0 (here, e)) ∙ sym (listed views o v k was) ∙ lists o k ∙ sym t.1)
      (λ away. ap (λ g. get_or (lists_of g) k []) (set_else views id o w away) ∙ lists o k ∙ sym t.1))
      (own_cases o k (entry id 0 x) log)

  -- the rule after one step of the seat id
  pub stands : (s : State T (View K)) (h : Serial fits key s) (id : ℕ) (v : View K) (x : Step) (homes : List (maybe.Option T)) (new : ℕ) → get_elem? s.views id ≡ some v → 0 < v.parts
      → found x ≡ word_of h.log → May (id, 0) (holder_of h.log) x → new ≡ word_after x (word_of h.log) → AtHome fits (word_after x (word_of h.log)) homes
      → Serial fits key record { words = set s.words 0 new; homes = homes; views = set s.views id (more v x) }
  stands s h id v x homes new at some_part f m n home = record {
    log = entry id 0 x ∷ h.log;
    run = (f, m, h.run);
    word = ap (λ ws. set ws 0 new) h.word ∙ ap (λ k. k ∷ []) n;
    lists = lists_after s.views h.log h.lists id v x at;
    home = home;
    beside = λ o k. ⊎_elim (λ t. absurd (let z = t.0.1 in omega arith)) (λ t. ap holds_pass t.1 ∙ h.beside o k) (own_cases o (suc k) (entry id 0 x) h.log);
    keys = λ o u e. ⊎_elim (λ t. subst (KnowsKey key) t.1 (h.keys id v at)) (λ t. h.keys o u t.1) (at_set s.views id o (more v x) u e);
    idle = λ o u e. ⊎_elim (λ t. subst IsIdle t.1 (λ none. absurd (omega arith))) (λ t. h.idle o u t.1) (at_set s.views id o (more v x) u e);
    parts = (let set_one = parts_set s.views id v (more v x) at in let all = h.parts in omega arith);
  }

  -- what the rule says to a seat that has the pass by its own steps
  holding : (s : State T (View K)) (h : Serial fits key s) (id : ℕ) (v : View K) → get_elem? s.views id ≡ some v → holds_pass v.steps ≡ true
      → (holder_of h.log ≡ some (id, 0)) × ((word_of h.log ≡ 1) ⊎ (word_of h.log ≡ 2)) × (s.homes ≡ none ∷ []) × (own id 0 h.log ≡ v.steps)
  holding s h id v at mine = let mine_is : own id 0 h.log ≡ v.steps = sym (h.lists id 0) ∙ listed s.views id v 0 at in
      let who = holder id 0 h.log h.run (ap holds_pass mine_is ∙ mine) in let word = held_word h.log (id, 0) h.run who in
      (who, word, away (word_of h.log) s.homes word h.home, mine_is)

  word_is : (s : State T (View K)) (h : Serial fits key s) → get_or s.words 0 0 ≡ word_of h.log
  word_is s h = ap (λ ws. get_or ws 0 0) h.word

module _ {T K : Type 0} (fits : K → T → Type 0) (key : K) where
  abbrev Goes : State T (View K) → ℕ → Me T (View K) → ℕ → (Me T (View K) → Type 0) → Type 0
  Goes s id me new told = (w : View K) × (a : Act T) × Valid s.homes me.1 a × Serial (fits key) key (stepped s 0 new id me.1 w a) × told (w, carried_after me.1 a)

  held : (w : ℕ) (o : maybe.Option (ℕ × ℕ)) → Agree w o → w ≢ 0 → IsHeld w
  held w none a ne = absurd (ne a)
  held w (some who) a ne = a

  enters_at : (n : ℕ) (s : State T (View K)) (h : Serial (fits key) key s) (id : ℕ) (me : Me T (View K)) → get_elem? s.views id ≡ some me.0 → 0 < me.0.parts → (m : ℕ) → get_or s.words 0 0 ≡ m → word_of h.log ≡ m → AtHome (fits key) m s.homes
      → Goes s id me 2 (entered fits (step n 0 2 0 none) me (get_or s.words 0 0))
  enters_at n s h id me at some_part zero e e' home = let x = home.0 in let w0 : ℕ = get_or s.words 0 0 in (
    more me.0 (Enter w0),
    takes 0 x,
    ap (λ hs. get_elem? hs 0) home.1,
    stands (fits key) key s h id me.0 (Enter w0) (set s.homes 0 none) 2 at some_part (e ∙ sym e') tt refl (ap (λ hs. set hs 0 none) home.1),
    (refl, (λ _. (x, refl, at_key fits key x me.0.key (h.keys id me.0 at) home.2)), (λ ne. absurd (ne e))),
  )
  enters_at n s h id me at some_part (suc m) e e' home = let w0 : ℕ = get_or s.words 0 0 in (
    more me.0 (Enter w0),
    keeps,
    tt,
    stands (fits key) key s h id me.0 (Enter w0) s.homes 2 at some_part (e ∙ sym e') tt refl home,
    (refl, (λ z. absurd (omega arith)), (λ _. (subst IsHeld (sym (word_is (fits key) key s h)) (held (word_of h.log) (holder_of h.log) (agree h.log h.run) (λ z. absurd (omega arith))), refl))),
  )

  pub enters : (n id : ℕ) (me : Me T (View K)) → 0 < me.0.parts → Allows (Serial (fits key) key) n id me 0 (λ _. 2) (entered fits (step n 0 2 0 none) me)
  enters n id me some_part s h wide at _ = enters_at n s h id me at some_part (word_of h.log) (word_is (fits key) key s h) refl h.home

  pub marks : (n id : ℕ) (me : Me T (View K)) → 0 < me.0.parts → holds_pass me.0.steps ≡ true → Allows (Serial (fits key) key) n id me 0 (λ _. 1) (marked (step n 0 1 0 none) me)
  marks n id me some_part mine s h wide at _ = let k = holding (fits key) key s h id me.0 at mine in let w0 : ℕ = get_or s.words 0 0 in (
    more me.0 (Mark w0),
    keeps,
    tt,
    stands (fits key) key s h id me.0 (Mark w0) s.homes 1 at some_part (word_is (fits key) key s h) k.0 refl k.2,
    (refl, refl, subst IsHeld (sym (word_is (fits key) key s h)) k.1),
  )

  pub gives_up : (n id : ℕ) (me : Me T (View K)) (x : T) → 0 < me.0.parts → holds_pass me.0.steps ≡ true → me.1 ≡ (0, x) ∷ [] → fits key x
      → Allows (Serial (fits key) key) n id me 0 (λ _. 0) (gave_up (step n 0 0 0 none) me)
  gives_up n id me x some_part mine carry ok s h wide at _ = let k = holding (fits key) key s h id me.0 at mine in let w0 : ℕ = get_or s.words 0 0 in (
    more me.0 (GiveUp w0),
    gives,
    tt,
    stands (fits key) key s h id me.0 (GiveUp w0) (put_back s.homes me.1) 0 at some_part (word_is (fits key) key s h) k.0 refl
        (x, back s.homes me.1 x carry k.2, ok),
    (refl, refl, subst IsHeld (sym (word_is (fits key) key s h)) k.1),
  )

  leaves_at : (n : ℕ) (s : State T (View K)) (h : Serial (fits key) key s) (id : ℕ) (me : Me T (View K)) (x : T) → get_elem? s.views id ≡ some me.0 → 0 < me.0.parts → holds_pass me.0.steps ≡ true → me.1 ≡ (0, x) ∷ [] → fits key x
      → Goes s id me (either (eqb (get_or s.words 0 0) 1) 0 (get_or s.words 0 0)) (left (step n 0 1 0 none) me (get_or s.words 0 0))
  leaves_at n s h id me x at some_part mine carry ok = let k = holding (fits key) key s h id me.0 at mine in let w0 : ℕ = get_or s.words 0 0 in let is : w0 ≡ word_of h.log = word_is (fits key) key s h in
      let seen = newest_word h.log h.run in
      exchanged w0 1 0 (λ new. Goes s id me new (left (step n 0 1 0 none) me w0))
      (λ hit. let zeroed : 0 ≡ word_after (Leave w0) (word_of h.log) = sym (ap (λ z. word_after (Leave z) (word_of h.log)) hit) in (
        more me.0 (Leave w0),
        gives,
        tt,
        stands (fits key) key s h id me.0 (Leave w0) (put_back s.homes me.1) 0 at some_part is k.0 zeroed
            (let P : ℕ → Type 0 = λ z. AtHome (fits key) z (put_back s.homes me.1) in let home : P 0 = (x, back s.homes me.1 x carry k.2, ok) in subst P zeroed home),
        (refl, (λ _. (refl, (id, h.log, h.run, k.3, seen.0 (sym is ∙ hit) (id, 0) k.0))), (λ ne. absurd (ne hit))),
      ))
      (λ miss. let two : w0 ≡ 2 = ⊎_elim (λ e. absurd (miss (is ∙ e))) (λ e. is ∙ e) k.1 in
      let kept : word_of h.log ≡ word_after (Leave w0) (word_of h.log) = sym (ap (λ z. word_after (Leave z) (word_of h.log)) two) in (
        more me.0 (Leave w0),
        keeps,
        tt,
        stands (fits key) key s h id me.0 (Leave w0) s.homes w0 at some_part is k.0 (is ∙ kept) (subst (λ (z : ℕ). AtHome (fits key) z s.homes) kept h.home),
        (refl, (λ e. absurd (miss e)), (λ _. (two, refl, (id, h.log, h.run, k.3, seen.1 (sym is ∙ two))))),
      ))

  pub leaves : (n id : ℕ) (me : Me T (View K)) (x : T) → 0 < me.0.parts → holds_pass me.0.steps ≡ true → me.1 ≡ (0, x) ∷ [] → fits key x
      → Allows (Serial (fits key) key) n id me 0 (λ y. either (eqb y 1) 0 y) (left (step n 0 1 0 none) me)
  leaves n id me x some_part mine carry ok s h wide at _ = leaves_at n s h id me x at some_part mine carry ok

snoc_list : {K : Type 0} (l : List (View K)) (key : Option K) (o k : ℕ) → list_at (l ++ newcomer key ∷ []) o k ≡ list_at l o k
snoc_list [] key zero zero = refl
snoc_list [] key zero (suc k) = refl
snoc_list [] key (suc o) k = refl
snoc_list (x ∷ xs) key zero k = refl
snoc_list (x ∷ xs) key (suc o) k = snoc_list xs key o k

-- a seat's parts aren't in its lists
fewer_list : {K : Type 0} (views : List (View K)) (id : ℕ) (v : View K) (o k : ℕ) → get_elem? views id ≡ some v → list_at (set views id (fewer v)) o k ≡ list_at views o k
fewer_list [] id v o k at = refl
fewer_list (x ∷ xs) zero v zero k at = ap (λ (u : View _). get_or (u.steps ∷ u.beside) k []) (sym (some-injective _ _ at))
fewer_list (x ∷ xs) zero v (suc o) k at = refl
fewer_list (x ∷ xs) (suc id) v zero k at = refl
fewer_list (x ∷ xs) (suc id) v (suc o) k at = fewer_list xs id v o k at

module _ {T K : Type 0} (fits : T → Type 0) (key : K) where
  starts : (x : T) → fits x → Serial fits key (opening (0 ∷ []) (x ∷ []) (founder key))
  starts x ok = record {
    log = [];
    run = tt;
    word = refl;
    lists = λ o k. start_list o k;
    home = (x, refl, ok);
    beside = λ o k. refl;
    keys = λ o v e. start_key o v e;
    idle = λ o v e. start_idle o v e;
    parts = omega arith;
  }
    where
      start_list : (o k : ℕ) → list_at {K = K} (founder key ∷ []) o k ≡ []
      start_list zero zero = refl
      start_list zero (suc k) = refl
      start_list (suc o) k = refl

      start_key : (o : ℕ) (v : View K) → get_elem? (founder key ∷ []) o ≡ some v → KnowsKey key v
      start_key zero v e = subst (KnowsKey key) (some-injective _ _ e) refl
      start_key (suc o) v e = absurd (some-ne-none v (sym e))

      start_idle : (o : ℕ) (v : View K) → get_elem? (founder key ∷ []) o ≡ some v → IsIdle v
      start_idle zero v e = subst IsIdle (some-injective _ _ e) (λ none. absurd (omega arith))
      start_idle (suc o) v e = absurd (some-ne-none v (sym e))

  -- the same where the value was pushed into a list that was empty
  pub opens : (xs ys : List T) (x : T) → ys ≡ [] → xs ≡ ys ++ x ∷ [] → fits x → Serial fits key (opening (0 ∷ []) xs (founder key))
  opens xs ys x empty pushed ok = subst (λ l. Serial fits key (opening (0 ∷ []) l (founder key))) (sym (pushed ∙ ap (λ l. l ++ x ∷ []) empty)) (starts x ok)

  -- a new seat has one part and no steps
  pub splits : (id : ℕ) (v : View K) → 1 < v.parts → Splits (Serial fits key) id v (fewer v) (newcomer v.key)
  splits id v parts s h at = record {
    log = h.log;
    run = h.run;
    word = h.word;
    lists = λ o k. snoc_list (set s.views id (fewer v)) v.key o k ∙ fewer_list s.views id v o k at ∙ h.lists o k;
    home = h.home;
    beside = h.beside;
    keys = λ o u e. ⊎_elim
        (λ was. ⊎_elim (λ t. subst (KnowsKey key) t.1 (h.keys id v at)) (λ t. h.keys o u t.1) (at_set s.views id o (fewer v) u was))
        (λ is. subst (KnowsKey key) is (h.keys id v at)) (at_snoc (set s.views id (fewer v)) (newcomer v.key) u o e);
    idle = λ o u e. ⊎_elim
        (λ was. ⊎_elim (λ t. subst IsIdle t.1 (λ none. absurd (omega arith))) (λ t. h.idle o u t.1) (at_set s.views id o (fewer v) u was))
        (λ is. subst IsIdle is (λ none. absurd (omega arith))) (at_snoc (set s.views id (fewer v)) (newcomer v.key) u o e);
    parts = (let fewer_one = parts_set s.views id v (fewer v) at in let one_more = parts_snoc (set s.views id (fewer v)) (newcomer v.key) in let all = h.parts in omega arith);
  }
