-- Several items that a multicast hub takes in at once are taken in one after the other.
use Rattle.std.proofs.Common.{◌≡◌, ℕ, ◌+◌, ◌-◌, ◌≤◌, Bool, true, false, ◌&&◌, nat_eq, nat_le, List, [], ◌∷◌, ◌++◌, length, drop, refl, sym, ap, ◌∙◌, subst, arith}
use Rattle.std.proofs.lemmas.Bool.Decides.{nat_tests}
use Rattle.std.proofs.lemmas.List.{nil_from_length}
use Rattle.circular_buffer.specs.Buffer.{keep_last}
use Rattle.rsx_sources.specs.Prelude.{HubKind, Ending, Next, is_nil}
use Rattle.rsx_hub.specs.Hub.{HubState, replayed, kept_with, all_accepted, taken_in, takes_many, takes_signal, AllByOne, AreTakenIn}
use Rattle.rsx_hub.specs.Waiting.{is_open}
use Rattle.rsx_hub.specs.declared.TheConstants.{MOST_ACCEPTED}

dropped_all : {A : Type 0} (xs : List A) → drop (length xs) xs ≡ []
dropped_all [] = refl
dropped_all (x ∷ xs) = dropped_all xs

-- a hub that replays nothing keeps nothing of what it takes in
pub keeps_none : {A : Type 0} (n : ℕ) (xs : List A) → n ≡ 0 → keep_last n xs ≡ []
keeps_none n xs e = ap (λ k. drop k xs) (less (length xs) e) ∙ dropped_all xs
  where
    less : (l : ℕ) → n ≡ 0 → l - n ≡ l
    less l h = omega (arith, h)

kept_nothing : {A : Type 0} (n : ℕ) (xs : List A) → n ≡ 0 → kept_with n [] xs ≡ []
kept_nothing n [] e = refl
kept_nothing n (x ∷ xs) e = keeps_none n (x ∷ xs) e

kept_all : {A : Type 0} (n : ℕ) (ks : List A) (x : A) (xs : List A) → n ≡ 0 → kept_with n (keep_last n (ks ++ x ∷ [])) xs ≡ keep_last n (ks ++ x ∷ xs)
kept_all n ks x xs e = ap (λ l. kept_with n l xs) (keeps_none n (ks ++ x ∷ []) e) ∙ (kept_nothing n xs e ∙ sym (keeps_none n (ks ++ x ∷ xs) e))

is_at_most : (a b : ℕ) → a ≤ b → nat_le a b ≡ true
is_at_most a b l = grind (arith, nat_tests)

at_most : (a b : ℕ) → nat_le a b ≡ true → a ≤ b
at_most a b e = grind (arith, nat_tests)

is_zero : (a : ℕ) → nat_eq a 0 ≡ true → a ≡ 0
is_zero a e = grind (arith, nat_tests)

both : (a b : Bool) → a && b ≡ true → (a ≡ true) × (b ≡ true)
both true b e = (refl, e)
both false b e = cc

none_there : {A : Type 0} (xs : List A) → is_nil xs ≡ true → xs ≡ []
none_there [] e = refl
none_there (x ∷ xs) e = cc

module _ {T : Type 0} where
  by_one : (k : HubKind) (c : ℕ) (e : Ending) (ended : Bool) (m : ℕ) → replayed k ≡ 0 → (xs : List T) (n : ℕ) (ks : List T) →
      AllByOne (record { kind = k; capacity = c; inbox = xs; ending = e; count = n; kept = ks; has_ended = ended; members = m }) xs
      (all_accepted (record { kind = k; capacity = c; inbox = xs; ending = e; count = n; kept = ks; has_ended = ended; members = m }))
  by_one k c e ended m none [] n ks =
      let same : n + 0 ≡ n = omega arith in
      λ i. record { kind = k; capacity = c; inbox = []; ending = e; count = same i; kept = ks; has_ended = ended; members = m }
  by_one k c e ended m none (x ∷ xs) n ks =
      let after : HubState T = record { kind = k; capacity = c; inbox = xs; ending = e; count = n + 1; kept = keep_last (replayed k) (ks ++ x ∷ []); has_ended = ended; members = m } in
      let counts : (n + 1) + length xs ≡ n + length (x ∷ xs) = omega arith in
      let kept = kept_all (replayed k) ks x xs none in
      let others = by_one k c e ended m none xs (n + 1) (keep_last (replayed k) (ks ++ x ∷ [])) in
      (after, refl, refl, subst (AllByOne after xs) (λ i. record { kind = k; capacity = c; inbox = []; ending = e; count = counts i; kept = kept i; has_ended = ended; members = m }) others)

  -- all items of a multicast hub's inbox, taken in at once, are taken in one after the other
  pub all_by_one : (h : HubState T) → replayed h.kind ≡ 0 → AllByOne h h.inbox (all_accepted h)
  all_by_one h none = by_one h.kind h.capacity h.ending h.has_ended h.members none h.inbox h.count h.kept

  -- ---- from a feed

  taking : (k : HubKind) (c : ℕ) (e : Ending) (ended : Bool) (m : ℕ) → replayed k ≡ 0 → is_open e ≡ true → (xs : List T) (n : ℕ) (ks : List T) → n + length xs ≤ MOST_ACCEPTED →
      AreTakenIn (record { kind = k; capacity = c; inbox = []; ending = e; count = n; kept = ks; has_ended = ended; members = m }) xs
      (record { kind = k; capacity = c; inbox = []; ending = e; count = n + length xs; kept = kept_with (replayed k) ks xs; has_ended = ended; members = m })
  taking k c e ended m none live [] n ks most =
      let same : n + 0 ≡ n = omega arith in
      λ i. record { kind = k; capacity = c; inbox = []; ending = e; count = same i; kept = ks; has_ended = ended; members = m }
  taking k c e ended m none live (x ∷ xs) n ks most =
      let now : HubState T = record { kind = k; capacity = c; inbox = []; ending = e; count = n; kept = ks; has_ended = ended; members = m } in
      let after : HubState T = taken_in now (Next x) in
      let counts : (n + 1) + length xs ≡ n + length (x ∷ xs) = omega arith in
      let less : (n + 1) + length xs ≤ MOST_ACCEPTED = omega (arith, most, counts) in
      let one : n + 1 ≤ MOST_ACCEPTED = omega (arith, less) in
      let takes : takes_signal now (Next x) ≡ true = ap (λ b. b && nat_le (n + 1) MOST_ACCEPTED) live ∙ is_at_most (n + 1) MOST_ACCEPTED one in
      let kept = kept_all (replayed k) ks x xs none in
      let others = taking k c e ended m none live xs (n + 1) (keep_last (replayed k) (ks ++ x ∷ [])) less in
      (after, takes, refl, subst (AreTakenIn after xs) (λ i. record { kind = k; capacity = c; inbox = []; ending = e; count = counts i; kept = kept i; has_ended = ended; members = m }) others)

  -- so many items, counted at once, are taken in one after the other where the hub takes so many
  pub many_taken : (h new : HubState T) (n : ℕ) → takes_many h n ≡ true → length h.kept ≤ replayed h.kind → new ≡ record h { count = h.count + n } → (xs : List T) → length xs ≡ n → AreTakenIn h xs new
  many_taken h new n takes few is xs many =
      let live = both (is_open h.ending) (is_nil h.inbox && (nat_eq (replayed h.kind) 0 && nat_le (h.count + n) MOST_ACCEPTED)) takes in
      let empty = both (is_nil h.inbox) (nat_eq (replayed h.kind) 0 && nat_le (h.count + n) MOST_ACCEPTED) live.1 in
      let rest = both (nat_eq (replayed h.kind) 0) (nat_le (h.count + n) MOST_ACCEPTED) empty.1 in
      let inbox = none_there h.inbox empty.0 in
      let none = is_zero (replayed h.kind) rest.0 in
      let nothing = nil_from_length h.kept (omega (arith, few, none)) in
      let most = at_most (h.count + n) MOST_ACCEPTED rest.1 in
      let fits : h.count + length xs ≤ MOST_ACCEPTED = omega (arith, most, many) in
      let all = taking h.kind h.capacity h.ending h.has_ended h.members none live.0 xs h.count h.kept fits in
      let counted = ap (λ k. h.count + k) many in
      let kept = ap (λ ks. kept_with (replayed h.kind) ks xs) nothing ∙ (kept_nothing (replayed h.kind) xs none ∙ sym nothing) in
      let begun : record h { inbox = [] } ≡ h = λ i. record h { inbox = sym inbox i } in
      let ended : record h { inbox = []; count = h.count + length xs; kept = kept_with (replayed h.kind) h.kept xs } ≡ new = (λ i. record h { inbox = sym inbox i; count = counted i; kept = kept i }) ∙ sym is in
      subst (λ b. AreTakenIn h xs b) ended (subst (λ a. AreTakenIn a xs (record h { inbox = []; count = h.count + length xs; kept = kept_with (replayed h.kind) h.kept xs })) begun all)
