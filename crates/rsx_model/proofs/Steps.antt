-- One item of a loop over a stream value: what is out already, and what the definition of an operator gives from there.
use Rattle.std.proofs.Common.{◌≡◌, ℕ, ◌+◌, ◌<◌, ◌≤◌, Bool, true, false, not, nat_eq, nat_le, List, [], ◌∷◌, ◌++◌, length, get_or, drop, append_assoc, append-nil, Result, Ok, Err, refl, sym, ap, ◌∙◌, arith}
use Rattle.std.proofs.lemmas.Bool.Decides.{nat_tests}
use Rattle.std.proofs.lemmas.List.{at_drop_more}
use Rattle.std.specs.Set.{is_member}
use Rattle.std.specs.Prelude.{if◌then◌else◌}
use Rattle.std.proofs.lemmas.Bool.{not-true, not-false}
use Rattle.rsx_types.specs.declared.signal.Ending.{Ending}
use Rattle.rsx_types.specs.declared.signal.Ending.TheVariants.{Done}
use Rattle.rsx_types.specs.Plain.{mapped_items, filtered_items, accumulated_then, scanned_items, last_list, buffered_items, new_key_then, distinct_items}
use Rattle.rsx_types.specs.Stream.{Stream, ended_by, item_then, items_then, answer_then, kept_then, cut_by}

-- ---- what is out, and what is left

-- an item came out
pub item_out : {T : Type 0} (out out' : List T) (y : T) (before after whole : Stream T) → items_then out before ≡ whole → before ≡ item_then y after → out' ≡ out ++ y ∷ [] → items_then out' after ≡ whole
item_out out out' y before after whole i b o =
    rw o (ap (λ l. record { items = l; ending = after.ending }) (append_assoc out (y ∷ []) after.items) ∙ ap (items_then out) (sym b) ∙ i)

-- nothing came out
pub none_out : {T : Type 0} (out : List T) (before after whole : Stream T) → items_then out before ≡ whole → before ≡ after → items_then out after ≡ whole
none_out out before after whole i b = ap (items_then out) (sym b) ∙ i

-- all is out
pub all_out : {T : Type 0} (out : List T) (before whole r : Stream T) (e : Ending) → items_then out before ≡ whole → before ≡ ended_by e → r.items ≡ out → r.ending ≡ e → r ≡ whole
all_out out before whole r e i b p q = same r out e p q ∙ ap (items_then out) (sym b) ∙ i
  where
    same : {T : Type 0} (r : Stream T) (out : List T) (e : Ending) → r.items ≡ out → r.ending ≡ e → r ≡ items_then out (ended_by e)
    same r out e p q = rw (append-nil, ← p, ← q) refl

-- ---- where the items stand

-- the item at an index, and the items behind it
pub item_at : {A B : Type 0} (d : List A → B) (xs : List A) (i : ℕ) (x : A) → i < length xs → x ≡ get_or xs i x → d (drop i xs) ≡ d (x ∷ drop (i + 1) xs)
item_at d xs i x within is = at_drop_more d xs i x within ∙ ap (λ z. d (z ∷ drop (i + 1) xs)) (sym is)

-- ---- one item of an operator

pub mapped_item : {T : Type 0} (f : T → Result T ℕ) (x : T) (r : Result T ℕ) (xs : List T) (e : Ending) → f x ≡ r → mapped_items f (x ∷ xs) e ≡ answer_then r (mapped_items f xs e)
mapped_item f x r xs e h = ap (λ a. answer_then a (mapped_items f xs e)) h

pub filtered_item : {T : Type 0} (p : T → Result Bool ℕ) (x : T) (r : Result Bool ℕ) (xs : List T) (e : Ending) → p x ≡ r → filtered_items p (x ∷ xs) e ≡ kept_then x r (filtered_items p xs e)
filtered_item p x r xs e h = ap (λ a. kept_then x a (filtered_items p xs e)) h

pub scanned_item : {T : Type 0} (f : T → T → Result T ℕ) (a x : T) (r : Result T ℕ) (xs : List T) (e : Ending) → f a x ≡ r → scanned_items f a (x ∷ xs) e ≡ accumulated_then r (λ b. scanned_items f b xs e)
scanned_item f a x r xs e h = ap (λ c. accumulated_then c (λ b. scanned_items f b xs e)) h

-- a list that is full comes out, and the next one begins
pub buffered_full : {T : Type 0} (list : List T → T) (n : ℕ) (started : List T) (x : T) (xs : List T) (e : Ending) → n ≤ length started + 1 → buffered_items list n started (x ∷ xs) e ≡ item_then (list (started ++ x ∷ [])) (buffered_items list n [] xs e)
buffered_full list n started x xs e h =
    let full : nat_le n (length started + 1) ≡ true = grind (arith, nat_tests) in
    ap (λ b. if b then item_then (list (started ++ x ∷ [])) (buffered_items list n [] xs e) else buffered_items list n (started ++ x ∷ []) xs e) full

-- a list that isn't full goes on
pub buffered_more : {T : Type 0} (list : List T → T) (n : ℕ) (started : List T) (x : T) (xs : List T) (e : Ending) → length started + 1 < n → buffered_items list n started (x ∷ xs) e ≡ buffered_items list n (started ++ x ∷ []) xs e
buffered_more list n started x xs e h =
    let short : nat_le n (length started + 1) ≡ false = grind (arith, nat_tests) in
    ap (λ b. if b then item_then (list (started ++ x ∷ [])) (buffered_items list n [] xs e) else buffered_items list n (started ++ x ∷ []) xs e) short

pub last_of_some : {T : Type 0} (list : List T → T) (xs : List T) → 0 < length xs → last_list list xs Done ≡ item_then (list xs) (ended_by Done)
last_of_some list [] h = absurd (omega (arith, h))
last_of_some list (x ∷ xs) h = refl

pub last_of_none : {T : Type 0} (list : List T → T) (xs : List T) (e : Ending) → length xs ≡ 0 → last_list list xs e ≡ ended_by e
last_of_none list [] e h = refl
last_of_none list (x ∷ xs) e h = absurd (omega (arith, h))

abbrev key_or : {T : Type 0} → (T → Result ℕ ℕ) → T → List ℕ → ℕ → List T → Ending → Bool → Stream T
key_or key x seen k xs e b = if b then distinct_items key seen xs e else item_then x (distinct_items key (seen ++ k ∷ []) xs e)

-- the first item of its key comes out
pub distinct_new : {T : Type 0} (key : T → Result ℕ ℕ) (x : T) (seen seen' : List ℕ) (k : ℕ) (xs : List T) (e : Ending) → key x ≡ Ok k → not (is_member nat_eq seen k) ≡ true → seen' ≡ (if is_member nat_eq seen k then seen else seen ++ k ∷ []) → distinct_items key seen (x ∷ xs) e ≡ item_then x (distinct_items key seen' xs e)
distinct_new key x seen seen' k xs e h new now =
    let fresh : is_member nat_eq seen k ≡ false = not-true (is_member nat_eq seen k) new in
    rw now (ap (λ r. new_key_then x r seen (λ known. distinct_items key known xs e)) h ∙ ap (key_or key x seen k xs e) fresh ∙ ap (λ b. item_then x (distinct_items key (if b then seen else seen ++ k ∷ []) xs e)) (sym fresh))

-- a further item of a key is dropped
pub distinct_known : {T : Type 0} (key : T → Result ℕ ℕ) (x : T) (seen seen' : List ℕ) (k : ℕ) (xs : List T) (e : Ending) → key x ≡ Ok k → not (is_member nat_eq seen k) ≡ false → seen' ≡ (if is_member nat_eq seen k then seen else seen ++ k ∷ []) → distinct_items key seen (x ∷ xs) e ≡ distinct_items key seen' xs e
distinct_known key x seen seen' k xs e h old now =
    let known : is_member nat_eq seen k ≡ true = not-false (is_member nat_eq seen k) old in
    rw now (ap (λ r. new_key_then x r seen (λ known. distinct_items key known xs e)) h ∙ ap (key_or key x seen k xs e) known ∙ ap (λ b. distinct_items key (if b then seen else seen ++ k ∷ []) xs e) (sym known))

pub distinct_fault : {T : Type 0} (key : T → Result ℕ ℕ) (x : T) (seen : List ℕ) (c : ℕ) (xs : List T) (e : Ending) → key x ≡ Err c → distinct_items key seen (x ∷ xs) e ≡ cut_by c
distinct_fault key x seen c xs e h = ap (λ r. new_key_then x r seen (λ known. distinct_items key known xs e)) h
