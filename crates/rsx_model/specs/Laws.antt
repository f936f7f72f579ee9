-- What `scan`, `buffer` and `distinct` give, in the words of lists; and that no expression's value fails with a bad
-- request where no hub's value does.
use Rattle.std.specs.Prelude.{◌≡◌, ◌≢◌, ℕ, ◌<◌, ◌≤◌, List, [], ◌∷◌, ◌++◌, length, take, map, fold, nat_eq, if◌then◌else◌, slice_get, Some, None, Result, Ok, Err, MatchResult}
use Rattle.std.specs.List.{All}
use Rattle.std.specs.Result.{result_ok}
use Rattle.std.specs.Set.{is_member}
use Rattle.rsx_values.specs.Prelude.{Function, NonPositiveRequest, Ending, Open, Done, Failed, Scan, Buffer, Distinct, Meaning, plain, Stream}
use Rattle.rsx_model.specs.declared.expr.Expr.{Expr}
use Rattle.rsx_model.specs.Eval.{Environment, eval}

-- ---- scan

-- one more item is folded in, unless there was a fault
abbrev pub folded_in : {T : Type 0} → (T → T → Result T ℕ) → Result T ℕ → T → Result T ℕ
folded_in f (Ok a) x = f a x
folded_in f (Err c) x = Err c

-- the items folded from a seed, or the first fault
abbrev pub folded : {T : Type 0} → (T → T → Result T ℕ) → T → List T → Result T ℕ
folded f s xs = fold (folded_in f) (Ok s) xs

-- the k-th item is the fold of the first k items of the input, where that has no fault; there are no others; and the
-- ending is the input's, or the first fault
pub record ScanFolds {T : Type 0} (m : Meaning T) (f : ℕ) (s : T) (v : Stream T) : Type 0 where
  pub item : (k : ℕ) → k ≤ length v.items → slice_get (plain m (Scan f s) v).items k ≡ result_ok (folded (m.folded f) s (take k v.items))
  pub past : (k : ℕ) → length v.items < k → slice_get (plain m (Scan f s) v).items k ≡ None
  pub ending : MatchResult (folded (m.folded f) s v.items) (λ y. (plain m (Scan f s) v).ending ≡ v.ending) (λ c. (plain m (Scan f s) v).ending ≡ Failed (Function c))

-- ---- buffer

-- the items of these lists, one list after the other
abbrev pub joined : {T : Type 0} → List (List T) → List T
joined [] = []
joined (l ∷ ls) = l ++ joined ls

-- a list cut into lists of n, and a rest that is shorter
pub record IsCut {T : Type 0} (n : ℕ) (xs : List T) (lists : List (List T)) (rest : List T) : Type 0 where
  pub whole : xs ≡ joined lists ++ rest
  pub full : All (λ l. length l ≡ n) lists
  pub short : length rest < n

-- the lists that come out: the full ones, and at a completion the rest, if there is one
abbrev pub given_lists : {T : Type 0} → List (List T) → List T → Ending → List (List T)
given_lists lists [] e = lists
given_lists lists (x ∷ xs) Done = lists ++ (x ∷ xs) ∷ []
given_lists lists (x ∷ xs) Open = lists
given_lists lists (x ∷ xs) (Failed c) = lists

-- the items are these lists, and the ending is the input's
pub record BufferCuts {T : Type 0} (m : Meaning T) (n : ℕ) (v : Stream T) (lists : List (List T)) (rest : List T) : Type 0 where
  pub items : (plain m (Buffer n) v).items ≡ map m.list_of (given_lists lists rest v.ending)
  pub ending : (plain m (Buffer n) v).ending ≡ v.ending

-- ---- distinct

abbrev pub distinct_of : {T : Type 0} → Meaning T → ℕ → List T → Ending → Stream T
distinct_of m f xs e = plain m (Distinct f) (record { items = xs; ending = e })

-- behind items that have these keys, an item stays where none of them is its key; a fault of its key ends the stream
pub record DistinctKeepsFirst {T : Type 0} (m : Meaning T) (f : ℕ) (xs : List T) (keys : List ℕ) (x : T) : Type 0 where
  pub item : (k : ℕ) (e : Ending) → m.keyed f x ≡ Ok k → distinct_of m f (xs ++ x ∷ []) e ≡ record { items = if is_member nat_eq keys k then (distinct_of m f xs e).items else (distinct_of m f xs e).items ++ x ∷ []; ending = e }
  pub fault : (c : ℕ) (more : List T) (e : Ending) → m.keyed f x ≡ Err c → distinct_of m f (xs ++ x ∷ more) e ≡ record { items = (distinct_of m f xs e).items; ending = Failed (Function c) }

-- ---- expressions

-- the value of an expression doesn't end with the failure of a bad request, where no hub's value does
abbrev pub NoBadRequest : {T : Type 0} → Environment T → Expr T → Type 0
NoBadRequest {T} w e = All (λ (v : Stream T). v.ending ≢ Failed NonPositiveRequest) w.hubs → (s : Stream T) → eval w e ≡ Some s → s.ending ≢ Failed NonPositiveRequest
