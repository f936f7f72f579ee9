-- What a contract sees of a `Prefetch`.
use Rattle.std.specs.Prelude.{ℕ, ◌≤◌, List, length, refl}
use Rattle.std.specs.Coded.{Coded, code_by, coded×, coded_list, coded_ℕ}
use Rattle.rsx_demand.specs.declared.TheConstants.{UNBOUNDED}
use Rattle.rsx_prefetch.specs.declared.TheConstants.{LARGEST}

-- the items from the front to the back, how many there may be, and how many were taken so far
pub record Queue (X : Type 0) : Type 0 where
  pub items : List X
  pub capacity : ℕ
  pub taken : ℕ

module _ {X : Type 0} where
  abbrev pub queue : List X → ℕ → ℕ → Queue X
  queue xs p t = record { items = xs; capacity = p; taken = t }

  abbrev pub queue_code : Coded X → Coded (Queue X)
  queue_code c =
      code_by (List X × (ℕ × ℕ)) (coded× (coded_list c) (coded× coded_ℕ coded_ℕ))
      (λ q. (q.items, (q.capacity, q.taken))) (λ p. queue p.0 (p.1).0 (p.1).1) (λ _. refl)

  -- what holds of every queue
  pub record IsPrefetch (q : Queue X) : Type 0 where
    pub full_at_most : length q.items ≤ q.capacity
    pub positive : 1 ≤ q.capacity
    pub within : q.capacity ≤ LARGEST
    pub counted : q.taken ≤ UNBOUNDED
