-- The value of a node under what it recorded: what its operator gives there, note by note.
use Rattle.std.proofs.Common.{◌≡◌, ℕ, List, Option, Some, None, option_map, option_and_then, refl}
use Rattle.rsx_sources.specs.Prelude.{Note, Nothing, quiet as quiet_at}
use Rattle.rsx_kinds.specs.Prelude.{chosen, picked, quiet}

-- of one that records nothing
pub quiet_value : {A B : Type 0} (f : A → B) (o : Option A) (note : Option Note) → quiet note (option_map f o) ≡ option_and_then (λ k. option_and_then (λ v. quiet_at k (f v)) o) note
quiet_value f None (Some Nothing) = refl
quiet_value f (Some v) (Some Nothing) = refl
quiet_value f o note = refl

-- of one that picks
pub picked_value : {A B : Type 0} (g : List ℕ → A → Option B) (o : Option A) (note : Option Note) →
    chosen note (λ cs. option_and_then (g cs) o) ≡ option_and_then (λ k. option_and_then (λ v. picked k (λ cs. g cs v)) o) note
picked_value g None (Some Nothing) = refl
picked_value g (Some v) (Some Nothing) = refl
picked_value g o note = refl
