-- Feeds that name the same hubs as before.
use Rattle.std.proofs.Common.{◌≡◌, ℕ, ◌<◌, List, [], ◌∷◌, map, sym, subst}
use Rattle.rsx_graph_state.specs.declared.feed.Feed.{Feed}
use Rattle.rsx_graph_calls.specs.Edits.{NameHubs}

-- as many feeds, each of the same hub: so they do after moves
pub names_kept : {M : Type 0} (n : ℕ) (fs gs : List (Feed M)) → map (λ f. f.hub) gs ≡ map (λ f. f.hub) fs → NameHubs n fs → NameHubs n gs
names_kept n [] [] same h = tt
names_kept n [] (g ∷ gs) same h = cc
names_kept n (f ∷ fs) [] same h = cc
names_kept {M} n (f ∷ fs) (g ∷ gs) same h =
    let here : g.hub ≡ f.hub = cc in
    let rest : map (λ f. f.hub) gs ≡ map (λ f. f.hub) fs = cc in
    let P : ℕ → Type 0 = λ k. k < n in
    (subst P (sym here) h.0, names_kept n fs gs rest h.1)
