-- Feeds whose parts were cut name the same hubs.
use Rattle.std.proofs.Common.{◌≡◌, ◌∙◌, ℕ, List, [], ◌∷◌, map, length, ap, sym}
use Rattle.std.proofs.lemmas.List.{length-map}
use Rattle.rsx_graph.specs.Rows.{NameHubs}
use Rattle.rsx_graph_state.specs.declared.feed.Feed.{Feed}

pub names_kept : {M : Type 0} (n : ℕ) (xs ys : List (Feed M)) → map (λ f. f.hub) xs ≡ map (λ f. f.hub) ys → NameHubs n ys → NameHubs n xs
names_kept n [] ys same named = _
names_kept n (x ∷ xs) [] same named = cc
names_kept n (x ∷ xs) (y ∷ ys) same named =
    let here : x.hub ≡ y.hub = cc in
    let others : map (λ f. f.hub) xs ≡ map (λ f. f.hub) ys = cc in
    (rw here named.0, names_kept n xs ys others named.1)

-- they are as many
pub as_many : {M : Type 0} (xs ys : List (Feed M)) → map (λ f. f.hub) xs ≡ map (λ f. f.hub) ys → length xs ≡ length ys
as_many xs ys same = sym (length-map xs (λ f. f.hub)) ∙ ap length same ∙ length-map ys (λ f. f.hub)
