-- The text of an expression in front of further bytes, from right to left, so that it is read from left to right.
use Rattle.std.proofs.Common.{◌≡◌, ℕ, ◌+◌, ◌≤◌, List, [], ◌∷◌, ◌++◌, length, refl, sym, ap, ◌∙◌, append_assoc, arith}
use Rattle.std.specs.Prelude.{codes}
use Rattle.std.specs.Fmt.{decimal, signed_decimal}
use Rattle.std.specs.List.{flat_map}
use Rattle.std.proofs.lemmas.List.{length-append}
use Rattle.rsx_types.specs.declared.stage.Stage.{Stage}
use Rattle.rsx_types.specs.declared.stage.Stage.TheVariants.{Map, Filter, Take, Scan, Buffer, Distinct}
use Rattle.rsx_demo.specs.declared.val.Val.{Val}
use Rattle.rsx_demo.specs.declared.names.Role.TheVariants as for
use Rattle.rsx_demo.specs.Texts.{item_text}
use Rattle.rsx_script.specs.Answers.{items_text}
use Rattle.rsx_script.specs.Orders.{Tree, Trees, items, range, hub, plain, concat, merge, merge_delay, zip, latest, group, window, flat, flat_delay, on, on_eager, none, first}
use Rattle.rsx_drive.specs.Names.{function_text}
use Rattle.rsx_drive.specs.Text.{stage_text, stages_text, chain_text, tree_text, trees_text}

abbrev pub put_items : List Val → List ℕ → List ℕ
put_items [] r = r
put_items (v ∷ vs) r = 32 ∷ (item_text v ++ put_items vs r)

abbrev pub stage_name : Stage Val → List ℕ
stage_name (Map f) = codes "map"
stage_name (Filter f) = codes "filter"
stage_name (Take n) = codes "take"
stage_name (Scan f s) = codes "scan"
stage_name (Buffer n) = codes "buffer"
stage_name (Distinct f) = codes "distinct"

-- what stands behind the name and a space
abbrev pub put_rest : Stage Val → List ℕ → List ℕ
put_rest (Map f) r = function_text for.Map f ++ r
put_rest (Filter f) r = function_text for.Test f ++ r
put_rest (Take n) r = decimal n ++ r
put_rest (Scan f s) r = function_text for.Fold f ++ (32 ∷ (item_text s ++ r))
put_rest (Buffer n) r = decimal n ++ r
put_rest (Distinct f) r = function_text for.Key f ++ r

abbrev pub put_stage : Stage Val → List ℕ → List ℕ
put_stage g r = stage_name g ++ (32 ∷ put_rest g r)

abbrev pub put_more : List (Stage Val) → List ℕ → List ℕ
put_more [] r = r
put_more (g ∷ gs) r = 32 ∷ 40 ∷ put_stage g (41 ∷ put_more gs r)

abbrev pub put_stages : List (Stage Val) → List ℕ → List ℕ
put_stages [] r = r
put_stages (g ∷ gs) r = 40 ∷ put_stage g (41 ∷ put_more gs r)

abbrev pub put_chain : List (Stage Val) → List ℕ → List ℕ
put_chain gs r = 40 ∷ put_stages gs (41 ∷ r)

abbrev mutual
  pub put_tree : Tree → List ℕ → List ℕ
  put_tree (items vs) r = codes "(items" ++ put_items vs (41 ∷ r)
  put_tree (range a n) r = codes "(range " ++ (signed_decimal a ++ (32 ∷ (decimal n ++ (41 ∷ r))))
  put_tree (hub h) r = codes "(hub " ++ (decimal h ++ (41 ∷ r))
  put_tree (plain g t) r = 40 ∷ put_stage g (32 ∷ put_tree t (41 ∷ r))
  put_tree (concat ts) r = codes "(concat" ++ put_trees ts (41 ∷ r)
  put_tree (merge p ts) r = codes "(merge " ++ (decimal p ++ put_trees ts (41 ∷ r))
  put_tree (merge_delay p ts) r = codes "(mergeDelayError " ++ (decimal p ++ put_trees ts (41 ∷ r))
  put_tree (zip p ts) r = codes "(zip " ++ (decimal p ++ put_trees ts (41 ∷ r))
  put_tree (latest p ts) r = codes "(combineLatest " ++ (decimal p ++ put_trees ts (41 ∷ r))
  put_tree (group f gs t) r = codes "(groupBy " ++ (function_text for.Key f ++ (32 ∷ put_chain gs (32 ∷ put_tree t (41 ∷ r))))
  put_tree (window n gs t) r = codes "(window " ++ (decimal n ++ (32 ∷ put_chain gs (32 ∷ put_tree t (41 ∷ r))))
  put_tree (flat f c gs t) r = codes "(flatMap " ++ (function_text for.Expand f ++ (32 ∷ (decimal c ++ (32 ∷ put_chain gs (32 ∷ put_tree t (41 ∷ r))))))
  put_tree (flat_delay f c gs t) r = codes "(flatMapDelayError " ++ (function_text for.Expand f ++ (32 ∷ (decimal c ++ (32 ∷ put_chain gs (32 ∷ put_tree t (41 ∷ r))))))
  put_tree (on k p t) r = codes "(publishOn " ++ (decimal k ++ (32 ∷ (decimal p ++ (32 ∷ put_tree t (41 ∷ r)))))
  put_tree (on_eager k p t) r = codes "(publishOnEager " ++ (decimal k ++ (32 ∷ (decimal p ++ (32 ∷ put_tree t (41 ∷ r)))))

  pub put_trees : Trees → List ℕ → List ℕ
  put_trees none r = r
  put_trees (first t ts) r = 32 ∷ put_tree t (put_trees ts r)

-- ---- it is the text, and then those bytes

items_put : (vs : List Val) (r : List ℕ) → put_items vs r ≡ items_text vs ++ r
items_put [] r = refl
items_put (v ∷ vs) r = ap (λ l. 32 ∷ l) (ap (λ l. item_text v ++ l) (items_put vs r) ∙ sym (append_assoc (item_text v) (items_text vs) r))

stage_put : (g : Stage Val) (r : List ℕ) → put_stage g r ≡ stage_text g ++ r
stage_put (Map f) r = refl
stage_put (Filter f) r = refl
stage_put (Take n) r = refl
stage_put (Scan f s) r = ap (λ l. codes "scan " ++ l) (sym (append_assoc (function_text for.Fold f) (32 ∷ item_text s) r))
stage_put (Buffer n) r = refl
stage_put (Distinct f) r = refl

-- the text of one operator behind the first, in its parentheses
abbrev pub behind_text : Stage Val → List ℕ
behind_text h = codes " (" ++ (stage_text h ++ codes ")")

more_put : (gs : List (Stage Val)) (r : List ℕ) → put_more gs r ≡ flat_map behind_text gs ++ r
more_put [] r = refl
more_put (g ∷ gs) r =
    ap (λ l. 32 ∷ 40 ∷ l) (
    stage_put g (41 ∷ put_more gs r)
    ∙ ap (λ l. stage_text g ++ (41 ∷ l)) (more_put gs r)
    ∙ simp append_assoc)

stages_put : (gs : List (Stage Val)) (r : List ℕ) → put_stages gs r ≡ stages_text gs ++ r
stages_put [] r = refl
stages_put (g ∷ gs) r =
    ap (λ l. 40 ∷ l) (
    stage_put g (41 ∷ put_more gs r)
    ∙ ap (λ l. stage_text g ++ (41 ∷ l)) (more_put gs r)
    ∙ sym (append_assoc (stage_text g) (41 ∷ flat_map behind_text gs) r))

chain_put : (gs : List (Stage Val)) (r : List ℕ) → put_chain gs r ≡ chain_text gs ++ r
chain_put gs r = ap (λ l. 40 ∷ l) (stages_put gs (41 ∷ r) ∙ sym (append_assoc (stages_text gs) (41 ∷ []) r))

-- a word, a part that is put, and then those bytes
two_put : (w a whole r : List ℕ) → whole ≡ a ++ r → w ++ whole ≡ (w ++ a) ++ r
two_put w a whole r h = ap (λ l. w ++ l) h ∙ sym (append_assoc w a r)

closed_put : (t : Tree) (r : List ℕ) → put_tree t (41 ∷ r) ≡ tree_text t ++ (41 ∷ r) → put_tree t (41 ∷ r) ≡ (tree_text t ++ (41 ∷ [])) ++ r
closed_put t r h = h ∙ sym (append_assoc (tree_text t) (41 ∷ []) r)

over_put : (gs : List (Stage Val)) (t : Tree) (r : List ℕ) → put_tree t (41 ∷ r) ≡ tree_text t ++ (41 ∷ r) → 32 ∷ put_chain gs (32 ∷ put_tree t (41 ∷ r)) ≡ (32 ∷ (chain_text gs ++ (32 ∷ (tree_text t ++ (41 ∷ []))))) ++ r
over_put gs t r h = ap (λ l. 32 ∷ l) (chain_put gs (32 ∷ put_tree t (41 ∷ r)) ∙ two_put (chain_text gs) (32 ∷ (tree_text t ++ (41 ∷ []))) _ r (ap (λ l. 32 ∷ l) (closed_put t r h)))

all_put : (ts : Trees) (r : List ℕ) → put_trees ts (41 ∷ r) ≡ trees_text ts ++ (41 ∷ r) → put_trees ts (41 ∷ r) ≡ (trees_text ts ++ (41 ∷ [])) ++ r
all_put ts r h = h ∙ sym (append_assoc (trees_text ts) (41 ∷ []) r)

mutual
  pub tree_put : (t : Tree) (r : List ℕ) → put_tree t r ≡ tree_text t ++ r
  tree_put (items vs) r = ap (λ l. codes "(items" ++ l) (items_put vs (41 ∷ r) ∙ sym (append_assoc (items_text vs) (41 ∷ []) r))
  tree_put (range a n) r = ap (λ l. codes "(range " ++ l) (two_put (signed_decimal a) (32 ∷ (decimal n ++ (41 ∷ []))) _ r (ap (λ l. 32 ∷ l) (sym (append_assoc (decimal n) (41 ∷ []) r))))
  tree_put (hub h) r = ap (λ l. codes "(hub " ++ l) (sym (append_assoc (decimal h) (41 ∷ []) r))
  tree_put (plain g t) r = ap (λ l. 40 ∷ l) (stage_put g (32 ∷ put_tree t (41 ∷ r)) ∙ two_put (stage_text g) (32 ∷ (tree_text t ++ (41 ∷ []))) _ r (ap (λ l. 32 ∷ l) (closed_put t r (tree_put t (41 ∷ r)))))
  tree_put (concat ts) r = ap (λ l. codes "(concat" ++ l) (all_put ts r (trees_put ts (41 ∷ r)))
  tree_put (merge p ts) r = ap (λ l. codes "(merge " ++ l) (two_put (decimal p) (trees_text ts ++ (41 ∷ [])) _ r (all_put ts r (trees_put ts (41 ∷ r))))
  tree_put (merge_delay p ts) r = ap (λ l. codes "(mergeDelayError " ++ l) (two_put (decimal p) (trees_text ts ++ (41 ∷ [])) _ r (all_put ts r (trees_put ts (41 ∷ r))))
  tree_put (zip p ts) r = ap (λ l. codes "(zip " ++ l) (two_put (decimal p) (trees_text ts ++ (41 ∷ [])) _ r (all_put ts r (trees_put ts (41 ∷ r))))
  tree_put (latest p ts) r = ap (λ l. codes "(combineLatest " ++ l) (two_put (decimal p) (trees_text ts ++ (41 ∷ [])) _ r (all_put ts r (trees_put ts (41 ∷ r))))
  tree_put (group f gs t) r = ap (λ l. codes "(groupBy " ++ l) (two_put (function_text for.Key f) (32 ∷ (chain_text gs ++ (32 ∷ (tree_text t ++ (41 ∷ []))))) _ r (over_put gs t r (tree_put t (41 ∷ r))))
  tree_put (window n gs t) r = ap (λ l. codes "(window " ++ l) (two_put (decimal n) (32 ∷ (chain_text gs ++ (32 ∷ (tree_text t ++ (41 ∷ []))))) _ r (over_put gs t r (tree_put t (41 ∷ r))))
  tree_put (flat f c gs t) r = ap (λ l. codes "(flatMap " ++ l) (two_put (function_text for.Expand f) (32 ∷ (decimal c ++ (32 ∷ (chain_text gs ++ (32 ∷ (tree_text t ++ (41 ∷ []))))))) _ r (ap (λ l. 32 ∷ l) (two_put (decimal c) (32 ∷ (chain_text gs ++ (32 ∷ (tree_text t ++ (41 ∷ []))))) _ r (over_put gs t r (tree_put t (41 ∷ r))))))
  tree_put (flat_delay f c gs t) r = ap (λ l. codes "(flatMapDelayError " ++ l) (two_put (function_text for.Expand f) (32 ∷ (decimal c ++ (32 ∷ (chain_text gs ++ (32 ∷ (tree_text t ++ (41 ∷ []))))))) _ r (ap (λ l. 32 ∷ l) (two_put (decimal c) (32 ∷ (chain_text gs ++ (32 ∷ (tree_text t ++ (41 ∷ []))))) _ r (over_put gs t r (tree_put t (41 ∷ r))))))
  tree_put (on k p t) r = ap (λ l. codes "(publishOn " ++ l) (two_put (decimal k) (32 ∷ (decimal p ++ (32 ∷ (tree_text t ++ (41 ∷ []))))) _ r (ap (λ l. 32 ∷ l) (two_put (decimal p) (32 ∷ (tree_text t ++ (41 ∷ []))) _ r (ap (λ l. 32 ∷ l) (closed_put t r (tree_put t (41 ∷ r)))))))
  tree_put (on_eager k p t) r = ap (λ l. codes "(publishOnEager " ++ l) (two_put (decimal k) (32 ∷ (decimal p ++ (32 ∷ (tree_text t ++ (41 ∷ []))))) _ r (ap (λ l. 32 ∷ l) (two_put (decimal p) (32 ∷ (tree_text t ++ (41 ∷ []))) _ r (ap (λ l. 32 ∷ l) (closed_put t r (tree_put t (41 ∷ r)))))))

  trees_put : (ts : Trees) (r : List ℕ) → put_trees ts r ≡ trees_text ts ++ r
  trees_put none r = refl
  trees_put (first t ts) r = ap (λ l. 32 ∷ l) (tree_put t (put_trees ts r) ∙ two_put (tree_text t) (trees_text ts) _ r (trees_put ts r))

-- ---- more bytes than operators

-- how deep reading goes
abbrev mutual
  pub weight : Tree → ℕ
  weight (items vs) = 1
  weight (range a n) = 1
  weight (hub h) = 1
  weight (plain g t) = 1 + weight t
  weight (concat ts) = 1 + weights ts
  weight (merge p ts) = 1 + weights ts
  weight (merge_delay p ts) = 1 + weights ts
  weight (zip p ts) = 1 + weights ts
  weight (latest p ts) = 1 + weights ts
  weight (group f gs t) = 2 + (length gs + weight t)
  weight (window n gs t) = 2 + (length gs + weight t)
  weight (flat f c gs t) = 2 + (length gs + weight t)
  weight (flat_delay f c gs t) = 2 + (length gs + weight t)
  weight (on k p t) = 1 + weight t
  weight (on_eager k p t) = 1 + weight t

  pub weights : Trees → ℕ
  weights none = 0
  weights (first t ts) = 1 + (weight t + weights ts)

behind_len : (w r : List ℕ) → length r ≤ length (w ++ r)
behind_len w r = omega (arith, length-append w r)

rest_len : (g : Stage Val) (r : List ℕ) → length r ≤ length (put_rest g r)
rest_len (Map f) r = behind_len (function_text for.Map f) r
rest_len (Filter f) r = behind_len (function_text for.Test f) r
rest_len (Take n) r = behind_len (decimal n) r
rest_len (Scan f s) r = omega (arith, behind_len (function_text for.Fold f) (32 ∷ (item_text s ++ r)), behind_len (item_text s) r)
rest_len (Buffer n) r = behind_len (decimal n) r
rest_len (Distinct f) r = behind_len (function_text for.Key f) r

stage_len : (g : Stage Val) (r : List ℕ) → length r + 1 ≤ length (put_stage g r)
stage_len g r = omega (arith, behind_len (stage_name g) (32 ∷ put_rest g r), rest_len g r)

more_len : (gs : List (Stage Val)) (r : List ℕ) → length gs + length r ≤ length (put_more gs r)
more_len [] r = omega arith
more_len (g ∷ gs) r = omega (arith, stage_len g (41 ∷ put_more gs r), more_len gs r)

chain_len : (gs : List (Stage Val)) (r : List ℕ) → 2 + (length gs + length r) ≤ length (put_chain gs r)
chain_len [] r = omega arith
chain_len (g ∷ gs) r = omega (arith, stage_len g (41 ∷ put_more gs (41 ∷ r)), more_len gs (41 ∷ r))

items_len : (vs : List Val) (r : List ℕ) → length r ≤ length (put_items vs r)
items_len [] r = omega arith
items_len (v ∷ vs) r = omega (arith, behind_len (item_text v) (put_items vs r), items_len vs r)

mutual
  pub weight_len : (t : Tree) (r : List ℕ) → weight t + length r ≤ length (put_tree t r)
  weight_len (items vs) r = omega (arith, items_len vs (41 ∷ r))
  weight_len (range a n) r = omega (arith, behind_len (signed_decimal a) (32 ∷ (decimal n ++ (41 ∷ r))), behind_len (decimal n) (41 ∷ r))
  weight_len (hub h) r = omega (arith, behind_len (decimal h) (41 ∷ r))
  weight_len (plain g t) r = omega (arith, stage_len g (32 ∷ put_tree t (41 ∷ r)), weight_len t (41 ∷ r))
  weight_len (concat ts) r = omega (arith, weights_len ts (41 ∷ r))
  weight_len (merge p ts) r = omega (arith, behind_len (decimal p) (put_trees ts (41 ∷ r)), weights_len ts (41 ∷ r))
  weight_len (merge_delay p ts) r = omega (arith, behind_len (decimal p) (put_trees ts (41 ∷ r)), weights_len ts (41 ∷ r))
  weight_len (zip p ts) r = omega (arith, behind_len (decimal p) (put_trees ts (41 ∷ r)), weights_len ts (41 ∷ r))
  weight_len (latest p ts) r = omega (arith, behind_len (decimal p) (put_trees ts (41 ∷ r)), weights_len ts (41 ∷ r))
  weight_len (group f gs t) r = omega (arith, behind_len (function_text for.Key f) (32 ∷ put_chain gs (32 ∷ put_tree t (41 ∷ r))), chain_len gs (32 ∷ put_tree t (41 ∷ r)), weight_len t (41 ∷ r))
  weight_len (window n gs t) r = omega (arith, behind_len (decimal n) (32 ∷ put_chain gs (32 ∷ put_tree t (41 ∷ r))), chain_len gs (32 ∷ put_tree t (41 ∷ r)), weight_len t (41 ∷ r))
  weight_len (flat f c gs t) r = omega (arith, behind_len (function_text for.Expand f) (32 ∷ (decimal c ++ (32 ∷ put_chain gs (32 ∷ put_tree t (41 ∷ r))))), behind_len (decimal c) (32 ∷ put_chain gs (32 ∷ put_tree t (41 ∷ r))), chain_len gs (32 ∷ put_tree t (41 ∷ r)), weight_len t (41 ∷ r))
  weight_len (flat_delay f c gs t) r = omega (arith, behind_len (function_text for.Expand f) (32 ∷ (decimal c ++ (32 ∷ put_chain gs (32 ∷ put_tree t (41 ∷ r))))), behind_len (decimal c) (32 ∷ put_chain gs (32 ∷ put_tree t (41 ∷ r))), chain_len gs (32 ∷ put_tree t (41 ∷ r)), weight_len t (41 ∷ r))
  weight_len (on k p t) r = omega (arith, behind_len (decimal k) (32 ∷ (decimal p ++ (32 ∷ put_tree t (41 ∷ r)))), behind_len (decimal p) (32 ∷ put_tree t (41 ∷ r)), weight_len t (41 ∷ r))
  weight_len (on_eager k p t) r = omega (arith, behind_len (decimal k) (32 ∷ (decimal p ++ (32 ∷ put_tree t (41 ∷ r)))), behind_len (decimal p) (32 ∷ put_tree t (41 ∷ r)), weight_len t (41 ∷ r))

  weights_len : (ts : Trees) (r : List ℕ) → weights ts + length r ≤ length (put_trees ts r)
  weights_len none r = omega arith
  weights_len (first t ts) r = omega (arith, weight_len t (put_trees ts r), weights_len ts r)
