-- The text of an expression: the line that is it.
use Rattle.std.specs.Prelude.{◌≡◌, ⊤, ℕ, ◌≤◌, ◌<◌, ◌^◌, ℤ, pos, negsuc, Ok, List, [], ◌∷◌, ◌++◌, length, IsSome, codes}
use Rattle.std.specs.List.{flat_map}
use Rattle.std.specs.Fmt.{decimal, signed_decimal}
use Rattle.rsx_types.specs.declared.stage.Stage.{Stage}
use Rattle.rsx_types.specs.declared.stage.Stage.TheVariants.{Map, Filter, Take, Scan, Buffer, Distinct}
use Rattle.rsx_demo.specs.declared.val.Val.{Val}
use Rattle.rsx_demo.specs.declared.val.Val.TheVariants as is
use Rattle.rsx_demo.specs.declared.names.Role.TheVariants as for
use Rattle.rsx_demo.specs.Texts.{item_text}
use Rattle.rsx_script.specs.Commands.{expression_of_line}
use Rattle.rsx_script.specs.Answers.{items_text}
use Rattle.rsx_script.specs.Orders.{Tree, Trees, items, range, hub, plain, concat, merge, merge_delay, zip, latest, group, window, flat, flat_delay, on, on_eager, none, first}
use Rattle.rsx_drive.specs.Names.{name_of, function_text}

-- a plain operator, without its parentheses and its input
abbrev pub stage_text : Stage Val → List ℕ
stage_text (Map f) = codes "map " ++ function_text for.Map f
stage_text (Filter f) = codes "filter " ++ function_text for.Test f
stage_text (Take n) = codes "take " ++ decimal n
stage_text (Scan f s) = codes "scan " ++ (function_text for.Fold f ++ (codes " " ++ item_text s))
stage_text (Buffer n) = codes "buffer " ++ decimal n
stage_text (Distinct f) = codes "distinct " ++ function_text for.Key f

-- the operators of a chain, each in parentheses, with a space between them
abbrev pub stages_text : List (Stage Val) → List ℕ
stages_text [] = []
stages_text (g ∷ gs) = codes "(" ++ (stage_text g ++ (codes ")" ++ flat_map (λ h. codes " (" ++ (stage_text h ++ codes ")")) gs))

-- a chain in its parentheses
abbrev pub chain_text : List (Stage Val) → List ℕ
chain_text gs = codes "(" ++ (stages_text gs ++ codes ")")

-- an expression, and several, each behind a space
abbrev mutual
  pub tree_text : Tree → List ℕ
  tree_text (items vs) = codes "(items" ++ (items_text vs ++ codes ")")
  tree_text (range a n) = codes "(range " ++ (signed_decimal a ++ (codes " " ++ (decimal n ++ codes ")")))
  tree_text (hub h) = codes "(hub " ++ (decimal h ++ codes ")")
  tree_text (plain g t) = codes "(" ++ (stage_text g ++ (codes " " ++ (tree_text t ++ codes ")")))
  tree_text (concat ts) = codes "(concat" ++ (trees_text ts ++ codes ")")
  tree_text (merge p ts) = codes "(merge " ++ (decimal p ++ (trees_text ts ++ codes ")"))
  tree_text (merge_delay p ts) = codes "(mergeDelayError " ++ (decimal p ++ (trees_text ts ++ codes ")"))
  tree_text (zip p ts) = codes "(zip " ++ (decimal p ++ (trees_text ts ++ codes ")"))
  tree_text (latest p ts) = codes "(combineLatest " ++ (decimal p ++ (trees_text ts ++ codes ")"))
  tree_text (group f gs t) = codes "(groupBy " ++ (function_text for.Key f ++ (codes " " ++ (chain_text gs ++ (codes " " ++ (tree_text t ++ codes ")")))))
  tree_text (window n gs t) = codes "(window " ++ (decimal n ++ (codes " " ++ (chain_text gs ++ (codes " " ++ (tree_text t ++ codes ")")))))
  tree_text (flat f c gs t) = codes "(flatMap " ++ (function_text for.Expand f ++ (codes " " ++ (decimal c ++ (codes " " ++ (chain_text gs ++ (codes " " ++ (tree_text t ++ codes ")")))))))
  tree_text (flat_delay f c gs t) = codes "(flatMapDelayError " ++ (function_text for.Expand f ++ (codes " " ++ (decimal c ++ (codes " " ++ (chain_text gs ++ (codes " " ++ (tree_text t ++ codes ")")))))))
  tree_text (on k p t) = codes "(publishOn " ++ (decimal k ++ (codes " " ++ (decimal p ++ (codes " " ++ (tree_text t ++ codes ")")))))
  tree_text (on_eager k p t) = codes "(publishOnEager " ++ (decimal k ++ (codes " " ++ (decimal p ++ (codes " " ++ (tree_text t ++ codes ")")))))

  pub trees_text : Trees → List ℕ
  trees_text none = []
  trees_text (first t ts) = codes " " ++ (tree_text t ++ trees_text ts)

-- ---- which expressions a line can be

-- a number of type i64
abbrev pub IsSmallInt : ℤ → Type 0
IsSmallInt (pos n) = n < 2 ^ 63
IsSmallInt (negsuc n) = n < 2 ^ 63

-- an item that is a number
abbrev pub IsLineItem : Val → Type 0
IsLineItem (is.Int z) = IsSmallInt z
IsLineItem (is.List d) = ⊥

abbrev pub AreLineItems : List Val → Type 0
AreLineItems [] = ⊤
AreLineItems (v ∷ vs) = IsLineItem v × AreLineItems vs

-- its function has a name, and its numbers are of their types
abbrev pub IsLineStage : Stage Val → Type 0
IsLineStage (Map f) = IsSome (name_of for.Map f)
IsLineStage (Filter f) = IsSome (name_of for.Test f)
IsLineStage (Take n) = n < 2 ^ 64
IsLineStage (Scan f s) = IsSome (name_of for.Fold f) × IsLineItem s
IsLineStage (Buffer n) = n < 2 ^ 64
IsLineStage (Distinct f) = IsSome (name_of for.Key f)

abbrev pub AreLineStages : List (Stage Val) → Type 0
AreLineStages [] = ⊤
AreLineStages (g ∷ gs) = IsLineStage g × AreLineStages gs

-- each function has a name, each item is a number, each number is of its type, and an operator of several inputs has one at least
abbrev mutual
  pub IsLine : Tree → Type 0
  IsLine (items vs) = AreLineItems vs
  IsLine (range a n) = IsSmallInt a × (n < 2 ^ 64)
  IsLine (hub h) = h < 2 ^ 32
  IsLine (plain g t) = IsLineStage g × IsLine t
  IsLine (concat ts) = AreLines ts
  IsLine (merge p ts) = (p < 2 ^ 64) × AreLines ts
  IsLine (merge_delay p ts) = (p < 2 ^ 64) × AreLines ts
  IsLine (zip p ts) = (p < 2 ^ 64) × AreLines ts
  IsLine (latest p ts) = (p < 2 ^ 64) × AreLines ts
  IsLine (group f gs t) = IsSome (name_of for.Key f) × AreLineStages gs × IsLine t
  IsLine (window n gs t) = (n < 2 ^ 64) × AreLineStages gs × IsLine t
  IsLine (flat f c gs t) = IsSome (name_of for.Expand f) × (c < 2 ^ 64) × AreLineStages gs × IsLine t
  IsLine (flat_delay f c gs t) = IsSome (name_of for.Expand f) × (c < 2 ^ 64) × AreLineStages gs × IsLine t
  IsLine (on k p t) = (k < 2 ^ 8) × (p < 2 ^ 64) × IsLine t
  IsLine (on_eager k p t) = (k < 2 ^ 8) × (p < 2 ^ 64) × IsLine t

  pub AreLines : Trees → Type 0
  AreLines none = ⊥
  AreLines (first t none) = IsLine t
  AreLines (first t (first u us)) = IsLine t × AreLines (first u us)

-- the line that such an expression is written as asks for that expression, where it isn't too long
abbrev pub ReadsBack : Tree → Type 0
ReadsBack t = IsLine t → length (tree_text t) ≤ 4096 → expression_of_line (tree_text t) ≡ Ok t
