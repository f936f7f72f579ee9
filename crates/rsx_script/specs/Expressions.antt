-- Expressions, as they are written. Each stands in parentheses, the name of its operator first.
use Rattle.std.specs.Prelude.{ℕ, zero, suc, ℤ, List, [], ◌∷◌, Option, Some, None, Result, Ok, Err, if◌then◌else◌, codes}
use Rattle.std.specs.Str.{bytes_eq}
use Rattle.std.specs.Option.{ok_or}
use Rattle.rsx_values.specs.Prelude.{Stage, Map, Filter, Take, Scan, Buffer, Distinct}
use Rattle.rsx_demo.specs.declared.val.Val.{Val}
use Rattle.rsx_demo.specs.declared.val.Val.TheVariants as is
use Rattle.rsx_demo.specs.declared.names.Role.{Role}
use Rattle.rsx_demo.specs.declared.names.Role.TheVariants as for
use Rattle.rsx_demo.specs.Names.{number_named}
use Rattle.rsx_script.specs.declared.words.LineRefusal.{LineRefusal}
use Rattle.rsx_script.specs.declared.words.LineRefusal.TheVariants.{Syntax, UnknownName}
use Rattle.rsx_script.specs.Words.{Placed, Written, opening, closing, text, strange, nothing}
use Rattle.rsx_script.specs.Numbers.{u8_of, u32_of, u64_of, signed_of}
use Rattle.rsx_script.specs.Reading.{Left, ◌>>=◌, next_at, opening_at, closing_at, name_at, number_at, is_opening_next}
use Rattle.rsx_script.specs.declared.expression.OneInput.{OneInput}
use Rattle.rsx_script.specs.declared.expression.OneInput.TheVariants as one
use Rattle.rsx_script.specs.Orders.{Tree, Trees, items, range, hub, plain, concat, merge, merge_delay, zip, latest, group, window, flat, flat_delay, on, on_eager, none, first}

-- the name of a function of this use, which has a number
unfoldable pub function_at : Role → Left → Result (ℕ × Left) LineRefusal
function_at role l = do
  name ← name_at l
  number ← ok_or (number_named role name.0.1) (UnknownName name.0.0)
  Ok (number, name.1)

-- what stands behind the name of a plain operator, before its input
abbrev pub with_function : Role → (ℕ → Stage Val) → Left → Result (Stage Val × Left) LineRefusal
with_function role makes l = do
  f ← function_at role l
  Ok (makes f.0, f.1)

abbrev pub with_size : (ℕ → Stage Val) → Left → Result (Stage Val × Left) LineRefusal
with_size makes l = do
  n ← number_at u64_of l
  Ok (makes n.0, n.1)

abbrev pub with_fold : Left → Result (Stage Val × Left) LineRefusal
with_fold l = do
  f ← function_at for.Fold l
  seed ← number_at signed_of f.1
  Ok (Scan f.0 (is.Int seed.0), seed.1)

-- the plain operators; a name that is none of theirs stands at this column
unfoldable pub stage_at : ℕ → List ℕ → Left → Result (Stage Val × Left) LineRefusal
stage_at column name l =
    if bytes_eq name (codes "map") then with_function for.Map Map l
    else (if bytes_eq name (codes "filter") then with_function for.Test Filter l
    else (if bytes_eq name (codes "take") then with_size Take l
    else (if bytes_eq name (codes "scan") then with_fold l
    else (if bytes_eq name (codes "buffer") then with_size Buffer l
    else (if bytes_eq name (codes "distinct") then with_function for.Key Distinct l
    else Err (UnknownName column))))))

-- ---- the operators of a chain, each in its parentheses

-- one of them, behind its opening parenthesis
unfoldable pub opened_stage_at : Left → Result (Stage Val × Left) LineRefusal
opened_stage_at l = do
  name ← name_at l
  g ← stage_at name.0.0 name.0.1 name.1
  rest ← closing_at g.1
  Ok (g.0, rest)

-- one of them, or none at the parenthesis that closes the chain
abbrev pub a_stage : (ℕ × Written) × Left → Result (Option (Stage Val) × Left) LineRefusal
a_stage ((column, opening), rest) = opened_stage_at rest >>= λ g. Ok (Some g.0, g.1)
a_stage ((column, closing), rest) = Ok (None, rest)
a_stage ((column, text word), rest) = Err (Syntax column)
a_stage ((column, strange), rest) = Err (Syntax column)
a_stage ((column, nothing), rest) = Err (Syntax column)

unfoldable pub chain_stage_at : Left → Result (Option (Stage Val) × Left) LineRefusal
chain_stage_at l = next_at l >>= a_stage

-- one of them in front of the others, which are read so
abbrev pub more_stages : (Left → Result (List (Stage Val) × Left) LineRefusal) → Option (Stage Val) × Left → Result (List (Stage Val) × Left) LineRefusal
more_stages read (None, rest) = Ok ([], rest)
more_stages read (Some g, rest) = read rest >>= λ gs. Ok (g ∷ gs.0, gs.1)

-- Those up to the parenthesis that closes the chain. There are less of them than is said here; a line has less of them than bytes.
unfoldable pub stages_at : ℕ → Left → Result (List (Stage Val) × Left) LineRefusal
stages_at zero l = Err (Syntax l.end)
stages_at (suc most) l = chain_stage_at l >>= more_stages (stages_at most)

-- a chain in its parentheses
unfoldable pub chain_at : ℕ → Left → Result (List (Stage Val) × Left) LineRefusal
chain_at most l = opening_at l >>= stages_at most

-- ---- items

-- one number of a list of items, or none at the parenthesis that closes it
abbrev pub an_item : (ℕ × Written) × Left → Result (Option ℤ × Left) LineRefusal
an_item ((column, opening), rest) = Err (Syntax column)
an_item ((column, closing), rest) = Ok (None, rest)
an_item ((column, text word), rest) = ok_or (signed_of word) (Syntax column) >>= λ n. Ok (Some n, rest)
an_item ((column, strange), rest) = Err (Syntax column)
an_item ((column, nothing), rest) = Err (Syntax column)

unfoldable pub item_at : Left → Result (Option ℤ × Left) LineRefusal
item_at l = next_at l >>= an_item

-- a number in front of the others, as items
abbrev pub item_first : ℤ → Result (List Val × Left) LineRefusal → Result (List Val × Left) LineRefusal
item_first n others = others >>= λ vs. Ok (is.Int n ∷ vs.0, vs.1)

-- this word and the items from it on, where those behind it are known
abbrev pub item_in : ℕ → Written → Left → Result (List Val × Left) LineRefusal → Result (List Val × Left) LineRefusal
item_in column opening rest others = Err (Syntax column)
item_in column closing rest others = Ok ([], rest)
item_in column (text word) rest others = ok_or (signed_of word) (Syntax column) >>= λ n. item_first n others
item_in column strange rest others = Err (Syntax column)
item_in column nothing rest others = Err (Syntax column)

-- the items up to the parenthesis that closes the list
abbrev pub items_in : ℕ → List Placed → Result (List Val × Left) LineRefusal
items_in end [] = Err (Syntax end)
items_in end (p ∷ ps) = item_in p.column p.word (record { words = ps; end = end }) (items_in end ps)

unfoldable pub items_at : Left → Result (List Val × Left) LineRefusal
items_at l = items_in l.end l.words

-- One expression or more, up to the parenthesis that closes the list, where each is read so. There are less of them than is
-- said here; a line has less of them than bytes.
unfoldable pub inputs_at : (Left → Result (Tree × Left) LineRefusal) → ℕ → Left → Result (Trees × Left) LineRefusal
inputs_at read zero l = Err (Syntax l.end)
inputs_at read (suc most) l =
    read l >>= λ e.
    if is_opening_next e.1 then (inputs_at read most e.1 >>= λ es. Ok (first e.0 es.0, es.1))
    else (closing_at e.1 >>= λ rest. Ok (first e.0 none, rest))

-- what stands behind the name of an operator, with the parenthesis that closes it; its inputs are read so
abbrev pub of_items : Left → Result (Tree × Left) LineRefusal
of_items l = do
  vs ← items_at l
  Ok (items vs.0, vs.1)

unfoldable pub range_at : Left → Result (Tree × Left) LineRefusal
range_at l = do
  a ← number_at signed_of l
  n ← number_at u64_of a.1
  rest ← closing_at n.1
  Ok (range a.0 n.0, rest)

unfoldable pub hub_at : Left → Result (Tree × Left) LineRefusal
hub_at l = do
  h ← number_at u32_of l
  rest ← closing_at h.1
  Ok (hub h.0, rest)

-- ---- an operator with one input, without that: what it makes of its input

abbrev pub node_over : OneInput → Tree → Tree
node_over (one.Plain g) = plain g
node_over (one.GroupBy f gs) = group f gs.items
node_over (one.Window n gs) = window n gs.items
node_over (one.FlatMap f c gs) = flat f c gs.items
node_over (one.FlatMapDelay f c gs) = flat_delay f c gs.items
node_over (one.PublishOn k p) = on k p
node_over (one.PublishOnEager k p) = on_eager k p

-- a plain operator
abbrev pub of_stage : ℕ → List ℕ → Left → Result ((Tree → Tree) × Left) LineRefusal
of_stage column name l = do
  g ← stage_at column name l
  Ok (plain g.0, g.1)

-- the name of a key function, and a chain
unfoldable pub group_at : ℕ → Left → Result ((Tree → Tree) × Left) LineRefusal
group_at most l = do
  f ← function_at for.Key l
  gs ← chain_at most f.1
  Ok (group f.0 gs.0, gs.1)

-- a size, and a chain
unfoldable pub window_at : ℕ → Left → Result ((Tree → Tree) × Left) LineRefusal
window_at most l = do
  n ← number_at u64_of l
  gs ← chain_at most n.1
  Ok (window n.0 gs.0, gs.1)

-- the name of a function that expands, a concurrency, and a chain
unfoldable pub flat_at : ℕ → Left → Result ((Tree → Tree) × Left) LineRefusal
flat_at most l = do
  f ← function_at for.Expand l
  c ← number_at u64_of f.1
  gs ← chain_at most c.1
  Ok (flat f.0 c.0 gs.0, gs.1)

unfoldable pub flat_delay_at : ℕ → Left → Result ((Tree → Tree) × Left) LineRefusal
flat_delay_at most l = do
  f ← function_at for.Expand l
  c ← number_at u64_of f.1
  gs ← chain_at most c.1
  Ok (flat_delay f.0 c.0 gs.0, gs.1)

-- a worker, and a prefetch
unfoldable pub on_at : Left → Result ((Tree → Tree) × Left) LineRefusal
on_at l = do
  k ← number_at u8_of l
  p ← number_at u64_of k.1
  Ok (on k.0 p.0, p.1)

unfoldable pub on_eager_at : Left → Result ((Tree → Tree) × Left) LineRefusal
on_eager_at l = do
  k ← number_at u8_of l
  p ← number_at u64_of k.1
  Ok (on_eager k.0 p.0, p.1)

-- those of them that aren't plain have these names
unfoldable pub one_input_at : ℕ → ℕ → List ℕ → Left → Result ((Tree → Tree) × Left) LineRefusal
one_input_at most column name l =
    if bytes_eq name (codes "groupBy") then group_at most l
    else (if bytes_eq name (codes "window") then window_at most l
    else (if bytes_eq name (codes "flatMap") then flat_at most l
    else (if bytes_eq name (codes "publishOn") then on_at l
    else (if bytes_eq name (codes "flatMapDelayError") then flat_delay_at most l
    else (if bytes_eq name (codes "publishOnEager") then on_eager_at l
    else of_stage column name l)))))

-- such an operator, and then its input
unfoldable pub over_one_at : (Left → Result (Tree × Left) LineRefusal) → ℕ → ℕ → List ℕ → Left → Result (Tree × Left) LineRefusal
over_one_at read most column name l = do
  operator ← one_input_at most column name l
  e ← read operator.1
  rest ← closing_at e.1
  Ok (operator.0 e.0, rest)

abbrev pub of_inputs : (Trees → Tree) → (Left → Result (Tree × Left) LineRefusal) → ℕ → Left → Result (Tree × Left) LineRefusal
of_inputs makes read most l = do
  es ← inputs_at read most l
  Ok (makes es.0, es.1)

abbrev pub of_prefetch : (ℕ → Trees → Tree) → (Left → Result (Tree × Left) LineRefusal) → ℕ → Left → Result (Tree × Left) LineRefusal
of_prefetch makes read most l = do
  p ← number_at u64_of l
  es ← inputs_at read most p.1
  Ok (makes p.0 es.0, es.1)

-- the operators, those with one input last; a name that is none of theirs stands at this column
unfoldable pub operator_at : (Left → Result (Tree × Left) LineRefusal) → ℕ → ℕ → List ℕ → Left → Result (Tree × Left) LineRefusal
operator_at read most column name l =
    if bytes_eq name (codes "items") then of_items l
    else (if bytes_eq name (codes "range") then range_at l
    else (if bytes_eq name (codes "hub") then hub_at l
    else (if bytes_eq name (codes "concat") then of_inputs concat read most l
    else (if bytes_eq name (codes "merge") then of_prefetch merge read most l
    else (if bytes_eq name (codes "zip") then of_prefetch zip read most l
    else (if bytes_eq name (codes "combineLatest") then of_prefetch latest read most l
    else (if bytes_eq name (codes "mergeDelayError") then of_prefetch merge_delay read most l
    else over_one_at read most column name l)))))))

-- An expression, where less operators stand one in the other than is said first; in a line there are less of them than bytes.
unfoldable pub expression_at : ℕ → Left → Result (Tree × Left) LineRefusal
expression_at zero l = Err (Syntax l.end)
expression_at (suc most) l =
    opening_at l >>= λ inside.
    name_at inside >>= λ name.
    operator_at (expression_at most) most name.0.0 name.0.1 name.1
