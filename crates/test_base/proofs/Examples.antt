-- Worked examples: the definitions at small expressions.
use Rattle.std.proofs.Common.{◌≡◌, ℕ, pos, List, [], ◌∷◌, Some, None, Vec, Global, Box, refl}
use Rattle.rsx_types.specs.Plain.{plain, listed, range_items}
use Rattle.rsx_types.specs.Stream.{Stream}
use Rattle.rsx_types.specs.declared.signal.Cause.TheVariants.{User, Function}
use Rattle.rsx_types.specs.declared.signal.Ending.TheVariants.{Open, Failed}
use Rattle.rsx_types.specs.declared.names.HubId.{HubId}
use Rattle.rsx_types.specs.declared.stage.Stage.TheVariants.{Map, Filter, Take, Scan, Buffer, Distinct}
use Rattle.rsx_types.specs.declared.note.Note.{Note}
use Rattle.rsx_types.specs.declared.note.Note.TheVariants.{Nothing, Picks}
use Rattle.rsx_model.specs.declared.expr.Expr.{Expr}
use Rattle.rsx_model.specs.declared.expr.Expr.TheVariants.{Items, Range, Hub}
use Rattle.rsx_model.specs.declared.expr.Expr.TheViews.{Plain}
use Rattle.rsx_model.specs.Eval.{Environment, environment, eval}
use Rattle.rsx_demo.specs.declared.val.Val.{Val}
use Rattle.rsx_demo.specs.declared.val.Val.TheVariants as is
use Rattle.rsx_demo.specs.Demo.{demo_meaning, list_item}
use Rattle.rsx_model.proofs.Unfold.{value_Items, value_Range, value_Hub, value_Plain}

-- the item of a number
abbrev n : ℕ → Val
n k = is.Int (pos k)

-- the doubles of 1 to 5
doubles : plain demo_meaning (Map 2) (listed (range_items demo_meaning (pos 1) 5)) ≡ listed (n 2 ∷ n 4 ∷ n 6 ∷ n 8 ∷ n 10 ∷ [])
doubles = refl

-- a fault cuts: 2^63-1 has no successor in 64 bits
cut : plain demo_meaning (Map 1) (listed (n 1 ∷ n 9223372036854775807 ∷ n 3 ∷ [])) ≡ record { items = n 2 ∷ []; ending = Failed (Function 1) }
cut = refl

-- the numbers above 0
above : plain demo_meaning (Filter 2) (listed (n 0 ∷ n 7 ∷ [])) ≡ listed (n 7 ∷ [])
above = refl

-- the first two, and then the completion; nothing but the completion of `take 0`, whatever comes
first_two : plain demo_meaning (Take 2) (listed (n 7 ∷ n 8 ∷ n 9 ∷ [])) ≡ listed (n 7 ∷ n 8 ∷ [])
first_two = refl

none_taken : plain demo_meaning (Take 0) (record { items = []; ending = Failed (User 7) }) ≡ listed []
none_taken = refl

-- where the items end before, their ending stays
too_few : plain demo_meaning (Take 2) (record { items = n 7 ∷ []; ending = Open }) ≡ record { items = n 7 ∷ []; ending = Open }
too_few = refl

-- the seed, and then the largest so far
largest : plain demo_meaning (Scan 2 (n 2)) (listed (n 1 ∷ n 5 ∷ n 3 ∷ [])) ≡ listed (n 2 ∷ n 2 ∷ n 5 ∷ n 5 ∷ [])
largest = refl

-- the seed comes before a failure, of the input or of the function
seed_before_failure : plain demo_meaning (Scan 2 (n 100)) (record { items = []; ending = Failed (User 7) }) ≡ record { items = n 100 ∷ []; ending = Failed (User 7) }
seed_before_failure = refl

seed_before_fault : plain demo_meaning (Scan 9 (n 100)) (listed (n 1 ∷ n 2 ∷ [])) ≡ record { items = n 100 ∷ []; ending = Failed (Function 4) }
seed_before_fault = refl

-- lists of two: the started one comes out at the completion, and not at a failure
complete_lists : plain demo_meaning (Buffer 2) (listed (n 1 ∷ n 2 ∷ n 4 ∷ [])) ≡ listed (list_item (n 1 ∷ n 2 ∷ []) ∷ list_item (n 4 ∷ []) ∷ [])
complete_lists = refl

failed_lists : plain demo_meaning (Buffer 2) (record { items = n 1 ∷ n 2 ∷ n 4 ∷ []; ending = Failed (User 7) }) ≡ record { items = list_item (n 1 ∷ n 2 ∷ []) ∷ []; ending = Failed (User 7) }
failed_lists = refl

-- the first number of each remainder by 3
first_seen : plain demo_meaning (Distinct 1) (listed (n 4 ∷ n 1 ∷ n 2 ∷ n 7 ∷ n 3 ∷ n 5 ∷ [])) ≡ listed (n 4 ∷ n 2 ∷ n 3 ∷ [])
first_seen = refl

abbrev noted : List Note → Environment Val
noted ns = environment demo_meaning [] [] ns

-- `map double (range 1 5)`, with a note for each of its two nodes
map_of_range : (b : Box (Expr Val) Global) → b.value ≡ Range (pos 1) 5 → eval (noted (Nothing ∷ Nothing ∷ [])) (Plain (Map 2) b) ≡ Some (listed (n 2 ∷ n 4 ∷ n 6 ∷ n 8 ∷ n 10 ∷ []))
map_of_range b is = rw (value_Plain, is, value_Range) refl

-- a choice at a node that makes none is out of place
choice_in_place_of_nothing : (b : Box (Expr Val) Global) → b.value ≡ Range (pos 1) 5 → eval (noted (Nothing ∷ Picks [] ∷ [])) (Plain (Map 2) b) ≡ None
choice_in_place_of_nothing b is = rw (value_Plain, is, value_Range) refl

-- `items`
list_of_items : (v : Vec Val Global) → eval (noted (Nothing ∷ [])) (Items v) ≡ Some (listed v.items)
list_of_items v = rw value_Items refl

-- ---- hub leaves

-- two hubs: one that took in three items and is open, and one that took in one item and failed
abbrev open_and_failed : List (Stream Val)
open_and_failed = record { items = n 1 ∷ n 2 ∷ n 3 ∷ []; ending = Open } ∷ record { items = n 7 ∷ []; ending = Failed (User 9) } ∷ []

abbrev joined : List ℕ → Environment Val
joined js = environment demo_meaning open_and_failed js (Nothing ∷ [])

-- what the hub took in from the join on
behind_the_join : (h : HubId) → h.0 ≡ 0 → eval (joined (1 ∷ [])) (Hub h) ≡ Some (record { items = n 2 ∷ n 3 ∷ []; ending = Open })
behind_the_join h is = rw (value_Hub, is) refl

-- a join past the last item leaves the ending
past_the_end : (h : HubId) → h.0 ≡ 1 → eval (joined (2 ∷ [])) (Hub h) ≡ Some (record { items = []; ending = Failed (User 9) })
past_the_end h is = rw (value_Hub, is) refl

-- no value without a join, nor of a hub that isn't there
no_join : (h : HubId) → eval (joined []) (Hub h) ≡ None
no_join h = rw value_Hub refl

no_such_hub : (h : HubId) → h.0 ≡ 2 → eval (joined (0 ∷ [])) (Hub h) ≡ None
no_such_hub h is = rw (value_Hub, is) refl
