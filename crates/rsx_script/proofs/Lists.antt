-- Items and inputs, one behind the other, as a loop reads them.
use Rattle.std.proofs.Common.{◌≡◌, ℕ, zero, suc, ℤ, ◌+◌, ◌-◌, ◌<◌, true, false, cond, List, [], ◌∷◌, ◌++◌, Option, Some, None, Result, Ok, Err, refl, sym, ap, ◌∙◌, append_assoc, arith}
use Rattle.std.specs.Option.{ok_or}
use Rattle.std.proofs.lemmas.List.{append-nil}
use Rattle.rsx_demo.specs.declared.val.Val.{Val}
use Rattle.rsx_demo.specs.declared.val.Val.TheVariants as is
use Rattle.rsx_script.specs.declared.words.LineRefusal.{LineRefusal}
use Rattle.rsx_script.specs.declared.words.LineRefusal.TheVariants.{Syntax}
use Rattle.rsx_script.specs.Words.{Placed, Written, opening, closing, text, strange, nothing}
use Rattle.rsx_script.specs.Numbers.{signed_of}
use Rattle.rsx_script.specs.Reading.{Left, ◌>>=◌, next_at, next_in, word_in, is_opening_next, closing_at}
use Rattle.rsx_script.specs.Orders.{Tree, Trees, none, first, trees_of}
use Rattle.rsx_script.specs.Expressions.{item_at, an_item, items_at, items_in, item_first, inputs_at}

-- the items from the next word on
abbrev pub items_then : Option ℤ × Left → Result (List Val × Left) LineRefusal
items_then (None, l) = Ok ([], l)
items_then (Some n, l) = item_first n (items_at l)

of_number : (o : Option ℤ) (column : ℕ) (l : Left) → (ok_or o (Syntax column) >>= λ n. item_first n (items_at l)) ≡ ((ok_or o (Syntax column) >>= λ n. Ok (Some n, l)) >>= items_then)
of_number (Some n) column l = refl
of_number None column l = refl

of_word : (w : Written) (column end : ℕ) (ps : List Placed) → items_in end (record { column = column; word = w } ∷ ps) ≡ ((word_in column w (record { words = ps; end = end }) >>= an_item) >>= items_then)
unfolding items_at
of_word opening column end ps = refl
of_word closing column end ps = refl
of_word (text word) column end ps = of_number (signed_of word) column (record { words = ps; end = end })
of_word strange column end ps = refl
of_word nothing column end ps = refl

from_words : (end : ℕ) (ws : List Placed) → items_in end ws ≡ ((next_in end ws >>= an_item) >>= items_then)
from_words end [] = refl
from_words end (p ∷ ps) = of_word p.word p.column end ps

pub items_next : (l : Left) → items_at l ≡ (item_at l >>= items_then)
unfolding items_at item_at next_at
items_next l = from_words l.end l.words

-- ---- behind what was read before

abbrev pub items_behind : List Val → Result (List Val × Left) LineRefusal → Result (List Val × Left) LineRefusal
items_behind front read = read >>= λ x. Ok (front ++ x.0, x.1)

abbrev pub trees_behind : List Tree → Trees → Trees
trees_behind [] ts = ts
trees_behind (u ∷ us) ts = first u (trees_behind us ts)

abbrev pub inputs_behind : List Tree → Result (Trees × Left) LineRefusal → Result (Trees × Left) LineRefusal
inputs_behind front read = read >>= λ x. Ok (trees_behind front x.0, x.1)

pub items_refused : (front : List Val) (l : Left) (all : Result (List Val × Left) LineRefusal) (e : LineRefusal) → items_behind front (items_at l) ≡ all → item_at l ≡ Err e → all ≡ Err e
items_refused front l all e so_far h = sym so_far ∙ ap (items_behind front) (items_next l ∙ ap (λ r. r >>= items_then) h)

pub items_done : (front : List Val) (l after : Left) (all : Result (List Val × Left) LineRefusal) → items_behind front (items_at l) ≡ all → item_at l ≡ Ok (None, after) → all ≡ Ok (front, after)
items_done front l after all so_far h =
    sym so_far ∙ ap (items_behind front) (items_next l ∙ ap (λ r. r >>= items_then) h) ∙ ap (λ (vs : List Val). Ok (vs, after)) (append-nil front)

one_item : (front : List Val) (n : ℤ) (read : Result (List Val × Left) LineRefusal) → items_behind front (item_first n read) ≡ items_behind (front ++ is.Int n ∷ []) read
one_item front n (Ok x) = ap (λ (vs : List Val). Ok (vs, x.1)) (simp append_assoc)
one_item front n (Err e) = refl

pub items_more : (front : List Val) (n : ℤ) (l after : Left) (all : Result (List Val × Left) LineRefusal) → items_behind front (items_at l) ≡ all → item_at l ≡ Ok (Some n, after) → items_behind (front ++ is.Int n ∷ []) (items_at after) ≡ all
items_more front n l after all so_far h =
    sym (one_item front n (items_at after)) ∙ (sym (ap (items_behind front) (items_next l ∙ ap (λ r. r >>= items_then) h)) ∙ so_far)

-- ---- inputs, one behind the other

-- the first input is refused
pub inputs_refused : (read : Left → Result (Tree × Left) LineRefusal) (front : List Tree) (k : ℕ) (l : Left) (all : Result (Trees × Left) LineRefusal) (e : LineRefusal) → 0 < k
    → inputs_behind front (inputs_at read k l) ≡ all → read l ≡ Err e → all ≡ Err e
unfolding inputs_at
inputs_refused read front zero l all e some so_far h = absurd (omega arith)
inputs_refused read front (suc k) l all e some so_far h =
    sym so_far ∙ ap (λ r. inputs_behind front (r >>= λ x. cond (is_opening_next x.1) (inputs_at read k x.1 >>= λ es. Ok (first x.0 es.0, es.1)) (closing_at x.1 >>= λ rest. Ok (first x.0 none, rest)))) h

-- what follows one input
inputs_next : (read : Left → Result (Tree × Left) LineRefusal) (front : List Tree) (k : ℕ) (l after : Left) (t : Tree) → 0 < k → read l ≡ Ok (t, after)
    → inputs_behind front (inputs_at read k l) ≡ inputs_behind front (cond (is_opening_next after) (inputs_at read (k - 1) after >>= λ es. Ok (first t es.0, es.1)) (closing_at after >>= λ rest. Ok (first t none, rest)))
unfolding inputs_at
inputs_next read front zero l after t some h = absurd (omega arith)
inputs_next read front (suc k) l after t some h =
    let less : suc k - 1 ≡ k = omega arith in
    rw less (ap (λ r. inputs_behind front (r >>= λ x. cond (is_opening_next x.1) (inputs_at read k x.1 >>= λ es. Ok (first x.0 es.0, es.1)) (closing_at x.1 >>= λ rest. Ok (first x.0 none, rest)))) h)

behind_one : (front : List Tree) (t : Tree) (ts : Trees) → trees_behind front (first t ts) ≡ trees_behind (front ++ t ∷ []) ts
behind_one [] t ts = refl
behind_one (u ∷ us) t ts = ap (first u) (behind_one us t ts)

behind_all : (front : List Tree) → trees_behind front none ≡ trees_of front
behind_all [] = refl
behind_all (u ∷ us) = ap (first u) (behind_all us)

one_tree : (front : List Tree) (t : Tree) (read : Result (Trees × Left) LineRefusal) → inputs_behind front (read >>= λ es. Ok (first t es.0, es.1)) ≡ inputs_behind (front ++ t ∷ []) read
one_tree front t (Ok x) = ap (λ (ts : Trees). Ok (ts, x.1)) (behind_one front t x.0)
one_tree front t (Err e) = refl

pub inputs_more : (read : Left → Result (Tree × Left) LineRefusal) (front : List Tree) (k m : ℕ) (l after : Left) (t : Tree) (all : Result (Trees × Left) LineRefusal) → 0 < k → m + 1 ≡ k
    → inputs_behind front (inputs_at read k l) ≡ all → read l ≡ Ok (t, after) → is_opening_next after ≡ true → inputs_behind (front ++ t ∷ []) (inputs_at read m after) ≡ all
inputs_more read front k m l after t all some one so_far h more =
    let less : k - 1 ≡ m = omega arith in
    let next = inputs_next read front k l after t some h in
    let chosen = ap (λ b. inputs_behind front (cond b (inputs_at read (k - 1) after >>= λ es. Ok (first t es.0, es.1)) (closing_at after >>= λ rest. Ok (first t none, rest)))) more in
    sym (sym so_far ∙ next ∙ chosen ∙ ap (λ j. inputs_behind front (inputs_at read j after >>= λ es. Ok (first t es.0, es.1))) less ∙ one_tree front t (inputs_at read m after))

last_input : (read : Left → Result (Tree × Left) LineRefusal) (front : List Tree) (k : ℕ) (l after : Left) (t : Tree) (all : Result (Trees × Left) LineRefusal) → 0 < k
    → inputs_behind front (inputs_at read k l) ≡ all → read l ≡ Ok (t, after) → is_opening_next after ≡ false → all ≡ inputs_behind front (closing_at after >>= λ rest. Ok (first t none, rest))
last_input read front k l after t all some so_far h no_more =
    sym so_far ∙ inputs_next read front k l after t some h
    ∙ ap (λ b. inputs_behind front (cond b (inputs_at read (k - 1) after >>= λ es. Ok (first t es.0, es.1)) (closing_at after >>= λ rest. Ok (first t none, rest)))) no_more

-- the list isn't closed
pub inputs_open : (read : Left → Result (Tree × Left) LineRefusal) (front : List Tree) (k : ℕ) (l after : Left) (t : Tree) (all : Result (Trees × Left) LineRefusal) (e : LineRefusal) → 0 < k
    → inputs_behind front (inputs_at read k l) ≡ all → read l ≡ Ok (t, after) → is_opening_next after ≡ false → closing_at after ≡ Err e → all ≡ Err e
inputs_open read front k l after t all e some so_far h no_more closes =
    last_input read front k l after t all some so_far h no_more ∙ ap (λ r. inputs_behind front (r >>= λ rest. Ok (first t none, rest))) closes

pub inputs_done : (read : Left → Result (Tree × Left) LineRefusal) (front : List Tree) (k : ℕ) (l after rest : Left) (t : Tree) (all : Result (Trees × Left) LineRefusal) → 0 < k
    → inputs_behind front (inputs_at read k l) ≡ all → read l ≡ Ok (t, after) → is_opening_next after ≡ false → closing_at after ≡ Ok rest → all ≡ Ok (trees_of (front ++ t ∷ []), rest)
inputs_done read front k l after rest t all some so_far h no_more closes =
    last_input read front k l after t all some so_far h no_more ∙ ap (λ r. inputs_behind front (r >>= λ x. Ok (first t none, x))) closes
    ∙ ap (λ (ts : Trees). Ok (ts, rest)) (behind_one front t none ∙ behind_all (front ++ t ∷ []))
