-- The text of items, of operators and of chains is read as they are.
use Rattle.std.proofs.Common.{◌≡◌, ℕ, zero, suc, ◌+◌, ◌<◌, ◌^◌, ℤ, true, List, [], ◌∷◌, ◌++◌, length, Some, None, Ok, refl, sym, ap, ◌∙◌, arith}
use Rattle.std.specs.Prelude.{codes}
use Rattle.std.specs.Fmt.{decimal, signed_decimal}
use Rattle.rsx_types.specs.declared.stage.Stage.{Stage}
use Rattle.rsx_types.specs.declared.stage.Stage.TheVariants.{Map, Filter, Take, Scan, Buffer, Distinct}
use Rattle.rsx_demo.specs.declared.val.Val.{Val}
use Rattle.rsx_demo.specs.declared.val.Val.TheVariants as is
use Rattle.rsx_demo.specs.declared.names.Role.TheVariants as for
use Rattle.rsx_script.specs.Words.{text, column_of, is_separator}
use Rattle.rsx_script.specs.Numbers.{u64_of, signed_of}
use Rattle.rsx_script.specs.Reading.{Left, left_at, number_at}
use Rattle.rsx_script.specs.Expressions.{stage_at, opened_stage_at, chain_stage_at, stages_at, chain_at, item_at, items_at}
use Rattle.rsx_script.proofs.Runs.{opening_is, closing_is}
use Rattle.rsx_script.proofs.Lists.{items_next}
use Rattle.rsx_drive.specs.Text.{IsSmallInt, AreLineItems, IsLineStage, AreLineStages}
use Rattle.rsx_drive.proofs.Put.{put_items, put_stage, put_rest, stage_name, put_more, put_stages, put_chain}
use Rattle.rsx_drive.proofs.Words.{IsWord, word_of, word_is, space_is, name_is, opened, closed, number_is, function_is, decimal_word, signed_word, unsigned_reads, signed_reads}

-- ---- numbers

pub u64_is : (n end b : ℕ) (r : List ℕ) → n < 2 ^ 64 → is_separator b ≡ true → number_at u64_of (left_at end (32 ∷ (decimal n ++ b ∷ r))) ≡ Ok (n, left_at end (b ∷ r))
u64_is n end b r h s = number_is u64_of end (decimal n) n b r (decimal_word n h) (unsigned_reads 64 n h h) s

-- ---- items

-- one of them, in front of others that are read so
item_is : (z : ℤ) (end b : ℕ) (r : List ℕ) (vs : List Val) (after : Left) → IsSmallInt z → is_separator b ≡ true → items_at (left_at end (b ∷ r)) ≡ Ok (vs, after)
    → items_at (left_at end (32 ∷ (signed_decimal z ++ b ∷ r))) ≡ Ok (is.Int z ∷ vs, after)
unfolding item_at
item_is z end b r vs after h s others =
    items_next (left_at end (32 ∷ (signed_decimal z ++ b ∷ r)))
    ∙ rw (space_is end (signed_decimal z ++ b ∷ r)) (rw (word_is end (signed_decimal z) b r (signed_word z h) s) (rw (signed_reads z h) (rw others refl)))

pub items_are : (vs : List Val) (end : ℕ) (r : List ℕ) → AreLineItems vs → items_at (left_at end (put_items vs (41 ∷ r))) ≡ Ok (vs, left_at end r)
unfolding item_at
items_are [] end r h = items_next (left_at end (41 ∷ r)) ∙ rw (closing_is end r) refl
items_are (is.Int z ∷ []) end r h = item_is z end 41 r [] (left_at end r) h.0 refl (items_are [] end r tt)
items_are (is.Int z ∷ (u ∷ us)) end r h = item_is z end 32 _ (u ∷ us) (left_at end r) h.0 refl (items_are (u ∷ us) end r h.1)
items_are (is.List d ∷ vs) end r h = absurd h.0

-- ---- operators

pub stage_is : (g : Stage Val) (column end b : ℕ) (r : List ℕ) → IsLineStage g → is_separator b ≡ true
    → stage_at column (stage_name g) (left_at end (32 ∷ put_rest g (b ∷ r))) ≡ Ok (g, left_at end (b ∷ r))
unfolding stage_at
stage_is (Map f) column end b r h s = rw (function_is for.Map f end b r h s) refl
stage_is (Filter f) column end b r h s = rw (function_is for.Test f end b r h s) refl
stage_is (Take n) column end b r h s = rw (u64_is n end b r h s) refl
stage_is (Scan f (is.Int z)) column end b r h s =
    rw (function_is for.Fold f end 32 (signed_decimal z ++ b ∷ r) h.0 refl)
    (rw (number_is signed_of end (signed_decimal z) z b r (signed_word z h.1) (signed_reads z h.1) s) refl)
stage_is (Scan f (is.List d)) column end b r h s = absurd h.1
stage_is (Buffer n) column end b r h s = rw (u64_is n end b r h s) refl
stage_is (Distinct f) column end b r h s = rw (function_is for.Key f end b r h s) refl

pub stage_word : (g : Stage Val) → IsWord (stage_name g)
stage_word (Map f) = word_of (codes "map") refl
stage_word (Filter f) = word_of (codes "filter") refl
stage_word (Take n) = word_of (codes "take") refl
stage_word (Scan f s) = word_of (codes "scan") refl
stage_word (Buffer n) = word_of (codes "buffer") refl
stage_word (Distinct f) = word_of (codes "distinct") refl

-- ---- chains

opened_stage_is : (g : Stage Val) (end : ℕ) (r : List ℕ) → IsLineStage g → opened_stage_at (left_at end (put_stage g (41 ∷ r))) ≡ Ok (g, left_at end r)
unfolding opened_stage_at
opened_stage_is g end r h =
    rw (name_is end (stage_name g) 32 (put_rest g (41 ∷ r)) (stage_word g) refl)
    (rw (stage_is g (column_of end (stage_name g ++ 32 ∷ put_rest g (41 ∷ r))) end 41 r h refl) (rw (closed end r) refl))

chain_stage_is : (g : Stage Val) (end : ℕ) (r : List ℕ) → IsLineStage g → chain_stage_at (left_at end (40 ∷ put_stage g (41 ∷ r))) ≡ Ok (Some g, left_at end r)
unfolding chain_stage_at
chain_stage_is g end r h = rw (opening_is end (put_stage g (41 ∷ r))) (rw (opened_stage_is g end r h) refl)

chain_over : (end : ℕ) (r : List ℕ) → chain_stage_at (left_at end (41 ∷ r)) ≡ Ok (None, left_at end r)
unfolding chain_stage_at
chain_over end r = rw (closing_is end r) refl

more_are : (gs : List (Stage Val)) (most end : ℕ) (r : List ℕ) → AreLineStages gs → length gs < most → stages_at most (left_at end (put_more gs (41 ∷ r))) ≡ Ok (gs, left_at end r)
unfolding stages_at
more_are gs zero end r h k = absurd (omega arith)
more_are [] (suc most) end r h k = rw (chain_over end r) refl
more_are (g ∷ gs) (suc most) end r h k =
    rw (space_is end (40 ∷ put_stage g (41 ∷ put_more gs (41 ∷ r))))
    (rw (chain_stage_is g end (put_more gs (41 ∷ r)) h.0) (rw (more_are gs most end r h.1 (omega arith)) refl))

stages_are : (gs : List (Stage Val)) (most end : ℕ) (r : List ℕ) → AreLineStages gs → length gs < most → stages_at most (left_at end (put_stages gs (41 ∷ r))) ≡ Ok (gs, left_at end r)
stages_are [] most end r h k = more_are [] most end r h k
stages_are (g ∷ gs) most end r h k = ap (stages_at most) (sym (space_is end (40 ∷ put_stage g (41 ∷ put_more gs (41 ∷ r))))) ∙ more_are (g ∷ gs) most end r h k

pub chain_is : (gs : List (Stage Val)) (most end : ℕ) (r : List ℕ) → AreLineStages gs → length gs < most → chain_at most (left_at end (32 ∷ put_chain gs r)) ≡ Ok (gs, left_at end r)
unfolding chain_at
chain_is gs most end r h k =
    rw (space_is end (put_chain gs r)) (rw (opened end (put_stages gs (41 ∷ r))) (stages_are gs most end r h k))
