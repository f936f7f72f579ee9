-- The words of a line, and what a reader that stands before them finds.
use Rattle.std.proofs.Common.{◌≡◌, ℕ, suc, ◌<◌, Bool, true, false, cond, List, [], ◌∷◌, ◌++◌, length, take, drop, Ok, Err, refl, ap, ◌∙◌, arith}
use Rattle.std.specs.List.{position_or_len, slice_split, onto_first}
use Rattle.std.proofs.lemmas.List.{take_at, drop_at}
use Rattle.std.proofs.lemmas.List.Splits.{slice_split-cons_no, join_with_byte-slice_split}
use Rattle.rsx_tck.specs.Reading.{behind, word_at, ends}
use Rattle.rsx_tck.specs.Texts.{words, bytes_from}
use Rattle.rsx_tck.proofs.Words.{space, IsWord, joined, joined_some, word_again, word_is, place_step, place_again, place-append}

-- no space in any of these
abbrev pub AllSolid : List (List ℕ) → Type 0
AllSolid [] = Unit {0}
AllSolid (w ∷ ws) = (position_or_len space w ≡ length w) × AllSolid ws

abbrev pub AllWords : List (List ℕ) → Type 0
AllWords [] = Unit {0}
AllWords (w ∷ ws) = IsWord w × AllWords ws

solid_step : (t : Bool) (b : ℕ) (parts : List (List ℕ)) → space b ≡ t → AllSolid parts → AllSolid (cond t ([] ∷ parts) (onto_first b parts))
solid_step true b parts e h = (refl, h)
solid_step false b [] e h = (place_again (space b) 0 e, tt)
solid_step false b (p ∷ ps) e h = (place_again (space b) (position_or_len space p) e ∙ ap (λ (n : ℕ). suc n) h.0, h.1)

solid_parts : (bs : List ℕ) → AllSolid (slice_split space bs)
solid_parts [] = (refl, tt)
solid_parts (b ∷ bs) = solid_step (space b) b (slice_split space bs) refl (solid_parts bs)

pub words_solid : (line : List ℕ) → AllSolid (words line)
words_solid [] = tt
words_solid (b ∷ bs) = solid_parts (b ∷ bs)

same_bytes : (parts : List (List ℕ)) → 0 < length (joined parts) → bytes_from parts ≡ joined parts
same_bytes [] lt = absurd (omega arith)
same_bytes ([] ∷ []) lt = absurd (omega arith)
same_bytes ([] ∷ v ∷ vs) lt = refl
same_bytes ((c ∷ w) ∷ ws) lt = refl

-- a line is what stands from its first word on
pub words_line : (line : List ℕ) → bytes_from (words line) ≡ line
words_line [] = refl
words_line (b ∷ bs) =
    let joins : joined (slice_split space (b ∷ bs)) ≡ b ∷ bs = join_with_byte-slice_split 32 (b ∷ bs) in
    same_bytes (slice_split space (b ∷ bs)) (omega (arith, ap (λ (x : List ℕ). length x) joins)) ∙ joins

split_none : (w : List ℕ) → position_or_len space w ≡ length w → slice_split space w ≡ w ∷ []
split_none [] e = refl
split_none (b ∷ w) e =
    let parts = place_step (space b) (position_or_len space w) (length w) e in
    slice_split-cons_no space b w parts.0 ∙ ap (λ (ps : List (List ℕ)). onto_first b ps) (split_none w parts.1)

split_at : (w rest : List ℕ) → position_or_len space w ≡ length w → slice_split space (w ++ 32 ∷ rest) ≡ w ∷ slice_split space rest
split_at [] rest e = refl
split_at (b ∷ w) rest e =
    let parts = place_step (space b) (position_or_len space w) (length w) e in
    slice_split-cons_no space b (w ++ 32 ∷ rest) parts.0 ∙ ap (λ (ps : List (List ℕ)). onto_first b ps) (split_at w rest parts.1)

split_joined : (w : List ℕ) (ws : List (List ℕ)) → AllWords (w ∷ ws) → slice_split space (joined (w ∷ ws)) ≡ w ∷ ws
split_joined w [] h = split_none w h.0.solid
split_joined w (v ∷ vs) h = split_at w (joined (v ∷ vs)) h.0.solid ∙ ap (λ (ps : List (List ℕ)). w ∷ ps) (split_joined v vs h.1)

words_split : (bs : List ℕ) → 0 < length bs → words bs ≡ slice_split space bs
words_split [] lt = absurd (omega arith)
words_split (b ∷ bs) lt = refl

-- words that are joined are the words of that line
pub words_joined : (w : List ℕ) (ws : List (List ℕ)) → AllWords (w ∷ ws) → words (joined (w ∷ ws)) ≡ w ∷ ws
words_joined w ws h = words_split (joined (w ∷ ws)) (joined_some w ws h.0.some) ∙ split_joined w ws h

-- ---- what a reader finds

pub word_missing : word_at (bytes_from []) ≡ Err 0
unfolding word_at
word_missing = refl

pub word_empty : (ws : List (List ℕ)) → word_at (bytes_from ([] ∷ ws)) ≡ Err (length (bytes_from ([] ∷ ws)))
unfolding word_at
word_empty [] = refl
word_empty (v ∷ vs) = refl

word_then : (w rest : List ℕ) → IsWord w → word_at (w ++ 32 ∷ rest) ≡ Ok (w, behind (32 ∷ rest))
word_then w rest h =
    let front : take (length w) (w ++ 32 ∷ rest) ≡ w = take_at w (32 ∷ rest) (length w) refl in
    let back : drop (length w) (w ++ 32 ∷ rest) ≡ 32 ∷ rest = drop_at w (32 ∷ rest) (length w) refl in
    word_is (w ++ 32 ∷ rest) (length w) (place-append w rest h.solid) h.some
    ∙ ap (λ (x : List ℕ). Ok (x, behind (drop (length w) (w ++ 32 ∷ rest)))) front
    ∙ ap (λ (x : List ℕ). Ok (w, behind x)) back

pub word_first : (w : List ℕ) (ws : List (List ℕ)) → IsWord w → word_at (bytes_from (w ∷ ws)) ≡ Ok (w, bytes_from ws)
word_first [] ws h = absurd (omega (arith, h.some))
word_first (c ∷ w) [] h = word_again (c ∷ w) [] h tt
word_first (c ∷ w) ([] ∷ []) h = word_then (c ∷ w) [] h
word_first (c ∷ w) ((d ∷ v) ∷ []) h = word_then (c ∷ w) (d ∷ v) h
word_first (c ∷ w) ([] ∷ u ∷ us) h = word_then (c ∷ w) (32 ∷ joined (u ∷ us)) h
word_first (c ∷ w) ((d ∷ v) ∷ u ∷ us) h = word_then (c ∷ w) ((d ∷ v) ++ 32 ∷ joined (u ∷ us)) h

pub ends_wrong_at : {A : Type 0} (w : List ℕ) (ws : List (List ℕ)) (x : A) → ends (bytes_from (w ∷ ws)) x ≡ Err (length (bytes_from (w ∷ ws)))
unfolding ends
ends_wrong_at [] [] x = refl
ends_wrong_at [] (v ∷ vs) x = refl
ends_wrong_at (c ∷ w) [] x = refl
ends_wrong_at (c ∷ w) (v ∷ vs) x = refl
