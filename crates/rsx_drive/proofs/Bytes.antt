-- Where a run stands after a further byte, and at the end of the input.
use Rattle.std.proofs.Common.{◌≡◌, ℕ, suc, ◌+◌, ◌≤◌, ◌<◌, false, List, [], ◌∷◌, ◌++◌, length, Option, refl, sym, ap, subst, ◌∙◌, append_assoc, arith}
use Rattle.std.specs.List.{position_or_len, before_first, after_first}
use Rattle.std.proofs.lemmas.List.{append-nil, length-append, length-take}
use Rattle.rsx_types.proofs.Places.{position_or_len_le}
use Rattle.rsx_script.specs.declared.fault.AppFault.{AppFault}
use Rattle.rsx_script.specs.declared.fault.AppFault.TheVariants.{Line, Io, Memory}
use Rattle.rsx_script.specs.declared.words.LineRefusal.{LineRefusal}
use Rattle.rsx_script.specs.declared.words.LineRefusal.TheVariants.{TooLong, NoMemory}
use Rattle.rsx_tck.specs.Texts.{lines}
use Rattle.rsx_tck.proofs.Lines.{newline, no_line, only_line, some_line}
use Rattle.rsx_tck.proofs.Traces.{IsClean, IsClean-append, clean_step, clean_again, line_and_rest}
use Rattle.rsx_drive.specs.Answered.{Begins, IsCut, IsRefused, IsStopped, Refuses, Writes}
use Rattle.rsx_drive.specs.Taken.{IsAt, Stands}

-- ---- lines

clean_front : (a rest : List ℕ) → IsClean a → length a ≤ position_or_len newline (a ++ rest)
clean_front [] rest h = omega arith
clean_front (c ∷ a) rest h =
    let parts = clean_step (newline c) (position_or_len newline a) (length a) h in
    let one : position_or_len newline ((c ∷ a) ++ rest) ≡ suc (position_or_len newline (a ++ rest)) = clean_again (newline c) (position_or_len newline (a ++ rest)) parts.0 in
    omega (arith, one, clean_front a rest parts.1)

-- a line that goes on is as long as what is known of it
record GoesOn (front all : List ℕ) : Type 0 where
  first : List ℕ
  others : List (List ℕ)
  split : lines all ≡ first ∷ others
  long : length front ≤ length first

goes_on : (a rest : List ℕ) → IsClean a → 0 < length a → GoesOn a (a ++ rest)
goes_on a rest clean lt =
    let n = position_or_len newline (a ++ rest) in
    record {
      first = before_first newline (a ++ rest);
      others = lines (after_first newline (a ++ rest));
      split = some_line (a ++ rest) (omega (arith, length-append a rest));
      long = omega (arith, clean_front a rest clean, length-take n (a ++ rest), position_or_len_le newline (a ++ rest));
    }

one_clean : (b : ℕ) → newline b ≡ false → IsClean (b ∷ [])
one_clean b e = clean_again (newline b) 0 e

-- ---- a further byte

pub line_ends : {S : Type 0} (stands : Stands S) (state after : S) (line : List ℕ) (number : ℕ) (out new taken written : List ℕ) (next : List ℕ) (number' : ℕ) → (at : IsAt stands state line number out taken written) → next ≡ [] → number' ≡ number + 1
    → stands after (at.before ++ line ∷ []) (written ++ new) → IsAt stands after next number' new (taken ++ 10 ∷ []) written
line_ends stands state after line number out new taken written next number' at none more answered = record {
  before = at.before ++ line ∷ [];
  split = λ rest. ap lines (append_assoc taken (10 ∷ []) rest) ∙ at.split (10 ∷ rest) ∙ ap (λ (xs : List (List ℕ)). at.before ++ xs) (line_and_rest line rest at.inner)
      ∙ sym (append_assoc at.before (line ∷ []) (lines rest)) ∙ ap (λ (xs : List ℕ). (at.before ++ line ∷ []) ++ lines (xs ++ rest)) (sym none);
  inner = subst IsClean (sym none) refl;
  counted = omega (arith, more, at.counted, length-append at.before (line ∷ []));
  answered = answered;
}

-- ---- the lines of the whole input

pub ended_lines : {S : Type 0} (stands : Stands S) (state : S) (line : List ℕ) (number : ℕ) (out taken written more : List ℕ) → (at : IsAt stands state line number out taken written) → lines (taken ++ 10 ∷ more) ≡ at.before ++ line ∷ lines more
ended_lines stands state line number out taken written more at = at.split (10 ∷ more) ∙ ap (λ (xs : List (List ℕ)). at.before ++ xs) (line_and_rest line more at.inner)

pub last_lines : {S : Type 0} (stands : Stands S) (state : S) (line : List ℕ) (number : ℕ) (out taken written : List ℕ) → (at : IsAt stands state line number out taken written) → 0 < length line → lines taken ≡ at.before ++ line ∷ []
last_lines stands state line number out taken written at lt =
    ap lines (sym (append-nil taken)) ∙ at.split [] ∙ ap (λ (xs : List ℕ). at.before ++ lines xs) (append-nil line) ∙ ap (λ (xs : List (List ℕ)). at.before ++ xs) (only_line line lt (omega (arith, at.inner)))

pub whole_lines : {S : Type 0} (stands : Stands S) (state : S) (line : List ℕ) (number : ℕ) (out taken written : List ℕ) → (at : IsAt stands state line number out taken written) → line ≡ [] → lines taken ≡ at.before
whole_lines stands state line number out taken written at none =
    ap lines (sym (append-nil taken)) ∙ at.split [] ∙ ap (λ (xs : List ℕ). at.before ++ lines (xs ++ [])) none ∙ ap (λ (xs : List (List ℕ)). at.before ++ xs) no_line ∙ append-nil at.before

-- a byte more than a line may have
pub byte_too_many : {S : Type 0} (stands : Stands S) (refuses : Refuses) (state : S) (line : List ℕ) (number : ℕ) (out taken written : List ℕ) (b : ℕ) (more : List ℕ)
    → ((before : List (List ℕ)) (text first : List ℕ) (others : List (List ℕ)) → 4096 < length first → stands state before text → refuses before text (first ∷ others) TooLong)
    → newline b ≡ false → 4096 ≤ length line → IsAt stands state line number out taken written → IsRefused refuses (lines (taken ++ b ∷ more)) (written ++ out) number TooLong
byte_too_many stands refuses state line number out taken written b more too_long other le at =
    let same : line ++ b ∷ more ≡ (line ++ b ∷ []) ++ more = sym (append_assoc line (b ∷ []) more) in
    let g = goes_on (line ++ b ∷ []) more (IsClean-append line (b ∷ []) at.inner (one_clean b other)) (omega (arith, length-append line (b ∷ []))) in
    record {
      before = at.before;
      others = g.first ∷ g.others;
      split = at.split (b ∷ more) ∙ ap (λ (xs : List ℕ). at.before ++ lines xs) same ∙ ap (λ (xs : List (List ℕ)). at.before ++ xs) g.split;
      counted = at.counted;
      refused = too_long at.before (written ++ out) g.first g.others (omega (arith, g.long, length-append line (b ∷ []))) at.answered;
    }

-- memory is wanted
pub want_of_memory : {S : Type 0} (stands : Stands S) (refuses : Refuses) (state : S) (line : List ℕ) (number : ℕ) (out taken written more : List ℕ)
    → ((before : List (List ℕ)) (text : List ℕ) (others : List (List ℕ)) → stands state before text → refuses before text others NoMemory)
    → IsAt stands state line number out taken written → (n : ℕ) × IsRefused refuses (lines (taken ++ more)) (written ++ out) n NoMemory
want_of_memory stands refuses state line number out taken written more wanting at = (
  number,
  record {
    before = at.before;
    others = lines (line ++ more);
    split = at.split more;
    counted = at.counted;
    refused = wanting at.before (written ++ out) (lines (line ++ more)) at.answered;
  },
)

-- ---- a read or a write that failed

-- of the answers so far only the first ones were written, and no more is
pub cut_off : {S : Type 0} (stands : Stands S) (refuses : Refuses) (state : S) (line : List ℕ) (number : ℕ) (out taken written part none more : List ℕ)
    → ((before : List (List ℕ)) (text : List ℕ) (others : List (List ℕ)) → stands state before text → refuses before text others NoMemory)
    → IsAt stands state line number out taken written → none ≡ [] → Begins part out → IsCut refuses (lines (taken ++ more)) ((written ++ part) ++ none)
cut_off stands refuses state line number out taken written part none more wanting at nothing b =
    let want = want_of_memory stands refuses state line number out taken written more wanting at in
    let end : written ++ part ≡ (written ++ part) ++ none = sym (append-nil (written ++ part)) ∙ ap (λ (xs : List ℕ). (written ++ part) ++ xs) (sym nothing) in
    record {
      whole = written ++ out;
      begun = (b.0, ap (λ (xs : List ℕ). written ++ xs) b.1 ∙ sym (append_assoc written part b.0) ∙ ap (λ (xs : List ℕ). xs ++ b.0) end);
      number = want.0;
      refusal = NoMemory;
      answers = want.1;
    }

pub writing_failed : {S : Type 0} (stands : Stands S) (refuses : Refuses) (state : S) (line : List ℕ) (number : ℕ) (out taken written none more : List ℕ) (a b : Option (List ℕ)) (fault : AppFault)
    → ((before : List (List ℕ)) (text : List ℕ) (others : List (List ℕ)) → stands state before text → refuses before text others NoMemory)
    → IsAt stands state line number out taken written → none ≡ [] → fault ≡ Io → Writes a b (λ text. Begins text out)
    → Writes a b (λ text. IsStopped refuses (lines (taken ++ more)) ((written ++ text) ++ none) fault)
writing_failed stands refuses state line number out taken written none more a b fault wanting at nothing is w =
    let F : AppFault → Type 0 = λ f. IsStopped refuses (lines (taken ++ more)) ((written ++ w.0) ++ none) f in
    (w.0, w.1, subst F (sym is) (cut_off stands refuses state line number out taken written w.0 none more wanting at nothing w.2))

-- all of them were written, but for those that wait
pub reading_failed : {S : Type 0} (stands : Stands S) (refuses : Refuses) (state : S) (line : List ℕ) (number : ℕ) (out taken written more : List ℕ)
    → ((before : List (List ℕ)) (text : List ℕ) (others : List (List ℕ)) → stands state before text → refuses before text others NoMemory)
    → IsAt stands state line number out taken written → IsCut refuses (lines (taken ++ more)) (written ++ out)
reading_failed stands refuses state line number out taken written more wanting at =
    let want = want_of_memory stands refuses state line number out taken written more wanting at in
    record { whole = written ++ out; begun = ([], sym (append-nil (written ++ out))); number = want.0; refusal = NoMemory; answers = want.1 }

cut_sooner : (refuses : Refuses) (all : List (List ℕ)) (text out part : List ℕ) → Begins part out → IsCut refuses all (text ++ out) → IsCut refuses all (text ++ part)
cut_sooner refuses all text out part b cut = record {
  whole = cut.whole;
  begun = (
    b.0 ++ cut.begun.0,
    cut.begun.1 ∙ ap (λ (xs : List ℕ). (text ++ xs) ++ cut.begun.0) b.1 ∙ ap (λ (xs : List ℕ). xs ++ cut.begun.0) (sym (append_assoc text part b.0)) ∙ append_assoc (text ++ part) b.0 cut.begun.0,
  );
  number = cut.number;
  refusal = cut.refusal;
  answers = cut.answers;
}

not_cut : (refuses : Refuses) (all : List (List ℕ)) (text : List ℕ) (number : ℕ) (refusal : LineRefusal) → IsRefused refuses all text number refusal → IsCut refuses all text
not_cut refuses all text number refusal is = record { whole = text; begun = ([], sym (append-nil text)); number = number; refusal = refusal; answers = is }

-- whatever ended the run before
pub cut_at_last : (refuses : Refuses) (all : List (List ℕ)) (text out part : List ℕ) (fault : AppFault) → Begins part out → IsStopped refuses all (text ++ out) fault → IsCut refuses all (text ++ part)
cut_at_last refuses all text out part (Line number refusal) b is = cut_sooner refuses all text out part b (not_cut refuses all (text ++ out) number refusal is)
cut_at_last refuses all text out part Io b is = cut_sooner refuses all text out part b is
cut_at_last refuses all text out part Memory b is = cut_sooner refuses all text out part b (not_cut refuses all (text ++ out) is.0 NoMemory is.1)

-- after the whole input
pub cut_at_end : (refuses : Refuses) (all : List (List ℕ)) (text out part : List ℕ) → Begins part out → refuses all (text ++ out) [] NoMemory → IsCut refuses all (text ++ part)
cut_at_end refuses all text out part b refused =
    let there : IsRefused refuses all (text ++ out) (length all + 1) NoMemory = record { before = all; others = []; split = sym (append-nil all); counted = refl; refused = refused } in
    cut_sooner refuses all text out part b (not_cut refuses all (text ++ out) (length all + 1) NoMemory there)

-- nothing was taken yet
pub at_start : {S : Type 0} (stands : Stands S) (state : S) (line : List ℕ) (number : ℕ) (out : List ℕ) → line ≡ [] → out ≡ [] → number ≡ 1 → stands state [] [] → IsAt stands state line number out [] []
at_start stands state line number out none nothing one answered = record {
  before = [];
  split = λ more. ap (λ (xs : List ℕ). lines (xs ++ more)) (sym none);
  inner = subst IsClean (sym none) refl;
  counted = one;
  answered = subst (λ (xs : List ℕ). stands state [] xs) (sym nothing) answered;
}
