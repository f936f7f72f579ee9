-- One more choice of a run that is alone.
use Rattle.std.proofs.Common.{◌≡◌, ℕ, ◌+◌, List, [], ◌∷◌, ◌++◌, length, slice_index_or, slice_set, ap, sym, ◌∙◌, arith}
use Rattle.std.proofs.lemmas.List.{append-nil}
use Rattle.rsx_values.proofs.Records.{one_time}
use Rattle.rsx_values.specs.Record.{times, written}
use Rattle.rsx_values.specs.declared.record.Run.{Run}

one_more : (r : Run) (i : ℕ) → r.input ≡ i → times (r.count + 1) r.input ++ [] ≡ (times r.count r.input ++ []) ++ i ∷ []
one_more r i same =
    append-nil (times (r.count + 1) r.input)
    ∙ (sym (one_time [] r.count r.input)
    ∙ (ap (λ l. l ++ r.input ∷ []) (sym (append-nil (times r.count r.input))) ∙ ap (λ j. (times r.count r.input ++ []) ++ j ∷ []) same))

pub raised : (rs : List Run) (i : ℕ) (r q : Run) → length rs ≡ 1 → r ≡ slice_index_or rs 0 r → q ≡ slice_index_or rs 0 q → q.input ≡ i → written (slice_set rs 0 (record { input = r.input; count = r.count + 1 })) ≡ written rs ++ i ∷ []
raised [] i r q one was here same = absurd (omega (arith, one))
raised (p ∷ []) i r q one was here same = ap (λ z. times (z.count + 1) z.input ++ []) was ∙ one_more p i (ap (λ z. z.input) (sym here) ∙ same)
raised (p ∷ s ∷ rs) i r q one was here same = absurd (omega (arith, one))
