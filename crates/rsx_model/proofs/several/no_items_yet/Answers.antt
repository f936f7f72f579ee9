use Rattle.std.proofs.Common.{◌≡◌, ◌∙◌, ℕ, zero, suc, ◌+◌, ◌<◌, List, [], ◌∷◌, ◌++◌, length, drop, None, refl, sym, ap, append_assoc, append-nil, arith}
use Rattle.std.proofs.lemmas.List.{drop_all}
use Rattle.rsx_values.specs.Prelude.{Stream, none_yet}
use Rattle.rsx_model.proofs.several.no_items_yet.Goals as goal

one_later : {T : Type 0} (vs : List (Stream T)) (i : ℕ) → i < length vs → none_yet (drop i vs) ≡ None ∷ none_yet (drop (suc i) vs)
one_later [] i h = absurd (omega (arith, h))
one_later (v ∷ vs) zero h = refl
one_later (v ∷ vs) (suc i) h = one_later vs i (omega (arith, h))

pub loop-value-init : goal.loop-value-init
loop-value-init g c = rw c.new-latest.ensures.items refl

pub loop-value-preserved : goal.loop-value-preserved
loop-value-preserved g c =
    let i = c.loop-value._value-index in
    let values = c.args.values.now in
    let latest = c.loop-value.latest.items in
    let next : i + 1 ≡ suc i = omega arith in
    ap (λ xs. xs ++ none_yet (drop (i + 1) values)) c.in_ok-push.ensures.items
    ∙ append_assoc latest (None ∷ []) (none_yet (drop (i + 1) values))
    ∙ ap (λ k. latest ++ None ∷ none_yet (drop k values)) next
    ∙ ap (λ ys. latest ++ ys) (sym (one_later values i c.loop-value-test.true))
    ∙ c.loop-value.invariant

pub returns : goal.returns
returns g c =
    let latest = c.loop-value.latest.items in
    sym (append-nil latest)
    ∙ ap (λ vs. latest ++ none_yet vs) (sym (drop_all c.loop-value._value-index c.args.values.now c.loop-value-test.false))
    ∙ c.loop-value.invariant
