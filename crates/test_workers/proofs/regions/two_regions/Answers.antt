use Rattle.std.proofs.Common.{◌≡◌, ◌++◌, [], ◌∷◌, Some, ap, refl, slice_get, subst, sym, ◌∙◌}
use Rattle.test_workers.proofs.regions.two_regions.Goals as goal

pub returns-in-Ok-add-clause-first : goal.returns-in-Ok-add-clause-first
returns-in-Ok-add-clause-first c =
    let h = c.in-Ok.ensures.ok in
    let k = c.in-Ok-add.ensures.ok in
    let one : c.add.new.self.gates.items ≡ h.0 ∷ [] = h.1 ∙ ap (λ l. l ++ h.0 ∷ []) c.new-live.ensures.0 in
    let two : c.add-2.new.self.gates.items ≡ h.0 ∷ k.0 ∷ [] = k.1 ∙ ap (λ l. l ++ k.0 ∷ []) one in
    (h.0, subst (λ gates. slice_get gates 0 ≡ Some h.0) (sym two) refl, h.2.0)

pub returns-in-Ok-add-clause-second : goal.returns-in-Ok-add-clause-second
returns-in-Ok-add-clause-second c =
    let h = c.in-Ok.ensures.ok in
    let k = c.in-Ok-add.ensures.ok in
    let one : c.add.new.self.gates.items ≡ h.0 ∷ [] = h.1 ∙ ap (λ l. l ++ h.0 ∷ []) c.new-live.ensures.0 in
    let two : c.add-2.new.self.gates.items ≡ h.0 ∷ k.0 ∷ [] = k.1 ∙ ap (λ l. l ++ k.0 ∷ []) one in
    (k.0, subst (λ gates. slice_get gates 1 ≡ Some k.0) (sym two) refl, k.2.0)
