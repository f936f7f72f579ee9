use Rattle.std.proofs.Common.{◌≡◌, ◌≤◌, ◌++◌, List, [], ◌∷◌, Some, ap, arith, refl, slice_get, subst, sym, ◌∙◌}
use Rattle.std.specs.List.{AllZip}
use Rattle.rsx_gate.specs.Machine.{all_parts}
use Rattle.rsx_gate.specs.Seats.{IsSeatOf}
use Rattle.test_workers.proofs.regions.one_region.Goals as goal

pub returns-in-Ok-clause-first : goal.returns-in-Ok-clause-first
returns-in-Ok-clause-first c =
    let h = c.in-Ok.ensures.ok in
    let one : c.add.new.self.gates.items ≡ h.0 ∷ [] = h.1 ∙ ap (λ l. l ++ h.0 ∷ []) c.new-live.ensures.0 in
    ((h.0, subst (λ gates. slice_get gates 0 ≡ Some h.0) (sym one) refl, h.2.0), ap (λ v. v.parts) h.2.1)

pub returns-in-Ok-clause-only : goal.returns-in-Ok-clause-only
returns-in-Ok-clause-only c =
    let h = c.in-Ok.ensures.ok in
    let one : c.add.new.self.gates.items ≡ h.0 ∷ [] = h.1 ∙ ap (λ l. l ++ h.0 ∷ []) c.new-live.ensures.0 in
    let all : c.in-Ok.seat.me.0.parts ≡ all_parts = ap (λ v. v.parts) h.2.1 in
    let enough : all_parts ≤ c.in-Ok.seat.me.0.parts = omega (arith, all) in
    subst (λ gates. AllZip (λ g s. IsSeatOf g s × (all_parts ≤ s.me.0.parts)) gates (c.in-Ok.seat ∷ [])) (sym one) ((h.2.0, enough), tt)
