use Rattle.std.proofs.Common.{◌≡◌, ◌∙◌, nat_eq, ap, sym, subst}
use Rattle.std.specs.List.{position}
use Rattle.rsx_grouping.specs.Keys.{IsAt, IsGapFor}
use Rattle.rsx_grouping.proofs.FewKeys.{IsFound, is_found}
use Rattle.rsx_grouping.proofs.Index.{found_there, gap_out}
use Rattle.rsx_grouping.proofs.keys.LaneKeys.lane_of.Goals as goal

pub returns-then-len-le-FEW_KEYS-clause-lane : goal.returns-then-len-le-FEW_KEYS-clause-lane
returns-then-len-le-FEW_KEYS-clause-lane c =
    let ks = c.self.inside.keys.items in
    let told : c.look_for.result ≡ position (nat_eq c.args.key) ks = c.look_for.ensures ∙ ap (position (nat_eq c.args.key)) c.as_slice.ensures.value in
    let h : IsFound ks c.args.key c.look_for.result = subst (IsFound ks c.args.key) (sym told) (is_found ks c.args.key) in
    rw (← c.self.view_is) h.0

pub returns-then-len-le-FEW_KEYS-clause-found : goal.returns-then-len-le-FEW_KEYS-clause-found
returns-then-len-le-FEW_KEYS-clause-found c =
    let ks = c.self.inside.keys.items in
    let told : c.look_for.result ≡ position (nat_eq c.args.key) ks = c.look_for.ensures ∙ ap (position (nat_eq c.args.key)) c.as_slice.ensures.value in
    let h : IsFound ks c.args.key c.look_for.result = subst (IsFound ks c.args.key) (sym told) (is_found ks c.args.key) in
    rw (← c.self.view_is) h.1

pub returns-in-Ok-clause-found : goal.returns-in-Ok-clause-found
returns-in-Ok-clause-found c = rw (← c.self.view_is) (sym (found_there _ c.self.inside.sorted.items c.self.invariant c.args.key c.in-Ok.at (subst (λ es. IsAt es c.args.key c.in-Ok.at) c.as_slice-2.ensures.value c.in-Ok.ensures.found)))

pub returns-in-Err-clause-found : goal.returns-in-Err-clause-found
returns-in-Err-clause-found c = rw (← c.self.view_is) (sym (gap_out _ c.self.inside.sorted.items c.self.invariant c.args.key c.in-Err.field-0 (subst (λ es. IsGapFor es c.args.key c.in-Err.field-0) c.as_slice-2.ensures.value c.in-Err.ensures.absent)))
