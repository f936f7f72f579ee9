use Rattle.std.proofs.Common.{false, get_or, refl, sym, ap, ◌∙◌, rules, arith}
use Rattle.std.proofs.lemmas.List.{get_or-set_other}
use mathlib.Core.Logic.{dite}
use native.Mathlib.Decide.{ℕ_discrete}
use lib.ListN.{get_elem?}
use Rattle.rsx_link.proofs.PlaceSlots.{emptied, taken_more}
use Rattle.rsx_link.proofs.place_room.take_out.Goals as goal

pub loop-at-preserved : goal.loop-at-preserved
loop-at-preserved g c =
    let at = c.loop-at.at in let before = c.loop-at.invariant in let others = c.take-place.ensures.others in record {
      count = search rules;
      items = search rules;
      full = λ k from to. ap (λ l. get_or l k false) others.1 ∙ get_or-set_other _ at k false false (λ e. absurd (omega arith)) ∙ before.full k (omega arith) (let same = others.2 in omega arith);
      empty = λ k to. ap (λ l. get_or l k false) others.1 ∙ dite (ℕ_discrete k at) (λ e. emptied _ at k e) (λ ne. get_or-set_other _ at k false false ne ∙ before.empty k (omega arith));
      room = search rules;
      left = taken_more _ _ _ _ _ _ _ _ before.left (sym (ap (λ l. get_elem? l at) before.items) ∙ c.take-place.ensures.value) refl c.unless_taken.ensures c.push_reserved.ensures.items;
    }
