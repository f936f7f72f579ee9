-- What a tap asked for stays passed on where a signal is sent to it.
use Rattle.std.proofs.Common.{◌≡◌, inl, inr, ℕ, ◌+◌, ◌-◌, ◌≤◌, min, Bool, true, false, cond, List, [], ◌∷◌, ◌++◌, ap, sym, ◌∙◌, subst, arith}
use Rattle.rsx_demand.specs.declared.TheConstants.{UNBOUNDED}
use Rattle.rsx_link.specs.Ends.{carried_up, free_slots, items_sent, seen_total, sent_signals, up_steps}
use Rattle.rsx_link.specs.Signals.{is_item, items_in}
use Rattle.rsx_link.specs.Steps.{seen_of}
use Rattle.rsx_types.specs.declared.signal.Signal.{Signal}
use Rattle.rsx_serialized.specs.Ends.{IsPassedOn}
use Rattle.rsx_serialized.specs.declared.ends.ToTap.{ToTap}

most_one : (b : Bool) → cond b 1 0 ≤ 1
most_one true = omega arith
most_one false = omega arith

-- an item more takes a place of the queue, and so does an ending
still_full : (was free asked carried before items more : ℕ) → was ≤ asked - (carried + items) + 1 → was ≡ free + 1 → before ≡ carried → more ≤ items + 1 → free ≤ asked - (before + more) + 1
still_full was free asked carried before items more h place same le = omega (arith, h, place, same, le)

module _ {T : Type 0} where
  one_more : (ss : List (Signal T)) (s : Signal T) → items_in (ss ++ s ∷ []) ≤ items_in ss + 1
  one_more [] s = let h = most_one (is_item s) in omega (arith, h)
  one_more (x ∷ xs) s = let h = one_more xs s in omega (arith, h)

  pub sent_passed : (old new : ToTap T) (s : Signal T) → new.asked ≡ old.asked → up_steps new.up ≡ up_steps old.up → carried_up new.up ≡ carried_up old.up → sent_signals new.up ≡ sent_signals old.up ++ s ∷ [] → free_slots old.up ≡ free_slots new.up + 1 → IsPassedOn old → IsPassedOn new
  sent_passed old new s asked steps carried sent place h =
      let seen : min UNBOUNDED (seen_total old.up) ≡ min UNBOUNDED (seen_total new.up) = ap (λ ss. min UNBOUNDED (seen_of ss)) (sym steps) in
      let more : items_in (sent_signals new.up) ≤ items_in (sent_signals old.up) + 1 = subst (λ (l : List (Signal T)). items_in l ≤ items_in (sent_signals old.up) + 1) (sym sent) (one_more (sent_signals old.up) s) in
      record {
        most = subst (λ (n : ℕ). n ≤ min UNBOUNDED (seen_total new.up)) (sym asked) (subst (λ (n : ℕ). old.asked ≤ n) seen h.most);
        rest = elim h.rest [
          | inl all ↦ inl (asked ∙ (all ∙ seen))
          | inr full ↦ inr (subst (λ (n : ℕ). free_slots new.up ≤ n - items_sent new.up + 1) (sym asked)
              (still_full (free_slots old.up) (free_slots new.up) old.asked (carried_up old.up) (carried_up new.up) (items_in (sent_signals old.up)) (items_in (sent_signals new.up)) full place carried more))
        ];
      }
