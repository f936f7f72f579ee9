-- Items that go through a concat in one go.
use Rattle.std.proofs.Common.{◌≡◌, ℕ, zero, suc, ◌+◌, true, refl, ap, sym, ◌∙◌, arith}
use Rattle.rsx_demand.specs.Demand.{saturating_total}
use Rattle.rsx_sources.specs.Prelude.{Nothing, Next, Meaning, IsPassed}
use Rattle.rsx_sources.specs.declared.machine.Front.TheVariants.{Item}
use Rattle.rsx_sources.specs.declared.machine.Passed.TheVariants.{Item as ItemOut}
use Rattle.rsx_queued.specs.declared.output.Output.TheVariants.{Waiting}
use Rattle.rsx_merging.specs.declared.concat_node.ConcatNode.{ConcatNode}
use Rattle.rsx_merging.specs.Concat.{concat_comes_out, concat_waiting, concat_takes, concat_popped, concat_ended, concat_done, IsInTurn, after_all_passed, after_passed}
use Rattle.rsx_merging.proofs.Concats.{item_taken}
use Rattle.rsx_merging.proofs.Turns.{takeable, its_turn, item_counts}

-- ---- one item

-- the item x of input i goes through
abbrev pub GoesThroughConcat : {T : Type 0} → Meaning T → ConcatNode T → ℕ → T → ConcatNode T → Type 0
GoesThroughConcat m n i x new = IsPassed (concat_comes_out m) (concat_waiting m) concat_takes concat_popped (λ k. Nothing) IsInTurn concat_ended concat_done n i x (ItemOut x) new

one_sent : (sent before mine : ℕ) → sent + 1 ≡ before + mine → (sent + 1) + 0 ≡ before + mine
one_sent sent before mine e = omega (arith, e)

pub goes_through_concat : {T : Type 0} (m : Meaning T) (n : ConcatNode T) (i : ℕ) (x : T) → concat_takes n i Item ≡ true → GoesThroughConcat m n i x (after_passed n)
goes_through_concat {T} m n i x takes =
    let t = takeable n i Item takes in
    let mid : ConcatNode T = record { endings = n.endings; output = Waiting (Next x); earlier = n.earlier; current = saturating_total n.current 1 } in (
      mid,
      record {
        enabled = takes;
        value = item_taken n.output mid.output n.endings.items i x t.empty refl (its_turn n i takes) t.open_there;
        notes = refl;
        counts = item_counts n mid i x t.empty refl refl refl refl (its_turn n i takes);
        goes_on = refl;
      },
      rw t.empty record {
        waited = refl;
        popped_out = ((refl, refl), refl, refl, refl);
        value = λ inc further. refl;
        notes = refl;
        counts = (refl, λ taken sent c. record { not_over = refl; before = c.before; mine = c.mine; split = c.split; total = one_sent sent c.before c.mine c.total; earlier = c.earlier; current = c.current }, λ j h. h);
      },
    )

-- ---- what is counted of all

counted_twice : (c k : ℕ) → saturating_total (saturating_total c 1) (suc k) ≡ saturating_total c (suc (suc k))
counted_twice c k = omega arith

all_counted : {T : Type 0} (n : ConcatNode T) (k : ℕ) → after_all_passed n (suc k) ≡ record { endings = n.endings; output = n.output; earlier = n.earlier; current = saturating_total n.current (suc k) }
all_counted n zero = refl
all_counted n (suc k) = all_counted (after_passed n) k ∙ ap (λ c. record { endings = n.endings; output = n.output; earlier = n.earlier; current = c }) (counted_twice n.current k)

pub counted_all : {T : Type 0} (n : ConcatNode T) (k : ℕ) → (k ≡ 0 → ⊥) → record { endings = n.endings; output = n.output; earlier = n.earlier; current = saturating_total n.current k } ≡ after_all_passed n k
counted_all n zero some = absurd (some refl)
counted_all n (suc k) some = sym (all_counted n k)
