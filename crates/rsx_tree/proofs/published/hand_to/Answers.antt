use Rattle.std.proofs.Common.{◌≡◌, sym, ◌∙◌, true, Option, Some, None, ℕ, option_map, rules, arith}
use Rattle.std.proofs.lemmas.Bool.Decides.{nat_tests}
use Rattle.rsx_sources.specs.Reading.{Reading, reads_hub, hub_of}
use Rattle.rsx_tree.proofs.Handing.{handed_to}
use Rattle.rsx_tree.proofs.published.hand_to.Goals as goal

pub returns-in-Some-pop : goal.returns-in-Some-pop
returns-in-Some-pop g c s k =
    handed_to g.M.Machine c.args.hub k s c.in-Some-pop.signal c.args.machine.now c.on_published.new.self c.on_published.result c.args.signals.now.items c.pop.new.self.items
    (found (g.M.Machine.reads c.args.machine.now) c.in-Some.number c.args.hub (sym c.hub.ensures ∙ c.in-Some.is) (search rules)) (search rules)
    c.on_published.ensures.ok c.on_published.ensures.made c.on_published.ensures.recorded c.on_published.ensures.counts c.on_published.ensures.refused c.on_published.ensures.alike
  where
    found : (o : Option Reading) (n h : ℕ) → option_map hub_of o ≡ Some n → n ≡ h → reads_hub h o ≡ true
    found None n h e f = cc
    found (Some r) n h e f = let q : r.hub ≡ n = cc in grind (arith, nat_tests, q, f)

pub returns-then-number-hub : goal.returns-then-number-hub
returns-then-number-hub g c = search rules
