use Rattle.std.proofs.Common.{◌≡◌, ℕ, true, false, Option, Some, None, option_map, refl, sym, ◌∙◌, rules, arith}
use Rattle.std.proofs.lemmas.Bool.Decides.{nat_tests}
use Rattle.rsx_sources.specs.Reading.{Reading, reads_hub, hub_of}
use Rattle.rsx_rooted.proofs.TakenOff.{node_reads, node_rests}
use Rattle.rsx_rooted.specs.Taking.{spaces_at}
use Rattle.rsx_rooted.proofs.taking.hand_to_node.Goals as goal

found : (o : Option Reading) (n h : ℕ) → option_map hub_of o ≡ Some n → n ≡ h → reads_hub h o ≡ true
found None n h e f = cc
found (Some r) n h e f = let q : r.hub ≡ n = cc in grind (arith, nat_tests, q, f)

other : (o : Option Reading) (n h : ℕ) → option_map hub_of o ≡ Some n → (n ≡ h → ⊥) → reads_hub h o ≡ false
other None n h e f = cc
other (Some r) n h e f = let q : r.hub ≡ n = cc in grind (arith, nat_tests, q, f)

none : (o : Option Reading) (h : ℕ) → option_map hub_of o ≡ None → reads_hub h o ≡ false
none None h e = refl
none (Some r) h e = cc

pub returns-in-Some : goal.returns-in-Some
returns-in-Some g c most =
    node_reads g.N.Machine g.N.Batches.spaces_of c.args.hub c.args.count most c.args.machine.now c.take_in_many.new.self c.args.items.now.items c.take_in_many.new.items.items
    (found (g.N.Machine.reads c.args.machine.now) c.in-Some.number c.args.hub (sym c.hub.ensures ∙ c.in-Some.is) (search rules)) c.take_in_many.ensures

pub returns-else-number-hub : goal.returns-else-number-hub
returns-else-number-hub g c most =
    node_rests g.N.Machine c.args.hub c.args.count (spaces_at g.N.Machine g.N.Batches.spaces_of c.args.hub most c.args.machine.now) c.args.machine.now c.args.items.now.items
    (other (g.N.Machine.reads c.args.machine.now) c.in-Some.number c.args.hub (sym c.hub.ensures ∙ c.in-Some.is) (search rules))

pub returns : goal.returns
returns g c most =
    node_rests g.N.Machine c.args.hub c.args.count (spaces_at g.N.Machine g.N.Batches.spaces_of c.args.hub most c.args.machine.now) c.args.machine.now c.args.items.now.items
    (none (g.N.Machine.reads c.args.machine.now) c.args.hub (sym c.hub.ensures ∙ search rules))
