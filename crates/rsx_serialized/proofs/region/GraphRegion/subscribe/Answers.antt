use Rattle.std.proofs.Common.{◌≡◌, ◌<◌, arith, length, refl, rules, vec_len}
use Rattle.rsx_serialized.proofs.Closes.{none_left}
use Rattle.rsx_serialized.proofs.Goes.{region_same}
use Rattle.rsx_serialized.proofs.Subscribes.{has_subscribed, removed_first, same_on, subscribed_on}
use Rattle.rsx_serialized.proofs.region.GraphRegion.subscribe.Goals as goal

pub returns-then-is_empty-clause-goes : goal.returns-then-is_empty-clause-goes
returns-then-is_empty-clause-goes g c = λ links ends. region_same links c.args.self.now ends

pub returns-then-is_empty-clause-err : goal.returns-then-is_empty-clause-err
returns-then-is_empty-clause-err g c =
    let none : vec_len c.args.self.now.spare ≡ 0 = search rules in
    let all = c.args.self.now.spare.ok.0 in
    none_left c.args.self.now.spare.items (length c.args.self.now.spare.items) refl (omega (arith, none, all))

pub returns-in-Ok-clause-goes : goal.returns-in-Ok-clause-goes
returns-in-Ok-clause-goes g c =
    let spare = c.args.self.now.spare in
    let some : 0 < vec_len spare = search rules in
    let all = spare.ok.0 in
    let less : 0 < length spare.items = omega (arith, some, all) in
    subscribed_on c.args.expr.now c.args.self.now _ c.remove.result _ c.subscribe.ensures.ops c.in-Ok.ensures.stands c.in-Ok.ensures.missed refl refl refl (removed_first spare.items c.remove.new.self.items c.remove.result less c.remove.ensures.value c.remove.ensures.items)

pub returns-in-Ok-clause-subscribed : goal.returns-in-Ok-clause-subscribed
returns-in-Ok-clause-subscribed g c =
    let spare = c.args.self.now.spare in
    let some : 0 < vec_len spare = search rules in
    let all = spare.ok.0 in
    let less : 0 < length spare.items = omega (arith, some, all) in
    has_subscribed c.args.expr.now c.args.self.now _ c.remove.result _ c.subscribe.ensures.ops c.in-Ok.ensures.stands c.in-Ok.ensures.missed refl refl refl (removed_first spare.items c.remove.new.self.items c.remove.result less c.remove.ensures.value c.remove.ensures.items)

pub returns-in-Err-clause-goes : goal.returns-in-Err-clause-goes
returns-in-Err-clause-goes g c = same_on c.args.self.now _ (record { ops = c.subscribe.ensures.ops; state = c.in-Err.ensures.same; ends = (refl, refl, refl, refl) })

pub returns-in-Err-clause-err : goal.returns-in-Err-clause-err
returns-in-Err-clause-err g c =
    let some : 0 < vec_len c.args.self.now.spare = search rules in
    let all = c.args.self.now.spare.ok.0 in
    (omega (arith, some, all), c.in-Err.ensures.err)
