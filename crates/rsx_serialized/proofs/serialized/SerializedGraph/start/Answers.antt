use Rattle.std.proofs.Common.{◌≡◌, arith, subst}
use Rattle.rsx_serialized.specs.Starting.{IsStartedOf, places_in}
use Rattle.rsx_serialized.proofs.Starts.{if_ok}
use Rattle.rsx_serialized.proofs.serialized.SerializedGraph.start.Goals as goal

pub returns-clause-started : goal.returns-clause-started
returns-clause-started g c =
    let none : places_in c.args.graph 0 ≡ 0 = omega arith in
    if_ok c.start_with_places.result (λ s. subst (λ n. IsStartedOf c.args.graph n s) none) c.start_with_places.ensures.started
