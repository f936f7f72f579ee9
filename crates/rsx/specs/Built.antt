-- What contracts see of a builder.
use Rattle.std.specs.Prelude.{List, Option}
use Rattle.rsx_types.specs.declared.stage.Stage.{Stage}
use Rattle.rsx_model.specs.declared.expr.Expr.{Expr}
use Rattle.rsx.specs.Flow.{made_of, stages_of}
use Rattle.rsx.specs.declared.flux.Flux.{Flux}
use Rattle.rsx.specs.declared.stages.Stages.{Stages}

-- the expression that was built, or nothing where a growth was refused
abbrev pub built : {T : Type 0} → Flux T → Option (Expr T)
built f = made_of f.expr

-- the operators of the chain that was built, or nothing where a growth was refused
abbrev pub chain : {T : Type 0} → Stages T → Option (List (Stage T))
chain c = stages_of c.stages
