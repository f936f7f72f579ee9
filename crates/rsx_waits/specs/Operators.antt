-- The words for operators.
use Rattle.std.specs.Prelude.{ℕ, List, codes}
use Rattle.rsx_waits.specs.declared.operator.Operator.{Operator}
use Rattle.rsx_waits.specs.declared.operator.Operator.TheVariants as operator

-- the word that a script has for it
abbrev pub operator_text : Operator → List ℕ
operator_text operator.Items = codes "items"
operator_text operator.Range = codes "range"
operator_text operator.Hub = codes "hub"
operator_text operator.Map = codes "map"
operator_text operator.Filter = codes "filter"
operator_text operator.Take = codes "take"
operator_text operator.Scan = codes "scan"
operator_text operator.Buffer = codes "buffer"
operator_text operator.Distinct = codes "distinct"
operator_text operator.Window = codes "window"
operator_text operator.Concat = codes "concat"
operator_text operator.Merge = codes "merge"
operator_text operator.MergeDelay = codes "mergeDelayError"
operator_text operator.Zip = codes "zip"
operator_text operator.CombineLatest = codes "combineLatest"
operator_text operator.GroupBy = codes "groupBy"
operator_text operator.FlatMap = codes "flatMap"
operator_text operator.FlatMapDelay = codes "flatMapDelayError"
operator_text operator.PublishOn = codes "publishOn"
operator_text operator.PublishOnEager = codes "publishOnEager"
operator_text operator.Own = codes "operator"
