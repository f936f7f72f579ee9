-- Several items of a hub at once: a node of any kind takes in those that its kind takes in.
use Rattle.std.proofs.Common.{ℕ, List}
use Rattle.rsx_hub.specs.Leaf.{LeafState}
use Rattle.rsx_rooted.proofs.HubLeaves.{leaf_machine}
use Rattle.rsx_rooted.specs.Taking.{IsItemTaken, IsTakenOff}
use Rattle.rsx_tree.specs.Runs.{Leads}
use Rattle.rsx_tree.proofs.Runs.{leads_lift}
use Rattle.rsx_kinds.specs.Any.{kind_machine}
use Rattle.rsx_kinds.specs.declared.any_node.AnyNode.TheVariants.{Source}
use Rattle.rsx_kinds.specs.declared.source_node.SourceNode.{SourceNode}
use Rattle.rsx_kinds.specs.declared.source_node.SourceNode.TheVariants.{Hub}
use Rattle.rsx_kinds.proofs.Batched.{source_machine}

hub_item : {T : Type 0} (s t : LeafState T) (x : T) → IsItemTaken leaf_machine s x t → IsItemTaken source_machine (Hub s) x (Hub t)
hub_item s t x h =
    let k = h.taken in
    record {
      room = h.room;
      taken = record {
        on = record { reading = k.on.reading; read = k.on.read; reads_on = k.on.reads_on; value = k.on.value };
        recorded = k.recorded;
        counts = record { stays_ended = k.counts.stays_ended; counts = k.counts.counts; stays_done = k.counts.stays_done };
        calls = k.calls;
        heard = k.heard;
      };
    }

pub hub_taken : {T : Type 0} (count spaces : ℕ) (old new : List T) (s t : LeafState T) →
    IsTakenOff count spaces old new (λ xs. Leads (IsItemTaken leaf_machine) s xs t) → IsTakenOff count spaces old new (λ xs. Leads (IsItemTaken source_machine) (Hub s) xs (Hub t))
hub_taken count spaces old new s t h before xs all len fits =
    let here = h before xs all len fits in
    (leads_lift (IsItemTaken leaf_machine) (IsItemTaken source_machine) Hub hub_item s t xs here.0, here.1)

source_item : {T : Type 0} (s t : SourceNode T) (x : T) → IsItemTaken source_machine s x t → IsItemTaken kind_machine (Source s) x (Source t)
source_item s t x h =
    let k = h.taken in
    record {
      room = h.room;
      taken = record {
        on = record { reading = k.on.reading; read = k.on.read; reads_on = k.on.reads_on; value = k.on.value };
        recorded = k.recorded;
        counts = record { stays_ended = k.counts.stays_ended; counts = k.counts.counts; stays_done = k.counts.stays_done };
        calls = k.calls;
        heard = k.heard;
      };
    }

pub source_taken : {T : Type 0} (count spaces : ℕ) (old new : List T) (s t : SourceNode T) →
    IsTakenOff count spaces old new (λ xs. Leads (IsItemTaken source_machine) s xs t) → IsTakenOff count spaces old new (λ xs. Leads (IsItemTaken kind_machine) (Source s) xs (Source t))
source_taken count spaces old new s t h before xs all len fits =
    let here = h before xs all len fits in
    (leads_lift (IsItemTaken source_machine) (IsItemTaken kind_machine) Source source_item s t xs here.0, here.1)
