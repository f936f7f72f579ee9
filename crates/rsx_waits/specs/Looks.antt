-- The words for what the nodes of a tree do.
use Rattle.std.specs.Prelude.{ℕ, ◌+◌, List, [], ◌∷◌, ◌++◌, Option, Some, None, codes}
use Rattle.std.specs.Fmt.{decimal}
use Rattle.rsx_waits.specs.declared.look.EdgeLook.{EdgeLook}
use Rattle.rsx_waits.specs.declared.look.EdgeLook.TheVariants as edge
use Rattle.rsx_waits.specs.declared.look.NodeLook.{NodeLook}
use Rattle.rsx_waits.specs.declared.look.Offer.{Offer}
use Rattle.rsx_waits.specs.declared.look.Offer.TheVariants as offer
use Rattle.rsx_waits.specs.declared.look.Recorded.{Recorded}
use Rattle.rsx_waits.specs.declared.look.Recorded.TheVariants as recorded
use Rattle.rsx_waits.specs.declared.operator.Operator.{Operator}
use Rattle.rsx_waits.specs.Operators.{operator_text}

-- the number of a node with its operator, and the number of its receiver, where it has one
abbrev pub head_text : ℕ → Operator → Option ℕ → List ℕ
head_text node operator None = codes " | " ++ (decimal node ++ (codes " " ++ operator_text operator))
head_text node operator (Some receiver) = codes " | " ++ (decimal node ++ (codes " " ++ (operator_text operator ++ (codes " to " ++ decimal receiver))))

-- whether signals still go over its edge
abbrev pub edge_text : EdgeLook → List ℕ
edge_text edge.Live = codes ", live"
edge_text edge.Ended = codes ", ended"
edge_text edge.Closed = codes ", closed"

-- how many signals wait in the queue of its edge, where that crosses
abbrev pub crossing_text : Option ℕ → List ℕ
crossing_text None = []
crossing_text (Some count) = codes ", " ++ (decimal count ++ codes " crossing")

-- how many signals that came over its edge wait in its receiver's queue, where that has one
abbrev pub queued_text : Option ℕ → List ℕ
queued_text None = []
queued_text (Some count) = codes ", " ++ (decimal count ++ codes " queued")

-- how many items wait in its lanes, where it has lanes
abbrev pub lanes_text : Option ℕ → List ℕ
lanes_text None = []
lanes_text (Some count) = codes ", " ++ (decimal count ++ codes " in lanes")

-- what waits in queues and lanes
abbrev pub waiting_text : NodeLook → List ℕ
waiting_text look = crossing_text look.crossing ++ (queued_text look.queued ++ lanes_text look.lanes)

-- what it offers
abbrev pub offer_text : Offer → List ℕ
offer_text offer.Nothing = []
offer_text offer.Item = codes ", offers an item"
offer_text offer.Completion = codes ", offers its completion"
offer_text offer.Failure = codes ", offers a failure"

-- what it recorded last, where it recorded anything
abbrev pub last_text : Option Recorded → List ℕ
last_text None = []
last_text (Some (recorded.From number)) = codes ", recorded " ++ (decimal number ++ codes " last")
last_text (Some recorded.Main) = codes ", recorded m last"

-- a node with this number, and its edge
abbrev pub look_text : ℕ → NodeLook → List ℕ
look_text node look = head_text node look.operator look.receiver ++ (codes ": asked " ++ (decimal look.asked ++ (codes ", sent " ++ (decimal look.sent ++ (edge_text look.edge ++ (waiting_text look ++ (offer_text look.offer ++ last_text look.last)))))))

-- these nodes, of which the first has this number
abbrev pub looks_text : ℕ → List NodeLook → List ℕ
looks_text node [] = []
looks_text node (look ∷ looks) = look_text node look ++ looks_text (node + 1) looks
