-- The words for what a subscriber waits for, and for what the feed of a hub waits for.
use Rattle.std.specs.Prelude.{ℕ, List, ◌++◌, codes}
use Rattle.std.specs.Fmt.{decimal}
use Rattle.rsx_types.specs.declared.names.Move.{Move}
use Rattle.rsx_types.specs.declared.names.Move.TheVariants as move
use Rattle.rsx_types.specs.declared.names.Tree.{Tree}
use Rattle.rsx_types.specs.declared.names.Tree.TheVariants as tree
use Rattle.rsx_waits.specs.declared.wait.FeedWait.{FeedWait}
use Rattle.rsx_waits.specs.declared.wait.FeedWait.TheVariants as feed_wait
use Rattle.rsx_waits.specs.declared.wait.HubWait.{HubWait}
use Rattle.rsx_waits.specs.declared.wait.HubWait.TheVariants as hub_wait
use Rattle.rsx_waits.specs.declared.wait.Wait.{Wait}
use Rattle.rsx_waits.specs.declared.wait.Wait.TheVariants as wait

-- the name of a tree
abbrev pub tree_text : Tree → List ℕ
tree_text (tree.Sub sub) = codes "subscription " ++ decimal sub.0
tree_text (tree.Feed hub) = codes "the feed of hub " ++ decimal hub.0

-- a move of this kind, of a node of a tree
abbrev pub in_tree_text : List ℕ → ℕ → Tree → List ℕ
in_tree_text kind node t = kind ++ (codes " " ++ (decimal node ++ (codes " of " ++ tree_text t)))

-- the name of a move
abbrev pub move_text : Move → List ℕ
move_text (move.Ask t node) = in_tree_text (codes "Ask") node.0 t
move_text (move.Send t node) = in_tree_text (codes "Send") node.0 t
move_text (move.Take t node) = in_tree_text (codes "Take") node.0 t
move_text (move.Pick t node input) = in_tree_text (codes "Pick") node.0 t
move_text (move.Row t node) = in_tree_text (codes "Row") node.0 t
move_text (move.Accept hub) = codes "Accept of hub " ++ decimal hub.0

-- that a pump makes it
abbrev pub enabled_text : Move → List ℕ
enabled_text step = codes "a pump, " ++ (move_text step ++ codes " is enabled")

-- why nothing comes from a hub
abbrev pub hub_wait_text : HubWait → List ℕ
hub_wait_text hub_wait.Nothing = codes "nothing more was published there"
hub_wait_text hub_wait.Feed = codes "its feed has nothing for it"
hub_wait_text (hub_wait.Enabled step) = enabled_text step
hub_wait_text (hub_wait.HeldBy t) = codes "held back by " ++ tree_text t

-- that a node waits for a hub, and why nothing comes from there
abbrev pub at_hub_text : ℕ → ℕ → HubWait → List ℕ
at_hub_text node hub why = codes "node " ++ (decimal node ++ (codes " for hub " ++ (decimal hub ++ (codes ", " ++ hub_wait_text why))))

-- what the feed of a hub waits for
abbrev pub feed_wait_text : FeedWait → List ℕ
feed_wait_text feed_wait.Ended = codes "nothing, its ending went into the hub"
feed_wait_text (feed_wait.Enabled step) = enabled_text step
feed_wait_text (feed_wait.HeldBy t) = codes "room for an item, held back by " ++ tree_text t
feed_wait_text (feed_wait.Hub node hub why) = at_hub_text node.0 hub.0 why
feed_wait_text feed_wait.Unknown = codes "nothing that is known"

-- what a subscriber waits for
abbrev pub wait_text : Wait → List ℕ
wait_text wait.Ended = codes "nothing, it received the ending"
wait_text wait.Cancelled = codes "nothing, it cancelled"
wait_text wait.Refused = codes "nothing, a bad request closed it"
wait_text (wait.Enabled step) = enabled_text step
wait_text (wait.Request count) = codes "a request, it received all " ++ (decimal count ++ codes " that it asked for")
wait_text (wait.Hub node hub why) = at_hub_text node.0 hub.0 why
wait_text wait.Unknown = codes "nothing that is known"
