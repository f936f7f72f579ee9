-- How many workers the regions of a graph need.
use Rattle.std.specs.Prelude.{◌<◌, ◌≤◌, ℕ}
use Rattle.rsx_region.specs.Pieces.{Each}
use Rattle.rsx_runtime.specs.declared.TheConstants.{MOST_WORKERS}
use Rattle.rsx_graph_calls.specs.declared.regions.Regions.{Regions}

-- there may be so many workers, and all regions of subscriptions and feeds are below their number
pub record HaveRegions (workers : ℕ) (r : Regions) : Type 0 where
  pub some : 0 < workers
  pub most : workers ≤ MOST_WORKERS
  pub roots : Each (λ (i : ℕ). i < workers) r.roots.items
  pub senders : Each (λ v. Each (λ (i : ℕ). i < workers) v.items) r.senders.items
  pub feeds : Each (λ v. Each (λ (i : ℕ). i < workers) v.items) r.feed_senders.items
