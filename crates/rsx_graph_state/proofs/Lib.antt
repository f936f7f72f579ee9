-- Lemmas about histories, and about the graphs that stand for them.
-- Lemmas about graphs with feeds.
pub mod Accepted
pub mod Accepts
pub mod AllAtOnce
pub mod Alone
pub mod Calls
pub mod Graphs
pub mod Handing
pub mod HubMoves
pub mod Joins
pub mod Kept
pub mod Named
pub mod OneFeed
pub mod Places
pub mod Publishes
pub mod Ready
pub mod Sends
pub mod SentMany
pub mod Skipping
pub mod SubscriptionSets
pub mod Taken
pub mod Values
