use Rattle.std.proofs.Common.{◌≡◌, map}
use Rattle.test_scripts.proofs.cuts.cut_feeds.Given as goal

abbrev pub invariant-loop-feed : goal.invariant-loop-feed
invariant-loop-feed g l = map (λ f. f.hub) l.feeds ≡ map (λ f. f.hub) l.fn.feeds
