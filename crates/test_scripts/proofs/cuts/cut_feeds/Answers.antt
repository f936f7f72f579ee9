use Rattle.std.proofs.Common.{◌∙◌, refl}
use Rattle.std.proofs.Math.Seq.{map-set_same}
use Rattle.test_scripts.proofs.cuts.cut_feeds.Goals as goal

pub loop-feed-preserved : goal.loop-feed-preserved
loop-feed-preserved g c = map-set_same (λ f. f.hub) c.loop-feed.feeds c.loop-feed.feed-index _ c.feed-item.result refl ∙ c.loop-feed.invariant
