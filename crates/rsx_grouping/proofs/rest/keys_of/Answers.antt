use Rattle.std.proofs.Common.{[], ap, ◌∙◌}
use Rattle.rsx_grouping.specs.Rest.{see_all}
use Rattle.rsx_grouping.specs.Rows.{keys_of}
use Rattle.rsx_grouping.proofs.Copies.{all_seen}
use Rattle.rsx_grouping.proofs.rest.keys_of.Goals as goal

pub loop-row-init : goal.loop-row-init
loop-row-init g c = ap (λ s. see_all s (keys_of c.args.rows.now)) c.new-keys.ensures ∙ all_seen [] (keys_of c.args.rows.now) c.requires
