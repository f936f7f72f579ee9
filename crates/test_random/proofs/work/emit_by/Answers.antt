use Rattle.rsx_serialized.proofs.Numbers.{named}
use Rattle.test_random.proofs.work.emit_by.Goals as goal

pub link_at-link-requires : goal.link_at-link-requires
link_at-link-requires c = named c.args.links.now.items _ _ _ c.link.ensures c.requires
