use Rattle.rsx_drive.proofs.texts.add_title.Goals as goal

pub returns : goal.returns
returns c = c.in_ok-write.ensures.bytes
