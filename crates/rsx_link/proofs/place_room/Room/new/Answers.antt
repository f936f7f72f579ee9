use Rattle.std.proofs.Common.{rules}
use Rattle.rsx_link.proofs.place_room.Room.new.Goals as goal

pub returns : goal.returns
returns g c = search rules
