-- What a subscription ends as, where its part is lent to be changed.
use Rattle.std.specs.Borrow.{Fml, RattleType, MutBor, Lends}
use Rattle.rsx_pipe.specs.Part.{Part}
use Rattle.rsx_pipe.specs.contracts.part.Part.{the_row as part_row}
use Rattle.rsx_subscriber.specs.contracts.subscription.Subscription.{the_row}
use Rattle.rsx_subscriber.specs.declared.subscription.Subscription.{Subscription}

-- the subscription with this part, and else as it is
abbrev pub with_part : {M T : Type 0} → Subscription M T → Part M → Subscription M T
with_part s part = record s { part = part }

-- once the borrow r ends, the subscription has the part that r shows last
abbrev pub lends_part : (N T : RattleType) → MutBor (Subscription N.Denot T.Denot) → MutBor (Part N.Denot) → Fml
lends_part N T s r = Lends (the_row N T) (part_row N) s r (with_part s.now)
