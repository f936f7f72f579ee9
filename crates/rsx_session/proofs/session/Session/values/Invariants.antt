use Rattle.std.proofs.Common.{◌≡◌, [], length, take}
use Rattle.rsx_session.specs.Prelude.{AreValues, History, SessionStands, Val, demo_meaning}
use Rattle.rsx_session.proofs.session.Session.values.Given as goal

-- the values of the hubs so far
abbrev pub invariant-loop-source : goal.invariant-loop-source
invariant-loop-source l = record {
  count : length l.values.items ≡ l.source-index;
  values : (h : History Val) → SessionStands l.self h → AreValues demo_meaning l.self.graph.feeds.items [] (take l.source-index h.hubs) l.values.items;
}
