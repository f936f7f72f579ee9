-- Where a script begins.
use Rattle.std.proofs.Common.{◌≡◌, [], refl, ◌∙◌}
use Rattle.rsx_session.specs.Steps.{no_history}
use Rattle.rsx_session.specs.Sessions.{SessionStands}
use Rattle.rsx_session.specs.declared.session.Session.{Session}
use Rattle.rsx_session.specs.declared.session.View.{View}
use Rattle.rsx_session.proofs.Starts.{at_begin}
use Rattle.rsx_modes.specs.Scripts.{HasAnswered}

-- it has answered no line so far
pub begins : (view shows : View) (session : Session) → session.view ≡ shows → shows ≡ view → SessionStands session no_history → HasAnswered view session [] []
begins view shows session is same s = record { history = no_history; stands = s; shows = is ∙ same; answered = (refl, at_begin session s) }
