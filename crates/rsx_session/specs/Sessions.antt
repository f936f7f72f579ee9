-- What a session knows of its graph, and how a command is answered.
use Rattle.std.specs.Prelude.{◌≡◌, ⊤, ℕ, Bool, List, [], ◌∷◌, ◌++◌, length, map, slice_get, Some, Result, Ok, Err, codes}
use Rattle.rsx_types.specs.Stream.{Stream}
use Rattle.rsx_types.specs.declared.names.SubId.{SubId}
use Rattle.rsx_demo.specs.Demo.{demo_meaning}
use Rattle.rsx_demo.specs.declared.val.Val.{Val}
use Rattle.rsx_subscriber.specs.Prelude.{Expr, name_codes as scratch_name, ScratchRefusal, Past}
use Rattle.rsx_model.specs.declared.evaluate.ScratchRefusal.TheVariants as scratch
use Rattle.rsx_graph_state.specs.Answers.{IsLookRefusal}
use Rattle.rsx_graph_state.specs.Names.{name_codes}
use Rattle.rsx_graph_state.specs.declared.refusal.Refusal.{Refusal}
use Rattle.rsx_graph_state.specs.declared.refusal.Refusal.TheVariants.{NoMemory}
use Rattle.rsx_graph_state.specs.declared.step.Pumped.{Pumped}
use Rattle.rsx_graph.specs.Rows.{HasEnded, History, HubPast, IsValue, LeadTo, Made, after_moves}
use Rattle.rsx_graph.specs.InGraph.{state_of}
use Rattle.rsx_graph.specs.Stands.{AreJoinsSame, GraphStands}
use Rattle.rsx_script.specs.declared.command.Command.{Command}
use Rattle.rsx_script.specs.Answers.{answer_text, rest_text}
use Rattle.rsx_script.specs.declared.print.Answer.{Answer}
use Rattle.rsx_script.specs.declared.print.Rest.{Rest}
use Rattle.rsx_session.specs.Kept.{known, seen, source_of, sources_of}
use Rattle.rsx_session.specs.Places.{HaveFirstValues, IsAnswerTo, IsEvaluated, IsFeedRefused, IsRest, IsRight, Place}
use Rattle.rsx_session.specs.declared.published.HubSource.{HubSource}
use Rattle.rsx_session.specs.declared.session.Record.{Record}
use Rattle.rsx_session.specs.declared.session.Session.{Session}
use Rattle.rsx_session.specs.declared.session.Trouble.{Trouble}
use Rattle.rsx_session.specs.declared.session.Trouble.TheVariants.{Refused, Memory}

-- a session stands for a history: its graph does, and what it keeps beside the graph is a look of that history
pub record SessionStands (session : Session) (h : History Val) : Type 0 where
  pub graph : GraphStands demo_meaning (state_of session.graph) h
  -- what each hub publishes
  pub published : session.published.items ≡ sources_of h
  -- the expression of each subscriber, and what it received
  pub records : map known session.records.items ≡ map seen h.pasts
  -- nothing waits to be taken in
  pub spare : session.spare.items ≡ []

-- where its script stands
abbrev pub place_of : Session → History Val → Place
place_of session h = record { graph = state_of session.graph; history = h }

-- a session that stood for a history stands for another one, where this holds of the two places of its script and a text
pub record LeadsBy (R : Place → List ℕ → Place → Type 0) (old : Session) (h : History Val) (text : List ℕ) (new : Session) : Type 0 where
  pub history : History Val
  pub stands : SessionStands new history
  pub answers : R (place_of old h) text (place_of new history)
  pub view : new.view ≡ old.view

-- for each history that the session stood for
abbrev pub AllLead : (Place → List ℕ → Place → Type 0) → Session → List ℕ → Session → Type 0
AllLead R old text new = (h : History Val) → SessionStands old h → LeadsBy R old h text new

-- a session was led on by this command, whose answer has this text
abbrev pub LeadsAll : Command → Session → List ℕ → Session → Type 0
LeadsAll command old text new = AllLead (IsAnswerTo old.view command) old text new

-- this is what a refusal of the graph comes to: want of memory, or its name
abbrev pub IsTroubleOf : Refusal → Trouble → Type 0
IsTroubleOf r (Refused name) = (r ≡ NoMemory → ⊥) × (name.now ≡ name_codes r)
IsTroubleOf r Memory = r ≡ NoMemory

-- this is why a look at a subscription was refused, where there are so many
abbrev pub IsLookTrouble : ℕ → SubId → Trouble → Type 0
IsLookTrouble count sub t = (r : Refusal) × IsLookRefusal count sub r × IsTroubleOf r t

-- the same of the slow evaluator
abbrev pub IsScratchTrouble : ScratchRefusal → Trouble → Type 0
IsScratchTrouble r (Refused name) = (r ≡ scratch.NoMemory → ⊥) × (name.now ≡ scratch_name r)
IsScratchTrouble r Memory = r ≡ scratch.NoMemory

-- the text of an answer, or of a refusal by its name, has this property; want of memory has no answer
abbrev pub OnText : Result Answer Trouble → (List ℕ → Type 0) → Type 0
OnText (Ok answer) P = P (answer_text answer)
OnText (Err (Refused name)) P = P (codes "refused " ++ name.now)
OnText (Err Memory) P = ⊤

-- a look: whatever history the session stands for, the text says this of where its script stands
abbrev pub Says : Session → Result Answer Trouble → (Place → List ℕ → Type 0) → Type 0
Says session result P = OnText result (λ text. (h : History Val) → SessionStands session h → P (place_of session h) text)

-- a text got a line more, with its newline
abbrev pub GrowsByLine : List ℕ → List ℕ → (List ℕ → Type 0) → Type 0
GrowsByLine before after P = (line : List ℕ) × (after ≡ before ++ (line ++ 10 ∷ [])) × P line

-- this is the line of what was done
abbrev pub IsLineOf : Result Answer Trouble → List ℕ → Type 0
IsLineOf (Ok answer) line = line ≡ answer_text answer
IsLineOf (Err (Refused name)) line = line ≡ codes "refused " ++ name.now
IsLineOf (Err Memory) line = ⊥

-- so many enabled moves were made, and what they delivered was taken in
pub record HasRun (count : ℕ) (old : Session) (h : History Val) (new : Session) : Type 0 where
  pub moves : List (Made Val)
  pub counted : length moves ≡ count
  pub lead : LeadTo demo_meaning (state_of old.graph).rows moves (state_of new.graph).rows
  pub same : AreJoinsSame (state_of old.graph) (state_of new.graph)
  pub stands : SessionStands new (after_moves h moves)
  pub view : new.view ≡ old.view

-- for each history that the session stood for
abbrev pub AllRun : ℕ → Session → Session → Type 0
AllRun count old new = (h : History Val) → SessionStands old h → HasRun count old h new

-- a run of at most so many moves was made, and what they delivered was taken in
pub record PumpsTo (budget : ℕ) (old : Session) (h : History Val) (ended : Pumped) (new : Session) : Type 0 where
  pub count : ℕ
  pub run : HasRun count old h new
  pub ends : HasEnded demo_meaning budget count (state_of new.graph).rows (Ok ended)

-- for each history that the session stood for
abbrev pub AllPumpTo : ℕ → Session → Pumped → Session → Type 0
AllPumpTo budget old ended new = (h : History Val) → SessionStands old h → PumpsTo budget old h ended new

-- what follows what a subscriber received, by how the subscription stands
abbrev pub IsRestOf : Place → SubId → Rest → Type 0
IsRestOf place sub rest = (past : Past Val) × (slice_get place.history.pasts sub.0 ≡ Some past) × IsRest place sub past.state (rest_text rest)

-- whether what is kept of a subscriber, and what it is owed, is this value, by how the subscription stands
abbrev pub IsRightOf : Place → SubId → Record → Stream Val → Bool → Type 0
IsRightOf place sub r v right = (past : Past Val) → slice_get place.history.pasts sub.0 ≡ Some past → seen past ≡ known r → IsRight place sub past v past.state right

-- the slow evaluator refused the expression of a feed
abbrev pub IsHubsTrouble : Place → Trouble → Type 0
IsHubsTrouble place (Refused name) = (e : ScratchRefusal) × IsFeedRefused place e × (e ≡ scratch.NoMemory → ⊥) × (name.now ≡ scratch_name e)
IsHubsTrouble place Memory = ⊤

-- the value of the hub behind those with these values, where this is kept of it
abbrev pub IsNextValue : Place → List (Stream Val) → HubSource → Stream Val → Type 0
IsNextValue place before kept v = (hub : HubPast Val) → slice_get place.history.hubs (length before) ≡ Some hub → source_of hub.source ≡ kept → IsValue demo_meaning place.graph.rows.feeds before hub.source v

-- why it has none
abbrev pub IsNextTrouble : Place → List (Stream Val) → HubSource → Trouble → Type 0
IsNextTrouble place before kept t = (hub : HubPast Val) → slice_get place.history.hubs (length before) ≡ Some hub → source_of hub.source ≡ kept → HaveFirstValues place before → IsHubsTrouble place t

-- what the slow evaluator answers for a subscription, as a value or as a trouble
abbrev pub IsValueAt : Place → SubId → Past Val → Result (Stream Val) Trouble → Type 0
IsValueAt place sub past (Ok v) = IsEvaluated place sub past (Ok v)
IsValueAt place sub past (Err (Refused name)) = (e : ScratchRefusal) × IsEvaluated place sub past (Err e) × (e ≡ scratch.NoMemory → ⊥) × (name.now ≡ scratch_name e)
IsValueAt place sub past (Err Memory) = ⊤

-- the same, where this is the expression of the subscription
abbrev pub IsValueOf : Place → SubId → Expr Val → Result (Stream Val) Trouble → Type 0
IsValueOf place sub e result = (past : Past Val) → slice_get place.history.pasts sub.0 ≡ Some past → past.expression ≡ e → IsValueAt place sub past result
