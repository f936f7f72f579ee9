-- What ties seats and passes to their gate.
use Rattle.std.specs.Prelude.{◌≡◌, ◌<◌, ℕ, true, false, List, slice_index_or, [], ◌∷◌, Some, Result}
use mathlib.Core.Option as maybe
use mir.Syntax.{named}
use Rattle.std.specs.Borrow.{Fml, GName, RattleType, MutBor, Lends, RestsIfErr, follows_so}
use Rattle.atomic_table.specs.declared.shared.Seat.{Seat}
use Rattle.atomic_table.specs.contracts.shared.Seat.{the_row as seat_row}
use Rattle.rsx_gate.specs.declared.gate.Gate.{Gate}
use Rattle.rsx_gate.specs.declared.gate.Pass.{Pass}
use Rattle.rsx_gate.specs.declared.gate.Noted.{Noted}
use Rattle.rsx_gate.specs.declared.gate.Left.{Left}
use Rattle.rsx_gate.specs.declared.gate.Left.TheVariants.{Gone, Missed}
use Rattle.rsx_gate.specs.declared.view.View.{View}
use Rattle.rsx_gate.specs.declared.view.Step.{Step}
use Rattle.rsx_gate.specs.declared.view.Step.TheVariants.{Enter, Mark, Leave, GiveUp}
use Rattle.rsx_gate.specs.contracts.gate.Pass.{the_row as pass_row}
use Rattle.rsx_gate.specs.contracts.view.View.{the_row as view_row}
use Rattle.rsx_gate.specs.Machine.{Entry, IsRun, word_of, own, holds_pass}
use Rattle.rsx_gate.specs.Plays.{more, IsHeld, HasSeenAll, HasNote}

-- the key that the gate was made with
abbrev pub key_of : {T K : Type 0} → Gate T K → K
key_of g = g.table.shared.key

-- the seat that the pass borrows, and the name of that borrow
abbrev pub seat_of : {T K : Type 0} → Pass T K → Seat T (View K)
seat_of p = p.seat.now

abbrev pub lender_of : {T K : Type 0} → Pass T K → GName
lender_of p = p.seat.ghost_name

-- a seat of this gate that has no pass
abbrev pub IsSeatOf : {T K : Type 0} → Gate T K → Seat T (View K) → Type 0
IsSeatOf g s = (s.table_id ≡ g.table.shared.table_id) × (s.me.1 ≡ []) × (s.me.0.key ≡ Some g.table.shared.key) × (0 < s.me.0.parts) × (holds_pass s.me.0.steps ≡ false)

-- a seat of this gate that has the pass, with this value
abbrev pub Holds : {T K : Type 0} → Gate T K → Seat T (View K) → T → Type 0
Holds g s x = (s.table_id ≡ g.table.shared.table_id) × (s.me.1 ≡ (0, x) ∷ []) × (s.me.0.key ≡ Some g.table.shared.key) × (0 < s.me.0.parts) × (holds_pass s.me.0.steps ≡ true)

-- the lists of the seat `by` stand in one legal history, which ends at 0
abbrev pub Stands : {K : Type 0} → ℕ → View K → Type 0
Stands by v = (log : List Entry) × IsRun log × (word_of log ≡ 0) × ((k : ℕ) → slice_index_or (v.steps ∷ v.beside) k [] ≡ own by k log)

-- the same seat with one step more
abbrev pub Took : {T K : Type 0} → Step → Seat T (View K) → Seat T (View K) → Type 0
Took x s s' = (s'.table_id ≡ s.table_id) × (s'.id ≡ s.id) × (s'.me.0 ≡ more s.me.0 x)

-- the seat entered a free gate, and has the value, which fits
abbrev pub Entered : {T K : Type 0} → (K → T → Type 0) → Gate T K → Seat T (View K) → Seat T (View K) → Type 0
Entered fits g s s' = Took (Enter 0) s s' × ((x : _) × Holds g s' x × fits (key_of g) x)

-- the seat noted a held gate
abbrev pub IsNoted : {T K : Type 0} → Gate T K → Seat T (View K) → Seat T (View K) → Type 0
IsNoted g s s' = ((n : ℕ) × IsHeld n × Took (Enter n) s s') × IsSeatOf g s'

-- the seat marked, and keeps the value
abbrev pub Marked : {T K : Type 0} → Seat T (View K) → Seat T (View K) → Type 0
Marked s s' = ((n : ℕ) × IsHeld n × Took (Mark n) s s') × (s'.me.1 ≡ s.me.1)

-- the seat left, and the newest of all enters and marks is its mark
abbrev pub IsGone : {T K : Type 0} → Gate T K → Seat T (View K) → Seat T (View K) → Type 0
IsGone g s s' = Took (Leave 1) s s' × IsSeatOf g s' × HasSeenAll s.me.0.steps

-- the seat has the pass and the value still, and the newest of all enters and marks is an enter
abbrev pub IsMissed : {T K : Type 0} → Seat T (View K) → Seat T (View K) → Type 0
IsMissed s s' = Took (Leave 2) s s' × (s'.me.1 ≡ s.me.1) × HasNote s.me.0.steps

-- the seat gave up the pass
abbrev pub GaveUp : {T K : Type 0} → Gate T K → Seat T (View K) → Seat T (View K) → Type 0
GaveUp g s s' = ((n : ℕ) × IsHeld n × Took (GiveUp n) s s') × IsSeatOf g s'

abbrev pub OnMissed : {T K : Type 0} → Left T K → (Pass T K → Type 0) → Type 0
OnMissed (Missed p) P = P p
OnMissed Gone P = Unit {0}

abbrev pub OnGone : {T K : Type 0} → Left T K → Type 0 → Type 0
OnGone (Missed p) P = Unit {0}
OnGone Gone P = P

abbrev pub missed_lender : {T K : Type 0} → Left T K → maybe.Option GName
missed_lender (Missed p) = maybe.some (lender_of p)
missed_lender Gone = maybe.none

abbrev pub seat_type : RattleType → RattleType → RattleType
seat_type T K = seat_row T (view_row K)

-- a pass has the seat; where the gate was held, the seat is free again at once
abbrev pub rests_if_noted : (T K : RattleType) → Gate T.Denot K.Denot → MutBor (Seat T.Denot (View K.Denot)) → Result (Pass T.Denot K.Denot) Noted → Fml
rests_if_noted T K g s r = RestsIfErr (seat_type T K) s lender_of r (IsNoted g s.now)

-- a pass that Missed has the seat still; after Gone the seat is free again
abbrev pub rests_if_gone : (T K : RattleType) → Gate T.Denot K.Denot → Pass T.Denot K.Denot → Left T.Denot K.Denot → Fml
rests_if_gone T K g p r = follows_so (seat_type T K) (seat_type T K) (lender_of p) (missed_lender r) (λ x n. OnMissed r (λ _. n ≡ x)) (λ n. OnGone r (IsGone g (seat_of p) n))

-- the seat with this value
abbrev pub seat_with_value : {T K : Type 0} → Seat T (View K) → T → Seat T (View K)
seat_with_value s w = record s { me = (s.me.0, (0, w) ∷ []) }

-- what is written through the borrow is the value of the seat afterwards
abbrev pub lends_of_seat : (T K : RattleType) → MutBor (Seat T.Denot (View K.Denot)) → MutBor T.Denot → Fml
lends_of_seat T K s r = Lends (seat_type T K) T s r (seat_with_value s.now)

-- the pass with this value
abbrev pub with_value : {T K : Type 0} → Pass T K → T → Pass T K
with_value p w = record p { seat = record p.seat { now = seat_with_value p.seat.now w } }

-- what is written through the borrow is the value of the pass afterwards
abbrev pub lends_value : (T K : RattleType) → MutBor (Pass T.Denot K.Denot) → MutBor T.Denot → Fml
lends_value T K p r = Lends (pass_row (record { mir = named 1; lft = [] }) T K) T p r (with_value p.now)
