-- Where the input has ended, what comes out has ended: of a plain operator from a state, and of plain operators one behind another.
use Rattle.std.proofs.Common.{◌≡◌, true, List, [], ◌∷◌, ◌++◌, map, refl}
use Rattle.rsx_sources.specs.Prelude.{Ending, Open, Done, Failed, Next, Stage, Scan as ScanOf, Meaning, plain, chained, Stream, ending_signals}
use Rattle.rsx_plain.specs.Moves.{has_ended, has_ending}
use Rattle.rsx_plain.specs.State.{plain_start}
pub use Rattle.rsx_plain.specs.Operators.{Ends, operator_ends}

-- over a whole stream value
stage_ends : {T : Type 0} (m : Meaning T) (g : Stage T) (v : Stream T) → Ends v → Ends (plain m g v)
stage_ends m (ScanOf f s) v h = operator_ends m (plain_start (ScanOf f s)) v h
stage_ends m g v h = operator_ends m (plain_start g) v h

-- one behind another
pub chained_ends : {T : Type 0} (m : Meaning T) (gs : List (Stage T)) (v : Stream T) → has_ended v.ending ≡ true → has_ended (chained m gs v).ending ≡ true
chained_ends m [] v h = h
chained_ends m (g ∷ gs) v h = chained_ends m gs (plain m g v) (stage_ends m g v h)

-- and so its signals have
pub signals_end : {T : Type 0} (xs : List T) (e : Ending) → has_ended e ≡ true → has_ending (map Next xs ++ ending_signals e) ≡ true
signals_end [] Open h = h
signals_end [] Done h = refl
signals_end [] (Failed c) h = refl
signals_end (x ∷ xs) e h = signals_end xs e h
