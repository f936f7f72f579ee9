-- What came out at the start of a chain that was over then.
use Rattle.std.proofs.Common.{◌≡◌, refl, ap}
use Rattle.std.proofs.lemmas.List.{append-nil}
use Rattle.rsx_sources.specs.Prelude.{Ending, Open, Done, Failed, Stream}
use Rattle.rsx_plain.specs.Emissions.{followed_by}

-- nothing follows it
pub followed_ended : {T : Type 0} (first x : Stream T) (e : Ending) → first.ending ≡ e → (e ≡ Open → ⊥) → ◌≡◌ {A = Stream T} (followed_by first x) (record { items = first.items; ending = e })
followed_ended first x Open is n = absurd (n refl)
followed_ended first x Done is n = rw is (ap (λ l. record { items = l; ending = Done }) (append-nil first.items))
followed_ended first x (Failed c) is n = rw is (ap (λ l. record { items = l; ending = Failed c }) (append-nil first.items))
