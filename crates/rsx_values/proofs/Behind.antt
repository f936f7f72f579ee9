-- One value behind another, where the items of the first stand behind others.
use Rattle.std.proofs.Common.{◌≡◌, List, [], ◌++◌, refl, ap, sym, ◌∙◌, subst, append_assoc}
use Rattle.std.proofs.lemmas.List.{append-nil}
use Rattle.rsx_types.specs.declared.signal.Ending.{Ending}
use Rattle.rsx_types.specs.declared.signal.Ending.TheVariants.{Open, Done, Failed}
use Rattle.rsx_types.specs.Stream.{Stream, ended_by, items_then}
use Rattle.rsx_values.specs.Concat.{unless_open, value_then}

pub stream_is : {T : Type 0} (xs ys : List T) (e f : Ending) → xs ≡ ys → e ≡ f → ◌≡◌ {A = Stream T} (record { items = xs; ending = e }) (record { items = ys; ending = f })
stream_is xs ys e f p q = λ i. record { items = p i; ending = q i }

-- behind a completion the other one comes
pub goes_on : {T : Type 0} (old new : List T) (e : Ending) (w rest : Stream T) → ◌≡◌ {A = Stream T} (record { items = new; ending = e }) (items_then old w) → e ≡ Done → items_then new rest ≡ items_then old (value_then w rest)
goes_on old new e w rest copied d =
    let items : new ≡ old ++ w.items = ap (λ v. v.items) copied in
    let ending : w.ending ≡ Done = sym (ap (λ v. v.ending) copied) ∙ d in
    rw (ending, items) (stream_is ((old ++ w.items) ++ rest.items) (old ++ (w.items ++ rest.items)) rest.ending rest.ending (append_assoc old w.items rest.items) refl)

cut : {T : Type 0} (e : Ending) (rest : Stream T) → (e ≡ Done → ⊥) → unless_open e rest ≡ ended_by e
cut Open rest n = refl
cut Done rest n = absurd (n refl)
cut (Failed c) rest n = refl

-- any other ending stays
pub stops : {T : Type 0} (old new : List T) (e : Ending) (w rest : Stream T) → ◌≡◌ {A = Stream T} (record { items = new; ending = e }) (items_then old w) → (e ≡ Done → ⊥) → ◌≡◌ {A = Stream T} (record { items = new; ending = e }) (items_then old (value_then w rest))
stops {T} old new e w rest copied n =
    let ending : e ≡ w.ending = ap (λ v. v.ending) copied in
    let P : Ending → Type 0 = λ f. f ≡ Done → ⊥ in
    copied ∙ (stream_is (old ++ w.items) (old ++ (w.items ++ [])) w.ending w.ending (ap (λ l. old ++ l) (sym (append-nil w.items))) refl ∙ ap (λ u. items_then old (items_then w.items u)) (sym (cut w.ending rest (subst P ending n))))
