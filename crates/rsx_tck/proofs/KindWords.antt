-- The first words of events: each names its kind, and no other word does.
use Rattle.std.proofs.Common.{◌≡◌, ℕ, ◌<◌, ◌⊎◌, Bool, true, false, cond, List, [], ◌∷◌, length, Option, Some, None, lit<, refl, ap, ◌∙◌, inl, inr}
use Rattle.std.specs.Prelude.{codes}
use Rattle.std.specs.List.{position_or_len}
use Rattle.std.specs.Str.{bytes_eq}
use Rattle.std.proofs.lemmas.Slice.Eq.{bytes_eq-Decides}
use Rattle.rsx_tck.specs.declared.line.Kind.{Kind}
use Rattle.rsx_tck.specs.declared.line.Kind.TheVariants as kind
use Rattle.rsx_tck.specs.Reading.{kind_of}
use Rattle.rsx_tck.proofs.Words.{space, IsWord}

abbrev pub kind_text : Kind → List ℕ
kind_text kind.Subscribe = codes "subscribe"
kind_text kind.OnSubscribe = codes "on-subscribe"
kind_text kind.Next = codes "next"
kind_text kind.Complete = codes "complete"
kind_text kind.Error = codes "error"
kind_text kind.Exit = codes "exit"
kind_text kind.Request = codes "request"
kind_text kind.Cancel = codes "cancel"
kind_text kind.CancelNew = codes "cancel-new"

-- ---- a kind's word

pub name_is : (w : List ℕ) → 0 < length w → position_or_len space w ≡ length w → IsWord w
name_is w some solid = record { some = some; solid = solid }

-- the word of a kind is one, names it, and is no `end`
pub record IsNamed (k : Kind) : Type 0 where
  pub word : IsWord (kind_text k)
  pub kind : kind_of (kind_text k) ≡ Some k
  pub not-end : bytes_eq (kind_text k) (codes "end") ≡ false

named_so : (k : Kind) → 0 < length (kind_text k) → position_or_len space (kind_text k) ≡ length (kind_text k) → kind_of (kind_text k) ≡ Some k → bytes_eq (kind_text k) (codes "end") ≡ false → IsNamed k
named_so k some solid kind other = record { word = name_is (kind_text k) some solid; kind = kind; not-end = other }

pub kind_named : (k : Kind) → IsNamed k
kind_named kind.Subscribe = named_so kind.Subscribe (lit< tt) refl refl refl
kind_named kind.OnSubscribe = named_so kind.OnSubscribe (lit< tt) refl refl refl
kind_named kind.Next = named_so kind.Next (lit< tt) refl refl refl
kind_named kind.Complete = named_so kind.Complete (lit< tt) refl refl refl
kind_named kind.Error = named_so kind.Error (lit< tt) refl refl refl
kind_named kind.Exit = named_so kind.Exit (lit< tt) refl refl refl
kind_named kind.Request = named_so kind.Request (lit< tt) refl refl refl
kind_named kind.Cancel = named_so kind.Cancel (lit< tt) refl refl refl
kind_named kind.CancelNew = named_so kind.CancelNew (lit< tt) refl refl refl

-- ---- the word of a kind

pub named : (w name : List ℕ) → bytes_eq w name ≡ true → w ≡ name
named w name e = (bytes_eq-Decides w name).0 e

-- the first of these kinds that the word names
abbrev first_named : List Kind → List ℕ → Option Kind
first_named [] w = None
first_named (k ∷ ks) w = cond (bytes_eq w (kind_text k)) (Some k) (first_named ks w)

pick : (t : Bool) (a : Kind) (o : Option Kind) (k : Kind) → cond t (Some a) o ≡ Some k → ((t ≡ true) × (a ≡ k)) ⊎ (o ≡ Some k)
pick true a o k e = inl (refl, cc)
pick false a o k e = inr e

names_first : (ks : List Kind) (w : List ℕ) (k : Kind) → first_named ks w ≡ Some k → w ≡ kind_text k
names_first [] w k e = absurd cc
names_first (a ∷ ks) w k e = elim (pick (bytes_eq w (kind_text a)) a (first_named ks w) k e) [
  | inl h ↦ named w (kind_text a) h.0 ∙ ap kind_text h.1
  | inr rest ↦ names_first ks w k rest
]

-- the kinds in the order in which their words are tried
abbrev all_kinds : List Kind
all_kinds = kind.Subscribe ∷ kind.OnSubscribe ∷ kind.Next ∷ kind.Complete ∷ kind.Error ∷ kind.Exit ∷ kind.Request ∷ kind.Cancel ∷ kind.CancelNew ∷ []

pub kind_is : (w : List ℕ) (k : Kind) → kind_of w ≡ Some k → w ≡ kind_text k
kind_is w k e = names_first all_kinds w k e
