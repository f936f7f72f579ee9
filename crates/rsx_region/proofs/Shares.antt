-- What was taken in by the halves of a piece, and by the piece that they are joined to.
use Rattle.std.proofs.Common.{◌≡◌, ◌⊎◌, inl, inr, ℕ, zero, suc, ◌<◌, Bool, true, false, nat_eq, List, [], ◌∷◌, ◌++◌, length, map, refl, ap, sym, ◌∙◌, subst, arith, Option, Some, None, slice_get}
use Rattle.std.proofs.lemmas.Bool.{eqb-true}
use Rattle.rsx_sources.specs.Prelude.{Reading, Signal, Stream}
use Rattle.rsx_sources.specs.Reading.{origin_of}
use Rattle.rsx_sources.specs.declared.machine.Machine.{Ghosts as Machine}
use Rattle.rsx_tree.specs.Reads.{AllGoOn, GoesOn, readings}
use Rattle.rsx_tree.specs.declared.node.Node.{Node}
use Rattle.rsx_link.specs.Ends.{received_signals}
use Rattle.rsx_rooted.specs.Local.{AllOf, IsOf, ReadsNot, stream_of}
use Rattle.rsx_region.specs.Inlet.{replaced_at}
use Rattle.rsx_region.specs.Whole.{AreShared}
use Rattle.rsx_region.proofs.EdgePlaces.{same_some}
use Rattle.rsx_region.specs.Pieces.{Each, IsBlankAt, came_of, hub_of, none_taken, taken_by}
use Rattle.rsx_region.proofs.Cuts.{true_of}
use Rattle.rsx_region.specs.declared.piece.Incoming.{Incoming}

-- ---- values, of which some are replaced

replaced_other : {A : Type 0} (h i : ℕ) (v : A) (xs : List A) → (i ≡ h → ⊥) → slice_get (replaced_at h v xs) i ≡ slice_get xs i
replaced_other h i v [] ne = refl
replaced_other zero zero v (x ∷ xs) ne = absurd (ne refl)
replaced_other zero (suc i) v (x ∷ xs) ne = refl
replaced_other (suc h) zero v (x ∷ xs) ne = refl
replaced_other (suc h) (suc i) v (x ∷ xs) ne = replaced_other h i v xs (λ e. ne (ap suc e))

replaced_both : {A : Type 0} (h i : ℕ) (v : A) (xs ys : List A) → length xs ≡ length ys → slice_get xs i ≡ slice_get ys i → slice_get (replaced_at h v xs) i ≡ slice_get (replaced_at h v ys) i
replaced_both h i v [] [] l e = refl
replaced_both h i v [] (y ∷ ys) l e = cc
replaced_both h i v (x ∷ xs) [] l e = cc
replaced_both zero zero v (x ∷ xs) (y ∷ ys) l e = refl
replaced_both zero (suc i) v (x ∷ xs) (y ∷ ys) l e = e
replaced_both (suc h) zero v (x ∷ xs) (y ∷ ys) l e = e
replaced_both (suc h) (suc i) v (x ∷ xs) (y ∷ ys) l e = let rest : length xs ≡ length ys = cc in replaced_both h i v xs ys rest e

replaced_length : {A : Type 0} (h : ℕ) (v : A) (xs : List A) → length (replaced_at h v xs) ≡ length xs
replaced_length h v [] = refl
replaced_length zero v (x ∷ xs) = refl
replaced_length (suc h) v (x ∷ xs) = ap suc (replaced_length h v xs)

taken_length : {A B : Type 0} (f : B → A) (values : List A) (cs : List (ℕ × B)) → length (taken_by f values cs) ≡ length values
taken_length f values [] = refl
taken_length f values (c ∷ cs) = replaced_length c.0 (f c.1) (taken_by f values cs) ∙ taken_length f values cs

-- one more, of another number
taken_more : {A B : Type 0} (f : B → A) (values : List A) (cs : List (ℕ × B)) (c : ℕ × B) (i : ℕ) → (i ≡ c.0 → ⊥) → slice_get (taken_by f values (cs ++ c ∷ [])) i ≡ slice_get (taken_by f values cs) i
taken_more f values [] c i ne = replaced_other c.0 i (f c.1) values ne
taken_more f values (d ∷ cs) c i ne =
    replaced_both d.0 i (f d.1) (taken_by f values (cs ++ c ∷ [])) (taken_by f values cs) (taken_length f values (cs ++ c ∷ []) ∙ sym (taken_length f values cs)) (taken_more f values cs c i ne)

-- nothing stands under any number where nothing was taken in
pub none_at : {T : Type 0} (n h : ℕ) → h < n → IsBlankAt {T = T} (none_taken n) h
none_at zero h less = absurd (omega (arith, less))
none_at (suc n) zero less = refl
none_at (suc n) (suc h) less = none_at n h (omega (arith, less))

-- where none has this number
taken_none : {A B : Type 0} (f : B → A) (values : List A) (cs : List (ℕ × B)) (i : ℕ) → Each (λ (c : ℕ × B). i ≡ c.0 → ⊥) cs → slice_get (taken_by f values cs) i ≡ slice_get values i
taken_none f values [] i apart = refl
taken_none f values (c ∷ cs) i apart = replaced_other c.0 i (f c.1) (taken_by f values cs) (apart 0 c refl) ∙ taken_none f values cs i (λ k d at. apart (suc k) d at)

-- Where there is nothing under the numbers of these links, a value among the others is nothing, or stands there still.
blank_or : {T : Type 0} (values : List (Stream T)) (is : List (Incoming T)) (i : ℕ) (s : Stream T) → Each (λ (c : Incoming T). IsBlankAt values (hub_of c)) is → slice_get values i ≡ Some s →
    (s ≡ stream_of []) ⊎ (slice_get (taken_by stream_of values (map came_of is)) i ≡ Some s)
blank_or values [] i s blank at = inr at
blank_or {T} values (c ∷ is) i s blank at = by_test (nat_eq i (hub_of c)) refl (blank_or values is i s (λ k d there. blank (suc k) d there) at)
  where
    rest : List (Stream T)
    rest = taken_by stream_of values (map came_of is)

    by_test : (t : Bool) → nat_eq i (hub_of c) ≡ t → (s ≡ stream_of []) ⊎ (slice_get rest i ≡ Some s) → (s ≡ stream_of []) ⊎ (slice_get (replaced_at (hub_of c) (stream_of (came_of c).1) rest) i ≡ Some s)
    by_test true same others = inl (same_some _ _ (sym at ∙ (ap (slice_get values) (eqb-true i (hub_of c) same) ∙ blank 0 c refl)))
    by_test false other others =
        let apart : i ≡ hub_of c → ⊥ = λ e. let both : true ≡ false = sym (true_of i (hub_of c) e) ∙ other in cc in
        elim others [
          | inl none ↦ inl none
          | inr there ↦ inr (replaced_other (hub_of c) i (stream_of (came_of c).1) rest apart ∙ there)
        ]

-- ---- of the links that come in

pub map_append : {A B : Type 0} (f : A → B) (xs ys : List A) → map f (xs ++ ys) ≡ map f xs ++ map f ys
map_append f [] ys = refl
map_append f (x ∷ xs) ys = ap (λ l. f x ∷ l) (map_append f xs ys)

map_none : {A B : Type 0} (f : A → B) (P : B → Type 0) (xs : List A) → Each (λ (x : A). P (f x)) xs → Each P (map f xs)
map_none f P [] all k y at = cc
map_none {A} f P (x ∷ xs) all zero y at = subst P (same_some _ _ at) (all 0 x refl)
map_none f P (x ∷ xs) all (suc k) y at = map_none f P xs (λ j w there. all (suc j) w there) k y at

all_for : (P : ℕ → Type 0) (rs : List (Option Reading)) → ((i : ℕ) → P i) → AllOf P rs
all_for P [] h = tt
all_for P (None ∷ rs) h = (tt, all_for P rs h)
all_for P (Some r ∷ rs) h = (h r.hub, all_for P rs h)

-- a node that goes on reads one of the hubs that were read, or none
of_going : (P : ℕ → Type 0) (r s : Option Reading) → GoesOn r s → IsOf P r → IsOf P s
of_going P r None g h = tt
of_going P None (Some s) g h = elim g [ inl e ↦ cc | inr e ↦ cc ]
of_going P (Some r) (Some s) g h = elim g [
  | inl e ↦ let origin : origin_of s ≡ origin_of r = same_some _ _ e in let hub : s.hub ≡ r.hub = ap (λ o. o.hub) origin in subst P (sym hub) h
  | inr e ↦ cc
]

pub all_going : (P : ℕ → Type 0) (rs ss : List (Option Reading)) → AllGoOn rs ss → AllOf P rs → AllOf P ss
all_going P [] [] g h = tt
all_going P [] (s ∷ ss) g h = absurd g
all_going P (r ∷ rs) [] g h = absurd g
all_going P (r ∷ rs) (s ∷ ss) g h = (of_going P r s g.0 h.0, all_going P rs ss g.1 h.1)

-- none of these nodes reads one of those links
all_apart : {T : Type 0} (others : List (Incoming T)) (rs : List (Option Reading)) → Each (λ (i : Incoming T). AllOf (λ h. h ≡ hub_of i → ⊥) rs) others → AllOf (λ h. Each (λ (i : Incoming T). h ≡ hub_of i → ⊥) others) rs
all_apart others [] all = tt
all_apart others (None ∷ rs) all = (tt, all_apart others rs (λ k i at. (all k i at).1))
all_apart others (Some r ∷ rs) all = (λ k i at. (all k i at).0, all_apart others rs (λ k i at. (all k i at).1))

all_turned : (P Q : ℕ → Type 0) (rs : List (Option Reading)) → ((i : ℕ) → P i → Q i) → AllOf P rs → AllOf Q rs
all_turned P Q [] f h = tt
all_turned P Q (None ∷ rs) f h = (tt, all_turned P Q rs f h.1)
all_turned P Q (Some r ∷ rs) f h = (f r.hub h.0, all_turned P Q rs f h.1)

-- but at the link's number it is what the piece took in
pub elsewhere : {T : Type 0} (hubs : List (Stream T)) (others : List (Incoming T)) (last : Incoming T) (k i : ℕ) → hub_of last ≡ k → (i ≡ k → ⊥) → slice_get (taken_by stream_of hubs (map came_of others)) i ≡ slice_get (taken_by stream_of hubs (map came_of (others ++ last ∷ []))) i
elsewhere hubs others last k i hub ne =
    let cs = map came_of others in
    let last_is : map came_of (others ++ last ∷ []) ≡ cs ++ came_of last ∷ [] = map_append came_of others (last ∷ []) in
    sym (taken_more stream_of hubs cs (came_of last) i (λ e. ne (e ∙ hub))) ∙ sym (ap (λ l. slice_get (taken_by stream_of hubs l) i) last_is)

-- What the upper half took in is what the piece did, and what came over the link, which is its last; the lower half took in nothing.
pub are_shared : {M T : Type 0} (b : Machine M T) (hubs : List (Stream T)) (others : List (Incoming T)) (last : Incoming T) (k : ℕ) (ta tb whole : List (Stream T)) (upper lower : Node M) → hub_of last ≡ k →
    ta ≡ taken_by stream_of hubs (map came_of (others ++ last ∷ [])) → tb ≡ hubs → IsBlankAt hubs k → Each (λ (i : Incoming T). IsBlankAt hubs (hub_of i)) others → whole ≡ taken_by stream_of hubs (map came_of others) →
    slice_get ta k ≡ Some (stream_of (received_signals last.inlet.down)) → Each (λ (i : Incoming T). ReadsNot b (hub_of i) lower) others →
    AreShared b k ta tb whole (received_signals last.inlet.down) upper lower
are_shared {M} {T} b hubs others last k ta tb whole upper lower hub ta_is tb_is blank blanks whole_is came free =
    let cs = map came_of others in
    let apart : (i : ℕ) → (i ≡ k → ⊥) → slice_get whole i ≡ slice_get ta i = λ i ne. ap (λ l. slice_get l i) whole_is ∙ (elsewhere hubs others last k i hub ne ∙ sym (ap (λ l. slice_get l i) ta_is)) in
    let P : ℕ → Type 0 = λ h. Each (λ (i : Incoming T). h ≡ hub_of i → ⊥) others in
    let Q : ℕ → Type 0 = λ i. (i ≡ k → ⊥) → slice_get whole i ≡ slice_get tb i in
    record {
      above = record {
        others = λ i s ne at. inr (apart i ne ∙ at);
        link = λ s at. same_some _ _ (sym at ∙ came);
      };
      below = record {
        others = λ i s ne at. elim (blank_or hubs others i s blanks (sym (ap (λ l. slice_get l i) tb_is) ∙ at)) [
          | inl none ↦ inl none
          | inr there ↦ inr (ap (λ l. slice_get l i) whole_is ∙ there)
        ];
        link = λ s at. same_some _ _ (sym at ∙ (ap (λ l. slice_get l k) tb_is ∙ blank));
      };
      same_above = all_for (λ i. (i ≡ k → ⊥) → slice_get whole i ≡ slice_get ta i) (readings b upper) apart;
      same_below = all_turned P Q (readings b lower) (λ i others_apart _.
          ap (λ l. slice_get l i) whole_is
          ∙ (taken_none stream_of hubs cs i (map_none came_of (λ (c : ℕ × List (Signal T)). i ≡ c.0 → ⊥) others others_apart) ∙ sym (ap (λ l. slice_get l i) tb_is))) (all_apart others (readings b lower) free);
    }
