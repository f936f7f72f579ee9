-- Where a reader refuses a line, its words go wrong at the word that it refuses.
use Rattle.std.proofs.Common.{◌≡◌, ℕ, ◌<◌, ◌⊎◌, Bool, true, false, cond, List, [], ◌∷◌, ◌++◌, length, Option, Some, None, Result, Ok, Err, lit<, refl, sym, ap, subst, ◌∙◌, arith, inl, inr}
use Rattle.std.specs.Prelude.{◌↔◌, ℤ, pos, codes}
use Rattle.std.specs.Str.{bytes_eq}
use Rattle.std.specs.Fmt.{decimal}
use Rattle.rsx_types.specs.declared.signal.Cause.{Cause}
use Rattle.rsx_types.specs.declared.signal.Cause.TheVariants.{User, Function, NonPositiveRequest}
use Rattle.rsx_tck.specs.declared.event.Event.{Event}
use Rattle.rsx_tck.specs.declared.event.Event.TheVariants as event
use Rattle.rsx_tck.specs.declared.event.Stamped.{Stamped}
use Rattle.rsx_tck.specs.declared.line.Kind.{Kind}
use Rattle.rsx_tck.specs.declared.line.Kind.TheVariants as kind
use Rattle.rsx_tck.specs.declared.line.Line.TheVariants as kinds
use Rattle.rsx_tck.specs.Texts.{bytes_from}
use Rattle.rsx_tck.specs.FirstWrong.{Begins, GoesWrong}
use Rattle.rsx_tck.specs.Reading.{◌>>=◌, word_at, valued, ends, number_of, number_at, signed_of, signed_at, kind_of, cause_at, tail_of, event_at, stamped_at, line_at, first_at}
use Rattle.rsx_tck.specs.Grammar.{u32, IsNumber, IsCause, IsEvent}
use Rattle.rsx_tck.proofs.Words.{IsWord, number_of_again, IsWord-number, not_end}
use Rattle.rsx_tck.proofs.Events.{signed_of_again}
use Rattle.rsx_tck.proofs.KindWords.{kind_text, named, kind_is, name_is}
use Rattle.std.proofs.lemmas.Slice.Eq.{bytes_eq-Decides}
use Rattle.std.proofs.lemmas.Option.{same_Some, none-some}
use Rattle.rsx_types.proofs.Lists.{same_head, same_tail}
use Rattle.rsx_tck.proofs.Traces.{number_text}
use Rattle.rsx_tck.proofs.Sound.{number_is, signed_is, cause_of, counted_of, function_of, version_of, first_of}
use Rattle.rsx_tck.proofs.Continuing.{never, push_wrong, pull_wrong}
use Rattle.rsx_tck.proofs.Parts.{AllSolid, word_missing, word_empty, word_first, ends_wrong_at}

-- ---- steps

abbrev wrong_at : {A : Type 0} → ℕ → Result A ℕ
wrong_at left = Err left

left_is : {A : Type 0} (w left : ℕ) → wrong_at {A = A} w ≡ wrong_at {A = A} left → w ≡ left
left_is w left e = cc

bind_err : {A B : Type 0} (r : Result A ℕ) (f : A → Result B ℕ) (left : ℕ) → (r >>= f) ≡ Err left → (r ≡ Err left) ⊎ ((x : A) × (r ≡ Ok x) × (f x ≡ Err left))
bind_err (Ok x) f left e = inr (x, refl, e)
bind_err {A} {B} (Err w) f left e = inl (ap (λ (n : ℕ). wrong_at n) (left_is {A = B} w left e))

bind_assoc : {A B C : Type 0} (r : Result A ℕ) (f : A → Result B ℕ) (g : B → Result C ℕ) → ((r >>= f) >>= g) ≡ (r >>= λ x. (f x >>= g))
bind_assoc (Ok x) f g = refl
bind_assoc (Err w) f g = refl

not_wrong : {A : Type 0} (x : A) (left : ℕ) → Ok x ≡ wrong_at left → ⊥
not_wrong x left e = cc

split_cond : {A B : Type 0} (t : Bool) (x y : Result A ℕ) (h : A → Result B ℕ) (left : ℕ) → (cond t x y >>= h) ≡ Err left → ((t ≡ true) × ((x >>= h) ≡ Err left)) ⊎ ((t ≡ false) × ((y >>= h) ≡ Err left))
split_cond true x y h left e = inl (refl, e)
split_cond false x y h left e = inr (refl, e)

plain_cond : {A : Type 0} (t : Bool) (x y : Result A ℕ) (left : ℕ) → cond t x y ≡ Err left → ((t ≡ true) × (x ≡ Err left)) ⊎ ((t ≡ false) × (y ≡ Err left))
plain_cond true x y left e = inl (refl, e)
plain_cond false x y left e = inr (refl, e)

valued_wrong : {A V : Type 0} (bytes : List ℕ) (o : Option V) (rest : List ℕ) (f : V × List ℕ → Result A ℕ) (left : ℕ) → (valued bytes o rest >>= f) ≡ Err left → ((o ≡ None) × (left ≡ length bytes)) ⊎ ((x : V) × (o ≡ Some x) × (f (x, rest) ≡ Err left))
valued_wrong {A} bytes None rest f left e = inl (refl, sym (left_is {A = A} (length bytes) left e))
valued_wrong bytes (Some x) rest f left e = inr (x, refl, e)

-- These words go wrong, with so many bytes left from the wrong one on.
pub record Found (P : List (List ℕ) → Type 0) (ws : List (List ℕ)) (left : ℕ) : Type 0 where
  pub before : List (List ℕ)
  pub rest : List (List ℕ)
  pub split : ws ≡ before ++ rest
  pub wrong : GoesWrong P before rest
  pub place : left ≡ length (bytes_from rest)

found_push : (P Q : List (List ℕ) → Type 0) (w : List ℕ) (ws : List (List ℕ)) (left : ℕ) → ((xs : List (List ℕ)) → P (w ∷ xs) ↔ Q xs) → Found Q ws left → Found P (w ∷ ws) left
found_push P Q w ws left same f = record {
  before = w ∷ f.before;
  rest = f.rest;
  split = ap (λ (xs : List (List ℕ)). w ∷ xs) f.split;
  wrong = push_wrong P Q w f.before f.rest same f.wrong;
  place = f.place;
}

found_missing : (P : List (List ℕ) → Type 0) (left : ℕ) → Begins P [] → ¬ P [] → left ≡ 0 → Found P [] left
found_missing P left begins none e = record { before = []; rest = []; split = refl; wrong = record { begins = begins; stops = none }; place = e }

found_here : (P : List (List ℕ) → Type 0) (w : List ℕ) (ws : List (List ℕ)) (left : ℕ) → Begins P [] → ((more : List (List ℕ)) → P (w ∷ more) → ⊥) → left ≡ length (bytes_from (w ∷ ws)) → Found P (w ∷ ws) left
found_here P w ws left begins none e = record {
  before = [];
  rest = w ∷ ws;
  split = refl;
  wrong = record { begins = begins; stops = never P (w ∷ []) none };
  place = e;
}

-- a word is read, and then more
word_step : {A : Type 0} (P : List (List ℕ) → Type 0) (ws : List (List ℕ)) (f : List ℕ × List ℕ → Result A ℕ) (left : ℕ)
    → AllSolid ws → Begins P [] → ¬ P [] → ((more : List (List ℕ)) → P ([] ∷ more) → ⊥)
    → (word_at (bytes_from ws) >>= f) ≡ Err left
    → ((w : List ℕ) (more : List (List ℕ)) → ws ≡ w ∷ more → IsWord w → AllSolid more → f (w, bytes_from more) ≡ Err left → Found P (w ∷ more) left)
    → Found P ws left
word_step {A} P [] f left solid begins none empty e next =
    let is : wrong_at {A = A} 0 ≡ wrong_at {A = A} left = subst (λ (r : Result (List ℕ × List ℕ) ℕ). (r >>= f) ≡ Err left) word_missing e in
    found_missing P left begins none (sym (left_is {A = A} 0 left is))
word_step {A} P ([] ∷ ws) f left solid begins none empty e next =
    let n = length (bytes_from ([] ∷ ws)) in
    let is : wrong_at {A = A} n ≡ wrong_at {A = A} left = subst (λ (r : Result (List ℕ × List ℕ) ℕ). (r >>= f) ≡ Err left) (word_empty ws) e in
    found_here P [] ws left begins empty (sym (left_is {A = A} n left is))
word_step P ((c ∷ w) ∷ ws) f left solid begins none empty e next =
    let word : IsWord (c ∷ w) = record { some = omega arith; solid = solid.0 } in
    next (c ∷ w) ws refl word solid.1 (subst (λ (r : Result (List ℕ × List ℕ) ℕ). (r >>= f) ≡ Err left) (word_first (c ∷ w) ws word) e)

-- a word that has a value is read, and then more
value_step : {A V : Type 0} (P : List (List ℕ) → Type 0) (o : List ℕ → Option V) (ws : List (List ℕ)) (f : V × List ℕ → Result A ℕ) (left : ℕ)
    → AllSolid ws → Begins P [] → ¬ P [] → o [] ≡ None → ((w : List ℕ) (more : List (List ℕ)) → o w ≡ None → P (w ∷ more) → ⊥)
    → (word_at (bytes_from ws) >>= λ word. (valued (bytes_from ws) (o word.0) word.1 >>= f)) ≡ Err left
    → ((w : List ℕ) (x : V) (more : List (List ℕ)) → o w ≡ Some x → AllSolid more → f (x, bytes_from more) ≡ Err left → Found P (w ∷ more) left)
    → Found P ws left
value_step P o ws f left solid begins none no_value bad e next =
    word_step P ws (λ word. (valued (bytes_from ws) (o word.0) word.1 >>= f)) left solid begins none (λ more. bad [] more no_value) e
    (λ w more is word solid' e'. elim (valued_wrong (bytes_from ws) (o w) (bytes_from more) f left e') [
      | inl h ↦ found_here P w more left begins (λ others. bad w others h.0) (h.1 ∙ ap (λ (xs : List (List ℕ)). length (bytes_from xs)) is)
      | inr h ↦ next w h.0 more h.1 solid' h.2
    ])

-- the line ends here
ends_wrong : {A : Type 0} (P : List (List ℕ) → Type 0) (ws : List (List ℕ)) (x : A) (left : ℕ) → P [] → ((w : List ℕ) (more : List (List ℕ)) → P (w ∷ more) → ⊥) → ends (bytes_from ws) x ≡ Err left → Found P ws left
unfolding ends
ends_wrong P [] x left here more e = absurd cc
ends_wrong {A} P (w ∷ ws) x left here more e =
    let n = length (bytes_from (w ∷ ws)) in
    found_here P w ws left ([], here) (more w) (sym (left_is {A = A} n left (sym (ends_wrong_at w ws x) ∙ e)))

abbrev pub Nothing : List (List ℕ) → Type 0
Nothing ws = ws ≡ []

more_than_nothing : (w : List ℕ) (more : List (List ℕ)) → Nothing (w ∷ more) → ⊥
more_than_nothing w more e = cc

-- ---- one word that has a value

abbrev pub One : {V : Type 0} → (List ℕ → Option V) → List (List ℕ) → Type 0
One {V} o ws = (w : List ℕ) × (x : V) × (o w ≡ Some x) × (ws ≡ w ∷ [])

one_none : {V : Type 0} (o : List ℕ → Option V) → One o [] → ⊥
one_none o h = let e = h.3 in cc

one_bad : {V : Type 0} (o : List ℕ → Option V) (w : List ℕ) (more : List (List ℕ)) → o w ≡ None → One o (w ∷ more) → ⊥
one_bad o w more e h = let f = h.2 in let g = h.3 in cc

one_ends : {V : Type 0} (o : List ℕ → Option V) (w : List ℕ) (x : V) → o w ≡ Some x → (xs : List (List ℕ)) → One o (w ∷ xs) ↔ Nothing xs
one_ends o w x e xs = ((λ h. let g = h.3 in cc), (λ h. (w, x, e, ap (λ (ys : List (List ℕ)). w ∷ ys) h)))

one_wrong : {A V : Type 0} (o : List ℕ → Option V) (some : List ℕ) (value : V) (ws : List (List ℕ)) (g : V → A) (left : ℕ) → o some ≡ Some value → o [] ≡ None → AllSolid ws
    → (word_at (bytes_from ws) >>= λ word. (valued (bytes_from ws) (o word.0) word.1 >>= λ n. ends n.1 (g n.0))) ≡ Err left → Found (One o) ws left
one_wrong o some value ws g left has no_value solid e =
    value_step (One o) o ws (λ n. ends n.1 (g n.0)) left solid (some ∷ [], (some, value, has, refl)) (one_none o) no_value (one_bad o) e
    (λ w x more is solid' e'. found_push (One o) Nothing w more left (one_ends o w x is) (ends_wrong Nothing more (g x) left refl more_than_nothing e'))

zero_text : (most : ℕ) → most < 18446744073709551616 → IsNumber most (decimal 0) 0
zero_text most lt = number_text most 0 (omega arith) lt

number_none : (most : ℕ) → number_of most [] ≡ None
unfolding number_of
number_none most = refl

signed_none : signed_of [] ≡ None
unfolding signed_of
signed_none = refl

number_steps : {A : Type 0} (most : ℕ) (bytes : List ℕ) (f : ℕ × List ℕ → Result A ℕ) → (number_at most bytes >>= f) ≡ (word_at bytes >>= λ word. (valued bytes (number_of most word.0) word.1 >>= f))
unfolding number_at
number_steps most bytes f = bind_assoc (word_at bytes) (λ word. valued bytes (number_of most word.0) word.1) f

signed_steps : {A : Type 0} (bytes : List ℕ) (f : ℤ × List ℕ → Result A ℕ) → (signed_at bytes >>= f) ≡ (word_at bytes >>= λ word. (valued bytes (signed_of word.0) word.1 >>= f))
unfolding signed_at
signed_steps bytes f = bind_assoc (word_at bytes) (λ word. valued bytes (signed_of word.0) word.1) f

-- ---- causes

other_name : (w name : List ℕ) → bytes_eq w name ≡ false → w ≡ name → ⊥
other_name w name f e = let t = (bytes_eq-Decides w name).1 e in cc

abbrev pub SomeCause : List (List ℕ) → Type 0
SomeCause ws = (cause : Cause) × IsCause ws cause

no_cause : (cause : Cause) → IsCause [] cause → ⊥
no_cause (User n) h = let e = h.2 in cc
no_cause (Function n) h = let e = h.2 in cc
no_cause NonPositiveRequest h = cc

-- a cause has one of three words first
cause_head : (w : List ℕ) (more : List (List ℕ)) (cause : Cause) → IsCause (w ∷ more) cause → bytes_eq w (codes "bad-request") ≡ false → bytes_eq w (codes "user") ≡ false → bytes_eq w (codes "function") ≡ false → ⊥
cause_head w more (User n) h a b c = other_name w (codes "user") b (same_head w (codes "user") more (h.0 ∷ []) h.2)
cause_head w more (Function n) h a b c = other_name w (codes "function") c (same_head w (codes "function") more (h.0 ∷ []) h.2)
cause_head w more NonPositiveRequest h a b c = other_name w (codes "bad-request") a (same_head w (codes "bad-request") more [] h)

bad_only : (xs : List (List ℕ)) (cause : Cause) → IsCause (codes "bad-request" ∷ xs) cause → Nothing xs
bad_only xs (User n) h = absurd (other_name (codes "bad-request") (codes "user") refl (same_head (codes "bad-request") (codes "user") xs (h.0 ∷ []) h.2))
bad_only xs (Function n) h = absurd (other_name (codes "bad-request") (codes "function") refl (same_head (codes "bad-request") (codes "function") xs (h.0 ∷ []) h.2))
bad_only xs NonPositiveRequest h = same_tail (codes "bad-request") (codes "bad-request") xs [] h

bad_cause : (xs : List (List ℕ)) → SomeCause (codes "bad-request" ∷ xs) ↔ Nothing xs
bad_cause xs = ((λ h. bad_only xs h.0 h.1), (λ h. (NonPositiveRequest, ap (λ (ys : List (List ℕ)). codes "bad-request" ∷ ys) h)))

user_only : (xs : List (List ℕ)) (cause : Cause) → IsCause (codes "user" ∷ xs) cause → One (number_of u32) xs
user_only xs (User n) h = (h.0, n, number_of_again u32 h.0 n h.1, same_tail (codes "user") (codes "user") xs (h.0 ∷ []) h.2)
user_only xs (Function n) h = absurd (other_name (codes "user") (codes "function") refl (same_head (codes "user") (codes "function") xs (h.0 ∷ []) h.2))
user_only xs NonPositiveRequest h = absurd (other_name (codes "user") (codes "bad-request") refl (same_head (codes "user") (codes "bad-request") xs [] h))

user_cause : (xs : List (List ℕ)) → SomeCause (codes "user" ∷ xs) ↔ One (number_of u32) xs
user_cause xs = ((λ h. user_only xs h.0 h.1), (λ h. (User h.1, (h.0, number_is u32 h.0 h.1 h.2, ap (λ (ys : List (List ℕ)). codes "user" ∷ ys) h.3))))

function_only : (xs : List (List ℕ)) (cause : Cause) → IsCause (codes "function" ∷ xs) cause → One (number_of u32) xs
function_only xs (User n) h = absurd (other_name (codes "function") (codes "user") refl (same_head (codes "function") (codes "user") xs (h.0 ∷ []) h.2))
function_only xs (Function n) h = (h.0, n, number_of_again u32 h.0 n h.1, same_tail (codes "function") (codes "function") xs (h.0 ∷ []) h.2)
function_only xs NonPositiveRequest h = absurd (other_name (codes "function") (codes "bad-request") refl (same_head (codes "function") (codes "bad-request") xs [] h))

function_cause : (xs : List (List ℕ)) → SomeCause (codes "function" ∷ xs) ↔ One (number_of u32) xs
function_cause xs = ((λ h. function_only xs h.0 h.1), (λ h. (Function h.1, (h.0, number_is u32 h.0 h.1 h.2, ap (λ (ys : List (List ℕ)). codes "function" ∷ ys) h.3))))

counted_wrong : {A : Type 0} (g : ℕ → A) (ws : List (List ℕ)) (left : ℕ) → AllSolid ws → (number_at u32 (bytes_from ws) >>= λ n. ends n.1 (g n.0)) ≡ Err left → Found (One (number_of u32)) ws left
counted_wrong g ws left solid e =
    one_wrong (number_of u32) (decimal 0) 0 ws g left (number_of_again u32 (decimal 0) 0 (zero_text u32 (lit< tt))) (number_none u32) solid
    (sym (number_steps u32 (bytes_from ws) (λ n. ends n.1 (g n.0))) ∙ e)

cause_next : {A : Type 0} (g : Cause → A) (bytes w : List ℕ) (more : List (List ℕ)) (left : ℕ) → AllSolid more → length bytes ≡ length (bytes_from (w ∷ more))
    → (cause_of bytes (w, bytes_from more) >>= λ c. ends c.1 (g c.0)) ≡ Err left → Found SomeCause (w ∷ more) left
cause_next {A} g bytes w more left solid is e =
    let rest = bytes_from more in
    elim (split_cond (bytes_eq w (codes "bad-request")) (Ok (NonPositiveRequest, rest)) (counted_of bytes (w, rest)) (λ c. ends c.1 (g c.0)) left e) [
      | inl h ↦
          subst (λ (x : List ℕ). Found SomeCause (x ∷ more) left) (sym (named w (codes "bad-request") h.0))
          (found_push SomeCause Nothing (codes "bad-request") more left bad_cause (ends_wrong Nothing more (g NonPositiveRequest) left refl more_than_nothing h.1))
      | inr h ↦ elim (split_cond (bytes_eq w (codes "user")) (number_at u32 rest >>= λ n. Ok (User n.0, n.1)) (function_of bytes (w, rest)) (λ c. ends c.1 (g c.0)) left h.1) [
        | inl k ↦
            subst (λ (x : List ℕ). Found SomeCause (x ∷ more) left) (sym (named w (codes "user") k.0))
            (found_push SomeCause (One (number_of u32)) (codes "user") more left user_cause (counted_wrong (λ n. g (User n)) more left solid
            (sym (bind_assoc (number_at u32 rest) (λ n. Ok (User n.0, n.1)) (λ c. ends c.1 (g c.0))) ∙ k.1)))
        | inr k ↦ elim (split_cond (bytes_eq w (codes "function")) (number_at u32 rest >>= λ n. Ok (Function n.0, n.1)) (Err (length bytes)) (λ c. ends c.1 (g c.0)) left k.1) [
          | inl f ↦
              subst (λ (x : List ℕ). Found SomeCause (x ∷ more) left) (sym (named w (codes "function") f.0))
              (found_push SomeCause (One (number_of u32)) (codes "function") more left function_cause (counted_wrong (λ n. g (Function n)) more left solid
              (sym (bind_assoc (number_at u32 rest) (λ n. Ok (Function n.0, n.1)) (λ c. ends c.1 (g c.0))) ∙ f.1)))
          | inr f ↦
              found_here SomeCause w more left (codes "bad-request" ∷ [], (NonPositiveRequest, refl)) (λ others c. cause_head w others c.0 c.1 h.0 k.0 f.0)
              (sym (left_is {A = A} (length bytes) left f.1) ∙ is)
        ]
      ]
    ]

cause_steps : {A : Type 0} (bytes : List ℕ) (f : Cause × List ℕ → Result A ℕ) → (cause_at bytes >>= f) ≡ (word_at bytes >>= λ word. (cause_of bytes word >>= f))
unfolding cause_at
cause_steps bytes f = bind_assoc (word_at bytes) (λ word. cause_of bytes word) f

cause_wrong : {A : Type 0} (g : Cause → A) (ws : List (List ℕ)) (left : ℕ) → AllSolid ws → (cause_at (bytes_from ws) >>= λ c. ends c.1 (g c.0)) ≡ Err left → Found SomeCause ws left
cause_wrong g ws left solid e =
    word_step SomeCause ws (λ word. (cause_of (bytes_from ws) word >>= λ c. ends c.1 (g c.0))) left solid (codes "bad-request" ∷ [], (NonPositiveRequest, refl))
    (λ h. no_cause h.0 h.1) (λ more h. cause_head [] more h.0 h.1 refl refl refl) (sym (cause_steps (bytes_from ws) (λ c. ends c.1 (g c.0))) ∙ e)
    (λ w more is word solid' e'. cause_next g (bytes_from ws) w more left solid' (ap (λ (xs : List (List ℕ)). length (bytes_from xs)) is) e')

-- ---- events

-- what stands behind the number of the subscriber
abbrev pub Behind : Kind → List (List ℕ) → Type 0
Behind kind.Subscribe ws = Nothing ws
Behind kind.OnSubscribe ws = Nothing ws
Behind kind.Next ws = Nothing ws
Behind kind.Complete ws = Nothing ws
Behind kind.Error ws = SomeCause ws
Behind kind.Exit ws = Nothing ws
Behind kind.Request ws = One signed_of ws
Behind kind.Cancel ws = Nothing ws
Behind kind.CancelNew ws = Nothing ws

tail_wrong : (k : Kind) (s : ℕ) (ws : List (List ℕ)) (left : ℕ) → AllSolid ws → tail_of k s (bytes_from ws) ≡ Err left → Found (Behind k) ws left
unfolding tail_of
tail_wrong kind.Subscribe s ws left solid e = ends_wrong Nothing ws (event.Subscribe s) left refl more_than_nothing e
tail_wrong kind.OnSubscribe s ws left solid e = ends_wrong Nothing ws (event.OnSubscribe s) left refl more_than_nothing e
tail_wrong kind.Next s ws left solid e = ends_wrong Nothing ws (event.Next s) left refl more_than_nothing e
tail_wrong kind.Complete s ws left solid e = ends_wrong Nothing ws (event.Complete s) left refl more_than_nothing e
tail_wrong kind.Error s ws left solid e = cause_wrong (λ c. event.Error s c) ws left solid e
tail_wrong kind.Exit s ws left solid e = ends_wrong Nothing ws (event.Exit s) left refl more_than_nothing e
tail_wrong kind.Request s ws left solid e =
    one_wrong signed_of (decimal 0) (pos 0) ws (λ n. event.Request s n) left (signed_of_again (decimal 0) (pos 0) (inl (0, zero_text 9223372036854775807 (lit< tt), refl))) signed_none solid
    (sym (signed_steps (bytes_from ws) (λ n. ends n.1 (event.Request s n.0))) ∙ e)
tail_wrong kind.Cancel s ws left solid e = ends_wrong Nothing ws (event.Cancel s) left refl more_than_nothing e
tail_wrong kind.CancelNew s ws left solid e = ends_wrong Nothing ws (event.CancelNew s) left refl more_than_nothing e

abbrev pub SomeEvent : List (List ℕ) → Type 0
SomeEvent ws = (e : Event) × IsEvent ws e

-- the words of an event: its kind, its subscriber, and what stands behind
pub record Opened (ws : List (List ℕ)) : Type 0 where
  pub k : Kind
  pub number : List ℕ
  pub s : ℕ
  pub tail : List (List ℕ)
  pub is : ws ≡ kind_text k ∷ number ∷ tail
  pub value : IsNumber u32 number s
  pub more : Behind k tail

pub opened : (ws : List (List ℕ)) (e : Event) → IsEvent ws e → Opened ws
opened ws (event.Subscribe s) h = record { k = kind.Subscribe; number = h.0; s = s; tail = []; is = h.2; value = h.1; more = refl }
opened ws (event.OnSubscribe s) h = record { k = kind.OnSubscribe; number = h.0; s = s; tail = []; is = h.2; value = h.1; more = refl }
opened ws (event.Next s) h = record { k = kind.Next; number = h.0; s = s; tail = []; is = h.2; value = h.1; more = refl }
opened ws (event.Complete s) h = record { k = kind.Complete; number = h.0; s = s; tail = []; is = h.2; value = h.1; more = refl }
opened ws (event.Error s cause) h = record { k = kind.Error; number = h.0; s = s; tail = h.1; is = h.4; value = h.2; more = (cause, h.3) }
opened ws (event.Exit s) h = record { k = kind.Exit; number = h.0; s = s; tail = []; is = h.2; value = h.1; more = refl }
opened ws (event.Request s n) h = record { k = kind.Request; number = h.0; s = s; tail = h.1 ∷ []; is = h.4; value = h.2; more = (h.1, n, signed_of_again h.1 n h.3, refl) }
opened ws (event.Cancel s) h = record { k = kind.Cancel; number = h.0; s = s; tail = []; is = h.2; value = h.1; more = refl }
opened ws (event.CancelNew s) h = record { k = kind.CancelNew; number = h.0; s = s; tail = []; is = h.2; value = h.1; more = refl }

closed : (k : Kind) (number : List ℕ) (s : ℕ) (tail : List (List ℕ)) → IsNumber u32 number s → Behind k tail → SomeEvent (kind_text k ∷ number ∷ tail)
closed kind.Subscribe number s tail h t = (event.Subscribe s, (number, h, ap (λ (xs : List (List ℕ)). codes "subscribe" ∷ number ∷ xs) t))
closed kind.OnSubscribe number s tail h t = (event.OnSubscribe s, (number, h, ap (λ (xs : List (List ℕ)). codes "on-subscribe" ∷ number ∷ xs) t))
closed kind.Next number s tail h t = (event.Next s, (number, h, ap (λ (xs : List (List ℕ)). codes "next" ∷ number ∷ xs) t))
closed kind.Complete number s tail h t = (event.Complete s, (number, h, ap (λ (xs : List (List ℕ)). codes "complete" ∷ number ∷ xs) t))
closed kind.Error number s tail h t = (event.Error s t.0, (number, tail, h, t.1, refl))
closed kind.Exit number s tail h t = (event.Exit s, (number, h, ap (λ (xs : List (List ℕ)). codes "exit" ∷ number ∷ xs) t))
closed kind.Request number s tail h t = (event.Request s t.1, (number, t.0, h, signed_is t.0 t.1 t.2, ap (λ (xs : List (List ℕ)). codes "request" ∷ number ∷ xs) t.3))
closed kind.Cancel number s tail h t = (event.Cancel s, (number, h, ap (λ (xs : List (List ℕ)). codes "cancel" ∷ number ∷ xs) t))
closed kind.CancelNew number s tail h t = (event.CancelNew s, (number, h, ap (λ (xs : List (List ℕ)). codes "cancel-new" ∷ number ∷ xs) t))

kind_again : (k : Kind) → kind_of (kind_text k) ≡ Some k
kind_again kind.Subscribe = refl
kind_again kind.OnSubscribe = refl
kind_again kind.Next = refl
kind_again kind.Complete = refl
kind_again kind.Error = refl
kind_again kind.Exit = refl
kind_again kind.Request = refl
kind_again kind.Cancel = refl
kind_again kind.CancelNew = refl

some_behind : (k : Kind) → (ws : List (List ℕ)) × Behind k ws
some_behind kind.Subscribe = ([], refl)
some_behind kind.OnSubscribe = ([], refl)
some_behind kind.Next = ([], refl)
some_behind kind.Complete = ([], refl)
some_behind kind.Error = (codes "bad-request" ∷ [], (NonPositiveRequest, refl))
some_behind kind.Exit = ([], refl)
some_behind kind.Request = (decimal 0 ∷ [], (decimal 0, pos 0, signed_of_again (decimal 0) (pos 0) (inl (0, zero_text 9223372036854775807 (lit< tt), refl)), refl))
some_behind kind.Cancel = ([], refl)
some_behind kind.CancelNew = ([], refl)

kind_texts : (a b : Kind) → kind_text a ≡ kind_text b → a ≡ b
kind_texts a b e = same_Some a b (sym (kind_again a) ∙ ap kind_of e ∙ kind_again b)

behind_of : (k : Kind) (number : List ℕ) (xs : List (List ℕ)) → Opened (kind_text k ∷ number ∷ xs) → Behind k xs
behind_of k number xs o =
    let rest : number ∷ xs ≡ o.number ∷ o.tail = same_tail (kind_text k) (kind_text o.k) (number ∷ xs) (o.number ∷ o.tail) o.is in
    let kinds_same : k ≡ o.k = kind_texts k o.k (same_head (kind_text k) (kind_text o.k) (number ∷ xs) (o.number ∷ o.tail) o.is) in
    subst (λ (x : Kind). Behind x xs) (sym kinds_same) (subst (λ (ys : List (List ℕ)). Behind o.k ys) (sym (same_tail number o.number xs o.tail rest)) o.more)

event_behind : (k : Kind) (number : List ℕ) (s : ℕ) → IsNumber u32 number s → (xs : List (List ℕ)) → SomeEvent (kind_text k ∷ number ∷ xs) ↔ Behind k xs
event_behind k number s h xs = ((λ e. behind_of k number xs (opened (kind_text k ∷ number ∷ xs) e.0 e.1)), (λ t. closed k number s xs h t))

no_number : (k : Kind) → Opened (kind_text k ∷ []) → ⊥
no_number k o = let t = same_tail (kind_text k) (kind_text o.k) [] (o.number ∷ o.tail) o.is in cc

bad_number : (k : Kind) (w : List ℕ) (more : List (List ℕ)) → number_of u32 w ≡ None → Opened (kind_text k ∷ w ∷ more) → ⊥
bad_number k w more none o =
    let same : w ≡ o.number = same_head w o.number more o.tail (same_tail (kind_text k) (kind_text o.k) (w ∷ more) (o.number ∷ o.tail) o.is) in
    let again = number_of_again u32 o.number o.s o.value in
    cc

no_event : Opened [] → ⊥
no_event o = let i = o.is in cc

bad_kind : (w : List ℕ) (more : List (List ℕ)) → kind_of w ≡ None → Opened (w ∷ more) → ⊥
bad_kind w more none o =
    let same : kind_of w ≡ kind_of (kind_text o.k) = ap kind_of (same_head w (kind_text o.k) more (o.number ∷ o.tail) o.is) in
    let again = kind_again o.k in
    none-some o.k (sym none ∙ same ∙ again)

number_step : {A : Type 0} (P : List (List ℕ) → Type 0) (most : ℕ) (ws : List (List ℕ)) (f : ℕ × List ℕ → Result A ℕ) (left : ℕ)
    → AllSolid ws → Begins P [] → ¬ P [] → ((w : List ℕ) (more : List (List ℕ)) → number_of most w ≡ None → P (w ∷ more) → ⊥)
    → (number_at most (bytes_from ws) >>= f) ≡ Err left
    → ((w : List ℕ) (n : ℕ) (more : List (List ℕ)) → IsNumber most w n → AllSolid more → f (n, bytes_from more) ≡ Err left → Found P (w ∷ more) left)
    → Found P ws left
number_step P most ws f left solid begins none bad e next =
    value_step P (number_of most) ws f left solid begins none (number_none most) bad (sym (number_steps most (bytes_from ws) f) ∙ e)
    (λ w n more is solid' e'. next w n more (number_is most w n is) solid' e')

number_wrong : (k : Kind) (ws : List (List ℕ)) (left : ℕ) → AllSolid ws → (number_at u32 (bytes_from ws) >>= λ s. tail_of k s.0 s.1) ≡ Err left → Found (λ xs. SomeEvent (kind_text k ∷ xs)) ws left
number_wrong k ws left solid e =
    let some = some_behind k in
    number_step (λ xs. SomeEvent (kind_text k ∷ xs)) u32 ws (λ s. tail_of k s.0 s.1) left solid
    (decimal 0 ∷ some.0, closed k (decimal 0) 0 some.0 (zero_text u32 (lit< tt)) some.1)
    (λ h. no_number k (opened (kind_text k ∷ []) h.0 h.1)) (λ w more none h. bad_number k w more none (opened (kind_text k ∷ w ∷ more) h.0 h.1)) e
    (λ w n more is solid' e'. found_push (λ xs. SomeEvent (kind_text k ∷ xs)) (Behind k) w more left (event_behind k w n is) (tail_wrong k n more left solid' e'))

pub next_zero : SomeEvent (codes "next" ∷ decimal 0 ∷ [])
next_zero = closed kind.Next (decimal 0) 0 [] (zero_text u32 (lit< tt)) refl

pub event_wrong : (ws : List (List ℕ)) (left : ℕ) → AllSolid ws → event_at (bytes_from ws) ≡ Err left → Found SomeEvent ws left
unfolding event_at
event_wrong ws left solid e =
    value_step SomeEvent kind_of ws (λ k. (number_at u32 k.1 >>= λ s. tail_of k.0 s.0 s.1)) left solid (codes "next" ∷ decimal 0 ∷ [], next_zero)
    (λ h. no_event (opened [] h.0 h.1)) refl (λ w more none h. bad_kind w more none (opened (w ∷ more) h.0 h.1)) e
    (λ w k more is solid' e'. subst (λ (x : List ℕ). Found SomeEvent (x ∷ more) left) (sym (kind_is w k is))
    (found_push SomeEvent (λ xs. SomeEvent (kind_text k ∷ xs)) (kind_text k) more left (λ xs. ((λ h. h), (λ h. h))) (number_wrong k more left solid' e')))

-- ---- lines behind the first

-- the words of an event behind the number of its worker
pub record Numbered (ws : List (List ℕ)) : Type 0 where
  pub worker : List ℕ
  pub n : ℕ
  pub more : List (List ℕ)
  pub value : IsNumber 15 worker n
  pub is : ws ≡ worker ∷ more
  pub event : SomeEvent more

abbrev pub Stampable : Bool → List (List ℕ) → Type 0
Stampable false ws = SomeEvent ws
Stampable true ws = Numbered ws

abbrev pub stamp : ℕ → Event → Stamped
stamp w e = record { worker = w; event = e }

numbered_event : (w : List ℕ) (n : ℕ) → IsNumber 15 w n → (xs : List (List ℕ)) → Numbered (w ∷ xs) ↔ SomeEvent xs
numbered_event w n h xs = (
  (λ q. subst (λ (ys : List (List ℕ)). SomeEvent ys) (sym (same_tail w q.worker xs q.more q.is)) q.event),
  (λ e. record { worker = w; n = n; more = xs; value = h; is = refl; event = e }),
)

no_numbered : Numbered [] → ⊥
no_numbered q = let i = q.is in cc

bad_worker : (w : List ℕ) (more : List (List ℕ)) → number_of 15 w ≡ None → Numbered (w ∷ more) → ⊥
bad_worker w more none q =
    let same : w ≡ q.worker = same_head w q.worker more q.more q.is in
    let again = number_of_again 15 q.worker q.n q.value in
    cc

event_only : (n : ℕ) (ws : List (List ℕ)) (left : ℕ) → AllSolid ws → (event_at (bytes_from ws) >>= λ x. Ok (stamp n x)) ≡ Err left → Found SomeEvent ws left
event_only n ws left solid e =
    elim (bind_err (event_at (bytes_from ws)) (λ x. Ok (stamp n x)) left e) [
      | inl h ↦ event_wrong ws left solid h
      | inr h ↦ absurd (not_wrong (stamp n h.0) left h.2)
    ]

zero_next : Numbered (decimal 0 ∷ codes "next" ∷ decimal 0 ∷ [])
zero_next = record { worker = decimal 0; n = 0; more = codes "next" ∷ decimal 0 ∷ []; value = zero_text 15 (lit< tt); is = refl; event = next_zero }

stamped_wrong : (s : Bool) (ws : List (List ℕ)) (left : ℕ) → AllSolid ws → stamped_at s (bytes_from ws) ≡ Err left → Found (Stampable s) ws left
unfolding stamped_at
stamped_wrong false ws left solid e = event_only 0 ws left solid e
stamped_wrong true ws left solid e =
    number_step Numbered 15 ws (λ worker. (event_at worker.1 >>= λ x. Ok (stamp worker.0 x))) left solid (decimal 0 ∷ codes "next" ∷ decimal 0 ∷ [], zero_next)
    no_numbered bad_worker e
    (λ w n more is solid' e'. found_push Numbered SomeEvent w more left (numbered_event w n is) (event_only n more left solid' e'))

pub kind_word : (k : Kind) → IsWord (kind_text k) × (bytes_eq (kind_text k) (codes "end") ≡ false)
kind_word kind.Subscribe = (name_is (codes "subscribe") (lit< tt) refl, refl)
kind_word kind.OnSubscribe = (name_is (codes "on-subscribe") (lit< tt) refl, refl)
kind_word kind.Next = (name_is (codes "next") (lit< tt) refl, refl)
kind_word kind.Complete = (name_is (codes "complete") (lit< tt) refl, refl)
kind_word kind.Error = (name_is (codes "error") (lit< tt) refl, refl)
kind_word kind.Exit = (name_is (codes "exit") (lit< tt) refl, refl)
kind_word kind.Request = (name_is (codes "request") (lit< tt) refl, refl)
kind_word kind.Cancel = (name_is (codes "cancel") (lit< tt) refl, refl)
kind_word kind.CancelNew = (name_is (codes "cancel-new") (lit< tt) refl, refl)

opened_first : (w : List ℕ) (more : List (List ℕ)) → Opened (w ∷ more) → IsWord w × (bytes_eq w (codes "end") ≡ false)
opened_first w more o = subst (λ (x : List ℕ). IsWord x × (bytes_eq x (codes "end") ≡ false)) (sym (same_head w (kind_text o.k) more (o.number ∷ o.tail) o.is)) (kind_word o.k)

-- the first word of an event's line
stampable_first : (s : Bool) (w : List ℕ) (more : List (List ℕ)) → Stampable s (w ∷ more) → IsWord w × (bytes_eq w (codes "end") ≡ false)
stampable_first false w more h = opened_first w more (opened (w ∷ more) h.0 h.1)
stampable_first true w more q =
    subst (λ (x : List ℕ). IsWord x × (bytes_eq x (codes "end") ≡ false)) (sym (same_head w q.worker more q.more q.is)) (IsWord-number 15 q.worker q.n q.value, not_end 15 q.worker q.n q.value)

no_stampable : (s : Bool) → Stampable s [] → ⊥
no_stampable false h = no_event (opened [] h.0 h.1)
no_stampable true q = no_numbered q

abbrev pub LineWords : Bool → List (List ℕ) → Type 0
LineWords s ws = (ws ≡ codes "end" ∷ []) ⊎ Stampable s ws

no_line : (s : Bool) → LineWords s [] → ⊥
no_line s (inl e) = cc
no_line s (inr q) = no_stampable s q

empty_line : (s : Bool) (more : List (List ℕ)) → LineWords s ([] ∷ more) → ⊥
empty_line s more (inl e) = other_name [] (codes "end") refl (same_head [] (codes "end") more [] e)
empty_line s more (inr q) = omega (arith, (stampable_first s [] more q).0.some)

end_only : (s : Bool) (xs : List (List ℕ)) → LineWords s (codes "end" ∷ xs) → Nothing xs
end_only s xs (inl e) = same_tail (codes "end") (codes "end") xs [] e
end_only s xs (inr q) = absurd (let f : true ≡ false = (stampable_first s (codes "end") xs q).1 in cc)

end_line : (s : Bool) (xs : List (List ℕ)) → LineWords s (codes "end" ∷ xs) ↔ Nothing xs
end_line s xs = ((λ h. end_only s xs h), (λ e. inl (ap (λ (ys : List (List ℕ)). codes "end" ∷ ys) e)))

event_words : (s : Bool) (w : List ℕ) (xs : List (List ℕ)) → bytes_eq w (codes "end") ≡ false → LineWords s (w ∷ xs) → Stampable s (w ∷ xs)
event_words s w xs other (inl e) = absurd (other_name w (codes "end") other (same_head w (codes "end") xs [] e))
event_words s w xs other (inr q) = q

-- words that go wrong do so for what is right just where it begins with the same word
swap_parts : (P Q : List (List ℕ) → Type 0) (w : List ℕ) (more : List (List ℕ)) (left : ℕ) (before rest : List (List ℕ)) → ((xs : List (List ℕ)) → P (w ∷ xs) ↔ Q (w ∷ xs)) → Begins Q []
    → w ∷ more ≡ before ++ rest → GoesWrong P before rest → left ≡ length (bytes_from rest) → Found Q (w ∷ more) left
swap_parts P Q w more left [] [] same begins split wrong place = absurd cc
swap_parts P Q w more left [] (r ∷ rs) same begins split wrong place =
    found_here Q w more left begins (λ others q. wrong.stops (subst (λ (x : List ℕ). Begins P (x ∷ [])) (same_head w r more rs split) (others, (same others).1 q)))
    (place ∙ sym (ap (λ (xs : List (List ℕ)). length (bytes_from xs)) split))
swap_parts P Q w more left (b ∷ bs) rest same begins split wrong place =
    let first : w ≡ b = same_head w b more (bs ++ rest) split in
    let pulled = pull_wrong P w bs rest (subst (λ (x : List ℕ). GoesWrong P (x ∷ bs) rest) (sym first) wrong) in
    record {
      before = w ∷ bs;
      rest = rest;
      split = split ∙ ap (λ (x : List ℕ). x ∷ (bs ++ rest)) (sym first);
      wrong = push_wrong Q (λ xs. P (w ∷ xs)) w bs rest (λ xs. ((same xs).1, (same xs).0)) pulled;
      place = place;
    }

swap : (P Q : List (List ℕ) → Type 0) (w : List ℕ) (more : List (List ℕ)) (left : ℕ) → ((xs : List (List ℕ)) → P (w ∷ xs) ↔ Q (w ∷ xs)) → Begins Q [] → Found P (w ∷ more) left → Found Q (w ∷ more) left
swap P Q w more left same begins f = swap_parts P Q w more left f.before f.rest same begins f.split f.wrong f.place

line_next : (s : Bool) (ws : List (List ℕ)) (w : List ℕ) (more : List (List ℕ)) (left : ℕ) → AllSolid ws → AllSolid more → ws ≡ w ∷ more
    → cond (bytes_eq w (codes "end")) (ends (bytes_from more) kinds.End) (stamped_at s (bytes_from ws) >>= λ x. Ok (kinds.Event x)) ≡ Err left → Found (LineWords s) (w ∷ more) left
line_next s ws w more left solid solid' is e =
    elim (plain_cond (bytes_eq w (codes "end")) (ends (bytes_from more) kinds.End) (stamped_at s (bytes_from ws) >>= λ x. Ok (kinds.Event x)) left e) [
      | inl h ↦
          subst (λ (x : List ℕ). Found (LineWords s) (x ∷ more) left) (sym (named w (codes "end") h.0))
          (found_push (LineWords s) Nothing (codes "end") more left (end_line s) (ends_wrong Nothing more kinds.End left refl more_than_nothing h.1))
      | inr h ↦ elim (bind_err (stamped_at s (bytes_from ws)) (λ x. Ok (kinds.Event x)) left h.1) [
        | inl k ↦
            swap (Stampable s) (LineWords s) w more left (λ xs. ((λ q. inr q), (λ q. event_words s w xs h.0 q))) (codes "end" ∷ [], inl refl)
            (subst (λ (xs : List (List ℕ)). Found (Stampable s) xs left) is (stamped_wrong s ws left solid k))
        | inr k ↦ absurd (not_wrong (kinds.Event k.0) left k.2)
      ]
    ]

pub line_wrong : (s : Bool) (ws : List (List ℕ)) (left : ℕ) → AllSolid ws → line_at s (bytes_from ws) ≡ Err left → Found (LineWords s) ws left
unfolding line_at
line_wrong s ws left solid e =
    word_step (LineWords s) ws (λ word. cond (bytes_eq word.0 (codes "end")) (ends word.1 kinds.End) (stamped_at s (bytes_from ws) >>= λ x. Ok (kinds.Event x))) left solid
    (codes "end" ∷ [], inl refl) (no_line s) (empty_line s) e
    (λ w more is word solid' e'. line_next s ws w more left solid solid' is e')

-- ---- the first line

abbrev pub version : Bool → List ℕ
version false = codes "1"
version true = codes "2"

abbrev pub FirstWords : List (List ℕ) → Type 0
FirstWords ws = (s : Bool) × (ws ≡ codes "trace" ∷ version s ∷ [])

abbrev Version : List (List ℕ) → Type 0
Version ws = (s : Bool) × (ws ≡ version s ∷ [])

no_version : Version [] → ⊥
no_version h = let e = h.1 in cc

bad_version : (w : List ℕ) (more : List (List ℕ)) (s : Bool) → bytes_eq w (codes "1") ≡ false → bytes_eq w (codes "2") ≡ false → w ∷ more ≡ version s ∷ [] → ⊥
bad_version w more false a b e = other_name w (codes "1") a (same_head w (codes "1") more [] e)
bad_version w more true a b e = other_name w (codes "2") b (same_head w (codes "2") more [] e)

version_ends : (s : Bool) (xs : List (List ℕ)) → Version (version s ∷ xs) ↔ Nothing xs
version_ends s xs = ((λ h. same_tail (version s) (version h.0) xs [] h.1), (λ e. (s, ap (λ (ys : List (List ℕ)). version s ∷ ys) e)))

version_next : (bytes : List ℕ) (w : List ℕ) (more : List (List ℕ)) (left : ℕ) → AllSolid more → length bytes ≡ length (bytes_from (w ∷ more))
    → cond (bytes_eq w (codes "1")) (ends (bytes_from more) false) (cond (bytes_eq w (codes "2")) (ends (bytes_from more) true) (Err (length bytes))) ≡ Err left → Found Version (w ∷ more) left
version_next bytes w more left solid is e =
    elim (plain_cond (bytes_eq w (codes "1")) (ends (bytes_from more) false) (cond (bytes_eq w (codes "2")) (ends (bytes_from more) true) (Err (length bytes))) left e) [
      | inl h ↦
          subst (λ (x : List ℕ). Found Version (x ∷ more) left) (sym (named w (codes "1") h.0))
          (found_push Version Nothing (codes "1") more left (version_ends false) (ends_wrong Nothing more false left refl more_than_nothing h.1))
      | inr h ↦ elim (plain_cond (bytes_eq w (codes "2")) (ends (bytes_from more) true) (Err (length bytes)) left h.1) [
        | inl k ↦
            subst (λ (x : List ℕ). Found Version (x ∷ more) left) (sym (named w (codes "2") k.0))
            (found_push Version Nothing (codes "2") more left (version_ends true) (ends_wrong Nothing more true left refl more_than_nothing k.1))
        | inr k ↦
            found_here Version w more left (codes "1" ∷ [], (false, refl)) (λ others v. bad_version w others v.0 h.0 k.0 v.1)
            (sym (left_is {A = Bool} (length bytes) left k.1) ∙ is)
      ]
    ]

no_first : FirstWords [] → ⊥
no_first h = let e = h.1 in cc

trace_first : (w : List ℕ) (more : List (List ℕ)) → bytes_eq w (codes "trace") ≡ false → FirstWords (w ∷ more) → ⊥
trace_first w more other h = other_name w (codes "trace") other (same_head w (codes "trace") more (version h.0 ∷ []) h.1)

trace_version : (xs : List (List ℕ)) → FirstWords (codes "trace" ∷ xs) ↔ Version xs
trace_version xs = ((λ h. (h.0, same_tail (codes "trace") (codes "trace") xs (version h.0 ∷ []) h.1)), (λ h. (h.0, ap (λ (ys : List (List ℕ)). codes "trace" ∷ ys) h.1)))

first_next : (bytes : List ℕ) (w : List ℕ) (more : List (List ℕ)) (left : ℕ) → AllSolid more → length bytes ≡ length (bytes_from (w ∷ more))
    → first_of bytes (w, bytes_from more) ≡ Err left → Found FirstWords (w ∷ more) left
first_next bytes w more left solid is e =
    let rest = bytes_from more in
    elim (plain_cond (bytes_eq w (codes "trace")) (word_at rest >>= λ v. version_of (w, rest) v) (Err (length bytes)) left e) [
      | inl h ↦
          subst (λ (x : List ℕ). Found FirstWords (x ∷ more) left) (sym (named w (codes "trace") h.0))
          (found_push FirstWords Version (codes "trace") more left trace_version
          (word_step Version more (λ v. version_of (w, rest) v) left solid (codes "1" ∷ [], (false, refl)) no_version (λ others v. bad_version [] others v.0 refl refl v.1) h.1
          (λ v others is' word solid' e'. version_next rest v others left solid' (ap (λ (xs : List (List ℕ)). length (bytes_from xs)) is') e')))
      | inr h ↦
          found_here FirstWords w more left (codes "trace" ∷ codes "1" ∷ [], (false, refl)) (λ others f. trace_first w others h.0 f)
          (sym (left_is {A = Bool} (length bytes) left h.1) ∙ is)
    ]

pub first_wrong : (ws : List (List ℕ)) (left : ℕ) → AllSolid ws → first_at (bytes_from ws) ≡ Err left → Found FirstWords ws left
unfolding first_at
first_wrong ws left solid e =
    word_step FirstWords ws (λ word. first_of (bytes_from ws) word) left solid (codes "trace" ∷ codes "1" ∷ [], (false, refl)) no_first (λ more f. trace_first [] more refl f) e
    (λ w more is word solid' e'. first_next (bytes_from ws) w more left solid' (ap (λ (xs : List (List ℕ)). length (bytes_from xs)) is) e')
