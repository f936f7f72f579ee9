-- What is read is in the grammar.
use Rattle.std.proofs.Common.{◌≡◌, ℕ, suc, ◌+◌, ◌≤◌, ◌<◌, ◌⊎◌, Bool, true, false, eqb, ltb, leb, cond, List, [], ◌∷◌, ◌++◌, length, take, drop, Option, Some, None, Result, Ok, Err, refl, sym, ap, subst, ◌∙◌, arith, inl, inr}
use Rattle.std.specs.Prelude.{not, ◌&&◌, ℤ, pos, neg_ℤ, IfOk, codes}
use Rattle.std.proofs.Common.{Vec, Global}
use Rattle.rsx_tck.specs.declared.refusal.TraceRefusal.{TraceRefusal}
use Rattle.rsx_tck.specs.Gives.{GivesTrace}
use Rattle.std.specs.List.{position_or_len}
use Rattle.std.specs.Str.{bytes_eq, all_ascii_digits}
use Rattle.std.specs.Str.Parse.{digits_value}
use Rattle.std.proofs.lemmas.Bool.{ltb-true, leb-true, eqb-true, and_parts, cases_Bool}
use Rattle.std.proofs.lemmas.Bool.Decides.{nat_tests}
use Rattle.std.proofs.lemmas.List.{append-nil, take-append-drop, length-take}
use Rattle.std.proofs.lemmas.Option.{cond_some}
use Rattle.std.proofs.lemmas.Str.Parse.{tells_all_ascii_digits, numerals_by_value, IsNumeralModel}
use Rattle.rsx_types.proofs.Places.{position_or_len_le}
use Rattle.rsx_types.proofs.Lists.{same_head}
use Rattle.rsx_types.specs.declared.signal.Cause.{Cause}
use Rattle.rsx_types.specs.declared.signal.Cause.TheVariants.{User, Function, NonPositiveRequest}
use Rattle.rsx_tck.specs.declared.event.Event.{Event}
use Rattle.rsx_tck.specs.declared.event.Event.TheVariants as event
use Rattle.rsx_tck.specs.declared.event.Stamped.{Stamped}
use Rattle.rsx_tck.specs.declared.line.Kind.{Kind}
use Rattle.rsx_tck.specs.declared.line.Kind.TheVariants as kind
use Rattle.rsx_tck.specs.declared.line.Line.{Line}
use Rattle.rsx_tck.specs.declared.line.Line.TheVariants as kinds
use Rattle.rsx_tck.specs.Texts.{lines}
use Rattle.rsx_tck.specs.Reading.{◌>>=◌, behind, word_at, valued, ends, number_of, option_map_to, number_at, signed_of, signed_at, kind_of, cause_at, tail_of, event_at, stamped_at, line_at, first_at, at_line, line_then, nothing_more, events_of, trace_of_lines, trace_of}
use Rattle.rsx_tck.specs.Grammar.{u32, IsNumber, IsSigned, IsCause, IsEvent, IsLine, AreLines, first_text, IsTrace}
use Rattle.rsx_tck.proofs.KindWords.{kind_text, named, kind_is}
use Rattle.rsx_tck.proofs.Words.{space, IsWord, joined, joined_some, place_again, place-append, stamp}

-- ---- steps of reading

bind_ok : {A B W : Type 0} (r : Result A W) (f : A → Result B W) (y : B) → (r >>= f) ≡ Ok y → (x : A) × (r ≡ Ok x) × (f x ≡ Ok y)
bind_ok (Ok x) f y e = (x, refl, e)
bind_ok (Err w) f y e = absurd cc

chosen : {A : Type 0} (b : Bool) (x y z : A) → cond b x y ≡ z → ((b ≡ true) × (x ≡ z)) ⊎ ((b ≡ false) × (y ≡ z))
chosen true x y z e = inl (refl, e)
chosen false x y z e = inr (refl, e)

abbrev err : {A : Type 0} → ℕ → Result A ℕ
err w = Err w

abbrev done : {A : Type 0} → A → Result A ℕ
done x = Ok x

no_error : {A : Type 0} (w : ℕ) (x : A) → err w ≡ done x → ⊥
no_error w x e = cc

ok_is : {A : Type 0} (x y : A) → done x ≡ done y → x ≡ y
ok_is x y e = cc

-- what a reader took: a word, behind which the line goes on, ends, or has one space at its end
pub record Took (bytes w rest : List ℕ) : Type 0 where
  pub word : IsWord w
  pub parts : ((rest ≡ []) × (bytes ≡ w)) ⊎ ((rest ≡ 32 ∷ []) ⊎ ((0 < length rest) × (bytes ≡ w ++ 32 ∷ rest)))

place_none : (t : Bool) (n : ℕ) → t ≡ true → cond (not t) (1 + n) 0 ≡ 0
place_none true n e = refl
place_none false n e = absurd cc

take_solid : (bs : List ℕ) → position_or_len space (take (position_or_len space bs) bs) ≡ position_or_len space bs
take_solid [] = refl
take_solid (b ∷ bs) =
    elim (cases_Bool (space b)) [
      | inl here ↦
          let none : position_or_len space (b ∷ bs) ≡ 0 = place_none (space b) (position_or_len space bs) here in
          ap (λ (n : ℕ). position_or_len space (take n (b ∷ bs))) none ∙ sym none
      | inr other ↦
          let m = position_or_len space bs in
          let one : position_or_len space (b ∷ bs) ≡ suc m = place_again (space b) m other in
          ap (λ (n : ℕ). position_or_len space (take n (b ∷ bs))) one
          ∙ place_again (space b) (position_or_len space (take m bs)) other
          ∙ ap (λ (n : ℕ). suc n) (take_solid bs)
          ∙ sym one
    ]

drop_space : (bs : List ℕ) → (drop (position_or_len space bs) bs ≡ []) ⊎ ((r : List ℕ) × (drop (position_or_len space bs) bs ≡ 32 ∷ r))
drop_space [] = inl refl
drop_space (b ∷ bs) =
    elim (cases_Bool (space b)) [
      | inl here ↦
          let none : position_or_len space (b ∷ bs) ≡ 0 = place_none (space b) (position_or_len space bs) here in
          inr (bs, ap (λ (n : ℕ). drop n (b ∷ bs)) none ∙ ap (λ (c : ℕ). c ∷ bs) (eqb-true b 32 here))
      | inr other ↦
          let m = position_or_len space bs in
          let one : drop (position_or_len space (b ∷ bs)) (b ∷ bs) ≡ drop m bs = ap (λ (n : ℕ). drop n (b ∷ bs)) (place_again (space b) m other) in
          elim (drop_space bs) [
            | inl none ↦ inl (one ∙ none)
            | inr some ↦ inr (some.0, one ∙ some.1)
          ]
    ]

took_parts : (bytes w back : List ℕ) → bytes ≡ w ++ back → (back ≡ []) ⊎ ((r : List ℕ) × (back ≡ 32 ∷ r)) → IsWord w → Took bytes w (behind back)
took_parts bytes w [] e h word = record { word = word; parts = inl (refl, e ∙ append-nil w) }
took_parts bytes w (b ∷ []) e (inl h) word = absurd cc
took_parts bytes w (b ∷ []) e (inr h) word = record { word = word; parts = inr (inl (ap (λ (c : ℕ). c ∷ []) (same_head b 32 [] h.0 h.1))) }
took_parts bytes w (b ∷ c ∷ r) e (inl h) word = absurd cc
took_parts bytes w (b ∷ c ∷ r) e (inr h) word = record { word = word; parts = inr (inr (omega arith, e ∙ ap (λ (x : ℕ). w ++ x ∷ c ∷ r) (same_head b 32 (c ∷ r) h.0 h.1))) }

pub word_sound : (bytes w rest : List ℕ) → word_at bytes ≡ Ok (w, rest) → Took bytes w rest
unfolding word_at
word_sound bytes w rest e =
    let n = position_or_len space bytes in
    elim (chosen (eqb n 0) (Err (length bytes)) (Ok (take n bytes, behind (drop n bytes))) (Ok (w, rest)) e) [
      | inl h ↦ absurd (no_error (length bytes) (w, rest) h.1)
      | inr h ↦
          let some : 0 < n = grind (arith, nat_tests) in
          let le = position_or_len_le space bytes in
          let len : length (take n bytes) ≡ n = omega (arith, length-take n bytes) in
          let word : IsWord (take n bytes) = record { some = omega arith; solid = take_solid bytes ∙ sym len } in
          let took : Took bytes (take n bytes) (behind (drop n bytes)) = took_parts bytes (take n bytes) (drop n bytes) (sym (take-append-drop n bytes)) (drop_space bytes) word in
          subst (λ (p : List ℕ × List ℕ). Took bytes p.0 p.1) (ok_is (take n bytes, behind (drop n bytes)) (w, rest) h.1) took
    ]

valued_ok : {A : Type 0} (bytes : List ℕ) (o : Option A) (behind_it : List ℕ) (x : A) (rest : List ℕ) → valued bytes o behind_it ≡ Ok (x, rest) → (o ≡ Some x) × (behind_it ≡ rest)
valued_ok bytes None behind_it x rest e = absurd cc
valued_ok {A} bytes (Some y) behind_it x rest e =
    let p = ok_is (y, behind_it) (x, rest) e in
    (ap (λ (q : A × List ℕ). Some q.0) p, ap (λ (q : A × List ℕ). q.1) p)

ends_ok : {A : Type 0} (bytes : List ℕ) (x y : A) → ends bytes x ≡ Ok y → (bytes ≡ []) × (x ≡ y)
unfolding ends
ends_ok [] x y e = (refl, ok_is x y e)
ends_ok (b ∷ bytes) x y e = absurd cc

-- ---- the line behind a word

abbrev Starts : List (List ℕ) → Type 0
Starts [] = Unit {0}
Starts (w ∷ ws) = IsWord w

joined_place : (v : List ℕ) (vs : List (List ℕ)) → IsWord v → position_or_len space (joined (v ∷ vs)) ≡ length v
joined_place v [] h = h.solid
joined_place v (x ∷ xs) h = place-append v (joined (x ∷ xs)) h.solid

no_space : (rest : List ℕ) → rest ≡ [] → rest ≡ 32 ∷ [] → ⊥
no_space rest e f = omega (arith, ap (λ (x : List ℕ). length x) e, ap (λ (x : List ℕ). length x) f)

short : (v : List ℕ) (vs : List (List ℕ)) (rest : List ℕ) → rest ≡ [] → rest ≡ joined (v ∷ vs) → IsWord v → ⊥
short v vs rest e f h = omega (arith, joined_some v vs h.some, ap (λ (x : List ℕ). length x) e, ap (λ (x : List ℕ). length x) f)

lone : (v : List ℕ) (vs : List (List ℕ)) (rest : List ℕ) → rest ≡ 32 ∷ [] → rest ≡ joined (v ∷ vs) → IsWord v → ⊥
lone v vs rest e f h =
    let none : position_or_len space rest ≡ 0 = ap (λ (x : List ℕ). position_or_len space x) e in
    let some : position_or_len space rest ≡ length v = ap (λ (x : List ℕ). position_or_len space x) f ∙ joined_place v vs h in
    omega (arith, none, some, h.some)

onto : (bytes w rest : List ℕ) (ws : List (List ℕ)) → Took bytes w rest → rest ≡ joined ws → Starts ws → bytes ≡ joined (w ∷ ws)
onto bytes w rest [] took e s =
    elim took.parts [
      | inl h ↦ h.1
      | inr h ↦ elim h [
        | inl one ↦ absurd (no_space rest e one)
        | inr more ↦ absurd (omega (arith, more.0, ap (λ (x : List ℕ). length x) e))
      ]
    ]
onto bytes w rest (v ∷ vs) took e s =
    elim took.parts [
      | inl h ↦ absurd (short v vs rest h.0 e s)
      | inr h ↦ elim h [
        | inl one ↦ absurd (lone v vs rest one e s)
        | inr more ↦ more.1 ∙ ap (λ (x : List ℕ). w ++ 32 ∷ x) e
      ]
    ]

-- bytes that are words, joined, with a fact of the words
record Spelt (P : List (List ℕ) → Type 0) (bytes : List ℕ) : Type 0 where
  words : List (List ℕ)
  is : P words
  joins : bytes ≡ joined words
  starts : Starts words

-- ---- numbers

own : IsNumeralModel (λ ds. all_ascii_digits ds ≡ true) (digits_value 10)
own = numerals_by_value (λ ds. all_ascii_digits ds ≡ true) tells_all_ascii_digits

abbrev some_of : ℤ → Option ℤ
some_of x = Some x

some_is : (x y : ℤ) → some_of x ≡ some_of y → x ≡ y
some_is x y e = cc

pub number_is : (most : ℕ) (text : List ℕ) (n : ℕ) → number_of most text ≡ Some n → IsNumber most text n
unfolding number_of
number_is most text n e =
    let h = cond_some ((ltb 0 (length text) && all_ascii_digits text) && leb (digits_value 10 text) most) (digits_value 10 text) n e in
    let outer = and_parts (ltb 0 (length text) && all_ascii_digits text) (leb (digits_value 10 text) most) h.0 in
    let inner = and_parts (ltb 0 (length text)) (all_ascii_digits text) outer.0 in
    let some : 0 < length text = ltb-true 0 (length text) inner.0 in
    let small : digits_value 10 text ≤ most = leb-true (digits_value 10 text) most outer.1 in
    record { digits = (some, own.to text inner.1); value = h.1; small = omega (arith, small, h.1) }

number_sound : (most : ℕ) (bytes : List ℕ) (n : ℕ) (rest : List ℕ) → number_at most bytes ≡ Ok (n, rest) → (w : List ℕ) × IsNumber most w n × Took bytes w rest
unfolding number_at
number_sound most bytes n rest e =
    let b = bind_ok (word_at bytes) (λ word. valued bytes (number_of most word.0) word.1) (n, rest) e in
    let v = valued_ok bytes (number_of most b.0.0) b.0.1 n rest b.2 in
    (b.0.0, number_is most b.0.0 n v.0, subst (λ (r : List ℕ). Took bytes b.0.0 r) v.1 (word_sound bytes b.0.0 b.0.1 b.1))

mapped : (f : ℕ → ℤ) (o : Option ℕ) (z : ℤ) → option_map_to f o ≡ Some z → (n : ℕ) × (o ≡ Some n) × (f n ≡ z)
mapped f None z e = absurd cc
mapped f (Some n) z e = (n, refl, some_is (f n) z e)

pub signed_is : (text : List ℕ) (z : ℤ) → signed_of text ≡ Some z → IsSigned text z
unfolding signed_of
signed_is [] z e = absurd cc
signed_is (b ∷ text) z e =
    elim (chosen (eqb b 45) (option_map_to (λ n. neg_ℤ (pos n)) (number_of 9223372036854775808 text)) (option_map_to (λ n. pos n) (number_of 9223372036854775807 (b ∷ text))) (Some z) e) [
      | inl h ↦
          let m = mapped (λ n. neg_ℤ (pos n)) (number_of 9223372036854775808 text) z h.1 in
          inr (text, m.0, ap (λ (c : ℕ). c ∷ text) (eqb-true b 45 h.0), number_is 9223372036854775808 text m.0 m.1, sym m.2)
      | inr h ↦
          let m = mapped (λ n. pos n) (number_of 9223372036854775807 (b ∷ text)) z h.1 in
          inl (m.0, number_is 9223372036854775807 (b ∷ text) m.0 m.1, sym m.2)
    ]

signed_sound : (bytes : List ℕ) (z : ℤ) (rest : List ℕ) → signed_at bytes ≡ Ok (z, rest) → (w : List ℕ) × IsSigned w z × Took bytes w rest
unfolding signed_at
signed_sound bytes z rest e =
    let b = bind_ok (word_at bytes) (λ word. valued bytes (signed_of word.0) word.1) (z, rest) e in
    let v = valued_ok bytes (signed_of b.0.0) b.0.1 z rest b.2 in
    (b.0.0, signed_is b.0.0 z v.0, subst (λ (r : List ℕ). Took bytes b.0.0 r) v.1 (word_sound bytes b.0.0 b.0.1 b.1))

-- ---- causes

-- the branches of `cause_at`
abbrev pub function_of : List ℕ → List ℕ × List ℕ → Result (Cause × List ℕ) ℕ
function_of bytes word = cond (bytes_eq word.0 (codes "function")) (number_at u32 word.1 >>= λ n. Ok (Function n.0, n.1)) (Err (length bytes))

abbrev pub counted_of : List ℕ → List ℕ × List ℕ → Result (Cause × List ℕ) ℕ
counted_of bytes word = cond (bytes_eq word.0 (codes "user")) (number_at u32 word.1 >>= λ n. Ok (User n.0, n.1)) (function_of bytes word)

abbrev pub cause_of : List ℕ → List ℕ × List ℕ → Result (Cause × List ℕ) ℕ
cause_of bytes word = cond (bytes_eq word.0 (codes "bad-request")) (Ok (NonPositiveRequest, word.1)) (counted_of bytes word)

-- a cause of two words: its name and a number
counted_sound : (name : List ℕ) (make : ℕ → Cause) (bytes w rest : List ℕ) (cause : Cause) → ((number : List ℕ) (n : ℕ) → IsNumber u32 number n → IsCause (name ∷ number ∷ []) (make n)) → Took bytes w rest → w ≡ name → (number_at u32 rest >>= λ n. done {A = Cause × List ℕ} (make n.0, n.1)) ≡ Ok (cause, []) → Spelt (λ ws. IsCause ws cause) bytes
counted_sound name make bytes w rest cause is_so took is e =
    let c = bind_ok (number_at u32 rest) (λ n. Ok (make n.0, n.1)) (cause, []) e in
    let p = ok_is (make c.0.0, c.0.1) (cause, []) c.2 in
    let n = number_sound u32 rest c.0.0 c.0.1 c.1 in
    let last : rest ≡ joined (n.0 ∷ []) = onto rest n.0 c.0.1 [] n.2 (ap (λ (q : Cause × List ℕ). q.1) p) tt in
    let joins : bytes ≡ joined (w ∷ n.0 ∷ []) = onto bytes w rest (n.0 ∷ []) took last n.2.word in
    let spelt : IsCause (w ∷ n.0 ∷ []) (make c.0.0) = subst (λ (x : List ℕ). IsCause (x ∷ n.0 ∷ []) (make c.0.0)) (sym is) (is_so n.0 c.0.0 n.1) in
    subst (λ (x : Cause). Spelt (λ ws. IsCause ws x) bytes) (ap (λ (q : Cause × List ℕ). q.0) p) (record { words = w ∷ n.0 ∷ []; is = spelt; joins = joins; starts = took.word })

cause_sound : (bytes : List ℕ) (cause : Cause) → cause_at bytes ≡ Ok (cause, []) → Spelt (λ ws. IsCause ws cause) bytes
unfolding cause_at
cause_sound bytes cause e =
    let b = bind_ok (word_at bytes) (λ word. cause_of bytes word) (cause, []) e in
    let w = b.0.0 in
    let took = word_sound bytes w b.0.1 b.1 in
    elim (chosen (bytes_eq w (codes "bad-request")) (Ok (NonPositiveRequest, b.0.1)) (counted_of bytes b.0) (Ok (cause, [])) b.2) [
      | inl h ↦
          let p = ok_is (NonPositiveRequest, b.0.1) (cause, []) h.1 in
          let name : w ≡ codes "bad-request" = named w (codes "bad-request") h.0 in
          let joins : bytes ≡ joined (w ∷ []) = onto bytes w b.0.1 [] took (ap (λ (q : Cause × List ℕ). q.1) p) tt in
          subst (λ (c : Cause). Spelt (λ ws. IsCause ws c) bytes) (ap (λ (q : Cause × List ℕ). q.0) p) (record { words = w ∷ []; is = ap (λ (x : List ℕ). x ∷ []) name; joins = joins; starts = took.word })
      | inr h ↦ elim (chosen (bytes_eq w (codes "user")) (number_at u32 b.0.1 >>= λ n. Ok (User n.0, n.1)) (function_of bytes b.0) (Ok (cause, [])) h.1) [
        | inl k ↦ counted_sound (codes "user") (λ n. User n) bytes w b.0.1 cause (λ number n is. (number, is, refl)) took (named w (codes "user") k.0) k.1
        | inr k ↦ elim (chosen (bytes_eq w (codes "function")) (number_at u32 b.0.1 >>= λ n. Ok (Function n.0, n.1)) (Err (length bytes)) (Ok (cause, [])) k.1) [
          | inl f ↦ counted_sound (codes "function") (λ n. Function n) bytes w b.0.1 cause (λ number n is. (number, is, refl)) took (named w (codes "function") f.0) f.1
          | inr f ↦ absurd (no_error (length bytes) (cause, []) f.1)
        ]
      ]
    ]

-- ---- events

-- what stands behind the number of the subscriber
record Tail (k : Kind) (number bytes : List ℕ) (e : Event) : Type 0 where
  words : List (List ℕ)
  is : IsEvent (kind_text k ∷ number ∷ words) e
  joins : bytes ≡ joined words
  starts : Starts words

tail_plain : (k : Kind) (x : Event) (number bytes : List ℕ) (e : Event) → IsEvent (kind_text k ∷ number ∷ []) x → ends bytes x ≡ Ok e → Tail k number bytes e
tail_plain k x number bytes e is h =
    let d = ends_ok bytes x e h in
    record { words = []; is = subst (λ (y : Event). IsEvent (kind_text k ∷ number ∷ []) y) d.1 is; joins = d.0; starts = tt }

tail_sound : (k : Kind) (s : ℕ) (bytes : List ℕ) (e : Event) (number : List ℕ) → IsNumber u32 number s → tail_of k s bytes ≡ Ok e → Tail k number bytes e
unfolding tail_of
tail_sound kind.Subscribe s bytes e number h r = tail_plain kind.Subscribe (event.Subscribe s) number bytes e (number, h, refl) r
tail_sound kind.OnSubscribe s bytes e number h r = tail_plain kind.OnSubscribe (event.OnSubscribe s) number bytes e (number, h, refl) r
tail_sound kind.Next s bytes e number h r = tail_plain kind.Next (event.Next s) number bytes e (number, h, refl) r
tail_sound kind.Complete s bytes e number h r = tail_plain kind.Complete (event.Complete s) number bytes e (number, h, refl) r
tail_sound kind.Error s bytes e number h r =
    let b = bind_ok (cause_at bytes) (λ cause. ends cause.1 (event.Error s cause.0)) e r in
    let d = ends_ok b.0.1 (event.Error s b.0.0) e b.2 in
    let c = cause_sound bytes b.0.0 (b.1 ∙ ap (λ (x : List ℕ). Ok (b.0.0, x)) d.0) in
    record {
      words = c.words;
      is = subst (λ (y : Event). IsEvent (codes "error" ∷ number ∷ c.words) y) d.1 (number, c.words, h, c.is, refl);
      joins = c.joins;
      starts = c.starts;
    }
tail_sound kind.Exit s bytes e number h r = tail_plain kind.Exit (event.Exit s) number bytes e (number, h, refl) r
tail_sound kind.Request s bytes e number h r =
    let b = bind_ok (signed_at bytes) (λ n. ends n.1 (event.Request s n.0)) e r in
    let d = ends_ok b.0.1 (event.Request s b.0.0) e b.2 in
    let n = signed_sound bytes b.0.0 b.0.1 b.1 in
    record {
      words = n.0 ∷ [];
      is = subst (λ (y : Event). IsEvent (codes "request" ∷ number ∷ n.0 ∷ []) y) d.1 (number, n.0, h, n.1, refl);
      joins = onto bytes n.0 b.0.1 [] n.2 d.0 tt;
      starts = n.2.word;
    }
tail_sound kind.Cancel s bytes e number h r = tail_plain kind.Cancel (event.Cancel s) number bytes e (number, h, refl) r
tail_sound kind.CancelNew s bytes e number h r = tail_plain kind.CancelNew (event.CancelNew s) number bytes e (number, h, refl) r

-- what stands behind the word of the kind: the number of the subscriber, and more
record Behind (k : Kind) (bytes : List ℕ) (e : Event) : Type 0 where
  number : List ℕ
  words : List (List ℕ)
  is : IsEvent (kind_text k ∷ number ∷ words) e
  joins : bytes ≡ joined (number ∷ words)
  word : IsWord number

behind_sound : (k : Kind) (bytes : List ℕ) (e : Event) → (number_at u32 bytes >>= λ s. tail_of k s.0 s.1) ≡ Ok e → Behind k bytes e
behind_sound k bytes e r =
    let d = bind_ok (number_at u32 bytes) (λ s. tail_of k s.0 s.1) e r in
    let n = number_sound u32 bytes d.0.0 d.0.1 d.1 in
    let t = tail_sound k d.0.0 d.0.1 e n.0 n.1 d.2 in
    record { number = n.0; words = t.words; is = t.is; joins = onto bytes n.0 d.0.1 t.words n.2 t.joins t.starts; word = n.2.word }

event_sound : (bytes : List ℕ) (e : Event) → event_at bytes ≡ Ok e → Spelt (λ ws. IsEvent ws e) bytes
unfolding event_at
event_sound bytes e r =
    let b = bind_ok (word_at bytes) (λ word. (valued bytes (kind_of word.0) word.1 >>= λ kind. (number_at u32 kind.1 >>= λ s. tail_of kind.0 s.0 s.1))) e r in
    let took = word_sound bytes b.0.0 b.0.1 b.1 in
    let c = bind_ok (valued bytes (kind_of b.0.0) b.0.1) (λ kind. (number_at u32 kind.1 >>= λ s. tail_of kind.0 s.0 s.1)) e b.2 in
    let v = valued_ok bytes (kind_of b.0.0) b.0.1 c.0.0 c.0.1 c.1 in
    let t = behind_sound c.0.0 c.0.1 e c.2 in
    record {
      words = b.0.0 ∷ t.number ∷ t.words;
      is = subst (λ (x : List ℕ). IsEvent (x ∷ t.number ∷ t.words) e) (sym (kind_is b.0.0 c.0.0 v.0)) t.is;
      joins = onto bytes b.0.0 b.0.1 (t.number ∷ t.words) took (v.1 ∙ t.joins) t.word;
      starts = took.word;
    }

-- ---- lines

stamped_sound : (stamped : Bool) (bytes : List ℕ) (e : Stamped) → stamped_at stamped bytes ≡ Ok e → IsLine stamped bytes e
unfolding stamped_at
stamped_sound false bytes e r =
    let b = bind_ok (event_at bytes) (λ x. Ok (stamp 0 x)) e r in
    let s = event_sound bytes b.0 b.1 in
    subst (λ (x : Stamped). IsLine false bytes x) (ok_is (stamp 0 b.0) e b.2) (s.words, refl, s.is, s.joins)
stamped_sound true bytes e r =
    let b = bind_ok (number_at 15 bytes) (λ worker. (event_at worker.1 >>= λ x. Ok (stamp worker.0 x))) e r in
    let c = bind_ok (event_at b.0.1) (λ x. Ok (stamp b.0.0 x)) e b.2 in
    let n = number_sound 15 bytes b.0.0 b.0.1 b.1 in
    let s = event_sound b.0.1 c.0 c.1 in
    subst (λ (x : Stamped). IsLine true bytes x) (ok_is (stamp b.0.0 c.0) e c.2) (n.0, s.words, n.1, s.is, onto bytes n.0 b.0.1 s.words n.2 s.joins s.starts)

pub line_sound : (stamped : Bool) (bytes : List ℕ) (r : Line) → line_at stamped bytes ≡ Ok r → ((kinds.End ≡ r) × (bytes ≡ codes "end")) ⊎ ((e : Stamped) × (kinds.Event e ≡ r) × IsLine stamped bytes e)
unfolding line_at
line_sound stamped bytes r h =
    let b = bind_ok (word_at bytes) (λ word. cond (bytes_eq word.0 (codes "end")) (ends word.1 kinds.End) (stamped_at stamped bytes >>= λ e. Ok (kinds.Event e))) r h in
    elim (chosen (bytes_eq b.0.0 (codes "end")) (ends b.0.1 kinds.End) (stamped_at stamped bytes >>= λ e. Ok (kinds.Event e)) (Ok r) b.2) [
      | inl k ↦
          let d = ends_ok b.0.1 kinds.End r k.1 in
          inl (d.1, onto bytes b.0.0 b.0.1 [] (word_sound bytes b.0.0 b.0.1 b.1) d.0 tt ∙ named b.0.0 (codes "end") k.0)
      | inr k ↦
          let c = bind_ok (stamped_at stamped bytes) (λ e. Ok (kinds.Event e)) r k.1 in
          inr (c.0, ok_is (kinds.Event c.0) r c.2, stamped_sound stamped bytes c.0 c.1)
    ]

abbrev placed : {A : Type 0} → A → Result A (ℕ × ℕ)
placed x = Ok x

pub placed_is : {A : Type 0} (x y : A) → placed x ≡ placed y → x ≡ y
placed_is x y e = cc

pub at_ok : {A : Type 0} (n : ℕ) (line : List ℕ) (r : Result A ℕ) (x : A) → at_line n line r ≡ Ok x → r ≡ Ok x
at_ok {A} n line (Ok y) x e = ap (λ (z : A). Ok z) (placed_is y x e)
at_ok n line (Err w) x e = absurd cc

-- a body of lines, and `end` behind it
record Body (stamped : Bool) (ls : List (List ℕ)) (events : List Stamped) : Type 0 where
  body : List (List ℕ)
  ends_so : ls ≡ body ++ codes "end" ∷ []
  lines_so : AreLines stamped body events

body_end : (n : ℕ) (stamped : Bool) (line : List ℕ) (others : List (List ℕ)) (events : List Stamped) → nothing_more n others ≡ Ok events → line ≡ codes "end" → Body stamped (line ∷ others) events
body_end n stamped line [] [] e h = record { body = []; ends_so = ap (λ (x : List ℕ). x ∷ []) h; lines_so = tt }
body_end n stamped line [] (x ∷ events) e h = absurd cc
body_end n stamped line (other ∷ others) events e h = absurd cc

events_sound : (n : ℕ) (stamped : Bool) (ls : List (List ℕ)) (events : List Stamped) → events_of n stamped ls ≡ Ok events → Body stamped ls events
unfolding events_of
events_sound n stamped [] events e = absurd cc
events_sound n stamped (line ∷ others) events e =
    let b = bind_ok (at_line n line (line_at stamped line)) (λ read. line_then read (nothing_more (n + 1) others) (events_of (n + 1) stamped others)) events e in
    elim (line_sound stamped line b.0 (at_ok n line (line_at stamped line) b.0 b.1)) [
      | inl h ↦
          let last : nothing_more (n + 1) others ≡ Ok events = subst (λ (r : Line). line_then r (nothing_more (n + 1) others) (events_of (n + 1) stamped others) ≡ Ok events) (sym h.0) b.2 in
          body_end (n + 1) stamped line others events last h.1
      | inr h ↦
          let more : (events_of (n + 1) stamped others >>= λ es. Ok (h.0 ∷ es)) ≡ Ok events = subst (λ (r : Line). line_then r (nothing_more (n + 1) others) (events_of (n + 1) stamped others) ≡ Ok events) (sym h.1) b.2 in
          let c = bind_ok (events_of (n + 1) stamped others) (λ es. Ok (h.0 ∷ es)) events more in
          let rest = events_sound (n + 1) stamped others c.0 c.1 in
          record {
            body = line ∷ rest.body;
            ends_so = ap (λ (x : List (List ℕ)). line ∷ x) rest.ends_so;
            lines_so = subst (λ (es : List Stamped). AreLines stamped (line ∷ rest.body) es) (placed_is (h.0 ∷ c.0) events c.2) (h.2, rest.lines_so);
          }
    ]

-- the branches of `first_at`
abbrev pub second_of : List ℕ × List ℕ → List ℕ × List ℕ → Result Bool ℕ
second_of word version = cond (bytes_eq version.0 (codes "2")) (ends version.1 true) (Err (length word.1))

abbrev pub version_of : List ℕ × List ℕ → List ℕ × List ℕ → Result Bool ℕ
version_of word version = cond (bytes_eq version.0 (codes "1")) (ends version.1 false) (second_of word version)

abbrev pub first_of : List ℕ → List ℕ × List ℕ → Result Bool ℕ
first_of bytes word = cond (bytes_eq word.0 (codes "trace")) (word_at word.1 >>= λ version. version_of word version) (Err (length bytes))

-- a line of two words, of which the first is `trace`
first_joined : (bytes name rest version last : List ℕ) → Took bytes name rest → Took rest version last → last ≡ [] → name ≡ codes "trace" → bytes ≡ joined (codes "trace" ∷ version ∷ [])
first_joined bytes name rest version last took second none is =
    onto bytes name rest (version ∷ []) took (onto rest version last [] second none tt) second.word ∙ ap (λ (x : List ℕ). joined (x ∷ version ∷ [])) is

pub first_sound : (bytes : List ℕ) (stamped : Bool) → first_at bytes ≡ Ok stamped → bytes ≡ first_text stamped
unfolding first_at
first_sound bytes stamped e =
    let b = bind_ok (word_at bytes) (λ word. first_of bytes word) stamped e in
    let took = word_sound bytes b.0.0 b.0.1 b.1 in
    elim (chosen (bytes_eq b.0.0 (codes "trace")) (word_at b.0.1 >>= λ version. version_of b.0 version) (Err (length bytes)) (Ok stamped) b.2) [
      | inl h ↦
          let c = bind_ok (word_at b.0.1) (λ version. version_of b.0 version) stamped h.1 in
          let second = word_sound b.0.1 c.0.0 c.0.1 c.1 in
          let name : b.0.0 ≡ codes "trace" = named b.0.0 (codes "trace") h.0 in
          elim (chosen (bytes_eq c.0.0 (codes "1")) (ends c.0.1 false) (second_of b.0 c.0) (Ok stamped) c.2) [
            | inl k ↦
                let d = ends_ok c.0.1 false stamped k.1 in
                first_joined bytes b.0.0 b.0.1 c.0.0 c.0.1 took second d.0 name ∙ ap (λ (x : List ℕ). joined (codes "trace" ∷ x ∷ [])) (named c.0.0 (codes "1") k.0) ∙ ap first_text d.1
            | inr k ↦ elim (chosen (bytes_eq c.0.0 (codes "2")) (ends c.0.1 true) (Err (length b.0.1)) (Ok stamped) k.1) [
              | inl f ↦
                  let d = ends_ok c.0.1 true stamped f.1 in
                  first_joined bytes b.0.0 b.0.1 c.0.0 c.0.1 took second d.0 name ∙ ap (λ (x : List ℕ). joined (codes "trace" ∷ x ∷ [])) (named c.0.0 (codes "2") f.0) ∙ ap first_text d.1
              | inr f ↦ absurd (no_error (length b.0.1) stamped f.1)
            ]
          ]
      | inr h ↦ absurd (no_error (length bytes) stamped h.1)
    ]

lines_sound : (ls : List (List ℕ)) (events : List Stamped) → trace_of_lines ls ≡ Ok events → (stamped : Bool) × (body : List (List ℕ)) × (ls ≡ first_text stamped ∷ (body ++ codes "end" ∷ [])) × AreLines stamped body events
lines_sound [] events e = absurd cc
lines_sound (line ∷ others) events e =
    let b = bind_ok (at_line 1 line (first_at line)) (λ stamped. events_of 2 stamped others) events e in
    let first = first_sound line b.0 (at_ok 1 line (first_at line) b.0 b.1) in
    let rest = events_sound 2 b.0 others events b.2 in
    (b.0, rest.body, ap (λ (x : List ℕ). x ∷ others) first ∙ ap (λ (x : List (List ℕ)). first_text b.0 ∷ x) rest.ends_so, rest.lines_so)

pub trace_sound : (text : List ℕ) (events : List Stamped) → trace_of text ≡ Ok events → IsTrace text events
unfolding trace_of
trace_sound text events e = lines_sound (lines text) events e

pub read_is_trace : (text : List ℕ) (r : Result (Vec Stamped Global) TraceRefusal) → GivesTrace (λ v. v.items) r (trace_of text) → IfOk r (λ v. IsTrace text v.items)
read_is_trace text (Ok v) h = trace_sound text v.items h
read_is_trace text (Err e) h = tt
