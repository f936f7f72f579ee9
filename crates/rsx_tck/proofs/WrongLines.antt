-- The place at which a text is refused is that of its first wrong word, and there is no other.
use Rattle.std.proofs.Common.{◌≡◌, ℕ, ◌+◌, ◌-◌, ◌<◌, ◌⊎◌, Bool, true, false, List, [], ◌∷◌, ◌++◌, length, Result, Ok, Err, lit<, refl, sym, ap, subst, ◌∙◌, append_assoc, arith, inl, inr}
use Rattle.std.proofs.Common.{Vec, Global}
use Rattle.std.specs.Prelude.{◌↔◌, IfErr, codes}
use Rattle.std.proofs.lemmas.List.{append-nil}
use Rattle.rsx_types.proofs.Lists.{same_head, same_tail}
use Rattle.rsx_types.specs.declared.signal.Cause.{Cause}
use Rattle.rsx_types.specs.declared.signal.Cause.TheVariants.{User, Function, NonPositiveRequest}
use Rattle.rsx_tck.specs.declared.event.Stamped.{Stamped}
use Rattle.rsx_tck.specs.declared.line.Kind.{Kind}
use Rattle.rsx_tck.specs.declared.line.Kind.TheVariants as kind
use Rattle.rsx_tck.specs.declared.line.Line.{Line}
use Rattle.rsx_tck.specs.declared.line.Line.TheVariants as kinds
use Rattle.rsx_tck.specs.declared.refusal.TraceRefusal.{TraceRefusal}
use Rattle.rsx_tck.specs.declared.refusal.TraceRefusal.TheVariants.{BadTrace, NoMemory}
use Rattle.rsx_tck.specs.Gives.{GivesTrace}
use Rattle.rsx_tck.specs.Texts.{lines, words, bytes_from}
use Rattle.rsx_tck.specs.Grammar.{IsCause, IsLine, AreLines, first_text, IsTrace}
use Rattle.rsx_tck.specs.FirstWrong.{Begins, GoesWrong, HasWords, IsWrongWord, MayFollow, IsColumn, IsWrongPlace, AreSomeTrace, IsFirstWrong, NamesFirstWrong}
use Rattle.rsx_tck.specs.Reading.{◌>>=◌, line_at, first_at, at_line, line_then, nothing_more, events_of, trace_of_lines, trace_of}
use Rattle.rsx_tck.proofs.Words.{joined, IsWord-number}
use Rattle.rsx_tck.proofs.KindWords.{kind_text, name_is}
use Rattle.rsx_tck.proofs.Events.{IsWord-signed, line_again, end_again, first_again}
use Rattle.rsx_tck.proofs.Sound.{signed_is, at_ok, line_sound, first_sound, trace_sound}
use Rattle.rsx_tck.proofs.Continuing.{begun, same_wrong, push_wrong, one_place}
use Rattle.rsx_tck.proofs.Parts.{AllWords, words_solid, words_line, words_joined}
use Rattle.rsx_tck.proofs.WrongWords.{Nothing, Behind, Opened, opened, SomeEvent, Stampable, LineWords, version, FirstWords, Found, kind_word, stamp, line_wrong, first_wrong}

-- ---- the words of right lines

cause_words : (ws : List (List ℕ)) (cause : Cause) → IsCause ws cause → AllWords ws
cause_words ws (User n) h = subst (λ (xs : List (List ℕ)). AllWords xs) (sym h.2) (name_is (codes "user") (lit< tt) refl, (IsWord-number 4294967295 h.0 n h.1, tt))
cause_words ws (Function n) h = subst (λ (xs : List (List ℕ)). AllWords xs) (sym h.2) (name_is (codes "function") (lit< tt) refl, (IsWord-number 4294967295 h.0 n h.1, tt))
cause_words ws NonPositiveRequest h = subst (λ (xs : List (List ℕ)). AllWords xs) (sym h) (name_is (codes "bad-request") (lit< tt) refl, tt)

nothing_words : (ws : List (List ℕ)) → Nothing ws → AllWords ws
nothing_words ws h = subst (λ (xs : List (List ℕ)). AllWords xs) (sym h) tt

behind_words : (k : Kind) (ws : List (List ℕ)) → Behind k ws → AllWords ws
behind_words kind.Subscribe ws h = nothing_words ws h
behind_words kind.OnSubscribe ws h = nothing_words ws h
behind_words kind.Next ws h = nothing_words ws h
behind_words kind.Complete ws h = nothing_words ws h
behind_words kind.Error ws h = cause_words ws h.0 h.1
behind_words kind.Exit ws h = nothing_words ws h
behind_words kind.Request ws h = subst (λ (xs : List (List ℕ)). AllWords xs) (sym h.3) (IsWord-signed h.0 h.1 (signed_is h.0 h.1 h.2), tt)
behind_words kind.Cancel ws h = nothing_words ws h
behind_words kind.CancelNew ws h = nothing_words ws h

-- words that are joined to a line, and found in it again
record Rejoins (ws : List (List ℕ)) : Type 0 where
  all : AllWords ws
  again : words (joined ws) ≡ ws

opened_again : (ws : List (List ℕ)) → Opened ws → Rejoins ws
opened_again ws o =
    let all : AllWords (kind_text o.k ∷ o.number ∷ o.tail) = ((kind_word o.k).0, (IsWord-number 4294967295 o.number o.s o.value, behind_words o.k o.tail o.more)) in
    subst (λ (xs : List (List ℕ)). Rejoins xs) (sym o.is) (record { all = all; again = words_joined (kind_text o.k) (o.number ∷ o.tail) all })

abbrev RightLine : Bool → List ℕ → Type 0
RightLine s line = (line ≡ codes "end") ⊎ ((e : Stamped) × IsLine s line e)

end_words : words (codes "end") ≡ codes "end" ∷ []
end_words = refl

to_line : (s : Bool) (ws : List (List ℕ)) → LineWords s ws → HasWords (RightLine s) ws
to_line s ws (inl e) = (codes "end", inl refl, end_words ∙ sym e)
to_line false ws (inr h) = (joined ws, inr (stamp 0 h.0, (ws, refl, h.1, refl)), (opened_again ws (opened ws h.0 h.1)).again)
to_line true ws (inr q) =
    let e = q.event in
    let others = opened_again q.more (opened q.more e.0 e.1) in
    let again : words (joined (q.worker ∷ q.more)) ≡ q.worker ∷ q.more = words_joined q.worker q.more (IsWord-number 15 q.worker q.n q.value, others.all) in
    (joined (q.worker ∷ q.more), inr (stamp q.n e.0, (q.worker, q.more, q.value, e.1, refl)), again ∙ sym q.is)

from_event : (s : Bool) (ws : List (List ℕ)) (line : List ℕ) (e : Stamped) → IsLine s line e → words line ≡ ws → Stampable s ws
from_event false ws line e h is =
    let same : h.0 ≡ ws = sym (opened_again h.0 (opened h.0 e.event h.2)).again ∙ ap words (sym h.3) ∙ is in
    subst (λ (xs : List (List ℕ)). SomeEvent xs) same (e.event, h.2)
from_event true ws line e h is =
    let others = opened_again h.1 (opened h.1 e.event h.3) in
    let again : words (joined (h.0 ∷ h.1)) ≡ h.0 ∷ h.1 = words_joined h.0 h.1 (IsWord-number 15 h.0 e.worker h.2, others.all) in
    record { worker = h.0; n = e.worker; more = h.1; value = h.2; is = sym is ∙ ap words h.4 ∙ again; event = (e.event, h.3) }

from_line : (s : Bool) (ws : List (List ℕ)) (line : List ℕ) → RightLine s line → words line ≡ ws → LineWords s ws
from_line s ws line (inl e) is = inl (sym is ∙ ap words e ∙ end_words)
from_line s ws line (inr (e, h)) is = inr (from_event s ws line e h is)

has_to : (R S : List ℕ → Type 0) (ws : List (List ℕ)) → ((line : List ℕ) → R line → S line) → HasWords R ws → HasWords S ws
has_to R S ws to (line, r, e) = (line, to line r, e)

line_of_words : (s : Bool) (ws : List (List ℕ)) → HasWords (RightLine s) ws → LineWords s ws
line_of_words s ws (line, r, e) = from_line s ws line r e

-- ---- lines that may follow

-- the lines behind the first of a trace
record Rest (s : Bool) (parts : List (List ℕ)) : Type 0 where
  events : List Stamped
  body : List (List ℕ)
  is : parts ≡ body ++ codes "end" ∷ []
  lined : AreLines s body events

only_end : (s : Bool) → Rest s (codes "end" ∷ [])
only_end s = record { events = []; body = []; is = refl; lined = tt }

no_rest : (s : Bool) (body : List (List ℕ)) → [] ≡ body ++ codes "end" ∷ [] → ⊥
no_rest s [] e = cc
no_rest s (b ∷ body) e = cc

first_of_rest : (s : Bool) (line : List ℕ) (more body : List (List ℕ)) (events : List Stamped) → line ∷ more ≡ body ++ codes "end" ∷ [] → AreLines s body events → RightLine s line
first_of_rest s line more [] events e h = inl (same_head line (codes "end") more [] e)
first_of_rest s line more (b ∷ body) [] e h = absurd h
first_of_rest s line more (b ∷ body) (x ∷ events) e h = inr (x, subst (λ (l : List ℕ). IsLine s l x) (sym (same_head line b more (body ++ codes "end" ∷ []) e)) h.0)

follows : (s : Bool) (line : List ℕ) → MayFollow (Rest s) [] line → RightLine s line
follows s line (more, r) = first_of_rest s line more r.body r.events r.is r.lined

may_follow : (s : Bool) (line : List ℕ) → RightLine s line → MayFollow (Rest s) [] line
may_follow s line (inl e) = ([], record { events = []; body = []; is = ap (λ (x : List ℕ). x ∷ []) e; lined = tt })
may_follow s line (inr (e, h)) = (codes "end" ∷ [], record { events = e ∷ []; body = line ∷ []; is = refl; lined = (h, tt) })

line_has : (s : Bool) (ws : List (List ℕ)) → LineWords s ws ↔ HasWords (MayFollow (Rest s) []) ws
line_has s ws = (
  (λ h. has_to (RightLine s) (MayFollow (Rest s) []) ws (may_follow s) (to_line s ws h)),
  (λ h. line_of_words s ws (has_to (MayFollow (Rest s) []) (RightLine s) ws (follows s) h)),
)

abbrev read_line : Line → Result Line ℕ
read_line l = Ok l

not_both : (e : Stamped) → read_line kinds.End ≡ read_line (kinds.Event e) → ⊥
not_both e h = cc

not_wrong : (l : Line) (left : ℕ) → read_line l ≡ Err left → ⊥
not_wrong l left e = cc

end_is_no_event : (s : Bool) (e : Stamped) → IsLine s (codes "end") e → ⊥
end_is_no_event s e h = not_both e (sym (end_again s) ∙ line_again s (codes "end") e h)

right_is_read : (s : Bool) (line : List ℕ) (left : ℕ) → line_at s line ≡ Err left → RightLine s line → ⊥
right_is_read s line left e (inl is) = not_wrong kinds.End left (sym (ap (line_at s) is ∙ end_again s) ∙ e)
right_is_read s line left e (inr (x, h)) = not_wrong (kinds.Event x) left (sym (line_again s line x h) ∙ e)

one_less : (s : Bool) (line : List ℕ) (ls body : List (List ℕ)) (events : List Stamped) (x : Stamped) → IsLine s line x → line ∷ ls ≡ body ++ codes "end" ∷ [] → AreLines s body events → Rest s ls
one_less s line ls [] events x l e h = absurd (end_is_no_event s x (subst (λ (y : List ℕ). IsLine s y x) (same_head line (codes "end") ls [] e) l))
one_less s line ls (b ∷ body) [] x l e h = absurd h
one_less s line ls (b ∷ body) (y ∷ events) x l e h = record { events = events; body = body; is = same_tail line b ls (body ++ codes "end" ∷ []) e; lined = h.1 }

rest_more : (s : Bool) (line : List ℕ) (e : Stamped) → IsLine s line e → (ls : List (List ℕ)) → Rest s (line ∷ ls) ↔ Rest s ls
rest_more s line e h ls = (
  (λ r. one_less s line ls r.body r.events e h r.is r.lined),
  (λ r. record { events = e ∷ r.events; body = line ∷ r.body; is = ap (λ (xs : List (List ℕ)). line ∷ xs) r.is; lined = (h, r.lined) }),
)

end_is_last : (s : Bool) (line : List ℕ) (ls body : List (List ℕ)) (events : List Stamped) → codes "end" ∷ line ∷ ls ≡ body ++ codes "end" ∷ [] → AreLines s body events → ⊥
end_is_last s line ls [] events e h = let t = same_tail (codes "end") (codes "end") (line ∷ ls) [] e in cc
end_is_last s line ls (b ∷ body) [] e h = h
end_is_last s line ls (b ∷ body) (y ∷ events) e h = end_is_no_event s y (subst (λ (x : List ℕ). IsLine s x y) (sym (same_head (codes "end") b (line ∷ ls) (body ++ codes "end" ∷ []) e)) h.0)

nothing_behind : (s : Bool) (line : List ℕ) → MayFollow (Rest s) (codes "end" ∷ []) line → ⊥
nothing_behind s line (more, r) = end_is_last s line more r.body r.events r.is r.lined

-- ---- places

word_same : (R S : List ℕ → Type 0) (line : List ℕ) (column : ℕ) → ((l : List ℕ) → R l → S l) → ((l : List ℕ) → S l → R l) → IsWrongWord R line column → IsWrongWord S line column
word_same R S line column to from w = record {
  before = w.before;
  rest = w.rest;
  split = w.split;
  wrong = same_wrong (HasWords R) (HasWords S) w.before w.rest (λ ws. (has_to R S ws to, has_to S R ws from)) w.wrong;
  place = w.place;
}

wrong_word : (P : List (List ℕ) → Type 0) (R : List ℕ → Type 0) (line : List ℕ) (left : ℕ) → ((ws : List (List ℕ)) → P ws ↔ HasWords R ws) → Found P (words line) left → IsWrongWord R line (length line - left + 1)
wrong_word P R line left same f = record {
  before = f.before;
  rest = f.rest;
  split = f.split;
  wrong = same_wrong P (HasWords R) f.before f.rest same f.wrong;
  place = ap (λ (n : ℕ). length line - n + 1) f.place;
}

push_column : (P Q : List (List ℕ) → Type 0) (x : List ℕ) (before rest : List (List ℕ)) (column : ℕ) → ((xs : List (List ℕ)) → P (x ∷ xs) ↔ Q xs) → IsColumn Q before rest column → IsColumn P (x ∷ before) rest column
push_column P Q x before [] column same c = c
push_column P Q x before (line ∷ rest) column same (inl (none, e)) =
    inl ((λ other m. none other (begun P Q (x ∷ (before ++ other ∷ [])) (before ++ other ∷ []) (λ more. (same ((before ++ other ∷ []) ++ more)).0) m)), e)
push_column P Q x before (line ∷ rest) column same (inr w) =
    inr (word_same (MayFollow Q before) (MayFollow P (x ∷ before)) line column
    (λ l m. begun Q P (before ++ l ∷ []) (x ∷ (before ++ l ∷ [])) (λ more. (same ((before ++ l ∷ []) ++ more)).1) m)
    (λ l m. begun P Q (x ∷ (before ++ l ∷ [])) (before ++ l ∷ []) (λ more. (same ((before ++ l ∷ []) ++ more)).0) m) w)

push_place : (P Q : List (List ℕ) → Type 0) (x : List ℕ) (ls : List (List ℕ)) (n column : ℕ) → ((xs : List (List ℕ)) → P (x ∷ xs) ↔ Q xs) → IsWrongPlace Q ls (n, column) → IsWrongPlace P (x ∷ ls) (n + 1, column)
push_place P Q x ls n column same w = record {
  before = x ∷ w.before;
  rest = w.rest;
  split = ap (λ (xs : List (List ℕ)). x ∷ xs) w.split;
  wrong = push_wrong P Q x w.before w.rest same w.wrong;
  number = omega (arith, w.number);
  column = push_column P Q x w.before w.rest column same w.column;
}

-- ---- reading

abbrev at_place : {A W : Type 0} → W → Result A W
at_place p = Err p

place_is : {A W : Type 0} (p q : W) → at_place {A = A} p ≡ at_place {A = A} q → p ≡ q
place_is p q e = cc

bind_wrong : {A B W : Type 0} (r : Result A W) (f : A → Result B W) (p : W) → (r >>= f) ≡ Err p → (r ≡ Err p) ⊎ ((x : A) × (r ≡ Ok x) × (f x ≡ Err p))
bind_wrong (Ok x) f p e = inr (x, refl, e)
bind_wrong {A} {B} {W} (Err w) f p e = inl (ap (λ (q : W). Err q) (place_is {A = B} w p e))

at_err : {A : Type 0} (n : ℕ) (line : List ℕ) (r : Result A ℕ) (p : ℕ × ℕ) → at_line n line r ≡ Err p → (left : ℕ) × (r ≡ Err left) × ((n, length line - left + 1) ≡ p)
at_err n line (Ok x) p e = absurd cc
at_err {A} n line (Err left) p e = (left, refl, place_is {A = A} (n, length line - left + 1) p e)

line_place : (s : Bool) (line : List ℕ) (others : List (List ℕ)) (left : ℕ) → line_at s line ≡ Err left → IsWrongPlace (Rest s) (line ∷ others) (1, length line - left + 1)
line_place s line others left e =
    let found = line_wrong s (words line) left (words_solid line) (ap (line_at s) (words_line line) ∙ e) in
    record {
      before = [];
      rest = line ∷ others;
      split = refl;
      wrong = record { begins = (codes "end" ∷ [], only_end s); stops = λ m. right_is_read s line left e (follows s line m) };
      number = refl;
      column = inr (wrong_word (LineWords s) (MayFollow (Rest s) []) line left (line_has s) found);
    }

no_line_place : (s : Bool) → IsWrongPlace (Rest s) [] (1, 1)
no_line_place s = record {
  before = [];
  rest = [];
  split = refl;
  wrong = record { begins = (codes "end" ∷ [], only_end s); stops = λ r. no_rest s r.body r.is };
  number = refl;
  column = refl;
}

late_place : (s : Bool) (line : List ℕ) (others : List (List ℕ)) → IsWrongPlace (Rest s) (codes "end" ∷ line ∷ others) (2, 1)
late_place s line others = record {
  before = codes "end" ∷ [];
  rest = line ∷ others;
  split = refl;
  wrong = record { begins = ([], only_end s); stops = nothing_behind s line };
  number = refl;
  column = inl (nothing_behind s, refl);
}

-- where lines behind the first are refused, counted from the first of them
record Refused (n : ℕ) (s : Bool) (ls : List (List ℕ)) (p : ℕ × ℕ) : Type 0 where
  number : ℕ
  counted : p.0 + 1 ≡ n + number
  place : IsWrongPlace (Rest s) ls (number, p.1)

refused_at : (n : ℕ) (s : Bool) (ls : List (List ℕ)) (number column : ℕ) (p : ℕ × ℕ) → (n + number - 1, column) ≡ p → 0 < number → IsWrongPlace (Rest s) ls (number, column) → Refused n s ls p
refused_at n s ls number column p is lt w = subst (λ (q : ℕ × ℕ). Refused n s ls q) is (record { number = number; counted = omega arith; place = w })

after_end : (n : ℕ) (s : Bool) (line : List ℕ) (others : List (List ℕ)) (p : ℕ × ℕ) → nothing_more (n + 1) others ≡ Err p → line ≡ codes "end" → Refused n s (line ∷ others) p
after_end n s line [] p e is = absurd cc
after_end n s line (other ∷ others) p e is =
    let place : (n + 1, 1) ≡ p = place_is {A = List Stamped} (n + 1, 1) p e in
    let same : (n + 2 - 1, 1) ≡ (n + 1, 1) = ap (λ (k : ℕ). (k, 1)) (omega arith) in
    refused_at n s (line ∷ other ∷ others) 2 1 p (same ∙ place) (lit< tt) (subst (λ (x : List ℕ). IsWrongPlace (Rest s) (x ∷ other ∷ others) (2, 1)) (sym is) (late_place s other others))

after_event : (n : ℕ) (s : Bool) (line : List ℕ) (others : List (List ℕ)) (p : ℕ × ℕ) (x : Stamped) → IsLine s line x → Refused (n + 1) s others p → Refused n s (line ∷ others) p
after_event n s line others p x h r = record {
  number = r.number + 1;
  counted = omega (arith, r.counted);
  place = push_place (Rest s) (Rest s) line others r.number p.1 (rest_more s line x h) r.place;
}

abbrev all_read : List Stamped → Result (List Stamped) (ℕ × ℕ)
all_read events = Ok events

no_place : (events : List Stamped) (p : ℕ × ℕ) → all_read events ≡ Err p → ⊥
no_place events p e = cc

events_place : (n : ℕ) (s : Bool) (ls : List (List ℕ)) (p : ℕ × ℕ) → events_of n s ls ≡ Err p → Refused n s ls p
unfolding events_of
events_place n s [] p e =
    let place : (n, 1) ≡ p = place_is {A = List Stamped} (n, 1) p e in
    let same : (n + 1 - 1, 1) ≡ (n, 1) = ap (λ (k : ℕ). (k, 1)) (omega arith) in
    refused_at n s [] 1 1 p (same ∙ place) (lit< tt) (no_line_place s)
events_place n s (line ∷ others) p e =
    elim (bind_wrong (at_line n line (line_at s line)) (λ read. line_then read (nothing_more (n + 1) others) (events_of (n + 1) s others)) p e) [
      | inl h ↦
          let a = at_err n line (line_at s line) p h in
          let same : (n + 1 - 1, length line - a.0 + 1) ≡ (n, length line - a.0 + 1) = ap (λ (k : ℕ). (k, length line - a.0 + 1)) (omega arith) in
          refused_at n s (line ∷ others) 1 (length line - a.0 + 1) p (same ∙ a.2) (lit< tt) (line_place s line others a.0 a.1)
      | inr h ↦ elim (line_sound s line h.0 (at_ok n line (line_at s line) h.0 h.1)) [
        | inl k ↦ after_end n s line others p (subst (λ (r : Line). line_then r (nothing_more (n + 1) others) (events_of (n + 1) s others) ≡ Err p) (sym k.0) h.2) k.1
        | inr k ↦
            let more : (events_of (n + 1) s others >>= λ es. Ok (k.0 ∷ es)) ≡ Err p = subst (λ (r : Line). line_then r (nothing_more (n + 1) others) (events_of (n + 1) s others) ≡ Err p) (sym k.1) h.2 in
            elim (bind_wrong (events_of (n + 1) s others) (λ es. Ok (k.0 ∷ es)) p more) [
              | inl f ↦ after_event n s line others p k.0 k.2 (events_place (n + 1) s others p f)
              | inr f ↦ absurd (no_place (k.0 ∷ f.0) p f.2)
            ]
      ]
    ]

-- ---- whole traces

first_words : (s : Bool) → words (first_text s) ≡ codes "trace" ∷ version s ∷ []
first_words false = refl
first_words true = refl

to_first : (ws : List (List ℕ)) → FirstWords ws → HasWords (MayFollow AreSomeTrace []) ws
to_first ws h = (first_text h.0, (codes "end" ∷ [], ([], (h.0, [], refl, tt))), first_words h.0 ∙ sym h.1)

first_follows : (line : List ℕ) → MayFollow AreSomeTrace [] line → (s : Bool) × (line ≡ first_text s)
first_follows line (more, (events, (s, body, e, h))) = (s, same_head line (first_text s) more (body ++ codes "end" ∷ []) e)

from_first : (ws : List (List ℕ)) (line : List ℕ) → MayFollow AreSomeTrace [] line → words line ≡ ws → FirstWords ws
from_first ws line m e =
    let f = first_follows line m in
    (f.0, sym e ∙ ap words f.1 ∙ first_words f.0)

first_of_words : (ws : List (List ℕ)) → HasWords (MayFollow AreSomeTrace []) ws → FirstWords ws
first_of_words ws (line, m, e) = from_first ws line m e

abbrev format : Bool → Result Bool ℕ
format s = Ok s

format_is : (s t : Bool) → format s ≡ format t → s ≡ t
format_is s t e = cc

no_format : (s : Bool) (left : ℕ) → format s ≡ Err left → ⊥
no_format s left e = cc

some_trace : AreSomeTrace (codes "trace 1" ∷ codes "end" ∷ [])
some_trace = ([], (false, [], refl, tt))

first_place : (line : List ℕ) (others : List (List ℕ)) (left : ℕ) → first_at line ≡ Err left → IsWrongPlace AreSomeTrace (line ∷ others) (1, length line - left + 1)
first_place line others left e =
    let found = first_wrong (words line) left (words_solid line) (ap first_at (words_line line) ∙ e) in
    record {
      before = [];
      rest = line ∷ others;
      split = refl;
      wrong = record {
        begins = (codes "trace 1" ∷ codes "end" ∷ [], some_trace);
        stops = λ m. let f = first_follows line m in no_format f.0 left (sym (ap first_at f.1 ∙ first_again f.0) ∙ e);
      };
      number = refl;
      column = inr (wrong_word FirstWords (MayFollow AreSomeTrace []) line left (λ ws. (to_first ws, first_of_words ws)) found);
    }

empty_place : IsWrongPlace AreSomeTrace [] (1, 1)
empty_place = record {
  before = [];
  rest = [];
  split = refl;
  wrong = record { begins = (codes "trace 1" ∷ codes "end" ∷ [], some_trace); stops = λ (events, (s, body, e, h)). absurd cc };
  number = refl;
  column = refl;
}

same_format : (s t : Bool) → first_text s ≡ first_text t → s ≡ t
same_format s t e = format_is s t (sym (first_again s) ∙ ap first_at e ∙ first_again t)

behind_first : (s : Bool) (ls : List (List ℕ)) → AreSomeTrace (first_text s ∷ ls) → Rest s ls
behind_first s ls (events, (t, body, e, h)) =
    let same : s ≡ t = same_format s t (same_head (first_text s) (first_text t) ls (body ++ codes "end" ∷ []) e) in
    record { events = events; body = body; is = same_tail (first_text s) (first_text t) ls (body ++ codes "end" ∷ []) e; lined = subst (λ (x : Bool). AreLines x body events) (sym same) h }

trace_more : (s : Bool) (ls : List (List ℕ)) → AreSomeTrace (first_text s ∷ ls) ↔ Rest s ls
trace_more s ls = (behind_first s ls, (λ r. (r.events, (s, r.body, ap (λ (xs : List (List ℕ)). first_text s ∷ xs) r.is, r.lined))))

behind_place : (s : Bool) (line : List ℕ) (others : List (List ℕ)) (p : ℕ × ℕ) → line ≡ first_text s → Refused 2 s others p → IsWrongPlace AreSomeTrace (line ∷ others) p
behind_place s line others (n, column) is r =
    let one_more : r.number + 1 ≡ n = omega (arith, r.counted) in
    let place : IsWrongPlace AreSomeTrace (first_text s ∷ others) (r.number + 1, column) = push_place AreSomeTrace (Rest s) (first_text s) others r.number column (trace_more s) r.place in
    subst (λ (x : List ℕ). IsWrongPlace AreSomeTrace (x ∷ others) (n, column)) (sym is) (subst (λ (k : ℕ). IsWrongPlace AreSomeTrace (first_text s ∷ others) (k, column)) one_more place)

pub lines_place : (ls : List (List ℕ)) (p : ℕ × ℕ) → trace_of_lines ls ≡ Err p → IsWrongPlace AreSomeTrace ls p
lines_place [] p e = subst (λ (q : ℕ × ℕ). IsWrongPlace AreSomeTrace [] q) (place_is {A = List Stamped} (1, 1) p e) empty_place
lines_place (line ∷ others) p e =
    elim (bind_wrong (at_line 1 line (first_at line)) (λ s. events_of 2 s others) p e) [
      | inl h ↦
          let a = at_err 1 line (first_at line) p h in
          subst (λ (q : ℕ × ℕ). IsWrongPlace AreSomeTrace (line ∷ others) q) a.2 (first_place line others a.0 a.1)
      | inr h ↦ behind_place h.0 line others p (first_sound line h.0 (at_ok 1 line (first_at line) h.0 h.1)) (events_place 2 h.0 others p h.2)
    ]

pub place_found : (text : List ℕ) (p : ℕ × ℕ) → trace_of text ≡ Err p → IsFirstWrong text p
unfolding trace_of
place_found text p e = lines_place (lines text) p e

-- ---- there is one place only

word_unique : (R : List ℕ → Type 0) (line : List ℕ) (c d : ℕ) → IsWrongWord R line c → IsWrongWord R line d → c ≡ d
word_unique R line c d v w =
    let one = one_place (HasWords R) v.before v.rest w.before w.rest (sym v.split ∙ w.split) v.wrong w.wrong in
    v.place ∙ ap (λ (xs : List (List ℕ)). length line - length (bytes_from xs) + 1) one.1 ∙ sym w.place

some_follows : (R : List ℕ → Type 0) (before : List (List ℕ)) → Begins (HasWords R) before → (line : List ℕ) × R line
some_follows R before (more, (line, r, e)) = (line, r)

column_unique : (P : List (List ℕ) → Type 0) (before rest : List (List ℕ)) (c d : ℕ) → IsColumn P before rest c → IsColumn P before rest d → c ≡ d
column_unique P before [] c d v w = v ∙ sym w
column_unique P before (line ∷ rest) c d (inl (none, e)) (inl (none', f)) = e ∙ sym f
column_unique P before (line ∷ rest) c d (inl (none, e)) (inr w) = let s = some_follows (MayFollow P before) w.before w.wrong.begins in absurd (none s.0 s.1)
column_unique P before (line ∷ rest) c d (inr v) (inl (none, f)) = let s = some_follows (MayFollow P before) v.before v.wrong.begins in absurd (none s.0 s.1)
column_unique P before (line ∷ rest) c d (inr v) (inr w) = word_unique (MayFollow P before) line c d v w

column_moved : (P : List (List ℕ) → Type 0) (a b c d : List (List ℕ)) (column : ℕ) → a ≡ c → b ≡ d → IsColumn P a b column → IsColumn P c d column
column_moved P a b c d column e f k = subst (λ (xs : List (List ℕ)). IsColumn P xs d column) e (subst (λ (ys : List (List ℕ)). IsColumn P a ys column) f k)

abbrev place_at : ℕ → ℕ → ℕ × ℕ
place_at line column = (line, column)

pair_is : (a b c d : ℕ) → a ≡ c → b ≡ d → place_at a b ≡ place_at c d
pair_is a b c d e f = ap (λ (x : ℕ). place_at x b) e ∙ ap (λ (y : ℕ). place_at c y) f

place_unique : (P : List (List ℕ) → Type 0) (ls : List (List ℕ)) (p q : ℕ × ℕ) → IsWrongPlace P ls p → IsWrongPlace P ls q → p ≡ q
place_unique P ls (n, c) (m, d) v w =
    let one = one_place P v.before v.rest w.before w.rest (sym v.split ∙ w.split) v.wrong w.wrong in
    let numbers : n ≡ m = v.number ∙ ap (λ (xs : List (List ℕ)). length xs + 1) one.0 ∙ sym w.number in
    let moved : IsColumn P w.before w.rest c = column_moved P v.before v.rest w.before w.rest c one.0 one.1 v.column in
    pair_is n c m d numbers (column_unique P w.before w.rest c d moved w.column)

-- what goes wrong is not right
right_goes_on : (P : List (List ℕ) → Type 0) (before rest : List (List ℕ)) → P (before ++ rest) → GoesWrong P before rest → ⊥
right_goes_on P before [] h g = g.stops (subst P (append-nil before) h)
right_goes_on P before (x ∷ rest) h g = g.stops (rest, subst P (sym (append_assoc before (x ∷ []) rest)) h)

trace_goes_on : (text : List ℕ) (events : List Stamped) (p : ℕ × ℕ) → IsTrace text events → IsFirstWrong text p → ⊥
trace_goes_on text events p h w = right_goes_on AreSomeTrace w.before w.rest (subst AreSomeTrace w.split (events, h)) w.wrong

only_place : (text : List ℕ) (p : ℕ × ℕ) (r : Result (List Stamped) (ℕ × ℕ)) → trace_of text ≡ r → IsFirstWrong text p → trace_of text ≡ Err p
only_place text p (Ok events) e w = absurd (trace_goes_on text events p (trace_sound text events e) w)
only_place text p (Err q) e w = e ∙ ap (λ (x : ℕ × ℕ). at_place x) (place_unique AreSomeTrace (lines text) q p (place_found text q e) w)

pub place_is_read : (text : List ℕ) (p : ℕ × ℕ) → IsFirstWrong text p → trace_of text ≡ Err p
place_is_read text p w = only_place text p (trace_of text) refl w

pub refusal_names : (text : List ℕ) (r : Result (Vec Stamped Global) TraceRefusal) → GivesTrace (λ v. v.items) r (trace_of text) → IfErr r (λ e. NamesFirstWrong text e)
refusal_names text (Ok v) h = tt
refusal_names text (Err (BadTrace line column)) h = place_found text (line, column) h
refusal_names text (Err NoMemory) h = tt
