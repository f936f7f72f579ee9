-- The lines of the grammar are read as their events.
use Rattle.std.proofs.Common.{◌≡◌, ℕ, Bool, true, false, List, [], ◌∷◌, Option, Some, None, Ok, lit<, refl, sym, ap, ◌∙◌, arith, inl, inr}
use Rattle.std.specs.Prelude.{ℤ, pos, neg_ℤ, codes, ◌==◌}
use Rattle.std.specs.Str.{bytes_eq}
use Rattle.rsx_types.specs.declared.signal.Cause.{Cause}
use Rattle.rsx_types.specs.declared.signal.Cause.TheVariants.{User, Function, NonPositiveRequest}
use Rattle.rsx_tck.specs.declared.event.Event.{Event}
use Rattle.rsx_tck.specs.declared.event.Event.TheVariants as event
use Rattle.rsx_tck.specs.declared.event.Stamped.{Stamped}
use Rattle.rsx_tck.specs.declared.line.Kind.{Kind}
use Rattle.rsx_tck.specs.declared.line.Kind.TheVariants as kind
use Rattle.rsx_tck.specs.declared.line.Line.TheVariants as kinds
use Rattle.rsx_tck.specs.Reading.{word_at, ends, number_of, number_at, signed_of, signed_at, kind_of, cause_at, tail_of, event_at, stamped_at, line_at, first_at}
use Rattle.rsx_tck.specs.Grammar.{u32, IsNumber, IsSigned, IsCause, IsPlain, IsEvent, IsLine, first_text}
use Rattle.rsx_tck.proofs.KindWords.{kind_text, kind_named, name_is}
use Rattle.rsx_tck.proofs.Words.{IsWord, StartWell, joined, word_again, number_again, number_of_again, IsWord-number, IsWord-minus, no_minus, not_end, stamp}

-- ---- a number with a sign

plain_sign : (b : ℕ) (text : List ℕ) (n : ℕ) → (b == 45) ≡ false → number_of 9223372036854775807 (b ∷ text) ≡ Some n → signed_of (b ∷ text) ≡ Some (pos n)
unfolding signed_of
plain_sign b text n e f = rw (e, f) refl

minus_sign : (text : List ℕ) (n : ℕ) → number_of 9223372036854775808 text ≡ Some n → signed_of (45 ∷ text) ≡ Some (neg_ℤ (pos n))
unfolding signed_of
minus_sign text n f = rw f refl

plain_again : (text : List ℕ) (n : ℕ) → IsNumber 9223372036854775807 text n → signed_of text ≡ Some (pos n)
plain_again [] n h = absurd (omega (arith, h.digits.0))
plain_again (b ∷ text) n h = plain_sign b text n (no_minus 9223372036854775807 b text n h) (number_of_again 9223372036854775807 (b ∷ text) n h)

pub signed_of_again : (text : List ℕ) (z : ℤ) → IsSigned text z → signed_of text ≡ Some z
signed_of_again text z (inl h) = plain_again text h.0 h.1 ∙ ap (λ (y : ℤ). Some y) (sym h.2)
signed_of_again text z (inr h) = ap signed_of h.2 ∙ minus_sign h.0 h.1 (number_of_again 9223372036854775808 h.0 h.1 h.3) ∙ ap (λ (y : ℤ). Some y) (sym h.4)

pub IsWord-signed : (text : List ℕ) (z : ℤ) → IsSigned text z → IsWord text
IsWord-signed text z (inl h) = IsWord-number 9223372036854775807 text h.0 h.1
IsWord-signed text z (inr h) = rw h.2 (IsWord-minus h.0 (IsWord-number 9223372036854775808 h.0 h.1 h.3))

signed_steps : (bytes w rest : List ℕ) (z : ℤ) → word_at bytes ≡ Ok (w, rest) → signed_of w ≡ Some z → signed_at bytes ≡ Ok (z, rest)
unfolding signed_at
signed_steps bytes w rest z e f = rw (e, f) refl

signed_again : (text : List ℕ) (z : ℤ) (ws : List (List ℕ)) → IsSigned text z → StartWell ws → signed_at (joined (text ∷ ws)) ≡ Ok (z, joined ws)
signed_again text z ws h s = signed_steps (joined (text ∷ ws)) text (joined ws) z (word_again text ws (IsWord-signed text z h) s) (signed_of_again text z h)

-- ---- a cause

bad_steps : (bytes w rest : List ℕ) → word_at bytes ≡ Ok (w, rest) → bytes_eq w (codes "bad-request") ≡ true → cause_at bytes ≡ Ok (NonPositiveRequest, rest)
unfolding cause_at
bad_steps bytes w rest e f = rw (e, f) refl

user_steps : (bytes w rest more : List ℕ) (n : ℕ) → word_at bytes ≡ Ok (w, rest) → bytes_eq w (codes "bad-request") ≡ false → bytes_eq w (codes "user") ≡ true → number_at u32 rest ≡ Ok (n, more) → cause_at bytes ≡ Ok (User n, more)
unfolding cause_at
user_steps bytes w rest more n e f g h = rw (e, f, g, h) refl

function_steps : (bytes w rest more : List ℕ) (n : ℕ) → word_at bytes ≡ Ok (w, rest) → bytes_eq w (codes "bad-request") ≡ false → bytes_eq w (codes "user") ≡ false → bytes_eq w (codes "function") ≡ true → number_at u32 rest ≡ Ok (n, more) → cause_at bytes ≡ Ok (Function n, more)
unfolding cause_at
function_steps bytes w rest more n e f g h k = rw (e, f, g, h, k) refl

cause_again : (ws : List (List ℕ)) (cause : Cause) → IsCause ws cause → cause_at (joined ws) ≡ Ok (cause, [])
cause_again ws (User n) h =
    let first = word_again (codes "user") (h.0 ∷ []) (name_is (codes "user") (lit< tt) refl) (IsWord-number u32 h.0 n h.1).some in
    ap (λ (x : List (List ℕ)). cause_at (joined x)) h.2 ∙ user_steps (joined (codes "user" ∷ h.0 ∷ [])) (codes "user") (joined (h.0 ∷ [])) [] n first refl refl (number_again u32 h.0 n [] h.1 tt)
cause_again ws (Function n) h =
    let first = word_again (codes "function") (h.0 ∷ []) (name_is (codes "function") (lit< tt) refl) (IsWord-number u32 h.0 n h.1).some in
    ap (λ (x : List (List ℕ)). cause_at (joined x)) h.2 ∙ function_steps (joined (codes "function" ∷ h.0 ∷ [])) (codes "function") (joined (h.0 ∷ [])) [] n first refl refl refl (number_again u32 h.0 n [] h.1 tt)
cause_again ws NonPositiveRequest h =
    let first = word_again (codes "bad-request") [] (name_is (codes "bad-request") (lit< tt) refl) tt in
    ap (λ (x : List (List ℕ)). cause_at (joined x)) h ∙ bad_steps (joined (codes "bad-request" ∷ [])) (codes "bad-request") [] first refl

-- a cause begins with a word
StartWell-cause : (ws : List (List ℕ)) (cause : Cause) → IsCause ws cause → StartWell ws
StartWell-cause ws (User n) h = rw h.2 (lit< tt)
StartWell-cause ws (Function n) h = rw h.2 (lit< tt)
StartWell-cause ws NonPositiveRequest h = rw h (lit< tt)

-- ---- an event

event_steps : (bytes w rest more : List ℕ) (k : Kind) (s : ℕ) → word_at bytes ≡ Ok (w, rest) → kind_of w ≡ Some k → number_at u32 rest ≡ Ok (s, more) → event_at bytes ≡ tail_of k s more
unfolding event_at
event_steps bytes w rest more k s e f g = rw (e, f, g) refl

-- the event of a kind whose lines end with the number of the subscriber
abbrev plain_of : Kind → ℕ → Option Event
plain_of kind.Subscribe s = Some (event.Subscribe s)
plain_of kind.OnSubscribe s = Some (event.OnSubscribe s)
plain_of kind.Next s = Some (event.Next s)
plain_of kind.Complete s = Some (event.Complete s)
plain_of kind.Error s = None
plain_of kind.Exit s = Some (event.Exit s)
plain_of kind.Request s = None
plain_of kind.Cancel s = Some (event.Cancel s)
plain_of kind.CancelNew s = Some (event.CancelNew s)

plain_done : (k : Kind) (s : ℕ) (e : Event) → plain_of k s ≡ Some e → tail_of k s [] ≡ Ok e
unfolding tail_of ends
plain_done kind.Subscribe s e h = cc
plain_done kind.OnSubscribe s e h = cc
plain_done kind.Next s e h = cc
plain_done kind.Complete s e h = cc
plain_done kind.Error s e h = absurd cc
plain_done kind.Exit s e h = cc
plain_done kind.Request s e h = absurd cc
plain_done kind.Cancel s e h = cc
plain_done kind.CancelNew s e h = cc

error_done : (s : ℕ) (bytes : List ℕ) (cause : Cause) → cause_at bytes ≡ Ok (cause, []) → tail_of kind.Error s bytes ≡ Ok (event.Error s cause)
unfolding tail_of ends
error_done s bytes cause e = rw e refl

request_done : (s : ℕ) (bytes : List ℕ) (n : ℤ) → signed_at bytes ≡ Ok (n, []) → tail_of kind.Request s bytes ≡ Ok (event.Request s n)
unfolding tail_of ends
request_done s bytes n e = rw e refl

-- what a line of an event begins with, and what it is read as
pub record Reads (ws : List (List ℕ)) (e : Event) : Type 0 where
  pub first : List ℕ
  pub rest : List ℕ
  pub some : StartWell ws
  pub begins : word_at (joined ws) ≡ Ok (first, rest)
  pub not-end : bytes_eq first (codes "end") ≡ false
  pub whole : event_at (joined ws) ≡ Ok e

-- a line that begins with the word of a kind and the number of a subscriber
Reads-kind : (k : Kind) (ws more : List (List ℕ)) (number : List ℕ) (s : ℕ) (e : Event) → IsNumber u32 number s → StartWell more → tail_of k s (joined more) ≡ Ok e → ws ≡ kind_text k ∷ number ∷ more → Reads ws e
Reads-kind k ws more number s e n start done is =
    let known = kind_named k in
    let first = word_again (kind_text k) (number ∷ more) known.word (IsWord-number u32 number s n).some in
    record {
      first = kind_text k;
      rest = joined (number ∷ more);
      some = rw is known.word.some;
      begins = ap (λ (x : List (List ℕ)). word_at (joined x)) is ∙ first;
      not-end = known.not-end;
      whole = ap (λ (x : List (List ℕ)). event_at (joined x)) is
          ∙ event_steps (joined (kind_text k ∷ number ∷ more)) (kind_text k) (joined (number ∷ more)) (joined more) k s first known.kind (number_again u32 number s more n start)
          ∙ done;
    }

Reads-plain : (k : Kind) (ws : List (List ℕ)) (s : ℕ) (e : Event) → plain_of k s ≡ Some e → IsPlain (kind_text k) ws s → Reads ws e
Reads-plain k ws s e is h = Reads-kind k ws [] h.0 s e h.1 tt (plain_done k s e is) h.2

pub Reads-event : (ws : List (List ℕ)) (e : Event) → IsEvent ws e → Reads ws e
Reads-event ws (event.Subscribe s) h = Reads-plain kind.Subscribe ws s (event.Subscribe s) refl h
Reads-event ws (event.OnSubscribe s) h = Reads-plain kind.OnSubscribe ws s (event.OnSubscribe s) refl h
Reads-event ws (event.Next s) h = Reads-plain kind.Next ws s (event.Next s) refl h
Reads-event ws (event.Complete s) h = Reads-plain kind.Complete ws s (event.Complete s) refl h
Reads-event ws (event.Error s cause) h =
    Reads-kind kind.Error ws h.1 h.0 s (event.Error s cause) h.2 (StartWell-cause h.1 cause h.3) (error_done s (joined h.1) cause (cause_again h.1 cause h.3)) h.4
Reads-event ws (event.Exit s) h = Reads-plain kind.Exit ws s (event.Exit s) refl h
Reads-event ws (event.Request s n) h =
    Reads-kind kind.Request ws (h.1 ∷ []) h.0 s (event.Request s n) h.2 (IsWord-signed h.1 n h.3).some (request_done s (joined (h.1 ∷ [])) n (signed_again h.1 n [] h.3 tt)) h.4
Reads-event ws (event.Cancel s) h = Reads-plain kind.Cancel ws s (event.Cancel s) refl h
Reads-event ws (event.CancelNew s) h = Reads-plain kind.CancelNew ws s (event.CancelNew s) refl h

-- ---- a line

line_steps : (stamped : Bool) (bytes w rest : List ℕ) (e : Stamped) → word_at bytes ≡ Ok (w, rest) → bytes_eq w (codes "end") ≡ false → stamped_at stamped bytes ≡ Ok e → line_at stamped bytes ≡ Ok (kinds.Event e)
unfolding line_at
line_steps stamped bytes w rest e f g h = rw (f, g, h) refl

first_steps : (bytes : List ℕ) (e : Stamped) → e.worker ≡ 0 → event_at bytes ≡ Ok e.event → stamped_at false bytes ≡ Ok e
unfolding stamped_at
first_steps bytes e zero-is f = rw f (ap (λ (w : ℕ). Ok (stamp w e.event)) (sym zero-is))

second_steps : (bytes rest : List ℕ) (e : Stamped) → number_at 15 bytes ≡ Ok (e.worker, rest) → event_at rest ≡ Ok e.event → stamped_at true bytes ≡ Ok e
unfolding stamped_at
second_steps bytes rest e f g = rw (f, g) refl

pub line_again : (stamped : Bool) (line : List ℕ) (e : Stamped) → IsLine stamped line e → line_at stamped line ≡ Ok (kinds.Event e)
line_again false line e h =
    let reads = Reads-event h.0 e.event h.2 in
    ap (λ (x : List ℕ). line_at false x) h.3 ∙ line_steps false (joined h.0) reads.first reads.rest e reads.begins reads.not-end (first_steps (joined h.0) e h.1 reads.whole)
line_again true line e h =
    let reads = Reads-event h.1 e.event h.3 in
    ap (λ (x : List ℕ). line_at true x) h.4
    ∙ line_steps true (joined (h.0 ∷ h.1)) h.0 (joined h.1) e (word_again h.0 h.1 (IsWord-number 15 h.0 e.worker h.2) reads.some) (not_end 15 h.0 e.worker h.2)
    (second_steps (joined (h.0 ∷ h.1)) (joined h.1) e (number_again 15 h.0 e.worker h.1 h.2 reads.some) reads.whole)

pub end_again : (stamped : Bool) → line_at stamped (codes "end") ≡ Ok kinds.End
unfolding line_at word_at ends
end_again stamped = refl

pub first_again : (stamped : Bool) → first_at (first_text stamped) ≡ Ok stamped
unfolding first_at word_at ends
first_again false = refl
first_again true = refl
