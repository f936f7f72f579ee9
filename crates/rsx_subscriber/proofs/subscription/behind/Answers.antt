use Rattle.std.proofs.Common.{◌≡◌, ℕ, ◌+◌, ◌<◌, ◌≤◌, List, [], ◌∷◌, ◌++◌, drop, get_or, length, refl, sym, ap, ◌∙◌, add-one, append_assoc, append-nil, arith}
use Rattle.std.proofs.Math.Seq.{drop-cons}
use Rattle.std.proofs.lemmas.List.{drop_all}
use Rattle.rsx_sources.specs.Prelude.{Stream, signal_then, signals_then, ended_by, Ending, Done, Failed, Signal, Next}
use Rattle.rsx_subscriber.proofs.subscription.behind.Goals as goal

same_stream : {T : Type 0} (v w : Stream T) → v.items ≡ w.items → v.ending ≡ w.ending → v ≡ w
same_stream {T} v w i e =
    let one : v ≡ record { items = w.items; ending = v.ending } = ap (λ (l : List T). let r : Stream T = record { items = l; ending = v.ending } in r) i in
    one ∙ ap (λ (k : Ending). let r : Stream T = record { items = w.items; ending = k } in r) e

-- what comes from an index on begins with the signal there
begins : {T : Type 0} (queue : List (Signal T)) (at : ℕ) (s : Signal T) (rest : Stream T) → at < length queue → s ≡ get_or queue at s → signals_then (drop at queue) rest ≡ signal_then s (signals_then (drop (at + 1) queue) rest)
begins queue at s rest lt e =
    ap (λ q. signals_then q rest) (drop-cons queue at s lt) ∙ rw (sym e, add-one) refl

-- an item more is out
more : {T : Type 0} (queue : List (Signal T)) (at : ℕ) (s : Signal T) (x y : T) (items pushed : List T) (rest whole : Stream T) → at < length queue → s ≡ get_or queue at s → s ≡ Next x → y ≡ x → pushed ≡ items ++ y ∷ [] →
    (items ++ (signals_then (drop at queue) rest).items ≡ whole.items) × ((signals_then (drop at queue) rest).ending ≡ whole.ending) →
    (pushed ++ (signals_then (drop (at + 1) queue) rest).items ≡ whole.items) × ((signals_then (drop (at + 1) queue) rest).ending ≡ whole.ending)
more {T} queue at s x y items pushed rest whole lt e n same out h =
    let later : Stream T = signals_then (drop (at + 1) queue) rest in
    let front : signals_then (drop at queue) rest ≡ signal_then (Next x) later = begins queue at s rest lt e ∙ ap (λ t. signal_then t later) n in
    (ap (λ l. l ++ later.items) (out ∙ ap (λ z. items ++ z ∷ []) same) ∙ (append_assoc items (x ∷ []) later.items ∙ (sym (ap (λ v. items ++ v.items) front) ∙ h.0)), sym (ap (λ v. v.ending) front) ∙ h.1)

-- an ending is met, which cuts what would follow
ends : {T : Type 0} (queue : List (Signal T)) (at : ℕ) (s : Signal T) (last : Ending) (items : List T) (rest whole v : Stream T) → at < length queue → s ≡ get_or queue at s → ((w : Stream T) → signal_then s w ≡ ended_by last) →
    (items ++ (signals_then (drop at queue) rest).items ≡ whole.items) × ((signals_then (drop at queue) rest).ending ≡ whole.ending) → v.items ≡ items → v.ending ≡ last → v ≡ whole
ends {T} queue at s last items rest whole v lt e cut h i l =
    let front : signals_then (drop at queue) rest ≡ ended_by last = begins queue at s rest lt e ∙ cut (signals_then (drop (at + 1) queue) rest) in
    same_stream v whole (i ∙ (sym (append-nil items) ∙ (sym (ap (λ w. items ++ w.items) front) ∙ h.0))) (l ∙ (sym (ap (λ w. w.ending) front) ∙ h.1))

-- nothing is left in the queue
all_out : {T : Type 0} (queue : List (Signal T)) (at : ℕ) (items : List T) (rest whole v : Stream T) → length queue ≤ at →
    (items ++ (signals_then (drop at queue) rest).items ≡ whole.items) × ((signals_then (drop at queue) rest).ending ≡ whole.ending) → v.items ≡ items ++ rest.items → v.ending ≡ rest.ending → v ≡ whole
all_out queue at items rest whole v le h i l =
    let front : signals_then (drop at queue) rest ≡ rest = ap (λ q. signals_then q rest) (drop_all at queue le) in
    same_stream v whole (i ∙ (sym (ap (λ w. items ++ w.items) front) ∙ h.0)) (l ∙ (sym (ap (λ w. w.ending) front) ∙ h.1))

-- what followed was taken apart, and is put together again
whole_again : {T : Type 0} (queue : List (Signal T)) (left rest : Stream T) → left.items ≡ rest.items → left.ending ≡ rest.ending → signals_then queue left ≡ signals_then queue rest
whole_again queue left rest i e = ap (signals_then queue) (same_stream left rest i e)

pub loop-index-init : goal.loop-index-init
loop-index-init g c = (ap (λ l. l ++ (signals_then c.args.queue.now (record { items = c.into_items-left.result.items; ending = c.ending-ending.result })).items) c.new-items.ensures.items, refl)

pub loop-index-preserved : goal.loop-index-preserved
loop-index-preserved g c = more c.args.queue.now c.loop-index.index c.at.result.now c.in-Next.x c.in_ok-copy-in-Next.field-0 c.loop-index.items.items c.push.new.self.items _ _ (omega arith) c.at.ensures c.in-Next.is c.in_ok-copy-in-Next.ensures.answer c.in_ok-push-in-Next.ensures.items c.loop-index.invariant

pub returns-in-Complete : goal.returns-in-Complete
returns-in-Complete g c =
    ends c.args.queue.now c.loop-index.index c.at.result.now Done c.loop-index.items.items _ _ c.new.result (omega arith) c.at.ensures (λ w. ap (λ s. signal_then s w) c.in-Complete.is) c.loop-index.invariant c.new.ensures.items c.new.ensures.ending
    ∙ whole_again c.args.queue.now _ c.args.rest c.into_items-left.ensures c.ending-ending.ensures

pub returns-in-Error : goal.returns-in-Error
returns-in-Error g c =
    ends c.args.queue.now c.loop-index.index c.at.result.now (Failed c.in-Error.c) c.loop-index.items.items _ _ c.new-in-Error.result (omega arith) c.at.ensures (λ w. ap (λ s. signal_then s w) c.in-Error.is) c.loop-index.invariant c.new-in-Error.ensures.items c.new-in-Error.ensures.ending
    ∙ whole_again c.args.queue.now _ c.args.rest c.into_items-left.ensures c.ending-ending.ensures

pub returns : goal.returns
returns g c =
    all_out c.args.queue.now c.loop-index.index c.loop-index.items.items _ _ c.new-2.result (omega arith) c.loop-index.invariant (c.new-2.ensures.items ∙ c.in_ok-append.ensures.items) c.new-2.ensures.ending
    ∙ whole_again c.args.queue.now _ c.args.rest c.into_items-left.ensures c.ending-ending.ensures
