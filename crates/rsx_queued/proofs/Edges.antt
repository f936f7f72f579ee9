-- What callers see of an edge with a queue: its signals, and how many items went over it.
use Rattle.std.proofs.Common.{◌≡◌, ◌+◌, List, [], ◌∷◌, ◌++◌, map, length, refl, ap, sym, ◌∙◌, arith, length-append}
use Rattle.rsx_sources.specs.Prelude.{Signal, Next, Complete, Error}
use Rattle.rsx_sources.specs.declared.machine.Machine.{Ghosts as Machine}
use Rattle.rsx_queued.specs.declared.queued.Queued.{Queued}
use Rattle.rsx_queued.specs.declared.tail.Tail.{Tail}
use Rattle.rsx_queued.specs.declared.tail.Tail.TheVariants.{Open}
use Rattle.rsx_queued.specs.Held.{held}
use Rattle.rsx_queued.specs.Queued.{queued_popped, is_ended}
use Rattle.rsx_queued.specs.Transfer.{IsPushed, IsSent, IsTaken, IsEdge}

-- ---- a Send

item_behind : {T : Type 0} (q : List T) (x : T) → held (q ++ x ∷ []) Open ≡ held q Open ++ Next x ∷ []
item_behind [] x = refl
item_behind (y ∷ ys) x = ap (λ l. Next y ∷ l) (item_behind ys x)

signal_behind : {T : Type 0} (q : List T) (s : Signal T) → map Next q ++ s ∷ [] ≡ held q Open ++ s ∷ []
signal_behind [] s = refl
signal_behind (y ∷ ys) s = ap (λ l. Next y ∷ l) (signal_behind ys s)

pushed_held : {T : Type 0} (q q' : List T) (t t' : Tail) (s : Signal T) → t ≡ Open → IsPushed q s q' t' → held q' t' ≡ held q t ++ s ∷ []
pushed_held q q' t t' (Next x) o p = ap (λ l. held l t') p.0 ∙ (ap (held (q ++ x ∷ [])) p.1 ∙ (item_behind q x ∙ ap (λ u. held q u ++ Next x ∷ []) (sym o)))
pushed_held q q' t t' Complete o p = ap (λ l. held l t') p.0 ∙ (ap (held q) p.1 ∙ (signal_behind q Complete ∙ ap (λ u. held q u ++ Complete ∷ []) (sym o)))
pushed_held q q' t t' (Error c) o p = ap (λ l. held l t') p.0 ∙ (ap (held q) p.1 ∙ (signal_behind q (Error c) ∙ ap (λ u. held q u ++ Error c ∷ []) (sym o)))

pub pushed_sent : {M T : Type 0} (old : Queued M T) (s : Signal T) (new : Queued M T) → old.tail ≡ Open → IsPushed old.queue s new.queue new.tail → IsSent old s new
pushed_sent old (Next x) new o p =
    let longer : length new.queue ≡ length old.queue + 1 = ap length p.0 ∙ length-append old.queue (x ∷ []) in
    record { queue = pushed_held old.queue new.queue old.tail new.tail (Next x) o p; sent = λ taken. omega (arith, longer); ended = ap is_ended p.1 }
pushed_sent old Complete new o p =
    let same : length new.queue ≡ length old.queue = ap length p.0 in
    record { queue = pushed_held old.queue new.queue old.tail new.tail Complete o p; sent = λ taken. omega (arith, same); ended = ap is_ended p.1 }
pushed_sent old (Error c) new o p =
    let same : length new.queue ≡ length old.queue = ap length p.0 in
    record { queue = pushed_held old.queue new.queue old.tail new.tail (Error c) o p; sent = λ taken. omega (arith, same); ended = ap is_ended p.1 }

-- ---- a Take

pub popped_taken : {M T : Type 0} (old : Queued M T) (s : Signal T) (new : Queued M T) → queued_popped old s new → IsTaken old s new
popped_taken old (Next x) new h =
    let longer : length old.queue ≡ length new.queue + 1 = ap length h.1 ∙ omega arith in
    record { queue = ap (λ l. held l old.tail) h.1 ∙ ap (λ t. Next x ∷ held new.queue t) h.2; sent = λ taken. omega (arith, longer); ended = ap is_ended (sym h.2) }
popped_taken old Complete new h =
    let same : length old.queue ≡ length new.queue = ap length h.1 in
    record {
      queue = ap (λ l. held l old.tail) h.2 ∙ (ap (λ t. held [] t) h.3 ∙ ap (λ l. Complete ∷ l) (sym (ap (λ l. held l new.tail) (sym h.1 ∙ h.2) ∙ ap (λ t. held [] t) h.4)));
      sent = λ taken. omega (arith, same);
      ended = ap is_ended h.4 ∙ sym (ap is_ended h.3);
    }
popped_taken old (Error c) new h =
    let same : length old.queue ≡ length new.queue = ap length h.1 in
    record {
      queue = ap (λ l. held l old.tail) h.2 ∙ (ap (λ t. held [] t) h.3 ∙ ap (λ l. Error c ∷ l) (sym (ap (λ l. held l new.tail) (sym h.1 ∙ h.2) ∙ ap (λ t. held [] t) h.4)));
      sent = λ taken. omega (arith, same);
      ended = ap is_ended h.4 ∙ sym (ap is_ended h.3);
    }

pub edge : {M T : Type 0} (b : Machine M T) → IsEdge b
edge b = ((λ m old new k. pushed_sent old k.signal new k.was_open k.pushed), popped_taken)
