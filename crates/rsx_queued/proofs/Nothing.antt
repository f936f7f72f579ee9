-- Nothing stands behind a node into which nothing comes.
use Rattle.std.proofs.Common.{◌≡◌, ℕ, zero, suc, List, [], ◌∷◌, drop, Option, Some, None, refl}
use Rattle.std.proofs.Common.{false, ap, sym, ◌∙◌, option_map}
use Rattle.rsx_sources.specs.Prelude.{Meaning, note_then, Stream, Note, incoming_of, Reading, IsBehind, IsResidualOf}
use Rattle.rsx_sources.specs.declared.machine.Machine.{Ghosts as Machine}
use Rattle.rsx_queued.specs.Held.{is_open, held_then, comes_in_at}
use Rattle.rsx_queued.specs.Queued.{out}
use Rattle.rsx_queued.specs.declared.tail.Tail.{Tail}
use Rattle.rsx_queued.specs.declared.tail.Tail.TheVariants.{Open, Completion, Failure, Taken}

no_items : {A : Type 0} (n : ℕ) (xs : List A) → xs ≡ [] → drop n xs ≡ []
no_items zero xs e = e
no_items (suc n) [] e = refl
no_items (suc n) (x ∷ xs) e = cc

pub nothing_behind : {T : Type 0} (r : Option Reading) (hubs inboxes : List (Stream T)) → hubs ≡ [] → inboxes ≡ [] → IsBehind r inboxes hubs
nothing_behind None hubs inboxes e f = tt
nothing_behind {T} (Some r) hubs inboxes e f = rw (e, f, no_items {A = T} r.reached [] refl) refl

shut : {T : Type 0} (t : Tail) (hubs incoming : List (Stream T)) → is_open t ≡ false → comes_in_at t (incoming_of hubs incoming) ≡ incoming_of [] []
shut Open hubs incoming e = cc
shut Completion hubs incoming e = refl
shut (Failure c) hubs incoming e = refl
shut Taken hubs incoming e = refl

-- what comes out once the ending of the node is in the queue
pub closed_out : {M T : Type 0} (b : Machine M T) (m : Meaning T) (n : M) (q : List T) (t : Tail) (none nothing hubs incoming : List (Stream T)) (rest v : Stream T) (further : Note) →
    is_open t ≡ false → none ≡ [] → nothing ≡ [] → IsResidualOf (b.comes_out m) b.recorded b.reads n none nothing rest → note_then (b.recorded n) further ≡ b.recorded n → v ≡ held_then q t rest → out b m n q t (incoming_of hubs incoming) further ≡ Some v
closed_out b m n q t none nothing hubs incoming rest v further o e f h u is =
    ap (λ i. option_map (held_then q t) (b.comes_out m n i further)) (shut t hubs incoming o ∙ ap (incoming_of []) (sym f))
    ∙ (ap (option_map (held_then q t)) (h [] further (nothing_behind (b.reads n) [] none refl e) u) ∙ ap Some (sym is))
