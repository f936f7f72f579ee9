-- What a run says of the link that goes out, and of a piece whose root edge isn't live.
use Rattle.std.proofs.Common.{◌≡◌, ℕ, List, [], ◌∷◌, ◌++◌, map, refl, sym, ap, ◌∙◌, subst, append_assoc, Option, Some, None}
use Rattle.std.specs.Prelude.{IfNone, IfSome}
use Rattle.rsx_sources.specs.Prelude.{Meaning}
use Rattle.rsx_sources.specs.declared.machine.Machine.{Ghosts as Machine}
use Rattle.rsx_tree.specs.Runs.{Leads}
use Rattle.rsx_tree.specs.declared.edge.EdgeState.TheVariants.{Live}
use Rattle.rsx_pipe.specs.Part.{Part}
use Rattle.rsx_link.specs.Ends.{received_signals, sent_signals, up_steps}
use Rattle.rsx_link.specs.declared.link.Link.{Link}
use Rattle.rsx_link.specs.declared.up.Found.{Found}
use Rattle.rsx_link.specs.declared.view.Step.{Step as LinkStep}
use Rattle.rsx_link.specs.declared.view.Step.TheVariants.{SeeAsked, SeeFlags}
use Rattle.rsx_region.specs.Moves.{IsLooked}
use Rattle.rsx_region.proofs.Handing.{read_live}
use Rattle.rsx_region.specs.Pieces.{came_of}
use Rattle.rsx_region.specs.Serving.{HasLeftAll, HasRested, HasSeen, HasStayed}
use Rattle.rsx_region.specs.Steps.{Goes, IsStep, Shown, shown}
use Rattle.rsx_region.specs.declared.piece.Incoming.{Incoming}
use Rattle.rsx_region.specs.declared.piece.Piece.{Piece}
use Rattle.rsx_region.proofs.Lists.{map_same}
use Rattle.rsx_region.specs.declared.step.Step.{Step}
use Rattle.rsx_region.specs.declared.step.Step.TheVariants.{Look, Ask, Pop, Move, Many, Try}

abbrev pub Later : {M T : Type 0} → Piece M T → Piece M T → Type 0
Later p q = (more : List LinkStep) × (up_steps q.up ≡ more ++ up_steps p.up)

later_by : {M T : Type 0} (b : Machine M T) (m : Meaning T) (links : List (Link T)) (p : Piece M T) (l : Step) (q : Piece M T) → IsStep b m links p l q → Later p q
later_by b m links p Look q h = (SeeFlags h.looked.looked.flags ∷ SeeAsked h.found.asked ∷ [], h.looked.looked.steps)
later_by b m links p Ask q h = ([], ap up_steps h.changed.up)
later_by b m links p Pop q h = ([], ap up_steps h.changed.up)
later_by b m links p Move q h = ([], h.looks)
later_by b m links p (Many n) q h = ([], h.looks)
later_by b m links p Try q h = ([], h.looks)

later_then : {M T : Type 0} (p q r : Piece M T) → Later p q → Later q r → Later p r
later_then p q r g h = (h.0 ++ g.0, h.1 ∙ (ap (λ (s : List LinkStep). h.0 ++ s) g.1 ∙ sym (append_assoc h.0 g.0 (up_steps p.up))))

later_all : {M T : Type 0} (b : Machine M T) (m : Meaning T) (links : List (Link T)) (p : Piece M T) (ls : List Step) (q : Piece M T) → Leads (IsStep b m links) p ls q → Later p q
later_all b m links p [] q h = ([], ap (λ x. up_steps x.up) h)
later_all b m links p (l ∷ ls) q h = later_then p h.0 q (later_by b m links p l h.0 h.1) (later_all b m links h.0 ls q h.2)

pub looked_seen : {M T : Type 0} (b : Machine M T) (m : Meaning T) (l : Link T) (p new : Piece M T) (o : Option Found) →
    IfSome o (λ f. IsLooked b m l f p.part p.up new.part new.up) → IfNone o ((p.part.root.state ≡ Live → ⊥) × (new.part ≡ p.part) × (new.up ≡ p.up)) → new.part.root.state ≡ Live → HasSeen p new
looked_seen b m l p new (Some f) looked none live = record { flags = looked.looked.flags; total = f.asked; since = []; steps = looked.looked.steps }
looked_seen {M} b m l p new None looked none live = absurd (none.0 (let Q : Part M → Type 0 = λ q. q.root.state ≡ Live in subst Q none.1 live))

-- in a turn in which nothing was taken, and no move made
pub turn_seen : {M T : Type 0} (b : Machine M T) (m : Meaning T) (p q r s t : Piece M T) → (q.part.root.state ≡ Live → HasSeen p q) → r.part ≡ q.part → r.up ≡ q.up → HasLeftAll b r s → HasStayed b m s t → t.part.root.state ≡ Live → HasSeen p t
turn_seen {M} b m p q r s t seen part up left stayed live =
    let same : t.part ≡ q.part = stayed.tried.part ∙ (left.tried.part ∙ part) in
    let Q : Part M → Type 0 = λ x. x.root.state ≡ Live in
    let h = seen (subst Q same live) in
    record { flags = h.flags; total = h.total; since = h.since; steps = stayed.tried.looks ∙ (left.tried.looks ∙ (ap up_steps up ∙ h.steps)) }

pub seen_after : {M T : Type 0} (b : Machine M T) (m : Meaning T) (links : List (Link T)) (i j : ℕ) (p q r : Piece M T) → Goes b m links i j p q → HasSeen q r → HasSeen p r
seen_after b m links i j p q r g h =
    let e = later_all b m links p g.labels q g.run in
    record { flags = h.flags; total = h.total; since = h.since ++ e.0; steps = h.steps ∙ ap (λ (s : List LinkStep). SeeFlags h.flags ∷ SeeAsked h.total ∷ s) (ap (λ (s : List LinkStep). h.since ++ s) e.1 ∙ sym (append_assoc h.since e.0 (up_steps p.up))) }

-- ---- a piece whose root edge isn't live

came_shown : {T : Type 0} (xs ys : List (Incoming T)) → map shown ys ≡ map shown xs → map came_of ys ≡ map came_of xs
came_shown [] [] e = refl
came_shown [] (y ∷ ys) e = cc
came_shown (x ∷ xs) [] e = cc
came_shown {T} (x ∷ xs) (y ∷ ys) e =
    let here : shown y ≡ shown x = cc in
    let rest : map shown ys ≡ map shown xs = cc in
    let hub : y.inlet.hub ≡ x.inlet.hub = ap (λ (s : Shown T). s.hub) here in
    let came : received_signals y.inlet.down ≡ received_signals x.inlet.down = ap (λ (s : Shown T). s.came) here in
    let all : map came_of ys ≡ map came_of xs = came_shown xs ys rest in
    let first : came_of y ≡ came_of x = cc in
    cc

dead_step : {M T : Type 0} (b : Machine M T) (m : Meaning T) (links : List (Link T)) (p : Piece M T) (l : Step) (q : Piece M T) → (p.part.root.state ≡ Live → ⊥) → IsStep b m links p l q → HasRested p q
dead_step b m links p Look q n h = absurd (n h.live)
dead_step b m links p Ask q n h =
    let first : came_of h.is ≡ came_of h.was = (let e = h.changed.hub in let k = h.came in cc) in
    record { part = h.part; sent = ap sent_signals h.changed.up; came = ap (map came_of) h.changed.put ∙ map_same came_of p.inlets.items h.at h.was h.is h.changed.there first }
dead_step b m links p Pop q n h = absurd (n (read_live b h.was.inlet.hub p.part h.popped.reader).0)
dead_step b m links p Move q n h = absurd (n h.live)
dead_step b m links p (Many k) q n h = absurd (n h.live)
dead_step b m links p Try q n h = record { part = h.part; sent = h.sent; came = came_shown p.inlets.items q.inlets.items h.ins }

dead_all : {M T : Type 0} (b : Machine M T) (m : Meaning T) (links : List (Link T)) (p : Piece M T) (ls : List Step) (q : Piece M T) → (p.part.root.state ≡ Live → ⊥) → Leads (IsStep b m links) p ls q → HasRested p q
dead_all b m links p [] q n h = record { part = ap (λ x. x.part) h; sent = ap (λ x. sent_signals x.up) h; came = ap (λ x. map came_of x.inlets.items) h }
dead_all {M} b m links p (l ∷ ls) q n h =
    let one = dead_step b m links p l h.0 n h.1 in
    let Q : Part M → Type 0 = λ x. x.root.state ≡ Live in
    let rest = dead_all b m links h.0 ls q (λ live. n (subst Q one.part live)) h.2 in
    record { part = rest.part ∙ one.part; sent = rest.sent ∙ one.sent; came = rest.came ∙ one.came }

pub rested : {M T : Type 0} (b : Machine M T) (m : Meaning T) (links : List (Link T)) (i j : ℕ) (p q : Piece M T) → Goes b m links i j p q → (p.part.root.state ≡ Live → ⊥) → HasRested p q
rested b m links i j p q g n = dead_all b m links p g.labels q n g.run
