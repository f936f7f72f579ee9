-- Items that are pulled through a piece many at once, and sent into the link that goes out.
use Rattle.std.proofs.Common.{◌≡◌, ◌⊎◌, inl, inr, ℕ, suc, ◌+◌, ◌-◌, ◌<◌, ◌≤◌, min, nat_lt, ◌&&◌, true, List, [], ◌∷◌, ◌++◌, append_assoc, length, reverse, refl, sym, ap, ◌∙◌, subst, arith, None}
use Rattle.std.proofs.lemmas.Bool.Decides.{nat_tests}
use Rattle.std.proofs.lemmas.List.{length-append, reverse-append}
use Rattle.rsx_demand.specs.declared.TheConstants.{UNBOUNDED}
use Rattle.rsx_sources.specs.Prelude.{Meaning, Next, Stream}
use Rattle.rsx_sources.specs.declared.machine.Front.TheVariants.{Item}
use Rattle.rsx_sources.specs.declared.machine.Machine.{Ghosts as Machine}
use Rattle.rsx_tree.specs.declared.edge.EdgeState.TheVariants.{Closed, Ended, Live}
use Rattle.rsx_tree.specs.declared.edge.EdgeState.{EdgeState}
use Rattle.rsx_tree.specs.Edges.{EdgeView, can_pass, edge_view, is_live}
use Rattle.rsx_tree.specs.Runs.{Leads}
use Rattle.rsx_tree.proofs.Runs.{leads_on}
use Rattle.rsx_pipe.specs.Fetched.{AreFetched, IsFetched}
use Rattle.rsx_pipe.specs.Part.{Part}
use Rattle.rsx_link.specs.Ends.{SameUp, carried_up, free_slots, items_sent, seen_total, sent_signals, up_steps}
use Rattle.rsx_link.specs.Signals.{items_in}
use Rattle.rsx_link.specs.Steps.{seen_of}
use Rattle.rsx_link.specs.declared.link.Link.{Link}
use Rattle.rsx_link.specs.declared.up.Up.{Up}
use Rattle.rsx_region.specs.Inlet.{InletStands}
use Rattle.rsx_region.specs.Moves.{IsItemSent}
use Rattle.rsx_region.specs.Piece.{IsInStep, PieceStands}
use Rattle.rsx_region.specs.Pieces.{StandsSince}
use Rattle.rsx_region.specs.Steps.{Goes, SameInlets}
use Rattle.rsx_region.specs.declared.piece.Piece.{Piece}
use Rattle.rsx_region.specs.declared.step.Step.TheVariants.{Many, Try}
use Rattle.rsx_region.proofs.Growth.{link_many}
use Rattle.rsx_region.proofs.Inlets.{link_sent}
use Rattle.rsx_region.proofs.Pieces.{in_step_many, in_step_same, in_step_sent, items_more, stands_many, stands_same, stands_sent}
use Rattle.rsx_region.proofs.Runs.{goes_as, goes_one, goes_then}
use Rattle.rsx_region.proofs.Singles.{brought_goes, tried_root}
use Rattle.rsx_region.proofs.Stands.{stands_root}

-- ---- there is demand for all of them

within : (e : EdgeView) → can_pass e Item ≡ true → e.sent < e.asked
within e h = by_live e.state h
  where
    by_live : (s : EdgeState) → (is_live s && nat_lt e.sent e.asked) ≡ true → e.sent < e.asked
    by_live Live k = grind (arith, nat_tests, k)
    by_live Ended k = cc
    by_live Closed k = cc

-- where some came, as much is asked of the root edge
sends_within : {M T : Type 0} (b : Machine M T) (m : Meaning T) (xs : List T) (budget left : ℕ) (p q : Part M) → AreFetched b m budget p xs left q → (length xs ≡ 0) ⊎ (p.root.demand.sent + length xs ≤ p.root.demand.asked)
sends_within b m [] budget left p q k = inl refl
sends_within {M} b m (x ∷ xs) budget left p q k =
    let f = k.2 in
    let out = f.4 in
    let same : edge_view f.1.root ≡ edge_view p.root = ap edge_view (f.3.inside (sym f.3.queued)) in
    let can : can_pass (edge_view p.root) Item ≡ true = ap (λ (e : EdgeView). can_pass e Item) (sym same) ∙ out.can in
    let sent : k.1.root.demand.sent ≡ p.root.demand.sent + 1 = ap (λ (e : EdgeView). e.sent) out.root ∙ ap (λ (e : EdgeView). e.sent + 1) same in
    let asked : k.1.root.demand.asked ≡ p.root.demand.asked = ap (λ (e : EdgeView). e.asked) out.root ∙ ap (λ (e : EdgeView). e.asked) same in
    inr (elim (sends_within b m xs k.0 left k.1 q k.3) [
      | inl none ↦ first p.root.demand.sent p.root.demand.asked (length xs) (within (edge_view p.root) can) none
      | inr more ↦ behind p.root.demand.sent p.root.demand.asked k.1.root.demand.sent k.1.root.demand.asked (length xs) sent asked more
    ])
  where
    first : (s a n : ℕ) → s < a → n ≡ 0 → s + suc n ≤ a
    first s a n h e = omega (arith, h, e)

    behind : (s a s' a' n : ℕ) → s' ≡ s + 1 → a' ≡ a → s' + n ≤ a' → s + suc n ≤ a
    behind s a s' a' n h k e = omega (arith, h, k, e)

pub all_asked : {M T : Type 0} (b : Machine M T) (m : Meaning T) (xs : List T) (budget left : ℕ) (p q : Part M) (u : Up T) → IsInStep p u → AreFetched b m budget p xs left q → items_sent u + length xs ≤ seen_total u
all_asked b m xs budget left p q u i k = elim (sends_within b m xs budget left p q k) [
  | inl none ↦ let c = u.counts in let s = u.saw in let h = u.covered in nothing u.sent u.seen (items_sent u) (seen_total u) (length xs) c s h none
  | inr some ↦ let a = i.asked in let s = i.sent in asks p.root.demand.sent p.root.demand.asked (items_sent u) (seen_total u) (length xs) s a some
]
  where
    nothing : (s a i t n : ℕ) → s ≡ i → a ≡ t → s ≤ a → n ≡ 0 → i + n ≤ t
    nothing s a i t n h k l e = omega (arith, h, k, l, e)

    asks : (s a i t n : ℕ) → s ≡ i → a ≡ min UNBOUNDED t → s + n ≤ a → i + n ≤ t
    asks s a i t n h k l = omega (arith, h, k, l)

-- ---- they are sent, one after the other

-- some of them were sent, and `left` are left, the first of them last
pub record IsSending {T : Type 0} (l : Link T) (first up : Up T) (all left : List T) : Type 0 where
  pub same : SameUp l first up
  pub done : List T
  pub split : all ≡ done ++ reverse left
  pub sent : Leads IsItemSent first done up
  pub room : length left ≤ free_slots up
  pub asked : items_sent up + length left ≤ seen_total up

count_last : {T : Type 0} (xs ys : List T) (x : T) → ys ≡ xs ++ x ∷ [] → length ys ≡ length xs + 1
count_last xs ys x is = ap length is ∙ length-append xs (x ∷ [])

pub sending_one : {T : Type 0} (l : Link T) (first up up' : Up T) (all left rest : List T) (x : T) → IsSending l first up all left → left ≡ rest ++ x ∷ [] → SameUp l up up' → sent_signals up' ≡ sent_signals up ++ Next x ∷ [] → free_slots up ≡ free_slots up' + 1 → IsSending l first up' all rest
sending_one {T} l first up up' all left rest x k is same pushed freed =
    let count = count_last rest left x is in
    let items : items_sent up' ≡ items_sent up + 1 = more (carried_up up) (items_in (sent_signals up)) (carried_up up') (items_in (sent_signals up')) same.2 (ap items_in pushed ∙ items_more (sent_signals up) (Next x ∷ [])) in
    let seen : seen_total up' ≡ seen_total up = ap seen_of same.1 in
    let room = k.room in
    let asked = k.asked in
    record {
      same = (same.0, same.1 ∙ k.same.1, same.2 ∙ k.same.2);
      done = k.done ++ x ∷ [];
      split = k.split ∙ (ap (λ (xs : List T). k.done ++ xs) (ap reverse is ∙ reverse-append rest (x ∷ [])) ∙ sym (append_assoc k.done (x ∷ []) (reverse rest)));
      sent = leads_on IsItemSent first up up' k.done (x ∷ []) k.sent (up', record { pushed = pushed; looks = same.1; carried = same.2 }, refl);
      room = less (length left) (length rest) (free_slots up) (free_slots up') room count freed;
      asked = wanted (length left) (length rest) (items_sent up) (items_sent up') (seen_total up) (seen_total up') asked count items seen;
    }
  where
    more : (c i c' i' : ℕ) → c' ≡ c → i' ≡ i + 1 → c' + i' ≡ c + i + 1
    more c i c' i' h e = omega (arith, h, e)

    less : (n k f f' : ℕ) → n ≤ f → n ≡ k + 1 → f ≡ f' + 1 → k ≤ f'
    less n k f f' a b c = omega (arith, a, b, c)

    wanted : (n k i i' t t' : ℕ) → i + n ≤ t → n ≡ k + 1 → i' ≡ i + 1 → t' ≡ t → i' + k ≤ t'
    wanted n k i i' t t' a b c d = omega (arith, a, b, c, d)

-- ---- the piece behind all of them

-- A piece after such a pull: so many moves were made, `used`. What it stands for stays.
pub record PulledMany {M T : Type 0} (b : Machine M T) (m : Meaning T) (links : List (Link T)) (budget left : ℕ) (p new : Piece M T) : Type 0 where
  pub used : ℕ
  pub spent : used + left ≡ budget
  pub go : Goes b m links used 0 p new
  pub step : IsInStep p.part p.up → IsInStep new.part new.up
  pub stands : (hubs : List (Stream T)) (opening : Piece M T) → StandsSince b m hubs opening p → StandsSince b m hubs opening new

-- what one such call says of the root edge
still_live : (e f g : EdgeView) → f ≡ e → e.state ≡ Live → g.state ≡ f.state → g.state ≡ Live
still_live e f g same live is = is ∙ (ap (λ (x : EdgeView). x.state) same ∙ live)

sums : (n between rest left budget : ℕ) → n + 1 + between ≡ budget → rest + left ≡ between → n + 1 + rest + left ≡ budget
sums n between rest left budget h k = omega (arith, h, k)

pub pulled_many : {M T : Type 0} (b : Machine M T) (m : Meaning T) (links : List (Link T)) (xs : List T) (budget left : ℕ) (p new : Piece M T) → SameInlets p new → p.part.root.state ≡ Live → AreFetched b m budget p.part xs left new.part → Leads IsItemSent p.up xs new.up → PulledMany b m links budget left p new
pulled_many {M} {T} b m links [] budget left p new same live k sent =
    let n = k.0 in
    let S : Up T → Type 0 = λ u. IsInStep new.part u in
    record {
      used = n;
      spent = k.1;
      go = goes_one b m links (Many n) n 0 p new refl refl (record { live = live; worked = k.2; sent = ap sent_signals sent; looks = ap up_steps sent; others = same });
      step = λ i. subst S (sym sent) (in_step_many b m n p.part new.part p.up i k.2);
      stands = λ hubs opening st. stands_root b m hubs opening p new same (ap carried_up sent)
          (λ taken old queued s. let P : Up T → Type 0 = λ u. PieceStands b m taken old queued new.part u in subst P (sym sent) (stands_many b m taken old queued n p.part new.part p.up live s k.2))
          (λ taken i s. link_many b m taken n p.part new.part i.hub i.down i.closer k.2 s) st;
    }
pulled_many {M} {T} b m links (x ∷ xs) budget left p new same live k sent =
    let f = k.2 in
    let n = f.0 in
    let mid = f.1 in
    let out = f.4 in
    let s = sent.1 in
    let q : Piece M T = record { part = k.1; link = p.link; up = sent.0; inlets = p.inlets } in
    let inside : edge_view mid.root ≡ edge_view p.part.root = ap edge_view (f.3.inside (sym f.3.queued)) in
    let on : k.1.root.state ≡ Live = still_live (edge_view p.part.root) (edge_view mid.root) (edge_view k.1.root) inside live (ap (λ (e : EdgeView). e.state) out.root) in
    let rest = pulled_many b m links xs k.0 left q new same on k.3 sent.2 in
    record {
      used = n + 1 + rest.used;
      spent = sums n k.0 rest.used left budget f.2 rest.spent;
      go = goes_then b m links (n + 1) 0 rest.used 0 (n + 1 + rest.used) 0 p q new refl refl (brought_goes b m links p q n (n + 1) (refl, refl) s.looks refl (record { item = x; mid = mid; worked = f.3; out = out; pushed = s.pushed })) rest.go;
      step = λ i. rest.step (in_step_sent b m mid k.1 p.up sent.0 (Next x) (in_step_many b m n p.part mid p.up i f.3) out s.looks s.carried s.pushed);
      stands = λ hubs opening st. rest.stands hubs opening (stands_root b m hubs opening p q (refl, refl) s.carried
          (λ taken old queued h. stands_sent b m taken old queued mid k.1 p.up sent.0 (Next x) (stands_many b m taken old queued n p.part mid p.up live h f.3) out s.looks s.carried s.pushed)
          (λ taken i h. link_sent b m taken mid k.1 (Next x) i.hub i.down i.closer out (link_many b m taken n p.part mid i.hub i.down i.closer f.3 h)) st);
    }

-- with no item
pub made_ahead : {M T : Type 0} (b : Machine M T) (m : Meaning T) (links : List (Link T)) (budget between left : ℕ) (p new : Piece M T) (part : Part M) → SameInlets p new → p.part.root.state ≡ Live → part ≡ p.part → between ≡ budget → IsFetched b m between part None left new.part → new.up ≡ p.up → PulledMany b m links budget left p new
made_ahead {M} {T} b m links budget between left p new part same live is all made up =
    let F : Part M → ℕ → Type 0 = λ q n. IsFetched b m n q None left new.part in
    let G : Part M → Type 0 = λ q. F q between in
    let H : ℕ → Type 0 = λ n. F p.part n in
    pulled_many b m links [] budget left p new same live (subst H all (subst G is made)) up

-- ---- a look at how much room the link has

pub looked_up : {M T : Type 0} (b : Machine M T) (m : Meaning T) (links : List (Link T)) (l : Link T) (p new : Piece M T) → SameInlets p new → SameUp l p.up new.up → new.part ≡ p.part → sent_signals new.up ≡ sent_signals p.up → PulledMany b m links 0 0 p new
looked_up {M} {T} b m links l p new same up part sent =
    let S : Part M → Type 0 = λ q. IsInStep q new.up in
    record {
      used = 0;
      spent = refl;
      go = goes_one b m links Try 0 0 p new refl refl (tried_root l p new same up part sent);
      step = λ i. subst S (sym part) (in_step_same p.part p.up new.up i up.1 up.2 sent);
      stands = λ hubs opening st. stands_root b m hubs opening p new same up.2
          (λ taken old queued h. let P : Part M → Type 0 = λ q. PieceStands b m taken old queued q new.up in subst P (sym part) (stands_same b m taken old queued p.part p.up new.up h up.1 up.2 sent))
          (λ taken i h. let P : Part M → Type 0 = λ q. InletStands b taken q i in subst P (sym part) h) st;
    }

-- and then a pull
pub pulled_then : {M T : Type 0} (b : Machine M T) (m : Meaning T) (links : List (Link T)) (budget left : ℕ) (p mid new : Piece M T) → PulledMany b m links 0 0 p mid → PulledMany b m links budget left mid new → PulledMany b m links budget left p new
pulled_then b m links budget left p mid new g h =
    let none = g.spent in record {
      used = h.used;
      spent = h.spent;
      go = goes_then b m links g.used 0 h.used 0 h.used 0 p mid new (behind g.used h.used none) refl g.go h.go;
      step = λ i. h.step (g.step i);
      stands = λ hubs opening st. h.stands hubs opening (g.stands hubs opening st);
    }
  where
    behind : (k n : ℕ) → k + 0 ≡ 0 → k + n ≡ n
    behind k n e = omega (arith, e)

pub used_is : {M T : Type 0} (b : Machine M T) (m : Meaning T) (links : List (Link T)) (budget left : ℕ) (p new : Piece M T) → PulledMany b m links budget left p new → (left ≤ budget) × Goes b m links (budget - left) 0 p new
used_is b m links budget left p new h = let spent = h.spent in (within_all h.used left budget spent, goes_as b m links h.used 0 (budget - left) 0 p new (rest h.used left budget spent) refl h.go)
  where
    within_all : (n l k : ℕ) → n + l ≡ k → l ≤ k
    within_all n l k e = omega (arith, e)

    rest : (n l k : ℕ) → n + l ≡ k → n ≡ k - l
    rest n l k e = omega (arith, e)
