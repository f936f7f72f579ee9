-- Items that are taken from a link many at once, and handed to the node that reads it.
use Rattle.std.proofs.Common.{◌≡◌, ℕ, suc, ◌+◌, ◌<◌, Bool, true, false, if◌then◌else◌, List, [], ◌∷◌, length, map, refl, sym, ap, ◌∙◌, subst, arith, Some, slice_get, slice_set}
use Rattle.std.specs.Vec.{with_item}
use Rattle.rsx_sources.specs.Prelude.{Meaning, Next, Stream, reads_hub}
use Rattle.rsx_sources.specs.declared.machine.Machine.{Ghosts as Machine}
use Rattle.rsx_tree.specs.declared.inputs.Inputs.{Inputs, End, More'}
use Rattle.rsx_tree.specs.declared.node.Node.{Node}
use Rattle.rsx_tree.specs.declared.edge.EdgeState.{EdgeState}
use Rattle.rsx_tree.specs.declared.edge.EdgeState.TheVariants.{Live}
use Rattle.rsx_tree.specs.Edges.{is_live}
use Rattle.rsx_tree.specs.Handed.{IsNodeHanded, IsRowHanded, IsTakenWhere, OneOf, reader_at, readers_in}
use Rattle.rsx_tree.specs.Handed as Tree
use Rattle.rsx_tree.specs.Runs.{Leads}
use Rattle.rsx_tree.proofs.Runs.{leads_keep}
use Rattle.rsx_pipe.specs.Part.{Part}
use Rattle.rsx_pipe.specs.Published.{IsHanded, readers}
use Rattle.rsx_pipe.specs.Taking.{IsItemHanded}
use Rattle.rsx_link.specs.Ends.{carried_down, down_steps, received_signals, sent_signals, up_steps}
use Rattle.rsx_link.specs.declared.cancel.CancelSeat.{CancelSeat}
use Rattle.rsx_link.specs.declared.down.Down.{Down}
use Rattle.rsx_link.specs.declared.link.Link.{Link}
use Rattle.rsx_link.specs.declared.up.Up.{Up}
use Rattle.rsx_region.specs.Endings.{first_ending}
use Rattle.rsx_region.specs.Inlet.{LinkStands}
use Rattle.rsx_region.specs.Moves.{ArePopped, SameInlet}
use Rattle.rsx_region.specs.Piece.{IsInStep}
use Rattle.rsx_region.specs.Pieces.{AreApart, StandsSince, hub_of, hubs_of}
use Rattle.rsx_region.specs.Steps.{Goes, HasTried, OneChanged, shown}
use Rattle.rsx_region.specs.Taken.{IsItemTaken}
use Rattle.rsx_region.specs.declared.piece.Incoming.{Incoming}
use Rattle.rsx_region.specs.declared.piece.Piece.{Piece}
use Rattle.rsx_region.specs.declared.step.Step.TheVariants.{Pop, Try}
use Rattle.rsx_region.proofs.Handing.{in_step_handed, read_live}
use Rattle.rsx_region.proofs.Handing as Handing
use Rattle.rsx_region.proofs.Inlets.{link_beside, link_popped, link_seen}
use Rattle.rsx_region.proofs.Lists.{map_same, set_again, set_there}
use Rattle.rsx_region.proofs.Rests.{shown_same}
use Rattle.rsx_region.proofs.Runs.{goes_none, goes_one, goes_then, plus_none}
use Rattle.rsx_region.proofs.Stands.{stands_asked, stands_popped}
use Rattle.rsx_region.proofs.Takings.{next_last}

-- ---- a node that took in an item reads on

node_reads : {M T : Type 0} (b : Machine M T) (h : ℕ) (x : T) (t : Bool) (n n' : M) → IsTakenWhere b (Next x) t n n' → reads_hub h (b.reads n') ≡ reads_hub h (b.reads n)
node_reads b h x true n n' k = ap (reads_hub h) k.on.reads_on ∙ sym (ap (reads_hub h) k.on.read)
node_reads b h x false n n' k = ap (λ z. reads_hub h (b.reads z)) k

at_stays : {M T : Type 0} (b : Machine M T) (h : ℕ) (x : T) (n n' : M) → IsNodeHanded b h (Next x) n n' → reader_at b h n' ≡ reader_at b h n
at_stays b h x n n' k = ap (λ (t : Bool). if t then 1 else 0) (node_reads b h x (reads_hub h (b.reads n)) n n' k)

over_stays : {M T : Type 0} (b : Machine M T) (h : ℕ) (x : T) (live : Bool) (n n' : M) (below below' : Inputs M) → (IsRowHanded b h (Next x) below below' → readers_in b h below' ≡ readers_in b h below) →
    OneOf live (IsNodeHanded b h (Next x) n n' × IsRowHanded b h (Next x) below below') ((n' ≡ n) × (below' ≡ below)) → (if live then reader_at b h n' + readers_in b h below' else 0) ≡ (if live then reader_at b h n + readers_in b h below else 0)
over_stays b h x true n n' below below' rec k = ap (λ (j : ℕ). j + readers_in b h below') (at_stays b h x n n' k.0) ∙ ap (λ (j : ℕ). reader_at b h n + j) (rec k.1)
over_stays b h x false n n' below below' rec k = refl

row_stays : {M T : Type 0} (b : Machine M T) (h : ℕ) (x : T) (t t' : Inputs M) → IsRowHanded b h (Next x) t t' → readers_in b h t' ≡ readers_in b h t
row_stays b h x End t' k = ap (readers_in b h) k
row_stays b h x (More' e n p below q beside) t' k =
    ap (readers_in b h) k.3
    ∙ (ap (λ (j : ℕ). j + readers_in b h k.2) (over_stays b h x (is_live e.state) n k.0 below k.1 (λ r. row_stays b h x below k.1 r) k.4)
    ∙ ap (λ (j : ℕ). (if is_live e.state then reader_at b h n + readers_in b h below else 0) + j) (row_stays b h x beside k.2 k.5))

tree_stays : {M T : Type 0} (b : Machine M T) (h : ℕ) (x : T) (t t' : Node M) → Tree.IsHanded b h (Next x) t t' → Tree.readers b h t' ≡ Tree.readers b h t
tree_stays b h x t t' k = ap (λ (j : ℕ). j + readers_in b h t'.inputs) (at_stays b h x t.machine t'.machine k.root) ∙ ap (λ (j : ℕ). reader_at b h t.machine + j) (row_stays b h x t.inputs t'.inputs k.below)

reads_on : {M T : Type 0} (b : Machine M T) (h : ℕ) (x : T) (p p' : Part M) → IsHanded b h (Next x) p p' → readers b h p ≡ 1 → readers b h p' ≡ 1
reads_on b h x p p' k one =
    let r = read_live b h p one in
    let still : p'.root.state ≡ Live = ap (λ e. e.state) k.root ∙ r.0 in
    ap (λ (s : EdgeState). if is_live s then Tree.readers b h p'.tree else 0) still ∙ (tree_stays b h x p.tree p'.tree (k.tree r.0) ∙ r.1)

-- the root edge and its end count alike
pub in_step_all : {M T : Type 0} (b : Machine M T) (h : ℕ) (xs : List T) (p p' : Part M) (u : Up T) → Leads (IsItemHanded b h) p xs p' → IsInStep p u → IsInStep p' u
in_step_all {M} {T} b h xs p p' u run i = leads_keep (IsItemHanded b h) (λ (q : Part M). IsInStep q u) (λ q q' x k j. in_step_handed b h (Next x) q q' u k.handed j) p p' xs run i

-- ---- the piece after each of them

abbrev come_at : {T : Type 0} (i : Incoming T) (d : Down T) → i.inlet.ended ≡ first_ending (received_signals d) → Incoming T
come_at i d over = record {
  link = i.link;
  inlet = record {
    hub = i.inlet.hub;
    down = d;
    closer = i.inlet.closer;
    ended = i.inlet.ended;
    hand = i.inlet.hand;
    items = i.inlet.items;
    cancelled = i.inlet.cancelled;
    empty = i.inlet.empty;
    none = i.inlet.none;
    told = i.inlet.told;
    over = over;
  };
}

abbrev come_into : {M T : Type 0} → Piece M T → ℕ → Incoming T → Part M → Piece M T
come_into p at is part = record { part = part; link = p.link; up = p.up; inlets = with_item p.inlets at is }

-- so many items came at a place of a piece; with the last of them the end is `d`, and the part `q`
record HaveCome {M T : Type 0} (b : Machine M T) (m : Meaning T) (links : List (Link T)) (n : ℕ) (p : Piece M T) (at : ℕ) (was : Incoming T) (d : Down T) (q : Part M) : Type 0 where
  pub piece : Piece M T
  pub incoming : Incoming T
  pub go : Goes b m links 0 n p piece
  pub stands : (hubs : List (Stream T)) (opening : Piece M T) → StandsSince b m hubs opening p → StandsSince b m hubs opening piece
  pub there : slice_get piece.inlets.items at ≡ Some incoming
  pub put : (z : Incoming T) → slice_set piece.inlets.items at z ≡ slice_set p.inlets.items at z
  pub part : piece.part ≡ q
  pub down : incoming.inlet.down ≡ d
  pub number : incoming.link ≡ was.link
  pub hub : incoming.inlet.hub ≡ was.inlet.hub
  pub closer : incoming.inlet.closer ≡ was.inlet.closer
  pub link : piece.link ≡ p.link
  pub up : piece.up ≡ p.up

some : (n : ℕ) → 0 < suc n
some n = omega arith

one_more : (n : ℕ) → 1 + n ≡ suc n
one_more n = omega arith

have_come : {M T : Type 0} (b : Machine M T) (m : Meaning T) (links : List (Link T)) (xs : List T) (p : Piece M T) (at : ℕ) (was : Incoming T) (d : Down T) (q : Part M) → slice_get p.inlets.items at ≡ Some was → AreApart (hubs_of p) → (0 < length xs → readers b was.inlet.hub p.part ≡ 1) →
    Leads IsItemTaken was.inlet.down xs d → Leads (IsItemHanded b was.inlet.hub) p.part xs q → HaveCome b m links (length xs) p at was d q
have_come b m links [] p at was d q there apart one taken handed = record {
  piece = p;
  incoming = was;
  go = goes_none b m links p;
  stands = λ hubs opening h. h;
  there = there;
  put = λ z. refl;
  part = sym handed;
  down = sym taken;
  number = refl;
  hub = refl;
  closer = refl;
  link = refl;
  up = refl;
}
have_come {M} {T} b m links (x ∷ xs) p at was d q there apart one taken handed =
    let k = taken.1 in
    let h = handed.1 in
    let hub = was.inlet.hub in
    let reader : readers b hub p.part ≡ 1 = one (some (length xs)) in
    let over : was.inlet.ended ≡ first_ending (received_signals taken.0) = was.inlet.over ∙ sym (ap first_ending k.taken.received ∙ next_last (received_signals was.inlet.down) x) in
    let is : Incoming T = come_at was taken.0 over in
    let mid : Piece M T = come_into p at is handed.0 in
    let c : OneChanged at was is p mid = record { there = there; put = refl; number = refl; hub = refl; carried = k.carried; link = refl; up = refl } in
    let hubs_stay : hubs_of mid ≡ hubs_of p = map_same hub_of p.inlets.items at was is there refl in
    let rest = have_come b m links xs mid at is d q (set_there p.inlets.items at was is there) (subst AreApart (sym hubs_stay) apart) (λ _. reads_on b hub x p.part handed.0 h.handed reader) taken.2 handed.2 in
    record {
      piece = rest.piece;
      incoming = rest.incoming;
      go = goes_then b m links 0 1 0 (length xs) 0 (suc (length xs)) p mid rest.piece refl (one_more (length xs)) (goes_one b m links Pop 0 1 p mid refl refl (record { at = at; was = was; is = is; changed = c; popped = record { signal = Next x; taken = k.taken; reader = reader; room = h.room; handed = h.handed } })) rest.go;
      stands = λ hubs opening st. rest.stands hubs opening (stands_popped b m hubs opening p mid at was is c apart
          (λ values old queued up come s. Handing.stands_popped b m values old queued p.part handed.0 up hub (Next x) (received_signals was.inlet.down) (received_signals taken.0) come k.taken.received reader h.handed s)
          (λ values s. link_popped b values p.part handed.0 (Next x) hub was.inlet.down taken.0 was.inlet.closer k.taken.received k.steps k.carried reader h.handed s)
          (λ values other beside come s. link_beside b values p.part handed.0 (Next x) hub other.hub (received_signals taken.0) other.down other.closer beside reader h.handed s) st);
      there = rest.there;
      put = λ z. rest.put z ∙ set_again p.inlets.items at is z;
      part = rest.part;
      down = rest.down;
      number = rest.number;
      hub = rest.hub;
      closer = rest.closer;
      link = rest.link;
      up = rest.up;
    }

-- ---- all of them

pub record PoppedMany {M T : Type 0} (b : Machine M T) (m : Meaning T) (links : List (Link T)) (n : ℕ) (p new : Piece M T) : Type 0 where
  pub go : Goes b m links 0 n p new
  pub stands : (hubs : List (Stream T)) (opening : Piece M T) → StandsSince b m hubs opening p → StandsSince b m hubs opening new

pub popped_many : {M T : Type 0} (b : Machine M T) (m : Meaning T) (links : List (Link T)) (l : Link T) (n : ℕ) (p new : Piece M T) (at : ℕ) (was is : Incoming T) → OneChanged at was is p new → SameInlet l was.inlet is.inlet → AreApart (hubs_of p) → ArePopped b n p.part was.inlet new.part is.inlet → PoppedMany b m links n p new
popped_many {M} {T} b m links l n p new at was is c same apart k =
    let all = have_come b m links k.items p at was k.last new.part c.there apart (λ h. k.reader (subst (λ (i : ℕ). 0 < i) k.count h)) k.taken k.handed in
    let q = all.piece in
    let i = all.incoming in
    let received : received_signals is.inlet.down ≡ received_signals i.inlet.down = k.rest.received ∙ ap received_signals (sym all.down) in
    let steps : down_steps is.inlet.down ≡ down_steps i.inlet.down = k.rest.steps ∙ ap down_steps (sym all.down) in
    let carried : carried_down is.inlet.down ≡ carried_down i.inlet.down = k.rest.carried ∙ ap carried_down (sym all.down) in
    let hub : is.inlet.hub ≡ i.inlet.hub = c.hub ∙ sym all.hub in
    let closer : is.inlet.closer ≡ i.inlet.closer = same.2 ∙ sym all.closer in
    let changed : OneChanged at i is q new = record { there = all.there; put = c.put ∙ sym (all.put is); number = c.number ∙ sym all.number; hub = hub; carried = carried; link = c.link ∙ sym all.link; up = c.up ∙ sym all.up } in
    let tried : HasTried q new = record {
      part = sym all.part;
      link = changed.link;
      sent = ap sent_signals changed.up;
      looks = ap up_steps changed.up;
      ins = ap (map shown) changed.put ∙ map_same shown q.inlets.items at i is all.there (shown_same i is changed.number hub received steps closer);
    } in
    let H : ℕ → List (Stream T) → Type 0 = λ h values. LinkStands b values q.part h is.inlet.down i.inlet.closer in
    let C : CancelSeat → List (Stream T) → Type 0 = λ s values. LinkStands b values q.part is.inlet.hub is.inlet.down s in
    record {
      go = goes_then b m links 0 (length k.items) 0 0 0 n p q new refl (plus_none (length k.items) n (sym k.count)) all.go (goes_one b m links Try 0 0 q new refl refl tried);
      stands = λ hubs opening st. stands_asked b m hubs opening q new at i is changed (sym all.part) received (λ values s.
          let seen = link_seen b values q.part i.inlet.hub i.inlet.down is.inlet.down i.inlet.closer received steps carried s in
          subst (λ (z : CancelSeat). C z values) (sym closer) (subst (λ (h : ℕ). H h values) (sym hub) seen)) (all.stands hubs opening st);
    }
