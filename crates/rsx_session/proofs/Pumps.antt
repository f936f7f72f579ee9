-- Lemmas about `pump`: runs of moves.
use Rattle.std.proofs.Common.{◌≡◌, ℕ, ◌+◌, zero, suc, List, [], ◌∷◌, ◌++◌, ◌≤◌, length, length-append, arith, map, refl, ap, sym, subst, ◌∙◌, Option, Some, None, Ok}
use Rattle.rsx_session.specs.Prelude.{Accept, AllLead, AllPumpTo, AllRun, ArePumped, Ask, HasEnded, HasPumpedIn, HasRun, History, HubPast, IsMoveMade, Known, LeadTo, Made, Pick, Row, Rows, Send, Session, SessionStands, Signal, SubId, Take, Val, accepted_at, after_move, after_moves, all_taken, delivered_by, demo_meaning, known, pumped_text, seen, sent_at, source_of, sources_of, state_of, taken, with_delivery, with_made, with_moved, with_sent}
use Rattle.rsx_types.specs.declared.names.Move.{Move}
use Rattle.rsx_types.specs.declared.names.Tree.{Tree}
use Rattle.rsx_types.specs.declared.names.Tree.TheVariants.{Sub, Feed as FeedOf}
use Rattle.std.proofs.lemmas.List.Sums.{fold-append}
use Rattle.std.specs.Option.{option_to_list}
use Rattle.rsx_tree.proofs.Runs.{leads_on}
use Rattle.rsx_subscriber.specs.Prelude.{Delivered, Past, given, IsMadeAnswer}
use Rattle.rsx_graph_state.specs.Answers.{changed}
use Rattle.rsx_graph_state.specs.declared.step.Pumped.{Pumped}
use Rattle.rsx_graph_state.specs.declared.step.Pumped.TheVariants.{Idle, Budget}
use Rattle.rsx_session.proofs.Calls.{seen_given}

-- ---- moves publish nothing

sources_same : (f : HubPast Val → HubPast Val) → ((p : HubPast Val) → (f p).source ≡ p.source) → (hubs : List (HubPast Val)) (i : ℕ) → map (λ p. source_of p.source) (changed f hubs i) ≡ map (λ p. source_of p.source) hubs
sources_same f k [] i = refl
sources_same f k (p ∷ ps) zero = ap (λ s. source_of s ∷ map (λ q. source_of q.source) ps) (k p)
sources_same f k (p ∷ ps) (suc i) = ap (λ l. source_of p.source ∷ l) (sources_same f k ps i)

delivery_published : (o : Option (SubId × Signal Val)) (h : History Val) → sources_of (with_delivery o h) ≡ sources_of h
delivery_published None h = refl
delivery_published (Some d) h = refl

sent_published : (s : Option (Signal Val)) (i : ℕ) (h : History Val) → sources_of (with_sent s i h) ≡ sources_of h
sent_published None i h = refl
sent_published (Some s) i h = sources_same (sent_at s) (λ p. refl) h.hubs i

moved_published : (t : Tree) (o : Option (SubId × Signal Val)) (s : Option (Signal Val)) (h : History Val) → sources_of (with_moved t o s h) ≡ sources_of h
moved_published (Sub i) o s h = delivery_published o h
moved_published (FeedOf i) o s h = sent_published s i.0 h

made_published : (move : Move) (o : Option (SubId × Signal Val)) (s : Option (Signal Val)) (h : History Val) → sources_of (with_made move o s h) ≡ sources_of h
made_published (Ask t n) o s h = moved_published t o s h
made_published (Send t n) o s h = moved_published t o s h
made_published (Take t n) o s h = moved_published t o s h
made_published (Pick t n i) o s h = moved_published t o s h
made_published (Row t n) o s h = moved_published t o s h
made_published (Accept i) o s h = sources_same accepted_at (λ p. refl) h.hubs i.0

pub published_after : (h : History Val) (moves : List (Made Val)) → sources_of (after_moves h moves) ≡ sources_of h
published_after h [] = refl
published_after h (d ∷ ds) = published_after (with_made d.move d.delivered d.fed h) ds ∙ made_published d.move d.delivered d.fed h

-- ---- what subscribers received

given_seen : (s : Signal Val) (ps : List (Past Val)) (i : ℕ) → map seen (changed (given s) ps i) ≡ changed (taken s) (map seen ps) i
given_seen s [] i = refl
given_seen s (p ∷ ps) zero = ap (λ k. k ∷ map seen ps) (seen_given s p)
given_seen s (p ∷ ps) (suc i) = ap (λ l. seen p ∷ l) (given_seen s ps i)

delivery_seen : (o : Option (SubId × Signal Val)) (h : History Val) → map seen (with_delivery o h).pasts ≡ all_taken (option_to_list o) (map seen h.pasts)
delivery_seen None h = refl
delivery_seen (Some d) h = given_seen d.1 h.pasts d.0.0

sent_pasts : (s : Option (Signal Val)) (i : ℕ) (h : History Val) → (with_sent s i h).pasts ≡ h.pasts
sent_pasts None i h = refl
sent_pasts (Some s) i h = refl

-- a move in the tree of a feed delivers nothing
moved_seen : (t : Tree) (o : Option (SubId × Signal Val)) (s : Option (Signal Val)) (h : History Val) → o ≡ None → map seen (with_moved t o s h).pasts ≡ all_taken (option_to_list o) (map seen h.pasts)
moved_seen (Sub i) o s h none = delivery_seen o h
moved_seen (FeedOf i) o s h none = ap (map seen) (sent_pasts s i.0 h) ∙ ap (λ x. all_taken (option_to_list x) (map seen h.pasts)) (sym none)

made_seen : (move : Move) (o : Option (SubId × Signal Val)) (s : Option (Signal Val)) (h : History Val) → IsMadeAnswer move o → map seen (with_made move o s h).pasts ≡ all_taken (option_to_list o) (map seen h.pasts)
made_seen (Ask t n) o s h a = moved_seen t o s h a
made_seen (Send t n) o s h a = moved_seen t o s h a
made_seen (Take (Sub i) n) o s h a = delivery_seen o h
made_seen (Take (FeedOf i) n) o s h a = moved_seen (FeedOf i) o s h a
made_seen (Pick t n i) o s h a = moved_seen t o s h a
made_seen (Row t n) o s h a = moved_seen t o s h a
made_seen (Accept i) o s h a = ap (λ x. all_taken (option_to_list x) (map seen h.pasts)) (sym a)

taken_on : (ds es : List (SubId × Signal Val)) (ks : List Known) → all_taken (ds ++ es) ks ≡ all_taken es (all_taken ds ks)
taken_on [] es ks = refl
taken_on (d ∷ ds) es ks = taken_on ds es (changed (taken d.1) ks d.0.0)

pub seen_after : (old new : Rows Val) (h : History Val) (moves : List (Made Val)) → LeadTo demo_meaning old moves new → map seen (after_moves h moves).pasts ≡ all_taken (delivered_by moves) (map seen h.pasts)
seen_after old new h [] lead = refl
seen_after old new h (d ∷ ds) (mid, made, lead) =
    seen_after mid new (with_made d.move d.delivered d.fed h) ds lead
    ∙ (ap (all_taken (delivered_by ds)) (made_seen d.move d.delivered d.fed h made.answer) ∙ sym (taken_on (option_to_list d.delivered) (delivered_by ds) (map seen h.pasts)))

-- ---- one run behind another

-- no move was made so far
pub none_run : (s : Session) → AllRun 0 s s
none_run s = λ h k. record { moves = []; counted = refl; lead = refl; same = (refl, refl, refl); stands = k; view = refl }

-- and then further moves
run_on : (n m : ℕ) (old mid new : Session) (h : History Val) → (a : HasRun n old h mid) → HasRun m mid (after_moves h a.moves) new → HasRun (n + m) old h new
run_on n m old mid new h a b =
    let P : History Val → Type 0 = λ k. SessionStands new k in
    record {
      moves = a.moves ++ b.moves;
      counted = let l = length-append a.moves b.moves in let x = a.counted in let y = b.counted in omega (arith, l, x, y);
      lead = leads_on (IsMoveMade demo_meaning) (state_of old.graph).rows (state_of mid.graph).rows (state_of new.graph).rows a.moves b.moves a.lead b.lead;
      same = (b.same.0 ∙ a.same.0, b.same.1 ∙ a.same.1, b.same.2 ∙ a.same.2);
      stands = subst P (sym (fold-append after_move h a.moves b.moves)) b.stands;
      view = b.view ∙ a.view;
    }

-- a slice that spent its budget
pub run_spent : (n budget total : ℕ) (old mid new : Session) → n + budget ≡ total → AllRun n old mid → AllPumpTo budget mid Budget new → AllRun total old new
run_spent n budget total old mid new e a b = λ h k.
    let x = a h k in
    let y = b (after_moves h x.moves) x.stands in
    let N : ℕ → Type 0 = λ i. HasRun i old h new in
    subst N (ap (λ i. n + i) y.ends.0 ∙ e) (run_on n y.count old mid new h x y.run)

-- the last one
pub last_idle : (n budget total : ℕ) (old mid new : Session) → n + budget ≤ total → AllRun n old mid → AllPumpTo budget mid Idle new → AllPumpTo total old Idle new
last_idle n budget total old mid new e a b = λ h k.
    let x = a h k in
    let y = b (after_moves h x.moves) x.stands in
    let within = y.ends.0 in
    record { count = n + y.count; run = run_on n y.count old mid new h x y.run; ends = (omega (arith, e, within), y.ends.1) }

pub last_spent : (n budget total : ℕ) (old mid new : Session) → n + budget ≡ total → AllRun n old mid → AllPumpTo budget mid Budget new → AllPumpTo total old Budget new
last_spent n budget total old mid new e a b = λ h k.
    let x = a h k in
    let y = b (after_moves h x.moves) x.stands in
    let spent = y.ends.0 in
    record { count = n + y.count; run = run_on n y.count old mid new h x y.run; ends = (omega (arith, e, spent), y.ends.1) }

-- ---- the answer

-- what the graph did and what was taken in make a run of the session
pub slice_made : (budget : ℕ) (old new : Session) (before after : Delivered Val) (signals : List (SubId × Signal Val)) (ended : Pumped) → HasPumpedIn budget old.graph before (Ok ended) new.graph after → before.signals ≡ old.spare.items → signals ≡ after.signals → new.published.items ≡ old.published.items → map known new.records.items ≡ all_taken signals (map known old.records.items) → new.spare.items ≡ [] → new.view ≡ old.view → AllPumpTo budget old ended new
slice_made budget old new before after signals ended done first same published records spare view = λ h k.
    let moves = done.moves in
    let all : signals ≡ delivered_by moves = same ∙ (done.output ∙ ap (λ l. l ++ delivered_by moves) (first ∙ k.spare)) in
    let run : HasRun (length moves) old h new = record {
      moves = moves;
      counted = refl;
      lead = done.lead;
      same = done.same;
      stands = record {
        graph = done.stands h k.graph;
        published = published ∙ (k.published ∙ sym (published_after h moves));
        records = records ∙ (ap (λ l. all_taken signals l) k.records ∙ (ap (λ l. all_taken l (map seen h.pasts)) all ∙ sym (seen_after (state_of old.graph).rows (state_of new.graph).rows h moves done.lead)));
        spare = spare;
      };
      view = view;
    } in
    record { count = length moves; run = run; ends = done.ends }

-- a pump leads on, where its answer says how it ended
pub pump_leads : (budget : ℕ) (old new : Session) (ended : Pumped) → AllPumpTo budget old ended new → AllLead (ArePumped budget) old (pumped_text ended) new
pump_leads budget old new ended all = λ h k.
    let p = all h k in
    let N : ℕ → Type 0 = λ n. HasEnded demo_meaning budget n (state_of new.graph).rows (Ok ended) in
    record {
      history = after_moves h p.run.moves;
      stands = p.run.stands;
      answers = (p.run.moves, p.run.lead, p.run.same, refl, (ended, subst N (sym p.run.counted) p.ends, refl));
      view = p.run.view;
    }
