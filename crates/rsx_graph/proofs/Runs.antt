-- Lists of steps, one step after the other.
use Rattle.rsx_kinds.specs.Any.{any_machine}
use Rattle.rsx_graph.proofs.Laws.{any_laws}
use Rattle.std.proofs.Common.{◌≡◌, List, [], ◌∷◌, ◌++◌, length, Option, refl, ap, sym, ◌∙◌, subst, arith, append-nil}
use Rattle.rsx_graph_state.proofs.Values.{whole_holds}
use Rattle.rsx_graph_state.specs.History.{History}
use Rattle.rsx_graph_state.specs.declared.step.Answer.{Answer}
use Rattle.rsx_sources.specs.Prelude.{Meaning, Allocates, Signal}
use Rattle.rsx_graph.specs.Done.{AllDone, HasRun, IsDone, fed_by}
use Rattle.rsx_graph.specs.Replayed.{IsReplayed}
use Rattle.rsx_graph.specs.Stands.{GraphStands, GraphState, nothing}
use Rattle.rsx_graph.specs.Steps.{AllBelong, Belongs, all_extended, extended, no_history}
use Rattle.rsx_graph.specs.declared.step.Step.{Step}
use Rattle.rsx_graph.proofs.Kept.{begun}

-- ---- one step more

extended_more : {T : Type 0} (m : Meaning T) (a : Allocates) (old mid : GraphState T) (h : History T) (steps : List (Step T)) (answers : List (Answer T)) (sent : List (Option (Signal T))) (s : Step T) (r : Answer T) (o : Option (Signal T)) → AllDone m a old steps answers sent mid →
    all_extended h (steps ++ s ∷ []) (answers ++ r ∷ []) (sent ++ o ∷ []) ≡ extended (all_extended h steps answers sent) s r o
extended_more m a old mid h [] [] [] s r o k = refl
extended_more m a old mid h (t ∷ ss) (u ∷ rs) (v ∷ os) s r o k = extended_more m a k.0 mid (extended h t u v) ss rs os s r o k.3
extended_more m a old mid h [] [] (v ∷ os) s r o k = absurd k
extended_more m a old mid h [] (u ∷ rs) os s r o k = absurd k
extended_more m a old mid h (t ∷ ss) [] os s r o k = absurd k
extended_more m a old mid h (t ∷ ss) (u ∷ rs) [] s r o k = absurd k

belong_more : {T : Type 0} (h : History T) (steps : List (Step T)) (answers : List (Answer T)) (sent : List (Option (Signal T))) (s : Step T) (r : Answer T) (o : Option (Signal T)) → AllBelong h steps answers sent → Belongs (all_extended h steps answers sent) s r →
    AllBelong h (steps ++ s ∷ []) (answers ++ r ∷ []) (sent ++ o ∷ [])
belong_more h [] [] [] s r o k b = (b, tt)
belong_more h (t ∷ ss) (u ∷ rs) (v ∷ os) s r o k b = (k.0, belong_more (extended h t u v) ss rs os s r o k.1 b)
belong_more h [] [] (v ∷ os) s r o k b = absurd k
belong_more h [] (u ∷ rs) os s r o k b = absurd k
belong_more h (t ∷ ss) [] os s r o k b = absurd k
belong_more h (t ∷ ss) (u ∷ rs) [] s r o k b = absurd k

done_more : {T : Type 0} (m : Meaning T) (a : Allocates) (old mid new : GraphState T) (steps : List (Step T)) (answers : List (Answer T)) (sent : List (Option (Signal T))) (s : Step T) (r : Answer T) → AllDone m a old steps answers sent mid → IsDone m a mid s r new →
    AllDone m a old (steps ++ s ∷ []) (answers ++ r ∷ []) (sent ++ fed_by m mid s r ∷ []) new
done_more {T} m a old mid new [] [] [] s r k d = let P : GraphState T → Type 0 = λ g. IsDone m a g s r new in (new, subst P k d, ap (λ g. fed_by m g s r) k, refl)
done_more m a old mid new (t ∷ ss) (u ∷ rs) (v ∷ os) s r k d = (k.0, k.1, k.2, done_more m a k.0 mid new ss rs os s r k.3 d)
done_more m a old mid new [] [] (v ∷ os) s r k d = absurd k
done_more m a old mid new [] (u ∷ rs) os s r k d = absurd k
done_more m a old mid new (t ∷ ss) [] os s r k d = absurd k
done_more m a old mid new (t ∷ ss) (u ∷ rs) [] s r k d = absurd k

pub run_more : {T : Type 0} (m m' : Meaning T) (a a' : Allocates) (steps : List (Step T)) (s : Step T) (first before after : GraphState T) (answers answers' : List (Answer T)) (r : Answer T) →
    m' ≡ m → a' ≡ a → answers' ≡ answers ++ r ∷ [] →
    HasRun m a first steps answers before →
    ((h : History T) → GraphStands m' before h → GraphStands m' after (extended h s r (fed_by m' before s r))) →
    ((h : History T) → GraphStands m' before h → Belongs h s r) →
    IsDone m' a' before s r after →
    HasRun m a first (steps ++ s ∷ []) answers' after
run_more {T} m m' a a' steps s first before after answers answers' r same alike pushed k stands belongs done =
    let Q : List (Answer T) → Type 0 = λ l. HasRun m a first (steps ++ s ∷ []) l after in
    let S : Meaning T → Type 0 = λ n. (h : History T) → GraphStands n before h → GraphStands n after (extended h s r (fed_by n before s r)) in
    let B : Meaning T → Type 0 = λ n. (h : History T) → GraphStands n before h → Belongs h s r in
    let D : Meaning T → Type 0 = λ n. IsDone n a' before s r after in
    let E : Allocates → Type 0 = λ b. IsDone m b before s r after in
    let stands' : (h : History T) → GraphStands m before h → GraphStands m after (extended h s r (fed_by m before s r)) = subst S same stands in
    let belongs' : (h : History T) → GraphStands m before h → Belongs h s r = subst B same belongs in
    let out = fed_by m before s r in
    let grown : HasRun m a first (steps ++ s ∷ []) (answers ++ r ∷ []) after = record {
      sent = k.sent ++ out ∷ [];
      done = done_more m a first before after steps answers k.sent s r k.done (subst E alike (subst D same done));
      stands = λ h x. let G : History T → Type 0 = λ g. GraphStands m after g in subst G (sym (extended_more m a first before h steps answers k.sent s r out k.done)) (stands' (all_extended h steps answers k.sent) (k.stands h x));
      belongs = λ h x. belong_more h steps answers k.sent s r out (k.belongs h x) (belongs' (all_extended h steps answers k.sent) (k.stands h x));
    } in
    subst Q (sym pushed) grown

pub run_all : {T : Type 0} (m : Meaning T) (a : Allocates) (steps done rest : List (Step T)) (first after : GraphState T) (answers : List (Answer T)) → done ++ rest ≡ steps → length rest ≡ 0 → HasRun m a first done answers after → HasRun m a first steps answers after
run_all {T} m a steps done [] first after answers e none r =
    let P : List (Step T) → Type 0 = λ s. HasRun m a first s answers after in
    subst P (sym (append-nil done) ∙ e) r
run_all m a steps done (s ∷ rest) first after answers e none r = absurd (omega (arith, none))

pub run_none : {T : Type 0} (m : Meaning T) (a : Allocates) (g : GraphState T) (answers : List (Answer T)) → answers ≡ [] → HasRun m a g [] answers g
run_none {T} m a g answers e =
    let P : List (Answer T) → Type 0 = λ l. HasRun m a g [] l g in
    subst P (sym e) (record { sent = []; done = refl; stands = λ h k. k; belongs = λ h k. tt })

-- ---- from nothing

pub replayed : {T : Type 0} (m m' : Meaning T) (a a' : Allocates) (steps : List (Step T)) (answers : List (Answer T)) (old new : GraphState T) → m' ≡ m → a' ≡ a → old ≡ nothing → HasRun m' a' old steps answers new → IsReplayed m a steps answers new
replayed {T} m m' a a' steps answers old new same alike none run =
    let M : Meaning T → Type 0 = λ n. HasRun n a' old steps answers new in
    let A : Allocates → Type 0 = λ b. HasRun m b old steps answers new in
    let G : GraphState T → Type 0 = λ g. HasRun m a g steps answers new in
    let k : HasRun m a nothing steps answers new = subst G none (subst A alike (subst M same run)) in
    let h : History T = all_extended no_history steps answers k.sent in
    let stands : GraphStands m new h = k.stands no_history (begun m) in
    record { sent = k.sent; done = k.done; belongs = k.belongs no_history (begun m); stands = stands; headline = whole_holds any_machine any_laws m new.rows h stands.rows }
