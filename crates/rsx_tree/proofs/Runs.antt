-- Runs of steps: how they are put together, led over into others, and what they keep.
use Rattle.std.proofs.Common.{◌≡◌, ℕ, suc, ◌+◌, List, [], ◌∷◌, ◌++◌, length, length-append, map, replicate, refl, ap, sym, ◌∙◌, subst}
use Rattle.std.proofs.lemmas.List.{append-nil, replicate-append-replicate}
use Rattle.std.proofs.lemmas.List.Concat.{flat_map-append}
use Rattle.std.specs.List.{flat_map, fold}
use Rattle.rsx_tree.specs.Runs.{Leads, LeadsBy, Unlabelled, Gives}

-- ---- one behind another

pub leads_on : {S L : Type 0} (step : S → L → S → Type 0) (a b c : S) (ls ms : List L) → Leads step a ls b → Leads step b ms c → Leads step a (ls ++ ms) c
leads_on {S} step a b c [] ms x y = let P : S → Type 0 = λ s. Leads step s ms c in subst P x y
leads_on step a b c (l ∷ ls) ms x y = (x.0, x.1, leads_on step x.0 b c ls ms x.2 y)

pub leads_by_on : {S : Type 0} (step : S → S → Type 0) (n k : ℕ) (a b c : S) → LeadsBy step n a b → LeadsBy step k b c → LeadsBy step (n + k) a c
leads_by_on step n k a b c x y =
    let P : List (Unit {0}) → Type 0 = λ ls. Leads (Unlabelled step) a ls c in
    subst P (replicate-append-replicate n k tt) (leads_on (Unlabelled step) a b c (replicate n tt) (replicate k tt) x y)

pub gives_on : {S L D : Type 0} (step : S → L → S → Type 0) (out : L → List D) (n k : ℕ) (a b c : S) (ds es : List D) → Gives step out n a ds b → Gives step out k b es c → Gives step out (n + k) a (ds ++ es) c
gives_on step out n k a b c ds es x y = record {
  labels = x.labels ++ y.labels;
  count = length-append x.labels y.labels ∙ (ap (λ i. i + length y.labels) x.count ∙ ap (λ i. n + i) y.count);
  all = ap (λ l. l ++ es) x.all ∙ (ap (λ l. flat_map out x.labels ++ l) y.all ∙ sym (flat_map-append out x.labels y.labels));
  run = leads_on step a b c x.labels y.labels x.run y.run;
}

-- ---- none, and one

pub gives_none : {S L D : Type 0} (step : S → L → S → Type 0) (out : L → List D) (a b : S) → b ≡ a → Gives step out 0 a [] b
gives_none step out a b same = record { labels = []; count = refl; all = refl; run = same }

pub gives_one : {S L D : Type 0} (step : S → L → S → Type 0) (out : L → List D) (a b : S) (l : L) → step a l b → Gives step out 1 a (out l) b
gives_one step out a b l made = record { labels = l ∷ []; count = refl; all = sym (append-nil (out l)); run = (b, made, refl) }

-- ---- steps that are led over into other steps

pub leads_lift : {S T L : Type 0} (step : S → L → S → Type 0) (other : T → L → T → Type 0) (f : S → T) → ((a b : S) (l : L) → step a l b → other (f a) l (f b)) → (a b : S) (ls : List L) → Leads step a ls b → Leads other (f a) ls (f b)
leads_lift step other f lift a b [] x = ap f x
leads_lift step other f lift a b (l ∷ ls) x = (f x.0, lift a x.0 l x.1, leads_lift step other f lift x.0 b ls x.2)

pub leads_by_lift : {S T : Type 0} (step : S → S → Type 0) (other : T → T → Type 0) (f : S → T) → ((a b : S) → step a b → other (f a) (f b)) → (n : ℕ) (a b : S) → LeadsBy step n a b → LeadsBy other n (f a) (f b)
leads_by_lift step other f lift n a b x = leads_lift (Unlabelled step) (Unlabelled other) f (λ u v l. lift u v) a b (replicate n tt) x

-- into steps that give nothing, all with this label
pub leads_silent : {S T L K D : Type 0} (step : S → L → S → Type 0) (other : T → K → T → Type 0) (out : K → List D) (f : S → T) (k : K) → out k ≡ [] → ((a b : S) (l : L) → step a l b → other (f a) k (f b)) → (n : ℕ) (a b : S) (ls : List L) → length ls ≡ n → Leads step a ls b → Gives other out n (f a) [] (f b)
leads_silent {S} {T} {L} {K} step other out f k none lift n a b ls count x = record {
  labels = named ls;
  count = counted ls ∙ count;
  all = all ls;
  run = run a ls x;
}
  where
    named : List L → List K
    named ls = map (λ l. k) ls

    counted : (ls : List L) → length (named ls) ≡ length ls
    counted [] = refl
    counted (l ∷ ls) = ap suc (counted ls)

    all : (ls : List L) → [] ≡ flat_map out (named ls)
    all [] = refl
    all (l ∷ ls) = all ls ∙ ap (λ d. d ++ flat_map out (named ls)) (sym none)

    run : (a : S) (ls : List L) → Leads step a ls b → Leads other (f a) (named ls) (f b)
    run a [] x = ap f x
    run a (l ∷ ls) x = (f x.0, lift a x.0 l x.1, run x.0 ls x.2)

-- ---- what is kept, and what is added

-- what each step keeps
pub leads_keep : {S L : Type 0} (step : S → L → S → Type 0) (P : S → Type 0) → ((a b : S) (l : L) → step a l b → P a → P b) → (a b : S) (ls : List L) → Leads step a ls b → P a → P b
leads_keep step P keeps a b [] x p = subst P (sym x) p
leads_keep step P keeps a b (l ∷ ls) x p = leads_keep step P keeps x.0 b ls x.2 (keeps a x.0 l x.1 p)

pub leads_by_keep : {S : Type 0} (step : S → S → Type 0) (P : S → Type 0) → ((a b : S) → step a b → P a → P b) → (n : ℕ) (a b : S) → LeadsBy step n a b → P a → P b
leads_by_keep step P keeps n a b x p = leads_keep (Unlabelled step) P (λ u v l. keeps u v) a b (replicate n tt) x p

-- what each step keeps of its state and of what its label makes of something beside it
pub leads_fold : {S L H : Type 0} (step : S → L → S → Type 0) (next : H → L → H) (P : S → H → Type 0) → ((a b : S) (l : L) (h : H) → step a l b → P a h → P b (next h l)) → (a b : S) (ls : List L) (h : H) → Leads step a ls b → P a h → P b (fold next h ls)
leads_fold step next P keeps a b [] h x p = subst (λ s. P s h) (sym x) p
leads_fold step next P keeps a b (l ∷ ls) h x p = leads_fold step next P keeps x.0 b ls (next h l) x.2 (keeps a x.0 l h x.1 p)

-- what each step adds by what it gives
pub leads_add : {S L D : Type 0} (step : S → L → S → Type 0) (out : L → List D) (P : S → List D → S → Type 0) → ((a b : S) (l : L) → step a l b → P a (out l) b) → ((a : S) → P a [] a) → ((a b c : S) (ds es : List D) → P a ds b → P b es c → P a (ds ++ es) c) →
    (a b : S) (ls : List L) → Leads step a ls b → P a (flat_map out ls) b
leads_add step out P one none on a b [] x = subst (λ s. P a [] s) (sym x) (none a)
leads_add step out P one none on a b (l ∷ ls) x = on a x.0 b (out l) (flat_map out ls) (one a x.0 l x.1) (leads_add step out P one none on x.0 b ls x.2)
