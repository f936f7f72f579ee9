-- Many pieces, of which one was served.
use Rattle.std.proofs.Common.{◌≡◌, inl, inr, ℕ, ◌+◌, List, [], ◌∷◌, ◌++◌, refl, sym, ap, ◌∙◌, subst, Some, slice_get, slice_set}
use Rattle.std.proofs.lemmas.List.{length-set}
use Rattle.rsx_sources.specs.Prelude.{Meaning, Stream}
use Rattle.rsx_sources.specs.declared.machine.Machine.{Ghosts as Machine}
use Rattle.rsx_tree.specs.Runs.{Leads}
use Rattle.rsx_tree.proofs.Runs.{leads_on}
use Rattle.rsx_link.specs.declared.link.Link.{Link}
use Rattle.rsx_region.specs.Pieces.{IsPieceOf, StandsSince}
use Rattle.rsx_region.specs.Regions.{ArePiecesOf, IsServedAt, IsStepOfOne, RegionGoes, RegionStands}
use Rattle.rsx_region.specs.Serving.{EachBefore, IsAtRest}
use Rattle.rsx_region.specs.Steps.{Goes, IsStep, moves_in, pops_in}
use Rattle.rsx_region.specs.declared.piece.Piece.{Piece}
use Rattle.rsx_region.specs.declared.step.Step.{Step}
use Rattle.rsx_region.proofs.Lists.{each_set, set_again, set_cases, set_same, set_there}
use Rattle.rsx_region.proofs.Rests.{before_more}
use Rattle.rsx_region.proofs.Runs.{both, moves_append, pops_append}

-- a run of one piece is one of the row
lifted : {M T : Type 0} (b : Machine M T) (m : Meaning T) (links : List (Link T)) (ps : List (Piece M T)) (at : ℕ) (first was is : Piece M T) (ls : List Step) → slice_get ps at ≡ Some first → Leads (IsStep b m links) was ls is → Leads (IsStepOfOne b m links) (slice_set ps at was) ls (slice_set ps at is)
lifted b m links ps at first was is [] there h = ap (slice_set ps at) h
lifted b m links ps at first was is (l ∷ ls) there h =
    let step : IsStepOfOne b m links (slice_set ps at was) l (slice_set ps at h.0) = record { at = at; was = was; is = h.0; there = set_there ps at first was there; put = sym (set_again ps at was h.0); step = h.1 } in
    (slice_set ps at h.0, step, lifted b m links ps at first h.0 is ls there h.2)

pub region_goes_one : {M T : Type 0} (b : Machine M T) (m : Meaning T) (links : List (Link T)) (x y : ℕ) (ps : List (Piece M T)) (at : ℕ) (was is : Piece M T) → slice_get ps at ≡ Some was → Goes b m links x y was is → RegionGoes b m links x y ps (slice_set ps at is)
region_goes_one {M} {T} b m links x y ps at was is there g =
    let P : List (Piece M T) → Type 0 = λ l. Leads (IsStepOfOne b m links) l g.labels (slice_set ps at is) in
    record { labels = g.labels; made = g.made; popped = g.popped; run = subst P (set_same ps at was there) (lifted b m links ps at was was is g.labels there g.run) }

pub region_goes_none : {M T : Type 0} (b : Machine M T) (m : Meaning T) (links : List (Link T)) (ps : List (Piece M T)) → RegionGoes b m links 0 0 ps ps
region_goes_none b m links ps = record { labels = []; made = refl; popped = refl; run = refl }

pub region_goes_then : {M T : Type 0} (b : Machine M T) (m : Meaning T) (links : List (Link T)) (i j k l x y : ℕ) (p q r : List (Piece M T)) → i + k ≡ x → j + l ≡ y → RegionGoes b m links i j p q → RegionGoes b m links k l q r → RegionGoes b m links x y p r
region_goes_then b m links i j k l x y p q r ex ey g h = record {
  labels = g.labels ++ h.labels;
  made = both (moves_in (g.labels ++ h.labels)) (moves_in g.labels) (moves_in h.labels) i k x (moves_append g.labels h.labels) g.made h.made ex;
  popped = both (pops_in (g.labels ++ h.labels)) (pops_in g.labels) (pops_in h.labels) j l y (pops_append g.labels h.labels) g.popped h.popped ey;
  run = leads_on (IsStepOfOne b m links) p q r g.labels h.labels g.run h.run;
}

pub region_stands_one : {M T : Type 0} (b : Machine M T) (m : Meaning T) (hubs : List (Stream T)) (opening ps : List (Piece M T)) (at : ℕ) (was is : Piece M T) → slice_get ps at ≡ Some was →
    ((o : Piece M T) → StandsSince b m hubs o was → StandsSince b m hubs o is) → RegionStands b m hubs opening ps → RegionStands b m hubs opening (slice_set ps at is)
region_stands_one {M} {T} b m hubs opening ps at was is there keeps h = record {
  count = length-set ps at is ∙ h.count;
  each = λ k o p first now. elim (set_cases ps at k is p now) [
    | inl s ↦
        let P : Piece M T → Type 0 = λ q. StandsSince b m hubs o q in
        let K : ℕ → Type 0 = λ j. slice_get opening j ≡ Some o in
        subst P (sym s.1) (keeps o (h.each at o was (subst K s.0 first) there))
    | inr s ↦ h.each k o p first s.1
  ];
}

pub pieces_one : {M T : Type 0} (links : List (Link T)) (ps : List (Piece M T)) (at : ℕ) (is : Piece M T) → IsPieceOf links is → ArePiecesOf links ps → ArePiecesOf links (slice_set ps at is)
pieces_one {M} {T} links ps at is h all = let P : Piece M T → Type 0 = λ p. IsPieceOf links p in each_set P ps at is h all

pub rests_more : {M T : Type 0} (b : Machine M T) (m : Meaning T) (at : ℕ) (ps new : List (Piece M T)) → IsServedAt b m at ps new → EachBefore at (IsAtRest b m) ps → EachBefore (at + 1) (IsAtRest b m) new
rests_more b m at ps new h all = before_more (IsAtRest b m) ps new at h.is h.put h.rests all
