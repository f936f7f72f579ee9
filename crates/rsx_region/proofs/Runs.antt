-- Steps of a piece, one after the other.
use Rattle.std.proofs.Common.{◌≡◌, ℕ, ◌+◌, Bool, true, false, cond, List, [], ◌∷◌, ◌++◌, refl, sym, ◌∙◌, arith}
use Rattle.rsx_sources.specs.Prelude.{Meaning}
use Rattle.rsx_sources.specs.declared.machine.Machine.{Ghosts as Machine}
use Rattle.rsx_tree.proofs.Runs.{leads_on}
use Rattle.rsx_link.specs.declared.link.Link.{Link}
use Rattle.rsx_region.specs.Steps.{Goes, IsStep, moves_in, move_count, pops_in, pop_count}
use Rattle.rsx_region.specs.declared.piece.Piece.{Piece}
use Rattle.rsx_region.specs.declared.step.Step.{Step}

pub moves_append : (ls ms : List Step) → moves_in (ls ++ ms) ≡ moves_in ls + moves_in ms
moves_append [] ms = let e : moves_in ms ≡ 0 + moves_in ms = omega arith in e
moves_append (l ∷ ls) ms = let e : moves_in (ls ++ ms) ≡ moves_in ls + moves_in ms = moves_append ls ms in let r : move_count l + moves_in (ls ++ ms) ≡ move_count l + moves_in ls + moves_in ms = omega (arith, e) in r

pub pops_append : (ls ms : List Step) → pops_in (ls ++ ms) ≡ pops_in ls + pops_in ms
pops_append [] ms = let e : pops_in ms ≡ 0 + pops_in ms = omega arith in e
pops_append (l ∷ ls) ms = let e : pops_in (ls ++ ms) ≡ pops_in ls + pops_in ms = pops_append ls ms in let r : pop_count l + pops_in (ls ++ ms) ≡ pop_count l + pops_in ls + pops_in ms = omega (arith, e) in r

pub both : (a b c d e f : ℕ) → a ≡ b + c → b ≡ d → c ≡ e → d + e ≡ f → a ≡ f
both a b c d e f h i j k = omega (arith, h, i, j, k)

-- two runs, one after the other
pub goes_then : {M T : Type 0} (b : Machine M T) (m : Meaning T) (links : List (Link T)) (i j k l x y : ℕ) (p q r : Piece M T) → i + k ≡ x → j + l ≡ y → Goes b m links i j p q → Goes b m links k l q r → Goes b m links x y p r
goes_then b m links i j k l x y p q r ex ey g h = record {
  labels = g.labels ++ h.labels;
  made = both (moves_in (g.labels ++ h.labels)) (moves_in g.labels) (moves_in h.labels) i k x (moves_append g.labels h.labels) g.made h.made ex;
  popped = both (pops_in (g.labels ++ h.labels)) (pops_in g.labels) (pops_in h.labels) j l y (pops_append g.labels h.labels) g.popped h.popped ey;
  run = leads_on (IsStep b m links) p q r g.labels h.labels g.run h.run;
}

pub goes_none : {M T : Type 0} (b : Machine M T) (m : Meaning T) (links : List (Link T)) (p : Piece M T) → Goes b m links 0 0 p p
goes_none b m links p = record { labels = []; made = refl; popped = refl; run = refl }

with_none : (n : ℕ) → n + 0 ≡ n
with_none n = omega arith

pub goes_one : {M T : Type 0} (b : Machine M T) (m : Meaning T) (links : List (Link T)) (s : Step) (x y : ℕ) (p q : Piece M T) → move_count s ≡ x → pop_count s ≡ y → IsStep b m links p s q → Goes b m links x y p q
goes_one b m links s x y p q ex ey h = record { labels = s ∷ []; made = with_none (move_count s) ∙ ex; popped = with_none (pop_count s) ∙ ey; run = (q, h, refl) }

pub goes_as : {M T : Type 0} (b : Machine M T) (m : Meaning T) (links : List (Link T)) (i j x y : ℕ) (p q : Piece M T) → i ≡ x → j ≡ y → Goes b m links i j p q → Goes b m links x y p q
goes_as b m links i j x y p q ex ey g = record { labels = g.labels; made = g.made ∙ ex; popped = g.popped ∙ ey; run = g.run }

-- ---- counts

pub plus_none : (n x : ℕ) → x ≡ n → n + 0 ≡ x
plus_none n x h = omega (arith, h)

pub none_plus : (n x : ℕ) → x ≡ n → 0 + n ≡ x
none_plus n x h = omega (arith, h)

pub one_made : (f : Bool) (k x : ℕ) → f ≡ true → x ≡ 1 + k → cond f 1 0 + k ≡ x
one_made true k x is e = sym e
one_made false k x is e = cc

-- a look, requests, and signals that were taken
pub goes_three : {M T : Type 0} (b : Machine M T) (m : Meaning T) (links : List (Link T)) (n : ℕ) (p q r s : Piece M T) → Goes b m links 0 0 p q → Goes b m links 0 0 q r → Goes b m links 0 n r s → Goes b m links 0 n p s
goes_three b m links n p q r s x y z = goes_then b m links 0 0 0 n 0 n p r s refl (none_plus n n refl) (goes_then b m links 0 0 0 0 0 0 p q r refl refl x y) z
