-- One move of a part, made many times: none, and one more.
use Rattle.std.proofs.Common.{◌≡◌, ℕ, ◌+◌, true, List, [], ◌∷◌, ◌++◌, length, ap, sym, ◌∙◌, append_assoc, arith, refl}
use Rattle.std.proofs.lemmas.List.{append-nil}
use Rattle.rsx_sources.specs.Prelude.{Meaning}
use Rattle.rsx_sources.specs.declared.machine.Machine.{Ghosts as Machine}
use Rattle.rsx_tree.proofs.Alike.{alike_still, alike_then}
use Rattle.rsx_tree.proofs.Runs.{gives_none, gives_on, gives_one}
use Rattle.rsx_tree.specs.Runs.{Leads}
use Rattle.rsx_tree.specs.declared.look.NodeMove.{NodeMove}
use Rattle.rsx_rooted.proofs.Parts.{put_out_none, put_out_on}
use Rattle.rsx_rooted.specs.declared.sink.Sink.{Ghosts as Sink}
use Rattle.rsx_pipe.specs.Many.{IsMadeOver, IsMadeTimes}
use Rattle.rsx_pipe.specs.Part.{IsMadeInto, Part, move_enabled}

pub times_none : {M S T : Type 0} (b : Machine M T) (k : Sink S T) (m : Meaning T) (move : NodeMove) (part : Part M) (sink : S) → IsMadeTimes b k m move 0 part sink part sink
times_none b k m move part sink = record {
  out = [];
  queued = sym (append-nil (k.signals sink));
  moves = gives_none (IsMadeOver b k m move) (λ o. o) (part, sink) (part, sink) refl;
  stands = put_out_none b m part;
  asked = refl;
  unclosed = λ h. h;
  alike = alike_still b part.tree;
}

-- where none was made, nothing changed
no_step : {S L : Type 0} (step : S → L → S → Type 0) (x y : S) (ls : List L) → length ls ≡ 0 → Leads step x ls y → y ≡ x
no_step step x y [] none lead = lead
no_step step x y (l ∷ ls) none lead = absurd (omega (arith, none))

pub times_still : {M S T : Type 0} (b : Machine M T) (k : Sink S T) (m : Meaning T) (move : NodeMove) (old new : Part M) (sink sink' : S) (count : ℕ) → count ≡ 0 → IsMadeTimes b k m move count old sink new sink' → (new ≡ old) × (sink' ≡ sink)
times_still b k m move old new sink sink' count none h =
    let same = no_step (IsMadeOver b k m move) (old, sink) (new, sink') h.moves.labels (h.moves.count ∙ none) h.moves.run in
    (ap (λ x. x.0) same, ap (λ x. x.1) same)

-- and then one more
pub times_on : {M S T : Type 0} (b : Machine M T) (k : Sink S T) (m : Meaning T) (move : NodeMove) (n : ℕ) (a mid c : Part M) (q q' q'' : S) → IsMadeTimes b k m move n a q mid q' → move_enabled b m mid (k.room q') move ≡ true → IsMadeInto b k m move mid q' c q'' → IsMadeTimes b k m move (n + 1) a q c q''
times_on b k m move n a mid c q q' q'' x can y = record {
  out = x.out ++ y.0;
  queued = y.2 ∙ (ap (λ l. l ++ y.0) x.queued ∙ append_assoc (k.signals q) x.out y.0);
  moves = gives_on (IsMadeOver b k m move) (λ o. o) n 1 (a, q) (mid, q') (c, q'') x.out y.0 x.moves
      (gives_one (IsMadeOver b k m move) (λ o. o) (mid, q') (c, q'') y.0 (record { enabled = can; effect = y.1.effect; queued = y.2 }));
  stands = put_out_on b m a mid c x.out y.0 x.stands y.1.stands;
  asked = y.1.asked ∙ x.asked;
  unclosed = λ h. y.1.unclosed (x.unclosed h);
  alike = alike_then b a.tree mid.tree c.tree x.alike y.1.alike;
}
