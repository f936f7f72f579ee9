use Rattle.std.proofs.Common.{◌≡◌, ◌∷◌, ◌++◌, [], refl, ap, subst, sym, ◌∙◌}
use Rattle.rsx_pipe.proofs.Cuts.{after_moves}
use Rattle.rsx_pipe.proofs.Rejoins.{after_ending, at_end}
use Rattle.rsx_region.proofs.Wholes.{joins_whole, joins_whole_at_end, joins_whole_ended}
use Rattle.rsx_region.specs.Halves.{halves_of}
use Rattle.rsx_region.specs.Joins.{IsJoinedBy, IsJoinedEnded, IsJoinedGoing}
use Rattle.rsx_region.specs.declared.piece.Piece.{Piece}
use Rattle.rsx_region.proofs.Between.{ends_back}
use Rattle.rsx_region.proofs.Joins.{joined_on, joined_over}
use Rattle.rsx_region.proofs.piece.Piece.join.Goals as goal
use Rattle.rsx_region.proofs.piece.Piece.join.Goals.{in-true, in-false}

pub join_going-requires-clause-can : goal.join_going-requires-clause-can
join_going-requires-clause-can g c = c.in-Some.ensures.going c.pop.new.self.items c.in-Some-pop.last (c.deref.ensures.value ∙ c.in-Some-pop.ensures.items) c.in-true.is

pub join_ended-requires-clause-can : goal.join_ended-requires-clause-can
join_ended-requires-clause-can g c = c.in-Some.ensures.ended c.pop.new.self.items c.in-Some-pop.last (c.deref.ensures.value ∙ c.in-Some-pop.ensures.items) c.in-false.is

pub returns-clause-joined : goal.returns-clause-joined
returns-clause-joined g c =
    let now = c.args.self.now in
    let last = c.in-Some-pop.last in
    let P : Piece _ _ → Type 0 = λ q. IsJoinedBy now q in
    elim c.if-goes_on.branch [
      | in-true w ↦ subst P (sym w.self-is) (record { last = last; ins = c.in-Some-pop.ensures.items; link = refl; up = refl; root = w.join_going.ensures.root })
      | in-false w ↦ subst P (sym w.self-is) (record { last = last; ins = c.in-Some-pop.ensures.items; link = refl; up = refl; root = w.join_ended.ensures.root })
    ]

pub returns-clause-stands : goal.returns-clause-stands
returns-clause-stands g c = λ m first hubs was opening cut gone ws.
    let b = g.N.Machine in
    let crossing = g.N.CrossingNodes in
    let laws = g.met.N.CrossingNodes in
    let local = g.met.N.Nodes.local in
    let now = c.args.self.now in
    let last = c.in-Some-pop.last in
    let p = c.if-goes_on.self in
    let ins = c.in-Some-pop.ensures.items in
    let read = c.deref.ensures.value ∙ ins in
    elim c.if-goes_on.branch [
      | in-true w ↦
          let J : Piece _ _ → Type 0 = λ q. IsJoinedGoing b crossing now.part c.args.below.at last c.args.below.piece q.part in
          let I : Piece _ _ → Type 0 = λ q. now.inlets.items ≡ q.inlets.items ++ last ∷ [] in
          let joined : IsJoinedBy now p = record { last = last; ins = subst I (sym w.self-is) ins; link = ap (λ (q : Piece _ _). q.link) w.self-is; up = ap (λ (q : Piece _ _). q.up) w.self-is; root = ap (λ (q : Piece _ _). q.part.root) w.self-is ∙ w.join_going.ensures.root } in
          let can = c.in-Some.ensures.going c.pop.new.self.items last read w.in-true.is in
          joined_on b crossing laws.holds m first hubs was opening (halves_of now c.args.below) p last cut gone ws joined.ins joined joined.up can.none
          (joins_whole b crossing laws.holds laws.reads_counted (after_moves b crossing local laws.holds laws.reads_on))
          (joins_whole_ended b crossing laws.holds laws.reads_counted (after_ending b crossing local laws.holds laws.reads_on)) can (subst J (sym w.self-is) w.join_going.ensures.put)
      | in-false w ↦
          let J : Piece _ _ → Type 0 = λ q. IsJoinedEnded b crossing now.part c.args.below.at last c.args.below.piece q.part in
          let I : Piece _ _ → Type 0 = λ q. now.inlets.items ≡ q.inlets.items ++ last ∷ [] in
          let joined : IsJoinedBy now p = record { last = last; ins = subst I (sym w.self-is) ins; link = ap (λ (q : Piece _ _). q.link) w.self-is; up = ap (λ (q : Piece _ _). q.up) w.self-is; root = ap (λ (q : Piece _ _). q.part.root) w.self-is ∙ w.join_ended.ensures.root } in
          let can = c.in-Some.ensures.ended c.pop.new.self.items last read w.in-false.is in
          joined_over b crossing laws.holds m first hubs was opening (halves_of now c.args.below) p last cut gone ws joined.ins laws.reads_still laws.holds_ending
          (joins_whole_at_end b crossing laws.holds laws.holds_ending (at_end b crossing local laws.holds laws.holds_ending laws.reads_on laws.reads_ended)) joined joined.up can (subst J (sym w.self-is) w.join_ended.ensures.put)
    ]

pub returns-clause-ends : goal.returns-clause-ends
unfolding returns-clause-joined
returns-clause-ends g c = λ links w none. ends_back c.args.self.now c.if-goes_on.self c.args.below.link links (returns-clause-joined g c) w none
