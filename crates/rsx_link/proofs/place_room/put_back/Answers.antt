use Rattle.std.proofs.Common.{◌≡◌, ◌∷◌, ◌++◌, [], map, reverse, sym, ap, ◌∙◌, ⊎_elim}
use Rattle.std.proofs.lemmas.List.{append_assoc, nil_from_length}
use Rattle.rsx_link.specs.declared.place.Place.TheVariants.{Free}
use Rattle.rsx_link.proofs.PlaceSlots.{free_among, same_frees}
use Rattle.rsx_link.proofs.place_room.put_back.Goals as goal

pub unreachable-requires : goal.unreachable-requires
unreachable-requires g c =
    let x = c.in-Some.place in let s = c.pop.new.self.items in let t = map Free (reverse c.loop-place.ends.items) in
    let is = free_among c.args.all.now.value.items s t x (sym (append_assoc s (x ∷ []) t) ∙ ap (λ l. l ++ t) (sym c.in-Some.ensures.items) ∙ c.loop-place.invariant.all) in
    ⊎_elim (λ e. let offered = e.1 in let free = is.1 in cc) (λ e. let free = is.1 in cc) c.in-Offered.is

pub returns : goal.returns
returns g c =
    let none : c.loop-place.slots.items ≡ [] = nil_from_length _ (sym c.loop-place.slots.ok.0 ∙ c.in_default.ensures.cases.0) in
    c.reverse.ensures.items ∙ same_frees _ _ (sym (ap (λ l. l ++ map Free (reverse c.loop-place.ends.items)) none) ∙ c.loop-place.invariant.all)
