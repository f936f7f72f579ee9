use Rattle.std.proofs.Common.{rules, ap, sym, ◌∙◌, map, length, replicate, false, subst, arith}
use Rattle.std.proofs.lemmas.List.{length-map, length-replicate}
use Rattle.rsx_link.specs.declared.place.Place.TheVariants.{Free}
use Rattle.rsx_link.specs.Places.{IsSized}
use Rattle.rsx_link.proofs.PlaceKeeps.{starts, sized}
use Rattle.rsx_link.proofs.places.Places.new.Goals as goal

pub new-requires-2 : goal.new-requires-2
new-requires-2 g c =
    let ends = c.of-key.ensures in
    starts _ c.len.result _ _ (c.len.ensures ∙ c.args.ends.ok.0 ∙ ap (λ v. length v.items) (sym ends)) (c.as_slice.ensures.value ∙ c.in-Ok.ensures.words)
    (c.lay.ensures.slots ∙ ap (λ v. map Free v.items) (sym ends))

pub begin-requires-clause-table : goal.begin-requires-clause-table
begin-requires-clause-table g c =
    let made = c.in-Ok-new.ensures.ok in let count = c.len.ensures ∙ c.args.ends.ok.0 in let few = c.requires.few in
    let all = sized c.args.ends.items c.len.result _ _ _ _ count (c.as_slice.ensures.value ∙ c.in-Ok.ensures.words) c.lay.ensures.slots made.0 made.1 (omega arith) in
    let id = c.in-Ok-new.table.shared.table_id in subst (λ v. IsSized id.words id.slots v.items) (sym (ap (λ k. k.value) made.5 ∙ c.of-key.ensures)) all.0

pub begin-requires-clause-seat : goal.begin-requires-clause-seat
begin-requires-clause-seat g c = search rules

pub begin-requires-clause-taken : goal.begin-requires-clause-taken
begin-requires-clause-taken g c =
    let made = c.in-Ok-new.ensures.ok in
    c.in-Ok.ensures.taken ∙ ap (λ n. replicate n false) (c.len.ensures ∙ c.args.ends.ok.0 ∙ sym (made.1 ∙ ap length c.lay.ensures.slots ∙ length-map c.args.ends.items _))

pub begin-requires-clause-left : goal.begin-requires-clause-left
begin-requires-clause-left g c =
    let room = c.in-Ok.ensures in let all = ap length room.taken ∙ length-replicate c.len.result false in let enough = room.left.1 in (room.left.0, omega arith)

pub lay-requires-clause-empty : goal.lay-requires-clause-empty
lay-requires-clause-empty g c = search rules

pub lay-requires-clause-room : goal.lay-requires-clause-room
lay-requires-clause-room g c = search rules

pub put_back-requires-clause-free : goal.put_back-requires-clause-free
put_back-requires-clause-free g c = search rules

pub put_back-requires-clause-empty : goal.put_back-requires-clause-empty
put_back-requires-clause-empty g c = search rules

pub put_back-requires-clause-room : goal.put_back-requires-clause-room
put_back-requires-clause-room g c = search rules

pub returns-in_default-clause-err : goal.returns-in_default-clause-err
returns-in_default-clause-err g c = search rules

pub returns-in-Ok-new-clause-ok : goal.returns-in-Ok-new-clause-ok
returns-in-Ok-new-clause-ok g c = search rules

pub returns-in-Err-clause-err : goal.returns-in-Err-clause-err
returns-in-Err-clause-err g c = search rules
