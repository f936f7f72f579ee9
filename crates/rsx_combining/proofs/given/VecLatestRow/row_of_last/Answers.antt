use Rattle.std.proofs.Common.{◌≡◌, Some, None, length, slice_set, sym, ap, ◌∙◌, arith}
use Rattle.std.proofs.lemmas.List.{with_items_is, length-set}
use Rattle.std.proofs.lemmas.Option.{same_Some}
use Rattle.std.specs.Vec.{with_item, with_items}
use Rattle.rsx_combining.proofs.Gives.{gives_there, read_set, set_back}
use Rattle.rsx_combining.proofs.given.VecLatestRow.row_of_last.Goals as goal

pub index_mut-requires : goal.index_mut-requires
index_mut-requires g c = let lt = gives_there c.args.latest.now.items c.args.at c.requires.gives in let l = c.args.latest.now.ok.0 in omega (arith, lt, l)

pub index_mut-requires-in-None : goal.index_mut-requires-in-None
index_mut-requires-in-None g c = let lt = gives_there c.args.latest.now.items c.args.at c.requires.gives in let l = c.args.latest.now.ok.0 in omega (arith, lt, l)

pub unreachable-requires : goal.unreachable-requires
unreachable-requires g c =
    let v = c.args.latest.now in
    let d = c.replace-before.new.dest in
    let kept : c.first_row.new.latest ≡ slice_set v.items c.args.at d = c.in-None.ensures.latest ∙ c.as_mut_slice.ensures.value in
    let back : (with_items (with_item v c.args.at d) c.first_row.new.latest).items ≡ slice_set v.items c.args.at d =
    with_items_is (with_item v c.args.at d) c.first_row.new.latest (ap length kept ∙ length-set v.items c.args.at d ∙ sym v.ok.0) ∙ kept in
    let clash : None ≡ Some c.args.item =
    sym c.in-None-replace.is ∙ c.replace.ensures.value
    ∙ read_set v.items (with_items (with_item v c.args.at d) c.first_row.new.latest).items c.args.at d c.index_mut-in-None.result.now (gives_there v.items c.args.at c.requires.gives) back c.index_mut-in-None.ensures.value
    ∙ c.replace-before.ensures.after in
    cc

pub returns-in-Some-replace-clause-item : goal.returns-in-Some-replace-clause-item
returns-in-Some-replace-clause-item g c =
    let v = c.args.latest.now in
    let d = c.replace-before.new.dest in
    let kept : c.first_row.new.latest ≡ slice_set v.items c.args.at d = c.in-None.ensures.latest ∙ c.as_mut_slice.ensures.value in
    let back : (with_items (with_item v c.args.at d) c.first_row.new.latest).items ≡ slice_set v.items c.args.at d =
    with_items_is (with_item v c.args.at d) c.first_row.new.latest (ap length kept ∙ length-set v.items c.args.at d ∙ sym v.ok.0) ∙ kept in
    same_Some c.in-Some-replace.item c.args.item (
    sym c.in-Some-replace.is ∙ c.replace.ensures.value
    ∙ read_set v.items (with_items (with_item v c.args.at d) c.first_row.new.latest).items c.args.at d c.index_mut-in-None.result.now (gives_there v.items c.args.at c.requires.gives) back c.index_mut-in-None.ensures.value
    ∙ c.replace-before.ensures.after
    )

pub returns-in-Some-replace-clause-latest : goal.returns-in-Some-replace-clause-latest
returns-in-Some-replace-clause-latest g c =
    let v = c.args.latest.now in
    let d = c.replace-before.new.dest in
    let kept : c.first_row.new.latest ≡ slice_set v.items c.args.at d = c.in-None.ensures.latest ∙ c.as_mut_slice.ensures.value in
    let back : (with_items (with_item v c.args.at d) c.first_row.new.latest).items ≡ slice_set v.items c.args.at d =
    with_items_is (with_item v c.args.at d) c.first_row.new.latest (ap length kept ∙ length-set v.items c.args.at d ∙ sym v.ok.0) ∙ kept in
    set_back v.items (with_items (with_item v c.args.at d) c.first_row.new.latest).items c.args.at d c.replace.new.dest c.index_mut.result.now back c.index_mut.ensures.value (c.replace.ensures.after ∙ c.replace-before.ensures.value)
