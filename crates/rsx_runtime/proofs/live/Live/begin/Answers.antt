use Rattle.std.proofs.Common.{◌≡◌, ◌++◌, ℕ, List, length, arith, ap, refl, subst, sym, ◌∙◌, slice_get}
use Rattle.std.proofs.lemmas.Slice.Zip.{AllZip-long}
use Rattle.rsx_region.proofs.Stages.{since_from, still_since}
use Rattle.rsx_region.specs.Spread.{AreIn, rows_of}
use Rattle.rsx_region.specs.Trees.{Stage, stage_of}
use Rattle.rsx_region.specs.declared.piece.Piece.{Piece}
use Rattle.rsx_region.specs.declared.region.Region.{Region}
use Rattle.rsx_runtime.specs.Beginning.{AreBackOf, IsGateFor, IsReady}
use Rattle.rsx_runtime.proofs.Begins.{are_ready, as_long, back_in, gates_of, rows_opened, trees_back, when_done, when_refused, written}
use Rattle.rsx_region.specs.Pieces.{Each, none_taken}
use Rattle.rsx_runtime.proofs.live.Live.begin.Goals as goal

pub returns-in_default-clause-since : goal.returns-in_default-clause-since
returns-in_default-clause-since g c = λ whole w. since_from g.N.Machine g.N.CrossingNodes (g.O.Ops.meaning c.args.ops) (none_taken c.args.values) whole c.args.trees w

pub spread-requires-clause-there : goal.spread-requires-clause-there
spread-requires-clause-there g c = λ k p at.
    let less = c.requires.there k p (ap (λ l. slice_get l k) (sym c.deref.ensures.value) ∙ at) in
    let l = ap length c.deref_mut.ensures.value in
    let n = c.in-Ok.ensures.regions.0 in
    omega (arith, less, l, n)

pub returns-then-is_err-clause-since : goal.returns-then-is_err-clause-since
returns-then-is_err-clause-since g c = λ whole w.
    let t = c.args.trees in
    let m = g.O.Ops.meaning c.args.ops in
    let same = when_refused c.spread.result _ (sym c.is_err.ensures.value ∙ c.if-is_err.true) c.spread.ensures.err in
    let s = since_from g.N.Machine g.N.CrossingNodes m (none_taken c.args.values) whole t w in
    (s.0, still_since g.N.Machine g.N.CrossingNodes m (none_taken c.args.values) (none_taken c.args.values) whole s.0 t _ (ap (λ (ps : List (Piece _ _)). let x : Stage _ _ = record { pieces = ps; links = t.links.items } in x) same.1) refl s.1)

pub gate_each-requires-clause-ready : goal.gate_each-requires-clause-ready
gate_each-requires-clause-ready g c κs within =
    let b = g.N.Machine in
    let t = c.args.trees in
    let empty = c.in-Ok.room.regions.items in
    let new = c.spread.new.regions in
    let done = when_done c.spread.result _ (sym c.is_err.ensures.value ∙ c.if-is_err.false) c.spread.ensures.ok in
    let long = as_long c.deref_mut.result.now new c.spread.ensures.numbers in
    let same : length new ≡ length empty = long ∙ ap length c.deref_mut.ensures.value in
    let all = written c.in-Ok.room.regions.len empty new c.in-Ok.room.regions.ok.0 same in
    let B : List (Region _ _) → Type 0 = λ rs. AreIn (rows_of rs) c.deref.result.now t.pieces.items (rows_of new) in
    let opens = c.requires.from.1.opens in
    let E : List (Region _ _) → Type 0 = λ rs. Each (IsReady b (g.O.Ops.meaning c.args.ops) c.args.values t.links.items) rs in
    subst E (sym all) (are_ready b g.O.Ops.meaning t.links.items c.args.ops c.args.values empty new c.deref.result.now t.pieces.items c.in-Ok.ensures.regions.1 (subst B c.deref_mut.ensures.value done.0) opens.ends opens.stands)

pub invariant_of-live : goal.invariant_of-live
invariant_of-live g c = record { opened = (gates_of g.N.Machine g.O.Ops.meaning c.args.trees.links.items c.args.ops c.args.values _ c.in-Ok-gate_each.field-0.gates.items c.in-Ok-gate_each.ensures.ok.gates).0 }

pub invariant_of-plan : goal.invariant_of-plan
invariant_of-plan g c =
    let done = when_done c.spread.result _ (sym c.is_err.ensures.value ∙ c.if-is_err.false) c.spread.ensures.ok in
    let n = c.requires.count in
    let cap = c.spread.ensures.room in
    let len = c.args.trees.pieces.ok.0 in
    let most = c.args.trees.pieces.ok.1 in
    record { none = (done.1, c.in-Ok-gate_each.ensures.ok.none); room = omega (arith, n, cap, len, most) }

pub gather-requires-clause-spread : goal.gather-requires-clause-spread
gather-requires-clause-spread g c =
    let t = c.args.trees in
    let new = c.spread.new.regions in
    let done = when_done c.spread.result _ (sym c.is_err.ensures.value ∙ c.if-is_err.false) c.spread.ensures.ok in
    let same : length new ≡ length c.in-Ok.room.regions.items = as_long c.deref_mut.result.now new c.spread.ensures.numbers ∙ ap length c.deref_mut.ensures.value in
    let all = written c.in-Ok.room.regions.len c.in-Ok.room.regions.items new c.in-Ok.room.regions.ok.0 same in
    let A : List (Region _ _) → Type 0 = λ rs. AreBackOf g.N.Machine (g.O.Ops.meaning c.args.ops) c.args.values t.links.items rs c.in-Err.regions.items in
    let r = back_in g.N.Machine g.N.CrossingNodes g.O.Ops.meaning c.args.ops c.args.values c.requires.from.0 t (rows_of c.deref_mut.result.now) c.deref.result.now new c.in-Err.regions.items done.0 (subst A all c.in-Err.ensures.err) in
    let P : List ℕ → Type 0 = λ ps. AreIn r.base ps r.pieces (rows_of c.in-Err.regions.items) in
    let R : List (Region _ _) → Type 0 = λ rs. AreIn r.base c.deref-in-Err.result.now r.pieces (rows_of rs) in
    (r.base, r.pieces, subst R (sym c.deref_mut-in-Err.ensures.value) (subst P (c.deref.ensures.value ∙ sym c.deref-in-Err.ensures.value) r.are))

pub gather-requires-clause-room : goal.gather-requires-clause-room
gather-requires-clause-room g c =
    let done = when_done c.spread.result _ (sym c.is_err.ensures.value ∙ c.if-is_err.false) c.spread.ensures.ok in
    let none = ap length done.1 in
    let places = ap length c.deref-in-Err.ensures.value in
    let n = c.requires.count in
    let cap = c.spread.ensures.room in
    let len = c.args.trees.pieces.ok.0 in
    let most = c.args.trees.pieces.ok.1 in
    omega (arith, none, places, n, cap, len, most)

pub returns-in-Ok-gate_each-clause-live : goal.returns-in-Ok-gate_each-clause-live
returns-in-Ok-gate_each-clause-live g c = λ whole w.
    let t = c.args.trees in
    let new = c.spread.new.regions in
    let gates = c.in-Ok-gate_each.field-0.gates.items in
    let done = when_done c.spread.result _ (sym c.is_err.ensures.value ∙ c.if-is_err.false) c.spread.ensures.ok in
    let same : length new ≡ length c.in-Ok.room.regions.items = as_long c.deref_mut.result.now new c.spread.ensures.numbers ∙ ap length c.deref_mut.ensures.value in
    let all = written c.in-Ok.room.regions.len c.in-Ok.room.regions.items new c.in-Ok.room.regions.ok.0 same in
    let made = c.in-Ok-gate_each.ensures.ok.gates in
    let rows = rows_opened g.N.Machine g.O.Ops.meaning t.links.items c.args.ops c.args.values _ gates made in
    let P : List ℕ → Type 0 = λ ps. AreIn (rows_of c.deref_mut.result.now) ps t.pieces.items (rows_of new) in
    let R : List (List (Piece _ _)) → Type 0 = λ rs. AreIn (rows_of c.deref_mut.result.now) c.args.places.items t.pieces.items rs in
    record {
      opening = w.last;
      run = w.run;
      begun = stage_of t;
      same = w.same;
      links = refl;
      base = rows_of c.deref_mut.result.now;
      spread = subst R (ap rows_of (sym all) ∙ rows) (subst P c.deref.ensures.value done.0);
      values = (gates_of g.N.Machine g.O.Ops.meaning t.links.items c.args.ops c.args.values _ gates made).1;
    }

pub returns-in-Ok-gate_each-clause-gates : goal.returns-in-Ok-gate_each-clause-gates
returns-in-Ok-gate_each-clause-gates g c =
    let new = c.spread.new.regions in
    let same : length new ≡ length c.in-Ok.room.regions.items = as_long c.deref_mut.result.now new c.spread.ensures.numbers ∙ ap length c.deref_mut.ensures.value in
    let all = written c.in-Ok.room.regions.len c.in-Ok.room.regions.items new c.in-Ok.room.regions.ok.0 same in
    let P = IsGateFor c.args.trees.links.items c.args.ops c.args.values in
    let long = AllZip-long P _ c.in-Ok-gate_each.field-0.gates.items c.in-Ok-gate_each.ensures.ok.gates in
    let l = ap length all in
    let n = c.in-Ok.ensures.regions.0 in
    (omega (arith, long, l, same, n), refl, refl)

pub returns-in-Ok-gate_each-clause-room : goal.returns-in-Ok-gate_each-clause-room
unfolding returns-in-Ok-gate_each-clause-gates
returns-in-Ok-gate_each-clause-room g c =
    let n = (returns-in-Ok-gate_each-clause-gates g c).0 in
    let cap = c.in-Ok-gate_each.ensures.room.2 in
    let r = c.in-Ok.ensures.room.regions in
    omega (arith, n, cap, r)

pub returns-in-Err-clause-since : goal.returns-in-Err-clause-since
returns-in-Err-clause-since g c = λ whole w.
    let b = g.N.Machine in
    let t = c.args.trees in
    let new = c.spread.new.regions in
    let done = when_done c.spread.result _ (sym c.is_err.ensures.value ∙ c.if-is_err.false) c.spread.ensures.ok in
    let same : length new ≡ length c.in-Ok.room.regions.items = as_long c.deref_mut.result.now new c.spread.ensures.numbers ∙ ap length c.deref_mut.ensures.value in
    let all = written c.in-Ok.room.regions.len c.in-Ok.room.regions.items new c.in-Ok.room.regions.ok.0 same in
    let A : List (Region _ _) → Type 0 = λ rs. AreBackOf b (g.O.Ops.meaning c.args.ops) c.args.values t.links.items rs c.in-Err.regions.items in
    let back = subst A all c.in-Err.ensures.err in
    let r = back_in b g.N.CrossingNodes g.O.Ops.meaning c.args.ops c.args.values whole t (rows_of c.deref_mut.result.now) c.deref.result.now new c.in-Err.regions.items done.0 back in
    let P : List ℕ → Type 0 = λ ps. AreIn r.base ps r.pieces (rows_of c.in-Err.regions.items) in
    let R : List (Region _ _) → Type 0 = λ rs. AreIn r.base c.deref-in-Err.result.now r.pieces (rows_of rs) in
    let came = c.gather.ensures.gathered r.base r.pieces (subst R (sym c.deref_mut-in-Err.ensures.value) (subst P (c.deref.ensures.value ∙ sym c.deref-in-Err.ensures.value) r.are)) in
    trees_back b g.N.CrossingNodes g.O.Ops.meaning c.args.ops c.args.values whole t (rows_of c.deref_mut.result.now) c.deref.result.now new c.in-Err.regions.items done.0 back _ (came.0 ∙ ap (λ (ps : List (Piece _ _)). ps ++ r.pieces) done.1) refl refl w
