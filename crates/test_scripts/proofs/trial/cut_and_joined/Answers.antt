use Rattle.std.proofs.Common.{◌∙◌, ap, length, map, sym}
use Rattle.std.proofs.lemmas.List.{with_items_is}
use Rattle.test_scripts.proofs.Names.{as_many, names_kept}
use Rattle.test_scripts.proofs.trial.cut_and_joined.Goals as goal

pub invariant_of-pieces-clause-named : goal.invariant_of-pieces-clause-named
invariant_of-pieces-clause-named c =
    let old = c.take_apart-hubs.result in
    let cut = c.in_ok-cut_trees.ensures.feeds in
    let is = with_items_is old.feeds c.cut_trees.new.feeds (as_many _ _ cut ∙ c.deref_mut.ensures.len) in
    let same = ap (map (λ f. f.hub)) is ∙ cut ∙ ap (map (λ f. f.hub)) c.deref_mut.ensures.value in
    names_kept _ _ _ same old.named

pub invariant_of-pieces-clause-beside : goal.invariant_of-pieces-clause-beside
invariant_of-pieces-clause-beside c =
    let old = c.take_apart-hubs.result in
    let cut = c.in_ok-cut_trees.ensures.feeds in
    let is = with_items_is old.feeds c.cut_trees.new.feeds (as_many _ _ cut ∙ c.deref_mut.ensures.len) in
    let same = ap (map (λ f. f.hub)) is ∙ cut ∙ ap (map (λ f. f.hub)) c.deref_mut.ensures.value in
    old.beside ∙ sym (as_many _ _ same)

pub invariant_of-pieces-clause-sent : goal.invariant_of-pieces-clause-sent
invariant_of-pieces-clause-sent c =
    let old = c.take_apart-hubs.result in
    let cut = c.in_ok-cut_trees.ensures.feeds in
    let is = with_items_is old.feeds c.cut_trees.new.feeds (as_many _ _ cut ∙ c.deref_mut.ensures.len) in
    let same = ap (map (λ f. f.hub)) is ∙ cut ∙ ap (map (λ f. f.hub)) c.deref_mut.ensures.value in
    old.sent ∙ sym (as_many _ _ same)

pub invariant_of-pieces-clause-joined : goal.invariant_of-pieces-clause-joined
invariant_of-pieces-clause-joined c =
    let old = c.take_apart-hubs.result in
    let cut = c.in_ok-cut_trees.ensures.subs in
    let is = with_items_is old.subs c.cut_trees.new.subs (cut ∙ c.deref_mut-2.ensures.len) in
    old.joined ∙ sym (ap length is ∙ cut ∙ ap length c.deref_mut-2.ensures.value)

pub invariant_of-pieces-clause-rooted : goal.invariant_of-pieces-clause-rooted
invariant_of-pieces-clause-rooted c =
    let old = c.take_apart-hubs.result in
    let cut = c.in_ok-cut_trees.ensures.subs in
    let is = with_items_is old.subs c.cut_trees.new.subs (cut ∙ c.deref_mut-2.ensures.len) in
    old.rooted ∙ sym (ap length is ∙ cut ∙ ap length c.deref_mut-2.ensures.value)
