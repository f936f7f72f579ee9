-- Signals that are sent into a link, and subscriptions that are parted.
use Rattle.std.proofs.Common.{◌≡◌, inl, inr, ℕ, suc, ◌+◌, ◌<◌, ◌≤◌, cond, Bool, List, [], ◌∷◌, ◌++◌, length, refl, ap, sym, ◌∙◌, subst, append_assoc, append-nil, length-append, arith, true, Option, Some}
use Rattle.std.specs.Prelude.{option_to_list}
use Rattle.rsx_sources.specs.Prelude.{Meaning, Signal, Stream}
use Rattle.rsx_sources.specs.declared.machine.Machine.{Ghosts as Machine}
use Rattle.rsx_model.specs.declared.expr.Expr.{Expr}
use Rattle.rsx_pipe.specs.Part.{IsPutOut, Part, PartStands}
use Rattle.rsx_link.specs.Ends.{carried_up, items_sent, seen_total, sent_signals, up_steps}
use Rattle.rsx_link.specs.Signals.{is_item, items_in}
use Rattle.rsx_link.specs.Steps.{seen_of}
use Rattle.rsx_link.specs.declared.link.Link.{Link}
use Rattle.rsx_link.specs.declared.up.Up.{Up}
use Rattle.rsx_region.specs.declared.piece.Piece.{Piece}
use Rattle.rsx_runtime.specs.declared.tap.Tap.{Tap}
use Rattle.rsx_subscriber.specs.declared.subscription.Subscription.{Subscription}
use Rattle.rsx_live_parts.specs.Kept.{AreOut, ArePartedBy, Goes, HasMore, HasRoomFor, Stays}
use Rattle.rsx_live_parts.specs.Outgoing.{IsFresh, IsOutOf, IsTapFor}
use Rattle.rsx_live_parts.specs.declared.kept.Kept.{Kept}
use Rattle.rsx_live_parts.specs.declared.kept.Kept.TheVariants.{Away, Here}
use Rattle.rsx_live_parts.specs.declared.kept.Parted.{Parted}
use Rattle.rsx_live_parts.proofs.Parts.{counted_both}

-- ---- signals that are sent

pub room_left : {T : Type 0} (old new : List (Signal T)) (s : Signal T) (free free' : ℕ) → old ≡ s ∷ new → length old ≤ free → free ≤ free' + 1 → length new ≤ free'
room_left old new s free free' e room one =
    let size : length old ≡ suc (length new) = ap length e in
    omega (arith, size, room, one)

pub demand_left : {T : Type 0} (old new : List (Signal T)) (s : Signal T) (up up' : Up T) → old ≡ s ∷ new → items_sent up + items_in old ≤ seen_total up → up_steps up' ≡ up_steps up → carried_up up' ≡ carried_up up → sent_signals up' ≡ sent_signals up ++ s ∷ [] →
    items_sent up' + items_in new ≤ seen_total up'
demand_left old new s up up' e room steps carried sent =
    let k = cond (is_item s) 1 0 in
    let before : items_in old ≡ k + items_in new = ap items_in e in
    let one : items_in (s ∷ []) ≡ k + 0 = refl in
    let went : items_in (sent_signals up') ≡ items_in (sent_signals up) + items_in (s ∷ []) = ap items_in sent ∙ counted_both (sent_signals up) (s ∷ []) in
    let seen : seen_total up' ≡ seen_total up = ap seen_of steps in
    omega (arith, before, one, went, seen, room, carried)

pub demand_first : {T : Type 0} (old new : List (Signal T)) (s : Signal T) (up : Up T) → old ≡ s ∷ new → items_sent up + items_in old ≤ seen_total up → is_item s ≡ true → items_sent up < seen_total up
demand_first old new s up e room item =
    let before : items_in old ≡ cond (is_item s) 1 0 + items_in new = ap items_in e in
    let c : Bool → ℕ = λ b. cond b 1 0 in
    let one : c (is_item s) ≡ c true = ap c item in
    omega (arith, before, one, room)

-- ---- parts that stand as they did

pub put_nothing : {M T : Type 0} (b : Machine M T) (m : Meaning T) (old new : Part M) → IsPutOut b m old [] new → (published : List (Stream T)) (e : Expr T) (joins : List ℕ) (output : List (Signal T)) → PartStands b m published old e joins output → PartStands b m published new e joins output
put_nothing {M} {T} b m old new h published e joins output stands =
    let P : List (Signal T) → Type 0 = λ l. PartStands b m published new e joins l in
    subst P (append-nil output) (h published e joins output stands)

-- ---- lists that are taken apart

pub took_first : {X : Type 0} (old new : List X) (o : Option X) (x : X) → old ≡ option_to_list o ++ new → o ≡ Some x → old ≡ x ∷ new
took_first {X} old new o x all is = all ∙ ap (λ (z : Option X). option_to_list z ++ new) is

pub len_left : {X : Type 0} (all rest : List X) (x : X) (len len' : ℕ) → all ≡ x ∷ rest → len ≡ length all → len' + 1 ≡ len → len' ≡ length rest
len_left all rest x len len' e size one =
    let k : length all ≡ suc (length rest) = ap length e in
    omega (arith, k, size, one)

pub room_for_rest : {X Y : Type 0} (old new : List Y) (y : Y) (all rest : List X) (x : X) (room room' : ℕ) → new ≡ old ++ y ∷ [] → all ≡ x ∷ rest → room' ≡ room → length old + length all ≤ room → length new + length rest ≤ room'
room_for_rest old new y all rest x room room' put e same less =
    let k : length all ≡ suc (length rest) = ap length e in
    let n : length new ≡ length old + 1 = ap length put ∙ length-append old (y ∷ []) in
    omega (arith, k, n, same, less)

-- ---- subscriptions that are parted

module _ {M T : Type 0} where
  room_of : (count count' : ℕ) (p : Parted M T) → count' ≤ count → HasRoomFor count p → HasRoomFor count' p
  room_of count count' p less h =
      let a = h.pieces in
      let b = h.links in
      let c = h.taps in
      let d = h.kept in
      record { pieces = omega (arith, less, a); links = omega (arith, less, b); taps = omega (arith, less, c); kept = omega (arith, less, d) }

  pub room_left_over : (all rest : List (Subscription M T)) (s : Subscription M T) (p : Parted M T) → all ≡ s ∷ rest → HasRoomFor (length all) p → HasRoomFor 1 p
  room_left_over all rest s p e h = let k : length all ≡ suc (length rest) = ap length e in room_of (length all) 1 p (omega (arith, k)) h

  pub room_for_more : (all rest : List (Subscription M T)) (s : Subscription M T) (p : Parted M T) → all ≡ s ∷ rest → HasRoomFor (length all) p → HasRoomFor (length rest + 1) p
  room_for_more all rest s p e h = let k : length all ≡ suc (length rest) = ap length e in room_of (length all) (length rest + 1) p (omega (arith, k)) h

module _ {M T : Type 0} (b : Machine M T) where
  pub none_parted : (subs : List (Subscription M T)) (p : Parted M T) → subs ≡ [] → ArePartedBy b subs p p
  none_parted subs p e = record {
    kept = [];
    pieces = [];
    links = [];
    taps = [];
    more = record { kept = sym (append-nil p.kept.items); pieces = sym (append-nil p.pieces.items); links = sym (append-nil p.links.items); taps = sym (append-nil p.taps.items) };
    out = subst (λ (l : List (Subscription M T)). AreOut b (length p.links.items) l [] [] [] []) (sym e) (refl, refl, refl, refl);
  }

  joined_front : {X : Type 0} (xs ys zs : List X) → xs ≡ ys → xs ++ zs ≡ ys ++ zs
  joined_front xs ys zs e = ap (λ l. l ++ zs) e

  same_out : (k : ℕ) (subs : List (Subscription M T)) (ks ks' : List (Kept M T)) (ps ps' : List (Piece M T)) (ls ls' : List (Link T)) (ts ts' : List (Tap T)) → ks' ≡ ks → ps' ≡ ps → ls' ≡ ls → ts' ≡ ts → AreOut b k subs ks ps ls ts → AreOut b k subs ks' ps' ls' ts'
  same_out k subs ks ks' ps ps' ls ls' ts ts' a c d e h =
      let A : List (Kept M T) → Type 0 = λ l. AreOut b k subs l ps ls ts in
      let C : List (Piece M T) → Type 0 = λ l. AreOut b k subs ks' l ls ts in
      let D : List (Link T) → Type 0 = λ l. AreOut b k subs ks' ps' l ts in
      let E : List (Tap T) → Type 0 = λ l. AreOut b k subs ks' ps' ls' l in
      subst E (sym e) (subst D (sym d) (subst C (sym c) (subst A (sym a) h)))

  -- one, and then others behind it
  out_more : (k k' : ℕ) (s : Subscription M T) (subs : List (Subscription M T)) (ks ks' : List (Kept M T)) (ps ps' : List (Piece M T)) (ls ls' : List (Link T)) (ts ts' : List (Tap T)) → k' ≡ k + length ls →
      AreOut b k (s ∷ []) ks ps ls ts → AreOut b k' subs ks' ps' ls' ts' → AreOut b k (s ∷ subs) (ks ++ ks') (ps ++ ps') (ls ++ ls') (ts ++ ts')
  out_more k k' s subs ks ks' ps ps' ls ls' ts ts' e one rest = elim one [
    | inl h ↦ (
        let n = h.1 in
        let size : length ls ≡ 0 = ap length n.2 in
        let same : k' ≡ k = omega (arith, e, size) in
        let stays : Stays s (ks ++ ks') = record { others = ks'; is = joined_front ks (Here s ∷ []) ks' (h.0.is ∙ ap (λ l. Here s ∷ l) n.0) } in
        inl (stays, same_out k subs ks' ks' ps' (ps ++ ps') ls' (ls ++ ls') ts' (ts ++ ts') refl (joined_front ps [] ps' n.1) (joined_front ls [] ls' n.2) (joined_front ts [] ts' n.3) (subst (λ i. AreOut b i subs ks' ps' ls' ts') same rest)))
    | inr h ↦ (
        let g = h.0 in
        let n = h.1 in
        let links_are : ls ≡ g.link ∷ [] = g.link_first ∙ ap (λ l. g.link ∷ l) n.2 in
        let size : length ls ≡ 1 = ap length links_are in
        let same : k' ≡ suc k = omega (arith, e, size) in
        let goes : Goes b k s (ks ++ ks') (ps ++ ps') (ls ++ ls') (ts ++ ts') = record {
          others = ks';
          pieces = ps';
          links = ls';
          taps = ts';
          piece = g.piece;
          link = g.link;
          tap = g.tap;
          is = joined_front ks (Away [] s.demand.sent ∷ []) ks' (g.is ∙ ap (λ l. Away [] s.demand.sent ∷ l) n.0);
          piece_first = joined_front ps (g.piece ∷ []) ps' (g.piece_first ∙ ap (λ l. g.piece ∷ l) n.1);
          link_first = joined_front ls (g.link ∷ []) ls' links_are;
          tap_first = joined_front ts (g.tap ∷ []) ts' (g.tap_first ∙ ap (λ l. g.tap ∷ l) n.3);
          out = g.out;
          over = g.over;
          number = g.number;
          fresh = g.fresh;
        } in
        inr (goes, subst (λ i. AreOut b i subs ks' ps' ls' ts') same rest))
  ]

  two_more : {X : Type 0} (a m n xs ys : List X) → m ≡ a ++ xs → n ≡ m ++ ys → n ≡ a ++ (xs ++ ys)
  two_more a m n xs ys e f = f ∙ (ap (λ l. l ++ ys) e ∙ append_assoc a xs ys)

  pub more_parted : (all : List (Subscription M T)) (s : Subscription M T) (subs : List (Subscription M T)) (old mid new : Parted M T) → all ≡ s ∷ subs → ArePartedBy b (s ∷ []) old mid → ArePartedBy b subs mid new → ArePartedBy b all old new
  more_parted all s subs old mid new e one rest =
      let many : length mid.links.items ≡ length old.links.items + length one.links = ap length one.more.links ∙ length-append old.links.items one.links in
      record {
        kept = one.kept ++ rest.kept;
        pieces = one.pieces ++ rest.pieces;
        links = one.links ++ rest.links;
        taps = one.taps ++ rest.taps;
        more = record {
          kept = two_more old.kept.items mid.kept.items new.kept.items one.kept rest.kept one.more.kept rest.more.kept;
          pieces = two_more old.pieces.items mid.pieces.items new.pieces.items one.pieces rest.pieces one.more.pieces rest.more.pieces;
          links = two_more old.links.items mid.links.items new.links.items one.links rest.links one.more.links rest.more.links;
          taps = two_more old.taps.items mid.taps.items new.taps.items one.taps rest.taps one.more.taps rest.more.taps;
        };
        out = subst (λ (l : List (Subscription M T)). AreOut b (length old.links.items) l (one.kept ++ rest.kept) (one.pieces ++ rest.pieces) (one.links ++ rest.links) (one.taps ++ rest.taps)) (sym e)
            (out_more (length old.links.items) (length mid.links.items) s subs one.kept rest.kept one.pieces rest.pieces one.links rest.links one.taps rest.taps many one.out rest.out);
      }

  -- one that stays, and one that has a piece
  pub stays_parted : (s : Subscription M T) (old new : Parted M T) → HasMore old (Here s ∷ []) [] [] [] new → ArePartedBy b (s ∷ []) old new
  stays_parted s old new more = record { kept = Here s ∷ []; pieces = []; links = []; taps = []; more = more; out = inl (record { others = []; is = refl }, (refl, refl, refl, refl)) }

  pub here_parted : (s back : Subscription M T) (old new : Parted M T) → back ≡ s → new.kept.items ≡ old.kept.items ++ Here back ∷ [] → new.pieces.items ≡ old.pieces.items → new.links.items ≡ old.links.items → new.taps.items ≡ old.taps.items → ArePartedBy b (s ∷ []) old new
  here_parted s back old new same kept pieces links taps = stays_parted s old new (record {
    kept = kept ∙ ap (λ x. old.kept.items ++ Here x ∷ []) same;
    pieces = pieces ∙ sym (append-nil old.pieces.items);
    links = links ∙ sym (append-nil old.links.items);
    taps = taps ∙ sym (append-nil old.taps.items);
  })

  pub goes_parted : (s : Subscription M T) (old new : Parted M T) (piece : Piece M T) (link : Link T) (tap : Tap T) (queue : List (Signal T)) (delivered k : ℕ) → k ≡ length old.links.items → queue ≡ [] → delivered ≡ s.demand.sent → IsOutOf b s k piece link → IsTapFor s link tap → tap.link ≡ k → IsFresh s tap →
      HasMore old (Away queue delivered ∷ []) (piece ∷ []) (link ∷ []) (tap ∷ []) new → ArePartedBy b (s ∷ []) old new
  goes_parted s old new piece link tap queue delivered k number empty sent out over named fresh more =
      let kept_is : Away queue delivered ∷ [] ≡ Away [] s.demand.sent ∷ [] = ap (λ (q : List (Signal T)). let l : List (Kept M T) = Away q delivered ∷ [] in l) empty ∙ ap (λ (i : ℕ). let l : List (Kept M T) = Away [] i ∷ [] in l) sent in
      record {
        kept = Away queue delivered ∷ [];
        pieces = piece ∷ [];
        links = link ∷ [];
        taps = tap ∷ [];
        more = more;
        out = inr (
          record {
            others = [];
            pieces = [];
            links = [];
            taps = [];
            piece = piece;
            link = link;
            tap = tap;
            is = kept_is;
            piece_first = refl;
            link_first = refl;
            tap_first = refl;
            out = subst (λ i. IsOutOf b s i piece link) number out;
            over = over;
            number = named ∙ number;
            fresh = fresh;
          },
          (refl, refl, refl, refl),
        );
      }

  front : {X : Type 0} (a n xs : List X) → a ≡ [] → n ≡ a ++ xs → n ≡ xs
  front {X} a n xs z f = f ∙ ap (λ (l : List X). l ++ xs) z

  -- all of them, where there were none before
  pub all_parted : (subs : List (Subscription M T)) (old new : Parted M T) → (old.pieces.items ≡ []) × (old.links.items ≡ []) × (old.taps.items ≡ []) × (old.kept.items ≡ []) → ArePartedBy b subs old new → AreOut b 0 subs new.kept.items new.pieces.items new.links.items new.taps.items
  all_parted subs old new none p =
      let k : length old.links.items ≡ 0 = ap length none.1 in
      same_out 0 subs p.kept new.kept.items p.pieces new.pieces.items p.links new.links.items p.taps new.taps.items
      (front old.kept.items new.kept.items p.kept none.3 p.more.kept) (front old.pieces.items new.pieces.items p.pieces none.0 p.more.pieces) (front old.links.items new.links.items p.links none.1 p.more.links) (front old.taps.items new.taps.items p.taps none.2 p.more.taps)
      (subst (λ i. AreOut b i subs p.kept p.pieces p.links p.taps) k p.out)
