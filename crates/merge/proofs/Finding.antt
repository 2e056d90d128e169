-- The walk that looks for the next piece of a list: what it found so far is nearer than what it passed, and what is left has the rest. In a list that stands in turn nothing begins
-- before the first item that reaches so far. Assumes nothing.
use mathlib.Core.Path.{◌≡◌, refl, sym, ap, subst, ◌∙◌}
use mathlib.Core.Bool.{Bool, true, false, cond}
use mathlib.Core.List.{List, [], ◌∷◌}
use Prim.Native.Nat.{ℕ, ◌+◌, ◌^◌, ◌<◌, ◌≤◌}
use native.Mathlib.Omega.{arith}
use borrow.Author.Tests.{ltb-true, ltb-false, leb-true, leb-false}
use lib.Dec.{leb, ltb}
use Rattle.std.specs.Prelude.{max}
use lib.ListN.{length}
use Rattle.ring.specs.Ring.{after, distance, half}
use Rattle.loss_list.specs.Run.{numbers_in}
use Rattle.loss_list.specs.Expand.{Item, items, expansion, expanded}
use Rattle.loss_list.specs.Has.{has, covers}
use Rattle.loss_list.proofs.Has.{has-append, numbers_of_lem}
use Rattle.spans.specs.Spans.{ItemAt, items_from, InTurn}
use Rattle.spans.specs.declared.Span.{Span}
use Rattle.spans.proofs.Spans.{no_items, covers-there, covers-not-before, covers-not-after}
use Rattle.merging.specs.Steps.{picks}
use Rattle.merge.specs.Walk.{Fits, Stands, begins_at, near_with, Covered, Next, Finds, Whole}
use Rattle.merge.specs.declared.find.Side.{Side}
use Rattle.merge.specs.declared.find.Piece.{Piece}

-- the first of some items covers a number, or the others have it
pub front : (o : ℕ) (i : Item) (is : List Item) (d : ℕ) → picks o (expansion (i ∷ is)) d ≡ cond (covers i (after 31 o d)) true (picks o (expansion is) d)
unfolding expansion
front o i is d = has-append (numbers_in i.run) (expansion is) (after 31 o d)

-- no item that begins later has a number
in-turn-none : (o least : ℕ) (is : List Item) → Fits o is → InTurn o least is → (d : ℕ) → d < least → d < half 31 → picks o (expansion is) d ≡ false
in-turn-none o least [] f t d h l = unfold expansion has in refl
in-turn-none o least (i ∷ is) f t d h l =
    front o i is d ∙ rw (covers-not-before o i f.0 f.1 d l (omega (arith, t.0))) (in-turn-none o (distance 31 i.run.first o) is f.2 t.1 d (omega (arith, t.0)) l)

in-turn-weaker : (o least : ℕ) (is : List Item) → InTurn o least is → InTurn o 0 is
in-turn-weaker o least [] t = tt
in-turn-weaker o least (i ∷ is) t = (omega arith, t.1)

-- what becomes of a piece with an item: the item lies before `at`, or begins no nearer, or is the nearer from `start` on
data Nearer (p : Piece) (at from to : ℕ) : Piece → Type 0 where
  passed : to < at → Nearer p at from to p
  kept : (start : ℕ) → start ≤ to → p.from ≤ start → ((d : ℕ) → at ≤ d → d < start → d < from) → Nearer p at from to p
  taken : (start : ℕ) → start ≤ to → start < p.from → at ≤ start → from ≤ start → ((d : ℕ) → at ≤ d → d < start → d < from) → Nearer p at from to (record { from = start; to = to })

-- where the item begins, and no number from `at` on is before that in it
data Begins (at from to : ℕ) : ℕ → Type 0 where
  past : to < at → Begins at from to (2 ^ 31)
  at-start : (start : ℕ) → start ≤ to → at ≤ start → from ≤ start → ((d : ℕ) → at ≤ d → d < start → d < from) → Begins at from to start

begins : (at from to : ℕ) → from ≤ to → Begins at from to (begins_at at from to)
unfolding begins_at
begins at from to h = go (ltb to at) refl
  where
    go : (b : Bool) → ltb to at ≡ b → Begins at from to (cond b (2 ^ 31) (max from at))
    go true b = past (ltb-true to at b)
    go false b =
        let reached = ltb-false to at b in
        at-start (max from at) (omega arith) (omega arith) (omega arith) (λ d k l. omega arith)

nearer : (p : Piece) (at from to : ℕ) → p.from ≤ 2 ^ 31 → from ≤ to → Nearer p at from to (near_with p at from to)
unfolding near_with
nearer p at from to e h = go (begins_at at from to) (begins at from to h) (ltb (begins_at at from to) p.from) refl
  where
    go : (start : ℕ) → Begins at from to start → (b : Bool) → ltb start p.from ≡ b → Nearer p at from to (cond b (record { from = start; to = to }) p)
    go start (past b) true q = absurd (omega (arith, ltb-true (2 ^ 31) p.from q))
    go start (past b) false q = passed b
    go start (at-start start' t k f g) true q = taken start' t (ltb-true start' p.from q) k f g
    go start (at-start start' t k f g) false q = kept start' t (ltb-false start' p.from q) g

module _ (o : ℕ) (ws : List ℕ) (at : ℕ) where
  abbrev has-at : ℕ → Bool
  has-at d = picks o (expanded ws) d

  abbrev left_at : ℕ → ℕ → Bool
  left_at i d = picks o (expansion (items_from ws i)) d

  -- the items from place i on are in the window, and have no number that the list has not
  pub record Left (i : ℕ) : Type 0 where
    pub fits : Fits o (items_from ws i)
    pub part : (d : ℕ) → at ≤ d → d < half 31 → left_at i d ≡ true → has-at d ≡ true

  pub left-whole : Whole o ws → Left 0
  unfolding expanded
  left-whole x = record { fits = x.fits; part = λ d k l e. ap (λ (ns : List ℕ). picks o ns d) (numbers_of_lem (items 0 ws)) ∙ e }

  -- an item taken off
  module _ {i : ℕ} (x : Left i) {sp : Span} (a : ItemAt o ws i sp) where
    fit : Fits o (a.item ∷ items_from ws (i + sp.words))
    fit = subst (Fits o) a.here x.fits

    splits : (d : ℕ) → left_at i d ≡ cond (covers a.item (after 31 o d)) true (left_at (i + sp.words) d)
    splits d = ap (λ (is : List Item). picks o (expansion is) d) a.here ∙ front o a.item (items_from ws (i + sp.words)) d

    reaches : sp.from ≤ sp.to
    reaches = omega (arith, a.to)

    pub item-there : (d : ℕ) → sp.from ≤ d → d ≤ sp.to → d < half 31 → left_at i d ≡ true
    item-there d f t l = splits d ∙ rw (covers-there o a.item fit.0 fit.1 d l (omega (arith, a.from)) (omega (arith, a.from, a.to)))

    item-not-before : (d : ℕ) → d < sp.from → d < half 31 → left_at i d ≡ left_at (i + sp.words) d
    item-not-before d f l = splits d ∙ rw (covers-not-before o a.item fit.0 fit.1 d l (omega (arith, a.from)))

    item-not-after : (d : ℕ) → sp.to < d → d < half 31 → left_at i d ≡ left_at (i + sp.words) d
    item-not-after d t l = splits d ∙ rw (covers-not-after o a.item fit.0 fit.1 d l (omega (arith, a.from, a.to)))

    on-part : (d : ℕ) → at ≤ d → d < half 31 → left_at (i + sp.words) d ≡ true → has-at d ≡ true
    on-part d k l e = x.part d k l (splits d ∙ go (covers a.item (after 31 o d)))
      where
        go : (b : Bool) → cond b true (left_at (i + sp.words) d) ≡ true
        go true = refl
        go false = e

    pub inside : sp.to < half 31
    inside = omega (arith, a.from, a.to, fit.1)

    pub left-on : Left (i + sp.words)
    left-on = record { fits = fit.2; part = on-part }

module _ (o : ℕ) (ws : List ℕ) (at : ℕ) (s : Side) where
  abbrev nothing : Piece
  nothing = record { from = 2 ^ 31; to = 2 ^ 31 }

  pub record Finding (near : Piece) (i : ℕ) : Type 0 where
    pub left : Left o ws at i
    pub below : (d : ℕ) → at ≤ d → d < near.from → d < half 31 → left_at o ws at i d ≡ has-at o ws at d
    pub there : near.from < 2 ^ 31 → (at ≤ near.from) × (near.from ≤ near.to) × (near.to < half 31) × Covered (has-at o ws at) near.from near.to
    pub ends : near.from ≤ 2 ^ 31
    pub ahead : at ≤ near.to + 1
    pub in-turn : s.ordered ≡ true → (near ≡ nothing) × InTurn o 0 (items_from ws i)

  module _ {near : Piece} {i : ℕ} (x : Finding near i) {sp : Span} (a : ItemAt o ws i sp) where
    left : Left o ws at i
    left = x.left

    on-turn : InTurn o 0 (items_from ws i) → InTurn o sp.from (items_from ws (i + sp.words))
    on-turn t = subst (λ (d : ℕ). InTurn o d (items_from ws (i + sp.words))) (sym a.from) (subst (InTurn o 0) a.here t).1

    -- the piece that is nearer with this item
    nearer-there : {near' : Piece} → Nearer near at sp.from sp.to near' → near'.from < 2 ^ 31 → (at ≤ near'.from) × (near'.from ≤ near'.to) × (near'.to < half 31) × Covered (has-at o ws at) near'.from near'.to
    nearer-there (passed b) h = x.there h
    nearer-there (kept start t k g) h = x.there h
    nearer-there (taken start t n k f g) h =
        (k, t, inside o ws at left a, λ d b e. left.part d (omega arith) (omega (arith, inside o ws at left a)) (item-there o ws at left a d (omega arith) e (omega (arith, inside o ws at left a))))

    nearer-ends : {near' : Piece} → Nearer near at sp.from sp.to near' → (near'.from ≤ 2 ^ 31) × (at ≤ near'.to + 1)
    nearer-ends (passed b) = (x.ends, x.ahead)
    nearer-ends (kept start t k g) = (x.ends, x.ahead)
    nearer-ends (taken start t n k f g) = (omega (arith, x.ends), omega arith)

    -- below it, what is left has what it had
    nearer-below : {near' : Piece} → Nearer near at sp.from sp.to near' → (d : ℕ) → at ≤ d → d < near'.from → d < half 31 → left_at o ws at (i + sp.words) d ≡ has-at o ws at d
    nearer-below (passed b) d k m l = sym (item-not-after o ws at left a d (omega arith) l) ∙ x.below d k m l
    nearer-below (kept start t n g) d k m l = sym (item-not-before o ws at left a d (g d k (omega arith)) l) ∙ x.below d k m l
    nearer-below (taken start t n b f g) d k m l = sym (item-not-before o ws at left a d (g d k m) l) ∙ x.below d k (omega arith) l

    module _ {near' : Piece} (e : near' ≡ near_with near at sp.from sp.to) where
      nearest : Nearer near at sp.from sp.to near'
      nearest = subst (Nearer near at sp.from sp.to) (sym e) (nearer near at sp.from sp.to x.ends (reaches o ws at left a))

      -- no stop: the walk goes on, and in a list that stands in turn it has found nothing
      passes : cond s.ordered (leb at sp.to) false ≡ false → s.ordered ≡ true → sp.to < at
      passes n t = leb-false at sp.to (sym (ap (λ (b : Bool). cond b (leb at sp.to) false) t) ∙ n)

      unfound : {p : Piece} → Nearer near at sp.from sp.to p → sp.to < at → p ≡ near
      unfound (passed b) h = refl
      unfound (kept start t k g) h = refl
      unfound (taken start t n k f g) h = absurd (omega arith)

      pub finding-on : {stop : Bool} → stop ≡ cond s.ordered (leb at sp.to) false → stop ≡ false → Finding near' (i + sp.words)
      finding-on q n =
          record {
            left = left-on o ws at left a;
            below = nearer-below nearest;
            there = nearer-there nearest;
            ends = (nearer-ends nearest).0;
            ahead = (nearer-ends nearest).1;
            in-turn = λ t. (unfound nearest (passes (sym q ∙ n) t) ∙ (x.in-turn t).0, in-turn-weaker o sp.from (items_from ws (i + sp.words)) (on-turn (x.in-turn t).1));
          }

      -- a stop: of a list that stands in turn, nothing that is left begins earlier, and what comes after the piece is left
      stopped : cond s.ordered (leb at sp.to) false ≡ true → (s.ordered ≡ true) × (at ≤ sp.to)
      stopped n = go s.ordered refl n
        where
          go : (b : Bool) → s.ordered ≡ b → cond b (leb at sp.to) false ≡ true → (s.ordered ≡ true) × (at ≤ sp.to)
          go true t h = (t, leb-true at sp.to h)
          go false t h = absurd (let z : ◌≡◌ {A = ℕ} 0 1 = cc in omega arith)

      -- the piece is the item's, of which nothing is before it
      item-piece : {p : Piece} → Nearer near at sp.from sp.to p → near.from ≡ 2 ^ 31 → at ≤ sp.to → (p.to ≡ sp.to) × ((d : ℕ) → at ≤ d → d < p.from → d < sp.from)
      item-piece (passed b) none r = absurd (omega arith)
      item-piece (kept start t k g) none r = absurd (omega (arith, inside o ws at left a))
      item-piece (taken start t n k f g) none r = (refl, g)

      pub finds-here : {stop : Bool} → stop ≡ cond s.ordered (leb at sp.to) false → stop ≡ true → Finds o ws s.ordered at (record { piece = near'; place = i + sp.words })
      finds-here q n =
          let st = stopped (sym q ∙ n) in
          let found = x.in-turn st.0 in
          let none = ap (λ (p : Piece). p.from) found.0 in
          let piece = item-piece nearest none st.1 in
          record {
            next =
                record {
                  before = λ d k m l. sym (nearer-below nearest d k m l) ∙ in-turn-none o sp.from (items_from ws (i + sp.words)) (fit o ws at left a).2 (on-turn found.1) d (piece.1 d k m) l;
                  there = nearer-there nearest;
                  ends = (nearer-ends nearest).0;
                };
            stands =
                record {
                  sound = a.sound;
                  fits = (fit o ws at left a).2;
                  in-turn = λ t. in-turn-weaker o sp.from (items_from ws (i + sp.words)) (on-turn found.1);
                  same = λ d k l. sym (item-not-after o ws at left a d (omega (arith, piece.0)) l) ∙ x.below d (omega (arith, piece.0, st.1)) (omega (arith, none)) l;
                };
          }

  -- every item is passed
  module _ {near : Piece} {i : ℕ} (x : Finding near i) (over : length ws ≤ i) where
    none_left : (d : ℕ) → left_at o ws at i d ≡ false
    unfolding expansion has
    none_left d = ap (λ (is : List Item). picks o (expansion is) d) (no_items ws i over)

    nothing-before : Next (has-at o ws at) at near
    nothing-before = record { before = λ d k m l. sym (x.below d k m l) ∙ none_left d; there = x.there; ends = x.ends }

    pub finds-all : Stands o ws at s → Finds o ws s.ordered at (record { piece = near; place = s.place })
    finds-all y = record { next = nothing-before; stands = record { sound = y.sound; fits = y.fits; in-turn = y.in-turn; same = λ d k l. y.same d (omega (arith, x.ahead)) l } }
