-- Two lists side by side: pieces that meet are one run, and what is marked is picked by either list. Assumes nothing.
use mathlib.Core.Path.{◌≡◌, refl, sym, ap, ◌∙◌}
use mathlib.Core.Bool.{Bool, true, false, cond}
use mathlib.Core.List.{List}
use mathlib.Core.Logic.{◌⊎◌, inl, inr}
use Prim.Native.Nat.{ℕ, zero, suc, ◌+◌, ◌-◌, ◌^◌, ◌<◌, ◌≤◌}
use native.Mathlib.Omega.{arith}
use borrow.Author.Tests.{eqb-true, eqb-false, ltb-true, ltb-false, leb-true, leb-false}
use lib.Dec.{eqb, ltb, leb}
use Rattle.std.specs.Prelude.{max}
use lib.ListN.{get_or, replicate}
use Rattle.ring.specs.Ring.{half}
use Rattle.loss_list.specs.Expand.{expanded}
use Rattle.merging.specs.Steps.{picks, either}
use Rattle.merge.specs.Walk.{Stands, Covered, Finds, Whole, Marks, Leads, nearest, Walking, Extends, RunsOn}
use Rattle.merge.specs.declared.find.Side.{Side}
use Rattle.merge.specs.declared.find.Found.{Found}
use Rattle.merge.specs.declared.walk.Walk.{Walk}

-- what one of two tests picks both pick together
either_first : (f g : Bool) → f ≡ true → cond f true g ≡ true
either_first f g e = ap (λ (b : Bool). cond b true g) e

either_second : (f g : Bool) → g ≡ true → cond f true g ≡ true
either_second true g e = refl
either_second false g e = e

-- a piece that is not reached yet stays the next
pub finds-on : {o : ℕ} {ws : List ℕ} {ordered : Bool} {at later : ℕ} {f : Found} → Finds o ws ordered at f → at ≤ later → later ≤ f.piece.from → Finds o ws ordered later f
finds-on x h l =
    record {
      next = record { before = λ d k m n. x.next.before d (omega arith) m n; there = λ b. (let t = x.next.there b in (l, t.1, t.2, t.3)); ends = x.next.ends };
      stands = x.stands;
    }

pub stands_on : {o : ℕ} {ws : List ℕ} {at later : ℕ} {s : Side} → Stands o ws at s → at ≤ later → Stands o ws later s
stands_on x h = record { sound = x.sound; fits = x.fits; in-turn = x.in-turn; same = λ d k l. x.same d (omega arith) l }

-- past the end and past the piece
farther : (end to : ℕ) {at : ℕ} → at ≡ max end (to + 1) → (end ≤ at) × (to < at) × ((d : ℕ) → end ≤ d → to < d → at ≤ d)
farther end to {at} e = (omega arith, omega arith, λ d k l. omega arith)

pub farther-inside : {end to at : ℕ} → end ≤ half 31 → to < half 31 → at ≡ max end (to + 1) → at ≤ half 31
farther-inside {end} {to} {at} h l e = omega arith

pub extends-piece : (g : ℕ → Bool) {end to at : ℕ} → end ≤ half 31 → to < half 31 → at ≡ max end (to + 1) → Extends g end to at
extends-piece g {end} {to} {at} h l e =
    let lies = farther end to e in
    record { on = lies.0; past = lies.1; inside = farther-inside h l e; more = λ d b k m. absurd (omega (arith, lies.2 d b k)) }

-- nothing is marked at first
pub unmarked : (n k : ℕ) → get_or (replicate n false) k false ≡ false
unmarked zero k = refl
unmarked (suc n) zero = refl
unmarked (suc n) (suc k) = unmarked n k

-- what was marked in two turns, where nothing was before, is picked by either
module _ {o : ℕ} {ws vs : List ℕ} {at : ℕ} {none one two : List Bool} (clear : (k : ℕ) → get_or none k false ≡ false) (x : Marks o ws at none one) (y : Marks o vs at one two) where
  marked : (k : ℕ) → get_or two k false ≡ true → (either o ws vs (at + k) ≡ true) × (at + k < half 31)
  marked k e = second (y.only k e)
    where
      first : (get_or none k false ≡ true) ⊎ ((picks o (expanded ws) (at + k) ≡ true) × (at + k < half 31)) → (either o ws vs (at + k) ≡ true) × (at + k < half 31)
      first (inl h) = absurd (let clash = sym (clear k) ∙ h in let z : ◌≡◌ {A = ℕ} 0 1 = cc in omega arith)
      first (inr h) = (either_first (picks o (expanded ws) (at + k)) (picks o (expanded vs) (at + k)) h.0, h.1)

      second : (get_or one k false ≡ true) ⊎ ((picks o (expanded vs) (at + k) ≡ true) × (at + k < half 31)) → (either o ws vs (at + k) ≡ true) × (at + k < half 31)
      second (inl h) = first (x.only k h)
      second (inr h) = (either_second (picks o (expanded ws) (at + k)) (picks o (expanded vs) (at + k)) h.0, h.1)

  pub marks-within : {n : ℕ} → Leads two n → at ≤ half 31 → at + n ≤ half 31
  marks-within {n} l h = go (eqb n 0) refl
    where
      go : (b : Bool) → eqb n 0 ≡ b → at + n ≤ half 31
      go true q = omega (arith, eqb-true n 0 q)
      go false q =
          let some = eqb-false n 0 q in
          omega (arith, (marked (n - 1) (l.marked (n - 1) (omega arith))).1)

  -- all that is marked one after the other
  pub extends-marked : {n end to : ℕ} → Leads two n → at ≤ half 31 → at ≡ max end (to + 1) → Extends (either o ws vs) end to (at + n)
  extends-marked {n} {end} {to} l h e =
      let lies = farther end to e in
      record {
        on = omega (arith, lies.0);
        past = omega (arith, lies.1);
        inside = marks-within l h;
        more = λ d b k m. (
            let after = lies.2 d b k in
            let there : at + (d - at) ≡ d = omega arith in
            ap (either o ws vs) (sym there) ∙ (marked (d - at) (l.marked (d - at) (omega arith))).0
            );
      }

-- the next piece of a list, found at a step up to `end`
pub record Early (o : ℕ) (ws : List ℕ) (ordered : Bool) (end : ℕ) (f : Found) : Type 0 where
  pub at : ℕ
  pub early : at ≤ end
  pub finds : Finds o ws ordered at f

-- a run that is known up to `end`, and the next pieces
pub record Joining (o : ℕ) (ws vs : List ℕ) (left right : Bool) (from end : ℕ) (one other : Found) : Type 0 where
  pub whole-first : Whole o ws
  pub whole-second : Whole o vs
  pub on : from ≤ end
  pub inside : end ≤ half 31
  pub covered : (d : ℕ) → from ≤ d → d < end → either o ws vs d ≡ true
  pub first : Early o ws left end one
  pub second : Early o vs right end other
  pub ahead : (from ≤ one.piece.from) × (from ≤ other.piece.from)
  pub begun : (from < end) ⊎ ((one.piece.from ≤ from) ⊎ (other.piece.from ≤ from))

-- a piece that begins by then lies in the window
module _ {o : ℕ} {ws : List ℕ} {ordered : Bool} {end : ℕ} {f : Found} (x : Early o ws ordered end f) (inside : end ≤ half 31) (h : f.piece.from ≤ end) where
  pub piece-there : (f.piece.from ≤ f.piece.to) × (f.piece.to < half 31) × Covered (picks o (expanded ws)) f.piece.from f.piece.to
  piece-there = let t = x.finds.next.there (omega arith) in (t.1, t.2, t.3)

  -- the next of that list begins farther
  pub farther-on : {r : ℕ} {f' : Found} → f.piece.to < r → Finds o ws ordered r f' → (f.piece.from < f'.piece.from) × (r ≤ f'.piece.from ⊎ (2 ^ 31 ≤ f'.piece.from))
  farther-on {r} {f'} l y = go (ltb f'.piece.from (2 ^ 31)) refl
    where
      go : (b : Bool) → ltb f'.piece.from (2 ^ 31) ≡ b → (f.piece.from < f'.piece.from) × (r ≤ f'.piece.from ⊎ (2 ^ 31 ≤ f'.piece.from))
      go true e =
          let t = y.next.there (ltb-true f'.piece.from (2 ^ 31) e) in
          (omega (arith, t.0, piece-there.0), inl t.0)
      go false e =
          let none = ltb-false f'.piece.from (2 ^ 31) e in
          (omega arith, inr none)

module _ (o : ℕ) (ws vs : List ℕ) (left right : Bool) where
  pub joining-start : {at : ℕ} {w : Walk} → Walking o ws vs left right at w → w.from < 2 ^ 31 → Joining o ws vs left right w.from w.from w.first w.second
  unfolding nearest
  joining-start {at} {w} x h = go (ltb w.second.piece.from w.first.piece.from) refl x.nearer
    where
      made : at ≤ w.from → w.from ≤ half 31 → (w.from ≤ w.first.piece.from) × (w.from ≤ w.second.piece.from) → (w.first.piece.from ≤ w.from) ⊎ (w.second.piece.from ≤ w.from) → Joining o ws vs left right w.from w.from w.first w.second
      made k l a b =
          record {
            whole-first = x.whole-first;
            whole-second = x.whole-second;
            on = omega arith;
            inside = l;
            covered = λ d f e. absurd (omega arith);
            first = record { at = at; early = k; finds = x.first };
            second = record { at = at; early = k; finds = x.second };
            ahead = a;
            begun = inr b;
          }

      go : (b : Bool) → ltb w.second.piece.from w.first.piece.from ≡ b → w.from ≡ cond b w.second.piece.from w.first.piece.from → Joining o ws vs left right w.from w.from w.first w.second
      go true q e =
          let nearer = ltb-true w.second.piece.from w.first.piece.from q in
          let t = x.second.next.there (omega arith) in
          made (omega (arith, t.0)) (omega (arith, t.1, t.2)) (omega arith, omega arith) (inr (omega arith))
      go false q e =
          let nearer = ltb-false w.second.piece.from w.first.piece.from q in
          let t = x.first.next.there (omega arith) in
          made (omega (arith, t.0)) (omega (arith, t.1, t.2)) (omega arith, omega arith) (inl (omega arith))

  module _ {from end : ℕ} {one other : Found} (x : Joining o ws vs left right from end one other) where
    -- all up to where the run ends with a piece
    covers-on : {to p r : ℕ} → p ≤ end → ((d : ℕ) → p ≤ d → d ≤ to → either o ws vs d ≡ true) → Extends (either o ws vs) end to r → (d : ℕ) → from ≤ d → d < r → either o ws vs d ≡ true
    covers-on {to} {p} {r} h piece y d b k = go (ltb d end) refl (leb d to) refl
      where
        go : (b : Bool) → ltb d end ≡ b → (c : Bool) → leb d to ≡ c → either o ws vs d ≡ true
        go true e c f = x.covered d b (ltb-true d end e)
        go false e true f =
            let after = ltb-false d end e in
            piece d (omega arith) (leb-true d to f)
        go false e false f = y.more d (ltb-false d end e) (leb-false d to f) k

    module _ {r : ℕ} {one' : Found} (h : one.piece.from ≤ end) (y : Extends (either o ws vs) end one.piece.to r) (z : Finds o ws left r one') where
      t : (one.piece.from ≤ one.piece.to) × (one.piece.to < half 31) × Covered (picks o (expanded ws)) one.piece.from one.piece.to
      t = piece-there x.first x.inside h

      pub first-farther : one.piece.from < one'.piece.from
      first-farther = (farther-on x.first x.inside h y.past z).0

      pub joining-first : Joining o ws vs left right from r one' other
      joining-first =
          record {
            whole-first = x.whole-first;
            whole-second = x.whole-second;
            on = omega (arith, x.on, y.on);
            inside = y.inside;
            covered = covers-on h (λ d b e. either_first (picks o (expanded ws) d) (picks o (expanded vs) d) (t.2 d b e)) y;
            first = record { at = r; early = omega arith; finds = z };
            second = record { at = x.second.at; early = omega (arith, x.second.early, y.on); finds = x.second.finds };
            ahead = (omega (arith, x.ahead.0, first-farther), x.ahead.1);
            begun = inl (omega (arith, y.past, t.0, x.ahead.0));
          }

    module _ {r : ℕ} {other' : Found} (h : other.piece.from ≤ end) (y : Extends (either o ws vs) end other.piece.to r) (z : Finds o vs right r other') where
      u : (other.piece.from ≤ other.piece.to) × (other.piece.to < half 31) × Covered (picks o (expanded vs)) other.piece.from other.piece.to
      u = piece-there x.second x.inside h

      pub second-farther : other.piece.from < other'.piece.from
      second-farther = (farther-on x.second x.inside h y.past z).0

      pub joining-second : Joining o ws vs left right from r one other'
      joining-second =
          record {
            whole-first = x.whole-first;
            whole-second = x.whole-second;
            on = omega (arith, x.on, y.on);
            inside = y.inside;
            covered = covers-on h (λ d b e. either_second (picks o (expanded ws) d) (picks o (expanded vs) d) (u.2 d b e)) y;
            first = record { at = x.first.at; early = omega (arith, x.first.early, y.on); finds = x.first.finds };
            second = record { at = r; early = omega arith; finds = z };
            ahead = (x.ahead.0, omega (arith, x.ahead.1, second-farther));
            begun = inl (omega (arith, y.past, u.0, x.ahead.1));
          }

    -- neither piece joins the run
    module _ (h : end < one.piece.from) (k : end < other.piece.from) where
      pub some : from < end
      some = go x.begun
        where
          go : (from < end) ⊎ ((one.piece.from ≤ from) ⊎ (other.piece.from ≤ from)) → from < end
          go (inl l) = l
          go (inr (inl l)) = absurd (omega (arith, x.on))
          go (inr (inr l)) = absurd (omega (arith, x.on))

      pub runs_on : {w next : Walk} → from ≡ w.from → next ≡ record { from = nearest one.piece other.piece; first = one; second = other }
          → RunsOn o ws vs left right w (record { from = from; to = end - 1; next = next })
      unfolding nearest
      runs_on {w} {next} e f =
          let all : end - 1 + 1 ≡ end = omega (arith, some) in
          let first = finds-on x.first.finds x.first.early (omega arith) in
          let second = finds-on x.second.finds x.second.early (omega arith) in
          record {
            begins = e;
            reaches = record { on = omega (arith, some); inside = omega (arith, some, x.inside); covered = λ d b l. x.covered d b (omega (arith, some)) };
            next = rw (all, f) (record { whole-first = x.whole-first; whole-second = x.whole-second; first = first; second = second; nearer = refl });
            apart = rw (all, f) (go (ltb other.piece.from one.piece.from));
          }
        where
          go : (b : Bool) → end < cond b other.piece.from one.piece.from
          go true = k
          go false = h
