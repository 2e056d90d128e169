-- What is left of both lists from the walk's piece on, and a run taken off it: so are the numbers counted, and so are the words written. Assumes nothing.
use mathlib.Core.Path.{◌≡◌, refl, sym, ap, subst, ◌∙◌}
use mathlib.Core.Bool.{Bool, true, false, cond}
use mathlib.Core.List.{List, [], ◌∷◌, ◌++◌}
use Prim.Native.Nat.{ℕ, zero, suc, ◌+◌, ◌-◌, ◌*◌, ◌^◌, ◌<◌, ◌≤◌}
use native.Mathlib.Nat.{mul-zero}
use native.Mathlib.Omega.{arith}
use borrow.Author.Tests.{ltb-true, ltb-false, eqb-true, eqb-false}
use lib.Dec.{ltb, eqb}
use lib.ListN.{length}
use Rattle.ring.specs.Ring.{after, half}
use Rattle.loss_list.specs.Compress.{runs, range_flag, coded, cost, coded_runs, cost_of_runs, compressed, words}
use Rattle.loss_list.specs.Expand.{expanded}
use Rattle.loss_list.proofs.Runs.{words-within}
use Rattle.wire.specs.Storage.{Filling}
use Rattle.wire.proofs.Filling.{filling-start, filling-done}
use Rattle.wire.specs.Storage.{Storage, flat}
use Rattle.loss_list.proofs.RunWords.{lone_room, lone-put, first-room, run_room, run-put}
use Rattle.merging.specs.Merging.{union}
use Rattle.merging.specs.Steps.{picks, either}
use Rattle.merging.proofs.Listing.{listing}
use Rattle.merging.proofs.Ordered.{union-listing}
use Rattle.merging.proofs.Runs.{listing-over, listing-skip, listing-words, listing-coded, listing-length, listing-short}
use Rattle.merge.specs.Walk.{Puts, nearest, Walking, Stood, RunsOn, Ready, Fills}
use Rattle.merge.specs.declared.walk.Walk.{Walk}
use Rattle.merge.specs.declared.walk.Run.{Run}

cost-lone : {steps : ℕ} → steps ≡ 0 → cost steps ≡ 1
unfolding cost
cost-lone e = ap cost e

cost-run : (steps : ℕ) → (steps ≡ 0 → ⊥) → cost steps ≡ 2
unfolding cost
cost-run zero n = absurd (n refl)
cost-run (suc k) n = refl

-- a list with no element
empty : {A : Type 0} (xs : List A) → length xs ≡ 0 → xs ≡ []
empty [] e = refl
empty (x ∷ xs) e = absurd (omega arith)

module _ (o : ℕ) (ws vs : List ℕ) (left right : Bool) where
  abbrev left-of : Walk → List ℕ
  left-of w = listing o (either o ws vs) w.from

  abbrev all : List ℕ
  all = union o ws vs

  -- neither list has a number before the nearer piece
  none_before : {at : ℕ} {w : Walk} → Walking o ws vs left right at w → (d : ℕ) → at ≤ d → d < w.from → d < half 31 → either o ws vs d ≡ false
  unfolding nearest
  none_before {at} {w} x d k m l = go (ltb w.second.piece.from w.first.piece.from) refl x.nearer
    where
      none_of : d < w.first.piece.from → d < w.second.piece.from → either o ws vs d ≡ false
      none_of f g = ap (λ (b : Bool). cond b true (picks o (expanded vs) d)) (x.first.next.before d k f l) ∙ x.second.next.before d k g l

      go : (b : Bool) → ltb w.second.piece.from w.first.piece.from ≡ b → w.from ≡ cond b w.second.piece.from w.first.piece.from → either o ws vs d ≡ false
      go true q e = none_of (omega (arith, ltb-true w.second.piece.from w.first.piece.from q)) (omega arith)
      go false q e = none_of (omega arith) (omega (arith, ltb-false w.second.piece.from w.first.piece.from q))

  -- at first all is left
  module _ (x : Ready o ws vs left right) where
    all_listed : all ≡ listing o (either o ws vs) 0
    all_listed = union-listing o ws vs x.oldest x.first-words x.second-words x.first-inside x.second-inside

    all_left : {w : Walk} → Walking o ws vs left right 0 w → all ≡ left-of w
    all_left {w} y = all_listed ∙ listing-skip o (either o ws vs) 0 w.from (omega arith) (none_before y)

    short : length all ≤ half 31
    short = rw all_listed (listing-short o (either o ws vs) 0)

  -- at last nothing
  over : (w : Walk) → 2 ^ 31 ≤ w.from → left-of w ≡ []
  over w h = listing-over o (either o ws vs) w.from (omega arith)

  module _ {w : Walk} {r : Run} (x : RunsOn o ws vs left right w r) where
    begins : left-of w ≡ listing o (either o ws vs) r.from
    begins = ap (listing o (either o ws vs)) (sym x.begins)

    left-words : words (left-of w) ≡ cost (r.to - r.from) + words (left-of r.next)
    left-words = ap words begins ∙ listing-words o (either o ws vs) r.from r.to r.next.from x.reaches.on x.reaches.inside x.reaches.covered x.apart (none_before x.next)

    left-coded : compressed (left-of w) ≡ coded (after 31 o r.from) (r.to - r.from) ++ compressed (left-of r.next)
    left-coded = ap compressed begins ∙ listing-coded o (either o ws vs) r.from r.to r.next.from x.reaches.on x.reaches.inside x.reaches.covered x.apart (none_before x.next)

    left-length : length (left-of w) ≡ r.to - r.from + 1 + length (left-of r.next)
    left-length = ap length begins ∙ listing-length o (either o ws vs) r.from r.to r.next.from x.reaches.on x.reaches.inside x.reaches.covered x.apart (none_before x.next)

    pub stood_on : Stood o ws vs left right r.next
    stood_on = record { at = r.to + 1; walking = x.next }

  -- what was counted and, where there is any room, written, with what is left
  pub record Writing {A : Type 0} (S : Storage A) (held₀ held : List A) (w : Walk) (numbers out : ℕ) : Type 0 where
    pub stood : Stood o ws vs left right w
    pub counted : numbers + length (left-of w) ≡ length all
    pub written : out + words (left-of w) ≡ words all
    pub short : length all ≤ half 31
    pub within : out ≤ half 31
    pub long : length held ≡ length held₀
    pub filling : 0 < length held₀ → Filling held₀ held (S.size * out) (flat S (compressed (left-of w))) (flat S (compressed all))

  module _ {A : Type 0} (S : Storage A) where
    pub writing_start : Ready o ws vs left right → {w : Walk} → Walking o ws vs left right 0 w → (held : List A) → Writing S held held w 0 0
    writing_start x {w} y held =
        record {
          stood = record { at = 0; walking = y };
          counted = omega (arith, ap length (all_left x y));
          written = omega (arith, ap words (all_left x y));
          short = short x;
          within = omega arith;
          long = refl;
          filling = λ room. rw (mul-zero S.size) (subst (λ (l : List ℕ). Filling held held 0 (flat S (compressed l)) (flat S (compressed all))) (all_left x y) (filling-start held (flat S (compressed all))));
        }

    module _ {held₀ held : List A} {w : Walk} {numbers out : ℕ} (t : Writing S held₀ held w numbers out) where
      module _ {r : Run} (x : RunsOn o ws vs left right w r) where
        pub numbers_fit : numbers + (r.to - r.from + 1) ≤ half 31
        numbers_fit = omega (arith, t.counted, t.short, left-length x)

        next : 0 < length held₀ → Filling held₀ held (S.size * out) (flat S (coded (after 31 o r.from) (r.to - r.from) ++ compressed (left-of r.next))) (flat S (compressed all))
        next some = subst (λ (l : List ℕ). Filling held₀ held (S.size * out) (flat S l) (flat S (compressed all))) (left-coded x) (t.filling some)

        some_first : 0 < length held → 0 < length held₀
        some_first some = omega (arith, t.long)

        some-now : 0 < length held₀ → 0 < length held
        some-now some = omega (arith, t.long)

        -- all that is written fits, if there is any room
        module _ (room : 0 < length held₀ → length (flat S (compressed all)) ≤ length held₀) where
          pub lone-fits : r.to - r.from ≡ 0 → 0 < length held → S.size * (out + 1) ≤ length held
          lone-fits e some = let h = some_first some in lone_room S held₀ _ (room h) held out _ _ _ (next h) e

          pub writing-lone : {one : List A} → r.to - r.from ≡ 0 → Puts S held out (after 31 o r.from) one → Writing S held₀ one r.next (numbers + (r.to - r.from + 1)) (out + 1)
          writing-lone {one} e p =
              record {
                stood = stood_on x;
                counted = omega (arith, t.counted, left-length x);
                written = omega (arith, t.written, left-words x, cost-lone e);
                short = t.short;
                within = omega (arith, t.written, left-words x, cost-lone e, t.short, words-within all);
                long = p.long ∙ t.long;
                filling = λ some. rw (p.stores (some-now some)) (lone-put S held₀ _ (room some) held out _ _ _ (next some) e);
              }

          module _ (n : r.to - r.from ≡ 0 → ⊥) where
            pub first-fits : 0 < length held → S.size * (out + 1) ≤ length held
            first-fits some = let h = some_first some in first-room S held₀ _ (room h) held out _ _ _ (next h) n

            module _ {one : List A} (p : Puts S held out (after 31 o r.from + range_flag (r.to - r.from)) one) where
              pub second-fits : 0 < length one → S.size * (out + 1 + 1) ≤ length one
              second-fits some =
                  let h : 0 < length held₀ = omega (arith, p.long, t.long) in
                  let again : out + 1 + 1 ≡ out + 2 = omega arith in
                  rw (again, p.long) (run_room S held₀ _ (room h) held out _ _ _ (next h) n)

              pub writing-run : {two : List A} → Puts S one (out + 1) (after 31 o r.to) two → Writing S held₀ two r.next (numbers + (r.to - r.from + 1)) (out + 2)
              writing-run {two} q =
                  record {
                    stood = stood_on x;
                    counted = omega (arith, t.counted, left-length x);
                    written = omega (arith, t.written, left-words x, cost-run (r.to - r.from) n);
                    short = t.short;
                    within = omega (arith, t.written, left-words x, cost-run (r.to - r.from) n, t.short, words-within all);
                    long = q.long ∙ p.long ∙ t.long;
                    filling = both;
                  }
                where
                  last : after 31 (after 31 o r.from) (r.to - r.from) ≡ after 31 o r.to
                  last =
                      let on : after 31 (after 31 o r.from) (r.to - r.from) ≡ after 31 o (r.from + (r.to - r.from)) = omega arith in
                      on ∙ ap (after 31 o) (omega (arith, x.reaches.on))

                  both : 0 < length held₀ → Filling held₀ two (S.size * (out + 2)) (flat S (compressed (left-of r.next))) (flat S (compressed all))
                  both some =
                      let first = p.stores (some-now some) in
                      let second = q.stores (omega (arith, p.long, t.long)) in
                      rw (second, first) (rw last at (run-put S held₀ _ (room some) held out _ _ _ (next some) n))

    module _ {held₀ held : List A} {w : Walk} {numbers out : ℕ} (t : Writing S held₀ held w numbers out) (h : 2 ^ 31 ≤ w.from) where
      filled : 0 < length held₀ → Fills (flat S (compressed all)) held₀ held
      unfolding compressed runs coded_runs flat
      filled some =
          filling-done (subst (λ (l : List ℕ). Filling held₀ held (S.size * out) (flat S (compressed l)) (flat S (compressed all))) (over w h) (t.filling some))

      -- where there is no room, nothing fits but nothing
      unfilled : length held₀ ≡ 0 → length (flat S (compressed all)) ≤ length held₀ → Fills (flat S (compressed all)) held₀ held
      unfilled none room = rw (empty held₀ none, empty held (omega (arith, t.long)), empty (flat S (compressed all)) (omega arith))

      pub writing-fills : length (flat S (compressed all)) ≤ length held₀ → Fills (flat S (compressed all)) held₀ held
      writing-fills room = go (eqb (length held₀) 0) refl
        where
          go : (b : Bool) → eqb (length held₀) 0 ≡ b → Fills (flat S (compressed all)) held₀ held
          go true q = unfilled (eqb-true (length held₀) 0 q) room
          go false q =
              let some = eqb-false (length held₀) 0 q in
              filled (omega arith)

      pub writing-counts : (numbers ≡ length all) × (out ≡ words all)
      unfolding words runs cost_of_runs
      writing-counts =
          let none : length (left-of w) ≡ 0 = ap length (over w h) in
          let no_words : words (left-of w) ≡ 0 = ap words (over w h) in
          (omega (arith, t.counted), omega (arith, t.written))
