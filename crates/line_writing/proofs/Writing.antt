-- What is put to a buffer part by part: a number after its tab, and a line's word, its fields and its line feed.
-- Assumes nothing.
use Prim.Native.Nat.{ℕ, zero, suc, ◌+◌, ◌-◌, ◌≤◌, ◌<◌}
use mathlib.Core.Path.{◌≡◌, refl, sym, ap, ◌∙◌}
use mathlib.Core.List.{List, [], ◌∷◌, ◌++◌, append_assoc, append-nil}
use native.Mathlib.Omega.{arith}
use native.Mathlib.Numerals.{add-one}
use Rattle.std.proofs.lemmas.List.{take_all}
use borrow.Author.Tests.{lt-ltb}
use borrow.Rule.Slice.PartMut.{mid_of, put_mid}
use lib.ListN.{length, take, drop, set, get_or, length-append}
use Rattle.wire.specs.Lent.{placed}
use Rattle.wire.proofs.Lent.{placed-fits, lent-next}
use Rattle.decimal.specs.Decimal.{numeral}
use Rattle.sheet_line.specs.Text.{tab, line_feed, ended}

-- a buffer that is too short stays as it was
pub placed-short : (bs held : List ℕ) → length held < length bs → held ≡ placed bs held
placed-short bs held h = simp (lt-ltb (length held) (length bs) h)

-- a byte at the front
first_byte : (b : ℕ) (held : List ℕ) → 0 < length held → set held 0 b ≡ b ∷ drop 1 held
first_byte b [] h = absurd (omega arith)
first_byte b (x ∷ xs) h = refl

pub line-feed : (held : List ℕ) → 0 < length held → set held 0 line_feed ≡ placed (ended []) held
unfolding ended
line-feed held h = first_byte line_feed held h ∙ sym (placed-fits (line_feed ∷ []) held (omega arith))

pub no-line-feed : (held : List ℕ) → length held ≡ 0 → held ≡ placed (ended []) held
unfolding ended
no-line-feed held e = placed-short (line_feed ∷ []) held (omega arith)

-- a tab, and the number after it
pub field : {last back : List ℕ} (n : ℕ) (held : List ℕ) (end : ℕ) → end ≡ length (numeral n) + 1 → end ≤ length held
    → last ≡ placed (numeral n) (mid_of 1 (end - 1) (set held 0 tab)) → back ≡ put_mid 1 (end - 1) (set held 0 tab) last
    → back ≡ placed (tab ∷ numeral n) held
field n held end long room put back =
    let all : end ≡ suc (length (numeral n)) = omega arith in
    lent-next (tab ∷ []) (numeral n) held 1 end refl (omega arith) room (first_byte tab held (omega arith)) put back
    ∙ ap (λ (k : ℕ). tab ∷ numeral n ++ drop k held) all
    ∙ sym (placed-fits (tab ∷ numeral n) held (omega arith))

-- the numbers of a line, each after its tab
unfoldable pub fields : List ℕ → List ℕ
fields [] = []
fields (n ∷ ns) = tab ∷ (numeral n ++ fields ns)

fields-ended : (ns : List ℕ) → fields ns ++ ended [] ≡ ended ns
unfolding fields ended
fields-ended [] = refl
fields-ended (n ∷ ns) = ap (λ (l : List ℕ). tab ∷ l) (append_assoc (numeral n) (fields ns) (line_feed ∷ []) ∙ ap (λ (l : List ℕ). numeral n ++ l) (fields-ended ns))

pub line-parts : (word ns : List ℕ) → (word ++ fields ns) ++ ended [] ≡ word ++ ended ns
line-parts word ns = append_assoc word (fields ns) (ended []) ∙ ap (λ (l : List ℕ). word ++ l) (fields-ended ns)

feed-length : length (ended []) ≡ 1
unfolding ended
feed-length = refl

pub line-length : (word ns : List ℕ) → length (word ++ ended ns) ≡ length word + length (fields ns) + 1
line-length word ns =
    sym (ap length (line-parts word ns)) ∙ length-append (word ++ fields ns) (ended []) ∙ omega (arith, feed-length, length-append word (fields ns))

-- the fields before place i, and the one at it
pub fields-none : (ns : List ℕ) → fields (take 0 ns) ≡ []
unfolding fields
fields-none [] = refl
fields-none (n ∷ ns) = refl

pub fields-all : (ns : List ℕ) (i : ℕ) → length ns ≤ i → fields (take i ns) ≡ fields ns
fields-all ns i h = ap fields (take_all i ns h)

pub fields-more : (ns : List ℕ) (i : ℕ) → i < length ns → fields (take (i + 1) ns) ≡ fields (take i ns) ++ (tab ∷ numeral (get_or ns i 0))
unfolding fields
fields-more [] i h = absurd (omega arith)
fields-more (n ∷ ns) zero h = ap (λ (l : List ℕ). tab ∷ (numeral n ++ l)) (fields-none ns) ∙ ap (λ (l : List ℕ). tab ∷ l) (append-nil (numeral n))
fields-more (n ∷ ns) (suc i) h =
    ap (λ (k : ℕ). fields (take k (n ∷ ns))) (add-one (suc i))
    ∙ ap (λ (l : List ℕ). tab ∷ (numeral n ++ l)) (ap (λ (k : ℕ). fields (take k ns)) (sym (add-one i)) ∙ fields-more ns i (omega arith))
    ∙ ap (λ (l : List ℕ). tab ∷ l) (sym (append_assoc (numeral n) (fields (take i ns)) (tab ∷ numeral (get_or ns i 0))))

pub fields-length : (ns : List ℕ) (i : ℕ) → i < length ns → length (fields (take (i + 1) ns)) ≡ length (fields (take i ns)) + (length (numeral (get_or ns i 0)) + 1)
fields-length ns i h =
    ap length (fields-more ns i h) ∙ length-append (fields (take i ns)) (tab ∷ numeral (get_or ns i 0)) ∙ omega arith

pub fields-within : (ns : List ℕ) (i : ℕ) → length (fields (take i ns)) ≤ length (fields ns)
unfolding fields
fields-within ns zero = omega (arith, ap length (fields-none ns))
fields-within [] (suc i) = omega arith
fields-within (n ∷ ns) (suc i) = omega (arith, fields-within ns i, length-append (numeral n) (fields (take i ns)), length-append (numeral n) (fields ns))

-- what the front of the buffer has, up to `end`: the word and the fields before place i
pub record Writing (word ns held₀ held : List ℕ) (i end : ℕ) : Type 0 where
  pub stands : held ≡ (word ++ fields (take i ns)) ++ drop end held₀
  pub long : end ≡ length word + length (fields (take i ns))

module _ (word ns held₀ : List ℕ) (room : length (word ++ ended ns) ≤ length held₀) where
  pub writing_start : {held part : List ℕ} → part ≡ placed word (mid_of 0 (length word - 0) held₀) → held ≡ put_mid 0 (length word - 0) held₀ part → Writing word ns held₀ held 0 (length word)
  writing_start {held} put back =
      let none = fields-none ns in
      record {
        stands = lent-next [] word held₀ 0 (length word) refl (omega arith) (omega (arith, line-length word ns)) refl put back
            ∙ ap (λ (l : List ℕ). l ++ drop (length word) held₀) (sym (append-nil word) ∙ ap (λ (l : List ℕ). word ++ l) (sym none));
        long = omega (arith, ap length none);
      }

  module _ {held : List ℕ} {i end : ℕ} (w : Writing word ns held₀ held i end) where
    pub writing-room : i < length ns → end + (length (numeral (get_or ns i 0)) + 1) + 1 ≤ length held₀
    writing-room h = omega (arith, w.long, line-length word ns, fields-length ns i h, fields-within ns (i + 1))

    pub writing-next : (h : i < length ns) {next : ℕ} {held' part : List ℕ} → next ≡ end + (length (numeral (get_or ns i 0)) + 1)
        → part ≡ placed (tab ∷ numeral (get_or ns i 0)) (mid_of end (next - end) held) → held' ≡ put_mid end (next - end) held part → Writing word ns held₀ held' (i + 1) next
    writing-next h {next} {held'} {part} e put back =
        let field = tab ∷ numeral (get_or ns i 0) in
        let more : length (word ++ fields (take i ns)) ≡ end = length-append word (fields (take i ns)) ∙ sym w.long in
        record {
          stands = lent-next (word ++ fields (take i ns)) field held₀ end next more (omega arith) (omega (arith, writing-room h)) w.stands put back
              ∙ ap (λ (l : List ℕ). l ++ drop next held₀) (append_assoc word (fields (take i ns)) field ∙ ap (λ (l : List ℕ). word ++ l) (sym (fields-more ns i h)));
          long = omega (arith, e, w.long, fields-length ns i h);
        }

    pub writing-last : length ns ≤ i → end + 1 ≤ length held₀
    writing-last h = omega (arith, w.long, line-length word ns, ap length (fields-all ns i h))

    pub writing-end : length ns ≤ i → {last part : List ℕ} → part ≡ placed (ended []) (mid_of end (end + 1 - end) held) → last ≡ put_mid end (end + 1 - end) held part
        → last ≡ placed (word ++ ended ns) held₀
    writing-end h {last} {part} put back =
        let all = fields-all ns i h in
        let more : length (word ++ fields (take i ns)) ≡ end = length-append word (fields (take i ns)) ∙ sym w.long in
        let whole : end + 1 ≡ length (word ++ ended ns) = omega (arith, w.long, ap length all, line-length word ns) in
        lent-next (word ++ fields (take i ns)) (ended []) held₀ end (end + 1) more (omega (arith, feed-length)) (writing-last h) w.stands put back
        ∙ (λ j. ((ap (λ (l : List ℕ). (word ++ l) ++ ended []) all ∙ line-parts word ns) j) ++ drop (whole j) held₀)
        ∙ sym (placed-fits (word ++ ended ns) held₀ room)
