-- The walks over a list's items that measure its sheet and write it, a line for each item. Assumes nothing.
use Rattle.std.specs.Prelude.{Ok, Err}
use mathlib.Core.Path.{◌≡◌, refl, sym, ap, subst, ◌∙◌}
use mathlib.Core.Bool.{true}
use mathlib.Core.List.{List, [], ◌∷◌, ◌++◌, append_assoc, append-nil}
use Prim.Native.Nat.{ℕ, ◌+◌, ◌-◌, ◌*◌, ◌^◌, ◌<◌, ◌≤◌}
use native.Mathlib.Omega.{arith}
use borrow.Author.Tests.{lt-ltb, le-ltb}
use borrow.Rule.Slice.PartMut.{mid_of, put_mid}
use lib.ListN.{length, take, drop, get_or, length-append, length-drop, drop_of_length-le}
use lib.Seq.{take_all, drop-drop}
use Rattle.refusal.specs.declared.Refusal.{Refusal}
use Rattle.refusal.specs.declared.Refusal.TheVariants.{NoRoom}
use Rattle.wire.specs.Lent.{placed, within}
use Rattle.wire.proofs.Lent.{placed-fits}
use Rattle.loss_list.specs.Run.{precedes}
use Rattle.loss_list.specs.Expand.{Item, Parsed, Sound, Faulty, items_of, keep, items, total, judgement}
use Rattle.loss_list.specs.Walk.{IsSound}
use Rattle.wire.specs.Storage.{Filling}
use Rattle.wire.proofs.Filling.{filling-start, filling-length, filling-done, filling-then, filling-pasted}
use Rattle.loss_list.proofs.Items.{keep-sound}
use Rattle.loss_list.proofs.Places.{none_from, two_from}
use Rattle.loss_list.proofs.Shapes.{Shape, number, range, overflagged, backward, shape}
use Rattle.loss_steps.specs.Items.{ran, HeadAt}
use Rattle.loss_steps.proofs.Heads.{sound-plain, sound_more, sound-range, run-item}
use Rattle.sheet_line.specs.Text.{text}
use Rattle.sheet_line.specs.declared.Line.{Line}
use Rattle.sheet_line.specs.declared.Line.TheVariants.{One, Run, End}
use Rattle.sheet.specs.Sheet.{Edition, first_line, item_line, item_lines, lines, texts, sheet_of, sheet, sized, Writes}
use Rattle.sheet.proofs.Listed.{item-run, accepted-items}
use Rattle.sheet.proofs.Top.{texts-append}
use Rattle.sheet_writing.specs.Walk.{lines_from, sheet_text}

-- the ends of a range of a list with no fault
range-ends : {p w e : ℕ} {ws : List ℕ} {ps : Parsed} → Shape p (w ∷ e ∷ ws) ps → 2 ^ 31 ≤ w → IsSound ps → (e < 2 ^ 31) × (precedes (w - 2 ^ 31) e ≡ true)
unfolding IsSound
range-ends (number l s) f sound = absurd (omega arith)
range-ends (range g l b s) f sound = (l, b)
range-ends (overflagged g h) f sound = absurd sound
range-ends (backward g l b) f sound = absurd sound

-- the lines of a list of which an item is taken off
keep-lines : (i : Item) (ps : Parsed) → IsSound (keep i ps) → item_lines (items_of (keep i ps)) ≡ item_line i.run.first i.run.steps ∷ item_lines (items_of ps)
unfolding keep IsSound items_of item_lines
keep-lines i (Sound is) s = refl
keep-lines i (Faulty r) s = absurd s

pub no_lines : (ws : List ℕ) (i : ℕ) → length ws ≤ i → lines_from ws i ≡ []
unfolding items items_of item_lines
no_lines ws i h = ap (λ (l : List ℕ). item_lines (items_of (items i l))) (none_from ws i h)

-- the lines from place i on are l and those from `next` on, and the items there have no fault
pub record LineOf (ws : List ℕ) (i : ℕ) (l : Line) (next : ℕ) : Type 0 where
  pub lines : lines_from ws i ≡ l ∷ lines_from ws next
  pub sound : IsSound (items next (drop next ws))

-- the line of an item, which its flag tells
module _ (ws : List ℕ) (i : ℕ) (h : i < length ws) (s : IsSound (items i (drop i ws))) where
  line-of : {first steps words : ℕ} {l : Line} → HeadAt ws i (ran first steps words) → l ≡ item_line first steps → LineOf ws i l (i + words)
  line-of {words = words} at e =
      let here = run-item ws i at refl in
      let kept = subst IsSound here s in
      record {
        lines = ap (λ (ps : Parsed). item_lines (items_of ps)) here ∙ keep-lines _ _ kept ∙ ap (λ (x : Line). x ∷ lines_from ws (i + words)) (sym e);
        sound = keep-sound _ _ kept;
      }

  abbrev word : ℕ
  word = get_or ws i 0

  abbrev next : ℕ
  next = get_or ws (i + 1) 0

  pub plain_line : word < 2 ^ 31 → LineOf ws i (One word) (i + 1)
  unfolding item_line
  plain_line l = line-of (sound-plain ws i h l) refl

  pub range_line : 2 ^ 31 ≤ word → word < 2 ^ 32 → LineOf ws i (Run (word - 2 ^ 31) next) (i + 2)
  range_line f l =
      let ends = range-ends (shape i (word ∷ next ∷ drop (i + 2) ws)) f (rw (two_from ws i (sound_more ws i h f s)) at s) in
      line-of (sound-range ws i h f s l) (sym (item-run (word - 2 ^ 31) next ends.0 ends.1))

-- a list that is accepted has no more items than it stands for numbers
lines-few : (is : List Item) → length (item_lines is) ≤ total is
unfolding item_lines total
lines-few [] = omega arith
lines-few (i ∷ is) = omega (arith, lines-few is)

module _ (E : Edition) (ws : List ℕ) {n : ℕ} (e : Ok n ≡ judgement E.most ws) where
  pub few : length (lines_from ws 0) ≤ E.most
  unfolding items_of
  few =
      let a = accepted-items E.most ws (sym e) in
      omega (arith, ap (λ (ps : Parsed). length (item_lines (items_of ps))) a.sound, lines-few a.list, a.fits)

-- the sheet's length so far: all but the lines that are left, of which none is long
pub record Measuring (E : Edition) (ws : List ℕ) (n bytes : ℕ) (left : List Line) : Type 0 where
  pub counted : bytes + length (texts left) ≡ length (sheet_text E ws n)
  pub small : bytes + 47 * length left ≤ 94 + 47 * length (lines_from ws 0)

module _ (E : Edition) (ws : List ℕ) (n : ℕ) where
  pub measuring-start : {first last : ℕ} → (first ≡ length (text (first_line E))) × (first ≤ 47) → (last ≡ length (text (End n))) × (last ≤ 47) → Measuring E ws n (first + last) (lines_from ws 0)
  measuring-start f l =
      record {
        counted = omega (arith, length-append (text (first_line E)) (texts (lines_from ws 0) ++ text (End n)), length-append (texts (lines_from ws 0)) (text (End n)));
        small = omega arith;
      }

  pub measuring-next : {bytes more : ℕ} {l : Line} {left : List Line} → Measuring E ws n bytes (l ∷ left) → (more ≡ length (text l)) × (more ≤ 47) → Measuring E ws n (bytes + more) left
  unfolding texts
  measuring-next {l = l} {left = left} m long =
      record {
        counted = omega (arith, m.counted, length-append (text l) (texts left));
        small = omega (arith, m.small);
      }

  pub measuring-end : {bytes : ℕ} → Measuring E ws n bytes [] → bytes ≡ length (sheet_text E ws n)
  unfolding texts
  measuring-end m = omega (arith, m.counted)

-- bytes put after those that stand already, to the part of a buffer from `out` on
filling-lent : {held₀ held held' last : List ℕ} {out : ℕ} (bs : List ℕ) {rest all : List ℕ} → Filling held₀ held out (bs ++ rest) all → length all ≤ length held₀
    → last ≡ placed bs (mid_of out (length held - out) held) → held' ≡ put_mid out (length held - out) held last → Filling held₀ held' (out + length bs) rest all
filling-lent {held₀} {held} {held'} {last} {out} bs {rest} {all} f room put back =
    let fits : out + length bs ≤ length held = omega (arith, filling-length f, length-append bs rest, f.long) in
    let mid : mid_of out (length held - out) held ≡ drop out held = take_all (length held - out) (drop out held) (omega (arith, length-drop out held)) in
    let after : drop (length held - out) (drop out held) ≡ [] = drop_of_length-le (drop out held) {i = length held - out} (omega (arith, length-drop out held)) in
    let here : last ≡ bs ++ drop (out + length bs) held =
    put
    ∙ ap (placed bs) mid
    ∙ placed-fits bs (drop out held) (omega (arith, length-drop out held))
    ∙ ap (λ (l : List ℕ). bs ++ l) (drop-drop (length bs) out held) in
    filling-pasted bs f room (back ∙ (λ i. take out held ++ (here i ++ after i)) ∙ ap (λ (l : List ℕ). take out held ++ l) (append-nil (bs ++ drop (out + length bs) held)))

-- the buffer so far, where it held held₁ after the first line: all but the lines that are left and the last
pub record Printing (E : Edition) (ws : List ℕ) (n : ℕ) (held₁ held : List ℕ) (out : ℕ) (left : List Line) : Type 0 where
  pub room : length (sheet_text E ws n) ≤ length held₁
  pub filling : Filling held₁ held out (texts left ++ text (End n)) (sheet_text E ws n)

module _ (E : Edition) (ws : List ℕ) (n : ℕ) where
  -- the first line
  pub printing-first : (held₀ : List ℕ) {held₁ : List ℕ} {out₁ : ℕ} → length (sheet_text E ws n) ≤ length held₀ → held₁ ≡ placed (text (first_line E)) held₀ → out₁ ≡ length (text (first_line E))
      → Filling held₀ held₁ out₁ (texts (lines_from ws 0) ++ text (End n)) (sheet_text E ws n)
  printing-first held₀ {held₁} room put long =
      let first = text (first_line E) in
      let fits : length first ≤ length held₀ = omega (arith, length-append first (texts (lines_from ws 0) ++ text (End n))) in
      let none : 0 + length first ≡ length first = omega arith in
      subst (λ (k : ℕ). Filling held₀ held₁ k (texts (lines_from ws 0) ++ text (End n)) (sheet_text E ws n)) (none ∙ sym long)
      (filling-pasted first (filling-start held₀ (sheet_text E ws n)) room (put ∙ placed-fits first held₀ fits ∙ ap (λ (k : ℕ). first ++ drop k held₀) (sym none)))

  pub printing-start : {held₀ held₁ : List ℕ} {out₁ : ℕ} → length (sheet_text E ws n) ≤ length held₀ → Filling held₀ held₁ out₁ (texts (lines_from ws 0) ++ text (End n)) (sheet_text E ws n)
      → Printing E ws n held₁ held₁ out₁ (lines_from ws 0)
  printing-start room f =
      record {
        room = omega (arith, f.long);
        filling = record { fits = f.fits; whole = f.whole; kept = refl; long = refl };
      }

  module _ {held₁ held : List ℕ} {out : ℕ} where
    -- an item's line
    module _ {l : Line} {left : List Line} (p : Printing E ws n held₁ held out (l ∷ left)) where
      filling_line : Filling held₁ held out (text l ++ (texts left ++ text (End n))) (sheet_text E ws n)
      unfolding texts
      filling_line = subst (λ (t : List ℕ). Filling held₁ held out t (sheet_text E ws n)) (append_assoc (text l) (texts left) (text (End n))) p.filling

      pub printing-next : {held' last : List ℕ} {more : ℕ} → more ≡ length (text l)
          → last ≡ placed (text l) (mid_of out (length held - out) held) → held' ≡ put_mid out (length held - out) held last → Printing E ws n held₁ held' (out + more) left
      printing-next {held'} long put back =
          record {
            room = p.room;
            filling = subst (λ (k : ℕ). Filling held₁ held' (out + k) (texts left ++ text (End n)) (sheet_text E ws n)) (sym long) (filling-lent (text l) filling_line p.room put back);
          }

    -- the last line
    pub printing-last : {held₀ held' last : List ℕ} {out₁ : ℕ} → Printing E ws n held₁ held out [] → Filling held₀ held₁ out₁ (texts (lines_from ws 0) ++ text (End n)) (sheet_text E ws n)
        → last ≡ placed (text (End n)) (mid_of out (length held - out) held) → held' ≡ put_mid out (length held - out) held last → held' ≡ sheet_text E ws n ++ drop (length (sheet_text E ws n)) held₀
    unfolding texts
    printing-last {held₀} {held'} {last} {out₁} p f put back =
        let part = texts (lines_from ws 0) ++ text (End n) in
        let only = subst (λ (t : List ℕ). Filling held₁ held out t (sheet_text E ws n)) (sym (append-nil (text (End n)))) p.filling in
        filling-done (filling-then part
        (subst (λ (t : List ℕ). Filling held₀ held₁ out₁ t (sheet_text E ws n)) (sym (append-nil part)) f)
        (subst (Filling held₁ held' (out + length (text (End n))) []) (sym f.whole) (filling-lent (text (End n)) only p.room put back)))

-- what is measured and written for an accepted list is its sheet
lines-text : (E : Edition) (is : List Item) → sheet_of E (Sound is) ≡ text (first_line E) ++ (texts (item_lines is) ++ text (End (total is)))
unfolding sheet_of lines texts
lines-text E is =
    ap (λ (t : List ℕ). text (first_line E) ++ t)
    (texts-append (item_lines is) (End (total is) ∷ []) ∙ ap (λ (t : List ℕ). texts (item_lines is) ++ t) (append-nil (text (End (total is)))))

module _ (E : Edition) (ws : List ℕ) where
  pub sheet-text : {n : ℕ} → judgement E.most ws ≡ Ok n → sheet_text E ws n ≡ sheet E ws
  unfolding sheet items_of
  sheet-text e =
      let a = accepted-items E.most ws e in
      (λ i. text (first_line E) ++ (texts (item_lines (items_of (a.sound i))) ++ text (End (a.counting i)))) ∙ sym (ap (sheet_of E) a.sound ∙ lines-text E a.list)

  pub writes-refused : (held : List ℕ) {r : Refusal} → judgement E.most ws ≡ Err r → Writes E ws held (Err r) held
  unfolding within sized
  writes-refused held e = record { answer = rw e; contents = refl }

  module _ (held : List ℕ) {n bytes : ℕ} (e : judgement E.most ws ≡ Ok n) (long : bytes ≡ length (sheet_text E ws n)) where
    sheet-long : length (sheet E ws) ≡ bytes
    sheet-long = ap length (sym (sheet-text e)) ∙ sym long

    pub writes-no-room : length held < bytes → Writes E ws held (Err (NoRoom bytes)) held
    unfolding within sized
    writes-no-room h = record { answer = rw (e, sheet-long, lt-ltb (length held) bytes h); contents = refl }

    pub writes-done : {held' : List ℕ} → bytes ≤ length held → held' ≡ sheet_text E ws n ++ drop (length (sheet_text E ws n)) held → Writes E ws held (Ok bytes) held'
    unfolding within sized
    writes-done h l =
        record {
          answer = rw (e, sheet-long, le-ltb (length held) bytes h);
          contents = l ∙ (λ i. sheet-text e i ++ drop (sym long i) held);
        }
