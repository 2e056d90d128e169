-- Between a list and its lines: the items of an accepted list are lines of their own, and lines of items give an accepted list back.
-- Assumes nothing.
use Rattle.std.specs.Prelude.{Ok, Err}
use mathlib.Core.Path.{◌≡◌, refl, sym, ap, ◌∙◌}
use mathlib.Core.Bool.{Bool, true, false, cond}
use mathlib.Core.List.{List, [], ◌∷◌, ◌++◌}
use mathlib.Core.Option.{Option, none, some}
use Prim.Native.Nat.{ℕ, zero, suc, ◌+◌, ◌-◌, ◌^◌, ◌<◌, ◌≤◌}
use native.Mathlib.Omega.{arith}
use borrow.Author.Tests.{le-ltb}
use lib.Dec.{ltb}
use lib.ListN.{length}
use Rattle.ring.specs.Ring.{after, distance}
use Rattle.ring.proofs.Theorems.{distance-leads}
use Rattle.refusal.specs.declared.Refusal.TheVariants.{TooLong}
use Rattle.loss_list.specs.Run.{precedes}
use Rattle.loss_list.specs.Expand.{Item, Parsed, Sound, Faulty, keep, lone, ranged, items, total, past_limit, counted, formed, judgement}
use Rattle.loss_list.proofs.Items.{plain, sound-range}
use Rattle.loss_list.proofs.Limits.{total-within, within-limit}
use Rattle.loss_list.proofs.Shapes.{Shape, nothing, number, range, unclosed, overflagged, backward, shape}
use Rattle.loss_list.proofs.Precedes.{precedes-steps}
use Rattle.sheet_line.specs.declared.Line.{Line}
use Rattle.sheet_line.specs.declared.Line.TheVariants.{Gaps, One, Run, End}
use Rattle.sheet.specs.Sheet.{Edition, first_line, item_line, item_lines, lines, texts, sheet_of, sheet}
use Rattle.sheet.specs.Reading.{Words, SheetOf}
use Rattle.sheet.specs.Lines.{AllItems, codes, counts}

-- the line of a range is its two ends
pub item-run : (a b : ℕ) → b < 2 ^ 31 → precedes a b ≡ true → item_line a (distance 31 b a) ≡ Run a b
unfolding item_line
item-run a b h p = go (distance 31 b a) refl
  where
    go : (d : ℕ) → distance 31 b a ≡ d → item_line a d ≡ Run a b
    go zero e = absurd (omega (arith, ((precedes-steps a b).0 p).0))
    go (suc n) e =
        let leads : after 31 a (distance 31 b a) ≡ b = omega (arith, distance-leads 31 b a) in
        ap (Run a) (ap (after 31 a) (sym e) ∙ leads)

-- lines of items, from a place on, give a list whose items have those lines
pub record Given (p : ℕ) (ls : List Line) : Type 0 where
  pub given : List Item
  pub sound : items p (codes ls) ≡ Sound given
  pub lined : item_lines given ≡ ls
  pub counting : total given ≡ counts ls

given-one : (p n : ℕ) (ls : List Line) → n < 2 ^ 31 → Given (p + 1) ls → Given p (One n ∷ ls)
unfolding codes counts item_lines item_line total keep
given-one p n ls h rest =
    record {
      given = lone p n ∷ rest.given;
      sound = plain p n (codes ls) h ∙ ap (keep (lone p n)) rest.sound;
      lined = ap (λ (l : List Line). One n ∷ l) rest.lined;
      counting = omega (arith, rest.counting);
    }

given-run : (p a b : ℕ) (ls : List Line) → b < 2 ^ 31 → precedes a b ≡ true → Given (p + 2) ls → Given p (Run a b ∷ ls)
unfolding codes counts item_lines total keep
given-run p a b ls h less rest =
    let same : a + 2 ^ 31 - 2 ^ 31 ≡ a = omega arith in
    record {
      given = ranged p a b ∷ rest.given;
      sound = sound-range p (a + 2 ^ 31) b (codes ls) (omega arith) h (rw same less) ∙ rw (same, rest.sound);
      lined = λ i. item-run a b h less i ∷ rest.lined i;
      counting = omega (arith, rest.counting);
    }

pub list_of : (p : ℕ) (ls : List Line) → AllItems ls → Given p ls
unfolding codes counts item_lines total items
list_of p [] h = record { given = []; sound = refl; lined = refl; counting = refl }
list_of p (One n ∷ ls) h = given-one p n ls h.0 (list_of (p + 1) ls h.1)
list_of p (Run a b ∷ ls) h = given-run p a b ls h.0.1.0 h.0.1.1 (list_of (p + 2) ls h.1)
list_of p (Gaps e l ∷ ls) h = absurd h.0
list_of p (End t ∷ ls) h = absurd h.0

-- and the items of a list have lines that give the list back
pub record Lines (ws : List ℕ) (is : List Item) : Type 0 where
  pub all : AllItems (item_lines is)
  pub back : codes (item_lines is) ≡ ws
  pub counting : counts (item_lines is) ≡ total is

kept : (i : Item) (ps : Parsed) (is : List Item) → keep i ps ≡ Sound is → (js : List Item) × ((ps ≡ Sound js) × (is ≡ i ∷ js))
unfolding keep
kept i (Sound js) is e = (js, (refl, cc))
kept i (Faulty r) is e = absurd (let z : ◌≡◌ {A = ℕ} 0 1 = cc in omega arith)

lines-one : (p w : ℕ) (ws : List ℕ) (js : List Item) → w < 2 ^ 31 → Lines ws js → Lines (w ∷ ws) (lone p w ∷ js)
unfolding codes counts item_lines item_line total
lines-one p w ws js h rest =
    record { all = (h, rest.all); back = ap (λ (l : List ℕ). w ∷ l) rest.back; counting = omega (arith, rest.counting) }

lines-run : (p w e : ℕ) (ws : List ℕ) (js : List Item) → 2 ^ 31 ≤ w → w < 2 ^ 32 → e < 2 ^ 31 → precedes (w - 2 ^ 31) e ≡ true → Lines ws js → Lines (w ∷ e ∷ ws) (ranged p (w - 2 ^ 31) e ∷ js)
unfolding codes counts item_lines total
lines-run p w e ws js f l h less rest =
    let line : item_line (w - 2 ^ 31) (distance 31 e (w - 2 ^ 31)) ≡ Run (w - 2 ^ 31) e = item-run (w - 2 ^ 31) e h less in
    let same : w - 2 ^ 31 + 2 ^ 31 ≡ w = omega arith in
    record {
      all = rw line ((omega arith, (h, less)), rest.all);
      back = rw (line, same, rest.back);
      counting = rw line (omega (arith, rest.counting));
    }

pub lines_of : {p : ℕ} {ws : List ℕ} {ps : Parsed} → Shape p ws ps → Words ws → (is : List Item) → ps ≡ Sound is → Lines ws is
unfolding codes counts item_lines total
lines_of nothing small [] e = record { all = tt; back = refl; counting = refl }
lines_of nothing small (i ∷ is) e = absurd (let z : ◌≡◌ {A = ℕ} 0 1 = cc in omega arith)
lines_of (number {p} {w} {ws} {ps} l s) small is e =
    let k = kept (lone p w) ps is e in
    rw k.1.1 (lines-one p w ws k.0 l (lines_of s (λ i. small (suc i)) k.0 k.1.0))
lines_of (range {p} {w} {e = last} {ws} {ps} f l b s) small is e =
    let k = kept (ranged p (w - 2 ^ 31) last) ps is e in
    rw k.1.1 (lines-run p w last ws k.0 f (small 0) l b (lines_of s (λ i. small (suc (suc i))) k.0 k.1.0))
lines_of (unclosed f) small is e = absurd (let z : ◌≡◌ {A = ℕ} 0 1 = cc in omega arith)
lines_of (overflagged f g) small is e = absurd (let z : ◌≡◌ {A = ℕ} 0 1 = cc in omega arith)
lines_of (backward f g b) small is e = absurd (let z : ◌≡◌ {A = ℕ} 0 1 = cc in omega arith)

-- a line stands for as many numbers as it has words, or more
pub codes-short : (ls : List Line) → AllItems ls → length (codes ls) ≤ counts ls
unfolding codes counts
codes-short [] h = omega arith
codes-short (One n ∷ ls) h = omega (arith, codes-short ls h.1)
codes-short (Run a b ∷ ls) h = omega (arith, codes-short ls h.1, ((precedes-steps a b).0 h.0.1.1).0)
codes-short (Gaps e l ∷ ls) h = absurd h.0
codes-short (End t ∷ ls) h = absurd h.0

pub codes-words : (ls : List Line) → AllItems ls → Words (codes ls)
unfolding codes
codes-words [] h i = omega arith
codes-words (One n ∷ ls) h zero = omega (arith, h.0)
codes-words (One n ∷ ls) h (suc i) = codes-words ls h.1 i
codes-words (Run a b ∷ ls) h zero = omega (arith, h.0.0)
codes-words (Run a b ∷ ls) h (suc zero) = omega (arith, h.0.1.0)
codes-words (Run a b ∷ ls) h (suc (suc i)) = codes-words ls h.1 i
codes-words (Gaps e l ∷ ls) h i = absurd h.0
codes-words (End t ∷ ls) h i = absurd h.0

-- a list is accepted exactly where it has no fault of form, and no more words and numbers than the limit
pub record Accepted (most : ℕ) (ws : List ℕ) (n : ℕ) : Type 0 where
  pub list : List Item
  pub sound : items 0 ws ≡ Sound list
  pub fits : total list ≤ most
  pub counting : n ≡ total list

module _ (most : ℕ) (ws : List ℕ) where
  counted-fits : (is : List Item) (n : ℕ) → items 0 ws ≡ Sound is → counted (past_limit most 0 is) (total is) ≡ Ok n → Accepted most ws n
  unfolding counted
  counted-fits is n s e = go (past_limit most 0 is) refl e
    where
      go : (o : Option ℕ) → past_limit most 0 is ≡ o → counted o (total is) ≡ Ok n → Accepted most ws n
      go (some q) l q' = absurd (let z : ◌≡◌ {A = ℕ} 0 1 = cc in omega arith)
      go none l q' = record { list = is; sound = s; fits = omega (arith, total-within most 0 is (omega arith) l); counting = cc }

  formed-fits : (ps : Parsed) (n : ℕ) → items 0 ws ≡ ps → formed most ps ≡ Ok n → Accepted most ws n
  unfolding formed
  formed-fits (Sound is) n s e = counted-fits is n s e
  formed-fits (Faulty r) n s e = absurd (let z : ◌≡◌ {A = ℕ} 0 1 = cc in omega arith)

  pub accepted-items : {n : ℕ} → judgement most ws ≡ Ok n → Accepted most ws n
  unfolding judgement
  accepted-items {n} e = go (ltb most (length ws)) refl e
    where
      go : (b : Bool) → ltb most (length ws) ≡ b → cond b (Err (TooLong most)) (formed most (items 0 ws)) ≡ Ok n → Accepted most ws n
      go true l q = absurd (let z : ◌≡◌ {A = ℕ} 0 1 = cc in omega arith)
      go false l q = formed-fits (items 0 ws) n refl q

  pub items-accepted : (is : List Item) → items 0 ws ≡ Sound is → length ws ≤ most → total is ≤ most → judgement most ws ≡ Ok (total is)
  unfolding judgement formed counted
  items-accepted is s h t = rw (le-ltb most (length ws) h, s, within-limit most 0 is (omega arith))

-- the lines of a sheet whose items have the lines ls
abbrev pub all : Edition → List Line → List Line
all E ls = first_line E ∷ (ls ++ End (counts ls) ∷ [])

-- s is a sheet whose items have the lines ls
pub record Lined (E : Edition) (s : List ℕ) (ls : List Line) : Type 0 where
  pub all-items : AllItems ls
  pub fits : counts ls ≤ E.most
  pub written : s ≡ texts (all E ls)

pub lined-sheet : (E : Edition) {s : List ℕ} (ls : List Line) → Lined E s ls → SheetOf E (codes ls) s
unfolding sheet sheet_of lines
lined-sheet E {s} ls h =
    let g = list_of 0 ls h.all-items in
    record {
      words = codes-words ls h.all-items;
      numbers = total g.given;
      accepted = items-accepted E.most (codes ls) g.given g.sound (omega (arith, codes-short ls h.all-items, h.fits)) (omega (arith, g.counting, h.fits));
      written = h.written ∙ sym (rw (g.sound, g.lined, g.counting));
    }

pub sheet-lined : (E : Edition) (ws : List ℕ) {s : List ℕ} → SheetOf E ws s → (ls : List Line) × (Lined E s ls × (codes ls ≡ ws))
unfolding sheet sheet_of lines
sheet-lined E ws {s} h =
    let a = accepted-items E.most ws h.accepted in
    let l = lines_of (shape 0 ws) h.words a.list a.sound in (
      item_lines a.list,
      (
        record {
          all-items = l.all;
          fits = omega (arith, l.counting, a.fits);
          written = h.written ∙ rw (a.sound, l.counting);
        },
        l.back,
      ),
    )
