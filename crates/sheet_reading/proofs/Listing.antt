-- The walk that writes a sheet's list: what is written, with the words of the lines that are left, is the list. Assumes nothing.
use Rattle.std.specs.Prelude.{Option, None, Result, Ok, Err}
use mathlib.Core.Path.{◌≡◌, refl, sym, ap, subst, ◌∙◌}
use mathlib.Core.List.{List, [], ◌∷◌, ◌++◌, append_assoc}
use Prim.Native.Nat.{ℕ, ◌+◌, ◌^◌, ◌<◌, ◌≤◌}
use native.Mathlib.Omega.{arith}
use native.Mathlib.Numerals.{add-one}
use lib.ListN.{length, take, drop, set, length-append, take-append-drop}
use lib.Seq.{set_split, sets-eq}
use Rattle.refusal.specs.declared.Refusal.{Refusal}
use Rattle.refusal.specs.declared.Refusal.TheVariants.{NoRoom}
use Rattle.decimal.specs.Decimal.{capped}
use Rattle.decimal.proofs.Decimals.{capped-below}
use Rattle.wire.specs.Storage.{Filling}
use Rattle.wire.proofs.Filling.{filling-start, filling-length, filling-done, filling-pasted}
use Rattle.line_reading.specs.Reading.{told, LineAt}
use Rattle.sheet_line.specs.declared.Line.{Line}
use Rattle.sheet_line.specs.declared.Line.TheVariants.{Gaps, One, Run, End}
use Rattle.line_reading.specs.declared.Found.{Found}
use Rattle.sheet_line.proofs.Lines.{text-once}
use Rattle.sheet_line.proofs.Bodies.{text-some}
use Rattle.sheet.specs.Sheet.{Edition, texts}
use Rattle.sheet.specs.Reading.{Among, SheetIn, Refuses, Reads, list as read-list, no_room, refused as unread}
use Rattle.sheet.specs.Lines.{IsItem, AllItems, code_of, codes, counts}
use Rattle.sheet.proofs.Listed.{all, Lined, lined-sheet, sheet-lined}
use Rattle.sheet.proofs.Theorems.{sheet-once}
use Rattle.sheet_reading.specs.Walk.{Judged, list, refused, Storable, Stored, Fits, Listing}
use Rattle.sheet_reading.proofs.Judging.{Standing, none-standing}

-- the words of each kind of line, stored
module _ {l : Line} (out : ℕ) (held : List ℕ) where
  pub stored_one : (n : ℕ) → l ≡ One n → out < length held → Stored l out held (out + 1) (set held out n)
  stored_one n e h =
      rw e (record { next-is = refl; leaves = set_split held out n h ∙ ap (λ (k : ℕ). take out held ++ n ∷ drop k held) (sym (add-one out)) })

  pub stored-run : (a b : ℕ) → l ≡ Run a b → out + 1 < length held → Stored l out held (out + 2) (set (set held out (a + 2 ^ 31)) (out + 1) b)
  stored-run a b e h =
      rw e (record {
        next-is = refl;
        leaves = ap (λ (k : ℕ). set (set held out (a + 2 ^ 31)) k b) (add-one out) ∙ sets-eq ((a + 2 ^ 31) ∷ b ∷ []) held out (omega arith) ∙ append_assoc (take out held) ((a + 2 ^ 31) ∷ b ∷ []) (drop (out + 2) held);
      })

  pub stored-none : code_of l ≡ [] → Stored l out held out held
  stored-none e =
      let none : length (code_of l) ≡ 0 = ap length e in
      let same : out + length (code_of l) ≡ out = omega arith in
      record {
        next-is = sym same;
        leaves = sym ((λ i. take out held ++ (e i ++ drop (same i) held)) ∙ take-append-drop out held);
      }

-- a line of a sheet, whose numbers are below 2^31 where it is an item's
abbrev Listable : Line → Type 0
Listable (Gaps e l) = Unit {0}
Listable (One n) = n < 2 ^ 31
Listable (Run a b) = (a < 2 ^ 31) × (b < 2 ^ 31)
Listable (End t) = Unit {0}

abbrev AllListable : List Line → Type 0
AllListable [] = Unit {0}
AllListable (l ∷ ls) = Listable l × AllListable ls

item-listable : (l : Line) → IsItem l → Listable l
item-listable (Gaps e l) h = tt
item-listable (One n) h = h
item-listable (Run a b) h = (h.0, h.1.0)
item-listable (End t) h = tt

listable : (ls : List Line) (t : ℕ) → AllItems ls → AllListable (ls ++ End t ∷ [])
listable [] t a = (tt, tt)
listable (l ∷ ls) t a = (item-listable l a.0, listable ls t a.1)

-- such a line is told with the words that it has
told-code : (l : Line) → Listable l → code_of (told l) ≡ code_of l
unfolding told
told-code (Gaps e l) h = refl
told-code (One n) h = ap (λ (k : ℕ). k ∷ []) (capped-below n (omega arith))
told-code (Run a b) h = λ i. (capped-below a (omega arith) i + 2 ^ 31) ∷ capped-below b (omega arith) i ∷ []
told-code (End t) h = refl

-- .. and with numbers that can be stored
told-storable : (l : Line) {out : ℕ} {held : List ℕ} → Listable l → out + length (code_of l) ≤ length held → Storable (told l) out held
unfolding told
told-storable (Gaps e l) h r =
    record { room = r; low = λ n q. absurd (let z : ◌≡◌ {A = ℕ} 0 1 = cc in omega arith); ends = λ a b q. absurd (let z : ◌≡◌ {A = ℕ} 0 1 = cc in omega arith) }
told-storable (One n) h r =
    record { room = r; low = λ m q. let same : capped n ≡ m = cc in omega (arith, same, capped-below n (omega arith)); ends = λ a b q. absurd (let z : ◌≡◌ {A = ℕ} 0 1 = cc in omega arith) }
told-storable (Run x y) h r =
    record {
      room = r;
      low = λ n q. absurd (let z : ◌≡◌ {A = ℕ} 0 1 = cc in omega arith);
      ends = λ a b q.
          let first : capped x ≡ a = cc in
          let last : capped y ≡ b = cc in
          (omega (arith, first, capped-below x (omega arith)), omega (arith, last, capped-below y (omega arith)));
    }
told-storable (End t) h r =
    record { room = r; low = λ n q. absurd (let z : ◌≡◌ {A = ℕ} 0 1 = cc in omega arith); ends = λ a b q. absurd (let z : ◌≡◌ {A = ℕ} 0 1 = cc in omega arith) }

codes-end : (ls : List Line) (t : ℕ) → codes (ls ++ End t ∷ []) ≡ codes ls
unfolding codes
codes-end [] t = refl
codes-end (l ∷ ls) t = ap (λ (c : List ℕ). code_of l ++ c) (codes-end ls t)

-- where the walk stands: at a place, with so many words written
pub record Writing (Es : List Edition) (s held₀ held : List ℕ) (at out : ℕ) : Type 0 where
  pub edition : Edition
  pub among : Among Es edition
  pub items : List Line
  pub lined : Lined edition s items
  pub room : length (codes (all edition items)) ≤ length held₀
  pub rest : List Line
  pub sound : AllListable rest
  pub here : drop at s ≡ texts rest
  pub filling : Filling held₀ held out (codes rest) (codes (all edition items))

module _ (Es : List Edition) (s held₀ : List ℕ) where
  pub writing_start : Fits Es s (length held₀) → Writing Es s held₀ held₀ 0 0
  unfolding codes
  writing_start f =
      let E = f.sheet.edition in
      let l = sheet-lined E f.ws f.sheet.sheet in
      record {
        edition = E;
        among = f.sheet.among;
        items = l.0;
        lined = l.1.0;
        room = omega (arith, ap length (codes-end l.0 (counts l.0)), ap length l.1.1, f.fits);
        rest = all E l.0;
        sound = (tt, listable l.0 (counts l.0) l.1.0.all-items);
        here = l.1.0.written;
        filling = filling-start held₀ (codes (all E l.0));
      }

  module _ {held : List ℕ} {at out : ℕ} (w : Writing Es s held₀ held at out) where
    -- the line that stands there is the next
    pub record Turn (l : Line) (next : ℕ) : Type 0 where
      pub line : Line
      pub later : List Line
      pub split : w.rest ≡ line ∷ later
      pub tells : l ≡ told line
      pub after : drop next s ≡ texts later

    turn : {l : Line} {next : ℕ} → Standing s at l next → Turn l next
    unfolding texts
    turn {l} {next} h = go w.rest refl
      where
        go : (ls : List Line) → w.rest ≡ ls → Turn l next
        go [] e = absurd (text-some h.whole (drop next s) (sym h.here ∙ w.here ∙ ap texts e))
        go (m ∷ ls) e =
            let once = text-once h.whole m (sym h.here ∙ w.here ∙ ap texts e) in
            record { line = m; later = ls; split = e; tells = h.tells ∙ ap told once.0; after = once.1 }

    module _ {l : Line} {next : ℕ} (h : Standing s at l next) where
      known : Turn l next
      known = turn h

      known-listable : Listable known.line × AllListable known.later
      known-listable = subst AllListable known.split w.sound

      known-filling : Filling held₀ held out (code_of known.line ++ codes known.later) (codes (all w.edition w.items))
      unfolding codes
      known-filling = subst (λ (ls : List Line). Filling held₀ held out (codes ls) (codes (all w.edition w.items))) known.split w.filling

      pub writing-storable : Storable l out held
      writing-storable =
          rw known.tells (told-storable known.line known-listable.0 (omega (arith, filling-length known-filling, length-append (code_of known.line) (codes known.later), w.room, known-filling.long)))

      pub writing-next : {out' : ℕ} {left : List ℕ} → Stored l out held out' left → Writing Es s held₀ left next out'
      writing-next {out'} {left} st =
          let code : code_of l ≡ code_of known.line = ap code_of known.tells ∙ told-code known.line known-listable.0 in
          let place : out' ≡ out + length (code_of known.line) = st.next-is ∙ ap (λ (c : List ℕ). out + length c) code in
          record {
            edition = w.edition;
            among = w.among;
            items = w.items;
            lined = w.lined;
            room = w.room;
            rest = known.later;
            sound = known-listable.1;
            here = known.after;
            filling = rw place (filling-pasted (code_of known.line) known-filling w.room (st.leaves ∙ ap (λ (c : List ℕ). take out held ++ (c ++ drop (out + length c) held)) code));
          }

    -- where none stands, the list is written
    pub writing-end : {r : Option Found} → LineAt s at r → r ≡ None → Listing Es s held₀ held
    unfolding texts codes
    writing-end a e ws sheet = go w.rest refl
      where
        list : codes (all w.edition w.items) ≡ ws
        list = codes-end w.items (counts w.items) ∙ sheet-once Es (codes w.items) ws (record { edition = w.edition; among = w.among; sheet = lined-sheet w.edition w.items w.lined }) sheet

        go : (ls : List Line) → w.rest ≡ ls → held ≡ ws ++ drop (length ws) held₀
        go [] q = filling-done (subst (λ (ms : List Line). Filling held₀ held out (codes ms) (codes (all w.edition w.items))) q w.filling) ∙ ap (λ (l : List ℕ). l ++ drop (length l) held₀) list
        go (m ∷ ls) q = absurd (none-standing s at a e m (texts ls) (w.here ∙ ap texts q))

-- the answer, from what the sheet was judged to be
module _ (Es : List Edition) (s held : List ℕ) {r : Result ℕ Refusal} (j : Judged Es s r) where
  judged-list : {n : ℕ} → r ≡ Ok n → (ws : List ℕ) × (SheetIn Es ws s × (length ws ≡ n))
  judged-list {n} e = go j e
    where
      go : {r : Result ℕ Refusal} → Judged Es s r → r ≡ Ok n → (ws : List ℕ) × (SheetIn Es ws s × (length ws ≡ n))
      go (list ws h) e = (ws, (h, let same : length ws ≡ n = cc in same))
      go (refused h) e = absurd (let z : ◌≡◌ {A = ℕ} 0 1 = cc in omega arith)

  judged-refused : {x : Refusal} → r ≡ Err x → Refuses Es s x
  judged-refused {x} e = go j e
    where
      go : {r : Result ℕ Refusal} → Judged Es s r → r ≡ Err x → Refuses Es s x
      go (list ws h) e = absurd (let z : ◌≡◌ {A = ℕ} 0 1 = cc in omega arith)
      go (refused {r = y} h) e = subst (Refuses Es s) (let same : y ≡ x = cc in same) h

  pub reads-refused : {x : Refusal} → r ≡ Err x → Reads Es s held (Err x) held
  reads-refused e = unread (judged-refused e)

  module _ {n : ℕ} (e : r ≡ Ok n) where
    pub reads-no-room : length held < n → Reads Es s held (Err (NoRoom n)) held
    reads-no-room h =
        let l = judged-list e in
        subst (λ (k : ℕ). Reads Es s held (Err (NoRoom k)) held) l.1.1 (no_room l.0 l.1.0 (omega (arith, l.1.1)))

    pub reads-fits : n ≤ length held → Fits Es s (length held)
    reads-fits h =
        let l = judged-list e in
        record { ws = l.0; sheet = l.1.0; fits = omega (arith, l.1.1) }

    pub reads-list : {left : List ℕ} → n ≤ length held → Listing Es s held left → Reads Es s held (Ok n) left
    reads-list {left} h w =
        let l = judged-list e in
        subst (λ (k : ℕ). Reads Es s held (Ok k) left) l.1.1 (subst (Reads Es s held (Ok (length l.0))) (sym (w l.0 l.1.0)) (read-list l.0 l.1.0 (omega (arith, l.1.1))))
