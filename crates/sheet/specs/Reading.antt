-- Reading a gap sheet: RULES 10.7 to 10.10, in the terms of what is written. Assumes nothing.
use Rattle.std.specs.Prelude.{ℕ, suc, ◌^◌, ◌<◌, ◌≤◌, ◌≡◌, cond, List, [], ◌∷◌, ◌++◌, ◌⊎◌, ltb, length, drop, get_or, Result, Ok, Err}
use Rattle.refusal.specs.declared.Refusal.{Refusal}
use Rattle.refusal.specs.declared.Refusal.TheVariants.{NoRoom, BadSheet, SheetEdition}
use Rattle.loss_list.specs.Expand.{judgement}
use Rattle.sheet_line.specs.Text.{line_feed, Unbroken, text}
use Rattle.sheet_line.specs.declared.Line.TheVariants.{Gaps}
use Rattle.sheet.specs.Sheet.{Edition, sheet}

-- every word is below 2^32, as those of a slice of words are
abbrev pub Words : List ℕ → Type 0
Words ws = (i : ℕ) → get_or ws i 0 < 2 ^ 32

-- RULES 10.5: s is what is written for ws, an accepted list
pub record SheetOf (E : Edition) (ws s : List ℕ) : Type 0 where
  pub words : Words ws
  pub numbers : ℕ
  pub accepted : judgement E.most ws ≡ Ok numbers
  pub written : s ≡ sheet E ws

-- E is one of the editions
abbrev pub Among : List Edition → Edition → Type 0
Among [] E = ⊥
Among (F ∷ Es) E = (E ≡ F) ⊎ Among Es E

-- RULES 10.7: s is what is written for ws in one of the editions
pub record SheetIn (Es : List Edition) (ws s : List ℕ) : Type 0 where
  pub edition : Edition
  pub among : Among Es edition
  pub sheet : SheetOf edition ws s

-- s begins with a first line of the edition that has a number, whatever its limit is and whatever follows
pub record Opens (number : ℕ) (s : List ℕ) : Type 0 where
  pub limit : ℕ
  pub rest : List ℕ
  pub first : s ≡ text (Gaps number limit) ++ rest

-- RULES 10.8: .. and it is none of the editions
pub record OtherEdition (Es : List Edition) (s : List ℕ) (number : ℕ) : Type 0 where
  pub opens : Opens number s
  pub other : (E : Edition) → Among Es E → number ≡ E.number → ⊥

-- RULES 10.8: an edition that is past 32 bits is shown as 0
abbrev pub shown : ℕ → ℕ
shown n = cond (ltb n (2 ^ 32)) n 0

-- k whole lines, with their line feeds
pub data WholeLines : ℕ → List ℕ → Type 0 where
  none : WholeLines 0 []
  more : (l : List ℕ) {k : ℕ} {t : List ℕ} → Unbroken l → WholeLines k t → WholeLines (suc k) (l ++ line_feed ∷ t)

-- RULES 10.9: s begins with k whole lines with which some accepted sheet begins
pub record Begins (Es : List Edition) (s : List ℕ) (k : ℕ) : Type 0 where
  pub top : List ℕ
  pub whole : WholeLines k top
  pub rest : List ℕ
  pub here : s ≡ top ++ rest
  pub list : List ℕ
  pub other : List ℕ
  pub there : SheetIn Es list (top ++ other)

-- RULES 10.9: .. and with no more lines than these
pub record MostLines (Es : List Edition) (s : List ℕ) (k : ℕ) : Type 0 where
  pub begins : Begins Es s k
  pub most : (j : ℕ) → Begins Es s j → j ≤ k

-- RULES 10.8 and 10.9: why a sheet is refused, whatever the room; 27 comes first
pub data Refuses (Es : List Edition) (s : List ℕ) : Refusal → Type 0 where
  edition : {number : ℕ} → OtherEdition Es s number → Refuses Es s (SheetEdition (shown number))
  bad : {k : ℕ} → ((number : ℕ) → OtherEdition Es s number → ⊥) → ((ws : List ℕ) → SheetIn Es ws s → ⊥) → MostLines Es s k → Refuses Es s (BadSheet k)

-- RULES 10.7 and 10.10: reading s into a buffer that holds `held` answers this, and leaves that in it; 21 comes last
pub data Reads (Es : List Edition) (s held : List ℕ) : Result ℕ Refusal → List ℕ → Type 0 where
  list : (ws : List ℕ) → SheetIn Es ws s → length ws ≤ length held → Reads Es s held (Ok (length ws)) (ws ++ drop (length ws) held)
  no_room : (ws : List ℕ) → SheetIn Es ws s → length held < length ws → Reads Es s held (Err (NoRoom (length ws))) held
  refused : {r : Refusal} → Refuses Es s r → Reads Es s held (Err r) held
