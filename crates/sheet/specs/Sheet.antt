-- Gap sheets, a loss list as text: RULES 10.4 to 10.6. Assumes nothing.
use Rattle.refusal.specs.declared.Refusal.{Refusal}
use Rattle.std.specs.Prelude.{ℕ, zero, suc, List, [], ◌∷◌, ◌++◌, length, Result, Ok, Err}
use Rattle.ring.specs.Ring.{after}
use Rattle.wire.specs.Lent.{within, Wrote}
use Rattle.loss_list.specs.Run.{limit}
use Rattle.loss_list.specs.Expand.{Item, Parsed, Sound, Faulty, items, total, judgement}
use Rattle.sheet_line.specs.Text.{text}
use Rattle.sheet_line.specs.declared.Line.{Line}
use Rattle.sheet_line.specs.declared.Line.TheVariants.{Gaps, One, Run, End}

-- RULES 10.4: an edition of the sheets: its number, and the most numbers that a list may stand for
pub record Edition : Type 0 where
  pub number : ℕ
  pub most : ℕ

-- the first edition, and the one that is written
unfoldable pub first_edition : Edition
first_edition = record { number = 1; most = 8192 }

unfoldable pub edition : Edition
edition = record { number = 2; most = limit }

-- the editions that are read
abbrev pub editions : List Edition
editions = first_edition ∷ edition ∷ []

-- RULES 10.5: the line of an item, a first number and how many ring steps follow it
unfoldable pub item_line : ℕ → ℕ → Line
item_line first zero = One first
item_line first (suc n) = Run first (after 31 first (suc n))

unfoldable pub item_lines : List Item → List Line
item_lines [] = []
item_lines (i ∷ is) = item_line i.run.first i.run.steps ∷ item_lines is

-- RULES 10.4: a sheet's first line
abbrev pub first_line : Edition → Line
first_line E = Gaps E.number E.most

-- RULES 10.5: the first line, a line for each item, and the last
unfoldable pub lines : Edition → List Item → List Line
lines E is = first_line E ∷ (item_lines is ++ End (total is) ∷ [])

unfoldable pub texts : List Line → List ℕ
texts [] = []
texts (l ∷ ls) = text l ++ texts ls

unfoldable pub sheet_of : Edition → Parsed → List ℕ
sheet_of E (Sound is) = texts (lines E is)
sheet_of E (Faulty r) = []

-- the sheet of a list of words
unfoldable pub sheet : Edition → List ℕ → List ℕ
sheet E ws = sheet_of E (items 0 ws)

-- RULES 10.6: the list's own refusal, or the bytes of its sheet
unfoldable pub sized : Result ℕ Refusal → ℕ → Result ℕ Refusal
sized (Ok n) bytes = Ok bytes
sized (Err r) bytes = Err r

-- RULES 10.6: 21 comes last
abbrev pub writing : Edition → List ℕ → ℕ → Result ℕ Refusal
writing E ws room = within room (sized (judgement E.most ws) (length (sheet E ws)))

-- writing the sheet of ws into a buffer that holds `held` answers r and leaves `left` in it
abbrev pub Writes : Edition → List ℕ → List ℕ → Result ℕ Refusal → List ℕ → Type 0
Writes E ws held r left = Wrote (writing E ws (length held)) (sheet E ws) held r left
