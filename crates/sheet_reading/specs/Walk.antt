-- What the private functions of this crate promise, in the terms of Sheet and Reading. Assumes nothing.
use Rattle.std.specs.Prelude.{ℕ, ◌+◌, ◌^◌, ◌<◌, ◌≤◌, ◌≡◌, List, ◌++◌, length, take, drop, Option, Some, None, IfSome, Result, Ok, Err}
use Rattle.refusal.specs.declared.Refusal.{Refusal}
use Rattle.sheet_line.specs.Text.{text}
use Rattle.sheet_line.specs.declared.Line.{Line}
use Rattle.sheet_line.specs.declared.Line.TheVariants.{One, Run, End}
use Rattle.sheet.specs.Sheet.{Edition, first_line}
use Rattle.sheet.specs.Reading.{Among, SheetIn, Refuses}
use Rattle.sheet.specs.Lines.{IsItem, count_of, code_of}
use Rattle.line_reading.specs.Reading.{LineAt}
use Rattle.line_reading.specs.declared.Found.{Found}
use Rattle.sheet_reading.specs.declared.Lines.{Lines}
use Rattle.sheet_reading.specs.declared.Says.{Says}
use Rattle.sheet_reading.specs.declared.Says.TheVariants.{Item, End as Total}

-- a call gave the line at the place, or that there is none, and goes on where that line ends
abbrev pub GivesLine : Lines → Option Found → Lines → Type 0
GivesLine s r t = (t.sheet.now ≡ s.sheet.now) × LineAt s.sheet.now s.at r × IfSome r (λ f. t.at ≡ f.next)

-- what a line after the first says
pub data LineSays : Line → Option Says → Type 0 where
  item : {l : Line} → IsItem l → LineSays l (Some (Item (count_of l) (length (code_of l))))
  total : {t : ℕ} → LineSays (End t) (Some (Total t))
  neither : {l : Line} → (IsItem l → ⊥) → ((t : ℕ) → l ≡ End t → ⊥) → LineSays l None

-- the limit of the edition that has a number, or that none has it
pub data LimitOf (Es : List Edition) (number : ℕ) : Option ℕ → Type 0 where
  most : (E : Edition) → Among Es E → number ≡ E.number → LimitOf Es number (Some E.most)
  unknown : ((E : Edition) → Among Es E → number ≡ E.number → ⊥) → LimitOf Es number None

-- the verdict on a sheet, whatever the room
pub data Judged (Es : List Edition) (s : List ℕ) : Result ℕ Refusal → Type 0 where
  list : (ws : List ℕ) → SheetIn Es ws s → Judged Es s (Ok (length ws))
  refused : {r : Refusal} → Refuses Es s r → Judged Es s (Err r)

-- the first line of a sheet ends at a place, and is that of an edition with so many numbers at most
pub record Opened (Es : List Edition) (s : List ℕ) (from most : ℕ) : Type 0 where
  pub edition : Edition
  pub among : Among Es edition
  pub limit : most ≡ edition.most
  pub reached : from ≤ length s
  pub first : s ≡ text (first_line edition) ++ drop from s

-- the words of a line can be stored from a place on
pub record Storable (l : Line) (out : ℕ) (held : List ℕ) : Type 0 where
  pub room : out + length (code_of l) ≤ length held
  pub low : (n : ℕ) → l ≡ One n → n < 2 ^ 31
  pub ends : (a b : ℕ) → l ≡ Run a b → (a < 2 ^ 31) × (b < 2 ^ 31)

-- .. and are
pub record Stored (l : Line) (out : ℕ) (held : List ℕ) (next : ℕ) (left : List ℕ) : Type 0 where
  pub next-is : next ≡ out + length (code_of l)
  pub leaves : left ≡ take out held ++ (code_of l ++ drop (out + length (code_of l)) held)

-- an accepted sheet whose list has room
pub record Fits (Es : List Edition) (s : List ℕ) (room : ℕ) : Type 0 where
  pub ws : List ℕ
  pub sheet : SheetIn Es ws s
  pub fits : length ws ≤ room

-- what is left of a buffer, once that list is written to it
abbrev pub Listing : List Edition → List ℕ → List ℕ → List ℕ → Type 0
Listing Es s held left = (ws : List ℕ) → SheetIn Es ws s → left ≡ ws ++ drop (length ws) held
