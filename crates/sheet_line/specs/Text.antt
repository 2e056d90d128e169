-- The lines of a gap sheet as text: RULES 10.1 to 10.3. Assumes nothing.
use Rattle.std.specs.Prelude.{ℕ, ◌≡◌, List, [], ◌∷◌, ◌++◌}
use Rattle.decimal.specs.Decimal.{numeral}
use Rattle.sheet_line.specs.declared.Line.{Line}
use Rattle.sheet_line.specs.declared.Line.TheVariants.{Gaps, One, Run, End}

abbrev pub tab : ℕ
tab = 9

abbrev pub line_feed : ℕ
line_feed = 10

-- bytes with no line feed among them
abbrev pub Unbroken : List ℕ → Type 0
Unbroken [] = Unit {0}
Unbroken (b ∷ bs) = (b ≡ line_feed → ⊥) × Unbroken bs

-- the words that lines begin with, in ASCII
abbrev pub gaps : List ℕ
gaps = 103 ∷ 97 ∷ 112 ∷ 115 ∷ []

abbrev pub one : List ℕ
one = 111 ∷ 110 ∷ 101 ∷ []

abbrev pub run : List ℕ
run = 114 ∷ 117 ∷ 110 ∷ []

abbrev pub end : List ℕ
end = 101 ∷ 110 ∷ 100 ∷ []

-- RULES 10.1: the numbers of a line, each after one tab, and the line feed that ends it
unfoldable pub ended : List ℕ → List ℕ
ended [] = line_feed ∷ []
ended (n ∷ ns) = tab ∷ (numeral n ++ ended ns)

-- RULES 10.3: the four lines
unfoldable pub text : Line → List ℕ
text (Gaps edition limit) = gaps ++ ended (edition ∷ limit ∷ [])
text (One number) = one ++ ended (number ∷ [])
text (Run first last) = run ++ ended (first ∷ last ∷ [])
text (End total) = end ++ ended (total ∷ [])
