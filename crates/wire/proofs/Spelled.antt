-- The first bytes of a list, spelled out: a definition on them then computes.
-- Assumes nothing.
use Prim.Native.Nat.{ℕ, zero, suc, ◌+◌, ◌≤◌}
use mathlib.Core.Path.{◌≡◌, refl, sym, ap, ◌∙◌}
use mathlib.Core.List.{List, [], ◌∷◌, ◌++◌}
use native.Mathlib.Omega.{arith}
use lib.ListN.{length, get_or, take, drop, take-append-drop}
use lib.Seq.{drop-cons}

-- n bytes from i
abbrev pub spelled : ℕ → ℕ → List ℕ → List ℕ
spelled i zero s = []
spelled i (suc n) s = get_or s i 0 ∷ spelled (suc i) n s

pub spelled-eq : (n i : ℕ) (s : List ℕ) → i + n ≤ length s → take n (drop i s) ≡ spelled i n s
spelled-eq zero i s h = refl
spelled-eq (suc n) i s h =
    ap (take (suc n)) (drop-cons s i 0 (omega arith)) ∙ ap (λ (l : List ℕ). get_or s i 0 ∷ l) (spelled-eq n (suc i) s (omega arith))

-- a list that has n bytes is those and the rest
pub split : (n : ℕ) (s : List ℕ) → n ≤ length s → s ≡ spelled 0 n s ++ drop n s
split n s h = sym (take-append-drop n s) ∙ ap (λ (l : List ℕ). l ++ drop n s) (spelled-eq n 0 s (omega arith))
