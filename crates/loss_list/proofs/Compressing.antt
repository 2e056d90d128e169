-- The walk that writes a list's words: what is written, with the words of the runs that are left, is the compressed list.
-- Assumes nothing.
use mathlib.Core.Path.{◌≡◌, ap, subst}
use mathlib.Core.List.{List, ◌++◌}
use Prim.Native.Nat.{ℕ, suc, ◌+◌, ◌-◌, ◌*◌, ◌≤◌}
use native.Mathlib.Nat.{mul-zero}
use native.Mathlib.Omega.{arith}
use lib.ListN.{length, drop, get_or}
use Rattle.loss_list.specs.Compress.{runs, range_flag, coded, coded_runs, compressed}
use Rattle.loss_list.specs.Walk.{RunAt}
use Rattle.loss_list.proofs.Places.{none_from}
use Rattle.wire.specs.Storage.{Filling}
use Rattle.wire.proofs.Filling.{filling-start, filling-done}
use Rattle.loss_list.proofs.RunWords.{lone_room as room-lone, lone-put, first-room as room-first, run_room as room-run, run-put}
use Rattle.wire.specs.Storage.{Storage, flat}

-- the words of the run at i come next
coded-at : (xs : List ℕ) (i j : ℕ) → RunAt xs i j → coded_runs (runs (drop i xs)) ≡ coded (get_or xs i 0) (j - suc i) ++ coded_runs (runs (drop j xs))
unfolding coded_runs
coded-at xs i j r = ap coded_runs r.run

pub record Compressing {A : Type 0} (S : Storage A) (xs : List ℕ) (held₀ held : List A) (i out : ℕ) : Type 0 where
  pub within : i ≤ length xs
  pub filling : Filling held₀ held (S.size * out) (flat S (coded_runs (runs (drop i xs)))) (flat S (compressed xs))

module _ {A : Type 0} (S : Storage A) where
  pub compressing-start : (xs : List ℕ) (held : List A) → Compressing S xs held held 0 0
  unfolding compressed
  compressing-start xs held = record { within = omega arith; filling = rw (mul-zero S.size) (filling-start held (flat S (compressed xs))) }

  module _ (xs : List ℕ) (held₀ held : List A) (i out j : ℕ) (k : Compressing S xs held₀ held i out) (r : RunAt xs i j) (room : length (flat S (compressed xs)) ≤ length held₀) where
    rest : List ℕ
    rest = coded_runs (runs (drop j xs))

    next : Filling held₀ held (S.size * out) (flat S (coded (get_or xs i 0) (j - suc i) ++ rest)) (flat S (compressed xs))
    unfolding rest
    next = subst (λ (l : List ℕ). Filling held₀ held (S.size * out) (flat S l) (flat S (compressed xs))) (coded-at xs i j r) k.filling

    module _ (e : j ≡ i + 1) where
      none : j - suc i ≡ 0
      none = omega arith

      pub lone_room : S.size * (out + 1) ≤ length held
      lone_room = room-lone S held₀ _ room held out _ _ rest next none

      pub compressing-lone : Compressing S xs held₀ (S.store held out (get_or xs i 0)) j (out + 1)
      unfolding rest
      compressing-lone = record { within = r.within; filling = lone-put S held₀ _ room held out _ _ rest next none }

    module _ (n : j ≡ i + 1 → ⊥) where
      some : j - suc i ≡ 0 → ⊥
      some e = n (omega (arith, r.begins))

      pub first_room : S.size * (out + 1) ≤ length held
      first_room = room-first S held₀ _ room held out _ _ rest next some

      pub run_room : S.size * (out + 2) ≤ length held
      run_room = room-run S held₀ _ room held out _ _ rest next some

      pub compressing-run : Compressing S xs held₀ (S.store (S.store held out (get_or xs i 0 + range_flag (j - 1 - i))) (out + 1) (get_or xs (j - 1) 0)) j (out + 2)
      unfolding rest
      compressing-run =
          let steps : j - 1 - i ≡ j - suc i = omega arith in
          record { within = r.within; filling = rw (steps, r.last) (run-put S held₀ _ room held out _ _ rest next some) }

  pub compressing-end : (xs : List ℕ) (held₀ held : List A) (i out : ℕ) → Compressing S xs held₀ held i out → length xs ≤ i → held ≡ flat S (compressed xs) ++ drop (length (flat S (compressed xs))) held₀
  unfolding runs coded_runs flat
  compressing-end xs held₀ held i out k l =
      filling-done (subst (λ (r : List ℕ). Filling held₀ held (S.size * out) (flat S (coded_runs (runs r))) (flat S (compressed xs))) (none_from xs i l) k.filling)
