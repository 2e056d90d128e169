-- The words of a run, put after those that stand already: one store for a lone number, two for a longer run. Assumes nothing.
use mathlib.Core.Path.{◌≡◌, refl, ap, subst, ◌∙◌}
use mathlib.Core.List.{List, [], ◌∷◌, ◌++◌, append_assoc, append-nil}
use Prim.Native.Nat.{ℕ, suc, zero, ◌+◌, ◌*◌, ◌≤◌}
use native.Mathlib.Omega.{arith}
use lib.ListN.{length}
use Rattle.ring.specs.Ring.{after}
use Rattle.loss_list.specs.Compress.{range_flag, coded}
use Rattle.wire.specs.Storage.{Filling}
use Rattle.wire.specs.Storage.{Storage, flat}
use Rattle.wire.proofs.Storage.{flat_append, room_for}

longer : (first steps : ℕ) → (steps ≡ 0 → ⊥) → coded first steps ≡ (first + range_flag steps) ∷ after 31 first steps ∷ []
unfolding coded
longer first zero n = absurd (n refl)
longer first (suc k) n = refl

module _ {A : Type 0} (S : Storage A) (held₀ all : List A) (room : length all ≤ length held₀) (held : List A) (out first steps : ℕ) (rest : List ℕ)
    (f : Filling held₀ held (S.size * out) (flat S (coded first steps ++ rest)) all) where
  next : (ws : List ℕ) → coded first steps ≡ ws → Filling held₀ held (S.size * out) (flat S ws ++ flat S rest) all
  next ws e = subst (λ (l : List A). Filling held₀ held (S.size * out) l all) (ap (λ (l : List ℕ). flat S (l ++ rest)) e ∙ flat_append S ws rest) f

  module _ (e : steps ≡ 0) where
    lone-next : Filling held₀ held (S.size * out) (S.code first ++ flat S rest) all
    unfolding flat coded
    lone-next = rw append-nil at (next (first ∷ []) (ap (coded first) e))

    pub lone_room : S.size * (out + 1) ≤ length held
    lone_room = room_for S held₀ held out _ _ _ lone-next room

    pub lone-put : Filling held₀ (S.store held out first) (S.size * (out + 1)) (flat S rest) all
    lone-put = S.put held₀ held out _ _ _ lone-next room

  module _ (n : steps ≡ 0 → ⊥) where
    abbrev opening : ℕ
    opening = first + range_flag steps

    run-next : Filling held₀ held (S.size * out) (S.code opening ++ (S.code (after 31 first steps) ++ flat S rest)) all
    unfolding flat
    run-next = simp (append_assoc, append-nil) at (next _ (longer first steps n))

    pub first-room : S.size * (out + 1) ≤ length held
    first-room = room_for S held₀ held out _ _ _ run-next room

    first-put : Filling held₀ (S.store held out opening) (S.size * (out + 1)) (S.code (after 31 first steps) ++ flat S rest) all
    first-put = S.put held₀ held out _ _ _ run-next room

    pub run_room : S.size * (out + 2) ≤ length held
    run_room =
        let two : out + 1 + 1 ≡ out + 2 = omega arith in
        let fits = rw two at (room_for S held₀ _ (out + 1) _ _ _ first-put room) in
        omega (arith, fits, first-put.long, f.long)

    pub run-put : Filling held₀ (S.store (S.store held out opening) (out + 1) (after 31 first steps)) (S.size * (out + 2)) (flat S rest) all
    run-put =
        let two : out + 1 + 1 ≡ out + 2 = omega arith in
        rw (← two) (S.put held₀ _ (out + 1) _ _ _ first-put room)
