-- A link that was written is the link that is read.
use Rattle.std.proofs.Common.{◌≡◌, ℕ, ◌<◌, ◌≤◌, ◌^◌, List, [], ◌∷◌, length, get_or, set, ap, ◌∙◌, arith, w32}
use Rattle.std.specs.Int.{from_le_bytes, to_le_bytes}
use Rattle.std.proofs.lemmas.Nat.{from_le_bytes-to_le_bytes_4}
use Rattle.pl_arena.specs.Free.{link}

abbrev written : List ℕ → List ℕ → List ℕ
written frame bytes = set (set (set (set frame 0 (get_or bytes 0 0)) 1 (get_or bytes 1 0)) 2 (get_or bytes 2 0)) 3 (get_or bytes 3 0)

pub linked : (frame bytes : List ℕ) (n : ℕ) → 4 ≤ length frame → n < 2 ^ 32 → bytes ≡ to_le_bytes w32 n → link (written frame bytes) ≡ n
unfolding link
linked [] bytes n long fits e = absurd (omega (arith, long))
linked (x ∷ []) bytes n long fits e = absurd (omega (arith, long))
linked (x ∷ y ∷ []) bytes n long fits e = absurd (omega (arith, long))
linked (x ∷ y ∷ z ∷ []) bytes n long fits e = absurd (omega (arith, long))
linked (x ∷ y ∷ z ∷ u ∷ rest) bytes n long fits e =
    ap (λ (l : List ℕ). from_le_bytes w32 (get_or l 0 0 ∷ get_or l 1 0 ∷ get_or l 2 0 ∷ get_or l 3 0 ∷ [])) e ∙ from_le_bytes-to_le_bytes_4 n fits
