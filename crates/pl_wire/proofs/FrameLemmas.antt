-- A frame ends where its length says, so none is the beginning of another.
use Rattle.std.proofs.Common.{◌≡◌, ℕ, pred, List, [], ◌∷◌, ◌++◌, length, take, drop, refl, sym, ap, ◌∙◌, append_assoc, arith}
use Rattle.std.specs.Int.{w32, from_be_bytes, to_be_bytes}
use Rattle.std.proofs.lemmas.List.{take_at, drop_at}
use Rattle.std.proofs.lemmas.Nat.{from_be_bytes-to_be_bytes_4}
use Rattle.std.proofs.lemmas.List.Concat.{flat_map-cons}
use Rattle.std.proofs.lemmas.List.Elements.{All-head, All-tail}
use Rattle.pl_wire.specs.Frames.{IsShort, frame, frames_of}
use Rattle.pl_wire.specs.Laws.{FramesEndThemselves, FramesOfOneInput}

pub frames_end : FramesEndThemselves
frames_end a b x y few_a few_b e =
    let told : to_be_bytes w32 (length a) ≡ to_be_bytes w32 (length b) = ap (λ (t : List ℕ). take 4 t) e in
    let same : length a ≡ length b = sym (from_be_bytes-to_be_bytes_4 (length a) few_a) ∙ ap (from_be_bytes w32) told ∙ from_be_bytes-to_be_bytes_4 (length b) few_b in
    let later : a ++ x ≡ b ++ y = ap (λ (t : List ℕ). drop 4 t) e in (
      sym (take_at a x (length a) refl) ∙ ap (λ (t : List ℕ). take (length a) t) later ∙ take_at b y (length a) (sym same),
      sym (drop_at a x (length a) refl) ∙ ap (λ (t : List ℕ). drop (length a) t) later ∙ drop_at b y (length a) (sym same),
    )

-- the first frame, and the others
after_first : (a : List ℕ) (more : List (List ℕ)) (x : List ℕ) → frames_of (a ∷ more) ++ x ≡ frame a ++ (frames_of more ++ x)
after_first a more x = ap (λ l. l ++ x) (flat_map-cons frame a more) ∙ append_assoc (frame a) (frames_of more) x

pub frames_apart : FramesOfOneInput
frames_apart [] [] x y few_a few_b same e = (refl, e)
frames_apart [] (b ∷ after_b) x y few_a few_b same e = absurd (omega (arith, same))
frames_apart (a ∷ after_a) [] x y few_a few_b same e = absurd (omega (arith, same))
frames_apart (a ∷ after_a) (b ∷ after_b) x y few_a few_b same e =
    let told = sym (after_first a after_a x) ∙ e ∙ after_first b after_b y in
    let first = frames_end a b (frames_of after_a ++ x) (frames_of after_b ++ y) (All-head IsShort a after_a few_a) (All-head IsShort b after_b few_b) told in
    let others = frames_apart after_a after_b x y (All-tail IsShort a after_a few_a) (All-tail IsShort b after_b few_b) (ap pred same) first.1 in
    (ap (λ (l : List ℕ). l ∷ after_a) first.0 ∙ ap (λ (ls : List (List ℕ)). b ∷ ls) others.0, others.1)
