use Rattle.std.proofs.Common.{◌≡◌, ◌∙◌, ◌≤◌, ◌<◌, ℕ, List, [], ◌++◌, Option, Some, None, Result, Ok, Err, length, take, sym, ap, subst, arith}
use Rattle.std.specs.Prelude.{IfOk, IfSome, IsOk, OnOk, option_map}
use Rattle.std.proofs.lemmas.List.{length-take, take_all}
use Rattle.pl_play.specs.Start.{IsTooLongText, IsWhole}
use Rattle.pl_play.proofs.start.read_text.Goals as goal

-- a text that is shorter than what is read at most is the whole
whole_text : (o : Option (List ℕ)) (n : ℕ) (front text : List ℕ) → front ≡ [] → n ≡ 65507 → length text ≤ 65506
    → IfSome (option_map (take n) o) (λ xs. text ≡ front ++ xs) → IsWhole o text
whole_text None n front text empty limit fits same = tt
whole_text (Some bytes) n front text empty limit fits same =
    let cut : text ≡ take n bytes = subst (λ (f : List ℕ). text ≡ f ++ take n bytes) empty same in
    let small : length (take n bytes) ≤ 65506 = subst (λ (t : List ℕ). length t ≤ 65506) cut fits in
    cut ∙ take_all n bytes (omega (arith, small, length-take n bytes, limit))

-- a text that is longer than a text may be has a longer whole
long_text : (o : Option (List ℕ)) (n : ℕ) (front text : List ℕ) → front ≡ [] → 65506 < length text
    → IfSome (option_map (take n) o) (λ xs. text ≡ front ++ xs) → IsTooLongText o
long_text None n front text empty over same = tt
long_text (Some bytes) n front text empty over same =
    let cut : text ≡ take n bytes = subst (λ (f : List ℕ). text ≡ f ++ take n bytes) empty same in
    omega (arith, over, ap length cut, length-take n bytes)

-- what holds of what was read holds if the read gave something
where_read : {E : Type 0} (read : Result ℕ E) (B : Type 0) → IsOk read → OnOk read B → B
where_read (Ok n) B is bytes = bytes
where_read (Err e) B is bytes = cc

-- the text that is taken, of a read that gave it
where_taken : {V E F : Type 0} (r : Result V F) (read : Result ℕ E) (text : V) (Fits B : Type 0) (W : V → Type 0) → IfOk r (λ t. (t ≡ text) × Fits)
    → OnOk r (IsOk read) → OnOk read B → (B → Fits → W text) → IfOk r W
where_taken (Err f) read text Fits B W taken is bytes whole = tt
where_taken (Ok t) read text Fits B W taken is bytes whole = subst W (sym taken.0) (whole (where_read read B is bytes) taken.1)

pub returns-clause-ok : goal.returns-clause-ok
returns-clause-ok g c = where_taken c.text_of.result c.read_to_end-read.result _ _ _ _ c.text_of.ensures.ok c.text_of.ensures.read c.read_to_end-read.ensures.bytes
    (λ bytes fits. subst (λ r. IsWhole (g.R.Read.remaining r) c.read_to_end-read.new.buf.items) c.take.ensures.inner
    (whole_text _ c.take.result.limit _ c.read_to_end-read.new.buf.items c.new-text.ensures.items c.take.ensures.limit fits bytes))

pub returns-clause-fits : goal.returns-clause-fits
returns-clause-fits g c = where_taken c.text_of.result c.read_to_end-read.result _ _ _ _ c.text_of.ensures.ok c.text_of.ensures.read c.read_to_end-read.ensures.bytes
    (λ bytes fits. fits)

pub returns-clause-long : goal.returns-clause-long
returns-clause-long g c long =
    let over = c.text_of.ensures.long long in
    let bytes = where_read c.read_to_end-read.result _ over.0 c.read_to_end-read.ensures.bytes in
    subst (λ r. IsTooLongText (g.R.Read.remaining r)) c.take.ensures.inner
    (long_text _ c.take.result.limit _ c.read_to_end-read.new.buf.items c.new-text.ensures.items over.1 bytes)
