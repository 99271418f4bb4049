-- Reading and making, with the first fault that is met, and calls that give the same unless memory runs out.
use Rattle.std.specs.Prelude.{◌≡◌, List, Result, Ok, Err, ℕ}
use Rattle.pl_block.specs.declared.fault.Failed.{Failed}
use Rattle.pl_block.specs.declared.fault.Failed.TheVariants.{Malformed, NoMemory}

-- the next step, unless there was a fault
infixl 10 ◌>>=◌
abbrev pub ◌>>=◌ : {A B F : Type 0} → Result A F → (A → Result B F) → Result B F
(Ok x) >>= f = f x
(Err e) >>= f = Err e

-- a call failed with the fault that is met, or out of memory
abbrev pub Fails : {Y F : Type 0} → Failed F → Result Y F → Type 0
Fails NoMemory read = Unit {0}
Fails (Malformed f) read = read ≡ Err f

-- a call gave what is read, seen by view, or failed with its fault or out of memory
abbrev pub Gives : {X Y F : Type 0} → (X → Y) → Result X (Failed F) → Result Y F → Type 0
Gives view (Ok x) read = read ≡ Ok (view x)
Gives view (Err e) read = Fails e read

-- a call gave what is read, or failed with its fault or out of memory
abbrev pub Returns : {X F : Type 0} → Result X (Failed F) → Result X F → Type 0
Returns result read = Gives (λ x. x) result read

-- a reader gave what is read, and left what follows it, or failed with its fault or out of memory
abbrev pub Takes : {X Y F : Type 0} → (X → Y) → Result X (Failed F) → List ℕ → Result (Y × List ℕ) F → Type 0
Takes view result rest read = Gives (λ x. (view x, rest)) result read

-- a reader that needs no memory gave what is read, and left what follows it
abbrev pub Reads : {X F : Type 0} → Result X F → List ℕ → Result (X × List ℕ) F → Type 0
Reads result rest read = read ≡ (result >>= λ x. Ok (x, rest))
