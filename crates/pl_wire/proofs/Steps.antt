-- Steps that may fail: what is known if none did.
use Rattle.std.proofs.Common.{◌≡◌, Bool, true, false, cond, Option, Some, None, Result, Ok, Err, refl}
use Rattle.std.specs.Option.{ok_or}
use Rattle.pl_block.specs.Faults.{◌>>=◌}
use Rattle.pl_wire.specs.declared.fault.WireFault.{WireFault}

abbrev pub done : {X : Type 0} → X → Result X WireFault
done x = Ok x

pub ok_is : {X : Type 0} (x y : X) → done x ≡ done y → x ≡ y
ok_is x y e = cc

-- a test that did not fail
pub guard_ok : {X : Type 0} (b : Bool) (d : WireFault) (r : Result X WireFault) (y : X) → cond b (Err d) r ≡ Ok y → (b ≡ false) × (r ≡ Ok y)
guard_ok true d r y e = absurd cc
guard_ok false d r y e = (refl, e)

-- a test that was passed
pub guard_passed : {X : Type 0} (b : Bool) (d : WireFault) (x y : X) → cond b (Ok x) (Err d) ≡ Ok y → (b ≡ true) × (x ≡ y)
guard_passed true d x y e = (refl, ok_is x y e)
guard_passed false d x y e = absurd cc

pub ok_or-some : {X : Type 0} (o : Option X) (d : WireFault) (x : X) → ok_or o d ≡ Ok x → o ≡ Some x
ok_or-some None d x e = absurd cc
ok_or-some (Some y) d x e = cc

-- a step that gave a value, and a next one that gave y of it
pub record IsBound {X Y : Type 0} (r : Result X WireFault) (f : X → Result Y WireFault) (y : Y) : Type 0 where
  pub value : X
  pub first : r ≡ Ok value
  pub next : f value ≡ Ok y

-- two steps of which neither failed
pub bind_ok : {X Y : Type 0} (r : Result X WireFault) (f : X → Result Y WireFault) (y : Y) → (r >>= f) ≡ Ok y → IsBound r f y
bind_ok (Ok x) f y e = record { value = x; first = refl; next = e }
bind_ok (Err d) f y e = absurd cc

-- the same, for what follows from it
pub bound : {X Y R : Type 0} (r : Result X WireFault) (f : X → Result Y WireFault) (y : Y) → (r >>= f) ≡ Ok y → ((x : X) → r ≡ Ok x → f x ≡ Ok y → R) → R
bound (Ok x) f y e g = g x refl e
bound (Err d) f y e g = absurd cc
