-- A frame whose length was read stops where its body does.
use Rattle.std.proofs.Common.{ℕ, ◌≤◌, List, [], ◌++◌, inr, refl, rules, append-nil, subst}
use Rattle.std.specs.Int.{w32, to_be_bytes}
use Rattle.std.specs.declared.option.Option.{Option}
use Rattle.std.specs.Io.KnownBytes.{Consumes}
use Rattle.std.proofs.KnownBytes.{Consumes-trans}
use Rattle.pl_wire.specs.declared.frame_reading.FrameFault.{FrameFault}
use Rattle.pl_wire.specs.declared.frame_reading.FrameFault.TheVariants as faults
use Rattle.pl_wire.specs.FrameReading.{CutsBody, StopsFrame}

pub stops_in_body : (limit len : ℕ) (a b c : Option (List ℕ)) (fault : FrameFault) → len ≤ limit
    → Consumes a b (to_be_bytes w32 len) → CutsBody len b c fault → StopsFrame limit a c fault
stops_in_body limit len a b c faults.Short within head (part, few, read, end) =
    (to_be_bytes w32 len ++ part, search rules, inr (len, part, within, few, refl), Consumes-trans a b c _ part head read, end)
stops_in_body limit len a b c faults.TooLong within head cut = absurd cut
stops_in_body limit len a b c faults.Io within head (part, few, read) =
    (to_be_bytes w32 len ++ part, inr (len, part, within, few, refl), Consumes-trans a b c _ part head read)
stops_in_body limit len a b c faults.NoMemory within head (some, none) =
    (len, some, within, subst (Consumes a c) (append-nil (to_be_bytes w32 len)) (Consumes-trans a b c _ [] head none))
