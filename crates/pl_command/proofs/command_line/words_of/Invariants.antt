use Rattle.std.specs.Prelude.{◌≡◌, map, take, string_bytes}
use Rattle.pl_command.proofs.command_line.words_of.Given as goal

abbrev pub invariant-loop-word : goal.invariant-loop-word
invariant-loop-word l = map string_bytes l.words.items ≡ map (λ w. w.now) (take l.word-index l.given)
