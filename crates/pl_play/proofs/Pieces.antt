-- What one look at a reader adds to a line, and what the looks at it add up to.
use Rattle.std.proofs.Common.{◌≡◌, ◌≢◌, ℕ, ◌+◌, ◌<◌, ◌≤◌, List, [], ◌∷◌, ◌++◌, None, Some, IfSome, length, take, drop, slice_get, sym, ap, subst, ◌∙◌, arith, append_assoc, append-nil, length-append, length-take-le, take-append-drop}
use Rattle.std.proofs.lemmas.List.{take_more}
use Rattle.std.proofs.lemmas.List.Elements.{All-append}
use Rattle.std.proofs.lemmas.Option.{get_or_from_slice_get}
use Rattle.std.specs.Prelude.{Option}
use Rattle.std.specs.Io.{StartsWith}
use Rattle.std.specs.Io.KnownBytes.{Keeps, Consumes, IsAtEnd}
use Rattle.std.proofs.KnownBytes.{Consumes-trans, starts_with_rest}
use Rattle.pl_play.specs.Lines.{text_lines, longest_line, HasNoFeed, HasNoLine, TakesLine, BeginsLong, WouldBeLong, MovesBytes}
use Rattle.pl_play.proofs.Feeds.{lines_of-feed, lines_of-last, IsLong-front}

-- what was shown up to a line feed, and the line feed, are taken
pub take-feed : (shown : List ℕ) (n : ℕ) → n < length shown → slice_get shown n ≡ Some 10 → take (n + 1) shown ≡ take n shown ++ 10 ∷ []
take-feed shown n within at = take_more shown n 0 within ∙ ap (λ b. take n shown ++ b ∷ []) (get_or_from_slice_get shown n 10 0 at)

-- a front of what is shown with no line feed may be too much for the line
pub WouldBeLong-shown : (old : Option (List ℕ)) (shown line : List ℕ) (n : ℕ) → n ≤ length shown → HasNoFeed (take n shown) → longest_line < length line + n
    → IfSome old (λ text. StartsWith text shown) → WouldBeLong old line
WouldBeLong-shown None shown line n within no_feed over front = tt
WouldBeLong-shown (Some text) shown line n within no_feed over front =
    let rest = drop (length shown) text in
    let split : text ≡ take n shown ++ (drop n shown ++ rest) =
    starts_with_rest text shown front ∙ ap (λ l. l ++ rest) (sym (take-append-drop n shown)) ∙ append_assoc (take n shown) (drop n shown) rest in
    (take n shown, drop n shown ++ rest, split, no_feed, omega (arith, over, length-take-le n shown within))

-- a line, after one more piece of it
pub HasNoFeed-longer : (line longer piece : List ℕ) → longer ≡ line ++ piece → HasNoFeed line → HasNoFeed piece → HasNoFeed longer
HasNoFeed-longer line longer piece is first last = subst HasNoFeed (sym is) (All-append (λ b. b ≢ 10) line piece first last)

module _ (start old new : Option (List ℕ)) (line longer ending : List ℕ) where
  -- what was taken is the line, longer by the piece, and its end
  pub Consumes-moved : Consumes start old line → MovesBytes old new line longer ending → Consumes start new (longer ++ ending)
  Consumes-moved taken more =
      subst (Consumes start new) (sym (append_assoc line more.piece ending) ∙ ap (λ l. l ++ ending) (sym more.moved))
      (Consumes-trans start old new line (more.piece ++ ending) taken more.taken)

  -- and it has no line feed yet
  pub HasNoFeed-moved : HasNoFeed line → MovesBytes old new line longer ending → HasNoFeed longer
  HasNoFeed-moved no_feed more = HasNoFeed-longer line longer more.piece more.moved no_feed more.no_feed

-- bytes with no line feed, and a line feed, are the next line
pub TakesLine-feed : (start new : Option (List ℕ)) (line : List ℕ) → Consumes start new (line ++ 10 ∷ []) → HasNoFeed line → TakesLine start new line
TakesLine-feed None new line taken no_feed = tt
TakesLine-feed (Some text) None line taken no_feed = absurd taken
TakesLine-feed (Some text) (Some rest) line taken no_feed =
    ap text_lines (taken ∙ append_assoc line (10 ∷ []) rest) ∙ lines_of-feed line rest no_feed

-- bytes with no line feed before the end of the input are the last line
pub TakesLine-end : (start old new : Option (List ℕ)) (line : List ℕ) → Consumes start old line → IsAtEnd old → Keeps old new → HasNoFeed line → 0 < length line → TakesLine start new line
TakesLine-end None old new line taken end kept no_feed some = tt
TakesLine-end (Some text) None new line taken end kept no_feed some = absurd taken
TakesLine-end (Some text) (Some rest) None line taken end kept no_feed some = absurd kept
TakesLine-end (Some text) (Some rest) (Some same) line taken end kept no_feed some =
    ap text_lines (taken ∙ ap (λ l. line ++ l) end ∙ append-nil line) ∙ lines_of-last line no_feed some
    ∙ ap (λ l. line ∷ text_lines l) (sym (kept ∙ end))

-- nothing before the end of the input is no line
pub HasNoLine-end : (start old : Option (List ℕ)) (line : List ℕ) → Consumes start old line → IsAtEnd old → length line ≡ 0 → HasNoLine start
HasNoLine-end None old line taken end none = tt
HasNoLine-end (Some text) None line taken end none = absurd taken
HasNoLine-end (Some text) (Some rest) [] taken end none = ap text_lines (taken ∙ end)
HasNoLine-end (Some text) (Some rest) (b ∷ line) taken end none = absurd (omega arith)

-- a line that would be too long is too long
pub BeginsLong-would : (start old : Option (List ℕ)) (line : List ℕ) → Consumes start old line → HasNoFeed line → WouldBeLong old line → BeginsLong start
BeginsLong-would None old line taken no_feed would = tt
BeginsLong-would (Some text) None line taken no_feed would = absurd taken
BeginsLong-would (Some text) (Some left) line taken no_feed (piece, rest, split, more, over) =
    let whole : text ≡ (line ++ piece) ++ rest = taken ∙ ap (λ l. line ++ l) split ∙ sym (append_assoc line piece rest) in
    let long : longest_line < length (line ++ piece) = omega (arith, over, length-append line piece) in
    subst (λ t. BeginsLong (Some t)) (sym whole) (IsLong-front (line ++ piece) rest (All-append (λ b. b ≢ 10) line piece no_feed more) long)
