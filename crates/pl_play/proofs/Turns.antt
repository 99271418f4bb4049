-- One line more is answered, or a fault ends it.
use Rattle.std.proofs.Common.{◌≡◌, ◌≢◌, inl, inr, arith, ℕ, ◌+◌, ◌<◌, ◌≤◌, lit<, replicate, List, [], ◌∷◌, ◌++◌, None, Some, Ok, length, take, refl, sym, ap, subst, ◌∙◌, append_assoc, append-nil, length-append, map}
use Rattle.std.specs.List.{AllByRecursion, flat_map}
use Rattle.std.proofs.lemmas.List.{length-replicate}
use Rattle.std.proofs.lemmas.Grind.{flat_map-append}
use Rattle.std.specs.Prelude.{Option, ⊤, Result, Err, IfErr}
use Rattle.std.specs.Io.KnownBytes.{Appends}
use Rattle.std.proofs.KnownBytes.{Appends-nil, Appends-trans, Keeps-refl}
use Rattle.pl_play.specs.Lines.{text_lines, longest_line, TakesLine, BeginsLong, IsLong, OnFirst, input_fault_at}
use Rattle.pl_play.specs.declared.lines.InputFault.{InputFault}
use Rattle.pl_play.specs.declared.lines.InputFault.TheVariants as inputs
use Rattle.pl_play.specs.Played.{AnswersLine, HasLines, Moment, moment, AnswersFirst, LeavesBoth, WritesAnswer, StopsAt, Stops, PlaysLine, WritesReply, reply_line}
use Rattle.pl_core.specs.declared.reply.Reply.{Reply}
use Rattle.pl_core.specs.declared.reply.Reply.TheVariants as replies
use Rattle.pl_wire.specs.Answering.{Answered, Answers, AnswersAsRead, Calls}
use Rattle.pl_play.specs.declared.fault.PlayFault.{PlayFault}
use Rattle.pl_play.specs.declared.fault.PlayFault.TheVariants as faults
use Rattle.hex.specs.Hex.{decode_of, encode_with}

-- the lines of what was known are these, and then those of what is left
abbrev pub LeavesLines : Option (List ℕ) → Option (List ℕ) → List (List ℕ) → Type 0
LeavesLines None left lines = ⊤
LeavesLines (Some text) None lines = ⊥
LeavesLines (Some text) (Some rest) lines = text_lines text ≡ lines ++ text_lines rest

-- the lines of what is left, if that is known
abbrev pub known_lines : Option (List ℕ) → List (List ℕ)
known_lines None = []
known_lines (Some text) = text_lines text

-- this many lines are answered, and the reader has the others
pub record Going {S : Type 0} (calls : Calls S) (input left : Option (List ℕ)) (count : ℕ) (before now : Moment S) : Type 0 where
  pub answered : List (List ℕ)
  pub bodies : List (List ℕ)
  pub replies : List Reply
  pub lines : LeavesLines input left answered
  pub counted : length answered ≡ count
  pub fit : AllByRecursion (λ line. length line ≤ longest_line) answered
  pub read : map decode_of answered ≡ map Ok bodies
  pub chain : Answered (AnswersAsRead calls) before.state bodies replies now.state
  pub written : Appends before.output now.output (flat_map reply_line replies)

-- bodies are answered, and then one more
pub Answered-more : {S : Type 0} (answers : Answers S) (before now after : S) (bodies : List (List ℕ)) (replies : List Reply) (body : List ℕ) (reply : Reply)
    → Answered answers before bodies replies now → answers now body reply after → Answered answers before (bodies ++ body ∷ []) (replies ++ reply ∷ []) after
Answered-more answers before now after [] [] body reply chain more = (after, subst (λ s. answers s body reply after) chain more, refl)
Answered-more answers before now after [] (r ∷ rs) body reply chain more = absurd chain
Answered-more answers before now after (b ∷ bs) [] body reply chain more = absurd chain
Answered-more answers before now after (b ∷ bs) (r ∷ rs) body reply (next, first, rest) more =
    (next, first, Answered-more answers next now after bs rs body reply rest more)

-- all of a list, and one more
all_more : {X : Type 0} (Q : X → Type 0) (xs : List X) (x : X) → AllByRecursion Q xs → Q x → AllByRecursion Q (xs ++ x ∷ [])
all_more Q [] x all one = (one, tt)
all_more Q (y ∷ ys) x all one = (all.0, all_more Q ys x all.1 one)

-- what is made of a list, and of one more
map_more : {X A : Type 0} (f : X → A) (xs : List X) (x : X) → map f (xs ++ x ∷ []) ≡ map f xs ++ f x ∷ []
map_more f [] x = refl
map_more f (y ∷ ys) x = ap (λ l. f y ∷ l) (map_more f ys x)

joined : (replies : List Reply) (reply : Reply) → flat_map reply_line replies ++ reply_line reply ≡ flat_map reply_line (replies ++ reply ∷ [])
joined replies reply = sym (flat_map-append reply_line replies (reply ∷ []) ∙ ap (λ l. flat_map reply_line replies ++ l) (append-nil (reply_line reply)))

-- nothing happens
pub LeavesBoth-refl : {S : Type 0} (at : Moment S) → LeavesBoth at at
LeavesBoth-refl at = record { output = Keeps-refl at.output; state = refl }

-- nothing is taken yet
pub LeavesLines-start : (input : Option (List ℕ)) → LeavesLines input input []
LeavesLines-start None = tt
LeavesLines-start (Some text) = refl

-- one line more is taken
pub LeavesLines-more : (input left new : Option (List ℕ)) (lines : List (List ℕ)) (line : List ℕ) → LeavesLines input left lines → TakesLine left new line → LeavesLines input new (lines ++ line ∷ [])
LeavesLines-more None left new lines line rest takes = tt
LeavesLines-more (Some text) None new lines line rest takes = absurd rest
LeavesLines-more (Some text) (Some xs) None lines line rest takes = absurd takes
LeavesLines-more (Some text) (Some xs) (Some ys) lines line rest takes =
    rest ∙ ap (λ l. lines ++ l) takes ∙ sym (append_assoc lines (line ∷ []) (text_lines ys))

-- what is left has the other lines
pub HasLines-left : (input left : Option (List ℕ)) (lines : List (List ℕ)) → LeavesLines input left lines → HasLines input (lines ++ known_lines left)
HasLines-left None left lines rest = tt
HasLines-left (Some text) None lines rest = absurd rest
HasLines-left (Some text) (Some xs) lines rest = rest

-- a line is taken, and what is left has the others
pub HasLines-taken : (input left new : Option (List ℕ)) (lines : List (List ℕ)) (line : List ℕ) → LeavesLines input left lines → TakesLine left new line → HasLines input (lines ++ line ∷ known_lines new)
HasLines-taken None left new lines line rest takes = tt
HasLines-taken (Some text) None new lines line rest takes = absurd rest
HasLines-taken (Some text) (Some xs) None lines line rest takes = absurd takes
HasLines-taken (Some text) (Some xs) (Some ys) lines line rest takes = rest ∙ ap (λ l. lines ++ l) takes

-- what is left begins with a line that is too long
record LeavesLong (input : Option (List ℕ)) (lines : List (List ℕ)) : Type 0 where
  others : List (List ℕ)
  has : HasLines input (lines ++ others)
  long : OnFirst others IsLong

LeavesLong-left : (input left : Option (List ℕ)) (lines : List (List ℕ)) → LeavesLines input left lines → BeginsLong left
    → LeavesLong input lines
LeavesLong-left None left lines rest long =
    let over : IsLong (replicate 131073 0) = subst (λ n. longest_line < n) (sym (length-replicate {A = ℕ} 131073 0)) (lit< tt) in
    record { others = replicate 131073 0 ∷ []; has = tt; long = over }
LeavesLong-left (Some text) None lines rest long = absurd rest
LeavesLong-left (Some text) (Some xs) lines rest long = record { others = text_lines xs; has = rest; long = long }

module _ {S : Type 0} (calls : Calls S) (input left : Option (List ℕ)) (count : ℕ) (before now : Moment S)
    (going : Going calls input left count before now) where
  -- the lines that are answered, before these others
  first_of : (unanswered : List (List ℕ)) → HasLines input (going.answered ++ unanswered)
      → AnswersFirst calls input count unanswered before now
  first_of unanswered lines = record {
    answered = going.answered;
    bodies = going.bodies;
    replies = going.replies;
    lines = lines;
    counted = going.counted;
    fit = going.fit;
    read = going.read;
    chain = going.chain;
    written = going.written;
  }

  -- one line more is taken and answered
  pub going_more : (new : Option (List ℕ)) (after : Moment S) (line : List ℕ) → TakesLine left new line
      → WritesAnswer calls line now after → Going calls input new (count + 1) before after
  going_more new after line takes more = record {
    answered = going.answered ++ line ∷ [];
    bodies = going.bodies ++ more.answers.body ∷ [];
    replies = going.replies ++ more.reply ∷ [];
    lines = LeavesLines-more input left new going.answered line going.lines takes;
    counted = length-append going.answered (line ∷ []) ∙ ap (λ n. n + 1) going.counted;
    fit = all_more _ going.answered line going.fit more.answers.fits;
    read = map_more decode_of going.answered line ∙ ap (λ l. l ++ decode_of line ∷ []) going.read
        ∙ ap (λ r. map Ok going.bodies ++ r ∷ []) more.answers.reads ∙ sym (map_more Ok going.bodies more.answers.body);
    chain = Answered-more (AnswersAsRead calls) before.state now.state after.state going.bodies going.replies more.answers.body more.reply going.chain more.answers.answers;
    written = subst (Appends before.output after.output) (joined going.replies more.reply)
        (Appends-trans before.output now.output after.output (flat_map reply_line going.replies) (reply_line more.reply) going.written more.written);
  }

  -- a fault before the next line is taken
  pub stops_before : (after : Moment S) (fault : PlayFault) → StopsAt calls (count + 1) (known_lines left) now after fault
      → Stops calls input before after fault
  stops_before after fault stop = record {
    count = count;
    unanswered = known_lines left;
    now = now;
    first = first_of (known_lines left) (HasLines-left input left going.answered going.lines);
    stop = stop;
  }

  -- a fault at the next line
  pub stops_at : (new : Option (List ℕ)) (after : Moment S) (line : List ℕ) (fault : PlayFault) → TakesLine left new line
      → StopsAt calls (count + 1) (line ∷ known_lines new) now after fault → Stops calls input before after fault
  stops_at new after line fault takes stop = record {
    count = count;
    unanswered = line ∷ known_lines new;
    now = now;
    first = first_of (line ∷ known_lines new) (HasLines-taken input left new going.answered line going.lines takes);
    stop = stop;
  }

  -- the next line is too long
  stops_long : BeginsLong left → Stops calls input before now (faults.Long (count + 1))
  stops_long long =
      let more = LeavesLong-left input left going.answered going.lines long in
      record {
        count = count;
        unanswered = more.others;
        now = now;
        first = first_of more.others more.has;
        stop = (refl, more.long, LeavesBoth-refl now);
      }

  -- the next line is not taken
  pub stops_input : (fault : InputFault) → (fault ≡ inputs.Long → BeginsLong left) → Stops calls input before now (input_fault_at fault (count + 1))
  stops_input inputs.Read long = stops_before now faults.Read (LeavesBoth-refl now)
  stops_input inputs.NoMemory long = stops_before now faults.NoMemory (inl (LeavesBoth-refl now))
  stops_input inputs.Long long = stops_long (long refl)

-- the line is answered by the reply to its body
abbrev answers_line : {S : Type 0} (calls : Calls S) (line body : List ℕ) (reply : Reply) (before after : S) → length line ≤ longest_line
    → decode_of line ≡ Ok body → AnswersAsRead calls before body reply after → AnswersLine calls before line reply after
answers_line calls line body reply before after fits reads answers = record {
  body = body;
  fits = fits;
  reads = reads;
  answers = answers;
}

-- what comes of the reply to a line's body comes of the line
pub plays_line : {S : Type 0} (calls : Calls S) (number : ℕ) (line body : List ℕ) (reply : Reply) (old new : Option (List ℕ)) (before after : S)
    (result : Result (Unit {0}) PlayFault) → length line ≤ longest_line → decode_of line ≡ Ok body → AnswersAsRead calls before body reply after
    → WritesReply reply old new result → PlaysLine calls number line (moment old before) (moment new after) result
plays_line calls number line body reply old new before after (Ok u) fits reads answers written = record {
  reply = reply;
  answers = answers_line calls line body reply before after fits reads answers;
  written = written;
}
plays_line calls number line body reply old new before after (Err faults.Write) fits reads answers (count, partly, written) = λ others. record {
  reply = reply;
  count = count;
  answers = answers_line calls line body reply before after fits reads answers;
  partly = partly;
  written = written;
}
plays_line calls number line body reply old new before after (Err faults.NoMemory) fits reads answers (other, output) = λ others. inr (record {
  reply = reply;
  answers = answers_line calls line body reply before after fits reads answers;
  other = other;
  output = output;
})
plays_line calls number line body reply old new before after (Err faults.Read) fits reads answers none = absurd none
plays_line calls number line body reply old new before after (Err (faults.Text n)) fits reads answers none = absurd none
plays_line calls number line body reply old new before after (Err (faults.Long n)) fits reads answers none = absurd none

-- the writing of a reply never ends in a failed read
pub writes_no_read : (reply : Reply) (old new : Option (List ℕ)) (result : Result (Unit {0}) PlayFault) → WritesReply reply old new result
    → IfErr result (λ fault. fault ≢ faults.Read)
writes_no_read reply old new (Ok u) written = tt
writes_no_read reply old new (Err faults.Write) written = λ same. cc
writes_no_read reply old new (Err faults.NoMemory) written = λ same. cc
writes_no_read reply old new (Err faults.Read) none = absurd none
writes_no_read reply old new (Err (faults.Text n)) none = absurd none
writes_no_read reply old new (Err (faults.Long n)) none = absurd none

-- memory runs out before the line has its calls
pub refused_before : {S : Type 0} (calls : Calls S) (number : ℕ) (line : List ℕ) (at : Moment S) → PlaysLine calls number line at at (Err faults.NoMemory)
refused_before calls number line at = λ others. inl (LeavesBoth-refl at)

-- no line is answered yet
pub going_start : {S : Type 0} (calls : Calls S) (input : Option (List ℕ)) (before : Moment S) → Going calls input input 0 before before
going_start calls input before = record {
  answered = [];
  bodies = [];
  replies = [];
  lines = LeavesLines-start input;
  counted = refl;
  fit = tt;
  read = refl;
  chain = refl;
  written = Appends-nil before.output;
}

-- the line of the reply that memory ran out
pub no_memory_line : (r : Reply) → r ≡ replies.NoMemory → 48 ∷ 54 ∷ 10 ∷ [] ≡ reply_line r
unfolding encode_with
no_memory_line r is = ap reply_line (sym is)

-- the line of a reply is written
pub tells_whole : (reply : Reply) (line : List ℕ) (old new : Option (List ℕ)) → line ≡ reply_line reply → Appends old new line
    → WritesReply reply old new (Ok tt)
tells_whole reply line old new is written = subst (λ (l : List ℕ). Appends old new l) is written

-- a beginning of the line of a reply is written
pub tells_part : (reply : Reply) (line : List ℕ) (old new : Option (List ℕ)) → line ≡ reply_line reply
    → ((k : ℕ) × (k < length line) × Appends old new (take k line)) → WritesReply reply old new (Err faults.Write)
tells_part reply line old new is part = subst (λ (l : List ℕ). (k : ℕ) × (k < length l) × Appends old new (take k l)) is part
