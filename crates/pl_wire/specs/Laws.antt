-- What ties requests, replies and frames to bytes.
use Rattle.std.specs.Prelude.{◌≡◌, ℕ, ◌^◌, ◌<◌, List, ◌++◌, length, Ok, All}
use Rattle.pl_block.specs.Laws.{AreBytes}
use Rattle.pl_table.specs.Requests.Request.{Query, IsRequest}
use Rattle.pl_core.specs.declared.reply.Reply.{Reply}
use Rattle.pl_wire.specs.Frames.{IsShort, frame, frames_of}
use Rattle.pl_wire.specs.Spelling.{request_spelling}
use Rattle.pl_wire.specs.Reading.{request_reading}
use Rattle.pl_wire.specs.Replies.{IsReply, reply_spelling}
use Rattle.pl_wire.specs.ReplyReading.{reply_reading}

-- a request is read back from its spelling
abbrev pub RequestsAreReadBack : Type 0
RequestsAreReadBack = (q : Query) → IsRequest q → request_reading (request_spelling q) ≡ Ok q

-- a reply is read back from its spelling
abbrev pub RepliesAreReadBack : Type 0
RepliesAreReadBack = (r : Reply) → IsReply r → reply_reading (reply_spelling r) ≡ Ok r

-- what is read as a request is its spelling, and no two requests have one spelling
pub record OneRequestSpelling : Type 0 where
  pub spelled : (bytes : List ℕ) (q : Query) → AreBytes bytes → request_reading bytes ≡ Ok q → IsRequest q × (bytes ≡ request_spelling q)
  pub same : (a b : Query) → IsRequest a → IsRequest b → request_spelling a ≡ request_spelling b → a ≡ b

-- what is read as a reply is its spelling, and no two replies have one spelling
pub record OneReplySpelling : Type 0 where
  pub spelled : (bytes : List ℕ) (r : Reply) → AreBytes bytes → reply_reading bytes ≡ Ok r → IsReply r × (bytes ≡ reply_spelling r)
  pub same : (a b : Reply) → IsReply a → IsReply b → reply_spelling a ≡ reply_spelling b → a ≡ b

-- no frame is the beginning of another: if bytes begin with a frame, they begin with no other
abbrev pub FramesEndThemselves : Type 0
FramesEndThemselves = (a b x y : List ℕ) → length a < 2 ^ 32 → length b < 2 ^ 32 → frame a ++ x ≡ frame b ++ y → (a ≡ b) × (x ≡ y)

-- frames in a row are distinguished: if bytes begin with the frames of this many bodies, they begin with those of no others
abbrev pub FramesOfOneInput : Type 0
FramesOfOneInput = (a b : List (List ℕ)) (x y : List ℕ) → All IsShort a → All IsShort b → length a ≡ length b → frames_of a ++ x ≡ frames_of b ++ y → (a ≡ b) × (x ≡ y)
