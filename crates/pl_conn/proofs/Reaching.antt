-- Calls that a conversation made, and calls one after the other.
use Rattle.std.proofs.Common.{ℕ, List, [], ◌∷◌, ◌++◌, Result, Ok, Err, refl, subst, inl, inr}
use Rattle.pl_table.specs.Requests.Request.{Query}
use Rattle.pl_core.specs.declared.reply.Reply.{Reply}
use Rattle.pl_wire.specs.Reading.{request_reading}
use Rattle.pl_wire.specs.declared.fault.WireFault.{WireFault}
use Rattle.pl_wire.specs.Answering.{AnswersBody, AnswersReading, Answered, Calls}
use Rattle.pl_conn.specs.Serving.{Chained, Reaches}

pub reaches_self : {P : Type 0} (calls : Calls P) (p : P) → Reaches calls p p
reaches_self calls p = ([], refl)

chained_more : {P : Type 0} (calls : Calls P) (p q r : P) (made more : List (Query × Reply)) → Chained calls p made q → Chained calls q more r → Chained calls p (made ++ more) r
chained_more calls p q r [] more first then = subst (λ x. Chained calls x more r) first then
chained_more calls p q r (one ∷ made) more first then = (first.0, first.1, chained_more calls first.0 q r made more first.2 then)

pub reaches_more : {P : Type 0} (calls : Calls P) (p q r : P) → Reaches calls p q → Reaches calls q r → Reaches calls p r
reaches_more calls p q r first then = (first.0 ++ then.0, chained_more calls p q r first.0 then.0 first.1 then.1)

by_reading : {P : Type 0} (calls : Calls P) (read : Result Query WireFault) (p now q : P) (reply : Reply) → AnswersReading calls read p reply now → Reaches calls now q → Reaches calls p q
by_reading calls (Ok request) p now q reply one more = ((request, reply) ∷ more.0, (now, one, more.1))
by_reading calls (Err fault) p now q reply none more = subst (λ x. Reaches calls x q) none.1 more

by_body : {P : Type 0} (calls : Calls P) (body : List ℕ) (p now q : P) (reply : Reply) → AnswersBody calls p body reply now → Reaches calls now q → Reaches calls p q
by_body calls body p now q reply (inl one) more = by_reading calls (request_reading body) p now q reply one more
by_body calls body p now q reply (inr none) more = subst (λ x. Reaches calls x q) none.2 more

pub by_answers : {P : Type 0} (calls : Calls P) (p q : P) (bodies : List (List ℕ)) (rs : List Reply) → Answered (AnswersBody calls) p bodies rs q → Reaches calls p q
by_answers calls p q [] [] done = ([], done)
by_answers calls p q [] (y ∷ ys) done = absurd done
by_answers calls p q (b ∷ bs) [] done = absurd done
by_answers calls p q (b ∷ bs) (y ∷ ys) done = by_body calls b p done.0 q y done.1 (by_answers calls done.0 q bs ys done.2)
