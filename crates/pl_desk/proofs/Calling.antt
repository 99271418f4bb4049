-- What a call says, from what its turn says, and what a meeting says.
use Rattle.std.proofs.Common.{◌≡◌, ◌≢◌, ℕ, ◌+◌, ◌<◌, ◌≤◌, List, ◌∷◌, ◌++◌, length, refl, sym, ap, subst, ◌∙◌, inl, inr}
use Rattle.std.proofs.lemmas.Bool.{cases_Bool}
use Rattle.pl_table.specs.Requests.Request.{Query}
use Rattle.pl_core.specs.declared.reply.Reply.{Reply}
use Rattle.pl_core.specs.declared.reply.Reply.TheVariants as replies
use Rattle.pl_core.specs.History.{Entry, History, entry_of}
use Rattle.pl_core.specs.Verdict.{verdict_of}
use Rattle.pl_core.specs.Answer.{makes_entry, history_after}
use Rattle.pl_core.specs.Legal.{IsLegal}
use Rattle.pl_desk.specs.Growth.{GoesOn, own_entries}
use Rattle.atomic_table.specs.Seated.{TableId}
use Rattle.pl_desk.specs.declared.rule.Stage.TheVariants.{Idle}
use Rattle.pl_desk.specs.declared.rule.View.{View}
use Rattle.pl_desk.specs.Rule.{GoesOnFrom, IsAhead, HasBoth}
use Rattle.pl_core.specs.Step.{IsStep}
use Rattle.pl_desk.specs.Steps.{at_stage, longer, meeting}
use Rattle.pl_desk.specs.Passes.{Knowledge, knowledge_of, entries_made, HadTurn, WasCalled, HasMet}
use Rattle.pl_desk.proofs.Histories.{goes_on-refl, goes_on-trans, goes_on-grown, own-with}

-- the history after a request goes on from the one before it
after-goes_on : (n k : ℕ) (request : Query) (found : History) (reply : Reply) → 1 ≤ k → k ≤ n → GoesOn n found (history_after request k found reply)
after-goes_on n k request found reply some few =
    elim (cases_Bool (makes_entry reply)) [
      | inl makes ↦ rw makes (goes_on-grown n found (entry_of request (length found.entries + 1) k (verdict_of request found)) some few)
      | inr none ↦ rw none (goes_on-refl n found)
    ]

-- and has of the pass one entry more, or none
after-own : (k : ℕ) (request : Query) (found : History) (reply : Reply) (es : List Entry) → own_entries found k ≡ es
    → own_entries (history_after request k found reply) k ≡ entries_made request k found reply ++ es
after-own k request found reply es own =
    elim (cases_Bool (makes_entry reply)) [
      | inl makes ↦
          let e : Entry = entry_of request (length found.entries + 1) k (verdict_of request found) in
          rw makes (own-with k found e refl ∙ ap (λ (xs : List Entry). e ∷ xs) own)
      | inr none ↦ rw none own
    ]

pub had_turn : (p : Knowledge) (request : Query) (reply : Reply) (found now : History) (drawn : ℕ) → 1 ≤ p.number → p.number ≤ p.terms.seats
    → IsAhead p.terms p.number p.seen found → IsStep p.number request found reply now → IsLegal now → drawn < p.terms.turns
    → HadTurn p request reply record { desk = p.desk; terms = p.terms; number = p.number; seen = now; drawn = drawn }
had_turn p request reply found now drawn some few ahead step legal less =
    let on : GoesOn p.terms.seats found now = subst (GoesOn p.terms.seats found) (sym step.grows) (after-goes_on p.terms.seats p.number request found reply some few) in
    record {
      found = found;
      ahead = ahead;
      step = step;
      sound = record { legal = legal; onward = goes_on-trans p.terms.seats p.terms.opening found now ahead.sound.onward on };
      onward = goes_on-trans p.terms.seats p.seen found now ahead.onward on;
      own = ap (λ (h : History). own_entries h p.number) step.grows ∙ after-own p.number request found reply (own_entries p.seen p.number) ahead.own;
      turns = less;
    }

pub called : (p : Knowledge) (request : Query) (reply : Reply) (found now : History) (drawn : ℕ) → 1 ≤ p.number → p.number ≤ p.terms.seats
    → p.drawn ≤ drawn → GoesOnFrom p.terms p.seen → IsAhead p.terms p.number p.seen found → IsStep p.number request found reply now → IsLegal now
    → reply ≢ replies.Spent → drawn < p.terms.turns
    → WasCalled p request reply record { desk = p.desk; terms = p.terms; number = p.number; seen = now; drawn = drawn }
called p request reply found now drawn some few more sound ahead step legal decided less = record {
  drawn = more;
  sound = sound;
  spent = λ is. absurd (decided is);
  turn = λ _. had_turn p request reply found now drawn some few ahead step legal less;
}

-- ---- a meeting

pub met : (desk desk' : TableId) (v w : View) → GoesOnFrom v.terms (longer v.seen w.seen) → HasBoth v.terms v.number w.number v.seen w.seen (longer v.seen w.seen)
    → HasMet (knowledge_of desk v) (knowledge_of desk' w) (knowledge_of desk (at_stage Idle (meeting v w)))
met desk desk' v w sound both =
    record { sound = sound; left = both.left; right = both.right; left_own = both.left_own; right_own = both.right_own; drawn = refl }
