-- What is told first of arguments is told first of a call.
use Rattle.std.proofs.Common.{◌≡◌, List, ℕ, Option, Some, None, subst}
use Rattle.std.specs.Prelude.{Ok, Err}
use Rattle.ssz_script.specs.declared.reply.Reply.{Reply}
use Rattle.ssz_script.specs.declared.statement.Statement.{Statement}
use Rattle.ssz_said.specs.declared.fault.SszFault.{SszFault}
use Rattle.ssz_said.specs.declared.status.TheConstants.{MOST_BYTES, TOO_LONG}
use Rattle.ssz_said.specs.Outcome.{AnswersFirst, CallOutcome, IsSaid, TellsFirst, at_most}
use Rattle.ssz_handles.specs.declared.session.Session.{Session}
use Rattle.ssz_handles.specs.Answering.{ArgumentsDo, DoesIn, few_in}

-- a fault that is said is the call's
said-ends : (answer : CallOutcome Reply) (why fault : SszFault) → answer ≡ Err why
    → IsSaid fault answer → fault ≡ why
said-ends answer why fault is said = subst (IsSaid fault) is said

-- arguments that say none
none-said : (few : CallOutcome (List ℕ)) (said : CallOutcome Statement) (old new : Session)
    (answer : CallOutcome Reply) (fault : SszFault) → AnswersFirst few said
    → ArgumentsDo said old new answer → IsSaid fault answer → TellsFirst few fault
none-said (Ok bytes) said old new answer fault first does ends = tt
none-said (Err why) said old new answer fault first does ends =
    said-ends answer why fault
    ((subst (λ said. ArgumentsDo said old new answer) first does).1) ends

-- too many bytes are told, and a handle that holds nothing, whether there is memory or not
pub few-first : (bytes : List ℕ) (said : CallOutcome Statement) (old new : Option Session)
    (answer : CallOutcome Reply) (fault : SszFault)
    → AnswersFirst (at_most TOO_LONG MOST_BYTES bytes) said → DoesIn said old new answer
    → IsSaid fault answer → TellsFirst (few_in bytes old) fault
few-first bytes said None new answer fault first does ends =
    said-ends answer _ fault does.1 ends
few-first bytes said (Some old) None answer fault first does ends = absurd does
few-first bytes said (Some old) (Some new) answer fault first does ends =
    none-said (at_most TOO_LONG MOST_BYTES bytes) said old new answer fault first does ends
