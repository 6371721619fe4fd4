-- What an edit of a version comes to, by the answer of its node.
use Rattle.std.specs.Prelude.{◌≡◌, ℕ, List, Result, Ok, Err, alloc_error}
use Rattle.std.specs.Borrow.{Bor}
use Rattle.std.specs.declared.alloc.AllocError.{AllocError}
use Rattle.ssz_value.specs.declared.edit_fault.EditFault.{EditFault}
use Rattle.ssz_value.specs.declared.edit_fault.EditFault.TheVariants as edit_fault
use Rattle.ssz_arena.specs.declared.node.NodeId.{NodeId}
use Rattle.ssz_machine.specs.Rules.{edit_code}
use Rattle.ssz_decisions.specs.declared.decision.Decision.{Decision}
use Rattle.ssz_decisions.specs.declared.decision.Decision.TheVariants.{Edited, Refused}

-- the version gets the node that was made; a fault is a refusal, but for want of memory
abbrev pub finished_edit : Bor (List ℕ) → Result NodeId EditFault → Result Decision AllocError
finished_edit name (Ok node) = Ok (Edited name node)
finished_edit name (Err edit_fault.Memory) = Err alloc_error
finished_edit name (Err fault) = Ok (Refused (edit_code fault))

-- so for the version of this name
abbrev pub FinishesEdit : List ℕ → Result NodeId EditFault → Result Decision AllocError → Type 0
FinishesEdit name edited result =
    (v : Bor (List ℕ)) × (v.now ≡ name) × (result ≡ finished_edit v edited)
