-- What `verify` says of a proof that a script printed.
use Rattle.std.proofs.Common.{ℕ, ◌≡◌, ◌≤◌, ◌^◌, List, length, Some, refl, sym, ap, ◌∙◌}
use Rattle.std.proofs.lemmas.Slice.Eq.{bytes_eq-Decides}
use Rattle.ssz_proof.specs.Calculation.{PairOf, calculate_root}
use Rattle.ssz_proof.specs.Multiproof.{Multiproof, known_of}
use Rattle.ssz_script.specs.declared.reply.Reply.{Reply}
use Rattle.ssz_script.specs.declared.reply.Reply.TheVariants.{Proof}
use Rattle.ssz_value.specs.Trees.{hash_tree_root}
use Rattle.ssz_machine.specs.Rules.{Effect}
use Rattle.ssz_machine.specs.Asking.{prove}
use Rattle.ssz_machine.specs.Proofs.{ProofLeadsTo}
use Rattle.ssz_machine.proofs.Proving.{printed_proofs_lead_lem}
use Rattle.ssz_tool.specs.Commands.{proof_file, verify}
use Rattle.ssz_tool.specs.Plans.{file, task_in, ◌>>=◌}
use Rattle.ssz_words.specs.declared.commands.VerifyArgs.{VerifyArgs}
use Rattle.ssz_outside.specs.Content.{Content, contents}
use Rattle.ssz_proof.specs.Judgement.{multiproof_of}
use Rattle.std.proofs.lemmas.Bool.{le-ltb}
use Rattle.ssz_tool.specs.PrintedProofs.{IsValidFor, PrintedProofsAreValid}
use Rattle.ssz_tool.specs.Runs.{job_of_line, job_of_task}
use Rattle.ssz_tool.specs.ToDo.{line_of_root, verifies}
use Rattle.ssz_tool.specs.declared.line.Line.TheVariants as line
use Rattle.ssz_tool.proofs.Verdicts.{IfOk-weaker}

same_root : (root made : List ℕ) → made ≡ root → line_of_root root made ≡ line.Valid
same_root root made same = rw ((bytes_eq-Decides made root).1 same) refl

-- a proof file that is not too long gives what its text says
verified : (held : Content) (args : VerifyArgs) (text : List ℕ) (lists : Multiproof)
    → contents held args.file ≡ text → length text ≤ 2 ^ 26 → multiproof_of text ≡ Some lists
    → task_in held (verify args) ≡ verifies args.root lists
unfolding proof_file file ◌>>=◌
verified held args text lists is short says =
    rw (is, le-ltb (2 ^ 26) (length text) short, says) refl

valid : (pair_of : PairOf) (root : List ℕ) (reply : Reply) → ProofLeadsTo pair_of root reply
    → IsValidFor pair_of root reply
valid pair_of root (Proof text) (lists, says, leads) = λ short args held same is numbers reads.
    ap (job_of_task pair_of numbers held reads) (verified held args text lists is short says)
    ∙ ap (job_of_line held reads)
    (same_root args.root (calculate_root pair_of (known_of lists) 1) (leads ∙ sym same))
valid pair_of root reply leads = absurd leads

pub printed_proofs_are_valid_lem : PrintedProofsAreValid
printed_proofs_are_valid_lem rules format versions v indices version makes some are found sound =
    let root = hash_tree_root rules.pair_of version.type version.value in
    IfOk-weaker (λ (e : Effect). ProofLeadsTo rules.pair_of root e.reply)
    (λ e. IsValidFor rules.pair_of root e.reply) (λ e. valid rules.pair_of root e.reply)
    (prove rules versions v indices)
    (printed_proofs_lead_lem rules format versions v indices version makes some are found sound)
