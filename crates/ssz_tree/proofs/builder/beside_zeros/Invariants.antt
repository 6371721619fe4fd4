use Rattle.std.proofs.Common.{◌-◌, ◌^◌, ◌<◌, ◌≤◌, List, length}
use Rattle.ssz_arena.specs.Content.{IsNodeOf}
use Rattle.ssz_making.specs.Parts.{MadePart, whole_of}
use Rattle.ssz_tree.specs.Added.{AddsNodes, IsPartNode}
use Rattle.ssz_tree.proofs.builder.beside_zeros.Given as goal

abbrev pub invariant-loop-level : goal.invariant-loop-level
invariant-loop-level g l = record {
  inside : IsNodeOf l.arena l.node;
  adds : AddsNodes (l.level - l.from) (l.level - l.from) l.initial.arena l.arena;
  part : (parts : List MadePart) → 0 < length parts → length parts ≤ 2 ^ l.from
      → IsPartNode l.initial.arena (whole_of l.from parts) l.initial.node
      → IsPartNode l.arena (whole_of l.level parts) l.node;
}
