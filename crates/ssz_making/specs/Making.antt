-- What a maker is asked for: a part that it made is joined with a leaf, or pushed behind those that
-- were pushed before it, and it has room for what comes.
use Rattle.std.specs.Prelude.{ℕ, ◌+◌, ◌^◌, ◌≤◌, List, ◌∷◌, ◌++◌, length}
use Rattle.ssz_making.specs.Parts.{MadePart, whole_of}

-- a leaf is put beside a part that was made
pub record CanJoinLeaf {S O : Type 0} (room : S → ℕ → Type 0)
    (made : S → S → MadePart → O → Type 0) (now : S) (out : O) : Type 0 where
  pub start : S
  pub one : MadePart
  pub is : made start now one out
  pub space : room start (one.nodes + 2)

-- a part is pushed behind others of a full tree
pub record CanPush {S O R : Type 0} (room : S → ℕ → Type 0) (made : S → S → MadePart → O → Type 0)
    (gathered : S → S → ℕ → ℕ → List MadePart → R → Type 0) (now : S) (rows : R) (out : O)
    : Type 0 where
  pub start : S
  pub middle : S
  pub depth : ℕ
  pub before : List MadePart
  pub one : MadePart
  pub rest : List MadePart
  pub pushed : gathered start middle depth (length (before ++ one ∷ rest)) before rows
  pub is : made middle now one out
  pub few : length (before ++ one ∷ rest) ≤ 2 ^ depth
  pub space : room start (whole_of depth (before ++ one ∷ rest)).nodes

-- the full tree of the parts that were pushed is made
pub record CanFinish {S R : Type 0} (room : S → ℕ → Type 0)
    (gathered : S → S → ℕ → ℕ → List MadePart → R → Type 0) (now : S) (rows : R) : Type 0 where
  pub start : S
  pub depth : ℕ
  pub parts : List MadePart
  pub pushed : gathered start now depth (length parts) parts rows
  pub few : length parts ≤ 2 ^ depth
  pub space : room start (whole_of depth parts).nodes
