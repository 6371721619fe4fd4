-- The literals of statements.
use Rattle.std.specs.Prelude.{◌<◌, ◌^◌, ℕ, List, length, Option, Some, None, IfSome}
use Rattle.ssz_script.specs.declared.statement.Statement.{Statement}
use Rattle.ssz_script.specs.declared.statement.Statement.TheVariants.{Lit, Set, Append, Choose}

-- the literal of a statement that has one
abbrev pub literal_of : Statement → Option (List ℕ)
literal_of (Lit v t literal) = Some literal
literal_of (Set v path literal) = Some literal
literal_of (Append v path literal) = Some literal
literal_of (Choose v path selector literal) = literal
literal_of _ = None

-- it has fewer than 2 ^ 32 bytes
abbrev pub HasShortLiteral : Statement → Type 0
HasShortLiteral statement = IfSome (literal_of statement) (λ literal. length literal < 2 ^ 32)
